-- Every row of Table 6 under one name, for the proofs that compute over the whole table. Assumes nothing.
use Rattle.table6.specs.Table6 as paper

-- To unfold this is to unfold every row.
unfoldable pub every_row : Type 0
unfolding
    paper.AAL-MESSAGE-FOR-TRANSMISSION-request paper.AAL-EMERGENCY-request paper.AAL-EMERGENCY-CEASES-request paper.AAL-STOP-request
    paper.AAL-START-request paper.AAL-RETRIEVE-BSNT-request paper.AAL-RETRIEVAL-REQUEST-AND-FSNC-request paper.AAL-FLUSH-BUFFERS-request
    paper.AAL-CONTINUE-request
    paper.AA-ESTABLISH-indication-with-EM-NM paper.AA-ESTABLISH-indication-with-others paper.AA-ESTABLISH-confirm-with-EM-NM
    paper.AA-ESTABLISH-confirm-with-others paper.AA-RELEASE-indication-from-User paper.AA-RELEASE-indication-from-SSCOP paper.AA-RELEASE-confirm
    paper.AA-DATA-indication-with-INS paper.AA-DATA-indication-with-NM paper.AA-DATA-indication-with-other paper.AA-DATA-indication-with-MU>4
    paper.AA-RESYNC-indication paper.AA-RECOVER-indication paper.AA-UNITDATA-indication paper.AA-RETRIEVE-indication
    paper.AA-RETRIEVE-COMPLETE-indication
    paper.MAAL-PROVING-UNSUCCESSFUL-response paper.MAAL-RELEASE-request paper.MAAL-LOCAL-PROCESSOR-OUTAGE-request
    paper.MAAL-LOCAL-PROCESSOR-RECOVERED-request paper.MAAL-FORCE-PROVING-request paper.MAAL-FORCE-EMERGENCY-request
    paper.MAAL-CLEAR-FORCE-MODES-request
    paper.Local-Congestion paper.Local-Congestion-Ceased paper.T1-expires paper.T2-expires paper.T3-expires-and-C1>0 paper.T3-expires-and-C1=0
every_row = Unit {0}
