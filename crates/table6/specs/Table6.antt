-- Table 6 of Q.2140 as the paper prints it: a row an event, a cell a state, in each cell the actions in order and then the next state.
-- The columns of the table's second half stand beside those of its first. Some cells are not as printed: damaged places, those that the paper leaves to the
-- implementation (D13), FLUSH_BUFFERS and CONTINUE (D8). docs/DECISIONS.md has the readings.
use Rattle.table6.specs.Words.{–, OOS, PO, INS, NM, ANS, MI, PE, PNS, LR, RR, SR, ALN, CC, CD, SREC, UDR, PDUT, SSCOP-UU, Parameter-Data}
use Rattle.table6.specs.Words.{1/1/1, 1/4/1, 2/1/2, 2/2/2, 2/4/2, 3/10/5, 2/10/3, 2/10/4}
use Rattle.table6.specs.Cell.{Row, Illegal, to, ◌⨟◌, ◌⨾◌, IF◌THEN◌ELSE◌, LPO=0, LPO=0&INS=0, LPO=0&INS=1, BSNT-available, MU>4}
use Rattle.table6.specs.Cell.{AAL-RECEIVED-MESSAGE-indication, AAL-RETRIEVED-MESSAGES-indication, AAL-RETRIEVAL-COMPLETE-indication}
use Rattle.table6.specs.Cell.{AAL-LINK-CONGESTED-indication, AAL-LINK-CONGESTION-CEASED-indication}
use Rattle.table6.specs.Cell.{AAL-IN-SERVICE-indication, AAL-OUT-OF-SERVICE-indication}
use Rattle.table6.specs.Cell.{AAL-BSNT-confirm, AAL-BSNT-NOT-RETRIEVABLE-confirm}
use Rattle.table6.specs.Cell.{AA-ESTABLISH-request, AA-ESTABLISH-response, AA-RELEASE-request, AA-DATA-request, AA-RECOVER-response, AA-RETRIEVE-request}
use Rattle.table6.specs.Cell.{MAAL-PROVING-indication, MAAL-STOP-PROVING-indication, MAAL-REPORT-indication}
use Rattle.table6.specs.Cell.{Set, Reset, T1, T2, T3}
use Rattle.table6.specs.Cell.{Set-UPS=NM, Set-UPS=EM, Set-MPS=N, Set-MPS=NM, Set-MPS=EM, Set-LPO=0, Set-LPO=1}
use Rattle.table6.specs.Cell.{Set-INS-flag, Reset-INS-flag, Generate-N1, Set-C1=N1, Decrement-C1}

-- AAL-START-request
unfoldable pub AAL-START-request : Row
AAL-START-request = record {
  1/1/1 = AA-ESTABLISH-request ⨟ MAAL-REPORT-indication – ALN – ⨟ Set T2 ⨟ to 2/2/2;
  1/4/1 = AA-ESTABLISH-request ⨟ MAAL-REPORT-indication – ALN – ⨟ Set T2 ⨟ to 2/2/2;
  2/1/2 = Illegal;
  2/2/2 = Illegal;
  2/4/2 = Illegal;
  3/10/5 = Illegal;
  2/10/3 = Illegal;
  2/10/4 = Illegal;
}

-- AAL-STOP-request
unfoldable pub AAL-STOP-request : Row
AAL-STOP-request = record {
  1/1/1 = Illegal;
  1/4/1 = Illegal;
  2/1/2 = Reset T1 ⨟ Reset T2 ⨟ Set-UPS=NM ⨾ MAAL-REPORT-indication – OOS – ⨟ to 1/1/1;
  2/2/2 = AA-RELEASE-request OOS ⨟ Reset T2 ⨟ Set-UPS=NM ⨾ MAAL-REPORT-indication – OOS – ⨟ to 1/4/1;
  2/4/2 = MAAL-REPORT-indication – OOS – ⨟ Reset T2 ⨟ Set-UPS=NM ⨾ to 1/4/1;
  3/10/5 = AA-RELEASE-request OOS ⨟ MAAL-REPORT-indication LR OOS – ⨟ Set-UPS=NM ⨾ to 1/4/1;
  2/10/3 = AA-RELEASE-request OOS ⨟ MAAL-REPORT-indication LR OOS – ⨟ MAAL-STOP-PROVING-indication ⨟ Reset T2 ⨟ Reset T3 ⨟ Set-UPS=NM ⨾ to 1/4/1;
  2/10/4 = AA-RELEASE-request OOS ⨟ MAAL-REPORT-indication LR OOS – ⨟ Reset T2 ⨟ Set-UPS=NM ⨾ to 1/4/1;
}

-- AAL-EMERGENCY-request
unfoldable pub AAL-EMERGENCY-request : Row
AAL-EMERGENCY-request = record {
  1/1/1 = Set-UPS=EM ⨾ to 1/1/1;
  1/4/1 = Set-UPS=EM ⨾ to 1/4/1;
  2/1/2 = Set-UPS=EM ⨾ to 2/1/2;
  2/2/2 = Set-UPS=EM ⨾ to 2/2/2;
  2/4/2 = Set-UPS=EM ⨾ to 2/4/2;
  3/10/5 = Illegal;
  2/10/3 = Set-UPS=EM ⨾ to 2/10/3;
  2/10/4 = Set-UPS=EM ⨾ to 2/10/4;
}

-- AAL-EMERGENCY_CEASES-request
unfoldable pub AAL-EMERGENCY-CEASES-request : Row
AAL-EMERGENCY-CEASES-request = record {
  1/1/1 = Set-UPS=NM ⨾ to 1/1/1;
  1/4/1 = Set-UPS=NM ⨾ to 1/4/1;
  2/1/2 = Set-UPS=NM ⨾ to 2/1/2;
  2/2/2 = Set-UPS=NM ⨾ to 2/2/2;
  2/4/2 = Set-UPS=NM ⨾ to 2/4/2;
  3/10/5 = Illegal;
  2/10/3 = Set-UPS=NM ⨾ to 2/10/3;
  2/10/4 = Set-UPS=NM ⨾ to 2/10/4;
}

-- AAL-MESSAGE_FOR_TRANSMISSION-request
unfoldable pub AAL-MESSAGE-FOR-TRANSMISSION-request : Row
AAL-MESSAGE-FOR-TRANSMISSION-request = record {
  1/1/1 = Illegal;
  1/4/1 = Illegal;
  2/1/2 = Illegal;
  2/2/2 = Illegal;
  2/4/2 = Illegal;
  3/10/5 = AA-DATA-request Parameter-Data ⨟ MAAL-REPORT-indication – – PDUT ⨟ to 3/10/5;
  2/10/3 = Illegal;
  2/10/4 = Illegal;
}

-- AAL-RETRIEVE_BSNT-request
unfoldable pub AAL-RETRIEVE-BSNT-request : Row
AAL-RETRIEVE-BSNT-request = record {
  1/1/1 =
      IF BSNT-available THEN AAL-BSNT-confirm ⨟ to 1/1/1
      ELSE AAL-BSNT-NOT-RETRIEVABLE-confirm ⨟ to 1/1/1;
  1/4/1 =
      IF BSNT-available THEN AAL-BSNT-confirm ⨟ to 1/4/1
      ELSE AAL-BSNT-NOT-RETRIEVABLE-confirm ⨟ to 1/4/1;
  2/1/2 = Illegal;
  2/2/2 = Illegal;
  2/4/2 = Illegal;
  3/10/5 = Illegal;
  2/10/3 = Illegal;
  2/10/4 = Illegal;
}

-- AAL-RETRIEVAL_REQUEST_AND_FSNC-request
unfoldable pub AAL-RETRIEVAL-REQUEST-AND-FSNC-request : Row
AAL-RETRIEVAL-REQUEST-AND-FSNC-request = record {
  1/1/1 = AA-RETRIEVE-request ⨟ to 1/1/1;
  1/4/1 = AA-RETRIEVE-request ⨟ to 1/4/1;
  2/1/2 = Illegal;
  2/2/2 = Illegal;
  2/4/2 = Illegal;
  3/10/5 = Illegal;
  2/10/3 = Illegal;
  2/10/4 = Illegal;
}

-- AAL-FLUSH_BUFFERS-request
unfoldable pub AAL-FLUSH-BUFFERS-request : Row
AAL-FLUSH-BUFFERS-request = record {
  1/1/1 = to 1/1/1;
  1/4/1 = to 1/4/1;
  2/1/2 = to 2/1/2;
  2/2/2 = to 2/2/2;
  2/4/2 = to 2/4/2;
  3/10/5 = to 3/10/5;
  2/10/3 = to 2/10/3;
  2/10/4 = to 2/10/4;
}

-- AAL-CONTINUE-request
unfoldable pub AAL-CONTINUE-request : Row
AAL-CONTINUE-request = record {
  1/1/1 = to 1/1/1;
  1/4/1 = to 1/4/1;
  2/1/2 = to 2/1/2;
  2/2/2 = to 2/2/2;
  2/4/2 = to 2/4/2;
  3/10/5 = to 3/10/5;
  2/10/3 = to 2/10/3;
  2/10/4 = to 2/10/4;
}

-- AA-ESTABLISH-indication with SSCOP-UU = EM, NM
unfoldable pub AA-ESTABLISH-indication-with-EM-NM : Row
AA-ESTABLISH-indication-with-EM-NM = record {
  1/1/1 =
      IF LPO=0 THEN AA-RELEASE-request OOS ⨟ to 1/1/1
      ELSE AA-RELEASE-request PO ⨟ to 1/1/1;
  1/4/1 = Illegal;
  2/1/2 = AA-ESTABLISH-response ⨟ MAAL-PROVING-indication ⨟ Reset T1 ⨟ Generate-N1 ⨾ Set-C1=N1 ⨾ Set T3 ⨟ Reset-INS-flag ⨾ to 2/10/3;
  2/2/2 = Illegal;
  2/4/2 = Illegal;
  3/10/5 = Illegal;
  2/10/3 = Illegal;
  2/10/4 = Illegal;
}

-- AA-ESTABLISH-indication with SSCOP-UU = others
unfoldable pub AA-ESTABLISH-indication-with-others : Row
AA-ESTABLISH-indication-with-others = record {
  1/1/1 =
      IF LPO=0 THEN AA-RELEASE-request OOS ⨟ to 1/1/1
      ELSE AA-RELEASE-request PO ⨟ to 1/1/1;
  1/4/1 = Illegal;
  2/1/2 = AA-RELEASE-request PE ⨟ MAAL-REPORT-indication LR – PE ⨟ to 2/1/2;
  2/2/2 = Illegal;
  2/4/2 = Illegal;
  3/10/5 = Illegal;
  2/10/3 = Illegal;
  2/10/4 = Illegal;
}

-- AA-ESTABLISH-confirm with SSCOP-UU = EM, NM
unfoldable pub AA-ESTABLISH-confirm-with-EM-NM : Row
AA-ESTABLISH-confirm-with-EM-NM = record {
  1/1/1 = Illegal;
  1/4/1 = Illegal;
  2/1/2 = Illegal;
  2/2/2 = MAAL-PROVING-indication ⨟ Generate-N1 ⨾ Set-C1=N1 ⨾ Set T3 ⨟ Reset-INS-flag ⨾ to 2/10/3;
  2/4/2 = Illegal;
  3/10/5 = Illegal;
  2/10/3 = Illegal;
  2/10/4 = Illegal;
}

-- AA-ESTABLISH-confirm with SSCOP-UU = others
unfoldable pub AA-ESTABLISH-confirm-with-others : Row
AA-ESTABLISH-confirm-with-others = record {
  1/1/1 = Illegal;
  1/4/1 = Illegal;
  2/1/2 = Illegal;
  2/2/2 = AA-RELEASE-request PE ⨟ MAAL-REPORT-indication LR – PE ⨟ to 2/4/2;
  2/4/2 = Illegal;
  3/10/5 = Illegal;
  2/10/3 = Illegal;
  2/10/4 = Illegal;
}

-- AA-RELEASE-indication with Source = User
unfoldable pub AA-RELEASE-indication-from-User : Row
AA-RELEASE-indication-from-User = record {
  1/1/1 = Illegal;
  1/4/1 = Illegal;
  2/1/2 = Illegal;
  2/2/2 = MAAL-REPORT-indication RR – SSCOP-UU ⨟ Set T1 ⨟ to 2/1/2;
  2/4/2 = Illegal;
  3/10/5 = AAL-OUT-OF-SERVICE-indication ⨟ MAAL-REPORT-indication RR – SSCOP-UU ⨟ Set-UPS=NM ⨾ to 1/1/1;
  2/10/3 = MAAL-REPORT-indication RR – SSCOP-UU ⨟ MAAL-STOP-PROVING-indication ⨟ Set T1 ⨟ Reset T3 ⨟ to 2/1/2;
  2/10/4 = MAAL-REPORT-indication RR – SSCOP-UU ⨟ Set T1 ⨟ to 2/1/2;
}

-- AA-RELEASE-indication with Source = SSCOP
unfoldable pub AA-RELEASE-indication-from-SSCOP : Row
AA-RELEASE-indication-from-SSCOP = record {
  1/1/1 = Illegal;
  1/4/1 = Illegal;
  2/1/2 = Illegal;
  2/2/2 = MAAL-REPORT-indication SR – – ⨟ Set T1 ⨟ to 2/1/2;
  2/4/2 = Illegal;
  3/10/5 = AAL-OUT-OF-SERVICE-indication ⨟ MAAL-REPORT-indication SR OOS – ⨟ Set-UPS=NM ⨾ to 1/1/1;
  2/10/3 = MAAL-REPORT-indication SR – – ⨟ MAAL-STOP-PROVING-indication ⨟ Set T1 ⨟ Reset T3 ⨟ to 2/1/2;
  2/10/4 = MAAL-REPORT-indication SR – – ⨟ Set T1 ⨟ to 2/1/2;
}

-- AA-RELEASE-confirm
unfoldable pub AA-RELEASE-confirm : Row
AA-RELEASE-confirm = record {
  1/1/1 = Illegal;
  1/4/1 = to 1/1/1;
  2/1/2 = Illegal;
  2/2/2 = Illegal;
  2/4/2 = Set T1 ⨟ to 2/1/2;
  3/10/5 = Illegal;
  2/10/3 = Illegal;
  2/10/4 = Illegal;
}

-- AA-DATA-indication with MU > 4 octets
unfoldable pub AA-DATA-indication-with-MU>4 : Row
AA-DATA-indication-with-MU>4 = record {
  1/1/1 = Illegal;
  1/4/1 = Illegal;
  2/1/2 = Illegal;
  2/2/2 = Illegal;
  2/4/2 = Illegal;
  3/10/5 = AAL-RECEIVED-MESSAGE-indication ⨟ to 3/10/5;
  2/10/3 = MAAL-REPORT-indication LR – PE ⨟ AA-RELEASE-request PE ⨟ MAAL-STOP-PROVING-indication ⨟ Reset T3 ⨟ to 2/4/2;
  2/10/4 = AA-RELEASE-request PE ⨟ MAAL-REPORT-indication LR – PE ⨟ to 2/4/2;
}

-- AA-DATA-indication with MU = 4 octets and PDU type = INS
unfoldable pub AA-DATA-indication-with-INS : Row
AA-DATA-indication-with-INS = record {
  1/1/1 = Illegal;
  1/4/1 = Illegal;
  2/1/2 = Illegal;
  2/2/2 = Illegal;
  2/4/2 = Illegal;
  3/10/5 = AA-RELEASE-request PE ⨟ AAL-OUT-OF-SERVICE-indication ⨟ MAAL-REPORT-indication LR OOS PE ⨟ Set-UPS=NM ⨾ to 1/4/1;
  2/10/3 = Set-INS-flag ⨾ to 2/10/3;
  2/10/4 = AAL-IN-SERVICE-indication ⨟ MAAL-REPORT-indication – INS – ⨟ Reset T2 ⨟ to 3/10/5;
}

-- AA-DATA-indication with MU = 4 octets and PDU type = NM
unfoldable pub AA-DATA-indication-with-NM : Row
AA-DATA-indication-with-NM = record {
  1/1/1 = Illegal;
  1/4/1 = Illegal;
  2/1/2 = Illegal;
  2/2/2 = Illegal;
  2/4/2 = Illegal;
  3/10/5 = AA-RELEASE-request PE ⨟ AAL-OUT-OF-SERVICE-indication ⨟ MAAL-REPORT-indication LR OOS PE ⨟ Set-UPS=NM ⨾ to 1/4/1;
  2/10/3 = to 2/10/3;
  2/10/4 = to 2/10/4;
}

-- AA-DATA-indication with MU < 4 octets or (PDU type ≠ NM, or INS)
unfoldable pub AA-DATA-indication-with-other : Row
AA-DATA-indication-with-other = record {
  1/1/1 = Illegal;
  1/4/1 = Illegal;
  2/1/2 = Illegal;
  2/2/2 = Illegal;
  2/4/2 = Illegal;
  3/10/5 = to 3/10/5;
  2/10/3 = to 2/10/3;
  2/10/4 = to 2/10/4;
}

-- AA-RESYNC indication
unfoldable pub AA-RESYNC-indication : Row
AA-RESYNC-indication = record {
  1/1/1 = Illegal;
  1/4/1 = Illegal;
  2/1/2 = Illegal;
  2/2/2 = Illegal;
  2/4/2 = Illegal;
  3/10/5 = AA-RELEASE-request PE ⨟ AAL-OUT-OF-SERVICE-indication ⨟ MAAL-REPORT-indication LR OOS PE ⨟ Set-UPS=NM ⨾ to 1/4/1;
  2/10/3 = MAAL-REPORT-indication LR – PE ⨟ AA-RELEASE-request PE ⨟ MAAL-STOP-PROVING-indication ⨟ Reset T3 ⨟ to 2/4/2;
  2/10/4 = MAAL-REPORT-indication LR – PE ⨟ AA-RELEASE-request PE ⨟ to 2/4/2;
}

-- AA-RECOVER-indication
unfoldable pub AA-RECOVER-indication : Row
AA-RECOVER-indication = record {
  1/1/1 = Illegal;
  1/4/1 = Illegal;
  2/1/2 = Illegal;
  2/2/2 = Illegal;
  2/4/2 = Illegal;
  3/10/5 = AA-RECOVER-response ⨟ MAAL-REPORT-indication – – SREC ⨟ to 3/10/5;
  2/10/3 = MAAL-REPORT-indication LR – PE ⨟ AA-RELEASE-request PE ⨟ MAAL-STOP-PROVING-indication ⨟ Reset T3 ⨟ to 2/4/2;
  2/10/4 = AA-RECOVER-response ⨟ MAAL-REPORT-indication – – SREC ⨟ to 2/10/4;
}

-- AA-UNITDATA-indication
unfoldable pub AA-UNITDATA-indication : Row
AA-UNITDATA-indication = record {
  1/1/1 = MAAL-REPORT-indication – – UDR ⨟ to 1/1/1;
  1/4/1 = MAAL-REPORT-indication – – UDR ⨟ to 1/4/1;
  2/1/2 = MAAL-REPORT-indication – – UDR ⨟ to 2/1/2;
  2/2/2 = MAAL-REPORT-indication – – UDR ⨟ to 2/2/2;
  2/4/2 = MAAL-REPORT-indication – – UDR ⨟ to 2/4/2;
  3/10/5 = MAAL-REPORT-indication – – UDR ⨟ to 3/10/5;
  2/10/3 = MAAL-REPORT-indication – – UDR ⨟ to 2/10/3;
  2/10/4 = MAAL-REPORT-indication – – UDR ⨟ to 2/10/4;
}

-- AA-RETRIEVE-indication
unfoldable pub AA-RETRIEVE-indication : Row
AA-RETRIEVE-indication = record {
  1/1/1 =
      IF MU>4 THEN AAL-RETRIEVED-MESSAGES-indication ⨟ to 1/1/1
      ELSE to 1/1/1;
  1/4/1 =
      IF MU>4 THEN AAL-RETRIEVED-MESSAGES-indication ⨟ to 1/4/1
      ELSE to 1/4/1;
  2/1/2 = Illegal;
  2/2/2 = Illegal;
  2/4/2 = Illegal;
  3/10/5 = Illegal;
  2/10/3 = Illegal;
  2/10/4 = Illegal;
}

-- AA-RETRIEVE_COMPLETE-indication
unfoldable pub AA-RETRIEVE-COMPLETE-indication : Row
AA-RETRIEVE-COMPLETE-indication = record {
  1/1/1 = AAL-RETRIEVAL-COMPLETE-indication ⨟ to 1/1/1;
  1/4/1 = AAL-RETRIEVAL-COMPLETE-indication ⨟ to 1/4/1;
  2/1/2 = Illegal;
  2/2/2 = Illegal;
  2/4/2 = Illegal;
  3/10/5 = Illegal;
  2/10/3 = Illegal;
  2/10/4 = Illegal;
}

-- MAAL-PROVING_UNSUCCESSFUL-response
unfoldable pub MAAL-PROVING-UNSUCCESSFUL-response : Row
MAAL-PROVING-UNSUCCESSFUL-response = record {
  1/1/1 = Illegal;
  1/4/1 = Illegal;
  2/1/2 = Illegal;
  2/2/2 = Illegal;
  2/4/2 = Illegal;
  3/10/5 = Illegal;
  2/10/3 = AA-RELEASE-request PNS ⨟ Reset T3 ⨟ to 2/4/2;
  2/10/4 = Illegal;
}

-- MAAL-RELEASE-request
unfoldable pub MAAL-RELEASE-request : Row
MAAL-RELEASE-request = record {
  1/1/1 = to 1/1/1;
  1/4/1 = to 1/4/1;
  2/1/2 = AAL-OUT-OF-SERVICE-indication ⨟ Reset T1 ⨟ Reset T2 ⨟ Set-UPS=NM ⨾ to 1/1/1;
  2/2/2 = AA-RELEASE-request MI ⨟ AAL-OUT-OF-SERVICE-indication ⨟ Reset T2 ⨟ Set-UPS=NM ⨾ to 1/4/1;
  2/4/2 = AAL-OUT-OF-SERVICE-indication ⨟ Reset T2 ⨟ Set-UPS=NM ⨾ to 1/4/1;
  3/10/5 = AA-RELEASE-request MI ⨟ AAL-OUT-OF-SERVICE-indication ⨟ Set-UPS=NM ⨾ to 1/4/1;
  2/10/3 = AA-RELEASE-request MI ⨟ AAL-OUT-OF-SERVICE-indication ⨟ Reset T2 ⨟ Reset T3 ⨟ Set-UPS=NM ⨾ to 1/4/1;
  2/10/4 = AA-RELEASE-request MI ⨟ AAL-OUT-OF-SERVICE-indication ⨟ Reset T2 ⨟ Set-UPS=NM ⨾ to 1/4/1;
}

-- MAAL-LOCAL_PROCESSOR_OUTAGE-request
unfoldable pub MAAL-LOCAL-PROCESSOR-OUTAGE-request : Row
MAAL-LOCAL-PROCESSOR-OUTAGE-request = record {
  1/1/1 = Set-LPO=1 ⨾ to 1/1/1;
  1/4/1 = Set-LPO=1 ⨾ to 1/4/1;
  2/1/2 = Set-LPO=1 ⨾ to 2/1/2;
  2/2/2 = Set-LPO=1 ⨾ to 2/2/2;
  2/4/2 = Set-LPO=1 ⨾ to 2/4/2;
  3/10/5 = Set-LPO=1 ⨾ AA-RELEASE-request PO ⨟ AAL-OUT-OF-SERVICE-indication ⨟ Set-UPS=NM ⨾ to 1/4/1;
  2/10/3 = Set-LPO=1 ⨾ to 2/10/3;
  2/10/4 = Set-LPO=1 ⨾ AA-RELEASE-request PO ⨟ AAL-OUT-OF-SERVICE-indication ⨟ Set-UPS=NM ⨾ Reset T2 ⨟ to 1/4/1;
}

-- MAAL-LOCAL_PROCESSOR_RECOVERED-request
unfoldable pub MAAL-LOCAL-PROCESSOR-RECOVERED-request : Row
MAAL-LOCAL-PROCESSOR-RECOVERED-request = record {
  1/1/1 = Set-LPO=0 ⨾ to 1/1/1;
  1/4/1 = Set-LPO=0 ⨾ to 1/4/1;
  2/1/2 = Set-LPO=0 ⨾ to 2/1/2;
  2/2/2 = Set-LPO=0 ⨾ to 2/2/2;
  2/4/2 = Set-LPO=0 ⨾ to 2/4/2;
  3/10/5 = Illegal;
  2/10/3 = Set-LPO=0 ⨾ to 2/10/3;
  2/10/4 = Illegal;
}

-- MAAL-FORCE_PROVING-request
unfoldable pub MAAL-FORCE-PROVING-request : Row
MAAL-FORCE-PROVING-request = record {
  1/1/1 = Set-MPS=NM ⨾ to 1/1/1;
  1/4/1 = Set-MPS=NM ⨾ to 1/4/1;
  2/1/2 = Set-MPS=NM ⨾ to 2/1/2;
  2/2/2 = Set-MPS=NM ⨾ to 2/2/2;
  2/4/2 = Set-MPS=NM ⨾ to 2/4/2;
  3/10/5 = Set-MPS=NM ⨾ to 3/10/5;
  2/10/3 = Set-MPS=NM ⨾ to 2/10/3;
  2/10/4 = Set-MPS=NM ⨾ to 2/10/4;
}

-- MAAL-FORCE_EMERGENCY-request
unfoldable pub MAAL-FORCE-EMERGENCY-request : Row
MAAL-FORCE-EMERGENCY-request = record {
  1/1/1 = Set-MPS=EM ⨾ to 1/1/1;
  1/4/1 = Set-MPS=EM ⨾ to 1/4/1;
  2/1/2 = Set-MPS=EM ⨾ to 2/1/2;
  2/2/2 = Set-MPS=EM ⨾ to 2/2/2;
  2/4/2 = Set-MPS=EM ⨾ to 2/4/2;
  3/10/5 = Set-MPS=EM ⨾ to 3/10/5;
  2/10/3 = Set-MPS=EM ⨾ to 2/10/3;
  2/10/4 = Set-MPS=EM ⨾ to 2/10/4;
}

-- MAAL-CLEAR_FORCE_MODES-request
unfoldable pub MAAL-CLEAR-FORCE-MODES-request : Row
MAAL-CLEAR-FORCE-MODES-request = record {
  1/1/1 = Set-MPS=N ⨾ to 1/1/1;
  1/4/1 = Set-MPS=N ⨾ to 1/4/1;
  2/1/2 = Set-MPS=N ⨾ to 2/1/2;
  2/2/2 = Set-MPS=N ⨾ to 2/2/2;
  2/4/2 = Set-MPS=N ⨾ to 2/4/2;
  3/10/5 = Set-MPS=N ⨾ to 3/10/5;
  2/10/3 = Set-MPS=N ⨾ to 2/10/3;
  2/10/4 = Set-MPS=N ⨾ to 2/10/4;
}

-- Local Congestion (Note 5)
unfoldable pub Local-Congestion : Row
Local-Congestion = record {
  1/1/1 = to 1/1/1;
  1/4/1 = to 1/4/1;
  2/1/2 = to 2/1/2;
  2/2/2 = to 2/2/2;
  2/4/2 = to 2/4/2;
  3/10/5 = AAL-LINK-CONGESTED-indication ⨟ MAAL-REPORT-indication – – CD ⨟ to 3/10/5;
  2/10/3 = AA-RELEASE-request PNS ⨟ MAAL-REPORT-indication LR – CD ⨟ MAAL-STOP-PROVING-indication ⨟ Reset T3 ⨟ to 2/4/2;
  2/10/4 = AAL-LINK-CONGESTED-indication ⨟ MAAL-REPORT-indication – – CD ⨟ to 2/10/4;
}

-- Local Congestion Ceased (Note 5)
unfoldable pub Local-Congestion-Ceased : Row
Local-Congestion-Ceased = record {
  1/1/1 = to 1/1/1;
  1/4/1 = to 1/4/1;
  2/1/2 = to 2/1/2;
  2/2/2 = to 2/2/2;
  2/4/2 = MAAL-REPORT-indication – – CC ⨟ to 2/4/2;
  3/10/5 = AAL-LINK-CONGESTION-CEASED-indication ⨟ MAAL-REPORT-indication – – CC ⨟ to 3/10/5;
  2/10/3 = Illegal;
  2/10/4 = AAL-LINK-CONGESTION-CEASED-indication ⨟ MAAL-REPORT-indication – – CC ⨟ to 2/10/4;
}

-- T1 expires
unfoldable pub T1-expires : Row
T1-expires = record {
  1/1/1 = Illegal;
  1/4/1 = Illegal;
  2/1/2 = AA-ESTABLISH-request ⨟ to 2/2/2;
  2/2/2 = Illegal;
  2/4/2 = Illegal;
  3/10/5 = Illegal;
  2/10/3 = Illegal;
  2/10/4 = Illegal;
}

-- T2 expires
unfoldable pub T2-expires : Row
T2-expires = record {
  1/1/1 = Illegal;
  1/4/1 = Illegal;
  2/1/2 = AAL-OUT-OF-SERVICE-indication ⨟ MAAL-REPORT-indication LR OOS ANS ⨟ Reset T1 ⨟ Set-UPS=NM ⨾ to 1/1/1;
  2/2/2 = AA-RELEASE-request ANS ⨟ AAL-OUT-OF-SERVICE-indication ⨟ MAAL-REPORT-indication LR OOS ANS ⨟ Set-UPS=NM ⨾ to 1/4/1;
  2/4/2 = AAL-OUT-OF-SERVICE-indication ⨟ MAAL-REPORT-indication – OOS ANS ⨟ Set-UPS=NM ⨾ to 1/4/1;
  3/10/5 = Illegal;
  2/10/3 = MAAL-REPORT-indication LR OOS ANS ⨟ MAAL-STOP-PROVING-indication ⨟ AAL-OUT-OF-SERVICE-indication ⨟ AA-RELEASE-request ANS ⨟ Reset T3 ⨟ Set-UPS=NM ⨾ to 1/4/1;
  2/10/4 = MAAL-REPORT-indication LR OOS ANS ⨟ AAL-OUT-OF-SERVICE-indication ⨟ AA-RELEASE-request ANS ⨟ Set-UPS=NM ⨾ to 1/4/1;
}

-- T3 expires and C1 > 0
unfoldable pub T3-expires-and-C1>0 : Row
T3-expires-and-C1>0 = record {
  1/1/1 = Illegal;
  1/4/1 = Illegal;
  2/1/2 = Illegal;
  2/2/2 = Illegal;
  2/4/2 = Illegal;
  3/10/5 = Illegal;
  2/10/3 = AA-DATA-request NM ⨟ Decrement-C1 ⨾ Set T3 ⨟ to 2/10/3;
  2/10/4 = Illegal;
}

-- T3 expires and C1 = 0. The third condition that the paper prints, LPO = 1, is what the first two leave.
unfoldable pub T3-expires-and-C1=0 : Row
T3-expires-and-C1=0 = record {
  1/1/1 = Illegal;
  1/4/1 = Illegal;
  2/1/2 = Illegal;
  2/2/2 = Illegal;
  2/4/2 = Illegal;
  3/10/5 = Illegal;
  2/10/3 =
      IF LPO=0&INS=0 THEN MAAL-STOP-PROVING-indication ⨟ AA-DATA-request INS ⨟ to 2/10/4
      ELSE IF LPO=0&INS=1 THEN MAAL-STOP-PROVING-indication ⨟ AA-DATA-request INS ⨟ MAAL-REPORT-indication – INS – ⨟ AAL-IN-SERVICE-indication ⨟ Reset T2 ⨟ to 3/10/5
      ELSE AA-RELEASE-request PO ⨟ AAL-OUT-OF-SERVICE-indication ⨟ MAAL-REPORT-indication LR OOS – ⨟ MAAL-STOP-PROVING-indication ⨟ Reset T2 ⨟ Set-UPS=NM ⨾ to 1/4/1;
  2/10/4 = Illegal;
}
