-- The histories of request 2026-07 computed, call by call on octets. Assumes nothing.
use mathlib.Core.Path.{refl}
use Rattle.unit.specs.Unit.{unit_of, kind, arrived, decoded}
use Rattle.unit.specs.Proving.{asked, table7, table8}
use Rattle.table6.proofs.Unfolded.{every_row}
use Rattle.link.specs.Step.{step_of}
use Rattle.octet.specs.Octets.{over, put_at}
use Rattle.record.specs.LinkRecord.{octets_of, link_of, well_formed}
use Rattle.event.specs.Frame.{written, framed_as}
use Rattle.event.specs.EventRecord.{coded_at}
use Rattle.event.specs.Fields.{not_carried, out_of_range}
use Rattle.signal.specs.SignalRecord.{joined}
use Rattle.step.specs.Step.{step_call}
use Rattle.sscf.specs.Fresh.{fresh_call}
use Rattle.history.specs.Calls.{next, run}
use Rattle.history.specs.History.{marks}
use Rattle.history.specs.CongestionWitness.{CongestionWitness}

pub congestion_witness : CongestionWitness
unfolding unit_of kind arrived decoded asked table7 table8 every_row step_of over put_at octets_of link_of well_formed written framed_as
    coded_at not_carried out_of_range joined step_call fresh_call next run marks
congestion_witness =
    record {
      by_confirm = record { accepted = refl; says = refl; state_is = refl; flag_is = refl; last_is = refl; units = refl; other = refl };
      again = record { accepted = refl; says = refl; state_is = refl; flag_is = refl; last_is = refl; units = refl; other = refl };
      by_response = record { accepted = refl; says = refl; state_is = refl; flag_is = refl; last_is = refl; units = refl; other = refl };
      meanwhile = record { accepted = refl; says = refl; state_is = refl; flag_is = refl; last_is = refl; units = refl; other = refl };
      proves = record { accepted = refl; says = refl; state_is = refl; flag_is = refl; last_is = refl; units = refl; other = refl };
      serves = record { accepted = refl; says = refl; state_is = refl; flag_is = refl; last_is = refl; units = refl; other = refl };
    }
