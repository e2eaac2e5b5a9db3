-- The histories computed, call by call on octets. Assumes nothing.
use mathlib.Core.Path.{refl}
use Rattle.unit.specs.Unit.{unit_of, kind, arrived, decoded}
use Rattle.unit.specs.Proving.{asked, table7, table8}
use Rattle.table6.proofs.Unfolded.{every_row}
use Rattle.link.specs.Step.{step_of}
use Rattle.octet.specs.Octets.{over, put_at}
use Rattle.record.specs.LinkRecord.{octets_of, link_of, well_formed}
use Rattle.event.specs.Frame.{written, framed_as}
use Rattle.event.specs.EventRecord.{coded_at}
use Rattle.event.specs.Fields.{not_carried, out_of_range}
use Rattle.event.specs.EndToEnd.{frames}
use Rattle.signal.specs.SignalRecord.{joined}
use Rattle.step.specs.Step.{step_call}
use Rattle.sscf.specs.Burst.{singles}
use Rattle.sscf.specs.Fresh.{fresh_call}
use Rattle.history.specs.Calls.{next, run}
use Rattle.history.specs.History.{marks}
use Rattle.history.specs.Tests.{stands, alive, sent, due, told_ins, heard_ins, bsnt}
use Rattle.history.specs.Witness.{Witness}
use Rattle.history.specs.BsntWitness.{BsntWitness}

pub witness : Witness
unfolding unit_of kind arrived decoded asked table7 table8 every_row step_of over put_at octets_of link_of well_formed written framed_as
    coded_at not_carried out_of_range joined frames step_call singles fresh_call next run marks stands alive sent due told_ins heard_ins
witness =
    record {
      begins = refl;
      with_proving = record { links = refl; accepted = refl; service = refl; condition = refl };
      without = record { links = refl; accepted = refl; service = refl; condition = refl };
      by_wish = record { links = refl; accepted = refl; service = refl; condition = refl };
      not_up = record { links = refl; accepted = refl; service = refl; condition = refl };
      by_this_end = record { links = refl; accepted = refl; service = refl; condition = refl };
      by_far_end = record { links = refl; accepted = refl; service = refl; condition = refl };
      by_sscop = record { links = refl; accepted = refl; service = refl; condition = refl };
      by_stop = record { links = refl; accepted = refl; service = refl; condition = refl };
      one_unit = record { links = refl; accepted = refl; service = refl; condition = refl };
      not_sent = record { links = refl; accepted = refl; service = refl; condition = refl };
      not_received = record { links = refl; accepted = refl; service = refl; condition = refl };
      earlier = record { links = refl; accepted = refl; service = refl; condition = refl };
      refused = refl;
      anew = refl;
      of_another = refl;
      as_burst = record { accepted = refl; service = refl; condition = refl };
      past_refused = record { accepted = refl; service = refl; condition = refl };
      up_to_broken = record { accepted = refl; service = refl; condition = refl };
    }

pub bsnt_witness : BsntWitness
unfolding unit_of kind arrived decoded asked table7 table8 every_row step_of over put_at octets_of link_of well_formed written framed_as
    coded_at not_carried out_of_range joined step_call fresh_call next run marks bsnt
bsnt_witness =
    record {
      never = record { accepted = refl; answers = refl; told = refl };
      over_own_release = record { accepted = refl; answers = refl; told = refl };
      over_far_release = record { accepted = refl; answers = refl; told = refl };
      while_asked = record { accepted = refl; answers = refl; told = refl };
      peer_refused = record { accepted = refl; answers = refl; told = refl };
      by_confirm = record { accepted = refl; answers = refl; told = refl };
      by_response = record { accepted = refl; answers = refl; told = refl };
      by_released_confirm = record { accepted = refl; answers = refl; told = refl };
      anew = record { accepted = refl; answers = refl; told = refl };
    }
