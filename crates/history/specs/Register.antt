-- What a host may read off a link's record, and what each of the two customers wants of it.
use Rattle.std.specs.Prelude.{◌≤◌, ◌≡◌, ◌↔◌}
use Rattle.unit.specs.declared.Mps.{Mps}
use Rattle.table6.specs.Words.{3/10/5}
use Rattle.octet.specs.Octets.{at}
use Rattle.record.specs.LinkRecord.{state_code}
use Rattle.step.specs.Step.{record_at}
use Rattle.history.specs.Calls.{AfterEachCall}
use Rattle.history.specs.History.{history, proving_sent, in_service, Somewhere, count, Stands, Connection, since, begun, mps, Served}

-- The line in the register: a link's state octet is 8 exactly if it stands in service.
abbrev pub StateOctet : Type 0
StateOctet = AfterEachCall (λ w link. (at (record_at w.table link) 2 ≡ state_code 3/10/5) ↔ Stands (history w link))

-- "Neither customer may have a link in service before both ends have said they are ready": whenever the in-service indication was given, the conditions of
-- the demand held of all that was seen before it, not only when its call was over.
abbrev pub NotEarly : Type 0
NotEarly = AfterEachCall (λ w link. (i : Somewhere in_service (history w link)) → Served w.n1 i.earlier)

-- The second customer. Where management had forced proving when the connection came up, no in-service indication was given before n1 units had been sent on it.
abbrev pub ForcedProving : Type 0
ForcedProving =
    AfterEachCall (λ w link. (i : Somewhere in_service (history w link)) (c : Connection i.earlier) → mps (begun c) ≡ Mps.Normal → w.n1 ≤ count proving_sent (since c))

-- The first customer. Every proving unit was sent on a connection, and never on one that came up while management forced emergency.
abbrev pub ForcedEmergency : Type 0
ForcedEmergency =
    AfterEachCall (λ w link. (u : Somewhere proving_sent (history w link)) → (c : Connection u.earlier) × (mps (begun c) ≡ Mps.Emergency → ⊥))
