-- Request 2026-07, over every sequence of calls: the congested flag, the last field, and what Note 7 of Table 6 asks. Told from what the host saw, as demand 3 is.
use Rattle.std.specs.Prelude.{ℕ, ◌≡◌, ◌↔◌, Bool, true, ◌||◌, List}
use Rattle.table6.specs.EventCodes.{CONGESTION, CONGESTION-CEASED}
use Rattle.table6.specs.SignalCodes.{RELEASE-request}
use Rattle.table6.specs.Words.{2/10/3}
use Rattle.octet.specs.Octets.{at}
use Rattle.record.specs.LinkRecord.{state_code}
use Rattle.step.specs.Step.{record_at}
use Rattle.history.specs.Calls.{World, AfterEachCall}
use Rattle.history.specs.History.{Mark, accepted, emitted, event, signal, proving_sent, Somewhere, none, Connection, begun, history}

-- "A congested flag, set by an accepted 39 and cleared by an accepted 40."
abbrev pub congestion : Mark → Bool
congestion m = event CONGESTION m || event CONGESTION-CEASED m

-- "Of the accepted 39s and 40s there was one and a 39 was the latest."
pub record Congested (h : List Mark) : Type 0 where
  pub report : Somewhere (event CONGESTION) h
  pub latest : none congestion report.later ≡ true

-- octet 16 of a link's record
abbrev pub flag_octet : World → ℕ → ℕ
flag_octet w k = at (record_at w.table k) 16

pub record CongestedFlag : Type 0 where
  pub set : AfterEachCall (λ w k. (flag_octet w k ≡ 1) ↔ Congested (history w k))
  pub clear : AfterEachCall (λ w k. (flag_octet w k ≡ 0) ↔ (Congested (history w k) → ⊥))

-- "The last release field sent": that of the latest RELEASE-request.
abbrev pub release_sent : Mark → Bool
release_sent m = signal RELEASE-request m

abbrev pub field_of : Mark → ℕ
field_of (accepted code param n holds) = 0
field_of (emitted code param holds) = param

pub record LatestRelease (h : List Mark) : Type 0 where
  pub request : Somewhere release_sent h
  pub latest : none release_sent request.later ≡ true

-- octet 17 of a link's record
abbrev pub last_octet : World → ℕ → ℕ
last_octet w k = at (record_at w.table k) 17

pub record LastField : Type 0 where
  pub sent : AfterEachCall (λ w k. (r : LatestRelease (history w k)) → last_octet w k ≡ field_of r.request.mark)
  pub unsent : AfterEachCall (λ w k. none release_sent (history w k) ≡ true → last_octet w k ≡ 0)

-- From a fresh table no link is ever congested in 2/10/3.
abbrev pub NeverInProving : Type 0
NeverInProving = AfterEachCall (λ w k. at (record_at w.table k) 2 ≡ state_code 2/10/3 → flag_octet w k ≡ 0)

-- Note 7: "no proving unit is ever sent on a connection that came up while the link was congested". Each was sent on a connection, and the link was not congested
-- when that came up.
abbrev pub Note7 : Type 0
Note7 = AfterEachCall (λ w k. (u : Somewhere proving_sent (history w k)) → (c : Connection u.earlier) × (Congested (begun c) → ⊥))
