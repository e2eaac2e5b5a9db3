-- What the marks of one event do to a link's history, computed from their codes alone; and that it is so. Assumes nothing.
use mathlib.Core.Path.{◌≡◌, refl, ◌∙◌}
use mathlib.Core.Bool.{Bool, true, false, cond, not, ◌&&◌, ◌||◌, true≢false}
use mathlib.Core.List.{List, [], ◌∷◌}
use mathlib.Core.Option.{Option, none, some}
use Prim.Native.Nat.{ℕ, zero, suc, ◌+◌, ◌≤◌}
use native.Mathlib.Omega.{arith}
use lib.Dec.{eqb}
use borrow.Author.Tests.{eqb-true, eq-eqb}
use Rattle.unit.specs.declared.Status.{Status}
use Rattle.unit.specs.declared.Arrived.{Arrived}
use Rattle.unit.specs.declared.Mps.{Mps}
use Rattle.unit.specs.declared.Ups.{Ups}
use Rattle.unit.specs.Unit.{unit_of, kind, arrived}
use Rattle.unit.specs.Proving.{asked, table7}
use Rattle.unit.proofs.Proving.{none_if_emergency}
use Rattle.table6.specs.EventCodes.{EMERGENCY, EMERGENCY-CEASES, STOP, ESTABLISH-confirm, RELEASE-indication, DATA-indication, FORCE-PROVING, FORCE-EMERGENCY, CLEAR-FORCE-MODES}
use Rattle.table6.specs.SignalCodes.{IN-SERVICE, OUT-OF-SERVICE, ESTABLISH-response, RELEASE-request, DATA-request}
use Rattle.table6.specs.Summary.{Op, keep, put, over}
use Rattle.link.specs.declared.Num.{Num}
use Rattle.link.specs.declared.Carries.{Carries}
use Rattle.signal.specs.SignalRecord.{body_of}
use Rattle.history.specs.History.{Mark, accepted, emitted, is_nm, is_ins, edge, mps, ups, field}
use Rattle.history.specs.Tests.{from, stands, alive, sent, due, told_ins, heard_ins}
use Rattle.history.proofs.Lawful.{is_emergency, lawful}

-- THE HISTORY, ABSTRACTLY. Whether the link stands in service. A connection, that of before the event or one that came up in it: INS sent, INS received, how
-- many units were sent in the event. What has become of UPS and of MPS, as the history tells them.
pub data Base : Type 0 where
  held new : Base

pub data Conn : Type 0 where
  dead : Conn
  live : Bool → Bool → Base → ℕ → Conn

pub data Abs : Type 0 where
  abs : Bool → Conn → Op Ups → Op Mps → Abs

-- What the event found: n1, UPS, MPS, the units sent and due on the connection, whether these are known to be as many, whether some are known to be due; and
-- the event's field.
pub record Found : Type 0 where
  pub n1 : ℕ
  pub ups : Ups
  pub mps : Mps
  pub sent : ℕ
  pub due : ℕ
  pub level : Bool
  pub above : Bool
  pub field : ℕ

abbrev wanted : Found → ℕ
wanted f = table7 f.mps f.ups (asked f.field) f.n1

abbrev pub sent_at : Found → Base → ℕ
sent_at f held = f.sent
sent_at f new = 0

abbrev pub due_at : Found → Base → ℕ
due_at f held = f.due
due_at f new = wanted f

abbrev pub ConnIs : Found → Conn → List Mark → Type 0
ConnIs f dead h = alive h ≡ false
ConnIs f (live a g b n) h = (alive h ≡ true) × (told_ins f.n1 h ≡ a) × (heard_ins h ≡ g) × (sent h ≡ n + sent_at f b) × (due f.n1 h ≡ due_at f b)

abbrev pub Is : Found → Abs → List Mark → Type 0
Is f (abs s c u m) h = (stands h ≡ s) × ConnIs f c h × (ups h ≡ over u f.ups) × (mps h ≡ over m f.mps) × (field h ≡ f.field) × (lawful f.n1 h ≡ true)

abbrev pub Is? : Found → Option Abs → List Mark → Type 0
Is? f none h = Unit {0}
Is? f (some A) h = Is f A h

-- RULES. A rule that gives nothing is a place where Table 6 never comes.

-- the in-service indication, where all is known to have been sent and received
abbrev rule_in : Bool → Abs → Option Abs
rule_in level (abs s dead u m) = none
rule_in level (abs s (live a g new n) u m) = none
rule_in level (abs s (live a g held zero) u m) = cond (a && (g && level)) (some (abs true (live a g held zero) u m)) none
rule_in level (abs s (live a g held (suc n)) u m) = none

abbrev rule_out : Abs → Option Abs
rule_out (abs s c u m) = some (abs false c (put Ups.Normal) m)

abbrev rule_up : Abs → Option Abs
rule_up (abs s c keep keep) = some (abs s (live false false new 0) keep keep)
rule_up (abs s c keep (put x)) = none
rule_up (abs s c (put x) m) = none

abbrev rule_released : Abs → Option Abs
rule_released (abs s c u m) = some (abs s dead u m)

-- a proving unit, where some are known to be due
abbrev rule_proving : Bool → Abs → Option Abs
rule_proving above (abs s dead u m) = none
rule_proving above (abs s (live a g new n) u m) = none
rule_proving above (abs s (live a g held n) u m) = cond above (some (abs s (live a g held (suc n)) u m)) none

-- the INS unit, where all units are known to have been sent
abbrev rule_ins : Bool → Abs → Option Abs
rule_ins level (abs s dead u m) = none
rule_ins level (abs s (live a g new n) u m) = none
rule_ins level (abs s (live a g held zero) u m) = cond level (some (abs s (live true g held zero) u m)) none
rule_ins level (abs s (live a g held (suc n)) u m) = none

abbrev rule_heard : Abs → Option Abs
rule_heard (abs s dead u m) = some (abs s dead u m)
rule_heard (abs s (live a g b n) u m) = some (abs s (live a true b n) u m)

-- Signals. `long`: the event's own message has more than four octets, so it is no unit.
abbrev rule_unit : Bool → Bool → Status → Abs → Option Abs
rule_unit level above Status.OOS A = none
rule_unit level above Status.PO A = none
rule_unit level above Status.INS A = rule_ins level A
rule_unit level above Status.NM A = rule_proving above A
rule_unit level above Status.EM A = none
rule_unit level above Status.ANS A = none
rule_unit level above Status.MI A = none
rule_unit level above Status.PE A = none
rule_unit level above Status.PNS A = none

abbrev rule_data : Bool → Bool → Bool → Carries → Abs → Option Abs
rule_data level above long Carries.Nothing A = none
rule_data level above long (Carries.Unit s) A = rule_unit level above s A
rule_data level above long Carries.Message A = cond long (some A) none

abbrev pub rule_signal : Bool → Bool → Bool → ℕ → Carries → Abs → Option Abs
rule_signal level above long c b A =
    cond (eqb c IN-SERVICE) (rule_in level A) (cond (eqb c OUT-OF-SERVICE) (rule_out A) (cond (eqb c ESTABLISH-response) (rule_up A) (cond (eqb c RELEASE-request) (rule_released A) (cond (eqb c DATA-request) (rule_data level above long b A) (some A)))))

-- Events, as marks.
pub data Kind : Type 0 where
  quiet stops confirms releases hears receives : Kind
  wishes : Ups → Kind
  forces : Mps → Kind

abbrev pub rule_event : Kind → Abs → Option Abs
rule_event quiet A = some A
rule_event stops A = rule_out A
rule_event confirms A = rule_up A
rule_event releases A = rule_released A
rule_event hears A = rule_heard A
rule_event receives A = some A
rule_event (wishes x) (abs s c u m) = some (abs s c (put x) m)
rule_event (forces x) (abs s c u m) = some (abs s c u (put x))

-- an event's code, and what arrived with it, are of a kind: data is heard where it is an INS unit, else received
abbrev pub any : List Bool → Bool
any [] = false
any (b ∷ bs) = b || any bs

abbrev pub Each : List Bool → Type 0
Each [] = Unit {0}
Each (b ∷ bs) = (b ≡ false) × Each bs

pub each : (bs : List Bool) → any bs ≡ false → Each bs
each [] e = tt
each (true ∷ bs) e = absurd (true≢false e)
each (false ∷ bs) e = (refl, each bs e)

abbrev pub counting : ℕ → List Bool
counting c = eqb c EMERGENCY ∷ eqb c EMERGENCY-CEASES ∷ eqb c STOP ∷ eqb c ESTABLISH-confirm ∷ eqb c RELEASE-indication ∷ eqb c FORCE-PROVING ∷ eqb c FORCE-EMERGENCY ∷ eqb c CLEAR-FORCE-MODES ∷ eqb c DATA-indication ∷ []

abbrev pub Of : Kind → ℕ → Arrived → Type 0
Of quiet c a = any (counting c) ≡ false
Of stops c a = c ≡ STOP
Of confirms c a = c ≡ ESTABLISH-confirm
Of releases c a = c ≡ RELEASE-indication
Of hears c a = (c ≡ DATA-indication) × (a ≡ Arrived.INS)
Of receives c a = (c ≡ DATA-indication) × (is_ins a ≡ false)
Of (wishes Ups.Emergency) c a = c ≡ EMERGENCY
Of (wishes Ups.Normal) c a = c ≡ EMERGENCY-CEASES
Of (forces Mps.Normal) c a = c ≡ FORCE-PROVING
Of (forces Mps.Emergency) c a = c ≡ FORCE-EMERGENCY
Of (forces Mps.Neutral) c a = c ≡ CLEAR-FORCE-MODES

-- THAT IT IS SO

-- a mark that leaves the connection as it was
record Same (n1 : ℕ) (h h' : List Mark) : Type 0 where
  alive_is : alive h' ≡ alive h
  told_is : told_ins n1 h' ≡ told_ins n1 h
  heard_is : heard_ins h' ≡ heard_ins h
  sent_is : sent h' ≡ sent h
  due_is : due n1 h' ≡ due n1 h

conn_same : (f : Found) (c : Conn) (h h' : List Mark) → Same f.n1 h h' → ConnIs f c h → ConnIs f c h'
conn_same f dead h h' s k = s.alive_is ∙ k
conn_same f (live a g b n) h h' s k = (s.alive_is ∙ k.0, s.told_is ∙ k.1, s.heard_is ∙ k.2, s.sent_is ∙ k.3, s.due_is ∙ k.4)

-- THE SIGNALS OF AN EVENT, each with a parameter of its own
module _ (f : Found) (h : List Mark) (param : ℕ) (level : f.level ≡ true → f.sent ≡ f.due) (above : f.above ≡ true → 1 ≤ f.due) where
  abbrev Then : Option Abs → Mark → Type 0
  Then o m = Is? f o (m ∷ h)

  up_ok : (x : Arrived) (A : Abs) → Is f A h → Then (rule_up A) (emitted ESTABLISH-response param x)
  unfolding stands alive told_ins heard_ins sent due lawful
  up_ok x (abs s c keep keep) k = (k.0, (refl, refl, refl, refl, rw (k.2, k.3, k.4)), k.2, k.3, k.4, k.5)
  up_ok x (abs s c keep (put y)) k = tt
  up_ok x (abs s c (put y) m) k = tt

  released_ok : (x : Arrived) (A : Abs) → Is f A h → Then (rule_released A) (emitted RELEASE-request param x)
  unfolding stands alive lawful
  released_ok x (abs s c u m) k = (k.0, refl, k.2, k.3, k.4, k.5)

  -- where a unit is due, emergency was not forced
  not_forced : (x : Mps) (d : ℕ) → 1 ≤ d → d ≡ table7 x (ups (from edge h)) (asked (field (from edge h))) f.n1 → not (is_emergency x) ≡ true
  not_forced Mps.Neutral d i e = refl
  not_forced Mps.Normal d i e = refl
  not_forced Mps.Emergency d i e = absurd (omega (arith, e, none_if_emergency (ups (from edge h)) (field (from edge h)) f.n1))

  proving_ok : (A : Abs) → Is f A h → Then (rule_proving f.above A) (emitted DATA-request param Arrived.NM)
  unfolding stands alive told_ins heard_ins sent due lawful
  proving_ok (abs s dead u m) k = tt
  proving_ok (abs s (live a g new n) u m) k = tt
  proving_ok (abs s (live a g held n) u m) k = by f.above refl where
    by : (b : Bool) → f.above ≡ b → Then (cond b (some (abs s (live a g held (suc n)) u m)) none) (emitted DATA-request param Arrived.NM)
    by true e =
        let free = not_forced (mps (from edge h)) (due f.n1 h) (omega (arith, above e, k.1.4)) refl in
        (k.0, (k.1.0, k.1.1, k.1.2, omega (arith, k.1.3), k.1.4), k.2, k.3, k.4, rw (k.1.0, free) k.5)
    by false e = tt

  all_sent : f.level ≡ true → sent h ≡ 0 + f.sent → due f.n1 h ≡ f.due → eqb (sent h) (due f.n1 h) ≡ true
  all_sent e i j = eq-eqb (sent h) (due f.n1 h) (omega (arith, level e))

  ins_ok : (A : Abs) → Is f A h → Then (rule_ins f.level A) (emitted DATA-request param Arrived.INS)
  unfolding stands alive told_ins heard_ins sent due lawful
  ins_ok (abs s dead u m) k = tt
  ins_ok (abs s (live a g new n) u m) k = tt
  ins_ok (abs s (live a g held zero) u m) k = by f.level refl where
    by : (b : Bool) → f.level ≡ b → Then (cond b (some (abs s (live true g held zero) u m)) none) (emitted DATA-request param Arrived.INS)
    by true e = (k.0, (k.1.0, rw (all_sent e k.1.3 k.1.4), k.1.2, k.1.3, k.1.4), k.2, k.3, k.4, k.5)
    by false e = tt
  ins_ok (abs s (live a g held (suc n)) u m) k = tt

  -- a mark that is no edge and no unit leaves the connection as it was
  emitted_same : (c : ℕ) (x : Arrived) → eqb c ESTABLISH-response ≡ false → eqb c RELEASE-request ≡ false → eqb c DATA-request ≡ false → Same f.n1 h (emitted c param x ∷ h)
  unfolding alive told_ins heard_ins sent due
  emitted_same c x p q r =
      record { alive_is = simp (p, q); told_is = simp (p, q, r); heard_is = simp (p, q); sent_is = simp (p, q, r); due_is = simp (p, q) }

  long_same : Same f.n1 h (emitted DATA-request param Arrived.Long ∷ h)
  unfolding alive told_ins heard_ins sent due
  long_same = record { alive_is = refl; told_is = refl; heard_is = refl; sent_is = refl; due_is = refl }

  same_ok : (c : ℕ) (x : Arrived) (A : Abs) → Is f A h → eqb c IN-SERVICE ≡ false → eqb c OUT-OF-SERVICE ≡ false → eqb c DATA-request && is_nm x ≡ false → Same f.n1 h (emitted c param x ∷ h) →
      Then (some A) (emitted c param x)
  unfolding stands lawful
  same_ok c x (abs s y u m) k p q r e = (simp (p, q) k.0, conn_same f y h _ e k.1, simp q k.2, k.3, k.4, simp (p, r) k.5)

  in_ok : (x : Arrived) (A : Abs) → Is f A h → Then (rule_in f.level A) (emitted IN-SERVICE param x)
  unfolding stands lawful
  in_ok x (abs s dead u m) k = tt
  in_ok x (abs s (live a g new n) u m) k = tt
  in_ok x (abs s (live true true held zero) u m) k = by f.level refl where
    by : (b : Bool) → f.level ≡ b → Then (cond b (some (abs true (live true true held zero) u m)) none) (emitted IN-SERVICE param x)
    by true e =
        let all = all_sent e k.1.3 k.1.4 in
        (refl, conn_same f (live true true held zero) h _ (emitted_same IN-SERVICE x refl refl refl) k.1, k.2, k.3, k.4, rw (k.1.0, all, k.1.1, k.1.2) k.5)
    by false e = tt
  in_ok x (abs s (live true false held zero) u m) k = tt
  in_ok x (abs s (live false g held zero) u m) k = tt
  in_ok x (abs s (live a g held (suc n)) u m) k = tt

  out_ok : (x : Arrived) (A : Abs) → Is f A h → Then (rule_out A) (emitted OUT-OF-SERVICE param x)
  unfolding stands lawful
  out_ok x (abs s c u m) k = (refl, conn_same f c h _ (emitted_same OUT-OF-SERVICE x refl refl refl) k.1, refl, k.3, k.4, k.5)

  -- a signal that carries data: the unit that it names, or the event's own message
  module _ (message : List ℕ) (long : Bool) (no_unit : long ≡ true → arrived message ≡ Arrived.Long) (A : Abs) (k : Is f A h) where
    unit_ok : (s : Status) → Then (rule_unit f.level f.above s A) (emitted DATA-request param (arrived (unit_of s)))
    unfolding arrived unit_of kind
    unit_ok Status.OOS = tt
    unit_ok Status.PO = tt
    unit_ok Status.INS = ins_ok A k
    unit_ok Status.NM = proving_ok A k
    unit_ok Status.EM = tt
    unit_ok Status.ANS = tt
    unit_ok Status.MI = tt
    unit_ok Status.PE = tt
    unit_ok Status.PNS = tt

    own_ok : (b : Bool) → long ≡ b → Then (cond b (some A) none) (emitted DATA-request param (arrived message))
    own_ok true e = rw (no_unit e) (same_ok DATA-request Arrived.Long A k refl refl refl long_same)
    own_ok false e = tt

    data_ok : (b : Carries) → Then (rule_data f.level f.above long b A) (emitted DATA-request param (arrived (body_of b message)))
    data_ok Carries.Nothing = tt
    data_ok (Carries.Unit s) = unit_ok s
    data_ok Carries.Message = own_ok long refl

    pub signal_ok : (c : ℕ) (b : Carries) → Then (rule_signal f.level f.above long c b A) (emitted c param (arrived (body_of b message)))
    signal_ok c b = by (eqb c IN-SERVICE) (eqb c OUT-OF-SERVICE) (eqb c ESTABLISH-response) (eqb c RELEASE-request) (eqb c DATA-request) refl refl refl refl refl where
      x : Arrived
      x = arrived (body_of b message)

      by : (p q r s t : Bool) → eqb c IN-SERVICE ≡ p → eqb c OUT-OF-SERVICE ≡ q → eqb c ESTABLISH-response ≡ r → eqb c RELEASE-request ≡ s → eqb c DATA-request ≡ t →
          Then (cond p (rule_in f.level A) (cond q (rule_out A) (cond r (rule_up A) (cond s (rule_released A) (cond t (rule_data f.level f.above long b A) (some A)))))) (emitted c param x)
      by true q r s t e₁ e₂ e₃ e₄ e₅ = rw (eqb-true c IN-SERVICE e₁) (in_ok x A k)
      by false true r s t e₁ e₂ e₃ e₄ e₅ = rw (eqb-true c OUT-OF-SERVICE e₂) (out_ok x A k)
      by false false true s t e₁ e₂ e₃ e₄ e₅ = rw (eqb-true c ESTABLISH-response e₃) (up_ok x A k)
      by false false false true t e₁ e₂ e₃ e₄ e₅ = rw (eqb-true c RELEASE-request e₄) (released_ok x A k)
      by false false false false true e₁ e₂ e₃ e₄ e₅ = rw (eqb-true c DATA-request e₅) (data_ok b)
      by false false false false false e₁ e₂ e₃ e₄ e₅ = same_ok c x A k e₁ e₂ (rw e₅) (emitted_same c x e₃ e₄ e₅)

-- EVENTS. Before one the history has another field.
abbrev pub Before : Found → Abs → List Mark → Type 0
Before f (abs s c u m) h = (stands h ≡ s) × ConnIs f c h × (ups h ≡ over u f.ups) × (mps h ≡ over m f.mps) × (lawful f.n1 h ≡ true)

module _ (f : Found) (h : List Mark) (n : Num) where
  abbrev Next : Option Abs → ℕ → Arrived → Type 0
  Next o c a = Is? f o (accepted c f.field n a ∷ h)

  accepted_same : (c : ℕ) (a : Arrived) → eqb c ESTABLISH-confirm ≡ false → eqb c RELEASE-indication ≡ false → eqb c DATA-indication && is_ins a ≡ false → Same f.n1 h (accepted c f.field n a ∷ h)
  unfolding alive told_ins heard_ins sent due
  accepted_same c a p q r = record { alive_is = simp (p, q); told_is = simp (p, q); heard_is = simp (p, q, r); sent_is = simp (p, q); due_is = simp (p, q) }

  -- a quiet event has none of the codes that count
  quiet_ok : (c : ℕ) (a : Arrived) (A : Abs) → Before f A h → Of quiet c a → Next (some A) c a
  unfolding stands lawful
  quiet_ok c a (abs s y u m) k e =
      let (e₂, (e₃, (e₄, (e₁₇, (e₁₈, (e₃₆, (e₃₇, (e₃₈, (e₂₀, _))))))))) = each (counting c) e in
      (simp e₄ k.0, conn_same f y h _ (accepted_same c a e₁₇ e₁₈ (rw e₂₀)) k.1, simp (e₂, e₃, e₄) k.2, simp (e₃₆, e₃₇, e₃₈) k.3, refl, k.4)

  pub event_ok : (e : Kind) (c : ℕ) (a : Arrived) (A : Abs) → Before f A h → Of e c a → Next (rule_event e A) c a
  unfolding stands alive told_ins heard_ins sent due lawful
  event_ok quiet c a A k e = quiet_ok c a A k e
  event_ok stops c a (abs s y u m) k e = rw e (refl, conn_same f y h _ (accepted_same STOP a refl refl refl) k.1, refl, k.3, refl, k.4)
  event_ok confirms c a (abs s y keep keep) k e = rw e (k.0, (refl, refl, refl, refl, rw (k.2, k.3)), k.2, k.3, refl, k.4)
  event_ok confirms c a (abs s y keep (put x)) k e = tt
  event_ok confirms c a (abs s y (put x) m) k e = tt
  event_ok releases c a (abs s y u m) k e = rw e (k.0, refl, k.2, k.3, refl, k.4)
  event_ok hears c a (abs s dead u m) k e = rw e.0 (k.0, k.1, k.2, k.3, refl, k.4)
  event_ok hears c a (abs s (live x g b i) u m) k e = rw (e.0, e.1) (k.0, (k.1.0, k.1.1, refl, k.1.3, k.1.4), k.2, k.3, refl, k.4)
  event_ok receives c a (abs s y u m) k e = rw e.0 (k.0, conn_same f y h _ (accepted_same DATA-indication a refl refl e.1) k.1, k.2, k.3, refl, k.4)
  event_ok (wishes Ups.Emergency) c a (abs s y u m) k e = rw e (k.0, conn_same f y h _ (accepted_same EMERGENCY a refl refl refl) k.1, refl, k.3, refl, k.4)
  event_ok (wishes Ups.Normal) c a (abs s y u m) k e = rw e (k.0, conn_same f y h _ (accepted_same EMERGENCY-CEASES a refl refl refl) k.1, refl, k.3, refl, k.4)
  event_ok (forces Mps.Normal) c a (abs s y u m) k e = rw e (k.0, conn_same f y h _ (accepted_same FORCE-PROVING a refl refl refl) k.1, k.2, refl, refl, k.4)
  event_ok (forces Mps.Emergency) c a (abs s y u m) k e = rw e (k.0, conn_same f y h _ (accepted_same FORCE-EMERGENCY a refl refl refl) k.1, k.2, refl, refl, k.4)
  event_ok (forces Mps.Neutral) c a (abs s y u m) k e = rw e (k.0, conn_same f y h _ (accepted_same CLEAR-FORCE-MODES a refl refl refl) k.1, k.2, refl, refl, k.4)
