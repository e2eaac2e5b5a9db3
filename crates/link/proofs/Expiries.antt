-- T3 expiries: the theorems of specs/Expiries.antt. Assumes nothing.
use mathlib.Core.Path.{◌≡◌, refl, sym, ap, subst, ◌∙◌}
use mathlib.Core.Bool.{Bool, true, false}
use mathlib.Core.List.{List, [], ◌∷◌, ◌++◌}
use Prim.Native.Nat.{ℕ, zero, suc, ◌+◌, ◌-◌, ◌≤◌}
use native.Mathlib.Omega.{arith}
use native.Mathlib.Numerals.{add-one}
use borrow.Author.Tests.{ne_eqb}
use Rattle.unit.specs.declared.Status.{Status}
use Rattle.unit.specs.Unit.{code}
use Rattle.unit.specs.Proving.{table8}
use Rattle.table6.specs.declared.State.{State}
use Rattle.table6.specs.Cell.{T1, T3}
use Rattle.table6.specs.Table6.{AA-ESTABLISH-indication-with-EM-NM, AA-ESTABLISH-confirm-with-EM-NM, T3-expires-and-C1>0, T3-expires-and-C1=0}
use Rattle.table6.specs.SignalCodes.{ESTABLISH-response, START-PROVING, STOP-PROVING, SET-T3, RESET-T1}
use Rattle.table6.specs.Words.{2/1/2, 2/2/2, 2/10/3}
use Rattle.link.specs.declared.Carries.{Carries}
use Rattle.link.specs.declared.Link.{Link}
use Rattle.link.specs.declared.Signal.{Signal}
use Rattle.link.specs.declared.Event.TheVariants as event
use Rattle.link.specs.Effect.{with_state, with_ins, with_lpo, with_c1, with_timer, up}
use Rattle.link.specs.Signal.{none, signal, bare}
use Rattle.link.specs.Step.{named, Legal, step_of}
use Rattle.link.specs.Twelve.{unit}
use Rattle.link.specs.Expiries.{joined, next_expiry, expiries, units, Confirmed, Indicated, Proving, OneMore, ThousandAndOne}

-- a link in 2/10/3 with T3 running
abbrev proving : Link → Link
proving l = with_state 2/10/3 (with_timer T3 true l)

is_proving : (l : Link) → l.state ≡ 2/10/3 → l.t3 ≡ true → l ≡ proving l
is_proving l p q = λ i. with_state (p i) (with_timer T3 (q i) l)

less_one : (c : ℕ) → suc c - 1 ≡ c
less_one c = omega arith

one_unit : (l : Link) (c : ℕ) → step_of (with_c1 (suc c) (proving l)) event.T3 ≡ Legal (with_c1 c (proving l)) (unit Status.NM ∷ bare SET-T3 ∷ [])
unfolding step_of T3-expires-and-C1>0
one_unit l c = rw (ne_eqb (suc c) 0 (λ e. omega arith), less_one c)

falls : {k n : ℕ} → suc k ≤ n → n - k ≡ suc (n - suc k)
falls h = omega arith

k_units : (l : Link) (n k : ℕ) → k ≤ n → expiries k (with_c1 n (proving l)) ≡ Legal (with_c1 (n - k) (proving l)) (units k)
k_units l n zero h = ap (λ (c : ℕ). Legal (with_c1 c (proving l)) []) (omega arith)
k_units l n (suc k) h =
    ap next_expiry (k_units l n k (omega arith))
    ∙ ap (λ (c : ℕ). joined (units k) (step_of (with_c1 c (proving l)) event.T3)) (falls h)
    ∙ ap (joined (units k)) (one_unit l (n - suc k))

pub proved_by_units : Proving
proved_by_units l p k h =
    ap (expiries k) (is_proving l p.state p.running ∙ ap (λ (c : ℕ). with_c1 c (proving l)) p.decided)
    ∙ k_units l l.n1 k h
    ∙ ap (λ (m : Link). Legal (with_c1 (l.n1 - k) m) (units k)) (sym (is_proving l p.state p.running))

-- C1 is 0 and LPO is 0: by the INS flag
ends : (l : Link) (ins : Bool) →
    (after : Link) × (more : List Signal) × (step_of (with_c1 0 (with_lpo false (with_ins ins (proving l)))) event.T3 ≡ Legal after (bare STOP-PROVING ∷ unit Status.INS ∷ more))
unfolding step_of T3-expires-and-C1=0
ends l false = (_, _, refl)
ends l true = (_, _, refl)

ends_so : (l : Link) → l.lpo ≡ false → (after : Link) × (more : List Signal) × (step_of (with_c1 0 (proving l)) event.T3 ≡ Legal after (bare STOP-PROVING ∷ unit Status.INS ∷ more))
ends_so l h =
    let e = ends l l.ins in
    (e.0, e.1, ap (λ (b : Bool). step_of (with_c1 0 (with_lpo b (proving l))) event.T3) h ∙ e.2)

pub ends_with_ins : OneMore
ends_with_ins l p h =
    let e = ends_so l h in
    let n : ℕ = l.n1 in (
      e.0,
      e.1,
      ap (λ (k : ℕ). expiries k l) (add-one n)
          ∙ ap next_expiry (proved_by_units l p n (omega arith))
          ∙ ap (λ (c : ℕ). joined (units n) (step_of (with_c1 c l) event.T3)) (nothing_left n)
          ∙ ap (λ (m : Link). joined (units n) (step_of (with_c1 0 m) event.T3)) (is_proving l p.state p.running)
          ∙ ap (joined (units n)) e.2,
    )
  where
    nothing_left : (n : ℕ) → n - n ≡ 0
    nothing_left n = omega arith

pub thousand_and_one : ThousandAndOne
thousand_and_one l p h o =
    let e = ends_with_ins l p o in
    (e.0, e.1, subst (λ (n : ℕ). expiries (n + 1) l ≡ Legal e.0 (units n ++ bare STOP-PROVING ∷ unit Status.INS ∷ e.1)) h e.2)

-- A CONNECTION COMES UP

abbrev decided : ℕ → Link → Link
decided field l = up l field (proving l)

confirm : (l : Link) (field : ℕ) → l.congested ≡ false → named field ≡ true →
    step_of (with_state 2/2/2 l) (event.EstablishConfirm field) ≡ Legal (decided field l) (bare START-PROVING ∷ bare SET-T3 ∷ [])
unfolding step_of AA-ESTABLISH-confirm-with-EM-NM
confirm l field c u = rw (u, c)

indicate : (l : Link) (field : ℕ) → l.congested ≡ false → named field ≡ true →
    step_of (with_state 2/1/2 l) (event.EstablishIndication field)
    ≡ Legal (with_timer T1 false (decided field l)) (signal ESTABLISH-response (code (table8 l.mps l.ups)) none Carries.Nothing ∷ bare START-PROVING ∷ bare RESET-T1 ∷ bare SET-T3 ∷ [])
unfolding step_of AA-ESTABLISH-indication-with-EM-NM
indicate l field c u = rw (u, c)

pub confirmed : Confirmed
confirmed l field s c u d = (
  decided field l,
  _,
  ap (λ (x : State). step_of (with_state x l) (event.EstablishConfirm field)) s ∙ confirm l field c u,
  record { state = refl; running = refl; decided = d },
)

pub indicated : Indicated
indicated l field s c u d = (
  with_timer T1 false (decided field l),
  _,
  ap (λ (x : State). step_of (with_state x l) (event.EstablishIndication field)) s ∙ indicate l field c u,
  record { state = refl; running = refl; decided = d },
)
