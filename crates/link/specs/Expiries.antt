-- T3 expiries with nothing between them: what they leave and what they send.
use Rattle.std.specs.Prelude.{ℕ, zero, suc, ◌+◌, ◌-◌, ◌≤◌, ◌≡◌, true, false, List, [], ◌∷◌, ◌++◌}
use Rattle.unit.specs.declared.Status.{Status}
use Rattle.table6.specs.declared.State.{State}
use Rattle.table6.specs.SignalCodes.{STOP-PROVING, SET-T3}
use Rattle.table6.specs.Words.{2/1/2, 2/2/2, 2/10/3}
use Rattle.link.specs.declared.Link.{Link}
use Rattle.link.specs.declared.Signal.{Signal}
use Rattle.link.specs.declared.Event.{Event}
use Rattle.link.specs.declared.Event.TheVariants as event
use Rattle.link.specs.Effect.{with_c1, generated}
use Rattle.link.specs.Signal.{bare}
use Rattle.link.specs.Step.{named, Outcome, Illegal, Legal, step_of}
use Rattle.link.specs.Twelve.{unit}

abbrev pub joined : List Signal → Outcome → Outcome
joined said Illegal = Illegal
joined said (Legal l more) = Legal l (said ++ more)

abbrev pub next_expiry : Outcome → Outcome
next_expiry Illegal = Illegal
next_expiry (Legal l said) = joined said (step_of l event.T3)

-- k expiries, one after the other
abbrev pub expiries : ℕ → Link → Outcome
expiries zero l = Legal l []
expiries (suc k) l = next_expiry (expiries k l)

-- k proving units, and T3 set behind each
abbrev pub units : ℕ → List Signal
units zero = []
units (suc k) = units k ++ unit Status.NM ∷ bare SET-T3 ∷ []

-- A link that is to be proved: in 2/10/3, T3 running, and C1 decided to be n1.
pub record ToProve (l : Link) : Type 0 where
  pub state : l.state ≡ 2/10/3
  pub running : l.t3 ≡ true
  pub decided : l.c1 ≡ l.n1

-- That is so where a connection comes up on a link that is not congested, in a state by an event whose field is EM or NM and for which Table 7 generates n1.
abbrev pub ComesUp : State → (ℕ → Event) → Type 0
ComesUp s e =
    (l : Link) (field : ℕ) → l.state ≡ s → l.congested ≡ false → named field ≡ true → generated l field ≡ l.n1 →
    (after : Link) × (said : List Signal) × (step_of l (e field) ≡ Legal after said) × ToProve after

abbrev pub Confirmed : Type 0
Confirmed = ComesUp 2/2/2 event.EstablishConfirm

abbrev pub Indicated : Type 0
Indicated = ComesUp 2/1/2 event.EstablishIndication

-- After k expiries, k at most n1, C1 is n1 - k and k proving units were sent.
abbrev pub Proving : Type 0
Proving = (l : Link) → ToProve l → (k : ℕ) → k ≤ l.n1 → expiries k l ≡ Legal (with_c1 (l.n1 - k) l) (units k)

-- The next one, the expiry n1 + 1, ends proving and sends the INS unit where LPO is 0.
abbrev pub OneMore : Type 0
OneMore =
    (l : Link) → ToProve l → l.lpo ≡ false →
    (after : Link) × (more : List Signal) × (expiries (l.n1 + 1) l ≡ Legal after (units l.n1 ++ bare STOP-PROVING ∷ unit Status.INS ∷ more))

-- With n1 = 1000, the thousand-and-first.
abbrev pub ThousandAndOne : Type 0
ThousandAndOne =
    (l : Link) → ToProve l → l.n1 ≡ 1000 → l.lpo ≡ false →
    (after : Link) × (more : List Signal) × (expiries 1001 l ≡ Legal after (units 1000 ++ bare STOP-PROVING ∷ unit Status.INS ∷ more))
