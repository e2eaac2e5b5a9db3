-- Request 2026-02, in its words: what RETRIEVE_BSNT answers, after every sequence of calls. It is told from what the host saw, as demand 3 is.
use Rattle.std.specs.Prelude.{ℕ, ◌≡◌, ◌↔◌, Bool, true, cond, List, [], ◌∷◌, take, drop}
use Rattle.table6.specs.EventCodes.{RETRIEVE-BSNT, DATA-indication}
use Rattle.table6.specs.SignalCodes.{BSNT, BSNT-NOT-RETRIEVABLE}
use Rattle.table6.specs.Words.{1/1/1, 1/4/1}
use Rattle.link.specs.declared.Num.{Num}
use Rattle.link.specs.declared.Bsnt.{Bsnt}
use Rattle.link.specs.declared.Carries.{Carries}
use Rattle.link.specs.declared.Signal.{Signal}
use Rattle.link.specs.Signal as link
use Rattle.link.specs.Signal.{bare}
use Rattle.event.specs.Frame.{link_at, code_at}
use Rattle.signal.specs.SignalRecord.{signal_octets}
use Rattle.step.specs.Step.{record_at, step_call}
use Rattle.history.specs.Calls.{signals_in, World, AfterEachCall}
use Rattle.history.specs.History.{Mark, accepted, emitted, event, comes_up, Somewhere, none, history}
use Rattle.history.specs.Pics.{◌⇒◌, link_in, Brings, plain}

-- "DATA accepted", and "the number of" it.
abbrev pub data_accepted : Mark → Bool
data_accepted m = event DATA-indication m

abbrev pub number_of : Mark → Num
number_of (accepted code param n holds) = n
number_of (emitted code param holds) = link.none

-- "A connection comes up", as in demand 3.
abbrev pub new_connection : Mark → Bool
new_connection m = comes_up m

-- "Its latest connection came up": no other has come up since, and whether it has been released is not asked.
pub record LatestUp (h : List Mark) : Type 0 where
  pub up : Somewhere new_connection h
  pub latest : none new_connection up.later ≡ true

-- "The number of the latest DATA accepted since its latest connection came up."
pub record Latest (h : List Mark) (n : Num) : Type 0 where
  pub connection : LatestUp h
  pub indication : Somewhere data_accepted connection.up.later
  pub latest : none data_accepted indication.later ≡ true
  pub number : number_of indication.mark ≡ n

-- RETRIEVE_BSNT is handed in for a link, with any output, and accepted.
pub record Asked (w : World) (k : ℕ) (e o : List ℕ) : Type 0 where
  pub code : code_at e ≡ RETRIEVE-BSNT
  pub link : link_at e ≡ k
  pub refusal : (step_call w.table e o).answer.refusal ≡ 0

-- It answers one signal, and no other.
abbrev pub Answers : World → ℕ → List ℕ → List ℕ → Signal → Type 0
Answers w k e o s = signals_in (step_call w.table e o) ≡ signal_octets k [] s ∷ []

abbrev pub retrieved : Num → Signal
retrieved n = link.signal BSNT 0 n Carries.Nothing

abbrev pub not_retrieved : Signal
not_retrieved = bare BSNT-NOT-RETRIEVABLE

pub record RetrieveBsnt : Type 0 where
  -- "RETRIEVE_BSNT on a link answers the number of the latest DATA accepted since its latest connection came up": that number, and no other
  pub number : AfterEachCall (λ w k. (e o : List ℕ) → Asked w k e o → (n : Num) → Answers w k e o (retrieved n) ↔ Latest (history w k) n)
  -- "and BSNT_NOT_RETRIEVABLE exactly if there was none."
  pub none : AfterEachCall (λ w k. (e o : List ℕ) → Asked w k e o → Answers w k e o not_retrieved ↔ ((n : Num) → Latest (history w k) n → ⊥))

-- What a host may read off octets 7 to 10 of a link's record, in every state: 1 and a number exactly if that is this number, and four times 0 exactly if there
-- was none.
abbrev pub bsnt_octets : World → ℕ → List ℕ
bsnt_octets w k = take 4 (drop 7 (record_at w.table k))

pub record RecordBsnt : Type 0 where
  pub number : AfterEachCall (λ w k. (n : Num) → (bsnt_octets w k ≡ 1 ∷ n.a ∷ n.b ∷ n.c ∷ []) ↔ Latest (history w k) n)
  pub none : AfterEachCall (λ w k. (bsnt_octets w k ≡ 0 ∷ 0 ∷ 0 ∷ 0 ∷ []) ↔ ((n : Num) → Latest (history w k) n → ⊥))

-- In both states that take RETRIEVE_BSNT it is accepted, answers what the record holds, and leaves the state.
abbrev pub answer : Bsnt → Signal
answer b = cond b.known (retrieved b.num) not_retrieved

pub record Retrieves : Type 0 where
  pub idle : Brings 1/1/1 (λ w k. (plain RETRIEVE-BSNT k ⇒ answer (link_in w k).bsnt ∷ []) ∷ []) 1/1/1
  pub disconnecting : Brings 1/4/1 (λ w k. (plain RETRIEVE-BSNT k ⇒ answer (link_in w k).bsnt ∷ []) ∷ []) 1/4/1
