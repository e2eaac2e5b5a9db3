-- A burst is read as its single calls. Assumes nothing.
use mathlib.Core.Path.{◌≡◌, refl, sym, ap, ◌∙◌}
use mathlib.Core.List.{List, [], ◌∷◌}
use Prim.Native.Nat.{ℕ, suc}
use lib.ListN.{length, take}
use Rattle.unit.specs.Checks.{Verdict, passed, refused, first}
use Rattle.event.specs.EndToEnd.{frames}
use Rattle.step.specs.declared.Refusal.{Refusal}
use Rattle.step.specs.Step.{step_call}
use Rattle.sscf.specs.Burst as calls
use Rattle.sscf.proofs.Singles.{single, each_call}
use Rattle.sscf.specs.Burst.{Single, singly, table_after, burst_checks, calls_by, singles, burst_call}
use Rattle.history.specs.Calls.{World, stepped, each, next, run}
use Rattle.history.specs.Bursts.{steps, AsSingleCalls}

-- the table is the one that the last call left
each_table : (w : World) (s : List Single) → (each w s).table ≡ table_after w.table s
each_table w [] = refl
each_table w (s ∷ others) = each_table (stepped w s.event s.after) others

-- steps for as many frames as calls are made
record Stepped (w : World) (fs : List (List ℕ)) (s : List Single) : Type 0 where
  outputs : List (List ℕ)
  many : length outputs ≡ length s
  same : each w s ≡ run w (steps (take (length s) fs) outputs)

none_made : (w : World) (fs : List (List ℕ)) → Stepped w fs []
unfolding run
none_made w fs = record { outputs = []; many = refl; same = refl }

one_made : (w : World) (t e o : List ℕ) (fs : List (List ℕ)) (s : List Single) → w.table ≡ t → Stepped (stepped w e (step_call t e o)) fs s → Stepped w (e ∷ fs) (single t e o ∷ s)
unfolding next run
one_made w t e o fs s h r =
    record {
      outputs = o ∷ r.outputs;
      many = ap suc r.many;
      same = r.same ∙ ap (λ (x : List ℕ). run (stepped w e (step_call x e o)) (steps (take (length s) fs) r.outputs)) (sym h);
    }

each_stepped : (fs : List (List ℕ)) (t o : List ℕ) (w : World) → w.table ≡ t → Stepped w fs (singly fs t o)
each_stepped =
    each_call (λ fs t o s. (w : World) → w.table ≡ t → Stepped w fs s) (λ t o w h. none_made w []) (λ e fs t o r w h. none_made w (e ∷ fs))
    (λ e fs t o s r q w h. one_made w t e o fs s h (q (stepped w e (step_call t e o)) refl))

made_stepped : (w : World) (es o : List ℕ) (v : Verdict Refusal) → Stepped w (frames es) (calls_by v w.table es o)
made_stepped w es o (refused x) = none_made w (frames es)
made_stepped w es o passed = each_stepped (frames es) w.table o w refl

-- what a burst answers and leaves, of the calls that it makes
taken_is : (v : Verdict Refusal) (t es o l : List ℕ) → (calls.burst v t es o l).answer.taken ≡ length (calls_by v t es o)
taken_is (refused x) t es o l = refl
taken_is passed t es o l = refl

table_is : (v : Verdict Refusal) (t es o l : List ℕ) → (calls.burst v t es o l).table ≡ table_after t (calls_by v t es o)
table_is (refused x) t es o l = refl
table_is passed t es o l = refl

pub as_single_calls : AsSingleCalls
unfolding next singles burst_call
as_single_calls w es o l =
    let v = first (burst_checks w.table es l) in
    let r = made_stepped w es o v in
    let n = taken_is v w.table es o l in
    record {
      outputs = r.outputs;
      many = r.many ∙ sym n;
      same = r.same ∙ ap (λ (k : ℕ). run w (steps (take k (frames es)) r.outputs)) (sym n);
      table = each_table w (calls_by v w.table es o) ∙ sym (table_is v w.table es o l);
    }
