-- `signal::put_all` meets its contract: a run, the signal that carries something, and a run.
use Rattle.std.proofs.Common.{◌≡◌, ℕ, suc, ◌+◌, ◌-◌, ◌*◌, ◌/◌, ◌%◌, ◌<◌, ◌≤◌, List, [], ◌++◌, length, take, drop, refl, sym, ap, subst, ◌∙◌, inl, inr, append-nil, arith, length-append, length-take, length-drop}
use Rattle.table6.specs.Stored.{word_at}
use Rattle.link.specs.declared.Signal.{Signal}
use Rattle.link.specs.Kept.{brought}
use Rattle.link.specs.Stored.{Given, meant_by, signals_of}
use Rattle.octet.specs.Octets.{at, over, put_at}
use Rattle.octet.proofs.Over.{lent, length_put}
use Rattle.record.specs.LinkRecord.{link_of}
use Rattle.event.specs.Frame.{link_at, message_of}
use Rattle.signal.specs.declared.Run.{Run}
use Rattle.signal.specs.SignalRecord.{body_of, signal_octets, joined, Put}
use Rattle.signal.specs.Writing.{given, front_of, known, Ran, Halts}
use Rattle.signal.proofs.SignalRecord.{signal_length}
use Rattle.signal.proofs.Runs.{known_length, three, spoken, split, room, behind_brings, at_end}
use Rattle.signal.proofs.put_all.Goals.{After-put_run-first}
use Rattle.signal.proofs.put_all.Goals as goal

-- the signals of a step are those of its words
by_words : (count words : ℕ) (o : Given) → signals_of count words o ≡ spoken o count words
unfolding signals_of
by_words count words o = refl

-- one of some words, and the others
one_more : (o : Given) (k : ℕ) (m : List ℕ) (n rest : ℕ) → 1 ≤ n → joined k m (spoken o n rest) ≡ signal_octets k m (meant_by o (word_at (rest % 256))) ++ joined k m (spoken o (n - 1) (rest / 256))
unfolding joined
one_more o k m n rest h = let e : n ≡ suc (n - 1) = omega arith in ap (λ (j : ℕ). joined k m (spoken o j rest)) e

nothing : (o : Given) (k : ℕ) (m : List ℕ) (n rest : ℕ) → n ≡ 0 → joined k m (spoken o n rest) ≡ []
unfolding joined
nothing o k m n rest h = ap (λ (j : ℕ). joined k m (spoken o j rest)) h

-- AFTER THE FIRST RUN: o what signals are given, e the event, d the output as it was, n the count of the words, w the words, r where the run stands, out what is written.
-- The octet is the lower of the link's number.
record First (o : Given) (e d : List ℕ) (n w : ℕ) (r : Run) (out : List ℕ) : Type 0 where
  octet : at e 3 < 256
  ran : Ran (front_of e) (record { at = 0; rest = w; left = n }) d r out
  fits : length (joined (link_at e) (message_of e) (signals_of n w o)) ≤ length d

-- It stands before a signal that carries something, as at most one does.
record Stops (o : Given) (n w : ℕ) (r : Run) : Type 0 where
  one : brought (signals_of n w o) ≤ 1
  some : 1 ≤ r.left
  bringing : 36 ≤ r.rest % 256

stops : (o : Given) (n w : ℕ) (r : Run) → brought (signals_of n w o) ≤ 1 → (r.left ≡ 0 → ⊥) → Halts r → Stops o n w r
stops o n w r h z (inl q) = absurd (z q)
stops o n w r h z (inr q) = record { one = h; some = omega (arith, z); bringing = q }

module _ {o : Given} {e d : List ℕ} {n w : ℕ} {r : Run} {out : List ℕ} (first : First o e d n w r out) where
  abbrev t : Ran (front_of e) (record { at = 0; rest = w; left = n }) d r out
  t = first.ran

  abbrev K : List ℕ
  K = known (front_of e) t.told w

  long : length K ≡ 12 * t.told
  long = known_length (front_of e) t.told w refl t.words

  -- what is left to be told
  abbrev J : List ℕ
  J = joined (link_at e) (message_of e) (spoken o r.left r.rest)

  parts : joined (link_at e) (message_of e) (signals_of n w o) ≡ K ++ J
  parts =
      ap (joined (link_at e) (message_of e)) (by_words n w o)
      ∙ split o e (message_of e) first.octet n t.told r.left w t.all t.words
      ∙ ap (λ (x : ℕ). K ++ joined (link_at e) (message_of e) (spoken o r.left x)) (sym t.rest)

  -- has room
  inside : r.at + length J ≤ length d
  inside = omega (arith, t.at, long, ap length parts, length-append K J, first.fits)

  same : length out ≡ length d
  same = ap length t.written ∙ length_put d K 0 (omega (arith, t.at, long, inside))

  at_once : r.left ≡ 0 → Put (joined (link_at e) (message_of e) (signals_of n w o)) d r.at out
  unfolding put_at
  at_once z =
      let q : joined (link_at e) (message_of e) (signals_of n w o) ≡ K = parts ∙ ap (λ (l : List ℕ). K ++ l) (nothing o (link_at e) (message_of e) r.left r.rest z) ∙ append-nil K in
      record {
        answer = omega (arith, t.at, long, ap length q);
        written = t.written ∙ ap (λ (l : List ℕ). over l d) (sym q);
      }

  -- THE SIGNAL THAT CARRIES SOMETHING
  module _ (s : Stops o n w r) where
    abbrev G : Signal
    G = meant_by o (word_at (r.rest % 256))

    abbrev Y : List ℕ
    Y = signal_octets (link_at e) (message_of e) G

    -- those behind it
    abbrev Z : List ℕ
    Z = joined (link_at e) (message_of e) (spoken o (r.left - 1) (r.rest / 256))

    next : J ≡ Y ++ Z
    next = one_more o (link_at e) (message_of e) r.left r.rest s.some

    further : r.at + (length Y + length Z) ≤ length d
    further = omega (arith, inside, ap length next, length-append Y Z)

    -- and no other does
    at_most_one : brought (spoken o (suc (r.left - 1)) r.rest) ≤ 1
    at_most_one =
        let q : r.left ≡ suc (r.left - 1) = omega (arith, s.some) in
        let h = behind_brings o n t.told r.left w t.all in
        let g = subst (λ (l : List Signal). brought l ≤ 1) (by_words n w o) s.one in
        let f : brought (spoken o r.left r.rest) ≤ 1 = subst (λ (x : ℕ). brought (spoken o r.left x) ≤ 1) (sym t.rest) (omega (arith, h, g)) in
        subst (λ (x : ℕ). brought (spoken o x r.rest) ≤ 1) q f

    starts : r.at ≤ length out
    starts = omega (arith, further, same)

    -- it has room, behind what is written
    fits_behind : 12 + length (body_of G.carries (message_of e)) ≤ length (take (length out - r.at) (drop r.at out))
    fits_behind = simp (length-take, length-drop) (omega (arith, further, same, signal_length (link_at e) (message_of e) G))

    rest_fits : (m : ℕ) → m ≡ length Y → r.at + m + 12 * (r.left - 1) ≤ length out
    rest_fits m h = omega (arith, h, further, same, room o e (message_of e) first.octet (r.left - 1) (r.rest / 256))

    -- the output with it in its place is as long as before
    rest_fits_behind : (m : ℕ) (y : List ℕ) → Put Y (take (length out - r.at) (drop r.at out)) m y → r.at + m + 12 * (r.left - 1) ≤ length (take r.at out ++ (y ++ drop (length out - r.at) (drop r.at out)))
    rest_fits_behind m y p =
        let q : length (take r.at out ++ (y ++ drop (length out - r.at) (drop r.at out))) ≡ length out = ap length (lent out y Y r.at p.written) ∙ length_put out Y r.at (omega (arith, further, same)) in
        omega (arith, rest_fits m p.answer, q)

    -- and behind it the last run
    at_last : (m : ℕ) (y : List ℕ) (last : Run) (out' : List ℕ) → Put Y (take (length out - r.at) (drop r.at out)) m y →
        Ran (front_of e) (record { at = r.at + m; rest = r.rest / 256; left = r.left - 1 }) (take r.at out ++ (y ++ drop (length out - r.at) (drop r.at out))) last out' → Halts last →
        Put (joined (link_at e) (message_of e) (signals_of n w o)) d last.at out'
    at_last m y last out' p u halts =
        let d' : List ℕ = take r.at out ++ (y ++ drop (length out - r.at) (drop r.at out)) in
        let run : Run = record { at = r.at + m; rest = r.rest / 256; left = r.left - 1 } in
        let z = at_end o (front_of e) r.rest run last d' out' s.bringing refl at_most_one u halts in
        let x = known (front_of e) u.told (r.rest / 256) in
        let q : Z ≡ x =
        split o e (message_of e) first.octet (r.left - 1) u.told last.left (r.rest / 256) u.all u.words
        ∙ ap (λ (l : List ℕ). x ++ l) (nothing o (link_at e) (message_of e) last.left _ z) ∙ append-nil x in
        rw (parts ∙ ap (λ (l : List ℕ). K ++ l) (next ∙ ap (λ (l : List ℕ). Y ++ l) q))
        (three K Y x t.written (omega (arith, t.at, long)) (lent out y Y r.at p.written) (omega (arith, p.answer)) u.written (omega (arith, u.at, known_length (front_of e) u.told (r.rest / 256) refl u.words)))

-- a run with the front that was made
fronted_run : (f e : List ℕ) (run : Run) (d : List ℕ) (r : Run) (out : List ℕ) → f ≡ front_of e → Ran f run d r out → Ran (front_of e) run d r out
fronted_run f e run d r out q t = subst (λ (x : List ℕ). Ran x run d r out) q t

-- what there is after it, by the code
first_of : (c : After-put_run-first) → at c.args.e.now 3 < 256 → First (given (link_of c.args.left.now) c.args.e.now) c.args.e.now c.args.out.now c.args.count c.args.words c.put_run-first.result c.put_run-first.new.out
first_of c b =
    let a = c.args in
    record {
      octet = b;
      ran =
          fronted_run c.front_of-front.result a.e.now (record { at = 0; rest = a.words; left = a.count }) a.out.now c.put_run-first.result c.put_run-first.new.out c.front_of-front.ensures c.put_run-first.ensures.0;
      fits = c.requires.4;
    }

stops_of : (c : After-put_run-first) → (c.put_run-first.result.left ≡ 0 → ⊥) → Stops (given (link_of c.args.left.now) c.args.e.now) c.args.count c.args.words c.put_run-first.result
stops_of c z = stops (given (link_of c.args.left.now) c.args.e.now) c.args.count c.args.words c.put_run-first.result c.requires.3 z c.put_run-first.ensures.1

pub put_run-first-requires : goal.put_run-first-requires
put_run-first-requires c =
    let a = c.args in
    let e = a.e.now in
    let o = given (link_of a.left.now) e in
    let h = ap (λ (l : List Signal). length (joined (link_at e) (message_of e) l)) (by_words a.count a.words o) in
    (ap length c.front_of-front.ensures, omega (arith, room o e (message_of e) (omega (arith, c.type_inv.e 3)) a.count a.words, h, c.requires.4))

pub returns-then-first-eq0 : goal.returns-then-first-eq0
returns-then-first-eq0 c =
    let p = (goal.at.returns-then-first-eq0 c).After-put_run-first in
    let f = first_of p (omega (arith, c.type_inv.e 3)) in
    at_once f c.if-first-eq0.true

pub slice_bounds-put_other-count : goal.slice_bounds-put_other-count
slice_bounds-put_other-count c =
    let p = (goal.at.slice_bounds-put_other-count c).After-put_run-first in
    let f = first_of p (omega (arith, c.type_inv.e 3)) in
    let s = stops_of p c.if-first-eq0.false in
    starts f s

pub slice_bounds-put_other-start : goal.slice_bounds-put_other-start
slice_bounds-put_other-start c =
    let p = (goal.at.slice_bounds-put_other-start c).After-put_run-first in
    let f = first_of p (omega (arith, c.type_inv.e 3)) in
    let s = stops_of p c.if-first-eq0.false in
    omega (arith, starts f s)

pub put_other-m-requires : goal.put_other-m-requires
put_other-m-requires c =
    let p = (goal.at.put_other-m-requires c).After-put_run-first in
    let f = first_of p (omega (arith, c.type_inv.e 3)) in
    let s = stops_of p c.if-first-eq0.false in
    (s.bringing, c.front_of-front.ensures, fits_behind f s)

pub overflow_add-at : goal.overflow_add-at
overflow_add-at c =
    let p = (goal.at.overflow_add-at c).After-put_run-first in
    let f = first_of p (omega (arith, c.type_inv.e 3)) in
    let s = stops_of p c.if-first-eq0.false in
    omega (arith, rest_fits f s c.put_other-m.result c.put_other-m.ensures.answer)

pub put_run-last-requires : goal.put_run-last-requires
put_run-last-requires c =
    let p = (goal.at.put_run-last-requires c).After-put_run-first in
    let f = first_of p (omega (arith, c.type_inv.e 3)) in
    let s = stops_of p c.if-first-eq0.false in
    (ap length c.front_of-front.ensures, rest_fits_behind f s c.put_other-m.result c.put_other-m.new.out c.put_other-m.ensures)

pub returns : goal.returns
returns c =
    let p = (goal.at.returns c).After-put_run-first in
    let f = first_of p (omega (arith, c.type_inv.e 3)) in
    let s = stops_of p c.if-first-eq0.false in
    let r = c.put_run-first.result in
    let out = c.put_run-first.new.out in
    let m = c.put_other-m.result in
    let y = c.put_other-m.new.out in
    let run : Run = record { at = r.at + m; rest = r.rest / 256; left = r.left - 1 } in
    let d : List ℕ = take r.at out ++ (y ++ drop (length out - r.at) (drop r.at out)) in
    let u = fronted_run c.front_of-front.result c.args.e.now run d c.put_run-last.result c.put_run-last.new.out c.front_of-front.ensures c.put_run-last.ensures.0 in
    at_last f s m y c.put_run-last.result c.put_run-last.new.out c.put_other-m.ensures u c.put_run-last.ensures.1
