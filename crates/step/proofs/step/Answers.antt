-- `step::step` meets its contract: a refusal changes nothing, and else the record and the signals are written.
use mathlib.Core.Path.{◌≡◌, sym, ap, subst, ◌∙◌}
use mathlib.Core.Bool.{false}
use mathlib.Core.List.{List}
use Prim.Native.Nat.{ℕ, ◌+◌, ◌-◌, ◌*◌, ◌≤◌}
use native.Mathlib.Omega.{arith}
use lib.ListN.{length, take, drop}
use borrow.Rule.Slice.PartMut.{put_mid}
use Rattle.std.proofs.lemmas.Slice.{between-put_mid}
use Rattle.std.proofs.Common.{Ok}
use Rattle.link.specs.declared.Link.{Link}
use Rattle.link.specs.declared.Signal.{Signal}
use Rattle.link.specs.Stored.{signals_of}
use Rattle.link.proofs.Spoken.{as_many}
use Rattle.unit.specs.Checks.{refused, first}
use Rattle.octet.specs.Octets.{put_at}
use Rattle.record.specs.LinkRecord.{octets_of, link_of}
use Rattle.record.proofs.LinkRecord.{octets_length, unpacked}
use Rattle.event.specs.Frame.{EV, link_at, message_of}
use Rattle.signal.specs.SignalRecord.{joined, Put}
use Rattle.signal.specs.Writing.{given}
use Rattle.event.proofs.Frame.{sound, message_length}
use Rattle.step.specs.declared.checks.Plan.{Plan}
use Rattle.step.specs.declared.Refusal.{Refusal}
use Rattle.step.specs.Checks.{number, place}
use Rattle.step.specs.Step.{bad_table, record_at, checks, answered, answering, step_call}
use Rattle.step.specs.Plan.{Planned, told_by}
use Rattle.step.proofs.Places.{inside, record_length, slice, put_back}
use Rattle.step.proofs.Number.{number_below, refusal_back, acceptance_back}
use Rattle.step.proofs.Taken.{Taken, taken, message_small, made_after, room_for, step_refused, step_accepted}
use Rattle.step.proofs.step.Goals as goal
use Rattle.step.proofs.step.Goals.{In-Ok, After-rewrite, After-unwrap-left, After-put_all-octets}

-- of a good table the other checks decide
past_first : (t e : List ℕ) (room : ℕ) → bad_table t ≡ false → first (checks t e room) ≡ first (drop 1 (checks t e room))
past_first t e room h = rw h

-- past the checks: the table, the event and the output, and what the plan has of them
module _ (c : In-Ok) where
  abbrev t : List ℕ
  t = c.args.table.now

  abbrev e : List ℕ
  e = c.args.event.now

  abbrev o : List ℕ
  o = c.args.out.now

  abbrev p : Plan
  p = c.in-Ok.field-0

  abbrev S : List Signal
  S = signals_of p.said.count p.said.words (given p.next e)

  go : Planned (checks t e (length o)) t e (Ok p)
  go = let q : Planned (drop 1 (checks t e (length o))) t e (Ok p) = c.in-Ok.ensures in (past_first t e (length o) c.requires ∙ q.0, q.1, q.2, q.3)

  tk : Taken t e (length o)
  tk = taken t e (length o) go.0

  -- the signals have room
  fits : length (joined (link_at e) (message_of e) S) ≤ 4240
  fits = room_for t e tk.sound go.2

  many : p.said.count ≤ 8
  many = omega (arith, as_many p.said.count p.said.words (given p.next e), (made_after t e go.2).eight)

  -- THE RECORD, found and left
  found : take (20 * p.link + 20 - 20 * p.link) (drop (20 * p.link) t) ≡ record_at t (link_at e)
  found = slice t p.link ∙ ap (record_at t) go.1

  found_length : length (take (20 * p.link + 20 - 20 * p.link) (drop (20 * p.link) t)) ≡ 20
  found_length = ap length found ∙ record_length t (link_at e) tk.inside

pub rewrite-requires : goal.rewrite-requires
rewrite-requires c =
    let q = (goal.at.rewrite-requires c).In-Ok in (
      found_length q,
      (sound EV _ (tk q).sound).twelve,
      rw (found q) (tk q).formed,
      rw (found q) (go q).3,
    )

-- THE RECORD, left
module _ (c : After-unwrap-left) where
  abbrev w : In-Ok
  w = (goal.at-After-unwrap-left c).In-Ok

  table_left : put_mid (20 * (p w).link) (20 * (p w).link + 20 - 20 * (p w).link) (t w) c.rewrite.new.r ≡ put_at (t w) (20 * link_at (e w)) (octets_of (p w).next)
  table_left =
      put_back (t w) c.rewrite.new.r (p w).link (ap length c.rewrite.ensures ∙ octets_length (p w).next)
      ∙ (λ i. put_at (t w) (20 * (go w).1 i) (c.rewrite.ensures i))

  link_left : link_of c.unwrap-left.result.now ≡ (p w).next
  link_left =
      let k = (p w).link in
      let h = rw c.unwrap-left.ensures at c.as_array.ensures.cases in
      let n : length c.rewrite.new.r ≡ 20 = ap length c.rewrite.ensures ∙ octets_length (p w).next in
      let there = between-put_mid (20 * k) (20 * k + 20 - 20 * k) (t w) c.rewrite.new.r (20 * k + 20) (omega (arith, (go w).1, inside (t w) (link_at (e w)) (tk w).inside)) (omega (arith, n)) in
      ap link_of (h.same ∙ there ∙ c.rewrite.ensures) ∙ unpacked (p w).next

  -- the signals are those of the link that is left
  signals_left : signals_of (p w).said.count (p w).said.words (given (link_of c.unwrap-left.result.now) (e w)) ≡ S w
  signals_left = ap (λ (l : Link). signals_of (p w).said.count (p w).said.words (given l (e w))) link_left

module _ (c : After-put_all-octets) where
  abbrev v : After-unwrap-left
  v = (goal.at-After-put_all-octets c).After-unwrap-left

  abbrev u : In-Ok
  u = w v

  put : Put (joined (link_at (e u)) (message_of (e u)) (S u)) (o u) c.put_all-octets.result c.put_all-octets.new.out
  put = subst (λ (ss : List Signal). Put (joined (link_at (e u)) (message_of (e u)) ss) (o u) c.put_all-octets.result c.put_all-octets.new.out) (signals_left v) c.put_all-octets.ensures

  few : c.put_all-octets.result ≤ 4240
  few = omega (arith, put.answer, fits u)

pub put_all-octets-requires : goal.put_all-octets-requires
put_all-octets-requires c =
    let v = (goal.at.put_all-octets-requires c).After-unwrap-left in
    let u = w v in
    let f = (tk u).sound in (
      (sound EV _ f).twelve,
      sym (message_length EV (e u) f),
      message_small (e u) f,
      rw (signals_left v) (made_after (t u) (e u) (go u).2).one_brought,
      rw (signals_left v) (omega (arith, fits u, (tk u).wide)),
    )

pub overflow_mul-result-in-Ok : goal.overflow_mul-result-in-Ok
overflow_mul-result-in-Ok c = omega (arith, few ((goal.at.overflow_mul-result-in-Ok c).After-put_all-octets))

pub overflow_add-result-in-Ok : goal.overflow_add-result-in-Ok
overflow_add-result-in-Ok c =
    let v = (goal.at.overflow_add-result-in-Ok c).After-put_all-octets in
    omega (arith, few v, many (u v))

-- a refusal: its place is small, and nothing is changed
refusing : (t e o : List ℕ) (r : Refusal) → bad_table t ≡ false → first (drop 1 (checks t e (length o))) ≡ refused r →
    answering (told_by (place r * 281474976710656 + number r)) t o ≡ step_call t e o
refusing t e o r g h =
    (λ i. answering (refusal_back (number r) (place r) (number_below r) i) t o)
    ∙ sym (step_refused t e o r (past_first t e (length o) g ∙ h))

pub returns-in-Err : goal.returns-in-Err
returns-in-Err c = rw (c.place.ensures, c.number.ensures) (refusing c.args.table.now c.args.event.now c.args.out.now c.in-Err.r c.requires c.in-Err.ensures)

pub returns-in-Ok : goal.returns-in-Ok
returns-in-Ok c =
    let a = (goal.at.returns-in-Ok c).After-put_all-octets in
    let b = u a in
    let n = c.put_all-octets.result in
    let count = (p b).said.count in
    let m = sym (as_many count (p b).said.words (given (p b).next (e b))) in
    let told = acceptance_back n count (few a) (omega (arith, many b)) ∙ (λ i. answered 0 ((put a).answer i) (m i) 0) in
    (λ i. answering (told i) (table_left (v a) i) ((put a).written i)) ∙ sym (step_accepted (t b) (e b) (o b) (go b).0 (go b).2)
