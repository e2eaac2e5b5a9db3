-- What a link's record says of its history, and that it does so after each call. Assumes nothing.
use mathlib.Core.Path.{◌≡◌, refl, sym, ap, ◌∙◌}
use mathlib.Core.Bool.{Bool, true, false, cond, not, ◌&&◌, ◌||◌, beq, false≢true}
use mathlib.Core.List.{List, [], ◌∷◌, map}
use mathlib.Core.Option.{Option, none, some}
use Prim.Native.Nat.{ℕ, zero, suc, ◌+◌, ◌-◌, ◌≤◌}
use native.Mathlib.Omega.{arith}
use lib.Dec.{eqb, leb}
use borrow.Author.Tests.{eqb-true, leb-true}
use Rattle.unit.specs.declared.Mps.{Mps}
use Rattle.unit.specs.declared.Ups.{Ups}
use Rattle.unit.specs.Unit.{arrived}
use Rattle.unit.specs.Proving.{mps_code, ups_code, asked, table7}
use Rattle.table6.specs.declared.State.{State}
use Rattle.table6.specs.Cell as table6
use Rattle.table6.specs.Summary.{Op, keep, put, over, Count, same, decided, less, Summary, summed}
use Rattle.table6.proofs.Every.{left, right}
use Rattle.link.specs.declared.Num.{Num}
use Rattle.link.specs.declared.Link.{Link}
use Rattle.link.specs.declared.View.{View}
use Rattle.link.specs.declared.Signal.{Signal}
use Rattle.link.specs.Effect.{with_state}
use Rattle.link.specs.Fresh.{fresh_link}
use Rattle.link.specs.Signal.{signal_of}
use Rattle.link.specs.Stored.{view_of, meeting_of, counted, summed_up}
use Rattle.link.proofs.Performed.{outcome_of}
use Rattle.record.specs.LinkRecord.{mps_at, ups_at}
use Rattle.event.specs.Frame.{written, link_at, code_at, param_at, number_at, message_of}
use Rattle.event.specs.EventRecord.{event_of}
use Rattle.signal.specs.SignalRecord.{body_of, signal_octets}
use Rattle.history.specs.History.{Mark, accepted, emitted, event_mark, with_signals, mps, ups}
use Rattle.history.specs.Tests.{stands, alive, sent, due, told_ins, heard_ins}
use Rattle.history.proofs.Lawful.{lawful}
use Rattle.history.proofs.Walk.{Base, held, new, Conn, dead, live, Abs, abs, Found, sent_at, due_at, ConnIs, Is, Is?, Before, rule_event, rule_signal, signal_ok, event_ok}
use Rattle.history.proofs.Table.{Now, down, on, serving, now, Sort, begin, level, sign, sign_of, told}
use Rattle.history.proofs.Table.{takes, decides, least, counts, still_level, same_op, fits, ends, leads, sort_at, table_ok, by_test}
use Rattle.history.proofs.Calls.{Keeps, Invariant}
use Rattle.history.proofs.Events.{Told, sorted}

-- THE INVARIANT
abbrev pub NowIs : ℕ → Now → ℕ → List Mark → Type 0
NowIs n1 down c1 h = alive h ≡ false
NowIs n1 (on a g z) c1 h = (alive h ≡ true) × (told_ins n1 h ≡ a) × (heard_ins h ≡ g) × (sent h + c1 ≡ due n1 h) × (z ≡ true → c1 ≡ 0)

pub record Inv (n1 : ℕ) (l : Link) (h : List Mark) : Type 0 where
  pub n1_is : l.n1 ≡ n1
  pub ups_is : ups h ≡ l.ups
  pub mps_is : mps h ≡ l.mps
  pub stand_is : stands h ≡ serving l.state
  pub now_is : NowIs n1 (now l.state l.ins) l.c1 h
  pub lawful_is : lawful n1 h ≡ true

fresh_ok : (n1 : ℕ) → Inv n1 (fresh_link n1) []
unfolding stands alive lawful
fresh_ok n1 = record { n1_is = refl; ups_is = refl; mps_is = refl; stand_is = refl; now_is = refl; lawful_is = refl }

-- BOOLEANS AND OPERATIONS THAT ARE THE SAME
pub beq_eq : (a b : Bool) → beq a b ≡ true → a ≡ b
beq_eq true true e = refl
beq_eq true false e = absurd (false≢true e)
beq_eq false true e = absurd (false≢true e)
beq_eq false false e = refl

pub same_op_lem : {A : Type 0} (code : A → ℕ) (back : ℕ → A) → ((x : A) → back (code x) ≡ x) → (o q : Op A) → same_op code o q ≡ true → o ≡ q
same_op_lem code back inv keep keep e = refl
same_op_lem code back inv keep (put z) e = absurd (false≢true e)
same_op_lem code back inv (put y) keep e = absurd (false≢true e)
same_op_lem code back inv (put y) (put z) e = ap put (sym (inv y) ∙ ap back (eqb-true (code y) (code z) e) ∙ inv z)

ups_back : (x : Ups) → ups_at (ups_code x) ≡ x
ups_back Ups.Normal = refl
ups_back Ups.Emergency = refl

mps_back : (x : Mps) → mps_at (mps_code x) ≡ x
mps_back Mps.Neutral = refl
mps_back Mps.Normal = refl
mps_back Mps.Emergency = refl

-- what stands on the connection, or numbers that fit where there is none
abbrev sent_on : Now → List Mark → ℕ
sent_on down h = 0
sent_on (on a g z) h = sent h

abbrev due_on : Now → ℕ → ℕ → List Mark → ℕ
due_on down n1 c1 h = c1
due_on (on a g z) n1 c1 h = due n1 h

abbrev here : Link → Now
here l = now l.state l.ins

-- what an event of a sort and with a parameter finds
abbrev found : ℕ → Link → List Mark → Sort → ℕ → Found
found n1 l h s p =
    record { n1 = n1; ups = l.ups; mps = l.mps; sent = sent_on (here l) h; due = due_on (here l) n1 l.c1 h; level = level s (here l); above = s.above; field = p }

-- ONE EVENT of a sort s, with code c, parameter p, number and message m, where the cell sees the parameter `param`; on link k, with the record l and the history h
module _ (n1 : ℕ) (l : Link) (h : List Mark) (v : Inv n1 l h) (k : ℕ) (m : List ℕ) (s : Sort) (c p : ℕ) (number : Num) (param : ℕ) (t : Told s c p (arrived m) l.c1 param) where
  left_over : (x : Now) → NowIs n1 x l.c1 h → sent_on x h + l.c1 ≡ due_on x n1 l.c1 h
  left_over down i = omega arith
  left_over (on a g z) i = i.3

  no_more : (x : Now) → NowIs n1 x l.c1 h → level s x ≡ true → l.c1 ≡ 0
  no_more down i e = absurd (false≢true e)
  no_more (on a g true) i e = i.4 refl
  no_more (on a g false) i e = t.zero e

  all_sent : level s (here l) ≡ true → sent_on (here l) h ≡ due_on (here l) n1 l.c1 h
  all_sent e = omega (arith, left_over (here l) v.now_is, no_more (here l) v.now_is e)

  some_due : s.above ≡ true → 1 ≤ due_on (here l) n1 l.c1 h
  some_due e = omega (arith, left_over (here l) v.now_is, t.above e)

  conn_before : (x : Now) → NowIs n1 x l.c1 h →
      ConnIs (record { n1 = n1; ups = l.ups; mps = l.mps; sent = sent_on x h; due = due_on x n1 l.c1 h; level = level s x; above = s.above; field = p }) (begin x) h
  conn_before down i = i
  conn_before (on a g z) i = (i.0, i.1, i.2, omega arith, refl)

  before : Before (found n1 l h s p) (abs (serving l.state) (begin (here l)) keep keep) h
  before = (v.stand_is, conn_before (here l) v.now_is, v.ups_is, v.mps_is, v.lawful_is)

  -- the event's mark, and then those of its signals
  first_mark : Is? (found n1 l h s p) (rule_event s.mark (abs (serving l.state) (begin (here l)) keep keep)) (accepted c p number (arrived m) ∷ h)
  first_mark = event_ok (found n1 l h s p) h number s.mark c (arrived m) (abs (serving l.state) (begin (here l)) keep keep) before t.mark

  module _ (q : ℕ) (n : Num) (b : Num) where
    abbrev spoken : table6.Told → List ℕ
    spoken a = signal_octets k m (signal_of q n l.mps l.ups b a)

    abbrev mark_of : table6.Told → Mark
    mark_of a = emitted (signal_of q n l.mps l.ups b a).code (signal_of q n l.mps l.ups b a).param (arrived (body_of (signal_of q n l.mps l.ups b a).carries m))

    one_signal : (a : table6.Told) (A : Abs) (g : List Mark) → Is (found n1 l h s p) A g →
        Is? (found n1 l h s p) (rule_signal (level s (here l)) s.above s.long (sign a).code (sign a).carries A) (mark_of a ∷ g)
    one_signal a A g i =
        let (x, y) = sign_of q n l.mps l.ups b a in
        rw (x, y) (signal_ok (found n1 l h s p) g (signal_of q n l.mps l.ups b a).param all_sent some_due m s.long t.long A i (sign a).code (sign a).carries)

    signals_ok : (acts : List table6.Told) (o : Option Abs) (g : List Mark) → Is? (found n1 l h s p) o g →
        Is? (found n1 l h s p) (told (level s (here l)) s acts o) (with_signals (map spoken acts) g)
    unfolding written
    signals_ok [] o g i = i
    signals_ok (a ∷ acts) none g i = tt
    signals_ok (a ∷ acts) (some A) g i =
        signals_ok acts (rule_signal (level s (here l)) s.above s.long (sign a).code (sign a).carries A) (mark_of a ∷ g) (one_signal a A g i)

  -- C1 at the end
  taken : (x : Count) (n : ℕ) → takes x n ≡ true → counted x param l ≡ l.c1 - n
  taken same n e = omega (arith, eqb-true n 0 e)
  taken decided n e = absurd (false≢true e)
  taken (less x) zero e = absurd (false≢true e)
  taken (less x) (suc n) e = omega (arith, taken x n e)

  decreed : (x : Count) → decides x ≡ true → counted x param l ≡ table7 l.mps l.ups (asked param) l.n1
  decreed same e = absurd (false≢true e)
  decreed decided e = refl
  decreed (less x) e = absurd (false≢true e)

  enough : (b : Bool) → s.above ≡ b → cond b 1 0 ≤ l.c1
  enough true e = t.above e
  enough false e = omega arith

  count_ok : (x : Count) (b : Base) (n : ℕ) (g : List Mark) → counts s x b n ≡ true → sent g ≡ n + sent_at (found n1 l h s p) b → due n1 g ≡ due_at (found n1 l h s p) b →
      sent g + counted x param l ≡ due n1 g
  count_ok x held n g e i j =
      omega (arith, taken x n (left (takes x n) (leb n (least s)) e), leb-true n (least s) (right (takes x n) (leb n (least s)) e), enough s.above refl, left_over (here l) v.now_is)
  count_ok x new n g e i j =
      let e₁ = right (decides x) (eqb n 0 && s.field) e in
      let z : n ≡ 0 = eqb-true n 0 (left (eqb n 0) s.field e₁) in
      let w : param ≡ p = t.field (right (eqb n 0) s.field e₁) in
      let d : counted x param l ≡ due n1 g = decreed x (left (decides x) (eqb n 0 && s.field) e) ∙ rw (w, v.n1_is) (sym j) in
      omega arith

  zero_ok : (z : Bool) (x : Count) (b : Base) (n : ℕ) → counts s x b n ≡ true → (not z || still_level (level s (here l)) b) ≡ true → z ≡ true → counted x param l ≡ 0
  zero_ok false x b n e f g = absurd (false≢true g)
  zero_ok true x held n e f g = omega (arith, taken x n (left (takes x n) (leb n (least s)) e), no_more (here l) v.now_is f)
  zero_ok true x new n e f g = absurd (false≢true f)

  conn_after : (x : Count) (y : Conn) (z : Now) (g : List Mark) → fits (level s (here l)) s x y z ≡ true → ConnIs (found n1 l h s p) y g → NowIs n1 z (counted x param l) g
  conn_after x dead down g e i = i
  conn_after x dead (on a b z) g e i = absurd (false≢true e)
  conn_after x (live a b w n) down g e i = absurd (false≢true e)
  conn_after x (live a b w n) (on a' b' z) g e i =
      let e₁ = right (beq a a') _ e in
      let e₂ = right (beq b b') _ e₁ in
      let e₃ = left (counts s x w n) (not z || still_level (level s (here l)) w) e₂ in (
        i.0,
        i.1 ∙ beq_eq a a' (left (beq a a') _ e),
        i.2 ∙ beq_eq b b' (left (beq b b') _ e₁),
        count_ok x w n g e₃ i.3 i.4,
        zero_ok z x w n e₃ (right (counts s x w n) (not z || still_level (level s (here l)) w) e₂),
      )

  -- an alternative that leads somewhere ends in the next state's invariant
  ended : (o : Option Abs) (r : Summary) (n : Num) (next : State) (g : List Mark) → ends (level s (here l)) s l.ins r next o ≡ true → Is? (found n1 l h s p) o g →
      Inv n1 (with_state next (summed_up r param n l)) g
  ended none r n next g e i = absurd (false≢true e)
  ended (some (abs st y u w)) r n next g e i =
      let e₁ = right (beq st (serving next)) _ e in
      let e₂ = right (same_op ups_code u r.ups) _ e₁ in
      record {
        n1_is = v.n1_is;
        ups_is = i.2 ∙ ap (λ (o : Op Ups). over o l.ups) (same_op_lem ups_code ups_at ups_back u r.ups (left (same_op ups_code u r.ups) _ e₁));
        mps_is = i.3 ∙ ap (λ (o : Op Mps). over o l.mps) (same_op_lem mps_code mps_at mps_back w r.mps (left (same_op mps_code w r.mps) _ e₂));
        stand_is = i.0 ∙ beq_eq st (serving next) (left (beq st (serving next)) _ e);
        now_is = conn_after r.c1 y (now next (over r.ins l.ins)) g (right (same_op mps_code w r.mps) _ e₂) i.1;
        lawful_is = i.5;
      }

pub twice : (k : ℕ) (m : List ℕ) (f : table6.Told → Signal) (acts : List table6.Told) → map (signal_octets k m) (map f acts) ≡ map (λ a. signal_octets k m (f a)) acts
twice k m f [] = refl
twice k m f (a ∷ acts) = ap (λ (x : List (List ℕ)). signal_octets k m (f a) ∷ x) (twice k m f acts)

-- THE STEP, by the row that its event meets
module _ (n1 : ℕ) (l : Link) (h : List Mark) (v : Inv n1 l h) (e : List ℕ) (x : View) (t : Told (sort_at x.0) (code_at e) (param_at e) (arrived (message_of e)) l.c1 x.1) where
  led_so : (r : Summary) (says : List table6.Told) (next : State) → leads (sort_at x.0) l.state l.ins r says next ≡ true →
      Keeps Inv n1 h e (outcome_of l (meeting_of x) (summed r says next))
  led_so r says next i =
      let s = sort_at x.0 in
      let k = link_at e in
      let m = message_of e in
      let c = code_at e in
      let p = param_at e in
      let n = number_at e in
      let first = rule_event s.mark (abs (serving l.state) (begin (here l)) keep keep) in
      rw (twice k m (signal_of x.1 x.2 l.mps l.ups l.bsnt.num) says)
      (ended n1 l h v k m s c p n x.1 t (told (level s (here l)) s says first) r x.2 next _ i
      (signals_ok n1 l h v k m s c p n x.1 t x.1 x.2 l.bsnt.num says first (event_mark e ∷ h) (first_mark n1 l h v k m s c p n x.1 t)))

pub keeps_inv : Invariant Inv
keeps_inv =
    record {
      begins = fresh_ok;
      goes_on = λ n1 l h v e p. by_test leads table_ok (Keeps Inv n1 h e) l (event_of e) tt (led_so n1 l h v e (view_of (event_of e) l.c1) (sorted e p l.c1));
    }
