-- Signals written one behind the other, and their records there and back. Assumes nothing.
use mathlib.Core.Path.{◌≡◌, refl, sym, ap, ◌∙◌}
use mathlib.Core.List.{List, [], ◌∷◌, ◌++◌}
use Prim.Native.Nat.{ℕ, zero, suc, ◌+◌, ◌*◌, ◌≤◌, ◌<◌}
use native.Mathlib.Nat.{add-mul}
use native.Mathlib.Omega.{arith}
use lib.ListN.{length, take, set, length-set, length-append}
use lib.Seq.{length-take-le, take-append_seam, drop-append_seam}
use Rattle.unit.specs.Unit.{unit_of}
use Rattle.table6.specs.Words.{Parameter-Data}
use Rattle.table6.specs.Cell.{Told}
use Rattle.table6.specs.Stored.{words, word_at}
use Rattle.table6.proofs.Lists.{alike, past}
use Rattle.link.specs.declared.Carries.{Carries}
use Rattle.link.specs.declared.Signal.{Signal}
use Rattle.link.specs.Kept.{messages_in, messages}
use Rattle.link.specs.Stored.{Given, meant_by}
use Rattle.octet.specs.Octets.{at, over, put_at}
use Rattle.event.specs.Frame.{SG, written, link_at, length_at}
use Rattle.signal.specs.SignalRecord.{body_of, signal_octets, joined, Put, SignalReread, SignalRewritten, SignalsApart}
use Rattle.signal.specs.Writing.{front_of, from_code, fixed_at, PutCode}
use Rattle.octet.proofs.Over.{behind, put_behind, put_set, put_over}
use Rattle.octet.proofs.Octets.{high_same, low_same}
use Rattle.event.proofs.Frame.{frame_reread, frame_rewritten, two_back, written_length}

body_small : (c : Carries) (m : List ℕ) → length m ≤ 4096 → length (body_of c m) ≤ 4096
unfolding unit_of
body_small Carries.Nothing m h = omega arith
body_small (Carries.Unit s) m h = omega arith
body_small Carries.Message m h = h

-- ONE SIGNAL, as the code writes it

-- of a word that is known beforehand nothing that the event or the link brings is told
pub fixed_known : (o : Given) (m : List ℕ) (w : ℕ) → w < 36 → fixed_at w ≡ from_code m (meant_by o (word_at w))
unfolding fixed_at
fixed_known o m w h = alike fixed_at (λ w. from_code m (meant_by o (word_at w))) 36 [] refl w h

-- all from 46 on are one
pub last_word : (w : ℕ) → 46 ≤ w → word_at w ≡ Told.AA-DATA-request Parameter-Data
last_word w h = sym (past words w (Told.AA-DATA-request Parameter-Data) h)

-- eight octets are written; some are stored anew, or a unit is put behind them, or a message with its length over their end
module _ {s d d₁ : List ℕ} {r : ℕ} (p : PutCode s d r d₁) (h : 12 ≤ length d) where
  pub stored : (i v : ℕ) → i < length s → PutCode (set s i v) d r (set d₁ (4 + i) v)
  stored i v g =
      record {
        answer = p.answer ∙ ap (λ (n : ℕ). 4 + n) (sym (length-set s i v));
        written = ap (λ (l : List ℕ). set l (4 + i) v) p.written ∙ put_set d s 4 i v (omega arith) g;
      }

  pub with_body : {d₂ : List ℕ} {r₂ : ℕ} (m : List ℕ) → d₂ ≡ put_at d₁ (4 + length s) m → r₂ ≡ r + length m → PutCode (s ++ m) d r₂ d₂
  with_body m e n =
      record {
        answer = n ∙ omega (arith, p.answer, length-append s m);
        written = e ∙ ap (λ (l : List ℕ). put_at l (4 + length s) m) p.written ∙ put_behind d s m 4 (omega arith);
      }

  -- written over the end of them
  pub with_end : (i : ℕ) (y : List ℕ) → length s ≡ 8 → i ≤ 8 → 8 ≤ i + length y → PutCode (take i s ++ y) d (4 + (i + length y)) (put_at d₁ (4 + i) y)
  with_end i y e g k =
      record {
        answer = omega (arith, length-append (take i s) y, length-take-le i s (omega (arith, e)));
        written = ap (λ (l : List ℕ). put_at l (4 + i) y) p.written ∙ put_over d s y 4 i (omega (arith, e)) (omega (arith, e)) (omega (arith, e));
      }

-- a signal is its front and what follows from the code on
pub fronted : (e m : List ℕ) (s : Signal) → at e 3 < 256 → signal_octets (link_at e) m s ≡ front_of e ++ from_code m s
unfolding written
fronted e m s b =
    let high = high_same (at e 2) (at e 3) b in
    let low = low_same (at e 2) (at e 3) b in
    λ i. at SG 0 ∷ at SG 1 ∷ high i ∷ low i ∷ from_code m s

pub with_front : (e m : List ℕ) (s : Signal) {d d₁ d₂ : List ℕ} {r : ℕ} → at e 3 < 256 → d₁ ≡ over (front_of e) d → PutCode (from_code m s) d₁ r d₂ →
    Put (signal_octets (link_at e) m s) d r d₂
with_front e m s {d} b f p =
    let g = fronted e m s b in
    record {
      answer = omega (arith, p.answer, ap length g, length-append (front_of e) (from_code m s));
      written = p.written ∙ ap (λ (l : List ℕ). put_at l 4 (from_code m s)) f ∙ behind (front_of e) (from_code m s) d ∙ ap (λ (l : List ℕ). over l d) (sym g);
    }

pub signal_length : (k : ℕ) (m : List ℕ) (s : Signal) → length (signal_octets k m s) ≡ 12 + length (body_of s.carries m)
signal_length k m s = written_length SG k s.code s.param s.num (body_of s.carries m)

-- HOW LONG THEY ARE: sixteen octets a signal, and the message as often as it is said

one_bound : (c : Carries) (m : List ℕ) → length (body_of c m) ≤ 4 + messages_in c * length m
unfolding unit_of
one_bound Carries.Nothing m = omega arith
one_bound (Carries.Unit s) m = omega arith
one_bound Carries.Message m = omega arith

joined_bound : (k : ℕ) (m : List ℕ) (ss : List Signal) → length (joined k m ss) ≤ 16 * length ss + messages ss * length m
unfolding joined
joined_bound k m [] = omega arith
joined_bound k m (s ∷ ss) =
    let d : (messages_in s.carries + messages ss) * length m ≡ messages_in s.carries * length m + messages ss * length m = add-mul (messages_in s.carries) (messages ss) (length m) in
    omega (arith, length-append (signal_octets k m s) (joined k m ss), signal_length k m s, one_bound s.carries m, joined_bound k m ss, d)

at_most_once : (n k : ℕ) → n ≤ 1 → n * k ≤ k
at_most_once zero k h = omega arith
at_most_once (suc zero) k h = omega arith
at_most_once (suc (suc n)) k h = absurd (omega arith)

pub joined_within : (k : ℕ) (m : List ℕ) (ss : List Signal) → length ss ≤ 8 → messages ss ≤ 1 → length (joined k m ss) ≤ 128 + length m
joined_within k m ss eight one = omega (arith, joined_bound k m ss, at_most_once (messages ss) (length m) one)

pub joined_small : (k : ℕ) (m : List ℕ) (ss : List Signal) → length ss ≤ 8 → messages ss ≤ 1 → length m ≤ 4096 → length (joined k m ss) ≤ 4240
joined_small k m ss eight one h = omega (arith, joined_within k m ss eight one)

-- ROUND TRIPS

pub signal_reread : SignalReread
unfolding written
signal_reread k m s h =
    record {
      framed = frame_reread SG k s.code s.param s.num (body_of s.carries m) (body_small s.carries m h);
      link = two_back k;
      code = refl;
      param = refl;
      num = refl;
      message = refl;
    }

pub signal_rewritten : SignalRewritten
signal_rewritten = frame_rewritten SG

pub signals_apart : SignalsApart
unfolding joined written
signals_apart k m s others =
    let b = body_of s.carries m in
    let e : 12 + length_at (joined k m (s ∷ others)) ≡ length (signal_octets k m s) = ap (λ (j : ℕ). 12 + j) (two_back (length b)) ∙ sym (signal_length k m s) in
    record {
      first = rw (e, take-append_seam);
      others = rw (e, drop-append_seam);
    }
