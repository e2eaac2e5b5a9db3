-- What writing over a record that a step found leaves: the octets of the link that the step left. Assumes nothing.
use Prim.Native.Nat.{ℕ, suc, ◌+◌, ◌*◌, ◌/◌, ◌%◌, ◌<◌}
use mathlib.Core.Path.{◌≡◌, refl, sym, ap, ◌∙◌}
use mathlib.Core.Bool.{Bool, true, false, cond}
use mathlib.Core.List.{List, [], ◌∷◌}
use lib.Dec.{eqb}
use lib.ListN.{length, set}
use Rattle.unit.specs.Proving.{mps_code, ups_code}
use Rattle.table6.specs.Stored.{field_sent}
use Rattle.link.specs.declared.Bsnt.{Bsnt}
use Rattle.link.specs.declared.Link.{Link}
use Rattle.link.specs.declared.Note.{Note}
use Rattle.link.specs.Signal.{num}
use Rattle.link.specs.Stored.{bsnt_noted, flag_noted, Noted}
use Rattle.octet.specs.Octets.{Octets, at, bit}
use Rattle.record.specs.LinkRecord.{state_code, octets_of, link_of, well_formed}
use Rattle.record.specs.Decoded.{noted_in}
use Rattle.record.proofs.LinkRecord.{repacked}

-- what is written always: the octets of state, flags, MPS, UPS and timers, and C1
abbrev pub written : List ℕ → Link → List ℕ
written r l =
    let flags = bit l.ins + 2 * bit l.lpo in
    let timers = bit l.t1 + 2 * bit l.t2 + 4 * bit l.t3 in
    set (set (set (set (set (set (set r 2 (state_code l.state)) 3 flags) 4 (mps_code l.mps)) 5 (ups_code l.ups)) 6 timers) 12 (l.c1 / 256)) 13 (l.c1 % 256)

-- and the field that was sent
abbrev pub sent_in : ℕ → List ℕ → List ℕ
sent_in sent r = cond (eqb sent 0) r (set r 17 (field_sent sent))

-- a link with other values in what is not written always
abbrev with : Link → Bsnt → ℕ → Bool → ℕ → Link
with l bsnt n1 congested last =
    record {
      state = l.state;
      ins = l.ins;
      lpo = l.lpo;
      mps = l.mps;
      ups = l.ups;
      t1 = l.t1;
      t2 = l.t2;
      t3 = l.t3;
      bsnt = bsnt;
      c1 = l.c1;
      n1 = n1;
      congested = congested;
      last = last;
    }

over : (k l : Link) → written (octets_of k) l ≡ octets_of (with l k.bsnt k.n1 k.congested k.last)
unfolding octets_of
over k l = refl

noting : (l : Link) (b : Bsnt) (n : ℕ) (c : Bool) (t : ℕ) (e : List ℕ) (noted : Note) →
    noted_in noted (octets_of (with l b n c t)) e ≡ octets_of (with l (bsnt_noted noted (num (at e 6) (at e 7) (at e 8)) b) n (flag_noted noted c) t)
unfolding octets_of
noting l b n c t e Note.Nothing = refl
noting l b n c t e Note.Number = refl
noting l b n c t e Note.Forgotten = refl
noting l b n c t e Note.Ceased = refl
noting l b n c t e Note.Congested = refl

sending : (l : Link) (b : Bsnt) (n : ℕ) (c : Bool) (t x : ℕ) (none : Bool) →
    cond none (octets_of (with l b n c t)) (set (octets_of (with l b n c t)) 17 x) ≡ octets_of (with l b n c (cond none t x))
unfolding octets_of
sending l b n c t x true = refl
sending l b n c t x false = refl

octets : (r : List ℕ) → ((i : ℕ) → at r i < 256) → Octets r
octets [] h = tt
octets (x ∷ r) h = (h 0, octets r (λ i. h (suc i)))

pub rewritten : (r e : List ℕ) (l : Link) (noted : Note) (sent : ℕ) → ((i : ℕ) → at r i < 256) → length r ≡ 20 → well_formed r ≡ true →
    Noted (link_of r) (num (at e 6) (at e 7) (at e 8)) l noted sent → sent_in sent (noted_in noted (written r l) e) ≡ octets_of l
rewritten r e l noted sent o n w k =
    let f = link_of r in
    ap (λ (x : List ℕ). sent_in sent (noted_in noted (written x l) e)) (sym (repacked r (octets r o) n w))
    ∙ ap (λ (x : List ℕ). sent_in sent (noted_in noted x e)) (over f l)
    ∙ ap (sent_in sent) (noting l f.bsnt f.n1 f.congested f.last e noted)
    ∙ sending l _ f.n1 _ f.last (field_sent sent) (eqb sent 0)
    ∙ (λ i. octets_of (with l (sym k.bsnt i) (sym k.n1 i) (sym k.congested i) (sym k.last i)))
