-- What a step notes is what becomes of BSNT, of the congested flag and of the last field. Assumes nothing.
use mathlib.Core.Path.{◌≡◌, refl, sym, ap, ◌∙◌}
use mathlib.Core.Bool.{Bool, true, false, cond, true≢false}
use Prim.Native.Nat.{ℕ}
use native.Mathlib.Omega.{arith}
use lib.Dec.{eqb}
use Rattle.unit.specs.declared.Arrived.{Arrived}
use Rattle.table6.specs.declared.Does.{Does}
use Rattle.table6.specs.Summary.{keep, put, over}
use Rattle.table6.specs.Stored.{sent_by, field_sent, last_op}
use Rattle.link.specs.declared.Link.{Link}
use Rattle.link.specs.declared.Event.{Event}
use Rattle.link.specs.declared.Event.TheVariants as event
use Rattle.link.specs.declared.View.{View}
use Rattle.link.specs.declared.Note.{Note}
use Rattle.link.specs.Stored.{bare_view, view_of, number_in, arrived_of, risen_of, applied_of, bsnt_noted, flag_noted, last_sent, Noted, noted_of}
use Rattle.link.proofs.Arrivals.{Met-so, left_of, down, undecided_29, undecided_30}

-- OF AN EVENT BY ITSELF
record ByItself (l : Link) (v : View) (noted : Note) : Type 0 where
  bsnt : (arrived_of v l).bsnt ≡ bsnt_noted noted (number_in v) l.bsnt
  congested : (arrived_of v l).congested ≡ flag_noted noted l.congested
  last : (arrived_of v l).last ≡ l.last

t3_by_itself : (b : Bool) (l : Link) → ByItself l (bare_view (cond b 34 33)) Note.Nothing
t3_by_itself true l = record { bsnt = refl; congested = refl; last = refl }
t3_by_itself false l = record { bsnt = refl; congested = refl; last = refl }

by_itself : (e : Event) (l : Link) → ByItself l (view_of e l.c1) (noted_of e)
by_itself (event.Data Arrived.INS n) l = record { bsnt = refl; congested = refl; last = refl }
by_itself event.T3 l = t3_by_itself (eqb l.c1 0) l
by_itself e l = record { bsnt = refl; congested = refl; last = refl }

-- where a connection comes up the flag is not altered
flag_kept : (e : Event) (l : Link) (d : Does) → Met-so l (view_of e l.c1) d → d.up ≡ true → flag_noted (noted_of e) l.congested ≡ l.congested
flag_kept (event.Congestion p) l d h u = absurd (true≢false (sym u ∙ down 29 l.state _ l.congested d undecided_29 refl h))
flag_kept event.CongestionCeased l d h u = absurd (true≢false (sym u ∙ down 30 l.state _ l.congested d undecided_30 refl h))
flag_kept e l d h u = refl

-- OF A STEP
sent_last : (n old : ℕ) → over (last_op n) old ≡ last_sent (sent_by n) old
sent_last n old = by (eqb (sent_by n) 0) where
  by : (b : Bool) → over (cond b keep (put (field_sent (sent_by n)))) old ≡ cond b old (field_sent (sent_by n))
  by true = refl
  by false = refl

pub noting : (l : Link) (e : Event) (d : Does) →
    let v = view_of e l.c1 in
    Met-so l v d → Noted l (number_in v) (left_of l v d) (cond d.up Note.Forgotten (noted_of e)) (sent_by d.number)
noting l e d h = by d.up refl where
  v : View
  v = view_of e l.c1

  a : Link
  a = arrived_of v l

  b : ByItself l v (noted_of e)
  b = by_itself e l

  last : over (last_op d.number) a.last ≡ last_sent (sent_by d.number) l.last
  last = sent_last d.number a.last ∙ ap (last_sent (sent_by d.number)) b.last

  by : (z : Bool) → d.up ≡ z → Noted l (number_in v) (applied_of d.number (cond z (risen_of v.1 a) a)) (cond z Note.Forgotten (noted_of e)) (sent_by d.number)
  by true u = record { n1 = refl; bsnt = refl; congested = b.congested ∙ flag_kept e l d h u; last = last; six = omega arith }
  by false u = record { n1 = refl; bsnt = b.bsnt; congested = b.congested; last = last; six = omega arith }
