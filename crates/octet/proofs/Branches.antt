-- What `&&` and `||` come to, on either way through them, and what `||` tells of its two sides. Assumes nothing.
use mathlib.Core.Path.{◌≡◌, refl, sym, ap, ◌∙◌}
use mathlib.Core.Bool.{Bool, true, false, ◌&&◌, ◌||◌, true≢false}
use mathlib.Core.Logic.{◌⊎◌, inl, inr}

-- the second test decides
pub on : {a b x : Bool} → a ≡ true → x ≡ b → x ≡ (a && b)
on {b = b} p q = q ∙ ap (λ v. v && b) (sym p)

-- the first has decided
pub off : {a x : Bool} (b : Bool) → a ≡ false → x ≡ a → x ≡ (a && b)
off b p q = q ∙ p ∙ ap (λ v. v && b) (sym p)

pub or_on : {a x : Bool} (b : Bool) → a ≡ true → x ≡ a → x ≡ (a || b)
or_on b p q = q ∙ p ∙ ap (λ v. v || b) (sym p)

pub or_off : {a b x : Bool} → a ≡ false → x ≡ b → x ≡ (a || b)
or_off {b = b} p q = q ∙ ap (λ v. v || b) (sym p)

pub neither : (a b : Bool) → a || b ≡ false → (a ≡ false) × (b ≡ false)
neither true b h = absurd (true≢false h)
neither false b h = (refl, h)

pub either : (a b : Bool) → a || b ≡ true → (a ≡ true) ⊎ (b ≡ true)
either true b h = inl refl
either false b h = inr h
