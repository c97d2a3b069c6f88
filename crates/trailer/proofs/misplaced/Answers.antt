use mathlib.Core.Path.{◌≡◌, refl, sym, ◌∙◌}
use mathlib.Core.Bool.{Bool, true, false}
use Prim.Native.Nat.{ℕ, ◌+◌}
use lib.Dec.{ltb}
use Rattle.numbers.specs.Choice.{pick}
use Rattle.rules.specs.Trailer.{misplaced}
use Rattle.trailer.proofs.misplaced.Goals as goal

-- what is held against T, of a delete and of an object
of-delete : (offset p q : ℕ) (d : Bool) → d ≡ true → p ≡ q → ltb offset p ≡ pick d (ltb offset q) (ltb offset (q + 20))
of-delete offset p q d is e = rw (is, e) refl

of-object : (offset p q : ℕ) (d : Bool) → d ≡ false → p ≡ q → ltb offset (p + 20) ≡ pick d (ltb offset q) (ltb offset (q + 20))
of-object offset p q d is e = rw (is, e) refl

pub returns-then-is_delete : goal.returns-then-is_delete
unfolding misplaced
returns-then-is_delete c = of-delete _ _ _ _ (sym c.is_delete.ensures ∙ c.if-is_delete.true) c.position-position.ensures

pub returns : goal.returns
unfolding misplaced
returns c = of-object _ _ _ _ (sym c.is_delete.ensures ∙ c.if-is_delete.false) c.position-position.ensures
