-- Lists in which no number stands twice.
use Rattle.std.specs.Prelude.{◌≡◌, refl, ◌<◌, ◌∷◌, ◌++◌}
use Rattle.std.proofs.Common.{sym, ap, arith}
use Rattle.rules.specs.Base.{List, [], ℕ, zero, suc, length, get_or}
use Rattle.rules.specs.BaseLaws.{All}
use Rattle.rules.proofs.BaseLaws.{all-at, all_append}
use Rattle.gc_split.specs.Distinct.{Other, Distinct}

-- one list behind the other
pub distinct-both : (xs ys : List ℕ) → Distinct xs → Distinct ys → All (Other ys) xs → Distinct (xs ++ ys)
distinct-both [] ys d e o = e
distinct-both (x ∷ xs) ys d e o = (all_append (λ (y : ℕ). x ≡ y → ⊥) xs ys d.0 o.0, distinct-both xs ys d.1 e o.1)

-- so no number stands at two places
pub distinct-at : (xs : List ℕ) → Distinct xs → (i j : ℕ) → i < length xs → j < length xs → get_or xs i 0 ≡ get_or xs j 0 → i ≡ j
distinct-at [] d i j h g e = absurd (omega arith)
distinct-at (x ∷ xs) d zero zero h g e = refl
distinct-at (x ∷ xs) d zero (suc j) h g e = absurd (all-at (λ (y : ℕ). x ≡ y → ⊥) xs j 0 d.0 (omega arith) e)
distinct-at (x ∷ xs) d (suc i) zero h g e = absurd (all-at (λ (y : ℕ). x ≡ y → ⊥) xs i 0 d.0 (omega arith) (sym e))
distinct-at (x ∷ xs) d (suc i) (suc j) h g e = ap suc (distinct-at xs d.1 i j (omega arith) (omega arith) e)
