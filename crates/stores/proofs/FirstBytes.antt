-- The first bytes of what is to be written, by the lesser of two counts.
use mathlib.Core.Path.{◌≡◌, refl, sym, ap, ◌∙◌}
use mathlib.Core.List.{List, [], ◌∷◌}
use Prim.Native.Nat.{ℕ, zero, suc, ◌≤◌, min, ◌/◌, ◌%◌}
use native.Mathlib.Omega.{arith}
use native.Mathlib.Nat.{min-zero}
use lib.ListN.{length, take}
use lib.Seq.{take-nil}
use Rattle.numbers.specs.LittleEndian.{le_bytes, le-length}

pub take-lesser : (k : ℕ) (l : List ℕ) → take (min (length l) k) l ≡ take k l
take-lesser zero l = rw (min-zero (length l)) refl
take-lesser (suc k) [] = take-nil (min zero (suc k))
take-lesser (suc k) (x ∷ xs) =
    let one_more : min (suc (length xs)) (suc k) ≡ suc (min (length xs) k) = omega arith in
    rw one_more (ap (λ (l : List ℕ). x ∷ l) (take-lesser k xs))

le-take : (m n x : ℕ) → m ≤ n → take m (le_bytes n x) ≡ le_bytes m x
unfolding le_bytes
le-take zero n x h = refl
le-take (suc m) zero x h = absurd (omega arith)
le-take (suc m) (suc n) x h = ap (λ (l : List ℕ). x % 256 ∷ l) (le-take m n (x / 256) (omega arith))

pub le-lesser : (n k x : ℕ) → le_bytes (min n k) x ≡ take k (le_bytes n x)
le-lesser n k x =
    let l = le-length n x in
    sym (le-take (min n k) n x (omega arith)) ∙ ap (λ (m : ℕ). take (min m k) (le_bytes n x)) (sym l) ∙ take-lesser k (le_bytes n x)
