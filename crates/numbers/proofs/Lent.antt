-- What a call that was lent `&mut s[at..]` leaves in the whole, for a caller's proof.
use mathlib.Core.Path.{◌≡◌, refl, sym, ap, ap₂, ◌∙◌}
use mathlib.Core.List.{List, ◌++◌, append-nil}
use Prim.Native.Nat.{ℕ, ◌+◌, ◌-◌, ◌≤◌}
use native.Mathlib.Omega.{arith}
use lib.ListN.{length, take, drop, length-take, drop_of_length-le}
use lib.Seq.{take-take}
use borrow.Rule.Slice.PartMut.{put_mid}
use Rattle.numbers.specs.LittleEndian.{le_value}
use Rattle.numbers.specs.Parts.{front, put_at, part-back, put-behind, front_length}

-- the callee put bs at the front of its part
pub lent : (h ys bs : List ℕ) (at : ℕ) → at + length bs ≤ length h
    → ys ≡ front bs (take (length h - at) (drop at h)) → put_mid at (length h - at) h ys ≡ put_at h at bs
lent h ys bs at fit e = rw e (part-back h at bs fit)

-- the first n bytes were lent, and bs, as long as they, was put there
pub front-part : (s bs : List ℕ) (n : ℕ) → length bs ≡ n → front bs (take n s) ++ drop n s ≡ front bs s
unfolding front
front-part s bs n e = rw (e, drop_of_length-le (take n s) {i = n} (omega (arith, length-take n s)), append-nil) refl

-- one writer after another, each in the part behind what stands there
pub behind : (s₀ s ys xs bs : List ℕ) (at : ℕ) → length xs ≡ at → at + length bs ≤ length s₀
    → s ≡ front xs s₀ → ys ≡ front bs (take (length s - at) (drop at s)) → put_mid at (length s - at) s ys ≡ front (xs ++ bs) s₀
behind s₀ s ys xs bs at l fit e f =
    let same : length s ≡ length s₀ = ap length e ∙ front_length s₀ xs (omega arith) in
    lent s ys bs at (omega arith) f ∙ ap₂ (λ (t : List ℕ) (n : ℕ). put_at t n bs) e (sym l) ∙ put-behind s₀ xs bs

-- a number that was read in `&s[at..]`
pub read-in : (s : List ℕ) (at k : ℕ) (r : ℕ) → at + k ≤ length s → r ≡ le_value (take k (take (length s - at) (drop at s))) → r ≡ le_value (take k (drop at s))
read-in s at k r fit e = e ∙ ap le_value (take-take k (length s - at) (drop at s) (omega arith))
