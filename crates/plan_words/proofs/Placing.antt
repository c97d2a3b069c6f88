-- The groups at their places behind the six numbers.
use mathlib.Core.Path.{◌≡◌, refl, ◌∙◌}
use mathlib.Core.List.{append_assoc}
use Prim.Native.Nat.{◌≤◌}
use native.Mathlib.Omega.{arith}
use lib.ListN.{length-append}
use lib.Seq.{drop-drop}
use borrow.Rule.Slice.PartMut.{put_mid}
use Rattle.numbers.specs.Parts.{put_at}
use Rattle.std.specs.Prelude.{◌∷◌, ◌++◌}
use Rattle.rules.specs.Base.{Bool, true, false, List, [], ℕ, suc, length, eqb, pick}
use Rattle.rules.proofs.BaseLaws.{padded-length}
use Rattle.rules.specs.TwoCalls.{counted}
use Rattle.gc_candidates.specs.Plan.{planned, planned_from}
use Rattle.as_numbers.specs.StateLaws.{put_next, put_whole}
use Rattle.plan_words.specs.PlanWords.{group_words}

-- the callee filled its part `&mut h[at..at + k]`
pub part_filled : (h ys bs : List ℕ) (at k : ℕ) → length bs ≡ k → ys ≡ bs → put_mid at k h ys ≡ put_at h at bs
unfolding put_at
part_filled h ys bs at k l e = rw (e, drop-drop k at h, l) refl

from-few : (i : ℕ) (ns : List ℕ) (generation : ℕ) → length (planned_from i ns generation) ≤ length ns
unfolding planned_from
from-few i [] generation = omega arith
from-few i (n ∷ ns) generation = go (eqb n generation) (from-few (suc i) ns generation)
  where
    go : (t : Bool) → length (planned_from (suc i) ns generation) ≤ length ns
        → length (pick t (i ∷ planned_from (suc i) ns generation) (planned_from (suc i) ns generation)) ≤ suc (length ns)
    go true h = omega arith
    go false h = omega arith

-- a group fits its words
pub group-length : (slots : List ℕ) (generation : ℕ) → length slots ≡ 256 → length (group_words (planned slots generation)) ≡ 257
unfolding group_words planned
group-length slots generation e = padded-length 257 (counted (planned_from 0 slots generation)) (omega (arith, e, from-few 0 slots generation))

-- one behind the other they are all of the words
pub all_placed : (s head one two three : List ℕ) → length s ≡ 777 → length head ≡ 6 → length one ≡ 257 → length two ≡ 257 → length three ≡ 257
    → put_at (put_at (put_at (put_at s 0 head) 6 one) 263 two) 520 three ≡ head ++ (one ++ (two ++ three))
all_placed s head one two three e a b c d =
    let l1 : length (head ++ one) ≡ 263 = omega (arith, length-append head one) in
    let l2 : length ((head ++ one) ++ two) ≡ 520 = omega (arith, length-append (head ++ one) two) in
    let l3 : length (((head ++ one) ++ two) ++ three) ≡ length s = omega (arith, length-append ((head ++ one) ++ two) three) in
    rw (put_next s head one 6 a, put_next s (head ++ one) two 263 l1, put_next s ((head ++ one) ++ two) three 520 l2) (put_whole s (((head ++ one) ++ two) ++ three) l3)
    ∙ append_assoc (head ++ one) two three
    ∙ append_assoc head one (two ++ three)
