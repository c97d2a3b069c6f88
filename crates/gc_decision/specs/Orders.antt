-- The numbers of a group's files, as the code has them: what is left of the shards in one list, fragments in another.
use Rattle.std.specs.Prelude.{◌≡◌, refl, ◌⊎◌, ◌≤◌, ◌<◌, ◌∷◌, ◌++◌, ◌+◌, ◌^◌}
use Rattle.std.proofs.Common.{ap, ◌∙◌, inl, inr, arith, lt-ltb, le-ltb, eq-eqb, ne_eqb, length-append, length-take-le, take_at, get_or-set_same, get_or-set_other}
use Rattle.std.proofs.lemmas.List.{length-replicate}
use Rattle.std.proofs.Math.Seq.{take-append_seam, take-append-add, set_out}
use Rattle.numbers.specs.Parts.{front}
use Rattle.numbers.specs.GroupLaws.{either_way}
use Rattle.rules.specs.Base.{Bool, true, false, List, [], ℕ, zero, suc, length, get_or, set, take, drop, ltb, eqb, pick}
use Rattle.rules.specs.BaseLaws.{All}
use Rattle.rules.proofs.BaseLaws.{same?, zero-or-more, replicate-at}
use Rattle.rules.specs.Ops.{Op, size_of, shard_for}
use Rattle.rules.proofs.OpsLaws.{shard-most}
use Rattle.batch.specs.SizeLaws.{size-bound}
use Rattle.gc_split.specs.Tally.{Tally, piece_no, closing, cutting, entering, taking, tally_from, tally_of, empty_tally, closed_of, rest_of, rests_from, order_of, Within}
use Rattle.gc_split.proofs.BoundLaws.{cut-within, take_within, empty-within}
use Rattle.gc_split.proofs.PieceLaws.{take-cuts}
use Rattle.gc_split.proofs.OrderLaws.{fragments-among, order-counted}
use Rattle.gc_files.specs.Places.{Standing, moving_at, op_at, placed_ops}
use Rattle.gc_files.specs.PlaceLaws.{moving-told}

-- numbers of 32 bits
abbrev pub Words : List ℕ → Type 0
Words ns = (k : ℕ) → get_or ns k 0 < 2 ^ 32

-- ---- a group's operations
-- an operation is not larger than a slot's object
abbrev pub Short : Op → Type 0
Short o = size_of o.content ≤ 2 ^ 21

-- placed ones are not
pub placed-short : (heap xs ps : List ℕ) → Standing heap ps → All Short (placed_ops heap xs ps)
unfolding placed_ops
placed-short heap [] ps s = tt
placed-short heap (x ∷ xs) [] s = tt
placed-short heap (x ∷ xs) (p ∷ ps) s = go (zero-or-more p) (placed-short heap xs ps (λ k. s (suc k)))
  where
    go : (p ≡ 0) ⊎ (0 < p) → All Short (placed_ops heap xs ps) → All Short (pick (eqb p 0) (placed_ops heap xs ps) (op_at heap x p ∷ placed_ops heap xs ps))
    go (inl e) ih = rw (eq-eqb p 0 e) ih
    go (inr some) ih =
        let told = moving-told heap x p some (s 0) in
        let few = size-bound (moving_at heap x p) in
        rw (ne_eqb p 0 (λ z. omega arith)) (omega (arith, told.size, told.short), ih)

-- nor more than entries
pub placed-count : (heap xs ps : List ℕ) → length (placed_ops heap xs ps) ≤ length xs
unfolding placed_ops
placed-count heap [] ps = omega arith
placed-count heap (x ∷ xs) [] = omega arith
placed-count heap (x ∷ xs) (p ∷ ps) = go (eqb p 0) (placed-count heap xs ps)
  where
    go : (b : Bool) → length (placed_ops heap xs ps) ≤ length xs → length (pick b (placed_ops heap xs ps) (op_at heap x p ∷ placed_ops heap xs ps)) ≤ suc (length xs)
    go true ih = omega arith
    go false ih = omega arith

-- ---- their tally
-- within bounds, and every fragment's number fits 32 bits
pub record Tallied (t : Tally) : Type 0 where
  pub within : Within t
  pub cuts : Words t.cuts
  pub room : length t.cuts ≡ 256

-- one number set
set-small : (xs : List ℕ) (n x k : ℕ) → x < 2 ^ 32 → get_or xs k 0 < 2 ^ 32 → get_or (set xs n x) k 0 < 2 ^ 32
set-small xs n x k new old = go (same? k n) (either_way n (length xs))
  where
    go : (k ≡ n) ⊎ (k ≡ n → ⊥) → (n < length xs) ⊎ (length xs ≤ n) → get_or (set xs n x) k 0 < 2 ^ 32
    go (inr d) h = rw (get_or-set_other xs n k x 0 d) old
    go (inl e) (inl h) = rw (e, get_or-set_same xs n x 0 h) new
    go (inl e) (inr h) = rw (set_out xs n x h) old

-- a cut notes a number of 32 bits
take-small : (target slot_size n size : ℕ) (t : Tally) → n < 65 → Tallied t → Words (taking target slot_size n size t).cuts
unfolding taking entering cutting
take-small target slot_size n size t low w k = go (ltb target (get_or t.sizes n 0))
  where
    cut : Tally
    cut = record {
      sizes = set t.sizes n 0;
      counts = set t.counts n 0;
      rounds = set t.rounds n (get_or t.rounds n 0 + 1);
      cuts = set t.cuts t.totals.files (piece_no n (get_or t.rounds n 0));
      totals = closing slot_size (get_or t.sizes n 0) (get_or t.counts n 0) t.totals;
    }

    go : (b : Bool) → get_or (pick b cut t).cuts k 0 < 2 ^ 32
    go true = set-small t.cuts t.totals.files (piece_no n (get_or t.rounds n 0)) k (omega (arith, w.within.rounds n, w.within.entries)) (w.cuts k)
    go false = w.cuts k

-- an entry more
taken : (target slot_size n size : ℕ) (t : Tally) → Within t → (taking target slot_size n size t).totals.entries ≡ t.totals.entries + 1
unfolding taking entering
taken target slot_size n size t within = ap (λ (k : ℕ). k + 1) (cut-within target slot_size n t within).entries

-- operation by operation
from-tallied : (target slot_size : ℕ) (ops : List Op) (t : Tally) → All Short ops → t.totals.entries + length ops ≤ 65536 → Tallied t → Tallied (tally_from target slot_size ops t)
unfolding tally_from
from-tallied target slot_size [] t all room w = w
from-tallied target slot_size (o ∷ os) t all room w =
    let n = shard_for o.content in
    let size = size_of o.content in
    let low = shard-most o.content in
    from-tallied target slot_size os (taking target slot_size n size t) all.1 (omega (arith, taken target slot_size n size t w.within))
    (record {
      within = take_within target slot_size n size t w.within (omega arith) all.0;
      cuts = take-small target slot_size n size t low w;
      room = take-cuts target slot_size n size t ∙ w.room;
    })

-- before the first
none-tallied : Tallied empty_tally
none-tallied = record { within = empty-within; cuts = λ k. omega (arith, replicate-at {A = ℕ} 256 k 0); room = length-replicate {A = ℕ} 256 0 }

-- behind the last
pub tallied : (target slot_size : ℕ) (ops : List Op) → All Short ops → length ops ≤ 65536 → Tallied (tally_of target slot_size ops)
unfolding tally_of
tallied target slot_size ops all room = from-tallied target slot_size ops empty_tally all (omega arith) none-tallied

-- ---- the order
-- the numbers of that many files: those of what is left of the shards, then those of the fragments
abbrev pub order_in : ℕ → List ℕ → List ℕ → List ℕ
order_in files rests cuts = take files (rests ++ cuts)

-- that many
pub order-long : (files : ℕ) (rests cuts : List ℕ) → files ≤ length cuts → length (order_in files rests cuts) ≡ files
order-long files rests cuts h = length-take-le files (rests ++ cuts) (omega (arith, length-append rests cuts))

-- they are read where they were put: in front of the fragments' list
pub order-read : (files : ℕ) (rests cuts : List ℕ) → files ≤ length cuts → take files (front (order_in files rests cuts) cuts) ≡ order_in files rests cuts
unfolding front
order-read files rests cuts h = take_at (order_in files rests cuts) (drop (length (order_in files rests cuts)) cuts) files (order-long files rests cuts h)

-- as many of them as there is room for
abbrev pub at_most : ℕ → ℕ → ℕ
at_most files room = pick (ltb files room) files room

-- not more
pub at-most-room : (many files room : ℕ) → many ≡ at_most files room → many ≤ room
at-most-room many files room e = go (either_way files room)
  where
    go : (files < room) ⊎ (room ≤ files) → many ≤ room
    go (inl h) = rw (e, lt-ltb files room h) (omega arith)
    go (inr h) = rw (e, le-ltb files room h) (omega arith)

-- all, where there is room
pub at-most-all : (files room : ℕ) → files ≤ room → at_most files room ≡ files
at-most-all files room few = go (either_way files room)
  where
    go : (files < room) ⊎ (room ≤ files) → at_most files room ≡ files
    go (inl h) = rw (lt-ltb files room h) refl
    go (inr h) = rw (le-ltb files room h) (omega arith)

-- what is left of the shards is read where it was put
pub rests-read : (rests blank lent : List ℕ) (left : ℕ) → lent ≡ front rests blank → left ≡ length rests → (left ≤ length lent) × (take left lent ≡ rests)
unfolding front
rests-read rests blank lent left e n = rw (e, n) (omega (arith, length-append rests (drop (length rests) blank)), take-append_seam rests (drop (length rests) blank))

-- what is left of the shards from n on
rests-small : (n : ℕ) (cs rs : List ℕ) → n + length cs ≤ 65 → ((k : ℕ) → get_or rs k 0 ≤ 65536) → Words (rests_from n cs rs)
unfolding rests_from rest_of
rests-small n [] rs h g k = omega arith
rests-small n (c ∷ cs) [] h g k = omega arith
rests-small n (c ∷ cs) (r ∷ rs) h g k = go (eqb c 0) k (rests-small (suc n) cs rs (omega arith) (λ j. g (suc j)))
  where
    go : (b : Bool) (j : ℕ) → Words (rests_from (suc n) cs rs) → get_or (pick b [] (piece_no n r ∷ []) ++ rests_from (suc n) cs rs) j 0 < 2 ^ 32
    go true j ih = ih j
    go false zero ih = omega (arith, g 0)
    go false (suc j) ih = ih j

-- a front of such numbers
front-small : (n : ℕ) (xs : List ℕ) → Words xs → Words (take n xs)
front-small zero xs h k = omega arith
front-small (suc n) [] h k = omega arith
front-small (suc n) (x ∷ xs) h zero = h 0
front-small (suc n) (x ∷ xs) h (suc k) = front-small n xs (λ j. h (suc j)) k

-- one list behind the other
both_small : (xs ys : List ℕ) → Words xs → Words ys → Words (xs ++ ys)
both_small [] ys h g k = g k
both_small (x ∷ xs) ys h g zero = h 0
both_small (x ∷ xs) ys h g (suc k) = both_small xs ys (λ j. h (suc j)) g k

-- every file's number fits 32 bits
pub order_small : (t : Tally) → Tallied t → Words (order_of t)
unfolding order_of
order_small t w =
    both_small (rests_from 0 t.counts t.rounds) (take t.totals.files t.cuts)
    (rests-small 0 t.counts t.rounds (omega (arith, w.within.count_shards)) (λ k. omega (arith, w.within.rounds k, w.within.entries)))
    (front-small t.totals.files t.cuts w.cuts)

-- the two lists give the order
pub in_order : (target slot_size : ℕ) (ops : List Op) → let t = tally_of target slot_size ops in Tallied t → (closed_of slot_size t).files ≤ 256
    → order_in (closed_of slot_size t).files (rests_from 0 t.counts t.rounds) t.cuts ≡ order_of t
unfolding order_of
in_order target slot_size ops w most =
    let t = tally_of target slot_size ops in
    let rests = rests_from 0 t.counts t.rounds in
    let few : t.totals.files ≤ 256 = omega (arith, fragments-among slot_size t) in
    let cut = length-take-le t.totals.files t.cuts (omega (arith, w.room)) in
    let count : (closed_of slot_size t).files ≡ length rests + t.totals.files =
    omega (arith, order-counted target slot_size ops most, length-append rests (take t.totals.files t.cuts), cut) in
    ap (λ (n : ℕ). take n (rests ++ t.cuts)) count ∙ take-append-add rests t.cuts t.totals.files
