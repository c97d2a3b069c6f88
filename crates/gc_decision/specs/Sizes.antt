-- The bytes of file_size that a group's files come to, by their totals.
use Rattle.std.specs.Prelude.{◌≡◌, refl, ◌<◌, ◌∷◌, ◌++◌, ◌+◌, ◌*◌}
use Rattle.std.proofs.Common.{◌∙◌, not-suc-le-zero, le_of_suc-le-suc, arith, length-append, length-set}
use Rattle.std.proofs.lemmas.List.{length-replicate}
use Rattle.rules.specs.Base.{Bool, true, false, List, [], map, ℕ, zero, suc, length, get_or, set, replicate, ltb, pick, keep, sum}
use Rattle.rules.specs.Ops.{Op, size_of, objects_of, file_bytes, shard_for}
use Rattle.rules.proofs.OpsLaws.{file-length, shard-most}
use Rattle.gc_split.specs.Tally.{totals_for}
use Rattle.rules.specs.Maintenance.{Shard, no_entries, Split, cut_off, joining, split_from, has_entries, files_of}

-- ---- sums
-- of two lists
sum_both : (f : List Op → ℕ) (xs ys : List (List Op)) → sum f (xs ++ ys) ≡ sum f xs + sum f ys
unfolding sum
sum_both f [] ys = omega arith
sum_both f (x ∷ xs) ys = omega (arith, sum_both f xs ys)

-- one element set
sum-set : (f : Shard → ℕ) (xs : List Shard) (n : ℕ) (x : Shard) → n < length xs → sum f (set xs n x) + f (get_or xs n no_entries) ≡ sum f xs + f x
unfolding sum
sum-set f [] n x h = absurd (not-suc-le-zero h)
sum-set f (y ∷ ys) zero x h = omega arith
sum-set f (y ∷ ys) (suc n) x h = omega (arith, sum-set f ys n x (le_of_suc-le-suc h))

-- ---- the entries of a split
-- of one shard
abbrev entries_in : Shard → ℕ
entries_in s = length s.ops

-- of all, and of the fragments
abbrev entries_of : Split → ℕ
entries_of s = sum entries_in s.shards + sum length s.fragments

-- one fragment more
sum-last : (fs : List (List Op)) (f : List Op) → sum length (fs ++ (f ∷ [])) ≡ sum length fs + length f
unfolding sum
sum-last fs f = omega (arith, sum_both length fs (f ∷ []))

-- a split has 65 shards, and that many entries
record Holds (n : ℕ) (s : Split) : Type 0 where
  shards : length s.shards ≡ 65
  entries : entries_of s ≡ n

-- a shard cut off
cut_holds : (target n k : ℕ) (s : Split) → n < 65 → Holds k s → Holds k (cut_off target n s)
unfolding cut_off
cut_holds target n k s low w = go (ltb target (get_or s.shards n no_entries).size)
  where
    go : (b : Bool) → Holds k
        (pick b (record { shards = set s.shards n no_entries; fragments = s.fragments ++ ((get_or s.shards n no_entries).ops ∷ []) }) s)
    go true = record {
      shards = length-set s.shards n no_entries ∙ w.shards;
      entries = omega (arith, sum-set entries_in s.shards n no_entries (omega (arith, low, w.shards)), sum-last s.fragments (get_or s.shards n no_entries).ops, w.entries);
    }
    go false = w

-- an entry joins
join-holds : (o : Op) (n k : ℕ) (s : Split) → n < 65 → Holds k s → Holds (k + 1) (joining o n s)
unfolding joining
join-holds o n k s low w =
    let old = get_or s.shards n no_entries in
    let new : Shard = record { size = old.size + size_of o.content; ops = old.ops ++ (o ∷ []) } in
    record {
      shards = length-set s.shards n new ∙ w.shards;
      entries = omega (arith, sum-set entries_in s.shards n new (omega (arith, low, w.shards)), length-append old.ops (o ∷ []), w.entries);
    }

-- entry by entry
from-holds : (target : ℕ) (ops : List Op) (k : ℕ) (s : Split) → Holds k s → Holds (k + length ops) (split_from target ops s)
unfolding split_from
from-holds target [] k s w = let e : k + 0 ≡ k = omega arith in rw e w
from-holds target (o ∷ os) k s w =
    let n = shard_for o.content in
    let low = shard-most o.content in
    let e : k + suc (length os) ≡ k + 1 + length os = omega arith in
    rw e (from-holds target os (k + 1) _ (join-holds o n k (cut_off target n s) low (cut_holds target n k s low w)))

-- before the first
none_in : (n : ℕ) → sum entries_in (replicate n no_entries) ≡ 0
unfolding sum
none_in zero = refl
none_in (suc n) = omega (arith, none_in n)

-- "The writer never writes an empty list."
kept-entries : (ss : List Shard) → sum length (keep has_entries (map (λ (s : Shard). s.ops) ss)) ≡ sum entries_in ss
unfolding keep sum
kept-entries [] = refl
kept-entries (s ∷ ss) = go s.ops (kept-entries ss)
  where
    rest : List (List Op)
    rest = keep has_entries (map (λ (s : Shard). s.ops) ss)

    go : (f : List Op) → sum length rest ≡ sum entries_in ss → sum length (pick (has_entries f) (f ∷ rest) rest) ≡ length f + sum entries_in ss
    go [] ih = omega (arith, ih)
    go (o ∷ os) ih = omega (arith, ih)

-- every operation is in one file
pub files-entries : (target : ℕ) (ops : List Op) → sum length (files_of target ops) ≡ length ops
unfolding files_of sum
files-entries target ops =
    let start : Split = record { shards = replicate 65 no_entries; fragments = [] } in
    let split = split_from target ops start in
    let w = from-holds target ops 0 start (record { shards = length-replicate 65 no_entries; entries = omega (arith, none_in 65) }) in
    omega (arith, sum_both length (keep has_entries (map (λ (s : Shard). s.ops) split.shards)) split.fragments, kept-entries split.shards, w.entries)

-- ---- file_size is T, 12, and 16 for each entry
bytes_of : (files : List (List Op))
    → sum (λ (ops : List Op). length (file_bytes ops)) files ≡ sum (λ (ops : List Op). length (objects_of ops) + 1) files + 11 * length files + 16 * sum length files
unfolding sum
bytes_of [] = refl
bytes_of (f ∷ fs) = omega (arith, bytes_of fs, file-length f)

-- of all files that come out
pub total-bytes : (target slot_size : ℕ) (ops : List Op) → let total = totals_for slot_size (length ops) (files_of target ops) in
    sum (λ (f : List Op). length (file_bytes f)) (files_of target ops) ≡ total.positions + 11 * total.files + 16 * total.entries
unfolding totals_for
total-bytes target slot_size ops = omega (arith, bytes_of (files_of target ops), files-entries target ops)
