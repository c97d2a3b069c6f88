-- The totals of a split are those of the files that come out: what 4, 5 and 7 are decided by.
use Rattle.std.specs.Prelude.{◌≡◌, refl, ◌||◌, ◌∷◌, ◌++◌, ◌+◌}
use Rattle.std.proofs.Common.{sym, ap, ap₂, ◌∙◌, append_assoc, append-nil, zero-add, arith, ne_eqb, length-append}
use Rattle.std.proofs.Math.ListN.{get_or-map}
use Rattle.rules.specs.Base.{Bool, true, false, List, [], map, ℕ, zero, suc, length, get_or, set, replicate, ltb, eqb, pick, keep, any, sum}
use Rattle.rules.specs.Ops.{Op, size_of, shard_for, objects_of}
use Rattle.rules.proofs.OpsLaws.{objects-nil, objects-length, file-length}
use Rattle.rules.specs.Install.{room_tests, position_tests}
use Rattle.rules.specs.Maintenance.{Shard, no_entries, Split, cut_off, joining, split_from, has_entries, files_of}
use Rattle.rules.proofs.BaseLaws.{any_append}
use Rattle.gc_split.specs.declared.Totals.{Totals}
use Rattle.gc_split.specs.Tally.{Tally, closing, cutting, entering, taking, tally_from, tally_of, empty_tally, closing_rests, closed_of, totals_for}
use Rattle.gc_split.specs.TotalLaws.{larges, spans, shard_size, shard_total, shard_count, Told, totals_tests}

-- ---- lists
-- what is set is mapped too
pub map-set : {A : Type 0} (f : A → ℕ) (xs : List A) (n : ℕ) (x : A) → map f (set xs n x) ≡ set (map f xs) n (f x)
map-set f [] n x = refl
map-set f (y ∷ ys) zero x = refl
map-set f (y ∷ ys) (suc n) x = ap (λ (l : List ℕ). f y ∷ l) (map-set f ys n x)

map-replicate : {A : Type 0} (f : A → ℕ) (n : ℕ) (x : A) → replicate n (f x) ≡ map f (replicate n x)
map-replicate f zero x = refl
map-replicate f (suc n) x = ap (λ (l : List ℕ). f x ∷ l) (map-replicate f n x)

sum-append : {A : Type 0} (f : A → ℕ) (xs ys : List A) → sum f (xs ++ ys) ≡ sum f xs + sum f ys
unfolding sum
sum-append f [] ys = omega arith
sum-append f (x ∷ xs) ys = omega (arith, sum-append f xs ys)

or_swap : (a b : Bool) → (a || b) ≡ (b || a)
or_swap true true = refl
or_swap true false = refl
or_swap false true = refl
or_swap false false = refl

-- an operation more, and T
pub objects-last : (ops : List Op) (o : Op) → length (objects_of (ops ++ (o ∷ []))) ≡ length (objects_of ops) + size_of o.content
objects-last [] o = omega (arith, objects-length o [], ap length objects-nil)
objects-last (p ∷ ops) o = omega (arith, objects-length p (ops ++ (o ∷ [])), objects-length p ops, objects-last ops o)

-- ---- totals
same-totals : (k m n p q : ℕ) (a b : Bool) → m ≡ n → p ≡ q → a ≡ b
    → ◌≡◌ {A = Totals} (record { entries = k; files = m; positions = p; large = a }) (record { entries = k; files = n; positions = q; large = b })
same-totals k m n p q a b e f g = rw (e, f, g) refl

-- one file more
totals-more : (slot_size k : ℕ) (fs : List (List Op)) (f : List Op)
    → closing slot_size (length (objects_of f)) (length f) (totals_for slot_size k fs) ≡ totals_for slot_size k (fs ++ (f ∷ []))
unfolding closing totals_for any sum
totals-more slot_size k fs f =
    same-totals k _ _ _ _ _ _
    (omega (arith, length-append fs (f ∷ [])))
    (omega (arith, sum-append spans fs (f ∷ [])))
    (sym (any_append (larges slot_size) fs (f ∷ []) ∙ ap (λ (b : Bool). any (larges slot_size) fs || b) (or_swap (larges slot_size f) false ∙ ap (λ (n : ℕ). ltb slot_size (64 + n)) (file-length f))))

-- in any order
totals-swap : (slot_size k : ℕ) (fs gs : List (List Op)) → totals_for slot_size k (fs ++ gs) ≡ totals_for slot_size k (gs ++ fs)
unfolding totals_for
totals-swap slot_size k fs gs =
    same-totals k _ _ _ _ _ _
    (omega (arith, length-append fs gs, length-append gs fs))
    (omega (arith, sum-append spans fs gs, sum-append spans gs fs))
    (any_append (larges slot_size) fs gs ∙ or_swap (any (larges slot_size) fs) (any (larges slot_size) gs) ∙ sym (any_append (larges slot_size) gs fs))

no-objects : shard_total no_entries ≡ 0
no-objects = ap length objects-nil

pub size-at : (slot_size k : ℕ) (s : Split) (t : Tally) → Told slot_size k s t → (n : ℕ) → get_or t.sizes n 0 ≡ (get_or s.shards n no_entries).size
size-at slot_size k s t told n = ap (λ (l : List ℕ). get_or l n 0) told.sizes ∙ get_or-map shard_size s.shards n no_entries

total-at : (slot_size k : ℕ) (s : Split) (t : Tally) → Told slot_size k s t → (n : ℕ) → get_or t.sizes n 0 ≡ shard_total (get_or s.shards n no_entries)
total-at slot_size k s t told n =
    ap₂ (λ (l : List ℕ) (d : ℕ). get_or l n d) told.objects (sym no-objects) ∙ get_or-map shard_total s.shards n no_entries

count_at : (slot_size k : ℕ) (s : Split) (t : Tally) → Told slot_size k s t → (n : ℕ) → get_or t.counts n 0 ≡ shard_count (get_or s.shards n no_entries)
count_at slot_size k s t told n = ap (λ (l : List ℕ). get_or l n 0) told.counts ∙ get_or-map shard_count s.shards n no_entries

-- a list of numbers, and one of them set
set_told : (f : Shard → ℕ) (xs : List ℕ) (ss : List Shard) (n x : ℕ) (s : Shard) → xs ≡ map f ss → x ≡ f s → set xs n x ≡ map f (set ss n s)
set_told f xs ss n x s e d = ap₂ (λ (l : List ℕ) (y : ℕ). set l n y) e d ∙ sym (map-set f ss n s)

-- what a split and its tally have, cut or not, they have by the same test
pub either-has : (R : Split → Tally → Type 0) (a b : Bool) (s u : Split) (t v : Tally) → a ≡ b → (b ≡ true → R s t) → R u v → R (pick a s u) (pick b t v)
either-has R true b s u t v e cut stay = rw (← e) (cut (sym e))
either-has R false b s u t v e cut stay = rw (← e) stay

pub cut-told : (target slot_size k n : ℕ) (s : Split) (t : Tally) → Told slot_size k s t → Told slot_size k (cut_off target n s) (cutting target slot_size n t)
unfolding cut_off cutting
cut-told target slot_size k n s t told =
    either-has (Told slot_size k) _ _ _ s _ t (ap (ltb target) (sym (size-at slot_size k s t told n)))
    (λ cut. record {
      sizes = set_told shard_size t.sizes s.shards n 0 no_entries told.sizes refl;
      objects = set_told shard_total t.sizes s.shards n 0 no_entries told.objects (sym no-objects);
      counts = set_told shard_count t.counts s.shards n 0 no_entries told.counts refl;
      totals =
          rw (total-at slot_size k s t told n, count_at slot_size k s t told n, told.totals)
          (totals-more slot_size k s.fragments (get_or s.shards n no_entries).ops);
    })
    told

pub join-told : (slot_size k n : ℕ) (o : Op) (s : Split) (t : Tally) → Told slot_size k s t → Told slot_size (k + 1) (joining o n s) (entering n (size_of o.content) t)
unfolding joining entering totals_for
join-told slot_size k n o s t told = record {
  sizes = set_told shard_size t.sizes s.shards n _ _ told.sizes (ap (λ (z : ℕ). z + size_of o.content) (size-at slot_size k s t told n));
  objects = set_told shard_total t.sizes s.shards n _ _ told.objects
      (ap (λ (z : ℕ). z + size_of o.content) (total-at slot_size k s t told n) ∙ sym (objects-last (get_or s.shards n no_entries).ops o));
  counts = set_told shard_count t.counts s.shards n _ _ told.counts
      (omega (arith, count_at slot_size k s t told n, length-append (get_or s.shards n no_entries).ops (o ∷ [])));
  totals = ap (λ (u : Totals). record { entries = u.entries + 1; files = u.files; positions = u.positions; large = u.large }) told.totals;
}

pub split-told : (target slot_size k : ℕ) (ops : List Op) (s : Split) (t : Tally) → Told slot_size k s t
    → Told slot_size (k + length ops) (split_from target ops s) (tally_from target slot_size ops t)
unfolding split_from tally_from taking
split-told target slot_size k [] s t told = let e : k + 0 ≡ k = omega arith in rw e told
split-told target slot_size k (o ∷ os) s t told =
    let n = shard_for o.content in
    let e : k + suc (length os) ≡ k + 1 + length os = omega arith in
    rw e (split-told target slot_size (k + 1) os _ _ (join-told slot_size k n o (cut_off target n s) (cutting target slot_size n t) (cut-told target slot_size k n s t told)))

-- what is left of the shards
rests-told : (slot_size k : ℕ) (ss : List Shard) (fs : List (List Op))
    → closing_rests slot_size (map shard_count ss) (map shard_total ss) (totals_for slot_size k fs)
    ≡ totals_for slot_size k (fs ++ keep has_entries (map (λ (s : Shard). s.ops) ss))
unfolding closing_rests keep
rests-told slot_size k [] fs = rw append-nil refl
rests-told slot_size k (s ∷ ss) fs = go s.ops (rests-told slot_size k ss)
  where
    rest : List (List Op)
    rest = keep has_entries (map (λ (s : Shard). s.ops) ss)

    go : (f : List Op) → ((gs : List (List Op)) → closing_rests slot_size (map shard_count ss) (map shard_total ss) (totals_for slot_size k gs) ≡ totals_for slot_size k (gs ++ rest))
        → closing_rests slot_size (map shard_count ss) (map shard_total ss)
        (pick (eqb (length f) 0) (totals_for slot_size k fs) (closing slot_size (length (objects_of f)) (length f) (totals_for slot_size k fs)))
        ≡ totals_for slot_size k (fs ++ pick (has_entries f) (f ∷ rest) rest)
    go [] ih = ih fs
    go (o ∷ os) ih =
        rw (ne_eqb (suc (length os)) 0 (λ z. omega arith))
        (ap (closing_rests slot_size (map shard_count ss) (map shard_total ss)) (totals-more slot_size k fs (o ∷ os))
        ∙ ih (fs ++ ((o ∷ os) ∷ []))
        ∙ ap (totals_for slot_size k) (append_assoc fs ((o ∷ os) ∷ []) rest))

pub empty-told : (slot_size : ℕ) → Told slot_size 0 (record { shards = replicate 65 no_entries; fragments = [] }) empty_tally
unfolding totals_for sum any
empty-told slot_size = record {
  sizes = map-replicate shard_size 65 no_entries;
  objects = ap (replicate 65) (sym no-objects) ∙ map-replicate shard_total 65 no_entries;
  counts = map-replicate shard_count 65 no_entries;
  totals = refl;
}

-- the totals behind the last entry are those of the files that come out
pub split-totals : (target slot_size : ℕ) (ops : List Op) → closed_of slot_size (tally_of target slot_size ops) ≡ totals_for slot_size (length ops) (files_of target ops)
unfolding closed_of tally_of files_of
split-totals target slot_size ops =
    let split = split_from target ops (record { shards = replicate 65 no_entries; fragments = [] }) in
    let told = split-told target slot_size 0 ops _ _ (empty-told slot_size) in
    rw (told.counts, told.objects, told.totals)
    (rests-told slot_size (0 + length ops) split.shards split.fragments ∙ totals-swap slot_size (0 + length ops) split.fragments _ ∙ ap (λ (n : ℕ). totals_for slot_size n (keep has_entries (map (λ (s : Shard). s.ops) split.shards) ++ split.fragments)) (zero-add (length ops)))

-- are those of the files that come out
pub tests-told : (target slot_size empty_ones base : ℕ) (ops : List Op)
    → room_tests slot_size empty_ones (files_of target ops) ++ position_tests base (files_of target ops)
    ≡ totals_tests (closed_of slot_size (tally_of target slot_size ops)) empty_ones base
unfolding room_tests position_tests totals_tests totals_for
tests-told target slot_size empty_ones base ops = rw (split-totals target slot_size ops) refl
