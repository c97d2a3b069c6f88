-- "Maintenance": the files that come out. "Before an entry joins it, a shard of size over target_file_size is cut off as a fragment and restarts at 0;
-- an object adds 20 + length, a delete 0. Files come out by ascending shard, then fragments as cut".
use Rattle.std.specs.Prelude.{◌≡◌, refl, ◌⊎◌, ◌≤◌, ◌<◌, ◌∷◌, ◌++◌, ◌+◌}
use Rattle.std.proofs.Common.{sym, ap, ◌∙◌, inl, inr, arith, length-set, get_or-set_same, get_or-set_other, ltb-true, ltb-false}
use Rattle.std.proofs.lemmas.List.{length-replicate}
use Rattle.rules.specs.Base.{Bool, true, false, List, [], map, ℕ, suc, length, get_or, set, replicate, ltb, pick, keep, sum}
use Rattle.rules.specs.BaseLaws.{All}
use Rattle.rules.proofs.BaseLaws.{all_append, same?, replicate-at}
use Rattle.rules.specs.Ops.{Op, size_of, shard_for}
use Rattle.rules.proofs.OpsLaws.{shard-most}
use Rattle.rules.specs.Maintenance.{Shard, no_entries, Split, cut_off, joining, split_from, has_entries, files_of}

-- "an object adds 20 + length, a delete 0"
abbrev pub size_in : List Op → ℕ
size_in ops = sum (λ (o : Op). size_of o.content) ops

-- entries of one shard, and not over the target without the last of them
pub record Grown (target n : ℕ) (file : List Op) : Type 0 where
  pub first : List Op
  pub last : Op
  pub is : file ≡ first ++ (last ∷ [])
  pub not-over : size_in first ≤ target
  pub shard : All (λ (o : Op). shard_for o.content ≡ n) file

-- the same, and over the target with it
pub record Fragment (target : ℕ) (file : List Op) : Type 0 where
  pub n : ℕ
  pub grown : Grown target n file
  pub over : target < size_in file

-- files of rising shards, from n on
pub data Ascending : ℕ → ℕ → List (List Op) → Type 0 where
  no-files : {target n : ℕ} → Ascending target n []
  then-file : {target n m : ℕ} {file : List Op} {files : List (List Op)} → n ≤ m → Grown target m file → Ascending target (suc m) files → Ascending target n (file ∷ files)

-- what comes out: shards, then fragments
pub record Out (target : ℕ) (files : List (List Op)) : Type 0 where
  pub shards : List (List Op)
  pub fragments : List (List Op)
  pub is : files ≡ shards ++ fragments
  pub ascending : Ascending target 0 shards
  pub cut : All (Fragment target) fragments

-- ---- the split, entry by entry
-- a shard's size is that of its entries, and it has grown as said
record Kept (target n : ℕ) (s : Shard) : Type 0 where
  size : s.size ≡ size_in s.ops
  ops : (s.ops ≡ []) ⊎ Grown target n s.ops

record Sound (target : ℕ) (s : Split) : Type 0 where
  count : length s.shards ≡ 65
  shards : (n : ℕ) → Kept target n (get_or s.shards n no_entries)
  fragments : All (Fragment target) s.fragments

none_kept : (target n : ℕ) → Kept target n no_entries
unfolding sum
none_kept target n = record { size = refl; ops = inl refl }

size-snoc : (ops : List Op) (o : Op) → size_in (ops ++ (o ∷ [])) ≡ size_in ops + size_of o.content
unfolding sum
size-snoc [] o = omega arith
size-snoc (p ∷ ops) o = omega (arith, size-snoc ops o)

size_none : (ops : List Op) → ops ≡ [] → size_in ops ≡ 0
unfolding sum
size_none ops e = rw e

kept_set : (target m : ℕ) (shards : List Shard) (c : Shard) → m < length shards → ((n : ℕ) → Kept target n (get_or shards n no_entries)) → Kept target m c
    → (n : ℕ) → Kept target n (get_or (set shards m c) n no_entries)
kept_set target m shards c l h k n = go (same? n m)
  where
    go : (n ≡ m) ⊎ (n ≡ m → ⊥) → Kept target n (get_or (set shards m c) n no_entries)
    go (inl e) = rw (e, get_or-set_same shards m c no_entries l) k
    go (inr d) = rw (get_or-set_other shards m n c no_entries d) (h n)

-- the shard is no more over the target
record NotOver (target m : ℕ) (s : Split) : Type 0 where
  sound : Sound target s
  size : (get_or s.shards m no_entries).size ≤ target

cut-sound : (target m : ℕ) (s : Split) → m < 65 → Sound target s → NotOver target m (cut_off target m s)
unfolding cut_off
cut-sound target m s l h = go (ltb target (get_or s.shards m no_entries).size) refl
  where
    in-range : m < length s.shards
    in-range = omega (arith, h.count)

    fragment : target < (get_or s.shards m no_entries).size → ((get_or s.shards m no_entries).ops ≡ []) ⊎ Grown target m (get_or s.shards m no_entries).ops
        → Fragment target (get_or s.shards m no_entries).ops
    fragment o (inl e) = absurd (omega (arith, (h.shards m).size, size_none (get_or s.shards m no_entries).ops e))
    fragment o (inr g) = record { n = m; grown = g; over = omega (arith, (h.shards m).size) }

    go : (b : Bool) → ltb target (get_or s.shards m no_entries).size ≡ b
        → NotOver target m (pick b (record { shards = set s.shards m no_entries; fragments = s.fragments ++ ((get_or s.shards m no_entries).ops ∷ []) }) s)
    go false e = record { sound = h; size = ltb-false target (get_or s.shards m no_entries).size e }
    go true e = record {
      sound = record {
        count = length-set s.shards m no_entries ∙ h.count;
        shards = kept_set target m s.shards no_entries in-range h.shards (none_kept target m);
        fragments =
            all_append (Fragment target) s.fragments ((get_or s.shards m no_entries).ops ∷ []) h.fragments
            (fragment (ltb-true target (get_or s.shards m no_entries).size e) (h.shards m).ops, tt);
      };
      size = rw (get_or-set_same s.shards m no_entries no_entries in-range) (omega arith);
    }

join-sound : (target : ℕ) (o : Op) (s : Split) → NotOver target (shard_for o.content) s → Sound target (joining o (shard_for o.content) s)
unfolding joining
join-sound target o s h =
    let m = shard_for o.content in
    let l = shard-most o.content in
    record {
      count = length-set s.shards m _ ∙ h.sound.count;
      shards = kept_set target m s.shards _ (omega (arith, h.sound.count)) h.sound.shards (grows (h.sound.shards m).ops);
      fragments = h.sound.fragments;
    }
  where
    had : Shard
    had = get_or s.shards (shard_for o.content) no_entries

    now : Shard
    now = record { size = had.size + size_of o.content; ops = had.ops ++ (o ∷ []) }

    sized : now.size ≡ size_in now.ops
    sized = omega (arith, (h.sound.shards (shard_for o.content)).size, size-snoc had.ops o)

    below : size_in had.ops ≤ target
    below = omega (arith, (h.sound.shards (shard_for o.content)).size, h.size)

    grows : (had.ops ≡ []) ⊎ Grown target (shard_for o.content) had.ops → Kept target (shard_for o.content) now
    grows (inl e) = record { size = sized; ops = inr (record { first = had.ops; last = o; is = refl; not-over = below; shard = rw e (refl, tt) }) }
    grows (inr g) = record {
      size = sized;
      ops = inr (record {
        first = had.ops;
        last = o;
        is = refl;
        not-over = below;
        shard = all_append (λ (p : Op). shard_for p.content ≡ shard_for o.content) had.ops (o ∷ []) g.shard (refl, tt);
      });
    }

split-sound : (target : ℕ) (ops : List Op) (s : Split) → Sound target s → Sound target (split_from target ops s)
unfolding split_from
split-sound target [] s h = h
split-sound target (o ∷ os) s h =
    split-sound target os (joining o (shard_for o.content) (cut_off target (shard_for o.content) s))
    (join-sound target o (cut_off target (shard_for o.content) s) (cut-sound target (shard_for o.content) s (shard-most o.content) h))

-- shards with entries, from shard n on
ascend : (target n : ℕ) (shards : List Shard) → ((i : ℕ) → i < length shards → Kept target (n + i) (get_or shards i no_entries))
    → Ascending target n (keep has_entries (map (λ (c : Shard). c.ops) shards))
unfolding keep
ascend target n [] h = no-files
ascend target n (c ∷ shards) h = go c.ops refl (ascend target (suc n) shards later)
  where
    later : (i : ℕ) → i < length shards → Kept target (suc n + i) (get_or shards i no_entries)
    later i l =
        let e : n + suc i ≡ suc n + i = omega arith in
        rw (← e) (h (suc i) (omega arith))

    raise : (m : ℕ) (files : List (List Op)) → Ascending target (suc m) files → Ascending target m files
    raise m _ no-files = no-files
    raise m _ (then-file {m = k} l g a) = let r : m ≤ k = omega arith in then-file r g a

    here : Grown target (n + 0) c.ops → Grown target n c.ops
    here g = let e : n + 0 ≡ n = omega arith in rw (← e) g

    grown : (file : List Op) → c.ops ≡ file → (c.ops ≡ []) ⊎ Grown target (n + 0) c.ops → 0 < length file → Grown target n file
    grown file e (inl z) l = absurd (let y : length file ≡ 0 = ap length (sym e ∙ z) in omega arith)
    grown file e (inr g) l = rw (← e) (here g)

    go : (file : List Op) → c.ops ≡ file → Ascending target (suc n) (keep has_entries (map (λ (d : Shard). d.ops) shards))
        → Ascending target n (pick (has_entries file) (file ∷ keep has_entries (map (λ (d : Shard). d.ops) shards)) (keep has_entries (map (λ (d : Shard). d.ops) shards)))
    go [] e rest = raise n _ rest
    go (o ∷ os) e rest = then-file {n = n} {m = n} (omega arith) (grown (o ∷ os) e (h 0 (omega arith)).ops (omega arith)) rest

-- LAW: of any operations: shards ascending, each not over the target without its last entry; then fragments, each over it with its last entry
pub files-out : (target : ℕ) (ops : List Op) → Out target (files_of target ops)
unfolding files_of
files-out target ops =
    let start : Split = record { shards = replicate 65 no_entries; fragments = [] } in
    let first : Sound target start = record {
      count = length-replicate 65 no_entries;
      shards = λ n. rw (replicate-at 65 n no_entries) (none_kept target n);
      fragments = tt;
    } in
    let end = split-sound target ops start first in
    record {
      shards = keep has_entries (map (λ (c : Shard). c.ops) (split_from target ops start).shards);
      fragments = (split_from target ops start).fragments;
      is = refl;
      ascending = ascend target 0 (split_from target ops start).shards (λ i l. let e : 0 + i ≡ i = omega arith in rw e (end.shards i));
      cut = end.fragments;
    }
