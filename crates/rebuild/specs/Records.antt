-- Live counts and the next position, from the labels.
use Rattle.std.specs.Prelude.{◌≡◌, ◌⊎◌, ◌∷◌, ◌++◌, ◌+◌, ◌-◌, ◌^◌}
use Rattle.std.proofs.Math.Path.{refl, sym, ap}
use Rattle.std.proofs.Common.{ap₂, ◌∙◌, arith, le-leb, inl, inr}
use Rattle.std.proofs.lemmas.List.{map-append}
use Prim.Native.Nat.{◌≤◌, ◌<◌, zero-le}
use Rattle.std.proofs.lemmas.Bool.{lt-leb}
use Rattle.numbers.specs.GroupLaws.{either_way}
use Rattle.rules.specs.Base.{List, [], map, ℕ, zero, suc, length, replicate, pick, each, larger, greatest}
use Rattle.rules.specs.BaseLaws.{All}
use Rattle.rules.proofs.BaseLaws.{all_map}
use Rattle.rules.specs.FileMap.{empty_label, recorded, empty_record}
use Rattle.disk_location.specs.Locations.{masked_of}
use Rattle.rules.specs.SlotFile.{File, View, empty, damaged, holds}
use Rattle.rules.specs.Reopen.{files_in, mapped_into, record_of, records_from, next_after}
use Rattle.reopen_tests.specs.Labels.{no_file, label_of, labels_of}
use Rattle.reopen_tests.specs.Shown.{label-some, Sound}
use Rattle.rebuild.specs.Types.{Label, Record, Entry}

-- a slot's record: "the label's five numbers and the live count", and the mark, "set on reopening"; empty for a slot without a file
abbrev pub slot_record : Label → ℕ → Record
slot_record l live = pick (no_file l) empty_record (recorded l live 1)

-- with the ids mapped into its file
abbrev pub counted : List Entry → Label → Record
counted table l = slot_record l (mapped_into table l)

abbrev pub masked_lsn : Label → ℕ
masked_lsn l = masked_of l.lsn

abbrev pub size_of : Label → ℕ
size_of l = l.file_size

-- "greatest masked lsn + greatest file_size + 1"; a slot without a file counts 0
unfoldable pub next_from : List Label → ℕ
next_from ls = greatest masked_lsn ls + (greatest size_of ls + 1)

-- ---- live counts
blank-counted : (table : List Entry) (m : ℕ) → map (counted table) (replicate m empty_label) ≡ replicate m empty_record
blank-counted table zero = refl
blank-counted table (suc m) = ap₂ (λ (r : Record) (rs : List Record). r ∷ rs) one (blank-counted table m)
  where
    one : counted table empty_label ≡ empty_record
    one = refl

views-counted : (size : ℕ) (table : List Entry) (vs : List View) → All (Sound size) vs → map (counted table) (map label_of vs) ≡ map (record_of table) vs
views-counted size table [] a = refl
views-counted size table (empty ∷ vs) a = ap₂ (λ (r : Record) (rs : List Record). r ∷ rs) refl (views-counted size table vs a.1)
views-counted size table (damaged n ∷ vs) a = absurd a.0
views-counted size table (holds f ∷ vs) a = ap₂ (λ (r : Record) (rs : List Record). r ∷ rs) one (views-counted size table vs a.1)
  where
    one : counted table f.label ≡ recorded f.label (mapped_into table f.label) 1
    one = rw (label-some size f.label a.0) refl

-- each label with its live count is the slot's record
pub records-counted : (size : ℕ) (table : List Entry) (vs : List View) → All (Sound size) vs → map (counted table) (labels_of vs) ≡ records_from table vs
unfolding labels_of records_from
records-counted size table vs a =
    map-append (counted table) (map label_of vs) (replicate (256 - length vs) empty_label)
    ∙ ap₂ ◌++◌ (views-counted size table vs a) (blank-counted table (256 - length vs))

-- ---- the greatest
larger-none : (n : ℕ) → larger 0 n ≡ n
larger-none n = rw (le-leb 0 n zero-le) refl

larger-most : (a b most : ℕ) → a ≤ most → b ≤ most → larger a b ≤ most
larger-most a b most p q = go (either_way b a)
  where
    go : (b < a) ⊎ (a ≤ b) → larger a b ≤ most
    go (inl h) = rw (lt-leb a b h) p
    go (inr h) = rw (le-leb a b h) q

module _ (f : Label → ℕ) (none : f empty_label ≡ 0) where
  greatest-blank : (m : ℕ) → greatest f (replicate m empty_label) ≡ 0
  unfolding greatest
  greatest-blank zero = refl
  greatest-blank (suc m) = rw none (larger-none (greatest f (replicate m empty_label)) ∙ greatest-blank m)

  -- over the files it is that over the labels
  greatest-labels : (m : ℕ) (vs : List View) → greatest (λ (g : File). f g.label) (files_in vs) ≡ greatest f (map label_of vs ++ replicate m empty_label)
  unfolding greatest files_in each
  greatest-labels m [] = sym (greatest-blank m)
  greatest-labels m (empty ∷ vs) = rw none (greatest-labels m vs ∙ sym (larger-none (greatest f (map label_of vs ++ replicate m empty_label))))
  greatest-labels m (damaged r ∷ vs) = rw none (greatest-labels m vs ∙ sym (larger-none (greatest f (map label_of vs ++ replicate m empty_label))))
  greatest-labels m (holds g ∷ vs) = ap (larger (f g.label)) (greatest-labels m vs)

  greatest-most : (most m : ℕ) (vs : List View) → All (λ (v : View). f (label_of v) ≤ most) vs → greatest f (map label_of vs ++ replicate m empty_label) ≤ most
  unfolding greatest
  greatest-most most m [] a = rw (greatest-blank m) zero-le
  greatest-most most m (v ∷ vs) a = larger-most (f (label_of v)) (greatest f (map label_of vs ++ replicate m empty_label)) most a.0 (greatest-most most m vs a.1)

pub masked-none : masked_lsn empty_label ≡ 0
unfolding masked_of
masked-none = refl

pub next-labels : (vs : List View) → next_after (files_in vs) ≡ next_from (labels_of vs)
unfolding next_after next_from labels_of
next-labels vs =
    ap₂ (λ (a b : ℕ). a + (b + 1)) (greatest-labels masked_lsn masked-none (256 - length vs) vs) (greatest-labels size_of refl (256 - length vs) vs)

-- within 8's bounds it stays a position
pub next_low : (size : ℕ) (vs : List View) → size ≤ 1048576 → All (Sound size) vs → next_from (labels_of vs) < 2 ^ 63
unfolding next_from labels_of
next_low size vs h a =
    let lsns = greatest-most masked_lsn masked-none (2 ^ 62) (256 - length vs) vs (all_map (Sound size) (λ (v : View). masked_lsn (label_of v) ≤ 2 ^ 62) vs lsn-low a) in
    let sizes = greatest-most size_of refl size (256 - length vs) vs (all_map (Sound size) (λ (v : View). size_of (label_of v) ≤ size) vs size_low a) in
    omega arith
  where
    lsn-low : (v : View) → Sound size v → masked_lsn (label_of v) ≤ 2 ^ 62
    lsn-low empty s = rw masked-none zero-le
    lsn-low (damaged r) s = absurd s
    lsn-low (holds f) s = let w = s.end in omega arith

    size_low : (v : View) → Sound size v → size_of (label_of v) ≤ size
    size_low empty s = zero-le
    size_low (damaged r) s = absurd s
    size_low (holds f) s = let w = s.size in omega arith
