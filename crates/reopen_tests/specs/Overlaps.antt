-- 14 on the labels is 14 on the files.
use Rattle.std.specs.Prelude.{◌≡◌, Bool, true, false, not, ◌&&◌, ◌∷◌, ◌++◌, ◌-◌}
use Rattle.std.proofs.Math.Path.{refl, sym, ap₂}
use Rattle.std.proofs.Math.Bool.{◌||◌}
use Rattle.rules.specs.Base.{List, [], map, ℕ, zero, suc, length, replicate, any, each}
use Rattle.rules.specs.BaseLaws.{All}
use Rattle.rules.specs.FileMap.{empty_label}
use Rattle.rules.specs.SlotFile.{File, View, empty, damaged, holds}
use Rattle.rules.specs.Reopen.{files_in, meets, overlapping}
use Rattle.reopen_tests.specs.Types.{Label}
use Rattle.reopen_tests.specs.Labels.{no_file, label_of, labels_of, clash, overlaps}
use Rattle.reopen_tests.specs.Shown.{label-some, Sound}

module _ (l : Label) where
  -- no file clashes with an empty slot
  clash-empty : clash l empty_label ≡ false
  clash-empty = go (not (no_file l)) (meets l empty_label)
    where
      go : (s t : Bool) → (s && false && t) ≡ false
      go true t = refl
      go false t = refl

  clash-blank : (m : ℕ) → any (clash l) (replicate m empty_label) ≡ false
  unfolding any
  clash-blank zero = refl
  clash-blank (suc m) = rw clash-empty (clash-blank m)

-- nor does an empty slot with a file
empty-clash : (ls : List Label) → any (clash empty_label) ls ≡ false
unfolding any
empty-clash [] = refl
empty-clash (s ∷ ls) = empty-clash ls

overlaps-blank : (m : ℕ) → overlaps (replicate m empty_label) ≡ false
unfolding overlaps
overlaps-blank zero = refl
overlaps-blank (suc m) = rw (empty-clash (replicate m empty_label)) (overlaps-blank m)

module _ (size m : ℕ) where
  meets-some : (l : Label) → no_file l ≡ false → (vs : List View) → All (Sound size) vs
      → any (λ (g : File). meets l g.label) (files_in vs) ≡ any (clash l) (map label_of vs ++ replicate m empty_label)
  unfolding files_in each any
  meets-some l some [] a = sym (clash-blank l m)
  meets-some l some (empty ∷ vs) a = rw (clash-empty l) (meets-some l some vs a.1)
  meets-some l some (damaged n ∷ vs) a = absurd a.0
  meets-some l some (holds g ∷ vs) a =
      let both : meets l g.label ≡ clash l g.label = rw (some, label-some size g.label a.0) refl in
      ap₂ ◌||◌ both (meets-some l some vs a.1)

  overlaps-files : (vs : List View) → All (Sound size) vs → overlapping (files_in vs) ≡ overlaps (map label_of vs ++ replicate m empty_label)
  unfolding files_in each overlapping overlaps
  overlaps-files [] a = sym (overlaps-blank m)
  overlaps-files (empty ∷ vs) a = rw (empty-clash (map label_of vs ++ replicate m empty_label)) (overlaps-files vs a.1)
  overlaps-files (damaged n ∷ vs) a = absurd a.0
  overlaps-files (holds f ∷ vs) a =
      ap₂ ◌||◌ (meets-some f.label (label-some size f.label a.0) vs a.1) (overlaps-files vs a.1)

pub overlapping-labels : (size : ℕ) (vs : List View) → All (Sound size) vs → overlapping (files_in vs) ≡ overlaps (labels_of vs)
unfolding labels_of
overlapping-labels size vs a = overlaps-files size (256 - length vs) vs a
