-- 8 to 15: all that the slots' bytes decide.
use Rattle.std.specs.Prelude.{◌≡◌, ◌∷◌, ◌++◌, Result, Ok, Err, refl}
use Rattle.std.proofs.Common.{sym, ◌∙◌}
use Rattle.rules.specs.Base.{true, false, List, [], any, each}
use Rattle.rules.specs.declared.Refusal.TheVariants.{Overlap, NotRising}
use Rattle.rules.specs.Refusal.{Test, ◌gives◌, decide}
use Rattle.rules.proofs.RefusalLaws.{decide-none, decide-early, decide-late, decide-first, decide-next}
use Rattle.rules.specs.SlotFile.{View}
use Rattle.rules.specs.Reopen.{view_tests, files_in, overlapping}
use Rattle.reopen_tests.specs.declared.Labels.{Labels}
use Rattle.reopen_tests.specs.Types.{Refusal, Answer}
use Rattle.reopen_tests.specs.Labels.{survey_by, labels_of}
use Rattle.reopen_tests.specs.Ascending.{file_falls}

-- "Per non-empty slot .. Then over all: 14, 15"
unfoldable pub file_tests : List View → List Test
file_tests views = each view_tests views ++ (overlapping (files_in views) gives Overlap ∷ any file_falls (files_in views) gives NotRising ∷ [])

-- what a survey tells
module _ (a : Answer) (views : List View) (s : Result Labels Refusal) (is : s ≡ survey_by a views) where
  pub told-refused : (r : Refusal) → s ≡ Err r → a ≡ Err r
  told-refused r e = go a (sym is ∙ e)
    where
      go : (b : Answer) → survey_by b views ≡ Err r → b ≡ Err r
      go (Ok tt) q = cc
      go (Err n) q = cc

  module _ (slots : Labels) (e : s ≡ Ok slots) where
    pub told-clear : a ≡ Ok tt
    told-clear = go a (sym is ∙ e)
      where
        go : (b : Answer) → survey_by b views ≡ Ok slots → b ≡ Ok tt
        go (Ok tt) q = refl
        go (Err n) q = cc

    pub told-labels : slots.labels ≡ labels_of views
    told-labels = go a (sym is ∙ e)
      where
        go : (b : Answer) → survey_by b views ≡ Ok slots → slots.labels ≡ labels_of views
        go (Ok tt) q = cc
        go (Err n) q = cc

-- ---- 8 to 13, then 14 and 15
module _ (views : List View) where
  abbrev over_all : List Test
  over_all = overlapping (files_in views) gives Overlap ∷ any file_falls (files_in views) gives NotRising ∷ []

  pub slots-refuse : (r : Refusal) → decide (each view_tests views) ≡ Err r → decide (file_tests views) ≡ Err r
  unfolding file_tests
  slots-refuse r e = decide-early (each view_tests views) over_all r e

  module _ (e : decide (each view_tests views) ≡ Ok tt) where
    behind : decide (file_tests views) ≡ decide over_all
    unfolding file_tests
    behind = decide-late (each view_tests views) over_all e

    pub first-overlap : overlapping (files_in views) ≡ true → decide (file_tests views) ≡ Err Overlap
    first-overlap o = behind ∙ decide-first (overlapping (files_in views)) Overlap _ o

    pub first-falls : overlapping (files_in views) ≡ false → any file_falls (files_in views) ≡ true → decide (file_tests views) ≡ Err NotRising
    first-falls o f = behind ∙ decide-next (overlapping (files_in views)) Overlap _ o ∙ decide-first (any file_falls (files_in views)) NotRising [] f

    pub none-refuses : overlapping (files_in views) ≡ false → any file_falls (files_in views) ≡ false → decide (file_tests views) ≡ Ok tt
    none-refuses o f = behind ∙ decide-next (overlapping (files_in views)) Overlap _ o ∙ decide-next (any file_falls (files_in views)) NotRising [] f ∙ decide-none
