-- What a slot shows, as the code answers it.
use Rattle.std.specs.Prelude.{◌≡◌, not, List, [], ◌∷◌, ◌++◌, ℕ, ◌-◌, ◌≤◌, eqb, length, drop, Err, None, Ok, Some}
use Rattle.std.proofs.Math.Path.{refl}
use Rattle.std.proofs.Common.{◌∙◌, arith, length-drop, length-take-le}
use Rattle.rules.specs.Base.{any}
use Rattle.rules.specs.declared.Label.{Label}
use Rattle.rules.specs.declared.Refusal.TheVariants.{EntryPosition, PresentCount}
use Rattle.rules.specs.declared.Refusal.{Refusal}
use Rattle.rules.specs.Refusal.{Test, ◌gives◌, decide}
use Rattle.rules.proofs.RefusalLaws.{decide-append, clear-when, decide-early}
use Rattle.numbers.specs.Choice.{pick}
use Rattle.rules.specs.Trailer.{trailer_tests, entries_in, count_in, misplaced}
use Rattle.rules.specs.SlotFile.{View, empty, damaged, holds, file_in}
use Rattle.trailer.specs.Entries.{entries-count, clear-fits}
use Rattle.slot_file.specs.Answers.{SlotAnswer}

-- a view's answer: of a file the label's numbers; its entries and objects stay in the slot
abbrev pub shown_by : View → SlotAnswer
shown_by empty = Ok None
shown_by (damaged r) = Err r
shown_by (holds f) = Ok (Some f.label)

-- 9 to 13, of a file's trailer bytes
unfoldable pub entry_tests : Label → List ℕ → List Test
entry_tests l trailer =
    trailer_tests trailer
    ++ (any (misplaced l.trailer_offset) (entries_in trailer) gives EntryPosition
    ∷ not (eqb l.present_objects (length (entries_in trailer))) gives PresentCount
    ∷ [])

module _ (l : Label) (trailer : List ℕ) where
  pub entry-refused : (n : Refusal) → decide (trailer_tests trailer) ≡ Err n → decide (entry_tests l trailer) ≡ Err n
  unfolding entry_tests
  entry-refused n e = decide-early (trailer_tests trailer) _ n e

  -- 9, 10 and 11 are clear: 12 and 13 decide
  pub entry-clear : decide (trailer_tests trailer) ≡ Ok tt
      → decide (entry_tests l trailer)
      ≡ pick (any (misplaced l.trailer_offset) (entries_in trailer)) (Err EntryPosition)
      (pick (not (eqb l.present_objects (count_in trailer))) (Err PresentCount) (Ok tt))
  unfolding entry_tests decide
  entry-clear e = decide-append (trailer_tests trailer) _ (clear-when (trailer_tests trailer) e) ∙ rw (entries-count trailer (clear-fits trailer e)) refl

-- a file within its slot has its size
pub file-length : (l : Label) (slot : List ℕ) → l.file_size ≤ length slot - 64 → length (file_in l slot) ≡ l.file_size
file-length l slot h = length-take-le l.file_size (drop 64 slot) (omega (arith, length-drop 64 slot))
