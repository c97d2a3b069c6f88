-- What a group is decided by: its files' checks, then 4, 5 and 7 of the files that would come out.
use Rattle.std.specs.Prelude.{◌≡◌, ◌++◌, Result, Err, Ok}
use Rattle.std.proofs.Math.Path.{refl, sym, ap}
use Rattle.std.proofs.Common.{◌∙◌}
use Rattle.rules.specs.Base.{List, ℕ, length, each}
use Rattle.rules.specs.declared.Settings.{Settings}
use Rattle.rules.specs.declared.Refusal.{Refusal}
use Rattle.rules.specs.Types.{Answer}
use Rattle.rules.specs.Refusal.{Test, decide}
use Rattle.rules.proofs.RefusalLaws.{decide-early, decide-late, clear-when, none_rest}
use Rattle.rules.specs.Ops.{Op, settled}
use Rattle.rules.specs.Install.{room_tests, empty_of, position_tests}
use Rattle.rules.specs.Maintenance.{files_of, found, source_tests, group_tests}
use Rattle.rules.specs.World.{World}
use Rattle.gc_group.specs.Source.{Source, source_in}
use Rattle.gc_group.specs.Checks.{group_checks}
use Rattle.gc_group.specs.Marks.{found_at}
use Rattle.gc_split.specs.declared.Totals.{Totals}
use Rattle.gc_split.specs.Tally.{tally_of, closed_of, totals_for}
use Rattle.gc_split.specs.TotalLaws.{totals_tests}
use Rattle.gc_split.proofs.TotalLaws.{split-totals, tests-told}
use Rattle.gc_decision.specs.Fitting.{Fitting, fitting-clear}

-- whether a result is a refusal
abbrev pub verdict : {T : Type 0} → Result T Refusal → Answer
verdict (Ok x) = Ok tt
verdict (Err r) = Err r

-- "Objects and deletes at their id's current location are rewritten, ascending by id (one found twice only once, as last found)"
abbrev pub ops_in : Source → List ℕ → List Op
ops_in source slots = settled (each (found_at source) slots)

-- the files that would come out
abbrev pub out_of : Settings → Source → List ℕ → List (List Op)
out_of s source slots = files_of s.target_file_size (ops_in source slots)

-- their totals
unfoldable pub totals_in : Settings → Source → List ℕ → Totals
totals_in s source slots = totals_for s.slot_bytes (length (ops_in source slots)) (out_of s source slots)

-- "All files of a group are checked before it writes"; "4, 5, 7 are decided first, for the whole group", by that many empty slots and a base
unfoldable pub decision_tests : Settings → Source → List ℕ → ℕ → ℕ → List Test
decision_tests s source slots empty_ones base =
    group_checks s.max_object_size source slots
    ++ (room_tests s.slot_bytes empty_ones (out_of s source slots) ++ position_tests base (out_of s source slots))

-- ---- in a call's world
module _ (w : World) (slots : List ℕ) where
  -- by any room
  pub decision-world : (empty_ones base : ℕ) → let files = files_of w.settings.target_file_size (found w slots) in
      decision_tests w.settings (source_in w) slots empty_ones base
      ≡ source_tests w slots ++ (room_tests w.settings.slot_bytes empty_ones files ++ position_tests base files)
  unfolding decision_tests group_checks found
  decision-world empty_ones base = refl

  -- by the room that there is
  pub decision-group : decision_tests w.settings (source_in w) slots (empty_of w) w.state.next_position
      ≡ group_tests w slots (files_of w.settings.target_file_size (found w slots))
  unfolding group_tests
  decision-group = decision-world (empty_of w) w.state.next_position

  -- the totals
  pub totals-world : totals_in w.settings (source_in w) slots
      ≡ totals_for w.settings.slot_bytes (length (found w slots)) (files_of w.settings.target_file_size (found w slots))
  unfolding totals_in found
  totals-world = refl

-- ---- in the steps that code takes
module _ (s : Settings) (source : Source) (slots : List ℕ) where
  -- a check refuses
  pub decision-checked : (empty_ones base : ℕ) (r : Refusal) → decide (group_checks s.max_object_size source slots) ≡ Err r
      → decide (decision_tests s source slots empty_ones base) ≡ Err r
  unfolding decision_tests
  decision-checked empty_ones base r e = decide-early _ _ r e

  -- none of all tests does: there is room for the files that come out
  pub decision-fits : (empty_ones base : ℕ) → decide (decision_tests s source slots empty_ones base) ≡ Ok tt → Fitting s.slot_bytes empty_ones base (out_of s source slots)
  unfolding decision_tests
  decision-fits empty_ones base e =
      fitting-clear s.slot_bytes empty_ones base (out_of s source slots)
      (none_rest (group_checks s.max_object_size source slots) (room_tests s.slot_bytes empty_ones (out_of s source slots) ++ position_tests base (out_of s source slots)) (clear-when _ e))

  -- the operations that were found, and their totals
  module _ (ops : List Op) (found : ops ≡ ops_in source slots) (total : Totals) (closed : total ≡ closed_of s.slot_bytes (tally_of s.target_file_size s.slot_bytes ops)) where
    -- the totals are those of the files
    pub decision-totals : total ≡ totals_in s source slots
    unfolding totals_in
    decision-totals =
        closed ∙ split-totals s.target_file_size s.slot_bytes ops
        ∙ ap (λ (os : List Op). totals_for s.slot_bytes (length os) (files_of s.target_file_size os)) found

    -- no check refuses: the totals decide
    pub decision-clear : (empty_ones base : ℕ) → decide (group_checks s.max_object_size source slots) ≡ Ok tt
        → decide (totals_tests total empty_ones base) ≡ decide (decision_tests s source slots empty_ones base)
    unfolding decision_tests
    decision-clear empty_ones base e =
        ap (λ (t : Totals). decide (totals_tests t empty_ones base)) closed
        ∙ ap decide (sym (tests-told s.target_file_size s.slot_bytes empty_ones base ops))
        ∙ ap (λ (os : List Op). decide (room_tests s.slot_bytes empty_ones (files_of s.target_file_size os) ++ position_tests base (files_of s.target_file_size os))) found
        ∙ sym (decide-late _ _ e)
