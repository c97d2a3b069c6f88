-- N: no store refuses maintenance for nothing: where there is room for all new files it succeeds.
use Rattle.std.specs.Prelude.{◌≤◌, ◌+◌, ◌^◌}
use Rattle.rules.specs.Base.{List, ℕ, length, ltb, pick, sum}
use Rattle.rules.specs.BaseLaws.{All}
use Rattle.rules.specs.Ops.{Op, objects_of, file_bytes}
use Rattle.rules.specs.FileMapLaws.{Among}
use Rattle.rules.specs.Install.{empty_of}
use Rattle.rules.specs.Maintenance.{start_group}
use Rattle.rules.specs.World.{World}
use Rattle.maintenance_theory.specs.Checked.{Oversized}
use Rattle.maintenance_theory.specs.FirstRefused.{generations, Due, new_files}

-- T + 1 over these files
abbrev pub positions_of : List (List Op) → ℕ
positions_of files = sum (λ (f : List Op). length (objects_of f) + 1) files

-- a number of the new files of a generation, 0 where it is not due
abbrev pub if_due : World → (List (List Op) → ℕ) → ℕ → ℕ
if_due w f g = pick (ltb (length (start_group w g)) w.settings.min_compaction_files) 0 (f (new_files w g))

-- within the limits of a store, as the call starts: 3, 4, 5 and 7 refuse no due generation
pub record Suffices (w : World) : Type 0 where
  pub small : (g : ℕ) → Among generations g → Due w g → Oversized w (start_group w g) → ⊥
  pub fits : (g : ℕ) → Among generations g → Due w g → All (λ (f : List Op). 64 + length (file_bytes f) ≤ w.settings.slot_bytes) (new_files w g)
  pub slots : sum (if_due w length) generations ≤ empty_of w
  pub positions : w.state.next_position + sum (if_due w positions_of) generations ≤ 2 ^ 62
