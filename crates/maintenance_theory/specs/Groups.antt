-- Which slots a group has, said of each slot's file; and when two groups are the same.
use Rattle.std.specs.Prelude.{◌≡◌, ◌&&◌}
use Rattle.rules.specs.Base.{Bool, ℕ, eqb}
use Rattle.theory.specs.Types.{Record}
use Rattle.rules.specs.FileMap.{record_at}
use Rattle.rules.specs.Maintenance.{is_candidate, new_generation}
use Rattle.rules.specs.MaintenanceLaws.{Candidate}
use Rattle.rules.proofs.MaintenanceLaws.{candidate}
use Rattle.rules.specs.World.{World, records_of}

-- slot k's file is a candidate by this mark and count, and of this new generation
pub record Member (w : World) (g mark count k : ℕ) : Type 0 where
  pub candidate : Candidate w.settings w.claims mark count k (record_at (records_of w) k)
  pub generation : new_generation (record_at (records_of w) k).label.generation ≡ g

-- the group's test
abbrev pub tests : World → ℕ → ℕ → ℕ → ℕ → Record → Bool
tests w g mark count i r = is_candidate w.settings w.claims mark count i r && eqb (new_generation r.label.generation) g
