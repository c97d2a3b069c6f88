-- P7: what a group of files takes and adds, on a store of the invariant: an empty slot, a file and its bytes for each, and its positions.
use Rattle.std.specs.Prelude.{◌≡◌, ◌<◌, ◌+◌}
use Rattle.rules.specs.Base.{List, ℕ, length, sum}
use Rattle.theory.specs.Types.{Record}
use Rattle.rules.specs.Ops.{Op, file_bytes}
use Rattle.rules.specs.SlotFile.{empty}
use Rattle.rules.specs.FileMap.{empty_record}
use Rattle.rules.specs.Counts.{counts_of}
use Rattle.rules.specs.TwoCalls.{positions_in}
use Rattle.rules.specs.World.{World, records_of, slots_of}

-- a number of a record that a file's label alone decides, and an empty record has none
pub record ByLabel (f : Record → ℕ) : Type 0 where
  pub label : (r q : Record) → q.label ≡ r.label → 0 < r.label.lsn → f q ≡ f r
  pub none : f empty_record ≡ 0

-- a store v that came of w by adding these files
pub record Adds (w v : World) (fs : List (List Op)) : Type 0 where
  pub files : (counts_of (records_of v)).files ≡ (counts_of (records_of w)).files + length fs
  pub bytes : (counts_of (records_of v)).bytes ≡ (counts_of (records_of w)).bytes + sum (λ (ops : List Op). length (file_bytes ops)) fs
  pub position : v.state.next_position ≡ w.state.next_position + positions_in fs
  pub slots : slots_of v ≡ slots_of w
