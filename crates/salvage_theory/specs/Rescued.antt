-- Request P9, "Demand 3 then starts afresh from what that reopening found, and only where P5's checker lists nothing."
use Rattle.std.specs.Prelude.{◌≡◌}
use Rattle.numbers.specs.LittleEndian.{Bytes}
use Rattle.rules.specs.Base.{false, List, [], ℕ, length}
use Rattle.rules.specs.Condition1.{out_of_range}
use Rattle.rules.specs.World.{World}
use Rattle.losses.specs.Salvage.{salvage_call}
use Rattle.check_theory.specs.Accepting.{list_of}

-- v has the heap that a salvage left, at the settings and table size of the reopening that follows, and the checker lists nothing
pub record Afresh (w : World) (words : List ℕ) (v : World) : Type 0 where
  pub bytes : Bytes w.heap
  pub heap : v.heap ≡ (salvage_call w.settings w.heap w.table words).heap
  pub range : out_of_range v.settings (length v.heap) v.table ≡ false
  pub listed : list_of v ≡ []
