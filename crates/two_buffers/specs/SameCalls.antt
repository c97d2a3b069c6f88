-- "The four table calls are proved to give the same answers under the old and new layout, once over the number of entries."
use Rattle.std.specs.Prelude.{◌≡◌, ◌%◌}
use Rattle.rules.specs.Base.{length}
use Rattle.rules.specs.Refusal.{after}
use Rattle.rules.specs.Layout.{Table, table_ids, table_locations}
use Rattle.rules.specs.TableCalls.{TableAfter, same}
use Rattle.two_buffers.specs.TwoBuffers as two
use Rattle.two_buffers.specs.TwoBuffers.{Buffers}

-- ---- equal contents
-- as many entries in both, each with the same id and the same location, and no word besides
pub record Alike (old : Buffers) (new : Table) : Type 0 where
  pub ids : old.ids ≡ table_ids new
  pub locations : old.locations ≡ table_locations new
  pub even : length new % 2 ≡ 0

-- the same answer, and equal contents after it
pub record Same (old : two.TableAfter) (new : TableAfter) : Type 0 where
  pub answer : old.answer ≡ new.answer
  pub table : Alike old.table new.table
