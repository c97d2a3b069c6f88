-- The table, and what the functions below the four calls do to it.
use Rattle.std.specs.Prelude.{◌≡◌, ◌∷◌, ◌++◌, ◌+◌, ◌-◌, ◌*◌, ◌%◌, Option, None, Some}
use Rattle.rules.specs.Base.{Bool, true, not, List, ℕ, suc, length, set, take, drop, pick}
use Rattle.rules.specs.Layout.{Table, table_ids, table_locations, in_form, capacity_of, used_entries}
use Rattle.rules.specs.Table.{full}
use Rattle.rules.specs.World.{Given}
use Rattle.rules.specs.TableCalls.{TableAfter, with_stored}

-- what a table call left, as its result and the lent buffer give it
abbrev pub leaving : Given → Table → TableAfter
leaving answer table = record { answer = answer; table = table }

-- what a call that is not refused with 1 knows of the table
pub record Formed (b : Table) : Type 0 where
  pub even : length b % 2 ≡ 0
  pub form : in_form b ≡ true

-- the least id that may stand behind the last one, if there is one
abbrev pub least_behind : Option ℕ → ℕ
least_behind None = 0
least_behind (Some last) = suc last

-- entry k replaced
abbrev pub with_pair : Table → ℕ → ℕ → ℕ → Table
with_pair b k id location = set (set b (2 * k) id) (2 * k + 1) location

-- v at k, what stood at k to n - 1 one place further
unfoldable pub inserted : List ℕ → ℕ → ℕ → ℕ → List ℕ
inserted s k n v = take k s ++ (v ∷ (take (n - k) (drop k s) ++ drop (suc n) s))

-- the same of a table: ids and locations each, and no other word
pub record Inserted (b : Table) (k n id location : ℕ) (after : Table) : Type 0 where
  pub words : length after ≡ length b
  pub ids : table_ids after ≡ inserted (table_ids b) k n id
  pub locations : table_locations after ≡ inserted (table_locations b) k n location

-- what a store leaves and says: nothing changes for "a new id in a full table"
pub record StoredIn (b : Table) (id location : ℕ) (room : Bool) (after : Table) : Type 0 where
  pub answer : room ≡ not (full (used_entries b) (capacity_of b) id)
  pub left : after ≡ pick (full (used_entries b) (capacity_of b) id) b (with_stored b id location)
