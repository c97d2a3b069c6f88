-- The table's buffer: lengths as facts, its ids and locations, and that a buffer laid out holds what was laid out.
use Rattle.std.specs.Prelude.{◌≡◌, ◌≤◌, ◌<◌, ◌-◌, ◌%◌}
use Rattle.rules.specs.Base.{List, ℕ, length}
use Rattle.rules.specs.Types.{Entry}
use Rattle.rules.specs.TableLaws.{Has}
use Rattle.rules.specs.Layout.{Table, capacity_of}

-- "table entries 1..65,536"; "1 also for an odd length"
pub record LengthsInRange (b : Table) : Type 0 where
  pub even : length b % 2 ≡ 0
  pub some : 1 ≤ capacity_of b
  pub most : capacity_of b ≤ 65536

-- "location 0 means unused": none of these is
abbrev pub Used : List Entry → Type 0
Used es = (x l : ℕ) → Has es x l → 0 < l
