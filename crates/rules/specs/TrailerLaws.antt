-- The trailer: its length, and that what was written is read back.
use Rattle.std.specs.Prelude.{◌≡◌, ◌≤◌, ◌<◌, ◌+◌, ◌^◌}
use Rattle.rules.specs.Base.{false, not, List, ℕ}
use Rattle.rules.specs.Types.{Entry}
use Rattle.disk_location.specs.Locations.{position_of, delete_of}
use Rattle.rules.specs.TableLaws.{Has}

-- ids and locations of 64 bits
abbrev pub Fits : List Entry → Type 0
Fits es = (x l : ℕ) → Has es x l → (x < 2 ^ 64) × (l < 2 ^ 64)

-- ---- 12
-- where an entry of this raw location may stand: its position is not over T, nor is an object's position + 20
pub record WellPlaced (offset l : ℕ) : Type 0 where
  pub inside : position_of l ≤ offset
  pub header : delete_of l ≡ false → position_of l + 20 ≤ offset
