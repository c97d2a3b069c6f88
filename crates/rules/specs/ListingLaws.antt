-- What "ids" counts: every used entry, and on a table in form each id whose load is not never.
use Rattle.std.specs.Prelude.{◌+◌}
use Rattle.rules.specs.Base.{Bool, not, List, ℕ, zero, suc}
use Rattle.rules.specs.Types.{Entry}
use Rattle.disk_location.specs.Locations.{bit_of}
use Rattle.rules.specs.Table.{load, never_written}

-- its load is not never
abbrev pub is_written : List Entry → ℕ → Bool
is_written es x = not (never_written (load es x))

-- ---- the number of ids
-- how many numbers below n pass
unfoldable pub count_below : (ℕ → Bool) → ℕ → ℕ
count_below p zero = 0
count_below p (suc n) = bit_of (p n) + count_below p n
