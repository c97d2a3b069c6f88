-- "a claim is set and cleared in place, slot by slot": that slot's, and no other.
use Rattle.std.specs.Prelude.{◌-◌, ◌/◌, ◌%◌, ◌^◌}
use Rattle.rules.specs.Base.{ℕ}

-- ---- bits
-- bit i of n
abbrev pub bit_at : ℕ → ℕ → ℕ
bit_at n i = n / 2 ^ i % 2
