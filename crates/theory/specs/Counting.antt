-- How many entries of a table have a location that passes a test.
use Rattle.std.specs.Prelude.{None, Some}
use Rattle.rules.specs.Base.{Bool, List, ℕ, length, keep}
use Rattle.theory.specs.Types.{Entry, Held}
use Rattle.disk_location.specs.Locations.{bit_of}

-- how many
abbrev pub count : (ℕ → Bool) → List Entry → ℕ
count p t = length (keep (λ (e : Entry). p e.location) t)

-- the share of the entry that an id has
abbrev pub had : (ℕ → Bool) → Held → ℕ
had p None = 0
had p (Some l) = bit_of (p l)
