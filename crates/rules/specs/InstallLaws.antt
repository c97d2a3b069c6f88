-- Adding files: what 4, 5 and 7 leave known, and what stays as it was.
use Rattle.std.specs.Prelude.{◌≡◌, ◌≤◌, ◌+◌, ◌-◌, None, Some}
use Rattle.rules.specs.Base.{List, ℕ, length, Bool, false, eqb}
use Rattle.rules.specs.Types.{Record, Slot}
use Rattle.rules.specs.BaseLaws.{All}
use Rattle.rules.specs.FileMap.{with_live}
use Rattle.rules.specs.Ops.{Op, file_bytes}

-- ---- 4, 5, 7 do not hold
-- every file fits its slot, and there are slots for all
pub record Room (slot_size empty_ones : ℕ) (files : List (List Op)) : Type 0 where
  pub fits : All (λ (f : List Op). 64 + length (file_bytes f) ≤ slot_size) files
  pub slots : length files ≤ empty_ones

-- slot k is the one found
abbrev pub is_at : ℕ → Slot → Bool
is_at k (Some j) = eqb j k
is_at k None = false

-- a record but for its live count, which does not grow
pub record Less (r q : Record) : Type 0 where
  pub same : q ≡ with_live r q.live
  pub less : q.live ≤ r.live
