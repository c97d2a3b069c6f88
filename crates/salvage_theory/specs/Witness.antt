-- Salvages worked out: the report and its order, the slots after it, and what it does not promise.
use Rattle.std.specs.Prelude.{◌+◌}
use Rattle.rules.specs.Base.{ℕ}
use Rattle.losses.specs.Salvage.{Sound}

-- a sound file of this slot, masked lsn and T
abbrev pub sound : ℕ → ℕ → ℕ → Sound
sound slot lsn T = record { slot = slot; label = record { lsn = lsn; trailer_offset = T; file_size = T + 28; present_objects = 1; generation = 0 } }
