-- A reopening hangs on settings, heap and the size of the table alone.
use Rattle.std.specs.Prelude.{◌-◌}
use Rattle.rules.specs.Base.{List, ℕ, replicate}
use Rattle.theory.specs.Types.{Settings}
use Rattle.rules.specs.Refusal.{decide, after}
use Rattle.rules.specs.Claims.{no_claims}
use Rattle.rules.specs.Reopen.{reopen_tests, given_up, opened}
use Rattle.rules.specs.World.{World, no_state, After}
use Rattle.theory.specs.Picture.{views_of}

-- these settings, this heap and a table of this size: no other memory
abbrev pub bare : Settings → List ℕ → ℕ → World
bare settings heap words = record { settings = settings; state = no_state; claims = no_claims; heap = heap; table = replicate words 0 }

-- what a reopening does once 1 does not refuse it
abbrev pub once_in_range : World → After
once_in_range w = after (decide (reopen_tests w (views_of w))) (given_up w) (opened w (views_of w))
