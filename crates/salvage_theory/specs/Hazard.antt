-- Request P9, what a salvage cannot know: as soon as one slot is given up an id may read as an older version, and a delete may be undone.
use Rattle.std.specs.Prelude.{◌∷◌, ◌+◌}
use Rattle.rules.specs.Base.{[], set}
use Rattle.rules.specs.World.{World}
use Rattle.history_theory.specs.History.{write, called}
use Rattle.history_theory.specs.Writes.{deleted}
use Rattle.power_cuts.specs.Hidden.{with_heap}
use Rattle.power_cuts.specs.Witness.{first, again}

-- slot 1 scratched: byte 21 of its file, the first of its trailer's checksum, is 0xff
abbrev scratched : World → World
scratched w = with_heap w (set w.heap (128 + (64 + 21)) 0xff)

-- 7 put as 0x41 in slot 0, then as 0x42 in slot 1
abbrev pub newer : World
newer = scratched (called first again).world

-- 7 put as 0x41 in slot 0, then deleted in slot 1, where the trailer begins the file
abbrev pub gone : World
gone = let w = (called first (write (0x07 ∷ 0x00 ∷ []))).world in with_heap w (set w.heap (128 + 64) 0xff)
