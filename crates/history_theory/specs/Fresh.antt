-- N: a heap whose slots all begin with byte 0 reopens with no file and next position 1, and the invariant holds.
use Rattle.std.proofs.Math.Path.{◌≡◌}
use Prim.Native.Nat.{◌<◌}
use Rattle.std.specs.Prelude.{◌*◌}
use Rattle.rules.specs.Base.{[], ℕ, get_or}
use Rattle.rules.specs.Layout.{capacity_of, laid_out}
use Rattle.rules.specs.FileMap.{no_files}
use Rattle.rules.specs.Claims.{no_claims}
use Rattle.rules.specs.Reopen.{state_of}
use Rattle.rules.specs.World.{World, slots_of}

-- every slot of the heap begins with byte 0, whatever follows
abbrev pub Blank : World → Type 0
Blank w = (k : ℕ) → k < slots_of w → get_or w.heap (k * w.settings.slot_bytes) 0 ≡ 0

-- no file, no entry, no claim, next position 1
abbrev pub fresh : World → World
fresh w = record { settings = w.settings; state = state_of w no_files 1; claims = no_claims; heap = w.heap; table = laid_out (capacity_of w.table) [] }
