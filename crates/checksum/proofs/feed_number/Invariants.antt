use Rattle.std.proofs.Common.{◌≡◌, ◌-◌}
use Rattle.numbers.specs.LittleEndian.{le_bytes}
use Rattle.checksum.specs.Checksum.{crc_from}
use Rattle.checksum.proofs.feed_number.Given as goal

abbrev pub invariant-loop-i : goal.invariant-loop-i
invariant-loop-i l = crc_from l.x (le_bytes (l.n - l._i) l.rest) ≡ crc_from l.r (le_bytes l.n l.v)
