use Rattle.std.proofs.Common.{◌≡◌, length, drop}
use Rattle.numbers.specs.LittleEndian.{Bytes}
use Rattle.checksum.specs.Checksum.{crc_from}
use Rattle.checksum.proofs.feed.Given as goal

abbrev pub invariant-loop-word : goal.invariant-loop-word
invariant-loop-word l = Bytes l.rest × (crc_from l.x l.rest ≡ crc_from l.r l.s)

abbrev pub decreases-loop-word : goal.decreases-loop-word
decreases-loop-word l = length l.rest

abbrev pub invariant-loop-b : goal.invariant-loop-b
invariant-loop-b l = crc_from l.x (drop l.b-index l.b-items) ≡ crc_from l.r l.s
