-- A call stores bytes: of any world whose heap is bytes every call leaves a heap of bytes, where the batch of a write is bytes.
use Rattle.std.specs.Prelude.{◌<◌, ◌-◌}
use Rattle.numbers.specs.LittleEndian.{Bytes}
use Rattle.rules.specs.Base.{ℕ}
use Rattle.rules.specs.BaseLaws.{All}
use Rattle.rules.specs.Ops.{Content, put, delete, Op}
use Rattle.rules.specs.Batch.{Parsed, malformed, parsed}
use Rattle.rules.specs.Stores.{Store}
use Rattle.history_theory.specs.History.{Call, write, rewrite, prune, reopen, quiet}

-- one byte
abbrev pub Byte : ℕ → Type 0
Byte b = b < 256

-- a put's body is bytes
abbrev pub BodyOf : Content → Type 0
BodyOf (put body) = All Byte body
BodyOf delete = Unit {0}

-- of an operation
abbrev pub OpBytes : Op → Type 0
OpBytes o = BodyOf o.content

-- ---- stores
-- of a byte
abbrev pub ByteStored : Store → Type 0
ByteStored s = Byte s.byte

-- ---- a batch of bytes has bodies of bytes
-- of what was parsed
abbrev pub ParsedBytes : Parsed → Type 0
ParsedBytes malformed = Unit {0}
ParsedBytes (parsed o at) = OpBytes o

-- ---- any call
-- what a host hands in is bytes
abbrev pub CallBytes : Call → Type 0
CallBytes (write batch) = Bytes batch
CallBytes (rewrite room g mark count) = Unit {0}
CallBytes prune = Unit {0}
CallBytes reopen = Unit {0}
CallBytes (quiet q) = Unit {0}
