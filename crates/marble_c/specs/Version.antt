-- The version of the interface for C, which include/marble.h has as MARBLE_VERSION.
use Rattle.std.specs.Prelude.{ℕ}

-- 1,000 times the major number plus the minor one: major 5, minor 0
abbrev pub version : ℕ
version = 5000
