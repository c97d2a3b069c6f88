-- Entries of tables and trailers: stores of old ids, absolute locations, lists one behind the other.
use Rattle.std.specs.Prelude.{◌+◌, ◌*◌, None, Some}
use Rattle.rules.specs.Base.{ℕ}
use Rattle.theory.specs.Types.{Held}

-- what is held, counted from a file's lsn
abbrev pub shift_held : ℕ → Held → Held
shift_held n (Some l) = Some (l + 2 * n)
shift_held n None = None
