-- What follows a keyword.
use Rattle.std.specs.Prelude.{true, false, ℕ}
use Rattle.script.specs.declared.Shape.{Shape}
use Rattle.script.specs.declared.Keyword.{Keyword}
use Rattle.script.specs.declared.Keyword.TheVariants as key

-- so many numbers
abbrev pub numbers : ℕ → Shape
numbers n = record { numbers = n; bytes = false }

-- so many numbers, then a word of bytes
abbrev pub numbers_and_bytes : ℕ → Shape
numbers_and_bytes n = record { numbers = n; bytes = true }

-- what follows each
unfoldable pub shape_of : Keyword → Shape
shape_of key.Blank = numbers 0
shape_of key.Bad = numbers 0
shape_of key.Settings = numbers 6
shape_of key.Heap = numbers 1
shape_of key.Table = numbers 1
shape_of key.Poke = numbers_and_bytes 1
shape_of key.Entry = numbers 3
shape_of key.State = numbers 9
shape_of key.Record = numbers 8
shape_of key.Claims = numbers 4
shape_of key.Reopen = numbers 0
shape_of key.Write = numbers_and_bytes 0
shape_of key.Claim = numbers 1
shape_of key.Release = numbers 1
shape_of key.Prune = numbers 0
shape_of key.Read = numbers 1
shape_of key.Through = numbers_and_bytes 1
shape_of key.Plan = numbers 0
shape_of key.Rewrite = numbers 3
shape_of key.Maintain = numbers 0
shape_of key.Counts = numbers 0
shape_of key.Unsynced = numbers 0
shape_of key.Sync = numbers 0
shape_of key.Check = numbers 1
shape_of key.Salvage = numbers 0
shape_of key.Load = numbers 1
shape_of key.Store = numbers 2
shape_of key.Cas = numbers 3
shape_of key.Max = numbers 2
shape_of key.List = numbers 0
shape_of key.Dump = numbers 0
shape_of key.Bytes = numbers 2
shape_of key.Help = numbers 0
