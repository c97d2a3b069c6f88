-- Kinds of commands, by their keywords.
use types.Run.{OneOf}
use denote.Enum.Declared.{tag_of}
use Rattle.std.specs.Prelude.{◌∷◌}
use Rattle.rules.specs.Base.{List, [], ℕ, map}
use Rattle.script.specs.contracts.Keyword as keyword
use Rattle.script.specs.declared.Keyword.TheVariants as key
use Rattle.desk.specs.Types.{Keyword}

-- a keyword's number, in the order of their declaration
abbrev pub number : Keyword → ℕ
number k = tag_of keyword.the_type k

-- one of these
abbrev pub Among : List Keyword → Keyword → Type 0
Among ks k = OneOf (map number ks) (number k)

-- commands that touch no buffer
abbrev pub at_bench : List Keyword
at_bench = key.Blank ∷ key.Bad ∷ key.Settings ∷ key.State ∷ key.Record ∷ key.Claims ∷ key.Unsynced ∷ key.Sync ∷ key.Check ∷ key.List ∷ key.Dump ∷ key.Help ∷ []

-- commands that look at the buffers and change none
abbrev pub asking : List Keyword
asking = key.Claim ∷ key.Release ∷ key.Read ∷ key.Counts ∷ key.Load ∷ key.Bytes ∷ []

-- commands that change the table alone
abbrev pub tabling : List Keyword
tabling = key.Entry ∷ key.Store ∷ key.Cas ∷ key.Max ∷ []
