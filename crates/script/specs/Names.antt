-- The names of the commands.
use Rattle.std.specs.Prelude.{Bool, true, false, ◌&&◌, List, [], ◌∷◌, ℕ, eqb}
use Rattle.numbers.specs.Choice.{pick}
use Rattle.script.specs.declared.Keyword.{Keyword}
use Rattle.script.specs.declared.Keyword.TheVariants as key

-- the same bytes
unfoldable pub same_bytes : List ℕ → List ℕ → Bool
same_bytes [] [] = true
same_bytes [] (b ∷ bs) = false
same_bytes (a ∷ more) [] = false
same_bytes (a ∷ more) (b ∷ bs) = eqb a b && same_bytes more bs

-- a name and what it names
pub record Name : Type 0 where
  pub name : List ℕ
  pub keyword : Keyword

-- the bytes of a name, and what it names
abbrev pub called : List ℕ → Keyword → Name
called name keyword = record { name = name; keyword = keyword }

-- what changes settings, buffers and state by hand
abbrev pub hand_names : List Name
hand_names =
    -- settings
    called (115 ∷ 101 ∷ 116 ∷ 116 ∷ 105 ∷ 110 ∷ 103 ∷ 115 ∷ []) key.Settings ∷
    -- heap
    called (104 ∷ 101 ∷ 97 ∷ 112 ∷ []) key.Heap ∷
    -- table
    called (116 ∷ 97 ∷ 98 ∷ 108 ∷ 101 ∷ []) key.Table ∷
    -- poke
    called (112 ∷ 111 ∷ 107 ∷ 101 ∷ []) key.Poke ∷
    -- entry
    called (101 ∷ 110 ∷ 116 ∷ 114 ∷ 121 ∷ []) key.Entry ∷
    -- state
    called (115 ∷ 116 ∷ 97 ∷ 116 ∷ 101 ∷ []) key.State ∷
    -- record
    called (114 ∷ 101 ∷ 99 ∷ 111 ∷ 114 ∷ 100 ∷ []) key.Record ∷
    -- claims
    called (99 ∷ 108 ∷ 97 ∷ 105 ∷ 109 ∷ 115 ∷ []) key.Claims ∷
    []

-- the calls
abbrev pub call_names : List Name
call_names =
    -- reopen
    called (114 ∷ 101 ∷ 111 ∷ 112 ∷ 101 ∷ 110 ∷ []) key.Reopen ∷
    -- write
    called (119 ∷ 114 ∷ 105 ∷ 116 ∷ 101 ∷ []) key.Write ∷
    -- claim
    called (99 ∷ 108 ∷ 97 ∷ 105 ∷ 109 ∷ []) key.Claim ∷
    -- release
    called (114 ∷ 101 ∷ 108 ∷ 101 ∷ 97 ∷ 115 ∷ 101 ∷ []) key.Release ∷
    -- prune
    called (112 ∷ 114 ∷ 117 ∷ 110 ∷ 101 ∷ []) key.Prune ∷
    -- read
    called (114 ∷ 101 ∷ 97 ∷ 100 ∷ []) key.Read ∷
    -- through
    called (116 ∷ 104 ∷ 114 ∷ 111 ∷ 117 ∷ 103 ∷ 104 ∷ []) key.Through ∷
    -- plan
    called (112 ∷ 108 ∷ 97 ∷ 110 ∷ []) key.Plan ∷
    -- rewrite
    called (114 ∷ 101 ∷ 119 ∷ 114 ∷ 105 ∷ 116 ∷ 101 ∷ []) key.Rewrite ∷
    -- maintain
    called (109 ∷ 97 ∷ 105 ∷ 110 ∷ 116 ∷ 97 ∷ 105 ∷ 110 ∷ []) key.Maintain ∷
    -- counts
    called (99 ∷ 111 ∷ 117 ∷ 110 ∷ 116 ∷ 115 ∷ []) key.Counts ∷
    -- unsynced
    called (117 ∷ 110 ∷ 115 ∷ 121 ∷ 110 ∷ 99 ∷ 101 ∷ 100 ∷ []) key.Unsynced ∷
    -- sync
    called (115 ∷ 121 ∷ 110 ∷ 99 ∷ []) key.Sync ∷
    -- check
    called (99 ∷ 104 ∷ 101 ∷ 99 ∷ 107 ∷ []) key.Check ∷
    -- salvage
    called (115 ∷ 97 ∷ 108 ∷ 118 ∷ 97 ∷ 103 ∷ 101 ∷ []) key.Salvage ∷
    []

-- the table calls, and what is for people
abbrev pub table_names : List Name
table_names =
    -- load
    called (108 ∷ 111 ∷ 97 ∷ 100 ∷ []) key.Load ∷
    -- store
    called (115 ∷ 116 ∷ 111 ∷ 114 ∷ 101 ∷ []) key.Store ∷
    -- cas
    called (99 ∷ 97 ∷ 115 ∷ []) key.Cas ∷
    -- max
    called (109 ∷ 97 ∷ 120 ∷ []) key.Max ∷
    -- list
    called (108 ∷ 105 ∷ 115 ∷ 116 ∷ []) key.List ∷
    -- dump
    called (100 ∷ 117 ∷ 109 ∷ 112 ∷ []) key.Dump ∷
    -- bytes
    called (98 ∷ 121 ∷ 116 ∷ 101 ∷ 115 ∷ []) key.Bytes ∷
    -- help
    called (104 ∷ 101 ∷ 108 ∷ 112 ∷ []) key.Help ∷
    []

-- what the word names, or else another keyword
unfoldable pub named_in : List Name → List ℕ → Keyword → Keyword
named_in [] w other = other
named_in (n ∷ ns) w other = pick (same_bytes w n.name) n.keyword (named_in ns w other)

-- a line's first word; any that is no name: Bad
unfoldable pub keyword_of : List ℕ → Keyword
keyword_of w = named_in hand_names w (named_in call_names w (named_in table_names w key.Bad))
