-- "The last operation on an id counts."
use Rattle.std.specs.Prelude.{◌∷◌}
use Rattle.rules.specs.Base.{List, [], ℕ, eqb, pick}
use Rattle.rules.specs.Ops.{Content, Op}

-- what is said of an id: nothing, or its content
pub data Last : Type 0 where
  silent : Last
  last : Content → Last

-- the later word, or else the earlier
abbrev pub or_earlier : Last → Last → Last
or_earlier (last c) earlier = last c
or_earlier silent earlier = earlier

-- what one operation says of x
abbrev pub said_by : Op → ℕ → Last
said_by o x = pick (eqb o.id x) (last o.content) silent

-- the last operation on x
unfoldable pub last_on : List Op → ℕ → Last
last_on [] x = silent
last_on (o ∷ os) x = or_earlier (last_on os x) (said_by o x)
