-- Where an id stands in the used entries: what a search answers, whichever way it goes.
use Rattle.std.specs.Prelude.{◌∷◌, Err, Ok}
use Rattle.rules.specs.Base.{List, [], ℕ, suc, ltb, eqb, pick}
use Rattle.rules.specs.declared.Entry.{Entry}
use Rattle.location_table.specs.Answers.{Place}

-- one entry further
abbrev pub later : Place → Place
later (Ok k) = Ok (suc k)
later (Err k) = Err (suc k)

-- the place of the id, or of the first greater one
unfoldable pub place : List Entry → ℕ → Place
place [] x = Err 0
place (e ∷ es) x = pick (ltb e.id x) (later (place es x)) (pick (eqb e.id x) (Ok 0) (Err 0))

-- its number, whether the id stands there or would
abbrev pub number_of : Place → ℕ
number_of (Ok k) = k
number_of (Err k) = k
