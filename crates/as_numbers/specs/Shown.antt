-- An answer in a host's out-parameters: the number, and a place for each value; a place that no value comes to is 0.
use Rattle.std.specs.Prelude.{◌∷◌}
use Rattle.rules.specs.Base.{List, ℕ, eqb, pick, padded}
use Rattle.rules.specs.World.{Given, After}
use Rattle.rules.specs.TableCalls.{TableAfter}

-- a number and values
abbrev pub given : ℕ → List ℕ → Given
given n values = record { number = n; values = values }

-- in k places
abbrev pub shown : ℕ → Given → Given
shown k g = given g.number (padded k g.values)

-- "number, generation and ids moved so far", "the count of ids moved": two places, the generation 0 where nothing stopped
abbrev pub stop_shown : Given → Given
stop_shown g = given g.number (pick (eqb g.number 0) (0 ∷ g.values) g.values)

-- what a table call left, its answer in k places
abbrev pub shown_table : ℕ → TableAfter → TableAfter
shown_table k a = record { answer = shown k a.answer; table = a.table }

-- what a call left, its answer in two places
abbrev pub stop_after : After → After
stop_after a = record { answer = stop_shown a.answer; world = a.world }
