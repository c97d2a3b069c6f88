-- What a table call answered and left, on the desk.
use mathlib.Core.Path.{◌≡◌, ap}
use Rattle.rules.specs.Base.{List, ℕ}
use Rattle.rules.specs.TableCalls.{TableAfter}
use Rattle.desk.specs.Types.{Bench}
use Rattle.desk.specs.Desk.{desk, Words, world_of, answered, besides}

pub tabled : (words : Words) (b : Bench) (heap table : List ℕ) {t u : TableAfter} → t ≡ u
    → answered words b (besides (world_of (desk b heap table)) t) ≡ answered words b (besides (world_of (desk b heap table)) u)
tabled words b heap table e = ap (λ (t : TableAfter). answered words b (besides (world_of (desk b heap table)) t)) e
