-- Request P9: the first reported slot emptied, the report is the rest of it.
use Rattle.std.specs.Prelude.{◌≡◌, ◌+◌}
use Rattle.rules.specs.Base.{List, ℕ, set}
use Rattle.rules.specs.SlotFile.{View, empty}
use Rattle.losses.specs.Salvage.{first_kind, the_rest}
use Rattle.salvage_theory.specs.Types.{Loss}

-- the first of the first kind emptied: the others stay, and the rest
pub record FirstNext (n : ℕ) (views : List View) (x : Loss) (rest : List Loss) : Type 0 where
  pub off : ℕ
  pub is : x.slot ≡ n + off
  pub others : first_kind n (set views off empty) ≡ rest
  pub sound : the_rest n (set views off empty) ≡ the_rest n views
