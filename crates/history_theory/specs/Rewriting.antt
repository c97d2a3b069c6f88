-- Files of current contents added one after another: nothing else is said of any id.
use Rattle.std.specs.Prelude.{◌<◌}
use Rattle.rules.specs.Base.{Bool, List, ℕ, length}
use Rattle.theory.specs.Types.{Record}
use Rattle.rules.specs.BaseLaws.{All}
use Rattle.rules.specs.Ops.{Op}
use Rattle.rules.specs.OpsLaws.{RisingOps}
use Rattle.rules.specs.FileMap.{is_empty}
use Rattle.theory.specs.Picture.{Said}
use Rattle.history_theory.specs.Moving.{Movable}

-- ---- one slot fewer is empty
abbrev pub empty_test : ℕ → Record → Bool
empty_test i r = is_empty r

-- a file of current contents: in order, not empty
pub record Rewritable (told : ℕ → Said) (file : List Op) : Type 0 where
  pub rising : RisingOps 0 file
  pub current : All (Movable told) file
  pub some : 0 < length file
