-- "A refusal stops the call, keeps finished groups": of every world, the world left is the one in which the refused generation's turn came.
use Rattle.std.specs.Prelude.{◌≡◌}
use Rattle.rules.specs.Base.{ℕ}
use Rattle.rules.specs.Maintenance.{going}
use Rattle.rules.specs.World.{World}
use Rattle.maintenance_theory.specs.Exactly.{turn}

-- the world left is the one in which generation g's turn came, and no generation before it was refused
pub record KeepsFinished (w : World) (g : ℕ) (v : World) : Type 0 where
  pub world : v ≡ (turn w g).world
  pub going : (turn w g).stop ≡ going
