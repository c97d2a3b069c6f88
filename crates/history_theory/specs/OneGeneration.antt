-- Request P7: a rewrite of one named generation, of any world, whatever numbers it is given.
use Rattle.std.specs.Prelude.{◌≡◌, ◌⊎◌}
use Rattle.rules.specs.Base.{ℕ}
use Rattle.theory.specs.Types.{Refusal}
use Rattle.rules.specs.Maintenance.{going, stopped, Course}
use Rattle.rules.specs.World.{World}

-- ---- a refused one
-- not refused; or refused, nothing moved and nothing changed
abbrev pub StopsOrKeeps : World → ℕ → Course → Type 0
StopsOrKeeps w g c = (c.stop ≡ going) ⊎ ((r : Refusal) × (c ≡ record { stop = stopped r g; moved = 0; world = w }))
