-- A store of the invariant stands on a heap; runs that may be cut anywhere.
use Rattle.std.specs.Prelude.{◌≡◌, ◌-◌}
use Rattle.rules.specs.Base.{List, ℕ, take}
use Rattle.rules.specs.Stores.{Store, made}
use Rattle.rules.specs.World.{World}
use Rattle.theory.specs.Picture.{Said}
use Rattle.theory.specs.SoundWorld.{SoundWorld}
use Rattle.power_cuts.specs.Cuts.{Alike, cut}

-- ---- what stands on a heap
-- a store of the invariant has this heap, and is like w
pub record StandsOn (w : World) (heap : List ℕ) (told : ℕ → Said) : Type 0 where
  pub store : World
  pub alike : Alike w store
  pub bytes : store.heap ≡ heap
  pub sound : SoundWorld store told

-- ---- a run that may be cut anywhere
-- w becomes v by the run; cut behind any of its stores, it leaves a store of the invariant of which the engine says the same
pub record Endured (w v : World) (run : List Store) (told : ℕ → Said) : Type 0 where
  pub alike : Alike w v
  pub bytes : v.heap ≡ made run w.heap
  pub sound : SoundWorld v told
  pub cut : (k : ℕ) → StandsOn w (made (take k run) w.heap) told
