-- Calls that store nothing and bring no put and no delete: each is one clause of `quietly` and one of `undisturbed`.
use Rattle.std.specs.Prelude.{◌≡◌}
use Rattle.rules.specs.Base.{ℕ}
use Rattle.rules.specs.Claims.{claim_call, release_call}
use Rattle.rules.specs.Sync.{sync_state}
use Rattle.rules.specs.TwoCalls.{plan_call}
use Rattle.rules.specs.World.{World, accepted, After, leaving}
use Rattle.theory.specs.Picture.{Said}
use Rattle.theory.specs.SoundWorld.{SoundWorld}

-- the calls
pub data QuietCall : Type 0 where
  claim : ℕ → QuietCall
  release : ℕ → QuietCall
  sync : QuietCall
  plan : ℕ → QuietCall

-- document 01's call, or request P6's, or P7's, which is lent notes of this room; accepted or refused
abbrev pub quietly : World → QuietCall → After
quietly w (claim slot) = claim_call w slot
quietly w (release slot) = release_call w slot
quietly w sync = sync_state w
quietly w (plan room) = leaving (plan_call w room) w

-- what such a call leaves
pub record Undisturbed (w : World) (a : After) : Type 0 where
  -- the heap is only read, and the settings stay
  pub heap : a.world.heap ≡ w.heap
  pub settings : a.world.settings ≡ w.settings
  -- the invariant, with nothing else said of any id
  pub sound : (told : ℕ → Said) → SoundWorld w told → SoundWorld a.world told
  -- "A refusal changes no state or buffer"
  pub refused : (a.answer.number ≡ 0 → ⊥) → a.world ≡ w
