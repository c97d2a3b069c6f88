-- What maintenance finds in a group is current: an object or a delete at its id's location is what the engine says of it.
use Rattle.std.specs.Prelude.{◌≡◌, ◌<◌, ◌≤◌, ◌-◌, ◌^◌}
use Rattle.rules.specs.Base.{List, ℕ, length, drop, each}
use Rattle.rules.specs.Object.{Stored, stored_at}
use Rattle.rules.specs.Ops.{Op}
use Rattle.rules.specs.SettledLaws.{last}
use Rattle.theory.specs.Picture.{Said, last_says}

-- an operation that says what is said already, on an id of 64 bits
abbrev pub Movable : (ℕ → Said) → Op → Type 0
Movable told o = (told o.id ≡ last_says (last o.content)) × (o.id < 2 ^ 64)

-- ---- the walk over object bytes: each object is what stands at its position
abbrev pub StandsIn : List ℕ → Stored → Type 0
StandsIn objects o = (o ≡ stored_at o.position (drop o.position objects)) × (o.position ≤ length objects)
