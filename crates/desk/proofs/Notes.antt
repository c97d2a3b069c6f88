-- The notes that the console lends to a plan, a rewrite and the nightly job.
use mathlib.Core.Path.{◌≡◌, refl, sym}
use Rattle.rules.specs.Base.{List, ℕ, length}
use Rattle.rules.specs.TwoCalls.{room_of}
use Rattle.desk.specs.Commands.{notes}

-- what they have room for
pub room-notes : (places pieces : List ℕ) → 65536 ≡ length places → 65536 ≡ length pieces → room_of places pieces ≡ notes
room-notes places pieces e f = rw (sym e, sym f) refl
