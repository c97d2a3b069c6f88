-- The contract of rewrite, by value and on the state's words, admits one result only.
use Rattle.std.specs.Prelude.{◌≡◌}
use Rattle.rules.specs.Base.{List, ℕ}
use Rattle.rules.specs.declared.Settings.{Settings}
use Rattle.rules.specs.declared.State.{State}
use Rattle.rules.specs.declared.Claims.{Claims}
use Rattle.rules.specs.Types.{RewriteAnswer}
use Rattle.rules.proofs.Answers as answers
use Rattle.rules.specs.Layout.{Table}
use Rattle.rules.specs.TwoCalls.{room_of, notes_left, rewrite_call}
use Rattle.rules.specs.World.{World, Given, After, world, leaving, rewrite_given}
use Rattle.as_numbers.specs.StateWords.{state_in}
use Rattle.gc_course.specs.declared.Request.{Request}
use Rattle.gc.specs.declared.Rewritten.{Rewritten}

-- the buffers that are lent: heap and table, places and pieces
pub record Lent : Type 0 where
  pub heap : List ℕ
  pub table : Table
  pub places : List ℕ
  pub pieces : List ℕ

-- the settings and claims of a call, and what it was lent
pub record Asked : Type 0 where
  pub settings : Settings
  pub state : State
  pub claims : Claims
  pub lent : Lent

-- its world
abbrev pub world_of : Asked → World
world_of a = world a.settings a.state a.claims a.lent.heap a.lent.table

-- the room of its notes
abbrev pub notes_room : Asked → ℕ
notes_room a = room_of a.lent.places a.lent.pieces

-- an answer, a state and the buffers as a call's definition has them
abbrev pub Leaves : Asked → After → Given → State → Lent → Type 0
Leaves a call answer state l =
    (leaving answer (world a.settings state a.claims l.heap l.table) ≡ call)
    × ((l.places ≡ notes_left answer a.lent.places) × (l.pieces ≡ notes_left answer a.lent.pieces))

-- what the contract of rewrite says of a result and the buffers
abbrev pub Rewrites : Asked → Request → Rewritten → Lent → Type 0
Rewrites a q r l = Leaves a (rewrite_call (world_of a) (notes_room a) q.generation q.mark q.count) (rewrite_given r.answer) r.state l

-- what the contract of rewrite_in says of an answer, the words after it and the buffers
abbrev pub RewritesIn : Asked → Request → RewriteAnswer → List ℕ → Lent → Type 0
RewritesIn a q x ws l = Leaves a (rewrite_call (world_of a) (notes_room a) q.generation q.mark q.count) (rewrite_given x) (state_in ws) l
