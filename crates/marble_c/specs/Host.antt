-- What a host in C lends.
use Rattle.rules.specs.Base.{List, ℕ, get_or}
use Rattle.rules.specs.declared.Settings.{Settings}
use Rattle.rules.specs.TwoCalls.{plan_call, rewrite_call}
use Rattle.rules.specs.World.{World, world, Given, After, leaving}
use Rattle.as_numbers.specs.ClaimWords.{claims_in}
use Rattle.as_numbers.specs.Shown.{given, shown}
use Rattle.as_numbers.specs.StateWords.{state_in}
use Rattle.plan_words.specs.PlanWords.{plan_laid}

-- the world that a host's words and buffers hold: the state's words, the claim record's, heap and table
abbrev pub world_in : Settings → List ℕ → List ℕ → List ℕ → List ℕ → World
world_in settings state claims heap table = world settings (state_in state) (claims_in claims) heap table

-- a plan's number and its 777 words
abbrev pub plan_shown : World → ℕ → Given
plan_shown w room = given (plan_call w room).number (plan_laid w room)

-- what a call left, its answer in k places
abbrev pub shown_after : ℕ → After → After
shown_after k a = leaving (shown k a.answer) a.world

-- a rewrite, as a host asks for it: generation, mark and count, in the first three words
abbrev pub rewrite_asked : World → ℕ → List ℕ → After
rewrite_asked w room asked = rewrite_call w room (get_or asked 0 0) (get_or asked 1 0) (get_or asked 2 0)
