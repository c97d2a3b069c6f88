-- The call that rewrites one generation: what it comes to.
use Rattle.rules.specs.Maintenance.{Course}
use Rattle.rules.specs.TwoCalls.{rewrite_answered}
use Rattle.rules.specs.World.{After}

-- where a rewrite stands, as the call gives it
abbrev pub given : Course → After
given c = rewrite_answered c.stop c.moved c.world
