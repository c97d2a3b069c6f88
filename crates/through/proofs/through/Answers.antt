use Rattle.rules.specs.Claims.{no_claims}
use Rattle.rules.specs.World.{world}
use Rattle.through.proofs.ThroughLaws.{through-named}
use Rattle.through.proofs.through.Goals as goal

pub piece-requires : goal.piece-requires
piece-requires c =
    let a = c.args in
    let w = world a.settings a.state no_claims a.heap.now a.table.now in
    rw (c.through_answer-answer.ensures no_claims) (through-named w a.id a.batch.now)
