use mathlib.Core.Path.{ap, ◌∙◌}
use Rattle.rules.specs.TwoCalls.{nightly_call}
use Rattle.desk.specs.Desk.{desk, moved, world_of, answered}
use Rattle.desk.proofs.Notes.{room-notes}
use Rattle.desk.proofs.calls.maintain.Goals as goal

pub returns : goal.returns
returns c =
    let a = c.args in
    let room = room-notes c.notes-places.result c.notes-pieces.result c.notes-places.ensures c.notes-pieces.ensures in
    let d = desk a.b a.heap.now a.table.now in
    rw c.with_state.ensures (ap (answered moved a.b) (c.nightly-done.ensures.leaves ∙ ap (nightly_call (world_of d)) room))
