use mathlib.Core.Path.{ap, ◌∙◌}
use Rattle.rules.specs.Base.{ℕ}
use Rattle.rules.specs.TwoCalls.{rewrite_call}
use Rattle.desk.specs.Desk.{desk, moved, world_of, answered}
use Rattle.desk.proofs.Notes.{room-notes}
use Rattle.desk.proofs.calls.rewrite.Goals as goal

pub returns : goal.returns
returns c =
    let a = c.args in
    let asked = a.asked in
    let room = room-notes c.notes-places.result c.notes-pieces.result c.notes-places.ensures c.notes-pieces.ensures in
    let d = desk a.b a.heap.now a.table.now in
    rw c.with_state.ensures
    (ap (answered moved a.b)
    (c.rewrite-done.ensures.leaves ∙ ap (λ (n : ℕ). rewrite_call (world_of d) n asked.generation asked.mark asked.count) room))
