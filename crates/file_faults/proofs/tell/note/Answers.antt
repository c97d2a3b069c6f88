use Rattle.file_faults.proofs.Telling.{tells-here, tells-past}
use Rattle.file_faults.proofs.tell.note.Goals as goal

pub returns-then-room-count : goal.returns-then-room-count
returns-then-room-count c =
    let a = c.args in
    tells-past a.count a.x a.listing.now c.if-room-count.true

pub returns : goal.returns
returns c =
    let a = c.args in
    tells-here a.count a.x a.listing.now _ c.if-room-count.false c.put_line.ensures
