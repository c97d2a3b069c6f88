use mathlib.Core.Path.{sym, ap, ◌∙◌}
use native.Mathlib.Omega.{arith}
use lib.ListN.{length}
use lib.Dec.{ltb}
use Rattle.gc_notes.specs.Notes.{places-short, pieces-decide}
use Rattle.gc_notes.proofs.too_short.Goals as goal

pub returns-then-places-n : goal.returns-then-places-n
returns-then-places-n c =
    let a = c.args in
    sym (places-short a.places.now a.pieces.now a.table.now (omega (arith, c.if-places-n.true, c.capacity-n.ensures)))

pub returns : goal.returns
returns c =
    let a = c.args in
    ap (ltb (length a.pieces.now)) c.capacity-n.ensures
    ∙ sym (pieces-decide a.places.now a.pieces.now a.table.now (omega (arith, c.if-places-n.false, c.capacity-n.ensures)))
