use mathlib.Core.Path.{sym, ap, ◌∙◌}
use mathlib.Core.List.{List, map}
use Rattle.rules.specs.Base.{each}
use Rattle.rules.specs.Trailer.{absolute, entries_in}
use Rattle.reopen_tests.specs.Shown.{shown-empty, shown-file}
use Rattle.rebuild.specs.Filled.{filled_none}
use Rattle.rebuild.proofs.FillTurns.{filled-as, file-placed, slot-rows}
use Prim.Native.Nat.{ℕ}
use Rattle.rebuild.proofs.table.fill_slot.Goals as goal

pub returns-then-no_file : goal.returns-then-no_file
unfolding each
returns-then-no_file c =
    let a = c.args in
    rw (shown-empty a.slot.now a.l c.requires.shown (sym c.no_file.ensures ∙ c.if-no_file.true)) (filled_none a.table.now c.requires.formed)

pub trailer_part-requires : goal.trailer_part-requires
trailer_part-requires c =
    let a = c.args in
    let w = shown-file a.slot.now a.l c.requires.shown (sym c.no_file.ensures ∙ c.if-no_file.false) in
    record { file = w.bounds.size; objects = w.bounds.offset }

pub fill_file-requires : goal.fill_file-requires
fill_file-requires c =
    let a = c.args in
    let w = shown-file a.slot.now a.l c.requires.shown (sym c.no_file.ensures ∙ c.if-no_file.false) in
    (c.requires.formed, rw c.trailer_part.ensures w.fits, rw c.trailer_part.ensures (file-placed a.slot.now a.l w))

pub returns : goal.returns
returns c =
    let a = c.args in
    let w = shown-file a.slot.now a.l c.requires.shown (sym c.no_file.ensures ∙ c.if-no_file.false) in
    let rows = ap (λ (bytes : List ℕ). map (absolute a.l.lsn) (entries_in bytes)) c.trailer_part.ensures ∙ sym (slot-rows a.slot.now a.l w) in
    filled-as rows c.fill_file.ensures
