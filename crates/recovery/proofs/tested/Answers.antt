use mathlib.Core.Path.{sym, ◌∙◌}
use Rattle.rules.specs.SlotFile.{views_in}
use Rattle.recovery.specs.Reopening.{bare}
use Rattle.recovery.proofs.Steps.{tests-refuse, tests-clear, tests-apart, gives_up}
use Rattle.recovery.proofs.tested.Goals as goal

pub rebuilt-requires : goal.rebuilt-requires
rebuilt-requires c =
    let a = c.args in
    (c.requires.0, c.requires.1, c.requires.2, tests-apart a.n a.size a.heap.now _ c.requires.0 (sym c.check.ensures ∙ c.in-Ok.is))

pub returns-in-Err : goal.returns-in-Err
returns-in-Err c =
    let a = c.args in
    let w = bare a.settings a.heap.now a.table.now in
    gives_up a.settings a.heap.now a.table.now _ _ _ c.in-Err.r c.given_up.ensures c.capacity.ensures c.requires.2.zero
    ∙ sym (tests-refuse w (views_in a.n a.size a.heap.now) c.in-Err.r (sym c.check.ensures ∙ c.in-Err.is))

pub returns-in-Ok : goal.returns-in-Ok
returns-in-Ok c =
    let a = c.args in
    let w = bare a.settings a.heap.now a.table.now in
    c.rebuilt.ensures
    ∙ sym (tests-clear w (views_in a.n a.size a.heap.now) (sym c.check.ensures ∙ c.in-Ok.is))
