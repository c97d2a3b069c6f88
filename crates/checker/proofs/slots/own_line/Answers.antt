use mathlib.Core.Path.{sym, ap, ◌∙◌}
use mathlib.Core.List.{[], ◌∷◌}
use Rattle.file_faults.proofs.Telling.{tells_none, tells_as}
use Rattle.checker.specs.Types.{Fault}
use Rattle.checker.specs.SlotLines.{own_line}
use Rattle.checker.proofs.slots.own_line.Goals as goal

pub returns-in-Err : goal.returns-in-Err
returns-in-Err c =
    let a = c.args in
    tells_as
    (ap (λ (x : Fault). x ∷ []) c.nowhere.ensures ∙ ap (own_line a.number) (sym c.in-Err.is ∙ c.own.ensures))
    c.note.ensures

pub returns-in-Ok : goal.returns-in-Ok
returns-in-Ok c =
    let a = c.args in
    tells_as (ap (own_line a.number) (sym c.in-Ok.is ∙ c.own.ensures)) (tells_none a.count a.listing.now)
