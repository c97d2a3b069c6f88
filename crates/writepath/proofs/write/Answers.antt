use mathlib.Core.Path.{sym, ap, ◌∙◌}
use Rattle.std.specs.Prelude.{Ok}
use Rattle.rules.specs.Claims.{no_claims}
use Rattle.rules.specs.World.{world}
use Rattle.writepath.specs.Filing.{call-refused, call_kept, call-written, decision-filed}
use Rattle.writepath.proofs.write.Goals as goal

pub add_file-after-requires-clause-filed : goal.add_file-after-requires-clause-filed
add_file-after-requires-clause-filed c =
    let a = c.args in
    decision-filed (world a.settings a.state no_claims a.heap.now a.table.now) a.batch.now _ (sym (c.decided.ensures.decides no_claims) ∙ c.in-Ok-Some.is ∙ ap Ok c.in-Ok-Some.field-0-is)

pub returns-in-Err : goal.returns-in-Err
returns-in-Err c =
    let a = c.args in
    λ w. call-refused (world a.settings a.state w a.heap.now a.table.now) a.batch.now _ (sym (c.decided.ensures.decides w) ∙ c.in-Err.is)

pub returns-in-Ok-None : goal.returns-in-Ok-None
returns-in-Ok-None c =
    let a = c.args in
    λ w. call_kept (world a.settings a.state w a.heap.now a.table.now) a.batch.now (sym (c.decided.ensures.decides w) ∙ c.in-Ok-None.is ∙ ap Ok c.in-Ok-None.field-0-is)

pub returns-in-Ok-Some : goal.returns-in-Ok-Some
returns-in-Ok-Some c =
    let a = c.args in
    λ w. call-written (world a.settings a.state w a.heap.now a.table.now) a.batch.now _ (sym (c.decided.ensures.decides w) ∙ c.in-Ok-Some.is ∙ ap Ok c.in-Ok-Some.field-0-is) _ (c.add_file-after.ensures w)
