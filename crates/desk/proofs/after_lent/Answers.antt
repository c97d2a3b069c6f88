use mathlib.Core.Path.{ap, ◌∙◌}
use Rattle.rules.specs.TwoCalls.{rewrite_call}
use Rattle.rules.specs.World.{World}
use Rattle.desk.specs.Types.{Request, Turn}
use Rattle.desk.specs.Desk.{desk, moved, Outcome, left, called}
use Rattle.desk.specs.Commands.{notes, lent_by}
use Rattle.desk.proofs.Orders.{lent-rest, left-whole}
use Rattle.desk.proofs.after_lent.Goals as goal

pub returns-in-Poke : goal.returns-in-Poke
unfolding lent_by
returns-in-Poke c = rw c.in-Poke.is (c.poke.ensures _)

pub returns-in-Reopen : goal.returns-in-Reopen
unfolding lent_by
returns-in-Reopen c = rw c.in-Reopen.is c.reopen.ensures

pub returns-in-Write : goal.returns-in-Write
unfolding lent_by
returns-in-Write c = rw c.in-Write.is c.write.ensures

pub returns-in-Through : goal.returns-in-Through
unfolding lent_by
returns-in-Through c = rw c.in-Through.is c.through.ensures

pub returns-in-Prune : goal.returns-in-Prune
unfolding lent_by
returns-in-Prune c = rw c.in-Prune.is c.prune.ensures

pub returns-in-Rewrite : goal.returns-in-Rewrite
unfolding lent_by
returns-in-Rewrite c =
    let a = c.args in
    let d = desk a.b a.heap.now a.table.now in
    let asks : Request → Outcome = λ r. called moved (λ (w : World). rewrite_call w notes r.generation r.mark r.count) d in
    rw c.in-Rewrite.is (c.rewrite.ensures ∙ ap asks c.request_of.ensures)

pub returns-in-Maintain : goal.returns-in-Maintain
unfolding lent_by
returns-in-Maintain c = rw c.in-Maintain.is c.maintain.ensures

pub returns-in-Entry : goal.returns-in-Entry
returns-in-Entry c = c.on_table.ensures _ _

pub returns-in-Claim : goal.returns-in-Claim
returns-in-Claim c = c.asked.ensures _

pub returns-in_default : goal.returns-in_default
returns-in_default c =
    let a = c.args in
    ap (λ (t : Turn). left t a.heap.now a.table.now) c.bad_line.ensures
    ∙ lent-rest a.n a.bytes.now (desk a.b a.heap.now a.table.now) a.keyword (left-whole a.keyword (c.in_default.not-Poke, (c.in_default.not-Entry, (c.in_default.not-Reopen, (c.in_default.not-Write, (c.in_default.not-Claim, (c.in_default.not-Release, (c.in_default.not-Prune, (c.in_default.not-Read, (c.in_default.not-Through, (c.in_default.not-Rewrite, (c.in_default.not-Maintain, (c.in_default.not-Counts, (c.in_default.not-Load, (c.in_default.not-Store, (c.in_default.not-Cas, (c.in_default.not-Max, (c.in_default.not-Bytes, tt))))))))))))))))))
