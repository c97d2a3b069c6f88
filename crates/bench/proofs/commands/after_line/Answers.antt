use mathlib.Core.Path.{ap, ◌∙◌}
use lib.ListN.{length}
use Rattle.desk.specs.Desk.{Outcome}
use Rattle.bench.proofs.Answers.{ran-order}
use Rattle.bench.proofs.commands.after_line.Goals as goal

pub shape_of-decoded : goal.shape_of-decoded
shape_of-decoded g c =
    c.order_of-order.auto.bytes

pub returns : goal.returns
returns g c =
    let a = c.args in
    let asked = c.order_of-order.ensures in
    record {
      runs = ap (λ (x : Outcome). x.desk) c.after_order-turn.ensures.leaves ∙ ran-order (length a.decoded.now) a.line.now a.decoded.now _ _ _ asked.answers asked.writes;
      decodes = asked.writes;
    }
