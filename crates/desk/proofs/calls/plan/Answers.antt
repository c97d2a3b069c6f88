use mathlib.Core.Path.{◌≡◌, ap, ◌∙◌}
use Rattle.rules.specs.World.{Given, answer_given}
use Rattle.gc_plan.specs.declared.Planned.{Planned}
use Rattle.gc_plan.specs.Plans.{plan_result}
use Rattle.plan_words.specs.PlanWords.{plan_words}
use Rattle.plan_words.specs.PlanLaws.{plan-laid, plan-answered}
use Rattle.desk.specs.Desk.{desk, planned, gave, Outcome, world_of}
use Rattle.desk.specs.Commands.{notes}
use Rattle.desk.proofs.Notes.{room-notes}
use Rattle.desk.proofs.calls.plan.Goals as goal

pub returns : goal.returns
returns c =
    let a = c.args in
    let d = desk a.b a.heap.now a.table.now in
    let room = room-notes c.notes-places.result c.notes-pieces.result c.notes-places.ensures c.notes-pieces.ensures in
    let done : c.plan-done.result ≡ plan_result (world_of d) notes = c.plan-done.ensures.answers ∙ ap (plan_result (world_of d)) room in
    let said : Given → Outcome = λ g. record { reply = gave planned g; desk = d } in record {
      leaves = ap said (ap (λ (p : Planned). answer_given p.answer) done ∙ plan-answered (world_of d) notes);
      gives = c.put_plan.ensures ∙ ap (λ (p : Planned). plan_words p.plan) done ∙ plan-laid (world_of d) notes;
    }
