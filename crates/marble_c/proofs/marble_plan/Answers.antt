use mathlib.Core.Path.{sym, ap, ap₂, ◌∙◌}
use Prim.Native.Nat.{ℕ}
use Rattle.rules.specs.TwoCalls.{room_of, notes_left}
use Rattle.rules.specs.World.{World, world, Given, answer_given}
use Rattle.as_numbers.specs.Numbered.{numbered}
use Rattle.as_numbers.specs.Shown.{given}
use Rattle.as_numbers.specs.StateWords.{state_in}
use Rattle.gc_plan.specs.declared.Planned.{Planned}
use Rattle.gc_plan.specs.Plans.{plan_given, plan-given}
use Rattle.plan_words.specs.PlanWords.{plan_words}
use Rattle.plan_words.specs.PlanLaws.{plan-laid, plan-answered}
use Rattle.marble_c.proofs.marble_plan.Goals as goal

pub returns : goal.returns
returns c =
    let a = c.args in
    let w : World = world a.settings (state_in a.state.now) c.claims_in.result a.heap.now a.table.now in
    let room = room_of a.places.now a.pieces.now in
    let e = c.plan_in-done.ensures.answers in
    let told = ap (λ (g : Given). g.number) c.number.ensures ∙ ap (λ (z : Planned). (answer_given z.answer).number) e ∙ ap (λ (g : Given). g.number) (plan-answered w room) in
    let same = ap (λ (z : Planned). (plan_given z).number) e ∙ ap (λ (g : Given). g.number) (plan-given w room) ∙ sym told in
    rw (← c.claims_in.ensures) (record {
      tells = ap₂ given told (c.put_plan.ensures ∙ ap (λ (z : Planned). plan_words z.plan) e ∙ plan-laid w room);
      places = c.plan_in-done.ensures.places ∙ ap (λ (n : ℕ). notes_left (numbered n) a.places.now) same;
      pieces = c.plan_in-done.ensures.pieces ∙ ap (λ (n : ℕ). notes_left (numbered n) a.pieces.now) same;
    })
