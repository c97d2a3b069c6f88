use Rattle.std.proofs.Common.{rules, sym, ap, ◌∙◌, ℕ, Ok, Some, arith}
use Rattle.rules.specs.World.{world}
use Rattle.limits.specs.Settled.{state_of}
use Rattle.write_decision.specs.Decisions.{Decision}
use Rattle.write_decision.specs.DecisionLaws.{decision-none, decision-4, decision-5, decision-6, decision-7, decision-file}
use Rattle.write_decision.proofs.RoomFacts.{clear, formed, told, sizes-small, many}
use Rattle.write_decision.proofs.room.Goals as goal

pub sizes-requires : goal.sizes-requires
sizes-requires c = (formed c.requires.parsed, c.requires.order_len.0, c.requires.order_len.1)

pub returns-in_err-sizes-clause-decides : goal.returns-in_err-sizes-clause-decides
returns-in_err-sizes-clause-decides c =
    let a = c.args in
    let p = c.requires.parsed in
    λ w. search (rules, decision-4 (world a.settings (state_of a.rest a.files) w a.heap.now a.table.now) a.batch.now p.passed p.parsed (sym c.sizes.ensures.sizes ∙ c.in_err-sizes.ensures.ok_part))

pub returns-then-sizes-eq0-clause-decides : goal.returns-then-sizes-eq0-clause-decides
returns-then-sizes-eq0-clause-decides c =
    let a = c.args in
    let p = c.requires.parsed in
    let e = sym c.sizes.ensures.sizes ∙ c.in_ok-sizes.ensures.ok_part in
    λ w. decision-none (world a.settings (state_of a.rest a.files) w a.heap.now a.table.now) a.batch.now p.passed p.parsed (sym (told p e).entries ∙ c.if-sizes-eq0.true)

pub nonzero_div-n : goal.nonzero_div-n
nonzero_div-n c = let low = (clear c.requires.parsed).limits.settings.slot-low in omega arith

pub lowest_empty-slot-requires : goal.lowest_empty-slot-requires
lowest_empty-slot-requires c = (clear c.requires.parsed).limits.heap.most

pub returns-then-n-slot-clause-decides : goal.returns-then-n-slot-clause-decides
returns-then-n-slot-clause-decides c =
    let a = c.args in
    let p = c.requires.parsed in
    let e = sym c.sizes.ensures.sizes ∙ c.in_ok-sizes.ensures.ok_part in
    λ w. decision-5 (world a.settings (state_of a.rest a.files) w a.heap.now a.table.now) a.batch.now p.passed p.parsed _ (told p e) (omega arith) (omega arith)

pub too_many-requires : goal.too_many-requires
too_many-requires c =
    let p = c.requires.parsed in
    (formed p, (sizes-small p (sym c.sizes.ensures.sizes ∙ c.in_ok-sizes.ensures.ok_part)).0)

pub returns-then-too_many-clause-decides : goal.returns-then-too_many-clause-decides
returns-then-too_many-clause-decides c =
    let a = c.args in
    let p = c.requires.parsed in
    let e = sym c.sizes.ensures.sizes ∙ c.in_ok-sizes.ensures.ok_part in
    λ w. decision-6 (world a.settings (state_of a.rest a.files) w a.heap.now a.table.now) a.batch.now p.passed p.parsed _ (told p e) (omega arith) (omega arith) (sym (many p e c.too_many.ensures) ∙ c.if-too_many.true)

pub overflow_add-sizes : goal.overflow_add-sizes
overflow_add-sizes c = omega (arith, sizes-small c.requires.parsed (sym c.sizes.ensures.sizes ∙ c.in_ok-sizes.ensures.ok_part))

pub returns-then-spent-clause-decides : goal.returns-then-spent-clause-decides
returns-then-spent-clause-decides c =
    let a = c.args in
    let p = c.requires.parsed in
    let e = sym c.sizes.ensures.sizes ∙ c.in_ok-sizes.ensures.ok_part in
    λ w. decision-7 (world a.settings (state_of a.rest a.files) w a.heap.now a.table.now) a.batch.now p.passed p.parsed _ (told p e) (omega arith) (omega arith) (sym (many p e c.too_many.ensures) ∙ c.if-too_many.false) (sym c.spent.ensures ∙ c.if-spent.true)

pub returns-clause-decides : goal.returns-clause-decides
returns-clause-decides c =
    let a = c.args in
    let p = c.requires.parsed in
    let n = c.in_ok-sizes.sizes in
    let e = sym c.sizes.ensures.sizes ∙ c.in_ok-sizes.ensures.ok_part in
    let file : ℕ → Decision = λ k. Ok (Some (record { slot = k; count = n.count; total = n.total })) in
    λ w.
    ap file c.lowest_empty-slot.ensures
    ∙ decision-file (world a.settings (state_of a.rest a.files) w a.heap.now a.table.now) a.batch.now p.passed p.parsed n (told p e) (omega arith) (omega arith) (sym (many p e c.too_many.ensures) ∙ c.if-too_many.false) (sym c.spent.ensures ∙ c.if-spent.false)
