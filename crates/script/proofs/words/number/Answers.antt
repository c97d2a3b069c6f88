use Rattle.std.proofs.Common.{◌<◌, length, sym, ◌∙◌, eqb-true, arith}
use Rattle.std.proofs.lemmas.Bool.{eqb-false}
use Rattle.script.proofs.Digits.{number-none, said-whole, said-turn, said-end, stopped, went}
use Rattle.script.proofs.words.number.Goals as goal

pub returns-then-is_empty : goal.returns-then-is_empty
returns-then-is_empty c = sym (number-none _ (eqb-true _ _ (sym c.is_empty.ensures ∙ c.if-is_empty.true)))

pub returns-in_err-n : goal.returns-in_err-n
returns-in_err-n c =
    let w = c.args.word.now in
    let l = c.loop-b in
    c.from_residual.ensures
    ∙ sym (sym (said-whole w (omega arith)) ∙ sym l.invariant ∙ said-turn w l.n l.b-index (omega arith) ∙ stopped _ _ (sym c.longer.ensures ∙ c.in_err-n.was))

pub loop-b-preserved : goal.loop-b-preserved
loop-b-preserved c =
    let w = c.args.word.now in
    let l = c.loop-b in
    sym (went _ _ _ (sym c.longer.ensures ∙ c.in_ok-n.was)) ∙ sym (said-turn w l.n l.b-index (omega arith)) ∙ l.invariant

pub returns : goal.returns
returns c =
    let w = c.args.word.now in
    let l = c.loop-b in
    let some = eqb-false _ _ (sym c.is_empty.ensures ∙ c.if-is_empty.false) in
    let long : 0 < length w = omega (arith, some) in
    sym (sym (said-whole w long) ∙ sym l.invariant ∙ said-end w l.n l.b-index (omega arith))
