use Rattle.std.proofs.Common.{refl, sym, ◌∙◌}
use Rattle.script.proofs.Naming.{begin, found, passed, missed}
use Rattle.script.proofs.names.keyword_of.Goals as goal

pub loop-name-init : goal.loop-name-init
loop-name-init c = begin _ c.args.word.now refl

pub returns-then-same : goal.returns-then-same
returns-then-same c = found c.loop-name.invariant _ c.loop-name-test.true (sym c.same.ensures ∙ c.if-same.true)

pub loop-name-preserved : goal.loop-name-preserved
loop-name-preserved c = passed c.loop-name.invariant _ c.loop-name-test.true (sym c.same.ensures ∙ c.if-same.false)

pub returns : goal.returns
returns c = missed c.loop-name.invariant c.loop-name-test.false
