use mathlib.Core.Path.{refl, ◌∙◌}
use mathlib.Core.List.{[]}
use lib.ListN.{length}
use Rattle.bench.proofs.Feeding.{blank, fed-nothing, told-more}
use Rattle.bench.proofs.lines.run_all.Goals as goal

pub loop-init : goal.loop-init
loop-init g c = (refl, ([], fed-nothing _ (length c.args.decoded.now) [] _ _ (c.new-reading.ensures.line ∙ blank _)))

pub loop-preserved : goal.loop-preserved
loop-preserved g c =
    let inv = c.loop.invariant in
    (c.lines_in-b.ensures.cap ∙ inv.0, told-more _ (length c.args.decoded.now) _ _ _ _ _ (length c.loop.decoded) c.loop.auto.decoded _ inv.0 inv.1 _ c.lines_in-b.ensures.feeds)
