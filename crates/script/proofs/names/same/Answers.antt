use Rattle.std.proofs.Common.{◌∙◌}
use Rattle.script.proofs.Taken.{same-listed}
use Rattle.script.proofs.names.same.Goals as goal

pub returns : goal.returns
returns c = c.eq.ensures ∙ same-listed c.args.a.now c.args.b.now
