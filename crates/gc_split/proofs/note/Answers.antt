use mathlib.Core.Path.{sym}
use lib.Seq.{set_out}
use native.Mathlib.Omega.{arith}
use Rattle.gc_split.proofs.note.Goals as goal

pub returns-else-at-cuts : goal.returns-else-at-cuts
returns-else-at-cuts c = sym (set_out c.args.cuts.now c.args.at c.args.piece (omega arith))
