use mathlib.Core.Path.{sym}
use borrow.Author.Rules.{rules}
use Rattle.ordered_files.specs.OrderLaws.{none-laid-out}
use Rattle.install.proofs.lose.Goals as goal

pub put_if-requires : goal.put_if-requires
put_if-requires c = (sym none-laid-out, search rules)
