use mathlib.Core.Path.{sym, ap, ◌∙◌}
use mathlib.Core.List.{List}
use Prim.Native.Nat.{ℕ}
use borrow.Author.Rules.{rules}
use Rattle.rules.specs.Layout.{laid_out}
use Rattle.ordered_files.specs.Order.{in_order}
use Rattle.ordered_files.specs.OrderLaws.{none-laid-out}
use Rattle.rebuild.proofs.counts.live_counts.Goals as goal

pub put_all-requires : goal.put_all-requires
put_all-requires c = (sym none-laid-out, search rules)

pub counted_in-requires : goal.counted_in-requires
counted_in-requires c =
    (c.requires.0, c.requires.1, c.put_all.ensures ∙ ap (λ (ns : List ℕ). laid_out 256 (in_order ns)) c.masked_lsns-lsns.ensures)
