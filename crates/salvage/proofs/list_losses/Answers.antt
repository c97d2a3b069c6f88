use mathlib.Core.Path.{sym, ap}
use Prim.Native.Nat.{ℕ}
use lib.ListN.{length}
use Rattle.losses.specs.Salvage.{losses_in}
use Rattle.losses.specs.Lines.{reports-as}
use Rattle.losses.specs.Starts.{slots_judged}
use Rattle.losses.proofs.LossTurns.{part-long, lists-ready}
use Rattle.salvage.proofs.list_losses.Goals as goal

pub slice_bounds-both_kinds-end : goal.slice_bounds-both_kinds-end
slice_bounds-both_kinds-end c =
    sym (part-long c.args.n c.requires.1)

pub slice_bounds-both_kinds-end-2 : goal.slice_bounds-both_kinds-end-2
slice_bounds-both_kinds-end-2 c =
    sym (part-long c.args.n c.requires.1)

pub both_kinds-requires : goal.both_kinds-requires
both_kinds-requires c =
    let a = c.args in
    let whole = lists-ready a.n a.size (length a.heap.now) (length a.report.now) c.requires.0 c.requires.1 c.requires.2 in
    record {
      size_in_bounds = whole.0;
      ends_len = whole.1;
    }

pub returns : goal.returns
returns c =
    let a = c.args in
    reports-as (ap (λ (m : ℕ). losses_in (slots_judged m a.size a.heap.now)) (part-long a.n c.requires.1)) c.both_kinds.ensures
