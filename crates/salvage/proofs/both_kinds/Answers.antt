use mathlib.Core.Path.{sym}
use native.Mathlib.Omega.{arith}
use lib.ListN.{length}
use Rattle.losses.specs.Lines.{reports-as, reports-then}
use Rattle.losses.specs.Starts.{slots_judged}
use Rattle.losses.specs.Few.{kinds-are}
use Rattle.losses.proofs.LossTurns.{ready}
use Rattle.salvage.proofs.both_kinds.Goals as goal

pub second_kind-requires : goal.second_kind-requires
second_kind-requires c =
    let a = c.args in
    let told = c.first_kind-count.ensures in
    let w = ready (length a.starts.now) a.size a.heap.now _ _ _ c.first_kind-count.result told.starts told.ends c.in_order-first.ensures.sorts told.reports.count in
    record {
      first_in_bounds = (c.in_order-first.ensures.within, omega (arith, w.room, c.requires.size_in_bounds.1, c.first_kind-count.auto.report));
      ends_len = (w.even, w.low);
    }

pub returns : goal.returns
returns c =
    let a = c.args in
    let told = c.first_kind-count.ensures in
    let w = ready (length a.starts.now) a.size a.heap.now _ _ _ c.first_kind-count.result told.starts told.ends c.in_order-first.ensures.sorts told.reports.count in
    reports-as (sym (kinds-are (slots_judged (length a.starts.now) a.size a.heap.now))) (reports-then (omega arith) told.reports (reports-as w.walk c.second_kind.ensures))
