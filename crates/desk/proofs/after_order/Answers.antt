use mathlib.Core.Path.{refl, ◌∙◌}
use Rattle.desk.specs.Desk.{desk}
use Rattle.desk.specs.Kinds.{at_bench}
use Rattle.desk.specs.Commands.{done_by}
use Rattle.desk.proofs.Orders.{among, left-parts, done-rest, bench-report, parts-report, bench-words, parts-words}
use Rattle.desk.proofs.after_order.Goals as goal

pub returns-in-Heap : goal.returns-in-Heap
unfolding done_by
returns-in-Heap c =
    let told = c.in-Heap.is in
    record {
      leaves = rw told (c.heap.ensures _);
      reports = rw told refl;
      plans = rw told refl;
    }

pub returns-in-Table : goal.returns-in-Table
unfolding done_by
returns-in-Table c =
    let told = c.in-Table.is in
    record {
      leaves = rw told (c.table.ensures _);
      reports = rw told refl;
      plans = rw told refl;
    }

pub returns-in-Blank : goal.returns-in-Blank
returns-in-Blank c =
    let a = c.args in
    let d = desk a.b a.heap.now a.table.now in
    let told = among at_bench a.keyword c.in-Blank.is in
    record {
      leaves = c.at_bench.ensures _ _ _;
      reports = bench-report d a.report.now a.keyword told;
      plans = bench-words d a.plan.now a.keyword told;
    }

pub returns-in-Salvage : goal.returns-in-Salvage
unfolding done_by
returns-in-Salvage c =
    let told = c.in-Salvage.is in
    record {
      leaves = rw told c.salvaged.ensures.leaves;
      reports = rw told c.salvaged.ensures.reports;
      plans = rw told refl;
    }

pub returns-in-Plan : goal.returns-in-Plan
unfolding done_by
returns-in-Plan c =
    let told = c.in-Plan.is in
    record {
      leaves = rw told c.planned.ensures.leaves;
      reports = rw told refl;
      plans = rw told c.planned.ensures.gives;
    }

pub returns-in_default : goal.returns-in_default
returns-in_default c =
    let a = c.args in
    let d = desk a.b a.heap.now a.table.now in
    let left = left-parts a.keyword (c.in_default.not-Blank, (c.in_default.not-Bad, (c.in_default.not-Settings, (c.in_default.not-Heap, (c.in_default.not-Table, (c.in_default.not-State, (c.in_default.not-Record, (c.in_default.not-Claims, (c.in_default.not-Plan, (c.in_default.not-Unsynced, (c.in_default.not-Sync, (c.in_default.not-Check, (c.in_default.not-Salvage, (c.in_default.not-List, (c.in_default.not-Dump, (c.in_default.not-Help, tt)))))))))))))))) in
    record {
      leaves = c.lent.ensures ∙ done-rest a.n a.bytes.now d a.keyword left;
      reports = parts-report d a.report.now a.keyword left;
      plans = parts-words d a.plan.now a.keyword left;
    }
