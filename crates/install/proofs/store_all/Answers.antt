use mathlib.Core.Path.{ap, ◌∙◌}
use mathlib.Core.Bool.{false}
use Prim.Native.Nat.{◌<◌}
use native.Mathlib.Omega.{arith}
use lib.ListN.{length}
use Rattle.rules.specs.Trailer.{entries_in}
use Rattle.rules.specs.Layout.{laid_out, used_entries, capacity_of}
use Rattle.location_table.specs.LayoutLaws.{used-rising}
use Rattle.table_merge.specs.Merge.{replacing, to_merge}
use Rattle.table_merge.specs.MergeLaws.{insert-all-by, to-merge-tells, merged-length}
use Rattle.install.specs.Adding.{taken}
use Rattle.install.proofs.store_all.Goals as goal

pub merge-requires : goal.merge-requires
merge-requires c =
    let a = c.args in
    let pre = c.requires in
    let t = used_entries a.table.now in
    let es = entries_in a.trailer.now in
    let more = c.to_merge-more.ensures in
    let some : 0 < to_merge t es = omega (arith, more, c.if-more-eq0.false) in
    let tells = to-merge-tells t es some in
    let all = ap length (insert-all-by t (taken a.lsn es)) in
    record {
      formed = pre.0;
      inside = pre.1;
      placed = λ k h. pre.2 k;
      some = pre.3;
      rising = tells.0;
      counted = more ∙ tells.1;
      room = omega (arith, merged-length (replacing false) t es a.lsn (used-rising a.table.now pre.0) tells.0, all, more, tells.1, pre.4);
    }

pub returns-else-more-eq0 : goal.returns-else-more-eq0
returns-else-more-eq0 c =
    let a = c.args in
    c.merge.ensures ∙ ap (laid_out (capacity_of a.table.now)) (insert-all-by (used_entries a.table.now) (taken a.lsn (entries_in a.trailer.now)))
