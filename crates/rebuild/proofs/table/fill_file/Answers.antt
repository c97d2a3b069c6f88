use mathlib.Core.Path.{◌≡◌, sym, ap, ◌∙◌}
use mathlib.Core.Bool.{true}
use mathlib.Core.List.{List, map}
use Prim.Native.Nat.{ℕ, ◌+◌, ◌^◌, ◌<◌, ◌≤◌}
use native.Mathlib.Omega.{arith}
use lib.ListN.{length}
use Rattle.disk_location.specs.Locations.{position_of}
use Rattle.rules.specs.declared.Entry.{Entry}
use Rattle.rules.proofs.BaseLaws.{all-at}
use Rattle.rules.specs.Trailer.{absolute, entries_in}
use Rattle.rules.specs.Table.{no_entry}
use Rattle.rules.specs.TableLaws.{Rising}
use Rattle.rules.specs.Layout.{laid_out, used_entries, capacity_of}
use Rattle.rules.proofs.LayoutLaws.{used-length}
use Rattle.rules.specs.Reopen.{latest_from}
use Rattle.location_table.specs.LayoutLaws.{used-rising}
use Rattle.table_merge.specs.NewIds.{new_ids, ids_in}
use Rattle.table_merge.specs.Merge.{replacing, to_merge}
use Rattle.table_merge.specs.MergeLaws.{latest-from-by, to-merge-tells, merged-length}
use Rattle.rebuild.specs.Filled.{filled-all, filled-over}
use Rattle.rebuild.proofs.table.fill_file.Goals as goal

-- ---- what the count of new ids tells
tells : (t es : List Entry) (n : ℕ) → n ≡ to_merge t es → 0 < n → Rising 0 es × (n ≡ new_ids t (ids_in es))
tells t es n more h =
    let said = to-merge-tells t es (omega (arith, more, h)) in
    (said.0, more ∙ said.1)

-- how many entries there are then
many : (t es : List Entry) (lsn n : ℕ) → Rising 0 t → n ≡ to_merge t es → 0 < n → length (latest_from t (map (absolute lsn) es)) ≡ length t + n
many t es lsn n rises more h =
    sym (ap length (latest-from-by t (map (absolute lsn) es)))
    ∙ merged-length (replacing true) t es lsn rises (tells t es n more h).0
    ∙ omega (arith, (tells t es n more h).1)

pub overflow_sub-free : goal.overflow_sub-free
overflow_sub-free c = omega (arith, c.used.ensures, c.capacity.ensures, used-length c.args.table.now)

pub returns-then-free-more : goal.returns-then-free-more
returns-then-free-more c =
    let b = c.args.table.now in
    let n = c.to_merge-more.result in
    let over : capacity_of b < length (used_entries b) + n = omega (arith, c.used.ensures, c.capacity.ensures, c.if-free-more.true) in
    filled-over b c.requires.0 _ _ (many (used_entries b) (entries_in c.args.trailer.now) c.args.lsn n (used-rising b c.requires.0) c.to_merge-more.ensures (omega (arith, c.if-more-eq0.false))) over _ c.clear.ensures

pub merge-requires : goal.merge-requires
merge-requires c =
    let a = c.args in
    let t = used_entries a.table.now in
    let es = entries_in a.trailer.now in
    let said = tells t es c.to_merge-more.result c.to_merge-more.ensures (omega (arith, c.if-more-eq0.false)) in
    record {
      formed = c.requires.0;
      inside = c.requires.1;
      placed = λ k h. all-at (λ (e : Entry). position_of e.location + a.lsn < 2 ^ 63) es k no_entry c.requires.2.low h;
      some = c.requires.2.some;
      rising = said.0;
      counted = said.1;
      room = omega (arith, c.used.ensures, c.capacity.ensures, used-length a.table.now, c.if-free-more.false);
    }

pub returns : goal.returns
returns c =
    let b = c.args.table.now in
    let es = entries_in c.args.trailer.now in
    let rows = map (absolute c.args.lsn) es in
    let n = c.to_merge-more.result in
    let fits : length (used_entries b) + n ≤ capacity_of b = omega (arith, c.used.ensures, c.capacity.ensures, used-length b, c.if-free-more.false) in
    let count = many (used_entries b) es c.args.lsn n (used-rising b c.requires.0) c.to_merge-more.ensures (omega (arith, c.if-more-eq0.false)) in
    filled-all b c.requires.0 rows _ count fits _ (c.merge.ensures ∙ ap (laid_out (capacity_of b)) (latest-from-by (used_entries b) rows))
