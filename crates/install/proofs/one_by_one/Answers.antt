use mathlib.Core.Path.{◌≡◌, sym, ap, ap₂, subst, ◌∙◌}
use mathlib.Core.List.{List}
use mathlib.Core.Bool.{false}
use Prim.Native.Nat.{ℕ, ◌^◌, ◌*◌, ◌+◌, ◌≤◌, ◌<◌}
use native.Mathlib.Omega.{arith}
use lib.ListN.{length, drop, get_or}
use Rattle.rules.specs.declared.Entry.{Entry}
use Rattle.rules.specs.Trailer.{count_in, entries_in, absolute}
use Rattle.rules.specs.Table.{insert, insert_all, full, no_entry}
use Rattle.rules.specs.Layout.{laid_out, used_entries, capacity_of}
use Rattle.trailer.specs.Entries.{entries-count}
use Rattle.location_table.specs.Tables.{Formed}
use Rattle.disk_location.specs.Locations.{position_of}
use Rattle.location_table.specs.LayoutLaws.{laid_out_lem}
use Rattle.location_table.specs.StoreLaws.{formed-after, length-after, used-after}
use Rattle.install.specs.Adding.{taken, Placed, adding-next, adding-end, room-now}
use Rattle.install.proofs.one_by_one.Goals as goal

-- what a turn knows of the entry that it looks at
record Met (lsn k : ℕ) (es : List Entry) (t : List Entry) (capacity : ℕ) (e : Entry) : Type 0 where
  pub placed : position_of e.location + lsn < 2 ^ 63
  pub positive : 0 < lsn
  pub room : full t capacity e.id ≡ false
  pub next : insert_all (insert t (absolute lsn e)) (taken lsn (drop (k + 1) es)) ≡ insert_all t (taken lsn (drop k es))

met : (b table : List ℕ) (s : List ℕ) (lsn n k : ℕ) (e : Entry) → 12 + 16 * count_in s ≤ length s → Placed lsn (entries_in s) → 0 < lsn
    → length (insert_all (used_entries b) (taken lsn (entries_in s))) ≤ capacity_of b
    → n ≡ count_in s → k < n → capacity_of table ≡ capacity_of b
    → insert_all (used_entries table) (taken lsn (drop k (entries_in s))) ≡ insert_all (used_entries b) (taken lsn (entries_in s))
    → e ≡ get_or (entries_in s) k no_entry → Met lsn k (entries_in s) (used_entries table) (capacity_of table) e
met b table s lsn n k e long placed some fits count more same all here =
    let es = entries_in s in
    let t = used_entries table in
    let h : k < length es = omega (arith, entries-count s long) in
    let next : insert_all (insert t (absolute lsn e)) (taken lsn (drop (k + 1) es)) ≡ insert_all t (taken lsn (drop k es)) =
    ap (λ (d : Entry). insert_all (insert t (absolute lsn d)) (taken lsn (drop (k + 1) es))) here ∙ sym (adding-next lsn t es k no_entry h) in
    record {
      placed = omega (arith, ap (λ (d : Entry). position_of d.location) here, placed k);
      positive = some;
      room = room-now t (absolute lsn e) (taken lsn (drop (k + 1) es)) (capacity_of table) (omega (arith, ap length (next ∙ all), fits, same));
      next = next;
    }

pub store_one-requires : goal.store_one-requires
store_one-requires c =
    let l = c.loop-k in
    let a = c.args in
    let pre = c.requires in
    let m = met a.table.now l.table a.trailer.now a.lsn c.count-k-end.result l.k c.entry-e.result pre.1 pre.2 pre.3 pre.4 c.count-k-end.ensures c.loop-k-test.true l.invariant.1 l.invariant.2 c.entry-e.ensures in
    (l.invariant.0, c.find_near-place.ensures, m.placed, m.positive, m.room)

pub loop-k-preserved : goal.loop-k-preserved
loop-k-preserved c =
    let l = c.loop-k in
    let a = c.args in
    let pre = c.requires in
    let m = met a.table.now l.table a.trailer.now a.lsn c.count-k-end.result l.k c.entry-e.result pre.1 pre.2 pre.3 pre.4 c.count-k-end.ensures c.loop-k-test.true l.invariant.1 l.invariant.2 c.entry-e.ensures in
    let es = entries_in a.trailer.now in
    let e = c.entry-e.result in
    let some : 0 < (absolute a.lsn e).location = omega (arith, m.positive) in
    let stored = c.store_one.ensures in (
      subst Formed (sym stored) (formed-after l.table l.invariant.0 e.id (absolute a.lsn e).location some m.room),
      ap capacity_of stored ∙ length-after l.table l.invariant.0 e.id (absolute a.lsn e).location some m.room ∙ l.invariant.1,
      ap (λ (t : List Entry). insert_all t (taken a.lsn (drop (l.k + 1) es)))
          (ap used_entries stored ∙ used-after l.table l.invariant.0 e.id (absolute a.lsn e).location some m.room)
          ∙ m.next
          ∙ l.invariant.2,
    )

pub returns : goal.returns
returns c =
    let l = c.loop-k in
    let a = c.args in
    let es = entries_in a.trailer.now in
    let done : length es ≤ l.k = omega (arith, c.count-k-end.ensures, entries-count a.trailer.now c.requires.1, c.loop-k-test.false) in
    laid_out_lem l.table l.invariant.0
    ∙ ap₂ laid_out l.invariant.1 (sym (adding-end a.lsn (used_entries l.table) es l.k done) ∙ l.invariant.2)
