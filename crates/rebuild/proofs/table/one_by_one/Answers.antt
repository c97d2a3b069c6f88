use mathlib.Core.Path.{refl, sym, ap, subst, ◌∙◌}
use mathlib.Core.List.{[], ◌∷◌, map}
use Prim.Native.Nat.{◌^◌, ◌+◌, ◌<◌}
use borrow.Author.Rules.{rules}
use Rattle.rules.specs.declared.Entry.{Entry}
use Rattle.disk_location.specs.Locations.{position_of}
use Rattle.trailer.specs.Entries.{entries-count}
use Rattle.rebuild.specs.Latest.{InUse}
use Rattle.rebuild.specs.Filled.{filled_none, filled-formed, rows-in-use}
use Rattle.rebuild.proofs.FillTurns.{filled-as, chunk_in, chunk_out, entry_in, entry-out, entry-end}
use lib.ListN.{take, length}
use Rattle.rules.specs.Trailer.{absolute, entries_in}
use Rattle.rules.specs.Table.{no_entry}
use Rattle.rules.proofs.BaseLaws.{all-at, all_take}
use native.Mathlib.Omega.{arith}
use Rattle.rebuild.proofs.table.one_by_one.Goals as goal

pub loop-k-init : goal.loop-k-init
loop-k-init c =
    (c.count-k-end.ensures, refl, filled_none c.args.table.now c.requires.0)

pub absolute-e-requires : goal.absolute-e-requires
absolute-e-requires c =
    let lsn = c.args.lsn in
    let t = c.args.trailer.now in
    let l = c.loop-k in
    let low = all-at (λ (e : Entry). position_of e.location + lsn < 2 ^ 63) (entries_in t) l.k no_entry c.requires.2.low (omega (arith, l.invariant, entries-count t c.requires.1, c.loop-k-test.true)) in
    record {
      lsn_nonzero = c.requires.2.some;
      lsn_bound = subst (λ (e : Entry). position_of e.location + lsn < 2 ^ 63) (sym c.entry.ensures) low;
    }

pub meet-requires : goal.meet-requires
meet-requires c =
    let lsn = c.args.lsn in
    let l = c.loop-k in
    let rows = map (absolute lsn) (entries_in c.args.trailer.now) in
    let used = rows-in-use lsn (entries_in c.args.trailer.now) c.requires.2.some in record {
      formed = filled-formed c.args.table.now c.requires.0 (take l.k rows) l.table (all_take InUse l.k rows used) l.invariant.2;
      location_nonzero = subst InUse (sym c.absolute-e.ensures) (rows-in-use lsn (c.entry.result ∷ []) c.requires.2.some).0;
    }

pub returns-then-not-meet : goal.returns-then-not-meet
returns-then-not-meet c =
    let lsn = c.args.lsn in
    let t = c.args.trailer.now in
    let es = entries_in t in
    let l = c.loop-k in
    let rows = map (absolute lsn) es in
    let used = all_take InUse l.k rows (rows-in-use lsn es c.requires.2.some) in
    let is = c.absolute-e.ensures ∙ ap (absolute lsn) c.entry.ensures in
    let low : l.k < length es = omega (arith, l.invariant, entries-count t c.requires.1, c.loop-k-test.true) in
    chunk_out c.args.table.now c.requires.0 (take l.k rows) _ used _ l.invariant.2 _ _ c.meet.ensures (search rules) rows _
    (entry-out lsn es l.k _ low is)

pub loop-k-preserved : goal.loop-k-preserved
loop-k-preserved c =
    let lsn = c.args.lsn in
    let t = c.args.trailer.now in
    let es = entries_in t in
    let l = c.loop-k in
    let rows = map (absolute lsn) es in
    let used = all_take InUse l.k rows (rows-in-use lsn es c.requires.2.some) in
    let is = c.absolute-e.ensures ∙ ap (absolute lsn) c.entry.ensures in
    let low : l.k < length es = omega (arith, l.invariant, entries-count t c.requires.1, c.loop-k-test.true) in (
      l.invariant.0,
      c.meet.auto.table ∙ l.invariant.1,
      chunk_in c.args.table.now c.requires.0 (take l.k rows) _ used _ l.invariant.2 _ _ c.meet.ensures (search rules) (take (l.k + 1) rows)
          (entry_in lsn es l.k _ low is),
    )

pub returns : goal.returns
returns c =
    let lsn = c.args.lsn in
    let t = c.args.trailer.now in
    let l = c.loop-k in
    filled-as (entry-end lsn (entries_in t) l.k (omega (arith, l.invariant, entries-count t c.requires.1, c.loop-k-test.false))) l.invariant.2
