use mathlib.Core.Path.{◌≡◌}
use Rattle.rules.specs.Layout.{table_ids}
use Rattle.rules.proofs.LayoutLaws.{ids-count, used-length}
use Rattle.gc_files.proofs.EntryTurns.{along-start, along-turn, along-end}
use Prim.Native.Nat.{ℕ, ◌≤◌, ◌<◌}
use native.Mathlib.Omega.{arith}
use lib.ListN.{length, get_or}
use Rattle.gc_files.specs.PlaceLaws.{none-behind}
use Rattle.gc_files.proofs.split.split.Goals as goal

pub loop-i-init : goal.loop-i-init
loop-i-init c =
    let a = c.args in (
      omega (arith, c.used-i-end.ensures, used-length a.table.now, ids-count a.table.now),
      along-start a.settings.target_file_size a.settings.slot_bytes a.heap.now (table_ids a.table.now) a.places.now a.pieces.now _ c.requires.within,
    )

pub id_at-requires : goal.id_at-requires
id_at-requires c =
    omega (arith, c.used-i-end.ensures, used-length c.args.table.now)

pub split_entry-t-requires : goal.split_entry-t-requires
split_entry-t-requires c =
    let along = c.loop-i.invariant.1 in
    let asked = c.requires.splitting in
    record {
      whole = asked.standing c.loop-i.i;
      at_in_bounds = omega (arith, asked.pieces, along.long);
      entries_bound = omega (arith, along.entries, asked.room);
      within = along.within;
    }

pub loop-i-preserved : goal.loop-i-preserved
loop-i-preserved c =
    let a = c.args in
    let along = c.loop-i.invariant.1 in
    let asked = c.requires.splitting in
    let done = c.split_entry-t.ensures in
    let i = c.loop-i.i in
    let low : i < length (table_ids a.table.now) = omega arith in
    let room : i < length c.loop-i.pieces = omega (arith, asked.pieces, along.long) in (
      c.loop-i.invariant.0,
      along-turn a.settings.target_file_size a.settings.slot_bytes a.heap.now (table_ids a.table.now) a.places.now a.pieces.now _ _ _ c.loop-i.pieces _ i
          low (omega (arith, asked.places)) room (asked.standing i) (omega (arith, along.entries, asked.room)) along (rw c.id_at.ensures at done.tallies) (rw c.id_at.ensures at done.pieces),
    )

pub returns : goal.returns
returns c =
    let a = c.args in
    let still : (k : ℕ) → c.loop-i.i ≤ k → get_or a.places.now k 0 ≡ 0 =
    λ k h. none-behind a.table.now a.places.now c.requires.formed.1 k (omega (arith, c.used-i-end.ensures)) in
    let whole = along-end a.settings.target_file_size a.settings.slot_bytes a.heap.now (table_ids a.table.now) a.places.now a.pieces.now _ _ c.loop-i.pieces c.loop-i.i still c.loop-i.invariant.1 in
    record {
      tallies = whole.0;
      pieces = whole.1;
    }
