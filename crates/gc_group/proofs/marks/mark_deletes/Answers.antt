use Prim.Native.Nat.{ℕ, ◌+◌, ◌<◌}
use mathlib.Core.Path.{◌≡◌, sym, ap, ◌∙◌}
use native.Mathlib.Omega.{arith}
use lib.ListN.{length, get_or, drop}
use Rattle.rules.specs.Base.{each}
use Rattle.rules.specs.Trailer.{entries_in}
use Rattle.rules.specs.declared.Entry.{Entry}
use Rattle.rules.specs.Table.{no_entry}
use Rattle.trailer.specs.Entries.{entries-count}
use Rattle.rules.specs.Layout.{used_entries}
use Rattle.gc_group.specs.Marks.{delete_id, marked}
use Rattle.gc_group.proofs.MarkTurns.{entries-mark, entries-done}
use mathlib.Core.List.{List}
use Rattle.gc_group.proofs.marks.mark_deletes.Goals as goal

pub loop-k-preserved : goal.loop-k-preserved
loop-k-preserved c =
    let a = c.args in
    let table = used_entries a.table.now in
    let es = entries_in a.trailer.now in
    let k = c.loop-k.k in
    let inside : k < length es = omega (arith, c.count-k-end.ensures, entries-count a.trailer.now c.requires.trailer_in_bounds) in
    let after : c.mark_delete.new.marks ≡ marked a.mark (delete_id a.lsn table (get_or es k no_entry)) table c.loop-k.marks =
    c.mark_delete.ensures ∙ ap (λ (e : Entry). marked a.mark (delete_id a.lsn table e) table c.loop-k.marks) c.entry.ensures in
    ap (λ (ms : List ℕ). marked a.mark (each (delete_id a.lsn table) (drop (k + 1) es)) table ms) after
    ∙ sym (entries-mark a.mark a.lsn table es k c.loop-k.marks inside) ∙ c.loop-k.invariant

pub returns : goal.returns
returns c =
    let a = c.args in
    let es = entries_in a.trailer.now in
    sym (entries-done a.mark a.lsn (used_entries a.table.now) es c.loop-k.k c.loop-k.marks
    (omega (arith, c.count-k-end.ensures, entries-count a.trailer.now c.requires.trailer_in_bounds)))
    ∙ c.loop-k.invariant
