use mathlib.Core.Path.{◌≡◌, sym, ap, ◌∙◌}
use Prim.Native.Nat.{◌+◌, ◌≤◌, ◌<◌}
use native.Mathlib.Omega.{arith}
use lib.ListN.{length, drop, get_or}
use Rattle.rules.specs.declared.Entry.{Entry}
use Rattle.rules.specs.declared.Loaded.{Loaded}
use Rattle.rules.specs.Trailer.{entries_in}
use Rattle.rules.specs.Table.{load, no_entry}
use Rattle.rules.specs.Layout.{used_entries}
use Rattle.trailer.specs.Entries.{entries-count}
use Rattle.file_lists.specs.Lists.{less_at}
use Rattle.file_lists.specs.ListLaws.{length-less}
use Rattle.install.specs.Losing.{slot_holding, losing_lives, losing-next, losing-end}
use Rattle.install.proofs.lose_all.Goals as goal

pub loop-k-preserved : goal.loop-k-preserved
loop-k-preserved c =
    let l = c.loop-k in
    let a = c.args in
    let es = entries_in a.trailer.now in
    let t = used_entries a.table.now in
    let h : l.k < length es = omega (arith, c.count-k-end.ensures, entries-count a.trailer.now c.requires.2, c.loop-k-test.true) in
    let lost : c.lose_one.new.lives ≡ less_at (slot_holding a.lsns.now (load t (get_or es l.k no_entry).id)) l.lives =
    c.lose_one.ensures
    ∙ ap (λ (x : Loaded). less_at (slot_holding a.lsns.now x) l.lives) c.load_found-loaded.ensures
    ∙ ap (λ (e : Entry). less_at (slot_holding a.lsns.now (load t e.id)) l.lives) c.entry-e.ensures in (
      ap length lost ∙ length-less (slot_holding a.lsns.now (load t (get_or es l.k no_entry).id)) l.lives ∙ l.invariant.0,
      ap (losing_lives a.lsns.now t (drop (l.k + 1) es)) lost ∙ sym (losing-next a.lsns.now t es l.lives l.k no_entry h) ∙ l.invariant.1,
    )

pub returns : goal.returns
returns c =
    let l = c.loop-k in
    let a = c.args in
    let es = entries_in a.trailer.now in
    let t = used_entries a.table.now in
    let done : length es ≤ l.k = omega (arith, c.count-k-end.ensures, entries-count a.trailer.now c.requires.2, c.loop-k-test.false) in
    sym (losing-end a.lsns.now t es l.lives l.k done) ∙ l.invariant.1
