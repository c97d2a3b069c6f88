use Prim.Native.Nat.{ℕ, ◌+◌, ◌<◌}
use mathlib.Core.Path.{◌≡◌, sym, ap, ◌∙◌}
use mathlib.Core.List.{List, ◌++◌}
use native.Mathlib.Omega.{arith}
use lib.ListN.{length, get_or, drop}
use Rattle.rules.specs.Base.{each}
use Rattle.rules.proofs.TurnLaws.{each_next, each-end}
use Rattle.rules.specs.Types.{Answer}
use Rattle.rules.specs.declared.Entry.{Entry}
use Rattle.rules.specs.Refusal.{decide}
use Rattle.rules.proofs.RefusalLaws.{decide-none, decide-early, decide-late}
use Rattle.rules.specs.Trailer.{entries_in}
use Rattle.rules.specs.Table.{no_entry}
use Rattle.trailer.specs.Entries.{entries-count}
use Rattle.rules.specs.Layout.{used_entries}
use Rattle.gc_group.specs.Checks.{entry_tests}
use Rattle.std.proofs.lemmas.Result.{err_from_is_err_and}
use Rattle.gc_group.proofs.check.check_deletes.Goals as goal

-- what a turn looks at: the entry, what is left, and what is decided of the entry
looked : (trailer t : List ℕ) (lsn k : ℕ) (e : Entry) (answer : Answer) → k < length (entries_in trailer)
    → e ≡ get_or (entries_in trailer) k no_entry → answer ≡ decide (entry_tests lsn (used_entries t) e)
    → (each (entry_tests lsn (used_entries t)) (drop k (entries_in trailer))
    ≡ entry_tests lsn (used_entries t) (get_or (entries_in trailer) k no_entry) ++ each (entry_tests lsn (used_entries t)) (drop (k + 1) (entries_in trailer)))
    × (decide (entry_tests lsn (used_entries t) (get_or (entries_in trailer) k no_entry)) ≡ answer)
looked trailer t lsn k e answer inside is decided =
    (each_next (entries_in trailer) k no_entry inside (entry_tests lsn (used_entries t)), ap (λ (x : Entry). decide (entry_tests lsn (used_entries t) x)) (sym is) ∙ sym decided)

pub returns-in_err-check_entry : goal.returns-in_err-check_entry
returns-in_err-check_entry c =
    let l = c.loop-k in
    let inside : l.k < length (entries_in c.args.trailer.now) = omega (arith, c.count-k-end.ensures, entries-count c.args.trailer.now c.requires.trailer_in_bounds) in
    let w = looked c.args.trailer.now c.args.table.now c.args.lsn l.k _ _ inside c.entry.ensures c.check_entry.ensures in
    let p = err_from_is_err_and c.from_residual.result c.from_residual.ensures.1 in
    rw (p.1, p.2) (sym (ap decide w.0 ∙ decide-early _ _ _ (w.1 ∙ c.in_err-check_entry.was)) ∙ l.invariant)

pub loop-k-preserved : goal.loop-k-preserved
loop-k-preserved c =
    let l = c.loop-k in
    let inside : l.k < length (entries_in c.args.trailer.now) = omega (arith, c.count-k-end.ensures, entries-count c.args.trailer.now c.requires.trailer_in_bounds) in
    let w = looked c.args.trailer.now c.args.table.now c.args.lsn l.k _ _ inside c.entry.ensures c.check_entry.ensures in
    sym (decide-late _ _ (w.1 ∙ c.in_ok-check_entry.was)) ∙ ap decide (sym w.0) ∙ l.invariant

pub returns : goal.returns
returns c =
    let l = c.loop-k in
    let es = entries_in c.args.trailer.now in
    let table = used_entries c.args.table.now in
    sym (ap decide (each-end es l.k (omega (arith, c.count-k-end.ensures, entries-count c.args.trailer.now c.requires.trailer_in_bounds)) (entry_tests c.args.lsn table)) ∙ decide-none) ∙ l.invariant
