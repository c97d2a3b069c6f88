use Rattle.file_map.proofs.RecordTurns.{mapped-length}
use mathlib.Core.Path.{ap, refl, ◌∙◌, ◌≡◌}
use mathlib.Core.List.{List}
use Prim.Native.Nat.{ℕ}
use Rattle.rules.specs.declared.Record.{Record}
use Rattle.rules.specs.Layout.{used_entries}
use Rattle.reopen_tests.specs.Labels.{label_at}
use Rattle.rebuild.specs.Records.{slot_record, counted}
use Rattle.rebuild.specs.Counting.{record-live}
use Rattle.rebuild.proofs.CountTurns.{map_to, map_next, map-end}
use native.Mathlib.Omega.{arith}
use borrow.Author.Rules.{rules}
use lib.ListN.{length, get_or, set}
use Rattle.rebuild.proofs.counts.with_live_counts.Goals as goal

pub loop-k-init : goal.loop-k-init
loop-k-init c =
    let len : length c.no_files-m.result.records ≡ 256 = search (mapped-length, rules) in
    let labels : length c.args.slots.labels ≡ 256 = search (mapped-length, rules) in
    (len, labels, refl)

pub loop-k-preserved : goal.loop-k-preserved
loop-k-preserved c =
    let a = c.args in
    let none = c.no_files-m.result.records in
    let es = used_entries a.table.now in
    let ls = a.slots.labels in
    let l = c.loop-k in
    let here =
    c.slot_record.ensures ∙ ap (λ (ns : List ℕ). slot_record (label_at ls l.k) (get_or ns l.k 0)) c.live_counts-lives.ensures ∙ record-live es ls l.k in (
      l.invariant.0,
      l.invariant.1,
      ap (λ (rs : List Record). set rs l.k c.slot_record.result) l.invariant.2 ∙ ap (set (map_to (counted es) l.k ls none) l.k) here ∙ map_next (counted es) ls none l.k (omega (arith, l.invariant.1)) (omega (arith, l.invariant.0)),
    )

pub returns : goal.returns
returns c =
    let a = c.args in
    let none = c.no_files-m.result.records in
    let ls = a.slots.labels in
    let l = c.loop-k in
    l.invariant.2 ∙ map-end (counted (used_entries a.table.now)) ls none l.k (omega (arith, l.invariant.1)) (omega (arith, l.invariant.0))
