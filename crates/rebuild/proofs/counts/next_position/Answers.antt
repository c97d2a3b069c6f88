use Rattle.file_map.proofs.RecordTurns.{mapped-length}
use mathlib.Core.Path.{sym, ap, ap₂, ◌∙◌, ◌≡◌}
use Prim.Native.Nat.{ℕ, ◌+◌, max}
use Rattle.rebuild.specs.Records.{next_from, masked_lsn, size_of}
use Rattle.rebuild.proofs.CountTurns.{greatest-start, greatest-next, greatest-end}
use lib.ListN.{length}
use native.Mathlib.Omega.{arith}
use borrow.Author.Rules.{rules}
use Rattle.rebuild.proofs.counts.next_position.Goals as goal

pub loop-label-init : goal.loop-label-init
loop-label-init c =
    let ls = c.args.slots.labels in
    (greatest-start masked_lsn ls, greatest-start size_of ls)

pub loop-label-preserved : goal.loop-label-preserved
loop-label-preserved c =
    let ls = c.args.slots.labels in
    let len : length ls ≡ 256 = search (mapped-length, rules) in
    let l = c.loop-label in (
      greatest-next masked_lsn ls l.label-index l.lsn _ (omega arith) (c.max-lsn.ensures ∙ ap (max l.lsn) c.masked.ensures) ∙ l.invariant.0,
      greatest-next size_of ls l.label-index l.size _ (omega arith) c.max-size.ensures ∙ l.invariant.1,
    )

pub overflow_add-result : goal.overflow_add-result
unfolding next_from
overflow_add-result c =
    let ls = c.args.slots.labels in
    let len : length ls ≡ 256 = search (mapped-length, rules) in
    let l = c.loop-label in
    omega (arith, c.requires, sym (greatest-end size_of ls l.label-index l.size (omega arith)) ∙ l.invariant.1)

pub overflow_add-result-2 : goal.overflow_add-result-2
unfolding next_from
overflow_add-result-2 c =
    let ls = c.args.slots.labels in
    let len : length ls ≡ 256 = search (mapped-length, rules) in
    let l = c.loop-label in
    omega (arith, c.requires, sym (greatest-end masked_lsn ls l.label-index l.lsn (omega arith)) ∙ l.invariant.0, sym (greatest-end size_of ls l.label-index l.size (omega arith)) ∙ l.invariant.1)

pub returns : goal.returns
unfolding next_from
returns c =
    let ls = c.args.slots.labels in
    let len : length ls ≡ 256 = search (mapped-length, rules) in
    let l = c.loop-label in
    ap₂ (λ (a b : ℕ). a + (b + 1)) (sym (greatest-end masked_lsn ls l.label-index l.lsn (omega arith)) ∙ l.invariant.0) (sym (greatest-end size_of ls l.label-index l.size (omega arith)) ∙ l.invariant.1)
