use Prim.Native.Nat.{◌+◌}
use mathlib.Core.Path.{◌≡◌, sym, ap, ◌∙◌}
use native.Mathlib.Omega.{arith}
use borrow.Author.Rules.{rules}
use lib.ListN.{length}
use mathlib.Core.Bool.{Bool}
use Rattle.numbers.specs.Choice.{pick}
use Rattle.rules.specs.FileMap.{is_empty, record_at}
use Rattle.file_map.proofs.RecordTurns.{mapped-length, counts_start, counts-next, counts_end}
use native.Mathlib.Nat.{add-zero}
use Rattle.file_map.proofs.counts.Goals as goal
use Rattle.file_map.proofs.counts.Goals.{then-not-is_empty, else-not-is_empty}

pub loop-r-init : goal.loop-r-init
loop-r-init c =
    let rs = c.args.m.records in
    let l : length rs ≡ 256 = search (mapped-length, rules) in
    (omega arith, omega arith, omega arith, omega arith, counts_start rs)

pub overflow_add-bytes : goal.overflow_add-bytes
overflow_add-bytes c =
    let w = c.requires c.loop-r.r-index in
    omega arith

pub overflow_add-present : goal.overflow_add-present
overflow_add-present c =
    let w = c.requires c.loop-r.r-index in
    omega arith

pub overflow_add-live : goal.overflow_add-live
overflow_add-live c =
    let w = c.requires c.loop-r.r-index in
    omega arith

pub loop-r-preserved : goal.loop-r-preserved
loop-r-preserved c =
    let rs = c.args.m.records in
    let l : length rs ≡ 256 = search (mapped-length, rules) in
    let w = c.requires c.loop-r.r-index in
    let i = c.loop-r.r-index in
    let f : c.if-not-is_empty.files ≡ c.loop-r.files + pick (is_empty (record_at rs i)) 0 1 =
    elim c.if-not-is_empty.branch [
      | then-not-is_empty w ↦ w.files-is ∙ ap (λ (t : Bool). c.loop-r.files + pick t 0 1) (sym (sym c.is_empty.ensures ∙ w.if-not-is_empty.true))
      | else-not-is_empty w ↦ w.files-is ∙ sym (add-zero c.loop-r.files) ∙ ap (λ (t : Bool). c.loop-r.files + pick t 0 1) (sym (sym c.is_empty.ensures ∙ w.if-not-is_empty.false))
    ] in (
      elim c.if-not-is_empty.branch [ then-not-is_empty w ↦ omega arith | else-not-is_empty w ↦ omega arith ],
      omega arith,
      omega arith,
      omega arith,
      c.loop-r.invariant.4 ∙ counts-next rs i c.loop-r.files c.loop-r.bytes c.loop-r.present c.loop-r.live c.if-not-is_empty.files (omega arith) f,
    )

pub returns : goal.returns
returns c =
    let rs = c.args.m.records in
    let l : length rs ≡ 256 = search (mapped-length, rules) in
    sym (c.loop-r.invariant.4 ∙ counts_end rs c.loop-r.r-index c.loop-r.files c.loop-r.bytes c.loop-r.present c.loop-r.live (omega arith))
