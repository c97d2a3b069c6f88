use mathlib.Core.Path.{◌≡◌, refl, sym, ◌∙◌}
use native.Mathlib.Omega.{arith}
use borrow.Author.Rules.{rules}
use lib.ListN.{length}
use Rattle.rules.proofs.BaseLaws.{within-true}
use Rattle.file_map.proofs.RecordTurns.{mapped-length}
use Rattle.limits.specs.Settled.{bad_files, bad-files}
use Rattle.limits.proofs.BadFileTurns.{bad-here, bad-next, bad-end}
use Rattle.limits.proofs.bad_files.Goals as goal

pub returns-then-not-within : goal.returns-then-not-within
unfolding bad_files
returns-then-not-within c = rw (sym c.within.ensures ∙ c.if-not-within.true) refl

pub loop-i-init : goal.loop-i-init
loop-i-init c =
    let a = c.args in
    let w = within-true 128 1048576 a.s.slot_bytes (sym c.within.ensures ∙ c.if-not-within.false) in
    (w.0, w.1, bad-files a.s a.heap a.table.now a.files.records w.0 w.1)

pub returns-then-bad_record : goal.returns-then-bad_record
returns-then-bad_record c =
    let a = c.args in
    let b = a.table.now in
    let rs = a.files.records in
    let all : length rs ≡ 256 = search (mapped-length, rules) in
    let i = c.loop-i.i in
    sym (c.loop-i.invariant.2 ∙ bad-here a.s a.heap b rs i (omega arith) (sym c.bad_record.ensures ∙ c.if-bad_record.true))

pub loop-i-preserved : goal.loop-i-preserved
loop-i-preserved c =
    let a = c.args in
    let b = a.table.now in
    let rs = a.files.records in
    let all : length rs ≡ 256 = search (mapped-length, rules) in
    let i = c.loop-i.i in
    let inv = c.loop-i.invariant in
    (inv.0, inv.1, inv.2 ∙ bad-next a.s a.heap b rs i (omega arith) (sym c.bad_record.ensures ∙ c.if-bad_record.false))

pub returns : goal.returns
returns c =
    let a = c.args in
    let rs = a.files.records in
    let all : length rs ≡ 256 = search (mapped-length, rules) in
    let i = c.loop-i.i in
    sym (c.loop-i.invariant.2 ∙ bad-end a.s a.heap a.table.now rs i (omega arith))
