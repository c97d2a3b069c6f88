use Rattle.std.proofs.Common.{rules}
use mathlib.Core.Path.{sym, ap, ◌∙◌}
use Prim.Native.Nat.{◌-◌}
use native.Mathlib.Omega.{arith}
use lib.ListN.{length}
use Rattle.batch.specs.Behind.{operation-behind}
use Rattle.batch.specs.ReadingLaws.{held, held_none}
use Rattle.through.specs.declared.LastOperation.{LastOperation}
use Rattle.through.specs.Through.{or_earlier}
use Rattle.through.proofs.ThroughLaws.{len-behind}
use Rattle.through.proofs.LastTurns.{telling-all, telling-end, telling-bad, telling-turn}
use Rattle.through.proofs.last_on.Goals as goal

pub loop-at-init : goal.loop-at-init
loop-at-init c =
    let a = c.args in
    (length a.batch.now, omega arith, telling-all a.batch.now a.id)

pub returns-in_err-o : goal.returns-in_err-o
returns-in_err-o c =
    let s = c.args.batch.now in
    let x = c.args.id in
    let inv = c.loop-at.invariant in
    let wrong = held_none s _ _ c.operation_at.ensures.parses c.in_err-o.was in
    search (rules, sym (telling-bad inv.0 s x _ c.loop-at.last c.loop-at-test.true wrong) ∙ inv.2)

pub said_by-requires : goal.said_by-requires
said_by-requires c =
    let s = c.args.batch.now in
    len-behind s c.loop-at.at _ _ (held s _ _ _ _ (c.operation_at.ensures.parses, c.operation_at.ensures.within) c.in_ok-o.was)

pub loop-at-smaller : goal.loop-at-smaller
loop-at-smaller c =
    let s = c.args.batch.now in
    let e = held s _ _ _ _ (c.operation_at.ensures.parses, c.operation_at.ensures.within) c.in_ok-o.was in
    omega (arith, operation-behind s _ _ _ e.0)

pub loop-at-preserved : goal.loop-at-preserved
loop-at-preserved c =
    let s = c.args.batch.now in
    let x = c.args.id in
    let e = held s _ _ _ _ (c.operation_at.ensures.parses, c.operation_at.ensures.within) c.in_ok-o.was in
    let inv = c.loop-at.invariant in
    let behind = operation-behind s _ _ _ e.0 in
    let turn = telling-turn inv.0 s x c.loop-at.at c.loop-at.last _ _ c.loop-at-test.true inv.1 e in
    let said = c.or_earlier-last.ensures ∙ ap (λ (w : LastOperation). or_earlier w c.loop-at.last) c.said_by.ensures in
    (inv.0 - 1, omega arith, rw said (turn ∙ inv.2))

pub returns : goal.returns
returns c =
    let s = c.args.batch.now in
    let x = c.args.id in
    let inv = c.loop-at.invariant in
    sym (telling-end inv.0 s x _ c.loop-at.last c.loop-at-test.false) ∙ inv.2
