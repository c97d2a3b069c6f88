use Prim.Native.Nat.{ℕ}
use mathlib.Core.Path.{◌≡◌, sym, ap, ◌∙◌}
use mathlib.Core.List.{List}
use native.Mathlib.Omega.{arith}
use lib.ListN.{length, get_or, set, replicate, length-replicate}
use Rattle.gc_plan.proofs.Filled.{filled-start, filled_next, filled-end}
use Rattle.gc_plan.specs.Plans.{due_in, due-at, due-length}
use Rattle.gc_plan.proofs.due.Goals as goal

pub loop-i-init : goal.loop-i-init
loop-i-init c = filled-start (due_in c.args.least c.args.plan.now) (replicate 256 0)

pub loop-i-preserved : goal.loop-i-preserved
loop-i-preserved c =
    let a = c.args in
    let to = due_in a.least a.plan.now in
    let n : length to ≡ 256 = due-length a.least a.plan.now ∙ c.requires in
    let i = c.loop-i.i in
    let z : length (replicate {A = ℕ} 256 0) ≡ 256 = length-replicate {A = ℕ} 256 0 in
    let new : c.due_for.result ≡ get_or to i 0 = c.due_for.ensures ∙ sym (due-at a.least a.plan.now i) in
    ap (λ (v : ℕ). set c.loop-i.slots i v) new ∙ ap (λ (s : List ℕ). set s i (get_or to i 0)) c.loop-i.invariant ∙ filled_next to i (replicate 256 0) (omega arith) (omega arith)

pub returns : goal.returns
returns c =
    let a = c.args in
    let to = due_in a.least a.plan.now in
    let n : length to ≡ 256 = due-length a.least a.plan.now ∙ c.requires in
    let z : length (replicate {A = ℕ} 256 0) ≡ 256 = length-replicate {A = ℕ} 256 0 in
    c.loop-i.invariant ∙ filled-end to c.loop-i.i (replicate 256 0) (omega arith) (omega arith)
