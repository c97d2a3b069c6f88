use mathlib.Core.Path.{◌≡◌, sym, ◌∙◌}
use Prim.Native.Nat.{ℕ}
use native.Mathlib.Omega.{arith}
use borrow.Author.Rules.{rules}
use lib.ListN.{length}
use Rattle.std.proofs.lemmas.List.{ext_get_or}
use Rattle.rules.specs.FileMap.{record_at}
use Rattle.file_map.proofs.RecordTurns.{mapped-length}
use Rattle.gc_candidates.specs.Plan.{plan_for, plan_of, plan-length, plan-at}
use Rattle.gc_candidates.proofs.PlanTurns.{made-each}
use Rattle.gc_candidates.proofs.plan.Goals as goal

pub returns : goal.returns
returns c =
    let a = c.args in
    let rs = a.m.records in
    let l : length rs ≡ 256 = search (mapped-length, rules) in
    let made = c.from_fn.ensures.items in
    let each = made-each _ (λ (k : ℕ). plan_for a.s a.claims a.mark a.count k (record_at rs k)) _ c.from_fn.result (λ k r q call. search rules) 256 made in
    ext_get_or 0 c.from_fn.result (plan_of a.s a.claims a.mark a.count rs) (omega (arith, made.long, plan-length a.s a.claims a.mark a.count rs, l))
    (λ k h. each k (omega (arith, made.long)) ∙ sym (plan-at a.s a.claims a.mark a.count rs k (omega (arith, made.long, l))))
