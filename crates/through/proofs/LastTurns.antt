-- A turn of `last_on`'s loop, and its end.
use mathlib.Core.Path.{◌≡◌, refl, sym, ap, ap₂, ◌∙◌}
use Prim.Native.Nat.{◌<◌, ◌≤◌}
use native.Mathlib.Omega.{arith}
use Rattle.std.specs.Prelude.{◌+◌, ◌-◌, None, Some}
use Rattle.rules.specs.Base.{Bool, true, false, List, ℕ, zero, suc, length, pick}
use Rattle.rules.specs.Ops.{Op}
use Rattle.rules.specs.Batch.{malformed, parsed, operation_at, Batch, operations, not_as_above, before, batch_from, batch_in, is_malformed}
use Rattle.rules.proofs.BatchLaws.{batch-end, batch-bad, batch-next}
use Rattle.batch.specs.declared.Operation.{Operation}
use Rattle.batch.specs.Reading.{op_in}
use Rattle.through.specs.declared.LastOperation.{LastOperation}
use Rattle.through.specs.declared.LastOperation.TheVariants.{NoOperation}
use Rattle.through.specs.Answers.{Pass}
use Rattle.through.specs.Through.{said_by, or_earlier, last_from, last_in}
use Rattle.through.specs.Pieces.{said_in}
use Rattle.through.proofs.ThroughLaws.{or-none, or_assoc, last_end, last-next, said_in_lem}

-- what the rest from `at` on says of x, with what was said before it
unfoldable pub telling : ℕ → List ℕ → ℕ → ℕ → LastOperation → Pass
telling k s x at last = pick (is_malformed (batch_from k s at)) None (Some (or_earlier (last_from k s x at) last))

pub telling-all : (s : List ℕ) (x : ℕ) → telling (length s) s x 0 NoOperation ≡ pick (is_malformed (batch_in s)) None (Some (last_in s x))
unfolding telling batch_in
telling-all s x = ap (λ (l : LastOperation). pick (is_malformed (batch_from (length s) s 0)) None (Some l)) (or-none (last_in s x))

pub telling-end : (k : ℕ) (s : List ℕ) (x at : ℕ) (last : LastOperation) → length s ≤ at → telling k s x at last ≡ Some last
unfolding telling
telling-end k s x at last h = rw (batch-end k s at h, last_end k s x at h) refl

pub telling-bad : (k : ℕ) (s : List ℕ) (x at : ℕ) (last : LastOperation) → at < length s → operation_at s at ≡ malformed → telling k s x at last ≡ None
unfolding telling
telling-bad k s x at last h e = rw (batch-bad k s at h e) refl

before-malformed : (o : Op) (b : Batch) → is_malformed (before o b) ≡ is_malformed b
before-malformed o not_as_above = refl
before-malformed o (operations os) = refl

-- one operation of the batch behind, which k bounds
pub telling-turn : (k : ℕ) (s : List ℕ) (x at : ℕ) (last : LastOperation) (o : Operation) (next : ℕ) → at < length s → length s - at ≤ k
    → (operation_at s at ≡ parsed (op_in s o) next) × (o.start + o.len ≤ length s)
    → telling (k - 1) s x next (or_earlier (said_in o next x) last) ≡ telling k s x at last
unfolding telling
telling-turn zero s x at last o next l h e = absurd (omega arith)
telling-turn (suc k) s x at last o next l h e =
    let less : suc k - 1 ≡ k = omega arith in
    let said = said_by (op_in s o) next x in
    ap (λ (j : ℕ). telling j s x next (or_earlier (said_in o next x) last)) less
    ∙ ap (λ (a : LastOperation). telling k s x next (or_earlier a last)) (sym (said_in_lem s o next x e.1))
    ∙ ap₂ (λ (m : Bool) (a : LastOperation). pick m None (Some a)) (sym (before-malformed (op_in s o) (batch_from k s next))) (or_assoc (last_from k s x next) said last)
    ∙ ap₂ (λ (b : Batch) (a : LastOperation). pick (is_malformed b) None (Some (or_earlier a last)))
    (sym (batch-next k s at (op_in s o) next l e.0)) (sym (last-next k s x at (op_in s o) next e.0))

-- ---- what a caller learns
pub pass-bad : (m : Bool) (l : LastOperation) → pick m None (Some l) ≡ None → m ≡ true
pass-bad true l e = refl
pass-bad false l e = absurd (let z : ◌≡◌ {A = ℕ} 0 1 = cc in omega arith)

pub pass-whole : (m : Bool) (l k : LastOperation) → pick m None (Some l) ≡ Some k → (m ≡ false) × (l ≡ k)
pass-whole true l k e = absurd (let z : ◌≡◌ {A = ℕ} 0 1 = cc in omega arith)
pass-whole false l k e = (refl, cc)
