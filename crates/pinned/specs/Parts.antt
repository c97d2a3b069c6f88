-- Bytes and what they say: a number in groups at the front of what is left.
use Rattle.std.specs.Prelude.{◌≡◌, ◌++◌, ◌+◌, ◌-◌}
use Rattle.std.proofs.Common.{ap, ap₂, ◌∙◌, arith}
use Rattle.rules.specs.Base.{List, ℕ, drop}
use Rattle.numbers.specs.Groups.{groups_of}
use Rattle.numbers.specs.GroupLaws.{Stands}
use Rattle.stored_object.specs.Begins.{cut}

-- a number in groups that stands at `at`, then what is left
pub front : (s : List ℕ) (at v next : ℕ) → Stands 10 s at next v → drop at s ≡ groups_of 10 v ++ drop next s
front s at v next h =
    let e : at + (next - at) ≡ next = omega (arith, h.starts) in
    cut at (next - at) s ∙ ap₂ (λ (a b : List ℕ). a ++ b) h.form (ap (λ (n : ℕ). drop n s) e)
