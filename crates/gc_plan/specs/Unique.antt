-- The contract of plan admits one result only.
use Rattle.std.specs.Prelude.{◌≡◌}
use Rattle.std.proofs.Common.{sym, ap, ◌∙◌}
use Rattle.rules.specs.Base.{List, ℕ}
use Rattle.rules.specs.TwoCalls.{room_of, notes_left, plan_call}
use Rattle.rules.specs.World.{World}
use Rattle.gc_plan.specs.declared.Planned.{Planned}
use Rattle.gc_plan.specs.Plans.{plan_result, plan_given, plan-given}

-- what the contract says: the world, places and pieces before, the result, places and pieces after
abbrev pub Plans : World → List ℕ → List ℕ → Planned → List ℕ → List ℕ → Type 0
Plans w places pieces r places' pieces' =
    (r ≡ plan_result w (room_of places pieces)) × ((places' ≡ notes_left (plan_given r) places) × (pieces' ≡ notes_left (plan_given r) pieces))

-- any two results that it admits are equal
pub plan-one : (w : World) (places pieces : List ℕ) (r q : Planned) (a b c d : List ℕ) → Plans w places pieces r a b → Plans w places pieces q c d
    → (r ≡ q) × (a ≡ c) × (b ≡ d)
plan-one w places pieces r q a b c d x y =
    let same : r ≡ q = x.0 ∙ sym y.0 in (
      same,
      x.1.0 ∙ ap (λ (z : Planned). notes_left (plan_given z) places) same ∙ sym y.1.0,
      x.1.1 ∙ ap (λ (z : Planned). notes_left (plan_given z) pieces) same ∙ sym y.1.1,
    )

-- and tells number and values of the definition
pub plan-tells : (w : World) (places pieces : List ℕ) (r : Planned) (places' pieces' : List ℕ) → Plans w places pieces r places' pieces'
    → plan_given r ≡ plan_call w (room_of places pieces)
plan-tells w places pieces r places' pieces' x = ap plan_given x.0 ∙ plan-given w (room_of places pieces)
