-- What `claim` and `release` ask of `decided`, of a state taken apart.
use Rattle.std.specs.Prelude.{Err, Ok}
use mathlib.Core.Path.{◌≡◌, refl, sym, ap, ap₂, ◌∙◌}
use mathlib.Core.Bool.{Bool, true, false, ◌||◌}
use mathlib.Core.List.{List, [], ◌∷◌}
use Prim.Native.Nat.{ℕ}
use lib.Dec.{leb}
use Rattle.rules.specs.Refusal.{◌gives◌, decide, after}
use Rattle.rules.specs.declared.Settings.{Settings}
use Rattle.rules.specs.declared.State.{State}
use Rattle.rules.specs.declared.Claims.{Claims}
use Rattle.rules.specs.Types.{Answer}
use Rattle.rules.specs.declared.Refusal.TheVariants.{Limits, Claim}
use Rattle.rules.specs.Condition1.{refused1}
use Rattle.rules.specs.FileMap.{is_empty, record_at}
use Rattle.rules.specs.Claims.{not_a_file, with_claims}
use Rattle.rules.specs.World.{World, world, slots_of, leaving, answer_given, accepted, unchanged}

-- 1, then 21 where `bars` holds
abbrev pub answered : World → Bool → Answer
answered w bars = decide (refused1 w gives Limits ∷ bars gives Claim ∷ [])

or_assoc : (a b c : Bool) → (a || (b || c)) ≡ (a || b || c)
or_assoc true b c = refl
or_assoc false b c = refl

-- what is told of the parts and of the slot as read is so of the state and its claim
pub whole : (s : Settings) (parts state : State) (claims : Claims) (heap table : List ℕ) (slot : ℕ) (read claimed : Bool) (r : Answer)
    → r ≡ answered (world s parts claims heap table) (leb (slots_of (world s parts claims heap table)) slot || read)
    → parts ≡ state
    → read ≡ (is_empty (record_at state.files.records slot) || claimed)
    → answered (world s state claims heap table) (not_a_file (world s state claims heap table) slot || claimed) ≡ r
whole s parts state claims heap table slot read claimed r told joined bar =
    let w = world s state claims heap table in
    sym
    (told
    ∙ ap₂ (λ (t : State) (b : Bool). let v = world s t claims heap table in answered v (leb (slots_of v) slot || b)) joined bar
    ∙ ap (answered w) (or_assoc (leb (slots_of w) slot) (is_empty (record_at state.files.records slot)) claimed))

-- what is left where a call that may change the claim record answers so
pub left : (s : Settings) (state : State) (claims next : Claims) (heap table : List ℕ) (r : Answer)
    → leaving (answer_given r) (world s state (after r (λ _. claims) next) heap table)
    ≡ after r (unchanged (world s state claims heap table)) (record { answer = accepted []; world = with_claims (world s state claims heap table) next })
left s state claims next heap table (Ok tt) = refl
left s state claims next heap table (Err r) = refl
