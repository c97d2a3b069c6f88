-- The contract of nightly, by value and on the state's words, admits one result only.
use Rattle.std.specs.Prelude.{◌≡◌}
use Rattle.std.proofs.Common.{ap₂}
use Rattle.rules.specs.Base.{List, ℕ, length}
use Rattle.rules.specs.declared.State.{State}
use Rattle.rules.specs.Types.{MaintainAnswer}
use Rattle.rules.proofs.Answers as answers
use Rattle.rules.specs.TwoCalls.{nightly_call}
use Rattle.rules.specs.World.{maintain_given}
use Rattle.as_numbers.specs.StateWords.{state_in}
use Rattle.as_numbers.specs.StateLaws.{state-one}
use Rattle.gc.specs.Unique.{Lent, Asked, world_of, notes_room, Leaves}
use Rattle.gc.proofs.Unique.{leaves-one}
use Rattle.gc_nightly.specs.declared.Maintained.{Maintained}

-- what the contract of nightly says of a result and the buffers
abbrev pub Nightly : Asked → Maintained → Lent → Type 0
Nightly a r l = Leaves a (nightly_call (world_of a) (notes_room a)) (maintain_given r.answer) r.state l

-- any two results that the contract of nightly admits are equal
pub nightly-one : (a : Asked) (x y : Maintained) (l m : Lent) → Nightly a x l → Nightly a y m → (x ≡ y) × (l ≡ m)
nightly-one a x y l m d e =
    let w = leaves-one a _ _ _ _ _ _ _ d e in
    (ap₂ (λ (z : MaintainAnswer) (t : State). record { answer = z; state = t }) (answers.maintain-one x.answer y.answer w.0) w.1, w.2)

-- what the contract of nightly_in says of an answer, the words after it and the buffers
abbrev pub NightlyIn : Asked → MaintainAnswer → List ℕ → Lent → Type 0
NightlyIn a x ws l = Leaves a (nightly_call (world_of a) (notes_room a)) (maintain_given x) (state_in ws) l

-- any two answers, words and buffers that the contract of nightly_in admits are equal
pub nightly-in-one : (a : Asked) (x y : MaintainAnswer) (ws vs : List ℕ) (l m : Lent) → length ws ≡ 1801 → length vs ≡ 1801
    → NightlyIn a x ws l → NightlyIn a y vs m → (x ≡ y) × (ws ≡ vs) × (l ≡ m)
nightly-in-one a x y ws vs l m p r d e =
    let w = leaves-one a _ _ _ _ _ _ _ d e in
    (answers.maintain-one x y w.0, state-one ws vs p r w.1, w.2)
