-- Objects as the code answers them, and the walk over them.
use Rattle.std.specs.Prelude.{◌≡◌, refl, Bool, true, false, List, [], ◌∷◌, ℕ, zero, suc, ◌+◌, ◌≤◌, ◌<◌, ltb, length, drop, Err, Ok}
use Rattle.std.proofs.Common.{ap, ◌∙◌, subst, arith, ltb-true, ltb-false, length-drop, drop_of_length-le, drop-drop}
use Rattle.numbers.specs.Choice.{pick}
use Rattle.rules.specs.Refusal.{decide, after}
use Rattle.rules.specs.Object.{Stored, stored_at, objects_from, objects_in}
use Rattle.rules.specs.Read.{object_tests}
use Rattle.rules.proofs.ObjectLaws.{stored-room, objects-enough, objects-next as objects-cons}
use Rattle.stored_object.specs.declared.Header.{Header}
use Rattle.stored_object.specs.declared.Step.{Step}
use Rattle.stored_object.specs.declared.Step.TheVariants.{End, HeaderCut, Here}
use Rattle.stored_object.specs.Answers.{BodyAnswer}

-- an object's numbers; its body stays in the bytes
abbrev pub header_of : Stored → Header
header_of o = record { checksum = o.checksum; id = o.id; size = o.size; room = o.room }

-- where the body of what stands at a position of a file lies: "16 (header or body past file_size), 10, 17"
abbrev pub body_of : ℕ → Stored → BodyAnswer
body_of id o = after (decide (object_tests id o)) Err (Ok (o.position + 20, o.size))

-- the objects from a position on
unfoldable pub objects_at : List ℕ → ℕ → List Stored
objects_at objects position = objects_from (length objects) position (drop position objects)

-- the first of them: "header past T" or its numbers
abbrev pub step_of : List Stored → Step
step_of [] = End
step_of (o ∷ os) = pick (ltb o.room 20) HeaderCut (Here (header_of o))

-- a walk starts at 0
pub objects-start : (objects : List ℕ) → objects_at objects 0 ≡ objects_in objects
unfolding objects_at objects_in
objects-start objects = refl

-- an object, and those behind it
pub objects-next : (objects : List ℕ) (position : ℕ) → position < length objects
    → let o = stored_at position (drop position objects) in objects_at objects position ≡ o ∷ objects_at objects (position + (20 + o.size))
unfolding objects_at
objects-next objects position h =
    let bytes = drop position objects in
    let o = stored_at position bytes in
    let n = 20 + o.size in
    let here = length-drop position objects in
    let behind = length-drop n bytes in
    objects-enough (length objects) (suc (length objects)) position bytes (omega arith) (omega arith)
    ∙ objects-cons (length objects) position bytes (omega arith)
    ∙ ap (λ (bs : List ℕ). o ∷ objects_from (length objects) (position + n) bs) (drop-drop n position objects)

-- no bytes are left
pub objects-end : (objects : List ℕ) (position : ℕ) → length objects ≤ position → objects_at objects position ≡ []
unfolding objects_at objects_from
objects-end objects position h = rw (drop_of_length-le objects {i = position} h) (none (length objects))
  where
    none : (k : ℕ) → objects_from k position [] ≡ []
    none zero = refl
    none (suc k) = refl

-- ---- what a step tells of the walk
step-inside : (objects : List ℕ) (position : ℕ) → position < length objects
    → step_of (objects_at objects position)
    ≡ pick (ltb (length (drop position objects)) 20) HeaderCut (Here (header_of (stored_at position (drop position objects))))
unfolding stored_at
step-inside objects position h = ap step_of (objects-next objects position h)

-- an object whose header is whole
pub record Walked (objects : List ℕ) (position : ℕ) (h : Header) : Type 0 where
  pub inside : position + 20 ≤ length objects
  pub header : h ≡ header_of (stored_at position (drop position objects))

-- the object bytes end in the middle of a header
pub record CutOff (objects : List ℕ) (position : ℕ) : Type 0 where
  pub begins : position < length objects
  pub short : length objects < position + 20

-- what a step's answer says
abbrev pub Told : List ℕ → ℕ → Step → Type 0
Told objects position End = length objects ≤ position
Told objects position HeaderCut = CutOff objects position
Told objects position (Here h) = Walked objects position h

pub step-told : (objects : List ℕ) (position : ℕ) → Told objects position (step_of (objects_at objects position))
step-told objects position = go (ltb position (length objects)) (ltb (length (drop position objects)) 20) refl refl
  where
    go : (begins short : Bool) → ltb position (length objects) ≡ begins → ltb (length (drop position objects)) 20 ≡ short
        → Told objects position (step_of (objects_at objects position))
    go false short p q =
        let past = ltb-false position (length objects) p in
        rw (objects-end objects position past) past
    go true true p q =
        let begins = ltb-true position (length objects) p in
        rw (step-inside objects position begins, q)
        (record { begins = begins; short = omega (arith, ltb-true (length (drop position objects)) 20 q, length-drop position objects) })
    go true false p q =
        rw (step-inside objects position (ltb-true position (length objects) p), q)
        (record { inside = omega (arith, ltb-false (length (drop position objects)) 20 q, length-drop position objects); header = refl })

pub told-by : (objects : List ℕ) (position : ℕ) (s : Step) → step_of (objects_at objects position) ≡ s → Told objects position s
told-by objects position s e = subst (Told objects position) e (step-told objects position)

-- an object whose header is whole: its numbers, and where it begins and ends
module _ (objects : List ℕ) (position : ℕ) (h : Header) (w : Walked objects position h) where
  pub header-size : h.size ≡ (stored_at position (drop position objects)).size
  header-size = ap (λ (x : Header). x.size) w.header

  pub header-id : h.id ≡ (stored_at position (drop position objects)).id
  header-id = ap (λ (x : Header). x.id) w.header

  pub header-room : h.room ≡ (stored_at position (drop position objects)).room
  header-room = ap (λ (x : Header). x.room) w.header

  pub header-begins : position < length objects
  header-begins = let a = w.inside in omega arith

  -- there are 20 bytes
  pub header-fits : (20 ≤ h.room) × (position + h.room ≡ length objects)
  header-fits =
      let n = length-drop position objects in
      let at = w.inside in
      let room = stored-room position (drop position objects) in
      (omega (arith, header-room), omega (arith, header-room))
