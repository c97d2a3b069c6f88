-- A file's objects against its entries, and its entries against the objects walked.
use Rattle.std.specs.Prelude.{◌≡◌, true, false, ◌&&◌, ◌||◌, ◌⊎◌, ◌≤◌, ◌<◌, ◌∷◌, ◌++◌, ◌+◌}
use Rattle.std.proofs.Math.Path.{refl, sym, ap}
use Rattle.std.proofs.Common.{ap₂, ◌∙◌, inl, inr, arith, lt-ltb, le-ltb, ltb-true, eq-eqb, ne_eqb, length-drop}
use Rattle.std.proofs.Math.Bool.{Bool, not}
use Rattle.numbers.specs.GroupLaws.{either_way}
use Rattle.rules.specs.Base.{List, [], ℕ, zero, suc, length, drop, eqb, pick, any, keep, each}
use Rattle.rules.specs.BaseLaws.{All}
use Rattle.rules.proofs.BaseLaws.{all_map, any-clear}
use Rattle.disk_location.specs.Locations.{position_of, delete_of}
use Rattle.rules.specs.Object.{Stored, stored_at, bad_checksum, objects_from, objects_in}
use Rattle.rules.proofs.ObjectLaws.{stored-position, stored-room}
use Rattle.rules.specs.SlotFile.{File}
use Rattle.stored_object.specs.declared.Header.{Header}
use Rattle.stored_object.specs.Objects.{objects_at, objects-start, objects-next, objects-end, Walked, CutOff, header-size, header-id, header-room, header-begins}
use Rattle.faults.specs.Faults.{line, line_if, passes, walked, entered, object_faults, entry_faults, file_faults}
use Rattle.file_faults.specs.Types.{Entry, CutShort, OtherId, Object, Fault}
use Rattle.file_faults.specs.Walks.{entered_as, object_lines, walked_from, meets_one, unmet, Start, Same, Gone}

-- ---- an object that a step met
module _ (objects : List ℕ) (position : ℕ) where
  abbrev here : Stored
  here = stored_at position (drop position objects)

  room-is : here.room ≡ length (drop position objects)
  room-is = stored-room position (drop position objects)

  position-is : here.position ≡ position
  position-is = stored-position position (drop position objects)

  -- "header .. passes T"
  pub cut-passes : CutOff objects position → passes here ≡ true
  cut-passes w =
      let a = w.short in
      lt-ltb here.room (20 + here.size) (omega (arith, room-is, length-drop position objects))

  -- behind one that passes nothing is left
  past_end : passes here ≡ true → length objects ≤ position + (20 + here.size)
  past_end p = omega (arith, ltb-true here.room (20 + here.size) p, room-is, length-drop position objects)

  module _ (h : Header) (w : Walked objects position h) where
    -- "body passes T"
    pub short-passes : h.room < 20 + h.size → passes here ≡ true
    short-passes d = lt-ltb here.room (20 + here.size) (omega (arith, header-size objects position h w, header-room objects position h w))

    -- it does not
    pub whole-passes : 20 + h.size ≤ h.room → passes here ≡ false
    whole-passes d = le-ltb here.room (20 + here.size) (omega (arith, header-size objects position h w, header-room objects position h w))

-- ---- objects
module _ (slot : ℕ) (es : List Entry) where
  -- the lines of the objects from a position on
  abbrev pub lines_from : List ℕ → ℕ → List Fault
  lines_from objects position = each (object_faults slot es) (objects_at objects position)

  -- the walk starts at 0
  pub lines_start : (objects : List ℕ) → lines_from objects 0 ≡ each (object_faults slot es) (objects_in objects)
  lines_start objects = ap (each (object_faults slot es)) (objects-start objects)

  -- no bytes are left
  pub lines_end : (objects : List ℕ) (position : ℕ) → length objects ≤ position → lines_from objects position ≡ []
  unfolding each
  lines_end objects position h = ap (each (object_faults slot es)) (objects-end objects position h)

  lines_step : (objects : List ℕ) (position : ℕ) → position < length objects
      → lines_from objects position
      ≡ object_faults slot es (here objects position) ++ lines_from objects (position + (20 + (here objects position).size))
  unfolding each
  lines_step objects position h = ap (each (object_faults slot es)) (objects-next objects position h)

  object-passes : (o : Stored) → passes o ≡ true → object_faults slot es o ≡ line slot CutShort (Object o.position) ∷ []
  unfolding object_faults
  object-passes o p = rw p refl

  object-whole : (o : Stored) → passes o ≡ false → object_faults slot es o ≡ object_lines slot o.position (bad_checksum o) (not (any (entered_as o.id o.position) es))
  unfolding object_faults
  object-whole o p = rw p refl

  -- "one whose header or body passes T gives 16 alone and ends the walk"
  pub lines_cut : (objects : List ℕ) (position : ℕ) → position < length objects → passes (here objects position) ≡ true
      → lines_from objects position ≡ line slot CutShort (Object position) ∷ []
  lines_cut objects position begins p =
      lines_step objects position begins
      ∙ ap₂ ◌++◌ (object-passes (here objects position) p ∙ ap (λ (n : ℕ). line slot CutShort (Object n) ∷ []) (position-is objects position))
      (lines_end objects (position + (20 + (here objects position).size)) (past_end objects position p))

  -- a walked object's, and those behind it
  pub lines-on : (objects : List ℕ) (position : ℕ) (h : Header) → Walked objects position h → 20 + h.size ≤ h.room
      → lines_from objects position
      ≡ object_lines slot position (bad_checksum (here objects position)) (not (any (entered_as h.id position) es)) ++ lines_from objects (position + (20 + h.size))
  lines-on objects position h w d =
      let o = here objects position in
      lines_step objects position (header-begins objects position h w)
      ∙ ap (λ (xs : List Fault). xs ++ lines_from objects (position + (20 + o.size))) (object-whole o (whole-passes objects position h w d))
      ∙ ap₂ (λ (n i : ℕ). object_lines slot n (bad_checksum o) (not (any (entered_as i n) es)) ++ lines_from objects (position + (20 + o.size))) (position-is objects position) (sym (header-id objects position h w))
      ∙ ap (λ (n : ℕ). object_lines slot position (bad_checksum o) (not (any (entered_as h.id position) es)) ++ lines_from objects (position + (20 + n))) (sym (header-size objects position h w))

-- ---- entries
-- the walk of a whole file
pub walked_start : (f : File) → walked_from f.objects 0 ≡ walked f
unfolding walked_from walked
walked_start f = ap (keep (λ (o : Stored). not (passes o))) (objects-start f.objects)

-- a file's lines: its objects', then its entries'
pub file-lines : (slot : ℕ) (f : File) → each (object_faults slot f.entries) (objects_in f.objects) ++ each (entry_faults slot (walked_from f.objects 0)) f.entries ≡ file_faults slot f
unfolding file_faults
file-lines slot f = ap (λ (os : List Stored). each (object_faults slot f.entries) (objects_in f.objects) ++ each (entry_faults slot os) f.entries) (walked_start f)

-- an entry's line
pub entry-line : (slot : ℕ) (objects : List ℕ) (e : Entry) → entry_faults slot (walked_from objects 0) e ≡ line_if (unmet objects e) (line slot OtherId (Object (position_of e.location)))
unfolding entry_faults
entry-line slot objects e = refl

-- it stands at another position
other-position : (e : Entry) (o : Stored) → (position_of e.location ≡ o.position → ⊥) → entered o e ≡ false
other-position e o h = rw (ne_eqb (position_of e.location) o.position h) (go (eqb e.id o.id && not (delete_of e.location)))
  where
    go : (t : Bool) → (t && false) ≡ false
    go true = refl
    go false = refl

all_keep : {A : Type 0} (P : A → Type 0) (f : A → Bool) (xs : List A) → All P xs → All P (keep f xs)
unfolding keep
all_keep P f [] a = tt
all_keep P f (x ∷ xs) a = go (f x) (all_keep P f xs a.1)
  where
    go : (t : Bool) → All P (keep f xs) → All P (pick t (x ∷ keep f xs) (keep f xs))
    go true ih = (a.0, ih)
    go false ih = ih

-- positions rise
objects-rise : (k position : ℕ) (bytes : List ℕ) → All (λ (o : Stored). position ≤ o.position) (objects_from k position bytes)
unfolding objects_from
objects-rise zero position bytes = tt
objects-rise (suc k) position [] = tt
objects-rise (suc k) position (b ∷ bs) =
    let n = 20 + (stored_at position (b ∷ bs)).size in (
      omega (arith, stored-position position (b ∷ bs)),
      all_map (λ (o : Stored). position + n ≤ o.position) (λ (o : Stored). position ≤ o.position) (objects_from k (position + n) (drop n (b ∷ bs))) (λ o h. omega arith)
          (objects-rise k (position + n) (drop n (b ∷ bs))),
    )

module _ (objects : List ℕ) (position : ℕ) where
  -- what stands before is not met behind
  pub none-behind : (e : Entry) → position_of e.location < position → meets_one e (walked_from objects position) ≡ false
  unfolding walked_from objects_at
  none-behind e h =
      let os = objects_from (length objects) position (drop position objects) in
      let whole : Stored → Bool = λ o. not (passes o) in
      any-clear (λ (o : Stored). entered o e) (keep whole os)
      (all_map (λ (o : Stored). position ≤ o.position) (λ (o : Stored). entered o e ≡ false) (keep whole os) (λ o k. other-position e o (λ q. omega arith))
      (all_keep (λ (o : Stored). position ≤ o.position) whole os (objects-rise (length objects) position (drop position objects))))

  -- no bytes are left
  pub walked_end : length objects ≤ position → walked_from objects position ≡ []
  unfolding walked_from keep
  walked_end h = ap (keep (λ (o : Stored). not (passes o))) (objects-end objects position h)

  walked_step : position < length objects
      → walked_from objects position
      ≡ pick (not (passes (here objects position))) (here objects position ∷ walked_from objects (position + (20 + (here objects position).size)))
      (walked_from objects (position + (20 + (here objects position).size)))
  unfolding walked_from keep
  walked_step h = ap (keep (λ (o : Stored). not (passes o))) (objects-next objects position h)

-- one that passes T is not walked, and is the last
pub walked-cut : (objects : List ℕ) (position : ℕ) → position < length objects → passes (here objects position) ≡ true → walked_from objects position ≡ []
walked-cut objects position begins p =
    walked_step objects position begins
    ∙ ap (λ (t : Bool). pick (not t) (here objects position ∷ walked_from objects (position + (20 + (here objects position).size))) (walked_from objects (position + (20 + (here objects position).size)))) p
    ∙ walked_end objects (position + (20 + (here objects position).size)) (past_end objects position p)

module _ (objects : List ℕ) (position : ℕ) (h : Header) (w : Walked objects position h) (d : 20 + h.size ≤ h.room) where
  -- a walked object, and those behind it
  walked_on : walked_from objects position ≡ here objects position ∷ walked_from objects (position + (20 + h.size))
  walked_on =
      let o = here objects position in
      walked_step objects position (header-begins objects position h w)
      ∙ ap (λ (t : Bool). pick (not t) (o ∷ walked_from objects (position + (20 + o.size))) (walked_from objects (position + (20 + o.size)))) (whole-passes objects position h w d)
      ∙ ap (λ (n : ℕ). o ∷ walked_from objects (position + (20 + n))) (sym (header-size objects position h w))

  meets-step : (e : Entry) → meets_one e (walked_from objects position) ≡ (entered (here objects position) e || meets_one e (walked_from objects (position + (20 + h.size))))
  unfolding any
  meets-step e = ap (meets_one e) walked_on

  -- an entry at another position is met behind it, or not at all
  pub meets-past : (e : Entry) → (position_of e.location ≡ position → ⊥) → meets_one e (walked_from objects position) ≡ meets_one e (walked_from objects (position + (20 + h.size)))
  meets-past e apart =
      let other = other-position e (here objects position) (λ q. apart (q ∙ position-is objects position)) in
      meets-step e ∙ ap (λ (t : Bool). t || meets_one e (walked_from objects (position + (20 + h.size)))) other

  -- an object entry at its position meets it exactly if the id is the same
  pub meets-here : (e : Entry) → delete_of e.location ≡ false → position_of e.location ≡ position → meets_one e (walked_from objects position) ≡ eqb e.id h.id
  meets-here e object at =
      let o = here objects position in
      let place : eqb (position_of e.location) o.position ≡ true = eq-eqb (position_of e.location) o.position (at ∙ sym (position-is objects position)) in
      let behind : meets_one e (walked_from objects (position + (20 + h.size))) ≡ false = none-behind objects (position + (20 + h.size)) e (omega (arith, at)) in
      meets-step e ∙ rw (behind, object, place) (only (eqb e.id o.id)) ∙ ap (eqb e.id) (sym (header-id objects position h w))
    where
      only : (t : Bool) → ((t && true && true) || false) ≡ t
      only true = refl
      only false = refl

-- ---- where the walk went for an entry
module _ (objects : List ℕ) (e : Entry) (at : ℕ) (g : Gone objects (position_of e.location) at) where
  -- the walk ended there
  pub gone-ended : walked_from objects at ≡ [] → meets_one e (walked_from objects 0) ≡ false
  unfolding any
  gone-ended n = sym (g.same e refl) ∙ ap (meets_one e) n

  -- it is not where the entry stands
  pub gone-elsewhere : (position_of e.location ≡ at → ⊥) → meets_one e (walked_from objects 0) ≡ false
  gone-elsewhere apart = go (either_way at (position_of e.location))
    where
      go : (at < position_of e.location) ⊎ (position_of e.location ≤ at) → meets_one e (walked_from objects 0) ≡ false
      go (inl h) = gone-ended (g.ended h)
      go (inr h) = sym (g.same e refl) ∙ none-behind objects at e (omega (arith, h, apart))

  -- an object stands there
  pub gone-here : (h : Header) → Walked objects at h → 20 + h.size ≤ h.room → delete_of e.location ≡ false → position_of e.location ≡ at
      → meets_one e (walked_from objects 0) ≡ eqb e.id h.id
  gone-here h w d object place = sym (g.same e refl) ∙ meets-here objects at h w d e object place

-- from the front
pub start-front : (objects : List ℕ) → Start objects 0
start-front objects e h = refl

-- one object on
pub start-next : (objects : List ℕ) (position : ℕ) (h : Header) → Walked objects position h → 20 + h.size ≤ h.room → Start objects position → Start objects (position + (20 + h.size))
start-next objects position h w d s e low =
    sym (meets-past objects position h w d e (λ q. omega (arith, q, low))) ∙ s e (omega (arith, low))

pub same_next : (objects : List ℕ) (at position : ℕ) (h : Header) → Walked objects at h → 20 + h.size ≤ h.room → at < position → Same objects position at → Same objects position (at + (20 + h.size))
same_next objects at position h w d low s e place =
    sym (meets-past objects at h w d e (λ q. omega (arith, q, place, low))) ∙ s e place

-- a delete is not looked for
pub unmet-delete : (objects : List ℕ) (e : Entry) → delete_of e.location ≡ true → unmet objects e ≡ false
unmet-delete objects e d = rw d refl

pub unmet-object : (objects : List ℕ) (e : Entry) → delete_of e.location ≡ false → unmet objects e ≡ not (meets_one e (walked_from objects 0))
unmet-object objects e d = rw d refl
