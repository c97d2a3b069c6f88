-- A file without a line: its objects and entries, test by test.
use Rattle.std.specs.Prelude.{◌≡◌, refl, ◌⊎◌, ◌<◌, ◌&&◌, ◌∷◌, ◌++◌, ◌+◌, ◌%◌}
use Rattle.std.proofs.Common.{sym, ap, ◌∙◌, subst, true≢false, inl, inr, ⊎_elim, arith, ltb-false, le-ltb, leb-false, eqb-true, eq-eqb, ne_eqb}
use Rattle.std.proofs.lemmas.Bool.{lt-leb, eqb-false, not-true, not-false}
use Rattle.rules.specs.Base.{Bool, true, false, not, List, [], ℕ, zero, suc, get_or, leb, eqb, pick, any, each}
use Rattle.rules.specs.BaseLaws.{All}
use Rattle.rules.proofs.BaseLaws.{all_map, all_append, all-at, or-false, or-clear, or-true, or-holds, and-true, and-holds, any_false, any-clear, same?}
use Rattle.disk_location.specs.Locations.{position_of, delete_of, raw_of}
use Rattle.disk_location.proofs.LocationLaws.{position-raw, delete-raw}
use Rattle.rules.specs.Object.{Stored, bad_checksum, objects_in}
use Rattle.rules.specs.SlotFile.{File}
use Rattle.rules.specs.TableLaws.{Has}
use Rattle.rules.specs.Reopen.{not_rising}
use Rattle.theory.specs.Types.{Entry, Checksum, CutShort, OtherId}
use Rattle.theory.proofs.Lists.{all-each}
use Rattle.theory.specs.Files.{falls}
use Rattle.theory.specs.Sound.{StartsAt}
use Rattle.check_theory.specs.Types.{Fault, Object}
use Rattle.faults.specs.Faults.{line, line_if, passes, walked, entered, object_faults, entry_faults, file_faults}
use Rattle.check_theory.proofs.Lists.{all_first, all_rest, each_all, by_place, keep_all}
use Rattle.check_theory.specs.Objects.{NoLine, Faultless, FaultlessFile, entry_at, RepeatsRise}

-- ---- entries by their ids and locations
-- of all, so of one that is there
pub all-has : (P : Entry → Type 0) (es : List Entry) → All P es → (x l : ℕ) → Has es x l → P (record { id = x; location = l })
all-has P [] a x l h = absurd h
all-has P (e ∷ es) a x l (inl (p, q)) =
    let same : ◌≡◌ {A = Entry} e (record { id = x; location = l }) = λ i. record { id = p i; location = q i } in
    subst P same a.0
all-has P (e ∷ es) a x l (inr h) = all-has P es a.1 x l h

-- of each that is there, so of all
pub has_all : (P : Entry → Type 0) (es : List Entry) → ((x l : ℕ) → Has es x l → P (record { id = x; location = l })) → All P es
has_all P [] h = tt
has_all P (e ∷ es) h = (h e.id e.location (inl (refl, refl)), has_all P es (λ x l a. h x l (inr a)))

-- ---- "object entry of its id at that position"
entered-parts : (o : Stored) (e : Entry) → entered o e ≡ true → (e.id ≡ o.id) × (delete_of e.location ≡ false) × (position_of e.location ≡ o.position)
entered-parts o e h =
    let w = and-true (eqb e.id o.id && not (delete_of e.location)) (eqb (position_of e.location) o.position) h in
    let v = and-true (eqb e.id o.id) (not (delete_of e.location)) w.0 in
    (eqb-true _ _ v.0, not-true (delete_of e.location) v.1, eqb-true _ _ w.1)

parts-entered : (o : Stored) (e : Entry) → e.id ≡ o.id → delete_of e.location ≡ false → position_of e.location ≡ o.position → entered o e ≡ true
parts-entered o e a b c =
    and-holds (eqb e.id o.id && not (delete_of e.location)) (eqb (position_of e.location) o.position)
    (and-holds (eqb e.id o.id) (not (delete_of e.location)) (eq-eqb _ _ a) (ap not b)) (eq-eqb _ _ c)

-- an object's raw location has its position and no delete mark
raw-is : (l p : ℕ) → delete_of l ≡ false → position_of l ≡ p → l ≡ raw_of p false
raw-is l p d q = let n = eqb-false (l % 2) 1 d in omega (arith, n)

-- some entry is the object's
pub entered-has : (o : Stored) (es : List Entry) → any (entered o) es ≡ true → Has es o.id (raw_of o.position false)
unfolding any
entered-has o [] h = absurd (true≢false (sym h))
entered-has o (e ∷ es) h =
    ⊎_elim (λ a. let w = entered-parts o e a in inl (w.0, raw-is e.location o.position w.1 w.2)) (λ a. inr (entered-has o es a))
    (or-true (entered o e) (any (entered o) es) h)

-- and back
pub has-entered : (o : Stored) (es : List Entry) → Has es o.id (raw_of o.position false) → any (entered o) es ≡ true
unfolding any
has-entered o [] h = absurd h
has-entered o (e ∷ es) (inl (a, b)) =
    or-holds (entered o e) (any (entered o) es)
    (inl (parts-entered o e a (ap delete_of b ∙ delete-raw o.position false) (ap position_of b ∙ position-raw o.position false)))
has-entered o (e ∷ es) (inr h) = or-holds (entered o e) (any (entered o) es) (inr (has-entered o es h))

-- some object is the entry's
pub entered-starts : (os : List Stored) (e : Entry) → any (λ (o : Stored). entered o e) os ≡ true → StartsAt os e.id (position_of e.location)
unfolding any
entered-starts [] e h = absurd (true≢false (sym h))
entered-starts (o ∷ os) e h =
    ⊎_elim (λ a. let w = entered-parts o e a in inl (sym w.0, sym w.2)) (λ a. inr (entered-starts os e a))
    (or-true (entered o e) (any (λ (c : Stored). entered c e) os) h)

-- and back
pub starts-entered : (os : List Stored) (e : Entry) → delete_of e.location ≡ false → StartsAt os e.id (position_of e.location) → any (λ (o : Stored). entered o e) os ≡ true
unfolding any
starts-entered [] e d h = absurd h
starts-entered (o ∷ os) e d (inl (a, b)) = or-holds (entered o e) (any (λ (c : Stored). entered c e) os) (inl (parts-entered o e (sym a) d (sym b)))
starts-entered (o ∷ os) e d (inr h) = or-holds (entered o e) (any (λ (c : Stored). entered c e) os) (inr (starts-entered os e d h))

tests-none : (p c t : Bool) (l m n : Fault) → All NoLine (pick p (l ∷ []) (line_if c m ++ line_if (not t) n)) → (p ≡ false) × (c ≡ false) × (t ≡ true)
tests-none true c t l m n a = absurd a.0
tests-none false true t l m n a = absurd a.0
tests-none false false true l m n a = (refl, refl, refl)
tests-none false false false l m n a = absurd a.0

none-tests : (p c t : Bool) (l m n : Fault) → p ≡ false → c ≡ false → t ≡ true → All NoLine (pick p (l ∷ []) (line_if c m ++ line_if (not t) n))
none-tests true c t l m n e f g = absurd (true≢false e)
none-tests false true t l m n e f g = absurd (true≢false f)
none-tests false false true l m n e f g = tt
none-tests false false false l m n e f g = absurd (true≢false (sym g))

object-faultless : (slot : ℕ) (es : List Entry) (o : Stored) → All NoLine (object_faults slot es o) → Faultless es o
unfolding object_faults bad_checksum
object-faultless slot es o a =
    let at = Object o.position in
    let w = tests-none (passes o) (bad_checksum o) (any (entered o) es) (line slot CutShort at) (line slot Checksum at) (line slot OtherId at) a in
    record { within = ltb-false _ _ w.0; checksum = eqb-true _ _ (not-false _ w.1); entry = entered-has o es w.2 }

faultless-object : (slot : ℕ) (es : List Entry) (o : Stored) → Faultless es o → All NoLine (object_faults slot es o)
unfolding object_faults bad_checksum
faultless-object slot es o k =
    let at = Object o.position in
    none-tests (passes o) (bad_checksum o) (any (entered o) es) (line slot CutShort at) (line slot Checksum at) (line slot OtherId at)
    (le-ltb o.room (20 + o.size) k.within) (ap not (eq-eqb _ _ k.checksum)) (has-entered o es k.entry)

-- ---- an entry's
entry-none : (d t : Bool) (l : Fault) → All NoLine (line_if (not d && not t) l) → d ≡ false → t ≡ true
entry-none true t l a e = absurd (true≢false e)
entry-none false true l a e = refl
entry-none false false l a e = absurd a.0

none-entry : (d t : Bool) (l : Fault) → (d ≡ false → t ≡ true) → All NoLine (line_if (not d && not t) l)
none-entry true t l h = tt
none-entry false true l h = tt
none-entry false false l h = absurd (true≢false (sym (h refl)))

-- ---- a file
-- all objects are walked where none passes T
walked_all : (f : File) → All (Faultless f.entries) (objects_in f.objects) → walked f ≡ objects_in f.objects
unfolding walked
walked_all f a =
    keep_all (λ (o : Stored). not (passes o)) (objects_in f.objects)
    (all_map (Faultless f.entries) (λ (o : Stored). not (passes o) ≡ true) (objects_in f.objects) (λ o k. ap not (le-ltb o.room (20 + o.size) k.within)) a)

-- LAW: a file without a line
pub file-faultless : (slot : ℕ) (f : File) → All NoLine (file_faults slot f) → FaultlessFile f
unfolding file_faults entry_faults
file-faultless slot f a =
    let os = objects_in f.objects in
    let objects : All (Faultless f.entries) os
    = all_map (λ (o : Stored). All NoLine (object_faults slot f.entries o)) (Faultless f.entries) os (object-faultless slot f.entries)
    (each_all NoLine (object_faults slot f.entries) os (all_first NoLine (each (object_faults slot f.entries) os) (each (entry_faults slot (walked f)) f.entries) a)) in
    let entries : All (λ (e : Entry). All NoLine (entry_faults slot (walked f) e)) f.entries
    = each_all NoLine (entry_faults slot (walked f)) f.entries (all_rest NoLine (each (object_faults slot f.entries) os) (each (entry_faults slot (walked f)) f.entries) a) in
    record {
      objects = objects;
      entries = λ x l h d.
          let e : Entry = record { id = x; location = l } in
          subst (λ (ss : List Stored). StartsAt ss x (position_of l)) (walked_all f objects)
          (entered-starts (walked f) e
          (entry-none (delete_of l) (any (λ (o : Stored). entered o e) (walked f)) (line slot OtherId (Object (position_of l)))
          (all-has (λ (c : Entry). All NoLine (entry_faults slot (walked f) c)) f.entries entries x l h) d));
    }

-- LAW: and back
pub faultless-file : (slot : ℕ) (f : File) → FaultlessFile f → All NoLine (file_faults slot f)
unfolding file_faults entry_faults
faultless-file slot f t =
    let os = objects_in f.objects in
    all_append NoLine (each (object_faults slot f.entries) os) (each (entry_faults slot (walked f)) f.entries)
    (all-each NoLine (object_faults slot f.entries) os (all_map (Faultless f.entries) (λ (o : Stored). All NoLine (object_faults slot f.entries o)) os (faultless-object slot f.entries) t.objects))
    (all-each NoLine (entry_faults slot (walked f)) f.entries
    (has_all (λ (e : Entry). All NoLine (entry_faults slot (walked f) e)) f.entries
    (λ x l h. none-entry (delete_of l) (any (λ (o : Stored). entered o (record { id = x; location = l })) (walked f)) (line slot OtherId (Object (position_of l)))
    (λ d. starts-entered (walked f) (record { id = x; location = l }) d (subst (λ (ss : List Stored). StartsAt ss x (position_of l)) (sym (walked_all f t.objects)) (t.entries x l h d))))))

-- LAW: 15 does not refuse them
pub clear-rise : (es : List Entry) → not_rising es ≡ false → RepeatsRise es
unfolding not_rising
clear-rise [] h i j a b e = absurd (let z : j < 0 = b in omega arith)
clear-rise (d ∷ es) h i zero a b e = absurd (let z : i < 0 = a in omega arith)
clear-rise (d ∷ es) h zero (suc j) a b e =
    let w = any_false (falls d) es (or-false (any (falls d) es) (not_rising es) h).0 in
    let q : (eqb (entry_at es j).id d.id && leb (position_of (entry_at es j).location) (position_of d.location)) ≡ false
    = all-at (λ (c : Entry). falls d c ≡ false) es j (record { id = 0; location = 0 }) w (omega arith) in
    leb-false _ _ (rw (eq-eqb (entry_at es j).id d.id (sym e)) at q)
clear-rise (d ∷ es) h (suc i) (suc j) a b e = clear-rise es (or-false (any (falls d) es) (not_rising es) h).1 i j (omega arith) (omega arith) e

-- LAW: and back
pub rise-clear : (es : List Entry) → RepeatsRise es → not_rising es ≡ false
unfolding not_rising
rise-clear [] r = refl
rise-clear (d ∷ es) r =
    or-clear (any (falls d) es) (not_rising es)
    (any-clear (falls d) es (by_place (λ (c : Entry). falls d c ≡ false) es (record { id = 0; location = 0 }) (λ j l. later (get_or es j (record { id = 0; location = 0 })) (r 0 (suc j) (omega arith) (omega arith)))))
    (rise-clear es (λ i j a b e. r (suc i) (suc j) (omega arith) (omega arith) e))
  where
    later : (c : Entry) → (d.id ≡ c.id → position_of d.location < position_of c.location) → falls d c ≡ false
    later c h = go (same? c.id d.id)
      where
        go : (c.id ≡ d.id) ⊎ (c.id ≡ d.id → ⊥) → (eqb c.id d.id && leb (position_of c.location) (position_of d.location)) ≡ false
        go (inl e) = rw (eq-eqb c.id d.id e) (lt-leb _ _ (h (sym e)))
        go (inr n) = rw (ne_eqb c.id d.id n) refl
