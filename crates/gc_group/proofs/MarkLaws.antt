-- The marked entries are what the group found.
use Rattle.std.specs.Prelude.{◌≡◌, ◌⊎◌, ◌≤◌, ◌<◌, ◌||◌, ◌∷◌, ◌++◌, ◌+◌, ◌-◌, ◌^◌, None, Some}
use Rattle.std.proofs.Math.Path.{refl, ap}
use Rattle.std.proofs.Common.{sym, ap₂, ◌∙◌, subst, inl, inr, le_of_suc-le-suc, not-suc-le-zero, arith, eq-eqb, ne_eqb}
use Rattle.std.proofs.lemmas.List.{length-replicate}
use Rattle.rules.specs.Base.{Bool, true, false, List, [], map, ℕ, zero, suc, length, get_or, drop, set, replicate, eqb, pick, any, keep, each}
use Rattle.rules.specs.BaseLaws.{All}
use Rattle.rules.proofs.BaseLaws.{all_map, same?, all_append, any_append}
use Rattle.rules.specs.declared.Entry.{Entry}
use Rattle.rules.specs.declared.Label.{Label}
use Rattle.rules.specs.Types.{Held}
use Rattle.disk_location.specs.Answers.{Located}
use Rattle.disk_location.specs.Locations.{position_of, delete_of, raw_of, told, located_at}
use Rattle.disk_location.proofs.LocationLaws.{delete-raw, located-none, located-at}
use Rattle.rules.specs.Object.{Stored, stored_at, objects_in}
use Rattle.stored_object.specs.Objects.{objects_at, objects-start, objects-next, objects-end}
use Rattle.numbers.specs.GroupLaws.{either_way}
use Rattle.rules.specs.Trailer.{absolute}
use Rattle.rules.specs.SlotFile.{object_part, trailer_entries}
use Rattle.rules.specs.Table.{lookup, load, mapped_to, current_at, no_entry}
use Rattle.rules.specs.Ops.{Content, put, delete, Op, settled}
use Rattle.rules.specs.OpsLaws.{RisingOps, ops-end, ops-rise}
use Rattle.rules.proofs.OpsLaws.{ops-lower}
use Rattle.rules.specs.SettledLaws.{Last, silent, last, or_earlier, said_by, last_on}
use Rattle.rules.proofs.SettledLaws.{settled-rising, settled-last, last-below, ops-ext, or-silent, last-append, said-other, or_assoc}
use Rattle.rules.specs.Maintenance.{objects_found, deletes_of, deletes_found, found}
use Rattle.rules.specs.TableLaws.{Rising, rise}
use Rattle.rules.proofs.TableLaws.{lookup-here, lookup-next, current-mapped, current-is}
use Rattle.rules.specs.World.{World, mappings}
use Rattle.location_table.specs.EntryLaws.{rising-lt}
use Rattle.gc_group.specs.Source.{Source, source_in, file_at, bytes_at}
use Rattle.gc_group.proofs.Checks.{each_keep}
use Rattle.gc_group.specs.Marks.{found_file, found_at, ids_of, among, current, object_id, delete_id, marked, marks_from, marks_of, content_at, marked_ops}
use Rattle.gc_group.specs.MarkLaws.{Stands, AtPosition, word_of, mark_at}

-- ---- every element, of lists that are made from lists
module _ {A : Type 0} where
  all_keep : (P : A → Type 0) (f : A → Bool) (xs : List A) → All P xs → All (λ (x : A). P x × (f x ≡ true)) (keep f xs)
  unfolding keep
  all_keep P f [] a = tt
  all_keep P f (x ∷ xs) a = go (f x) refl (all_keep P f xs a.1)
    where
      go : (t : Bool) → f x ≡ t → All (λ (y : A). P y × (f y ≡ true)) (keep f xs) → All (λ (y : A). P y × (f y ≡ true)) (pick t (x ∷ keep f xs) (keep f xs))
      go true e ih = ((a.0, e), ih)
      go false e ih = ih

  all_made : {B : Type 0} (P : B → Type 0) (g : A → B) (xs : List A) → All (λ (x : A). P (g x)) xs → All P (map g xs)
  all_made P g [] a = tt
  all_made P g (x ∷ xs) a = (a.0, all_made P g xs a.1)

all_true : {A : Type 0} (xs : List A) → All (λ (x : A). Unit {0}) xs
all_true [] = tt
all_true (x ∷ xs) = (tt, all_true xs)

-- ---- what holds of all that is found in a slot: of its objects, and of its deletes
module _ (s : Source) (k : ℕ) (P : Op → Type 0) (Q : Stored → Type 0) where
  abbrev table : List Entry
  table = s.table

  abbrev r : Label
  r = file_at s k

  abbrev slot : List ℕ
  slot = bytes_at s k

  abbrev is_current : Stored → Bool
  is_current o = current_at (load table o.id) (raw_of (r.lsn + o.position) false)

  abbrev moved : Stored → Op
  moved o = record { id = o.id; content = put o.body }

  abbrev is_delete : Entry → Bool
  is_delete e = delete_of e.location

  abbrev is_held : Entry → Bool
  is_held e = current_at (load table e.id) (absolute r.lsn e).location

  abbrev deleted : Entry → Op
  deleted e = record { id = e.id; content = delete }

  pub found-each : All Q (objects_in (object_part r slot)) → ((o : Stored) → Q o → is_current o ≡ true → P (moved o))
      → ((e : Entry) → is_delete e ≡ true → is_held e ≡ true → P (deleted e)) → All P (found_at s k)
  unfolding objects_found deletes_found deletes_of
  found-each all object gone =
      all_append P (objects_found table r slot) (deletes_found table r slot)
      (all_made P moved (keep is_current (objects_in (object_part r slot)))
      (all_map (λ (o : Stored). Q o × (is_current o ≡ true)) (λ (o : Stored). P (moved o)) (keep is_current (objects_in (object_part r slot))) (λ o w. object o w.0 w.1)
      (all_keep Q is_current (objects_in (object_part r slot)) all)))
      (all_made P deleted (keep is_held (keep is_delete (trailer_entries r slot)))
      (all_map (λ (e : Entry). (Unit {0} × (is_delete e ≡ true)) × (is_held e ≡ true)) (λ (e : Entry). P (deleted e)) (keep is_held (keep is_delete (trailer_entries r slot)))
      (λ e w. gone e w.0.1 w.1)
      (all_keep (λ (e : Entry). Unit {0} × (is_delete e ≡ true)) is_held (keep is_delete (trailer_entries r slot))
      (all_keep (λ (e : Entry). Unit {0}) is_delete (trailer_entries r slot) (all_true (trailer_entries r slot))))))

objects-from : (n position : ℕ) (objects : List ℕ) → length objects ≤ position + n → All (AtPosition objects) (objects_at objects position)
unfolding stored_at
objects-from zero position objects h = rw (objects-end objects position (omega arith)) tt
objects-from (suc n) position objects h = go (either_way position (length objects)) (λ next. objects-from n next objects)
  where
    go : (position < length objects) ⊎ (length objects ≤ position) → ((next : ℕ) → length objects ≤ next + n → All (AtPosition objects) (objects_at objects next))
        → All (AtPosition objects) (objects_at objects position)
    go (inr past) ih = rw (objects-end objects position past) tt
    go (inl inside) ih =
        subst (All (AtPosition objects)) (sym (objects-next objects position inside))
        (refl, ih (position + (20 + (stored_at position (drop position objects)).size)) (omega arith))

pub objects-stand : (objects : List ℕ) → All (AtPosition objects) (objects_in objects)
objects-stand objects = subst (All (AtPosition objects)) (objects-start objects) (objects-from (length objects) 0 objects (omega arith))

-- "Objects .. at their id's current location"
found-object : (s : Source) (k : ℕ) (o : Stored) → AtPosition (object_part (file_at s k) (bytes_at s k)) o
    → current_at (load s.table o.id) (raw_of ((file_at s k).lsn + o.position) false) ≡ true → Stands s k (record { id = o.id; content = put o.body })
unfolding content_at
found-object s k o at e =
    let lsn = (file_at s k).lsn in
    let part = object_part (file_at s k) (bytes_at s k) in
    let p : position_of (raw_of (lsn + o.position) false) - lsn ≡ o.position = omega arith in
    record {
      location = raw_of (lsn + o.position) false;
      mapped = current-is (lookup s.table o.id) (raw_of (lsn + o.position) false) e;
      content = rw (delete-raw (lsn + o.position) false, p) (ap (λ (x : Stored). put x.body) at);
    }

-- ".. and deletes at their id's current location"
found-delete : (s : Source) (k : ℕ) (e : Entry) → delete_of e.location ≡ true
    → current_at (load s.table e.id) (absolute (file_at s k).lsn e).location ≡ true → Stands s k (record { id = e.id; content = delete })
unfolding content_at
found-delete s k e d h =
    let location = raw_of (position_of e.location + (file_at s k).lsn) (delete_of e.location) in
    record {
      location = location;
      mapped = current-is (lookup s.table e.id) location h;
      content = rw (delete-raw (position_of e.location + (file_at s k).lsn) (delete_of e.location), d) refl;
    }

-- so all that is found stands
pub found-stands : (s : Source) (k : ℕ) → All (Stands s k) (found_at s k)
found-stands s k = found-each s k (Stands s k) (AtPosition (object_part (file_at s k) (bytes_at s k))) (objects-stand (object_part (file_at s k) (bytes_at s k))) (found-object s k) (found-delete s k)

word-zero : (s : Source) (h : Held) → word_of s h 0 ≡ silent
word-zero s (Some l) = refl
word-zero s None = refl

word_some : (s : Source) (l k : ℕ) → word_of s (Some l) (suc k) ≡ last (content_at s l k)
word_some s l k = let e : suc k - 1 ≡ k = omega arith in rw (ne_eqb (suc k) 0 (λ z. omega arith), e) refl

said_here : (o : Op) (x : ℕ) → o.id ≡ x → said_by o x ≡ last o.content
said_here o x e = rw (eq-eqb o.id x e) refl

among-here : (x n : ℕ) (ns : List ℕ) → n ≡ x → among x (n ∷ ns) ≡ true
unfolding any
among-here x n ns e = rw (eq-eqb n x e) refl

pub among_next : (x n : ℕ) (ns : List ℕ) → (n ≡ x → ⊥) → among x (n ∷ ns) ≡ among x ns
unfolding any
among_next x n ns e = rw (ne_eqb n x e) refl

-- operations that stand in slot k say what a mark of slot k says
stands-last : (s : Source) (k : ℕ) (ops : List Op) → All (Stands s k) ops → (x : ℕ) → last_on ops x ≡ pick (among x (ids_of ops)) (word_of s (lookup s.table x) (suc k)) silent
unfolding last_on any
stands-last s k [] a x = refl
stands-last s k (o ∷ os) a x = go (stands-last s k os a.1 x) (same? o.id x)
  where
    word : Last
    word = word_of s (lookup s.table x) (suc k)

    same : (t : Bool) (l : Last) (c : Content) → l ≡ last c → or_earlier (pick t l silent) (last c) ≡ l
    same true l c e = rw e refl
    same false l c e = sym e

    go : last_on os x ≡ pick (among x (ids_of os)) word silent → (o.id ≡ x) ⊎ (o.id ≡ x → ⊥)
        → or_earlier (last_on os x) (said_by o x) ≡ pick (among x (o.id ∷ ids_of os)) word silent
    go ih (inl e) =
        let says : word ≡ last o.content =
        ap (λ (h : Held). word_of s h (suc k)) (ap (lookup s.table) (sym e) ∙ a.0.mapped) ∙ word_some s a.0.location k ∙ ap last (sym a.0.content) in
        ap₂ or_earlier ih (said_here o x e) ∙ same (among x (ids_of os)) word o.content says ∙ sym (ap (λ (t : Bool). pick t word silent) (among-here x o.id (ids_of os) e))
    go ih (inr e) =
        ap₂ or_earlier ih (said-other o x e) ∙ or-silent _ ∙ sym (ap (λ (t : Bool). pick t word silent) (among_next x o.id (ids_of os) e))

mark-here : (e : Entry) (es : List Entry) (m : ℕ) (ms : List ℕ) (x : ℕ) → e.id ≡ x → mark_at (e ∷ es) (m ∷ ms) x ≡ m
unfolding mark_at
mark-here e es m ms x q = rw (eq-eqb e.id x q) refl

mark-next : (e : Entry) (es : List Entry) (m : ℕ) (ms : List ℕ) (x : ℕ) → (e.id ≡ x → ⊥) → mark_at (e ∷ es) (m ∷ ms) x ≡ mark_at es ms x
unfolding mark_at
mark-next e es m ms x q = rw (ne_eqb e.id x q) refl

mark-blank : (es : List Entry) (n x : ℕ) → mark_at es (replicate n 0) x ≡ 0
unfolding mark_at
mark-blank [] n x = refl
mark-blank (e ∷ es) zero x = refl
mark-blank (e ∷ es) (suc n) x = go (mark-blank es n x) (same? e.id x)
  where
    go : mark_at es (replicate n 0) x ≡ 0 → (e.id ≡ x) ⊎ (e.id ≡ x → ⊥) → mark_at (e ∷ es) (0 ∷ replicate n 0) x ≡ 0
    go ih (inl q) = mark-here e es 0 (replicate n 0) x q
    go ih (inr q) = mark-next e es 0 (replicate n 0) x q ∙ ih

-- marking changes the marks of its ids
mark-marked : (m : ℕ) (ids : List ℕ) (es : List Entry) (ms : List ℕ) (x l : ℕ) → length es ≤ length ms → lookup es x ≡ Some l
    → mark_at es (marked m ids es ms) x ≡ pick (among x ids) m (mark_at es ms x)
unfolding marked lookup
mark-marked m ids [] ms x l n h = absurd (let z : ◌≡◌ {A = ℕ} 0 1 = cc in omega arith)
mark-marked m ids (e ∷ es) [] x l n h = absurd (not-suc-le-zero n)
mark-marked m ids (e ∷ es) (v ∷ ms) x l n h = go (λ q. mark-marked m ids es ms x l (le_of_suc-le-suc n) q) (same? e.id x)
  where
    go : (lookup es x ≡ Some l → mark_at es (marked m ids es ms) x ≡ pick (among x ids) m (mark_at es ms x)) → (e.id ≡ x) ⊎ (e.id ≡ x → ⊥)
        → mark_at (e ∷ es) (pick (among e.id ids) m v ∷ marked m ids es ms) x ≡ pick (among x ids) m (mark_at (e ∷ es) (v ∷ ms) x)
    go ih (inl q) =
        mark-here e es (pick (among e.id ids) m v) (marked m ids es ms) x q ∙ ap (λ (y : ℕ). pick (among y ids) m v) q
        ∙ ap (λ (n : ℕ). pick (among x ids) m n) (sym (mark-here e es v ms x q))
    go ih (inr q) =
        mark-next e es (pick (among e.id ids) m v) (marked m ids es ms) x q ∙ ih (sym (lookup-next e es x q) ∙ h)
        ∙ ap (λ (n : ℕ). pick (among x ids) m n) (sym (mark-next e es v ms x q))

pub marked-length : (m : ℕ) (ids : List ℕ) (es : List Entry) (ms : List ℕ) → length (marked m ids es ms) ≡ length ms
unfolding marked
marked-length m ids [] ms = refl
marked-length m ids (e ∷ es) [] = refl
marked-length m ids (e ∷ es) (n ∷ ns) = ap suc (marked-length m ids es ns)

word-marked : (s : Source) (k : ℕ) (ids ms : List ℕ) (x : ℕ) → length s.table ≤ length ms
    → word_of s (lookup s.table x) (mark_at s.table (marked (suc k) ids s.table ms) x)
    ≡ or_earlier (pick (among x ids) (word_of s (lookup s.table x) (suc k)) silent) (word_of s (lookup s.table x) (mark_at s.table ms x))
word-marked s k ids ms x n = go (lookup s.table x) refl
  where
    none : (t : Bool) → silent ≡ or_earlier (pick t silent silent) silent
    none true = refl
    none false = refl

    some : (t : Bool) (l m : ℕ) → word_of s (Some l) (pick t (suc k) m) ≡ or_earlier (pick t (word_of s (Some l) (suc k)) silent) (word_of s (Some l) m)
    some true l m = word_some s l k ∙ sym (ap (λ (w : Last). or_earlier w (word_of s (Some l) m)) (word_some s l k))
    some false l m = refl

    go : (h : Held) → lookup s.table x ≡ h
        → word_of s h (mark_at s.table (marked (suc k) ids s.table ms) x) ≡ or_earlier (pick (among x ids) (word_of s h (suc k)) silent) (word_of s h (mark_at s.table ms x))
    go None e = none (among x ids)
    go (Some l) e = ap (word_of s (Some l)) (mark-marked (suc k) ids s.table ms x l n e) ∙ some (among x ids) l (mark_at s.table ms x)

-- slot by slot
word-from : (s : Source) (slots ms : List ℕ) (x : ℕ) → length s.table ≤ length ms
    → word_of s (lookup s.table x) (mark_at s.table (marks_from s slots ms) x) ≡ or_earlier (last_on (each (found_at s) slots) x) (word_of s (lookup s.table x) (mark_at s.table ms x))
unfolding marks_from each last_on
word-from s [] ms x n = refl
word-from s (k ∷ ks) ms x n =
    let held = lookup s.table x in
    let ids = ids_of (found_at s k) in
    let now = word_of s held (mark_at s.table ms x) in
    let later = last_on (each (found_at s) ks) x in
    word-from s ks (marked (suc k) ids s.table ms) x (omega (arith, marked-length (suc k) ids s.table ms))
    ∙ ap (or_earlier later) (word-marked s k ids ms x n ∙ ap (λ (w : Last). or_earlier w now) (sym (stands-last s k (found_at s k) (found-stands s k) x)))
    ∙ or_assoc later (last_on (found_at s k) x) now
    ∙ ap (λ (w : Last). or_earlier w now) (sym (last-append (found_at s k) (each (found_at s) ks) x))

-- ---- the marked entries
-- their ids rise
pub marked-rising : (s : Source) (f : ℕ) (es : List Entry) (ms : List ℕ) → Rising f es → RisingOps f (marked_ops s es ms)
unfolding marked_ops
marked-rising s f [] ms r = ops-end
marked-rising s f (e ∷ es) [] r = ops-end
marked-rising s f (e ∷ es) (m ∷ ms) (rise a r) = go (eqb m 0) (marked-rising s (suc e.id) es ms r)
  where
    go : (t : Bool) → RisingOps (suc e.id) (marked_ops s es ms)
        → RisingOps f (pick t (marked_ops s es ms) (record { id = e.id; content = content_at s e.location (m - 1) } ∷ marked_ops s es ms))
    go true ih = ops-lower (suc e.id) f (marked_ops s es ms) (omega arith) ih
    go false ih = ops-rise a ih

-- and each says what its mark says
marked-last : (s : Source) (f : ℕ) (es : List Entry) (ms : List ℕ) → Rising f es → (x : ℕ) → last_on (marked_ops s es ms) x ≡ word_of s (lookup es x) (mark_at es ms x)
unfolding marked_ops last_on lookup mark_at
marked-last s f [] ms r x = refl
marked-last s f (e ∷ es) [] r x = sym (word-zero s (lookup (e ∷ es) x))
marked-last s f (e ∷ es) (m ∷ ms) (rise a r) x = go (marked-last s (suc e.id) es ms r x) (same? e.id x)
  where
    op : Op
    op = record { id = e.id; content = content_at s e.location (m - 1) }

    here : (t : Bool) → e.id ≡ x → last_on (pick t (marked_ops s es ms) (op ∷ marked_ops s es ms)) x ≡ pick t silent (last (content_at s e.location (m - 1)))
    here true q = last-below (suc e.id) (marked_ops s es ms) (marked-rising s (suc e.id) es ms r) x (omega arith)
    here false q =
        ap₂ or_earlier (last-below (suc e.id) (marked_ops s es ms) (marked-rising s (suc e.id) es ms r) x (omega arith)) (said_here op x q)

    there : (t : Bool) → (e.id ≡ x → ⊥) → last_on (pick t (marked_ops s es ms) (op ∷ marked_ops s es ms)) x ≡ last_on (marked_ops s es ms) x
    there true q = refl
    there false q = ap (or_earlier (last_on (marked_ops s es ms) x)) (said-other op x q) ∙ or-silent (last_on (marked_ops s es ms) x)

    go : last_on (marked_ops s es ms) x ≡ word_of s (lookup es x) (mark_at es ms x) → (e.id ≡ x) ⊎ (e.id ≡ x → ⊥)
        → last_on (marked_ops s (e ∷ es) (m ∷ ms)) x ≡ word_of s (lookup (e ∷ es) x) (mark_at (e ∷ es) (m ∷ ms) x)
    go ih (inl q) = here (eqb m 0) q ∙ sym (ap₂ (word_of s) (lookup-here e es x q) (mark-here e es m ms x q))
    go ih (inr q) = there (eqb m 0) q ∙ ih ∙ sym (ap₂ (word_of s) (lookup-next e es x q) (mark-next e es m ms x q))

-- ".. are rewritten, ascending by id (one found twice only once, as last found)": the marked entries in table order are what the group found
pub marked-settled : (s : Source) (slots : List ℕ) (n : ℕ) → Rising 0 s.table → length s.table ≤ n → marked_ops s s.table (marks_of s n slots) ≡ settled (each (found_at s) slots)
unfolding marks_of
marked-settled s slots n r h = ops-ext 0 0 _ _ (marked-rising s 0 s.table (marks_from s slots (replicate n 0)) r) (settled-rising (each (found_at s) slots)) same
  where
    same : (x : ℕ) → last_on (marked_ops s s.table (marks_from s slots (replicate n 0))) x ≡ last_on (settled (each (found_at s) slots)) x
    same x =
        marked-last s 0 s.table (marks_from s slots (replicate n 0)) r x
        ∙ word-from s slots (replicate n 0) x (omega (arith, length-replicate {A = ℕ} n 0))
        ∙ ap (or_earlier (last_on (each (found_at s) slots) x)) (ap (word_of s (lookup s.table x)) (mark-blank s.table n x) ∙ word-zero s (lookup s.table x))
        ∙ or-silent (last_on (each (found_at s) slots) x)
        ∙ sym (settled-last (each (found_at s) slots) x)

-- of a call's world
pub marked-found : (w : World) (slots : List ℕ) (n : ℕ) → Rising 0 (mappings w) → length (mappings w) ≤ n → marked_ops (source_in w) (mappings w) (marks_of (source_in w) n slots) ≡ found w slots
unfolding found
marked-found w slots n r h = marked-settled (source_in w) slots n r h

-- ---- how many
-- marks behind the table are not counted, and none is set there
marks-past : (m : ℕ) (ids : List ℕ) (es : List Entry) (ms : List ℕ) → drop (length es) (marked m ids es ms) ≡ drop (length es) ms
unfolding marked
marks-past m ids [] ms = refl
marks-past m ids (e ∷ es) [] = refl
marks-past m ids (e ∷ es) (n ∷ ns) = marks-past m ids es ns

pub from_past : (s : Source) (slots ms : List ℕ) → drop (length s.table) (marks_from s slots ms) ≡ drop (length s.table) ms
unfolding marks_from
from_past s [] ms = refl
from_past s (k ∷ ks) ms = from_past s ks (marked (suc k) (ids_of (found_at s k)) s.table ms) ∙ marks-past (suc k) (ids_of (found_at s k)) s.table ms

-- ---- one mark at a time
-- an id below all others is none of theirs
mark-below : (m x : ℕ) (ids : List ℕ) (f : ℕ) (es : List Entry) (ms : List ℕ) → Rising f es → x < f → marked m (x ∷ ids) es ms ≡ marked m ids es ms
unfolding marked
mark-below m x ids f [] ms r h = refl
mark-below m x ids f (e ∷ es) [] r h = refl
mark-below m x ids f (e ∷ es) (n ∷ ns) (rise a r) h =
    ap₂ (λ (t : Bool) (l : List ℕ). pick t m n ∷ l) (among_next e.id x ids (λ q. omega arith)) (mark-below m x ids (suc e.id) es ns r (omega arith))

-- the entry of the first id is marked
pub mark-first : (m x : ℕ) (ids : List ℕ) (f : ℕ) (es : List Entry) (ms : List ℕ) (i : ℕ) → Rising f es → i < length es → (get_or es i no_entry).id ≡ x
    → marked m (x ∷ ids) es ms ≡ marked m ids es (set ms i m)
unfolding marked
mark-first m x ids f [] ms i r h q = absurd (not-suc-le-zero h)
mark-first m x ids f (e ∷ es) [] zero r h q = refl
mark-first m x ids f (e ∷ es) [] (suc i) r h q = refl
mark-first m x ids f (e ∷ es) (n ∷ ns) zero (rise a r) h q =
    ap₂ (λ (v : ℕ) (l : List ℕ). v ∷ l)
    (ap (λ (t : Bool). pick t m n) (among-here e.id x ids (sym q)) ∙ same (among e.id ids))
    (mark-below m x ids (suc e.id) es ns r (omega arith))
  where
    same : (t : Bool) → m ≡ pick t m m
    same true = refl
    same false = refl
mark-first m x ids f (e ∷ es) (n ∷ ns) (suc i) (rise a r) h q =
    let less : e.id < x = omega (arith, rising-lt f (e ∷ es) (rise a r) 0 (suc i) (omega arith) h, q) in
    ap₂ (λ (t : Bool) (l : List ℕ). pick t m n ∷ l) (among_next e.id x ids (λ z. omega arith)) (mark-first m x ids (suc e.id) es ns i r (le_of_suc-le-suc h) q)

-- no mark for no id
pub mark-none : (m : ℕ) (es : List Entry) (ms : List ℕ) → marked m [] es ms ≡ ms
unfolding marked any
mark-none m [] ms = refl
mark-none m (e ∷ es) [] = refl
mark-none m (e ∷ es) (n ∷ ns) = ap (λ (l : List ℕ). n ∷ l) (mark-none m es ns)

-- these ids, then those
pub mark-append : (m : ℕ) (xs ys : List ℕ) (es : List Entry) (ms : List ℕ) → marked m (xs ++ ys) es ms ≡ marked m ys es (marked m xs es ms)
unfolding marked
mark-append m xs ys [] ms = refl
mark-append m xs ys (e ∷ es) [] = refl
mark-append m xs ys (e ∷ es) (n ∷ ns) = ap₂ (λ (v : ℕ) (l : List ℕ). v ∷ l) (both xs) (mark-append m xs ys es ns)
  where
    over : (t u : Bool) → pick (t || u) m n ≡ pick u m (pick t m n)
    over true true = refl
    over true false = refl
    over false u = refl

    both : (xs : List ℕ) → pick (among e.id (xs ++ ys)) m n ≡ pick (among e.id ys) m (pick (among e.id xs) m n)
    both xs = ap (λ (t : Bool). pick t m n) (any_append (λ (i : ℕ). eqb i e.id) xs ys) ∙ over (among e.id xs) (among e.id ys)

-- ---- the ids of what is found, object by object and entry by entry
ids-kept : {A : Type 0} (f : A → Bool) (g : A → Op) (xs : List A) → ids_of (map g (keep f xs)) ≡ each (λ (x : A). pick (f x) ((g x).id ∷ []) []) xs
unfolding keep each
ids-kept f g [] = refl
ids-kept f g (x ∷ xs) = go (f x) (ids-kept f g xs)
  where
    go : (t : Bool) → ids_of (map g (keep f xs)) ≡ each (λ (y : _). pick (f y) ((g y).id ∷ []) []) xs
        → ids_of (map g (pick t (x ∷ keep f xs) (keep f xs))) ≡ pick t ((g x).id ∷ []) [] ++ each (λ (y : _). pick (f y) ((g y).id ∷ []) []) xs
    go true ih = ap (λ (l : List ℕ). (g x).id ∷ l) ih
    go false ih = ih

pub object-ids : (table : List Entry) (r : Label) (slot : List ℕ) → ids_of (objects_found table r slot) ≡ each (object_id r.lsn table) (objects_in (object_part r slot))
unfolding objects_found object_id current
object-ids table r slot = ids-kept (λ (o : Stored). current_at (load table o.id) (raw_of (r.lsn + o.position) false)) (λ (o : Stored). record { id = o.id; content = put o.body }) (objects_in (object_part r slot))

pub delete-ids : (table : List Entry) (r : Label) (slot : List ℕ) → ids_of (deletes_found table r slot) ≡ each (delete_id r.lsn table) (trailer_entries r slot)
unfolding deletes_found deletes_of delete_id current
delete-ids table r slot =
    ids-kept (λ (e : Entry). current_at (load table e.id) (absolute r.lsn e).location) (λ (e : Entry). record { id = e.id; content = delete })
    (keep (λ (e : Entry). delete_of e.location) (trailer_entries r slot))
    ∙ each_keep (λ (e : Entry). delete_of e.location) (λ (e : Entry). pick (current_at (load table e.id) (absolute r.lsn e).location) (e.id ∷ []) []) (trailer_entries r slot)

ids-append : (xs ys : List Op) → ids_of (xs ++ ys) ≡ ids_of xs ++ ids_of ys
ids-append [] ys = refl
ids-append (x ∷ xs) ys = ap (λ (l : List ℕ). x.id ∷ l) (ids-append xs ys)

-- a file: its objects, then its deletes
pub mark-file : (m : ℕ) (table : List Entry) (r : Label) (slot ms : List ℕ)
    → marked m (ids_of (found_file table r slot)) table ms
    ≡ marked m (each (delete_id r.lsn table) (trailer_entries r slot)) table (marked m (each (object_id r.lsn table) (objects_in (object_part r slot))) table ms)
mark-file m table r slot ms =
    ap (λ (ids : List ℕ). marked m ids table ms)
    (ids-append (objects_found table r slot) (deletes_found table r slot) ∙ ap₂ (λ (a b : List ℕ). a ++ b) (object-ids table r slot) (delete-ids table r slot))
    ∙ mark-append m (each (object_id r.lsn table) (objects_in (object_part r slot))) (each (delete_id r.lsn table) (trailer_entries r slot)) table ms

-- the next slot of a group
pub marks-next : (s : Source) (k : ℕ) (ks ms : List ℕ) → marks_from s (k ∷ ks) ms ≡ marks_from s ks (marked (suc k) (ids_of (found_at s k)) s.table ms)
unfolding marks_from
marks-next s k ks ms = refl

pub marks-end : (s : Source) (ms : List ℕ) → marks_from s [] ms ≡ ms
unfolding marks_from
marks-end s ms = refl

pub marks-start : (s : Source) (n : ℕ) (slots : List ℕ) → marks_from s slots (replicate n 0) ≡ marks_of s n slots
unfolding marks_of
marks-start s n slots = refl

-- ---- the clauses, by facts in the place of tests
module _ (table : List Entry) (id location : ℕ) where
  -- by what the table holds
  by-held : (h : Held) → lookup table id ≡ h → current table id location ≡ pick (mapped_to h location) (id ∷ []) []
  unfolding current
  by-held h e = ap (λ (t : Bool). pick t (id ∷ []) []) (current-mapped (lookup table id) location ∙ ap (λ (x : Held). mapped_to x location) e)

  pub current-here : lookup table id ≡ Some location → current table id location ≡ id ∷ []
  current-here h = by-held (Some location) h ∙ rw (eq-eqb location location refl) refl

  pub current-other : (l : ℕ) → lookup table id ≡ Some l → (l ≡ location → ⊥) → current table id location ≡ []
  current-other l h n = by-held (Some l) h ∙ rw (ne_eqb l location n) refl

  pub current-none : lookup table id ≡ None → current table id location ≡ []
  current-none h = by-held None h

module _ (lsn : ℕ) (table : List Entry) (e : Entry) where
  pub delete-here : delete_of e.location ≡ true → delete_id lsn table e ≡ current table e.id (absolute lsn e).location
  unfolding delete_id
  delete-here d = ap (λ (t : Bool). pick t (current table e.id (absolute lsn e).location) []) d

  pub delete-not : delete_of e.location ≡ false → delete_id lsn table e ≡ []
  unfolding delete_id
  delete-not d = ap (λ (t : Bool). pick t (current table e.id (absolute lsn e).location) []) d

-- a location below 2^63, as the code gives it
pub located-raw : (p : ℕ) (d : Bool) → p < 2 ^ 63 → (told (located_at p d)).raw ≡ raw_of p d
located-raw p d h = go (same? (raw_of p d) 0)
  where
    go : (raw_of p d ≡ 0) ⊎ (raw_of p d ≡ 0 → ⊥) → (told (located_at p d)).raw ≡ raw_of p d
    go (inl z) = ap (λ (l : Located). (told l).raw) (located-none p d h z) ∙ sym z
    go (inr n) = ap (λ (l : Located). (told l).raw) (located-at p d h n)
