-- The marked entries one by one: a turn over them, and what is known of their objects once the group's checks are clear.
use Rattle.std.specs.Prelude.{◌≡◌, ◌⊎◌, ◌≤◌, ◌<◌, ◌∷◌, ◌+◌, ◌-◌, Ok, Some}
use Rattle.std.proofs.Math.Path.{refl}
use Rattle.std.proofs.Common.{sym, ap, ap₂, ◌∙◌, subst, true≢false, inl, inr, le_of_suc-le-suc, not-suc-le-zero, drop_of_length-le, drop-cons}
use Rattle.std.proofs.Math.Numerals.{add-one}
use native.Mathlib.Omega.{arith}
use Rattle.std.proofs.lemmas.List.{length-replicate}
use borrow.Author.Tests.{eq-eqb, ne_eqb}
use Rattle.rules.specs.Base.{Bool, true, false, List, [], ℕ, zero, suc, length, get_or, drop, replicate, eqb, pick, any}
use Rattle.rules.specs.BaseLaws.{All}
use Rattle.rules.proofs.BaseLaws.{same?, all_both, replicate-at}
use Rattle.rules.specs.declared.Entry.{Entry}
use Rattle.rules.specs.declared.Loaded.{Loaded}
use Rattle.rules.specs.declared.Loaded.TheVariants.{At, DeletedAt}
use Rattle.disk_location.specs.Locations.{position_of, delete_of, raw_of}
use Rattle.disk_location.proofs.LocationLaws.{delete-raw}
use Rattle.rules.specs.Refusal.{decide}
use Rattle.rules.specs.Object.{Stored, stored_at, objects_in}
use Rattle.rules.specs.Trailer.{absolute}
use Rattle.rules.specs.SlotFile.{object_part}
use Rattle.rules.specs.Table.{lookup, loaded_of, load, current_at, no_entry}
use Rattle.rules.specs.TableLaws.{Rising}
use Rattle.rules.proofs.TableLaws.{mapped-one, current-is}
use Rattle.rules.specs.Ops.{put, delete, Op}
use Rattle.rules.specs.Maintenance.{file_tests}
use Rattle.location_table.specs.LoadLaws.{entry-lookup}
use Rattle.gc_group.specs.Source.{Source, file_at, bytes_at}
use Rattle.gc_group.specs.Checks.{group_checks, Whole}
use Rattle.gc_group.proofs.Clear.{clear-each, file-whole}
use Rattle.gc_group.specs.Marks.{found_at, ids_of, among, marked, marks_from, marks_of, object_of, content_at, marked_ops}
use Rattle.gc_group.specs.MarkLaws.{AtPosition}
use Rattle.gc_group.proofs.MarkLaws.{objects-stand, found-each, among_next, marked-length}
use Rattle.gc_group.specs.MovedLaws.{Backed, Found, Good}

-- ---- a turn over the marked entries
module _ (s : Source) (es : List Entry) (ms : List ℕ) (i : ℕ) (h : i < length es) (l : i < length ms) where
  step : marked_ops s (drop i es) (drop i ms) ≡ marked_ops s (get_or es i no_entry ∷ drop (suc i) es) (get_or ms i 0 ∷ drop (suc i) ms)
  step = ap₂ (marked_ops s) (drop-cons es i no_entry h) (drop-cons ms i 0 l)

  -- entry i is marked
  pub marked-here : (k : ℕ) → get_or ms i 0 ≡ suc k
      → marked_ops s (drop i es) (drop i ms) ≡ record { id = (get_or es i no_entry).id; content = content_at s (get_or es i no_entry).location k } ∷ marked_ops s (drop (i + 1) es) (drop (i + 1) ms)
  unfolding marked_ops
  marked-here k e =
      let some : eqb (get_or ms i 0) 0 ≡ false = ne_eqb (get_or ms i 0) 0 (λ z. omega arith) in
      let slot : get_or ms i 0 - 1 ≡ k = omega arith in
      step ∙ rw (some, slot, add-one i) refl

  -- or not
  pub marked_next : get_or ms i 0 ≡ 0 → marked_ops s (drop i es) (drop i ms) ≡ marked_ops s (drop (i + 1) es) (drop (i + 1) ms)
  unfolding marked_ops
  marked_next e = step ∙ rw (eq-eqb (get_or ms i 0) 0 e, add-one i) refl

pub marked-end : (s : Source) (es : List Entry) (ms : List ℕ) (i : ℕ) → length es ≤ i → marked_ops s (drop i es) (drop i ms) ≡ []
unfolding marked_ops
marked-end s es ms i h = ap (λ (ds : List Entry). marked_ops s ds (drop i ms)) (drop_of_length-le es {i = i} h)

found-object : (limit : ℕ) (s : Source) (k : ℕ) (o : Stored) → AtPosition (object_part (file_at s k) (bytes_at s k)) o → Whole limit s.table o
    → current_at (load s.table o.id) (raw_of ((file_at s k).lsn + o.position) false) ≡ true → Found limit s k (record { id = o.id; content = put o.body })
found-object limit s k o at w e =
    let lsn = (file_at s k).lsn in
    let part = object_part (file_at s k) (bytes_at s k) in
    let location = raw_of (lsn + o.position) false in
    let p : position_of location - lsn ≡ o.position = omega arith in
    let there : object_of s location k ≡ o = ap (λ (n : ℕ). stored_at n (drop n part)) p ∙ sym at in
    record {
      location = location;
      mapped = current-is (lookup s.table o.id) location e;
      backed = λ d. record { low = omega arith; whole = subst (Whole limit s.table) (sym there) w; same = ap (λ (x : Stored). x.id) there };
    }

found-delete : (limit : ℕ) (s : Source) (k : ℕ) (e : Entry) → delete_of e.location ≡ true
    → current_at (load s.table e.id) (absolute (file_at s k).lsn e).location ≡ true → Found limit s k (record { id = e.id; content = delete })
found-delete limit s k e d h =
    let location = raw_of (position_of e.location + (file_at s k).lsn) (delete_of e.location) in
    let told : loaded_of (Some location) ≡ DeletedAt location = rw (delete-raw (position_of e.location + (file_at s k).lsn) (delete_of e.location), d) refl in
    record {
      location = location;
      mapped = current-is (lookup s.table e.id) location h;
      backed = λ n. absurd (let z : ◌≡◌ {A = Loaded} (DeletedAt location) (At location) = sym told ∙ n in let y : ◌≡◌ {A = ℕ} 0 1 = cc in omega arith);
    }

found_all : (limit : ℕ) (s : Source) (k : ℕ) → decide (file_tests limit s.table (file_at s k) (bytes_at s k)) ≡ Ok tt → All (Found limit s k) (found_at s k)
found_all limit s k clear =
    let part = object_part (file_at s k) (bytes_at s k) in
    found-each s k (Found limit s k) (λ (o : Stored). AtPosition part o × Whole limit s.table o)
    (all_both (AtPosition part) (Whole limit s.table) (objects_in part) (objects-stand part) (file-whole limit s.table (file_at s k) (bytes_at s k) clear))
    (λ o w e. found-object limit s k o w.0 w.1 e) (found-delete limit s k)

-- an id that is among those of operations is one operation's
among_one : (R : Op → Type 0) (ops : List Op) (x : ℕ) → All R ops → among x (ids_of ops) ≡ true → (o : Op) × (o.id ≡ x) × R o
unfolding any
among_one R [] x a e = absurd (true≢false (sym e))
among_one R (o ∷ os) x a e = go (among_one R os x a.1) (same? o.id x)
  where
    go : (among x (ids_of os) ≡ true → (p : Op) × (p.id ≡ x) × R p) → (o.id ≡ x) ⊎ (o.id ≡ x → ⊥) → (p : Op) × (p.id ≡ x) × R p
    go ih (inl q) = (o, q, a.0)
    go ih (inr q) = ih (sym (among_next x o.id (ids_of os) q) ∙ e)

found-backed : (limit : ℕ) (s : Source) (k : ℕ) → Rising 0 s.table → decide (file_tests limit s.table (file_at s k) (bytes_at s k)) ≡ Ok tt
    → (i : ℕ) → i < length s.table → among (get_or s.table i no_entry).id (ids_of (found_at s k)) ≡ true → Backed limit s (get_or s.table i no_entry) k
found-backed limit s k r clear i h a =
    let e = get_or s.table i no_entry in
    let w = among_one (Found limit s k) (found_at s k) e.id (found_all limit s k clear) a in
    let f = w.2 in
    let at : f.location ≡ e.location = mapped-one (sym f.mapped ∙ ap (lookup s.table) w.1 ∙ entry-lookup s.table r i h) in
    subst (λ (d : Entry). Backed limit s d k) (λ j. record { id = w.1 j; location = at j }) f.backed

-- ---- the marks of a group whose checks are clear
get_d-marked : (m : ℕ) (ids : List ℕ) (es : List Entry) (ms : List ℕ) (i : ℕ) → i < length es → i < length ms → get_or (marked m ids es ms) i 0 ≡ pick (among (get_or es i no_entry).id ids) m (get_or ms i 0)
unfolding marked
get_d-marked m ids [] ms i h l = absurd (not-suc-le-zero h)
get_d-marked m ids (e ∷ es) [] i h l = absurd (not-suc-le-zero l)
get_d-marked m ids (e ∷ es) (n ∷ ns) zero h l = refl
get_d-marked m ids (e ∷ es) (n ∷ ns) (suc i) h l = get_d-marked m ids es ns i (le_of_suc-le-suc h) (le_of_suc-le-suc l)

good-from : (limit : ℕ) (s : Source) (P : ℕ → Type 0) → Rising 0 s.table → (slots ms : List ℕ) → length s.table ≤ length ms
    → All (λ (k : ℕ). decide (file_tests limit s.table (file_at s k) (bytes_at s k)) ≡ Ok tt) slots → All P slots → Good limit s P ms → Good limit s P (marks_from s slots ms)
unfolding marks_from
good-from limit s P r [] ms n clear all good = good
good-from limit s P r (k ∷ ks) ms n clear all good =
    good-from limit s P r ks (marked (suc k) ids s.table ms) (omega (arith, marked-length (suc k) ids s.table ms)) clear.1 all.1
    (λ i j h e. go i j h (among (get_or s.table i no_entry).id ids) refl (sym (get_d-marked (suc k) ids s.table ms i h (omega arith)) ∙ e))
  where
    ids : List ℕ
    ids = ids_of (found_at s k)

    go : (i j : ℕ) → i < length s.table → (t : Bool) → among (get_or s.table i no_entry).id ids ≡ t → pick t (suc k) (get_or ms i 0) ≡ suc j
        → P j × Backed limit s (get_or s.table i no_entry) j
    go i j h true a e =
        let q : k ≡ j = omega (arith, e) in
        subst (λ (m : ℕ). P m × Backed limit s (get_or s.table i no_entry) m) q (all.0, found-backed limit s k r clear.0 i h a)
    go i j h false a e = good i j h e

pub marks-backed : (limit : ℕ) (s : Source) (P : ℕ → Type 0) (slots : List ℕ) (n : ℕ) → Rising 0 s.table → length s.table ≤ n → decide (group_checks limit s slots) ≡ Ok tt → All P slots
    → (i k : ℕ) → i < length s.table → get_or (marks_of s n slots) i 0 ≡ suc k → P k × Backed limit s (get_or s.table i no_entry) k
unfolding marks_of group_checks
marks-backed limit s P slots n r h clear all =
    good-from limit s P r slots (replicate n 0) (omega (arith, length-replicate {A = ℕ} n 0))
    (clear-each (λ (k : ℕ). file_tests limit s.table (file_at s k) (bytes_at s k)) slots clear) all
    (λ i k l e. absurd (let z : ◌≡◌ {A = ℕ} 0 (suc k) = sym (replicate-at {A = ℕ} n i 0) ∙ e in omega arith))
