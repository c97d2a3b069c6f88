-- The checks of a file and of a group, in the steps that code takes.
use Rattle.std.specs.Prelude.{◌≡◌, Bool, ◌⊎◌, ◌≤◌, ◌<◌, ◌∷◌, ◌++◌, ◌+◌, ◌^◌, Err, Ok}
use Rattle.std.proofs.Math.Path.{refl, ap}
use Rattle.std.proofs.Common.{sym, ◌∙◌, inl, inr, arith}
use Rattle.std.proofs.Math.Bool.{true, false}
use borrow.Author.Tests.{lt-ltb, le-ltb, le-leb, lt-leb, leb-false, ltb-false}
use Rattle.std.proofs.Math.ListN.{length-drop}
use Rattle.numbers.specs.GroupLaws.{either_way}
use Rattle.rules.specs.Base.{List, [], ℕ, length, get_or, drop, pick, keep, each}
use Rattle.rules.specs.declared.Entry.{Entry}
use Rattle.rules.specs.declared.Label.{Label}
use Rattle.rules.specs.declared.Refusal.{Refusal}
use Rattle.rules.specs.declared.Refusal.TheVariants.{ObjectSize, NotThere, CutShort, Checksum, Location}
use Rattle.rules.specs.Types.{Answer, Held}
use Rattle.disk_location.specs.Answers.{Located}
use Rattle.disk_location.specs.Locations.{position_of, delete_of, told, located_at}
use Rattle.disk_location.proofs.LocationLaws.{located-large, located-at}
use Rattle.rules.specs.Refusal.{Test, decide, NoneHolds}
use Rattle.rules.proofs.RefusalLaws.{clear-when, decide-none, decide-early, decide-late}
use Rattle.rules.specs.declared.Loaded.{Loaded}
use Rattle.rules.specs.Table.{load, loaded_of, never_written, no_entry}
use Rattle.rules.specs.TableLaws.{Rising}
use Rattle.location_table.specs.Answers.{Place}
use Rattle.location_table.specs.Places.{place}
use Rattle.location_table.specs.EntryLaws.{found-tells, gap-tells}
use Rattle.location_table.specs.LoadLaws.{either-kind}
use Rattle.stored_object.specs.declared.Header.{Header}
use Rattle.stored_object.specs.Objects.{objects_at, objects-next, objects-end, Walked, CutOff, header-size, header-id, header-room, header-begins, header-fits}
use Rattle.rules.specs.Trailer.{trailer_tests, entries_in}
use Rattle.rules.specs.SlotFile.{object_part, trailer_part}
use Rattle.rules.specs.Object.{Stored, stored_at, bad_checksum, objects_in}
use Rattle.rules.specs.Install.{room_tests, empty_of, position_tests}
use Rattle.rules.specs.Ops.{Op}
use Rattle.rules.specs.World.{World}
use Rattle.rules.specs.Maintenance.{moved_tests, delete_tests, deletes_of, file_tests, group_tests}
use Rattle.gc_group.specs.Source.{Source, source_in, file_at, bytes_at}
use Rattle.gc_group.specs.Checks.{never_at, entry_tests, group_checks, Whole}

pub never-at : (es : List Entry) → Rising 0 es → (x : ℕ) → never_at (place es x) ≡ never_written (load es x)
never-at es r x = go (place es x) refl
  where
    n : Entry
    n = record { id = x; location = 0 }

    go : (p : Place) → place es x ≡ p → never_at p ≡ never_written (load es x)
    go (Ok k) e = sym (ap (λ (h : Held). never_written (loaded_of h)) (found-tells es r n k e).lookup-is ∙ either-kind (λ (l : Loaded). never_written l ≡ false) (get_or es k no_entry).location refl refl)
    go (Err k) e = sym (ap (λ (h : Held). never_written (loaded_of h)) (gap-tells es r n k e).lookup-is)

-- they come first of all that a group is tested for
pub group-tests : (w : World) (slots : List ℕ) (files : List (List Op))
    → group_tests w slots files
    ≡ group_checks w.settings.max_object_size (source_in w) slots
    ++ (room_tests w.settings.slot_bytes (empty_of w) files ++ position_tests w.state.next_position files)
unfolding group_tests group_checks
group-tests w slots files = refl

-- what each kept element gives
pub each_keep : {A B : Type 0} (p : A → Bool) (f : A → List B) (xs : List A) → each f (keep p xs) ≡ each (λ (x : A). pick (p x) (f x) []) xs
unfolding each keep
each_keep p f [] = refl
each_keep p f (x ∷ xs) = go (p x) (each_keep p f xs)
  where
    go : (t : Bool) → each f (keep p xs) ≡ each (λ (y : _). pick (p y) (f y) []) xs
        → each f (pick t (x ∷ keep p xs) (keep p xs)) ≡ pick t (f x) [] ++ each (λ (y : _). pick (p y) (f y) []) xs
    go true ih = ap (λ (r : List _). f x ++ r) ih
    go false ih = ih

-- a file's tests, in the order that they are made
pub file-tests : (limit : ℕ) (table : List Entry) (r : Label) (slot : List ℕ)
    → file_tests limit table r slot
    ≡ trailer_tests (trailer_part r slot)
    ++ (each (moved_tests limit table) (objects_in (object_part r slot)) ++ each (entry_tests r.lsn table) (entries_in (trailer_part r slot)))
unfolding file_tests deletes_of entry_tests
file-tests limit table r slot =
    ap (λ (ts : List Test). trailer_tests (trailer_part r slot) ++ (each (moved_tests limit table) (objects_in (object_part r slot)) ++ ts))
    (each_keep (λ (e : Entry). delete_of e.location) (delete_tests r.lsn table) (entries_in (trailer_part r slot)))

pub moved-whole : (limit : ℕ) (table : List Entry) (o : Stored) → decide (moved_tests limit table o) ≡ Ok tt → Whole limit table o
unfolding moved_tests NoneHolds
moved-whole limit table o e =
    let n = clear-when (moved_tests limit table o) e in
    record { size = leb-false _ _ n.1.0; written = n.1.1.0; room = ltb-false _ _ n.1.1.1.0; sum = n.1.1.1.1.0 }

-- ---- an object whose header is whole, test by test
module _ (limit : ℕ) (table : List Entry) (objects : List ℕ) (position : ℕ) (h : Header) (w : Walked objects position h) where
  abbrev here : Stored
  here = stored_at position (drop position objects)

  pub moved-large : limit ≤ h.size → decide (moved_tests limit table here) ≡ Err ObjectSize
  unfolding moved_tests decide
  moved-large a = rw (le-ltb here.room 20 (omega (arith, header-room objects position h w, (header-fits objects position h w).0)), le-leb limit here.size (omega (arith, header-size objects position h w))) refl

  pub moved-never : h.size < limit → never_written (load table h.id) ≡ true → decide (moved_tests limit table here) ≡ Err NotThere
  unfolding moved_tests decide
  moved-never a b =
      let u : never_written (load table here.id) ≡ true = rw (header-id objects position h w) at b in
      rw (le-ltb here.room 20 (omega (arith, header-room objects position h w, (header-fits objects position h w).0)), lt-leb limit here.size (omega (arith, header-size objects position h w)), u) refl

  module _ (a : h.size < limit) (b : never_written (load table h.id) ≡ false) where
    pub moved-short : h.room < 20 + h.size → decide (moved_tests limit table here) ≡ Err CutShort
    unfolding moved_tests decide
    moved-short d =
        let u : never_written (load table here.id) ≡ false = rw (header-id objects position h w) at b in
        rw (
          le-ltb here.room 20 (omega (arith, header-room objects position h w, (header-fits objects position h w).0)),
          lt-leb limit here.size (omega (arith, header-size objects position h w)),
          u,
          lt-ltb here.room (20 + here.size) (omega (arith, header-size objects position h w, header-room objects position h w)),
        ) refl

    -- the checksum decides
    pub moved_sum : 20 + h.size ≤ h.room → decide (moved_tests limit table here) ≡ pick (bad_checksum here) (Err Checksum) (Ok tt)
    unfolding moved_tests decide
    moved_sum d =
        let u : never_written (load table here.id) ≡ false = rw (header-id objects position h w) at b in
        rw (
          le-ltb here.room 20 (omega (arith, header-room objects position h w, (header-fits objects position h w).0)),
          lt-leb limit here.size (omega (arith, header-size objects position h w)),
          u,
          le-ltb here.room (20 + here.size) (omega (arith, header-size objects position h w, header-room objects position h w)),
        ) refl

-- ---- the walk
-- what a step's answer says

module _ (limit : ℕ) (table : List Entry) (objects : List ℕ) (position : ℕ) where
  abbrev rest : ℕ → Answer
  rest at = decide (each (moved_tests limit table) (objects_at objects at))

  pub walk_end : length objects ≤ position → rest position ≡ Ok tt
  unfolding each
  walk_end h = ap (λ (os : List Stored). decide (each (moved_tests limit table) os)) (objects-end objects position h) ∙ decide-none

  walk_step : position < length objects
      → let o = stored_at position (drop position objects) in
      rest position ≡ decide (moved_tests limit table o ++ each (moved_tests limit table) (objects_at objects (position + (20 + o.size))))
  unfolding each
  walk_step h = ap (λ (os : List Stored). decide (each (moved_tests limit table) os)) (objects-next objects position h)

  -- "header past T (16)"
  pub walk-cut : CutOff objects position → rest position ≡ Err CutShort
  unfolding moved_tests stored_at decide
  walk-cut w =
      let n = length-drop position objects in
      let a = w.short in
      walk_step w.begins ∙ rw (lt-ltb (length (drop position objects)) 20 (omega arith)) refl

  module _ (h : Header) (w : Walked objects position h) where
    pub walk_refused : (r : Refusal) → decide (moved_tests limit table (stored_at position (drop position objects))) ≡ Err r → rest position ≡ Err r
    walk_refused r e = walk_step (header-begins objects position h w) ∙ decide-early _ _ r e

    pub walk-on : decide (moved_tests limit table (stored_at position (drop position objects))) ≡ Ok tt → rest position ≡ rest (position + (20 + h.size))
    walk-on e =
        walk_step (header-begins objects position h w) ∙ decide-late _ _ e
        ∙ ap (λ (n : ℕ). rest (position + (20 + n))) (sym (ap (λ (x : Header). x.size) w.header))

    -- an object that passes lies within
    pub walk_inside : decide (moved_tests limit table (stored_at position (drop position objects))) ≡ Ok tt → position + (20 + h.size) ≤ length objects
    unfolding stored_at
    walk_inside e =
        let whole = (moved-whole limit table (stored_at position (drop position objects)) e).room in
        let n = length-drop position objects in
        let a = w.inside in
        let size = ap (λ (x : Header). x.size) w.header in
        omega (arith, whole, size)

-- ---- an entry, test by test
module _ (lsn : ℕ) (table : List Entry) (e : Entry) where
  pub entry-object : delete_of e.location ≡ false → decide (entry_tests lsn table e) ≡ Ok tt
  unfolding entry_tests
  entry-object d = rw d decide-none

  module _ (d : delete_of e.location ≡ true) where
    pub entry-great : 2 ^ 63 ≤ position_of e.location + lsn → decide (entry_tests lsn table e) ≡ Err Location
    unfolding entry_tests delete_tests decide
    entry-great h = rw (d, le-leb (2 ^ 63) (position_of e.location + lsn) h) refl

    -- the table decides
    pub entry-mapped : position_of e.location + lsn < 2 ^ 63 → decide (entry_tests lsn table e) ≡ pick (never_written (load table e.id)) (Err NotThere) (Ok tt)
    unfolding entry_tests delete_tests decide
    entry-mapped h = rw (d, lt-leb (2 ^ 63) (position_of e.location + lsn) h) refl

-- the absolute location of a delete: 20 exactly where the sum is too great
pub located-number : (p : ℕ) → ((told (located_at p true)).number ≡ 0 → p < 2 ^ 63) × (((told (located_at p true)).number ≡ 0 → ⊥) → 2 ^ 63 ≤ p)
located-number p = go (either_way p (2 ^ 63))
  where
    go : (p < 2 ^ 63) ⊎ (2 ^ 63 ≤ p) → ((told (located_at p true)).number ≡ 0 → p < 2 ^ 63) × (((told (located_at p true)).number ≡ 0 → ⊥) → 2 ^ 63 ≤ p)
    go (inl h) = (λ e. h, λ n. absurd (n (ap (λ (l : Located). (told l).number) (located-at p true h (λ z. omega arith)))))
    go (inr h) = (
      λ e. absurd (let z : ◌≡◌ {A = ℕ} 20 0 = sym (ap (λ (l : Located). (told l).number) (located-large p true h)) ∙ e in omega arith),
      λ n. h,
    )

-- ---- a file, part by part
module _ (limit : ℕ) (table : List Entry) (r : Label) (slot : List ℕ) where
  pub file-trailer : (n : Refusal) → decide (trailer_tests (trailer_part r slot)) ≡ Err n → decide (file_tests limit table r slot) ≡ Err n
  file-trailer n e = ap decide (file-tests limit table r slot) ∙ decide-early _ _ n e

  module _ (clear : decide (trailer_tests (trailer_part r slot)) ≡ Ok tt) where
    pub file-object : (n : Refusal) → decide (each (moved_tests limit table) (objects_in (object_part r slot))) ≡ Err n → decide (file_tests limit table r slot) ≡ Err n
    file-object n e = ap decide (file-tests limit table r slot) ∙ decide-late _ _ clear ∙ decide-early _ _ n e

    pub file-deletes : decide (each (moved_tests limit table) (objects_in (object_part r slot))) ≡ Ok tt
        → decide (file_tests limit table r slot) ≡ decide (each (entry_tests r.lsn table) (entries_in (trailer_part r slot)))
    file-deletes e = ap decide (file-tests limit table r slot) ∙ decide-late _ _ clear ∙ decide-late _ _ e

-- ---- a group, file by file
module _ (limit : ℕ) (s : Source) (k : ℕ) (ks : List ℕ) where
  pub group-refused : (n : Refusal) → decide (file_tests limit s.table (file_at s k) (bytes_at s k)) ≡ Err n → decide (group_checks limit s (k ∷ ks)) ≡ Err n
  unfolding group_checks each
  group-refused n e = decide-early _ _ n e

  pub group-on : decide (file_tests limit s.table (file_at s k) (bytes_at s k)) ≡ Ok tt → decide (group_checks limit s (k ∷ ks)) ≡ decide (group_checks limit s ks)
  unfolding group_checks each
  group-on e = decide-late _ _ e

pub group-none : (limit : ℕ) (s : Source) → decide (group_checks limit s []) ≡ Ok tt
unfolding group_checks each
group-none limit s = decide-none
