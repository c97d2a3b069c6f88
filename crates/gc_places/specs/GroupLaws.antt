-- The places of a group's marked entries: what stands there is what the group found.
use Rattle.std.specs.Prelude.{◌≡◌, ◌⊎◌, ◌≤◌, ◌<◌, ◌∷◌, ◌++◌, ◌+◌, ◌-◌, ◌*◌, ◌^◌, Ok, Some}
use Rattle.std.proofs.Math.Path.{refl, sym, ap, ap₂, subst}
use Rattle.std.proofs.Common.{◌∙◌, inl, inr, le_of_suc-le-suc, not-suc-le-zero, length-drop, get_or-drop, length-take-le, take_at}
use native.Mathlib.Omega.{arith}
use Rattle.std.proofs.Math.ListN.{get_or-map, get_or-eq_default}
use Rattle.std.proofs.lemmas.List.{length-replicate}
use borrow.Author.Tests.{eq-eqb, ne_eqb}
use Rattle.numbers.specs.GroupLaws.{either_way}
use Rattle.numbers.specs.LittleEndian.{Bytes}
use Rattle.numbers.specs.Parts.{front, front_length}
use Rattle.disk_location.specs.Locations.{position_of}
use Rattle.rules.specs.Base.{false, List, [], ℕ, zero, suc, length, get_or, take, drop, replicate, each}
use Rattle.rules.proofs.TurnLaws.{left-next}
use Rattle.rules.specs.declared.Entry.{Entry}
use Rattle.rules.specs.declared.Label.{Label}
use Rattle.rules.specs.declared.Record.{Record}
use Rattle.rules.specs.declared.Settings.{Settings}
use Rattle.rules.specs.declared.Loaded.{Loaded}
use Rattle.rules.specs.declared.Loaded.TheVariants.{At, DeletedAt}
use Rattle.rules.specs.Refusal.{decide}
use Rattle.rules.specs.SettingsLaws.{InRanges}
use Rattle.rules.specs.Object.{object_bytes, stored_at, bad_checksum}
use Rattle.rules.proofs.ObjectLaws.{object-length, stored-room}
use Rattle.rules.specs.SlotFile.{bytes_of_slot, object_part}
use Rattle.rules.specs.FileMap.{empty_record, record_at}
use Rattle.rules.specs.Ops.{Content, put, delete, Op, settled}
use Rattle.rules.proofs.BaseLaws.{replicate-at}
use Rattle.rules.specs.Table.{loaded_of, no_entry}
use Rattle.rules.specs.Layout.{Table, table_ids, table_locations, used_entries}
use Rattle.rules.proofs.LayoutLaws.{ids-count, locations-count, used-length}
use Rattle.stored_object.specs.Begins.{part_bytes, reads-begins}
use Rattle.location_table.specs.Tables.{Formed}
use Rattle.location_table.specs.LayoutLaws.{used-id, used-location, used-rising}
use Rattle.location_table.specs.LoadLaws.{either-kind}
use Rattle.file_lists.specs.Lists.{lsns_of}
use Rattle.gc_candidates.specs.Plan.{planned, planned-all}
use Rattle.gc_group.specs.Source.{Source, source, Ready}
use Rattle.gc_group.proofs.Source.{part_length}
use Rattle.gc_group.specs.Checks.{group_checks}
use Rattle.gc_group.specs.Marks.{found_at, ids_of, marked, marks_from, marks_of, loaded_content, content_at, marked_ops}
use Rattle.gc_group.proofs.MarkLaws.{marked-length, marked-settled, from_past}
use Rattle.gc_group.specs.MovedLaws.{Moves}
use Rattle.gc_group.proofs.MovedLaws.{marks-backed, marked-here, marked_next, marked-end}
use Rattle.gc_files.specs.Places.{length_at, op_at, placed_ops, InSlot, Standing, Stands, AllStand, OfUsed, place_for, places_for, InFile, Placeable, Placeables}
use Rattle.gc_files.specs.PlaceLaws.{placed-none}
use Rattle.gc_files.specs.MarkedLaws.{object-there, object-part-stands, place-delete, place-object}
use Rattle.gc_places.specs.Group.{Checked, Kept, InGroup}

-- settings in their ranges have slots of a fitting size
pub group-checked : (s : Settings) (heap : List ℕ) (records : List Record) (plan : List ℕ) (generation : ℕ) (table : Table) (n : ℕ) → InRanges s
    → Ready s.slot_bytes (length heap) records plan generation
    → decide (group_checks s.max_object_size (source s.slot_bytes heap records (used_entries table)) (planned plan generation)) ≡ Ok tt
    → Formed table → length (table_ids table) ≤ n → Bytes heap → Checked s.max_object_size s.slot_bytes heap records plan generation table n
group-checked s heap records plan generation table n ranges ready clear formed wide bytes =
    record { low = omega (arith, ranges.slot-low); high = ranges.slot-high; ready = ready; clear = clear; formed = formed; wide = wide; bytes = bytes }

-- ---- places one by one
-- as many as locations
places-length : (size : ℕ) (lsns ls ms : List ℕ) → length ls ≤ length ms → length (places_for size lsns ls ms) ≡ length ls
unfolding places_for
places-length size lsns [] ms h = refl
places-length size lsns (l ∷ ls) [] h = absurd (not-suc-le-zero h)
places-length size lsns (l ∷ ls) (m ∷ ms) h = ap suc (places-length size lsns ls ms (le_of_suc-le-suc h))

-- that of entry i
places-at : (size : ℕ) (lsns ls ms : List ℕ) (i : ℕ) → i < length ls → i < length ms → get_or (places_for size lsns ls ms) i 0 ≡ place_for size lsns (loaded_of (Some (get_or ls i 0))) (get_or ms i 0)
unfolding places_for
places-at size lsns [] ms i h g = absurd (not-suc-le-zero h)
places-at size lsns (l ∷ ls) [] i h g = absurd (not-suc-le-zero g)
places-at size lsns (l ∷ ls) (m ∷ ms) zero h g = refl
places-at size lsns (l ∷ ls) (m ∷ ms) (suc i) h g = places-at size lsns ls ms i (le_of_suc-le-suc h) (le_of_suc-le-suc g)

-- behind what is put into zeros stand zeros
behind-zero : (ps : List ℕ) (k n i : ℕ) → get_or (ps ++ drop k (replicate n 0)) i 0 ≡ get_or ps i 0
behind-zero [] k n i = get_or-drop k (replicate n 0) i 0 ∙ replicate-at {A = ℕ} n (k + i) 0
behind-zero (p ∷ ps) k n zero = refl
behind-zero (p ∷ ps) k n (suc i) = behind-zero ps k n i

front-zero : (ps : List ℕ) (n i : ℕ) → get_or (front ps (replicate n 0)) i 0 ≡ get_or ps i 0
unfolding front
front-zero ps n i = behind-zero ps (length ps) n i

-- an entry without a mark has no place
place_none : (size : ℕ) (lsns : List ℕ) (loaded : Loaded) → place_for size lsns loaded 0 ≡ 0
unfolding place_for
place_none size lsns loaded = refl

-- a delete's place
place-gone : (size : ℕ) (lsns : List ℕ) (location k : ℕ) → place_for size lsns (DeletedAt location) (suc k) ≡ 1
unfolding place_for
place-gone size lsns location k = rw (ne_eqb (suc k) 0 (λ z. omega arith)) refl

-- an object's place
place-object-is : (size : ℕ) (lsns : List ℕ) (location k : ℕ) → place_for size lsns (At location) (suc k) ≡ k * size + 64 + (position_of location - get_or lsns k 0)
unfolding place_for
place-object-is size lsns location k =
    let back : suc k - 1 ≡ k = omega arith in
    rw (ne_eqb (suc k) 0 (λ z. omega arith), back) refl

-- ---- marks one by one
from-length : (s : Source) (slots ms : List ℕ) → length (marks_from s slots ms) ≡ length ms
unfolding marks_from
from-length s [] ms = refl
from-length s (k ∷ ks) ms = from-length s ks (marked (suc k) (ids_of (found_at s k)) s.table ms) ∙ marked-length (suc k) (ids_of (found_at s k)) s.table ms

marks-length : (s : Source) (n : ℕ) (slots : List ℕ) → length (marks_of s n slots) ≡ n
unfolding marks_of
marks-length s n slots = from-length s slots (replicate n 0) ∙ length-replicate {A = ℕ} n 0

-- none behind the table
marks-behind : (s : Source) (n : ℕ) (slots : List ℕ) (i : ℕ) → length s.table ≤ i → get_or (marks_of s n slots) i 0 ≡ 0
unfolding marks_of
marks-behind s n slots i h =
    let t = length s.table in
    let j = i - t in
    let at : t + j ≡ i = omega arith in
    let ms = marks_from s slots (replicate n 0) in
    ap (λ (k : ℕ). get_or ms k 0) (sym at) ∙ sym (get_or-drop t ms j 0) ∙ ap (λ (l : List ℕ). get_or l j 0) (from_past s slots (replicate n 0))
    ∙ get_or-drop t (replicate n 0) j 0 ∙ replicate-at {A = ℕ} n (t + j) 0

-- so only used entries are marked
pub marks-used : (s : Source) (n : ℕ) (slots : List ℕ) (i : ℕ) → 0 < get_or (marks_of s n slots) i 0 → i < length s.table
marks-used s n slots i some = go (either_way i (length s.table))
  where
    go : (i < length s.table) ⊎ (length s.table ≤ i) → i < length s.table
    go (inl h) = h
    go (inr past) = absurd (omega (arith, marks-behind s n slots i past))

-- ---- a turn over the entries that are placed
module _ (heap xs ps : List ℕ) (i : ℕ) (h : i < length xs) (g : i < length ps) where
  placed-here : 0 < get_or ps i 0 → placed_ops heap (drop i xs) (drop i ps) ≡ op_at heap (get_or xs i 0) (get_or ps i 0) ∷ placed_ops heap (drop (i + 1) xs) (drop (i + 1) ps)
  unfolding placed_ops
  placed-here some = rw (left-next xs i 0 h, left-next ps i 0 g, ne_eqb (get_or ps i 0) 0 (λ z. omega arith)) refl

  placed-next : get_or ps i 0 ≡ 0 → placed_ops heap (drop i xs) (drop i ps) ≡ placed_ops heap (drop (i + 1) xs) (drop (i + 1) ps)
  unfolding placed_ops
  placed-next z = rw (left-next xs i 0 h, left-next ps i 0 g, eq-eqb (get_or ps i 0) 0 z) refl

-- ---- an object of a file
-- an object in the file of slot k, from position p of its object bytes on
record Lying (size : ℕ) (heap : List ℕ) (r : Label) (k p : ℕ) : Type 0 where
  high : p ≤ 2 ^ 20
  short : (stored_at p (drop p (object_part r (bytes_of_slot size heap k)))).size < 2 ^ 20
  inside : InSlot size heap k (k * size + 64 + p)

-- one that lies within its file's object bytes
object-lies : (size : ℕ) (heap : List ℕ) (r : Label) (k p : ℕ) → 64 ≤ size → size ≤ 2 ^ 20 → k * size + size ≤ length heap → r.trailer_offset ≤ size - 64
    → let o = stored_at p (drop p (object_part r (bytes_of_slot size heap k))) in
    20 + o.size ≤ o.room → Lying size heap r k p
unfolding stored_at
object-lies size heap r k p low high whole offset room =
    let part = object_part r (bytes_of_slot size heap k) in
    let stands = object-part-stands r size heap k low whole in
    let there = object-there part stands.0 heap (k * size + 64) p stands.1 room in
    let long = part_length r (bytes_of_slot size heap k) in
    let left = length-drop p part in
    record {
      high = omega (arith, room, long, left);
      short = omega (arith, room, long, left);
      inside = record { behind = omega arith; inside = omega (arith, there.size, room, long, left) };
    }

-- one whose checksum and id are right: its bytes are its own
object-stands : (size : ℕ) (heap : List ℕ) (r : Label) (k p id : ℕ) → 64 ≤ size → k * size + size ≤ length heap → Bytes heap
    → let o = stored_at p (drop p (object_part r (bytes_of_slot size heap k))) in
    20 + o.size ≤ o.room → bad_checksum o ≡ false → o.id ≡ id → Stands heap id (k * size + 64 + p)
unfolding Stands
object-stands size heap r k p id low whole bytes room sum same =
    let at = k * size + 64 in
    let part = object_part r (bytes_of_slot size heap k) in
    let stands = object-part-stands r size heap k low whole in
    let there = object-there part stands.0 heap at p stands.1 room in
    let size' = length_at heap (at + p) in
    let body = take size' (drop (at + p + 20) heap) in
    let front : take (length part) (drop at heap) ≡ part = ap (take (length part)) (sym stands.1) ∙ take_at part stands.0 (length part) refl in
    let known : Bytes (drop p part) = subst (λ (x : List ℕ). Bytes (drop p x)) front (part_bytes at (length part) p heap bytes) in
    let begins = reads-begins p (drop p part) id body known
    (record { room = omega (arith, room, stored-room p (drop p part)); checksum = sum; its-id = same; its-body = sym there.body }) in
    let long : length body ≡ size' = length-take-le size' (drop (at + p + 20) heap) (omega (arith, there.inside, length-drop (at + p + 20) heap)) in
    there.bytes ∙ ap (take (20 + size')) begins.is ∙ take_at (object_bytes id body) begins.rest (20 + size') (object-length id body ∙ ap (λ (n : ℕ). 20 + n) long)

module _ (limit size : ℕ) (heap : List ℕ) (records : List Record) (plan : List ℕ) (generation : ℕ) (table : Table) (n : ℕ) where
  -- the group's source, the table's ids and locations, the lsns of its files, its slots, and its marks
  abbrev from : Source
  from = source size heap records (used_entries table)

  abbrev is : List ℕ
  is = table_ids table

  abbrev ls : List ℕ
  ls = table_locations table

  abbrev lsns : List ℕ
  lsns = lsns_of records

  -- as many of the one as of the other
  same_count : length ls ≡ length is
  same_count = locations-count table ∙ sym (ids-count table)

  abbrev slots : List ℕ
  slots = planned plan generation

  abbrev marks : List ℕ
  marks = marks_of from n slots

  -- entry i of the table
  abbrev entry_at : ℕ → Entry
  entry_at i = get_or (used_entries table) i no_entry

  -- what load tells of it
  abbrev loaded : ℕ → Loaded
  loaded i = loaded_of (Some (get_or ls i 0))

  -- the place in slot k of an entry of which load tells that
  abbrev place : Loaded → ℕ → ℕ
  place o k = place_for size lsns o (suc k)

  -- entry i with the mark of slot k, if load tells that of it
  record Stood (i k : ℕ) (o : Loaded) : Type 0 where
    some : 0 < place o k
    op : op_at heap (get_or is i 0) (place o k) ≡ record { id = (entry_at i).id; content = content_at from (entry_at i).location k }
    slot : k < 256
    file : InFile (get_or lsns k 0) o
    kept : 1 < place o k → Kept size heap plan generation (place o k)
    stands : 1 < place o k → Stands heap (get_or is i 0) (place o k)

  module _ (a : Checked limit size heap records plan generation table n) where
    fits : length (used_entries table) ≤ n
    fits = omega (arith, used-length table, ids-count table, a.wide)

    -- a delete
    stood-delete : (i k : ℕ) → i < length (used_entries table) → k < 256 → loaded i ≡ DeletedAt (get_or ls i 0) → Stood i k (DeletedAt (get_or ls i 0))
    unfolding content_at
    stood-delete i k h few told =
        let is_one = place-gone size lsns (get_or ls i 0) k in
        let next : suc k ≡ k + 1 = omega arith in
        let content : loaded_content from (loaded_of (Some (entry_at i).location)) k ≡ delete =
        ap (λ (l : ℕ). loaded_content from (loaded_of (Some l)) k) (sym (used-location table i h)) ∙ ap (λ (o : Loaded). loaded_content from o k) told in
        record {
          some = omega (arith, is_one);
          op = place-delete size heap lsns (get_or ls i 0) k (suc k) next (get_or is i 0) ∙ ap₂ (λ (x : ℕ) (c : Content). record { id = x; content = c }) (used-id table i h) (sym content);
          slot = few;
          file = tt;
          kept = λ more. absurd (omega (arith, is_one));
          stands = λ more. absurd (omega (arith, is_one));
        }

    -- an object
    stood-object : (i k : ℕ) → i < length (used_entries table) → k < 256 → get_or plan k 0 ≡ generation → loaded i ≡ At (get_or ls i 0) → Moves limit from (entry_at i) k
        → Stood i k (At (get_or ls i 0))
    unfolding content_at
    stood-object i k h few chosen told moves =
        let location = get_or ls i 0 in
        let r = (record_at records k).label in
        let lsn : get_or lsns k 0 ≡ r.lsn = get_or-map (λ (q : Record). q.label.lsn) records k empty_record in
        let at : location ≡ (entry_at i).location = used-location table i h in
        let p = position_of location - get_or lsns k 0 in
        let same : position_of (entry_at i).location - r.lsn ≡ p = ap₂ (λ (l m : ℕ). position_of l - m) (sym at) (sym lsn) in
        let part = object_part r (bytes_of_slot size heap k) in
        let room : 20 + (stored_at p (drop p part)).size ≤ (stored_at p (drop p part)).room =
        subst (λ (m : ℕ). 20 + (stored_at m (drop m part)).size ≤ (stored_at m (drop m part)).room) same moves.whole.room in
        let sum : bad_checksum (stored_at p (drop p part)) ≡ false = subst (λ (m : ℕ). bad_checksum (stored_at m (drop m part)) ≡ false) same moves.whole.sum in
        let its-id : (stored_at p (drop p part)).id ≡ get_or is i 0 =
        subst (λ (m : ℕ). (stored_at m (drop m part)).id ≡ (entry_at i).id) same moves.same ∙ sym (used-id table i h) in
        let whole = a.ready.standing k chosen in
        let lies = object-lies size heap r k p a.low a.high whole (omega (arith, (a.ready.files k).offset, (a.ready.files k).inside)) room in
        let next : suc k ≡ k + 1 = omega arith in
        let stands = place-object size heap lsns location k (suc k) next (get_or is i 0) r a.low whole room lies.short in
        let is_at = place-object-is size lsns location k in
        let there : position_of location - r.lsn ≡ p = ap (λ (m : ℕ). position_of location - m) (sym lsn) in
        let content : loaded_content from (loaded_of (Some (entry_at i).location)) k ≡ put (stored_at p (drop p part)).body =
        ap (λ (l : ℕ). loaded_content from (loaded_of (Some l)) k) (sym at) ∙ ap (λ (o : Loaded). loaded_content from o k) told
        ∙ ap (λ (m : ℕ). put (stored_at m (drop m part)).body) there in
        record {
          some = omega (arith, is_at);
          op = stands.0 ∙ ap₂ (λ (x : ℕ) (c : Content). record { id = x; content = c }) (used-id table i h) (sym content);
          slot = few;
          file = (omega (arith, lsn, ap position_of at, moves.low), lies.high);
          kept = λ more. (stands.1, (k, chosen, few, subst (InSlot size heap k) (sym is_at) lies.inside));
          stands = λ more. subst (Stands heap (get_or is i 0)) (sym is_at) (object-stands size heap r k p (get_or is i 0) a.low whole a.bytes room sum its-id);
        }

    -- every mark is of a slot where the entry stands
    stood : (i k : ℕ) → i < length (used_entries table) → get_or marks i 0 ≡ suc k → Stood i k (loaded i)
    stood i k h e =
        let w = marks-backed limit from (λ (j : ℕ). (j < length plan) × (get_or plan j 0 ≡ generation)) slots n (used-rising table a.formed) fits a.clear (planned-all plan generation) i k h e in
        let few : k < 256 = omega (arith, w.0.0, a.ready.slots) in
        either-kind (λ (o : Loaded). loaded i ≡ o → Stood i k o) (get_or ls i 0) (stood-delete i k h few)
        (λ told. stood-object i k h few w.0.1 told (w.1 (subst (λ (l : ℕ). loaded_of (Some l) ≡ At l) (used-location table i h) told))) refl

    -- an entry behind the used ones has no mark
    unmarked : (i k : ℕ) → length (used_entries table) ≤ i → get_or marks i 0 ≡ suc k → ⊥
    unmarked i k past e = omega (arith, marks-behind from n slots i past, e)

    -- so every mark can be turned into a place
    placeable : length lsns ≡ 256 → (i : ℕ) → Placeable lsns (loaded i) (get_or marks i 0)
    placeable all i = go (either_way i (length (used_entries table))) (get_or marks i 0) refl
      where
        go : (i < length (used_entries table)) ⊎ (length (used_entries table) ≤ i) → (m : ℕ) → get_or marks i 0 ≡ m → Placeable lsns (loaded i) m
        go w zero e = record { slots = all; slot = omega arith; file = λ some. absurd (not-suc-le-zero some) }
        go (inr past) (suc k) e = absurd (unmarked i k past e)
        go (inl inside) (suc k) e =
            let w = stood i k inside e in
            let back : suc k - 1 ≡ k = omega arith in
            record { slots = all; slot = omega (arith, w.slot); file = λ some. rw back w.file }

    -- by lists that are the lsns and the marks
    pub placeables : (ns ms old : List ℕ) → length ns ≡ 256 → ns ≡ lsns → ms ≡ marks → length is ≤ length old → Placeables ns ls ms old
    placeables ns ms old all e f room = record {
      marks = omega (arith, same_count, a.wide, marks-length from n slots, ap length f);
      room = omega (arith, same_count);
      each = λ i h. rw (e, f) (placeable (ap length (sym e) ∙ all) i);
    }

    -- ---- the places of all entries, put into zeros
    module _ (m : ℕ) (room : length is ≤ m) where
      abbrev places : List ℕ
      places = front (places_for size lsns ls marks) (replicate m 0)

      place_at : (i : ℕ) → i < length is → get_or places i 0 ≡ place_for size lsns (loaded i) (get_or marks i 0)
      place_at i h =
          front-zero (places_for size lsns ls marks) m i
          ∙ places-at size lsns ls marks i (omega (arith, same_count)) (omega (arith, a.wide, marks-length from n slots))

      -- none behind the used entries
      place-behind : (i : ℕ) → length (used_entries table) ≤ i → get_or places i 0 ≡ 0
      place-behind i past = go (either_way i (length is))
        where
          go : (i < length is) ⊎ (length is ≤ i) → get_or places i 0 ≡ 0
          go (inl h) = place_at i h ∙ ap (place_for size lsns (loaded i)) (marks-behind from n slots i past) ∙ place_none size lsns (loaded i)
          go (inr h) =
              let few : length (places_for size lsns ls marks) ≤ i =
              omega (arith, places-length size lsns ls marks (omega (arith, same_count, a.wide, marks-length from n slots)), same_count) in
              front-zero (places_for size lsns ls marks) m i ∙ get_or-eq_default (places_for size lsns ls marks) 0 {n = i} few

      pub places-used : OfUsed table places
      places-used i some = go (either_way i (length (used_entries table)))
        where
          go : (i < length (used_entries table)) ⊎ (length (used_entries table) ≤ i) → i < length (used_entries table)
          go (inl h) = h
          go (inr past) = absurd (omega (arith, place-behind i past))

      -- the place of entry i, by its mark
      marked-place : (i k : ℕ) → i < length (used_entries table) → get_or marks i 0 ≡ k → get_or places i 0 ≡ place_for size lsns (loaded i) k
      marked-place i k h e = place_at i (omega (arith, used-length table, ids-count table)) ∙ ap (place_for size lsns (loaded i)) e

      -- what holds of every place where an entry stands holds of each that is an object's
      of-stood : (P : ℕ → ℕ → Type 0) → ((i k : ℕ) → Stood i k (loaded i) → 1 < place (loaded i) k → P (get_or is i 0) (place (loaded i) k))
          → (i : ℕ) → 1 < get_or places i 0 → P (get_or is i 0) (get_or places i 0)
      of-stood P f i more = go (places-used i (omega arith)) (get_or marks i 0) refl
        where
          go : i < length (used_entries table) → (k : ℕ) → get_or marks i 0 ≡ k → P (get_or is i 0) (get_or places i 0)
          go h zero e = absurd (omega (arith, marked-place i 0 h e, place_none size lsns (loaded i)))
          go h (suc k) e =
              let at = marked-place i (suc k) h e in
              subst (P (get_or is i 0)) (sym at) (f i k (stood i k h e) (omega (arith, at)))

      pub places-kept : InGroup size heap plan generation places
      places-kept = of-stood (λ (id p : ℕ). Kept size heap plan generation p) (λ i k s. s.kept)

      pub places-stand : AllStand heap is places
      places-stand = of-stood (Stands heap) (λ i k s. s.stands)

      pub places-standing : Standing heap places
      places-standing i more = (places-kept i more).0

      wide-places : length is ≤ length places
      wide-places =
          let few = places-length size lsns ls marks (omega (arith, same_count, a.wide, marks-length from n slots)) in
          let zeros = length-replicate {A = ℕ} m 0 in
          omega (arith, few, zeros, same_count, front_length (replicate m 0) (places_for size lsns ls marks) (omega (arith, few, zeros, same_count)))

      -- the lists are as long as the used entries
      of-ids : (i : ℕ) → i < length (used_entries table) → i < length is
      of-ids i h = omega (arith, used-length table, ids-count table)

      of_places : (i : ℕ) → i < length (used_entries table) → i < length places
      of_places i h = omega (arith, used-length table, ids-count table, wide-places)

      of-marks : (i : ℕ) → i < length (used_entries table) → i < length marks
      of-marks i h = omega (arith, fits, marks-length from n slots)

      -- nothing stands behind the used entries
      placed_past : (i : ℕ) → length (used_entries table) ≤ i → placed_ops heap (drop i is) (drop i places) ≡ marked_ops from (drop i (used_entries table)) (drop i marks)
      placed_past i past =
          placed-none heap (drop i is) (drop i places) (λ j. get_or-drop i places j 0 ∙ place-behind (i + j) (omega arith))
          ∙ sym (marked-end from (used_entries table) marks i past)

      -- entry by entry, what stands at the places is what is marked
      placed-from : (left i : ℕ) → length (used_entries table) ≤ i + left → placed_ops heap (drop i is) (drop i places) ≡ marked_ops from (drop i (used_entries table)) (drop i marks)
      placed-from zero i h = placed_past i (omega arith)
      placed-from (suc left) i h = go (either_way i (length (used_entries table))) (get_or marks i 0) refl (placed-from left (i + 1) (omega arith))
        where
          rest : Type 0
          rest = placed_ops heap (drop (i + 1) is) (drop (i + 1) places) ≡ marked_ops from (drop (i + 1) (used_entries table)) (drop (i + 1) marks)

          go : (i < length (used_entries table)) ⊎ (length (used_entries table) ≤ i) → (k : ℕ) → get_or marks i 0 ≡ k → rest
              → placed_ops heap (drop i is) (drop i places) ≡ marked_ops from (drop i (used_entries table)) (drop i marks)
          go (inr past) k e ih = placed_past i past
          go (inl inside) zero e ih =
              let none = marked-place i 0 inside e ∙ place_none size lsns (loaded i) in
              placed-next heap is places i (of-ids i inside) (of_places i inside) none ∙ ih ∙ sym (marked_next from (used_entries table) marks i inside (of-marks i inside) e)
          go (inl inside) (suc k) e ih =
              let at = marked-place i (suc k) inside e in
              let w = stood i k inside e in
              placed-here heap is places i (of-ids i inside) (of_places i inside) (omega (arith, at, w.some))
              ∙ ap₂ (λ (o : Op) (os : List Op). o ∷ os) (ap (op_at heap (get_or is i 0)) at ∙ w.op) ih
              ∙ sym (marked-here from (used_entries table) marks i inside (of-marks i inside) k e)

      -- "one found twice only once, as last found"
      pub placed-found : placed_ops heap is places ≡ settled (each (found_at from) slots)
      placed-found = placed-from (length (used_entries table)) 0 (omega arith) ∙ marked-settled from slots n (used-rising table a.formed) fits

    -- ---- what is known of the places, once they are put into a list of zeros
    abbrev Told : List ℕ → Type 0
    Told ps = (placed_ops heap is ps ≡ settled (each (found_at from) slots)) × (OfUsed table ps × (Standing heap ps × (InGroup size heap plan generation ps × AllStand heap is ps)))

    pub places-told : (old ps : List ℕ) → length is ≤ length old → old ≡ replicate (length old) 0 → ps ≡ front (places_for size lsns ls marks) old → Told ps
    places-told old ps room zeros e =
        let m = length old in
        subst Told (sym (e ∙ ap (front (places_for size lsns ls marks)) zeros)) (placed-found m room, (places-used m room, (places-standing m room, (places-kept m room, places-stand m room))))
