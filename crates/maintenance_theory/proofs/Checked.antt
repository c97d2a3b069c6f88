-- On a store of the invariant a file of a group is refused with 3 only, where an object of it is of max_object_size or more.
use Rattle.std.specs.Prelude.{◌≡◌, refl, ◌⊎◌, ◌<◌, ◌∷◌, ◌++◌, ◌+◌, ◌*◌, ◌^◌, Err, None, Some}
use Rattle.std.proofs.Common.{sym, ◌∙◌, subst, true≢false, inl, inr, arith}
use Rattle.std.proofs.lemmas.Bool.{lt-leb}
use Rattle.rules.specs.Base.{Bool, true, false, List, [], ℕ, leb, any, keep, pick, each}
use Rattle.theory.specs.Types.{Entry, Record, Refusal, ObjectSize, Held}
use Rattle.disk_location.specs.Locations.{masked_of, position_of, delete_of, raw_of}
use Rattle.rules.specs.BaseLaws.{All}
use Rattle.rules.proofs.BaseLaws.{all_append, any-clear, or-holds}
use Rattle.rules.specs.Refusal.{Test, ◌gives◌, decide, NoneHolds}
use Rattle.rules.proofs.RefusalLaws.{none-append}
use Rattle.rules.specs.Object.{Stored, objects_in}
use Rattle.rules.specs.Trailer.{trailer_tests}
use Rattle.rules.specs.Ops.{Op}
use Rattle.rules.specs.SlotFile.{object_part, trailer_part, trailer_entries, File, holds}
use Rattle.rules.specs.Read.{object_tests}
use Rattle.rules.specs.Table.{lookup, loaded_of, load, never_written}
use Rattle.rules.specs.TableLaws.{Has}
use Rattle.rules.proofs.TableLaws.{never-unmapped}
use Rattle.rules.specs.FileMap.{record_at}
use Rattle.rules.proofs.FileMapLaws.{not-empty}
use Rattle.rules.specs.Maintenance.{moved_tests, delete_tests, deletes_of, file_tests, slot_of, source_tests}
use Rattle.rules.specs.World.{World, records_of, mappings}
use Rattle.theory.specs.Newest.{Newest}
use Rattle.theory.specs.Places.{view_at, rows_of, WellMade}
use Rattle.theory.proofs.Places.{kinds, record-holds, stands-has}
use Rattle.theory.specs.Picture.{views_of, picture_of}
use Rattle.theory.proofs.Sound.{table-newest}
use Rattle.theory.specs.SoundWorld.{bounds_of, SoundWorld, SmallWorld}
use Rattle.theory.proofs.SoundWorld.{shown}
use Rattle.history_theory.specs.Writing.{engine}
use Rattle.history_theory.proofs.Pruning.{file-slot}
use Rattle.theory.proofs.Lists.{all-each, all_among}
use Rattle.maintenance_theory.specs.Checked.{Oversized, OnlySize}

-- a small store has none
pub not-oversized : (w : World) → SmallWorld w → (ks : List ℕ) → Oversized w ks → ⊥
not-oversized w small ks o =
    true≢false (sym o.large ∙ any-clear (λ (c : Stored). leb w.settings.max_object_size c.size) (objects_in o.file.objects) (small o.slot o.file o.shows))

any-first : {A : Type 0} (p : A → Bool) (x : A) (xs : List A) → p x ≡ true → any p (x ∷ xs) ≡ true
unfolding any
any-first p x xs e = or-holds (p x) (any p xs) (inl e)

any-later : {A : Type 0} (p : A → Bool) (x : A) (xs : List A) → any p xs ≡ true → any p (x ∷ xs) ≡ true
unfolding any
any-later p x xs e = or-holds (p x) (any p xs) (inr e)

-- no test of any element
none_each : {A : Type 0} (f : A → List Test) (xs : List A) → All (λ (x : A). NoneHolds (f x)) xs → NoneHolds (each f xs)
unfolding each NoneHolds
none_each f [] h = tt
none_each f (x ∷ xs) h = none-append (f x) (each f xs) h.0 (none_each f xs h.1)

none_only : (X : Type 0) (ts : List Test) → NoneHolds ts → All (OnlySize X) ts
unfolding NoneHolds
none_only X [] n = tt
none_only X (b gives r ∷ ts) n = (inl n.0, none_only X ts n.1)

-- what comes before the others decides only with 3
pub only-decides : (X : Type 0) (ts us : List Test) (r : Refusal) → All (OnlySize X) ts → decide (ts ++ us) ≡ Err r → ((r ≡ ObjectSize) × X) ⊎ (decide us ≡ Err r)
unfolding decide
only-decides X [] us r a e = inr e
only-decides X (true gives q ∷ ts) us r a e = go a.0
  where
    go : (true ≡ false) ⊎ ((q ≡ ObjectSize) × X) → ((r ≡ ObjectSize) × X) ⊎ (decide us ≡ Err r)
    go (inl z) = absurd (true≢false z)
    go (inr (z, x)) = let y : q ≡ r = cc in inl (sym y ∙ z, x)
only-decides X (false gives q ∷ ts) us r a e = only-decides X ts us r a.1 e

-- a whole object of a mapped id
moved-only : (X : Type 0) (limit : ℕ) (table : List Entry) (o : Stored) → NoneHolds (object_tests o.id o) → never_written (load table o.id) ≡ false → (leb limit o.size ≡ true → X)
    → All (OnlySize X) (moved_tests limit table o)
unfolding moved_tests object_tests NoneHolds
moved-only X limit table o n mapped large = (inl n.0, (size (leb limit o.size) refl, (inl mapped, (inl n.1.0, (inl n.1.1.0, tt)))))
  where
    size : (b : Bool) → leb limit o.size ≡ b → (leb limit o.size ≡ false) ⊎ ((ObjectSize ≡ ObjectSize) × X)
    size true e = inr (refl, large e)
    size false e = inl e

-- delete entries: of a mapped id, with a sum below 2^63
deletes-clear : (lsn : ℕ) (table : List Entry) (es : List Entry) → ((x l : ℕ) → Has es x l → (position_of l + lsn < 2 ^ 63) × (never_written (load table x) ≡ false))
    → All (λ (e : Entry). NoneHolds (delete_tests lsn table e)) (keep (λ (e : Entry). delete_of e.location) es)
unfolding keep delete_tests NoneHolds
deletes-clear lsn table [] h = tt
deletes-clear lsn table (e ∷ es) h = go (delete_of e.location) (h e.id e.location (inl (refl, refl))) (deletes-clear lsn table es (λ x l a. h x l (inr a)))
  where
    go : (b : Bool) → (position_of e.location + lsn < 2 ^ 63) × (never_written (load table e.id) ≡ false)
        → All (λ (d : Entry). NoneHolds (delete_tests lsn table d)) (keep (λ (d : Entry). delete_of d.location) es)
        → All (λ (d : Entry). NoneHolds (delete_tests lsn table d)) (pick b (e ∷ keep (λ (d : Entry). delete_of d.location) es) (keep (λ (d : Entry). delete_of d.location) es))
    go true w ih = ((lt-leb (2 ^ 63) (position_of e.location + lsn) w.0, (w.1, tt)), ih)
    go false w ih = ih

module _ (w : World) (history : List Op) (s : SoundWorld w (engine history)) where
  -- an id that a trailer mentions is mapped
  mentioned-mapped : (k : ℕ) (f : File) → view_at (views_of w) k ≡ holds f → (x l : ℕ) → Has f.entries x l → never_written (load (mappings w) x) ≡ false
  mentioned-mapped k f h x l a = go (lookup (mappings w) x) (table-newest (bounds_of w) (picture_of w) (engine history) s.sound x)
    where
      go : (o : Held) → Newest (Has (rows_of (views_of w)) x) o → never_written (loaded_of o) ≡ false
      go (Some m) n = never-unmapped (Some m)
      go None n =
          absurd (n (l + 2 * f.label.lsn) (stands-has (views_of w) x (l + 2 * f.label.lsn) k (record { file = f; raw = l; shows = h; entry = a; located = refl })))

  sum_fits : (f : File) → WellMade f → (x l : ℕ) → Has f.entries x l → position_of l + f.label.lsn < 2 ^ 63
  sum_fits f m x l a = go (kinds f.label.lsn m.low)
    where
      go : (f.label.lsn ≡ masked_of f.label.lsn) ⊎ (f.label.lsn ≡ masked_of f.label.lsn + 2 ^ 62) → position_of l + f.label.lsn < 2 ^ 63
      go (inl e) = let i = m.inside x l a in let b = m.within in omega arith
      go (inr e) = let i = m.inside x l a in let b = m.within in omega arith

  -- LAW: 9, 10, 11, 16, 18 and 20 refuse no file; 3 only one with an object of max_object_size or more
  shown-only : (k : ℕ) (f : File) → view_at (views_of w) k ≡ holds f → (X : Type 0) → (any (λ (o : Stored). leb w.settings.max_object_size o.size) (objects_in f.objects) ≡ true → X)
      → All (OnlySize X) (file_tests w.settings.max_object_size (mappings w) f.label (slot_of w k))
  unfolding file_tests deletes_of
  shown-only k f h X large =
      all_append (OnlySize X) (trailer_tests (trailer_part f.label (slot_of w k))) _ (none_only X _ (shown w k f h).1.trailer)
      (all_append (OnlySize X) (each (moved_tests w.settings.max_object_size (mappings w)) (objects_in (object_part f.label (slot_of w k)))) _
      (all-each (OnlySize X) (moved_tests w.settings.max_object_size (mappings w)) (objects_in (object_part f.label (slot_of w k)))
      (subst (λ (bs : List ℕ). All (λ (o : Stored). All (OnlySize X) (moved_tests w.settings.max_object_size (mappings w) o)) (objects_in bs)) (sym (shown w k f h).1.objects)
      (objects (objects_in f.objects) (s.sound.whole k f h).walked (s.sound.whole k f h).entered large)))
      (none_only X _ (none_each (delete_tests f.label.lsn (mappings w)) (keep (λ (e : Entry). delete_of e.location) (trailer_entries f.label (slot_of w k)))
      (subst (λ (es : List Entry). All (λ (e : Entry). NoneHolds (delete_tests f.label.lsn (mappings w) e)) (keep (λ (e : Entry). delete_of e.location) es)) (sym (shown w k f h).1.entries)
      (deletes-clear f.label.lsn (mappings w) f.entries (λ x l a. (sum_fits f (s.sound.filed.made k f h) x l a, mentioned-mapped k f h x l a)))))))
    where
      objects : (os : List Stored) → All (λ (o : Stored). NoneHolds (object_tests o.id o)) os → All (λ (o : Stored). Has f.entries o.id (raw_of o.position false)) os
          → (any (λ (o : Stored). leb w.settings.max_object_size o.size) os ≡ true → X) → All (λ (o : Stored). All (OnlySize X) (moved_tests w.settings.max_object_size (mappings w) o)) os
      objects [] a b large = tt
      objects (o ∷ os) a b large = (
        moved-only X w.settings.max_object_size (mappings w) o a.0 (mentioned-mapped k f h o.id (raw_of o.position false) b.0) (λ z. large (any-first (λ (c : Stored). leb w.settings.max_object_size c.size) o os z)),
        objects os a.1 b.1 (λ z. large (any-later (λ (c : Stored). leb w.settings.max_object_size c.size) o os z)),
      )

  -- LAW: so of the files of a group
  pub group-only : (ks : List ℕ) → All (λ (k : ℕ). 0 < (record_at (records_of w) k).label.lsn) ks
      → All (OnlySize (Oversized w ks)) (source_tests w ks)
  group-only ks files =
      all-each (OnlySize (Oversized w ks)) (λ (k : ℕ). file_tests w.settings.max_object_size (mappings w) (record_at (records_of w) k).label (slot_of w k)) ks
      (all_among (λ (k : ℕ). 0 < (record_at (records_of w) k).label.lsn) (λ (k : ℕ). All (OnlySize (Oversized w ks)) (file_tests w.settings.max_object_size (mappings w) (record_at (records_of w) k).label (slot_of w k))) ks
      (λ k a some.
      let z = file-slot w (engine history) s k (not-empty (record_at (records_of w) k) some) in
      subst (λ (r : Record). All (OnlySize (Oversized w ks)) (file_tests w.settings.max_object_size (mappings w) r.label (slot_of w k)))
      (sym (record-holds (views_of w) (records_of w) s.sound.filed k z.0 z.1))
      (shown-only k z.0 z.1 (Oversized w ks) (λ large. record { slot = k; among = a; file = z.0; shows = z.1; large = large })))
      files)
