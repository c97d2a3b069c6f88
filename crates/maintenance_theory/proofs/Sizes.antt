-- 3 refuses a group exactly where an object of its files is of max_object_size or more.
use Rattle.std.specs.Prelude.{◌≡◌, refl, ◌⊎◌, ◌<◌, ◌∷◌, ◌++◌, Err}
use Rattle.std.proofs.Math.Path.{sym, subst}
use Rattle.std.proofs.Common.{ap, ◌∙◌, inl, inr, ⊎_elim}
use Rattle.std.proofs.Math.Bool.{true≢false}
use Rattle.rules.specs.Base.{true, false, List, [], ℕ, leb, any, each}
use Rattle.theory.specs.Types.{Entry, Record, Settings, ObjectSize}
use Rattle.rules.specs.BaseLaws.{All}
use Rattle.rules.proofs.BaseLaws.{or-clear}
use Rattle.rules.specs.Refusal.{Test, ◌gives◌, decide, NoneHolds}
use Rattle.rules.proofs.RefusalLaws.{none_first, none_rest}
use Rattle.rules.specs.Object.{Stored, objects_in}
use Rattle.rules.specs.Trailer.{trailer_tests}
use Rattle.rules.specs.Ops.{Op}
use Rattle.rules.specs.SlotFile.{object_part, trailer_part, holds}
use Rattle.rules.specs.FileMap.{record_at}
use Rattle.rules.specs.FileMapLaws.{Among}
use Rattle.rules.proofs.FileMapLaws.{not-empty}
use Rattle.rules.specs.Maintenance.{moved_tests, file_tests, slot_of, source_tests}
use Rattle.rules.specs.MaintenanceLaws.{SourcesPass}
use Rattle.rules.specs.World.{World, records_of, mappings}
use Rattle.theory.proofs.Places.{holds-inj, record-holds}
use Rattle.theory.specs.Picture.{views_of}
use Rattle.theory.specs.SoundWorld.{SoundWorld}
use Rattle.theory.proofs.SoundWorld.{shown}
use Rattle.history_theory.specs.Writing.{engine}
use Rattle.history_theory.proofs.Pruning.{file-slot}
use Rattle.theory.proofs.Lists.{among-get}
use Rattle.maintenance_theory.specs.Checked.{Oversized, OnlySize}
use Rattle.maintenance_theory.proofs.Checked.{group-only}
use Rattle.maintenance_theory.specs.Stopping.{Remain}

-- where 3 alone can refuse, it does, or nothing holds
only-splits : (X : Type 0) (ts us : List Test) → All (OnlySize X) ts → ((decide (ts ++ us) ≡ Err ObjectSize) × X) ⊎ NoneHolds ts
unfolding decide NoneHolds
only-splits X [] us a = inr tt
only-splits X (true gives r ∷ ts) us a = ⊎_elim (λ e. absurd (true≢false e)) (λ z. inl (ap Err z.0, z.1)) a.0
only-splits X (false gives r ∷ ts) us a = ⊎_elim inl (λ n. inr (refl, n)) (only-splits X ts us a.1)

-- no test of any, so none of one
one_none : (f : ℕ → List Test) (ks : List ℕ) → NoneHolds (each f ks) → (k : ℕ) → Among ks k → NoneHolds (f k)
unfolding each
one_none f [] n k a = absurd a
one_none f (j ∷ ks) n k (inl e) = subst (λ (i : ℕ). NoneHolds (f i)) e (none_first (f j) (each f ks) n)
one_none f (j ∷ ks) n k (inr a) = one_none f ks (none_rest (f j) (each f ks) n) k a

-- none is of max_object_size or more
none-large : (limit : ℕ) (table : List Entry) (os : List Stored) → NoneHolds (each (moved_tests limit table) os) → any (λ (o : Stored). leb limit o.size) os ≡ false
unfolding each any moved_tests NoneHolds
none-large limit table [] n = refl
none-large limit table (o ∷ os) n = or-clear (leb limit o.size) _ n.1.0 (none-large limit table os (none_rest (moved_tests limit table o) (each (moved_tests limit table) os) n))

module _ (w : World) (history : List Op) (s : SoundWorld w (engine history)) (ks : List ℕ) where
  -- LAW: the files of a group are refused with 3, for an object of that size, or pass
  pub sources-decided : All (λ (k : ℕ). 0 < (record_at (records_of w) k).label.lsn) ks → (us : List Test)
      → ((decide (source_tests w ks ++ us) ≡ Err ObjectSize) × Oversized w ks) ⊎ SourcesPass w ks
  sources-decided files us = only-splits (Oversized w ks) _ us (group-only w history s ks files)

  -- LAW: and where they pass there is none
  pub passed-small : SourcesPass w ks → Oversized w ks → ⊥
  unfolding file_tests
  passed-small n o =
      let a = one_none (λ (k : ℕ). file_tests w.settings.max_object_size (mappings w) (record_at (records_of w) k).label (slot_of w k)) ks n o.slot o.among in
      let b = subst (λ (r : Record). NoneHolds (file_tests w.settings.max_object_size (mappings w) r.label (slot_of w o.slot))) (record-holds (views_of w) (records_of w) s.sound.filed o.slot o.file o.shows) a in
      let c = none_first (each (moved_tests w.settings.max_object_size (mappings w)) (objects_in (object_part o.file.label (slot_of w o.slot)))) _
      (none_rest (trailer_tests (trailer_part o.file.label (slot_of w o.slot))) _ b) in
      true≢false (
      sym o.large
      ∙ sym (ap (λ (bs : List ℕ). any (λ (d : Stored). leb w.settings.max_object_size d.size) (objects_in bs)) (shown w o.slot o.file o.shows).1.objects)
      ∙ none-large w.settings.max_object_size (mappings w) (objects_in (object_part o.file.label (slot_of w o.slot))) c)

-- ---- the same files, in a store where they remain
pub oversized-later : (w v : World) (ks : List ℕ) → Remain w v → v.settings ≡ w.settings → Oversized w ks → Oversized v ks
oversized-later w v ks r e o = record {
  slot = o.slot;
  among = o.among;
  file = o.file;
  shows = r o.slot o.file o.shows;
  large = subst (λ (c : Settings). any (λ (b : Stored). leb c.max_object_size b.size) (objects_in o.file.objects) ≡ true) (sym e) o.large;
}

-- and back
pub oversized-earlier : (history : List Op) (w v : World) → SoundWorld w (engine history) → (ks : List ℕ) → All (λ (k : ℕ). 0 < (record_at (records_of w) k).label.lsn) ks → Remain w v → v.settings ≡ w.settings
    → Oversized v ks → Oversized w ks
oversized-earlier history w v s ks files r e o =
    let z = file-slot w (engine history) s o.slot (not-empty (record_at (records_of w) o.slot) (among-get (λ (k : ℕ). 0 < (record_at (records_of w) k).label.lsn) ks files o.slot o.among)) in
    record {
      slot = o.slot;
      among = o.among;
      file = o.file;
      shows = z.1 ∙ ap holds (holds-inj (sym (r o.slot z.0 z.1) ∙ o.shows));
      large = subst (λ (c : Settings). any (λ (b : Stored). leb c.max_object_size b.size) (objects_in o.file.objects) ≡ true) e o.large;
    }
