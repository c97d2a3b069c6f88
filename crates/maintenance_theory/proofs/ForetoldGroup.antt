-- P7: what a group of files takes and adds, on a store of the invariant: an empty slot, a file and its bytes for each, and its positions.
use Rattle.std.specs.Prelude.{◌≡◌, refl, ◌⊎◌, ◌<◌, ◌≤◌, ◌∷◌, ◌++◌, ◌+◌, ◌^◌, Ok}
use Rattle.std.proofs.Common.{sym, ◌∙◌, subst, inl, inr, get_or-set_same, get_or-set_other}
use Rattle.std.proofs.Math.Path.{ap}
use native.Mathlib.Omega.{arith}
use Rattle.std.proofs.Math.ListN.{length-set}
use Rattle.rules.specs.Base.{Bool, true, false, List, [], ℕ, zero, suc, length, set, take, pick, sum}
use Rattle.theory.specs.Types.{Record, Label, Settings}
use Rattle.rules.specs.BaseLaws.{All}
use Rattle.rules.specs.Refusal.{decide, NoneHolds}
use Rattle.rules.proofs.RefusalLaws.{clear-when, none_first, none_rest}
use Rattle.rules.specs.Settings.{slots_in}
use Rattle.rules.specs.Ops.{Op, objects_of, file_bytes}
use Rattle.rules.specs.SlotFile.{View, empty, damaged, holds}
use Rattle.rules.specs.WrittenLaws.{file_of_ops}
use Rattle.rules.specs.FileMap.{empty_record, is_empty, record_at, with_live, slots_where, empty_slots, file_count}
use Rattle.rules.proofs.FileMapLaws.{is-empty, not-empty, empty-or-not}
use Rattle.rules.specs.Counts.{counts_of}
use Rattle.rules.specs.Install.{new_label, new_record, losing, new_slot, new_lsn, records_with, installed, installed_all, room_tests, empty_of, position_tests}
use Rattle.rules.specs.InstallLaws.{Less}
use Rattle.rules.proofs.InstallLaws.{room-clear, positions-clear, losing-length, losing-record, losing-label}
use Rattle.rules.specs.Maintenance.{found, files_of, source_tests, group_tests}
use Rattle.rules.specs.World.{World, records_of, mappings, slots_of}
use Rattle.disk_location.proofs.LocationLaws.{masked-pos}
use Rattle.theory.specs.Places.{view_at}
use Rattle.theory.proofs.Places.{record-holds, record-empty, no-damage}
use Rattle.theory.specs.Picture.{views_of, file_says}
use Rattle.theory.specs.Installed.{over}
use Rattle.theory.specs.SoundWorld.{SoundWorld}
use Rattle.theory.specs.Adding.{Fitting}
use Rattle.theory.proofs.Adding.{free-slot, sound-installed}
use Rattle.history_theory.specs.Writing.{engine}
use Rattle.history_theory.proofs.Writing.{sound-told}
use Rattle.history_theory.proofs.Pruning.{file-slot}
use Rattle.history_theory.specs.Rewriting.{empty_test, Rewritable}
use Rattle.history_theory.proofs.Rewriting.{fits-file, still-said, one_fewer, installed-numbers}
use Rattle.history_theory.proofs.Maintaining.{files-rewritable, group-rewritten}
use Rattle.maintenance_theory.proofs.Stopping.{settings-all}
use Rattle.maintenance_theory.proofs.Sufficing.{all-positions}
use Rattle.maintenance_theory.specs.ForetoldGroup.{ByLabel, Adds}

-- ---- sums over records
-- records that give the same
sum-each : (f : Record → ℕ) (rs qs : List Record) → length qs ≡ length rs → ((j : ℕ) → f (record_at qs j) ≡ f (record_at rs j)) → sum f qs ≡ sum f rs
unfolding sum
sum-each f [] [] n h = refl
sum-each f [] (q ∷ qs) n h = absurd (omega arith)
sum-each f (r ∷ rs) [] n h = absurd (omega arith)
sum-each f (r ∷ rs) (q ∷ qs) n h = let a = h 0 in let b = sum-each f rs qs (omega arith) (λ j. h (suc j)) in omega arith

-- but for the one at k
sum-other : (f : Record → ℕ) (rs qs : List Record) (k : ℕ) → length qs ≡ length rs → k < length rs → ((j : ℕ) → (j ≡ k → ⊥) → f (record_at qs j) ≡ f (record_at rs j))
    → sum f qs + f (record_at rs k) ≡ sum f rs + f (record_at qs k)
unfolding sum
sum-other f [] qs k n l h = absurd (omega arith)
sum-other f (r ∷ rs) [] k n l h = absurd (omega arith)
sum-other f (r ∷ rs) (q ∷ qs) zero n l h = let b = sum-each f rs qs (omega arith) (λ j. h (suc j) (λ z. omega arith)) in omega arith
sum-other f (r ∷ rs) (q ∷ qs) (suc k) n l h =
    let a = h 0 (λ z. omega arith) in
    let b = sum-other f rs qs k (omega arith) (omega arith) (λ j d. h (suc j) (λ z. d (omega arith))) in
    omega arith

sum_ones : (files : List (List Op)) → sum (λ (f : List Op). 1) files ≡ length files
unfolding sum
sum_ones [] = refl
sum_ones (f ∷ fs) = let a = sum_ones fs in omega arith

-- ---- every slot of the heap is a file's or empty
no-files : (rs : List Record) → ((k : ℕ) → is_empty (record_at rs k) ≡ true) → file_count rs ≡ 0
unfolding file_count sum
no-files [] h = refl
no-files (r ∷ rs) h = let a = no-files rs (λ k. h (suc k)) in rw (h 0) (omega arith)

files-and-empty : (i n : ℕ) (rs : List Record) → n ≤ length rs → ((k : ℕ) → n ≤ k → is_empty (record_at rs k) ≡ true) → file_count rs + length (slots_where empty_test i (take n rs)) ≡ n
unfolding file_count sum slots_where
files-and-empty i zero rs l h = let a = no-files rs (λ k. h k (omega arith)) in omega arith
files-and-empty i (suc n) [] l h = absurd (omega arith)
files-and-empty i (suc n) (r ∷ rs) l h = go (is_empty r) (files-and-empty (suc i) n rs (omega arith) (λ k m. h (suc k) (omega arith)))
  where
    go : (b : Bool) → file_count rs + length (slots_where empty_test (suc i) (take n rs)) ≡ n
        → (pick b 0 1 + file_count rs) + length (pick b (i ∷ slots_where empty_test (suc i) (take n rs)) (slots_where empty_test (suc i) (take n rs))) ≡ suc n
    go true e = omega arith
    go false e = omega arith

module _ (history : List Op) where
  -- LAW: files and empty slots are the heap's slots
  pub files-or-empty : (w : World) → SoundWorld w (engine history) → file_count (records_of w) + empty_of w ≡ slots_of w
  unfolding empty_slots
  files-or-empty w s =
      let m = s.tidy.limits.heap.most in
      let n = s.sound.sized in
      files-and-empty 0 (slots_of w) (records_of w) (omega arith) (λ k l. outside k l (empty-or-not (record_at (records_of w) k)))
    where
      outside : (k : ℕ) → slots_of w ≤ k → (is_empty (record_at (records_of w) k) ≡ true) ⊎ (is_empty (record_at (records_of w) k) ≡ false) → is_empty (record_at (records_of w) k) ≡ true
      outside k l (inl e) = e
      outside k l (inr e) = let z = (file-slot w (engine history) s k e).2 in absurd (omega arith)

  -- one file
  file-adds : (f : Record → ℕ) → ByLabel f → (w : World) → SoundWorld w (engine history) → (g : ℕ) (os : List Op) → Fitting 0 g w os
      → sum f (records_of (installed 0 g w os)) ≡ sum f (records_of w) + f (new_record (new_lsn 0 w) g os)
  unfolding installed records_with
  file-adds f by w s g os fit =
      let z = free-slot w (engine history) s fit.free in
      let m = s.tidy.limits.heap.most in
      let n = s.sound.sized in
      let z0 = z.0 in
      let l = losing-length (mappings w) os (records_of w) in
      let k = length-set (losing (mappings w) os (records_of w)) (new_slot w) (new_record (new_lsn 0 w) g os) in
      let a = sum-other f (records_of w) (set (losing (mappings w) os (records_of w)) (new_slot w) (new_record (new_lsn 0 w) g os)) (new_slot w) (k ∙ l) (omega arith) (λ j d.
      ap f (get_or-set_other (losing (mappings w) os (records_of w)) (new_slot w) j (new_record (new_lsn 0 w) g os) empty_record d) ∙ same j (view_at (views_of w) j) refl) in
      let b : f (record_at (records_of w) (new_slot w)) ≡ 0 = ap f (record-empty (views_of w) (records_of w) s.sound.filed (new_slot w) z.1) ∙ by.none in
      let c : f (record_at (set (losing (mappings w) os (records_of w)) (new_slot w) (new_record (new_lsn 0 w) g os)) (new_slot w)) ≡ f (new_record (new_lsn 0 w) g os)
      = ap f (get_or-set_same (losing (mappings w) os (records_of w)) (new_slot w) (new_record (new_lsn 0 w) g os) empty_record (omega arith)) in
      omega arith
    where
      still : (r q : Record) → r ≡ empty_record → Less r q → q ≡ empty_record
      still r q e l =
          let a : r.live ≡ 0 = ap (λ (c : Record). c.live) e in
          let b = l.less in
          let d : q.live ≡ 0 = omega arith in
          l.same ∙ ap (with_live r) d ∙ ap (λ (c : Record). with_live c 0) e

      same : (j : ℕ) (v : View) → view_at (views_of w) j ≡ v → f (record_at (losing (mappings w) os (records_of w)) j) ≡ f (record_at (records_of w) j)
      same j (damaged r) e = absurd (no-damage (views_of w) (records_of w) s.sound.filed j r e)
      same j empty e =
          let q = record-empty (views_of w) (records_of w) s.sound.filed j e in
          ap f (still (record_at (records_of w) j) (record_at (losing (mappings w) os (records_of w)) j) q (losing-record (mappings w) os (records_of w) j) ∙ sym q)
      same j (holds c) e =
          let q : (record_at (records_of w) j).label.lsn ≡ c.label.lsn = ap (λ (r : Record). r.label.lsn) (record-holds (views_of w) (records_of w) s.sound.filed j c e) in
          let p = masked-pos c.label.lsn (s.sound.filed.made j c e).placed in
          by.label (record_at (records_of w) j) (record_at (losing (mappings w) os (records_of w)) j) (losing-label (mappings w) os (records_of w) j) (omega arith)

  -- file by file
  files-add : (f : Record → ℕ) → ByLabel f → (n : List Op → ℕ) (g : ℕ) → ((lsn : ℕ) (os : List Op) → 0 < lsn → f (new_record lsn g os) ≡ n os)
      → (files : List (List Op)) (w : World) → SoundWorld w (engine history) → g ≤ 255 → All (Rewritable (engine history)) files
      → All (λ (f : List Op). 64 + length (file_bytes f) ≤ w.settings.slot_bytes) files → length files ≤ empty_of w
      → w.state.next_position + sum (λ (f : List Op). length (objects_of f) + 1) files ≤ 2 ^ 62
      → sum f (records_of (installed_all 0 g w files)) ≡ sum f (records_of w) + sum n files
  unfolding installed_all sum
  files-add f by n g new [] w s aged r slot free positions = omega arith
  files-add f by n g new (os ∷ oss) w s aged r slot free positions =
      let fit = fits-file history w s g os r.0 aged slot.0 (omega arith) (omega arith) in
      let m : length (objects_of os) < 2 ^ 64 = omega arith in
      let e = installed-numbers history g w os in
      let e1 = e.1 in
      let d = one_fewer 0 g w os in
      let h = s.sound.started in
      let a = file-adds f by w s g os fit in
      let c = new (new_lsn 0 w) os (omega arith) in
      let i = files-add f by n g new oss (installed 0 g w os)
      (sound-told (installed 0 g w os) (λ x. over (file_says (file_of_ops (new_lsn 0 w) g os) x) (engine history x)) (engine history)
      (λ x. still-said history os r.0 m (new_lsn 0 w) g x) (sound-installed w (engine history) s 0 g os fit))
      aged r.1
      (subst (λ (c : Settings). All (λ (f : List Op). 64 + length (file_bytes f) ≤ c.slot_bytes) oss) (sym e.0) slot.1)
      (omega arith) (omega arith) in
      omega arith

  -- those of a group, once 4, 5 and 7 are decided for all of them
  decided-add : (f : Record → ℕ) → ByLabel f → (n : List Op → ℕ) (g : ℕ) → ((lsn : ℕ) (os : List Op) → 0 < lsn → f (new_record lsn g os) ≡ n os) → g ≤ 255
      → (files : List (List Op)) (w : World) → SoundWorld w (engine history) → All (Rewritable (engine history)) files
      → NoneHolds (room_tests w.settings.slot_bytes (empty_of w) files ++ position_tests w.state.next_position files)
      → sum f (records_of (installed_all 0 g w files)) ≡ sum f (records_of w) + sum n files
  unfolding installed_all sum
  decided-add f by n g new aged [] w s r h = omega arith
  decided-add f by n g new aged (os ∷ oss) w s r h =
      let tests = room_tests w.settings.slot_bytes (empty_of w) (os ∷ oss) in
      let a = room-clear w.settings.slot_bytes (empty_of w) (os ∷ oss) (none_first tests _ h) in
      let b = positions-clear w.state.next_position (os ∷ oss) (none_rest tests _ h) (omega arith) in
      files-add f by n g new (os ∷ oss) w s aged r a.fits a.slots b

-- the heap's length, as the state keeps it, stays
heap-all : (g : ℕ) (files : List (List Op)) (w : World) → (installed_all 0 g w files).state.heap_len ≡ w.state.heap_len
unfolding installed_all installed
heap-all g [] w = refl
heap-all g (f ∷ fs) w = heap-all g fs (installed 0 g w f)

-- LAW: a group that no test refuses
pub group-adds-files : (history : List Op) (g : ℕ) → g ≤ 255 → (ks : List ℕ) (w : World) → SoundWorld w (engine history)
    → decide (group_tests w ks (files_of w.settings.target_file_size (found w ks))) ≡ Ok tt
    → Adds w (installed_all 0 g w (files_of w.settings.target_file_size (found w ks))) (files_of w.settings.target_file_size (found w ks))
unfolding group_tests file_count counts_of new_record new_label
group-adds-files history g aged ks w s e = record {
  files = let a = decided-add history (λ (r : Record). pick (is_empty r) 0 1) files-by (λ (os : List Op). 1) g (λ lsn os some. rw (not-empty (new_record lsn g os) some)) aged fs w s made clear in let b = sum_ones fs in omega arith;
  bytes = decided-add history (λ (r : Record). r.label.file_size) bytes-by (λ (ops : List Op). length (file_bytes ops)) g (λ lsn os some. refl) aged fs w s made clear;
  position = all-positions g fs w;
  slots =
      ap (λ (c : Settings). slots_in c (length (installed_all 0 g w fs).heap)) (settings-all g fs w)
      ∙ ap (slots_in w.settings) ((group-rewritten history g aged ks w s e).1.tidy.heap_len ∙ heap-all g fs w ∙ sym s.tidy.heap_len);
}
  where
    fs : List (List Op)
    fs = files_of w.settings.target_file_size (found w ks)

    made : All (Rewritable (engine history)) fs
    made = files-rewritable history w s ks w.settings.target_file_size

    clear : NoneHolds (room_tests w.settings.slot_bytes (empty_of w) fs ++ position_tests w.state.next_position fs)
    clear = none_rest (source_tests w ks) _ (clear-when (group_tests w ks fs) e)

    files-by : ByLabel (λ (r : Record). pick (is_empty r) 0 1)
    files-by = record {
      label = λ r q l some. rw (not-empty r some, not-empty q (subst (λ (c : Label). 0 < c.lsn) (sym l) some)) refl;
      none = rw is-empty refl;
    }

    bytes-by : ByLabel (λ (r : Record). r.label.file_size)
    bytes-by = record { label = λ r q l some. ap (λ (c : Label). c.file_size) l; none = refl }
