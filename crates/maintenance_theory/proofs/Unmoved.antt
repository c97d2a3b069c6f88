-- A file outside a group keeps its record while the group is rewritten.
use Rattle.std.specs.Prelude.{◌≡◌, ◌<◌, ◌≤◌, ◌∷◌, ◌+◌, ◌-◌, ◌^◌, None, Some}
use Rattle.std.proofs.Math.Path.{refl, sym, ap}
use Rattle.std.proofs.Common.{◌∙◌, subst}
use Rattle.std.proofs.Math.Nat.{sub-zero}
use native.Mathlib.Omega.{arith}
use Rattle.std.proofs.Math.Seq.{get_or-set_other}
use Rattle.rules.specs.Base.{Bool, false, List, [], ℕ, length, sum}
use Rattle.theory.specs.Types.{Entry, Record, Settings, Held}
use Rattle.disk_location.specs.Locations.{bit_of}
use Rattle.rules.specs.BaseLaws.{All}
use Rattle.rules.proofs.BaseLaws.{all_map}
use Rattle.rules.specs.Ops.{Op, objects_of, entries_of, file_bytes}
use Rattle.rules.proofs.OpsLaws.{entries-of-rising}
use Rattle.rules.specs.SlotFile.{File, empty, holds}
use Rattle.rules.specs.Table.{lookup, loaded_of, load}
use Rattle.rules.specs.TableLaws.{or_else}
use Rattle.rules.proofs.TableLaws.{lookup-has, lookup-insert-all, mapped-one}
use Rattle.rules.specs.FileMap.{empty_record, record_at, with_live, less_live}
use Rattle.rules.proofs.FileMapLaws.{not-empty}
use Rattle.rules.specs.Install.{new_record, file_holding, losing, new_slot, new_lsn, records_with, installed, installed_all, empty_of}
use Rattle.rules.specs.Reopen.{in_range}
use Rattle.rules.specs.World.{World, records_of, mappings}
use Rattle.rules.specs.WrittenLaws.{file_of_ops}
use Rattle.rules.specs.InstallLaws.{is_at}
use Rattle.rules.proofs.InstallLaws.{holding-mapped, less-at}
use Rattle.theory.proofs.Entries.{rising-absolute}
use Rattle.theory.specs.Newest.{masked_at}
use Rattle.theory.specs.Places.{view_at}
use Rattle.theory.proofs.Places.{record-holds, in-no-other, found-in-range}
use Rattle.theory.specs.Losing.{live_at, rows_for}
use Rattle.theory.proofs.Losing.{less-file}
use Rattle.theory.specs.Picture.{Picture, views_of, picture_of, file_says, added}
use Rattle.theory.proofs.Sound.{table-stands}
use Rattle.theory.specs.Installed.{over}
use Rattle.theory.proofs.Installed.{filed-added, stands-new, view-old}
use Rattle.theory.specs.SoundWorld.{bounds_of, SoundWorld}
use Rattle.theory.specs.Adding.{Fitting}
use Rattle.theory.proofs.Adding.{free-slot, addable, picture-installed, sound-installed}
use Rattle.history_theory.specs.Writing.{engine}
use Rattle.history_theory.proofs.Writing.{sound-told}
use Rattle.history_theory.proofs.Pruning.{file-slot}
use Rattle.history_theory.specs.Rewriting.{Rewritable}
use Rattle.history_theory.proofs.Rewriting.{fits-file, still-said, one_fewer, installed-numbers}
use Rattle.maintenance_theory.specs.Unmoved.{Elsewhere}

-- a file from which no id leaves keeps its record
losing-other : (t : List Entry) (os : List Op) (rs : List Record) (k : ℕ) → All (λ (o : Op). is_at k (file_holding rs (load t o.id)) ≡ false) os → record_at (losing t os rs) k ≡ record_at rs k
unfolding losing
losing-other t [] rs k a = refl
losing-other t (o ∷ os) rs k a =
    losing-other t os (less_live (file_holding rs (load t o.id)) rs) k
    (all_map (λ (p : Op). is_at k (file_holding rs (load t p.id)) ≡ false) (λ (p : Op). is_at k (file_holding (less_live (file_holding rs (load t o.id)) rs) (load t p.id)) ≡ false) os
    (λ p h. ap (is_at k) (holding (lookup t p.id)) ∙ h) a.1)
    ∙ less-at (file_holding rs (load t o.id)) rs k
    ∙ ap (λ (b : Bool). with_live (record_at rs k) (live_at rs k - bit_of b)) a.0 ∙ ap (with_live (record_at rs k)) (sub-zero (live_at rs k))
  where
    holding : (h : Held) → file_holding (less_live (file_holding rs (load t o.id)) rs) (loaded_of h) ≡ file_holding rs (loaded_of h)
    holding None = refl
    holding (Some l) =
        holding-mapped (less_live (file_holding rs (load t o.id)) rs) l ∙ less-file (file_holding rs (load t o.id)) rs l ∙ sym (holding-mapped rs l)

module _ (history : List Op) where
  module _ (w : World) (s : SoundWorld w (engine history)) (k : ℕ) (some : 0 < (record_at (records_of w) k).label.lsn) (g : ℕ) (os : List Op) (f : Fitting 0 g w os) where
    file : (c : File) × (view_at (views_of w) k ≡ holds c)
    file = let z = file-slot w (engine history) s k (not-empty (record_at (records_of w) k) some) in (z.0, z.1)

    not_new : k ≡ new_slot w → ⊥
    not_new e = let z = (free-slot w (engine history) s f.free).1 in no (sym z ∙ ap (view_at (views_of w)) (sym e) ∙ file.1)
      where
        no : {c : File} → empty ≡ holds c → ⊥
        no h = let z : ◌≡◌ {A = ℕ} 0 1 = cc in omega arith

    record_same : All (Elsewhere w k) os → record_at (records_of (installed 0 g w os)) k ≡ record_at (records_of w) k
    unfolding installed records_with
    record_same a =
        get_or-set_other (losing (mappings w) os (records_of w)) (new_slot w) k (new_record (new_lsn 0 w) g os) empty_record not_new
        ∙ losing-other (mappings w) os (records_of w) k (all_map (Elsewhere w k) (λ (o : Op). is_at k (file_holding (records_of w) (load (mappings w) o.id)) ≡ false) os (λ o h. at o.id (lookup (mappings w) o.id) refl h) a)
      where
        at : (x : ℕ) (h : Held) → lookup (mappings w) x ≡ h → ((l : ℕ) → lookup (mappings w) x ≡ Some l → in_range (record_at (records_of w) k).label (masked_at l) ≡ false) → is_at k (file_holding (records_of w) (loaded_of h)) ≡ false
        at x None e p = refl
        at x (Some l) e p =
            let z = table-stands (bounds_of w) (picture_of w) (engine history) s.sound x l e in
            ap (is_at k) (holding-mapped (records_of w) l)
            ∙ found-in-range (views_of w) (records_of w) s.sound.filed x l z.0 k z.1 file.0 file.1
            ∙ sym (ap (λ (r : Record). in_range r.label (masked_at l)) (record-holds (views_of w) (records_of w) s.sound.filed k file.0 file.1)) ∙ p l e

    -- an id that was elsewhere is so after, at its new location too
    still-elsewhere : All (Elsewhere w k) os → (o : Op) → Elsewhere w k o → Elsewhere (installed 0 g w os) k o
    unfolding added
    still-elsewhere a o h l e = go (lookup (rows_for (new_lsn 0 w) 0 os) o.id) refl (sym looked ∙ e)
      where
        same : record_at (records_of (installed 0 g w os)) k ≡ record_at (records_of w) k
        same = record_same a

        looked : lookup (mappings (installed 0 g w os)) o.id ≡ or_else (lookup (rows_for (new_lsn 0 w) 0 os) o.id) (lookup (mappings w) o.id)
        looked =
            ap (λ (p : Picture). lookup p.table o.id) (picture-installed w (engine history) s 0 g os f)
            ∙ lookup-insert-all 0 (mappings w) (rows_for (new_lsn 0 w) 0 os) (rising-absolute (new_lsn 0 w) 0 (entries_of 0 os) (entries-of-rising 0 0 os f.rising)) o.id

        go : (m : Held) → lookup (rows_for (new_lsn 0 w) 0 os) o.id ≡ m → or_else m (lookup (mappings w) o.id) ≡ Some l → in_range (record_at (records_of (installed 0 g w os)) k).label (masked_at l) ≡ false
        go None q c = ap (λ (r : Record). in_range r.label (masked_at l)) same ∙ h l c
        go (Some m) q c =
            let ad = addable w (engine history) s 0 g os f in
            let t = stands-new (bounds_of w) (picture_of w) (engine history) s.sound (new_slot w) (new_lsn 0 w) g os ad o.id m (lookup-has (rows_for (new_lsn 0 w) 0 os) o.id m q) in
            let v = view-old (bounds_of w) (picture_of w) (engine history) s.sound (new_slot w) (new_lsn 0 w) g os ad k not_new ∙ file.1 in
            let z : l ≡ m = mapped-one (sym c) in
            ap (λ (r : Record). in_range r.label (masked_at l)) (same ∙ record-holds (views_of w) (records_of w) s.sound.filed k file.0 file.1)
            ∙ ap (λ (n : ℕ). in_range file.0.label (masked_at n)) z
            ∙ in-no-other (added (new_lsn 0 w) g (picture_of w) (new_slot w) os).views (added (new_lsn 0 w) g (picture_of w) (new_slot w) os).records
            (filed-added (bounds_of w) (picture_of w) (engine history) s.sound (new_slot w) (new_lsn 0 w) g os ad) o.id m (new_slot w) k t file.0 v not_new

  -- LAW: so while files are rewritten one after another
  pub unmoved : (g : ℕ) (files : List (List Op)) (w : World) → SoundWorld w (engine history) → g ≤ 255 → All (Rewritable (engine history)) files
      → All (λ (f : List Op). 64 + length (file_bytes f) ≤ w.settings.slot_bytes) files → length files ≤ empty_of w
      → w.state.next_position + sum (λ (f : List Op). length (objects_of f) + 1) files ≤ 2 ^ 62
      → (k : ℕ) → 0 < (record_at (records_of w) k).label.lsn → All (All (Elsewhere w k)) files → record_at (records_of (installed_all 0 g w files)) k ≡ record_at (records_of w) k
  unfolding installed_all sum
  unmoved g [] w s aged r slot free positions k some a = refl
  unmoved g (f ∷ fs) w s aged r slot free positions k some a =
      let fit = fits-file history w s g f r.0 aged slot.0 (omega arith) (omega arith) in
      let n : length (objects_of f) < 2 ^ 64 = omega arith in
      let e = installed-numbers history g w f in
      let e1 = e.1 in
      let d = one_fewer 0 g w f in
      let q : record_at (records_of (installed 0 g w f)) k ≡ record_at (records_of w) k = record_same w s k some g f fit a.0 in
      unmoved g fs (installed 0 g w f)
      (sound-told (installed 0 g w f) (λ x. over (file_says (file_of_ops (new_lsn 0 w) g f) x) (engine history x)) (engine history)
      (λ x. still-said history f r.0 n (new_lsn 0 w) g x) (sound-installed w (engine history) s 0 g f fit))
      aged r.1
      (subst (λ (c : Settings). All (λ (f : List Op). 64 + length (file_bytes f) ≤ c.slot_bytes) fs) (sym e.0) slot.1)
      (omega arith) (omega arith) k (subst (λ (c : Record). 0 < c.label.lsn) (sym q) some)
      (all_map (All (Elsewhere w k)) (All (Elsewhere (installed 0 g w f) k)) fs
      (λ os b. all_map (Elsewhere w k) (Elsewhere (installed 0 g w f) k) os (λ o h. still-elsewhere w s k some g f fit a.0 o h) b) a.1)
      ∙ q
