-- Request P8: "pruning is one store per file": after each of them a store of the invariant stands, and nothing else is said of any id.
use Rattle.std.specs.Prelude.{◌≡◌, ◌⊎◌, ◌<◌, ◌∷◌, ◌+◌, ◌*◌}
use Rattle.std.proofs.Math.Path.{refl, ap, subst}
use Rattle.std.proofs.Common.{sym, ◌∙◌, zero-add}
use Rattle.std.proofs.Math.Logic.{inl, inr}
use native.Mathlib.Omega.{arith}
use Rattle.std.proofs.Math.ListN.{length-set}
use Rattle.std.proofs.Math.Seq.{get_or-set_same, get_or-set_other}
use Rattle.rules.specs.Base.{List, [], ℕ, zero, suc, length, set, take}
use Rattle.theory.specs.Types.{Record}
use Rattle.rules.specs.BaseLaws.{All}
use Rattle.rules.proofs.BaseLaws.{all_map, same?}
use Rattle.rules.specs.Settings.{slots_in}
use Rattle.rules.specs.SettingsLaws.{HeapInRange}
use Rattle.rules.proofs.SettingsLaws.{heap-whole}
use Rattle.rules.specs.SlotFile.{View, empty, views_in}
use Rattle.rules.proofs.SlotLaws.{views-length}
use Rattle.rules.proofs.WrittenLaws.{views-emptied}
use Rattle.rules.specs.Stores.{Store, made}
use Rattle.rules.specs.FileMap.{empty_record, record_at, slots_where}
use Rattle.rules.proofs.FileMapLaws.{slot-passes}
use Rattle.rules.specs.Prune.{is_dead, prune_stores, pruned}
use Rattle.rules.specs.PruneLaws.{emptying}
use Rattle.rules.proofs.PruneLaws.{dead, prune-stores}
use Rattle.rules.specs.World.{World, records_of, slots_of}
use Rattle.theory.proofs.Lists.{among-all}
use Rattle.theory.specs.Places.{view_at}
use Rattle.theory.specs.Losing.{live_at}
use Rattle.theory.specs.Picture.{views_of, picture_of, Said}
use Rattle.theory.specs.Emptied.{KeptOrEmptied, Emptied}
use Rattle.theory.proofs.Emptied.{sound-emptied}
use Rattle.theory.specs.SoundWorld.{bounds_of, SoundWorld}
use Rattle.history_theory.proofs.Pruning.{file-slot, sound-pruned}
use Rattle.power_cuts.specs.Enduring.{StandsOn, Endured}
use Rattle.power_cuts.proofs.Enduring.{stands_self, stands_alike}
use Rattle.power_cuts.specs.Emptying.{emptied_one, Lifeless}

module _ (w : World) (told : ℕ → Said) (s : SoundWorld w told) (k : ℕ) (low : k < slots_of w) (none : live_at (records_of w) k ≡ 0) where
  heap-length : length (set w.heap (k * w.settings.slot_bytes) 0) ≡ length w.heap
  heap-length = length-set w.heap (k * w.settings.slot_bytes) 0

  slots_kept : slots_of (emptied_one w k) ≡ slots_of w
  unfolding emptied_one
  slots_kept = ap (slots_in w.settings) heap-length

  view-gone : views_of (emptied_one w k) ≡ set (views_of w) k empty
  unfolding emptied_one
  view-gone =
      let n = heap-whole w.settings (length w.heap) s.tidy.limits.heap in
      let p = s.tidy.limits.settings.slot-low in
      ap (λ (m : ℕ). views_in (slots_in w.settings m) w.settings.slot_bytes (set w.heap (k * w.settings.slot_bytes) 0)) heap-length
      ∙ views-emptied (slots_of w) w.settings.slot_bytes w.heap k low (omega arith) (omega arith)

  each-slot : (j : ℕ) → KeptOrEmptied (picture_of w) (picture_of (emptied_one w k)) j
  unfolding emptied_one
  each-slot j = go (same? j k)
    where
      go : (j ≡ k) ⊎ (j ≡ k → ⊥) → KeptOrEmptied (picture_of w) (picture_of (emptied_one w k)) j
      go (inl e) =
          let m = views-length (slots_of w) w.settings.slot_bytes w.heap in
          let b = s.sound.filed.fits in
          inr (
            ap (live_at (records_of w)) e ∙ none,
            ap (λ (vs : List View). view_at vs j) view-gone ∙ ap (view_at (set (views_of w) k empty)) e ∙ get_or-set_same (views_of w) k empty empty (omega arith),
            ap (record_at (set (records_of w) k empty_record)) e ∙ get_or-set_same (records_of w) k empty_record empty_record (omega arith),
          )
      go (inr e) =
          inl (
            ap (λ (vs : List View). view_at vs j) view-gone ∙ get_or-set_other (views_of w) k j empty empty e,
            get_or-set_other (records_of w) k j empty_record empty_record e,
          )

  emptied : Emptied (picture_of w) (picture_of (emptied_one w k))
  unfolding emptied_one
  emptied =
      let a = length-set (records_of w) k empty_record in
      let b = s.sound.filed.fits in
      let c = ap length view-gone in
      let d = length-set (views_of w) k empty in
      record { fits = omega arith; sized = a; each = each-slot; table = refl; next = refl }

  -- LAW: the invariant after one of prune's stores
  pub sound-one : SoundWorld (emptied_one w k) told
  unfolding emptied_one
  sound-one =
      let t = s.tidy in
      record {
        tidy = record {
          limits = record { settings = t.limits.settings; heap = subst (HeapInRange w.settings) (sym heap-length) t.limits.heap; table = t.limits.table };
          settings = t.settings;
          heap_len = heap-length ∙ t.heap_len;
          table-len = t.table-len;
          form = t.form;
        };
        sound = sound-emptied (bounds_of w) (picture_of w) told s.sound (picture_of (emptied_one w k)) emptied;
      }

  -- the others stay without live entries
  lifeless-on : (j : ℕ) → Lifeless w j → Lifeless (emptied_one w k) j
  unfolding emptied_one
  lifeless-on j h = let e = slots_kept in let l = h.0 in (omega arith, go (same? j k))
    where
      go : (j ≡ k) ⊎ (j ≡ k → ⊥) → live_at (set (records_of w) k empty_record) j ≡ 0
      go (inl e) =
          let m = views-length (slots_of w) w.settings.slot_bytes w.heap in
          let b = s.sound.filed.fits in
          ap (live_at (set (records_of w) k empty_record)) e
          ∙ ap (λ (r : Record). r.live) (get_or-set_same (records_of w) k empty_record empty_record (omega arith))
      go (inr e) = ap (λ (r : Record). r.live) (get_or-set_other (records_of w) k j empty_record empty_record e) ∙ h.1

-- slots without live entries, emptied one by one, cut anywhere
emptying-cut : (told : ℕ → Said) (ks : List ℕ) (w : World) → SoundWorld w told → All (Lifeless w) ks
    → (j : ℕ) → StandsOn w (made (take j (emptying w.settings.slot_bytes ks)) w.heap) told
unfolding made emptied_one
emptying-cut told [] w s a zero = stands_self w told s
emptying-cut told [] w s a (suc j) = stands_self w told s
emptying-cut told (k ∷ ks) w s a zero = stands_self w told s
emptying-cut told (k ∷ ks) w s a (suc j) =
    stands_alike w (emptied_one w k) _ told (record { settings = refl; table = refl })
    (emptying-cut told ks (emptied_one w k) (sound-one w told s k a.0.0 a.0.1)
    (all_map (Lifeless w) (Lifeless (emptied_one w k)) ks (lifeless-on w told s k a.0.0 a.0.1) a.1) j)

module _ (w : World) (told : ℕ → Said) (s : SoundWorld w told) where
  all-lifeless : All (Lifeless w) (slots_where (is_dead w.claims) 0 (records_of w))
  all-lifeless = among-all (Lifeless w) (slots_where (is_dead w.claims) 0 (records_of w)) (λ k a.
      let p = slot-passes (is_dead w.claims) 0 (records_of w) k a in
      let d = dead w.claims (0 + p.off) (record_at (records_of w) p.off) p.passes in
      subst (Lifeless w) (sym (p.is ∙ zero-add p.off)) ((file-slot w told s p.off d.file).2, d.live))

  -- LAW: prune's run, cut anywhere
  pub prune-endured : Endured w (pruned w) (prune_stores w) told
  unfolding pruned
  prune-endured = record {
    alike = record { settings = refl; table = refl };
    bytes = refl;
    sound = sound-pruned w told s;
    cut = λ k.
        subst (λ (ss : List Store). StandsOn w (made (take k ss) w.heap) told) (sym (prune-stores w))
        (emptying-cut told (slots_where (is_dead w.claims) 0 (records_of w)) w s all-lifeless k);
  }
