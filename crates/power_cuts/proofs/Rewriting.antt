-- Request P8: a rewrite's run, cut anywhere: files of current contents one behind the other.
use Rattle.std.specs.Prelude.{◌≡◌, ◌⊎◌, ◌<◌, ◌≤◌, ◌∷◌, ◌++◌, ◌+◌, ◌^◌, Err, Ok}
use Rattle.std.proofs.Math.Path.{refl, ap, subst}
use Rattle.std.proofs.Common.{sym, inl, inr, take_all}
use native.Mathlib.Omega.{arith}
use Rattle.rules.specs.Base.{Bool, true, false, List, [], ℕ, length, take, pick, sum}
use Rattle.theory.specs.Types.{Settings, Refusal, Answer}
use Rattle.numbers.specs.GroupLaws.{either_way}
use Rattle.rules.specs.BaseLaws.{All}
use Rattle.rules.specs.Refusal.{decide, after, NoneHolds}
use Rattle.rules.proofs.RefusalLaws.{clear-when, none_first, none_rest}
use Rattle.rules.specs.Ops.{Op, objects_of, file_bytes}
use Rattle.rules.specs.Layout.{capacity_of}
use Rattle.rules.proofs.LayoutLaws.{laid-out-length}
use Rattle.rules.specs.WrittenLaws.{file_of_ops}
use Rattle.rules.specs.Stores.{Store, made}
use Rattle.rules.specs.Install.{new_label, new_lsn, stores_for, table_with, installed, installed_all, room_tests, empty_of, position_tests}
use Rattle.rules.proofs.InstallLaws.{room-clear, positions-clear}
use Rattle.rules.specs.Maintenance.{group, found, files_of, going, stopped, Course, source_tests, group_tests, rewrite_group}
use Rattle.rules.specs.TwoCalls.{too_few, rewrite_tests, generation_rewritten, rewrite_of, rewrite_call}
use Rattle.rules.specs.Table.{insert_all}
use Rattle.rules.specs.World.{World, mappings}
use Rattle.theory.specs.Picture.{Said, file_says}
use Rattle.theory.specs.Installed.{over}
use Rattle.theory.specs.SoundWorld.{SoundWorld}
use Rattle.theory.specs.Losing.{rows_for}
use Rattle.theory.specs.Adding.{Fitting}
use Rattle.theory.proofs.Adding.{sound-installed}
use Rattle.history_theory.specs.Writing.{engine}
use Rattle.history_theory.proofs.Writing.{sound-told}
use Rattle.history_theory.specs.Rewriting.{Rewritable}
use Rattle.history_theory.proofs.Rewriting.{one_fewer, still-said, fits-file, installed-numbers}
use Rattle.history_theory.proofs.OneGeneration.{rewrite-world, generation-named}
use Rattle.history_theory.proofs.Maintaining.{files-rewritable}
use Rattle.power_cuts.specs.Runs.{files_run, unless_refused, group_run, generation_run, rewrite_run}
use Rattle.power_cuts.specs.Cuts.{Alike}
use Rattle.power_cuts.specs.Enduring.{StandsOn, Endured}
use Rattle.power_cuts.proofs.Enduring.{endured-none, endured-on}
use Rattle.power_cuts.proofs.HiddenBytes.{file-hidden}

-- ---- one file
module _ (w : World) (told : ℕ → Said) (s : SoundWorld w told) (bit g : ℕ) (os : List Op) (f : Fitting bit g w os) where
  -- a file added changes neither settings nor table size
  pub alike-installed : Alike w (installed bit g w os)
  unfolding installed table_with
  alike-installed = record {
    settings = refl;
    table = omega (arith, laid-out-length (capacity_of w.table) (insert_all (mappings w) (rows_for (new_lsn bit w) 0 os)) f.room, s.tidy.limits.table.even);
  }

  -- LAW: a file's run made whole leaves the store with the file
  pub file-whole : (said : ℕ → Said) → SoundWorld (installed bit g w os) said → (k : ℕ) → length (stores_for (new_label (new_lsn bit w) g os) w os) ≤ k
      → StandsOn w (made (take k (stores_for (new_label (new_lsn bit w) g os) w os)) w.heap) said
  unfolding installed
  file-whole said whole k h = record {
    store = installed bit g w os;
    alike = alike-installed;
    bytes = ap (λ (ss : List Store). made ss w.heap) (sym (take_all k (stores_for (new_label (new_lsn bit w) g os) w os) h));
    sound = whole;
  }

  -- LAW: a file of which the engine says nothing new, cut anywhere
  pub file-endured : SoundWorld (installed bit g w os) told → Endured w (installed bit g w os) (stores_for (new_label (new_lsn bit w) g os) w os) told
  unfolding installed
  file-endured whole = record { alike = alike-installed; bytes = refl; sound = whole; cut = λ k. go k (either_way k (length (stores_for (new_label (new_lsn bit w) g os) w os))) }
    where
      go : (k : ℕ) → (k < length (stores_for (new_label (new_lsn bit w) g os) w os)) ⊎ (length (stores_for (new_label (new_lsn bit w) g os) w os) ≤ k)
          → StandsOn w (made (take k (stores_for (new_label (new_lsn bit w) g os) w os)) w.heap) told
      go k (inl h) = file-hidden w told s bit g os f k h
      go k (inr h) = file-whole told whole k h

module _ (history : List Op) where
  -- ---- a group: files of current contents, in as many empty slots
  files-endured : (g : ℕ) (files : List (List Op)) (w : World) → SoundWorld w (engine history) → g ≤ 255 → All (Rewritable (engine history)) files
      → All (λ (f : List Op). 64 + length (file_bytes f) ≤ w.settings.slot_bytes) files → length files ≤ empty_of w
      → w.state.next_position + sum (λ (f : List Op). length (objects_of f) + 1) files ≤ 2 ^ 62 → Endured w (installed_all 0 g w files) (files_run 0 g w files) (engine history)
  unfolding installed_all files_run sum
  files-endured g [] w s aged r slot free positions = endured-none w (engine history) s
  files-endured g (f ∷ fs) w s aged r slot free positions =
      let fit = fits-file history w s g f r.0 aged slot.0 (omega arith) (omega arith) in
      let n : length (objects_of f) < 2 ^ 64 = omega arith in
      let e = installed-numbers history g w f in
      let e1 = e.1 in
      let d = one_fewer 0 g w f in
      let one : SoundWorld (installed 0 g w f) (engine history)
      = sound-told (installed 0 g w f) (λ x. over (file_says (file_of_ops (new_lsn 0 w) g f) x) (engine history x)) (engine history)
      (λ x. still-said history f r.0 n (new_lsn 0 w) g x) (sound-installed w (engine history) s 0 g f fit) in
      endured-on w (installed 0 g w f) (installed_all 0 g (installed 0 g w f) fs) (stores_for (new_label (new_lsn 0 w) g f) w f) (files_run 0 g (installed 0 g w f) fs) (engine history)
      (file-endured w (engine history) s 0 g f fit one)
      (files-endured g fs (installed 0 g w f) one
      aged r.1
      (subst (λ (c : Settings). All (λ (f : List Op). 64 + length (file_bytes f) ≤ c.slot_bytes) fs) (sym e.0) slot.1)
      (omega arith) (omega arith))

  -- 4, 5 and 7 do not hold
  room-endured : (w : World) → SoundWorld w (engine history) → (g : ℕ) → g ≤ 255 → (files : List (List Op)) → All (Rewritable (engine history)) files
      → NoneHolds (room_tests w.settings.slot_bytes (empty_of w) files ++ position_tests w.state.next_position files)
      → Endured w (installed_all 0 g w files) (files_run 0 g w files) (engine history)
  unfolding installed_all files_run
  room-endured w s g aged [] r n = endured-none w (engine history) s
  room-endured w s g aged (f ∷ fs) r n =
      let tests = room_tests w.settings.slot_bytes (empty_of w) (f ∷ fs) in
      let a = room-clear w.settings.slot_bytes (empty_of w) (f ∷ fs) (none_first tests _ n) in
      let b = positions-clear w.state.next_position (f ∷ fs) (none_rest tests _ n) (omega arith) in
      files-endured g (f ∷ fs) w s aged r a.fits a.slots b

  -- LAW: a group, rewritten or refused, cut anywhere
  group-endured : (g : ℕ) → g ≤ 255 → (slots : List ℕ) (moved : ℕ) (w : World) → SoundWorld w (engine history)
      → Endured w (rewrite_group g slots moved w).world (group_run g slots w) (engine history)
  unfolding rewrite_group group_run group_tests
  group-endured g aged slots moved w s = go (decide (group_tests w slots (files_of w.settings.target_file_size (found w slots)))) refl
    where
      go : (a : Answer) → decide (group_tests w slots (files_of w.settings.target_file_size (found w slots))) ≡ a
          → Endured w (after {A = Course} a (λ (r : Refusal). record { stop = stopped r g; moved = moved; world = w })
          (record { stop = going; moved = moved + length (found w slots); world = installed_all 0 g w (files_of w.settings.target_file_size (found w slots)) })).world
          (unless_refused a (files_run 0 g w (files_of w.settings.target_file_size (found w slots)))) (engine history)
      go (Err r) e = endured-none w (engine history) s
      go (Ok _) e =
          room-endured w s g aged (files_of w.settings.target_file_size (found w slots)) (files-rewritable history w s slots w.settings.target_file_size)
          (none_rest (source_tests w slots) _
          (clear-when (group_tests w slots (files_of w.settings.target_file_size (found w slots))) e))

  generation-endured : (w : World) → SoundWorld w (engine history) → (g : ℕ) → g ≤ 255 → (mark count : ℕ)
      → Endured w (generation_rewritten w g mark count).world (generation_run w g mark count) (engine history)
  unfolding generation_rewritten generation_run
  generation-endured w s g aged mark count = go (too_few w (group w g mark count))
    where
      go : (b : Bool)
          → Endured w (pick b (record { stop = going; moved = 0; world = w }) (rewrite_group g (group w g mark count) 0 w)).world
          (pick b [] (group_run g (group w g mark count) w)) (engine history)
      go true = endured-none w (engine history) s
      go false = group-endured g aged (group w g mark count) 0 w s

  -- LAW: a rewrite's run, cut anywhere, whatever numbers it is given
  pub rewrite-endured : (w : World) → SoundWorld w (engine history) → (room g mark count : ℕ)
      → Endured w (rewrite_call w room g mark count).world (rewrite_run w room g mark count) (engine history)
  unfolding rewrite_of rewrite_run
  rewrite-endured w s room g mark count =
      subst (λ (v : World). Endured w v (rewrite_run w room g mark count) (engine history)) (sym (rewrite-world w room g mark count)) (go (decide (rewrite_tests w room g)) refl)
    where
      go : (a : Answer) → decide (rewrite_tests w room g) ≡ a
          → Endured w (after {A = Course} a (λ (r : Refusal). record { stop = stopped r g; moved = 0; world = w }) (generation_rewritten w g mark count)).world
          (unless_refused a (generation_run w g mark count)) (engine history)
      go (Err r) e = endured-none w (engine history) s
      go (Ok _) e = let n = (generation-named w room g e).1 in generation-endured w s g (omega arith) mark count
