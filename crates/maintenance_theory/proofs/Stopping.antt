-- On a store of the invariant a group is rewritten or refused with 4, 5 or 7, or with 3 where an object of it is too large; and files stay.
use Rattle.std.specs.Prelude.{◌≡◌, refl, ◌⊎◌, ◌<◌, ◌≤◌, ◌∷◌, ◌++◌, ◌+◌, ◌^◌, Err, Ok}
use Rattle.std.proofs.Common.{sym, ap, ◌∙◌, subst, inl, inr, arith, get_or-set_other}
use Rattle.rules.specs.Base.{Bool, true, false, List, [], ℕ, length, ltb, leb, pick, any}
use Rattle.theory.specs.Types.{Record, Settings, Refusal, ObjectSize, SlotRoom, NoEmptySlot, PositionsSpent, Answer}
use Rattle.rules.specs.BaseLaws.{All}
use Rattle.rules.proofs.BaseLaws.{all_map}
use Rattle.rules.specs.Refusal.{◌gives◌, decide, after}
use Rattle.rules.specs.Object.{Stored, objects_in}
use Rattle.rules.specs.Ops.{Op}
use Rattle.rules.specs.SlotFile.{View, empty, holds}
use Rattle.rules.specs.WrittenLaws.{file_of_ops}
use Rattle.rules.specs.FileMap.{is_empty, record_at, file_count}
use Rattle.rules.proofs.FileMapLaws.{not-empty}
use Rattle.rules.specs.Install.{new_slot, new_lsn, next_with, installed, installed_all, room_tests, empty_of, position_tests}
use Rattle.rules.specs.Maintenance.{found, files_of, Stop, going, stopped, Course, group, start_group, source_tests, group_tests, rewrite_group, onward, groups_from}
use Rattle.rules.proofs.MaintenanceLaws.{candidate}
use Rattle.rules.specs.World.{World, records_of}
use Rattle.rules.proofs.InstallLaws.{installed-lsn}
use Rattle.disk_location.proofs.LocationLaws.{masked-pos}
use Rattle.theory.proofs.Places as places
use Rattle.theory.specs.Places.{view_at}
use Rattle.theory.proofs.Places.{holds-inj, record-holds}
use Rattle.theory.specs.Picture.{views_of}
use Rattle.theory.specs.SoundWorld.{SoundWorld}
use Rattle.history_theory.specs.Writing.{engine}
use Rattle.history_theory.proofs.Pruning.{file-slot}
use Rattle.theory.specs.Standing.{Stood, AllStood}
use Rattle.history_theory.proofs.Maintaining.{group-rewritten, sound-onward}
use Rattle.maintenance_theory.proofs.Groups.{in_group}
use Rattle.maintenance_theory.specs.Checked.{Oversized}
use Rattle.maintenance_theory.proofs.Checked.{only-decides, group-only}
use Rattle.theory.proofs.Lists.{among-all, among-get}
use Rattle.maintenance_theory.specs.Stopping.{Spent, Refusable, Remain, Stay, StopsWell, Underway}

spent-tests : (a b c : Bool) (r : Refusal) → decide (a gives SlotRoom ∷ b gives NoEmptySlot ∷ c gives PositionsSpent ∷ []) ≡ Err r → Spent r
unfolding decide
spent-tests true b c r e = inl (cc)
spent-tests false true c r e = inr (inl (cc))
spent-tests false false true r e = inr (inr (cc))
spent-tests false false false r e = absurd (let z : ◌≡◌ {A = ℕ} 0 1 = cc in omega arith)

stood-remain : (bit g : ℕ) (w : World) (os : List Op) → Stood bit g w os → Remain w (installed bit g w os)
stood-remain bit g w os t k f h =
    ap (λ (vs : List View). view_at vs k) t.views
    ∙ get_or-set_other (views_of w) (new_slot w) k (holds (file_of_ops (new_lsn bit w) g os)) empty (λ e. places.not-empty (sym t.free ∙ ap (view_at (views_of w)) (sym e) ∙ h))
    ∙ h

-- files that are added take no file's place
pub stood-all-remain : (bit g : ℕ) (files : List (List Op)) (w : World) → AllStood bit g w files → Remain w (installed_all bit g w files)
unfolding installed_all
stood-all-remain bit g [] w t k f h = h
stood-all-remain bit g (os ∷ oss) w t k f h = stood-all-remain bit g oss (installed bit g w os) t.1 k f (stood-remain bit g w os t.0 k f h)

-- settings stay
pub settings-all : (g : ℕ) (files : List (List Op)) (w : World) → (installed_all 0 g w files).settings ≡ w.settings
unfolding installed_all installed
settings-all g [] w = refl
settings-all g (f ∷ fs) w = settings-all g fs (installed 0 g w f)

-- of a group, rewritten or refused
pub settings-group : (g : ℕ) (ks : List ℕ) (moved : ℕ) (w : World) → (rewrite_group g ks moved w).world.settings ≡ w.settings
unfolding rewrite_group
settings-group g ks moved w = go (decide (group_tests w ks (files_of w.settings.target_file_size (found w ks))))
  where
    go : (a : Answer) → (after {A = Course} a (λ (r : Refusal). record { stop = stopped r g; moved = moved; world = w })
        (record { stop = going; moved = moved + length (found w ks); world = installed_all 0 g w (files_of w.settings.target_file_size (found w ks)) })).world.settings ≡ w.settings
    go (Ok _) = settings-all g (files_of w.settings.target_file_size (found w ks)) w
    go (Err r) = refl

next-installed : (bit g : ℕ) (w : World) (os : List Op) → 0 < w.state.next_position → 0 < (installed bit g w os).state.next_position
unfolding installed next_with
next-installed bit g w os h = omega arith

-- files that are added leave a file in each slot that has one
pub stay_all : (g : ℕ) (files : List (List Op)) (w : World) → 0 < w.state.next_position → Stay w (installed_all 0 g w files)
unfolding installed_all
stay_all g [] w h k l = l
stay_all g (f ∷ fs) w h k l = stay_all g fs (installed 0 g w f) (next-installed 0 g w f h) k (installed-lsn 0 g w f h k l)

-- ---- the slots of a group are files', as the call starts and when the group's turn comes
-- a file has an lsn
pub file-lsn : (w : World) (history : List Op) → SoundWorld w (engine history) → (k : ℕ) → is_empty (record_at (records_of w) k) ≡ false → 0 < (record_at (records_of w) k).label.lsn
file-lsn w history s k h =
    let f = file-slot w (engine history) s k h in
    let e : (record_at (records_of w) k).label.lsn ≡ f.0.label.lsn = ap (λ (r : Record). r.label.lsn) (record-holds (views_of w) (records_of w) s.sound.filed k f.0 f.1) in
    let p = masked-pos f.0.label.lsn (s.sound.filed.made k f.0 f.1).placed in
    omega arith

-- candidates are files
pub files-in-group : (w : World) (history : List Op) → SoundWorld w (engine history) → (g mark count : ℕ) → All (λ (k : ℕ). 0 < (record_at (records_of w) k).label.lsn) (group w g mark count)
files-in-group w history s g mark count =
    among-all (λ (k : ℕ). 0 < (record_at (records_of w) k).label.lsn) (group w g mark count) (λ k a. file-lsn w history s k (in_group w g mark count k a).candidate.file)

-- those of the call too
pub group-files : (w : World) (history : List Op) → SoundWorld w (engine history) → (g : ℕ) → All (λ (k : ℕ). 0 < (record_at (records_of w) k).label.lsn) (start_group w g)
group-files w history s g = files-in-group w history s g (2 ^ 62) (file_count (records_of w))

-- as the call starts
pub underway-first : (history : List Op) (start : World) → SoundWorld start (engine history) → Underway history start (record { stop = going; moved = 0; world = start })
underway-first history start st = record { sound = st; stay = λ k h. h; remain = λ k f h. h; settings = refl; stop = tt }

-- LAW: a group of files is rewritten, or refused for one of these reasons
group-stops : (history : List Op) (g : ℕ) (slots : List ℕ) (moved : ℕ) (w : World) → SoundWorld w (engine history) → All (λ (k : ℕ). 0 < (record_at (records_of w) k).label.lsn) slots
    → (P : Stop → Type 0) → P going → ((r : Refusal) → Refusable w slots r → P (stopped r g)) → P (rewrite_group g slots moved w).stop
unfolding rewrite_group group_tests room_tests position_tests
group-stops history g slots moved w s files P went halted = go (decide (group_tests w slots (files_of w.settings.target_file_size (found w slots)))) refl
  where
    why : (r : Refusal) → ((r ≡ ObjectSize) × Oversized w slots) ⊎ (decide (room_tests w.settings.slot_bytes (empty_of w) (files_of w.settings.target_file_size (found w slots)) ++ position_tests w.state.next_position (files_of w.settings.target_file_size (found w slots))) ≡ Err r)
        → Refusable w slots r
    why r (inl z) = inr z
    why r (inr z) = inl (spent-tests _ _ _ r z)

    go : (a : Answer) → decide (group_tests w slots (files_of w.settings.target_file_size (found w slots))) ≡ a
        → P (after {A = Course} a (λ (r : Refusal). record { stop = stopped r g; moved = moved; world = w })
        (record { stop = going; moved = moved + length (found w slots); world = installed_all 0 g w (files_of w.settings.target_file_size (found w slots)) })).stop
    go (Ok _) e = went
    go (Err r) e = halted r (why r (only-decides (Oversized w slots) (source_tests w slots) _ r (group-only w history s slots files) e))

-- and no file is lost
pub group-stays : (history : List Op) (g : ℕ) → g ≤ 255 → (slots : List ℕ) (moved : ℕ) (w : World) → SoundWorld w (engine history)
    → Stay w (rewrite_group g slots moved w).world × Remain w (rewrite_group g slots moved w).world
unfolding rewrite_group
group-stays history g aged slots moved w s = go (decide (group_tests w slots (files_of w.settings.target_file_size (found w slots)))) refl
  where
    course : Answer → Course
    course a = after {A = Course} a (λ (r : Refusal). record { stop = stopped r g; moved = moved; world = w })
        (record { stop = going; moved = moved + length (found w slots); world = installed_all 0 g w (files_of w.settings.target_file_size (found w slots)) })

    go : (a : Answer) → decide (group_tests w slots (files_of w.settings.target_file_size (found w slots))) ≡ a → Stay w (course a).world × Remain w (course a).world
    go (Ok _) e = (
      stay_all g (files_of w.settings.target_file_size (found w slots)) w s.sound.started,
      stood-all-remain 0 g (files_of w.settings.target_file_size (found w slots)) w (group-rewritten history g aged slots w s e).0,
    )
    go (Err r) e = (λ k h. h, λ k f h. h)

module _ (history : List Op) (start : World) (st : SoundWorld start (engine history)) where
  -- a group's files are files when its turn comes
  pub still-files : (g : ℕ) (c : Course) → Underway history start c → All (λ (k : ℕ). 0 < (record_at (records_of c.world) k).label.lsn) (start_group start g)
  still-files g c u = all_map (λ (k : ℕ). 0 < (record_at (records_of start) k).label.lsn) (λ (k : ℕ). 0 < (record_at (records_of c.world) k).label.lsn) (start_group start g) (λ k h. u.stay k h) (group-files start history st g)

  -- and the same files: what refuses it then stands there as the call starts
  refused-start : (g : ℕ) (c : Course) → Underway history start c → (r : Refusal) → Refusable c.world (start_group start g) r → Refusable start (start_group start g) r
  refused-start g c u r (inl p) = inl p
  refused-start g c u r (inr (e, o)) =
      let z = file-slot start (engine history) st o.slot (not-empty (record_at (records_of start) o.slot) (among-get (λ (k : ℕ). 0 < (record_at (records_of start) k).label.lsn) (start_group start g) (group-files start history st g) o.slot o.among)) in
      inr (
        e,
        record {
          slot = o.slot;
          among = o.among;
          file = o.file;
          shows = z.1 ∙ ap holds (holds-inj (sym (u.remain o.slot z.0 z.1) ∙ o.shows));
          large = subst (λ (v : Settings). any (λ (b : Stored). leb v.max_object_size b.size) (objects_in o.file.objects) ≡ true) u.settings o.large;
        },
      )

  -- one generation
  pub onward-well : (stop : Stop) (g : ℕ) → g ≤ 255 → (c : Course) → c.stop ≡ stop → Underway history start c → Underway history start (onward stop g (start_group start g) c)
  onward-well (stopped r n) g aged c e u = u
  onward-well going g aged c e u = go (ltb (length (start_group start g)) c.world.settings.min_compaction_files) (sound-onward history going g aged (start_group start g) c u.sound)
    where
      go : (b : Bool) → SoundWorld (pick b c (rewrite_group g (start_group start g) c.moved c.world)).world (engine history)
          → Underway history start (pick b c (rewrite_group g (start_group start g) c.moved c.world))
      go true s = u
      go false s =
          let z = group-stays history g aged (start_group start g) c.moved c.world u.sound in
          record {
            sound = s;
            stay = λ k h. z.0 k (u.stay k h);
            remain = λ k f h. z.1 k f (u.remain k f h);
            settings = settings-group g (start_group start g) c.moved c.world ∙ u.settings;
            stop = group-stops history g (start_group start g) c.moved c.world u.sound (still-files g c u) (StopsWell start) tt (refused-start g c u);
          }

-- all generations
pub groups-well : (history : List Op) (gs : List ℕ) → All (λ (g : ℕ). g ≤ 255) gs → (start : World) → SoundWorld start (engine history) → (c : Course) → Underway history start c → Underway history start (groups_from gs start c)
unfolding groups_from
groups-well history [] y start s c u = u
groups-well history (g ∷ gs) y start s c u = groups-well history gs y.1 start s (onward c.stop g (start_group start g) c) (onward-well history start s c.stop g y.0 c refl u)
