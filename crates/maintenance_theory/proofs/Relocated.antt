-- While a group is rewritten an id keeps its location, in the same file; or it is one that the group moves, and then it is mapped into a slot
-- that was empty.
use Rattle.std.specs.Prelude.{◌≡◌, ◌⊎◌, ◌<◌, ◌≤◌, ◌||◌, ◌∷◌, ◌++◌, ◌+◌, ◌^◌, Err, None, Ok, Some}
use Rattle.std.proofs.Math.Path.{refl, ap}
use Rattle.std.proofs.Common.{sym, ◌∙◌, subst, true≢false, ⊎_elim}
use Rattle.std.proofs.Math.Logic.{inl, inr}
use native.Mathlib.Omega.{arith}
use Rattle.rules.specs.Base.{true, List, [], ℕ, length, any, sum}
use Rattle.theory.specs.Types.{Settings, Refusal, Answer, Held}
use Rattle.rules.specs.BaseLaws.{All}
use Rattle.rules.proofs.BaseLaws.{all_map, same?, or-true, or-holds}
use Rattle.rules.specs.Refusal.{decide, after, NoneHolds}
use Rattle.rules.proofs.RefusalLaws.{clear-when, none_first, none_rest}
use Rattle.rules.specs.Ops.{Content, size_of, Op, objects_of, entries_of, file_bytes}
use Rattle.rules.specs.OpsLaws.{Stands}
use Rattle.rules.proofs.OpsLaws.{entries-of-rising, entry-stands}
use Rattle.rules.specs.SettledLaws.{Last, silent, last, last_on}
use Rattle.rules.specs.SlotFile.{empty}
use Rattle.rules.specs.Table.{lookup}
use Rattle.rules.specs.TableLaws.{or_else}
use Rattle.rules.proofs.TableLaws.{lookup-has, lookup-insert-all}
use Rattle.rules.specs.FileMap.{file_for}
use Rattle.rules.specs.Install.{new_slot, new_lsn, installed, installed_all, room_tests, empty_of, position_tests}
use Rattle.rules.proofs.InstallLaws.{room-clear, positions-clear}
use Rattle.rules.specs.Maintenance.{found, files_of, going, stopped, Course, source_tests, group_tests, rewrite_group}
use Rattle.rules.specs.World.{World, records_of, mappings}
use Rattle.rules.specs.WrittenLaws.{file_of_ops}
use Rattle.theory.proofs.Entries.{rising-absolute, absolute-has}
use Rattle.theory.specs.Places as places
use Rattle.theory.specs.Places.{view_at}
use Rattle.theory.proofs.Places.{own-file, not-empty}
use Rattle.theory.specs.Losing.{rows_for}
use Rattle.theory.specs.Picture.{Picture, views_of, picture_of, file_says, added}
use Rattle.theory.proofs.Sound.{table-stands}
use Rattle.theory.specs.Installed.{over}
use Rattle.theory.proofs.Installed.{filed-added, stands-new, view-old}
use Rattle.theory.specs.SoundWorld.{bounds_of, SoundWorld}
use Rattle.theory.specs.Adding.{Fitting}
use Rattle.theory.proofs.Adding.{free-slot, addable, picture-installed, sound-installed}
use Rattle.history_theory.specs.Writing.{engine}
use Rattle.history_theory.proofs.Writing.{sound-told}
use Rattle.history_theory.specs.Shards.{PartOf}
use Rattle.history_theory.proofs.Shards.{sub-all, files-parts}
use Rattle.history_theory.specs.Rewriting.{Rewritable}
use Rattle.history_theory.proofs.Rewriting.{last-all, fits-file, still-said, one_fewer, installed-numbers}
use Rattle.history_theory.proofs.Maintaining.{files-rewritable}
use Rattle.maintenance_theory.specs.Tally.{known, heard_in}
use Rattle.maintenance_theory.proofs.Tally.{heard-cons}
use Rattle.maintenance_theory.specs.Relocated.{Left, Anew}

-- ---- among operations
stands-heard : (q : ℕ) (os : List Op) (x : ℕ) (c : Content) (p : ℕ) → Stands q os x c p → heard_in os x ≡ true
stands-heard q [] x c p h = absurd h
stands-heard q (o ∷ os) x c p (inl h) = heard-cons o os x (inl h.0)
stands-heard q (o ∷ os) x c p (inr h) = heard-cons o os x (inr (stands-heard (q + size_of o.content) os x c p h))

all-heard : (os : List Op) → All (λ (o : Op). heard_in os o.id ≡ true) os
all-heard [] = tt
all-heard (o ∷ os) =
    (heard-cons o os o.id (inl refl), all_map (λ (p : Op). heard_in os p.id ≡ true) (λ (p : Op). heard_in (o ∷ os) p.id ≡ true) os (λ p h. heard-cons o os p.id (inr h)) (all-heard os))

-- in a part, so in the whole
part-heard : (ops : List Op) (x : ℕ) (files : List (List Op)) → All (PartOf ops) files → any (λ (f : List Op). heard_in f x) files ≡ true → heard_in ops x ≡ true
unfolding any
part-heard ops x [] a h = absurd (true≢false (sym h))
part-heard ops x (f ∷ fs) a h = ⊎_elim (λ q. go (last_on f x) refl q) (part-heard ops x fs a.1) (or-true (heard_in f x) (any (λ (f : List Op). heard_in f x) fs) h)
  where
    go : (o : Last) → last_on f x ≡ o → known (last_on f x) ≡ true → heard_in ops x ≡ true
    go silent p q = absurd (true≢false (sym q ∙ ap known p))
    go (last c) p q = last-all (λ (o : Op). heard_in ops o.id ≡ true) f (sub-all (λ (o : Op). heard_in ops o.id ≡ true) a.0.0 (all-heard ops)) x c p

-- ---- one file
module _ (history : List Op) (w : World) (s : SoundWorld w (engine history)) (g : ℕ) (os : List Op) (f : Fitting 0 g w os) where
  -- an entry's file
  found_after : (x l k : ℕ) → places.Stands (added (new_lsn 0 w) g (picture_of w) (new_slot w) os).views x l k → file_for (records_of (installed 0 g w os)) l ≡ Some k
  found_after x l k t =
      ap (λ (p : Picture). file_for p.records l) (picture-installed w (engine history) s 0 g os f)
      ∙ own-file (added (new_lsn 0 w) g (picture_of w) (new_slot w) os).views (added (new_lsn 0 w) g (picture_of w) (new_slot w) os).records
      (filed-added (bounds_of w) (picture_of w) (engine history) s.sound (new_slot w) (new_lsn 0 w) g os (addable w (engine history) s 0 g os f)) x l k t

  old-view : (k : ℕ) → (k ≡ new_slot w → ⊥) → view_at (added (new_lsn 0 w) g (picture_of w) (new_slot w) os).views k ≡ view_at (views_of w) k
  old-view = view-old (bounds_of w) (picture_of w) (engine history) s.sound (new_slot w) (new_lsn 0 w) g os (addable w (engine history) s 0 g os f)

  -- a slot without a file had none
  free-before : (k : ℕ) → view_at (views_of (installed 0 g w os)) k ≡ empty → view_at (views_of w) k ≡ empty
  free-before k e = go (same? k (new_slot w))
    where
      go : (k ≡ new_slot w) ⊎ (k ≡ new_slot w → ⊥) → view_at (views_of w) k ≡ empty
      go (inl q) = ap (view_at (views_of w)) q ∙ (free-slot w (engine history) s f.free).1
      go (inr n) = sym (old-view k n) ∙ sym (ap (λ (p : Picture). view_at p.views k) (picture-installed w (engine history) s 0 g os f)) ∙ e

  after-file : (x : ℕ) → Left w (installed 0 g w os) x ⊎ (Anew w (installed 0 g w os) x × (heard_in os x ≡ true))
  unfolding added
  after-file x = go (lookup (rows_for (new_lsn 0 w) 0 os) x) refl
    where
      looked : lookup (mappings (installed 0 g w os)) x ≡ or_else (lookup (rows_for (new_lsn 0 w) 0 os) x) (lookup (mappings w) x)
      looked =
          ap (λ (p : Picture). lookup p.table x) (picture-installed w (engine history) s 0 g os f)
          ∙ lookup-insert-all 0 (mappings w) (rows_for (new_lsn 0 w) 0 os) (rising-absolute (new_lsn 0 w) 0 (entries_of 0 os) (entries-of-rising 0 0 os f.rising)) x

      stays : (l : ℕ) → lookup (mappings w) x ≡ Some l → file_for (records_of (installed 0 g w os)) l ≡ file_for (records_of w) l
      stays l e =
          let z = table-stands (bounds_of w) (picture_of w) (engine history) s.sound x l e in
          let t = z.1 in
          let n : z.0 ≡ new_slot w → ⊥ = λ q. not-empty (sym (free-slot w (engine history) s f.free).1 ∙ ap (view_at (views_of w)) (sym q) ∙ t.shows) in
          found_after x l z.0 (record { file = t.file; raw = t.raw; shows = old-view z.0 n ∙ t.shows; entry = t.entry; located = t.located })
          ∙ sym (own-file (views_of w) (records_of w) s.sound.filed x l z.0 t)

      go : (h : Held) → lookup (rows_for (new_lsn 0 w) 0 os) x ≡ h → Left w (installed 0 g w os) x ⊎ (Anew w (installed 0 g w os) x × (heard_in os x ≡ true))
      go None q = inl (record { table = looked ∙ ap (λ (h : Held). or_else h (lookup (mappings w) x)) q; file = stays })
      go (Some m) q =
          let h = lookup-has (rows_for (new_lsn 0 w) 0 os) x m q in
          let a = absolute-has (new_lsn 0 w) (entries_of 0 os) x m h in
          let d = entry-stands 0 os x a.0 a.1 in
          inr (
            record {
              location = m;
              slot = new_slot w;
              table = looked ∙ ap (λ (h : Held). or_else h (lookup (mappings w) x)) q;
              file = found_after x m (new_slot w) (stands-new (bounds_of w) (picture_of w) (engine history) s.sound (new_slot w) (new_lsn 0 w) g os (addable w (engine history) s 0 g os f) x m h);
              free = (free-slot w (engine history) s f.free).1;
            },
            stands-heard 0 os x d.content _ d.stands,
          )

-- ---- one change behind another
left-left : (w u v : World) (x : ℕ) → Left w u x → Left u v x → Left w v x
left-left w u v x a b = record { table = b.table ∙ a.table; file = λ l e. b.file l (a.table ∙ e) ∙ a.file l e }

anew-left : (w u v : World) (x : ℕ) → Anew w u x → Left u v x → Anew w v x
anew-left w u v x a b = record {
  location = a.location;
  slot = a.slot;
  table = b.table ∙ a.table;
  file = b.file a.location a.table ∙ a.file;
  free = a.free;
}

anew-earlier : (w u v : World) (x : ℕ) → ((k : ℕ) → view_at (views_of u) k ≡ empty → view_at (views_of w) k ≡ empty) → Anew u v x → Anew w v x
anew-earlier w u v x h a = record { location = a.location; slot = a.slot; table = a.table; file = a.file; free = h a.slot a.free }

module _ (history : List Op) where
  -- files one after another
  pub files-relocate : (g : ℕ) (files : List (List Op)) (w : World) → SoundWorld w (engine history) → g ≤ 255 → All (Rewritable (engine history)) files
      → All (λ (f : List Op). 64 + length (file_bytes f) ≤ w.settings.slot_bytes) files → length files ≤ empty_of w
      → w.state.next_position + sum (λ (f : List Op). length (objects_of f) + 1) files ≤ 2 ^ 62
      → (x : ℕ) → Left w (installed_all 0 g w files) x ⊎ (Anew w (installed_all 0 g w files) x × (any (λ (f : List Op). heard_in f x) files ≡ true))
  unfolding installed_all sum any
  files-relocate g [] w s aged r slot free positions x = inl (record { table = refl; file = λ l e. refl })
  files-relocate g (f ∷ fs) w s aged r slot free positions x =
      let fit = fits-file history w s g f r.0 aged slot.0 (omega arith) (omega arith) in
      let n : length (objects_of f) < 2 ^ 64 = omega arith in
      let e = installed-numbers history g w f in
      let e1 = e.1 in
      let d = one_fewer 0 g w f in
      let rest = files-relocate g fs (installed 0 g w f)
      (sound-told (installed 0 g w f) (λ x. over (file_says (file_of_ops (new_lsn 0 w) g f) x) (engine history x)) (engine history)
      (λ x. still-said history f r.0 n (new_lsn 0 w) g x) (sound-installed w (engine history) s 0 g f fit))
      aged r.1
      (subst (λ (c : Settings). All (λ (f : List Op). 64 + length (file_bytes f) ≤ c.slot_bytes) fs) (sym e.0) slot.1)
      (omega arith) (omega arith) x in
      go (free-before history w s g f fit) (after-file history w s g f fit x) rest
    where
      go : ((k : ℕ) → view_at (views_of (installed 0 g w f)) k ≡ empty → view_at (views_of w) k ≡ empty)
          → Left w (installed 0 g w f) x ⊎ (Anew w (installed 0 g w f) x × (heard_in f x ≡ true))
          → Left (installed 0 g w f) (installed_all 0 g (installed 0 g w f) fs) x ⊎ (Anew (installed 0 g w f) (installed_all 0 g (installed 0 g w f) fs) x × (any (λ (f : List Op). heard_in f x) fs ≡ true))
          → Left w (installed_all 0 g (installed 0 g w f) fs) x ⊎ (Anew w (installed_all 0 g (installed 0 g w f) fs) x × ((heard_in f x || any (λ (f : List Op). heard_in f x) fs) ≡ true))
      go h (inl a) (inl b) = inl (left-left w (installed 0 g w f) (installed_all 0 g (installed 0 g w f) fs) x a b)
      go h (inr a) (inl b) = inr (anew-left w (installed 0 g w f) (installed_all 0 g (installed 0 g w f) fs) x a.0 b, or-holds (heard_in f x) (any (λ (f : List Op). heard_in f x) fs) (inl a.1))
      go h a (inr b) = inr (anew-earlier w (installed 0 g w f) (installed_all 0 g (installed 0 g w f) fs) x h b.0, or-holds (heard_in f x) (any (λ (f : List Op). heard_in f x) fs) (inr b.1))

-- 4, 5 and 7 decided for the whole group
fits-relocate : (history : List Op) (w : World) → SoundWorld w (engine history) → (g : ℕ) → g ≤ 255 → (ks : List ℕ) (x : ℕ) (fs : List (List Op)) → All (Rewritable (engine history)) fs → All (PartOf (found w ks)) fs
    → NoneHolds (room_tests w.settings.slot_bytes (empty_of w) fs ++ position_tests w.state.next_position fs)
    → Left w (installed_all 0 g w fs) x ⊎ (Anew w (installed_all 0 g w fs) x × (heard_in (found w ks) x ≡ true))
unfolding installed_all
fits-relocate history w s g aged ks x [] r p n = inl (record { table = refl; file = λ l e. refl })
fits-relocate history w s g aged ks x (f ∷ fs) r p n =
    let tests = room_tests w.settings.slot_bytes (empty_of w) (f ∷ fs) in
    let b = room-clear w.settings.slot_bytes (empty_of w) (f ∷ fs) (none_first tests _ n) in
    let c = positions-clear w.state.next_position (f ∷ fs) (none_rest tests _ n) (omega arith) in
    ⊎_elim inl (λ z. inr (z.0, part-heard (found w ks) x (f ∷ fs) p z.1))
    (files-relocate history g (f ∷ fs) w s aged r b.fits b.slots c x)

-- LAW: a group, rewritten or refused
pub group-relocates : (history : List Op) (w : World) → SoundWorld w (engine history) → (g : ℕ) → g ≤ 255 → (ks : List ℕ) (moved : ℕ) (x : ℕ)
    → Left w (rewrite_group g ks moved w).world x ⊎ (Anew w (rewrite_group g ks moved w).world x × (heard_in (found w ks) x ≡ true))
unfolding rewrite_group group_tests
group-relocates history w s g aged ks moved x = go (decide (group_tests w ks (files_of w.settings.target_file_size (found w ks)))) refl
  where
    go : (a : Answer) → decide (group_tests w ks (files_of w.settings.target_file_size (found w ks))) ≡ a
        → Left w (after {A = Course} a (λ (r : Refusal). record { stop = stopped r g; moved = moved; world = w })
        (record { stop = going; moved = moved + length (found w ks); world = installed_all 0 g w (files_of w.settings.target_file_size (found w ks)) })).world x
        ⊎ (Anew w (after {A = Course} a (λ (r : Refusal). record { stop = stopped r g; moved = moved; world = w })
        (record { stop = going; moved = moved + length (found w ks); world = installed_all 0 g w (files_of w.settings.target_file_size (found w ks)) })).world x
        × (heard_in (found w ks) x ≡ true))
    go (Err r) e = inl (record { table = refl; file = λ l e. refl })
    go (Ok _) e =
        fits-relocate history w s g aged ks x (files_of w.settings.target_file_size (found w ks)) (files-rewritable history w s ks w.settings.target_file_size) (files-parts w.settings.target_file_size (found w ks))
        (none_rest (source_tests w ks) _
        (clear-when (group_tests w ks (files_of w.settings.target_file_size (found w ks))) e))
