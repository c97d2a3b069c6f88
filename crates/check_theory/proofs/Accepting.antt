-- Request P5: every line has a position exactly if reopening accepts.
use Rattle.std.specs.Prelude.{◌≡◌, refl, ◌&&◌, ◌∷◌, ◌++◌, ◌+◌}
use Rattle.std.proofs.Common.{subst, arith, le-ltb}
use Rattle.rules.specs.Base.{Bool, true, false, not, [], ℕ, length, pick, any, each}
use Rattle.rules.specs.BaseLaws.{All}
use Rattle.rules.proofs.BaseLaws.{all_append}
use Rattle.disk_location.specs.Locations.{position_of, delete_of}
use Rattle.rules.specs.Refusal.{decide, NoneHolds}
use Rattle.rules.proofs.RefusalLaws.{none-append, decide-clear}
use Rattle.rules.specs.Object.{Stored, bad_checksum, objects_in}
use Rattle.rules.specs.SlotFile.{File, holds}
use Rattle.rules.specs.Condition1.{out_of_range}
use Rattle.rules.specs.Layout.{capacity_of}
use Rattle.rules.specs.Reopen.{view_tests, files_in, table_of, reopen_tests, opened, reopen_call}
use Rattle.rules.specs.World.{World, accepted}
use Rattle.theory.specs.Types.{Entry, Refusal, Checksum, CutShort, OtherId}
use Rattle.theory.proofs.Lists.{all-each}
use Rattle.theory.specs.Places.{view_at}
use Rattle.theory.proofs.Files.{no-damage-tests}
use Rattle.theory.specs.Picture.{views_of}
use Rattle.theory.proofs.Reopened.{passed}
use Rattle.check_theory.specs.Types.{Fault, Nowhere, Object}
use Rattle.faults.specs.Faults.{line, line_if, passes, walked, entered, object_faults, entry_faults, file_faults}
use Rattle.check_theory.proofs.Lists.{of-every}
use Rattle.check_theory.specs.Passing.{Whole}
use Rattle.check_theory.proofs.Passing.{none-behind, list-whole, whole-list}
use Rattle.check_theory.specs.Accepting.{list_of, HasPosition}

nowhere-not : (slot : ℕ) (r : Refusal) → HasPosition (line slot r Nowhere) → ⊥
nowhere-not slot r (p, e) = let z : ◌≡◌ {A = ℕ} 0 1 = cc in omega arith

-- LAW: every line of a file's objects and entries has a position
pub file-positions : (slot : ℕ) (f : File) → All HasPosition (file_faults slot f)
unfolding file_faults object_faults entry_faults
file-positions slot f =
    all_append HasPosition (each (object_faults slot f.entries) (objects_in f.objects)) (each (entry_faults slot (walked f)) f.entries)
    (all-each HasPosition (object_faults slot f.entries) (objects_in f.objects) (of-every (λ (o : Stored). All HasPosition (object_faults slot f.entries o)) (objects_in f.objects) (λ o. object (passes o) (bad_checksum o) (any (entered o) f.entries) o.position)))
    (all-each HasPosition (entry_faults slot (walked f)) f.entries (of-every (λ (e : Entry). All HasPosition (entry_faults slot (walked f) e)) f.entries
    (λ e. entry (not (delete_of e.location) && not (any (λ (o : Stored). entered o e) (walked f))) (position_of e.location))))
  where
    object : (p c t : Bool) (n : ℕ)
        → All HasPosition (pick p (line slot CutShort (Object n) ∷ []) (line_if c (line slot Checksum (Object n)) ++ line_if (not t) (line slot OtherId (Object n))))
    object true c t n = ((n, refl), tt)
    object false true true n = ((n, refl), tt)
    object false true false n = ((n, refl), ((n, refl), tt))
    object false false true n = tt
    object false false false n = ((n, refl), tt)

    entry : (c : Bool) (n : ℕ) → All HasPosition (line_if c (line slot OtherId (Object n)))
    entry true n = ((n, refl), tt)
    entry false n = tt

-- what an accepted reopening went through, and lines of files that are such
pub accepted-whole : (P : Fault → Type 0) (w : World) → (reopen_call w).answer ≡ accepted []
    → ((k : ℕ) (f : File) → view_at (views_of w) k ≡ holds f → All P (file_faults k f)) → Whole P w.settings w.heap w.table
accepted-whole P w h lines =
    let p = passed w h in
    record {
      slots = record {
        undamaged = no-damage-tests (views_of w) p.whole;
        rising = p.once;
        behind = none-behind (views_of w);
        clear = p.clear;
        lines = λ k f e. let n : k ≡ 0 + k = omega arith in subst (λ (m : ℕ). All P (file_faults m f)) n (lines k f e);
      };
      room = le-ltb (capacity_of w.table) (length (table_of (files_in (views_of w)))) p.room;
    }

-- none of reopening's tests holds
whole-clear : (P : Fault → Type 0) (w : World) → Whole P w.settings w.heap w.table → NoneHolds (reopen_tests w (views_of w))
unfolding reopen_tests NoneHolds
whole-clear P w h = none-append (each view_tests (views_of w)) _ h.slots.undamaged (h.slots.clear, (h.slots.rising, (h.room, tt)))

-- request P5: every line has a position: reopening accepts
pub positions-accepted : (w : World) → out_of_range w.settings (length w.heap) w.table ≡ false → All HasPosition (list_of w) → (reopen_call w).answer ≡ accepted []
unfolding reopen_call decide opened
positions-accepted w range a =
    rw (range, decide-clear (reopen_tests w (views_of w)) (whole-clear HasPosition w (list-whole HasPosition w.settings w.heap w.table nowhere-not a))) refl

-- request P5: and only then
pub accepted-positions : (w : World) → (reopen_call w).answer ≡ accepted [] → All HasPosition (list_of w)
accepted-positions w h = whole-list HasPosition w.settings w.heap w.table (accepted-whole HasPosition w h (λ k f e. file-positions k f))
