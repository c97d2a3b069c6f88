-- Request P5: a heap is clean exactly if its list is empty.
use Rattle.std.specs.Prelude.{◌≡◌, refl, ◌≤◌, ◌+◌}
use Rattle.std.proofs.Common.{sym, ap, subst, arith, ltb-false, le-ltb, eqb-true, eq-eqb}
use Rattle.std.proofs.lemmas.Bool.{not-false}
use Rattle.numbers.specs.LittleEndian.{Bytes}
use Rattle.rules.specs.Base.{false, not, List, [], ℕ, length}
use Rattle.rules.specs.BaseLaws.{All}
use Rattle.rules.proofs.BaseLaws.{all_map, all_both}
use Rattle.disk_location.specs.Locations.{raw_of}
use Rattle.rules.specs.Refusal.{NoneHolds}
use Rattle.rules.specs.Object.{Stored, bad_checksum, objects_in}
use Rattle.rules.specs.Read.{object_tests}
use Rattle.rules.specs.SlotFile.{File, holds}
use Rattle.rules.specs.TableLaws.{Has}
use Rattle.rules.specs.Condition1.{out_of_range}
use Rattle.rules.specs.Reopen.{not_rising, reopen_call}
use Rattle.rules.specs.World.{World, accepted}
use Rattle.theory.specs.Types.{Entry}
use Rattle.theory.specs.Places.{view_at}
use Rattle.theory.proofs.Files.{any-file}
use Rattle.theory.specs.Picture.{views_of}
use Rattle.theory.specs.Sound.{WholeFile}
use Rattle.history_theory.specs.Clean.{Clean}
use Rattle.check_theory.proofs.Lists.{none-there}
use Rattle.check_theory.proofs.Passing.{list-whole, whole-list}
use Rattle.check_theory.specs.Objects.{NoLine, Faultless, FaultlessFile}
use Rattle.check_theory.proofs.Objects.{file-faultless, faultless-file}
use Rattle.check_theory.specs.Accepting.{list_of, HasPosition}
use Rattle.check_theory.proofs.Accepting.{accepted-whole, positions-accepted}

-- ---- one object
clear-faultless : (es : List Entry) (o : Stored) → NoneHolds (object_tests o.id o) → Has es o.id (raw_of o.position false) → Faultless es o
unfolding object_tests NoneHolds bad_checksum
clear-faultless es o n h = record { within = ltb-false _ _ n.1.0; checksum = eqb-true _ _ (not-false _ n.1.1.0); entry = h }

faultless-clear : (es : List Entry) (o : Stored) → Faultless es o → NoneHolds (object_tests o.id o)
unfolding object_tests NoneHolds bad_checksum
faultless-clear es o k =
    let w = k.within in
    let header : 20 ≤ o.room = omega arith in
    (le-ltb o.room 20 header, (le-ltb o.room (20 + o.size) w, (ap not (eq-eqb _ _ k.checksum), (ap not (eq-eqb o.id o.id refl), tt))))

-- ---- a file: whole, whoever wrote it
whole-faultless : (f : File) → WholeFile f → FaultlessFile f
whole-faultless f w =
    let os = objects_in f.objects in
    record {
      objects = all_map (λ (o : Stored). NoneHolds (object_tests o.id o) × Has f.entries o.id (raw_of o.position false)) (Faultless f.entries) os (λ o p. clear-faultless f.entries o p.0 p.1)
          (all_both (λ (o : Stored). NoneHolds (object_tests o.id o)) (λ (o : Stored). Has f.entries o.id (raw_of o.position false)) os w.walked w.entered);
      entries = w.stored;
    }

faultless-whole : (f : File) → FaultlessFile f → not_rising f.entries ≡ false → WholeFile f
faultless-whole f t r =
    let os = objects_in f.objects in
    record {
      walked = all_map (Faultless f.entries) (λ (o : Stored). NoneHolds (object_tests o.id o)) os (faultless-clear f.entries) t.objects;
      entered = all_map (Faultless f.entries) (λ (o : Stored). Has f.entries o.id (raw_of o.position false)) os (λ o k. k.entry) t.objects;
      stored = t.entries;
      repeats = r;
    }

-- ---- a heap
-- LAW: reopening accepts and files are whole: nothing is listed
pub whole-empty : (w : World) → (reopen_call w).answer ≡ accepted [] → ((k : ℕ) (f : File) → view_at (views_of w) k ≡ holds f → WholeFile f) → list_of w ≡ []
whole-empty w h whole =
    none-there (list_of w) (whole-list NoLine w.settings w.heap w.table (accepted-whole NoLine w h (λ k f e. faultless-file k f (whole-faultless f (whole k f e)))))

-- request P5: of a clean heap nothing is listed
pub clean-list : (w : World) → Clean w → list_of w ≡ []
clean-list w c = whole-empty w c.reopens c.whole

-- request P5: and a heap of bytes, in range, of which nothing is listed is clean
pub list-clean : (w : World) → out_of_range w.settings (length w.heap) w.table ≡ false → Bytes w.heap → list_of w ≡ [] → Clean w
list-clean w range bytes e = record {
  bytes = bytes;
  reopens = positions-accepted w range (subst (All HasPosition) (sym e) tt);
  whole = λ k f h.
      let l = list-whole NoLine w.settings w.heap w.table (λ slot r n. n) (subst (All NoLine) (sym e) tt) in
      faultless-whole f (file-faultless (0 + k) f (l.slots.lines k f h)) (any-file (λ (g : File). not_rising g.entries) (views_of w) l.slots.rising k f h);
}
