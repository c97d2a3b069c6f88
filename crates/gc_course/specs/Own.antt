-- A group's own refusals: none of its tests gives 1.
use Rattle.std.specs.Prelude.{◌≡◌, refl, ◌<◌, ◌∷◌, Err, Ok}
use Rattle.std.proofs.Common.{sym, subst, arith}
use Rattle.rules.specs.Base.{Bool, true, false, List, [], ℕ, length, each, ltb, pick}
use Rattle.rules.specs.BaseLaws.{All}
use Rattle.rules.proofs.BaseLaws.{all_append}
use Rattle.rules.specs.declared.Entry.{Entry}
use Rattle.rules.specs.declared.Label.{Label}
use Rattle.rules.specs.declared.Refusal.{Refusal}
use Rattle.rules.specs.Types.{Answer}
use Rattle.rules.specs.Refusal.{Test, ◌gives◌, decide, after, number_of}
use Rattle.rules.specs.Object.{Stored}
use Rattle.rules.specs.Trailer.{trailer_tests}
use Rattle.rules.specs.SlotFile.{trailer_part}
use Rattle.rules.specs.Ops.{Op}
use Rattle.rules.specs.FileMap.{record_at}
use Rattle.rules.specs.Install.{room_tests, position_tests, empty_of}
use Rattle.rules.specs.Maintenance.{Stop, going, stopped, Course, moved_tests, delete_tests, stored_objects, deletes_of, file_tests, source_tests, slot_of, group_tests, found, files_of, rewrite_group, group}
use Rattle.rules.specs.TwoCalls.{generation_rewritten}
use Rattle.rules.specs.World.{World, records_of, mappings}

-- a test that gives another refusal than 1
abbrev Own : Test → Type 0
Own (b gives r) = 1 < number_of r

-- an answer other than 1
abbrev OwnAnswer : Answer → Type 0
OwnAnswer (Ok _) = Unit {0}
OwnAnswer (Err r) = 1 < number_of r

-- a stop other than by 1
abbrev pub OwnStop : Stop → Type 0
OwnStop going = Unit {0}
OwnStop (stopped r g) = 1 < number_of r

own-decided : (ts : List Test) → All Own ts → OwnAnswer (decide ts)
unfolding decide
own-decided [] a = tt
own-decided (true gives q ∷ ts) a = a.0
own-decided (false gives q ∷ ts) a = own-decided ts a.1

own-each : {A : Type 0} (f : A → List Test) → ((x : A) → All Own (f x)) → (xs : List A) → All Own (each f xs)
unfolding each
own-each f h [] = tt
own-each f h (x ∷ xs) = all_append Own (f x) (each f xs) (h x) (own-each f h xs)

own-moved : (limit : ℕ) (table : List Entry) (o : Stored) → All Own (moved_tests limit table o)
unfolding moved_tests
own-moved limit table o = (omega arith, (omega arith, (omega arith, (omega arith, (omega arith, tt)))))

own-delete : (lsn : ℕ) (table : List Entry) (e : Entry) → All Own (delete_tests lsn table e)
unfolding delete_tests
own-delete lsn table e = (omega arith, (omega arith, tt))

own-trailer : (trailer : List ℕ) → All Own (trailer_tests trailer)
unfolding trailer_tests
own-trailer trailer = (omega arith, (omega arith, (omega arith, tt)))

own-file : (limit : ℕ) (table : List Entry) (l : Label) (slot : List ℕ) → All Own (file_tests limit table l slot)
unfolding file_tests
own-file limit table l slot =
    all_append Own (trailer_tests (trailer_part l slot)) _ (own-trailer (trailer_part l slot))
    (all_append Own (each (moved_tests limit table) (stored_objects l slot)) _ (own-each (moved_tests limit table) (own-moved limit table) (stored_objects l slot))
    (own-each (delete_tests l.lsn table) (own-delete l.lsn table) (deletes_of l slot)))

own_room : (size empty : ℕ) (files : List (List Op)) → All Own (room_tests size empty files)
unfolding room_tests
own_room size empty files = (omega arith, (omega arith, tt))

own-positions : (base : ℕ) (files : List (List Op)) → All Own (position_tests base files)
unfolding position_tests
own-positions base files = (omega arith, tt)

own-tests : (w : World) (slots : List ℕ) (files : List (List Op)) → All Own (group_tests w slots files)
unfolding group_tests
own-tests w slots files =
    all_append Own (source_tests w slots) _
    (own-each (λ (k : ℕ). file_tests w.settings.max_object_size (mappings w) (record_at (records_of w) k).label (slot_of w k))
    (λ k. own-file w.settings.max_object_size (mappings w) (record_at (records_of w) k).label (slot_of w k)) slots)
    (all_append Own (room_tests w.settings.slot_bytes (empty_of w) files) _ (own_room w.settings.slot_bytes (empty_of w) files)
    (own-positions w.state.next_position files))

own-group : (generation : ℕ) (slots : List ℕ) (moved : ℕ) (w : World) → OwnStop (rewrite_group generation slots moved w).stop
unfolding rewrite_group
own-group generation slots moved w =
    let files = files_of w.settings.target_file_size (found w slots) in
    go (decide (group_tests w slots files)) (own-decided (group_tests w slots files) (own-tests w slots files)) _ refl
  where
    go : (a : Answer) → OwnAnswer a → (done : Course) → done.stop ≡ going
        → OwnStop (after {A = Course} a (λ (r : Refusal). record { stop = stopped r generation; moved = moved; world = w }) done).stop
    go (Ok _) o done e = subst OwnStop (sym e) tt
    go (Err r) o done e = o

-- a generation's rewrite stops by a refusal of its own, if any
pub own-generation : (w : World) (generation mark count : ℕ) → OwnStop (generation_rewritten w generation mark count).stop
unfolding generation_rewritten
own-generation w generation mark count = go (ltb (length (group w generation mark count)) w.settings.min_compaction_files)
  where
    go : (b : Bool) → OwnStop (pick {A = Course} b (record { stop = going; moved = 0; world = w }) (rewrite_group generation (group w generation mark count) 0 w)).stop
    go true = tt
    go false = own-group generation (group w generation mark count) 0 w
