-- What number and out-parameters tell a host: the kind which of three answers a read or a load gave, and whose bytes those of a read through a batch are; a
-- location 0 that none is held.
use Rattle.std.specs.Prelude.{◌≡◌, refl, ◌≤◌, ◌<◌, ◌∷◌, Err, None, Ok, Some}
use Rattle.std.proofs.Common.{subst, arith}
use Rattle.std.proofs.lemmas.Bool.{eqb-false}
use Rattle.rules.specs.Base.{Bool, true, false, List, [], ℕ, eqb, pick, padded}
use Rattle.rules.specs.Types.{Slot, Held, Answer, ReadAnswer}
use Rattle.rules.specs.declared.Loaded.{Loaded}
use Rattle.rules.specs.declared.Loaded.TheVariants.{At, DeletedAt, Never}
use Rattle.rules.specs.declared.Lookup.TheVariants.{Found, Deleted, NeverWritten}
use Rattle.rules.specs.declared.Refusal.TheVariants.{Limits}
use Rattle.rules.specs.Answers.{read_values, load_values}
use Rattle.rules.proofs.Answers.{known}
use Rattle.rules.specs.FileMap.{file_for}
use Rattle.rules.specs.Layout.{Table, table_ids, table_locations, used_in, used_entries}
use Rattle.rules.specs.Read.{object_tests, read_file, read_loaded, read_of, read_call}
use Rattle.rules.specs.Refusal.{◌gives◌, decide, after}
use Rattle.rules.specs.Table.{lookup, load}
use Rattle.rules.specs.TableCalls.{not_form, load_call}
use Rattle.rules.specs.World.{World, Given, refused, records_of, mappings, read_given, loaded_given}
use Rattle.through.specs.Answers.{ThroughAnswer}
use Rattle.through.specs.declared.ThroughLookup.TheVariants.{InBatch, InHeap, ThroughDeleted, ThroughNever}
use Rattle.through.specs.Through.{through_of, through_given, through_call}
use Rattle.through.specs.ThroughLaws.{through_values}
use Rattle.as_numbers.specs.Shown.{shown}

-- ---- read
-- number 0: the three places say which answer it is
pub read_told : (w : World) (id : ℕ) → (read_call w id).answer.number ≡ 0 → read_of w id ≡ read_values (shown 3 (read_call w id).answer)
unfolding read_call padded
read_told w id = go (read_of w id)
  where
    go : (a : ReadAnswer) → (read_given a).number ≡ 0 → a ≡ read_values (shown 3 (read_given a))
    go (Ok (Found start size)) e = refl
    go (Ok Deleted) e = refl
    go (Ok NeverWritten) e = refl
    go (Err r) e = absurd (eqb-false _ 0 (known r).some e)

-- number 0: the four places say which answer a read through a batch gave
pub through-told : (w : World) (batch : List ℕ) (id : ℕ) → (through_call w batch id).answer.number ≡ 0
    → through_of w batch id ≡ through_values (shown 4 (through_call w batch id).answer)
unfolding through_call padded
through-told w batch id = go (through_of w batch id)
  where
    go : (a : ThroughAnswer) → (through_given a).number ≡ 0 → a ≡ through_values (shown 4 (through_given a))
    go (Ok (InBatch start size)) e = refl
    go (Ok (InHeap start size)) e = refl
    go (Ok ThroughDeleted) e = refl
    go (Ok ThroughNever) e = refl
    go (Err r) e = absurd (eqb-false _ 0 (known r).some e)

-- where a found part starts
abbrev start_of : ReadAnswer → ℕ
start_of (Ok (Found start size)) = start
start_of (Ok Deleted) = 84
start_of (Ok NeverWritten) = 84
start_of (Err r) = 84

-- what is behind tests starts no earlier than what they let through
late : (a : Answer) (found : ReadAnswer) → 84 ≤ start_of found → 84 ≤ start_of (after a Err found)
late (Ok _) found h = h
late (Err r) found h = omega arith

-- "header is 20", behind a label of 64
late-file : (w : World) (id l : ℕ) (s : Slot) → 84 ≤ start_of (read_file w id l s)
late-file w id l None = omega arith
late-file w id l (Some k) = late (decide (object_tests id _)) _ (omega arith)

-- never written, deleted, or there
late-loaded : (w : World) (id : ℕ) (l : Loaded) → 84 ≤ start_of (read_loaded w id l)
late-loaded w id Never = omega arith
late-loaded w id (DeletedAt l) = omega arith
late-loaded w id (At l) = late-file w id l (file_for (records_of w) l)

-- a part that a read finds starts at byte 84 or later
pub found-late : (w : World) (id start size : ℕ) → read_of w id ≡ Ok (Found start size) → 84 ≤ start
unfolding read_of
found-late w id start size e = subst (λ (a : ReadAnswer). 84 ≤ start_of a) e (late (decide _) (read_loaded w id (load (mappings w) id)) (late-loaded w id (load (mappings w) id)))

-- ---- the table
-- number 0: the two places say what load told
pub load_told : (b : Table) (id : ℕ) → (load_call b id).answer.number ≡ 0 → load (used_entries b) id ≡ load_values (shown 2 (load_call b id).answer)
unfolding load_call padded
load_told b id = go (decide (not_form b gives Limits ∷ [])) (load (used_entries b) id)
  where
    go : (a : Answer) (l : Loaded) → (after {A = Given} a refused (loaded_given l)).number ≡ 0 → l ≡ load_values (shown 2 (after {A = Given} a refused (loaded_given l)))
    go (Ok _) (At l) e = refl
    go (Ok _) (DeletedAt l) e = refl
    go (Ok _) Never e = refl
    go (Err r) l e = absurd (eqb-false _ 0 (known r).some e)

-- the location held
abbrev held_at : Held → ℕ
held_at (Some l) = l
held_at None = 1

-- "location 0 means unused": no used entry has it
some-held : (is ls : List ℕ) (id : ℕ) → 0 < held_at (lookup (used_in is ls) id)
unfolding used_in lookup
some-held [] ls id = omega arith
some-held (i ∷ is) [] id = omega arith
some-held (i ∷ is) (l ∷ ls) id = go (eqb l 0) refl (some-held is ls id)
  where
    within : (b : Bool) → eqb l 0 ≡ false → 0 < held_at (lookup (used_in is ls) id) → 0 < held_at (pick b (Some l) (lookup (used_in is ls) id))
    within true e h = omega (arith, eqb-false l 0 e)
    within false e h = h

    go : (b : Bool) → eqb l 0 ≡ b → 0 < held_at (lookup (used_in is ls) id) → 0 < held_at (lookup (pick b [] (record { id = i; location = l } ∷ used_in is ls)) id)
    go true e h = omega arith
    go false e h = within (eqb i id) e h

-- a location that the table holds is not 0
pub held-some : (b : Table) (id l : ℕ) → lookup (used_entries b) id ≡ Some l → 0 < l
unfolding used_entries
held-some b id l e = subst (λ (h : Held). 0 < held_at h) e (some-held (table_ids b) (table_locations b) id)
