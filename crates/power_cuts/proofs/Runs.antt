-- Request P8: "a numbered run of single-byte stores" for each call of demand 3, accepted or refused; a call changes the heap by its run alone.
use Rattle.std.specs.Prelude.{◌≡◌, refl, ◌∷◌, ◌+◌, ◌^◌, Err, Ok}
use Rattle.std.proofs.Common.{sym, ap, ◌∙◌}
use Rattle.rules.specs.Base.{Bool, true, false, List, [], ℕ, length, pick}
use Rattle.theory.specs.Types.{Refusal, Limits, Answer}
use Rattle.rules.specs.Refusal.{◌gives◌, decide, after}
use Rattle.rules.specs.Ops.{Op, settled}
use Rattle.rules.specs.Batch.{batch_in, ops_of}
use Rattle.rules.specs.Condition1.{out_of_range, refused1}
use Rattle.rules.specs.Stores.{made}
use Rattle.rules.proofs.StoreLaws.{made-append}
use Rattle.rules.specs.Install.{new_label, new_lsn, stores_for, installed, installed_all}
use Rattle.rules.specs.Write.{new_files, write_tests, written, write_call}
use Rattle.rules.specs.Prune.{prune_stores, pruned, prune_call}
use Rattle.rules.specs.Maintenance.{group, found, files_of, going, stopped, Course, group_tests, rewrite_group}
use Rattle.rules.specs.TwoCalls.{too_few, rewrite_tests, generation_rewritten, rewrite_of, rewrite_call}
use Rattle.rules.specs.SlotFile.{View, views_in}
use Rattle.rules.specs.Reopen.{reopen_tests, given_up, opened, reopen_call}
use Rattle.rules.specs.World.{World, slots_of, accepted, unchanged}
use Rattle.history_theory.proofs.Quiet.{undisturbed}
use Rattle.history_theory.proofs.OneGeneration.{rewrite-world}
use Rattle.history_theory.specs.History.{Call, write, rewrite, prune, reopen, quiet, called}
use Rattle.power_cuts.specs.Runs.{files_run, unless_refused, write_run, prune_run, group_run, generation_run, rewrite_run, run_of}

-- ---- a call changes the heap by its run alone
-- files added
pub files-made : (bit g : ℕ) (w : World) (files : List (List Op)) → (installed_all bit g w files).heap ≡ made (files_run bit g w files) w.heap
unfolding installed_all files_run installed made
files-made bit g w [] = refl
files-made bit g w (f ∷ fs) =
    files-made bit g (installed bit g w f) fs
    ∙ sym (made-append (stores_for (new_label (new_lsn bit w) g f) w f) (files_run bit g (installed bit g w f) fs) w.heap)

write-made : (w : World) (bytes : List ℕ) → (write_call w bytes).world.heap ≡ made (write_run w bytes) w.heap
unfolding write_call write_run written made
write-made w bytes = go (decide (write_tests w bytes))
  where
    go : (a : Answer) → (after a (unchanged w) (record { answer = accepted []; world = installed_all (2 ^ 62) 0 w (new_files (settled (ops_of (batch_in bytes)))) })).world.heap
        ≡ made (unless_refused a (files_run (2 ^ 62) 0 w (new_files (settled (ops_of (batch_in bytes)))))) w.heap
    go (Err r) = refl
    go (Ok _) = files-made (2 ^ 62) 0 w (new_files (settled (ops_of (batch_in bytes))))

prune-made : (w : World) → (prune_call w).world.heap ≡ made (prune_run w) w.heap
unfolding prune_call prune_run pruned made
prune-made w = go (decide (refused1 w gives Limits ∷ []))
  where
    go : (a : Answer) → (after a (unchanged w) (record { answer = accepted []; world = pruned w })).world.heap ≡ made (unless_refused a (prune_stores w)) w.heap
    go (Err r) = refl
    go (Ok _) = refl

group-made : (g : ℕ) (slots : List ℕ) (moved : ℕ) (w : World) → (rewrite_group g slots moved w).world.heap ≡ made (group_run g slots w) w.heap
unfolding rewrite_group group_run made
group-made g slots moved w = go (decide (group_tests w slots (files_of w.settings.target_file_size (found w slots))))
  where
    go : (a : Answer)
        → (after {A = Course} a (λ (r : Refusal). record { stop = stopped r g; moved = moved; world = w })
        (record { stop = going; moved = moved + length (found w slots); world = installed_all 0 g w (files_of w.settings.target_file_size (found w slots)) })).world.heap
        ≡ made (unless_refused a (files_run 0 g w (files_of w.settings.target_file_size (found w slots)))) w.heap
    go (Err r) = refl
    go (Ok _) = files-made 0 g w (files_of w.settings.target_file_size (found w slots))

generation-made : (w : World) (g mark count : ℕ) → (generation_rewritten w g mark count).world.heap ≡ made (generation_run w g mark count) w.heap
unfolding generation_rewritten generation_run made
generation-made w g mark count = go (too_few w (group w g mark count))
  where
    go : (b : Bool) → (pick b (record { stop = going; moved = 0; world = w }) (rewrite_group g (group w g mark count) 0 w)).world.heap
        ≡ made (pick b [] (group_run g (group w g mark count) w)) w.heap
    go true = refl
    go false = group-made g (group w g mark count) 0 w

rewrite-made : (w : World) (room g mark count : ℕ) → (rewrite_call w room g mark count).world.heap ≡ made (rewrite_run w room g mark count) w.heap
unfolding rewrite_of rewrite_run made
rewrite-made w room g mark count = ap (λ (v : World). v.heap) (rewrite-world w room g mark count) ∙ go (decide (rewrite_tests w room g))
  where
    go : (a : Answer) → (after {A = Course} a (λ (r : Refusal). record { stop = stopped r g; moved = 0; world = w }) (generation_rewritten w g mark count)).world.heap
        ≡ made (unless_refused a (generation_run w g mark count)) w.heap
    go (Err r) = refl
    go (Ok _) = generation-made w g mark count

-- "The heap is only read."
reopen-reads : (w : World) → (reopen_call w).world.heap ≡ w.heap
unfolding reopen_call given_up opened
reopen-reads w = go (decide (out_of_range w.settings (length w.heap) w.table gives Limits ∷ [])) (decide (reopen_tests w views))
  where
    views : List View
    views = views_in (slots_of w) w.settings.slot_bytes w.heap

    go : (a b : Answer) → (after a (unchanged w) (after b (given_up w) (opened w (views_in (slots_of w) w.settings.slot_bytes w.heap)))).world.heap ≡ w.heap
    go (Err r) b = refl
    go (Ok _) (Err r) = refl
    go (Ok _) (Ok _) = refl

-- LAW: "Write, rewrite and prune change the heap only through" their runs; of any world, any call, refused or not
pub run-made : (w : World) (c : Call) → (called w c).world.heap ≡ made (run_of w c) w.heap
unfolding made
run-made w (write bytes) = write-made w bytes
run-made w (rewrite room g mark count) = rewrite-made w room g mark count
run-made w prune = prune-made w
run-made w reopen = reopen-reads w
run-made w (quiet q) = (undisturbed w q).heap
