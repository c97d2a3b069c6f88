-- Request P8: the run of a call is the runs of its writers, one behind the other, with what the call gives each of them.
use Rattle.std.specs.Prelude.{◌≡◌, refl, ◌∷◌, ◌++◌, ◌^◌, Err, Ok}
use Rattle.std.proofs.Common.{ap, append-nil}
use Rattle.rules.specs.Base.{Bool, true, false, List, [], each, ℕ, pick}
use Rattle.theory.specs.Types.{Limits, Answer}
use Rattle.rules.specs.Refusal.{◌gives◌, decide}
use Rattle.rules.specs.Ops.{Op, settled}
use Rattle.rules.specs.Batch.{batch_in, ops_of}
use Rattle.rules.specs.Condition1.{refused1}
use Rattle.rules.specs.FileMap.{slots_where}
use Rattle.rules.specs.Stores.{Store}
use Rattle.rules.specs.Install.{new_label, new_lsn, stores_for, installed}
use Rattle.rules.specs.Write.{new_files, write_tests}
use Rattle.rules.specs.Prune.{is_dead, prune_stores}
use Rattle.rules.specs.PruneLaws.{emptying}
use Rattle.rules.specs.Maintenance.{group, found, files_of, group_tests}
use Rattle.rules.specs.TwoCalls.{too_few, rewrite_tests}
use Rattle.rules.specs.World.{World, records_of}
use Rattle.history_theory.specs.History.{Call, write, rewrite, prune, reopen, quiet}
use Rattle.power_cuts.specs.Runs.{files_run, unless_refused, write_run, prune_run, group_run, generation_run, rewrite_run, run_of}
use Rattle.power_cuts.specs.Jobs.{Job, jobs_run, file_jobs, group_jobs, generation_jobs, prune_jobs, jobs_of}

-- ---- their runs are the call's
-- none for a call that is refused
refused-run : (a : Answer) (js : List Job) (run : List Store) → jobs_run js ≡ run → jobs_run (unless_refused a js) ≡ unless_refused a run
unfolding each
refused-run (Err r) js run e = refl
refused-run (Ok _) js run e = e

file-runs : (bit g : ℕ) (w : World) (files : List (List Op)) → jobs_run (file_jobs bit g w files) ≡ files_run bit g w files
unfolding each file_jobs files_run stores_for
file-runs bit g w [] = refl
file-runs bit g w (f ∷ fs) = ap (λ (ss : List Store). stores_for (new_label (new_lsn bit w) g f) w f ++ ss) (file-runs bit g (installed bit g w f) fs)

prune-runs : (w : World) → jobs_run (prune_jobs w) ≡ prune_stores w
unfolding each prune_stores
prune-runs w = append-nil (emptying w.settings.slot_bytes (slots_where (is_dead w.claims) 0 (records_of w)))

group-runs : (g : ℕ) (slots : List ℕ) (w : World) → jobs_run (group_jobs g slots w) ≡ group_run g slots w
unfolding group_jobs group_run
group-runs g slots w =
    let files = files_of w.settings.target_file_size (found w slots) in
    refused-run (decide (group_tests w slots files)) (file_jobs 0 g w files) (files_run 0 g w files) (file-runs 0 g w files)

generation-runs : (w : World) (g mark count : ℕ) → jobs_run (generation_jobs w g mark count) ≡ generation_run w g mark count
unfolding each generation_jobs generation_run
generation-runs w g mark count = go (too_few w (group w g mark count))
  where
    go : (b : Bool) → jobs_run (pick b [] (group_jobs g (group w g mark count) w)) ≡ pick b [] (group_run g (group w g mark count) w)
    go true = refl
    go false = group-runs g (group w g mark count) w

-- LAW: of any world, any call, refused or not
pub jobs-run : (w : World) (c : Call) → jobs_run (jobs_of w c) ≡ run_of w c
unfolding each write_run rewrite_run prune_run
jobs-run w (write bytes) =
    refused-run (decide (write_tests w bytes)) (file_jobs (2 ^ 62) 0 w (new_files (settled (ops_of (batch_in bytes))))) (files_run (2 ^ 62) 0 w (new_files (settled (ops_of (batch_in bytes)))))
    (file-runs (2 ^ 62) 0 w (new_files (settled (ops_of (batch_in bytes)))))
jobs-run w (rewrite room g mark count) =
    refused-run (decide (rewrite_tests w room g)) (generation_jobs w g mark count) (generation_run w g mark count) (generation-runs w g mark count)
jobs-run w prune = refused-run (decide (refused1 w gives Limits ∷ [])) (prune_jobs w) (prune_stores w) (prune-runs w)
jobs-run w reopen = refl
jobs-run w (quiet q) = refl
