-- Request P8: the run of a call is the runs of its writers, one behind the other, with what the call gives each of them.
use Rattle.std.specs.Prelude.{◌∷◌, ◌*◌, ◌^◌}
use Rattle.rules.specs.Base.{List, [], each, ℕ, pick}
use Rattle.theory.specs.Types.{Label, Record, Claims, Limits}
use Rattle.rules.specs.Refusal.{◌gives◌, decide}
use Rattle.rules.specs.Ops.{Op, file_bytes, settled}
use Rattle.rules.specs.Batch.{batch_in, ops_of}
use Rattle.rules.specs.Condition1.{refused1}
use Rattle.rules.specs.FileMap.{slots_where}
use Rattle.rules.specs.Label.{label_bytes}
use Rattle.rules.specs.Stores.{Store, file_stores}
use Rattle.rules.specs.Install.{new_slot, new_label, new_lsn, installed}
use Rattle.rules.specs.Write.{new_files, write_tests}
use Rattle.rules.specs.Prune.{is_dead, prune_stores}
use Rattle.rules.specs.PruneLaws.{emptying}
use Rattle.rules.specs.Maintenance.{group, found, files_of, group_tests}
use Rattle.rules.specs.TwoCalls.{too_few, rewrite_tests}
use Rattle.rules.specs.World.{World, records_of}
use Rattle.history_theory.specs.History.{Call, write, rewrite, prune, reopen, quiet}
use Rattle.power_cuts.specs.Runs.{unless_refused}

-- what a writer is given
pub data Job : Type 0 where
  -- `write_file`, `write_piece`: where the slot starts, the label, the operations of the file
  file : ℕ → Label → List Op → Job
  -- `prune_stores`: slot size, claims, records
  empties : ℕ → Claims → List Record → Job

-- the run of which its contract speaks
abbrev pub job_run : Job → List Store
job_run (file start new ops) = file_stores start (label_bytes new) (file_bytes ops)
job_run (empties size claims rs) = emptying size (slots_where (is_dead claims) 0 rs)

-- runs one behind the other
abbrev pub jobs_run : List Job → List Store
jobs_run js = each job_run js

-- ---- what a call gives its writers
-- "The file takes the lowest empty slot", label and operations those of the file
unfoldable pub file_jobs : ℕ → ℕ → World → List (List Op) → List Job
file_jobs bit generation w [] = []
file_jobs bit generation w (f ∷ fs) =
    file (new_slot w * w.settings.slot_bytes) (new_label (new_lsn bit w) generation f) f ∷ file_jobs bit generation (installed bit generation w f) fs

-- a rewritten group's
unfoldable pub group_jobs : ℕ → List ℕ → World → List Job
group_jobs generation slots w =
    let files = files_of w.settings.target_file_size (found w slots) in
    unless_refused (decide (group_tests w slots files)) (file_jobs 0 generation w files)

-- a rewrite's: none where the group of its generation has too few files
unfoldable pub generation_jobs : World → ℕ → ℕ → ℕ → List Job
generation_jobs w generation mark count =
    let slots = group w generation mark count in
    pick (too_few w slots) [] (group_jobs generation slots w)

-- a prune's
abbrev pub prune_jobs : World → List Job
prune_jobs w = empties w.settings.slot_bytes w.claims (records_of w) ∷ []

-- call by call
abbrev pub jobs_of : World → Call → List Job
jobs_of w (write bytes) = unless_refused (decide (write_tests w bytes)) (file_jobs (2 ^ 62) 0 w (new_files (settled (ops_of (batch_in bytes)))))
jobs_of w (rewrite room g mark count) = unless_refused (decide (rewrite_tests w room g)) (generation_jobs w g mark count)
jobs_of w prune = unless_refused (decide (refused1 w gives Limits ∷ [])) (prune_jobs w)
jobs_of w reopen = []
jobs_of w (quiet q) = []
