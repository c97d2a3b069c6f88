-- Request P8 and the code: the contracts of the three writers of the heap, and what a call's writers leave where k stores may be made.
use Rattle.std.specs.Prelude.{◌≡◌, ◌∷◌, ◌-◌}
use Rattle.rules.specs.Base.{List, [], ℕ}
use Rattle.rules.specs.Stores.{made}
use Rattle.stores.specs.Runs.{Made}
use Rattle.batch_file.proofs.write_file.Reads as batch_file
use Rattle.gc_writer.proofs.write_piece.Reads as piece
use Rattle.prune.proofs.prune_stores.Reads as labels
use Rattle.power_cuts.specs.Jobs.{Job, job_run}

-- ---- the writers of a call, one behind the other: k stores may be made in all, and `rest` of them are left
unfoldable pub JobsMade : ℕ → List Job → List ℕ → List ℕ → ℕ → Type 0
JobsMade k [] before heap rest = (heap ≡ before) × (rest ≡ k)
JobsMade k (j ∷ js) before heap rest = (next : List ℕ) × (m : ℕ) × Made k (job_run j) before next m × JobsMade m js next heap rest
