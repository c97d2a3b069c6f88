-- Request P8 and the code: the contracts of the three writers of the heap, and what a call's writers leave where k stores may be made.
use Rattle.std.specs.Prelude.{◌≡◌, refl, ◌≤◌, ◌∷◌, ◌-◌}
use Rattle.std.proofs.Common.{sym, ap, ◌∙◌, subst, take_all}
use contract.Lifetimes.{Lfts}
use Rattle.rules.specs.Base.{true, List, [], ℕ, length, each, take}
use Rattle.rules.specs.declared.Label.{Label}
use Rattle.rules.specs.declared.Claims.{Claims}
use Rattle.rules.specs.declared.FileMap.{FileMap}
use Rattle.rules.specs.Layout.{table_ids}
use Rattle.rules.specs.Ops.{settled}
use Rattle.rules.specs.Prune.{emptied_from}
use Rattle.rules.specs.Stores.{Store, made}
use Rattle.rules.specs.World.{World}
use Rattle.stores.specs.Runs.{Made, made_then, made_none}
use Rattle.batch.specs.Reading.{ops_in}
use Rattle.batch.specs.declared.Cursor.{Cursor}
use Rattle.batch_file.proofs.write_file.Reads as batch_file
use Rattle.gc_chains.specs.Chains.{chain_ops}
use Rattle.gc_writer.specs.declared.PieceFile.{PieceFile}
use Rattle.gc_writer.proofs.write_piece.Reads as piece
use Rattle.prune.proofs.prune_stores.Reads as labels
use Rattle.history_theory.specs.History.{Call, called}
use Rattle.power_cuts.specs.Runs.{run_of}
use Rattle.power_cuts.proofs.Runs.{run-made}
use Rattle.power_cuts.specs.Jobs.{Job, file, empties, job_run, jobs_run, jobs_of}
use Rattle.power_cuts.proofs.Jobs.{jobs-run}
use Rattle.power_cuts.specs.Cuts.{Alike, CutAt, Survived}
use Rattle.marble.specs.CallContracts.{Lent, LentMut}
use Rattle.marble.specs.Results.{Lived, reached}
use Rattle.marble.proofs.Lives.{life-survives}
use Rattle.marble.specs.Writers.{JobsMade}

-- ---- the three contracts: of the run of its job each makes the first k stores
-- `batch_file::write_file`: a batch's file
pub write-file-contract : (κs : Lfts 3) (heap order : LentMut) (batch : Lent) (start : ℕ) (begin : Cursor) (new : Label) (k rest : ℕ) (heap' order' : LentMut)
    → batch_file.Learnt κs (heap, (start, (order, (batch, (begin, (new, (k, tt))))))) rest (heap', (start, (order', (batch, (begin, (new, (k, tt)))))))
    ≡ Made k (job_run (file start new (settled (ops_in batch.now)))) heap.now heap'.now rest
write-file-contract κs heap order batch start begin new k rest heap' order' = refl

-- `gc_writer::write_piece`: a file that maintenance rewrites, its operations where their objects stand in the heap
pub write-piece-contract : (κs : Lfts 4) (heap : LentMut) (table places links : Lent) (f : PieceFile) (new : Label) (k rest : ℕ) (heap' : LentMut)
    → piece.Learnt κs (heap, (table, (places, (links, (f, (new, (k, tt))))))) rest (heap', (table, (places, (links, (f, (new, (k, tt)))))))
    ≡ Made k (job_run (file f.start new (chain_ops f.first heap.now (table_ids table.now) places.now links.now))) heap.now heap'.now rest
write-piece-contract κs heap table places links f new k rest heap' = refl

-- `prune::prune_stores`, where it is due: it gives the records in the place of what is left
pub prune-stores-contract : (κs : Lfts 1) (heap : LentMut) (size : ℕ) (claims : Claims) (files : FileMap) (k : ℕ) (after : FileMap) (heap' : LentMut)
    → labels.Learnt κs (heap, (size, (claims, (files, (k, (true, tt)))))) after (heap', (size, (claims, (files, (k, (true, tt))))))
    ≡ ((after.records ≡ emptied_from claims 0 files.records) × (heap'.now ≡ made (take k (job_run (empties size claims files.records))) heap.now))
prune-stores-contract κs heap size claims files k after heap' = refl

-- LAW: together they make the first k stores of the runs one behind the other
pub jobs-made : (k : ℕ) (js : List Job) (before heap : List ℕ) (rest : ℕ) → JobsMade k js before heap rest → Made k (jobs_run js) before heap rest
unfolding JobsMade each
jobs-made k [] before heap rest (p, q) = subst (λ (h : List ℕ). Made k [] before h rest) (sym p) (subst (λ (n : ℕ). Made k [] before before n) (sym q) (made_none k before))
jobs-made k (j ∷ js) before heap rest (next, m, first, others) = made_then first (jobs-made m js next heap rest others)

-- request P8: what they leave of any call is what a power cut behind its first k stores leaves
pub writers-cut : (k : ℕ) (w : World) (c : Call) (heap : List ℕ) (rest : ℕ) → JobsMade k (jobs_of w c) w.heap heap rest
    → (v : World) → Alike w v → v.heap ≡ heap → CutAt k w c v
writers-cut k w c heap rest m v a e = record {
  alike = a;
  heap = e ∙ (jobs-made k (jobs_of w c) w.heap heap rest m).heap ∙ ap (λ (run : List Store). made (take k run) w.heap) (jobs-run w c);
}

-- so it is survived, on every store of demand 3
pub writers-survived : (l : Lived) (c : Call) (k : ℕ) (heap : List ℕ) (rest : ℕ) → JobsMade k (jobs_of (reached l).world c) (reached l).world.heap heap rest
    → (v : World) → Alike (reached l).world v → v.heap ≡ heap → Survived k (reached l).world c v
writers-survived l c k heap rest m v a e = life-survives l c k v (writers-cut k (reached l).world c heap rest m v a e)

-- and where k covers their runs, they leave the heap of the call's definition
pub writers-whole : (k : ℕ) (w : World) (c : Call) (heap : List ℕ) (rest : ℕ) → length (run_of w c) ≤ k → JobsMade k (jobs_of w c) w.heap heap rest
    → heap ≡ (called w c).world.heap
writers-whole k w c heap rest h m =
    (jobs-made k (jobs_of w c) w.heap heap rest m).heap
    ∙ ap (λ (run : List Store). made (take k run) w.heap) (jobs-run w c)
    ∙ ap (λ (run : List Store). made run w.heap) (take_all k (run_of w c) h)
    ∙ sym (run-made w c)
