use mathlib.Core.Path.{◌≡◌}
use mathlib.Core.Bool.{false}
use mathlib.Core.List.{List, []}
use Prim.Native.Nat.{ℕ, ◌+◌, ◌*◌, ◌≤◌, ◌<◌}
use lib.ListN.{length, drop}
use Rattle.numbers.specs.Choice.{pick}
use Rattle.rules.specs.FileMap.{is_empty, record_at}
use Rattle.rules.specs.Prune.{emptied_from}
use Rattle.stores.specs.Runs.{Made}
use Rattle.prune.proofs.EmptyingTurns.{emptied_on, stores_from}
use Rattle.prune.proofs.prune_stores.Given as goal

abbrev pub invariant-loop-i : goal.invariant-loop-i
invariant-loop-i l = record {
  all : length l.n.records ≡ 256;
  long : length l.heap ≡ length l.initial.heap;
  labels : (k : ℕ) → l.i ≤ k → k < 256 → is_empty (record_at l.n.records k) ≡ false → k * l.slot_bytes + 64 ≤ length l.initial.heap;
  emptied : emptied_on l.claims l.i l.n.records ≡ pick l.due (emptied_from l.claims 0 l.initial.n.records) l.initial.n.records;
  stored : (after : List ℕ) (m : ℕ) → Made l.rest (stores_from l.slot_bytes l.claims l.i (drop l.i l.n.records)) l.heap after m → Made l.left (pick l.due (stores_from l.slot_bytes l.claims 0 l.initial.n.records) []) l.initial.heap after m;
}
