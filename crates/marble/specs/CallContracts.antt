-- The contract of each public call is the relation that this crate's laws speak of: a contract that said anything else would not pass here.
-- `f.Learnt` is made by the kit from the `ensures` of f's source: what a caller learns of a call, by what it gave, the result, and its parameters at exit.
use Rattle.std.specs.Borrow.{Bor, MutBor}
use Rattle.rules.specs.Base.{List, ℕ}
use Rattle.marks_in_place.proofs.unsynced.Reads as unsynced
use Rattle.marks_in_place.proofs.sync.Reads as sync
use Rattle.recovery.proofs.reopen.Reads as reopen
use Rattle.writepath.proofs.write.Reads as write
use Rattle.readpath.proofs.read_answer.Reads as answer
use Rattle.readpath.proofs.read.Reads as reading
use Rattle.through.proofs.through_answer.Reads as through-answer
use Rattle.through.proofs.through.Reads as through
use Rattle.claims.proofs.claim.Reads as claim
use Rattle.claims.proofs.release.Reads as release
use Rattle.claims.proofs.counts.Reads as counts
use Rattle.gc_plan.proofs.plan.Reads as plan
use Rattle.gc.proofs.rewrite.Reads as rewrite
use Rattle.gc_nightly.proofs.nightly.Reads as nightly
use Rattle.prune.proofs.prune.Reads as prune
use Rattle.checker.proofs.check.Reads as check
use Rattle.salvage.proofs.salvage.Reads as salvage
use Rattle.table_calls.proofs.load.Reads as load
use Rattle.table_calls.proofs.store.Reads as store
use Rattle.table_calls.proofs.compare_and_store.Reads as compare
use Rattle.table_calls.proofs.store_if_greater.Reads as greater
use Rattle.marble.specs.Results.{read}

-- a lent buffer of numbers: where it is, and what it holds; lent to be read, and lent to be changed
abbrev pub Lent : Type 0
Lent = Bor (List ℕ)

abbrev pub LentMut : Type 0
LentMut = MutBor (List ℕ)
