-- Demands 2 and 3 in one place: the theorems that a reader should open first. They are of results that the calls' contracts admit (`CallContracts`), so of the code.

-- written files read back as given: the slot shows the file, no other slot changes, each object reads back
pub use Rattle.rules.proofs.WrittenLaws.{views-made, object-written, read-clear}
-- a write that says `Done`, and a reopening that does: each id at its entry of greatest masked position; live counts; the next position above every file
pub use Rattle.marble.proofs.Lives.{life-wrote, reopened-opens}
-- the nightly job: as the old call; what it moves, and what it refuses with; a rewrite of one generation; what a plan says is what happens
pub use Rattle.marble.proofs.Maintaining.{nightly-as-before, maintain-answers, maintain-moves, maintain-counts, maintain-leaves, life-rewrites, life-foretells}
-- from any clean heap, whatever the calls gave, and wherever power was cut: a read gives the last accepted put, or what the first reopening's read gave, and a
-- reopening finds the same store
pub use Rattle.marble.proofs.Lives.{life-kept, life-answers, life-reads, life-resumes, life-survives}
-- clean are the heaps of which `check` lists nothing, those that a life left, and those whose slots all begin with byte 0: there nothing is heard at the
-- start, and no object is large
pub use Rattle.marble.proofs.Starts.{checked-clean, clean-checked, life-clean, blank-begun, blank-small}
pub use Rattle.history_theory.proofs.Clean.{blank-clean}
-- a fresh heap opens, and a write in limits is accepted
pub use Rattle.history_theory.proofs.Fresh.{fresh-opens}
pub use Rattle.history_theory.proofs.Accepting.{fresh-write}
