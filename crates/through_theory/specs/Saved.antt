-- Request P3: "For a store left by its own calls (here and below: one that demand 3 covers) and a batch that write would accept, the bytes equal those of the ordinary read after that write."
use Rattle.std.specs.Prelude.{Err, Ok}
use Rattle.rules.specs.Base.{List, [], ℕ}
use Rattle.rules.specs.World.{World}
use Rattle.history_theory.specs.Writes.{Got, never, deleted, bytes, unread, got}
use Rattle.through.specs.Answers.{ThroughAnswer}
use Rattle.through.specs.declared.ThroughLookup.TheVariants.{InBatch, InHeap, ThroughDeleted, ThroughNever}
use Rattle.through.specs.Through.{through_of, through_part}

-- what a read through a batch gives a host, as a read gives it: the kind, and the bytes of a piece of the batch or of the heap
abbrev pub got_through_by : ThroughAnswer → List ℕ → Got
got_through_by (Ok (InBatch start size)) part = bytes part
got_through_by (Ok (InHeap start size)) part = bytes part
got_through_by (Ok ThroughDeleted) part = deleted
got_through_by (Ok ThroughNever) part = never
got_through_by (Err r) part = unread r

-- of an id
abbrev pub got_through : World → List ℕ → ℕ → Got
got_through w batch id = got_through_by (through_of w batch id) (through_part (through_of w batch id) batch w.heap)

-- ---- the bytes alone
-- what was got, none where nothing is found
abbrev pub bytes_of : Got → List ℕ
bytes_of never = []
bytes_of deleted = []
bytes_of (bytes b) = b
bytes_of (unread r) = []
