-- Request P3, "Let the editor see what it hasn't saved": "a read over a batch buffer and the heap, whose answer is a piece of the batch or a piece of the heap".
use Rattle.std.specs.Prelude.{◌∷◌, ◌-◌, Err, Ok}
use Rattle.rules.specs.Base.{List, [], ℕ, zero, suc, length, take, drop, eqb, pick}
use Rattle.rules.specs.declared.Refusal.TheVariants.{Limits, BatchBytes}
use Rattle.rules.specs.Types.{ReadAnswer}
use Rattle.rules.specs.declared.Lookup.TheVariants.{Found, Deleted, NeverWritten}
use Rattle.rules.specs.Refusal.{◌gives◌, decide, after}
use Rattle.rules.specs.Ops.{Content, put, delete, Op}
use Rattle.rules.specs.Batch.{Parsed, malformed, parsed, operation_at, batch_in, is_malformed}
use Rattle.rules.specs.Condition1.{refused1}
use Rattle.rules.specs.Read.{read_of}
use Rattle.rules.specs.World.{World, Given, accepted, refused, After}
use Rattle.through.specs.Answers.{ThroughAnswer}
use Rattle.through.specs.declared.ThroughLookup.TheVariants.{InBatch, InHeap, ThroughDeleted, ThroughNever}
use Rattle.through.specs.declared.LastOperation.{LastOperation}
use Rattle.through.specs.declared.LastOperation.TheVariants.{Puts, Deletes, NoOperation}

-- ---- the last operation on an id in a batch
-- a put by its piece of the batch: its body ends where the operation ends
abbrev pub content_at : Content → ℕ → LastOperation
content_at (put body) behind = Puts (behind - length body) (length body)
content_at delete behind = Deletes

-- what an operation says of x, by the position behind it
abbrev pub said_by : Op → ℕ → ℕ → LastOperation
said_by o behind x = pick (eqb o.id x) (content_at o.content behind) NoOperation

-- the later word, or else the earlier
abbrev pub or_earlier : LastOperation → LastOperation → LastOperation
or_earlier (Puts start size) earlier = Puts start size
or_earlier Deletes earlier = Deletes
or_earlier NoOperation earlier = earlier

-- an operation, then those from behind it
abbrev pub last_by : Parsed → ℕ → (ℕ → LastOperation) → LastOperation
last_by malformed x rest = NoOperation
last_by (parsed o behind) x rest = or_earlier (rest behind) (said_by o behind x)

-- of the operations from `at` on, the last on x; k bounds how many
unfoldable pub last_from : ℕ → List ℕ → ℕ → ℕ → LastOperation
last_from zero s x at = NoOperation
last_from (suc k) s x at = last_by (operation_at s at) x (last_from k s x)

-- of the whole batch: each takes a byte at least
abbrev pub last_in : List ℕ → ℕ → LastOperation
last_in s x = last_from (length s) s x 0

-- ---- the call
-- a read's own answer: a piece of the heap
abbrev pub as_read : ReadAnswer → ThroughAnswer
as_read (Ok (Found start size)) = Ok (InHeap start size)
as_read (Ok Deleted) = Ok ThroughDeleted
as_read (Ok NeverWritten) = Ok ThroughNever
as_read (Err r) = Err r

-- "The last operation on the id in the batch decides; with none, the store answers as today."
abbrev pub answer_by : LastOperation → ThroughAnswer → ThroughAnswer
answer_by (Puts start size) stored = Ok (InBatch start size)
answer_by Deletes stored = Ok ThroughDeleted
answer_by NoOperation stored = stored

-- "Refusals: 1, then 2 on a malformed batch, then read's own."
unfoldable pub through_of : World → List ℕ → ℕ → ThroughAnswer
through_of w batch id =
    after (decide (refused1 w gives Limits ∷ is_malformed (batch_in batch) gives BatchBytes ∷ []))
    Err (answer_by (last_in batch id) (as_read (read_of w id)))

-- the piece's bytes, of the batch or of the heap; none where nothing is found
abbrev pub through_part : ThroughAnswer → List ℕ → List ℕ → List ℕ
through_part (Ok (InBatch start size)) batch heap = take size (drop start batch)
through_part (Ok (InHeap start size)) batch heap = take size (drop start heap)
through_part (Ok ThroughDeleted) batch heap = []
through_part (Ok ThroughNever) batch heap = []
through_part (Err r) batch heap = []

-- the kind, as a read gives it: 0 never written, 1 deleted, 2 an object; then 1 for a piece of the batch, 0 for one of the heap; its start and its length
abbrev pub through_given : ThroughAnswer → Given
through_given (Ok (InBatch start size)) = accepted (2 ∷ 1 ∷ start ∷ size ∷ [])
through_given (Ok (InHeap start size)) = accepted (2 ∷ 0 ∷ start ∷ size ∷ [])
through_given (Ok ThroughDeleted) = accepted (1 ∷ [])
through_given (Ok ThroughNever) = accepted (0 ∷ [])
through_given (Err r) = refused r

-- the call: nothing changes
unfoldable pub through_call : World → List ℕ → ℕ → After
through_call w batch id = record { answer = through_given (through_of w batch id); world = w }
