-- What the steps of a read through a batch ask for and answer.
use Rattle.std.specs.Prelude.{◌≤◌, ◌+◌, ◌-◌, Err, Ok}
use Rattle.rules.specs.Base.{Bool, false, ℕ, eqb, pick}
use Rattle.rules.specs.Types.{ReadAnswer}
use Rattle.rules.specs.declared.Lookup.TheVariants.{Found, Deleted, NeverWritten}
use Rattle.rules.specs.Refusal.{number_of}
use Rattle.batch.specs.declared.Operation.{Operation}
use Rattle.through.specs.Answers.{ThroughAnswer}
use Rattle.through.specs.declared.ThroughLookup.TheVariants.{InBatch, InHeap, ThroughDeleted, ThroughNever}
use Rattle.through.specs.declared.LastOperation.{LastOperation}
use Rattle.through.specs.declared.LastOperation.TheVariants.{Puts, Deletes, NoOperation}

-- what an operation says of x, by its numbers
abbrev pub said_in : Operation → ℕ → ℕ → LastOperation
said_in o behind x = pick (eqb o.id x) (pick o.delete Deletes (Puts (behind - o.len) o.len)) NoOperation

-- refused with 1
abbrev pub refused_first : ReadAnswer → Bool
refused_first (Ok (Found start size)) = false
refused_first (Ok Deleted) = false
refused_first (Ok NeverWritten) = false
refused_first (Err r) = eqb (number_of r) 1

-- a put's piece lies in the batch
abbrev pub PutWithin : LastOperation → ℕ → Type 0
PutWithin (Puts start size) batch_len = start + size ≤ batch_len
PutWithin Deletes batch_len = Unit {0}
PutWithin NoOperation batch_len = Unit {0}

-- a piece that is named lies in its slice
abbrev pub Within : ThroughAnswer → ℕ → ℕ → Type 0
Within (Ok (InBatch start size)) batch_len heap_len = start + size ≤ batch_len
Within (Ok (InHeap start size)) batch_len heap_len = start + size ≤ heap_len
Within (Ok ThroughDeleted) batch_len heap_len = Unit {0}
Within (Ok ThroughNever) batch_len heap_len = Unit {0}
Within (Err r) batch_len heap_len = Unit {0}

-- "never a copy": where the piece begins, by where batch and heap begin; an empty part begins where the heap does
abbrev pub through_place : ThroughAnswer → ℕ × ℕ → ℕ × ℕ → ℕ × ℕ
through_place (Ok (InBatch start size)) batch heap = (batch.0, start + batch.1)
through_place (Ok (InHeap start size)) batch heap = (heap.0, start + heap.1)
through_place (Ok ThroughDeleted) batch heap = heap
through_place (Ok ThroughNever) batch heap = heap
through_place (Err r) batch heap = heap
