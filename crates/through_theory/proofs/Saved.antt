-- Request P3: "For a store left by its own calls (here and below: one that demand 3 covers) and a batch that write would accept, the bytes equal those of the ordinary read after that write."
use Rattle.std.specs.Prelude.{◌≡◌, refl, Err, Ok}
use Rattle.std.proofs.Common.{sym, ap, ap₂, ◌∙◌, arith}
use Rattle.rules.specs.Base.{Bool, true, false, List, [], ℕ, length, take, drop}
use Rattle.theory.specs.Types.{Answer, ReadAnswer, Found, Deleted, NeverWritten}
use Rattle.rules.specs.Refusal.{decide, after}
use Rattle.rules.specs.Ops.{put, delete, Op, settled}
use Rattle.rules.specs.SettledLaws.{Last, silent, last, last_on}
use Rattle.rules.specs.Batch.{batch_from, batch_in, is_malformed, ops_of}
use Rattle.rules.specs.Condition1.{refused1}
use Rattle.rules.specs.Read.{read_of, part_of}
use Rattle.rules.specs.Write.{write_tests, written, write_call}
use Rattle.rules.proofs.WriteLaws.{write-accepted}
use Rattle.rules.specs.World.{World, Given, accepted, unchanged}
use Rattle.theory.proofs.Reopened.{refused-not}
use Rattle.theory.specs.SoundWorld.{SoundWorld}
use Rattle.history_theory.specs.Writing.{engine}
use Rattle.history_theory.specs.History.{Call, Life, lived, Starts}
use Rattle.history_theory.proofs.History.{sound-lived}
use Rattle.history_theory.specs.Writes.{deleted, bytes, got_by, got, left_by}
use Rattle.history_theory.proofs.Writes.{write-means}
use Rattle.batch.specs.ReadingLaws.{piece-length}
use Rattle.readpath.specs.ReadLaws.{read-refused}
use Rattle.through.specs.Answers.{ThroughAnswer}
use Rattle.through.specs.declared.ThroughLookup.TheVariants.{InBatch, InHeap, ThroughDeleted, ThroughNever}
use Rattle.through.specs.declared.LastOperation.{LastOperation}
use Rattle.through.specs.declared.LastOperation.TheVariants.{Puts, Deletes, NoOperation}
use Rattle.through.specs.Through.{last_in, as_read, answer_by, through_of, through_part}
use Rattle.through.proofs.ThroughLaws.{last_within, through-refused, through-bad, through-last}
use Rattle.through.specs.Pieces.{PutWithin}
use Rattle.through_theory.specs.Heard.{heard_in}
use Rattle.through_theory.proofs.Heard.{last-heard}
use Rattle.through_theory.specs.Saved.{got_through_by, got_through, bytes_of}

-- ---- on any world
-- by the last operation in the batch
by_last : (w : World) (batch : List ℕ) (l : LastOperation) (r : ReadAnswer)
    → got_through_by (answer_by l (as_read r)) (through_part (answer_by l (as_read r)) batch w.heap) ≡ left_by (heard_in batch l) (got_by r (part_of r w.heap))
by_last w batch (Puts start size) r = refl
by_last w batch Deletes r = refl
by_last w batch NoOperation (Ok (Found start size)) = refl
by_last w batch NoOperation (Ok Deleted) = refl
by_last w batch NoOperation (Ok NeverWritten) = refl
by_last w batch NoOperation (Err r) = refl

-- LAW: where neither 1 nor 2 refuses, an id of the batch reads as its last operation there says, every other id as the store has it; 3 to 7 are not asked
pub through-left : (w : World) (batch : List ℕ) → refused1 w ≡ false → is_malformed (batch_in batch) ≡ false → (id : ℕ)
    → got_through w batch id ≡ left_by (last_on (ops_of (batch_in batch)) id) (got w id)
through-left w batch p m id =
    ap (λ (a : ThroughAnswer). got_through_by a (through_part a batch w.heap)) (through-last w id batch p m)
    ∙ by_last w batch (last_in batch id) (read_of w id)
    ∙ ap (λ (l : Last). left_by l (got w id)) (last-heard batch id m)

-- ---- which slice, on any world
module _ (w : World) (batch : List ℕ) (m : is_malformed (batch_in batch) ≡ false) (id : ℕ) where
  -- no operation was heard: there is none
  none-heard : (l : LastOperation) → heard_in batch l ≡ silent → l ≡ NoOperation
  none-heard (Puts start size) e = absurd (let z : ◌≡◌ {A = ℕ} 0 1 = cc in omega arith)
  none-heard Deletes e = absurd (let z : ◌≡◌ {A = ℕ} 0 1 = cc in omega arith)
  none-heard NoOperation e = refl

  -- LAW: "with none, the store answers as today", refusals too
  pub through-as-read : last_on (ops_of (batch_in batch)) id ≡ silent → through_of w batch id ≡ as_read (read_of w id)
  through-as-read n = go (refused1 w) refl
    where
      go : (t : Bool) → refused1 w ≡ t → through_of w batch id ≡ as_read (read_of w id)
      go true e = through-refused w id batch e ∙ ap as_read (sym (read-refused w id e))
      go false e = through-last w id batch e m ∙ ap (λ (l : LastOperation). answer_by l (as_read (read_of w id))) (none-heard (last_in batch id) (last-heard batch id m ∙ n))

  module _ (p : refused1 w ≡ false) where
    -- LAW: after a put, the piece of the batch that is its body, also one of no bytes
    pub through-put : (body : List ℕ) → last_on (ops_of (batch_in batch)) id ≡ last (put body)
        → (start : ℕ) × (through_of w batch id ≡ Ok (InBatch start (length body))) × (through_part (through_of w batch id) batch w.heap ≡ body)
    through-put body n = go (last_in batch id) (last_within (length batch) batch id 0) (last-heard batch id m ∙ n) (through-last w id batch p m)
      where
        go : (l : LastOperation) → PutWithin l (length batch) → heard_in batch l ≡ last (put body) → through_of w batch id ≡ answer_by l (as_read (read_of w id))
            → (start : ℕ) × (through_of w batch id ≡ Ok (InBatch start (length body))) × (through_part (through_of w batch id) batch w.heap ≡ body)
        go (Puts start size) h e q =
            let is : take size (drop start batch) ≡ body = cc in
            let long : size ≡ length body = sym (piece-length batch start size h) ∙ ap length is in
            (start, q ∙ ap (λ (n : ℕ). Ok (InBatch start n)) long, ap (λ (a : ThroughAnswer). through_part a batch w.heap) q ∙ is)
        go Deletes h e q = absurd (let z : ◌≡◌ {A = ℕ} 0 1 = cc in omega arith)
        go NoOperation h e q = absurd (let z : ◌≡◌ {A = ℕ} 0 1 = cc in omega arith)

    -- LAW: after a delete, deleted, whatever the store has
    pub through-delete : last_on (ops_of (batch_in batch)) id ≡ last delete → through_of w batch id ≡ Ok ThroughDeleted
    through-delete n = through-last w id batch p m ∙ go (last_in batch id) (last-heard batch id m ∙ n)
      where
        go : (l : LastOperation) → heard_in batch l ≡ last delete → answer_by l (as_read (read_of w id)) ≡ Ok ThroughDeleted
        go (Puts start size) e = absurd (let z : ◌≡◌ {A = ℕ} 0 1 = cc in omega arith)
        go Deletes e = refl
        go NoOperation e = absurd (let z : ◌≡◌ {A = ℕ} 0 1 = cc in omega arith)

-- LAW: a piece of the batch only where the last operation on the id is a put of it
pub in-batch-only : (w : World) (batch : List ℕ) (id start size : ℕ) → through_of w batch id ≡ Ok (InBatch start size) → last_on (ops_of (batch_in batch)) id ≡ last (put (take size (drop start batch)))
in-batch-only w batch id start size e = go (refused1 w) (is_malformed (batch_in batch)) refl refl
  where
    stored : (r : ReadAnswer) → as_read r ≡ Ok (InBatch start size) → ⊥
    stored (Ok (Found a n)) q = let z : ◌≡◌ {A = ℕ} 0 1 = cc in omega arith
    stored (Ok Deleted) q = let z : ◌≡◌ {A = ℕ} 0 1 = cc in omega arith
    stored (Ok NeverWritten) q = let z : ◌≡◌ {A = ℕ} 0 1 = cc in omega arith
    stored (Err r) q = let z : ◌≡◌ {A = ℕ} 0 1 = cc in omega arith

    by : (l : LastOperation) → answer_by l (as_read (read_of w id)) ≡ Ok (InBatch start size) → heard_in batch l ≡ last (put (take size (drop start batch)))
    by (Puts a n) q =
        let same : a ≡ start = cc in
        let long : n ≡ size = cc in
        ap₂ (λ (i j : ℕ). last (put (take i (drop j batch)))) long same
    by Deletes q = absurd (let z : ◌≡◌ {A = ℕ} 0 1 = cc in omega arith)
    by NoOperation q = absurd (stored (read_of w id) q)

    go : (t m : Bool) → refused1 w ≡ t → is_malformed (batch_in batch) ≡ m → last_on (ops_of (batch_in batch)) id ≡ last (put (take size (drop start batch)))
    go true m p q = absurd (let c = sym (through-refused w id batch p) ∙ e in let z : ◌≡◌ {A = ℕ} 0 1 = cc in omega arith)
    go false true p q = absurd (let c = sym (through-bad w id batch p q) ∙ e in let z : ◌≡◌ {A = ℕ} 0 1 = cc in omega arith)
    go false false p q = sym (last-heard batch id q) ∙ by (last_in batch id) (sym (through-last w id batch p q) ∙ e)

-- LAW: through an empty batch it is the ordinary read
pub through-empty-batch : (w : World) (id : ℕ) → through_of w [] id ≡ as_read (read_of w id)
unfolding batch_in batch_from last_on
through-empty-batch w id = through-as-read w [] refl id refl

-- ---- on a store of demand 3
-- neither 1 nor 2 refuses what a write accepts
write-readable : (w : World) (batch : List ℕ) → (write_call w batch).answer ≡ accepted [] → (refused1 w ≡ false) × (is_malformed (batch_in batch) ≡ false)
unfolding write_call
write-readable w batch e = let a = write-accepted w batch (go (decide (write_tests w batch)) e) in (a.passed, a.parsed)
  where
    go : (a : Answer) → (after a (unchanged w) (record { answer = accepted []; world = written w (settled (ops_of (batch_in batch))) })).answer ≡ accepted [] → a ≡ Ok tt
    go (Ok _) e = refl
    go (Err r) e = absurd (refused-not r (ap (λ (g : Given). g.number) e))

-- on any store of the invariant
pub sound-through : (w : World) (history : List Op) → SoundWorld w (engine history) → (batch : List ℕ) → (write_call w batch).answer ≡ accepted [] → (id : ℕ)
    → got_through w batch id ≡ got (write_call w batch).world id
sound-through w history s batch e id =
    let a = write-readable w batch e in
    through-left w batch a.0 a.1 id ∙ sym ((write-means w history s batch e).reads id)

-- LAW: whatever calls were made, over any start of demand 3, and whether the batch has an operation on the id or not
pub through-as-after-the-write : (l : Life) → Starts l → (calls : List Call) (batch : List ℕ) → (write_call (lived l calls).world batch).answer ≡ accepted []
    → (id : ℕ) → got_through (lived l calls).world batch id ≡ got (write_call (lived l calls).world batch).world id
through-as-after-the-write l s calls batch e id = sound-through (lived l calls).world (lived l calls).history (sound-lived l s calls) batch e id

part-through : (a : ThroughAnswer) (batch heap : List ℕ) → bytes_of (got_through_by a (through_part a batch heap)) ≡ through_part a batch heap
part-through (Ok (InBatch start size)) batch heap = refl
part-through (Ok (InHeap start size)) batch heap = refl
part-through (Ok ThroughDeleted) batch heap = refl
part-through (Ok ThroughNever) batch heap = refl
part-through (Err r) batch heap = refl

part-read : (a : ReadAnswer) (heap : List ℕ) → bytes_of (got_by a (part_of a heap)) ≡ part_of a heap
part-read (Ok (Found start size)) heap = refl
part-read (Ok Deleted) heap = refl
part-read (Ok NeverWritten) heap = refl
part-read (Err r) heap = refl

-- LAW: "the bytes equal those of the ordinary read after that write", where the same was got
pub same_bytes : (w v : World) (batch : List ℕ) (id : ℕ) → got_through w batch id ≡ got v id
    → through_part (through_of w batch id) batch w.heap ≡ part_of (read_of v id) v.heap
same_bytes w v batch id e = sym (part-through (through_of w batch id) batch w.heap) ∙ ap bytes_of e ∙ part-read (read_of v id) v.heap
