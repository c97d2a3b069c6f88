-- The last operation on an id, step by step; pieces that are named lie in their slices; what the contracts admit is one.
use Rattle.std.specs.Prelude.{◌≡◌, ◌≤◌, ◌∷◌, ◌+◌, ◌-◌, ◌*◌, Err, None, Ok, Some}
use Rattle.std.proofs.Math.Path.{refl}
use Rattle.std.proofs.Common.{sym, ap, ap₂, ◌∙◌, subst, arith, leb-true}
use Rattle.rules.specs.Base.{Bool, true, false, not, List, [], ℕ, zero, suc, length, take, drop, get_or, leb, ltb, eqb, pick}
use Rattle.numbers.specs.Groups.{number_in, saying}
use Rattle.numbers.specs.Answers.{Number}
use Rattle.disk_location.specs.Locations.{position_of}
use Rattle.rules.specs.declared.Settings.{Settings}
use Rattle.rules.specs.declared.State.{State}
use Rattle.rules.specs.declared.Claims.{Claims}
use Rattle.rules.specs.declared.Refusal.TheVariants.{Limits, BatchBytes, CutShort, Checksum, OtherId}
use Rattle.rules.specs.declared.Loaded.{Loaded}
use Rattle.rules.specs.declared.Loaded.TheVariants.{At, DeletedAt, Never}
use Rattle.rules.specs.Types.{Slot, ReadAnswer}
use Rattle.rules.specs.declared.Lookup.TheVariants.{Found, Deleted, NeverWritten}
use Rattle.rules.specs.Refusal.{◌gives◌, decide, after}
use Rattle.rules.specs.Answers.{by_number}
use Rattle.rules.proofs.Answers.{inverse-one, known}
use Rattle.rules.specs.Claims.{no_claims}
use Rattle.rules.specs.Ops.{Content, put, delete, Op}
use Rattle.rules.specs.Object.{Stored, bad_checksum}
use Rattle.rules.specs.Batch.{Parsed, malformed, parsed, put_operation, operation_at, batch_in, is_malformed}
use Rattle.rules.specs.FileMap.{record_at, file_for}
use Rattle.rules.specs.Table.{load}
use Rattle.rules.specs.Condition1.{refused1}
use Rattle.rules.specs.Read.{object_tests, object_in, read_object, read_file, read_loaded, read_of}
use Rattle.rules.specs.World.{World, world, records_of, mappings, Given}
use Rattle.batch.specs.declared.Operation.{Operation}
use Rattle.batch.specs.Reading.{op_in}
use Rattle.batch.specs.ReadingLaws.{piece-length}
use Rattle.batch.specs.Behind.{number_behind, operation-behind}
use Rattle.readpath.specs.Reads.{Within as ReadWithin}
use Rattle.readpath.specs.ReadLaws.{read-refused, read-loaded, read_named}
use Rattle.through.specs.Answers.{ThroughAnswer}
use Rattle.through.specs.declared.ThroughLookup.TheVariants.{InBatch, InHeap, ThroughDeleted, ThroughNever}
use Rattle.through.specs.declared.LastOperation.{LastOperation}
use Rattle.through.specs.declared.LastOperation.TheVariants.{Puts, Deletes, NoOperation}
use Rattle.through.specs.Through.{content_at, said_by, or_earlier, last_by, last_from, last_in, as_read, answer_by, through_of, through_part, through_given}
use Rattle.through.specs.Pieces.{said_in, refused_first, PutWithin, Within, through_place}
use Rattle.through.specs.ThroughLaws.{Ends, EndsIn, through_values}

put-ends : (s : List ℕ) (id at : ℕ) → EndsIn s (put_operation s id at)
unfolding put_operation
put-ends s id at = go (number_in 10 s at) refl
  where
    fits : (size start : ℕ) → start ≤ length s → (t : Bool) → leb size (length s - start) ≡ t
        → EndsIn s (pick t (parsed (record { id = id; content = put (take size (drop start s)) }) (start + size)) malformed)
    fits size start h false e = tt
    fits size start h true e =
        let room = leb-true size (length s - start) e in
        let l : length (take size (drop start s)) ≡ size = piece-length s start size (omega arith) in
        let from : start + size - length (take size (drop start s)) ≡ start = omega arith in
        (omega arith, ap₂ (λ (n m : ℕ). take n (drop m s)) l from)

    go : (n : Number) → number_in 10 s at ≡ n
        → EndsIn s (saying malformed n (λ size start.
        pick (leb size (length s - start)) (parsed (record { id = id; content = put (take size (drop start s)) }) (start + size)) malformed))
    go None q = tt
    go (Some (size, start)) q = fits size start (number_behind 10 s at size start q).1 (leb size (length s - start)) refl

operation-ends : (s : List ℕ) (at : ℕ) → EndsIn s (operation_at s at)
unfolding operation_at
operation-ends s at = go (number_in 10 s at)
  where
    tagged : (id tag : ℕ) (p d b : Bool)
        → EndsIn s (pick p malformed (pick d (parsed (record { id = id; content = delete }) (suc tag)) (pick b (put_operation s id (suc tag)) malformed)))
    tagged id tag true d b = tt
    tagged id tag false true b = tt
    tagged id tag false false true = put-ends s id (suc tag)
    tagged id tag false false false = tt

    go : (n : Number)
        → EndsIn s (saying malformed n (λ id tag.
        pick (leb (length s) tag) malformed
        (pick (eqb (get_or s tag 0) 0) (parsed (record { id = id; content = delete }) (suc tag)) (pick (eqb (get_or s tag 0) 1) (put_operation s id (suc tag)) malformed))))
    go None = tt
    go (Some (id, tag)) = tagged id tag (leb (length s) tag) (eqb (get_or s tag 0) 0) (eqb (get_or s tag 0) 1)

pub ends : (s : List ℕ) (at : ℕ) (o : Op) (next : ℕ) → operation_at s at ≡ parsed o next → Ends s next o.content
ends s at o next e = subst (EndsIn s) e (operation-ends s at)

-- ---- the later word, or else the earlier
pub or-none : (l : LastOperation) → or_earlier l NoOperation ≡ l
or-none (Puts start size) = refl
or-none Deletes = refl
or-none NoOperation = refl

pub or_assoc : (a b c : LastOperation) → or_earlier a (or_earlier b c) ≡ or_earlier (or_earlier a b) c
or_assoc (Puts start size) b c = refl
or_assoc Deletes b c = refl
or_assoc NoOperation b c = refl

-- ---- the last operation, from a position on
pub last_end : (k : ℕ) (s : List ℕ) (x at : ℕ) → length s ≤ at → last_from k s x at ≡ NoOperation
unfolding last_from
last_end zero s x at h = refl
last_end (suc k) s x at h = go (operation_at s at) refl
  where
    go : (p : Parsed) → operation_at s at ≡ p → last_by p x (last_from k s x) ≡ NoOperation
    go malformed e = refl
    go (parsed o next) e = absurd (let behind = operation-behind s at o next e in omega arith)

pub last-next : (k : ℕ) (s : List ℕ) (x at : ℕ) (o : Op) (next : ℕ) → operation_at s at ≡ parsed o next
    → last_from (suc k) s x at ≡ or_earlier (last_from k s x next) (said_by o next x)
unfolding last_from
last-next k s x at o next e = ap (λ (p : Parsed). last_by p x (last_from k s x)) e

-- its piece lies in the batch
pub last_within : (k : ℕ) (s : List ℕ) (x at : ℕ) → PutWithin (last_from k s x at) (length s)
unfolding last_from
last_within zero s x at = tt
last_within (suc k) s x at = go (operation_at s at) refl (last_within k s x)
  where
    one : (t : Bool) (c : Content) (next : ℕ) → Ends s next c → next ≤ length s → PutWithin (pick t (content_at c next) NoOperation) (length s)
    one true (put body) next e h = let l = e.0 in omega arith
    one true delete next e h = tt
    one false c next e h = tt

    two : (l e : LastOperation) → PutWithin l (length s) → PutWithin e (length s) → PutWithin (or_earlier l e) (length s)
    two (Puts start size) e h i = h
    two Deletes e h i = tt
    two NoOperation e h i = i

    go : (p : Parsed) → operation_at s at ≡ p → ((next : ℕ) → PutWithin (last_from k s x next) (length s)) → PutWithin (last_by p x (last_from k s x)) (length s)
    go malformed q again = tt
    go (parsed o next) q again =
        two (last_from k s x next) (said_by o next x) (again next)
        (one (eqb o.id x) o.content next (ends s at o next q) (operation-behind s at o next q).inside)

-- ---- an operation by its numbers
pub said_in_lem : (s : List ℕ) (o : Operation) (next x : ℕ) → o.start + o.len ≤ length s → said_by (op_in s o) next x ≡ said_in o next x
said_in_lem s o next x h = ap (λ (l : LastOperation). pick (eqb o.id x) l NoOperation) (go o.delete)
  where
    go : (d : Bool) → content_at (pick d delete (put (take o.len (drop o.start s)))) next ≡ pick d Deletes (Puts (next - o.len) o.len)
    go true = refl
    go false = ap (λ (n : ℕ). Puts (next - n) n) (piece-length s o.start o.len h)

pub len-behind : (s : List ℕ) (at : ℕ) (o : Operation) (next : ℕ) → (operation_at s at ≡ parsed (op_in s o) next) × (o.start + o.len ≤ length s) → o.delete ≡ false → o.len ≤ next
len-behind s at o next e d =
    let body = take o.len (drop o.start s) in
    let there : Ends s next (put body) = subst (λ (b : Bool). Ends s next (pick b delete (put body))) d (ends s at (op_in s o) next e.0) in
    let fits = there.0 in
    let long : length body ≡ o.len = piece-length s o.start o.len e.1 in
    omega arith

-- ---- the steps of a read through a batch
module _ (w : World) (id : ℕ) where
  -- none but 1 is 1
  object-first : (k : ℕ) (o : Stored) → refused_first (read_object w id k o) ≡ false
  unfolding object_tests decide
  object-first k o = go (ltb o.room 20) (ltb o.room (20 + o.size)) (bad_checksum o) (not (eqb o.id id))
    where
      go : (a b c d : Bool)
          → refused_first (after (decide (a gives CutShort ∷ b gives CutShort ∷ c gives Checksum ∷ d gives OtherId ∷ []))
          Err (Ok (Found (k * w.settings.slot_bytes + 64 + o.position + 20) o.size))) ≡ false
      go true b c d = refl
      go false true c d = refl
      go false false true d = refl
      go false false false true = refl
      go false false false false = refl

  file-first : (l : ℕ) (k : Slot) → refused_first (read_file w id l k) ≡ false
  file-first l None = refl
  file-first l (Some k) = object-first k (object_in w k (position_of l - (record_at (records_of w) k).label.lsn))

  loaded-first : (l : Loaded) → refused_first (read_loaded w id l) ≡ false
  loaded-first Never = refl
  loaded-first (DeletedAt l) = refl
  loaded-first (At l) = file-first l (file_for (records_of w) l)

  -- a read tells whether 1 holds
  pub read_first : refused_first (read_of w id) ≡ refused1 w
  read_first = go (refused1 w) refl
    where
      go : (t : Bool) → refused1 w ≡ t → refused_first (read_of w id) ≡ refused1 w
      go true e = ap refused_first (read-refused w id e) ∙ sym e
      go false e = ap refused_first (read-loaded w id e) ∙ loaded-first (load (mappings w) id) ∙ sym e

  -- 1
  pub through-refused : (batch : List ℕ) → refused1 w ≡ true → through_of w batch id ≡ Err Limits
  unfolding through_of decide
  through-refused batch e = rw e

  -- not 1: 2
  pub through-bad : (batch : List ℕ) → refused1 w ≡ false → is_malformed (batch_in batch) ≡ true → through_of w batch id ≡ Err BatchBytes
  unfolding through_of decide
  through-bad batch e m = rw (e, m)

  -- neither: the last operation
  pub through-last : (batch : List ℕ) → refused1 w ≡ false → is_malformed (batch_in batch) ≡ false → through_of w batch id ≡ answer_by (last_in batch id) (as_read (read_of w id))
  unfolding through_of decide
  through-last batch e m = rw (e, m)

  -- a piece that is named lies in its slice
  pub through-named : (batch : List ℕ) → Within (through_of w batch id) (length batch) (length w.heap)
  through-named batch = go (refused1 w) (is_malformed (batch_in batch)) refl refl
    where
      stored : (r : ReadAnswer) → ReadWithin r (length w.heap) → Within (as_read r) (length batch) (length w.heap)
      stored (Ok (Found start size)) h = h
      stored (Ok Deleted) h = tt
      stored (Ok NeverWritten) h = tt
      stored (Err r) h = tt

      by : (l : LastOperation) → PutWithin l (length batch) → Within (answer_by l (as_read (read_of w id))) (length batch) (length w.heap)
      by (Puts start size) h = h
      by Deletes h = tt
      by NoOperation h = stored (read_of w id) (read_named w id)

      go : (r m : Bool) → refused1 w ≡ r → is_malformed (batch_in batch) ≡ m → Within (through_of w batch id) (length batch) (length w.heap)
      go true m e q = rw (through-refused batch e) tt
      go false true e q = rw (through-bad batch e q) tt
      go false false e q =
          subst (λ (a : ThroughAnswer). Within a (length batch) (length w.heap)) (sym (through-last batch e q))
          (by (last_in batch id) (last_within (length batch) batch id 0))

-- ---- any two answers that the contract admits are equal, and any two parts: their bytes, and where they begin in memory
module _ (s : Settings) (t : State) (heap table batch : List ℕ) (id : ℕ) where
  abbrev pub Answers : ThroughAnswer → Type 0
  Answers r = (c : Claims) → r ≡ through_of (world s t c heap table) batch id

  -- of a batch and a heap that begin there
  abbrev pub Parts : ℕ × ℕ → ℕ × ℕ → List ℕ → ℕ × ℕ → Type 0
  Parts b h part place =
      ((c : Claims) → part ≡ through_part (through_of (world s t c heap table) batch id) batch heap)
      × ((c : Claims) → place ≡ through_place (through_of (world s t c heap table) batch id) b h)

  pub through-one : (a b : ThroughAnswer) → Answers a → Answers b → a ≡ b
  through-one a b p q = p no_claims ∙ sym (q no_claims)

  pub through-part-one : (b h : ℕ × ℕ) (m n : List ℕ) (x y : ℕ × ℕ) → Parts b h m x → Parts b h n y → (m ≡ n) × (x ≡ y)
  through-part-one b h m n x y p q = (p.0 no_claims ∙ sym (q.0 no_claims), p.1 no_claims ∙ sym (q.1 no_claims))

-- one number and values, one answer
pub through-given-one : (a b : ThroughAnswer) → through_given a ≡ through_given b → a ≡ b
through-given-one = inverse-one through_given (λ (g : Given). by_number g Err (through_values g)) go
  where
    go : (a : ThroughAnswer) → by_number (through_given a) Err (through_values (through_given a)) ≡ a
    go (Ok (InBatch start size)) = refl
    go (Ok (InHeap start size)) = refl
    go (Ok ThroughDeleted) = refl
    go (Ok ThroughNever) = refl
    go (Err r) = rw ((known r).some, (known r).back)
