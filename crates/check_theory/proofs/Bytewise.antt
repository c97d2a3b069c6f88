-- A call stores bytes: of any world whose heap is bytes every call leaves a heap of bytes, where the batch of a write is bytes.
use Rattle.std.specs.Prelude.{◌≡◌, refl, ◌⊎◌, ◌<◌, ◌≤◌, ◌∷◌, ◌++◌, ◌+◌, ◌-◌, ◌*◌, ◌^◌, Err, None, Ok, Some}
use Rattle.std.proofs.Common.{sym, subst, inl, inr, arith}
use Rattle.numbers.specs.LittleEndian.{Bytes, le_bytes, le-bytes}
use Rattle.numbers.specs.Groups.{groups_of, number_in, saying}
use Rattle.checksum.specs.Checksum.{crc32, object_sum}
use Rattle.disk_location.specs.Locations.{raw_of}
use Rattle.numbers.specs.Answers.{Number}
use Rattle.numbers.specs.GroupLaws.{groups-bytes, either_way}
use Rattle.rules.specs.Base.{Bool, true, false, List, [], map, ℕ, zero, suc, length, get_or, take, drop, set, replicate, leb, eqb, pick, each, padded}
use Rattle.rules.specs.BaseLaws.{All}
use Rattle.rules.proofs.BaseLaws.{all_map, all_append, all_take}
use Rattle.rules.specs.Refusal.{◌gives◌, decide, after}
use Rattle.rules.specs.Object.{Stored, object_bytes, stored_at, objects_from, objects_in}
use Rattle.rules.specs.Trailer.{absolute, entry_bytes, listed, trailer_bytes}
use Rattle.rules.specs.Label.{label_bytes}
use Rattle.rules.specs.Ops.{Content, put, delete, Op, content_bytes, objects_of, entries_of, file_bytes, settled}
use Rattle.rules.proofs.SettledLaws.{settled-all}
use Rattle.rules.specs.Batch.{Parsed, malformed, parsed, put_operation, operation_at, Batch, not_as_above, operations, before, batch_from, batch_in, ops_of}
use Rattle.rules.proofs.BatchLaws.{batch-end, batch-bad, batch-next}
use Rattle.rules.specs.Stores.{Store, made, stores_of, file_stores}
use Rattle.rules.specs.SlotFile.{bytes_of_slot}
use Rattle.rules.specs.Install.{new_label, new_slot, new_lsn, stores_for, installed, installed_all}
use Rattle.rules.specs.Write.{new_files, write_tests, written, write_call}
use Rattle.rules.specs.Prune.{is_dead, prune_stores, pruned, prune_call}
use Rattle.rules.specs.Condition1.{refused1}
use Rattle.rules.specs.FileMap.{record_at, slots_where}
use Rattle.rules.specs.Table.{load, current_at}
use Rattle.rules.specs.Maintenance.{objects_found, deletes_found, deletes_of, slot_of, found_in, found, files_of, going, stopped, Course, group, group_tests, rewrite_group}
use Rattle.rules.specs.TwoCalls.{too_few, generation_rewritten, rewrite_call}
use Rattle.rules.specs.World.{World, records_of, mappings, accepted, unchanged}
use Rattle.theory.specs.Types.{Entry, Label, Refusal, Limits, Answer}
use Rattle.theory.proofs.Lists.{all-each, all-kept, all_set, all_replicate, every}
use Rattle.history_theory.specs.Shards.{PartOf}
use Rattle.history_theory.proofs.Shards.{sub-all, files-parts}
use Rattle.history_theory.proofs.Quiet.{undisturbed}
use Rattle.history_theory.proofs.OneGeneration.{rewrite-leaves}
use Rattle.history_theory.specs.History.{Call, write, rewrite, prune, reopen, quiet, called, hears, Life, lived}
use Rattle.power_cuts.proofs.Runs.{run-made}
use Rattle.check_theory.proofs.Lists.{of-every}
use Rattle.check_theory.specs.Bytewise.{Byte, BodyOf, OpBytes, ByteStored, ParsedBytes, CallBytes}

to-all : (bs : List ℕ) → Bytes bs → All Byte bs
to-all [] h = tt
to-all (b ∷ bs) h = (h 0, to-all bs (λ i. h (suc i)))

from_all : (bs : List ℕ) → All Byte bs → Bytes bs
from_all [] a i = omega arith
from_all (b ∷ bs) a zero = a.0
from_all (b ∷ bs) a (suc i) = from_all bs a.1 i

all_drop : {A : Type 0} (P : A → Type 0) (n : ℕ) (xs : List A) → All P xs → All P (drop n xs)
all_drop P zero xs a = a
all_drop P (suc n) [] a = tt
all_drop P (suc n) (x ∷ xs) a = all_drop P n xs a.1

-- ---- what is written
number-bytes : (k n : ℕ) → All Byte (le_bytes k n)
number-bytes k n = to-all (le_bytes k n) (le-bytes k n)

content-bytes : (id : ℕ) (c : Content) → BodyOf c → All Byte (content_bytes id c)
unfolding object_bytes
content-bytes id (put body) a =
    let sum = le_bytes 4 (object_sum id body) in
    let size = le_bytes 8 (length body) in
    all_append Byte ((sum ++ le_bytes 8 id) ++ size) body
    (all_append Byte (sum ++ le_bytes 8 id) size (all_append Byte sum (le_bytes 8 id) (number-bytes 4 (object_sum id body)) (number-bytes 8 id)) (number-bytes 8 (length body))) a
content-bytes id delete a = tt

file-bytes : (ops : List Op) → All OpBytes ops → All Byte (file_bytes ops)
unfolding file_bytes objects_of trailer_bytes listed
file-bytes ops a =
    all_append Byte (objects_of ops) (trailer_bytes (entries_of 0 ops))
    (all-each Byte (λ (o : Op). content_bytes o.id o.content) ops (all_map OpBytes (λ (o : Op). All Byte (content_bytes o.id o.content)) ops (λ o b. content-bytes o.id o.content b) a))
    (all_append Byte (le_bytes 4 (crc32 (listed (entries_of 0 ops)))) (listed (entries_of 0 ops)) (number-bytes 4 (crc32 (listed (entries_of 0 ops))))
    (all_append Byte (le_bytes 8 (length (entries_of 0 ops))) (each entry_bytes (entries_of 0 ops)) (number-bytes 8 (length (entries_of 0 ops)))
    (all-each Byte entry_bytes (entries_of 0 ops)
    (of-every (λ (e : Entry). All Byte (entry_bytes e)) (entries_of 0 ops) (λ e. all_append Byte (le_bytes 8 e.id) (le_bytes 8 e.location) (number-bytes 8 e.id) (number-bytes 8 e.location))))))

label-bytes : (l : Label) → All Byte (label_bytes l)
unfolding label_bytes padded
label-bytes l =
    let a = groups_of 10 l.lsn in
    let b = groups_of 10 l.trailer_offset in
    let c = groups_of 10 l.file_size in
    let d = groups_of 10 l.present_objects in
    let e = groups_of 10 l.generation in
    all_append Byte (a ++ (b ++ (c ++ (d ++ e)))) (replicate (64 - length (a ++ (b ++ (c ++ (d ++ e))))) 0)
    (all_append Byte a (b ++ (c ++ (d ++ e))) (group l.lsn)
    (all_append Byte b (c ++ (d ++ e)) (group l.trailer_offset)
    (all_append Byte c (d ++ e) (group l.file_size) (all_append Byte d e (group l.present_objects) (group l.generation)))))
    (all_replicate Byte (64 - length (a ++ (b ++ (c ++ (d ++ e))))) 0 (omega arith))
  where
    group : (n : ℕ) → All Byte (groups_of 10 n)
    group n = to-all (groups_of 10 n) (groups-bytes 10 n)

stores-bytes : (at : ℕ) (bs : List ℕ) → All Byte bs → All ByteStored (stores_of at bs)
unfolding stores_of
stores-bytes at [] a = tt
stores-bytes at (b ∷ bs) a = (a.0, stores-bytes (suc at) bs a.1)

made_bytes : (ss : List Store) (heap : List ℕ) → All ByteStored ss → All Byte heap → All Byte (made ss heap)
unfolding made
made_bytes [] heap a h = h
made_bytes (s ∷ ss) heap a h = made_bytes ss (set heap s.at s.byte) a.1 (all_set Byte heap s.at s.byte h a.0)

installed-bytes : (bit g : ℕ) (w : World) (f : List Op) → All OpBytes f → All Byte w.heap → All Byte (installed bit g w f).heap
unfolding installed stores_for file_stores
installed-bytes bit g w f a h =
    let start = new_slot w * w.settings.slot_bytes in
    let label = label_bytes (new_label (new_lsn bit w) g f) in
    let l = label-bytes (new_label (new_lsn bit w) g f) in
    made_bytes (file_stores start label (file_bytes f)) w.heap
    (all_append ByteStored (stores_of (start + 64) (file_bytes f)) (stores_of (suc start) (drop 1 label) ++ stores_of start (take 1 label))
    (stores-bytes (start + 64) (file_bytes f) (file-bytes f a))
    (all_append ByteStored (stores_of (suc start) (drop 1 label)) (stores_of start (take 1 label))
    (stores-bytes (suc start) (drop 1 label) (all_drop Byte 1 label l)) (stores-bytes start (take 1 label) (all_take Byte 1 label l)))) h

files-bytes : (bit g : ℕ) (files : List (List Op)) (w : World) → All (All OpBytes) files → All Byte w.heap → All Byte (installed_all bit g w files).heap
unfolding installed_all
files-bytes bit g [] w a h = h
files-bytes bit g (f ∷ fs) w a h = files-bytes bit g fs (installed bit g w f) a.1 (installed-bytes bit g w f a.0 h)

pruned-bytes : (w : World) → All Byte w.heap → All Byte (pruned w).heap
unfolding pruned prune_stores
pruned-bytes w h = made_bytes (prune_stores w) w.heap (zeroed (slots_where (is_dead w.claims) 0 (records_of w))) h
  where
    zeroed : (ks : List ℕ) → All ByteStored (map (λ (slot : ℕ). record { at = slot * w.settings.slot_bytes; byte = 0 }) ks)
    zeroed [] = tt
    zeroed (k ∷ ks) = (omega arith, zeroed ks)

put-bytes : (s : List ℕ) → All Byte s → (id at : ℕ) → ParsedBytes (put_operation s id at)
unfolding put_operation
put-bytes s a id at = go (number_in 10 s at)
  where
    go : (n : Number) → ParsedBytes (saying malformed n (λ size start. pick (leb size (length s - start)) (parsed (record { id = id; content = put (take size (drop start s)) }) (start + size)) malformed))
    go None = tt
    go (Some (size, start)) = by (leb size (length s - start))
      where
        by : (t : Bool) → ParsedBytes (pick t (parsed (record { id = id; content = put (take size (drop start s)) }) (start + size)) malformed)
        by true = all_take Byte size (drop start s) (all_drop Byte start s a)
        by false = tt

operation-bytes : (s : List ℕ) → All Byte s → (at : ℕ) → ParsedBytes (operation_at s at)
unfolding operation_at
operation-bytes s a at = go (number_in 10 s at)
  where
    go : (n : Number) → ParsedBytes (saying malformed n (λ id tag. pick (leb (length s) tag) malformed
        (pick (eqb (get_or s tag 0) 0) (parsed (record { id = id; content = delete }) (suc tag))
        (pick (eqb (get_or s tag 0) 1) (put_operation s id (suc tag)) malformed))))
    go None = tt
    go (Some (id, tag)) = by (leb (length s) tag) (eqb (get_or s tag 0) 0) (eqb (get_or s tag 0) 1)
      where
        by : (t u v : Bool) → ParsedBytes (pick t malformed (pick u (parsed (record { id = id; content = delete }) (suc tag)) (pick v (put_operation s id (suc tag)) malformed)))
        by true u v = tt
        by false true v = tt
        by false false true = put-bytes s a id (suc tag)
        by false false false = tt

from_bytes : (k : ℕ) (s : List ℕ) → All Byte s → (at : ℕ) → All OpBytes (ops_of (batch_from k s at))
unfolding batch_from
from_bytes zero s a at = go (leb (length s) at)
  where
    go : (t : Bool) → All OpBytes (ops_of (pick t (operations []) not_as_above))
    go true = tt
    go false = tt
from_bytes (suc k) s a at = go (either_way at (length s)) (operation_at s at) refl (from_bytes k s a)
  where
    on : (o : Op) (b : Batch) → OpBytes o → All OpBytes (ops_of b) → All OpBytes (ops_of (before o b))
    on o not_as_above h f = tt
    on o (operations os) h f = (h, f)

    go : (at < length s) ⊎ (length s ≤ at) → (p : Parsed) → operation_at s at ≡ p → ((next : ℕ) → All OpBytes (ops_of (batch_from k s next))) → All OpBytes (ops_of (batch_from (suc k) s at))
    go (inr h) p e ih = rw (batch-end (suc k) s at h) tt
    go (inl h) malformed e ih = rw (batch-bad (suc k) s at h e) tt
    go (inl h) (parsed o next) e ih = rw (batch-next k s at o next h e) (on o (batch_from k s next) (subst ParsedBytes e (operation-bytes s a at)) (ih next))

write_bytes : (w : World) (batch : List ℕ) → All Byte batch → All Byte w.heap → All Byte (write_call w batch).world.heap
unfolding write_call written batch_in
write_bytes w batch a h = go (decide (write_tests w batch))
  where
    files : (os : List Op) → All OpBytes os → All (All OpBytes) (new_files os)
    files [] b = tt
    files (o ∷ os) b = (b, tt)

    go : (d : Answer) → All Byte (after d (unchanged w) (record { answer = accepted []; world = installed_all (2 ^ 62) 0 w (new_files (settled (ops_of (batch_in batch)))) })).world.heap
    go (Err r) = h
    go (Ok _) = files-bytes (2 ^ 62) 0 (new_files (settled (ops_of (batch_in batch)))) w (files (settled (ops_of (batch_in batch))) (settled-all OpBytes (ops_of (batch_in batch)) (from_bytes (length batch) batch a 0))) h

-- ---- what a group finds is bytes of the heap
bodies-bytes : (k position : ℕ) (bs : List ℕ) → All Byte bs → All (λ (o : Stored). All Byte o.body) (objects_from k position bs)
unfolding objects_from stored_at
bodies-bytes zero position bs a = tt
bodies-bytes (suc k) position [] a = tt
bodies-bytes (suc k) position (b ∷ bs) a =
    let size = (stored_at position (b ∷ bs)).size in
    (all_take Byte size (drop 20 (b ∷ bs)) (all_drop Byte 20 (b ∷ bs) a), bodies-bytes k (position + (20 + size)) (drop (20 + size) (b ∷ bs)) (all_drop Byte (20 + size) (b ∷ bs) a))

module _ (w : World) (h : All Byte w.heap) where
  found-in-bytes : (k : ℕ) → All OpBytes (found_in w k)
  unfolding objects_found deletes_found objects_in bytes_of_slot
  found-in-bytes k =
      let r = (record_at (records_of w) k).label in
      let at = k * w.settings.slot_bytes in
      let slot = take w.settings.slot_bytes (drop at w.heap) in
      let file = take r.file_size (drop 64 slot) in
      let slot-bytes = all_take Byte w.settings.slot_bytes (drop at w.heap) (all_drop Byte at w.heap h) in
      let file-part = all_take Byte r.file_size (drop 64 slot) (all_drop Byte 64 slot slot-bytes) in
      let part = take r.trailer_offset file in
      all_append OpBytes (objects_found (mappings w) r (slot_of w k)) (deletes_found (mappings w) r (slot_of w k))
      (all-kept (λ (o : Stored). All Byte o.body) OpBytes
      (λ (o : Stored). current_at (load (mappings w) o.id) (raw_of (r.lsn + o.position) false)) (λ (o : Stored). record { id = o.id; content = put o.body })
      (objects_in part) (λ o b q. b) (bodies-bytes (length part) 0 part (all_take Byte r.trailer_offset file file-part)))
      (all-kept (λ (e : Entry). Unit {0}) OpBytes
      (λ (e : Entry). current_at (load (mappings w) e.id) (absolute r.lsn e).location) (λ (e : Entry). record { id = e.id; content = delete })
      (deletes_of r (slot_of w k)) (λ e b q. tt) (of-every (λ (e : Entry). Unit {0}) (deletes_of r (slot_of w k)) (λ e. tt)))

  found-files-bytes : (ks : List ℕ) (target : ℕ) → All (All OpBytes) (files_of target (found w ks))
  unfolding found
  found-files-bytes ks target =
      all_map (PartOf (found w ks)) (All OpBytes) (files_of target (found w ks))
      (λ f p. sub-all OpBytes p.0 (settled-all OpBytes (each (found_in w) ks) (all-each OpBytes (found_in w) ks (every (λ (k : ℕ). All OpBytes (found_in w k)) ks found-in-bytes))))
      (files-parts target (found w ks))

  group-bytes : (g : ℕ) (ks : List ℕ) (moved : ℕ) → All Byte (rewrite_group g ks moved w).world.heap
  unfolding rewrite_group
  group-bytes g ks moved = go (decide (group_tests w ks (files_of w.settings.target_file_size (found w ks))))
    where
      go : (a : Answer) → All Byte (after {A = Course} a (λ (r : Refusal). record { stop = stopped r g; moved = moved; world = w })
          (record { stop = going; moved = moved + length (found w ks); world = installed_all 0 g w (files_of w.settings.target_file_size (found w ks)) })).world.heap
      go (Err r) = h
      go (Ok _) = files-bytes 0 g (files_of w.settings.target_file_size (found w ks)) w (found-files-bytes ks w.settings.target_file_size) h

rewrite-bytes : (w : World) (room g mark count : ℕ) → All Byte w.heap → All Byte (rewrite_call w room g mark count).world.heap
unfolding generation_rewritten
rewrite-bytes w room g mark count h = rewrite-leaves (λ (v : World). All Byte v.heap) w room g mark count h (λ low high. go (too_few w (group w g mark count)))
  where
    go : (b : Bool) → All Byte (pick b (record { stop = going; moved = 0; world = w }) (rewrite_group g (group w g mark count) 0 w)).world.heap
    go true = h
    go false = group-bytes w h g (group w g mark count) 0

prune-bytes : (w : World) → All Byte w.heap → All Byte (prune_call w).world.heap
unfolding prune_call
prune-bytes w h = go (decide (refused1 w gives Limits ∷ []))
  where
    go : (a : Answer) → All Byte (after a (unchanged w) (record { answer = accepted []; world = pruned w })).world.heap
    go (Err r) = h
    go (Ok _) = pruned-bytes w h

-- LAW: a heap of bytes stays one, of any world, any call, refused or not
pub bytes-called : (w : World) (c : Call) → CallBytes c → Bytes w.heap → Bytes (called w c).world.heap
unfolding made
bytes-called w (write batch) b h = from_all (write_call w batch).world.heap (write_bytes w batch (to-all batch b) (to-all w.heap h))
bytes-called w (rewrite room g mark count) b h =
    from_all (rewrite_call w room g mark count).world.heap (rewrite-bytes w room g mark count (to-all w.heap h))
bytes-called w prune b h = from_all (prune_call w).world.heap (prune-bytes w (to-all w.heap h))
bytes-called w reopen b h = subst Bytes (sym (run-made w reopen)) h
bytes-called w (quiet q) b h = subst Bytes (sym (undisturbed w q).heap) h

-- LAW: whatever calls were made
pub bytes-lived : (l : Life) (calls : List Call) → All CallBytes calls → Bytes l.world.heap → Bytes (lived l calls).world.heap
unfolding lived
bytes-lived l [] b h = h
bytes-lived l (c ∷ cs) b h = bytes-lived (record { world = (called l.world c).world; history = hears l.world l.history c }) cs b.1 (bytes-called l.world c b.0 h)
