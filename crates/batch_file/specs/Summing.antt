-- The trailer of operations: its checksum, and its head before its entries.
use Rattle.std.specs.Prelude.{◌≡◌, List, [], ◌++◌, ℕ, ◌+◌, ◌-◌, ◌^◌, ◌<◌, length}
use Rattle.std.proofs.Common.{sym, ap, ◌∙◌, arith}
use Rattle.numbers.specs.LittleEndian.{le_bytes}
use Rattle.checksum.specs.Checksum.{crc_from, crc32, crc-append, crc-nil}
use Rattle.rules.specs.declared.Entry.{Entry}
use Rattle.rules.specs.Base.{each}
use Rattle.rules.specs.Trailer.{entry_bytes, listed, trailer_bytes}
use Rattle.rules.specs.Ops.{Op, objects_of, entries_of}
use Rattle.rules.proofs.OpsLaws.{entries-of-length}
use Rattle.rules.specs.Stores.{stores_of}
use Rattle.stores.specs.Runs.{Made}
use Rattle.trailer.specs.Written.{sum-start, trailer-made}
use Rattle.batch.specs.Sizes.{size_in}
use Rattle.batch.specs.SizeLaws.{total-next}
use Rattle.batch.specs.WalkLaws.{Stepped}
use Rattle.batch.specs.declared.Operation.{Operation}
use Rattle.batch_file.specs.Steps.{entry_in, each_next, each-end}

-- the checksum underway: the register has gone over what stands before those that are left
pub record Summing (all left : List Op) (register position : ℕ) : Type 0 where
  pub fed : crc_from register (each entry_bytes (entries_of position left)) ≡ crc_from (2 ^ 32 - 1) (listed (entries_of 0 all))
  pub low : position + length (objects_of left) < 2 ^ 62

-- over the count
pub summing_start : {all left : List Op} {count register : ℕ} → left ≡ all → count ≡ length all → length (objects_of all) < 2 ^ 62
    → register ≡ crc_from (2 ^ 32 - 1) (le_bytes 8 count) → Summing all left register 0
summing_start {all} e n small r = record {
  fed = rw (r, e, n ∙ sym (entries-of-length 0 all)) (sum-start (entries_of 0 all));
  low = omega (arith, ap (λ (os : List Op). length (objects_of os)) e);
}

-- over an entry
pub summing-next : {s : List ℕ} {all left rest : List Op} {o : Operation} {entry : Entry} {register next position after : ℕ} → Summing all left register position → Stepped s left o rest
    → entry ≡ entry_in position o → next ≡ crc_from register (entry_bytes entry) → after ≡ position + size_in o → Summing all rest next after
summing-next {rest = rest} {o = o} {register = register} {position = position} w e is r on = record {
  fed = rw (r, is, on) (sym (crc-append register (entry_bytes (entry_in position o)) (each entry_bytes (entries_of (position + size_in o) rest)))
      ∙ ap (crc_from register) (sym (each_next e position))
      ∙ w.fed);
  low = omega (arith, total-next e, w.low, on);
}

-- over all of them
pub summing-end : {all left : List Op} {register position : ℕ} → Summing all left register position → left ≡ [] → 2 ^ 32 - 1 - register ≡ crc32 (listed (entries_of 0 all))
unfolding crc32
summing-end {register = register} {position = position} w none =
    ap (λ (x : ℕ). 2 ^ 32 - 1 - x) (sym (crc-nil register) ∙ ap (crc_from register) (sym (each-end position none)) ∙ w.fed)

-- its head, then its entries
pub trailer-of : (at : ℕ) (ops : List Op) {count sum k m n : ℕ} {heap next last : List ℕ} → count ≡ length ops → sum ≡ crc32 (listed (entries_of 0 ops))
    → Made k (stores_of at (le_bytes 4 sum ++ le_bytes 8 count)) heap next m
    → Made m (stores_of (at + 12) (each entry_bytes (entries_of 0 ops))) next last n
    → Made k (stores_of at (trailer_bytes (entries_of 0 ops))) heap last n
trailer-of at ops count sum head entries = trailer-made at (entries_of 0 ops) (rw (sum, count ∙ sym (entries-of-length 0 ops)) at head) entries
