-- A trailer put together from its head and its entries.
use Rattle.std.specs.Prelude.{◌≡◌, List, ◌++◌, ℕ, ◌+◌, ◌-◌, ◌^◌, ◌<◌, length, drop, get_or}
use Rattle.std.proofs.Common.{sym, ap, append_assoc, length-append}
use Rattle.numbers.specs.LittleEndian.{le_bytes, le-length}
use Rattle.checksum.specs.Checksum.{crc_from, crc32, crc-append}
use Rattle.rules.specs.Base.{each}
use Rattle.rules.specs.declared.Entry.{Entry}
use Rattle.rules.specs.Trailer.{entry_bytes, listed, trailer_bytes}
use Rattle.rules.specs.Stores.{stores_of}
use Rattle.rules.proofs.TurnLaws.{each_next}
use Rattle.rules.specs.Table.{no_entry}
use Rattle.stores.specs.Runs.{Made, made-behind}

-- ---- the checksum: the register goes over the count, then entry by entry over what is left of them
pub sum-start : (es : List Entry) → crc_from (crc_from (2 ^ 32 - 1) (le_bytes 8 (length es))) (each entry_bytes es) ≡ crc_from (2 ^ 32 - 1) (listed es)
unfolding listed
sum-start es = sym (crc-append (2 ^ 32 - 1) (le_bytes 8 (length es)) (each entry_bytes es))

pub sum-next : (r : ℕ) (es : List Entry) (k : ℕ) → k < length es
    → crc_from (crc_from r (entry_bytes (get_or es k no_entry))) (each entry_bytes (drop (k + 1) es)) ≡ crc_from r (each entry_bytes (drop k es))
sum-next r es k h = rw (each_next es k no_entry h entry_bytes) (sym (crc-append r (entry_bytes (get_or es k no_entry)) (each entry_bytes (drop (k + 1) es))))

-- ---- the bytes
pub trailer-parts : (es : List Entry) → trailer_bytes es ≡ (le_bytes 4 (crc32 (listed es)) ++ le_bytes 8 (length es)) ++ each entry_bytes es
unfolding trailer_bytes listed
trailer-parts es = sym (append_assoc (le_bytes 4 (crc32 (le_bytes 8 (length es) ++ each entry_bytes es))) (le_bytes 8 (length es)) (each entry_bytes es))

-- ---- its stores, as far as k reaches

-- the head, then every entry
pub trailer-made : (at : ℕ) (es : List Entry) {k m n : ℕ} {heap next last : List ℕ}
    → Made k (stores_of at (le_bytes 4 (crc32 (listed es)) ++ le_bytes 8 (length es))) heap next m
    → Made m (stores_of (at + 12) (each entry_bytes es)) next last n
    → Made k (stores_of at (trailer_bytes es)) heap last n
trailer-made at es a b =
    let head = le_bytes 4 (crc32 (listed es)) ++ le_bytes 8 (length es) in
    let size : at + length head ≡ at + 12 = ap (λ (k : ℕ). at + k) (simp (length-append, le-length)) in
    rw (trailer-parts es) (made-behind at (at + 12) head (each entry_bytes es) size a b)
