-- Operations put one behind the other, objects or entries.
use Rattle.std.specs.Prelude.{◌≡◌, List, [], ◌++◌, ℕ, ◌+◌, ◌*◌, ◌≤◌, length}
use Rattle.std.proofs.Common.{ap, ◌∙◌, arith, length-append}
use Rattle.rules.specs.declared.Entry.{Entry}
use Rattle.rules.specs.Base.{each}
use Rattle.rules.specs.Trailer.{entry_bytes}
use Rattle.rules.proofs.TrailerLaws.{entry_length, entries-length}
use Rattle.rules.specs.Ops.{Op, content_bytes, objects_of, entries_of}
use Rattle.rules.proofs.OpsLaws.{objects-nil, entries-of-length}
use Rattle.rules.specs.Stores.{stores_of}
use Rattle.stores.specs.Runs.{Made}
use Rattle.batch.specs.Reading.{op_in}
use Rattle.batch.specs.Sizes.{size_in}
use Rattle.batch.specs.SizeLaws.{total-next}
use Rattle.batch.specs.WalkLaws.{Stepped}
use Rattle.batch.specs.declared.Operation.{Operation}
use Rattle.batch_file.specs.Steps.{entry_in, content-size, objects-next, each_next, each-end}
use Rattle.batch_file.specs.Underway.{Underway, way-start, way_next, way_end}

-- `bytes` has the operations from a position on: all of them go from `at` on, and what is left from `to` on
pub record Putting (bytes : ℕ → List Op → List ℕ) (k at : ℕ) (all : List Op) (before : List ℕ) (rest to position : ℕ) (left : List Op) (heap : List ℕ) : Type 0 where
  pub way : Underway k (stores_of at (bytes 0 all)) before rest (stores_of to (bytes position left)) heap
  pub low : at ≤ to
  pub high : to + length (bytes position left) ≤ at + length (bytes 0 all)
  pub bound : position + length (objects_of left) ≤ length (objects_of all)

-- the objects, and the entries
abbrev pub objects_from : ℕ → List Op → List ℕ
objects_from position ops = objects_of ops

abbrev pub entries_from : ℕ → List Op → List ℕ
entries_from position ops = each entry_bytes (entries_of position ops)

-- none is put yet
pub putting-start : (bytes : ℕ → List Op → List ℕ) (k at : ℕ) (all left : List Op) (heap : List ℕ) → left ≡ all → Putting bytes k at all heap k at 0 left heap
putting-start bytes k at all left heap e = record {
  way = way-start k at (bytes 0 all) (bytes 0 left) heap (ap (bytes 0) e);
  low = omega arith;
  high = omega (arith, ap (λ (os : List Op). length (bytes 0 os)) e);
  bound = omega (arith, ap (λ (os : List Op). length (objects_of os)) e);
}

-- the first of the rest is put
module _ {bytes : ℕ → List Op → List ℕ} {k at : ℕ} {all : List Op} {before : List ℕ} {rest to position : ℕ} {left : List Op} {heap : List ℕ}
    (w : Putting bytes k at all before rest to position left heap) {s : List ℕ} {o : Operation} {next : List Op} (e : Stepped s left o next) where
  putting-next : (first : List ℕ) {mid after m : ℕ} {last : List ℕ} → bytes position left ≡ first ++ bytes after next → to + length first ≡ mid → after ≤ position + size_in o
      → Made rest (stores_of to first) heap last m → Putting bytes k at all before m mid after next last
  putting-next first {mid} {after} same size on put = record {
    way = way_next to mid first (bytes after next) (bytes position left) same size w.way put;
    low = omega (arith, w.low, size);
    high = omega (arith, w.high, ap length same, length-append first (bytes after next), size);
    bound = omega (arith, w.bound, total-next e, on);
  }

-- an object
module _ {k at : ℕ} {all : List Op} {before : List ℕ} {rest to position : ℕ} {left : List Op} {heap : List ℕ}
    (w : Putting objects_from k at all before rest to position left heap) {s : List ℕ} {o : Operation} {next : List Op} (e : Stepped s left o next) where
  pub object-fits : to + size_in o ≤ at + length (objects_of all)
  object-fits = omega (arith, w.high, total-next e)

  pub object-put : {mid after m : ℕ} {last : List ℕ} → mid ≡ to + size_in o → after ≤ position + size_in o
      → Made rest (stores_of to (content_bytes o.id (op_in s o).content)) heap last m → Putting objects_from k at all before m mid after next last
  object-put size on put = putting-next w e (content_bytes o.id (op_in s o).content) (objects-next e) (omega (arith, size, content-size e)) on put

-- an entry
module _ {k at : ℕ} {all : List Op} {before : List ℕ} {rest to position : ℕ} {left : List Op} {heap : List ℕ}
    (w : Putting entries_from k at all before rest to position left heap) {s : List ℕ} {o : Operation} {next : List Op} (e : Stepped s left o next) where
  pub entry-fits : to + 16 ≤ at + 16 * length all
  entry-fits =
      omega (arith, w.high, entries-length (entries_of position left), entries-of-length position left, entries-length (entries_of 0 all), entries-of-length 0 all, ap length e.next)

  pub entry-put : {entry : Entry} {after m : ℕ} {last : List ℕ} → entry ≡ entry_in position o → after ≡ position + size_in o
      → Made rest (stores_of to (entry_bytes entry)) heap last m → Putting entries_from k at all before m (to + 16) after next last
  entry-put is on put =
      rw on
      (putting-next w e (entry_bytes (entry_in position o)) (each_next e position) (ap (λ (n : ℕ). to + n) (entry_length (entry_in position o))) (omega arith) (rw is at put))

-- all of them are put
module _ {k at : ℕ} {all : List Op} {before : List ℕ} {rest to position : ℕ} {left : List Op} {heap : List ℕ} where
  pub objects-put : Putting objects_from k at all before rest to position left heap → left ≡ [] → Made k (stores_of at (objects_of all)) before heap rest
  objects-put w none = way_end to (objects_of left) (ap objects_of none ∙ objects-nil) w.way

  pub entries-put : Putting entries_from k at all before rest to position left heap → left ≡ [] → Made k (stores_of at (each entry_bytes (entries_of 0 all))) before heap rest
  entries-put w none = way_end to (each entry_bytes (entries_of position left)) (each-end position none) w.way
