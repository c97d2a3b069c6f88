-- The run of a file: its objects, its trailer, its label.
use Rattle.std.specs.Prelude.{refl, List, ℕ, ◌+◌, length}
use Rattle.rules.specs.Label.{label_bytes}
use Rattle.rules.specs.Trailer.{trailer_bytes}
use Rattle.rules.specs.Ops.{Op, objects_of, entries_of, file_bytes}
use Rattle.rules.specs.declared.Label.{Label}
use Rattle.rules.specs.Stores.{stores_of, file_stores}
use Rattle.stores.specs.Runs.{Made, made_then, made-behind}
use Rattle.slot_writer.specs.Labels.{label_stores}

-- a file's bytes, then its label
pub file-then-label : (start : ℕ) (label file : List ℕ) {k l n : ℕ} {heap written labelled : List ℕ} → Made k (stores_of (start + 64) file) heap written l
    → Made l (label_stores start label) written labelled n → Made k (file_stores start label file) heap labelled n
unfolding file_stores label_stores
file-then-label start label file a b = made_then a b

-- the first k stores of a file's run, made by three writers, each given what the one before it left
pub file-made : (start : ℕ) (ops : List Op) (x : Label) {k l m n : ℕ} {heap objects trailer label : List ℕ}
    → Made k (stores_of (start + 64) (objects_of ops)) heap objects l
    → Made l (stores_of (start + 64 + length (objects_of ops)) (trailer_bytes (entries_of 0 ops))) objects trailer m
    → Made m (label_stores start (label_bytes x)) trailer label n
    → Made k (file_stores start (label_bytes x) (file_bytes ops)) heap label n
unfolding file_bytes
file-made start ops x a b c =
    file-then-label start (label_bytes x) (file_bytes ops)
    (made-behind (start + 64) (start + 64 + length (objects_of ops)) (objects_of ops) (trailer_bytes (entries_of 0 ops)) refl a b) c
