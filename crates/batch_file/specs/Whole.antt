-- A file's run made whole.
use Rattle.std.specs.Prelude.{◌≡◌, List, ◌++◌, ℕ, suc, ◌+◌, ◌≤◌, length, take, drop}
use Rattle.std.proofs.Common.{arith, length-append, length-drop, length-take-le}
use Rattle.rules.specs.declared.Label.{Label}
use Rattle.rules.specs.Label.{label_bytes}
use Rattle.rules.specs.Stores.{made, stores_of, file_stores}
use Rattle.rules.proofs.StoreLaws.{stores-length}
use Rattle.rules.proofs.LabelLaws.{label-length}
use Rattle.stores.specs.Runs.{Made, made-whole}

-- its file's bytes, and the label's 64
pub run_length : (start : ℕ) (new : Label) (file : List ℕ) → length (file_stores start (label_bytes new) file) ≡ length file + 64
unfolding file_stores
run_length start new file =
    let label = label_bytes new in
    let size = label-length new in
    let others = stores_of (suc start) (drop 1 label) in
    let first = stores_of start (take 1 label) in
    omega (
      arith,
      length-append (stores_of (start + 64) file) (others ++ first),
      length-append others first,
      stores-length (start + 64) file,
      stores-length (suc start) (drop 1 label),
      stores-length start (take 1 label),
      length-drop 1 label,
      length-take-le 1 label (omega arith),
    )

-- so many stores make the whole of it
pub file-whole : (start : ℕ) (new : Label) (file : List ℕ) {k left : ℕ} {heap after : List ℕ} → length file + 64 ≤ k
    → Made k (file_stores start (label_bytes new) file) heap after left → after ≡ made (file_stores start (label_bytes new) file) heap
file-whole start new file h m = made-whole (omega (arith, run_length start new file)) m
