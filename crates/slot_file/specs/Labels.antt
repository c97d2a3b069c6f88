-- What 8's bounds leave.
use Rattle.std.specs.Prelude.{◌≡◌, false, ℕ, ◌-◌, ◌≤◌}
use Rattle.rules.specs.declared.Label.{Label}
use Rattle.rules.specs.Label.{out_of_bounds}
use Rattle.rules.proofs.LabelLaws.{in_bounds}

-- within 8's bounds the file lies in its slot, and its object bytes in the file
pub record Inside (bytes_of_slot : ℕ) (l : Label) : Type 0 where
  pub file : l.file_size ≤ bytes_of_slot - 64
  pub objects : l.trailer_offset ≤ l.file_size

pub inside : (bytes_of_slot : ℕ) (l : Label) → out_of_bounds bytes_of_slot l ≡ false → Inside bytes_of_slot l
inside bytes_of_slot l e =
    let w = in_bounds bytes_of_slot l e in
    record { file = w.size; objects = w.offset }
