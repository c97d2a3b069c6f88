-- "A slot is a 64-byte label, then the file."
use Rattle.std.specs.Prelude.{◌||◌, ◌++◌, ◌+◌, ◌-◌, ◌^◌}
use Rattle.rules.specs.Base.{Bool, List, ℕ, get_or, drop, leb, ltb, eqb, pick, zeros, padded}
use Rattle.rules.specs.Types.{Label, LabelAnswer, Vacant, Five, Wrong}
use Rattle.numbers.specs.Groups.{groups_of, number_in, saying}
use Rattle.disk_location.specs.Locations.{masked_of}

-- "holds lsn, trailer_offset, file_size, present_objects, generation as numbers in groups of seven bits"; "Zeros fill the 64 bytes."
unfoldable pub label_bytes : Label → List ℕ
label_bytes l =
    padded 64
    (groups_of 10 l.lsn
    ++ (groups_of 10 l.trailer_offset
    ++ (groups_of 10 l.file_size
    ++ (groups_of 10 l.present_objects
    ++ groups_of 10 l.generation))))

-- the five numbers one behind the other, zeros behind them
unfoldable pub five_in : List ℕ → LabelAnswer
five_in s =
    saying Wrong (number_in 10 s 0) λ lsn a.
    saying Wrong (number_in 10 s a) λ offset b.
    saying Wrong (number_in 10 s b) λ size c.
    saying Wrong (number_in 10 s c) λ present d.
    saying Wrong (number_in 10 s d) λ generation e.
    pick (zeros (drop e s))
    (Five (record { lsn = lsn; trailer_offset = offset; file_size = size; present_objects = present; generation = generation }))
    Wrong

-- "First byte 0 means the slot is empty, whatever follows."
unfoldable pub label_in : List ℕ → LabelAnswer
label_in s = pick (eqb (get_or s 0 0) 0) Vacant (five_in s)

-- 8's bounds: "file_size over S − 64, T over file_size, masked lsn 0, lsn of 2^63 or more, or masked lsn + T of 2^62 or more";
-- "generation at most 255"
unfoldable pub out_of_bounds : ℕ → Label → Bool
out_of_bounds bytes_of_slot l =
    ltb (bytes_of_slot - 64) l.file_size
    || ltb l.file_size l.trailer_offset
    || eqb (masked_of l.lsn) 0
    || leb (2 ^ 63) l.lsn
    || leb (2 ^ 62) (masked_of l.lsn + l.trailer_offset)
    || ltb 255 l.generation
