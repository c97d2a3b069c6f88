-- Lines, and what they ask for.
use Rattle.std.specs.Prelude.{◌≡◌, refl, [], ◌∷◌}
use Rattle.byte_parts.specs.Bytes.{index_of, index_after}
use Rattle.numbers.specs.Parts.{front}
use Rattle.script.specs.declared.Keyword.TheVariants.{Blank, Bad, Write, Read}
use Rattle.script.specs.Decimal.{all_digits, value_from, number_of}
use Rattle.script.specs.Hex.{is_hex_digit, all_hex, is_hex, nibble_of, bytes_of}
use Rattle.script.specs.Names.{same_bytes, named_in, keyword_of}
use Rattle.script.specs.Shapes.{shape_of}
use Rattle.script.specs.Words.{is_blank, before_comment, has_comment, goes_on, joined, words_of, none}
use Rattle.script.specs.Asked.{no_numbers, bare, numbered, numbers_in, says_bytes, ends_well, bytes_in, ended_by, shaped_by, asked_in, asked_by}

-- `write 00ff`, two bytes
pub write-line : asked_by 2 (119 ∷ 114 ∷ 105 ∷ 116 ∷ 101 ∷ 32 ∷ 48 ∷ 48 ∷ 102 ∷ 102 ∷ []) ≡ record { keyword = Write; numbers = no_numbers; bytes = 0 ∷ 255 ∷ [] }
unfolding asked_by asked_in shaped_by ended_by ends_well bytes_in numbered numbers_in says_bytes keyword_of named_in same_bytes shape_of words_of joined goes_on is_blank none has_comment before_comment index_of index_after front number_of all_digits value_from is_hex all_hex is_hex_digit bytes_of nibble_of
write-line = refl

-- the same, where there is room for one
pub write-no-room : asked_by 1 (119 ∷ 114 ∷ 105 ∷ 116 ∷ 101 ∷ 32 ∷ 48 ∷ 48 ∷ 102 ∷ 102 ∷ []) ≡ bare Bad
unfolding asked_by asked_in shaped_by ended_by ends_well bytes_in numbered numbers_in says_bytes keyword_of named_in same_bytes shape_of words_of joined goes_on is_blank none has_comment before_comment index_of index_after front number_of all_digits value_from is_hex all_hex is_hex_digit bytes_of nibble_of
write-no-room = refl

-- `read 7 # seven`, one number
pub read-line : asked_by 0 (114 ∷ 101 ∷ 97 ∷ 100 ∷ 32 ∷ 55 ∷ 32 ∷ 35 ∷ 32 ∷ 115 ∷ 101 ∷ 118 ∷ 101 ∷ 110 ∷ []) ≡ record { keyword = Read; numbers = 7 ∷ 0 ∷ 0 ∷ 0 ∷ 0 ∷ 0 ∷ 0 ∷ 0 ∷ 0 ∷ []; bytes = [] }
unfolding asked_by asked_in shaped_by ended_by ends_well bytes_in numbered numbers_in says_bytes keyword_of named_in same_bytes shape_of words_of joined goes_on is_blank none has_comment before_comment index_of index_after front number_of all_digits value_from is_hex all_hex is_hex_digit bytes_of nibble_of
read-line = refl

-- `claim 1 2`, a number too many
pub claim-line : asked_by 0 (99 ∷ 108 ∷ 97 ∷ 105 ∷ 109 ∷ 32 ∷ 49 ∷ 32 ∷ 50 ∷ []) ≡ bare Bad
unfolding asked_by asked_in shaped_by ended_by ends_well bytes_in numbered numbers_in says_bytes keyword_of named_in same_bytes shape_of words_of joined goes_on is_blank none has_comment before_comment index_of index_after front number_of all_digits value_from is_hex all_hex is_hex_digit bytes_of nibble_of
claim-line = refl

-- ` # 7`, a comment
pub comment-line : asked_by 0 (32 ∷ 35 ∷ 32 ∷ 55 ∷ []) ≡ bare Blank
unfolding asked_by asked_in shaped_by ended_by ends_well bytes_in numbered numbers_in says_bytes keyword_of named_in same_bytes shape_of words_of joined goes_on is_blank none has_comment before_comment index_of index_after front number_of all_digits value_from is_hex all_hex is_hex_digit bytes_of nibble_of
comment-line = refl
