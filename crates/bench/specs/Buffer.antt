-- What a line buffer has of a line.
use Rattle.std.specs.Prelude.{◌≤◌, ◌∷◌, ◌++◌, Some, None}
use Rattle.std.specs.declared.option.Option.{Option}
use Rattle.rules.specs.Base.{Bool, true, false, List, [], ℕ, length, take, ltb, pick}

-- a line longer than the line buffer
abbrev pub too_long : ℕ → List ℕ → Bool
too_long cap text = ltb cap (length text)

-- a text, or none where it is too long
abbrev pub held_of : ℕ → List ℕ → Option (List ℕ)
held_of cap text = pick (too_long cap text) None (Some text)

-- one byte more
abbrev pub with_byte : ℕ → Option (List ℕ) → ℕ → Option (List ℕ)
with_byte cap None b = None
with_byte cap (Some text) b = held_of cap (text ++ (b ∷ []))

-- a part more, byte by byte
unfoldable pub with_bytes : ℕ → Option (List ℕ) → List ℕ → Option (List ℕ)
with_bytes cap line [] = line
with_bytes cap line (b ∷ part) = with_bytes cap (with_byte cap line b) part

-- nothing of a line is read
abbrev pub is_blank : Option (List ℕ) → Bool
is_blank None = false
is_blank (Some []) = true
is_blank (Some (b ∷ text)) = false

-- what a line buffer is: how many bytes fit, and the line so far, or none where it is too long
pub record Buffered : Type 0 where
  pub cap : ℕ
  pub line : Option (List ℕ)

-- so many bytes are held, which fit
abbrev pub within : ℕ → Option ℕ → Type 0
within cap None = Unit {0}
within cap (Some n) = n ≤ cap

-- they are the first ones
abbrev pub text_in : Option ℕ → List ℕ → Option (List ℕ)
text_in None bytes = None
text_in (Some n) bytes = Some (take n bytes)
