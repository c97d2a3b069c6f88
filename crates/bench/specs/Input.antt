-- What bytes on standard input do to the desk, line by line.
use Rattle.std.specs.Prelude.{◌≡◌, refl, ◌∷◌, ◌++◌}
use Rattle.std.specs.declared.option.Option.{Option}
use Rattle.rules.specs.Base.{Bool, true, false, List, [], ℕ, eqb, pick}
use Rattle.desk.specs.Desk.{Desk}
use Rattle.bench.specs.Buffer.{too_long, held_of}
use Rattle.bench.specs.Lines.{after_line}

-- the desk at a line's end, with room for so many bytes: a line that is too long changes nothing; of any other the command is done
abbrev pub line_done : ℕ → ℕ → List ℕ → Desk → Desk
line_done cap room text d = pick (too_long cap text) d (after_line room text d)

-- the bytes since the last end of a line (10), when input comes behind `text`
unfoldable pub since_end : List ℕ → List ℕ → List ℕ
since_end [] text = text
since_end (b ∷ input) text = since_end input (pick (eqb b 10) [] (text ++ (b ∷ [])))

-- the desk when input has come behind `text`: every end of a line does it
unfoldable pub fed : ℕ → ℕ → List ℕ → List ℕ → Desk → Desk
fed cap room [] text d = d
fed cap room (b ∷ input) text d = pick (eqb b 10) (fed cap room input [] (line_done cap room text d)) (fed cap room input (text ++ (b ∷ [])) d)

-- the desk at the input's end: a last line without its end counts, unless it is empty
abbrev pub last_done : ℕ → ℕ → List ℕ → Desk → Desk
last_done cap room [] d = d
last_done cap room (b ∷ text) d = line_done cap room (b ∷ text) d

-- the desk after the whole input
abbrev pub told : ℕ → ℕ → List ℕ → Desk → Desk
told cap room input d = last_done cap room (since_end input []) (fed cap room input [] d)

-- ---- what a line buffer has of it
-- the line buffer holds the bytes since the last end of a line, and the lines before them are done
pub record FedTo (cap room : ℕ) (input text : List ℕ) (before : Desk) (line : Option (List ℕ)) (after : Desk) : Type 0 where
  pub holds : line ≡ held_of cap (since_end input text)
  pub done : after ≡ fed cap room input text before

-- ---- laws
-- LAW: a line that is too long changes nothing
pub long-line : (cap room : ℕ) (text : List ℕ) (d : Desk) → too_long cap text ≡ true → line_done cap room text d ≡ d
long-line cap room text d long = rw long refl

-- LAW: one input behind another, cut anywhere
pub since-append : (a b text : List ℕ) → since_end (a ++ b) text ≡ since_end b (since_end a text)
unfolding since_end
since-append [] b text = refl
since-append (x ∷ a) b text = since-append a b (pick (eqb x 10) [] (text ++ (x ∷ [])))

pub fed-append : (cap room : ℕ) (a b text : List ℕ) (d : Desk) → fed cap room (a ++ b) text d ≡ fed cap room b (since_end a text) (fed cap room a text d)
unfolding fed since_end
fed-append cap room [] b text d = refl
fed-append cap room (x ∷ a) b text d = go (eqb x 10) (fed-append cap room a b)
  where
    go : (t : Bool) → ((text : List ℕ) (d : Desk) → fed cap room (a ++ b) text d ≡ fed cap room b (since_end a text) (fed cap room a text d))
        → pick t (fed cap room (a ++ b) [] (line_done cap room text d)) (fed cap room (a ++ b) (text ++ (x ∷ [])) d)
        ≡ fed cap room b (since_end a (pick t [] (text ++ (x ∷ [])))) (pick t (fed cap room a [] (line_done cap room text d)) (fed cap room a (text ++ (x ∷ [])) d))
    go true more = more [] (line_done cap room text d)
    go false more = more (text ++ (x ∷ [])) d
