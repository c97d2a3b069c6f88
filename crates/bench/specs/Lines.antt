-- What a line does to the desk.
use Rattle.std.specs.Prelude.{◌≡◌}
use Rattle.std.proofs.Common.{ap, ◌∙◌, ⊎_elim}
use Rattle.rules.specs.Base.{Bool, true, false, List, ℕ}
use Rattle.script.specs.Asked.{Asked, asked_by}
use Rattle.script.specs.AskedLaws.{wordless-asked}
use Rattle.script.specs.Words.{no_word}
use Rattle.script.specs.declared.Keyword.{Keyword}
use Rattle.desk.specs.Desk.{Desk, Outcome}
use Rattle.desk.specs.Commands.{done_by}
use Rattle.desk.specs.Failed.{failing, Kept, failed-unchanged}

-- the command that is asked for, done on a desk
abbrev pub done_for : Asked → Desk → Outcome
done_for a d = done_by a.keyword a.numbers a.bytes d

-- the desk after a line, where there is room for so many bytes: what it asks for is done, and nothing else
abbrev pub after_line : ℕ → List ℕ → Desk → Desk
after_line room line d = (done_for (asked_by room line) d).desk

-- the line was done
abbrev pub Ran : ℕ → List ℕ → Desk → Desk → Type 0
Ran room line before after = after ≡ after_line room line before

-- LAW: a line whose command fails changes nothing, but for `reopen` and `maintain`
pub failed-line : (room : ℕ) (line : List ℕ) (before after : Desk) → Ran room line before after → Kept (asked_by room line).keyword
    → failing (done_for (asked_by room line) before).reply ≡ true → after ≡ before
failed-line room line before after r p h =
    let a = asked_by room line in
    r ∙ failed-unchanged a.keyword p a.numbers a.bytes before h

-- LAW: an empty line, blanks alone or a comment change nothing
pub wordless-line : (room : ℕ) (line : List ℕ) (before after : Desk) → Ran room line before after → no_word line ≡ true → after ≡ before
unfolding done_by
wordless-line room line before after r h =
    let a = asked_by room line in
    let done : Keyword → Desk = λ k. (done_by k a.numbers a.bytes before).desk in
    ⊎_elim (λ e. r ∙ ap done e) (λ e. r ∙ ap done e) (wordless-asked room line h)
