-- What a line's end does.
use mathlib.Core.Path.{◌≡◌, refl, sym, subst}
use lib.Seq.{take-append_seam}
use Rattle.std.specs.Prelude.{Some, None}
use Rattle.std.proofs.lemmas.Option.{none-some, same_Some}
use Rattle.std.specs.declared.option.Option.{Option}
use Rattle.numbers.specs.Parts.{front}
use Rattle.rules.specs.Base.{Bool, true, false, List, ℕ, take, pick}
use Rattle.script.specs.declared.Order.{Order}
use Rattle.script.specs.Asked.{asked_by, order_for}
use Rattle.desk.specs.Desk.{Desk}
use Rattle.desk.specs.Commands.{done_by}
use Rattle.bench.specs.Buffer.{too_long, held_of}
use Rattle.bench.specs.Lines.{Ran, after_line}
use Rattle.bench.specs.Input.{line_done}

-- a line that is too long is not there, and changes nothing
pub lost : (cap room : ℕ) (text : List ℕ) (d : Desk) → None ≡ held_of cap text → d ≡ line_done cap room text d
lost cap room text d = go (too_long cap text)
  where
    go : (t : Bool) → None ≡ pick t None (Some text) → d ≡ pick t d (after_line room text d)
    go true e = refl
    go false e = absurd (none-some text e)

-- one that is there does its command
pub kept : (cap room : ℕ) (text line : List ℕ) (before after : Desk) → Some line ≡ held_of cap text → Ran room line before after → after ≡ line_done cap room text before
kept cap room text line before after = go (too_long cap text)
  where
    go : (t : Bool) → Some line ≡ pick t None (Some text) → Ran room line before after → after ≡ pick t before (after_line room text before)
    go true e ran = absurd (none-some line (sym e))
    go false e ran = subst (λ (l : List ℕ). Ran room l before after) (same_Some line text e) ran

-- an order done with the bytes that stand in the buffer
pub ran-order : (room : ℕ) (line buffer after : List ℕ) (o : Order) (d : Desk) → o ≡ order_for (asked_by room line) → after ≡ front (asked_by room line).bytes buffer
    → (done_by o.keyword o.numbers (take o.length after) d).desk ≡ after_line room line d
unfolding order_for front
ran-order room line buffer after o d e q = rw (e, q, take-append_seam) refl
