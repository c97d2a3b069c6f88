use mathlib.Core.Path.{◌≡◌, ap, ◌∙◌}
use Prim.Native.Nat.{ℕ, ◌+◌}
use mathlib.Core.Bool.{false}
use lib.ListN.{drop}
use Rattle.script.specs.Words.{run_of, word_from, next_word}
use Rattle.script.proofs.words.next_word.Goals as goal

pub returns : goal.returns
unfolding next_word word_from
returns c =
    let one = c.run_end-start in
    let two = c.run_end-end in
    let s = c.args.text.now in
    let last : two.result ≡ one.result + run_of false (drop one.result s) = two.ensures.answers in
    record {
      within = (one.ensures.within.0, two.ensures.within.0, two.ensures.within.1);
      answers = ap (λ (n : ℕ). record { start = one.result; end = n }) last ∙ ap (word_from s) one.ensures.answers;
    }
