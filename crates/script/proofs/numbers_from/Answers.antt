use Rattle.std.proofs.Common.{◌<◌, ◌≤◌, sym, ◌∙◌, length, length-take, take, drop, arith}
use Rattle.script.specs.Asked.{no_numbers}
use Rattle.script.specs.Words.{words_of}
use Rattle.script.proofs.Taken.{underway-start, underway-turn, underway-end, number-no, number_word}
use Rattle.script.proofs.numbers_from.Goals as goal

pub loop-value-init : goal.loop-value-init
loop-value-init c = (c.requires.from_in_bounds, underway-start c.args.n (words_of (drop c.args.from c.args.text.now)) (take c.args.n no_numbers))

pub returns-in_err-value : goal.returns-in_err-value
returns-in_err-value c =
    let a = c.args in
    let l = c.loop-value in
    let inside : l.value-index < a.n = omega (arith, length-take a.n no_numbers) in
    rw c.from_residual.ensures
    (sym (number-no a.text.now l.at c.next_word-word.result c.next_word-word.ensures.answers a.n l.value-index _ _ l.value-items inside (sym c.number.ensures ∙ c.in_err-value.was) l.invariant.1))

pub loop-value-preserved : goal.loop-value-preserved
loop-value-preserved c =
    let a = c.args in
    let s = a.text.now in
    let l = c.loop-value in
    let v = c.in_ok-value.field-0 in
    let said = sym c.number.ensures ∙ c.in_ok-value.was in
    let inside : l.value-index < a.n = omega (arith, length-take a.n no_numbers) in
    let room : l.value-index < length l.value-items = omega (arith, length-take a.n no_numbers) in
    let word = number_word s l.at c.next_word-word.result c.next_word-word.ensures.answers v said in
    (omega arith, underway-turn a.n l.value-index (words_of (drop a.from s)) (words_of (drop l.at s)) _ (take a.n no_numbers) l.value-items _ v inside room word said l.invariant.1)

pub returns : goal.returns
returns c =
    let a = c.args in
    let l = c.loop-value in
    let all : a.n ≤ l.value-index = omega (arith, length-take a.n no_numbers, c.requires.n_bound) in
    underway-end a.n l.value-index l.at (words_of (drop a.from a.text.now)) a.text.now l.value-items all l.invariant.0 l.invariant.1
