use mathlib.Core.Bool.{true, false}
use Rattle.numbers.specs.Choice.{pick}
use Rattle.script.specs.declared.Keyword.TheVariants.{Blank, Bad}
use Rattle.script.proofs.Cuts.{word_none, word_some}
use Rattle.script.proofs.Ends.{given-bare, given-same, plain-given, asked-none, asked-wrong, asked-on}
use Rattle.script.proofs.order_in.Goals as goal

pub returns-then-start-end : goal.returns-then-start-end
returns-then-start-end c =
    let a = c.args in
    let none-there = word_none a.text.now 0 c.next_word-first.result c.next_word-first.ensures.answers c.if-start-end.true in
    let whole = given-bare _ (pick a.comment Blank Bad) _ _ (asked-none _ a.comment _ none-there) c.wordless.ensures in
    record {
      answers = whole.0;
      writes = whole.1;
    }

pub returns-in_default : goal.returns-in_default
returns-in_default c =
    let a = c.args in
    let there = word_some a.text.now 0 c.next_word-first.result c.next_word-first.ensures.answers c.if-start-end.false in
    let whole = given-bare _ Bad _ _ (asked-wrong _ a.comment _ _ _ c.keyword_of-keyword.result c.shape_of-shape.result there c.keyword_of-keyword.ensures c.shape_of-shape.ensures.answers c.in_default.ensures) c.no_order.ensures in
    record {
      answers = whole.0;
      writes = whole.1;
    }

pub returns-then-shape : goal.returns-then-shape
returns-then-shape c =
    let a = c.args in
    let there = word_some a.text.now 0 c.next_word-first.result c.next_word-first.ensures.answers c.if-start-end.false in
    let whole = given-same _ _ _ _ _ (asked-on _ a.comment _ _ _ c.keyword_of-keyword.result c.shape_of-shape.result there c.keyword_of-keyword.ensures c.shape_of-shape.ensures.answers true _ _ _ c.in-Some.ensures c.if-shape.true) (c.with_bytes.ensures.answers, c.with_bytes.ensures.writes) in
    record {
      answers = whole.0;
      writes = whole.1;
    }

pub returns : goal.returns
returns c =
    let a = c.args in
    let there = word_some a.text.now 0 c.next_word-first.result c.next_word-first.ensures.answers c.if-start-end.false in
    let whole = given-same _ _ _ _ _ (asked-on _ a.comment _ _ _ c.keyword_of-keyword.result c.shape_of-shape.result there c.keyword_of-keyword.ensures c.shape_of-shape.ensures.answers false _ _ _ c.in-Some.ensures c.if-shape.false) (plain-given _ _ _ _ _ _ c.ended.ensures) in
    record {
      answers = whole.0;
      writes = whole.1;
    }
