use mathlib.Core.Path.{sym, ◌∙◌}
use Rattle.script.specs.declared.Keyword.TheVariants.{Bad}
use Rattle.script.specs.AskedLaws.{says-fit}
use Rattle.script.proofs.Cuts.{word_none, word_some}
use Rattle.script.proofs.Ends.{given-bare, given-bytes, bytes-missing, bytes-wrong, bytes-not-last, bytes-last}
use Rattle.script.proofs.with_bytes.Goals as goal

pub returns-then-start-end : goal.returns-then-start-end
returns-then-start-end c =
    let a = c.args in
    let none-there = word_none a.text.now a.from c.next_word-word.result c.next_word-word.ensures.answers c.if-start-end.true in
    let whole = given-bare _ Bad _ _ (bytes-missing _ _ _ _ none-there) c.no_order.ensures in
    record {
      answers = whole.0;
      writes = whole.1;
    }

pub returns-then-not-says_bytes : goal.returns-then-not-says_bytes
returns-then-not-says_bytes c =
    let a = c.args in
    let there = word_some a.text.now a.from c.next_word-word.result c.next_word-word.ensures.answers c.if-start-end.false in
    let whole = given-bare _ Bad _ _ (bytes-wrong _ _ _ _ _ _ there (sym c.says_bytes.ensures ∙ c.if-not-says_bytes.true)) c.no_order-then-not-says_bytes.ensures in
    record {
      answers = whole.0;
      writes = whole.1;
    }

pub returns-then-not-no_more : goal.returns-then-not-no_more
returns-then-not-no_more c =
    let a = c.args in
    let there = word_some a.text.now a.from c.next_word-word.result c.next_word-word.ensures.answers c.if-start-end.false in
    let whole = given-bare _ Bad _ _ (bytes-not-last _ _ _ _ _ _ there (sym c.says_bytes.ensures ∙ c.if-not-says_bytes.false) (sym c.no_more.ensures ∙ c.if-not-no_more.true)) c.no_order-then-not-no_more.ensures in
    record {
      answers = whole.0;
      writes = whole.1;
    }

pub put_bytes-requires : goal.put_bytes-requires
put_bytes-requires c =
    says-fit _ _ (sym c.says_bytes.ensures ∙ c.if-not-says_bytes.false)

pub returns : goal.returns
returns c =
    let a = c.args in
    let there = word_some a.text.now a.from c.next_word-word.result c.next_word-word.ensures.answers c.if-start-end.false in
    let whole = given-bytes _ a.keyword a.numbers a.text.now c.next_word-word.result.start c.next_word-word.result.end a.bytes.now _ c.next_word-word.ensures.within.1 c.next_word-word.ensures.within.2 (bytes-last _ _ _ _ _ _ there (sym c.says_bytes.ensures ∙ c.if-not-says_bytes.false) (sym c.no_more.ensures ∙ c.if-not-no_more.false)) c.put_bytes.ensures in
    record {
      answers = whole.0;
      writes = whole.1;
    }
