use Rattle.script.proofs.Cuts.{none-test}
use Rattle.script.proofs.words.no_more.Goals as goal

pub returns : goal.returns
returns c =
    let a = c.args in
    none-test a.text.now a.from c.next_word-word.result c.next_word-word.ensures.answers
