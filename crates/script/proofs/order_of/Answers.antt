use mathlib.Core.Path.{refl}
use lib.ListN.{length}
use Rattle.script.proofs.Ends.{given-same, asked-whole, given-within}
use Rattle.script.proofs.order_of.Goals as goal

pub returns : goal.returns
returns c =
    let a = c.args in
    let room = length a.bytes.now in
    let given = given-same _ _ a.bytes.now _ _ (asked-whole room a.line.now c.find-end.result c.find-end.ensures.finds) (c.order_in.ensures.answers, c.order_in.ensures.writes) in
    record {
      answers = given.0;
      writes = given.1;
      fits = given-within room a.line.now a.bytes.now _ _ refl given;
    }
