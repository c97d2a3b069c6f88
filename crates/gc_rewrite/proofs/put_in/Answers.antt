use borrow.Author.Rules.{rules}
use Rattle.limits.specs.Settled.{passed-formed}
use Rattle.gc_rewrite.proofs.put_in.Goals as goal

pub link-requires : goal.link-requires
link-requires c =
    let asked = c.requires.chainable in
    record {
      formed = passed-formed _ _ _ _ asked.limits;
      linkable = asked.linkable;
    }

pub put_files-after-requires : goal.put_files-after-requires
put_files-after-requires c =
    rw c.state_in-was.ensures (record {
      puttable = c.requires.chainable.puttable _ _ c.link.ensures;
      generation_bound = c.requires.generation_bound;
      listed = c.requires.listed;
    })

pub shape_of-pieces : goal.shape_of-pieces
shape_of-pieces c =
    search (c.link.auto.links, rules)

pub returns : goal.returns
returns c =
    let a = c.args in
    rw (c.put_state.ensures, ← c.state_in-was.ensures, ← c.link.ensures.files a.heap.now) c.put_files-after.ensures
