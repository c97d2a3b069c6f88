use mathlib.Core.Path.{ap, ◌∙◌}
use Rattle.rules.specs.Types.{ReadAnswer}
use Rattle.rules.specs.Claims.{no_claims}
use Rattle.rules.specs.World.{world}
use Rattle.rules.specs.Read.{part_of}
use Rattle.readpath.specs.Reads.{place_of}
use Rattle.readpath.specs.ReadLaws.{read_named}
use Rattle.readpath.proofs.read.Goals as goal

pub part-requires : goal.part-requires
part-requires c =
    let a = c.args in
    let w = world a.settings a.state no_claims a.heap.now a.table.now in
    rw (c.read_answer-answer.ensures no_claims) (read_named w a.id)

pub returns : goal.returns
returns c =
    let a = c.args in record {
      bytes = λ claims. c.part.ensures.bytes ∙ ap (λ (r : ReadAnswer). part_of r a.heap.now) (c.read_answer-answer.ensures claims);
      place = λ claims. c.part.ensures.place ∙ ap (λ (r : ReadAnswer). place_of r a.heap.ref_ptr) (c.read_answer-answer.ensures claims);
    }
