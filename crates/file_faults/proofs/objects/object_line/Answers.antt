use mathlib.Core.Path.{ap, ap₂}
use Rattle.faults.specs.declared.Fault.{Fault}
use Rattle.faults.specs.Faults.{line_if}
use Rattle.file_faults.proofs.Telling.{tells_as, tells-then}
use Rattle.file_faults.proofs.objects.object_line.Goals as goal

pub bad_checksum-bad-requires : goal.bad_checksum-bad-requires
bad_checksum-bad-requires c = record {
  h_value = c.requires.walked.header;
  size_bound = c.requires.size_bound;
}

pub returns : goal.returns
returns c =
    let a = c.args in
    tells-then
    (tells_as (ap₂ line_if c.bad_checksum-bad.ensures c.at_object-sum.ensures) c.note_if-told.ensures.tells)
    (tells_as (ap (λ (x : Fault). line_if a.missing x) c.at_object-id.ensures) c.note_if.ensures.tells)
