use mathlib.Core.Path.{ap, ◌∙◌}
use Rattle.rules.specs.declared.FileMap.{FileMap}
use Rattle.rules.specs.declared.Counts.{Counts}
use Rattle.rules.specs.Counts.{counts_of}
use Rattle.rules.specs.FileMap.{file_count}
use Rattle.gc_words.proofs.count_in.Goals as goal

pub counts-requires : goal.counts-requires
counts-requires c =
    rw c.files_in-files.ensures c.requires

pub returns : goal.returns
unfolding counts_of
returns c =
    ap (λ (n : Counts). n.files) c.counts.ensures ∙ ap (λ (m : FileMap). file_count m.records) c.files_in-files.ensures
