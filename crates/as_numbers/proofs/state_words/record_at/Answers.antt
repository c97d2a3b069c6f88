use Prim.Native.Nat.{◌+◌}
use lib.ListN.{get_or}
use mathlib.Core.Path.{ap, ◌∙◌}
use Rattle.rules.specs.declared.Label.{Label}
use Rattle.rules.specs.FileMap.{recorded}
use Rattle.as_numbers.specs.StateWords.{record_at}
use Rattle.as_numbers.proofs.state_words.record_at.Goals as goal

pub returns : goal.returns
unfolding record_at
returns c =
    let a = c.args in
    c.recorded.ensures ∙ ap (λ (l : Label). recorded l (get_or a.words.now (a.at + 5) 0) (get_or a.words.now (a.at + 6) 0)) c.labelled-label.ensures
