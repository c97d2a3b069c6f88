use Rattle.script.proofs.Naming.{Seeking}
use Rattle.script.proofs.names.keyword_of.Given as goal

abbrev pub invariant-loop-name : goal.invariant-loop-name
invariant-loop-name l = Seeking l.name-items l.name-index l.word
