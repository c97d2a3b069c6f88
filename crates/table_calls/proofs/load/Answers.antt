use mathlib.Core.Path.{refl, sym, ◌∙◌}
use Rattle.rules.specs.TableCalls.{load_call}
use Rattle.rules.specs.Refusal.{decide}
use Rattle.location_table.specs.LayoutLaws.{formed-of}
use Rattle.table_calls.proofs.load.Goals as goal

pub returns-then-not-formed : goal.returns-then-not-formed
unfolding load_call decide
returns-then-not-formed c = rw (sym c.formed.ensures ∙ c.if-not-formed.true) refl

pub load-requires : goal.load-requires
load-requires c = formed-of c.args.table.now (sym c.formed.ensures ∙ c.if-not-formed.false)

pub returns : goal.returns
unfolding load_call decide
returns c = rw (sym c.formed.ensures ∙ c.if-not-formed.false, sym c.load.ensures) refl
