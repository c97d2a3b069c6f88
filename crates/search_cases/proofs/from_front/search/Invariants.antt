use Rattle.location_table.proofs.Searching.{Below}
use Rattle.search_cases.proofs.from_front.search.Given as goal

abbrev pub invariant-loop-i : goal.invariant-loop-i
invariant-loop-i l = Below l.table l.id l.i
