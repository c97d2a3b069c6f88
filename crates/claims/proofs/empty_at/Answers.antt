use mathlib.Core.Path.{◌≡◌, sym, ap, ◌∙◌}
use native.Mathlib.Omega.{arith}
use borrow.Author.Rules.{rules}
use lib.ListN.{length, get_or-eq_default}
use Rattle.rules.specs.FileMap.{empty_record, is_empty}
use Rattle.rules.proofs.FileMapLaws.{is-empty}
use Rattle.file_map.proofs.RecordTurns.{mapped-length}
use Rattle.claims.proofs.empty_at.Goals as goal

pub returns-then-slot : goal.returns-then-slot
returns-then-slot c =
    let a = c.args in
    let all : length a.files.records ≡ 256 = search (mapped-length, rules) in
    sym (ap is_empty (get_or-eq_default a.files.records empty_record {n = a.slot} (omega arith)) ∙ is-empty)
