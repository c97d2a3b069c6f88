use Prim.Native.Nat.{ℕ}
use mathlib.Core.Path.{sym, ap, ◌∙◌}
use mathlib.Core.List.{List}
use Rattle.file_lists.specs.Lists.{lsn_at}
use Rattle.file_lists.specs.ListLaws.{file-for-lsns}
use Rattle.file_map.proofs.file_for.Goals as goal

pub returns : goal.returns
returns c =
    let rs = c.args.m.records in
    let location = c.args.location in
    c.lsn_at.ensures ∙ ap (λ (ns : List ℕ). lsn_at ns location) c.lsns-l.ensures ∙ sym (file-for-lsns rs location)
