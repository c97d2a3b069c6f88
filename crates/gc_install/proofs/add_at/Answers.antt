use mathlib.Core.Path.{sym}
use native.Mathlib.Nat.{add-zero}
use Prim.Native.Nat.{◌≤◌}
use native.Mathlib.Omega.{arith}
use lib.ListN.{length}
use borrow.Author.Rules.{rules}
use Rattle.limits.specs.Settled.{passed-formed}
use Rattle.install.specs.Standing.{sizes-small, record-fits, installable, added}
use Rattle.gc_install.proofs.add_at.Goals as goal

pub new_label-new-requires : goal.new_label-new-requires
new_label-new-requires c =
    let small = sizes-small c.requires.addable in
    omega (arith, small.0, small.1)

pub install-requires : goal.install-requires
install-requires c =
    let f = c.requires.addable in
    let few : length c.lsns-lsns.result ≤ 256 = search rules in
    installable f (sym (add-zero _)) c.new_label-new.ensures c.put_piece.ensures c.lsns-lsns.ensures c.lives-lives.ensures (passed-formed _ _ _ _ f.limits) few

pub with_file-requires : goal.with_file-requires
with_file-requires c =
    let fits = record-fits c.requires.addable c.new_label-new.ensures in
    (search rules, fits.0, fits.1)

pub returns : goal.returns
returns c =
    let f = c.requires.addable in
    added f (sym (add-zero _)) c.new_label-new.ensures c.put_piece.ensures c.lsns-lsns.ensures c.lives-lives.ensures (c.install.ensures.lives, c.install.ensures.table) c.with_file.ensures
