use mathlib.Core.Path.{refl}
use Prim.Native.Nat.{◌≤◌}
use native.Mathlib.Omega.{arith}
use lib.ListN.{length}
use borrow.Author.Rules.{rules}
use Rattle.limits.specs.Settled.{passed-formed}
use Rattle.install.specs.Standing.{sizes-small, installable, added}
use Rattle.writepath.specs.Standing.{filed-addable}
use Rattle.writepath.proofs.add_file.Goals as goal

pub new_label-new-requires-clause-count_bound : goal.new_label-new-requires-clause-count_bound
new_label-new-requires-clause-count_bound c =
    let f = filed-addable c.requires.filed in
    omega (arith, (sizes-small f).0, (sizes-small f).1)

pub install-requires : goal.install-requires
install-requires c =
    let f = filed-addable c.requires.filed in
    let few : length c.lsns-lsns.result ≤ 256 = search rules in
    installable f refl c.new_label-new.ensures c.put_file.ensures c.lsns-lsns.ensures c.lives-lives.ensures (passed-formed _ _ _ _ f.limits) few

pub returns : goal.returns
returns c =
    let f = filed-addable c.requires.filed in
    added f refl c.new_label-new.ensures c.put_file.ensures c.lsns-lsns.ensures c.lives-lives.ensures (c.install.ensures.lives, c.install.ensures.table) c.with_file.ensures
