use native.Mathlib.Omega.{arith}
use mathlib.Core.Path.{◌≡◌, sym, ap, ◌∙◌}
use Prim.Native.Nat.{◌-◌}
use lib.ListN.{get_or, set}
use lib.Seq.{set-get_or}
use Rattle.rules.specs.Types.{Slot}
use Rattle.file_lists.specs.Lists.{less_at}
use Rattle.file_lists.proofs.less_at.Goals as goal

pub offset_bounds-lives-i : goal.offset_bounds-lives-i
offset_bounds-lives-i c =
    let h = c.requires c.in-Some.k c.in-Some.is in
    omega arith

pub bounds-lives-i : goal.bounds-lives-i
bounds-lives-i c =
    let h = c.requires c.in-Some.k c.in-Some.is in
    omega arith

pub offset_bounds-lives-i-then-lives-i-ne0 : goal.offset_bounds-lives-i-then-lives-i-ne0
offset_bounds-lives-i-then-lives-i-ne0 c =
    let h = c.requires c.in-Some.k c.in-Some.is in
    omega arith

pub bounds-lives-i-then-lives-i-ne0 : goal.bounds-lives-i-then-lives-i-ne0
bounds-lives-i-then-lives-i-ne0 c =
    let h = c.requires c.in-Some.k c.in-Some.is in
    omega arith

pub bounds-lives-i-then-lives-i-ne0-2 : goal.bounds-lives-i-then-lives-i-ne0-2
bounds-lives-i-then-lives-i-ne0-2 c =
    let h = c.requires c.in-Some.k c.in-Some.is in
    omega arith

pub returns-then-lives-i-ne0 : goal.returns-then-lives-i-ne0
returns-then-lives-i-ne0 c = sym (ap (λ (s : Slot). less_at s c.args.lives.now) c.in-Some.is)

pub returns-else-lives-i-ne0 : goal.returns-else-lives-i-ne0
returns-else-lives-i-ne0 c =
    let ls = c.args.lives.now in
    let k = c.in-Some.k in
    let none : get_or ls k 0 - 1 ≡ get_or ls k 0 = omega arith in
    sym (ap (λ (s : Slot). less_at s ls) c.in-Some.is ∙ ap (set ls k) none ∙ set-get_or ls k 0)

pub returns-in_default : goal.returns-in_default
returns-in_default c = sym (ap (λ (s : Slot). less_at s c.args.lives.now) c.in_default.is)
