use mathlib.Core.Path.{sym, ap, ◌∙◌, ◌≡◌}
use mathlib.Core.List.{◌++◌}
use lib.ListN.{take, get_or-append, length, get_or}
use lib.Seq.{get_or-take, get_or-append-add, length-take-le}
use Prim.Native.Nat.{ℕ, ◌+◌, ◌≤◌, ◌<◌, ◌-◌}
use native.Mathlib.Omega.{arith}
use Rattle.gc_split.proofs.piece_at.Goals as goal

pub returns-then-file-left : goal.returns-then-file-left
returns-then-file-left c =
    let rests = c.args.rests.now in
    let left = c.args.left in
    let here : c.args.file < left = omega arith in
    let long : length (take left rests) ≡ left = length-take-le left rests (omega arith) in
    sym (get_or-append (take left rests) c.args.cuts.now 0 c.args.file (omega arith) ∙ get_or-take left rests c.args.file 0 here)

pub returns : goal.returns
returns c =
    let rests = c.args.rests.now in
    let left = c.args.left in
    let behind : left ≤ c.args.file = omega arith in
    let long : length (take left rests) ≡ left = length-take-le left rests (omega arith) in
    let there : c.args.file ≡ length (take left rests) + (c.args.file - left) = omega arith in
    sym (ap (λ (k : ℕ). get_or (take left rests ++ c.args.cuts.now) k 0) there ∙ get_or-append-add (take left rests) c.args.cuts.now (c.args.file - left) 0)
