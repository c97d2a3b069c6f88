use mathlib.Core.Path.{sym, ◌∙◌}
use native.Mathlib.Omega.{arith}
use lib.ListN.{length}
use Rattle.gc_chains.specs.Linking.{linking-passed, linking-none, linking-joined}
use Rattle.gc_chains.proofs.link_entry.Goals as goal

pub returns-then-place-eq0 : goal.returns-then-place-eq0
returns-then-place-eq0 c =
    λ ids places numbers order used w low is l. linking-passed ids places numbers order used w _ _ _ l low (sym is ∙ c.if-place-eq0.true)

pub returns-in_default : goal.returns-in_default
returns-in_default c =
    let moved = c.if-place-eq0.false in
    λ ids places numbers order used w low is l. linking-none ids places numbers order used w _ _ _ l low (omega (arith, is, moved)) (length c.args.words.now) c.in_default.ensures (omega arith)

pub returns : goal.returns
returns c =
    let moved = c.if-place-eq0.false in
    λ ids places numbers order used w low is l. linking-joined ids places numbers order used w _ _ _ l low (omega (arith, is, moved)) c.in-Some.j c.in-Some.ensures.1 c.in-Some.ensures.0
