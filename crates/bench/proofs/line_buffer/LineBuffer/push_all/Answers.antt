use mathlib.Core.Path.{sym, ap, subst, ◌∙◌}
use Prim.Native.Nat.{ℕ, ◌≤◌}
use native.Mathlib.Omega.{arith}
use lib.ListN.{length}
use Rattle.std.specs.declared.option.Option.{Option}
use Rattle.bench.specs.Buffer.{Buffered, text_in, within}
use Rattle.bench.proofs.Feeding.{lost-part, part-over, part-fits}
use Rattle.bench.proofs.line_buffer.LineBuffer.push_all.Goals as goal

pub returns-in-None-clause-line : goal.returns-in-None-clause-line
returns-in-None-clause-line c =
    let a = c.args in
    lost-part a.self.now.cap a.self.now.line a.part.now (sym (ap (λ (v : Buffered). v.line) c.self.view_is) ∙ ap (λ (h : Option ℕ). text_in h c.self.inside.bytes.now) c.in-None.is)

pub returns-then-self-n-clause-line : goal.returns-then-self-n-clause-line
returns-then-self-n-clause-line c =
    let a = c.args in
    let bytes = c.self.inside.bytes.now in
    let n = c.in-Some.n in
    let fit : n ≤ length bytes = subst (λ (h : Option ℕ). within (length bytes) h) c.in-Some.is c.self.invariant in
    part-over a.self.now.cap n bytes a.part.now a.self.now.line fit (sym (ap (λ (v : Buffered). v.cap) c.self.view_is))
    (sym (ap (λ (v : Buffered). v.line) c.self.view_is) ∙ ap (λ (h : Option ℕ). text_in h bytes) c.in-Some.is) c.if-self-n.true

pub returns-clause-line : goal.returns-clause-line
returns-clause-line c =
    let a = c.args in
    let bytes = c.self.inside.bytes.now in
    let n = c.in-Some.n in
    let fit : n ≤ length bytes = subst (λ (h : Option ℕ). within (length bytes) h) c.in-Some.is c.self.invariant in
    rw c.copy_from_slice.ensures.after (part-fits a.self.now.cap n bytes a.part.now a.self.now.line fit (sym (ap (λ (v : Buffered). v.cap) c.self.view_is))
    (sym (ap (λ (v : Buffered). v.line) c.self.view_is) ∙ ap (λ (h : Option ℕ). text_in h bytes) c.in-Some.is) _ (omega arith))
