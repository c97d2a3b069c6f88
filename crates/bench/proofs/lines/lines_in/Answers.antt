use mathlib.Core.Path.{◌≡◌, refl, subst, ap, ◌∙◌}
use Prim.Native.Nat.{ℕ, ◌+◌, ◌-◌}
use mathlib.Core.List.{List}
use native.Mathlib.Numerals.{add-one}
use native.Mathlib.Omega.{arith}
use lib.ListN.{length, take, drop}
use lib.Seq.{take-suc, take_all}
use Rattle.desk.specs.Desk.{desk}
use Rattle.bench.specs.Buffer.{with_bytes, held_of}
use Rattle.bench.specs.Input.{line_done, FedTo}
use Rattle.bench.proofs.Feeding.{fed-nothing, fed-on, end-at, fed-end}
use Rattle.bench.proofs.lines.lines_in.Goals as goal
use Rattle.bench.proofs.lines.lines_in.Goals.{then-end-input, else-end-input}

pub loop-from-init : goal.loop-from-init
loop-from-init g c = (refl, λ text e. fed-nothing c.args.line.now.cap (length c.args.decoded.now) text _ _ e)

pub loop-from-preserved : goal.loop-from-preserved
loop-from-preserved g c =
    let a = c.args in
    let l = c.loop-from in
    let cap = a.line.now.cap in
    let room = length a.decoded.now in
    let input = a.input.now in
    let end = c.find-end.result in
    let before = desk a.bench a.heap.now a.table.now in
    let mid = desk l.b l.heap l.table in
    let line = c.push_all.new.self.line in
    let same : c.push_all.new.self.cap ≡ cap = c.push_all.ensures.cap ∙ l.invariant.0 in
    let more : line ≡ with_bytes cap l.line.line (take (end - l.from) (drop l.from input)) =
    c.push_all.ensures.line ∙ ap (λ (n : ℕ). with_bytes n l.line.line (take (end - l.from) (drop l.from input))) l.invariant.0 in
    let on : (text : List ℕ) → a.line.now.line ≡ held_of cap text → FedTo cap room (take end input) text before line mid =
    λ text e. fed-on input l.from end c.find-end.ensures.finds cap room text before mid l.line.line line more (l.invariant.1 text e) in
    elim c.if-end-input.branch [
      | then-end-input w ↦ (
        ap (λ v. v.cap) w.line-is ∙ w.clear.ensures.cap ∙ same,
        λ text e. rw (w.line-is, w.clear.ensures.line, w.b-is, w.heap-is, w.table-is, add-one end, take-suc input end 0 (omega arith))
            (fed-end cap room (take end input) text before line mid _ (on text e) _
            (end-at input l.from end c.find-end.ensures.finds (omega arith))
            (λ t q. subst (λ (n : ℕ). desk w.answered-b.result w.answered-b.new.heap w.answered-b.new.table ≡ line_done cap n t mid) l.auto.decoded
            (subst (λ (n : ℕ). line ≡ held_of n t → desk w.answered-b.result w.answered-b.new.heap w.answered-b.new.table ≡ line_done n (length l.decoded) t mid) same (w.answered-b.ensures t) q))),
      )
      | else-end-input w ↦ (
        ap (λ v. v.cap) w.line-is ∙ same,
        λ text e. rw (w.line-is, w.b-is, w.heap-is, w.table-is, take_all (end + 1) input (omega arith), ← take_all end input (omega arith)) (on text e),
      )
    ]
