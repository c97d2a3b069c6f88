use Rattle.std.proofs.Common.{◌≡◌, take, ℕ, List, [], ◌∷◌, ◌++◌, ◌∙◌, sym, ap, append-nil, append_assoc, refl, lit<, arith}
use Rattle.numbers.specs.LittleEndian.{le_value}
use Rattle.numbers.proofs.LittleEndianTurns.{get-turn, get-next}
use Rattle.numbers.proofs.little_endian.get.Goals as goal

pub loop-b-init : goal.loop-b-init
unfolding le_value
loop-b-init c =
    let all : c.into_iter-b-iterator.result.iter.rest.now ≡ take c.args.n c.args.s.now = cc (ap (λ i. i.iter.rest.now) c.into_iter-b-iterator.ensures.into_iter_gives) in
    ([], sym (append-nil _ ∙ all), refl, lit< tt)

pub loop-b-preserved : goal.loop-b-preserved
loop-b-preserved c =
    let seen = c.loop-b.invariant.0 in
    let b = c.in-Some.b.now in
    let rest = c.next.new.self.iter.rest.now in
    let parts : take c.args.n c.args.s.now ≡ rest ++ (b ∷ seen) = c.loop-b.invariant.1 ∙ ap (λ (xs : List ℕ). xs ++ seen) c.in-Some.ensures.steps ∙ append_assoc rest (b ∷ []) seen in
    let next = get-next c.args.s.now rest seen c.args.n b parts (λ i. (c.type_inv.s i).fits) in
    let turn = get-turn b seen c.loop-b.v (omega (arith, next.1, c.requires.n_bound)) c.loop-b.invariant.2 c.loop-b.invariant.3 next.0 in
    (b ∷ seen, parts, turn.value, turn.below)
