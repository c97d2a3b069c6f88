-- The contract of rewrite, by value and on the state's words, admits one result only.
use Rattle.std.specs.Prelude.{◌≡◌}
use Rattle.std.proofs.Common.{sym, ap, ap₂, ◌∙◌}
use Rattle.rules.specs.Base.{List, ℕ, length}
use Rattle.rules.specs.declared.State.{State}
use Rattle.rules.specs.Types.{RewriteAnswer}
use Rattle.rules.proofs.Answers as answers
use Rattle.rules.specs.TwoCalls.{notes_left}
use Rattle.rules.specs.World.{Given, After, world}
use Rattle.as_numbers.specs.StateLaws.{state-one}
use Rattle.gc_course.specs.declared.Request.{Request}
use Rattle.gc.specs.declared.Rewritten.{Rewritten}
use Rattle.gc.specs.Unique.{Lent, Asked, Leaves, Rewrites, RewritesIn}

-- answers, states and buffers by one definition are equal
pub leaves-one : (a : Asked) (call : After) (x y : Given) (s t : State) (l m : Lent) → Leaves a call x s l → Leaves a call y t m → (x ≡ y) × (s ≡ t) × (l ≡ m)
leaves-one a call x y s t l m p q =
    let same = p.0 ∙ sym q.0 in
    let given : x ≡ y = ap (λ (z : After). z.answer) same in
    let heap : l.heap ≡ m.heap = ap (λ (z : After). z.world.heap) same in
    let table : l.table ≡ m.table = ap (λ (z : After). z.world.table) same in
    let places : l.places ≡ m.places = p.1.0 ∙ ap (λ (z : Given). notes_left z a.lent.places) given ∙ sym q.1.0 in
    let pieces : l.pieces ≡ m.pieces = p.1.1 ∙ ap (λ (z : Given). notes_left z a.lent.pieces) given ∙ sym q.1.1 in
    (given, ap (λ (z : After). z.world.state) same, λ i. record { heap = heap i; table = table i; places = places i; pieces = pieces i })

-- any two results that the contract of rewrite admits are equal
pub rewrite-one : (a : Asked) (q : Request) (x y : Rewritten) (l m : Lent) → Rewrites a q x l → Rewrites a q y m → (x ≡ y) × (l ≡ m)
rewrite-one a q x y l m d e =
    let w = leaves-one a _ _ _ _ _ _ _ d e in
    (ap₂ (λ (z : RewriteAnswer) (t : State). record { answer = z; state = t }) (answers.rewrite-one x.answer y.answer w.0) w.1, w.2)

-- any two answers, words and buffers that the contract of rewrite_in admits are equal
pub rewrite-in-one : (a : Asked) (q : Request) (x y : RewriteAnswer) (ws vs : List ℕ) (l m : Lent) → length ws ≡ 1801 → length vs ≡ 1801
    → RewritesIn a q x ws l → RewritesIn a q y vs m → (x ≡ y) × (ws ≡ vs) × (l ≡ m)
rewrite-in-one a q x y ws vs l m p r d e =
    let w = leaves-one a _ _ _ _ _ _ _ d e in
    (answers.rewrite-one x y w.0, state-one ws vs p r w.1, w.2)
