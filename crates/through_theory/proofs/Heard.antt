-- "The last operation on the id in the batch decides": the piece that is named is the body of the last put, as the plain engine hears the batch.
use Rattle.std.specs.Prelude.{◌≡◌, refl, ◌<◌, ◌∷◌}
use Rattle.std.proofs.Common.{sym, ap, ap₂, ◌∙◌, ⊎_elim, arith}
use Rattle.rules.specs.Base.{Bool, true, false, List, [], ℕ, zero, suc, length, take, leb, eqb, pick}
use Rattle.numbers.specs.Groups.{read_groups, number_in}
use Rattle.numbers.specs.GroupLaws.{either_way}
use Rattle.rules.specs.Ops.{Content, put, delete, Op}
use Rattle.rules.specs.SettledLaws.{silent, last, last_on}
use Rattle.rules.specs.SettledLaws as settled
use Rattle.rules.specs.Batch.{Parsed, malformed, parsed, put_operation, operation_at, Batch, not_as_above, operations, before, batch_from, batch_in, is_malformed, ops_of}
use Rattle.rules.proofs.BatchLaws.{batch-end, batch-bad, batch-next}
use Rattle.through.specs.declared.LastOperation.{LastOperation}
use Rattle.through.specs.declared.LastOperation.TheVariants.{Puts, Deletes, NoOperation}
use Rattle.through.specs.Through.{content_at, said_by, or_earlier, last_from, last_in}
use Rattle.through.specs.ThroughLaws.{Ends}
use Rattle.through.proofs.ThroughLaws.{ends, last_end, last-next}
use Rattle.through_theory.specs.Heard.{heard_in, worked}

-- of two words, the later
heard-over : (s : List ℕ) (l e : LastOperation) → heard_in s (or_earlier l e) ≡ settled.or_earlier (heard_in s l) (heard_in s e)
heard-over s (Puts start size) e = refl
heard-over s Deletes e = refl
heard-over s NoOperation e = refl

-- of one operation
heard-one : (s : List ℕ) (o : Op) (next x : ℕ) → Ends s next o.content → heard_in s (said_by o next x) ≡ settled.said_by o x
heard-one s o next x = go (eqb o.id x) o.content
  where
    go : (t : Bool) (c : Content) → Ends s next c → heard_in s (pick t (content_at c next) NoOperation) ≡ pick t (last c) silent
    go true (put body) e = ap (λ (b : List ℕ). last (put b)) e.1
    go true delete e = refl
    go false c e = refl

-- where nothing may be read
heard-none : (s : List ℕ) (x at : ℕ) → silent ≡ last_on (ops_of (batch_from 0 s at)) x
unfolding batch_from last_on
heard-none s x at = go (leb (length s) at)
  where
    go : (t : Bool) → silent ≡ last_on (ops_of (pick t (operations []) not_as_above)) x
    go true = refl
    go false = refl

heard-from : (k : ℕ) (s : List ℕ) (x at : ℕ) → is_malformed (batch_from k s at) ≡ false → heard_in s (last_from k s x at) ≡ last_on (ops_of (batch_from k s at)) x
unfolding last_from last_on
heard-from zero s x at m = heard-none s x at
heard-from (suc k) s x at m = ⊎_elim
    (λ l. go (operation_at s at) refl l (heard-from k s x))
    (λ h. ap (heard_in s) (last_end (suc k) s x at h) ∙ sym (ap (λ (b : Batch). last_on (ops_of b) x) (batch-end (suc k) s at h)))
    (either_way at (length s))
  where
    rest : (o : Op) (b : Batch) → is_malformed (before o b) ≡ false → is_malformed b ≡ false
    rest o not_as_above m = m
    rest o (operations os) m = refl

    onto : (o : Op) (b : Batch) → is_malformed b ≡ false → ops_of (before o b) ≡ o ∷ ops_of b
    onto o not_as_above m = absurd (let z : ◌≡◌ {A = ℕ} 0 1 = cc in omega arith)
    onto o (operations os) m = refl

    go : (p : Parsed) → operation_at s at ≡ p → at < length s
        → ((n : ℕ) → is_malformed (batch_from k s n) ≡ false → heard_in s (last_from k s x n) ≡ last_on (ops_of (batch_from k s n)) x)
        → heard_in s (last_from (suc k) s x at) ≡ last_on (ops_of (batch_from (suc k) s at)) x
    go malformed q l again = absurd (let none = batch-bad (suc k) s at l q in let z : ◌≡◌ {A = ℕ} 0 1 = cc in omega arith)
    go (parsed o next) q l again =
        let e = batch-next k s at o next l q in
        let m' = rest o (batch_from k s next) (sym (ap is_malformed e) ∙ m) in
        ap (heard_in s) (last-next k s x at o next q)
        ∙ heard-over s (last_from k s x next) (said_by o next x)
        ∙ ap₂ settled.or_earlier (again next m') (heard-one s o next x (ends s at o next q))
        ∙ sym (ap (λ (os : List Op). last_on os x) (ap ops_of e ∙ onto o (batch_from k s next) m'))

-- LAW: of a batch that 2 does not refuse
pub last-heard : (s : List ℕ) (x : ℕ) → is_malformed (batch_in s) ≡ false → heard_in s (last_in s x) ≡ last_on (ops_of (batch_in s)) x
unfolding batch_in
last-heard s x m = heard-from (length s) s x 0 m

pub last-examples : (last_in worked 5 ≡ Puts 12 0) × (last_in worked 6 ≡ Deletes) × (last_in worked 7 ≡ NoOperation) × (last_in (take 5 worked) 5 ≡ Puts 3 2)
unfolding last_from put_operation operation_at read_groups number_in
last-examples = (refl, refl, refl, refl)
