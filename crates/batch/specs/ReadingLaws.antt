-- The operations of a batch by position: one behind the other, and those of `batch_in` where that is not refused with 2.
use Rattle.std.specs.Prelude.{◌≡◌, refl, false, List, [], ◌∷◌, ℕ, zero, suc, ◌+◌, ◌-◌, ◌^◌, ◌<◌, ◌≤◌, length, take, drop, None, Some}
use Rattle.std.proofs.Common.{sym, ap, ◌∙◌, ⊎_elim, arith, length-take, length-drop}
use Rattle.std.proofs.lemmas.Bool.{lt-leb}
use Rattle.numbers.specs.GroupLaws.{either_way}
use Rattle.rules.specs.Ops.{Op, settled}
use Rattle.rules.specs.OpsLaws.{IdsFit}
use Rattle.rules.proofs.SettledLaws.{settled-all}
use Rattle.rules.specs.Batch.{Parsed, parsed, malformed, operation_at, Batch, operations, not_as_above, before, batch_from, batch_in, is_malformed, ops_of}
use Rattle.rules.proofs.BatchLaws.{batch-end, batch-bad, batch-next}
use Rattle.batch.specs.declared.Operation.{Operation}
use Rattle.batch.specs.Answers.{Parse}
use Rattle.batch.specs.Behind.{operation-behind}
use Rattle.batch.specs.Reading.{op_in, parsed_in, Inside, followed, walked, ops_from, ops_in}

-- enough is enough: a greater bound on the count finds the same operations
walked_more : (j k : ℕ) (s : List ℕ) (at : ℕ) → length s - at < j → length s - at < k → walked j s at ≡ walked k s at
unfolding walked
walked_more zero k s at h l = absurd (omega arith)
walked_more (suc j) zero s at h l = absurd (omega arith)
walked_more (suc j) (suc k) s at h l = go (operation_at s at) refl (walked_more j k s)
  where
    go : (p : Parsed) → operation_at s at ≡ p → ((n : ℕ) → length s - n < j → length s - n < k → walked j s n ≡ walked k s n)
        → followed p (walked j s) ≡ followed p (walked k s)
    go malformed q again = refl
    go (parsed o next) q again =
        let behind = operation-behind s at o next q in
        ap (λ (os : List Op). o ∷ os) (again next (omega arith) (omega arith))

pub ops-end : (s : List ℕ) (at : ℕ) → operation_at s at ≡ malformed → ops_from s at ≡ []
unfolding ops_from walked
ops-end s at e = rw e

pub ops-next : (s : List ℕ) (at : ℕ) (o : Op) (next : ℕ) → operation_at s at ≡ parsed o next → ops_from s at ≡ o ∷ ops_from s next
unfolding ops_from walked
ops-next s at o next e =
    let behind = operation-behind s at o next e in
    rw e (ap (λ (os : List Op). o ∷ os) (walked_more (length s) (suc (length s)) s next (omega arith) (omega arith)))

none-behind : (s : List ℕ) (at : ℕ) → length s ≤ at → operation_at s at ≡ malformed
none-behind s at h = go (operation_at s at) refl
  where
    go : (p : Parsed) → operation_at s at ≡ p → p ≡ malformed
    go malformed q = refl
    go (parsed o next) q = absurd (let behind = operation-behind s at o next q in omega arith)

-- ---- `batch_from`, by facts in the place of tests
batch-short : (s : List ℕ) (at : ℕ) → at < length s → batch_from 0 s at ≡ not_as_above
unfolding batch_from
batch-short s at h = rw (lt-leb (length s) at h)

-- "2 batch bytes not as above": else its operations are these
walked-batch : (k : ℕ) (s : List ℕ) (at : ℕ) → is_malformed (batch_from k s at) ≡ false → ops_of (batch_from k s at) ≡ walked (suc k) s at
unfolding walked
walked-batch zero s at m = ⊎_elim
    (λ l. absurd (let none : batch_from 0 s at ≡ not_as_above = batch-short s at l in let z : ◌≡◌ {A = ℕ} 0 1 = cc in omega arith))
    (λ h. rw (batch-end 0 s at h, none-behind s at h))
    (either_way at (length s))
walked-batch (suc k) s at m = ⊎_elim
    (λ l. go (operation_at s at) refl l (walked-batch k s))
    (λ h. rw (batch-end (suc k) s at h, none-behind s at h))
    (either_way at (length s))
  where
    behind : (o : Op) (b : Batch) → is_malformed (before o b) ≡ false → is_malformed b ≡ false
    behind o not_as_above m = m
    behind o (operations os) m = refl

    onto : (o : Op) (b : Batch) → is_malformed b ≡ false → ops_of (before o b) ≡ o ∷ ops_of b
    onto o not_as_above m = absurd (let z : ◌≡◌ {A = ℕ} 0 1 = cc in omega arith)
    onto o (operations os) m = refl

    go : (p : Parsed) → operation_at s at ≡ p → at < length s
        → ((n : ℕ) → is_malformed (batch_from k s n) ≡ false → ops_of (batch_from k s n) ≡ walked (suc k) s n)
        → ops_of (batch_from (suc k) s at) ≡ followed p (walked (suc k) s)
    go malformed q l again =
        absurd (let none = batch-bad (suc k) s at l q in let z : ◌≡◌ {A = ℕ} 0 1 = cc in omega arith)
    go (parsed o next) q l again =
        let e = batch-next k s at o next l q in
        let rest = behind o (batch_from k s next) (sym (ap is_malformed e) ∙ m) in
        ap ops_of e ∙ onto o (batch_from k s next) rest ∙ ap (λ (os : List Op). o ∷ os) (again next rest)

pub ops-of : (s : List ℕ) → is_malformed (batch_in s) ≡ false → ops_of (batch_in s) ≡ ops_in s
unfolding batch_in ops_from
ops-of s m = walked-batch (length s) s 0 m

walked-length : (k : ℕ) (s : List ℕ) (at : ℕ) → length (walked k s at) ≤ length s - at
unfolding walked
walked-length zero s at = omega arith
walked-length (suc k) s at = go (operation_at s at) refl (walked-length k s)
  where
    go : (p : Parsed) → operation_at s at ≡ p → ((n : ℕ) → length (walked k s n) ≤ length s - n) → length (followed p (walked k s)) ≤ length s - at
    go malformed q again = omega arith
    go (parsed o next) q again =
        let behind = operation-behind s at o next q in
        let rest = again next in
        omega arith

-- each operation takes a byte at least
pub ops-length : (s : List ℕ) → length (ops_in s) ≤ length s
unfolding ops_from
ops-length s = omega (arith, walked-length (suc (length s)) s 0)

walked-fit : (k : ℕ) (s : List ℕ) (at : ℕ) → IdsFit (walked k s at)
unfolding walked
walked-fit zero s at = tt
walked-fit (suc k) s at = go (operation_at s at) refl (walked-fit k s)
  where
    go : (p : Parsed) → operation_at s at ≡ p → ((n : ℕ) → IdsFit (walked k s n)) → IdsFit (followed p (walked k s))
    go malformed q again = tt
    go (parsed o next) q again = ((operation-behind s at o next q).id-fits, again next)

-- ids have at most 64 bits
pub settled-fit : (s : List ℕ) → IdsFit (settled (ops_in s))
unfolding ops_from
settled-fit s = settled-all (λ (o : Op). o.id < 2 ^ 64) (ops_in s) (walked-fit (suc (length s)) s 0)

-- ---- what a call of `operation_at` tells
pub held : (s : List ℕ) (p : Parsed) (r : Parse) (o : Operation) (next : ℕ) → (parsed_in s r ≡ p) × Inside s r → r ≡ Some (o, next)
    → (p ≡ parsed (op_in s o) next) × (o.start + o.len ≤ length s)
held s p r o next h e = (sym h.0 ∙ ap (parsed_in s) e, rw e at h.1)

pub held_none : (s : List ℕ) (p : Parsed) (r : Parse) → parsed_in s r ≡ p → r ≡ None → p ≡ malformed
held_none s p r h e = sym h ∙ ap (parsed_in s) e

-- a piece within the batch has its length
pub piece-length : (s : List ℕ) (start len : ℕ) → start + len ≤ length s → length (take len (drop start s)) ≡ len
piece-length s start len h = simp (length-take, length-drop) (omega arith)
