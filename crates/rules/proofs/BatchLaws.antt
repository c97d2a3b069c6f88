-- The batch: its ids have 64 bits, and the count that bounds the definition never cuts a batch short.
use Rattle.std.specs.Prelude.{◌≡◌, refl, ◌⊎◌, ◌≤◌, ◌<◌, ◌+◌, ◌-◌, ◌^◌, None, Some}
use Rattle.std.proofs.Common.{sym, ap, ◌∙◌, inl, inr, arith, ltb-true, le-leb}
use Rattle.std.proofs.lemmas.Bool.{lt-leb}
use Rattle.rules.specs.Base.{Bool, true, false, List, [], ℕ, zero, suc, length, take, drop, get_or, leb, ltb, eqb, pick}
use Rattle.numbers.specs.GroupLaws.{either_way}
use Rattle.std.proofs.lemmas.Option.{same_Some}
use Rattle.numbers.specs.Groups.{Groups, said, bad, read_groups, bounded, number_in, saying}
use Rattle.numbers.specs.Answers.{Number}
use Rattle.rules.specs.Ops.{put, delete, Op}
use Rattle.rules.specs.OpsLaws.{IdsFit}
use Rattle.rules.specs.Batch.{Parsed, malformed, parsed, put_operation, operation_at, Batch, not_as_above, operations, before, batch_from, batch_in, ops_of}
use Rattle.rules.specs.BatchLaws.{Stepped}

-- a number that is said has 64 bits, and what follows it stands no earlier
pub number-said : (k : ℕ) (s : List ℕ) (at v next : ℕ) → number_in k s at ≡ Some (v, next) → (v < 2 ^ 64) × (at ≤ next)
unfolding number_in
number-said k s at v next e = go (read_groups k (drop at s)) e
  where
    within : (u n : ℕ) (t : Bool) → ltb u (2 ^ 64) ≡ t → pick {A = Number} t (Some (u, at + n)) None ≡ Some (v, next) → (v < 2 ^ 64) × (at ≤ next)
    within u n false p q = absurd (let z : ◌≡◌ {A = ℕ} 0 1 = cc in omega arith)
    within u n true p q =
        let same = same_Some _ _ q in
        let a : u ≡ v = ap (λ (p : ℕ × ℕ). p.0) same in
        let b : at + n ≡ next = ap (λ (p : ℕ × ℕ). p.1) same in
        let low = ltb-true u (2 ^ 64) p in
        (omega arith, omega arith)

    go : (g : Groups) → bounded at g ≡ Some (v, next) → (v < 2 ^ 64) × (at ≤ next)
    go bad q = absurd (let z : ◌≡◌ {A = ℕ} 0 1 = cc in omega arith)
    go (said u n) q = within u n (ltb u (2 ^ 64)) refl q

not-parsed : {A : Type 0} {o : Op} {next : ℕ} → malformed ≡ parsed o next → A
not-parsed e = absurd (let z : ◌≡◌ {A = ℕ} 0 1 = cc in omega arith)

id_of : Parsed → ℕ
id_of malformed = 0
id_of (parsed o next) = o.id

next_of : Parsed → ℕ
next_of malformed = 0
next_of (parsed o next) = next

put-stepped : (s : List ℕ) (id at : ℕ) (o : Op) (next : ℕ) → id < 2 ^ 64 → put_operation s id at ≡ parsed o next → (o.id < 2 ^ 64) × (at ≤ next)
unfolding put_operation id_of next_of
put-stepped s id at o next fits e = go (number_in 10 s at) refl e
  where
    go : (n : Number) → number_in 10 s at ≡ n
        → saying malformed n (λ size start. pick (leb size (length s - start)) (parsed (record { id = id; content = put (take size (drop start s)) }) (start + size)) malformed) ≡ parsed o next
        → (o.id < 2 ^ 64) × (at ≤ next)
    go None p q = not-parsed q
    go (Some (size, start)) p q = here (leb size (length s - start)) q
      where
        here : (t : Bool) → pick t (parsed (record { id = id; content = put (take size (drop start s)) }) (start + size)) malformed ≡ parsed o next → (o.id < 2 ^ 64) × (at ≤ next)
        here false q = not-parsed q
        here true q =
            let a : id ≡ o.id = ap id_of q in
            let b : start + size ≡ next = ap next_of q in
            let w = number-said 10 s at size start p in
            (omega arith, omega (arith, w.1))

-- every operation that is parsed is so
pub operation-stepped : (s : List ℕ) (at : ℕ) (o : Op) (next : ℕ) → operation_at s at ≡ parsed o next → Stepped at o next
unfolding operation_at id_of next_of
operation-stepped s at o next e = go (number_in 10 s at) refl e
  where
    go : (n : Number) → number_in 10 s at ≡ n
        → saying malformed n (λ id tag. pick (leb (length s) tag) malformed
        (pick (eqb (get_or s tag 0) 0) (parsed (record { id = id; content = delete }) (suc tag))
        (pick (eqb (get_or s tag 0) 1) (put_operation s id (suc tag)) malformed))) ≡ parsed o next
        → Stepped at o next
    go None p q = not-parsed q
    go (Some (id, tag)) p q = here (leb (length s) tag) (eqb (get_or s tag 0) 0) (eqb (get_or s tag 0) 1) q
      where
        here : (t u v : Bool) → pick t malformed (pick u (parsed (record { id = id; content = delete }) (suc tag)) (pick v (put_operation s id (suc tag)) malformed)) ≡ parsed o next → Stepped at o next
        here true u v q = not-parsed q
        here false true v q =
            let a : id ≡ o.id = ap id_of q in
            let b : suc tag ≡ next = ap next_of q in
            let w = number-said 10 s at id tag p in
            record { id = omega (arith, w.0); later = omega (arith, w.1) }
        here false false true q =
            let w = number-said 10 s at id tag p in
            let x = put-stepped s id (suc tag) o next w.0 q in
            record { id = x.0; later = omega (arith, w.1, x.1) }
        here false false false q = not-parsed q

-- ---- the clauses of batch_from, by facts in the place of tests
pub batch-end : (k : ℕ) (s : List ℕ) (at : ℕ) → length s ≤ at → batch_from k s at ≡ operations []
unfolding batch_from
batch-end zero s at h = rw (le-leb (length s) at h)
batch-end (suc k) s at h = rw (le-leb (length s) at h)

-- an operation not as above: so is the batch
pub batch-bad : (k : ℕ) (s : List ℕ) (at : ℕ) → at < length s → operation_at s at ≡ malformed → batch_from k s at ≡ not_as_above
unfolding batch_from
batch-bad zero s at h e = rw (lt-leb (length s) at h)
batch-bad (suc k) s at h e = rw (lt-leb (length s) at h, e)

-- an operation, then the rest from behind it
pub batch-next : (k : ℕ) (s : List ℕ) (at : ℕ) (o : Op) (next : ℕ) → at < length s → operation_at s at ≡ parsed o next → batch_from (suc k) s at ≡ before o (batch_from k s next)
unfolding batch_from
batch-next k s at o next h e = rw (lt-leb (length s) at h, e)

-- any count as great as the bytes that are left serves
pub batch-enough : (k j : ℕ) (s : List ℕ) (at : ℕ) → length s - at ≤ k → length s - at ≤ j → batch_from k s at ≡ batch_from j s at
batch-enough zero j s at a b = batch-end zero s at (omega arith) ∙ sym (batch-end j s at (omega arith))
batch-enough (suc k) zero s at a b = batch-end (suc k) s at (omega arith) ∙ sym (batch-end zero s at (omega arith))
batch-enough (suc k) (suc j) s at a b = go (either_way at (length s)) (operation_at s at) refl (batch-enough k j s)
  where
    go : (at < length s) ⊎ (length s ≤ at) → (p : Parsed) → operation_at s at ≡ p
        → ((next : ℕ) → length s - next ≤ k → length s - next ≤ j → batch_from k s next ≡ batch_from j s next) → batch_from (suc k) s at ≡ batch_from (suc j) s at
    go (inr h) p e ih = batch-end (suc k) s at h ∙ sym (batch-end (suc j) s at h)
    go (inl h) malformed e ih = batch-bad (suc k) s at h e ∙ sym (batch-bad (suc j) s at h e)
    go (inl h) (parsed o next) e ih =
        let w = (operation-stepped s at o next e).later in
        batch-next k s at o next h e ∙ ap (before o) (ih next (omega arith) (omega arith)) ∙ sym (batch-next j s at o next h e)

-- ---- ids of 64 bits
ids-before : (o : Op) (b : Batch) → o.id < 2 ^ 64 → IdsFit (ops_of b) → IdsFit (ops_of (before o b))
ids-before o not_as_above h f = tt
ids-before o (operations os) h f = (h, f)

ids-from : (k : ℕ) (s : List ℕ) (at : ℕ) → IdsFit (ops_of (batch_from k s at))
unfolding batch_from
ids-from zero s at = go (leb (length s) at)
  where
    go : (t : Bool) → IdsFit (ops_of (pick t (operations []) not_as_above))
    go true = tt
    go false = tt
ids-from (suc k) s at = go (either_way at (length s)) (operation_at s at) refl (ids-from k s)
  where
    go : (at < length s) ⊎ (length s ≤ at) → (p : Parsed) → operation_at s at ≡ p → ((next : ℕ) → IdsFit (ops_of (batch_from k s next))) → IdsFit (ops_of (batch_from (suc k) s at))
    go (inr h) p e ih = rw (batch-end (suc k) s at h) tt
    go (inl h) malformed e ih = rw (batch-bad (suc k) s at h e) tt
    go (inl h) (parsed o next) e ih = rw (batch-next k s at o next h e) (ids-before o (batch_from k s next) (operation-stepped s at o next e).id (ih next))

-- every id of a batch has 64 bits
pub batch-ids : (s : List ℕ) → IdsFit (ops_of (batch_in s))
unfolding batch_in
batch-ids s = ids-from (length s) s 0
