-- "Batch bytes: id in seven-bit groups; tag 0 (delete) or 1 (put); for a put its length in groups and the body.": parsed exactly if the bytes are
-- those of what was parsed.
use Rattle.std.specs.Prelude.{◌≡◌, refl, ◌⊎◌, ◌≤◌, ◌<◌, ◌∷◌, ◌++◌, ◌+◌, ◌-◌, ◌^◌, None, Some}
use Rattle.std.proofs.Common.{sym, ap, ap₂, ◌∙◌, append_assoc, inl, inr, arith, length-append, length-take, length-drop, take-append-drop, drop_of_length-le, drop-cons, drop-drop, take_at, drop_at, eqb-true, leb-true, leb-false, le-leb, eq-eqb}
use Rattle.std.proofs.lemmas.List.{get_or_at}
use Rattle.std.proofs.lemmas.Bool.{lt-leb}
use Rattle.rules.specs.Base.{Bool, true, false, List, [], ℕ, zero, suc, length, take, drop, get_or, leb, eqb, pick, each}
use Rattle.rules.specs.BaseLaws.{All}
use Rattle.numbers.specs.LittleEndian.{Bytes}
use Rattle.numbers.specs.Groups.{groups_of, number_in, saying}
use Rattle.numbers.specs.GroupLaws.{either_way, groups-some, Stands, number-stands, number-back}
use Rattle.numbers.specs.Answers.{Number}
use Rattle.rules.specs.Ops.{Content, put, delete, Op}
use Rattle.rules.specs.Batch.{Parsed, malformed, parsed, put_operation, operation_at, Batch, not_as_above, operations, before, batch_from, batch_in}
use Rattle.rules.proofs.BatchLaws.{batch-end, batch-bad, batch-next}
use Rattle.pinned.specs.Parts.{front}

-- "tag 0 (delete) or 1 (put); for a put its length in groups and the body"
abbrev pub tagged : Content → List ℕ
tagged delete = 0 ∷ []
tagged (put body) = 1 ∷ (groups_of 10 (length body) ++ body)

-- "id in seven-bit groups", then the rest
abbrev pub op_bytes : Op → List ℕ
op_bytes o = groups_of 10 o.id ++ tagged o.content

-- one behind the other
abbrev pub batch_bytes : List Op → List ℕ
batch_bytes ops = each op_bytes ops

-- a length of 64 bits
abbrev pub BodyFits : Content → Type 0
BodyFits (put body) = length body < 2 ^ 64
BodyFits delete = Unit {0}

-- "at most 64 bits", of an id and a length
abbrev pub OpFits : Op → Type 0
OpFits o = (o.id < 2 ^ 64) × BodyFits o.content

-- ---- an operation
-- what was parsed, and what follows it
record Parses (s : List ℕ) (at : ℕ) (o : Op) (next : ℕ) : Type 0 where
  is : drop at s ≡ op_bytes o ++ drop next s
  fits : OpFits o
  ends : next ≤ length s

parsed-not : (o : Op) (next : ℕ) → parsed o next ≡ malformed → ⊥
parsed-not o next e = let z : ◌≡◌ {A = ℕ} 0 1 = cc in omega arith

op_in : Op → Parsed → Op
op_in d malformed = d
op_in d (parsed o next) = o

next_in : Parsed → ℕ
next_in malformed = 0
next_in (parsed o next) = next

parses-is : (s : List ℕ) (at : ℕ) (o p : Op) (m next : ℕ) → Parses s at o m → parsed o m ≡ parsed p next → Parses s at p next
unfolding op_in next_in
parses-is s at o p m next h e = rw (← ap (op_in o) e, ← ap next_in e) h

op-parses : (s : List ℕ) (at : ℕ) (o : Op) (next : ℕ) → Bytes s → operation_at s at ≡ parsed o next → Parses s at o next
unfolding operation_at put_operation
op-parses s at o next h e = go (number_in 10 s at) refl e
  where
    body : (id tag size start : ℕ) → Stands 10 s at tag id → tag < length s → get_or s tag 0 ≡ 1 → Stands 10 s (suc tag) start size → size ≤ length s - start
        → Parses s at (record { id = id; content = put (take size (drop start s)) }) (start + size)
    body id tag size start st l e1 sz fits =
        let count : length (take size (drop start s)) ≡ size = length-take size (drop start s) ∙ omega (arith, length-drop start s) in
        let behind : drop start s ≡ take size (drop start s) ++ drop (start + size) s = sym (take-append-drop size (drop start s)) ∙ ap (λ (x : List ℕ). take size (drop start s) ++ x) (drop-drop size start s) in
        let whole : drop at s ≡ groups_of 10 id ++ (1 ∷ (groups_of 10 size ++ (take size (drop start s) ++ drop (start + size) s))) =
        front s at id tag st
        ∙ ap (λ (x : List ℕ). groups_of 10 id ++ x)
        (drop-cons s tag 0 l ∙ ap₂ (λ (a : ℕ) (b : List ℕ). a ∷ b) e1 (front s (suc tag) size start sz ∙ ap (λ (x : List ℕ). groups_of 10 size ++ x) behind)) in
        record {
          is = whole ∙ rw (count, append_assoc, append_assoc);
          fits = (st.fits, rw count sz.fits);
          ends = omega (arith, sz.ends);
        }

    sized : (id tag : ℕ) → Stands 10 s at tag id → tag < length s → get_or s tag 0 ≡ 1 → (n : Number) → number_in 10 s (suc tag) ≡ n
        → saying malformed n (λ size start. pick (leb size (length s - start)) (parsed (record { id = id; content = put (take size (drop start s)) }) (start + size)) malformed) ≡ parsed o next
        → Parses s at o next
    sized id tag st l e1 None p q = absurd (parsed-not o next (sym q))
    sized id tag st l e1 (Some (size, start)) p q = fitting (leb size (length s - start)) refl q
      where
        fitting : (t : Bool) → leb size (length s - start) ≡ t → pick t (parsed (record { id = id; content = put (take size (drop start s)) }) (start + size)) malformed ≡ parsed o next → Parses s at o next
        fitting false r q = absurd (parsed-not o next (sym q))
        fitting true r q =
            parses-is s at (record { id = id; content = put (take size (drop start s)) }) o (start + size) next
            (body id tag size start st l e1 (number-stands 10 s (suc tag) size start h p) (leb-true size (length s - start) r)) q

    one : (id tag : ℕ) → Stands 10 s at tag id → tag < length s → (t : Bool) → eqb (get_or s tag 0) 1 ≡ t → pick t (put_operation s id (suc tag)) malformed ≡ parsed o next → Parses s at o next
    one id tag st l false r q = absurd (parsed-not o next (sym q))
    one id tag st l true r q = sized id tag st l (eqb-true (get_or s tag 0) 1 r) (number_in 10 s (suc tag)) refl q

    zeroed : (id tag : ℕ) → Stands 10 s at tag id → tag < length s → (t : Bool) → eqb (get_or s tag 0) 0 ≡ t
        → pick t (parsed (record { id = id; content = delete }) (suc tag)) (pick (eqb (get_or s tag 0) 1) (put_operation s id (suc tag)) malformed) ≡ parsed o next → Parses s at o next
    zeroed id tag st l false r q = one id tag st l (eqb (get_or s tag 0) 1) refl q
    zeroed id tag st l true r q =
        let whole : drop at s ≡ groups_of 10 id ++ (0 ∷ drop (suc tag) s) =
        front s at id tag st ∙ ap (λ (x : List ℕ). groups_of 10 id ++ x) (drop-cons s tag 0 l ∙ ap (λ (a : ℕ). a ∷ drop (suc tag) s) (eqb-true (get_or s tag 0) 0 r)) in
        let there : Parses s at (record { id = id; content = delete }) (suc tag) = record {
          is = whole ∙ rw append_assoc;
          fits = (st.fits, tt);
          ends = omega arith;
        } in
        parses-is s at (record { id = id; content = delete }) o (suc tag) next there q

    there : (id tag : ℕ) → Stands 10 s at tag id → (t : Bool) → leb (length s) tag ≡ t
        → pick t malformed (pick (eqb (get_or s tag 0) 0) (parsed (record { id = id; content = delete }) (suc tag)) (pick (eqb (get_or s tag 0) 1) (put_operation s id (suc tag)) malformed)) ≡ parsed o next
        → Parses s at o next
    there id tag st true r q = absurd (parsed-not o next (sym q))
    there id tag st false r q = zeroed id tag st (leb-false (length s) tag r) (eqb (get_or s tag 0) 0) refl q

    go : (n : Number) → number_in 10 s at ≡ n
        → saying malformed n (λ id tag.
        pick (leb (length s) tag) malformed
        (pick (eqb (get_or s tag 0) 0) (parsed (record { id = id; content = delete }) (suc tag))
        (pick (eqb (get_or s tag 0) 1) (put_operation s id (suc tag)) malformed))) ≡ parsed o next
        → Parses s at o next
    go None p q = absurd (parsed-not o next (sym q))
    go (Some (id, tag)) p q = there id tag (number-stands 10 s at id tag h p) (leb (length s) tag) refl q

-- the bytes of an operation are parsed as it, wherever they stand
content-back : (s xs rest : List ℕ) (at id : ℕ) (c : Content) → s ≡ xs ++ ((groups_of 10 id ++ tagged c) ++ rest) → length xs ≡ at → (id < 2 ^ 64) × BodyFits c
    → operation_at s at ≡ parsed (record { id = id; content = c }) (at + length (groups_of 10 id ++ tagged c))
unfolding operation_at put_operation
content-back s xs rest at id delete e l fits =
    let g = groups_of 10 id in
    let tag = at + length g in
    let flat : s ≡ xs ++ (g ++ (0 ∷ rest)) = e ∙ ap (λ (x : List ℕ). xs ++ x) (append_assoc g (0 ∷ []) rest) in
    let split : s ≡ (xs ++ g) ++ (0 ∷ rest) = flat ∙ sym (append_assoc xs g (0 ∷ rest)) in
    let place : length (xs ++ g) ≡ tag = length-append xs g ∙ ap (λ (n : ℕ). n + length g) l in
    let here : get_or s tag 0 ≡ 0 = rw split (get_or_at (xs ++ g) 0 rest 0 tag place) in
    let room : tag < length s = rw (split, length-append (xs ++ g) (0 ∷ rest)) (omega arith) in
    let end : suc tag ≡ at + length (g ++ (0 ∷ [])) = omega (arith, length-append g (0 ∷ [])) in
    rw (number-back s xs (0 ∷ rest) at id flat l fits.0, lt-leb (length s) tag room, eq-eqb (get_or s tag 0) 0 here, end)
content-back s xs rest at id (put body) e l fits =
    let g = groups_of 10 id in
    let n = groups_of 10 (length body) in
    let tag = at + length g in
    let start = suc tag + length n in
    let flat : s ≡ xs ++ (g ++ (1 ∷ (n ++ (body ++ rest)))) =
    e ∙ ap (λ (x : List ℕ). xs ++ x) (append_assoc g (1 ∷ (n ++ body)) rest ∙ ap (λ (x : List ℕ). g ++ (1 ∷ x)) (append_assoc n body rest)) in
    let split : s ≡ (xs ++ g) ++ (1 ∷ (n ++ (body ++ rest))) = flat ∙ sym (append_assoc xs g (1 ∷ (n ++ (body ++ rest)))) in
    let place : length (xs ++ g) ≡ tag = length-append xs g ∙ ap (λ (k : ℕ). k + length g) l in
    let here : get_or s tag 0 ≡ 1 = rw split (get_or_at (xs ++ g) 1 (n ++ (body ++ rest)) 0 tag place) in
    let room : tag < length s = rw (split, length-append (xs ++ g) (1 ∷ (n ++ (body ++ rest)))) (omega arith) in
    let tag_front : List ℕ = (xs ++ g) ++ (1 ∷ []) in
    let split2 : s ≡ tag_front ++ (n ++ (body ++ rest)) = split ∙ sym (append_assoc (xs ++ g) (1 ∷ []) (n ++ (body ++ rest))) in
    let place2 : length tag_front ≡ suc tag = omega (arith, length-append (xs ++ g) (1 ∷ [])) in
    let place3 : length (tag_front ++ n) ≡ start = omega (arith, length-append tag_front n) in
    let split3 : s ≡ (tag_front ++ n) ++ (body ++ rest) = split2 ∙ sym (append_assoc tag_front n (body ++ rest)) in
    let left : drop start s ≡ body ++ rest = rw split3 (drop_at (tag_front ++ n) (body ++ rest) start place3) in
    let counted : length body ≤ length s - start = omega (arith, ap length split3, length-append (tag_front ++ n) (body ++ rest), length-append body rest) in
    let got : take (length body) (drop start s) ≡ body = rw left (take_at body rest (length body) refl) in
    let end : start + length body ≡ at + length (g ++ (1 ∷ (n ++ body))) = omega (arith, length-append g (1 ∷ (n ++ body)), length-append n body) in
    rw (
      number-back s xs (1 ∷ (n ++ (body ++ rest))) at id flat l fits.0,
      lt-leb (length s) tag room,
      here,
      number-back s tag_front (body ++ rest) (suc tag) (length body) split2 place2 fits.1,
      le-leb (length body) (length s - start) counted,
      got,
      end,
    )

op-back : (s xs rest : List ℕ) (at : ℕ) (o : Op) → s ≡ xs ++ (op_bytes o ++ rest) → length xs ≡ at → OpFits o → operation_at s at ≡ parsed o (at + length (op_bytes o))
op-back s xs rest at o e l fits = content-back s xs rest at o.id o.content e l fits

-- ---- a batch
not-operations : {A : Type 0} {ops : List Op} → not_as_above ≡ operations ops → A
not-operations e = absurd (let z : ◌≡◌ {A = ℕ} 0 1 = cc in omega arith)

ops_in : Batch → List Op
ops_in not_as_above = []
ops_in (operations os) = os

ops-one : {os ops : List Op} → operations os ≡ operations ops → os ≡ ops
unfolding ops_in
ops-one e = ap ops_in e

from-parses : (k : ℕ) (s : List ℕ) (at : ℕ) (ops : List Op) → Bytes s → batch_from k s at ≡ operations ops → (drop at s ≡ batch_bytes ops) × All OpFits ops
unfolding batch_from each
from-parses zero s at ops h e = go (leb (length s) at) refl e
  where
    go : (t : Bool) → leb (length s) at ≡ t → pick t (operations []) not_as_above ≡ operations ops → (drop at s ≡ batch_bytes ops) × All OpFits ops
    go false r q = not-operations q
    go true r q = rw (← ops-one q) (drop_of_length-le s (leb-true (length s) at r), tt)
from-parses (suc k) s at ops h e = go (either_way at (length s)) (operation_at s at) refl (from-parses k s)
  where
    go : (at < length s) ⊎ (length s ≤ at) → (p : Parsed) → operation_at s at ≡ p
        → ((next : ℕ) (os : List Op) → Bytes s → batch_from k s next ≡ operations os → (drop next s ≡ batch_bytes os) × All OpFits os)
        → (drop at s ≡ batch_bytes ops) × All OpFits ops
    go (inr l) p q ih = rw (← ops-one (sym (batch-end (suc k) s at l) ∙ e)) (drop_of_length-le s l, tt)
    go (inl l) malformed q ih = not-operations (sym (batch-bad (suc k) s at l q) ∙ e)
    go (inl l) (parsed o next) q ih = rest (batch_from k s next) refl (sym (batch-next k s at o next l q) ∙ e)
      where
        rest : (b : Batch) → batch_from k s next ≡ b → before o b ≡ operations ops → (drop at s ≡ batch_bytes ops) × All OpFits ops
        rest not_as_above r f = not-operations f
        rest (operations os) r f =
            let w = op-parses s at o next h q in
            let more = ih next os h r in
            rw (← ops-one f) (w.is ∙ ap (λ (x : List ℕ). op_bytes o ++ x) more.0, (w.fits, more.1))

op-some : (o : Op) → 0 < length (op_bytes o)
op-some o = omega (arith, length-append (groups_of 10 o.id) (tagged o.content), groups-some 9 o.id)

from_back : (k : ℕ) (s xs : List ℕ) (at : ℕ) (ops : List Op) → s ≡ xs ++ batch_bytes ops → length xs ≡ at → length (batch_bytes ops) ≤ k → All OpFits ops → batch_from k s at ≡ operations ops
unfolding each
from_back k s xs at [] e l n fits = batch-end k s at (omega (arith, ap length e, length-append xs []))
from_back zero s xs at (o ∷ os) e l n fits = absurd (omega (arith, length-append (op_bytes o) (batch_bytes os), op-some o))
from_back (suc k) s xs at (o ∷ os) e l n fits =
    let next = at + length (op_bytes o) in
    let some = op-some o in
    let room : at < length s = omega (arith, ap length e, length-append xs (op_bytes o ++ batch_bytes os), length-append (op_bytes o) (batch_bytes os)) in
    let split : s ≡ (xs ++ op_bytes o) ++ batch_bytes os = e ∙ sym (append_assoc xs (op_bytes o) (batch_bytes os)) in
    batch-next k s at o next room (op-back s xs (batch_bytes os) at o e l fits.0)
    ∙ ap (before o) (from_back k s (xs ++ op_bytes o) next os split (length-append xs (op_bytes o) ∙ ap (λ (m : ℕ). m + length (op_bytes o)) l) (omega (arith, length-append (op_bytes o) (batch_bytes os))) fits.1)

-- LAW: a batch parses to `ops` exactly if it is the bytes of `ops`, each id and length of at most 64 bits
pub batch-exactly : (s : List ℕ) (ops : List Op) → Bytes s
    → (batch_in s ≡ operations ops → (s ≡ batch_bytes ops) × All OpFits ops) × ((s ≡ batch_bytes ops) × All OpFits ops → batch_in s ≡ operations ops)
unfolding batch_in
batch-exactly s ops h = (λ e. from-parses (length s) s 0 ops h e, λ w. from_back (length s) s [] 0 ops w.0 refl (omega (arith, ap length w.0)) w.1)
