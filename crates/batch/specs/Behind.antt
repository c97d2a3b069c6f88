-- A number or an operation that is read takes at least one byte and none past the end; an id has at most 64 bits.
use Rattle.std.specs.Prelude.{◌≡◌, refl, Bool, true, false, List, [], ◌∷◌, ℕ, zero, suc, ◌+◌, ◌-◌, ◌^◌, ◌<◌, ◌≤◌, leb, ltb, eqb, length, take, drop, get_or, None, Some}
use Rattle.std.proofs.Common.{ap, arith, length-drop, ltb-true, leb-true, leb-false}
use Rattle.std.proofs.lemmas.Option.{same_Some}
use Rattle.numbers.specs.Choice.{pick}
use Rattle.numbers.specs.Groups.{Groups, said, bad, read_groups, or_before, bounded, number_in, saying}
use Rattle.numbers.specs.Answers.{Number}
use Rattle.rules.specs.Ops.{Op, put, delete}
use Rattle.rules.specs.Batch.{parsed, malformed, put_operation, operation_at}

groups-count : (k : ℕ) (bs : List ℕ) (v n : ℕ) → read_groups k bs ≡ said v n → (0 < n) × (n ≤ length bs)
unfolding read_groups
groups-count zero bs v n e = absurd (let z : ◌≡◌ {A = ℕ} 0 1 = cc in omega arith)
groups-count (suc k) [] v n e = absurd (let z : ◌≡◌ {A = ℕ} 0 1 = cc in omega arith)
groups-count (suc k) (b ∷ bs) v n e = go (ltb b 128) (read_groups k bs) (groups-count k bs) refl e
  where
    go : (t : Bool) (g : Groups) → ((w j : ℕ) → read_groups k bs ≡ said w j → (0 < j) × (j ≤ length bs)) → read_groups k bs ≡ g → or_before t b g ≡ said v n
        → (0 < n) × (n ≤ suc (length bs))
    go true g again q e = let one : 1 ≡ n = cc in (omega arith, omega arith)
    go false bad again q e = absurd (let z : ◌≡◌ {A = ℕ} 0 1 = cc in omega arith)
    go false (said zero j) again q e = absurd (let z : ◌≡◌ {A = ℕ} 0 1 = cc in omega arith)
    go false (said (suc w) j) again q e =
        let more : suc j ≡ n = cc in
        let rest = again (suc w) j q in
        (omega arith, omega arith)

pub number_behind : (k : ℕ) (s : List ℕ) (at v next : ℕ) → number_in k s at ≡ Some (v, next) → (at < next) × (next ≤ length s) × (v < 2 ^ 64)
unfolding number_in
number_behind k s at v next e = go (read_groups k (drop at s)) refl e
  where
    fits : (t : Bool) (w n : ℕ) → ltb w (2 ^ 64) ≡ t → read_groups k (drop at s) ≡ said w n → pick {A = Number} t (Some (w, at + n)) None ≡ Some (v, next)
        → (at < next) × (next ≤ length s) × (v < 2 ^ 64)
    fits true w n t q e =
        let read = same_Some _ _ e in
        let here : at + n ≡ next = ap (λ (p : ℕ × ℕ). p.1) read in
        let same : w ≡ v = ap (λ (p : ℕ × ℕ). p.0) read in
        let low = ltb-true w (2 ^ 64) t in
        let taken = groups-count k (drop at s) w n q in
        let room = length-drop at s in
        (omega arith, omega arith, omega arith)
    fits false w n t q e = absurd (let z : ◌≡◌ {A = ℕ} 0 1 = cc in omega arith)

    go : (g : Groups) → read_groups k (drop at s) ≡ g → bounded at g ≡ Some (v, next) → (at < next) × (next ≤ length s) × (v < 2 ^ 64)
    go bad q e = absurd (let z : ◌≡◌ {A = ℕ} 0 1 = cc in omega arith)
    go (said w n) q e = fits (ltb w (2 ^ 64)) w n refl q e

-- an operation that was read: the position behind it, and its id
pub record Behind (s : List ℕ) (at : ℕ) (o : Op) (next : ℕ) : Type 0 where
  pub further : at < next
  pub inside : next ≤ length s
  pub id-fits : o.id < 2 ^ 64

put-behind : (s : List ℕ) (id at : ℕ) (o : Op) (next : ℕ) → id < 2 ^ 64 → put_operation s id at ≡ parsed o next → Behind s at o next
unfolding put_operation
put-behind s id at o next low e = go (number_in 10 s at) refl e
  where
    fits : (t : Bool) (size start : ℕ) → number_in 10 s at ≡ Some (size, start) → leb size (length s - start) ≡ t
        → pick t (parsed (record { id = id; content = put (take size (drop start s)) }) (start + size)) malformed ≡ parsed o next
        → Behind s at o next
    fits true size start q t e =
        let here : start + size ≡ next = cc in
        let same : id ≡ o.id = cc in
        let behind = number_behind 10 s at size start q in
        let room = leb-true size (length s - start) t in
        record { further = omega arith; inside = omega arith; id-fits = omega arith }
    fits false size start q t e = absurd (let z : ◌≡◌ {A = ℕ} 0 1 = cc in omega arith)

    go : (n : Number) → number_in 10 s at ≡ n
        → saying malformed n (λ size start.
        pick (leb size (length s - start)) (parsed (record { id = id; content = put (take size (drop start s)) }) (start + size)) malformed) ≡ parsed o next
        → Behind s at o next
    go None q e = absurd (let z : ◌≡◌ {A = ℕ} 0 1 = cc in omega arith)
    go (Some (size, start)) q e = fits (leb size (length s - start)) size start q refl e

pub operation-behind : (s : List ℕ) (at : ℕ) (o : Op) (next : ℕ) → operation_at s at ≡ parsed o next → Behind s at o next
unfolding operation_at
operation-behind s at o next e = go (number_in 10 s at) refl e
  where
    tagged : (id tag : ℕ) → number_in 10 s at ≡ Some (id, tag) → (p d b : Bool) → leb (length s) tag ≡ p
        → pick p malformed (pick d (parsed (record { id = id; content = delete }) (suc tag)) (pick b (put_operation s id (suc tag)) malformed)) ≡ parsed o next
        → Behind s at o next
    tagged id tag q true d b l e = absurd (let z : ◌≡◌ {A = ℕ} 0 1 = cc in omega arith)
    tagged id tag q false true b l e =
        let here : suc tag ≡ next = cc in
        let same : id ≡ o.id = cc in
        let behind = number_behind 10 s at id tag q in
        let room = leb-false (length s) tag l in
        record { further = omega arith; inside = omega arith; id-fits = omega arith }
    tagged id tag q false false true l e =
        let behind = number_behind 10 s at id tag q in
        let more = put-behind s id (suc tag) o next behind.2 e in
        record { further = omega arith; inside = more.inside; id-fits = more.id-fits }
    tagged id tag q false false false l e = absurd (let z : ◌≡◌ {A = ℕ} 0 1 = cc in omega arith)

    go : (n : Number) → number_in 10 s at ≡ n
        → saying malformed n (λ id tag.
        pick (leb (length s) tag) malformed
        (pick (eqb (get_or s tag 0) 0) (parsed (record { id = id; content = delete }) (suc tag)) (pick (eqb (get_or s tag 0) 1) (put_operation s id (suc tag)) malformed))) ≡ parsed o next
        → Behind s at o next
    go None q e = absurd (let z : ◌≡◌ {A = ℕ} 0 1 = cc in omega arith)
    go (Some (id, tag)) q e = tagged id tag q (leb (length s) tag) (eqb (get_or s tag 0) 0) (eqb (get_or s tag 0) 1) refl e
