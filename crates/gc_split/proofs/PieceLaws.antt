-- A file that comes out is the operations of one piece, in order.
use Rattle.std.specs.Prelude.{◌≡◌, refl, ◌⊎◌, ◌≤◌, ◌<◌, ◌∷◌, ◌++◌, ◌+◌, ◌-◌, ◌/◌, ◌%◌}
use Rattle.std.proofs.Common.{sym, ap, ap₂, ◌∙◌, subst, inl, inr, append_assoc, append-nil, zero-add, add-zero, add-one, arith, eq-eqb, ne_eqb, length-set, get_or-set_same, get_or-set_other, take-suc-set}
use Rattle.std.proofs.Math.Path.{fun_ext}
use Rattle.std.proofs.lemmas.List.{map-append, length-replicate, get_or-replicate}
use Rattle.std.proofs.Math.Seq.{set_out}
use Rattle.rules.specs.Base.{Bool, true, false, List, [], map, ℕ, suc, length, get_or, set, replicate, take, ltb, eqb, pick, keep}
use Rattle.rules.specs.BaseLaws.{All}
use Rattle.rules.proofs.BaseLaws.{all_map, same?, all_append}
use Rattle.rules.specs.Ops.{Op, size_of, shard_for}
use Rattle.rules.proofs.OpsLaws.{shard-most}
use Rattle.rules.specs.Maintenance.{Shard, no_entries, Split, cut_off, joining, split_from, has_entries, files_of}
use Rattle.numbers.specs.GroupLaws.{either_way}
use Rattle.gc_split.specs.Distinct.{Distinct}
use Rattle.gc_split.proofs.Distinct.{distinct-both}
use Rattle.gc_split.specs.TotalLaws.{shard_count, Told}
use Rattle.gc_split.proofs.TotalLaws.{size-at, either-has, cut-told, join-told, split-told, empty-told}
use Rattle.gc_split.specs.Tally.{Tally, piece_no, closing, cutting, entering, taking, tally_from, tally_of, empty_tally, rest_of, rests_from, order_of, pieces_from, pieces_of, piece_in, in_piece}
use Rattle.gc_split.specs.PieceLaws.{Pieces, cut_split, cut_tally}

-- ---- what each piece holds so far
-- an operation more in piece p
with-op : (ℕ → List Op) → ℕ → Op → ℕ → List Op
with-op has p o q = has q ++ pick (eqb p q) (o ∷ []) []

-- ---- a cut
-- rounds only rise
rounds-rise : (rs : List ℕ) (n m : ℕ) → get_or rs m 0 ≤ get_or (set rs n (get_or rs n 0 + 1)) m 0
rounds-rise rs n m = go (same? m n) (either_way n (length rs))
  where
    go : (m ≡ n) ⊎ (m ≡ n → ⊥) → (n < length rs) ⊎ (length rs ≤ n) → get_or rs m 0 ≤ get_or (set rs n (get_or rs n 0 + 1)) m 0
    go (inr d) h = rw (get_or-set_other rs n m (get_or rs n 0 + 1) 0 d) (omega arith)
    go (inl e) (inl h) = rw (e, get_or-set_same rs n (get_or rs n 0 + 1) 0 h) (omega arith)
    go (inl e) (inr h) = rw (set_out rs n (get_or rs n 0 + 1) h) (omega arith)

-- a piece's number tells shard and round
piece-shard : (n r : ℕ) → n < 65 → piece_no n r % 65 ≡ n
piece-shard n r h = omega arith

piece-round : (n r : ℕ) → n < 65 → piece_no n r / 65 ≡ r
piece-round n r h = omega arith

cut-made : (has : ℕ → List Op) (slot_size n : ℕ) (s : Split) (t : Tally) → n < 65 → t.totals.files < length t.cuts → Pieces has s t
    → Pieces has (cut_split n s) (cut_tally slot_size n t)
unfolding closing
cut-made has slot_size n s t low room p = record {
  shards = λ m small. shard m small (same? m n);
  fragments =
      ap₂ (λ (fs : List (List Op)) (f : List Op). fs ++ (f ∷ [])) p.fragments (p.shards n low)
      ∙ sym (map-append has (take files t.cuts) (piece ∷ []))
      ∙ ap (map has) (sym cuts);
  fresh = λ q later. p.fresh q (omega (arith, rounds-rise t.rounds n (q % 65)));
  past =
      rw cuts
      (all_append (λ (q : ℕ). q / 65 < get_or rounds (q % 65) 0) (take files t.cuts) (piece ∷ [])
      (all_map _ _ (take files t.cuts) (λ q before. omega (arith, rounds-rise t.rounds n (q % 65))) p.past)
      (here, tt));
  distinct =
      rw cuts
      (distinct-both (take files t.cuts) (piece ∷ []) p.distinct (tt, tt)
      (all_map _ _ (take files t.cuts) (λ q before. (λ e. omega (arith, rw (e, piece-shard n round low, piece-round n round low) at before), tt)) p.past));
  long = (length-set s.shards n no_entries ∙ p.long.0, length-set t.rounds n (round + 1) ∙ p.long.1);
}
  where
    files : ℕ
    files = t.totals.files

    round : ℕ
    round = get_or t.rounds n 0

    piece : ℕ
    piece = piece_no n (get_or t.rounds n 0)

    rounds : List ℕ
    rounds = set t.rounds n (get_or t.rounds n 0 + 1)

    now : get_or rounds n 0 ≡ round + 1
    now = get_or-set_same t.rounds n (round + 1) 0 (omega (arith, p.long.1))

    cuts : take (files + 1) (set t.cuts files piece) ≡ take files t.cuts ++ (piece ∷ [])
    cuts = rw add-one (take-suc-set t.cuts files piece room)

    here : piece / 65 < get_or rounds (piece % 65) 0
    here = rw (piece-shard n round low, piece-round n round low, now) (omega arith)

    shard : (m : ℕ) → m < 65 → (m ≡ n) ⊎ (m ≡ n → ⊥) → (get_or (set s.shards n no_entries) m no_entries).ops ≡ has (piece_no m (get_or rounds m 0))
    shard m small (inl e) =
        let later : get_or t.rounds (piece_no n (round + 1) % 65) 0 < piece_no n (round + 1) / 65 =
        rw (piece-shard n (round + 1) low, piece-round n (round + 1) low) (omega arith) in
        rw (e, get_or-set_same s.shards n no_entries no_entries (omega (arith, p.long.0)), now) (sym (p.fresh (piece_no n (round + 1)) later))
    shard m small (inr d) =
        rw (get_or-set_other s.shards n m no_entries no_entries d, get_or-set_other t.rounds n m (round + 1) 0 d) (p.shards m small)

-- ---- an entry joins
-- where two functions agree on a list, so do its images
map_on : (f g : ℕ → List Op) (xs : List ℕ) → All (λ (x : ℕ). f x ≡ g x) xs → map f xs ≡ map g xs
map_on f g [] a = refl
map_on f g (x ∷ xs) a = ap₂ (λ (y : List Op) (ys : List (List Op)). y ∷ ys) a.0 (map_on f g xs a.1)

-- another piece stays
with-other : (has : ℕ → List Op) (p : ℕ) (o : Op) (q : ℕ) → (p ≡ q → ⊥) → with-op has p o q ≡ has q
unfolding with-op
with-other has p o q d = rw (ne_eqb p q d, append-nil) refl

join-made : (has : ℕ → List Op) (n : ℕ) (o : Op) (s : Split) (t : Tally) → n < 65 → Pieces has s t
    → Pieces (with-op has (piece_in n t) o) (joining o n s) (entering n (size_of o.content) t)
unfolding joining entering with-op
join-made has n o s t low p = record {
  shards = λ m small. shard m small (same? m n);
  fragments = p.fragments ∙ map_on has (with-op has piece o) (take t.totals.files t.cuts) (all_map _ _ (take t.totals.files t.cuts) old p.past);
  fresh = λ q later. with-other has piece o q (λ e. newer q later e) ∙ p.fresh q later;
  past = p.past;
  distinct = p.distinct;
  long = (length-set s.shards n _ ∙ p.long.0, p.long.1);
}
  where
    piece : ℕ
    piece = piece_in n t

    newer : (q : ℕ) → get_or t.rounds (q % 65) 0 < q / 65 → piece ≡ q → ⊥
    newer q later e = omega (arith, rw (← e, piece-shard n (get_or t.rounds n 0) low, piece-round n (get_or t.rounds n 0) low) at later)

    older : (q : ℕ) → q / 65 < get_or t.rounds (q % 65) 0 → piece ≡ q → ⊥
    older q before e = omega (arith, rw (← e, piece-shard n (get_or t.rounds n 0) low, piece-round n (get_or t.rounds n 0) low) at before)

    old : (q : ℕ) → q / 65 < get_or t.rounds (q % 65) 0 → has q ≡ with-op has piece o q
    old q before = sym (with-other has piece o q (older q before))

    joined : Shard
    joined = record { size = (get_or s.shards n no_entries).size + size_of o.content; ops = (get_or s.shards n no_entries).ops ++ (o ∷ []) }

    shard : (m : ℕ) → m < 65 → (m ≡ n) ⊎ (m ≡ n → ⊥) → (get_or (set s.shards n joined) m no_entries).ops ≡ with-op has piece o (piece_in m t)
    shard m small (inl e) =
        rw (e, get_or-set_same s.shards n joined no_entries (omega (arith, p.long.0)), eq-eqb piece piece refl) (ap (λ (os : List Op). os ++ (o ∷ [])) (p.shards n low))
    shard m small (inr d) =
        ap (λ (h : Shard). h.ops) (get_or-set_other s.shards n m joined no_entries d)
        ∙ p.shards m small
        ∙ sym (with-other has piece o (piece_in m t) (λ e. d (omega (arith, e))))

-- ---- operation by operation
-- fragments only become more, and their places stay as many
take-files : (target slot_size n size : ℕ) (t : Tally) → t.totals.files ≤ (taking target slot_size n size t).totals.files
unfolding taking entering cutting closing
take-files target slot_size n size t = go (ltb target (get_or t.sizes n 0))
  where
    go : (b : Bool) → t.totals.files ≤ (pick b (cut_tally slot_size n t) t).totals.files
    go true = omega arith
    go false = omega arith

from-files : (target slot_size : ℕ) (ops : List Op) (t : Tally) → t.totals.files ≤ (tally_from target slot_size ops t).totals.files
unfolding tally_from
from-files target slot_size [] t = omega arith
from-files target slot_size (o ∷ os) t =
    let next = taking target slot_size (shard_for o.content) (size_of o.content) t in
    omega (arith, take-files target slot_size (shard_for o.content) (size_of o.content) t, from-files target slot_size os next)

pub take-cuts : (target slot_size n size : ℕ) (t : Tally) → length (taking target slot_size n size t).cuts ≡ length t.cuts
unfolding taking entering cutting
take-cuts target slot_size n size t = go (ltb target (get_or t.sizes n 0))
  where
    go : (b : Bool) → length (pick b (cut_tally slot_size n t) t).cuts ≡ length t.cuts
    go true = length-set t.cuts t.totals.files (piece_no n (get_or t.rounds n 0))
    go false = refl

-- cut off before or not, an entry joins
take-made : (has : ℕ → List Op) (target slot_size k : ℕ) (o : Op) (s : Split) (t : Tally) → Told slot_size k s t → Pieces has s t
    → (taking target slot_size (shard_for o.content) (size_of o.content) t).totals.files ≤ length t.cuts
    → Pieces (with-op has (piece_in (shard_for o.content) (taking target slot_size (shard_for o.content) (size_of o.content) t)) o)
    (joining o (shard_for o.content) (cut_off target (shard_for o.content) s))
    (taking target slot_size (shard_for o.content) (size_of o.content) t)
unfolding taking entering cutting cut_off closing
take-made has target slot_size k o s t told p room =
    let n = shard_for o.content in
    let low = shard-most o.content in
    join-made has n o (cut_off target n s) (cutting target slot_size n t) low
    (either-has (Pieces has) _ _ _ s _ t (ap (ltb target) (sym (size-at slot_size k s t told n)))
    (λ cut. cut-made has slot_size n s t low (omega (arith, rw cut at room)) p)
    p)

split-made : (has : ℕ → List Op) (target slot_size k : ℕ) (ops : List Op) (s : Split) (t : Tally) → Told slot_size k s t → Pieces has s t
    → (tally_from target slot_size ops t).totals.files ≤ length t.cuts
    → Pieces (λ (q : ℕ). has q ++ in_piece q (pieces_from target slot_size ops t) ops) (split_from target ops s) (tally_from target slot_size ops t)
unfolding split_from tally_from taking pieces_from in_piece with-op
split-made has target slot_size k [] s t told p room = subst (λ (f : ℕ → List Op). Pieces f s t) (fun_ext (λ q. sym (append-nil (has q)))) p
split-made has target slot_size k (o ∷ os) s t told p room =
    subst (λ (f : ℕ → List Op). Pieces f (split_from target os split) (tally_from target slot_size os next)) (fun_ext regroup)
    (split-made (with-op has (piece_in n next) o) target slot_size (k + 1) os split next
    (join-told slot_size k n o (cut_off target n s) (cutting target slot_size n t) (cut-told target slot_size k n s t told))
    (take-made has target slot_size k o s t told p (omega (arith, from-files target slot_size os next)))
    (omega (arith, take-cuts target slot_size n (size_of o.content) t)))
  where
    n : ℕ
    n = shard_for o.content

    next : Tally
    next = taking target slot_size (shard_for o.content) (size_of o.content) t

    split : Split
    split = joining o (shard_for o.content) (cut_off target (shard_for o.content) s)

    regroup : (q : ℕ) → with-op has (piece_in n next) o q ++ in_piece q (pieces_from target slot_size os next) os
        ≡ has q ++ in_piece q (piece_in n next ∷ pieces_from target slot_size os next) (o ∷ os)
    regroup q = go (eqb (piece_in n next) q)
      where
        rest : List Op
        rest = in_piece q (pieces_from target slot_size os next) os

        go : (b : Bool) → (has q ++ pick b (o ∷ []) []) ++ rest ≡ has q ++ pick b (o ∷ rest) rest
        go true = append_assoc (has q) (o ∷ []) rest
        go false = ap (λ (l : List Op). l ++ rest) (append-nil (has q))

-- ---- the files that come out
-- what is left of the shards from i on
rests-made : (has : ℕ → List Op) (i : ℕ) (ss : List Shard) (rs : List ℕ) → length ss ≡ length rs
    → ((k : ℕ) → k < length ss → (get_or ss k no_entries).ops ≡ has (piece_no (i + k) (get_or rs k 0)))
    → keep has_entries (map (λ (s : Shard). s.ops) ss) ≡ map has (rests_from i (map shard_count ss) rs)
unfolding keep rests_from rest_of
rests-made has i [] rs e h = refl
rests-made has i (s ∷ ss) [] e h = absurd (omega (arith, e))
rests-made has i (s ∷ ss) (r ∷ rs) e h =
    let first : s.ops ≡ has (piece_no i r) = h 0 (omega arith) ∙ ap (λ (k : ℕ). has (piece_no k r)) (add-zero i) in
    go s.ops first
    (rests-made has (suc i) ss rs (omega (arith, e))
    (λ k small. let there : i + suc k ≡ suc i + k = omega arith in h (suc k) (omega arith) ∙ ap (λ (m : ℕ). has (piece_no m (get_or rs k 0))) there))
  where
    rest : List ℕ
    rest = rests_from (suc i) (map shard_count ss) rs

    left : List (List Op)
    left = keep has_entries (map (λ (s : Shard). s.ops) ss)

    go : (f : List Op) → f ≡ has (piece_no i r) → left ≡ map has rest → pick (has_entries f) (f ∷ left) left ≡ map has (pick (eqb (length f) 0) [] (piece_no i r ∷ []) ++ rest)
    go [] e ih = ih
    go (o ∷ os) e ih = rw (ne_eqb (suc (length os)) 0 (λ z. omega arith)) (ap₂ (λ (f : List Op) (fs : List (List Op)). f ∷ fs) e ih)

empty-made : Pieces (λ (q : ℕ). []) (record { shards = replicate 65 no_entries; fragments = [] }) empty_tally
empty-made = record {
  shards = λ n low. ap (λ (s : Shard). s.ops) (get_or-replicate 65 n no_entries no_entries low);
  fragments = refl;
  fresh = λ q later. refl;
  past = tt;
  distinct = tt;
  long = (length-replicate 65 no_entries, length-replicate {A = ℕ} 65 0);
}

-- where no more than 256 fragments were cut: each file is the operations of one piece, in order
pub split-files : (target slot_size : ℕ) (ops : List Op) → (tally_of target slot_size ops).totals.files ≤ 256
    → files_of target ops ≡ map (λ (q : ℕ). in_piece q (pieces_of target slot_size ops) ops) (order_of (tally_of target slot_size ops))
unfolding files_of tally_of pieces_of order_of
split-files target slot_size ops room =
    let split = split_from target ops (record { shards = replicate 65 no_entries; fragments = [] }) in
    let t = tally_from target slot_size ops empty_tally in
    let has : ℕ → List Op = λ q. in_piece q (pieces_from target slot_size ops empty_tally) ops in
    let told = split-told target slot_size 0 ops _ _ (empty-told slot_size) in
    let made = split-made (λ (q : ℕ). []) target slot_size 0 ops _ _ (empty-told slot_size) empty-made (omega (arith, length-replicate {A = ℕ} 256 0)) in
    let same : length split.shards ≡ length t.rounds = omega (arith, made.long.0, made.long.1) in
    let rests = rests-made has 0 split.shards t.rounds same (λ k small. rw (zero-add k) (made.shards k (omega (arith, made.long.0)))) in
    ap₂ (λ (xs ys : List (List Op)). xs ++ ys) (rests ∙ ap (λ (cs : List ℕ). map has (rests_from 0 cs t.rounds)) (sym told.counts)) made.fragments
    ∙ sym (map-append has (rests_from 0 t.counts t.rounds) (take t.totals.files t.cuts))

-- ---- no two files have one number
-- what is left of the shards from n on is of these shards, in their present rounds
rests-present : (n : ℕ) (cs rs : List ℕ) → n + length cs ≤ 65 → All (λ (q : ℕ). (n ≤ q % 65) × (q / 65 ≡ get_or rs (q % 65 - n) 0)) (rests_from n cs rs)
unfolding rests_from rest_of
rests-present n [] rs h = tt
rests-present n (c ∷ cs) [] h = tt
rests-present n (c ∷ cs) (r ∷ rs) h = go (eqb c 0) (all_map _ _ (rests_from (suc n) cs rs) later (rests-present (suc n) cs rs (omega arith)))
  where
    Present : ℕ → Type 0
    Present q = (n ≤ q % 65) × (q / 65 ≡ get_or (r ∷ rs) (q % 65 - n) 0)

    later : (q : ℕ) → (suc n ≤ q % 65) × (q / 65 ≡ get_or rs (q % 65 - suc n) 0) → Present q
    later q w =
        let on : q % 65 - n ≡ suc (q % 65 - suc n) = omega (arith, w.0) in
        (omega (arith, w.0), w.1 ∙ ap (λ (k : ℕ). get_or (r ∷ rs) k 0) (sym on))

    here : Present (piece_no n r)
    here =
        let none : piece_no n r % 65 - n ≡ 0 = omega arith in
        (omega arith, piece-round n r (omega arith) ∙ ap (λ (k : ℕ). get_or (r ∷ rs) k 0) (sym none))

    go : (b : Bool) → All Present (rests_from (suc n) cs rs) → All Present (pick b [] (piece_no n r ∷ []) ++ rests_from (suc n) cs rs)
    go true a = a
    go false a = (here, a)

rests-distinct : (n : ℕ) (cs rs : List ℕ) → n + length cs ≤ 65 → Distinct (rests_from n cs rs)
unfolding rests_from rest_of
rests-distinct n [] rs h = tt
rests-distinct n (c ∷ cs) [] h = tt
rests-distinct n (c ∷ cs) (r ∷ rs) h = go (eqb c 0) (rests-present (suc n) cs rs (omega arith)) (rests-distinct (suc n) cs rs (omega arith))
  where
    rest : List ℕ
    rest = rests_from (suc n) cs rs

    go : (b : Bool) → All (λ (q : ℕ). (suc n ≤ q % 65) × (q / 65 ≡ get_or rs (q % 65 - suc n) 0)) rest → Distinct rest → Distinct (pick b [] (piece_no n r ∷ []) ++ rest)
    go true a d = d
    go false a d = (all_map _ _ rest (λ q w e. omega (arith, w.0, piece-shard n r (omega arith), e)) a, d)

-- where no more than 256 fragments were cut: a shard's present round is none of those that were cut
pub order-distinct : (target slot_size : ℕ) (ops : List Op) → let t = tally_of target slot_size ops in t.totals.files ≤ 256 → length t.counts ≡ 65 → Distinct (order_of t)
unfolding tally_of order_of
order-distinct target slot_size ops room shards =
    let t = tally_from target slot_size ops empty_tally in
    let made = split-made (λ (q : ℕ). []) target slot_size 0 ops _ _ (empty-told slot_size) empty-made (omega (arith, length-replicate {A = ℕ} 256 0)) in
    let cuts = take t.totals.files t.cuts in
    let few : 0 + length t.counts ≤ 65 = omega (arith, shards) in
    distinct-both (rests_from 0 t.counts t.rounds) cuts (rests-distinct 0 t.counts t.rounds few) made.distinct
    (all_map _ _ (rests_from 0 t.counts t.rounds)
    (λ x present. all_map _ _ cuts (λ y before e. older t.rounds x y present.1 before e) made.past)
    (rests-present 0 t.counts t.rounds few))
  where
    older : (rs : List ℕ) (x y : ℕ) → x / 65 ≡ get_or rs (x % 65 - 0) 0 → y / 65 < get_or rs (y % 65) 0 → x ≡ y → ⊥
    older rs x y present before e =
        let none : x % 65 - 0 ≡ x % 65 = omega arith in
        omega (arith, rw (← e) at before, present ∙ ap (λ (k : ℕ). get_or rs k 0) none)
