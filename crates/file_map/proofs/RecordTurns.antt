-- One turn of each loop over the records, and its end.
use mathlib.Core.Path.{◌≡◌, refl, sym, ap, ◌∙◌}
use mathlib.Core.Bool.{Bool, true, false, not, cond}
use mathlib.Core.List.{List, [], ◌∷◌, ◌++◌, map, append_assoc, append-nil}
use Prim.Native.Nat.{ℕ, zero, suc, ◌+◌, ◌<◌, ◌≤◌}
use native.Mathlib.Numerals.{add-one}
use native.Mathlib.Omega.{arith}
use native.Mathlib.Nat.{zero-add, add-zero, add_assoc}
use lib.Dec.{ltb}
use Rattle.std.specs.declared.option.Option.TheVariants.{Some, None}
use lib.ListN.{take, get_or, set, length, drop, drop_of_length-le, length-map, length-set}
use lib.Seq.{take-suc, set_at, length-take-le, take_all, drop-cons, get_or-take}
use Rattle.numbers.specs.Choice.{pick}
use Rattle.rules.specs.Base.{sum}
use Rattle.rules.specs.declared.Record.{Record}
use Rattle.rules.specs.declared.Counts.{Counts}
use Rattle.std.proofs.lemmas.Bool.{ltb-false}
use Rattle.std.proofs.lemmas.List.Sums.{prefix_len-le-length}
use Rattle.std.specs.List.{position, position_or_len}
use Rattle.std.specs.Option.{unwrap_or}
use Rattle.rules.specs.FileMap.{empty_record, is_empty, record_at, with_live, slots_where, empty_slots, lowest_empty, file_count}
use Rattle.rules.proofs.FileMapLaws.{where-here, where_next}
use Rattle.rules.proofs.TurnLaws.{left-next, sum-next, sum-end}
use Rattle.rules.specs.Counts.{counts_of}
use Rattle.file_lists.specs.Lists.{with_lives}

-- an array of structs in a goal is a list under a map: its length
pub mapped-length : (X Y : Type 0) (f : X → Y) (l : List X) (n : ℕ) → length (map f l) ≡ n → length l ≡ n
mapped-length X Y f l n p = sym (len l) ∙ p
  where
    len : (l : List X) → length (map f l) ≡ length l
    len [] = refl
    len (x ∷ xs) = ap suc (len xs)

-- ---- the empty slots from i on, of the first n
abbrev pub empty_from : ℕ → ℕ → List Record → List ℕ
empty_from n i rs = slots_where (λ (k : ℕ) (r : Record). is_empty r) i (drop i (take n rs))

module _ (n i : ℕ) (rs : List Record) (h : i < n) (m : n ≤ length rs) where
  rest : drop i (take n rs) ≡ record_at rs i ∷ drop (i + 1) (take n rs)
  rest = left-next (take n rs) i empty_record (rw (length-take-le n rs m) h) ∙ ap (λ (r : Record). r ∷ drop (i + 1) (take n rs)) (get_or-take n rs i empty_record h)

  pub empty-here : is_empty (record_at rs i) ≡ true → empty_from n i rs ≡ i ∷ empty_from n (i + 1) rs
  empty-here e =
      ap (slots_where (λ (k : ℕ) (r : Record). is_empty r) i) rest
      ∙ where-here (λ (k : ℕ) (r : Record). is_empty r) i (record_at rs i) (drop (i + 1) (take n rs)) e
      ∙ ap (λ (k : ℕ). i ∷ slots_where (λ (k : ℕ) (r : Record). is_empty r) k (drop (i + 1) (take n rs))) (sym (add-one i))

  pub empty-next : is_empty (record_at rs i) ≡ false → empty_from n i rs ≡ empty_from n (i + 1) rs
  empty-next e =
      ap (slots_where (λ (k : ℕ) (r : Record). is_empty r) i) rest
      ∙ where_next (λ (k : ℕ) (r : Record). is_empty r) i (record_at rs i) (drop (i + 1) (take n rs)) e
      ∙ ap (λ (k : ℕ). slots_where (λ (k : ℕ) (r : Record). is_empty r) k (drop (i + 1) (take n rs))) (sym (add-one i))

pub empty-start : (n : ℕ) (rs : List Record) → empty_slots n rs ≡ empty_from n 0 rs
unfolding empty_slots
empty-start n rs = refl

pub empty-end : (n i : ℕ) (rs : List Record) → n ≤ i → n ≤ length rs → empty_from n i rs ≡ []
unfolding slots_where
empty-end n i rs h m = ap (slots_where (λ (k : ℕ) (r : Record). is_empty r) i) (drop_of_length-le (take n rs) {i = i} (rw (length-take-le n rs m) h))

-- the first of them is the first empty record's place
pub first-empty : (i n : ℕ) (rs : List Record) → n ≡ i + length rs
    → get_or (slots_where (λ (k : ℕ) (r : Record). is_empty r) i rs) 0 n ≡ i + position_or_len (λ (r : Record). is_empty r) rs
unfolding slots_where
first-empty i n [] e = e
first-empty i n (r ∷ rs) e = go (is_empty r) (first-empty (suc i) n rs (omega arith))
  where
    go : (t : Bool) → get_or (slots_where (λ (k : ℕ) (r : Record). is_empty r) (suc i) rs) 0 n ≡ suc i + position_or_len (λ (r : Record). is_empty r) rs
        → get_or (pick t (i ∷ slots_where (λ (k : ℕ) (r : Record). is_empty r) (suc i) rs) (slots_where (λ (k : ℕ) (r : Record). is_empty r) (suc i) rs)) 0 n
        ≡ i + cond (not t) (1 + position_or_len (λ (r : Record). is_empty r) rs) 0
    go true h = omega arith
    go false h = omega arith

-- a place below the length, or the length
placed : (m n l : ℕ) → m ≤ l → n ≡ 0 + l → unwrap_or (cond (ltb m l) (Some m) None) n ≡ 0 + m
placed m n l h e = go (ltb m l) refl
  where
    go : (b : Bool) → ltb m l ≡ b → unwrap_or (cond b (Some m) None) n ≡ 0 + m
    go true q = omega arith
    go false q = let k = ltb-false m l q in omega arith

pub lowest_position : (n : ℕ) (rs : List Record) → n ≤ length rs → unwrap_or (position (λ (r : Record). is_empty r) (take n rs)) n ≡ lowest_empty n rs
unfolding lowest_empty empty_slots
lowest_position n rs h =
    let e : n ≡ 0 + length (take n rs) = rw (length-take-le n rs h) (omega arith) in
    let p = first-empty 0 n (take n rs) e in
    let w = prefix_len-le-length (λ (r : Record). not (is_empty r)) (take n rs) in
    placed (position_or_len (λ (r : Record). is_empty r) (take n rs)) n (length (take n rs)) w e ∙ sym p

-- ---- the counts, some records having been counted
unfoldable pub counts_from : ℕ → ℕ → ℕ → ℕ → List Record → Counts
counts_from a b p l rs = record {
  files = a + file_count rs;
  bytes = b + sum (λ (r : Record). r.label.file_size) rs;
  present = p + sum (λ (r : Record). r.label.present_objects) rs;
  live = l + sum (λ (r : Record). r.live) rs;
}

pub counts_start : (rs : List Record) → counts_of rs ≡ counts_from 0 0 0 0 rs
unfolding counts_from counts_of
counts_start rs = simp zero-add

pub counts-next : (rs : List Record) (i a b p l files : ℕ) → i < length rs → files ≡ a + pick (is_empty (record_at rs i)) 0 1
    → counts_from a b p l (drop i rs)
    ≡ counts_from files (b + (record_at rs i).label.file_size) (p + (record_at rs i).label.present_objects) (l + (record_at rs i).live) (drop (i + 1) rs)
unfolding counts_from file_count
counts-next rs i a b p l files h e =
    rw e
    (simp (
      sum-next rs i empty_record h (λ (r : Record). pick (is_empty r) 0 1),
      sum-next rs i empty_record h (λ (r : Record). r.label.file_size),
      sum-next rs i empty_record h (λ (r : Record). r.label.present_objects),
      sum-next rs i empty_record h (λ (r : Record). r.live),
      add_assoc,
    ))

pub counts_end : (rs : List Record) (i a b p l : ℕ) → length rs ≤ i → counts_from a b p l (drop i rs) ≡ record { files = a; bytes = b; present = p; live = l }
unfolding counts_from file_count
counts_end rs i a b p l h =
    simp (
      sum-end rs i h (λ (r : Record). pick (is_empty r) 0 1),
      sum-end rs i h (λ (r : Record). r.label.file_size),
      sum-end rs i h (λ (r : Record). r.label.present_objects),
      sum-end rs i h (λ (r : Record). r.live),
      add-zero,
    )

-- ---- a number of each record copied into an array: what stands before i, and zeros
unfoldable pub copied : (Record → ℕ) → List Record → ℕ → List ℕ → List ℕ
copied f rs i ns = map f (take i rs) ++ drop i ns

map_snoc : (f : Record → ℕ) (xs : List Record) (r : Record) → map f (xs ++ (r ∷ [])) ≡ map f xs ++ (f r ∷ [])
map_snoc f [] r = refl
map_snoc f (x ∷ xs) r = ap (λ (l : List ℕ). f x ∷ l) (map_snoc f xs r)

pub copied-start : (f : Record → ℕ) (rs : List Record) (ns : List ℕ) → ns ≡ copied f rs 0 ns
unfolding copied
copied-start f rs ns = refl

pub copied_next : (f : Record → ℕ) (rs : List Record) (i : ℕ) (ns : List ℕ) → i < length rs → i < length ns
    → set (copied f rs i ns) i (f (record_at rs i)) ≡ copied f rs (i + 1) ns
unfolding copied
copied_next f rs i ns h m =
    let front : length (map f (take i rs)) ≡ i = length-map (take i rs) f ∙ length-take-le i rs (omega arith) in
    ap (λ (l : List ℕ). set (map f (take i rs) ++ l) i (f (record_at rs i))) (drop-cons ns i 0 m)
    ∙ set_at (map f (take i rs)) _ (drop (suc i) ns) (f (record_at rs i)) i front
    ∙ sym (append_assoc (map f (take i rs)) (f (record_at rs i) ∷ []) (drop (suc i) ns))
    ∙ ap (λ (l : List ℕ). l ++ drop (suc i) ns) (sym (map_snoc f (take i rs) (record_at rs i)) ∙ ap (map f) (sym (take-suc rs i empty_record h)))
    ∙ ap (λ (n : ℕ). map f (take n rs) ++ drop n ns) (sym (add-one i))

pub copied-end : (f : Record → ℕ) (rs : List Record) (i : ℕ) (ns : List ℕ) → length rs ≤ i → length ns ≤ i → copied f rs i ns ≡ map f rs
unfolding copied
copied-end f rs i ns h m = rw (drop_of_length-le ns m, take_all i rs h) (append-nil (map f rs))

-- the array while i records of 256 are copied
abbrev pub Copying : (Record → ℕ) → List Record → List ℕ → ℕ → List ℕ → Type 0
Copying f rs zeros i ns = (length ns ≡ 256) × (ns ≡ copied f rs i zeros)

module _ (f : Record → ℕ) (rs : List Record) (zeros : List ℕ) (l : length rs ≡ 256) (z : length zeros ≡ 256) where
  pub copying-start : Copying f rs zeros 0 zeros
  copying-start = (z, copied-start f rs zeros)

  module _ (i : ℕ) (ns : List ℕ) (c : Copying f rs zeros i ns) where
    pub copying-next : i < 256 → Copying f rs zeros (i + 1) (set ns i (f (record_at rs i)))
    copying-next h =
        (length-set ns i (f (record_at rs i)) ∙ c.0, ap (λ (ns : List ℕ). set ns i (f (record_at rs i))) c.1 ∙ copied_next f rs i zeros (omega arith) (omega arith))

    pub copying-end : 256 ≤ i → ns ≡ map f rs
    copying-end h = c.1 ∙ copied-end f rs i zeros (omega arith) (omega arith)

-- ---- live counts put into the records up to i
unfoldable pub lives_to : ℕ → List Record → List ℕ → List Record
lives_to i rs ls = with_lives rs (take i ls)

pub lives-start : (rs : List Record) (ls : List ℕ) → rs ≡ lives_to 0 rs ls
unfolding lives_to with_lives
lives-start [] ls = refl
lives-start (r ∷ rs) ls = refl

at_i : (rs : List Record) (ls : List ℕ) (i : ℕ) → i < length rs → i < length ls
    → (record_at (lives_to i rs ls) i ≡ record_at rs i) × (set (lives_to i rs ls) i (with_live (record_at rs i) (get_or ls i 0)) ≡ lives_to (suc i) rs ls)
unfolding lives_to with_lives
at_i [] ls i h m = absurd (omega arith)
at_i (r ∷ rs) [] i h m = absurd (omega arith)
at_i (r ∷ rs) (l ∷ ls) zero h m = (refl, ap (λ (s : List Record). with_live r l ∷ s) (lives-start rs ls))
at_i (r ∷ rs) (l ∷ ls) (suc i) h m =
    let w = at_i rs ls i (omega arith) (omega arith) in
    (w.0, ap (λ (s : List Record). with_live r l ∷ s) w.1)

pub lives-read : (rs : List Record) (ls : List ℕ) (i : ℕ) → i < length rs → i < length ls → record_at (lives_to i rs ls) i ≡ record_at rs i
lives-read rs ls i h m = (at_i rs ls i h m).0

pub lives-next : (rs : List Record) (ls : List ℕ) (i : ℕ) → i < length rs → i < length ls
    → set (lives_to i rs ls) i (with_live (record_at rs i) (get_or ls i 0)) ≡ lives_to (i + 1) rs ls
lives-next rs ls i h m = (at_i rs ls i h m).1 ∙ ap (λ (n : ℕ). lives_to n rs ls) (sym (add-one i))

pub lives-end : (rs : List Record) (ls : List ℕ) (i : ℕ) → length ls ≤ i → lives_to i rs ls ≡ with_lives rs ls
unfolding lives_to
lives-end rs ls i h = ap (with_lives rs) (take_all i ls h)
