-- Seven-bit groups, for any width k: length, round trip, one form for each number, and what is refused.
use Rattle.std.specs.Prelude.{◌≡◌, refl, List, [], ◌∷◌, ◌++◌, Bool, true, false, ◌⊎◌, ℕ, zero, suc, ◌+◌, ◌-◌, ◌*◌, ◌/◌, ◌%◌, ◌^◌, ◌<◌, ◌≤◌, ltb, length, take, drop, get_or, None, Some}
use Rattle.std.proofs.Common.{sym, ap, ◌∙◌, inl, inr, ⊎_elim, arith, pow-suc, lt-ltb, le-ltb, ltb-true, ltb-false, length-take, length-drop, take-append-drop, drop_at, get_or-drop}
use Rattle.std.proofs.lemmas.Option.{same_Some}
use Rattle.numbers.specs.Answers.{Number}
use Rattle.numbers.specs.Choice.{pick}
use Rattle.numbers.specs.LittleEndian.{Bytes, bytes-cons}
use Rattle.numbers.specs.Groups.{groups_of, Groups, said, bad, before, read_groups, bounded, number_in}

-- less or not, for proofs by cases
pub either_way : (a b : ℕ) → (a < b) ⊎ (b ≤ a)
either_way a b = go (ltb a b) refl
  where
    go : (p : Bool) → ltb a b ≡ p → (a < b) ⊎ (b ≤ a)
    go true e = inl (ltb-true a b e)
    go false e = inr (ltb-false a b e)

-- the clauses of the definitions, with facts in the place of tests
groups_none : (n : ℕ) → groups_of zero n ≡ []
unfolding groups_of
groups_none n = refl

pub groups-last : (k n : ℕ) → n < 128 → groups_of (suc k) n ≡ n ∷ []
unfolding groups_of
groups-last k n h = rw (lt-ltb n 128 h)

pub groups-more : (k n : ℕ) → 128 ≤ n → groups_of (suc k) n ≡ (n % 128 + 128) ∷ groups_of k (n / 128)
unfolding groups_of
groups-more k n h = rw (le-ltb n 128 h)

pub read-last : (k b : ℕ) (bs : List ℕ) → b < 128 → read_groups (suc k) (b ∷ bs) ≡ said b 1
unfolding read_groups
read-last k b bs h = rw (lt-ltb b 128 h)

pub read_more : (k b : ℕ) (bs : List ℕ) → 128 ≤ b → read_groups (suc k) (b ∷ bs) ≡ before b (read_groups k bs)
unfolding read_groups
read_more k b bs h = rw (le-ltb b 128 h)

before-some : (b v n : ℕ) → 0 < v → before b (said v n) ≡ said (b - 128 + 128 * v) (suc n)
before-some b zero n h = absurd (omega arith)
before-some b (suc v) n h = refl

none_said : (bs : List ℕ) (v n : ℕ) → read_groups zero bs ≡ said v n → ⊥
unfolding read_groups
none_said bs v n e = let z : ◌≡◌ {A = ℕ} 0 1 = cc in omega arith

end-said : (k v n : ℕ) → read_groups (suc k) [] ≡ said v n → ⊥
unfolding read_groups
end-said k v n e = let z : ◌≡◌ {A = ℕ} 0 1 = cc in omega arith

-- a number takes at most k groups ..
pub groups-length : (k n : ℕ) → length (groups_of k n) ≤ k
unfolding groups_of
groups-length zero n = omega arith
groups-length (suc k) n = ⊎_elim
    (λ l. rw (lt-ltb n 128 l) (omega arith))
    (λ m. rw (le-ltb n 128 m) (omega (arith, groups-length k (n / 128))))
    (either_way n 128)

-- .. and at least one
pub groups-some : (k n : ℕ) → 1 ≤ length (groups_of (suc k) n)
groups-some k n = ⊎_elim (λ l. rw (groups-last k n l) (omega arith)) (λ m. rw (groups-more k n m) (omega arith)) (either_way n 128)

-- shortest: j groups of seven bits that hold n are no fewer
pub groups-least : (k n j : ℕ) → n < 128 ^ suc j → length (groups_of k n) ≤ suc j
groups-least zero n j h = rw (groups_none n) (omega arith)
groups-least (suc k) n zero h =
    let l : n < 128 = omega arith in
    rw (groups-last k n l) (omega arith)
groups-least (suc k) n (suc j) h = ⊎_elim
    (λ l. rw (groups-last k n l) (omega arith))
    (λ m. rw (groups-more k n m) (omega (arith, groups-least k (n / 128) j (omega (arith, pow-suc 128 (suc j))))))
    (either_way n 128)

-- the first group of a number that is not 0 is not 0
pub groups-first : (k n : ℕ) (rest : List ℕ) → 0 < n → 0 < get_or (groups_of (suc k) n ++ rest) 0 0
groups-first k n rest some = ⊎_elim (λ l. rw (groups-last k n l) some) (λ m. rw (groups-more k n m) (omega arith)) (either_way n 128)

-- each group is a byte
pub groups-bytes : (k n : ℕ) → Bytes (groups_of k n)
groups-bytes zero n = rw (groups_none n) (λ i. omega arith)
groups-bytes (suc k) n = ⊎_elim
    (λ l. rw (groups-last k n l) (bytes-cons n [] (omega arith) (λ i. omega arith)))
    (λ m. rw (groups-more k n m) (bytes-cons (n % 128 + 128) (groups_of k (n / 128)) (omega arith) (groups-bytes k (n / 128))))
    (either_way n 128)

round-more : (k n : ℕ) (bs : List ℕ) (l : ℕ) → 128 ≤ n → read_groups k bs ≡ said (n / 128) l → read_groups (suc k) ((n % 128 + 128) ∷ bs) ≡ said n (suc l)
round-more k n bs l m again =
    let top : 128 ≤ n % 128 + 128 = omega arith in
    let some : 0 < n / 128 = omega arith in
    let value : n % 128 + 128 - 128 + 128 * (n / 128) ≡ n = omega arith in
    read_more k (n % 128 + 128) bs top
    ∙ ap (before (n % 128 + 128)) again
    ∙ before-some (n % 128 + 128) (n / 128) l some
    ∙ ap (λ (v : ℕ). said v (suc l)) value

-- round trip: what was written is read back, whatever follows
pub groups-round : (k n : ℕ) (rest : List ℕ) → n < 128 ^ suc k → read_groups (suc k) (groups_of (suc k) n ++ rest) ≡ said n (length (groups_of (suc k) n))
groups-round zero n rest h =
    let l : n < 128 = omega arith in
    rw (groups-last 0 n l) (read-last 0 n rest l)
groups-round (suc k) n rest h = ⊎_elim
    (λ l. rw (groups-last (suc k) n l) (read-last (suc k) n rest l))
    (λ m.
    let less : n / 128 < 128 ^ suc k = omega (arith, pow-suc 128 (suc k)) in
    rw (groups-more (suc k) n m) (round-more (suc k) n (groups_of (suc k) (n / 128) ++ rest) _ m (groups-round k (n / 128) rest less)))
    (either_way n 128)

-- what is read: a number in its one form, from the front of the list
record Read (k : ℕ) (bs : List ℕ) (v n : ℕ) : Type 0 where
  form : take n bs ≡ groups_of k v
  some : 0 < n
  within : n ≤ length bs

behind : (k b : ℕ) (bs : List ℕ) (v n : ℕ) → 128 ≤ b → b < 256 → (g : Groups) → read_groups k bs ≡ g → before b g ≡ said v n
    → ((w j : ℕ) → read_groups k bs ≡ said w j → Read k bs w j) → Read (suc k) (b ∷ bs) v n
behind k b bs v n lo hi bad g e again = absurd (let z : ◌≡◌ {A = ℕ} 0 1 = cc in omega arith)
behind k b bs v n lo hi (said zero j) g e again = absurd (let z : ◌≡◌ {A = ℕ} 0 1 = cc in omega arith)
behind k b bs v n lo hi (said (suc w) j) g e again =
    let ev : b - 128 + 128 * suc w ≡ v = cc in
    let en : suc j ≡ n = cc in
    let low : v % 128 + 128 ≡ b = omega arith in
    let high : v / 128 ≡ suc w = omega arith in
    let rest = again (suc w) j g in
    record {
      form = rw (← en, groups-more k v (omega arith), low, high) (ap (λ (l : List ℕ). b ∷ l) rest.form);
      some = omega arith;
      within = omega arith;
    }

read_is : (k : ℕ) (bs : List ℕ) (v n : ℕ) → read_groups k bs ≡ said v n → Bytes bs → Read k bs v n
read_is zero bs v n e h = absurd (none_said bs v n e)
read_is (suc k) [] v n e h = absurd (end-said k v n e)
read_is (suc k) (b ∷ bs) v n e h = ⊎_elim
    (λ l.
    let f : said b 1 ≡ said v n = sym (read-last k b bs l) ∙ e in
    let ev : b ≡ v = cc in
    let en : 1 ≡ n = cc in
    record { form = rw (← ev, ← en, groups-last k b l) refl; some = omega arith; within = omega arith })
    (λ m. behind k b bs v n m (h 0) (read_groups k bs) refl (sym (read_more k b bs m) ∙ e) (λ w j f. read_is k bs w j f (λ i. h (suc i))))
    (either_way b 128)

-- uniqueness: what is read as v is what is written for v
pub groups-unique : (k : ℕ) (bs : List ℕ) (v n : ℕ) → read_groups k bs ≡ said v n → Bytes bs → take n bs ≡ groups_of k v
groups-unique k bs v n e h = (read_is k bs v n e h).form

-- v stands in s from `at` to `next`: it has at most 64 bits, and the bytes there are its groups
pub record Stands (k : ℕ) (s : List ℕ) (at next v : ℕ) : Type 0 where
  pub fits : v < 2 ^ 64
  pub starts : at ≤ next
  pub ends : next ≤ length s
  pub form : take (next - at) (drop at s) ≡ groups_of k v

stands : (k : ℕ) (s : List ℕ) (at v next : ℕ) → Bytes s → (g : Groups) → read_groups k (drop at s) ≡ g → bounded at g ≡ Some (v, next) → Stands k s at next v
stands k s at v next h bad e f = absurd (let z : ◌≡◌ {A = ℕ} 0 1 = cc in omega arith)
stands k s at v next h (said w n) e f = go (ltb w (2 ^ 64)) refl f
  where
    go : (p : Bool) → ltb w (2 ^ 64) ≡ p → pick {A = Number} p (Some (w, at + n)) None ≡ Some (v, next) → Stands k s at next v
    go false q f = absurd (let z : ◌≡◌ {A = ℕ} 0 1 = cc in omega arith)
    go true q f =
        let same = same_Some _ _ f in
        let ev : w ≡ v = ap (λ (p : ℕ × ℕ). p.0) same in
        let en : at + n ≡ next = ap (λ (p : ℕ × ℕ). p.1) same in
        let small : w < 2 ^ 64 = ltb-true w (2 ^ 64) q in
        let r = read_is k (drop at s) w n e (λ i. rw (get_or-drop at s i 0) (h (at + i))) in
        let count : next - at ≡ n = omega arith in
        record {
          fits = omega arith;
          starts = omega arith;
          ends = omega (arith, length-drop at s);
          form = rw (count, ← ev) r.form;
        }

-- what is read is a number that stands there ..
pub number-stands : (k : ℕ) (s : List ℕ) (at v next : ℕ) → Bytes s → number_in k s at ≡ Some (v, next) → Stands k s at next v
unfolding number_in
number-stands k s at v next h e = stands k s at v next h (read_groups k (drop at s)) refl e

-- .. and a number that stands there is read, where k groups hold it
pub stands-number : (k : ℕ) (s : List ℕ) (at v next : ℕ) → v < 128 ^ suc k → Stands (suc k) s at next v → number_in (suc k) s at ≡ Some (v, next)
unfolding number_in
stands-number k s at v next small st =
    let n = next - at in
    let split : drop at s ≡ groups_of (suc k) v ++ drop n (drop at s) = sym (take-append-drop n (drop at s)) ∙ ap (λ (l : List ℕ). l ++ drop n (drop at s)) st.form in
    let count : length (groups_of (suc k) v) ≡ n = sym (ap length st.form) ∙ length-take n (drop at s) ∙ omega (arith, length-drop at s, st.starts, st.ends) in
    let end : at + n ≡ next = omega arith in
    rw (split, groups-round k v (drop n (drop at s)) small, lt-ltb v (2 ^ 64) st.fits, count, end)

-- The theorem: `number_in 10` says v up to `next` exactly where the shortest form of v, of at most 64 bits, stands there.
pub number-exactly : (s : List ℕ) (at v next : ℕ) → Bytes s
    → (number_in 10 s at ≡ Some (v, next) → Stands 10 s at next v) × (Stands 10 s at next v → number_in 10 s at ≡ Some (v, next))
number-exactly s at v next h = (number-stands 10 s at v next h, λ st. stands-number 9 s at v next (omega (arith, st.fits)) st)

-- what was written is read back, wherever it stands and whatever follows
pub number-back : (s xs rest : List ℕ) (at n : ℕ) → s ≡ xs ++ (groups_of 10 n ++ rest) → length xs ≡ at → n < 2 ^ 64
    → number_in 10 s at ≡ Some (n, at + length (groups_of 10 n))
unfolding number_in
number-back s xs rest at n e l fits =
    let small : n < 128 ^ 10 = omega arith in
    rw (e, drop_at xs (groups_of 10 n ++ rest) at l, groups-round 9 n rest small, lt-ltb n (2 ^ 64) fits)

-- where no number stands, the bytes are refused
pub number-nothing : (k : ℕ) (s : List ℕ) (at : ℕ) → Bytes s → ((v next : ℕ) → Stands k s at next v → ⊥) → number_in k s at ≡ None
number-nothing k s at h none = go (number_in k s at) refl
  where
    go : (r : Number) → number_in k s at ≡ r → r ≡ None
    go (Some (v, next)) e = absurd (none v next (number-stands k s at v next h e))
    go None e = refl

read-unended : (k : ℕ) (bs : List ℕ) → ((i : ℕ) → i < k → i < length bs → 128 ≤ get_or bs i 0) → read_groups k bs ≡ bad
unfolding read_groups
read-unended zero bs h = refl
read-unended (suc k) [] h = refl
read-unended (suc k) (b ∷ bs) h =
    rw (le-ltb b 128 (h 0 (omega arith) (omega arith)), read-unended k bs (λ i l m. h (suc i) (omega arith) (omega arith)))

-- refused: k groups from `at` on, or as many as there are, and none is the last
pub number-unended : (k : ℕ) (s : List ℕ) (at : ℕ) → ((i : ℕ) → i < k → at + i < length s → 128 ≤ get_or s (at + i) 0) → number_in k s at ≡ None
unfolding number_in
number-unended k s at h =
    rw (read-unended k (drop at s) (λ i l m. rw (get_or-drop at s i 0) (h i l (omega (arith, length-drop at s)))))

-- refused: cut short, so that the list ends before the last group
pub number-cut-short : (k : ℕ) (s : List ℕ) (at : ℕ) → ((i : ℕ) → at ≤ i → i < length s → 128 ≤ get_or s i 0) → number_in k s at ≡ None
number-cut-short k s at h = number-unended k s at (λ i l m. h (at + i) (omega arith) m)

-- refused: more than k groups
pub number-long : (k : ℕ) (s : List ℕ) (at : ℕ) → ((i : ℕ) → i < k → 128 ≤ get_or s (at + i) 0) → number_in k s at ≡ None
number-long k s at h = number-unended k s at (λ i l m. h i l)

read-padded : (k b : ℕ) (xs rest : List ℕ) → 128 ≤ b → ((i : ℕ) → i < length xs → 128 ≤ get_or xs i 0) → read_groups k (b ∷ (xs ++ (0 ∷ rest))) ≡ bad
unfolding read_groups
read-padded zero b xs rest lo h = refl
read-padded (suc zero) b [] rest lo h = rw (le-ltb b 128 lo)
read-padded (suc (suc k)) b [] rest lo h = rw (le-ltb b 128 lo)
read-padded (suc k) b (x ∷ xs) rest lo h =
    rw (le-ltb b 128 lo, read-padded k x xs rest (h 0 (omega arith)) (λ i l. h (suc i) (omega arith)))

-- refused: not the shortest form, since a last group of 0 stands behind others
pub number-padded : (k b : ℕ) (s : List ℕ) (at : ℕ) (xs rest : List ℕ) → drop at s ≡ b ∷ (xs ++ (0 ∷ rest)) → 128 ≤ b
    → ((i : ℕ) → i < length xs → 128 ≤ get_or xs i 0) → number_in k s at ≡ None
unfolding number_in
number-padded k b s at xs rest e lo h = rw (e, read-padded k b xs rest lo h)

-- refused: past 64 bits
pub number-large : (k : ℕ) (s : List ℕ) (at v : ℕ) (rest : List ℕ) → drop at s ≡ groups_of (suc k) v ++ rest → 2 ^ 64 ≤ v → v < 128 ^ suc k
    → number_in (suc k) s at ≡ None
unfolding number_in
number-large k s at v rest e large small = rw (e, groups-round k v rest small, le-ltb v (2 ^ 64) large)
