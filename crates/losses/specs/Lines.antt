-- Lines told one behind the other, each into its two words of the lent report, and the slots that they name.
use Rattle.std.specs.Prelude.{◌≡◌, refl, ◌≤◌, ◌∷◌, ◌++◌, ◌+◌, ◌*◌, Err, None, Ok, Some}
use Rattle.std.proofs.Math.Path.{sym}
use Rattle.std.proofs.Common.{ap, ap₂, ◌∙◌, subst, arith, add-zero, zero-add, length-append, length-set}
use Rattle.numbers.specs.Parts.{front, put_at, put_front, put-none, put_step, put-put}
use Rattle.rules.specs.Base.{List, [], map, ℕ, zero, suc, length, get_or, drop, set, each}
use Rattle.rules.specs.BaseLaws.{All}
use Rattle.rules.proofs.BaseLaws.{each_append}
use Rattle.rules.specs.SlotFile.{View, empty, damaged, holds}
use Rattle.slot_file.specs.Slots.{shown_by}
use Rattle.losses.specs.Types.{SlotAnswer, Loss}
use Rattle.losses.specs.Salvage.{loss, own_loss, loss_words}

-- ---- definitions
-- the line of a slot by what it shows
abbrev pub loss_shown : ℕ → SlotAnswer → List Loss
loss_shown slot (Err r) = loss slot r ∷ []
loss_shown slot (Ok shown) = []

-- behind k lines these were told; so many there are now
pub record Reports (k : ℕ) (xs : List Loss) (before after : List ℕ) (n : ℕ) : Type 0 where
  pub count : n ≡ k + length xs
  pub words : after ≡ put_at before (2 * k) (each loss_words xs)

-- of all lines behind k the first are told, n lines stand there, and the rest is still to be told
pub record Going (k : ℕ) (all : List Loss) (before : List ℕ) (n : ℕ) (rest : List Loss) (now : List ℕ) : Type 0 where
  pub count : n + length rest ≡ k + length all
  pub words : put_at now (2 * n) (each loss_words rest) ≡ put_at before (2 * k) (each loss_words all)

-- the slots of the first lines
unfoldable pub slots_told : ℕ → List ℕ → List ℕ
slots_told zero words = []
slots_told (suc n) words = get_or words 0 0 ∷ slots_told n (drop 2 words)

-- each of these slots has its label within the heap
abbrev pub LabelsIn : ℕ → List ℕ → ℕ → Type 0
LabelsIn size slots heap_len = All (λ (slot : ℕ). slot * size + 64 ≤ heap_len) slots

-- ---- one slot
pub own-shown : (slot : ℕ) (v : View) → loss_shown slot (shown_by v) ≡ own_loss slot v
own-shown slot empty = refl
own-shown slot (damaged r) = refl
own-shown slot (holds f) = refl

-- ---- one behind the other
-- two words each
pub words-length : (xs : List Loss) → length (each loss_words xs) ≡ 2 * length xs
unfolding each
words-length [] = refl
words-length (x ∷ xs) = omega (arith, words-length xs)

-- some lines, and others behind them
put-lines : (k m : ℕ) (xs ys : List Loss) (words : List ℕ) → m ≡ k + length xs → 2 * k ≤ length words
    → put_at (put_at words (2 * k) (each loss_words xs)) (2 * m) (each loss_words ys) ≡ put_at words (2 * k) (each loss_words (xs ++ ys))
put-lines k m xs ys words e h =
    let at : 2 * m ≡ 2 * k + length (each loss_words xs) = omega (arith, words-length xs) in
    ap (λ (j : ℕ). put_at (put_at words (2 * k) (each loss_words xs)) j (each loss_words ys)) at
    ∙ put-put words (2 * k) (each loss_words xs) (each loss_words ys) h
    ∙ ap (put_at words (2 * k)) (sym (each_append loss_words xs ys))

-- nothing is told
pub reports-none : (k : ℕ) (words : List ℕ) → Reports k [] words words k
unfolding each
reports-none k words = record { count = sym (add-zero k); words = sym (put-none words (2 * k)) }

-- the same lines
pub reports-as : {k : ℕ} {xs ys : List Loss} {words next : List ℕ} {n : ℕ} → xs ≡ ys → Reports k xs words next n → Reports k ys words next n
reports-as {k} {xs} {ys} {words} {next} {n} e t = subst (λ (zs : List Loss). Reports k zs words next n) e t

-- some lines, and then others
pub reports-then : {k : ℕ} {xs ys : List Loss} {words next last : List ℕ} {m n : ℕ} → 2 * k ≤ length words
    → Reports k xs words next m → Reports m ys next last n → Reports k (xs ++ ys) words last n
reports-then {k} {xs} {ys} {words} {m = m} h a b = record {
  count = omega (arith, a.count, b.count, length-append xs ys);
  words = b.words ∙ ap (λ (w : List ℕ). put_at w (2 * m) (each loss_words ys)) a.words ∙ put-lines k m xs ys words a.count h;
}

-- two words stored one behind the other
put_two : (ws : List ℕ) (i a b : ℕ) → i + 2 ≤ length ws → set (set ws i a) (i + 1) b ≡ put_at ws i (a ∷ b ∷ [])
put_two ws i a b h =
    let one = set ws i a in
    sym (put-none (set one (i + 1) b) (i + 1 + 1))
    ∙ put_step one (i + 1) b [] (omega (arith, length-set ws i a))
    ∙ put_step ws i a (b ∷ []) (omega arith)

-- one line
pub reports-one : (k : ℕ) (x : Loss) (words : List ℕ) (i a b : ℕ) → i ≡ 2 * k → 2 * k + 2 ≤ length words → a ∷ b ∷ [] ≡ loss_words x
    → Reports k (x ∷ []) words (set (set words i a) (i + 1) b) (k + 1)
unfolding each
reports-one k x words i a b at h e = record {
  count = omega arith;
  words = put_two words i a b (omega arith) ∙ ap₂ (put_at words) at e;
}

-- told from the first line on, they are the report's front
pub reports-front : {xs : List Loss} {words after : List ℕ} {n : ℕ} → Reports 0 xs words after n → after ≡ front (each loss_words xs) words
reports-front {xs} {words} t = t.words ∙ put_front words (each loss_words xs)

-- ---- what is left to tell
module _ {k : ℕ} {all : List Loss} {before : List ℕ} where
  -- all of it
  pub going_start : Going k all before k all before
  going_start = record { count = refl; words = refl }

  module _ {n : ℕ} {now : List ℕ} where
    -- the same lines
    pub going-as : {rest left : List Loss} → rest ≡ left → Going k all before n rest now → Going k all before n left now
    going-as e g = subst (λ (zs : List Loss). Going k all before n zs now) e g

    -- some of them are told
    pub going_on : {xs rest : List Loss} {m : ℕ} {next : List ℕ} → 2 * n ≤ length now → Going k all before n (xs ++ rest) now
        → Reports n xs now next m → Going k all before m rest next
    going_on {xs} {rest} {m} h g t = record {
      count = omega (arith, g.count, t.count, length-append xs rest);
      words =
          ap (λ (w : List ℕ). put_at w (2 * m) (each loss_words rest)) t.words
          ∙ put-lines n m xs rest now t.count h
          ∙ g.words;
    }

    -- all of them are
    pub going_end : Going k all before n [] now → Reports k all before now n
    unfolding each
    going_end g = record { count = sym (add-zero n) ∙ g.count; words = sym (put-none now (2 * n)) ∙ g.words }

-- ---- the slots told
pub told-next : (words : List ℕ) (n : ℕ) → slots_told (suc n) words ≡ get_or words 0 0 ∷ slots_told n (drop 2 words)
unfolding slots_told
told-next words n = refl

told-behind : (xs : List Loss) (rest : List ℕ) → slots_told (length xs) (each loss_words xs ++ rest) ≡ map (λ (x : Loss). x.slot) xs
unfolding slots_told each
told-behind [] rest = refl
told-behind (x ∷ xs) rest = ap (λ (ks : List ℕ). x.slot ∷ ks) (told-behind xs rest)

-- they are the lines'
pub told-slots : (xs : List Loss) (words : List ℕ) → slots_told (length xs) (front (each loss_words xs) words) ≡ map (λ (x : Loss). x.slot) xs
unfolding front
told-slots xs words = told-behind xs _

pub reports-slots : {xs : List Loss} {words after : List ℕ} {n : ℕ} → Reports 0 xs words after n → slots_told n after ≡ map (λ (x : Loss). x.slot) xs
reports-slots {xs} {words} t = ap₂ slots_told (t.count ∙ zero-add (length xs)) (reports-front t) ∙ told-slots xs words
