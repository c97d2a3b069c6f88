-- One turn of each loop over the records, and its end.
use mathlib.Core.Path.{◌≡◌, refl, sym, ap, ap₂, ◌∙◌}
use mathlib.Core.Bool.{Bool, true, false}
use mathlib.Core.List.{List, [], ◌∷◌, ◌++◌, append-nil}
use Prim.Native.Nat.{ℕ, suc, ◌+◌, ◌*◌, ◌≤◌, ◌<◌}
use native.Mathlib.Omega.{arith}
use native.Mathlib.Numerals.{add-one}
use lib.ListN.{length, set, take, drop}
use lib.Seq.{drop-cons, take-suc-set, drop-set-lt, append_snoc, take_all, get_or-set_other}
use Rattle.std.proofs.lemmas.List.{set-get_or}
use Rattle.numbers.specs.Choice.{pick}
use Rattle.numbers.specs.LittleEndian.{le_bytes}
use Rattle.rules.specs.declared.Record.{Record}
use Rattle.rules.specs.declared.Claims.{Claims}
use Rattle.rules.proofs.TurnLaws.{left-next, left-none}
use Rattle.rules.specs.FileMap.{empty_record, is_empty, record_at, slots_where}
use Rattle.rules.specs.Stores.{Store, made, stores_of}
use Rattle.rules.specs.Prune.{is_dead, emptied_from}
use Rattle.rules.specs.PruneLaws.{emptying}
use Rattle.prune.specs.Labels.{LabelsIn}

-- ---- records: those before i are done
module _ (claims : Claims) where
  abbrev pub emptied_on : ℕ → List Record → List Record
  emptied_on i rs = take i rs ++ emptied_from claims i (drop i rs)

  pub emptied-next : (i : ℕ) (rs : List Record) → i < length rs
      → emptied_on (i + 1) (set rs i (pick (is_dead claims i (record_at rs i)) empty_record (record_at rs i))) ≡ emptied_on i rs
  unfolding emptied_from
  emptied-next i rs h =
      let r = pick (is_dead claims i (record_at rs i)) empty_record (record_at rs i) in
      rw (add-one i)
      (ap₂ (λ (done : List Record) (rest : List Record). done ++ emptied_from claims (suc i) rest) (take-suc-set rs i r h) (drop-set-lt (suc i) rs i r (omega arith))
      ∙ append_snoc (take i rs) r (emptied_from claims (suc i) (drop (suc i) rs))
      ∙ ap (λ (rest : List Record). take i rs ++ emptied_from claims i rest) (sym (drop-cons rs i empty_record h)))

  -- a dead file's record is emptied, another stays
  pub emptied-here : (i : ℕ) (rs : List Record) → i < length rs → is_dead claims i (record_at rs i) ≡ true → emptied_on (i + 1) (set rs i empty_record) ≡ emptied_on i rs
  emptied-here i rs h e = ap (λ (t : Bool). emptied_on (i + 1) (set rs i (pick t empty_record (record_at rs i)))) (sym e) ∙ emptied-next i rs h

  pub emptied-other : (i : ℕ) (rs : List Record) → i < length rs → is_dead claims i (record_at rs i) ≡ false → emptied_on (i + 1) rs ≡ emptied_on i rs
  emptied-other i rs h e =
      ap (emptied_on (i + 1)) (sym (set-get_or rs i empty_record) ∙ ap (λ (t : Bool). set rs i (pick t empty_record (record_at rs i))) (sym e)) ∙ emptied-next i rs h

  pub emptied-end : (i : ℕ) (rs : List Record) → length rs ≤ i → emptied_on i rs ≡ rs
  unfolding emptied_from
  emptied-end i rs h =
      ap₂ (λ (done : List Record) (rest : List Record). done ++ emptied_from claims i rest) (take_all i rs h) (left-none rs i h) ∙ append-nil rs

  -- before the first slot, or behind them all
  pub emptied-start : (due : Bool) (rs : List Record) → length rs ≡ 256 → emptied_on (pick due 0 256) rs ≡ pick due (emptied_from claims 0 rs) rs
  emptied-start true rs h = refl
  emptied-start false rs h = emptied-end 256 rs (omega arith)

-- ---- stores: those from slot i on
module _ (size : ℕ) (claims : Claims) where
  abbrev pub stores_from : ℕ → List Record → List Store
  stores_from i rs = emptying size (slots_where (is_dead claims) i rs)

  one-first : (i : ℕ) (r : Record) (rs : List Record) → stores_from i (r ∷ rs) ≡ emptying size (pick (is_dead claims i r) (i ∷ []) []) ++ stores_from (suc i) rs
  unfolding slots_where
  one-first i r rs = go (is_dead claims i r)
    where
      go : (t : Bool) → emptying size (pick t (i ∷ slots_where (is_dead claims) (suc i) rs) (slots_where (is_dead claims) (suc i) rs))
          ≡ emptying size (pick t (i ∷ []) []) ++ stores_from (suc i) rs
      go true = refl
      go false = refl

  -- one store for a dead file, none for a slot that stays
  pub stores-next : (i : ℕ) (rs : List Record) (t : Bool) → t ≡ is_dead claims i (record_at rs i) → i < length rs
      → stores_from i (drop i rs) ≡ emptying size (pick t (i ∷ []) []) ++ stores_from (i + 1) (drop (i + 1) rs)
  stores-next i rs t e h =
      ap (stores_from i) (left-next rs i empty_record h)
      ∙ one-first i (record_at rs i) (drop (i + 1) rs)
      ∙ ap₂ (λ (u : Bool) (k : ℕ). emptying size (pick u (i ∷ []) []) ++ stores_from k (drop (i + 1) rs)) (sym e) (sym (add-one i))

  pub stores-end : (i : ℕ) (rs : List Record) → length rs ≤ i → stores_from i (drop i rs) ≡ []
  unfolding slots_where
  stores-end i rs h = ap (stores_from i) (left-none rs i h)

  -- there are no more than records
  pub stores-few : (i : ℕ) (rs : List Record) → length (stores_from i rs) ≤ length rs
  unfolding slots_where
  stores-few i [] = omega arith
  stores-few i (r ∷ rs) = go (is_dead claims i r) (stores-few (suc i) rs)
    where
      go : (t : Bool) → length (stores_from (suc i) rs) ≤ length rs
          → length (emptying size (pick t (i ∷ slots_where (is_dead claims) (suc i) rs) (slots_where (is_dead claims) (suc i) rs))) ≤ suc (length rs)
      go true h = omega arith
      go false h = omega arith

  pub stores-start : (due : Bool) (rs : List Record) → length rs ≡ 256 → stores_from (pick due 0 256) (drop (pick due 0 256) rs) ≡ pick due (stores_from 0 rs) []
  stores-start true rs h = refl
  stores-start false rs h = stores-end 256 rs (omega arith)

  pub all_made : (due : Bool) (rs : List Record) (heap : List ℕ) → length rs ≡ 256 → made (take 256 (pick due (stores_from 0 rs) [])) heap ≡ made (pick due (stores_from 0 rs) []) heap
  all_made due rs heap h = ap (λ (run : List Store). made run heap) (take_all 256 (pick due (stores_from 0 rs) []) (few due))
    where
      few : (t : Bool) → length (pick t (stores_from 0 rs) []) ≤ 256
      few true = omega (arith, stores-few 0 rs)
      few false = omega arith

-- what a dead file's slot takes
pub one_store : (size i : ℕ) → emptying size (i ∷ []) ≡ stores_of (i * size) (le_bytes 1 0)
unfolding stores_of le_bytes
one_store size i = refl

-- ---- labels: those of the slots from i on lie within the heap
pub labels-start : (size m : ℕ) (due : Bool) (rs : List Record) → (due ≡ true → LabelsIn size rs m)
    → (k : ℕ) → pick due 0 256 ≤ k → k < 256 → is_empty (record_at rs k) ≡ false → k * size + 64 ≤ m
labels-start size m true rs low k h q e = low refl k e
labels-start size m false rs low k h q e = absurd (omega arith)

pub labels_next : (size m i : ℕ) (rs : List Record) (x : Record) → ((k : ℕ) → i ≤ k → k < 256 → is_empty (record_at rs k) ≡ false → k * size + 64 ≤ m)
    → (k : ℕ) → i + 1 ≤ k → k < 256 → is_empty (record_at (set rs i x) k) ≡ false → k * size + 64 ≤ m
labels_next size m i rs x low k h q e =
    low k (omega arith) q (ap is_empty (sym (get_or-set_other rs i k x empty_record (λ z. omega arith))) ∙ e)
