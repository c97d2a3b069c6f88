-- One turn of each loop over the records, and its end.
use mathlib.Core.Path.{◌≡◌}
use mathlib.Core.List.{append-nil}
use Prim.Native.Nat.{◌-◌, ◌*◌, ◌≤◌, ◌<◌}
use native.Mathlib.Omega.{arith}
use native.Mathlib.Numerals.{add-one}
use lib.ListN.{drop_of_length-le}
use lib.Seq.{append_snoc, take-suc-set, take_all, drop-cons}
use Rattle.numbers.specs.Parts.{put_at, put-none, put-put}
use Rattle.std.specs.Prelude.{◌∷◌, ◌++◌, ◌+◌}
use Rattle.rules.specs.Base.{List, [], ℕ, suc, length, get_or, set, take, drop}
use Rattle.rules.specs.FileMap.{empty_record}
use Rattle.rules.specs.declared.Record.{Record}
use Rattle.as_numbers.specs.StateWords.{record_at, records_from, record_words, records_words}
use Rattle.as_numbers.specs.StateLaws.{record-length}

-- ---- from words: the first k records are read, the others are still to be read
module _ (rs : List Record) (ws : List ℕ) (k : ℕ) where
  pub read_next : k < 256 → length rs ≡ 256
      → take (k + 1) (set rs k (record_at ws (8 + 7 * k))) ++ records_from (256 - (k + 1)) ws (8 + 7 * (k + 1)) ≡ take k rs ++ records_from (256 - k) ws (8 + 7 * k)
  unfolding records_from
  read_next h e =
      let r = record_at ws (8 + 7 * k) in
      let left : 256 - k ≡ suc (256 - (k + 1)) = omega arith in
      let far : 8 + 7 * k + 7 ≡ 8 + 7 * (k + 1) = omega arith in
      let first : take (k + 1) (set rs k r) ≡ take k rs ++ (r ∷ []) = rw (add-one k) (take-suc-set rs k r (omega arith)) in
      rw (first, left, far) (append_snoc (take k rs) r (records_from (256 - (k + 1)) ws (8 + 7 * (k + 1))))

  pub read-end : 256 ≤ k → k ≤ 256 → length rs ≡ 256 → take k rs ++ records_from (256 - k) ws (8 + 7 * k) ≡ rs
  unfolding records_from
  read-end h l e =
      let none : 256 - k ≡ 0 = omega arith in
      rw (none, take_all k rs (omega arith)) (append-nil rs)

-- ---- to words: from record k on they are still to be written
module _ (rs : List Record) (ws : List ℕ) (k : ℕ) where
  pub write-next : k < length rs → 8 + 7 * k ≤ length ws
      → put_at (put_at ws (8 + 7 * k) (record_words (get_or rs k empty_record))) (8 + 7 * (k + 1)) (records_words (drop (k + 1) rs)) ≡ put_at ws (8 + 7 * k) (records_words (drop k rs))
  unfolding records_words
  write-next h l =
      let r = get_or rs k empty_record in
      let far : 8 + 7 * (k + 1) ≡ 8 + 7 * k + length (record_words r) = omega (arith, record-length r) in
      let here : drop k rs ≡ r ∷ drop (k + 1) rs = rw (add-one k) (drop-cons rs k empty_record h) in
      rw (far, here) (put-put ws (8 + 7 * k) (record_words r) (records_words (drop (k + 1) rs)) l)

  pub write-end : length rs ≤ k → put_at ws (8 + 7 * k) (records_words (drop k rs)) ≡ ws
  unfolding records_words
  write-end h = rw (drop_of_length-le rs {i = k} h) (put-none ws (8 + 7 * k))
