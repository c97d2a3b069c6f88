-- A trailer's entries by number, and how many there are.
use Rattle.std.specs.Prelude.{◌≡◌, refl, List, ℕ, zero, suc, ◌+◌, ◌*◌, ◌<◌, ◌≤◌, length, take, drop, get_or, Ok}
use Rattle.std.proofs.Math.Path.{ap}
use Rattle.std.proofs.Common.{◌∙◌, arith, ltb-false, drop-drop}
use Rattle.std.proofs.Math.ListN.{length-drop}
use Rattle.numbers.specs.LittleEndian.{le_value}
use Rattle.rules.specs.declared.Entry.{Entry}
use Rattle.rules.specs.Refusal.{decide, NoneHolds}
use Rattle.rules.proofs.RefusalLaws.{clear-when}
use Rattle.rules.specs.Trailer.{count_in, trailer_tests, entries_from, entries_in}
use Rattle.rules.proofs.TrailerLaws.{entries_next}
use Rattle.rules.specs.Table.{no_entry}

-- "id 8 and raw relative location 8"
abbrev pub entry_at : List ℕ → Entry
entry_at bytes = record { id = le_value (take 8 bytes); location = le_value (take 8 (drop 8 bytes)) }

entries-many : (k : ℕ) (bytes : List ℕ) → 16 * k ≤ length bytes → length (entries_from k bytes) ≡ k
unfolding entries_from
entries-many zero bytes h = refl
entries-many (suc k) bytes h =
    ap length (entries_next k bytes (omega arith)) ∙ ap suc (entries-many k (drop 16 bytes) (omega (arith, length-drop 16 bytes)))

entries-get : (k i : ℕ) (bytes : List ℕ) → i < k → 16 * k ≤ length bytes → get_or (entries_from k bytes) i no_entry ≡ entry_at (drop (16 * i) bytes)
unfolding entries_from
entries-get zero i bytes h fit = absurd (omega arith)
entries-get (suc k) zero bytes h fit = rw (entries_next k bytes (omega arith)) refl
entries-get (suc k) (suc i) bytes h fit =
    let on : 16 * suc i ≡ 16 + 16 * i = omega arith in
    rw (entries_next k bytes (omega arith), on, ← drop-drop (16 * i) 16 bytes)
    (entries-get k i (drop 16 bytes) (omega arith) (omega (arith, length-drop 16 bytes)))

module _ (trailer : List ℕ) (fit : 12 + 16 * count_in trailer ≤ length trailer) where
  -- there are as many as the count says
  pub entries-count : length (entries_in trailer) ≡ count_in trailer
  unfolding entries_in
  entries-count = entries-many (count_in trailer) (drop 12 trailer) (omega (arith, length-drop 12 trailer))

  -- entry k stands at 12 + 16 k
  pub entries_at : (k : ℕ) → k < count_in trailer → get_or (entries_in trailer) k no_entry ≡ entry_at (drop (12 + 16 * k) trailer)
  unfolding entries_in
  entries_at k h =
      entries-get (count_in trailer) k (drop 12 trailer) h (omega (arith, length-drop 12 trailer)) ∙ ap entry_at (drop-drop (16 * k) 12 trailer)

-- where 9, 10 and 11 are clear, the entries lie within
pub clear-fits : (trailer : List ℕ) → decide (trailer_tests trailer) ≡ Ok tt → 12 + 16 * count_in trailer ≤ length trailer
unfolding trailer_tests NoneHolds
clear-fits trailer e = ltb-false _ _ (clear-when (trailer_tests trailer) e).1.1.0
