-- "Counts. Files, bytes, present, live, summed over files."
use Rattle.std.specs.Prelude.{◌≡◌, refl, ◌∷◌, ◌+◌}
use Rattle.std.proofs.Common.{ap, ◌∙◌, arith}
use Rattle.rules.specs.Base.{Bool, true, false, not, List, [], ℕ, length, pick, keep, sum}
use Rattle.theory.specs.Types.{Record, Limits}
use Rattle.rules.proofs.RefusalLaws.{decide-none, decide-first, decide-next}
use Rattle.rules.specs.FileMap.{empty_record, is_empty, file_count}
use Rattle.rules.proofs.FileMapLaws.{empty-is}
use Rattle.rules.specs.Condition1.{refused1}
use Rattle.rules.specs.Counts.{counts_of, counts_call}
use Rattle.rules.specs.World.{World, records_of, accepted, refused}

-- the records that are files
abbrev pub files_of : List Record → List Record
files_of rs = keep (λ (r : Record). not (is_empty r)) rs

-- a number that an empty record has as 0: summed over all is summed over files
sum-files : (f : Record → ℕ) → f empty_record ≡ 0 → (rs : List Record) → sum f rs ≡ sum f (files_of rs)
unfolding sum keep
sum-files f z [] = refl
sum-files f z (r ∷ rs) = go (is_empty r) refl (sum-files f z rs)
  where
    go : (b : Bool) → is_empty r ≡ b → sum f rs ≡ sum f (files_of rs) → f r + sum f rs ≡ sum f (pick (not b) (r ∷ files_of rs) (files_of rs))
    go true e ih = let n : f r ≡ 0 = ap f (empty-is r e) ∙ z in omega arith
    go false e ih = omega arith

count-files : (rs : List Record) → file_count rs ≡ length (files_of rs)
unfolding sum keep file_count
count-files [] = refl
count-files (r ∷ rs) = go (is_empty r) (count-files rs)
  where
    go : (b : Bool) → file_count rs ≡ length (files_of rs) → pick b 0 1 + sum (λ (q : Record). pick (is_empty q) 0 1) rs ≡ length (pick (not b) (r ∷ files_of rs) (files_of rs))
    go true ih = omega arith
    go false ih = omega arith

-- LAW: how many files there are, and over them the bytes, the entries present and the live ones; nothing changes
pub counts-sums : (w : World) → refused1 w ≡ false
    → counts_call w
    ≡ record {
      answer =
          accepted
          (length (files_of (records_of w))
          ∷ sum (λ (r : Record). r.label.file_size) (files_of (records_of w))
          ∷ sum (λ (r : Record). r.label.present_objects) (files_of (records_of w))
          ∷ sum (λ (r : Record). r.live) (files_of (records_of w))
          ∷ []);
      world = w;
    }
unfolding counts_call counts_of
counts-sums w f =
    let rs = records_of w in
    let a = count-files rs in
    let b = sum-files (λ (r : Record). r.label.file_size) refl rs in
    let c = sum-files (λ (r : Record). r.label.present_objects) refl rs in
    let d = sum-files (λ (r : Record). r.live) refl rs in
    rw (decide-next (refused1 w) Limits [] f, decide-none) (λ i. record { answer = accepted (a i ∷ b i ∷ c i ∷ d i ∷ []); world = w })

-- LAW: or 1
pub counts-limits : (w : World) → refused1 w ≡ true → counts_call w ≡ record { answer = refused Limits; world = w }
unfolding counts_call
counts-limits w f = rw (decide-first (refused1 w) Limits [] f)
