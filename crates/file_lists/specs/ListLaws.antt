-- What the lists say of the records: a call may look up files in the lsns and count in the live counts, and put the counts back at its end.
use Rattle.std.specs.Prelude.{◌≡◌, refl, ◌∷◌, ◌-◌, None, Some}
use Rattle.std.proofs.Common.{ap, ◌∙◌, arith, length-set}
use Rattle.rules.specs.Base.{List, [], ℕ, zero, suc, length, get_or, set}
use Rattle.rules.specs.declared.Record.{Record}
use Rattle.rules.specs.Types.{Slot}
use Rattle.rules.specs.FileMap.{record_at, with_live, Lead, leads, lead_from, file_for, less_live}
use Rattle.file_lists.specs.Lists.{lsns_of, lives_of, with_lives, leads_lsn, lead_lsn, slot_of, lsn_at, less_at}

-- ---- the lookup goes by lsns only
lead-lsns : (rs : List Record) (i location : ℕ) (b : Lead) → lead_from rs i location b ≡ lead_lsn (lsns_of rs) i location b
unfolding lead_from lead_lsn leads leads_lsn
lead-lsns [] i location b = refl
lead-lsns (r ∷ rs) i location b = lead-lsns rs (suc i) location (leads r i location b)

pub file-for-lsns : (rs : List Record) (location : ℕ) → file_for rs location ≡ lsn_at (lsns_of rs) location
unfolding file_for lsn_at slot_of
file-for-lsns rs location = rw (lead-lsns rs 0 location (record { lsn = 0; slot = 0 })) refl

-- ---- live counts put back
pub lives-back : (rs : List Record) → with_lives rs (lives_of rs) ≡ rs
unfolding with_lives
lives-back [] = refl
lives-back (r ∷ rs) = ap (λ (s : List Record). r ∷ s) (lives-back rs)

-- they change no lsn
pub lsns-with-lives : (rs : List Record) (ls : List ℕ) → lsns_of (with_lives rs ls) ≡ lsns_of rs
unfolding with_lives
lsns-with-lives [] ls = refl
lsns-with-lives (r ∷ rs) [] = refl
lsns-with-lives (r ∷ rs) (l ∷ ls) = ap (λ (ns : List ℕ). r.label.lsn ∷ ns) (lsns-with-lives rs ls)

-- so the same files are found
pub file-for-with-lives : (rs : List Record) (ls : List ℕ) (location : ℕ) → file_for (with_lives rs ls) location ≡ lsn_at (lsns_of rs) location
file-for-with-lives rs ls location = file-for-lsns (with_lives rs ls) location ∙ ap (λ (ns : List ℕ). lsn_at ns location) (lsns-with-lives rs ls)

-- one count changed in the list is one record changed
set-lives : (rs : List Record) (ls : List ℕ) (k v : ℕ) → length ls ≡ length rs
    → set (with_lives rs ls) k (with_live (record_at (with_lives rs ls) k) v) ≡ with_lives rs (set ls k v)
unfolding with_lives
set-lives [] [] k v e = refl
set-lives [] (l ∷ ls) k v e = refl
set-lives (r ∷ rs) [] k v e = absurd (let z : ◌≡◌ {A = ℕ} 0 1 = omega arith in omega arith)
set-lives (r ∷ rs) (l ∷ ls) zero v e = refl
set-lives (r ∷ rs) (l ∷ ls) (suc k) v e = ap (λ (s : List Record). with_live r l ∷ s) (set-lives rs ls k v (omega arith))

live-with-lives : (rs : List Record) (ls : List ℕ) (k : ℕ) → length ls ≡ length rs → (record_at (with_lives rs ls) k).live ≡ get_or ls k 0
unfolding with_lives
live-with-lives [] [] k e = refl
live-with-lives [] (l ∷ ls) k e = absurd (let z : ◌≡◌ {A = ℕ} 0 1 = omega arith in omega arith)
live-with-lives (r ∷ rs) [] k e = absurd (let z : ◌≡◌ {A = ℕ} 0 1 = omega arith in omega arith)
live-with-lives (r ∷ rs) (l ∷ ls) zero e = refl
live-with-lives (r ∷ rs) (l ∷ ls) (suc k) e = live-with-lives rs ls k (omega arith)

-- a live lost in the list is a live lost in the records
pub less-with-lives : (slot : Slot) (rs : List Record) (ls : List ℕ) → length ls ≡ length rs
    → less_live slot (with_lives rs ls) ≡ with_lives rs (less_at slot ls)
less-with-lives (Some k) rs ls e =
    ap (λ (v : ℕ). set (with_lives rs ls) k (with_live (record_at (with_lives rs ls) k) (v - 1))) (live-with-lives rs ls k e) ∙ set-lives rs ls k (get_or ls k 0 - 1) e
less-with-lives None rs ls e = refl

pub length-less : (slot : Slot) (ls : List ℕ) → length (less_at slot ls) ≡ length ls
length-less (Some k) ls = length-set ls k (get_or ls k 0 - 1)
length-less None ls = refl
