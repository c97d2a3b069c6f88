-- What a lookup among lsns tells: the laws of the file map, said of the list of lsns.
use Rattle.std.specs.Prelude.{◌≡◌, refl, ◌<◌, ◌≤◌, ◌∷◌, ◌*◌, None, Some}
use Rattle.std.proofs.Common.{ap, ◌∙◌, arith}
use Rattle.rules.specs.Base.{List, [], map, ℕ, zero, suc, length, get_or}
use Rattle.std.proofs.lemmas.List.{length-map}
use Rattle.rules.specs.declared.Record.{Record}
use Rattle.rules.specs.FileMap.{recorded, record_at, file_for}
use Rattle.rules.proofs.FileMapLaws.{file-at, file-none}
use Rattle.file_lists.specs.Lists.{lsns_of, lsn_at}
use Rattle.file_lists.specs.ListLaws.{file-for-lsns}

-- files that have these lsns and nothing else
abbrev bare : ℕ → Record
bare n = recorded (record { lsn = n; trailer_offset = 0; file_size = 0; present_objects = 0; generation = 0 }) 0 0

bare-lsns : (ns : List ℕ) → lsns_of (map bare ns) ≡ ns
bare-lsns [] = refl
bare-lsns (n ∷ ns) = ap (λ (ms : List ℕ). n ∷ ms) (bare-lsns ns)

bare-at : (ns : List ℕ) (k : ℕ) → (record_at (map bare ns) k).label.lsn ≡ get_or ns k 0
bare-at [] k = refl
bare-at (n ∷ ns) zero = refl
bare-at (n ∷ ns) (suc k) = bare-at ns k

-- the greatest lsn whose own location is not above the one sought
pub record IsAt (ns : List ℕ) (location k : ℕ) : Type 0 where
  pub place : k < length ns
  pub used : 0 < get_or ns k 0
  pub low : 2 * get_or ns k 0 ≤ location
  pub most : (j : ℕ) → j < length ns → 2 * get_or ns j 0 ≤ location → get_or ns j 0 ≤ get_or ns k 0

module _ (ns : List ℕ) (location : ℕ) where
  by-records : file_for (map bare ns) location ≡ lsn_at ns location
  by-records = file-for-lsns (map bare ns) location ∙ ap (λ (ms : List ℕ). lsn_at ms location) (bare-lsns ns)

  -- LAW: what is found is that file
  pub lsn-found : (k : ℕ) → lsn_at ns location ≡ Some k → IsAt ns location k
  lsn-found k h =
      let w = file-at (map bare ns) location k (by-records ∙ h) in
      record {
        place = omega (arith, w.place, length-map ns bare);
        used = omega (arith, w.used, bare-at ns k);
        low = omega (arith, w.low, bare-at ns k);
        most = λ j m e. omega (arith, w.most j (omega (arith, length-map ns bare)) (omega (arith, bare-at ns j)), bare-at ns j, bare-at ns k);
      }

  -- LAW: none is found where every file is above
  pub lsn-none : lsn_at ns location ≡ None → (j : ℕ) → j < length ns → 0 < get_or ns j 0 → location < 2 * get_or ns j 0
  lsn-none h j m u =
      omega (arith, file-none (map bare ns) location (by-records ∙ h) j (omega (arith, length-map ns bare)) (omega (arith, bare-at ns j)), bare-at ns j)
