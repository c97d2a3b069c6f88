-- Live counts that a file's entries take from the files that held their ids before.
use Rattle.std.specs.Prelude.{◌≡◌, refl, ◌⊎◌, ◌<◌, ◌≤◌, ◌&&◌, ◌∷◌, ◌+◌, ◌*◌, None, Some}
use Rattle.std.proofs.Common.{sym, ◌∙◌, inl, inr, ⊎_elim, arith}
use Rattle.std.proofs.Math.Path.{ap}
use Rattle.rules.specs.Base.{Bool, true, false, List, [], ℕ, suc, length, get_or, drop, leb, ltb, eqb, pick}
use Rattle.std.proofs.lemmas.List.{length-map}
use Rattle.rules.specs.declared.Entry.{Entry}
use Rattle.rules.specs.declared.Record.{Record}
use Rattle.rules.specs.declared.Loaded.{Loaded}
use Rattle.rules.specs.declared.Loaded.TheVariants.{At, DeletedAt, Never}
use Rattle.rules.specs.Types.{Slot}
use Rattle.rules.specs.Ops.{Op, entries_of, size_of}
use Rattle.rules.specs.Table.{load}
use Rattle.rules.specs.FileMap.{Lead, less_live}
use Rattle.rules.specs.Install.{file_holding, losing}
use Rattle.rules.proofs.TurnLaws.{left-next, left-none}
use Rattle.file_lists.specs.Lists.{lsns_of, lives_of, with_lives, leads_lsn, lead_lsn, slot_of, lsn_at, less_at}
use Rattle.file_lists.specs.ListLaws.{file-for-with-lives, less-with-lives, length-less, lives-back}

-- "each replaced location's file, found before the new one is added, loses one live", for a trailer's entries
unfoldable pub losing_by : List Entry → List Entry → List Record → List Record
losing_by table [] rs = rs
losing_by table (e ∷ es) rs = losing_by table es (less_live (file_holding rs (load table e.id)) rs)

-- the slot of a location loaded, by the lsns alone
abbrev pub slot_holding : List ℕ → Loaded → Slot
slot_holding lsns (At l) = lsn_at lsns l
slot_holding lsns (DeletedAt l) = lsn_at lsns l
slot_holding lsns Never = None

-- the same on the list of live counts
unfoldable pub losing_lives : List ℕ → List Entry → List Entry → List ℕ → List ℕ
losing_lives lsns table [] lives = lives
losing_lives lsns table (e ∷ es) lives = losing_lives lsns table es (less_at (slot_holding lsns (load table e.id)) lives)

-- the entries of operations lose what the operations lose
pub losing-entries : (table : List Entry) (position : ℕ) (ops : List Op) (rs : List Record) → losing table ops rs ≡ losing_by table (entries_of position ops) rs
unfolding losing losing_by entries_of
losing-entries table position [] rs = refl
losing-entries table position (o ∷ os) rs =
    losing-entries table (position + size_of o.content) os (less_live (file_holding rs (load table o.id)) rs)

holding-lives : (rs : List Record) (ls : List ℕ) (h : Loaded) → file_holding (with_lives rs ls) h ≡ slot_holding (lsns_of rs) h
holding-lives rs ls (At l) = file-for-with-lives rs ls l
holding-lives rs ls (DeletedAt l) = file-for-with-lives rs ls l
holding-lives rs ls Never = refl

losing-with-lives : (table es : List Entry) (rs : List Record) (ls : List ℕ) → length ls ≡ length rs
    → losing_by table es (with_lives rs ls) ≡ with_lives rs (losing_lives (lsns_of rs) table es ls)
unfolding losing_by losing_lives
losing-with-lives table [] rs ls e = refl
losing-with-lives table (d ∷ es) rs ls e =
    let slot = slot_holding (lsns_of rs) (load table d.id) in
    ap (λ (k : Slot). losing_by table es (less_live k (with_lives rs ls))) (holding-lives rs ls (load table d.id))
    ∙ ap (losing_by table es) (less-with-lives slot rs ls e)
    ∙ losing-with-lives table es rs (less_at slot ls) (length-less slot ls ∙ e)

-- what is counted in the list and put back is what the records lose
pub losing-lives : (table es : List Entry) (rs : List Record) → with_lives rs (losing_lives (lsns_of rs) table es (lives_of rs)) ≡ losing_by table es rs
losing-lives table es rs =
    sym (losing-with-lives table es rs (lives_of rs) (length-map rs (λ (r : Record). r.live))) ∙ ap (losing_by table es) (lives-back rs)

-- a turn of the loop over the entries, and its end
module _ (lsns : List ℕ) (table es : List Entry) (lives : List ℕ) (k : ℕ) where
  pub losing-next : (d : Entry) → k < length es
      → losing_lives lsns table (drop k es) lives ≡ losing_lives lsns table (drop (k + 1) es) (less_at (slot_holding lsns (load table (get_or es k d).id)) lives)
  unfolding losing_lives
  losing-next d h = ap (λ (xs : List Entry). losing_lives lsns table xs lives) (left-next es k d h)

  pub losing-end : length es ≤ k → losing_lives lsns table (drop k es) lives ≡ lives
  unfolding losing_lives
  losing-end h = ap (λ (xs : List Entry). losing_lives lsns table xs lives) (left-none es k h)

-- ---- a slot that is found is one of those that were looked through
lead-slot : (ns : List ℕ) (i location : ℕ) (b : Lead) → (lead_lsn ns i location b ≡ b) ⊎ ((lead_lsn ns i location b).slot < i + length ns)
unfolding lead_lsn leads_lsn
lead-slot [] i location b = inl refl
lead-slot (n ∷ ns) i location b = go (λ l. lead-slot ns (suc i) location l) (ltb b.lsn n && leb (2 * n) location)
  where
    go : ((l : Lead) → (lead_lsn ns (suc i) location l ≡ l) ⊎ ((lead_lsn ns (suc i) location l).slot < suc i + length ns)) → (t : Bool)
        → (lead_lsn ns (suc i) location (pick t (record { lsn = n; slot = i }) b) ≡ b) ⊎ ((lead_lsn ns (suc i) location (pick t (record { lsn = n; slot = i }) b)).slot < i + suc (length ns))
    go on true = inr (⊎_elim (λ e. omega (arith, ap (λ (l : Lead). l.slot) e)) (λ h. omega arith) (on (record { lsn = n; slot = i })))
    go on false = ⊎_elim inl (λ h. inr (omega arith)) (on b)

pub found_within : (ns : List ℕ) (location k : ℕ) → lsn_at ns location ≡ Some k → k < length ns
unfolding lsn_at slot_of
found_within ns location k h = go (lead_lsn ns 0 location start) (lead-slot ns 0 location start) h
  where
    start : Lead
    start = record { lsn = 0; slot = 0 }

    go : (l : Lead) → (l ≡ start) ⊎ (l.slot < 0 + length ns) → slot_of l ≡ Some k → k < length ns
    go l (inl e) q = absurd (let w : None ≡ Some k = sym (rw e refl) ∙ q in let z : ◌≡◌ {A = ℕ} 0 1 = cc in omega arith)
    go l (inr s) q = either (eqb l.lsn 0) q
      where
        either : (t : Bool) → pick t None (Some l.slot) ≡ Some k → k < length ns
        either true w = absurd (let z : ◌≡◌ {A = ℕ} 0 1 = cc in omega arith)
        either false w = let e : l.slot ≡ k = cc in omega arith
