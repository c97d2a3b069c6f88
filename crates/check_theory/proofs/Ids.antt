-- "More distinct ids in sound slots than the table holds": the ids that trailers mention, and the entries of the table that a reopening makes.
use Rattle.std.specs.Prelude.{◌≡◌, refl, ◌<◌, ◌≤◌, ◌∷◌, ◌+◌, ◌*◌, None, Some}
use Rattle.std.proofs.Common.{subst, inl, inr, arith}
use Rattle.std.proofs.lemmas.List.{length-map}
use Rattle.rules.specs.Base.{List, [], ℕ, suc, length}
use Rattle.rules.specs.BaseLaws.{All}
use Rattle.rules.proofs.BaseLaws.{all_map}
use Rattle.rules.specs.FileMapLaws.{Among}
use Rattle.rules.specs.SlotFile.{View}
use Rattle.rules.specs.Table.{lookup}
use Rattle.rules.specs.TableLaws.{Rising, rise, Has}
use Rattle.rules.proofs.TableLaws.{lookup-has, has-lookup}
use Rattle.rules.specs.Reopen.{files_in, table_of}
use Rattle.theory.specs.Types.{Entry, Held}
use Rattle.theory.proofs.Lists.{among-all}
use Rattle.theory.specs.Newest.{Newest}
use Rattle.theory.specs.Places.{rows_of}
use Rattle.theory.proofs.Places.{stands-has, has-stands}
use Rattle.theory.proofs.Sound.{newest-table, rising-table}
use Rattle.check_theory.specs.Lists.{Different}
use Rattle.check_theory.proofs.Lists.{no_more}
use Rattle.check_theory.specs.Ids.{Mentions, IdsFit, MoreIds, ids_in}

has-among : (es : List Entry) (x l : ℕ) → Has es x l → Among (ids_in es) x
has-among [] x l h = absurd h
has-among (e ∷ es) x l (inl (a, b)) = inl a
has-among (e ∷ es) x l (inr h) = inr (has-among es x l h)

among-has : (es : List Entry) (x : ℕ) → Among (ids_in es) x → (l : ℕ) × Has es x l
among-has [] x h = absurd h
among-has (e ∷ es) x (inl a) = (e.location, inl (a, refl))
among-has (e ∷ es) x (inr h) = let w = among-has es x h in (w.0, inr w.1)

-- rising ids differ
from-least : (f : ℕ) (es : List Entry) → Rising f es → All (λ (x : ℕ). f ≤ x) (ids_in es)
from-least f [] r = tt
from-least f (e ∷ es) (rise a r) = (a, all_map (λ (x : ℕ). suc e.id ≤ x) (λ (x : ℕ). f ≤ x) (ids_in es) (λ x h. omega arith) (from-least (suc e.id) es r))

rising-different : (f : ℕ) (es : List Entry) → Rising f es → Different (ids_in es)
rising-different f [] r = tt
rising-different f (e ∷ es) (rise a r) =
    (all_map (λ (x : ℕ). suc e.id ≤ x) (λ (x : ℕ). e.id ≡ x → ⊥) (ids_in es) (λ x h q. omega arith) (from-least (suc e.id) es r), rising-different (suc e.id) es r)

module _ (views : List View) where
  -- an id that a trailer mentions is in the table
  mentioned-among : (x : ℕ) → Mentions views x → Among (ids_in (table_of (files_in views))) x
  mentioned-among x m = go (lookup (table_of (files_in views)) x) refl (newest-table views x)
    where
      go : (h : Held) → lookup (table_of (files_in views)) x ≡ h → Newest (Has (rows_of views) x) h → Among (ids_in (table_of (files_in views))) x
      go (Some l) e n = has-among (table_of (files_in views)) x l (lookup-has (table_of (files_in views)) x l e)
      go None e n =
          absurd (n (m.location + 2 * m.file.label.lsn)
          (stands-has views x (m.location + 2 * m.file.label.lsn) m.slot
          (record { file = m.file; raw = m.location; shows = m.shows; entry = m.entry; located = refl })))

  -- and the table has no other
  among-mentioned : (x : ℕ) → Among (ids_in (table_of (files_in views))) x → Mentions views x
  among-mentioned x a =
      let h = among-has (table_of (files_in views)) x a in
      let n = subst (Newest (Has (rows_of views) x)) (has-lookup 0 (table_of (files_in views)) (rising-table views) x h.0 h.1) (newest-table views x) in
      let z = has-stands views x h.0 n.0 in
      record { slot = z.0; file = z.1.file; location = z.1.raw; shows = z.1.shows; entry = z.1.entry }

  -- LAW: the table has an entry for each
  pub ids-fit : (n : ℕ) → length (table_of (files_in views)) ≤ n → IdsFit n views
  ids-fit n room ids d a =
      let m = no_more ids (ids_in (table_of (files_in views))) d (all_map (Mentions views) (Among (ids_in (table_of (files_in views)))) ids mentioned-among a) in
      let l = length-map (table_of (files_in views)) (λ (e : Entry). e.id) in
      omega arith

  -- LAW: and no more
  pub fit-ids : (n : ℕ) → IdsFit n views → length (table_of (files_in views)) ≤ n
  fit-ids n fit =
      let t = ids_in (table_of (files_in views)) in
      let m = fit t (rising-different 0 (table_of (files_in views)) (rising-table views)) (among-all (Mentions views) t among-mentioned) in
      let l = length-map (table_of (files_in views)) (λ (e : Entry). e.id) in
      omega arith

  -- LAW: more entries than n: more ids than n
  pub more-ids : (n : ℕ) → n < length (table_of (files_in views)) → MoreIds n views
  more-ids n h =
      let t = ids_in (table_of (files_in views)) in
      let l = length-map (table_of (files_in views)) (λ (e : Entry). e.id) in
      record { ids = t; different = rising-different 0 (table_of (files_in views)) (rising-table views); mentioned = among-all (Mentions views) t among-mentioned; more = omega arith }

  -- LAW: and back
  pub ids_more : (n : ℕ) → MoreIds n views → n < length (table_of (files_in views))
  ids_more n m = let l = ids-fit (length (table_of (files_in views))) (omega arith) m.ids m.different m.mentioned in let h = m.more in omega arith
