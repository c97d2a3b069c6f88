-- What is known of files whose checks are clear.
use Rattle.std.specs.Prelude.{◌≡◌, ◌⊎◌, Bool, ◌∷◌, ◌++◌, ◌+◌, Err, Ok}
use Rattle.std.proofs.Common.{sym, ap, ◌∙◌, inl, inr, arith, leb-false}
use Rattle.rules.specs.Base.{List, [], ℕ, pick, each}
use Rattle.rules.specs.BaseLaws.{All}
use Rattle.rules.proofs.BaseLaws.{all_map}
use Rattle.rules.specs.declared.Entry.{Entry}
use Rattle.rules.specs.declared.Label.{Label}
use Rattle.rules.specs.declared.Refusal.{Refusal}
use Rattle.rules.specs.Refusal.{Test, decide, NoneHolds}
use Rattle.rules.proofs.RefusalLaws.{clear-when, decide-early, decide-late, done-or-refused}
use Rattle.rules.specs.Object.{objects_in}
use Rattle.rules.specs.Trailer.{trailer_tests, entries_in}
use Rattle.rules.specs.SlotFile.{object_part, trailer_part}
use Rattle.rules.specs.Maintenance.{moved_tests, delete_tests, file_tests}
use Rattle.trailer.specs.Entries.{clear-fits}
use Rattle.gc_group.specs.Checks.{entry_tests, Whole}
use Rattle.gc_group.proofs.Checks.{moved-whole, file-tests}
use Rattle.gc_group.specs.Clear.{SumFits, Clear}

-- both parts of a list of tests are clear
pub clear_both : (xs ys : List Test) → decide (xs ++ ys) ≡ Ok tt → (decide xs ≡ Ok tt) × (decide ys ≡ Ok tt)
clear_both xs ys e = go (done-or-refused (decide xs))
  where
    go : (decide xs ≡ Ok tt) ⊎ ((r : Refusal) × (decide xs ≡ Err r)) → (decide xs ≡ Ok tt) × (decide ys ≡ Ok tt)
    go (inl d) = (d, sym (decide-late xs ys d) ∙ e)
    go (inr (r, d)) = absurd (let q : Err r ≡ (Ok tt) = sym (decide-early xs ys r d) ∙ e in let z : ◌≡◌ {A = ℕ} 0 1 = cc in omega arith)

-- and every one of many
pub clear-each : {A : Type 0} (f : A → List Test) (xs : List A) → decide (each f xs) ≡ Ok tt → All (λ (x : A). decide (f x) ≡ Ok tt) xs
unfolding each
clear-each f [] e = tt
clear-each f (x ∷ xs) e = let w = clear_both (f x) (each f xs) e in (w.0, clear-each f xs w.1)

entry-clear : (lsn : ℕ) (table : List Entry) (e : Entry) → decide (entry_tests lsn table e) ≡ Ok tt → SumFits lsn e
unfolding entry_tests delete_tests NoneHolds
entry-clear lsn table e h d = leb-false _ _ (clear-when (delete_tests lsn table e) (ap (λ (t : Bool). decide (pick t (delete_tests lsn table e) [])) (sym d) ∙ h)).0

-- a file that passes
module _ (limit : ℕ) (table : List Entry) (r : Label) (slot : List ℕ) (e : decide (file_tests limit table r slot) ≡ Ok tt) where
  parts : (decide (trailer_tests (trailer_part r slot)) ≡ Ok tt)
      × (decide (each (moved_tests limit table) (objects_in (object_part r slot)) ++ each (entry_tests r.lsn table) (entries_in (trailer_part r slot))) ≡ Ok tt)
  parts = clear_both (trailer_tests (trailer_part r slot)) _ (ap decide (sym (file-tests limit table r slot)) ∙ e)

  -- each of its objects is whole, mapped, below the limit, and has its checksum
  pub file-whole : All (Whole limit table) (objects_in (object_part r slot))
  file-whole =
      all_map _ (Whole limit table) (objects_in (object_part r slot)) (λ o d. moved-whole limit table o d)
      (clear-each (moved_tests limit table) (objects_in (object_part r slot)) (clear_both (each (moved_tests limit table) (objects_in (object_part r slot))) _ parts.1).0)

  pub file-clear : Clear r slot
  file-clear = record {
    entries = clear-fits (trailer_part r slot) parts.0;
    deletes = all_map _ (SumFits r.lsn) (entries_in (trailer_part r slot)) (λ d h. entry-clear r.lsn table d h)
        (clear-each (entry_tests r.lsn table) (entries_in (trailer_part r slot)) (clear_both (each (moved_tests limit table) (objects_in (object_part r slot))) _ parts.1).1);
  }
