-- Request P8: "a numbered run of single-byte stores" for each call of demand 3, accepted or refused; a call changes the heap by its run alone.
use Rattle.std.specs.Prelude.{◌∷◌, ◌++◌, ◌+◌, ◌^◌}
use Rattle.rules.specs.Base.{List, [], ℕ, pick}
use Rattle.theory.specs.Types.{Refusal, Limits, Answer}
use Rattle.rules.specs.Refusal.{◌gives◌, decide, after}
use Rattle.rules.specs.Ops.{Op, settled}
use Rattle.rules.specs.Batch.{batch_in, ops_of}
use Rattle.rules.specs.Condition1.{refused1}
use Rattle.rules.specs.Stores.{Store}
use Rattle.rules.specs.Install.{new_label, new_lsn, stores_for, installed}
use Rattle.rules.specs.Write.{new_files, write_tests}
use Rattle.rules.specs.Prune.{prune_stores}
use Rattle.rules.specs.Maintenance.{group, found, files_of, group_tests}
use Rattle.rules.specs.TwoCalls.{too_few, rewrite_tests}
use Rattle.rules.specs.World.{World}
use Rattle.history_theory.specs.History.{Call, write, rewrite, prune, reopen, quiet}

-- file by file: "file, then label bytes 2 to 64, then label byte 1" of each (`Stores.file_stores`)
unfoldable pub files_run : ℕ → ℕ → World → List (List Op) → List Store
files_run bit generation w [] = []
files_run bit generation w (f ∷ fs) = stores_for (new_label (new_lsn bit w) generation f) w f ++ files_run bit generation (installed bit generation w f) fs

-- a call that 1 or another number refuses stores nothing
abbrev pub unless_refused : {A : Type 0} → Answer → List A → List A
unless_refused a run = after a (λ (r : Refusal). []) run

-- a write's: its file's, if it makes one
unfoldable pub write_run : World → List ℕ → List Store
write_run w bytes = unless_refused (decide (write_tests w bytes)) (files_run (2 ^ 62) 0 w (new_files (settled (ops_of (batch_in bytes)))))

-- "pruning is one store per file"
unfoldable pub prune_run : World → List Store
prune_run w = unless_refused (decide (refused1 w gives Limits ∷ [])) (prune_stores w)

-- a rewritten group's: its files', in order
unfoldable pub group_run : ℕ → List ℕ → World → List Store
group_run generation slots w =
    let files = files_of w.settings.target_file_size (found w slots) in
    unless_refused (decide (group_tests w slots files)) (files_run 0 generation w files)

-- a generation's: none where its group has too few files
unfoldable pub generation_run : World → ℕ → ℕ → ℕ → List Store
generation_run w generation mark count =
    let slots = group w generation mark count in
    pick (too_few w slots) [] (group_run generation slots w)

-- a rewrite's: the named generation's
unfoldable pub rewrite_run : World → ℕ → ℕ → ℕ → ℕ → List Store
rewrite_run w room generation mark count = unless_refused (decide (rewrite_tests w room generation)) (generation_run w generation mark count)

-- the numbered run of a call
abbrev pub run_of : World → Call → List Store
run_of w (write bytes) = write_run w bytes
run_of w (rewrite room g mark count) = rewrite_run w room g mark count
run_of w prune = prune_run w
run_of w reopen = []
run_of w (quiet q) = []
