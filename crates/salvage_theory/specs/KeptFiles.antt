-- Request P9: nothing that could stay was given up: each slot of the second kind meets a file that was kept, and no two kept files meet.
use Rattle.std.specs.Prelude.{◌≡◌, ◌≤◌, ◌∷◌}
use Rattle.rules.specs.Base.{true, List, [], ℕ, set}
use Rattle.rules.specs.BaseLaws.{All}
use Rattle.rules.specs.SlotFile.{File, View, empty, holds}
use Rattle.rules.specs.Reopen.{meets}
use Rattle.theory.specs.Places.{view_at}
use Rattle.check_theory.specs.Lists.{In}
use Rattle.losses.specs.Salvage.{Sound, start_of, end_of, losses_in}
use Rattle.salvage_theory.specs.Types.{Loss}
use Rattle.salvage_theory.specs.InOrder.{Before}

-- slot j with file f is taken before slot k with file g: "by ascending masked lsn, equal ones by ascending slot"
abbrev pub Taken : ℕ → File → ℕ → File → Type 0
Taken j f k g = Before (record { slot = j; label = f.label }) (record { slot = k; label = g.label })

-- a kept file: a sound one whose slot is not reported
pub record KeptFile (views : List View) (k : ℕ) (f : File) : Type 0 where
  pub shows : view_at views k ≡ holds f
  pub stays : (x : Loss) → In (losses_in views) x → x.slot ≡ k → ⊥

-- ---- no two kept files meet
-- the slots after a report
abbrev pub left_by : List Loss → List View → List View
left_by [] views = views
left_by (x ∷ report) views = left_by report (set views x.slot empty)

-- ---- each of the second kind meets a kept file
-- a line among those of the files behind a kept one: the file given up, and a file without a line that it meets
pub record Met (kept : Sound) (ys : List Sound) (lines : List Loss) (x : Loss) : Type 0 where
  pub given : Sound
  pub among : In ys given
  pub slot : given.slot ≡ x.slot
  pub other : Sound
  pub there : In (kept ∷ ys) other
  pub stays : All (λ (l : Loss). l.slot ≡ other.slot → ⊥) lines
  pub earlier : Before other given
  pub high : start_of given ≤ end_of other

-- the slot of x holds a file that meets a kept one, taken before it: "by ascending masked lsn, equal ones by ascending slot"
pub record MeetsKept (views : List View) (x : Loss) : Type 0 where
  pub file : File
  pub shows : view_at views x.slot ≡ holds file
  pub other : ℕ
  pub kept-file : File
  pub kept : KeptFile views other kept-file
  pub earlier : Taken other kept-file x.slot file
  pub met : meets kept-file.label file.label ≡ true
