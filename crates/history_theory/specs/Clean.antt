-- DEMAND 3 from any clean heap: one that a reopening accepts and whose files are whole, whoever wrote them.
use Rattle.std.specs.Prelude.{◌≡◌, ◌-◌, Err, Ok}
use Rattle.rules.specs.Base.{List, [], map, ℕ}
use Rattle.theory.specs.Types.{Entry, ReadAnswer, Found, Deleted, NeverWritten}
use Rattle.numbers.specs.LittleEndian.{Bytes}
use Rattle.rules.specs.Refusal.{after}
use Rattle.rules.specs.Ops.{Content, put, delete, Op}
use Rattle.rules.specs.SlotFile.{File, holds}
use Rattle.rules.specs.Read.{read_of, part_of}
use Rattle.rules.specs.Reopen.{reopen_call}
use Rattle.rules.specs.World.{World, mappings, accepted}
use Rattle.theory.specs.Places.{view_at}
use Rattle.theory.specs.Picture.{views_of}
use Rattle.theory.specs.Sound.{WholeFile}
use Rattle.history_theory.specs.History.{Life}

-- its elements are bytes, a reopening with these settings and this table accepts it, and its files are whole
pub record Clean (w : World) : Type 0 where
  pub bytes : Bytes w.heap
  pub reopens : (reopen_call w).answer ≡ accepted []
  pub whole : (k : ℕ) (f : File) → view_at (views_of w) k ≡ holds f → WholeFile f

-- what a read gives, as the content of an operation
abbrev pub content_by : ReadAnswer → List ℕ → Content
content_by (Ok (Found start size)) part = put part
content_by (Ok Deleted) part = delete
content_by (Ok NeverWritten) part = delete
content_by (Err r) part = delete

-- of an id
abbrev pub content_of : World → ℕ → Content
content_of w id = content_by (read_of w id) (part_of (read_of w id) w.heap)

-- heard at the start: for each mapped id a put of what a read gives, or a delete
abbrev pub heard_at : World → List Op
heard_at w = map (λ (e : Entry). record { id = e.id; content = content_of w e.id }) (mappings w)

-- the store after a reopening, and what it says as if it had been heard
abbrev pub resumed : World → Life
resumed w = record { world = (reopen_call w).world; history = heard_at (reopen_call w).world }
