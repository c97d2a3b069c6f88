-- Request P8 worked out on a small store: calls cut behind some of their stores, the memory lost, and what the reopening then finds.
use Rattle.power_cuts.specs.Cuts.{hears_cut}
use Rattle.power_cuts.specs.Runs.{run_of}
use Rattle.std.specs.Prelude.{◌∷◌}
use Rattle.rules.specs.Base.{zeros, List, [], ℕ, length, take, replicate, map}
use Rattle.rules.specs.Claims.{no_claims}
use Rattle.rules.specs.Maintenance.{found}
use Rattle.rules.specs.TwoCalls.{mark_of, count_of}
use Rattle.rules.specs.Reopen.{reopen_call}
use Rattle.rules.specs.Stores.{made}
use Rattle.rules.specs.World.{World, no_state}
use Rattle.history_theory.specs.History.{Call, write, rewrite, called}
use Rattle.history_theory.specs.Writes.{Got, bytes, got}

-- three slots of 128 bytes, of zeros
abbrev pub tiny : World
tiny = record {
  settings = record { slot_bytes = 128; file_compaction_percent = 75; min_compaction_files = 1; target_file_size = 100; small_file_cleanup_threshold = 0; max_object_size = 100 };
  state = no_state;
  claims = no_claims;
  heap = replicate 384 0;
  table = replicate 2 0;
}

-- id 7 put as 0x41
abbrev pub first : World
first = (called (reopen_call tiny).world (write (0x07 ∷ 0x01 ∷ 0x01 ∷ 0x41 ∷ []))).world

-- put again as 0x42
abbrev pub again : Call
again = write (0x07 ∷ 0x01 ∷ 0x01 ∷ 0x42 ∷ [])

-- its generation rewritten, with a plan's mark and file count
abbrev pub rewriting : Call
rewriting = rewrite 1 1 (mark_of first) (count_of first)

-- what the robot has: the heap, and nothing else of use
unfoldable pub lost : World → List ℕ → World
lost w heap = record { settings = w.settings; state = no_state; claims = no_claims; heap = heap; table = 9 ∷ 9 ∷ [] }

-- what a reopening finds: its number, and what id 7 reads as; and how many operations the engine heard of the cut call
pub record Finding : Type 0 where
  pub number : ℕ
  pub seven : Got
  pub heard : ℕ

-- behind the first k stores of a call
unfoldable pub finding : World → Call → ℕ → Finding
finding w c k =
    let a = reopen_call (lost w (made (take k (run_of w c)) w.heap)) in
    record { number = a.answer.number; seven = got a.world 7; heard = length (hears_cut k w [] c) }

-- a call's number of stores, and what is found for these k
pub record Cuts : Type 0 where
  pub stores : ℕ
  pub found : List Finding

-- cut there
unfoldable pub cuts_at : World → Call → List ℕ → Cuts
cuts_at w c ks = record { stores = length (run_of w c); found = map (finding w c) ks }

-- accepted, as read before, nothing heard
abbrev pub old : Finding
old = record { number = 0; seven = bytes (0x41 ∷ []); heard = 0 }

-- as read after it was put again, so many operations heard of the cut call
abbrev pub new : ℕ → Finding
new heard = record { number = 0; seven = bytes (0x42 ∷ []); heard = heard }
