-- Request P5, "as for any heap our own calls left, at its own S and table size": its list is empty, power cuts included.
use Rattle.std.specs.Prelude.{◌≡◌, ◌⊎◌, ◌<◌, ◌≤◌, ◌++◌, ◌/◌}
use Rattle.std.proofs.Common.{sym, ap, ◌∙◌, subst, inl, inr}
use Rattle.numbers.specs.GroupLaws.{either_way}
use Rattle.numbers.specs.LittleEndian.{Bytes}
use Rattle.rules.specs.Base.{false, List, [], ℕ, length, take}
use Rattle.rules.specs.BaseLaws.{All}
use Rattle.rules.specs.Ops.{Op}
use Rattle.rules.specs.Stores.{made}
use Rattle.rules.specs.Condition1.{out_of_range}
use Rattle.rules.specs.World.{World, After}
use Rattle.theory.specs.Picture.{Said}
use Rattle.theory.specs.SoundWorld.{SoundWorld}
use Rattle.history_theory.specs.Writing.{engine}
use Rattle.history_theory.proofs.Again.{reopen-accepted}
use Rattle.history_theory.specs.Fresh.{Blank}
use Rattle.history_theory.specs.History.{Call, reopen, hears, Life, lived, Starts, born}
use Rattle.history_theory.proofs.History.{sound-lived, born-starts}
use Rattle.history_theory.specs.Clean.{Clean, resumed}
use Rattle.history_theory.proofs.Clean.{clean-starts, sound-clean}
use Rattle.power_cuts.specs.Runs.{run_of}
use Rattle.power_cuts.proofs.Runs.{run-made}
use Rattle.power_cuts.specs.Cuts.{Alike, CutAt, Event, lived_on, AllHappen}
use Rattle.power_cuts.specs.Enduring.{StandsOn}
use Rattle.power_cuts.proofs.Calls.{cut-early, cut-whole}
use Rattle.power_cuts.proofs.PowerCut.{sound-lived-on}
use Rattle.faults.specs.Faults.{judged_in, faults_from, closing, faults_of}
use Rattle.check_theory.specs.Accepting.{list_of}
use Rattle.check_theory.proofs.CleanLists.{whole-empty, list-clean}
use Rattle.check_theory.specs.Bytewise.{CallBytes}
use Rattle.check_theory.proofs.Bytewise.{bytes-lived}

-- LAW: of any store of the invariant nothing is listed
pub sound-list : (w : World) (told : ℕ → Said) → SoundWorld w told → list_of w ≡ []
sound-list w told s = whole-empty w (ap (λ (a : After). a.answer) (reopen-accepted w told s)) s.sound.whole

-- LAW: the list goes by settings, heap and the table's size alone
pub list-alike : (w v : World) → Alike w v → v.heap ≡ w.heap → list_of v ≡ list_of w
unfolding faults_of
list-alike w v a h = λ i. faults_from 0 [] (judged_in (a.settings i) (h i)) ++ closing (a.table i / 2) (judged_in (a.settings i) (h i))

-- where a store stands on the heap
stands-list : (w : World) (heap : List ℕ) (told : ℕ → Said) → StandsOn w heap told → (v : World) → Alike w v → v.heap ≡ heap → list_of v ≡ []
stands-list w heap told t v a h = list-alike t.store v found (h ∙ sym t.bytes) ∙ sound-list t.store told t.sound
  where
    found : Alike t.store v
    found = record {
      settings = a.settings ∙ sym t.alike.settings;
      table = a.table ∙ sym t.alike.table;
    }

-- LAW: power is cut behind the first k stores of any call of a store of the invariant: nothing is listed
pub cut_list : (w : World) (history : List Op) → SoundWorld w (engine history) → (c : Call) (k : ℕ) (v : World) → CutAt k w c v → list_of v ≡ []
cut_list w history s c k v a = go (either_way k (length (run_of w c)))
  where
    go : (k < length (run_of w c)) ⊎ (length (run_of w c) ≤ k) → list_of v ≡ []
    go (inl h) = stands-list w (made (take k (run_of w c)) w.heap) (engine history) (cut-early w history s c k h) v a.alike a.heap
    go (inr h) = stands-list w (made (take k (run_of w c)) w.heap) (engine (hears w history c)) (cut-whole w history s c k h) v a.alike a.heap

-- ---- lives
-- request P5: whatever calls were made
pub lived-list : (l : Life) → Starts l → (calls : List Call) → list_of (lived l calls).world ≡ []
lived-list l s calls = sound-list (lived l calls).world (engine (lived l calls).history) (sound-lived l s calls)

-- request P5: and power cut behind any store of the next one
pub lived-cut-list : (l : Life) → Starts l → (calls : List Call) (c : Call) (k : ℕ) (v : World) → CutAt k (lived l calls).world c v → list_of v ≡ []
lived-cut-list l s calls = cut_list (lived l calls).world (lived l calls).history (sound-lived l s calls)

module _ (l : Life) (s : Starts l) (events : List Event) (happen : AllHappen l events) where
  -- request P5: cuts among the calls
  pub lived-on-list : list_of (lived_on l events).world ≡ []
  lived-on-list = sound-list (lived_on l events).world (engine (lived_on l events).history) (sound-lived-on l s events happen)

  -- and the next cut
  pub lived-on-cut-list : (c : Call) (k : ℕ) (v : World) → CutAt k (lived_on l events).world c v → list_of v ≡ []
  lived-on-cut-list = cut_list (lived_on l events).world (lived_on l events).history (sound-lived-on l s events happen)

-- so where there was no file
module _ (w : World) (range : out_of_range w.settings (length w.heap) w.table ≡ false) (blank : Blank w) where
  -- request P5: whatever calls were made
  pub any-list : (calls : List Call) → list_of (lived (born w) calls).world ≡ []
  any-list = lived-list (born w) (born-starts w range blank)

  -- request P5: and power cut behind any store of the next one
  pub any-cut-list : (calls : List Call) (c : Call) (k : ℕ) (v : World) → CutAt k (lived (born w) calls).world c v → list_of v ≡ []
  any-cut-list = lived-cut-list (born w) (born-starts w range blank)

  -- request P5: and cuts among the calls
  pub any-list-cut : (events : List Event) → AllHappen (born w) events → list_of (lived_on (born w) events).world ≡ []
  any-list-cut = lived-on-list (born w) (born-starts w range blank)

-- ---- so from a heap of which nothing is listed, whoever wrote it
module _ (w : World) (range : out_of_range w.settings (length w.heap) w.table ≡ false) (bytes : Bytes w.heap) (none : list_of w ≡ []) where
  -- a life may start from it
  pub empty-list-starts : Starts (resumed w)
  empty-list-starts = clean-starts w (list-clean w range bytes none)

  -- request P5: whatever calls are made on it, its list stays empty
  pub list-stays : (calls : List Call) → list_of (lived (resumed w) calls).world ≡ []
  list-stays = lived-list (resumed w) empty-list-starts

  -- request P5: and where power is cut behind any store of the next one
  pub list-stays-cut : (calls : List Call) (c : Call) (k : ℕ) (v : World) → CutAt k (lived (resumed w) calls).world c v → list_of v ≡ []
  list-stays-cut = lived-cut-list (resumed w) empty-list-starts

-- request P5: a clean heap stays clean, whatever calls are made on it
pub clean-stays : (w : World) → Clean w → (calls : List Call) → All CallBytes calls → Clean (lived (resumed w) calls).world
unfolding made
clean-stays w c calls b =
    sound-clean (lived (resumed w) calls).world (engine (lived (resumed w) calls).history) (sound-lived (resumed w) (clean-starts w c) calls)
    (bytes-lived (resumed w) calls b (subst Bytes (sym (run-made w reopen)) c.bytes))
