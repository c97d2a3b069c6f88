-- Request P8, "Power pulled in the middle": the theorems.
use Rattle.std.specs.Prelude.{◌≡◌, refl, ◌⊎◌, ◌<◌, ◌≤◌, ◌∷◌}
use Rattle.std.proofs.Common.{sym, ◌∙◌, subst, inl, inr, leb-true, leb-false}
use Rattle.rules.specs.Base.{Bool, true, false, List, [], ℕ, length, get_or, take, leb, pick}
use Rattle.numbers.specs.GroupLaws.{either_way}
use Rattle.rules.specs.BaseLaws.{All}
use Rattle.rules.proofs.BaseLaws.{all_take}
use Rattle.rules.specs.Refusal.{after}
use Rattle.rules.specs.Condition1.{out_of_range}
use Rattle.rules.specs.Ops.{Op}
use Rattle.rules.specs.Stores.{made}
use Rattle.rules.specs.Write.{write_call}
use Rattle.rules.specs.Reopen.{reopen_call}
use Rattle.rules.specs.World.{World, accepted}
use Rattle.theory.proofs.Lists.{all-get}
use Rattle.theory.specs.SoundWorld.{SoundWorld}
use Rattle.history_theory.specs.Writing.{engine}
use Rattle.history_theory.specs.Fresh.{Blank}
use Rattle.history_theory.specs.History.{Call, write, rewrite, prune, reopen, quiet, called, hears, Life, lived, Kept, Starts, born}
use Rattle.history_theory.proofs.History.{sound-kept, sound-called, sound-lived, born-starts}
use Rattle.history_theory.specs.Writes.{Unheard}
use Rattle.history_theory.proofs.Writes.{got_last, hears-nothing}
use Rattle.history_theory.specs.Nightly.{job_calls}
use Rattle.history_theory.proofs.Nightly.{job-unheard}
use Rattle.power_cuts.specs.Runs.{run_of}
use Rattle.power_cuts.specs.Cuts.{CutAt, SameReads, ReadsAfterCut, Survived, hears_cut, Event, done, cut, Happens, happened, lived_on, AllHappen}
use Rattle.power_cuts.proofs.Reopening.{reopen-finds}
use Rattle.power_cuts.specs.Hidden.{with_heap}
use Rattle.power_cuts.proofs.Calls.{cut-early, cut-whole}

-- a cut happens at any store of any call: lost memory may, for one, be as it was
pub can-happen : (k : ℕ) (w : World) (c : Call) → CutAt k w c (with_heap w (made (take k (run_of w c)) w.heap))
can-happen k w c = record { alike = record { settings = refl; table = refl }; heap = refl }

-- ---- one cut
same_reads : (w v : World) (history : List Op) → SoundWorld w (engine history) → SoundWorld v (engine history) → SameReads v w
same_reads w v history s t id = got_last v history t id ∙ sym (got_last w history s id)

module _ (w : World) (history : List Op) (s : SoundWorld w (engine history)) (k : ℕ) (c : Call) (v : World) (a : CutAt k w c v) where
  found_early : k < length (run_of w c) → ((reopen_call v).answer ≡ accepted []) × SoundWorld (reopen_call v).world (engine history)
  found_early h = reopen-finds w (made (take k (run_of w c)) w.heap) (engine history) (cut-early w history s c k h) v a.alike a.heap

  found-whole : length (run_of w c) ≤ k → ((reopen_call v).answer ≡ accepted []) × SoundWorld (reopen_call v).world (engine (hears w history c))
  found-whole h = reopen-finds w (made (take k (run_of w c)) w.heap) (engine (hears w history c)) (cut-whole w history s c k h) v a.alike a.heap

  -- LAW: what is found is a store of the invariant, of which the engine says what it heard
  pub sound-cut : SoundWorld (reopen_call v).world (engine (hears_cut k w history c))
  sound-cut = go (leb (length (run_of w c)) k) refl
    where
      go : (b : Bool) → leb (length (run_of w c)) k ≡ b → SoundWorld (reopen_call v).world (engine (pick b (hears w history c) history))
      go true e = (found-whole (leb-true (length (run_of w c)) k e)).1
      go false e = (found_early (leb-false (length (run_of w c)) k e)).1

  reads-early : k < length (run_of w c) → SameReads (reopen_call v).world w
  reads-early h = same_reads w (reopen_call v).world history s (found_early h).1

  reads_whole : length (run_of w c) ≤ k → SameReads (reopen_call v).world (called w c).world
  reads_whole h = same_reads (called w c).world (reopen_call v).world (hears w history c) (sound-called w history c s) (found-whole h).1

module _ (w : World) (history : List Op) (s : SoundWorld w (engine history)) (k : ℕ) (v : World) where
  -- a call of which the engine hears nothing
  reads-unheard : (c : Call) → hears w history c ≡ history → CutAt k w c v → SameReads (reopen_call v).world w
  reads-unheard c e a = go (either_way k (length (run_of w c)))
    where
      go : (k < length (run_of w c)) ⊎ (length (run_of w c) ≤ k) → SameReads (reopen_call v).world w
      go (inl h) = reads-early w history s k c v a h
      go (inr h) =
          same_reads w (reopen_call v).world history s
          (subst (λ (l : List Op). SoundWorld (reopen_call v).world (engine l)) e (found-whole w history s k c v a h).1)

  reads-cut : (c : Call) → CutAt k w c v → ReadsAfterCut w c (reopen_call v).world
  reads-cut (write bytes) a = go (either_way k (length (run_of w (write bytes))))
    where
      go : (k < length (run_of w (write bytes))) ⊎ (length (run_of w (write bytes)) ≤ k)
          → SameReads (reopen_call v).world w ⊎ SameReads (reopen_call v).world (write_call w bytes).world
      go (inl h) = inl (reads-early w history s k (write bytes) v a h)
      go (inr h) = inr (reads_whole w history s k (write bytes) v a h)
  reads-cut (rewrite room g mark count) a = reads-unheard (rewrite room g mark count) refl a
  reads-cut prune a = reads-unheard prune refl a
  reads-cut reopen a = reads-unheard reopen refl a
  reads-cut (quiet q) a = reads-unheard (quiet q) refl a

  -- LAW: a call of a store of the invariant, cut anywhere
  pub cut-survived : (c : Call) → CutAt k w c v → Survived k w c v
  cut-survived c a = record {
    reopens = answer (either_way k (length (run_of w c)));
    reads = reads-cut c a;
    before = reads-early w history s k c v a;
    after = reads_whole w history s k c v a;
  }
    where
      answer : (k < length (run_of w c)) ⊎ (length (run_of w c) ≤ k) → (reopen_call v).answer ≡ accepted []
      answer (inl h) = (found_early w history s k c v a h).0
      answer (inr h) = (found-whole w history s k c v a h).0

-- request P8: on any store of the invariant, whatever calls were made, any call, accepted or refused, is cut behind any of its stores
pub lived-cut : (l : Life) → Starts l → (calls : List Call) (c : Call) (k : ℕ) (v : World) → CutAt k (lived l calls).world c v → Survived k (lived l calls).world c v
lived-cut l s calls c k v a = cut-survived (lived l calls).world (lived l calls).history (sound-lived l s calls) k v c a

-- request P8: so on every store of demand 3 that began with no file
pub power-cut : (w : World) → out_of_range w.settings (length w.heap) w.table ≡ false → Blank w
    → (calls : List Call) (c : Call) (k : ℕ) (v : World) → CutAt k (lived (born w) calls).world c v → Survived k (lived (born w) calls).world c v
power-cut w range blank = lived-cut (born w) (born-starts w range blank)

-- ---- the nightly job
unheard-lived : (l : Life) (calls : List Call) → All Unheard calls → (lived l calls).history ≡ l.history
unfolding lived
unheard-lived l [] u = refl
unheard-lived l (c ∷ cs) u =
    unheard-lived (record { world = (called l.world c).world; history = hears l.world l.history c }) cs u.1 ∙ hears-nothing l.world l.history c u.0

-- LAW: calls that bring no put and no delete were made, and the next such call is cut anywhere: every read as before the first of them
pub unheard-cut : (l : Life) → Starts l → (calls : List Call) → All Unheard calls → (c : Call) → Unheard c → (k : ℕ) (v : World) → CutAt k (lived l calls).world c v
    → ((reopen_call v).answer ≡ accepted []) × SameReads (reopen_call v).world l.world
unheard-cut l s calls u c q k v a =
    let now = lived l calls in
    let t = sound-lived l s calls in (
      (cut-survived now.world now.history t k v c a).reopens,
      λ id.
          reads-unheard now.world now.history t k v c (hears-nothing now.world now.history c q) a id
          ∙ same_reads l.world now.world l.history s (subst (λ (h : List Op). SoundWorld now.world (engine h)) (unheard-lived l calls u) t) id,
    )

-- LAW: so where power is cut in call n, from 0, of the nightly job
pub job-cut : (l : Life) → Starts l → (room n k : ℕ) (v : World)
    → CutAt k (lived l (take n (job_calls l.world room))).world (get_or (job_calls l.world room) n prune) v
    → ((reopen_call v).answer ≡ accepted []) × SameReads (reopen_call v).world l.world
job-cut l s room n =
    let calls = job_calls l.world room in
    let u = job-unheard l.world room in
    unheard-cut l s (take n calls) (all_take Unheard n calls u) (get_or calls n prune) (all-get Unheard calls n prune u tt)

-- ---- cuts among the calls
sound-happened : (l : Life) (e : Event) → Starts l → Happens l.world e → Starts (happened l e)
sound-happened l (done c) s h = sound-called l.world l.history c s
sound-happened l (cut k c v) s h = sound-cut l.world l.history s k c v h

-- LAW: the invariant holds whatever calls were made and wherever power was cut
pub sound-lived-on : (l : Life) → Starts l → (events : List Event) → AllHappen l events → Starts (lived_on l events)
unfolding lived_on AllHappen
sound-lived-on l s [] h = s
sound-lived-on l s (e ∷ es) h = sound-lived-on (happened l e) (sound-happened l e s h.0) es h.1

module _ (l : Life) (s : Starts l) (events : List Event) (happen : AllHappen l events) where
  -- request P8 and DEMAND 3: reads give the last put of the writes that were accepted and not cut short, and a reopening finds the store as it was
  pub lived-on-kept : Kept (lived_on l events).world (lived_on l events).history
  lived-on-kept = sound-kept (lived_on l events).world (lived_on l events).history (sound-lived-on l s events happen)

  -- and the next cut is survived too
  pub lived-on-cut : (c : Call) (k : ℕ) (v : World) → CutAt k (lived_on l events).world c v → Survived k (lived_on l events).world c v
  lived-on-cut c k v a = cut-survived (lived_on l events).world (lived_on l events).history (sound-lived-on l s events happen) k v c a

-- so where there was no file
module _ (w : World) (range : out_of_range w.settings (length w.heap) w.table ≡ false) (blank : Blank w) (events : List Event) (happen : AllHappen (born w) events) where
  -- the invariant
  pub sound-history-cut : Starts (lived_on (born w) events)
  sound-history-cut = sound-lived-on (born w) (born-starts w range blank) events happen

  -- request P8 and DEMAND 3
  pub any-history-cut : Kept (lived_on (born w) events).world (lived_on (born w) events).history
  any-history-cut = lived-on-kept (born w) (born-starts w range blank) events happen

  -- and the next cut
  pub power-cut-again : (c : Call) (k : ℕ) (v : World) → CutAt k (lived_on (born w) events).world c v → Survived k (lived_on (born w) events).world c v
  power-cut-again = lived-on-cut (born w) (born-starts w range blank) events happen
