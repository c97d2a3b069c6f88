-- A reopening hangs on settings, heap and the size of the table alone.
use Rattle.std.specs.Prelude.{◌≡◌, refl, ◌-◌, ◌%◌}
use Rattle.std.proofs.Common.{sym, ap, ◌∙◌, subst, arith}
use Rattle.std.proofs.lemmas.List.{length-replicate}
use Rattle.rules.specs.Base.{false, List, [], ℕ, length, replicate}
use Rattle.theory.specs.Types.{Settings, Refusal}
use Rattle.rules.specs.Refusal.{decide, after}
use Rattle.rules.specs.SettingsLaws.{HeapInRange, InRanges}
use Rattle.rules.specs.Condition1.{out_of_range}
use Rattle.rules.specs.Condition1Laws.{InLimits}
use Rattle.rules.proofs.Condition1Laws.{limits-in}
use Rattle.rules.specs.Reopen.{reopen_tests, given_up, opened, reopen_call}
use Rattle.rules.specs.World.{World, accepted, After}
use Rattle.theory.specs.Picture.{views_of, Said}
use Rattle.theory.specs.SoundWorld.{SoundWorld}
use Rattle.history_theory.specs.Again.{again}
use Rattle.history_theory.proofs.Again.{reopen-accepted, sound-again}
use Rattle.power_cuts.specs.Cuts.{Alike}
use Rattle.power_cuts.specs.Enduring.{StandsOn}
use Rattle.power_cuts.specs.Reopening.{bare, once_in_range}

zeros-length : (n : ℕ) → length (replicate {A = ℕ} n 0) ≡ n
zeros-length n = length-replicate {A = ℕ} n 0

-- of the table it takes the size alone, and nothing of state and claims
reopens-bare : (w : World) → out_of_range w.settings (length w.heap) w.table ≡ false
    → reopen_call w ≡ once_in_range (bare w.settings w.heap (length w.table))
unfolding reopen_call reopen_tests given_up opened decide
reopens-bare w range = rw range (λ i. after (decide (tests i)) (λ r. given-up r i) (found i))
  where
    tests : reopen_tests w (views_of w) ≡ reopen_tests (bare w.settings w.heap (length w.table)) (views_of w)
    tests = rw (zeros-length (length w.table)) refl

    given-up : (r : Refusal) → given_up w r ≡ given_up (bare w.settings w.heap (length w.table)) r
    given-up r = rw (zeros-length (length w.table)) refl

    found : opened w (views_of w) ≡ opened (bare w.settings w.heap (length w.table)) (views_of w)
    found = rw (zeros-length (length w.table)) refl

-- 1 does not refuse what is like a world in range
alike-range : (w v : World) → Alike w v → v.heap ≡ w.heap → InLimits w.settings (length w.heap) w.table → out_of_range v.settings (length v.heap) v.table ≡ false
alike-range w v a h l =
    let t = l.table in
    let b = a.table in
    let lo = t.some in
    let hi = t.most in
    limits-in v.settings (length v.heap) v.table (record {
      settings = subst InRanges (sym a.settings) l.settings;
      heap = in-range;
      table = record { even = ap (λ (n : ℕ). n % 2) b ∙ t.even; some = omega arith; most = omega arith };
    })
  where
    in-range : HeapInRange v.settings (length v.heap)
    in-range =
        subst (λ (s : Settings). HeapInRange s (length v.heap)) (sym a.settings)
        (subst (λ (bs : List ℕ). HeapInRange w.settings (length bs)) (sym h) l.heap)

-- LAW: reopening gives the same on whatever memory
pub reopen-alike : (w v : World) → Alike w v → v.heap ≡ w.heap → InLimits w.settings (length w.heap) w.table → reopen_call v ≡ reopen_call w
reopen-alike w v a h l =
    reopens-bare v (alike-range w v a h l)
    ∙ (λ i. once_in_range (bare (a.settings i) (h i) (a.table i)))
    ∙ sym (reopens-bare w (limits-in w.settings (length w.heap) w.table l))

-- LAW: where a store stands on the heap, reopening is accepted and finds it
pub reopen-finds : (w : World) (heap : List ℕ) (told : ℕ → Said) → StandsOn w heap told → (v : World) → Alike w v → v.heap ≡ heap
    → ((reopen_call v).answer ≡ accepted []) × SoundWorld (reopen_call v).world told
reopen-finds w heap told t v a h =
    let e : reopen_call v ≡ record { answer = accepted []; world = again t.store }
    = reopen-alike t.store v found (h ∙ sym t.bytes) t.sound.tidy.limits ∙ reopen-accepted t.store told t.sound in
    (ap (λ (r : After). r.answer) e, subst (λ (r : After). SoundWorld r.world told) (sym e) (sound-again t.store told t.sound))
  where
    found : Alike t.store v
    found = record {
      settings = a.settings ∙ sym t.alike.settings;
      table = a.table ∙ sym t.alike.table;
    }
