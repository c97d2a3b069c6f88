-- Between two turns of the loop over generations: the groups that are left make the whole forecast.
use mathlib.Core.Path.{◌≡◌, refl, sym, ap, ◌∙◌, subst}
use Prim.Native.Nat.{◌≤◌, ◌<◌, ◌-◌}
use native.Mathlib.Nat.{sub_self}
use native.Mathlib.Omega.{arith}
use Rattle.std.specs.Prelude.{◌∷◌, ◌+◌, ◌^◌, None}
use Rattle.rules.specs.Base.{List, [], ℕ, zero, suc}
use Rattle.rules.specs.SettingsLaws.{InRanges}
use Rattle.rules.specs.Install.{empty_of}
use Rattle.rules.specs.Maintenance.{going, group}
use Rattle.rules.specs.TwoCalls.{mark_of, count_of, foretelling, foretold_from, forecast_of}
use Rattle.rules.specs.World.{World}
use Rattle.gc_candidates.specs.Plan.{planned, group-planned}
use Rattle.gc_course.specs.Runs.{stop_of, generations_from}
use Rattle.gc_group.specs.Source.{source_in}
use Rattle.gc_plan.specs.declared.Forecast.{Forecast}
use Rattle.gc_plan.specs.Forecasts.{foretold_by, forecast_in, Standing, standing-start, standing-next, foretold-is}
use Rattle.gc_plan.specs.Plans.{candidates_of}

module _ (w : World) where
  -- the groups from a generation on are still to be foretold
  pub record Foretelling (generation : ℕ) (f : Forecast) : Type 0 where
    pub left : ℕ
    pub turns : left + generation ≡ 4
    pub low : 0 < generation
    pub here : Standing w f
    pub whole : foretold_from (generations_from left generation) w (forecast_in w f) ≡ forecast_of w

  -- before the first
  pub foretelling-start : empty_of w ≤ 256 → (empty mark : ℕ) → mark < 2 ^ 64 → empty ≡ empty_of w → mark ≡ mark_of w
      → Foretelling 1 (record { halt = None; files = 0; bytes = 0; room = record { empty = empty; base = mark } })
  unfolding forecast_of
  foretelling-start few empty mark low e q = record {
    left = 3;
    turns = refl;
    low = omega arith;
    here = rw (e, q) (standing-start w few (omega (arith, low, q)));
    whole = ap (λ (n : ℕ). foretold_from (1 ∷ 2 ∷ 3 ∷ []) w (record { stop = going; files = 0; bytes = 0; positions = n })) (ap (λ (n : ℕ). n - mark_of w) q ∙ sub_self (mark_of w));
  }

  module _ (generation : ℕ) (f : Forecast) (m : Foretelling generation f) where
    -- one more
    pub foretelling-turn : generation ≤ 3 → InRanges w.settings → (plan : List ℕ) → plan ≡ candidates_of w
        → (r : Forecast) → r ≡ foretold_by w.settings (source_in w) generation (planned plan generation) f f.halt → Foretelling (generation + 1) r
    unfolding foretold_from
    foretelling-turn high ranges plan p r q = go m.left refl
      where
        slots : planned plan generation ≡ group w generation (mark_of w) (count_of w)
        slots = ap (λ (ns : List ℕ). planned ns generation) p ∙ sym (group-planned w generation (mark_of w) (count_of w) m.low)

        step : forecast_in w r ≡ foretelling (stop_of f.halt) w generation (forecast_in w f)
        step = ap (forecast_in w) q ∙ foretold-is w generation (planned plan generation) f m.here slots

        go : (n : ℕ) → m.left ≡ n → Foretelling (generation + 1) r
        go zero e = absurd (omega (arith, m.turns, e))
        go (suc k) e = record {
          left = k;
          turns = omega (arith, m.turns, e);
          low = omega arith;
          here = subst (Standing w) (sym q) (standing-next w generation (planned plan generation) f m.here ranges);
          whole =
              ap (foretold_from (generations_from k (generation + 1)) w) step
              ∙ subst (λ (n : ℕ). foretold_from (generations_from n generation) w (forecast_in w f) ≡ forecast_of w) e m.whole;
        }

    -- none is left
    pub foretelling-end : 3 < generation → forecast_in w f ≡ forecast_of w
    unfolding foretold_from
    foretelling-end h =
        let none : m.left ≡ 0 = omega (arith, m.turns) in
        subst (λ (n : ℕ). foretold_from (generations_from n generation) w (forecast_in w f) ≡ forecast_of w) none m.whole
