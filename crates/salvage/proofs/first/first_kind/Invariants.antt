use mathlib.Core.Path.{◌≡◌}
use Prim.Native.Nat.{◌≤◌}
use Rattle.losses.specs.Lines.{Going}
use Rattle.losses.specs.Starts.{slots_judged, start_in, end_in}
use Rattle.losses.specs.Salvage.{first_kind}
use Rattle.numbers.specs.Parts.{put_at}
use lib.ListN.{length, drop}
use mathlib.Core.List.{map}
use Rattle.salvage.proofs.first.first_kind.Given as goal

abbrev pub invariant-loop-k : goal.invariant-loop-k
invariant-loop-k l = (length l.report ≡ length l.initial.report)
    × (length l.starts ≡ length l.initial.starts)
    × (length l.ends ≡ length l.initial.starts)
    × (l.count ≤ l.k)
    × Going 0 (first_kind 0 (slots_judged (length l.initial.starts) l.size l.heap)) l.initial.report l.count (first_kind l.k (drop l.k (slots_judged (length l.initial.starts) l.size l.heap))) l.report
    × (put_at l.starts l.k (map start_in (drop l.k (slots_judged (length l.initial.starts) l.size l.heap))) ≡ map start_in (slots_judged (length l.initial.starts) l.size l.heap))
    × (put_at l.ends l.k (map end_in (drop l.k (slots_judged (length l.initial.starts) l.size l.heap))) ≡ map end_in (slots_judged (length l.initial.starts) l.size l.heap))
