use Rattle.std.proofs.Common.{◌≡◌, ◌≤◌, length, ◌++◌, take, drop}
use Rattle.byte_parts.proofs.copy.Given as goal

-- the first i bytes are there, and what is behind them is as it was
abbrev pub invariant-loop-i : goal.invariant-loop-i
invariant-loop-i l = (l.i ≤ length l.from) × (l.to ≡ take l.i l.from ++ drop l.i l.initial.to)
