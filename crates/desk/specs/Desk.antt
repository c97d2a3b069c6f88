-- The desk: what the console's commands are given and change; what a command leaves.
use Rattle.std.specs.Prelude.{◌∷◌, ◌++◌, Ok}
use Rattle.rules.specs.Base.{List, [], ℕ, take, drop}
use Rattle.rules.specs.Layout.{Table}
use Rattle.rules.specs.TableCalls.{TableAfter}
use Rattle.rules.specs.World.{World, world, Given, accepted, answer_given, read_given, rewrite_given, maintain_given, counts_given, load_given, compare_given, greater_given, After}
use Rattle.salvage.specs.Answers.{salvage_given}
use Rattle.through.specs.Through.{through_given}
use Rattle.desk.specs.Types.{Bench, Look, Reply, BadLine, Answered, Read, Through, Planned, Rewrote, Maintained, Counted, Marks, Loaded, Compared, Raised, Salvaged, Shown, Turn}

-- settings, state, claims and how much of each buffer is lent; the two buffers, whole
pub record Desk : Type 0 where
  pub bench : Bench
  pub heap : List ℕ
  pub table : Table

-- the same, as a command's parameters give it
abbrev pub desk : Bench → List ℕ → Table → Desk
desk bench heap table = record { bench = bench; heap = heap; table = table }

-- ---- replies
-- in which words an answer is written: `ok`; a body; a body, of the batch or of the heap; a plan, whose values stand in words of their own; a count of
-- ids; four counts; how many files are not synced, or whether a mark changed; a location; the one that differs; the one held before; a count of slots
-- given up
pub data Words : Type 0 where
  plain : Words
  found : Words
  pieced : Words
  planned : Words
  moved : Words
  counted : Words
  marks : Words
  located : Words
  compared : Words
  raised : Words
  emptied : Words

-- `bad line`; the paper's number and values; lines to look at
pub data Said : Type 0 where
  bad-line : Said
  gave : Words → Given → Said
  shows : Look → Said

-- what a reply says
abbrev pub said : Reply → Said
said BadLine = bad-line
said (Answered a) = gave plain (answer_given a)
said (Read a) = gave found (read_given a)
said (Through a) = gave pieced (through_given a)
said (Planned a) = gave planned (answer_given a)
said (Rewrote a) = gave moved (rewrite_given a)
said (Maintained a) = gave moved (maintain_given a)
said (Counted a) = gave counted (counts_given a)
said (Marks n) = gave marks (accepted (n ∷ []))
said (Loaded a) = gave located (load_given a)
said (Compared a) = gave compared (compare_given a)
said (Raised a) = gave raised (greater_given a)
said (Salvaged a) = gave emptied (salvage_given a)
said (Shown look) = shows look

-- a command's reply, and the desk after it
pub record Outcome : Type 0 where
  pub reply : Said
  pub desk : Desk

-- the same, as a command's result and the buffers give it
abbrev pub left : Turn → List ℕ → Table → Outcome
left turn heap table = record { reply = said turn.reply; desk = desk turn.bench heap table }

-- a reply, the bench as it was
abbrev pub replied : Reply → Bench → Turn
replied reply bench = record { reply = reply; bench = bench }

-- `ok` to a command by hand
abbrev pub done : Bench → Turn
done bench = replied (Answered (Ok tt)) bench

-- "bad line, and nothing changes"
abbrev pub bad_line : Desk → Outcome
bad_line d = record { reply = bad-line; desk = d }

-- a look changes nothing
abbrev pub looked : Look → Desk → Outcome
looked look d = record { reply = shows look; desk = d }

-- `ok`
abbrev pub changed : Desk → Outcome
changed d = record { reply = gave plain (accepted []); desk = d }

-- ---- a call
-- what a call is given
abbrev pub world_of : Desk → World
world_of d = world d.bench.settings d.bench.state d.bench.claims d.heap d.table

-- a world on a desk that lends as much as before
abbrev pub desk_of : Bench → World → Desk
desk_of b w = record {
  bench = record { settings = w.settings; state = w.state; claims = w.claims; heap_len = b.heap_len; table_words = b.table_words };
  heap = w.heap;
  table = w.table;
}

-- its answer, and everything after it
abbrev pub answered : Words → Bench → After → Outcome
answered words b a = record { reply = gave words a.answer; desk = desk_of b a.world }

-- a call of the rules
abbrev pub called : Words → (World → After) → Desk → Outcome
called words call d = answered words d.bench (call (world_of d))

-- a world with another table
abbrev pub with_table : World → Table → World
with_table w t = record { settings = w.settings; state = w.state; claims = w.claims; heap = w.heap; table = t }

-- what a table call left, beside the rest of the world
abbrev pub besides : World → TableAfter → After
besides w t = record { answer = t.answer; world = with_table w t.table }

-- a table call goes by the table alone
abbrev pub on_table : (Table → TableAfter) → World → After
on_table call w = besides w (call w.table)

-- ---- the lent parts
-- what a command on the lent parts is given
abbrev pub lent_of : Desk → Desk
lent_of d = desk d.bench (take d.bench.heap_len d.heap) (take d.bench.table_words d.table)

-- the parts come back; what was not lent stays
abbrev pub put_back : Desk → Outcome → Outcome
put_back d o = record {
  reply = o.reply;
  desk = desk o.desk.bench (o.desk.heap ++ drop d.bench.heap_len d.heap) (o.desk.table ++ drop d.bench.table_words d.table);
}

-- a command on the lent parts
abbrev pub on_lent : (Desk → Outcome) → Desk → Outcome
on_lent command d = put_back d (command (lent_of d))
