-- What each command of the console does.
use Rattle.std.specs.Prelude.{◌||◌, ◌+◌}
use Rattle.rules.specs.Base.{List, [], ℕ, length, get_or, set, replicate, leb, ltb, eqb, pick}
use Rattle.rules.specs.FileMap.{recorded}
use Rattle.rules.specs.Layout.{Table, capacity_of, cleared}
use Rattle.rules.specs.Settings.{defaults}
use Rattle.rules.specs.Claims.{no_claims, claim_call, release_call}
use Rattle.rules.specs.Counts.{counts_call}
use Rattle.rules.specs.Prune.{prune_call}
use Rattle.rules.specs.Read.{read_call}
use Rattle.rules.specs.Reopen.{reopen_call}
use Rattle.rules.specs.Sync.{unsynced_call, sync_state}
use Rattle.rules.specs.TableCalls.{load_call, store_call, compare_call, greater_call}
use Rattle.rules.specs.TwoCalls.{plan_call, rewrite_call, nightly_call}
use Rattle.rules.specs.World.{World, Given, no_state}
use Rattle.rules.specs.Write.{write_call}
use Rattle.file_map.specs.Records.{labelled}
use Rattle.location_table.specs.Tables.{with_pair}
use Rattle.numbers.specs.Parts.{put_at}
use Rattle.plan_words.specs.PlanWords.{plan_laid}
use Rattle.losses.specs.Salvage.{Salvaged, salvage_call}
use Rattle.through.specs.Through.{through_call}
use Rattle.script.specs.declared.Keyword.TheVariants as key
use Rattle.desk.specs.Types.{Settings, Record, State, Claims, Request, Keyword, Bench, Comment, Help, Listing, Dump, Check, Bytes, BadLine, Shown, Turn}
use Rattle.desk.specs.Kinds.{number}
use Rattle.desk.specs.Desk.{Desk, desk, plain, found, pieced, planned, moved, counted, marks, located, compared, raised, emptied, gave, Outcome, left, replied, done, bad_line, looked, changed, world_of, called, on_table, lent_of, on_lent}

-- number k of a line
abbrev pub nth : List ℕ → ℕ → ℕ
nth n k = get_or n k 0

-- ---- settings and state by hand
-- `settings S PERCENT MINFILES TARGET THRESHOLD MAXOBJECT`
abbrev pub settings_from : List ℕ → Settings
settings_from n = record {
  slot_bytes = nth n 0;
  file_compaction_percent = nth n 1;
  min_compaction_files = nth n 2;
  target_file_size = nth n 3;
  small_file_cleanup_threshold = nth n 4;
  max_object_size = nth n 5;
}

-- `state`, the six settings, then `HEAPBYTES TABLE NEXT`
abbrev pub state_from : List ℕ → State → State
state_from n s = record { settings = settings_from n; heap_len = nth n 6; table_len = nth n 7; files = s.files; next_position = nth n 8 }

-- `record SLOT LSN T SIZE PRESENT GEN LIVE SYNCED`
abbrev pub record_from : List ℕ → Record
record_from n = recorded (labelled (nth n 1) (nth n 2) (nth n 3) (nth n 4) (nth n 5)) (nth n 6) (nth n 7)

-- `claims A B C D`
abbrev pub claims_from : List ℕ → Claims
claims_from n = record { a = nth n 0; b = nth n 1; c = nth n 2; d = nth n 3 }

-- all else the same
abbrev pub with_settings : Bench → Settings → Bench
with_settings b s = record { settings = s; state = b.state; claims = b.claims; heap_len = b.heap_len; table_words = b.table_words }

-- all else the same
abbrev pub with_state : Bench → State → Bench
with_state b s = record { settings = b.settings; state = s; claims = b.claims; heap_len = b.heap_len; table_words = b.table_words }

-- all else the same
abbrev pub with_claims : Bench → Claims → Bench
with_claims b c = record { settings = b.settings; state = b.state; claims = c; heap_len = b.heap_len; table_words = b.table_words }

-- a record put into its slot
abbrev pub with_record : State → ℕ → Record → State
with_record s slot r = record { settings = s.settings; heap_len = s.heap_len; table_len = s.table_len; files = record { records = set s.files.records slot r }; next_position = s.next_position }

-- a slot past the file map, or a mark that is neither 0 nor 1: `bad line`
abbrev pub record_by : List ℕ → Bench → Turn
record_by n b = pick (leb 256 (nth n 0) || ltb 1 (nth n 7)) (replied BadLine b) (done (with_state b (with_record b.state (nth n 0) (record_from n))))

-- ---- buffers by hand
-- another heap length lent
abbrev pub lending_heap : Bench → ℕ → Bench
lending_heap b bytes = record { settings = b.settings; state = b.state; claims = b.claims; heap_len = bytes; table_words = b.table_words }

-- another table length lent
abbrev pub lending_table : Bench → ℕ → Bench
lending_table b words = record { settings = b.settings; state = b.state; claims = b.claims; heap_len = b.heap_len; table_words = words }

-- `heap BYTES`: lends so many zeros
abbrev pub heap_by : ℕ → Desk → Outcome
heap_by bytes d =
    pick (ltb (length d.heap) bytes) (bad_line d)
    (changed (desk (lending_heap d.bench bytes) (replicate (length d.heap) 0) d.table))

-- `table WORDS`: lends so many zeros
abbrev pub table_by : ℕ → Desk → Outcome
table_by words d = pick (ltb (length d.table) words) (bad_line d) (changed (desk (lending_table d.bench words) d.heap (cleared d.table)))

-- `poke OFFSET HEX`: within the lent heap
abbrev pub poke_by : ℕ → List ℕ → Desk → Outcome
poke_by at bytes d = pick (ltb (length d.heap) (at + length bytes)) (bad_line d) (changed (desk d.bench (put_at d.heap at bytes) d.table))

-- `entry K ID RAW`: a place of the lent table
abbrev pub entry_by : ℕ → ℕ → ℕ → Desk → Outcome
entry_by k id raw d = pick (leb (capacity_of d.table) k) (bad_line d) (changed (desk d.bench d.heap (with_pair d.table k id raw)))

-- ---- the state's own records
-- `unsynced`: nothing changes
abbrev pub unsynced_by : Desk → Outcome
unsynced_by d = record { reply = gave marks (unsynced_call d.bench.state.files.records); desk = d }

-- ---- looks
-- `check ROOM`: room for so many lines, up to 4,096
abbrev pub check_by : ℕ → Bench → Turn
check_by room b = pick (ltb 4096 room) (replied BadLine b) (replied (Shown (Check room)) b)

-- `bytes OFFSET COUNT`: up to 65,536, within the lent heap
abbrev pub bytes_by : ℕ → ℕ → Desk → Outcome
bytes_by at count d = pick (ltb 65536 count || ltb (length d.heap) (at + count)) (bad_line d) (looked (Bytes at count) d)

-- ---- salvage
-- the call on a desk, with a report lent to it
abbrev pub salvage_on : Desk → List ℕ → Salvaged
salvage_on d report = salvage_call d.bench.settings d.heap d.table report

-- the heap changes, and nothing else on the desk
abbrev pub rescued : Desk → Given → List ℕ → Outcome
rescued d answer heap = record { reply = gave emptied answer; desk = desk d.bench heap d.table }

-- `salvage`: neither answer nor heap goes by what stood in the report
abbrev pub salvage_by : Desk → Outcome
salvage_by d = rescued d (salvage_on d []).answer (salvage_on d []).heap

-- the report after a command: a salvage of the lent parts writes its lines, any other command leaves it
abbrev pub report_by : Keyword → Desk → List ℕ → List ℕ
report_by k d report = pick (eqb (number k) (number key.Salvage)) (salvage_on (lent_of d) report).report report

-- ---- maintenance in two calls
-- the notes that the console lends: as many as the longest table has entries
abbrev pub notes : ℕ
notes = 65536

-- `plan`: nothing changes
abbrev pub plan_by : Desk → Outcome
plan_by d = record { reply = gave planned (record { number = (plan_call (world_of d) notes).number; values = [] }); desk = d }

-- its values, in words of their own
abbrev pub plan_on : Desk → List ℕ
plan_on d = plan_laid (world_of d) notes

-- these words after a command: a plan of the lent parts writes them, any other command leaves them
abbrev pub words_by : Keyword → Desk → List ℕ → List ℕ
words_by k d words = pick (eqb (number k) (number key.Plan)) (plan_on (lent_of d)) words

-- `rewrite G MARK COUNT`
abbrev pub request_from : List ℕ → Request
request_from n = record { generation = nth n 0; mark = nth n 1; count = nth n 2 }

-- ---- the commands: a keyword, its numbers and bytes
-- those on the lent parts that write no report and no plan
unfoldable pub lent_by : Keyword → List ℕ → List ℕ → Desk → Outcome
lent_by key.Poke n bytes d = poke_by (nth n 0) bytes d
lent_by key.Entry n bytes d = entry_by (nth n 0) (nth n 1) (nth n 2) d
lent_by key.Reopen n bytes d = called plain reopen_call d
lent_by key.Write n bytes d = called plain (λ (w : World). write_call w bytes) d
lent_by key.Read n bytes d = called found (λ (w : World). read_call w (nth n 0)) d
lent_by key.Through n bytes d = called pieced (λ (w : World). through_call w bytes (nth n 0)) d
lent_by key.Prune n bytes d = called plain prune_call d
lent_by key.Rewrite n bytes d = called moved (λ (w : World). rewrite_call w notes (nth n 0) (nth n 1) (nth n 2)) d
lent_by key.Maintain n bytes d = called moved (λ (w : World). nightly_call w notes) d
lent_by key.Claim n bytes d = called plain (λ (w : World). claim_call w (nth n 0)) d
lent_by key.Release n bytes d = called plain (λ (w : World). release_call w (nth n 0)) d
lent_by key.Counts n bytes d = called counted counts_call d
lent_by key.Load n bytes d = called located (on_table (λ (t : Table). load_call t (nth n 0))) d
lent_by key.Bytes n bytes d = bytes_by (nth n 0) (nth n 1) d
lent_by key.Store n bytes d = called plain (on_table (λ (t : Table). store_call t (nth n 0) (nth n 1))) d
lent_by key.Cas n bytes d = called compared (on_table (λ (t : Table). compare_call t (nth n 0) (nth n 1) (nth n 2))) d
lent_by key.Max n bytes d = called raised (on_table (λ (t : Table). greater_call t (nth n 0) (nth n 1))) d
lent_by key.Blank n bytes d = bad_line d
lent_by key.Bad n bytes d = bad_line d
lent_by key.Settings n bytes d = bad_line d
lent_by key.Heap n bytes d = bad_line d
lent_by key.Table n bytes d = bad_line d
lent_by key.State n bytes d = bad_line d
lent_by key.Record n bytes d = bad_line d
lent_by key.Claims n bytes d = bad_line d
lent_by key.Unsynced n bytes d = bad_line d
lent_by key.Sync n bytes d = bad_line d
lent_by key.Check n bytes d = bad_line d
lent_by key.Plan n bytes d = bad_line d
lent_by key.Salvage n bytes d = bad_line d
lent_by key.List n bytes d = bad_line d
lent_by key.Dump n bytes d = bad_line d
lent_by key.Help n bytes d = bad_line d

-- all of them
unfoldable pub done_by : Keyword → List ℕ → List ℕ → Desk → Outcome
done_by key.Blank n bytes d = looked Comment d
done_by key.Bad n bytes d = bad_line d
done_by key.Settings n bytes d = left (done (with_settings d.bench (settings_from n))) d.heap d.table
done_by key.State n bytes d = left (done (with_state d.bench (state_from n d.bench.state))) d.heap d.table
done_by key.Record n bytes d = left (record_by n d.bench) d.heap d.table
done_by key.Claims n bytes d = left (done (with_claims d.bench (claims_from n))) d.heap d.table
done_by key.Unsynced n bytes d = unsynced_by d
done_by key.Sync n bytes d = called marks sync_state d
done_by key.Heap n bytes d = heap_by (nth n 0) d
done_by key.Table n bytes d = table_by (nth n 0) d
done_by key.Check n bytes d = left (check_by (nth n 0) d.bench) d.heap d.table
done_by key.Salvage n bytes d = on_lent salvage_by d
done_by key.Plan n bytes d = on_lent plan_by d
done_by key.List n bytes d = looked Listing d
done_by key.Dump n bytes d = looked Dump d
done_by key.Help n bytes d = looked Help d
done_by key.Poke n bytes d = on_lent (lent_by key.Poke n bytes) d
done_by key.Entry n bytes d = on_lent (lent_by key.Entry n bytes) d
done_by key.Reopen n bytes d = on_lent (lent_by key.Reopen n bytes) d
done_by key.Write n bytes d = on_lent (lent_by key.Write n bytes) d
done_by key.Read n bytes d = on_lent (lent_by key.Read n bytes) d
done_by key.Through n bytes d = on_lent (lent_by key.Through n bytes) d
done_by key.Prune n bytes d = on_lent (lent_by key.Prune n bytes) d
done_by key.Rewrite n bytes d = on_lent (lent_by key.Rewrite n bytes) d
done_by key.Maintain n bytes d = on_lent (lent_by key.Maintain n bytes) d
done_by key.Claim n bytes d = on_lent (lent_by key.Claim n bytes) d
done_by key.Release n bytes d = on_lent (lent_by key.Release n bytes) d
done_by key.Counts n bytes d = on_lent (lent_by key.Counts n bytes) d
done_by key.Load n bytes d = on_lent (lent_by key.Load n bytes) d
done_by key.Bytes n bytes d = on_lent (lent_by key.Bytes n bytes) d
done_by key.Store n bytes d = on_lent (lent_by key.Store n bytes) d
done_by key.Cas n bytes d = on_lent (lent_by key.Cas n bytes) d
done_by key.Max n bytes d = on_lent (lent_by key.Max n bytes) d

-- ---- before the first command
abbrev pub fresh_bench : Bench
fresh_bench = record { settings = defaults; state = no_state; claims = no_claims; heap_len = 65536; table_words = 2048 }
