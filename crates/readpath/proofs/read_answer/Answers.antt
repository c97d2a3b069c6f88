use mathlib.Core.Path.{◌≡◌, sym, ap, ◌∙◌}
use mathlib.Core.Bool.{false}
use mathlib.Core.List.{List}
use Prim.Native.Nat.{ℕ, ◌+◌, ◌-◌, ◌*◌}
use native.Mathlib.Omega.{arith}
use borrow.Author.Rules.{rules}
use lib.ListN.{length, drop}
use Rattle.disk_location.specs.Locations.{position_of}
use Rattle.rules.specs.declared.Claims.{Claims}
use Rattle.rules.specs.declared.Settings.{Settings}
use Rattle.rules.specs.declared.State.{State}
use Rattle.rules.specs.Types.{Slot}
use Rattle.rules.specs.declared.Loaded.{Loaded}
use Rattle.rules.specs.declared.Loaded.TheVariants.{At}
use Rattle.rules.specs.Table.{load}
use Rattle.rules.specs.Layout.{Table, used_entries}
use Rattle.rules.specs.Condition1.{condition_one}
use Rattle.rules.proofs.Condition1Laws.{passed}
use Rattle.rules.specs.FileMap.{record_at, file_for}
use Rattle.rules.specs.FileMapLaws.{IsFile}
use Rattle.rules.proofs.FileMapLaws.{file-at, not-empty}
use Rattle.rules.specs.Object.{stored_at}
use Rattle.rules.specs.Read.{object_in, read_file, read_loaded, read_of}
use Rattle.rules.specs.SlotFile.{bytes_of_slot, file_in}
use Rattle.rules.specs.World.{World, world}
use Rattle.file_lists.specs.Lists.{lsn_at, lsns_of}
use Rattle.file_lists.specs.ListLaws.{file-for-lsns}
use Rattle.limits.specs.Settled.{passed-formed}
use Rattle.stored_object.specs.Objects.{body_of}
use Rattle.readpath.specs.Reads.{Lies, in_heap}
use Rattle.readpath.specs.ReadLaws.{passed-lie, read-refused, read-loaded, read-object}
use Rattle.readpath.proofs.read_answer.Goals as goal

-- ---- what is known where 1 does not refuse, and the answer, step by step
module _ (settings : Settings) (state : State) (heap : List ℕ) (table : Table) (id : ℕ) where
  abbrev given : Claims → World
  given claims = world settings state claims heap table

  -- what load tells decides
  loaded : condition_one settings (length heap) table state ≡ false → (l : Loaded) → l ≡ load (used_entries table) id → (claims : Claims)
      → read_of (given claims) id ≡ read_loaded (given claims) id l
  loaded clear l told claims = read-loaded (given claims) id clear ∙ ap (read_loaded (given claims) id) (sym told)

  -- then the file
  placed : (location : ℕ) (lsns : List ℕ) (found : Slot) → found ≡ lsn_at lsns location → lsns ≡ lsns_of state.files.records
      → found ≡ file_for state.files.records location
  placed location lsns found at these =
      at ∙ ap (λ (ns : List ℕ). lsn_at ns location) these ∙ sym (file-for-lsns state.files.records location)

  filed : condition_one settings (length heap) table state ≡ false → (l : Loaded) → l ≡ load (used_entries table) id → (location : ℕ) → l ≡ At location
      → (found : Slot) → found ≡ file_for state.files.records location → (claims : Claims)
      → read_of (given claims) id ≡ read_file (given claims) id location found
  filed clear l told location is found at claims =
      loaded clear l told claims
      ∙ ap (read_loaded (given claims) id) is
      ∙ ap (read_file (given claims) id location) (sym at)

  -- ---- and where a file is found
  lies : condition_one settings (length heap) table state ≡ false → (location k : ℕ) → IsFile state.files.records location k
      → Lies settings.slot_bytes (record_at state.files.records k).label k (length heap)
  lies clear location k found =
      passed-lie settings (length heap) table state (passed settings (length heap) table state clear) k (not-empty (record_at state.files.records k) found.used)

pub returns-then-refused_apart : goal.returns-then-refused_apart
returns-then-refused_apart c =
    let a = c.args in
    let asked = sym (c.refused_apart.ensures.answers a.state.files c.bad_files-bad.ensures ∙ ap (condition_one a.settings (length a.heap.now) a.table.now) c.rest_of.ensures) in
    λ claims. sym (read-refused (given a.settings a.state a.heap.now a.table.now a.id claims) a.id (asked ∙ c.if-refused_apart.true))

pub load-requires : goal.load-requires
load-requires c =
    let a = c.args in
    let asked = sym (c.refused_apart.ensures.answers a.state.files c.bad_files-bad.ensures ∙ ap (condition_one a.settings (length a.heap.now) a.table.now) c.rest_of.ensures) in
    passed-formed a.settings (length a.heap.now) a.table.now a.state (passed a.settings (length a.heap.now) a.table.now a.state (asked ∙ c.if-refused_apart.false))

pub returns-in_err-slot-in-At : goal.returns-in_err-slot-in-At
returns-in_err-slot-in-At c =
    let a = c.args in
    let asked = sym (c.refused_apart.ensures.answers a.state.files c.bad_files-bad.ensures ∙ ap (condition_one a.settings (length a.heap.now) a.table.now) c.rest_of.ensures) in
    let at = placed a.settings a.state a.heap.now a.table.now a.id c.in-At.location _ c.lsn_at.result c.lsn_at.ensures c.lsns-lsns.ensures in
    λ claims. search (rules, sym (filed a.settings a.state a.heap.now a.table.now a.id (asked ∙ c.if-refused_apart.false) c.load.result c.load.ensures c.in-At.location c.in-At.is c.lsn_at.result at claims ∙ ap (read_file (given a.settings a.state a.heap.now a.table.now a.id claims) a.id c.in-At.location) c.in_err-slot-in-At.ensures.ok_part))

pub offset_bounds-files-i : goal.offset_bounds-files-i
offset_bounds-files-i c =
    let a = c.args in
    let asked = sym (c.refused_apart.ensures.answers a.state.files c.bad_files-bad.ensures ∙ ap (condition_one a.settings (length a.heap.now) a.table.now) c.rest_of.ensures) in
    let at = placed a.settings a.state a.heap.now a.table.now a.id c.in-At.location _ c.lsn_at.result c.lsn_at.ensures c.lsns-lsns.ensures in
    let found = file-at a.state.files.records c.in-At.location c.in_ok-slot-in-At.slot (sym at ∙ c.in_ok-slot-in-At.ensures.ok_part) in
    let place = (lies a.settings a.state a.heap.now a.table.now a.id (asked ∙ c.if-refused_apart.false) c.in-At.location c.in_ok-slot-in-At.slot found).place in
    search rules

pub bounds-files-i : goal.bounds-files-i
bounds-files-i c =
    let a = c.args in
    let asked = sym (c.refused_apart.ensures.answers a.state.files c.bad_files-bad.ensures ∙ ap (condition_one a.settings (length a.heap.now) a.table.now) c.rest_of.ensures) in
    let at = placed a.settings a.state a.heap.now a.table.now a.id c.in-At.location _ c.lsn_at.result c.lsn_at.ensures c.lsns-lsns.ensures in
    let found = file-at a.state.files.records c.in-At.location c.in_ok-slot-in-At.slot (sym at ∙ c.in_ok-slot-in-At.ensures.ok_part) in
    let place = (lies a.settings a.state a.heap.now a.table.now a.id (asked ∙ c.if-refused_apart.false) c.in-At.location c.in_ok-slot-in-At.slot found).place in
    search rules

pub overflow_sub-position : goal.overflow_sub-position
overflow_sub-position c =
    let a = c.args in
    let at = placed a.settings a.state a.heap.now a.table.now a.id c.in-At.location _ c.lsn_at.result c.lsn_at.ensures c.lsns-lsns.ensures in
    let found = file-at a.state.files.records c.in-At.location c.in_ok-slot-in-At.slot (sym at ∙ c.in_ok-slot-in-At.ensures.ok_part) in
    let low = found.low in
    let half = c.position.ensures in
    omega arith

pub object_at-requires : goal.object_at-requires
object_at-requires c =
    let a = c.args in
    let asked = sym (c.refused_apart.ensures.answers a.state.files c.bad_files-bad.ensures ∙ ap (condition_one a.settings (length a.heap.now) a.table.now) c.rest_of.ensures) in
    let at = placed a.settings a.state a.heap.now a.table.now a.id c.in-At.location _ c.lsn_at.result c.lsn_at.ensures c.lsns-lsns.ensures in
    let found = file-at a.state.files.records c.in-At.location c.in_ok-slot-in-At.slot (sym at ∙ c.in_ok-slot-in-At.ensures.ok_part) in
    lies a.settings a.state a.heap.now a.table.now a.id (asked ∙ c.if-refused_apart.false) c.in-At.location c.in_ok-slot-in-At.slot found

pub returns-in-Never : goal.returns-in-Never
returns-in-Never c =
    let a = c.args in
    let asked = sym (c.refused_apart.ensures.answers a.state.files c.bad_files-bad.ensures ∙ ap (condition_one a.settings (length a.heap.now) a.table.now) c.rest_of.ensures) in
    λ claims. sym (loaded a.settings a.state a.heap.now a.table.now a.id (asked ∙ c.if-refused_apart.false) c.load.result c.load.ensures claims ∙ ap (read_loaded (given a.settings a.state a.heap.now a.table.now a.id claims) a.id) c.in-Never.is)

pub returns-in-DeletedAt : goal.returns-in-DeletedAt
returns-in-DeletedAt c =
    let a = c.args in
    let asked = sym (c.refused_apart.ensures.answers a.state.files c.bad_files-bad.ensures ∙ ap (condition_one a.settings (length a.heap.now) a.table.now) c.rest_of.ensures) in
    λ claims. sym (loaded a.settings a.state a.heap.now a.table.now a.id (asked ∙ c.if-refused_apart.false) c.load.result c.load.ensures claims ∙ ap (read_loaded (given a.settings a.state a.heap.now a.table.now a.id claims) a.id) c.in-DeletedAt.is)

pub returns-in_ok-slot-in-At : goal.returns-in_ok-slot-in-At
returns-in_ok-slot-in-At c =
    let a = c.args in
    let asked = sym (c.refused_apart.ensures.answers a.state.files c.bad_files-bad.ensures ∙ ap (condition_one a.settings (length a.heap.now) a.table.now) c.rest_of.ensures) in
    let at = placed a.settings a.state a.heap.now a.table.now a.id c.in-At.location _ c.lsn_at.result c.lsn_at.ensures c.lsns-lsns.ensures in
    let l = c.in-At.location in
    let k = c.in_ok-slot-in-At.slot in
    let r = (record_at a.state.files.records k).label in
    let size = a.settings.slot_bytes in
    let file = file_in r (bytes_of_slot size a.heap.now k) in
    λ claims.
    let w = given a.settings a.state a.heap.now a.table.now a.id claims in
    c.object_at.ensures
    ∙ ap (λ (p : ℕ). in_heap (k * size + 64) (body_of a.id (stored_at (p - r.lsn) (drop (p - r.lsn) file)))) c.position.ensures
    ∙ sym (read-object w a.id k (object_in w k (position_of l - r.lsn)))
    ∙ sym (filed a.settings a.state a.heap.now a.table.now a.id (asked ∙ c.if-refused_apart.false) c.load.result c.load.ensures l c.in-At.is c.lsn_at.result at claims ∙ ap (read_file w a.id l) c.in_ok-slot-in-At.ensures.ok_part)
