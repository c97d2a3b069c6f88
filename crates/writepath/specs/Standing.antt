-- The file of a batch may be added: 4 to 7, decided for the batch, are what the file asks for.
use Rattle.std.proofs.Common.{sym, ap, arith}
use Rattle.std.specs.Prelude.{◌≤◌, ◌^◌}
use Rattle.rules.specs.Base.{List, ℕ, length}
use Rattle.rules.specs.declared.Settings.{Settings}
use Rattle.rules.specs.declared.State.{State}
use Rattle.rules.specs.Ops.{entries_of, settled}
use Rattle.rules.proofs.OpsLaws.{entries-of-rising}
use Rattle.rules.proofs.SettledLaws.{settled-rising}
use Rattle.rules.specs.Table.{insert_all}
use Rattle.rules.specs.Layout.{Table, used_entries, capacity_of}
use Rattle.rules.proofs.LayoutLaws.{form-rising}
use Rattle.batch.specs.Reading.{ops_in}
use Rattle.batch.specs.ReadingLaws.{settled-fit}
use Rattle.install.specs.Adding.{taken}
use Rattle.install.specs.Standing.{Addable}
use Rattle.table_merge.specs.NewIds.{new_ids, insert-all-new}
use Rattle.table_merge.specs.MergeLaws.{absolute-ids, rising-same}
use Rattle.writepath.specs.Filing.{Filed}

module _ {s : Settings} {t : State} {heap : List ℕ} {b : Table} {bytes : List ℕ} {slot count total : ℕ} (f : Filed s t heap b bytes slot count total) where
  -- there is room for its entries
  entries-room : (lsn : ℕ) → length (insert_all (used_entries b) (taken lsn (entries_of 0 (settled (ops_in bytes))))) ≤ capacity_of b
  entries-room lsn =
      let ops = settled (ops_in bytes) in
      let es = entries_of 0 ops in
      let used = used_entries b in
      let up = form-rising b f.limits.form in
      let rising = entries-of-rising 0 0 ops (settled-rising (ops_in bytes)) in
      omega (
        arith,
        f.ids,
        insert-all-new 0 used es up rising,
        insert-all-new 0 used (taken lsn es) up (rising-same 0 es (taken lsn es) (sym (absolute-ids lsn es)) rising),
        ap (new_ids used) (absolute-ids lsn es),
      )

  -- all that adding it asks for
  pub filed-addable : Addable (2 ^ 62) (settled (ops_in bytes)) s t heap b slot count total
  filed-addable = record {
    limits = f.limits;
    plain = omega arith;
    ids = settled-fit bytes;
    entries = f.sized.entries;
    objects = f.sized.objects;
    fits = f.fits;
    lowest = f.lowest;
    free = f.free;
    room = entries-room;
    last = f.last;
  }
