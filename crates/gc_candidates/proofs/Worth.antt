-- "live × 100 / max(present, 1) .. strictly below the percentage, or both ..", test by test.
use mathlib.Core.Path.{◌≡◌, sym}
use mathlib.Core.Logic.{inl}
use Prim.Native.Nat.{◌≤◌, ◌<◌}
use borrow.Author.Tests.{le-ltb, le-leb, lt-leb}
use Rattle.std.specs.Prelude.{◌*◌, ◌/◌}
use Rattle.rules.specs.Base.{true, false, ℕ, ltb, larger}
use Rattle.rules.specs.declared.Settings.{Settings}
use Rattle.rules.specs.declared.Record.{Record}
use Rattle.rules.specs.Maintenance.{worth_it}
use Rattle.rules.proofs.MaintenanceLaws.{is-worth-it}

module _ (s : Settings) (files : ℕ) (r : Record) (n : ℕ) (e : n ≡ larger r.label.present_objects 1) where
  pub worth-share : r.live * 100 / n < s.file_compaction_percent → true ≡ worth_it s files r
  worth-share h = sym (is-worth-it s files r (inl (rw e at h)))

  pub worth-few : s.file_compaction_percent ≤ r.live * 100 / n → files < s.small_file_cleanup_threshold → false ≡ worth_it s files r
  unfolding worth_it
  worth-few h few =
      let q : s.file_compaction_percent ≤ r.live * 100 / larger r.label.present_objects 1 = rw e at h in
      rw (le-ltb (r.live * 100 / larger r.label.present_objects 1) s.file_compaction_percent q, lt-leb s.small_file_cleanup_threshold files few)

  pub worth-many : s.file_compaction_percent ≤ r.live * 100 / n → s.small_file_cleanup_threshold ≤ files
      → ltb (r.label.file_size * s.min_compaction_files) s.target_file_size ≡ worth_it s files r
  unfolding worth_it
  worth-many h many =
      let q : s.file_compaction_percent ≤ r.live * 100 / larger r.label.present_objects 1 = rw e at h in
      rw (le-ltb (r.live * 100 / larger r.label.present_objects 1) s.file_compaction_percent q, le-leb s.small_file_cleanup_threshold files many)
