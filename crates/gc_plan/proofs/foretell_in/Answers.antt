use Rattle.gc_plan.proofs.foretell_in.Goals as goal

pub foretell-requires : goal.foretell-requires
foretell-requires c =
    record {
      in_ranges = c.requires.in_ranges;
      ready = rw c.files_in-files.ensures c.requires.ready;
      formed = c.requires.formed;
      table_len_bound = c.requires.table_len_bound;
      within = c.requires.within;
    }

pub returns : goal.returns
returns c =
    rw (← c.files_in-files.ensures) c.foretell.ensures
