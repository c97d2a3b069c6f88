use Rattle.gc_words.proofs.empties.Goals as goal

pub returns : goal.returns
returns c =
    rw (← c.files_in-files.ensures) c.empty_slots.ensures
