use Rattle.marble_c.specs.Salvages.{rescue-shown}
use Rattle.marble_c.proofs.marble_salvage.Goals as goal

pub returns : goal.returns
returns c = rescue-shown _ _ _ c.salvage.ensures c.count_shown-done.ensures.salvage
