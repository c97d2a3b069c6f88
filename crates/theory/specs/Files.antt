-- The files that views show: 8 to 15 as facts about slots, the file map and the next position that a reopening makes of them.
use Rattle.std.specs.Prelude.{◌&&◌, ◌-◌}
use Rattle.rules.specs.Base.{Bool, leb, eqb}
use Rattle.theory.specs.Types.{Entry}
use Rattle.disk_location.specs.Locations.{position_of}

-- ---- 15: a repeated id
abbrev pub falls : Entry → Entry → Bool
falls e d = eqb d.id e.id && leb (position_of d.location) (position_of e.location)
