-- What a call that makes a location answers: the location, or nothing where 20 refuses it.
use Rattle.std.specs.Prelude.{Option}
use Rattle.disk_location.specs.declared.DiskLocation.{DiskLocation}
use Rattle.disk_location.specs.declared.RelativeDiskLocation.{RelativeDiskLocation}

abbrev pub Located : Type 0
Located = Option DiskLocation

abbrev pub RelativeLocated : Type 0
RelativeLocated = Option RelativeDiskLocation
