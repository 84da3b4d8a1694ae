-- What a device without a history has of it.
use Rattle.stored.specs.Links.{nowhere}
use Rattle.stored.specs.Records.{Root}

-- the root of a history without records
abbrev pub no_root : Root
no_root = record { level = 0; link = nowhere }
