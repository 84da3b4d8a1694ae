-- The two ways through the keys of a leaf.
use Rattle.kv_model.specs.Rows.{Up as ToGreater, Down as ToSmaller, Way as KeyWay}
use Rattle.leaf_frame.specs.declared.way.Way.{Way}
use Rattle.leaf_frame.specs.declared.way.Way.TheVariants.{Up, Down}

abbrev pub way_in : Way → KeyWay
way_in Up = ToGreater
way_in Down = ToSmaller
