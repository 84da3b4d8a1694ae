-- The order of names: by run, then by id.
use Rattle.std.specs.Prelude.{Bool, ◌&&◌, ◌||◌, ◌==◌, nat_lt, if◌then◌else◌}
use Rattle.stamp.specs.declared.name.Name.{Name}

-- of an earlier run than the other, or of its run and a lower id
abbrev pub is_before : Name → Name → Bool
is_before x y = nat_lt x.run y.run || ((x.run == y.run) && nat_lt x.id y.id)

-- the one of two that is not before the other
abbrev pub later : Name → Name → Name
later x y = if is_before x y then y else x
