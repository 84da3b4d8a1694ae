-- What a key that a leaf holds gives to a search for a row.
use Rattle.std.specs.Prelude.{◌≡◌, ◌⊎◌}
use Rattle.update_chain.specs.Updates.{Reply, Gives, IsRemoved, Conflicts, IsOlder}
use Rattle.leaf_frame.specs.declared.near.HeldRow.{HeldRow}
use Rattle.leaf_frame.specs.Looks.{reply_in}
use Rattle.call_steps.specs.declared.rows.RowFound.{RowFound}
use Rattle.call_steps.specs.declared.rows.RowFound.TheVariants as row

-- neither a value nor a conflict
abbrev pub IsQuiet : Reply → Type 0
IsQuiet reply = (reply ≡ IsRemoved) ⊎ (reply ≡ IsOlder)

-- what its read says
abbrev pub IsRowOf : HeldRow → RowFound → Type 0
IsRowOf held (row.Row k v) = (k.now ≡ held.key.now) × (reply_in held.read ≡ Gives v.now)
IsRowOf held (row.Conflict id) = reply_in held.read ≡ Conflicts id
IsRowOf held row.End = ⊥
