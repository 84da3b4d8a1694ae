use Rattle.std.specs.Prelude.{option_map}
use Rattle.std.proofs.lemmas.List.{map-set}
use Rattle.kv_plain.specs.Machine.{position_in}
use Rattle.kv_plain.proofs.seats.set_cursor.Goals as goal

pub returns-then-cursor-row : goal.returns-then-cursor-row
returns-then-cursor-row c = map-set (option_map position_in) c.args.row.now c.args.cursor c.args.position
