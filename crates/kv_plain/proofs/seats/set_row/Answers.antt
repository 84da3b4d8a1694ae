use Rattle.std.specs.Prelude.{option_map, map}
use Rattle.std.proofs.lemmas.List.{map-set}
use Rattle.kv_plain.specs.Machine.{position_in}
use Rattle.kv_plain.proofs.seats.set_row.Goals as goal

pub returns-then-session-cursors : goal.returns-then-session-cursors
returns-then-session-cursors c = map-set (λ row. map (option_map position_in) row.items) c.args.cursors.now c.args.session c.args.row
