-- What the answers of the plain program stand for.
use Rattle.std.specs.Prelude.{option_map}
use Rattle.kv_model.specs.Reads.{Found, Value, Conflict}
use Rattle.kv_plain.specs.declared.reads.Reading.{Reading}
use Rattle.kv_plain.specs.declared.reads.Reading.TheVariants as read

abbrev pub read_in : Reading → Found
read_in (read.Value v) = Value (option_map (λ i. i.now) v)
read_in (read.Conflict id) = Conflict id
