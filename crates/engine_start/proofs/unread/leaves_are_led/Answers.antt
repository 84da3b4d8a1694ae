use Rattle.engine_start.proofs.LedRows.{are_led}
use Rattle.engine_start.proofs.unread.leaves_are_led.Goals as goal

pub returns : goal.returns
returns c = are_led
