use Rattle.std.proofs.Common.{length}
use Rattle.kv_plain.proofs.looks.+is_released.Given as goal

abbrev pub decreases-is_released : goal.decreases-is_released
decreases-is_released l = length l.history.now
