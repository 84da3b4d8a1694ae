use Rattle.std.specs.Prelude.{option_and_then}
use Rattle.std.proofs.Common.{ap}
use Rattle.kv_model.specs.History.{put_of}
use Rattle.kv_model.proofs.ReadingOn.{reads-go-on}
use Rattle.kv_model.proofs.going_on.reads_go_on.Goals as goal

pub returns : goal.returns
returns c = λ m event s t table key v may there others unmet. ap (λ o. option_and_then (λ v. put_of v.change) o) (reads-go-on m s t table key v there event may others unmet)
