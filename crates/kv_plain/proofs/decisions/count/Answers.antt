use Rattle.std.proofs.Common.{sym}
use Rattle.std.proofs.lemmas.List.{length-map}
use Rattle.kv_plain.proofs.decisions.count.Goals as goal

pub returns : goal.returns
returns c = sym (length-map c.args.sessions.now _)
