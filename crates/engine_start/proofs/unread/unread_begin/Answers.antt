use Rattle.engine_start.proofs.EntriesBegun.{unread_begin}
use Rattle.engine_start.proofs.unread.unread_begin.Goals as goal

pub returns : goal.returns
returns c = unread_begin
