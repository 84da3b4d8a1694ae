use Rattle.engine_start.proofs.EntriesBegun.{bare_leaves_start}
use Rattle.engine_start.proofs.unread.bare_leaves_start.Goals as goal

pub returns : goal.returns
returns c = bare_leaves_start c.seen_stay.ensures
