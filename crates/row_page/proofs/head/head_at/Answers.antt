use Rattle.row_page.proofs.Heads.{slice_is}
use Rattle.row_page.proofs.head.head_at.Goals as goal

pub head_of-head-requires : goal.head_of-head-requires
head_of-head-requires c = rw c.rest-bytes.ensures (slice_is 39 c.args.reader.now (c.in_ok-slice.field-0.now, c.slice.new.self) c.in_ok-slice.ensures.read).0
