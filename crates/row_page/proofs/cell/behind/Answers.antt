use Rattle.std.proofs.Common.{◌+◌, arith}
use Rattle.row_page.proofs.Heads.{slice_is}
use Rattle.row_page.proofs.cell.behind.Goals as goal

pub split_at-requires : goal.split_at-requires
split_at-requires c = omega (arith, (slice_is (c.args.head.now.key_len + c.args.head.now.value_len) c.args.reader.now (c.in_ok-text.text.now, c.slice.new.self) c.in_ok-text.ensures.read).1)
