use Rattle.row_page.specs.Views.{row_seen}
use Rattle.reconcile.proofs.Cutting.{more_rows}
use Rattle.reconcile.proofs.open_image.OpenImage.push.Goals as goal

pub returns : goal.returns
returns c =
    more_rows c.args.self.now c.push.new.self c.later-self.result c.max-self.result (row_seen c.args.cell.now) (c.push.ensures.room.0 c.if-not-push.false) c.push.ensures.limit (c.push.ensures.written c.if-not-push.false) c.later-self.ensures.is c.max-self.ensures
