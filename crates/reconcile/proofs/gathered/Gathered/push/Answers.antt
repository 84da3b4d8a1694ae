use Rattle.row_page.specs.Views.{row_seen}
use Rattle.reconcile.proofs.Filling.{gathered_more}
use Rattle.reconcile.proofs.gathered.Gathered.push.Goals as goal

pub returns : goal.returns
returns c =
    gathered_more c.args.self.now c.push.new.self c.later-self.result c.max-self.result (row_seen c.args.cell.now) (c.push.ensures.room.0 c.if-not-push.false) c.push.ensures.limit (c.push.ensures.written c.if-not-push.false) c.later-self.ensures.is c.max-self.ensures
