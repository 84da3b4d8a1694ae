use Rattle.hist_pages.specs.Views.{record_seen}
use Rattle.hist_pages.proofs.Cutting.{more_records}
use Rattle.hist_pages.proofs.open_leaf.OpenLeaf.push.Goals as goal

pub returns : goal.returns
returns c =
    more_records c.args.self.now c.push.new.self c.later-self.result c.max-self.result (record_seen c.args.lent.now) (c.push.ensures.room.0 c.if-not-push.false) (c.push.ensures.written c.if-not-push.false) c.later-self.ensures.is c.max-self.ensures
