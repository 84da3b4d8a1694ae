use Rattle.std.proofs.Common.{List, [], ◌∷◌, ◌++◌, ◌∙◌, ap}
use Rattle.reconcile.specs.declared.image.Image.{Image}
use Rattle.reconcile.proofs.Cutting.{close_some}
use Rattle.reconcile.proofs.images.close.Goals as goal

pub returns-in_ok-reserve : goal.returns-in_ok-reserve
returns-in_ok-reserve c =
    close_some c.args.opened c.in-Some.image c.finish.result c.args.done.now.items c.push_reserved.new.self.items c.in-Some.is c.finish.ensures
    (c.push_reserved.ensures.items ∙ ap (λ (l : List Image). l ++ c.finish.result ∷ []) c.in_ok-reserve.ensures.items)
