use Rattle.std.proofs.Common.{rules, sym, subst}
use Rattle.std.proofs.lemmas.Fn.{filter_same}
use Rattle.evict_step.specs.Backs.{AllFit}
use Rattle.evict_step.proofs.BroughtBack.{unlike-fits}
use Rattle.evict_step.proofs.back.drop_again.Goals as goal

pub returns-clause-is : goal.returns-clause-is
returns-clause-is c = filter_same _ _ _ (λ f b f' k. search rules) _ _ c.retain.ensures.filtered

pub returns-clause-fit : goal.returns-clause-fit
returns-clause-fit c = λ fit. subst AllFit (sym (returns-clause-is c)) (unlike-fits c.args.read.now.page c.args.moved.now.items fit)
