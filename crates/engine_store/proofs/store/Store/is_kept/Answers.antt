use Rattle.std.proofs.Common.{◌∙◌, sym}
use Rattle.engine_store.proofs.KeptFrames.{kept_bare, kept_told, kept_untold}
use Rattle.engine_store.proofs.store.Store.is_kept.Goals as goal

pub returns-in-None-clause-no : goal.returns-in-None-clause-no
returns-in-None-clause-no c = λ is. kept_bare c.args.self.now.engine c.args.frame (sym c.in-None.is ∙ c.id_in.ensures)

pub returns-in-Some-clause-yes : goal.returns-in-Some-clause-yes
returns-in-Some-clause-yes c = λ is. kept_told c.args.self.now.engine c.args.frame c.in-Some.leaf c.why_it_stays.result (sym c.is_some.ensures ∙ is) (sym c.in-Some.is ∙ c.id_in.ensures) c.why_it_stays.ensures.some

pub returns-in-Some-clause-no : goal.returns-in-Some-clause-no
returns-in-Some-clause-no c = λ is. kept_untold c.args.self.now.engine c.args.frame c.in-Some.leaf c.why_it_stays.result (sym c.is_some.ensures ∙ is) (sym c.in-Some.is ∙ c.id_in.ensures) c.why_it_stays.ensures.none
