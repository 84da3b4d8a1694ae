use Rattle.std.proofs.Common.{◌≡◌, sym, ◌∙◌, subst}
use Rattle.std.specs.Prelude.{Some, None}
use Rattle.engine_world.specs.Stands.{Engine}
use Rattle.engine.proofs.Closes.{told-is}
use Rattle.engine.proofs.parts.Parts.may_close.Goals as goal

pub returns-in-None-clause-told : goal.returns-in-None-clause-told
returns-in-None-clause-told c = λ w st free. sym (told-is c.args.self.now w None st (subst (λ (x : Engine). x.hub.fault ≡ None) c.self.view_is c.in_default.is) free (sym c.in-None.is ∙ c.at_work.ensures))

pub returns-in-Some-at_work-clause-told : goal.returns-in-Some-at_work-clause-told
returns-in-Some-at_work-clause-told c = λ w st free. sym (told-is c.args.self.now w (Some c.in-Some-at_work.session) st (subst (λ (x : Engine). x.hub.fault ≡ None) c.self.view_is c.in_default.is) free (sym c.in-Some-at_work.is ∙ c.at_work.ensures))
