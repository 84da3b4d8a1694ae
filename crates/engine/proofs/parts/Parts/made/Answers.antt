use Rattle.std.proofs.Common.{ℕ, sym, List, subst}
use Rattle.engine.specs.Systems.{Makes}
use Rattle.wt_calls.specs.declared.system_call.SystemCall.{SystemCall}
use Rattle.kv_model.specs.Calls.{Create}
use Rattle.wt_calls.specs.Calls.{system_call_in}
use Rattle.engine.proofs.parts.Parts.made.Goals as goal

pub returns-in-Create-clause-makes : goal.returns-in-Create-clause-makes
returns-in-Create-clause-makes c = λ w st. subst (λ (x : SystemCall). Makes c.create.new.self w (system_call_in x) c.create.result) (sym c.in-Create.is)
    (subst (λ (n : List ℕ). Makes c.create.new.self w (Create n c.in-Create.formats) c.create.result) c.as_bytes.ensures (c.create.ensures.makes w st))

pub returns-in-SetStamps-clause-makes : goal.returns-in-SetStamps-clause-makes
returns-in-SetStamps-clause-makes c = λ w st. subst (λ (x : SystemCall). Makes c.set.new.self w (system_call_in x) c.set.result) (sym c.in-SetStamps.is) (c.set.ensures.makes w st)
