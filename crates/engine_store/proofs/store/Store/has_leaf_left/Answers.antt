use Rattle.std.proofs.Common.{◌∙◌, Option, ap, refl, sym}
use Rattle.std.specs.Prelude.{◌&&◌, nat_lt, not}
use Rattle.failure.specs.declared.Fault.{Fault}
use Rattle.kv_model.specs.Decisions.{is_there}
use Rattle.engine_store.specs.Keeping.{with_kept}
use Rattle.engine_store.specs.Progress.{left_of, place_in}
use Rattle.engine_store.proofs.CheckpointSteps.{told_left}
use Rattle.engine_store.proofs.store.Store.has_leaf_left.Goals as goal

pub returns-in-Some : goal.returns-in-Some
returns-in-Some g c = λ disk h start w first made held.
    let s = c.args.self.now in
    ap (λ (o : Option Fault). not (is_there o) && nat_lt 0 (left_of w.machine s.engine.hub.dir.leaves (place_in s.running))) (sym (sym held.stands.fault ∙ (sym c.fault.ensures ∙ c.in-Some.is)))

pub returns-in-None : goal.returns-in-None
returns-in-None g c = λ disk h start w first made held.
    let s = c.args.self.now in
    c.has_left.ensures
    ∙ (told_left g.D.Disk start disk s (with_kept s.ground.kept w) first made held s.running refl
    ∙ ap (λ (o : Option Fault). not (is_there o) && nat_lt 0 (left_of w.machine s.engine.hub.dir.leaves (place_in s.running))) (sym (sym held.stands.fault ∙ (sym c.fault.ensures ∙ c.in-None.is))))
