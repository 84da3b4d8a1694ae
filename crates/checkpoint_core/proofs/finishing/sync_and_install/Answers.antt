use Rattle.std.proofs.Common.{inl, inr, ◌≡◌, ◌∙◌, sym, subst, IsTrue, ℕ, List}
use Rattle.disk_model.specs.Disk.{Only}
use Rattle.disk_model.proofs.Crash.{started, goes_on, widened, looked_only}
use Rattle.checkpoint_core.specs.Stands.{HasStill}
use Rattle.checkpoint_core.proofs.Installing.{has_now, before, left_old, left_either, installed, installed_read, installs, reads_then, on_read_map, if_down_map, on_ok_map}
use Rattle.checkpoint_core.proofs.finishing.sync_and_install.Goals as goal

pub returns-in-Ok-clause-leaves : goal.returns-in-Ok-clause-leaves
returns-in-Ok-clause-leaves g c h old new written is next =
    let D = g.D.Disk in
    let seen = D.seen c.args.disk.now in
    let now = D.seen c.sync.new.self in
    let images = D.may_leave c.args.disk.now in
    let left = D.may_leave c.sync.new.self in
    let same : now ≡ seen = c.in-Ok.ensures.seen in
    let honest : IsTrue (D.honest c.sync.new.self) = c.sync.ensures.same ∙ h in
    let only : Only now left = λ x there. c.in-Ok.ensures.durable x there ∙ sym same in
    let ready = before seen now images left old new c.args.slot written same only is next c.requires.sequence in
    installs D old new c.args.disk.now c.sync.new.self c.install.new.disk c.install.result
    (goes_on D _ _ _ _ (started D c.args.disk.now _ (λ d there. written.images_have d (g.met.D.Disk.only_now _ d there))) c.sync.ensures.time (λ d there. written.images_have d (c.sync.ensures.crash d there)))
    (widened D _ _ _ _ (c.install.ensures.any_moment honest _ ready) (left_either seen now images left old new c.args.slot written same only is))
    (on_read_map c.install.result c.install.ensures.read (λ looked. looked_only D c.sync.new.self c.install.new.disk (HasStill old) looked (λ d there. subst (λ (l : List ℕ). HasStill old l) (sym (only d (g.met.D.Disk.only_now _ d there))) (has_now seen now images left old new c.args.slot written same only is))))
    (if_down_map c.install.result (c.install.ensures.down honest _ ready) (λ fault told. elim told.3 [
      | inl before_gate ↦ inl (widened D _ _ _ _ before_gate.1 (left_old seen now images left old new c.args.slot written same only is))
      | inr gate ↦ inr tt
    ]))
    c.install.ensures.no_other
    (on_ok_map c.install.result (c.install.ensures.ok honest _ ready) (λ there. installed seen now images left old new c.args.slot written same only is _ _ there))

pub returns-in-Err-clause-leaves : goal.returns-in-Err-clause-leaves
returns-in-Err-clause-leaves g c h old new written is next =
    let D = g.D.Disk in
    inl (goes_on D _ _ _ _ (started D c.args.disk.now _ (λ d there. written.images_have d (g.met.D.Disk.only_now _ d there))) c.sync.ensures.time (λ d there. written.images_have d (c.sync.ensures.crash d there)))

pub returns-in-Ok-clause-reads : goal.returns-in-Ok-clause-reads
returns-in-Ok-clause-reads g c h old new written is next =
    let D = g.D.Disk in
    let seen = D.seen c.args.disk.now in
    let now = D.seen c.sync.new.self in
    let images = D.may_leave c.args.disk.now in
    let left = D.may_leave c.sync.new.self in
    let same : now ≡ seen = c.in-Ok.ensures.seen in
    let honest : IsTrue (D.honest c.sync.new.self) = c.sync.ensures.same ∙ h in
    let only : Only now left = λ x there. c.in-Ok.ensures.durable x there ∙ sym same in
    let ready = before seen now images left old new c.args.slot written same only is next c.requires.sequence in
    reads_then D old new c.args.disk.now c.sync.new.self c.install.new.disk c.install.result same (has_now seen now images left old new c.args.slot written same only is) only c.install.ensures.read c.install.ensures.no_other
    (on_ok_map c.install.result (c.install.ensures.ok honest _ ready) (λ there. installed_read seen now images left old new c.args.slot written same only is _ _ there))
