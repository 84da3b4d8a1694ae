use Rattle.std.proofs.Common.{◌∙◌, Err, None, Ok, ap, inl, inr, length, refl, sym, arith}
use Rattle.catalog.specs.Known.{Known}
use Rattle.txn_table.specs.Tabled.{Table as Txns}
use Rattle.engine_store.specs.Keeping.{with_kept}
use Rattle.engine_store.proofs.CheckpointEnds.{finishes_as, finishes_drop, finishes_err, finishes_left, finishes_none, finishes_ok}
use Rattle.engine_store.proofs.KeptAnswers.{own_taken, told_own}
use Rattle.engine_store.proofs.CheckpointSteps.{left_now}
use Rattle.engine_store.proofs.store.Store.finish_checkpoint.Goals as goal

pub returns-in-Some-clause-finishes : goal.returns-in-Some-clause-finishes
returns-in-Some-clause-finishes g c = λ h first_disk w first made held.
    let s = c.args.self.now in
    let disk = c.args.disk.now in
    finishes_as g.D.Disk first_disk w (with_kept s.ground.kept w).records first made s s disk disk (Err _)
    (finishes_none g.D.Disk first_disk disk s (with_kept s.ground.kept w) first made held _ (inl (c.in-Some.fault, sym c.fault.ensures ∙ c.in-Some.is, refl)))

pub returns-in_default-running-clause-finishes : goal.returns-in_default-running-clause-finishes
returns-in_default-running-clause-finishes g c = λ h first_disk w first made held.
    let s = c.args.self.now in
    let disk = c.args.disk.now in
    finishes_as g.D.Disk first_disk w (with_kept s.ground.kept w).records first made s s disk disk (Err _)
    (finishes_none g.D.Disk first_disk disk s (with_kept s.ground.kept w) first made held _ (inr (sym c.fault.ensures ∙ c.in_default.is, (c.in_default-running.is, refl))))

pub returns-then-has_left-clause-finishes : goal.returns-then-has_left-clause-finishes
returns-then-has_left-clause-finishes g c = λ h first_disk w first made held.
    let s = c.args.self.now in
    let there = with_kept s.ground.kept w in
    let disk = c.args.disk.now in
    finishes_as g.D.Disk first_disk w there.records first made s s disk disk (Err _)
    (finishes_left g.D.Disk first_disk disk s there first made held (sym c.fault.ensures ∙ c.in_default.is) c.in-Some-running.running c.in-Some-running.is
    (left_now g.D.Disk first_disk disk s there first made held c.in-Some-running.running c.in-Some-running.is ∙ (sym c.has_left.ensures ∙ c.if-has_left.true)))

pub returns-in-Ok-clause-finishes : goal.returns-in-Ok-clause-finishes
returns-in-Ok-clause-finishes g c = λ h first_disk w first made held.
    let s = c.args.self.now in
    let there = with_kept s.ground.kept w in
    let before = c.args.disk.now in
    let after = c.finish.new.disk in
    let last = record s { engine = c.finish.new.engine; ground = c.finish.new.ground; running = None } in
    finishes_as g.D.Disk first_disk w there.records first made s last before after (Ok tt)
    (finishes_ok g.D.Disk first_disk before after (λ later d left. g.met.D.Disk.counts_now _ _ d later left) (λ d left. g.met.D.Disk.only_now _ d left) (g.met.D.Disk.reads_an_image before h)
    s last there first made held (sym c.fault.ensures ∙ c.in_default.is) c.in-Some-running.running c.in-Some-running.is (left_now g.D.Disk first_disk before s there first made held c.in-Some-running.running c.in-Some-running.is ∙ (sym c.has_left.ensures ∙ c.if-has_left.false)) c.finish.ensures.history c.finish.ensures.disk.later c.finish.ensures.disk.room c.finishes_open.ensures.read c.downs_go.ensures
    refl
    (λ k. c.in-Ok.ensures.finishes h k))

pub returns-then-ends_it-clause-finishes : goal.returns-then-ends_it-clause-finishes
returns-then-ends_it-clause-finishes g c = λ h first_disk w first made held.
    let s = c.args.self.now in
    let there = with_kept s.ground.kept w in
    let before = c.args.disk.now in
    let after = c.finish.new.disk in
    let last = record s { engine = c.finish.new.engine; ground = c.finish.new.ground; running = None } in
    finishes_as g.D.Disk first_disk w there.records first made s last before after (Err c.in-Err.refusal)
    (finishes_drop g.D.Disk first_disk before after (λ later d left. g.met.D.Disk.counts_now _ _ d later left) (λ d left. g.met.D.Disk.only_now _ d left) (g.met.D.Disk.reads_an_image before h)
    s last there first made held (sym c.fault.ensures ∙ c.in_default.is) c.in-Some-running.running c.in-Some-running.is (left_now g.D.Disk first_disk before s there first made held c.in-Some-running.running c.in-Some-running.is ∙ (sym c.has_left.ensures ∙ c.if-has_left.false)) c.finish.ensures.history c.finish.ensures.disk.later c.finish.ensures.disk.room c.finishes_open.ensures.read c.downs_go.ensures
    c.in-Err.ensures.lives c.in-Err.ensures.number c.in-Err.ensures.floor c.in-Err.refusal (sym c.ends_it.ensures ∙ c.if-ends_it.true) refl c.drop_checkpoint.ensures
    (λ k. c.in-Err.ensures.finishes h k))

pub returns-else-ends_it-clause-finishes : goal.returns-else-ends_it-clause-finishes
returns-else-ends_it-clause-finishes g c = λ h first_disk w first made held.
    let s = c.args.self.now in
    let there = with_kept s.ground.kept w in
    let before = c.args.disk.now in
    let after = c.finish.new.disk in
    let last = record s { engine = c.finish.new.engine; ground = c.finish.new.ground } in
    finishes_as g.D.Disk first_disk w there.records first made s last before after (Err c.in-Err.refusal)
    (finishes_err g.D.Disk first_disk before after (λ later d left. g.met.D.Disk.counts_now _ _ d later left) (λ d left. g.met.D.Disk.only_now _ d left) (g.met.D.Disk.reads_an_image before h)
    s last there first made held (sym c.fault.ensures ∙ c.in_default.is) c.in-Some-running.running c.in-Some-running.is (left_now g.D.Disk first_disk before s there first made held c.in-Some-running.running c.in-Some-running.is ∙ (sym c.has_left.ensures ∙ c.if-has_left.false)) c.finish.ensures.history c.finish.ensures.disk.later c.finish.ensures.disk.room c.finishes_open.ensures.read c.downs_go.ensures
    c.in-Err.ensures.lives c.in-Err.ensures.number c.in-Err.ensures.floor c.in-Err.refusal (sym c.ends_it.ensures ∙ c.if-ends_it.false) refl
    (λ k. c.in-Err.ensures.finishes h k))

pub returns-in-Ok-clause-told : goal.returns-in-Ok-clause-told
returns-in-Ok-clause-told g c = λ start le.
    told_own g.D.Disk None start c.args.disk.now c.finish.new.disk c.finish.ensures.disk c.args.self.now.engine c.finish.new.engine (own_taken c.args.self.now.engine c.finish.new.engine c.finish.ensures.engine)

pub returns-then-ends_it-clause-told : goal.returns-then-ends_it-clause-told
returns-then-ends_it-clause-told g c = λ start le.
    told_own g.D.Disk None start c.args.disk.now c.finish.new.disk c.finish.ensures.disk c.args.self.now.engine c.finish.new.engine (own_taken c.args.self.now.engine c.finish.new.engine c.finish.ensures.engine)

pub returns-else-ends_it-clause-told : goal.returns-else-ends_it-clause-told
returns-else-ends_it-clause-told g c = λ start le.
    told_own g.D.Disk None start c.args.disk.now c.finish.new.disk c.finish.ensures.disk c.args.self.now.engine c.finish.new.engine (own_taken c.args.self.now.engine c.finish.new.engine c.finish.ensures.engine)
