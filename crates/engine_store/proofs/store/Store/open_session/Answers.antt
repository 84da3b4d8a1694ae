use Rattle.engine_store.specs.Keeping.{with_kept}
use Rattle.engine_store.proofs.Bases.{basis_here}
use Rattle.engine_store.proofs.MoreSessions.{opens}
use Rattle.engine_store.proofs.SystemCalls.{event_keeps}
use Rattle.engine_store.proofs.Telling.{keep_told}
use Rattle.engine_store.proofs.store.Store.open_session.Goals as goal

pub returns-clause-opened : goal.returns-clause-opened
returns-clause-opened g c = λ disk h start w first made held.
    opens g.D.Disk start disk c.args.self.now c.open_session.new.self w first made c.open_session.result held c.actors.ensures.built (c.open_session.ensures.opened (with_kept c.args.self.now.ground.kept w) held.stands) c.open_session.ensures.kept c.open_session.ensures.goes

pub returns-clause-told : goal.returns-clause-told
returns-clause-told g c = λ disk basis start le on told. (
  tt,
  keep_told g.D.Disk basis start disk c.args.self.now.engine c.open_session.new.self c.open_session.ensures.own told,
  basis_here g.D.Disk basis c.args.self.now.engine c.open_session.new.self disk c.open_session.ensures.goes on,
)

pub returns-clause-keeps : goal.returns-clause-keeps
returns-clause-keeps g c = λ disk. event_keeps g.D.Disk disk c.args.self.now c.open_session.new.self c.open_session.ensures.goes
