-- What an event that is not on a frame leaves of an engine fits.
use Rattle.std.proofs.Common.{◌≡◌, ℕ, refl, List}
use Rattle.std.specs.Prelude.{Some, slice_get}
use Rattle.call_steps.specs.HubEvents.{hub_made}
use Rattle.call_steps.specs.State.{State}
use Rattle.engine_world.specs.Laws.{with_hub, with_session}
use Rattle.engine_world.specs.Stands.{Engine}
use Rattle.engine_world.specs.Systems.{with_opened}
use Rattle.engine.specs.Sizes.{SizesFit, id_of}
use Rattle.engine.proofs.Names.{more-names}
use Rattle.engine.proofs.CallSizes.{CallFitsIn, HubFits, sessions-more, sessions-set}

-- one session goes on, beside the hub and the frames
pub session-sizes : (e : Engine) (session : ℕ) (a b : State) (hazards : List ℕ) → slice_get e.sessions session ≡ Some a → CallFitsIn (id_of e.hub.txns session) b → SizesFit e → SizesFit (with_session (record e { hazards = hazards }) session b)
session-sizes e session a b hazards at new fit = record {
  leaves = fit.leaves;
  sessions = sessions-set e.hub.txns e.hub.txns e.sessions session a b fit.sessions at (λ r other. refl) new;
  names = fit.names;
}

pub hub-sizes : (e : Engine) (session : ℕ) (a : State) → slice_get e.sessions session ≡ Some a → HubFits e.hub session (hub_made e.hub session a) → SizesFit e
    → let made = hub_made e.hub session a in SizesFit (with_session (with_hub e made.1.0) session made.1.1)
hub-sizes e session a at left fit = record {
  leaves = fit.leaves;
  sessions = sessions-set e.hub.txns (hub_made e.hub session a).1.0.txns e.sessions session a (hub_made e.hub session a).1.1 fit.sessions at left.table.others left.call;
  names = left.table.names;
}

pub opened-sizes : (e : Engine) → SizesFit e → SizesFit (with_opened e)
opened-sizes e fit = record { leaves = fit.leaves; sessions = sessions-more e.hub.txns e.sessions fit.sessions; names = more-names e.hub.txns 0 fit.names }
