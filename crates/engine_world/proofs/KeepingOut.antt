-- The leaf of a call cannot be had.
use Rattle.std.proofs.Common.{◌≡◌, ◌≢◌, ℕ, refl, ap, sym, ◌∙◌, subst, inl, List, arith}
use Rattle.std.specs.Prelude.{Option, Some, None, slice_get}
use Rattle.wt_code.specs.declared.answers.Answer.TheVariants as answers
use Rattle.wt_code.specs.declared.refusals.Refusal.{Refusal}
use Rattle.wt_code.specs.declared.refusals.Refusal.TheVariants as told
use Rattle.kv_model.specs.Machine.{Event, Nothing, of_some}
use Rattle.call_steps.specs.declared.reply.Reply.TheVariants as reply
use Rattle.call_steps.specs.declared.stage.KeyCall.{KeyCall}
use Rattle.call_steps.specs.declared.stage.Stage.{Stage}
use Rattle.call_steps.specs.declared.stage.Stage.TheVariants as stage
use Rattle.call_steps.specs.declared.stage.Target.{Target}
use Rattle.call_steps.specs.declared.stage.Wanted.{Wanted}
use Rattle.call_steps.specs.Stages.{cursor_in}
use Rattle.call_steps.specs.State.{State, clears}
use Rattle.call_steps.specs.Words.{kept_out_at, unframed}
use Rattle.engine_world.specs.Worlds.{Doing, Decided, World, doing_of}
use Rattle.engine_world.specs.Doings.{doing_in, event_with, landing}
use Rattle.engine_world.specs.Laws.{IsWaiting, KeepsOutGo, with_session}
use Rattle.engine_world.specs.Stages.{Awaits, HasLooked}
use Rattle.engine_world.specs.Whole.{nothing_around}
use Rattle.engine_world.specs.Stands.{Engine, Stands}
use Rattle.engine_world.specs.Steps.{IsKeptOut, Made, MayKeepOut}
use Rattle.engine_world.proofs.HubMoves.{doing-at, stage-stands}
use Rattle.engine_world.proofs.Looking.{clears-keep, keeps, stands-at}
use Rattle.engine_world.proofs.Moves.{alone, moves, world_with}
use Rattle.engine_world.proofs.InPlace.{SessionInPlace}

-- a refusal takes a cursor nowhere, unless it says that no row was found
lands-nowhere : (session cursor : ℕ) (target : Target) (key : List ℕ) (r : Refusal) → r ≢ told.NotFound → landing session cursor target key (answers.Refused r) ≡ Nothing
lands-nowhere session cursor target key told.NotFound other = absurd (other refl)
lands-nowhere session cursor target key _ other = refl

pub no-event : (session : ℕ) (call : KeyCall) (target : Target) (key : List ℕ) (r : Refusal) → r ≢ told.NotFound → event_with session call target key (answers.Refused r) ≡ Nothing
no-event session call target key r other = by (cursor_in call) where
  by : (o : Option ℕ) → of_some Nothing (λ cursor. landing session cursor target key (answers.Refused r)) o ≡ Nothing
  by None = refl
  by (Some cursor) = lands-nowhere session cursor target key r other

module _ (e : Engine) (w : World) (session : ℕ) (a : State) (r : Refusal) (st : Stands e w) (at : slice_get e.sessions session ≡ Some a) (other : r ≢ told.NotFound) where
  abbrev KeepsOut : State → Type 0
  KeepsOut b = (after : World) × MayKeepOut w session r after × Stands (with_session e session b) after

  refused : (call : KeyCall) (wanted : Wanted) → a.stage ≡ stage.Fill call wanted → KeepsOut (clears call (unframed wanted) (answers.Refused r) a)
  refused call wanted is = (world_with w e.hub.dir.leaves session b w.machine, record { made = made; keeps = keeps-out; leaves = refl }, moves e w session a b e.hub e.pieces e.hazards w.machine st at (alone e w session b st mine)) where
    b : State
    b = clears call (unframed wanted) (answers.Refused r) a

    waits : Awaits w.machine e.hub.dir.leaves session call wanted a
    waits = stage-stands e w session a (stage.Fill call wanted) st at is

    looked : HasLooked w.machine session call
    looked = (waits.0.0, waits.0.1, inl waits.0.2.0)

    mine : SessionInPlace w.machine e.hub e.pieces session b
    mine = stands-at w.machine e.hub e.pieces session b
        (clears-keep w.machine e.hub e.pieces session call (unframed wanted) (answers.Refused r) a (keeps w.machine e.hub e.pieces session a (st.sessions session a at))) looked

    made : Made
    made = record { told = reply.More; machine = w.machine; doing = doing_in e.hub.dir.leaves session b }

    does : made ≡ record { told = reply.More; machine = w.machine; doing = Decided (answers.Refused r) Nothing 1 }
    does = ap (λ (event : Event). to (Decided (answers.Refused r) event 1)) (no-event session call (unframed wanted) a.key r other) where
      to : Doing → Made
      to doing = record { told = reply.More; machine = w.machine; doing = doing }

    keeps-out : IsKeptOut (doing_of w session) r w.machine made
    keeps-out = subst (λ (d : Doing). IsKeptOut d r w.machine made) (sym (st.doing session a at ∙ doing-at e.hub.dir.leaves session a (stage.Fill call wanted) is)) (1, omega arith, does)

pub keeps-out-go : KeepsOutGo
keeps-out-go e w session a r st at waits other = by a.stage refl waits where
  by : (g : Stage) → a.stage ≡ g → IsWaiting g → KeepsOut e w session a r st at other (kept_out_at g r a)
  by (stage.Fill call wanted) is x = refused e w session a r st at other call wanted is
  by _ is x = absurd x

-- nothing is kept out of a call around which there is nothing
pub none_out : (r : Refusal) → nothing_around.MayKeepOut r → ⊥
none_out r may = absurd cc
