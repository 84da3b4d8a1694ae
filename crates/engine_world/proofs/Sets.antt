-- The oldest and the stable stamp are raised.
use Rattle.std.proofs.Common.{◌≡◌, ℕ, Bool, refl, ap, List, length, subst, arith}
use Rattle.std.specs.Prelude.{Option, Some, None, Result, Ok, Err}
use Rattle.wt_code.specs.declared.refusals.Invalid.{Invalid}
use Rattle.wt_code.specs.declared.refusals.Refusal.TheVariants as told
use Rattle.ts_rules.specs.declared.stamps.Stamps.{Stamps}
use Rattle.ts_rules.specs.Rules.{answer_by, raised}
use Rattle.kv_model.specs.Allowed.{Allowed}
use Rattle.kv_model.specs.Decisions.{Outcome, Done, Refused, SetCall}
use Rattle.kv_model.specs.Machine.{Machine, Event, Nothing, SetStamps, after, of_some}
use Rattle.kv_model.specs.Refusals.{first_of, set_rules, stamp_of}
use Rattle.kv_model.proofs.Deciding.{may-decide}
use Rattle.kv_model.proofs.EveryEvent.{valid-after}
use Rattle.txn_table.proofs.Standing.{calls-stand}
use Rattle.update_chain.specs.EventLaws.{ChainsGoOn}
use Rattle.engine_world.specs.Systems.{SetsGo}
use Rattle.engine_world.proofs.Beside.{Apart}
use Rattle.engine_world.proofs.Events.{at-home, updates-same}
use Rattle.engine_world.proofs.HubMoves.{leaves-go-on}
use Rattle.engine_world.proofs.Others.{others-stay}
use Rattle.engine_world.proofs.SystemEvents.{leaves-same, past-all, raised-apart}

-- ---- the rules pass

none-holds : (rules : List (Bool × Invalid)) → answer_by rules ≡ Ok tt → first_of rules ≡ None
none-holds rules passes = by (first_of rules) refl passes where
  by : (o : Option Invalid) → first_of rules ≡ o → of_some {A = Invalid} {B = Result (Unit {0}) Invalid} (Ok tt) (λ reason. Err reason) o ≡ Ok tt → first_of rules ≡ None
  by None is answer = is
  by (Some reason) is answer = let refused : Err reason ≡ Ok tt = answer in absurd (cc)

-- the event may come, whether the machine is up or not
set-may : (m : Machine) (oldest stable : Option ℕ) → first_of (set_rules m.oldest m.stable oldest stable) ≡ None → Allowed m (SetStamps (stamp_of oldest) (stamp_of stable))
set-may m oldest stable passes = subst (λ (d : Outcome × Event). Allowed (record m { fault = None }) d.1)
    (ap (of_some {A = Invalid} {B = Outcome × Event} (Done, SetStamps (stamp_of oldest) (stamp_of stable)) (λ reason. (Refused (told.Invalid reason), Nothing))) passes)
    (may-decide (record m { fault = None }) 0 (SetCall oldest stable) tt)

pub sets-go : ChainsGoOn → SetsGo
sets-go chains e w oldest stable st answer = record {
  valid = valid-after w.machine event st.valid may;
  fault = st.fault;
  stamps = ap (λ (s : Stamps). raised s oldest stable) st.stamps;
  txns = (calls-stand e.hub.txns w.machine st.valid st.txns).others event tt may;
  catalog = st.catalog;
  made = st.made;
  dir = st.dir;
  begun = st.begun;
  owned = st.owned;
  leaves = leaves-go-on chains w.machine event w.shelf w.records e.hub.dir.leaves e.pieces e.states st.valid may (λ table key. tt) st.leaves;
  unused = st.unused;
  frames = st.frames;
  count = st.count;
  doings = st.doings;
  doing = st.doing;
  sessions = λ r b there. others-stay (length e.sessions) w.machine (after w.machine event) e.hub (record e.hub { stamps = raised e.hub.stamps oldest stable }) e.pieces e.pieces r b beside
      (past-all e.sessions r b there) st.valid (st.sessions r b there);
  systems = st.systems;
  noticed = st.noticed;
} where
  event : Event
  event = SetStamps (stamp_of oldest) (stamp_of stable)

  passes : first_of (set_rules w.machine.oldest w.machine.stable oldest stable) ≡ None
  passes = none-holds (set_rules w.machine.oldest w.machine.stable oldest stable)
      (subst (λ (s : Stamps). answer_by (set_rules s.oldest s.stable oldest stable) ≡ Ok tt) st.stamps answer)

  may : Allowed w.machine event
  may = set-may w.machine oldest stable passes

  beside : Apart None (length e.sessions) w.machine (after w.machine event) e.hub (record e.hub { stamps = raised e.hub.stamps oldest stable }) e.pieces e.pieces
  beside = record {
    machine = raised-apart (length e.sessions) w.machine (stamp_of oldest) (stamp_of stable) st.valid may;
    leaves = leaves-same e.hub.dir.leaves e.pieces;
    seats = omega arith;
    phases = λ r other. refl;
    updates = at-home None w.machine (length e.sessions) e.hub.dir.leaves e.pieces e.pieces (updates-same w.machine (length e.sessions) e.pieces);
  }
