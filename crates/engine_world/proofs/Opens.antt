-- A session is opened, and rests.
use Rattle.std.proofs.Common.{◌≡◌, ℕ, refl, ap, sym, ◌∙◌, [], ◌∷◌, ◌++◌, length, inl, inr, subst, arith}
use Rattle.std.specs.Prelude.{Option, None, option_map, slice_index_or}
use Rattle.std.proofs.lemmas.List.{get_or_past, length-append}
use Rattle.std.proofs.Math.Seq.{get_or-append_seam}
use Rattle.kv_model.specs.Machine.{Machine, Transaction, OpenSession, after, cursors_of, no_cursors, of_some, transaction_of}
use Rattle.kv_model.specs.Valid.{Valid}
use Rattle.kv_model.proofs.Beginning.{append-none, valid-open}
use Rattle.kv_model.proofs.RowRanges.{value-goes-on}
use Rattle.txn_table.specs.SessionData.{SessionData, opened as opened_seat}
use Rattle.txn_table.proofs.Standing.{calls-stand}
use Rattle.update_chain.specs.EventLaws.{ChainsGoOn}
use Rattle.call_steps.specs.State.{State, opened}
use Rattle.engine_world.specs.Doings.{doing_in}
use Rattle.engine_world.specs.Leaves.{AreNoted}
use Rattle.engine_world.specs.Stands.{Engine, SessionStands, Stands}
use Rattle.engine_world.specs.Systems.{OpensGo, with_opened}
use Rattle.engine_world.specs.Worlds.{Resting, World, doing_of}
use Rattle.engine_world.proofs.Appended.{append-default, append-finds, append-other}
use Rattle.engine_world.proofs.Beside.{Apart, MachineApart}
use Rattle.engine_world.proofs.Events.{at-home, updates-same}
use Rattle.engine_world.proofs.HubMoves.{leaves-go-on}
use Rattle.engine_world.proofs.Others.{others-stay}
use Rattle.engine_world.proofs.OwnStates.{none-ends}
use Rattle.engine_world.proofs.SystemEvents.{leaves-same, past-all}
use Rattle.engine_world.specs.Stages.{IsNoticed}

abbrev world_opened : World → World
world_opened w = record w { machine = after w.machine OpenSession; sessions = w.sessions ++ Resting ∷ [] }

-- ---- the others

opened-apart : (session : ℕ) (m : Machine) → Valid m → session ≡ length m.sessions → MachineApart session m (after m OpenSession)
opened-apart session m valid last = record {
  run = refl;
  fault = refl;
  others = λ r other. append-none m.sessions r;
  cursors = λ r other. append-other m.cursors no_cursors [] r (let seats = valid.cursors.seats in omega (arith, other));
  held = λ r t table key other there alive own. refl;
  grown = λ table key v member. member;
  none = λ r t table key other there drawn none. none;
  absent = λ r t table key other there reads. value-goes-on m OpenSession r t table key None valid tt there tt reads;
}

opened-beside : (e : Engine) (w : World) → Stands e w → Apart None (length e.sessions) w.machine (after w.machine OpenSession) e.hub (with_opened e).hub e.pieces e.pieces
opened-beside e w st = record {
  machine = opened-apart (length e.sessions) w.machine st.valid st.count;
  leaves = leaves-same e.hub.dir.leaves e.pieces;
  seats = (let long = length-append e.hub.txns.sessions (opened_seat e.hub.txns.run ∷ []) in omega arith);
  phases = λ r other. ap (λ (x : SessionData). x.phase) (append-default e.hub.txns.sessions (opened_seat e.hub.txns.run) r);
  updates = at-home None w.machine (length e.sessions) e.hub.dir.leaves e.pieces e.pieces (updates-same w.machine (length e.sessions) e.pieces);
}

-- ---- the session that was opened

last-none : (m : Machine) (session : ℕ) → session ≡ length m.sessions → transaction_of (after m OpenSession) session ≡ None
last-none m session last = append-none m.sessions session ∙ get_or_past m.sessions session None (omega arith)

last-cursors : (m : Machine) (session : ℕ) → Valid m → session ≡ length m.sessions → cursors_of (after m OpenSession) session ≡ no_cursors
last-cursors m session valid last = ap (λ i. slice_index_or (m.cursors ++ no_cursors ∷ []) i []) (last ∙ sym valid.cursors.seats) ∙ get_or-append_seam m.cursors no_cursors [] []

opened-stands : (e : Engine) (w : World) → Stands e w → SessionStands (after w.machine OpenSession) (with_opened e).hub e.pieces (length e.sessions) opened
opened-stands e w st = record {
  phase = sym (ap (option_map (λ (t : Transaction). t.phase)) none);
  seated = record {
    opened = (let long = length-append e.hub.txns.sessions (opened_seat e.hub.txns.run ∷ []) in let seats = st.txns.count in let count = st.count in omega arith);
    phase = ap (λ (x : SessionData). x.phase) (append-default e.hub.txns.sessions (opened_seat e.hub.txns.run) (length e.sessions)
        ∙ get_or_past e.hub.txns.sessions (length e.sessions) (opened_seat e.hub.txns.run) (let seats = st.txns.count in let count = st.count in omega arith));
  };
  cursors = sym (last-cursors w.machine (length e.sessions) st.valid st.count);
  noted = subst (λ (o : Option Transaction). AreNoted e.hub.dir.leaves e.pieces (of_some [] (λ (t : Transaction). t.writes) o) []) (sym none)
      (record { noted = λ x member. absurd member; wrote = λ k member. absurd member });
  stage = none-ends (after w.machine OpenSession) (length e.sessions) none;
} where
  none : transaction_of (after w.machine OpenSession) (length e.sessions) ≡ None
  none = last-none w.machine (length e.sessions) st.count

opened-rests : (e : Engine) (w : World) (session : ℕ) (a : State) → Stands e w → session ≡ length e.sessions → opened ≡ a → doing_of (world_opened w) session ≡ doing_in e.hub.dir.leaves session a
opened-rests e w session a st last same = append-default w.sessions Resting session
    ∙ (get_or_past w.sessions session Resting (let many = st.doings in omega arith) ∙ ap (λ (x : State). doing_in e.hub.dir.leaves session x) same)

pub opens-go : ChainsGoOn → OpensGo
opens-go chains e w st = record {
  valid = valid-open w.machine st.valid;
  fault = st.fault;
  stamps = st.stamps;
  txns = (calls-stand e.hub.txns w.machine st.valid st.txns).opens;
  catalog = st.catalog;
  made = st.made;
  dir = st.dir;
  begun = st.begun;
  owned = st.owned;
  leaves = leaves-go-on chains w.machine OpenSession w.shelf w.records e.hub.dir.leaves e.pieces e.states st.valid tt (λ table key. tt) st.leaves;
  unused = st.unused;
  frames = st.frames;
  count = (let here = length-append e.sessions (opened ∷ []) in let there = length-append w.machine.sessions (None ∷ []) in let same = st.count in omega arith);
  doings = (let here = length-append w.sessions (Resting ∷ []) in let there = length-append e.sessions (opened ∷ []) in let same = st.doings in omega arith);
  doing = λ r b there. elim (append-finds e.sessions opened b r there) [
    | inl old ↦ append-default w.sessions Resting r ∙ st.doing r b old
    | inr last ↦ opened-rests e w r b st last.0 last.1
  ];
  sessions = λ r b there. elim (append-finds e.sessions opened b r there) [
    | inl old ↦ others-stay (length e.sessions) w.machine (after w.machine OpenSession) e.hub (with_opened e).hub e.pieces e.pieces r b (opened-beside e w st)
        (past-all e.sessions r b old) st.valid (st.sessions r b old)
    | inr last ↦ subst (λ i. SessionStands (after w.machine OpenSession) (with_opened e).hub e.pieces i b) (sym last.0)
        (subst (λ x. SessionStands (after w.machine OpenSession) (with_opened e).hub e.pieces (length e.sessions) x) last.1 (opened-stands e w st))
  ];
  systems = st.systems;
  noticed = λ r b there. elim (append-finds e.sessions opened b r there) [
    | inl old ↦ st.noticed r b old
    | inr last ↦ subst (λ (x : State). IsNoticed x.stage e.pieces (w.again r)) last.1 tt
  ];
}
