-- What holds of every engine goes on to hold at each event of a session.
use Rattle.std.proofs.Common.{◌≡◌, ◌<◌, ◌+◌, ◌^◌, ℕ, refl, ap, sym, ◌∙◌, List, length, subst}
use Rattle.std.specs.Prelude.{Option, Some, slice_get, slice_set}
use Rattle.std.proofs.lemmas.List.{length-set}
use Rattle.limits.specs.declared.TheConstants.{TABLES_MAX}
use Rattle.stamp.specs.declared.View.{View}
use Rattle.failure.specs.declared.Fault.{Fault}
use Rattle.wt_code.specs.declared.refusals.Refusal.{Refusal}
use Rattle.wt_calls.specs.declared.session_call.SessionCall.{SessionCall}
use Rattle.kv_model.specs.Allowed.{StampsFit}
use Rattle.ts_rules.specs.declared.stamps.Stamps.{Stamps}
use Rattle.txn_table.specs.Tabled.{Table, phase_of}
use Rattle.tree_dir.specs.Leaves.{Directory}
use Rattle.catalog.specs.Known.{Known}
use Rattle.call_steps.specs.declared.frame.FramePiece.{FramePiece}
use Rattle.call_steps.specs.declared.hub.Hub.{Hub}
use Rattle.call_steps.specs.declared.reply.Reply.{Reply}
use Rattle.call_steps.specs.HubEvents.{Made, hub_made}
use Rattle.call_steps.specs.Starts.{Starts}
use Rattle.call_steps.specs.State.{State}
use Rattle.call_steps.specs.Words.{kept_out, loaded, stored}
use Rattle.call_turns.specs.Answers.{FrameTells, HubTells, LoadTells, StartTells, StoreTells}
use Rattle.call_turns.specs.Seats.{AllRun, AreSeated, FrameRuns, FrameSeats, HubRuns, HubSeats, KeepOutRuns, KeepOutSeats, LoadRuns, LoadSeats, StartRuns, StartSeats, StoreRuns, StoreSeats}
use Rattle.call_turns.specs.Turns.{HubKeeps}
use Rattle.engine_world.specs.Laws.{IsViewOf, with_hub, with_session}
use Rattle.engine_world.specs.Leaves.{LeavesOwned}
use Rattle.engine_world.specs.Stands.{Engine}
use Rattle.engine.specs.Events.{IsFrameEvent}
use Rattle.engine.specs.Sizes.{id_of}
use Rattle.engine.specs.Sound.{IsSound, Keeps}
use Rattle.engine.specs.Told.{IsOwnFrom}
use Rattle.engine.proofs.CallSizes.{CallFitsIn, HubFits, hub-fits, kept-out-fits, loaded-fits, start-fits, stored-fits}
use Rattle.engine.proofs.EngineSizes.{hub-sizes, session-sizes}
use Rattle.engine.proofs.FrameSizes.{frame-sizes}
use Rattle.engine.proofs.Owning.{answer_at, own-set, own-then}

-- ---- what is kept

pub keeps-then : (old middle new : Engine) → Keeps old middle → Keeps middle new → Keeps old new
keeps-then old middle new k l = record {
  systems = l.systems ∙ k.systems;
  pieces = l.pieces ∙ k.pieces;
  states = l.states ∙ k.states;
  tables = l.tables ∙ k.tables;
  dir = l.dir ∙ k.dir;
  run = l.run ∙ k.run;
  fault = l.fault ∙ k.fault;
  sessions = l.sessions ∙ k.sessions;
  own = own-then old middle new k.own l.own;
  sound = λ was. l.sound (k.sound was);
}

pub keeps-from : {new : Engine} (e old : Engine) → e ≡ old → Keeps e new → Keeps old new
keeps-from {new} e old same k = subst (λ x. Keeps x new) same k

pub keeps-same : (e : Engine) → Keeps e e
keeps-same e = record { systems = refl; pieces = refl; states = refl; tables = refl; dir = refl; run = refl; fault = refl; sessions = refl; own = λ session but is. is; sound = λ was. was }

-- ---- one session

module _ (e : Engine) (session : ℕ) (a b : State) (hazards : List ℕ) (at : slice_get e.sessions session ≡ Some a) where
  session-sound : AreSeated e.hub (slice_set e.sessions session b) → AllRun (slice_set e.sessions session b) → CallFitsIn (id_of e.hub.txns session) b → IsSound e → IsSound (with_session (record e { hazards = hazards }) session b)
  session-sound seated run fits sound = record {
    count = sound.count ∙ sym (length-set e.sessions session b);
    seated = seated;
    run = run;
    built = sound.built;
    actors = sound.actors;
    states = sound.states;
    numbers = sound.numbers;
    owned = sound.owned;
    stamps = sound.stamps;
    sizes = session-sizes e session a b hazards at fits sound.sizes;
  }

  pub session-keeps : (IsSound e → AreSeated e.hub (slice_set e.sessions session b)) → (IsSound e → AllRun (slice_set e.sessions session b)) → (CallFitsIn (id_of e.hub.txns session) a → CallFitsIn (id_of e.hub.txns session) b) → IsOwnFrom a.answer b.answer
      → Keeps e (with_session (record e { hazards = hazards }) session b)
  session-keeps seats runs fits own = record {
    systems = refl;
    pieces = refl;
    states = refl;
    tables = refl;
    dir = refl;
    run = refl;
    fault = refl;
    sessions = length-set e.sessions session b;
    own = own-set e.sessions session a b at own;
    sound = λ was. session-sound (seats was) (runs was) (fits (was.sizes.sessions session a at)) was;
  }

pub start-keeps : StartSeats → StartRuns → StartTells → (e : Engine) (session : ℕ) (a a' : State) (call : SessionCall) (told : Reply) → slice_get e.sessions session ≡ Some a → Starts call a told a' → Keeps e (with_session e session a')
start-keeps seats runs tells e session a a' call told at starts = session-keeps e session a a' e.hazards at
    (λ was. seats e.hub session call a a' told e.sessions was.seated at starts) (λ was. runs session call a a' told e.sessions was.run at starts)
    (λ fit. start-fits (id_of e.hub.txns session) call a a' told starts fit) (λ but is. (tells but call a a' told starts is).1)

pub load-keeps : LoadSeats → LoadRuns → LoadTells → (e : Engine) (session seen : ℕ) (a a' : State) → slice_get e.sessions session ≡ Some a → a' ≡ loaded seen a → Keeps e (with_session e session a')
load-keeps seats runs tells e session seen a a' at made = subst (λ (x : State). Keeps e (with_session e session x)) (sym made) (session-keeps e session a (loaded seen a) e.hazards at
    (λ was. seats e.hub session seen a e.sessions was.seated at) (λ was. runs session seen a e.sessions was.run at)
    (λ fit. loaded-fits (id_of e.hub.txns session) seen a fit) (λ but is. tells but seen a is))

pub store-keeps : StoreSeats → StoreRuns → StoreTells → (e : Engine) (session : ℕ) (a a' : State) (told : Reply) (hazards : List ℕ) → slice_get e.sessions session ≡ Some a → (let made : Reply × State = (told, a') in made) ≡ stored a
    → Keeps e (with_session (record e { hazards = hazards }) session a')
store-keeps seats runs tells e session a a' told hazards at made =
    subst (λ (m : Reply × State). Keeps e (with_session (record e { hazards = hazards }) session m.1)) (sym made) (session-keeps e session a (stored a).1 hazards at
    (λ was. seats e.hub session a e.sessions was.seated at) (λ was. runs session a e.sessions was.run at)
    (λ fit. stored-fits (id_of e.hub.txns session) a fit) (λ but is. (tells but a is).1))

-- a session that is kept out keeps what it is refused by
pub keep-out-sound : KeepOutSeats → KeepOutRuns → (e : Engine) (session : ℕ) (a a' : State) (r : Refusal) → slice_get e.sessions session ≡ Some a → a' ≡ kept_out r a → IsSound e → IsSound (with_session e session a')
keep-out-sound seats runs e session a a' r at made sound = subst (λ (x : State). IsSound (with_session e session x)) (sym made) (session-sound e session a (kept_out r a) e.hazards at
    (seats e.hub session a r e.sessions sound.seated at) (runs session a r e.sessions sound.run at)
    (kept-out-fits (id_of e.hub.txns session) r a (sound.sizes.sessions session a at)) sound)

-- ---- the hub

module _ (keeps : HubKeeps) (seats : HubSeats) (runs : HubRuns) (tells : HubTells) (e : Engine) (session : ℕ) (a : State) (at : slice_get e.sessions session ≡ Some a) where
  abbrev made : Made
  made = hub_made e.hub session a

  hub-sound : IsSound e → IsSound (with_session (with_hub e made.1.0) session made.1.1)
  hub-sound sound = record {
    count = (keeps e.hub session a).places ∙ (sound.count ∙ sym (length-set e.sessions session made.1.1));
    seated = seats e.hub session a e.sessions sound.seated at;
    run = runs e.hub session a e.sessions sound.run at;
    built = sound.built;
    actors = sound.actors;
    states = sound.states;
    numbers = subst (λ (k : Known). k.next + TABLES_MAX < 2 ^ 32 + length k.tables) (sym (keeps e.hub session a).tables) sound.numbers;
    owned = subst (λ (k : Known). LeavesOwned k.tables made.1.0.dir.leaves) (sym (keeps e.hub session a).tables) (subst (λ (d : Directory). LeavesOwned e.hub.tables.tables d.leaves) (sym (keeps e.hub session a).dir) sound.owned);
    stamps = subst (λ (s : Stamps). StampsFit s.oldest s.stable) (sym fits.stamps) sound.stamps;
    sizes = hub-sizes e session a at fits sound.sizes;
  } where
    fits : HubFits e.hub session (hub_made e.hub session a)
    fits = hub-fits e.hub session sound.sizes.names (sound.seated session a at).opened a (sound.sizes.sessions session a at)

  hub-keeps-all : Keeps e (with_session (with_hub e made.1.0) session made.1.1)
  hub-keeps-all = record {
    systems = refl;
    pieces = refl;
    states = refl;
    tables = (keeps e.hub session a).tables;
    dir = (keeps e.hub session a).dir;
    run = (keeps e.hub session a).run;
    fault = (keeps e.hub session a).fault;
    sessions = length-set e.sessions session made.1.1;
    own = own-set e.sessions session a made.1.1 at (λ but is. (tells but e.hub session a is).1);
    sound = hub-sound;
  }

pub hub-keeps : HubKeeps → HubSeats → HubRuns → HubTells → (e : Engine) (session : ℕ) (a a' : State) (hub : Hub) (told : Reply) → slice_get e.sessions session ≡ Some a → (let made : Made = (told, (hub, a')) in made) ≡ hub_made e.hub session a
    → Keeps e (with_session (with_hub e hub) session a')
hub-keeps keeps seats runs tells e session a a' hub told at made = subst (λ (m : Made). Keeps e (with_session (with_hub e m.1.0) session m.1.1)) (sym made) (hub-keeps-all keeps seats runs tells e session a at)

-- ---- a frame

pub frame-keeps : FrameSeats → FrameRuns → FrameTells → (e : Engine) (view : View) (session frame : ℕ) (pieces : List FramePiece) (sessions : List State) → IsFrameEvent view session frame e.pieces e.sessions pieces sessions → IsViewOf e.hub session view
    → Keeps e (record e { pieces = pieces; sessions = sessions })
frame-keeps seats runs tells e view session frame pieces sessions v is-view = record {
  systems = refl;
  pieces = many;
  states = refl;
  tables = refl;
  dir = refl;
  run = refl;
  fault = refl;
  sessions = same;
  own = λ s. subst (λ (xs : List State). IsOwnFrom (answer_at e.sessions s) (answer_at xs s)) (sym v.sessions_are) (own-set e.sessions session v.a v.a' v.session_is (λ but is. tells but view v.p v.p' v.a v.a' v.made is) s);
  sound = λ was. record {
    count = was.count ∙ sym same;
    seated = subst (AreSeated e.hub) (sym v.sessions_are) (seats e.hub session view v.p v.p' v.a v.a' e.sessions was.seated was.run v.session_is v.made);
    run = subst AllRun (sym v.sessions_are) (runs session view v.p v.p' v.a v.a' e.sessions was.run v.session_is v.made);
    built = was.built;
    actors = was.actors;
    states = was.states ∙ sym many;
    numbers = was.numbers;
    owned = was.owned;
    stamps = was.stamps;
    sizes = frame-sizes e view session frame pieces sessions v is-view was.sizes;
  };
} where
  many : length pieces ≡ length e.pieces
  many = ap length v.pieces_are ∙ length-set e.pieces frame v.p'

  same : length sessions ≡ length e.sessions
  same = ap length v.sessions_are ∙ length-set e.sessions session v.a'

-- ---- beside the sessions

-- the places of the sessions rest on the table of transactions alone
pub seated-with : (h h' : Hub) (sessions : List State) → h'.txns ≡ h.txns → AreSeated h sessions → AreSeated h' sessions
seated-with h h' sessions same seated session a at = let seat = seated session a at in record {
  opened = subst (λ (t : Table). session < length t.sessions) (sym same) seat.opened;
  phase = ap (λ (t : Table). phase_of t session) same ∙ seat.phase;
}

-- the two stamps, or the fault, are others
pub hub-beside : (e : Engine) (stamps : Stamps) (fault : Option Fault) → StampsFit stamps.oldest stamps.stable → IsSound e → IsSound (record e { hub = record e.hub { stamps = stamps; fault = fault } })
hub-beside e stamps fault fit sound = record {
  count = sound.count;
  seated = seated-with e.hub (record e.hub { stamps = stamps; fault = fault }) e.sessions refl sound.seated;
  run = sound.run;
  built = sound.built;
  actors = sound.actors;
  states = sound.states;
  numbers = sound.numbers;
  owned = sound.owned;
  stamps = fit;
  sizes = record { leaves = sound.sizes.leaves; sessions = sound.sizes.sessions; names = sound.sizes.names };
}
