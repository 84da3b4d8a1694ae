-- Calls of the system, over the data of an engine.
use Rattle.std.proofs.Common.{◌≡◌, ◌<◌, ◌+◌, ℕ, zero, suc, refl, ap, sym, ◌∙◌, false, List, [], ◌∷◌, ◌++◌, length, inl, inr, subst, map, arith}
use Rattle.std.specs.Prelude.{Option, Some, None, option_map, slice_set, slice_index_or}
use Rattle.std.proofs.Math.ListN.{get_or-map}
use Rattle.std.proofs.lemmas.List.{map-set, length-append, length-set}
use Rattle.std.proofs.lemmas.Option.{get_or_from_slice_get}
use Rattle.std.specs.Option.{is_some}
use Rattle.wt_code.specs.declared.answers.Answer.{Answer}
use Rattle.kv_model.specs.Calls.{Call}
use Rattle.wt_calls.specs.declared.system_call.SystemCall.{SystemCall}
use Rattle.wt_calls.specs.Calls.{system_call_in}
use Rattle.txn_table.specs.SessionData.{SessionData, opened as no_session}
use Rattle.txn_table.specs.Tabled.{one_more, phase_of}
use Rattle.call_steps.specs.declared.reply.Reply.TheVariants as reply
use Rattle.call_steps.specs.HubEvents.{known_phase}
use Rattle.call_steps.specs.State.{State, opened}
use Rattle.call_turns.specs.Seats.{AllRun, AreSeated, RunsAtLeaf}
use Rattle.engine_world.specs.Stands.{Engine, Stands}
use Rattle.engine_world.specs.Systems.{with_opened}
use Rattle.engine_world.specs.Worlds.{World}
use Rattle.engine_world.proofs.Appended.{append-default, append-finds}
use Rattle.engine.specs.declared.step.Actor.TheVariants as actor
use Rattle.engine.specs.Runs.{AsksIn, IsBuilt, MakesIn, MayAsk, StepsOut}
use Rattle.engine.specs.Sound.{AreBuilt, IsSound}
use Rattle.engine.specs.Systems.{Makes}
use Rattle.engine.specs.Whole.{MakesAt}
use Rattle.engine.proofs.EngineSizes.{opened-sizes}
use Rattle.engine.proofs.Driving.{lent-at}

asked-at : (e : Engine) (w : World) (number : ℕ) → Stands e w → slice_index_or w.systems number None ≡ option_map system_call_in (slice_index_or e.systems number None)
asked-at e w number st = ap (λ (ss : List (Option Call)). slice_index_or ss number None) (sym st.systems) ∙ get_or-map (option_map system_call_in) e.systems number None

-- only the calls of the system changed
asked-stands : (e : Engine) (w : World) (systems : List (Option SystemCall)) → Stands e w → Stands (record e { systems = systems }) (record w { systems = map (option_map system_call_in) systems })
asked-stands e w systems st = record {
  valid = st.valid;
  fault = st.fault;
  stamps = st.stamps;
  txns = st.txns;
  catalog = st.catalog;
  made = st.made;
  dir = st.dir;
  begun = st.begun;
  owned = st.owned;
  leaves = st.leaves;
  unused = st.unused;
  frames = st.frames;
  count = st.count;
  doings = st.doings;
  doing = st.doing;
  sessions = st.sessions;
  systems = refl;
  noticed = st.noticed;
}

-- the call of one actor changed
set-stands : (e : Engine) (w : World) (number : ℕ) (asked : Option SystemCall) → Stands e w
    → Stands (record e { systems = slice_set e.systems number asked }) (record w { systems = slice_set w.systems number (option_map system_call_in asked) })
set-stands e w number asked st = subst (λ (ss : List (Option Call)). Stands (record e { systems = slice_set e.systems number asked }) (record w { systems = ss })) same (asked-stands e w (slice_set e.systems number asked) st) where
  same : map (option_map system_call_in) (slice_set e.systems number asked) ≡ slice_set w.systems number (option_map system_call_in asked)
  same = map-set (option_map system_call_in) e.systems number asked ∙ ap (λ (ss : List (Option Call)). slice_set ss number (option_map system_call_in asked)) st.systems

set-built : (systems : List (Option SystemCall)) (number : ℕ) (x : Option SystemCall) → AreBuilt systems → ((asked : SystemCall) → x ≡ Some asked → IsBuilt asked) → AreBuilt (slice_set systems number x)
set-built [] number x built new i asked is = absurd (cc)
set-built (y ∷ ys) zero x built new zero asked is = new asked (let at : x ≡ Some asked = cc in at)
set-built (y ∷ ys) zero x built new (suc i) asked is = built (suc i) asked is
set-built (y ∷ ys) (suc n) x built new zero asked is = built zero asked is
set-built (y ∷ ys) (suc n) x built new (suc i) asked is = set-built ys n x (λ j a at. built (suc j) a at) new i asked is

pub set-sound : (e : Engine) (number : ℕ) (x : Option SystemCall) → IsSound e → ((asked : SystemCall) → x ≡ Some asked → IsBuilt asked) → IsSound (record e { systems = slice_set e.systems number x })
set-sound e number x sound new = record {
  count = sound.count;
  seated = sound.seated;
  run = sound.run;
  built = set-built e.systems number x sound.built new;
  actors = length-set e.systems number x ∙ sound.actors;
  states = sound.states;
  numbers = sound.numbers;
  owned = sound.owned;
  stamps = sound.stamps;
  sizes = record { leaves = sound.sizes.leaves; sessions = sound.sizes.sessions; names = sound.sizes.names };
}

-- ---- a session more, which rests

past-end : {A : Type 0} (xs : List A) (d : A) → slice_index_or xs (length xs) d ≡ d
past-end [] d = refl
past-end (x ∷ xs) d = past-end xs d

more-seated : (e : Engine) → IsSound e → AreSeated (with_opened e).hub (with_opened e).sessions
more-seated e sound session a at = elim (append-finds e.sessions opened a session at) [
  | inl old ↦ let seat = sound.seated session a old in record {
    opened = (let more = long in let before = seat.opened in omega (arith, more, before));
    phase = same ∙ seat.phase;
  }
  | inr last ↦ record {
    opened = (let more = long in let count = sound.count in let here = last.0 in omega (arith, more, count, here));
    phase = same ∙ (ap (λ (x : SessionData). x.phase) (ap (λ (n : ℕ). slice_index_or e.hub.txns.sessions n (no_session e.hub.txns.run)) (last.0 ∙ sym sound.count) ∙ past-end e.hub.txns.sessions (no_session e.hub.txns.run)) ∙ ap (λ (x : State). known_phase x.phase) last.1);
  }
] where
  long : length (e.hub.txns.sessions ++ no_session e.hub.txns.run ∷ []) ≡ length e.hub.txns.sessions + 1
  long = length-append e.hub.txns.sessions (no_session e.hub.txns.run ∷ [])

  same : phase_of (one_more e.hub.txns) session ≡ phase_of e.hub.txns session
  same = ap (λ (x : SessionData). x.phase) (append-default e.hub.txns.sessions (no_session e.hub.txns.run) session)

more-run : (sessions : List State) → AllRun sessions → AllRun (sessions ++ opened ∷ [])
more-run sessions run session a at = elim (append-finds sessions opened a session at) [
  | inl old ↦ run session a old
  | inr last ↦ subst RunsAtLeaf last.1 (record { runs = λ on. absurd on })
]

pub more-sound : (e : Engine) → IsSound e → IsSound (with_opened e)
more-sound e sound = record {
  count = length-append e.hub.txns.sessions (no_session e.hub.txns.run ∷ []) ∙ (ap (λ (n : ℕ). n + 1) sound.count ∙ sym (length-append e.sessions (opened ∷ [])));
  seated = more-seated e sound;
  run = more-run e.sessions sound.run;
  built = sound.built;
  actors = sound.actors;
  states = sound.states;
  numbers = sound.numbers;
  owned = sound.owned;
  stamps = sound.stamps;
  sizes = opened-sizes e sound.sizes;
}

-- an actor that has no call
pub free-at : (systems : List (Option SystemCall)) (number : ℕ) (x : Option SystemCall) → number < length systems → x ≡ slice_index_or systems number x → false ≡ is_some x → slice_index_or systems number None ≡ None
free-at systems number x inside is not_some = get_or_from_slice_get systems number x None (lent-at systems number x inside is) ∙ none x not_some where
  none : (o : Option SystemCall) → false ≡ is_some o → o ≡ None
  none None free = refl
  none (Some call) free = absurd (cc)

-- ---- a call begins

pub ask-new : (e : Engine) (w : World) (number : ℕ) (call : SystemCall) → Stands e w → slice_index_or e.systems number None ≡ None
    → (later : World) × MayAsk w number (system_call_in call) reply.Started later × Stands (record e { systems = slice_set e.systems number (Some call) }) later
ask-new e w number call st free = (
  later,
  subst (λ o. AsksIn o w number (system_call_in call) reply.Started later) (sym none) (refl, refl),
  set-stands e w number (Some call) st,
) where
  later : World
  later = record w { systems = slice_set w.systems number (Some (system_call_in call)) }

  none : slice_index_or w.systems number None ≡ None
  none = asked-at e w number st ∙ ap (option_map system_call_in) free

-- ---- a call is made

-- the one that an actor has started
pub made-started : (e new : Engine) (w : World) (number : ℕ) (call : SystemCall) (answer : Answer (List ℕ)) → Stands e w → slice_index_or e.systems number None ≡ Some call
    → ((v : World) → Stands (record e { systems = slice_set e.systems number None }) v → Makes new v (system_call_in call) answer)
    → (later : World) × StepsOut 0 w (actor.System number) answer later × Stands new later
made-started e new w number call answer st started makes = (
  record taken { machine = made.0 },
  subst (λ o. MakesIn o w number (reply.Answer answer) (record taken { machine = made.0 })) (sym at) (answer, made.0, made.1, refl, refl),
  made.2,
) where
  taken : World
  taken = record w { systems = slice_set w.systems number None }

  made : Makes new taken (system_call_in call) answer
  made = makes taken (set-stands e w number None st)

  at : slice_index_or w.systems number None ≡ Some (system_call_in call)
  at = asked-at e w number st ∙ ap (option_map system_call_in) started

-- one that begins and ends at once
pub made-whole : (e new : Engine) (w : World) (number : ℕ) (call : SystemCall) (answer : Answer (List ℕ)) → Stands e w → slice_index_or e.systems number None ≡ None
    → ((v : World) → Stands e v → Makes new v (system_call_in call) answer)
    → (later : World) × MakesAt (slice_index_or w.systems number None) w (system_call_in call) answer later × Stands new later
made-whole e new w number call answer st free makes = (
  record w { machine = made.0 },
  subst (λ o. MakesAt o w (system_call_in call) answer (record w { machine = made.0 })) (sym none) (made.1, refl),
  made.2,
) where
  made : Makes new w (system_call_in call) answer
  made = makes w st

  none : slice_index_or w.systems number None ≡ None
  none = asked-at e w number st ∙ ap (option_map system_call_in) free
