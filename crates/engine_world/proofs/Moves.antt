-- One event of one session, and the engine goes on to stand.
use Rattle.std.proofs.Common.{◌≡◌, ◌≢◌, ◌<◌, ◌≤◌, ◌+◌, ◌*◌, ◌^◌, ℕ, Bool, zero, suc, refl, ap, sym, ◌∙◌, List, [], ◌∷◌, length, inl, inr, subst, arith}
use Rattle.std.specs.Prelude.{Some, reverse, slice_get, slice_set}
use Rattle.std.proofs.lemmas.Bool.{cases_eq}
use Rattle.std.proofs.lemmas.List.{get_or-set_same, get_or-set_other, length-set}
use Rattle.std.proofs.lemmas.Option.{slice_get_within, slice_get-get_or}
use Rattle.kv_model.specs.History.{tables}
use Rattle.kv_model.specs.Machine.{Machine}
use Rattle.kv_model.specs.Valid.{Valid}
use Rattle.tree_dir.specs.declared.leaf.Leaf.{Leaf}
use Rattle.tree_dir.specs.Leaves.{Directory, IsDirectory}
use Rattle.txn_table.specs.Stands.{TableStands}
use Rattle.catalog.specs.Known.{AreTables, Known}
use Rattle.call_steps.specs.declared.frame.FramePiece.{FramePiece}
use Rattle.call_steps.specs.declared.hub.Hub.{Hub}
use Rattle.call_steps.specs.declared.reply.Reply.{Reply}
use Rattle.call_steps.specs.declared.stage.Stage.{Stage}
use Rattle.call_steps.specs.declared.stage.Stage.TheVariants as stage
use Rattle.call_steps.specs.State.{State}
use Rattle.engine_world.specs.Worlds.{World, Resting, doing_of}
use Rattle.engine_world.specs.Laws.{Leads}
use Rattle.engine_world.specs.Steps.{GoesOn}
use Rattle.engine_world.specs.Doings.{doing_in}
use Rattle.engine_world.specs.Leaves.{FramesStand, LeavesOwned, TablesBegun, generation_at, word_at}
use Rattle.engine_world.specs.Stages.{IsNoticed}
use Rattle.engine_world.specs.Stands.{Engine, Stands, SessionStands}
use Rattle.engine_world.proofs.Beside.{Beside}
use Rattle.engine_world.proofs.Events.{all-same, beside-same}
use Rattle.engine_world.proofs.Homes.{LeavesStand}
use Rattle.engine_world.proofs.InPlace.{SessionInPlace, StageInPlace, noticed-in-place, session-stands}
use Rattle.engine_world.proofs.Others.{others-go-on}

-- ---- lists by index

pub get-set-same : {A : Type 0} (xs : List A) (i : ℕ) (x y : A) → slice_get xs i ≡ Some x → slice_get (slice_set xs i y) i ≡ Some y
get-set-same xs i x y at = let inside = slice_get_within xs i x at in let long = length-set xs i y in
    slice_get-get_or (slice_set xs i y) i y (omega arith) ∙ ap Some (get_or-set_same xs i y y inside)

pub get-set-other : {A : Type 0} (xs : List A) (i j : ℕ) (y : A) → j ≢ i → slice_get (slice_set xs i y) j ≡ slice_get xs j
get-set-other [] i j y other = refl
get-set-other (x ∷ xs) zero zero y other = absurd (other refl)
get-set-other (x ∷ xs) zero (suc j) y other = refl
get-set-other (x ∷ xs) (suc i) zero y other = refl
get-set-other (x ∷ xs) (suc i) (suc j) y other = get-set-other xs i j y (λ e. other (ap suc e))

-- ---- one event

-- what an event of a session has to show, beside what it leaves to the others, also where the leaf that its call has found has gone out
pub record MovesOn (e : Engine) (w : World) (session : ℕ) (hub : Hub) (pieces : List FramePiece) (a : State) (next : Machine) : Type 0 where
  pub valid : Valid next
  pub beside : Beside session w.machine next e.hub hub e.pieces pieces
  pub fault : hub.fault ≡ e.hub.fault
  pub stamps : hub.stamps ≡ e.hub.stamps
  pub txns : TableStands hub.txns next
  pub made : tables next.history ≡ tables w.machine.history
  pub leaves : LeavesStand next w.shelf w.records e.hub.dir.leaves pieces e.states
  pub mine : SessionStands next hub pieces session a
  pub noticed : IsNoticed a.stage pieces (w.again session)

-- and where it has not
pub record Moves (e : Engine) (w : World) (session : ℕ) (hub : Hub) (pieces : List FramePiece) (a : State) (next : Machine) : Type 0 where
  pub valid : Valid next
  pub beside : Beside session w.machine next e.hub hub e.pieces pieces
  pub fault : hub.fault ≡ e.hub.fault
  pub stamps : hub.stamps ≡ e.hub.stamps
  pub txns : TableStands hub.txns next
  pub made : tables next.history ≡ tables w.machine.history
  pub leaves : LeavesStand next w.shelf w.records e.hub.dir.leaves pieces e.states
  pub mine : SessionInPlace next hub pieces session a

pub moves-on : (e : Engine) (w : World) (session : ℕ) (hub : Hub) (pieces : List FramePiece) (a : State) (next : Machine) → Moves e w session hub pieces a next → MovesOn e w session hub pieces a next
moves-on e w session hub pieces a next v = record {
  valid = v.valid;
  beside = v.beside;
  fault = v.fault;
  stamps = v.stamps;
  txns = v.txns;
  made = v.made;
  leaves = v.leaves;
  mine = session-stands next hub pieces session a v.mine;
  noticed = noticed-in-place next w.shelf w.records e.hub.dir.leaves pieces e.states v.leaves a.stage session a (w.again session)
      (subst (λ (d : Directory). StageInPlace a.stage next d.leaves pieces session a) v.beside.dir v.mine.stage);
}

-- where each frame keeps its generation, what was noticed is
pub noticed-stays : (at : Stage) (pieces later : List FramePiece) (again : Bool) → ((frame : ℕ) → generation_at later frame ≡ generation_at pieces frame) → IsNoticed at pieces again → IsNoticed at later again
noticed-stays (stage.Publish call target) pieces later again same x = λ past. x (subst (λ n. target.word + 2 < 4 * n) (same target.frame) past)
noticed-stays (stage.Validate call target) pieces later again same x = λ past. x (subst (λ n. target.word + 2 < 4 * n) (same target.frame) past)
noticed-stays at pieces later again same x = tt

-- so is each frame as it was
pub frames-stay : (pieces later : List FramePiece) (states : List ℕ) → ((frame : ℕ) → generation_at later frame ≡ generation_at pieces frame) → FramesStand pieces states → FramesStand later states
frames-stay pieces later states same stand frame = record {
  below = subst (λ n. n < 2 ^ 62) (sym (same frame)) (stand frame).below;
  word = subst (λ n. 4 * n ≤ word_at states frame + 2) (sym (same frame)) (stand frame).word;
}

-- the world may tell it to other sessions too
pub again-as : (e : Engine) (w : World) (again : ℕ → Bool) → Stands e w → ((session : ℕ) (a : State) → slice_get e.sessions session ≡ Some a → IsNoticed a.stage e.pieces (w.again session) → IsNoticed a.stage e.pieces (again session)) → Stands e (record w { again = again })
again-as e w again st over = record {
  valid = st.valid;
  fault = st.fault;
  stamps = st.stamps;
  txns = st.txns;
  catalog = st.catalog;
  made = st.made;
  dir = st.dir;
  begun = st.begun;
  owned = st.owned;
  leaves = st.leaves;
  unused = st.unused;
  frames = st.frames;
  count = st.count;
  doings = st.doings;
  doing = st.doing;
  sessions = st.sessions;
  systems = st.systems;
  noticed = λ session a at. over session a at (st.noticed session a at);
}

-- the engine and the world after it
abbrev pub engine_with : Engine → ℕ → Hub → List FramePiece → List ℕ → State → Engine
engine_with e session hub pieces hazards a = record e { hub = hub; pieces = pieces; hazards = hazards; sessions = slice_set e.sessions session a }

abbrev pub world_with : World → List Leaf → ℕ → State → Machine → World
world_with w leaves session a next = record w { machine = next; sessions = slice_set w.sessions session (doing_in leaves session a) }

pub goes-on : (e : Engine) (w : World) (session : ℕ) (old a : State) (hub : Hub) (pieces : List FramePiece) (hazards : List ℕ) (next : Machine) → Stands e w → slice_get e.sessions session ≡ Some old
    → MovesOn e w session hub pieces a next → Stands (engine_with e session hub pieces hazards a) (world_with w e.hub.dir.leaves session a next)
goes-on e w session old a hub pieces hazards next st at v = record {
  valid = v.valid;
  fault = v.fault ∙ (st.fault ∙ sym v.beside.machine.apart.fault);
  stamps = v.stamps ∙ (st.stamps ∙ sym (λ i. record { oldest = v.beside.machine.oldest i; stable = v.beside.machine.stable i }));
  txns = v.txns;
  catalog = subst AreTables (sym v.beside.tables) st.catalog;
  made = ap (λ k. reverse k.tables) v.beside.tables ∙ (st.made ∙ sym v.made);
  dir = subst IsDirectory (sym v.beside.dir) st.dir;
  begun = subst (λ (d : Directory). TablesBegun hub.tables.tables d.leaves) (sym v.beside.dir) (subst (λ (k : Known). TablesBegun k.tables e.hub.dir.leaves) (sym v.beside.tables) st.begun);
  owned = subst (λ (d : Directory). LeavesOwned hub.tables.tables d.leaves) (sym v.beside.dir) (subst (λ (k : Known). LeavesOwned k.tables e.hub.dir.leaves) (sym v.beside.tables) st.owned);
  leaves = subst (λ (d : Directory). LeavesStand next w.shelf w.records d.leaves pieces e.states) (sym v.beside.dir) v.leaves;
  unused = λ id past key. st.unused id (subst (λ (d : Directory). d.next ≤ id) v.beside.dir past) key;
  frames = frames-stay e.pieces pieces e.states v.beside.slots.generations st.frames;
  count = length-set e.sessions session a ∙ (st.count ∙ sym v.beside.machine.count);
  doings = length-set w.sessions session (doing_in e.hub.dir.leaves session a) ∙ (st.doings ∙ sym (length-set e.sessions session a));
  doing = λ r b there. subst (λ (d : Directory). doing_of (world_with w e.hub.dir.leaves session a next) r ≡ doing_in d.leaves r b) (sym v.beside.dir) (elim (cases_eq r session) [
    | inl same ↦ mine-does r b same there
    | inr other ↦ get_or-set_other w.sessions session r (doing_in e.hub.dir.leaves session a) Resting other ∙ st.doing r b (sym (get-set-other e.sessions session r a other) ∙ there)
  ]);
  sessions = λ r b there. elim (cases_eq r session) [
    | inl same ↦ mine-stands r b same there
    | inr other ↦ others-go-on session w.machine next e.hub hub e.pieces pieces r b v.beside other st.valid (st.sessions r b (sym (get-set-other e.sessions session r a other) ∙ there))
  ];
  systems = st.systems;
  noticed = λ r b there. elim (cases_eq r session) [
    | inl same ↦ mine-noticed r b same there
    | inr other ↦ noticed-stays b.stage e.pieces pieces (w.again r) v.beside.slots.generations (st.noticed r b (sym (get-set-other e.sessions session r a other) ∙ there))
  ];
} where
  inside : session < length e.sessions
  inside = slice_get_within e.sessions session old at

  this : (r : ℕ) (b : State) → r ≡ session → slice_get (slice_set e.sessions session a) r ≡ Some b → a ≡ b
  this r b same there = let e : Some a ≡ Some b = sym (get-set-same e.sessions session old a at) ∙ (ap (λ i. slice_get (slice_set e.sessions session a) i) (sym same) ∙ there) in cc

  mine-does : (r : ℕ) (b : State) → r ≡ session → slice_get (slice_set e.sessions session a) r ≡ Some b → doing_of (world_with w e.hub.dir.leaves session a next) r ≡ doing_in e.hub.dir.leaves r b
  mine-does r b same there = ap (λ i. doing_of (world_with w e.hub.dir.leaves session a next) i) same ∙ (get_or-set_same w.sessions session (doing_in e.hub.dir.leaves session a) Resting (let d = st.doings in omega arith)
      ∙ (ap (λ i. doing_in e.hub.dir.leaves i a) (sym same) ∙ ap (λ x. doing_in e.hub.dir.leaves r x) (this r b same there)))

  mine-stands : (r : ℕ) (b : State) → r ≡ session → slice_get (slice_set e.sessions session a) r ≡ Some b → SessionStands next hub pieces r b
  mine-stands r b same there = subst (λ i. SessionStands next hub pieces i b) (sym same) (subst (λ x. SessionStands next hub pieces session x) (this r b same there) v.mine)

  mine-noticed : (r : ℕ) (b : State) → r ≡ session → slice_get (slice_set e.sessions session a) r ≡ Some b → IsNoticed b.stage pieces (w.again r)
  mine-noticed r b same there = subst (λ i. IsNoticed b.stage pieces (w.again i)) (sym same) (subst (λ (x : State). IsNoticed x.stage pieces (w.again session)) (this r b same there) v.noticed)

pub moves : (e : Engine) (w : World) (session : ℕ) (old a : State) (hub : Hub) (pieces : List FramePiece) (hazards : List ℕ) (next : Machine) → Stands e w → slice_get e.sessions session ≡ Some old
    → Moves e w session hub pieces a next → Stands (engine_with e session hub pieces hazards a) (world_with w e.hub.dir.leaves session a next)
moves e w session old a hub pieces hazards next st at v = goes-on e w session old a hub pieces hazards next st at (moves-on e w session hub pieces a next v)

-- ---- the world's step with it

pub leads-on : (e : Engine) (w : World) (session : ℕ) (old a : State) (hub : Hub) (pieces : List FramePiece) (hazards : List ℕ) (next : Machine) (told : Reply) → Stands e w → slice_get e.sessions session ≡ Some old
    → GoesOn (w.again session) (doing_in e.hub.dir.leaves session old) w.machine session (record { told = told; machine = next; doing = doing_in e.hub.dir.leaves session a }) → MovesOn e w session hub pieces a next
    → Leads (engine_with e session hub pieces hazards a) w session told
leads-on e w session old a hub pieces hazards next told st at goes v = (
  world_with w e.hub.dir.leaves session a next,
  record {
    made = record { told = told; machine = next; doing = doing_in e.hub.dir.leaves session a };
    goes = subst (λ d. GoesOn (w.again session) d w.machine session (record { told = told; machine = next; doing = doing_in e.hub.dir.leaves session a })) (sym (st.doing session old at)) goes;
    tells = refl;
    leaves = refl;
  },
  goes-on e w session old a hub pieces hazards next st at v,
)

pub leads : (e : Engine) (w : World) (session : ℕ) (old a : State) (hub : Hub) (pieces : List FramePiece) (hazards : List ℕ) (next : Machine) (told : Reply) → Stands e w → slice_get e.sessions session ≡ Some old
    → GoesOn (w.again session) (doing_in e.hub.dir.leaves session old) w.machine session (record { told = told; machine = next; doing = doing_in e.hub.dir.leaves session a }) → Moves e w session hub pieces a next
    → Leads (engine_with e session hub pieces hazards a) w session told
leads e w session old a hub pieces hazards next told st at goes v = leads-on e w session old a hub pieces hazards next told st at goes (moves-on e w session hub pieces a next v)

-- the session's state alone changes, and a hazard word
pub alone : (e : Engine) (w : World) (session : ℕ) (a : State) → Stands e w → SessionInPlace w.machine e.hub e.pieces session a → Moves e w session e.hub e.pieces a w.machine
alone e w session a st mine = record {
  valid = st.valid;
  beside = all-same session w.machine w.machine e.hub e.pieces (beside-same session w.machine);
  fault = refl;
  stamps = refl;
  txns = st.txns;
  made = refl;
  leaves = st.leaves;
  mine = mine;
}

pub alone-leads : (e : Engine) (w : World) (session : ℕ) (old a : State) (hazards : List ℕ) (told : Reply) → Stands e w → slice_get e.sessions session ≡ Some old
    → GoesOn (w.again session) (doing_in e.hub.dir.leaves session old) w.machine session (record { told = told; machine = w.machine; doing = doing_in e.hub.dir.leaves session a }) → SessionInPlace w.machine e.hub e.pieces session a
    → Leads (engine_with e session e.hub e.pieces hazards a) w session told
alone-leads e w session old a hazards told st at goes mine = leads e w session old a e.hub e.pieces hazards w.machine told st at goes (alone e w session a st mine)
