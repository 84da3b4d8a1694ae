-- The start of a checkpoint, its snapshot, and the leaves that it reads.
use Rattle.std.proofs.Common.{◌≡◌, ◌≤◌, ◌<◌, ℕ, refl, ap, sym, ◌∙◌, Bool, true, false, [], ◌∷◌, length, inl, inr, subst, arith}
use Rattle.std.specs.Prelude.{Option, Some, None, Ok, Err, IfSome, nat_le, option_map}
use Rattle.std.specs.Borrow.{Bor}
use Rattle.std.proofs.lemmas.Bool.{false_from_ne_true, le-leb, leb-true}
use Rattle.limits.specs.declared.TheConstants.{NUMBER_MAX}
use Rattle.failure.specs.declared.Fault.{Fault}
use Rattle.wt_code.specs.declared.refusals.Busy.TheVariants as who
use Rattle.wt_code.specs.declared.refusals.Limit.TheVariants as counted
use Rattle.wt_code.specs.declared.refusals.Refusal.TheVariants as told
use Rattle.kv_model.specs.Allowed.{Allowed}
use Rattle.kv_model.specs.Decisions.{Outcome, Done, StartCall, checked, decision, first_session, is_resolving, is_there, unless_found}
use Rattle.kv_model.specs.Machine.{Machine, Checkpoint, Event, CheckpointDrop, CheckpointStart, after}
use Rattle.kv_model.specs.Valid.{Valid}
use Rattle.kv_model.proofs.Deciding.{may-decide}
use Rattle.kv_model.proofs.EveryEvent.{valid-after}
use Rattle.snapshot.specs.Matters.{NoneResolves, SeesCommitted}
use Rattle.snapshot.specs.Sight.{sight_at}
use Rattle.txn_table.specs.Checkpoints.{CheckpointsSee}
use Rattle.txn_table.specs.Stands.{TableStands}
use Rattle.txn_table.specs.TableLaws.{CallsGoOn, LowestAreTheMachines}
use Rattle.txn_table.specs.SessionData.{is_resolving as resolves}
use Rattle.txn_table.specs.Tabled.{Table as Txns, first_in, unended}
use Rattle.leaf_frame.specs.Leaf.{HeldLeaf}
use Rattle.call_steps.specs.declared.frame.Frame.{Frame}
use Rattle.engine_world.specs.Leaves.{frame_in}
use Rattle.engine_world.specs.Stands.{Engine, Stands}
use Rattle.engine_world.specs.Worlds.{World}
use Rattle.engine_world.proofs.HubMoves.{decided-down, decided-up}
use Rattle.engine.specs.Checkpoints.{MayStart}
use Rattle.engine.specs.Sizes.{LeafFits, LeavesFit}

-- ---- the start

-- what is decided of it, by the checkpoint that runs and the lowest session that resolves
abbrev start_by : Option Checkpoint → Option ℕ → Bool → Outcome × Event
start_by running found last =
    checked ((is_there running, told.Busy who.Checkpoint) ∷ []) (unless_found found who.Resolving (checked ((last, told.Limit counted.Checkpoints) ∷ []) (Done, CheckpointStart)))

abbrev lowest_resolving : Machine → Option ℕ
lowest_resolving m = first_session (λ t. is_resolving t.phase) 0 m.sessions

start-is : (m : Machine) (number : ℕ) (found : Option ℕ) (last : Bool) → m.fault ≡ None → m.checkpoint ≡ None → lowest_resolving m ≡ found → nat_le NUMBER_MAX number ≡ last
    → decision m 0 (StartCall number) ≡ start_by None found last
start-is m number found last up free lowest is = decided-up m 0 (StartCall number) up
    ∙ (ap (λ (c : Option Checkpoint). start_by c (lowest_resolving m) (nat_le NUMBER_MAX number)) free
    ∙ (ap (λ (o : Option ℕ). start_by None o (nat_le NUMBER_MAX number)) lowest ∙ ap (start_by None found) is))

-- up, and without a checkpoint
abbrev alone_of : Machine → Machine
alone_of m = record m { fault = None; checkpoint = None }

pub start-down : (e : Engine) (w : World) (number : ℕ) (fault : Fault) → Stands e w → e.hub.fault ≡ Some fault → MayStart w.machine number (Err (told.Panic fault))
start-down e w number fault st down = decided-down w.machine 0 (StartCall number) fault (sym st.fault ∙ down) refl

module _ (law : LowestAreTheMachines) (e : Engine) (w : World) (st : Stands e w) where
  lowest-is : (found : Option ℕ) → found ≡ first_in resolves 0 e.hub.txns.sessions → lowest_resolving w.machine ≡ found
  lowest-is found is = sym (is ∙ (law e.hub.txns w.machine st.txns).resolving)

  pub start-resolving : (number session : ℕ) → e.hub.fault ≡ None → w.machine.checkpoint ≡ None → Some session ≡ first_in resolves 0 e.hub.txns.sessions
      → MayStart w.machine number (Err (told.Busy (who.Resolving session)))
  start-resolving number session up free is = start-is w.machine number (Some session) (nat_le NUMBER_MAX number) (sym st.fault ∙ up) free (lowest-is (Some session) is) refl

  pub start-last : (number : ℕ) → e.hub.fault ≡ None → w.machine.checkpoint ≡ None → None ≡ first_in resolves 0 e.hub.txns.sessions → NUMBER_MAX ≤ number
      → MayStart w.machine number (Err (told.Limit counted.Checkpoints))
  start-last number up free is last = start-is w.machine number None true (sym st.fault ∙ up) free (lowest-is None is) (le-leb NUMBER_MAX number last)

  pub start-done : (number : ℕ) → e.hub.fault ≡ None → w.machine.checkpoint ≡ None → None ≡ first_in resolves 0 e.hub.txns.sessions → number < NUMBER_MAX → MayStart w.machine number (Ok tt)
  start-done number up free is more = start-is w.machine number None false (sym st.fault ∙ up) free (lowest-is None is) (false_from_ne_true (nat_le NUMBER_MAX number) (λ over. let least = leb-true NUMBER_MAX number over in omega arith))

  -- where no session is found, none resolves
  pub none-resolves : None ≡ first_in resolves 0 e.hub.txns.sessions → NoneResolves w.machine
  none-resolves is = may.1 where
    may : Allowed (alone_of w.machine) CheckpointStart
    may = subst (λ (d : Outcome × Event). Allowed (alone_of w.machine) d.1) (start-is (alone_of w.machine) 0 None false refl refl (lowest-is None is) refl) (may-decide (alone_of w.machine) 0 (StartCall 0) tt)

-- ---- the snapshot

-- it does not rest on the checkpoint that runs
pub sees-now : CallsGoOn → CheckpointsSee → (t : Txns) (m : Machine) → Valid m → TableStands t m → NoneResolves m → SeesCommitted m (length m.history) (sight_at t.run t.next (unended t))
sees-now calls law t m valid stands none = record {
  run = sees.run;
  order = sees.order;
  drawn = sees.drawn;
  within = sees.within;
  sees = λ x matters. sees.sees x (elim matters [
    | inl is ↦ inl is
    | inr live ↦ inr (record { session = live.session; transaction = live.transaction; there = live.there; drawn = live.drawn; name = live.name; counts = live.counts })
  ]);
} where
  sees : SeesCommitted (after (after m CheckpointDrop) CheckpointStart) (length m.history) (sight_at t.run t.next (unended t))
  sees = (law t (after m CheckpointDrop) (record { prefix = length m.history; oldest = m.oldest; stable = m.stable }) (valid-after m CheckpointDrop valid tt)
      ((calls t m valid stands).others CheckpointDrop tt tt) (refl, none) refl).sees

-- ---- the leaves

pub leaf-fits : (e : Engine) (place : ℕ) (result : Option (Bor HeldLeaf)) → LeavesFit e.pieces
    → option_map (λ l. l.now) result ≡ option_map (λ (f : Frame). f.leaf) (frame_in e.pieces place) → IfSome result (λ l. LeafFits l.now)
leaf-fits e place None fit is = tt
leaf-fits e place (Some c) fit is = by (frame_in e.pieces place) refl is where
  by : (o : Option Frame) → frame_in e.pieces place ≡ o → Some c.now ≡ option_map (λ (f : Frame). f.leaf) o → LeafFits c.now
  by None at is = absurd (cc)
  by (Some f) at is = subst LeafFits (let same : f.leaf ≡ c.now = cc in same) (fit place f at)
