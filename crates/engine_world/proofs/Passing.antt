-- The event that goes on from a leaf without a row to the next one on the way.
use Rattle.std.proofs.Common.{◌≡◌, ◌+◌, ◌*◌, ◌<◌, ℕ, suc, refl, ap, sym, ◌∙◌, Bool, true, List, inl, inr, subst, arith}
use Rattle.std.specs.Prelude.{Option, Some, None, option_map, slice_get}
use Rattle.std.specs.List.{Contains}
use Rattle.wt_code.specs.declared.answers.Answer.{Answer}
use Rattle.wt_code.specs.declared.answers.Answer.TheVariants as answers
use Rattle.wt_code.specs.declared.refusals.Refusal.TheVariants as told
use Rattle.kv_model.specs.Machine.{PlaceCursor, cursor_of}
use Rattle.kv_model.specs.Decisions.{Refused}
use Rattle.kv_model.specs.Reads.{ReadAnswer, Value}
use Rattle.kv_model.specs.Rows.{is_past, starts_at}
use Rattle.tree_dir.specs.declared.leaf.Leaf.{Leaf}
use Rattle.wt_calls.specs.declared.way.Way.{Way as CalledWay}
use Rattle.wt_calls.specs.Calls.{way_in}
use Rattle.call_steps.specs.declared.reply.Reply.TheVariants as reply
use Rattle.call_steps.specs.declared.stage.KeyCall.{KeyCall}
use Rattle.call_steps.specs.declared.stage.KeyCall.TheVariants as key_call
use Rattle.call_steps.specs.declared.stage.Stage.{Stage}
use Rattle.call_steps.specs.declared.stage.Stage.TheVariants as stage
use Rattle.call_steps.specs.declared.stage.Target.{Target}
use Rattle.call_steps.specs.HubEvents.{beside, hub_made_at, pass_made, passes_to}
use Rattle.call_steps.specs.State.{State, answered, at_stage}
use Rattle.call_steps.specs.Tables.{leaf_on, stage_for}
use Rattle.engine_world.specs.Worlds.{World, Placed}
use Rattle.engine_world.specs.Doings.{call_in, further_left}
use Rattle.engine_world.specs.Laws.{IsPass, PassesGo}
use Rattle.engine_world.specs.Stages.{GoesPast, IsOnLeaf, IsPassed, IsSought}
use Rattle.engine_world.specs.Stands.{Engine, Stands}
use Rattle.engine_world.specs.Walks.{leaves_on, passed}
use Rattle.engine_world.proofs.AtLeaves.{PlacesAt, places-at, stands-for}
use Rattle.engine_world.proofs.Homes.{target-is}
use Rattle.engine_world.proofs.HubMoves.{Goes, goes-from, stage-stands}
use Rattle.engine_world.proofs.Looking.{Keeps, answered-does, answered-stands, keeps, made_in, stands-at}
use Rattle.engine_world.proofs.Moves.{alone-leads}
use Rattle.engine_world.proofs.WalkCounts.{leaves-less}
use Rattle.engine_world.proofs.WalkKeys.{next-there, passed-all, passed-next}

module _ (e : Engine) (w : World) (session : ℕ) (a : State) (cursor : ℕ) (way : CalledWay) (target : Target) (st : Stands e w) (at : slice_get e.sessions session ≡ Some a) (is : a.stage ≡ stage.Pass (key_call.Step cursor way) target)
    (on : IsOnLeaf w.machine e.hub.dir.leaves session (key_call.Step cursor way) target) (past : IsPassed w.machine e.hub.dir.leaves session (key_call.Step cursor way) on.1.0) where
  abbrev step : KeyCall
  step = key_call.Step cursor way

  abbrev none_found : Answer (List ℕ)
  none_found = answers.Refused told.NotFound

  -- the keys on the way of the cursor in a table
  abbrev within : ℕ → List ℕ → Bool
  within table = is_past (way_in way) (starts_at table (cursor_of w.machine session cursor))

  kept : Keeps w.machine e.hub e.pieces session a
  kept = keeps w.machine e.hub e.pieces session a (st.sessions session a at)

  number : on.1.0.table ≡ target.table
  number = ap (λ (x : Target). x.table) (target-is on.1.0 target on.1.2).is

  named : on.1.0.id ≡ target.leaf
  named = ap (λ (x : Target). x.leaf) (target-is on.1.0 target on.1.2).is

  -- ---- no leaf is left

  finds : leaf_on (way_in way) on.1.0.id e.hub.dir.leaves ≡ None → (key : List ℕ) → within target.table key ≡ true → ReadAnswer w.machine session on.0.0 target.table key (Value None)
  finds none key inside = subst (λ (n : ℕ). within n key ≡ true → ReadAnswer w.machine session on.0.0 n key (Value None)) number
      (λ here. past on.0.0 on.0.1 key (passed-all e.hub.dir st.dir on.1.0 on.1.1 (way_in way) (within on.1.0.table) key none here)) inside

  ends : leaf_on (way_in way) on.1.0.id e.hub.dir.leaves ≡ None → Goes e w session (beside e.hub (reply.More, answered step target none_found a))
  ends none = alone-leads e w session a (answered step target none_found a) e.hazards reply.More st at
      (goes-from (w.again session) e.hub.dir.leaves session a (stage.Pass step target) w.machine (made_in e.hub.dir.leaves w.machine session (answered step target none_found a)) is (inr (inl (record {
        transaction = on.0.0;
        outcome = Refused told.NotFound;
        event = PlaceCursor session cursor None;
        answer = none_found;
        there = on.0.1;
        finds = (finds none, refl);
        tells = refl;
        goes = answered-does e.hub.dir.leaves (3 + further_left step target e.hub.dir.leaves) (omega arith) w.machine session step target a none_found;
      }))))
      (answered-stands w.machine e.hub e.pieces session step target a kept on none_found)

  -- ---- the next leaf

  module _ (n : Leaf) (next : leaf_on (way_in way) on.1.0.id e.hub.dir.leaves ≡ Some n) where
    there : Contains e.hub.dir.leaves n × (n.table ≡ on.1.0.table)
    there = next-there e.hub.dir st.dir on.1.0 on.1.1 (way_in way) n next

    abbrev to : Stage
    to = stage_for step n

    -- its walk has passed what was passed with the leaf before it
    sought : IsSought w.machine e.hub.dir.leaves session (at_stage to a) step n
    sought t t_there key inside = subst (λ (m : ℕ). passed (way_in way) e.hub.dir.leaves n (within m) key ≡ true → ReadAnswer w.machine session t m key (Value None)) (sym there.1)
        (λ here. past t t_there key (sym (passed-next e.hub.dir st.dir on.1.0 on.1.1 (way_in way) n (within on.1.0.table) key next) ∙ here)) inside

    -- one leaf less is left
    less : further_left step target e.hub.dir.leaves ≡ 5 * suc (leaves_on (way_in way) n.table n.id e.hub.dir.leaves)
    less = ap (λ k. 5 * k) (ap (λ id. leaves_on (way_in way) target.table id e.hub.dir.leaves) (sym named)
        ∙ (leaves-less (way_in way) target.table on.1.0.id e.hub.dir.leaves n st.dir.once next (there.1 ∙ number) ∙ ap (λ m. suc (leaves_on (way_in way) m n.id e.hub.dir.leaves)) (sym (there.1 ∙ number))))

    places : PlacesAt step n e.hub.dir.leaves session (at_stage to a)
    places = places-at step n e.hub.dir.leaves session a

    does : made_in e.hub.dir.leaves w.machine session (at_stage to a) ≡ record { told = reply.More; machine = w.machine; doing = Placed (call_in step a) target.table places.left }
    does = ap (λ d. record { told = reply.More; machine = w.machine; doing = d }) (places.is ∙ ap (λ table. Placed (call_in step a) table places.left) (there.1 ∙ number))

    fewer : places.left < 3 + further_left step target e.hub.dir.leaves
    fewer = let most = places.most in subst (λ k. places.left < 3 + k) (sym less) (omega (arith, most))

    next-goes : Goes e w session (beside e.hub (reply.More, at_stage to a))
    next-goes = alone-leads e w session a (at_stage to a) e.hazards reply.More st at
        (goes-from (w.again session) e.hub.dir.leaves session a (stage.Pass step target) w.machine (made_in e.hub.dir.leaves w.machine session (at_stage to a)) is (inl (places.left, fewer, does)))
        (stands-at w.machine e.hub e.pieces session (at_stage to a)
        (record { phase = kept.phase; seated = record { opened = kept.seated.opened; phase = kept.seated.phase }; cursors = kept.cursors; noted = kept.noted })
        (stands-for w.machine e.hub.dir.leaves e.pieces session a step n there.0 on.0 sought))

  by-next : (o : Option Leaf) → leaf_on (way_in way) on.1.0.id e.hub.dir.leaves ≡ o → Goes e w session (beside e.hub (reply.More, passes_to (option_map (stage_for step) o) step target a))
  by-next None none = ends none
  by-next (Some n) next = next-goes n next

  pass-goes : Goes e w session (pass_made e.hub a step target)
  pass-goes = subst (λ id. Goes e w session (beside e.hub (reply.More, passes_to (option_map (stage_for step) (leaf_on (way_in way) id e.hub.dir.leaves)) step target a))) named
      (by-next (leaf_on (way_in way) on.1.0.id e.hub.dir.leaves) refl)

pub passes-go : PassesGo
passes-go e w session a st at passes = by-stage a.stage refl passes where
  by-call : (call : KeyCall) (target : Target) → a.stage ≡ stage.Pass call target → GoesPast w.machine e.hub.dir.leaves session call target → Goes e w session (pass_made e.hub a call target)
  by-call (key_call.Step cursor way) target is x = pass-goes e w session a cursor way target st at is x.0 x.1
  by-call call target is x = absurd x.1

  by-stage : (g : Stage) → a.stage ≡ g → IsPass g → Goes e w session (hub_made_at g e.hub session a)
  by-stage (stage.Pass call target) is passes = by-call call target is (stage-stands e w session a (stage.Pass call target) st at is)
  by-stage _ is passes = absurd passes
