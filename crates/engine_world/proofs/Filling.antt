-- The event that goes on once the leaf of a call is in a frame.
use Rattle.std.proofs.Common.{◌≡◌, ◌+◌, ℕ, refl, ap, sym, ◌∙◌, subst, inl, arith}
use Rattle.std.specs.Prelude.{Some, option_map, slice_get}
use Rattle.std.specs.List.{Contains}
use Rattle.std.proofs.lemmas.Option.{same_Some}
use Rattle.kv_model.specs.Calls.{Call}
use Rattle.tree_dir.specs.declared.leaf.Framed.{Framed}
use Rattle.tree_dir.specs.declared.leaf.Leaf.{Leaf}
use Rattle.tree_dir.specs.Leaves.{leaf_named}
use Rattle.tree_dir.proofs.Parting.{ids-name}
use Rattle.call_steps.specs.declared.reply.Reply.TheVariants as reply
use Rattle.call_steps.specs.declared.stage.KeyCall.{KeyCall}
use Rattle.call_steps.specs.declared.stage.KeyCall.TheVariants as key_call
use Rattle.call_steps.specs.declared.stage.Stage.{Stage}
use Rattle.call_steps.specs.declared.stage.Stage.TheVariants as stage
use Rattle.call_steps.specs.declared.stage.Target.{Target}
use Rattle.call_steps.specs.declared.stage.Wanted.{Wanted}
use Rattle.call_steps.specs.HubEvents.{beside, fill_made, fills_to, hub_made_at}
use Rattle.call_steps.specs.State.{State, at_stage}
use Rattle.call_steps.specs.Tables.{stage_by, stage_for}
use Rattle.engine_world.specs.Worlds.{World, Placed}
use Rattle.engine_world.specs.Doings.{call_in, further_from}
use Rattle.engine_world.specs.Laws.{FillsGo, IsFilled}
use Rattle.engine_world.specs.Stages.{Awaits, IsSought}
use Rattle.engine_world.specs.Stands.{Engine, Stands}
use Rattle.engine_world.specs.Steps.{Made}
use Rattle.engine_world.proofs.Homes.{target-from, target_at}
use Rattle.engine_world.proofs.HubMoves.{Goes, goes-from, stage-stands}
use Rattle.engine_world.proofs.Looking.{Keeps, keeps, made_in, stands-at}
use Rattle.engine_world.proofs.Moves.{alone-leads}
use Rattle.engine_world.proofs.OwnStates.{call-at}

module _ (e : Engine) (w : World) (session : ℕ) (a : State) (call : KeyCall) (wanted : Wanted) (l : Leaf) (f : Framed) (st : Stands e w) (at : slice_get e.sessions session ≡ Some a) (is : a.stage ≡ stage.Fill call wanted)
    (x : Awaits w.machine e.hub.dir.leaves session call wanted a) (named : leaf_named wanted.leaf e.hub.dir.leaves ≡ Some l) (framed : l.frame ≡ Some f) where
  -- the leaf that it waits for
  same : x.1.0.0 ≡ l
  same = same_Some x.1.0.0 l (sym (ids-name e.hub.dir st.dir x.1.0.0 x.1.0.1) ∙ (ap (λ id. leaf_named id e.hub.dir.leaves) x.1.0.2 ∙ named))

  there : Contains e.hub.dir.leaves l
  there = subst (Contains e.hub.dir.leaves) same x.1.0.1

  table : l.table ≡ wanted.table
  table = ap (λ (n : Leaf). n.table) (sym same) ∙ x.1.0.3

  id : l.id ≡ wanted.leaf
  id = ap (λ (n : Leaf). n.id) (sym same) ∙ x.1.0.2

  abbrev target : Target
  target = target_at l f

  to : stage_for call l ≡ stage.Publish call target
  to = ap (stage_by call l) (target-from l f framed)

  kept : Keeps w.machine e.hub e.pieces session a
  kept = keeps w.machine e.hub e.pieces session a (st.sessions session a at)

  sought : IsSought w.machine e.hub.dir.leaves session (at_stage (stage.Publish call target) a) call l
  sought = sought-on call (subst (IsSought w.machine e.hub.dir.leaves session a call) same x.1.1) where
    sought-on : (call : KeyCall) → IsSought w.machine e.hub.dir.leaves session a call l → IsSought w.machine e.hub.dir.leaves session (at_stage (stage.Publish call target) a) call l
    sought-on (key_call.Step cursor way) x = x
    sought-on call x = x

  abbrev left : ℕ
  left = 6 + further_from call wanted.table wanted.leaf e.hub.dir.leaves

  does : made_in e.hub.dir.leaves w.machine session (at_stage (stage.Publish call target) a) ≡ record { told = reply.More; machine = w.machine; doing = Placed (call_in call a) wanted.table left }
  does = ap made (call-at call (stage.Publish call target) a) ∙ (ap (λ n. placed n (6 + further_from call n l.id e.hub.dir.leaves)) table ∙ ap (λ n. placed wanted.table (6 + further_from call wanted.table n e.hub.dir.leaves)) id) where
    made : Call → Made
    made c = record { told = reply.More; machine = w.machine; doing = Placed c l.table (6 + further_from call l.table l.id e.hub.dir.leaves) }

    placed : ℕ → ℕ → Made
    placed table left = record { told = reply.More; machine = w.machine; doing = Placed (call_in call a) table left }

  goes-on : Goes e w session (beside e.hub (reply.More, at_stage (stage.Publish call target) a))
  goes-on = alone-leads e w session a (at_stage (stage.Publish call target) a) e.hazards reply.More st at
      (goes-from (w.again session) e.hub.dir.leaves session a (stage.Fill call wanted) w.machine (made_in e.hub.dir.leaves w.machine session (at_stage (stage.Publish call target) a)) is (inl (left, omega arith, does)))
      (stands-at w.machine e.hub e.pieces session (at_stage (stage.Publish call target) a)
      (record { phase = kept.phase; seated = record { opened = kept.seated.opened; phase = kept.seated.phase }; cursors = kept.cursors; noted = kept.noted })
      ((x.0, (l, there, target-from l f framed)), sought))

  fill-goes : Goes e w session (fill_made e.hub a call wanted)
  fill-goes = subst (λ o. Goes e w session (beside e.hub (reply.More, fills_to (option_map (stage_for call) o) call a))) (sym named)
      (subst (λ g. Goes e w session (beside e.hub (reply.More, at_stage g a))) (sym to) goes-on)

pub fills-go : FillsGo
fills-go e w session a st at filled = by a.stage refl filled where
  by : (g : Stage) → a.stage ≡ g → IsFilled e.hub g → Goes e w session (hub_made_at g e.hub session a)
  by (stage.Fill call wanted) is x = fill-goes e w session a call wanted x.0 x.1 st at is (stage-stands e w session a (stage.Fill call wanted) st at is) x.2 x.3
  by _ is x = absurd x
