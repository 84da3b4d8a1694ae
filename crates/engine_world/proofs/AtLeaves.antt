-- A call that has found its leaf: what it does, and what stands.
use Rattle.std.proofs.Common.{◌≡◌, ◌+◌, ◌≤◌, ◌<◌, ℕ, true, refl, ap, sym, ◌∙◌, subst, List, arith}
use Rattle.std.specs.Prelude.{Option, Some, None}
use Rattle.std.specs.List.{Contains}
use Rattle.kv_model.specs.Machine.{Machine, Running}
use Rattle.kv_model.specs.Allowed.{HasTransaction}
use Rattle.tree_dir.specs.declared.leaf.Leaf.{Leaf}
use Rattle.call_steps.specs.declared.frame.FramePiece.{FramePiece}
use Rattle.call_steps.specs.declared.stage.KeyCall.{KeyCall}
use Rattle.call_steps.specs.declared.stage.Target.{Target}
use Rattle.call_steps.specs.Stages.{is_write}
use Rattle.call_steps.specs.State.{State, at_stage}
use Rattle.call_steps.specs.Tables.{stage_by, stage_for, target_in}
use Rattle.engine_world.specs.Worlds.{Placed}
use Rattle.engine_world.specs.Doings.{call_in, doing_at, doing_in, further_from}
use Rattle.engine_world.specs.Stages.{IsSought}
use Rattle.engine_world.proofs.Homes.{target-is}
use Rattle.engine_world.proofs.InPlace.{StageInPlace}

-- it has so many steps left at most
pub record PlacesAt (call : KeyCall) (l : Leaf) (leaves : List Leaf) (session : ℕ) (a : State) : Type 0 where
  pub left : ℕ
  pub most : left ≤ 7 + further_from call l.table l.id leaves
  pub is : doing_in leaves session a ≡ Placed (call_in call a) l.table left

pub places-at : (call : KeyCall) (l : Leaf) (leaves : List Leaf) (session : ℕ) (a : State) → PlacesAt call l leaves session (at_stage (stage_for call l) a)
places-at call l leaves session a = by (target_in l) refl where
  by : (o : Option Target) → target_in l ≡ o → PlacesAt call l leaves session (at_stage (stage_for call l) a)
  by None e = record {
    left = 7 + further_from call l.table l.id leaves;
    most = omega arith;
    is = ap (λ o. doing_at (stage_by call l o) leaves session (at_stage (stage_for call l) a)) e;
  }
  by (Some target) e = let is = (target-is l target e).is in record {
    left = 6 + further_from call l.table l.id leaves;
    most = omega arith;
    is = ap (λ o. doing_at (stage_by call l o) leaves session (at_stage (stage_for call l) a)) e ∙ ap (λ (t : Target). Placed (call_in call (at_stage (stage_for call l) a)) t.table (6 + further_from call t.table t.leaf leaves)) (sym is);
  }

-- its leaf is the one that is sought
pub stands-for : (m : Machine) (leaves : List Leaf) (pieces : List FramePiece) (session : ℕ) (a : State) (call : KeyCall) (l : Leaf) → Contains leaves l → HasTransaction m session (λ t. (t.phase ≡ Running) × (is_write call ≡ true → 0 < t.id))
    → IsSought m leaves session (at_stage (stage_for call l) a) call l → StageInPlace (stage_for call l) m leaves pieces session (at_stage (stage_for call l) a)
stands-for m leaves pieces session a call l there runs sought = by (target_in l) refl where
  by : (o : Option Target) → target_in l ≡ o → StageInPlace (stage_for call l) m leaves pieces session (at_stage (stage_for call l) a)
  by None e = subst (λ o. StageInPlace (stage_by call l o) m leaves pieces session (at_stage (stage_for call l) a)) (sym e) (runs, ((l, there, refl, refl), sought))
  by (Some target) e = subst (λ o. StageInPlace (stage_by call l o) m leaves pieces session (at_stage (stage_for call l) a)) (sym e) ((runs, (l, there, e)), sought)
