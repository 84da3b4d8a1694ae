-- A session whose call, where it has found a leaf and not come to it yet, finds it where it was found. So each event of the session leaves it, but a store that names a frame.
use Rattle.std.proofs.Common.{◌≡◌, ◌+◌, ◌*◌, ℕ, Bool, ap, sym, ◌∙◌, List, inl, map, arith}
use Rattle.std.specs.Prelude.{option_map}
use Rattle.std.specs.List.{Contains}
use Rattle.std.proofs.lemmas.Option.{same_Some}
use Rattle.kv_model.specs.Machine.{Machine, cursors_of, transaction_of}
use Rattle.row_page.specs.Rows.{Row}
use Rattle.tree_dir.specs.declared.leaf.Framed.{Framed}
use Rattle.tree_dir.specs.declared.leaf.Leaf.{Leaf}
use Rattle.txn_table.specs.SessionData.{phase_in}
use Rattle.call_steps.specs.declared.frame.FramePiece.{FramePiece}
use Rattle.call_steps.specs.declared.hub.Hub.{Hub}
use Rattle.call_steps.specs.declared.stage.KeyCall.{KeyCall}
use Rattle.call_steps.specs.declared.stage.Stage.{Stage}
use Rattle.call_steps.specs.declared.stage.Stage.TheVariants as stage
use Rattle.call_steps.specs.declared.stage.Target.{Target}
use Rattle.call_steps.specs.HubEvents.{IsSeated}
use Rattle.call_steps.specs.State.{State}
use Rattle.call_steps.specs.Tables.{filled}
use Rattle.call_steps.proofs.StateWords.{filled-is}
use Rattle.engine_world.specs.Leaves.{AreNoted, LeafInFrame, generation_at}
use Rattle.engine_world.specs.Stages.{HasFound, IsLeafOf, IsNoticed, IsPast, Seeks, StageStands}
use Rattle.engine_world.specs.Stands.{SessionStands, position_in, writes_in}
use Rattle.engine_world.specs.Worlds.{Records}
use Rattle.engine_world.proofs.Homes.{IsTarget, LeavesStand, in-its-frame, target-is}

-- where a call has found its leaf it is there
abbrev pub StageInPlace : Stage → Machine → List Leaf → List FramePiece → ℕ → State → Type 0
StageInPlace (stage.Publish call target) m leaves pieces session a = Seeks m leaves session call target a
StageInPlace (stage.Validate call target) m leaves pieces session a = Seeks m leaves session call target a
StageInPlace at m leaves pieces session a = StageStands at m leaves pieces session a

pub record SessionInPlace (m : Machine) (hub : Hub) (pieces : List FramePiece) (session : ℕ) (a : State) : Type 0 where
  pub phase : phase_in a.phase ≡ option_map (λ t. t.phase) (transaction_of m session)
  pub seated : IsSeated hub session a
  pub cursors : map position_in a.cursors ≡ cursors_of m session
  pub noted : AreNoted hub.dir.leaves pieces (writes_in m session) a.written
  pub stage : StageInPlace a.stage m hub.dir.leaves pieces session a

module _ (m : Machine) (leaves : List Leaf) (pieces : List FramePiece) (session : ℕ) (a : State) where
  pub seeks-found : (call : KeyCall) (target : Target) → Seeks m leaves session call target a → HasFound m leaves pieces session call target a
  seeks-found call target x = let t = target-is x.0.1.0 target x.0.1.2 in
      ((x.0.0, ((x.0.1.0, x.0.1.1, ap (λ (y : Target). y.leaf) t.is, ap (λ (y : Target). y.table) t.is), x.1)), inl x.0.1.2)

  stage-stands : (at : Stage) → StageInPlace at m leaves pieces session a → StageStands at m leaves pieces session a
  stage-stands (stage.Publish call target) x = seeks-found call target x
  stage-stands (stage.Validate call target) x = seeks-found call target x
  stage-stands at x = x

pub session-stands : (m : Machine) (hub : Hub) (pieces : List FramePiece) (session : ℕ) (a : State) → SessionInPlace m hub pieces session a → SessionStands m hub pieces session a
session-stands m hub pieces session a x = record {
  phase = x.phase;
  seated = x.seated;
  cursors = x.cursors;
  noted = x.noted;
  stage = stage-stands m hub.dir.leaves pieces session a a.stage x.stage;
}

-- ---- the frame is not past it

module _ (m : Machine) (shelf : ℕ → List Row) (records : Records) (leaves : List Leaf) (pieces : List FramePiece) (states : List ℕ) (stand : LeavesStand m shelf records leaves pieces states) where
  -- the leaf of a target in its frame
  pub leaf-laid : (l : Leaf) (target : Target) → Contains leaves l → (t : IsTarget l target) → LeafInFrame m shelf records leaves pieces states l
  leaf-laid l target there t = in-its-frame m shelf records leaves pieces states l t.framed t.placed (stand l there)

  -- its generation, and the word that was found
  pub generation-there : (target : Target) → (x : IsLeafOf leaves target) → target.word ≡ 4 * generation_at pieces target.frame + 1
  generation-there target x =
      let t = target-is x.0 target x.2 in
      let laid = (leaf-laid x.0 target x.1 t).laid in
      let framed : laid.framed ≡ t.framed = same_Some laid.framed t.framed (sym laid.placed ∙ t.placed) in
      let frame : laid.framed.frame ≡ target.frame = ap (λ (f : Framed). f.frame) framed ∙ ap (λ (y : Target). y.frame) t.is in
      let now : generation_at pieces target.frame ≡ laid.framed.generation = ap (generation_at pieces) (sym frame) ∙ laid.generation in
      sym (ap (λ (y : Target). y.word) t.is) ∙ (ap (λ (f : Framed). filled f.generation) (sym framed) ∙ (filled-is laid.framed.generation laid.below ∙ ap (λ n. 4 * n + 1) (sym now)))

  pub not-past : (target : Target) → IsLeafOf leaves target → IsPast pieces target → ⊥
  not-past target x past = let word = generation-there target x in absurd (omega (arith, word, past))

  pub noticed-in-place : (at : Stage) (session : ℕ) (a : State) (again : Bool) → StageInPlace at m leaves pieces session a → IsNoticed at pieces again
  noticed-in-place (stage.Publish call target) session a again x = λ past. absurd (not-past target x.0.1 past)
  noticed-in-place (stage.Validate call target) session a again x = λ past. absurd (not-past target x.0.1 past)
  noticed-in-place at session a again x = tt
