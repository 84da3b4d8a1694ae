-- A leaf that comes into a frame changes no count of the leaves that are left to a walk.
use Rattle.std.proofs.Common.{◌≡◌, ◌+◌, ◌*◌, ℕ, suc, refl, ap, ◌∙◌, List, [], ◌∷◌, length, inl, inr, map}
use Rattle.std.specs.Prelude.{◌==◌, Option, Some, None, if◌then◌else◌}
use Rattle.std.proofs.lemmas.Bool.{cases_Bool}
use Rattle.std.proofs.lemmas.List.{length-map}
use Rattle.kv_model.specs.Rows.{Way, Up, Down}
use Rattle.wt_calls.specs.Calls.{way_in}
use Rattle.tree_dir.specs.declared.leaf.Framed.{Framed}
use Rattle.tree_dir.specs.declared.leaf.Leaf.{Leaf}
use Rattle.tree_dir.specs.Leaves.{in_frame, leaf_named}
use Rattle.call_steps.specs.declared.stage.KeyCall.{KeyCall}
use Rattle.call_steps.specs.declared.stage.KeyCall.TheVariants as key_call
use Rattle.call_steps.specs.declared.stage.Stage.{Stage}
use Rattle.call_steps.specs.declared.stage.Stage.TheVariants as stage
use Rattle.call_steps.specs.State.{State}
use Rattle.call_turns.specs.Turns.{FramesKeep, all_ahead, all_behind, fill_turns, further, leaves_left, leaves_on, turns_at}

-- each leaf is changed, and keeps its id
module _ (change : Leaf → Leaf) (keeps : (l : Leaf) → (change l).id ≡ l.id) where
  same-behind : (id : ℕ) (leaves : List Leaf) → length (all_behind id (map change leaves)) ≡ length (all_behind id leaves)
  same-behind id [] = refl
  same-behind id (l ∷ leaves) = elim (cases_Bool (l.id == id)) [
    | inl is ↦ rw (keeps l, is) (length-map leaves change)
    | inr isnt ↦ rw (keeps l, isnt) (same-behind id leaves)
  ]

  same-ahead : (id : ℕ) (leaves : List Leaf) → length (all_ahead id (map change leaves)) ≡ length (all_ahead id leaves)
  same-ahead id [] = refl
  same-ahead id (l ∷ leaves) = elim (cases_Bool (l.id == id)) [
    | inl is ↦ rw (keeps l, is) refl
    | inr isnt ↦ rw (keeps l, isnt) (ap suc (same-ahead id leaves))
  ]

  same-on : (way : Way) (id : ℕ) (leaves : List Leaf) → leaves_on way id (map change leaves) ≡ leaves_on way id leaves
  same-on Up id leaves = same-behind id leaves
  same-on Down id leaves = same-ahead id leaves

  same-left : (call : KeyCall) (id : ℕ) (leaves : List Leaf) → leaves_left call id (map change leaves) ≡ leaves_left call id leaves
  same-left (key_call.Step cursor way) id leaves = same-on (way_in way) id leaves
  same-left _ id leaves = refl

  same-further : (call : KeyCall) (id : ℕ) (leaves : List Leaf) → further call id (map change leaves) ≡ further call id leaves
  same-further call id leaves = ap (λ n. 5 * n) (same-left call id leaves)

  -- it is there as it was
  same-named : (call : KeyCall) (id at : ℕ) (leaves others : List Leaf) → fill_turns (leaf_named id (map change leaves)) call at others ≡ fill_turns (leaf_named id leaves) call at others
  same-named call id at [] others = refl
  same-named call id at (l ∷ leaves) others = elim (cases_Bool (l.id == id)) [
    | inl is ↦ rw (keeps l, is) refl
    | inr isnt ↦ rw (keeps l, isnt) (same-named call id at leaves others)
  ]

  waits : (call : KeyCall) (id : ℕ) (leaves others : List Leaf) (o : Option Leaf) → further call id others ≡ further call id leaves → fill_turns o call id others ≡ fill_turns o call id leaves
  waits call id leaves others None same = refl
  waits call id leaves others (Some l) same = ap (λ n. 7 + n) same

  pub same-turns : (g : Stage) (leaves : List Leaf) (a : State) → turns_at g (map change leaves) a ≡ turns_at g leaves a
  same-turns (stage.Fill call wanted) leaves a =
      same-named call wanted.leaf wanted.leaf leaves (map change leaves) ∙ waits call wanted.leaf leaves (map change leaves) (leaf_named wanted.leaf leaves) (same-further call wanted.leaf leaves)
  same-turns (stage.Publish call target) leaves a = ap (λ n. 6 + n) (same-further call target.leaf leaves)
  same-turns (stage.Validate call target) leaves a = ap (λ n. 5 + n) (same-further call target.leaf leaves)
  same-turns (stage.Look call target) leaves a = ap (λ n. 4 + n) (same-further call target.leaf leaves)
  same-turns (stage.Pass call target) leaves a = ap (λ n. 3 + n) (same-further call target.leaf leaves)
  same-turns _ leaves a = refl

framed-keeps : (id : ℕ) (frame : Option Framed) (l : Leaf) → (if l.id == id then in_frame frame l else l).id ≡ l.id
framed-keeps id frame l = elim (cases_Bool (l.id == id)) [ inl is ↦ rw is refl | inr isnt ↦ rw isnt refl ]

pub frames-keep : FramesKeep
frames-keep leaves id frame a = same-turns (λ l. if l.id == id then in_frame frame l else l) (framed-keeps id frame) a.stage leaves a
