-- What a checkpoint does with a leaf.
use Rattle.std.specs.Prelude.{◌≡◌, List, ◌∷◌, Option, Some, None, option_map, refl}
use Rattle.std.specs.List.{Contains}
use Rattle.std.proofs.Common.{inl, inr, sym, ◌∙◌, ap, subst}
use Rattle.call_steps.specs.declared.frame.Frame.{Frame}
use Rattle.engine_world.specs.Leaves.{frame_in}
use Rattle.engine_world.specs.Stands.{Engine}
use Rattle.kv_model.specs.Holds.{Member}
use Rattle.tree_dir.specs.declared.leaf.Framed.{Framed}
use Rattle.tree_dir.specs.declared.leaf.Leaf.{Leaf}
use Rattle.ckpt_step.specs.Steps.{IsUnloaded}
use Rattle.ckpt_step.proofs.Members.{none_some, some_same}
use Rattle.ckpt_step.proofs.TableLeaves.{contains_of, member_of}

-- a leaf whose frame is not there is in none
unloaded : (e : Engine) (l : Leaf) (framed : Framed) → l.frame ≡ Some framed → frame_in e.pieces framed.frame ≡ None → IsUnloaded e l
unloaded e l framed placed none w stands there = elim (stands.leaves l there) [
  | inr device ↦ device.none
  | inl loaded ↦
      let same : loaded.laid.framed ≡ framed = some_same (sym loaded.laid.placed ∙ placed) in
      absurd (none_some (sym none ∙ (ap (λ (f : Framed). frame_in e.pieces f.frame) (sym same) ∙ loaded.laid.there)))
]

framed_none : (o : Option Frame) → None ≡ option_map (λ (f : Frame). f.leaf) o → o ≡ None
framed_none None is = refl
framed_none (Some f) is = absurd (none_some is)

-- so where the engine gives none
pub unloaded_in : (e : Engine) (l : Leaf) (framed : Framed) → l.frame ≡ Some framed → None ≡ option_map (λ (f : Frame). f.leaf) (frame_in e.pieces framed.frame) → IsUnloaded e l
unloaded_in e l framed placed is = unloaded e l framed placed (framed_none (frame_in e.pieces framed.frame) is)

-- what is so of the first and of those behind it is so of each
pub each_more : (P : Leaf → Type 0) (first : Leaf) (rest : List Leaf) → P first → ((x : Leaf) → Contains rest x → P x) → (x : Leaf) → Contains (first ∷ rest) x → P x
each_more P first rest here later x there = by (member_of (first ∷ rest) x there)
  where
    by : Member x (first ∷ rest) → P x
    by (inl same) = subst P (sym same) here
    by (inr behind) = later x (contains_of rest x behind)
