-- What there is of a leaf for the next checkpoint: the images of its part.
use Rattle.std.specs.Prelude.{◌≡◌, ◌⊎◌, ℕ, true, false, List, [], ◌∷◌, Option, None, Some, slice_get}
use Rattle.std.specs.List.{Contains}
use Rattle.std.proofs.Common.{inl, inr, sym, ◌∙◌, ap, subst}
use Rattle.std.proofs.lemmas.Bool.{cases_Bool}
use Rattle.std.proofs.lemmas.List.{append-nil}
use Rattle.stamp.specs.declared.Name.{Name}
use Rattle.kv_model.specs.History.{Table}
use Rattle.kv_model.specs.Machine.{of_some}
use Rattle.row_page.specs.Rows.{Row}
use Rattle.stored.specs.Stored.{Stored}
use Rattle.stored.specs.TableTree.{Entry, root_entry}
use Rattle.stored.specs.Tree.{join}
use Rattle.checkpoint_core.specs.Stands.{HasStill}
use Rattle.tree_dir.specs.declared.leaf.Leaf.{Leaf}
use Rattle.tree_open.specs.declared.place.TreePlace.{TreePlace}
use Rattle.tree_write.specs.Drafts.{HasLeaves}
use Rattle.tree_write.specs.Writes.{LeadApart}
use Rattle.engine_world.specs.Worlds.{World}
use Rattle.ckpt_step.specs.Floors.{AreOnDevice, FollowsFrom, IsLeafBefore, IsOnDevice}
use Rattle.ckpt_step.specs.Goings.{HasPartsAt}
use Rattle.ckpt_step.specs.Lives.{is_live}
use Rattle.ckpt_step.specs.Parts.{IsPart, part_in, part_leaves, part_of}
use Rattle.ckpt_step.specs.Rooms.{Written}
use Rattle.ckpt_step.specs.Trees.{leaves_at}
use Rattle.ckpt_step.specs.declared.lives.Lone.{Lone}
use Rattle.ckpt_step.proofs.Behind.{part_has}
use Rattle.ckpt_step.proofs.Links.{some_rows}
use Rattle.ckpt_step.proofs.OldParts.{HasNoPart, HasPart, part_at}
use Rattle.ckpt_step.proofs.OldTrees.{leaves_there}
use Rattle.ckpt_step.proofs.StillTrees.{is_place, on_still}
use Rattle.ckpt_step.proofs.WithParts.{in_alike, own_some}

-- They are on the device, and where the leaf is as it was, its rows are the newest.
pub record HasImages (seen : List ℕ) (leaves : List Leaf) (table : ℕ) (had : Written) (w : World) (floor : Name) (l : Leaf) (images : List (List Row)) : Type 0 where
  pub is : IsPart leaves table l (part_of had l) images
  pub on : HasLeaves seen (part_of had l) images
  pub before : IsLeafBefore w.machine w.shelf floor leaves had table l (join images)

-- a leaf that was written since has what its entry leads to
pub since_part : (seen : List ℕ) (leaves : List Leaf) (shelf : ℕ → List Row) (had : Written) (l : Leaf) → had l.id ≡ None → IsOnDevice seen leaves shelf l → part_in had l ≡ Some (l.entry ∷ [])
since_part seen leaves shelf had l none on = in_alike had (λ id. None) l none ∙ own_some l.entry (some_rows (root_entry l.entry.link) (shelf l.id) on.on.0.1.bears on.is.some.0)

module _ (seen : List ℕ) (old : Option Stored) (known : List Table) (lives : List Lone) (leaves : List Leaf) (had : Written) (was : List TreePlace) (floor : Name) (w : World) (t : Table) (i : ℕ) (known_at : slice_get known i ≡ Some t)
    (still : HasStill old seen) (apart : LeadApart (leaves_at was i)) (parts : HasPartsAt old lives leaves had was t i) (follows : FollowsFrom old known lives leaves had was floor w) (on : AreOnDevice seen lives leaves w.shelf) (l : Leaf) (there : Contains leaves l) (own : l.table ≡ t.number) where
  of_tree : (one : HasPart old lives leaves had was t i) → is_live lives l ≡ false → HasImages seen leaves t.number had w floor l (part_leaves one.place one.tree (part_of had l))
  of_tree one dead = record {
    is = one.parted.parts l there own dead;
    on = part_has lives leaves t.number had one.place one.tree (is_place old t one.place one.tree one.has) (subst LeadApart (leaves_there was i one.place one.at) apart) one.parted seen (on_still old seen t one.place one.tree still one.has) l there own dead;
    before = follows.leaf i t one.place one.tree l known_at one.at one.has there own dead;
  }

  of_since : is_live lives l ≡ true → HasImages seen leaves t.number had w floor l (w.shelf l.id ∷ [])
  of_since live =
      let device = on l there live in
      let found = since_part seen leaves w.shelf had l (parts.since l there live).none device in
      let part : part_of had l ≡ l.entry ∷ [] = ap (λ (o : Option (List Entry)). of_some [] (λ (es : List Entry). es) o) found in
      record {
        is = subst (λ (es : List Entry). IsPart leaves t.number l es (w.shelf l.id ∷ [])) (sym part) (subst (λ (n : ℕ). IsPart leaves n l (l.entry ∷ []) (w.shelf l.id ∷ [])) own device.is);
        on = subst (λ (es : List Entry). HasLeaves seen es (w.shelf l.id ∷ [])) (sym part) device.on;
        before = subst (λ (rows : List Row). IsLeafBefore w.machine w.shelf floor leaves had t.number l rows) (sym (append-nil (w.shelf l.id))) (subst (λ (n : ℕ). IsLeafBefore w.machine w.shelf floor leaves had n l (w.shelf l.id)) own (follows.since l there live));
      }

  -- it has some, or no part
  pub leaf_images : ((images : List (List Row)) × HasImages seen leaves t.number had w floor l images) ⊎ HasNoPart had l
  leaf_images = elim (cases_Bool (is_live lives l)) [
    | inl live ↦ inl (w.shelf l.id ∷ [], of_since live)
    | inr dead ↦ elim (part_at old lives leaves had was t i l parts there own dead) [
      | inl one ↦ inl (part_leaves one.place one.tree (part_of had l), of_tree one dead)
      | inr none ↦ inr none
    ]
  ]
