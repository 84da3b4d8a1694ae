-- A leaf that was written out gave way: what there is of each leaf that there is then.
use Rattle.std.specs.Prelude.{◌≡◌, ℕ, true, false, List, [], ◌∷◌, Option, None, Some, slice_get, refl}
use Rattle.std.specs.List.{Contains}
use Rattle.std.proofs.Common.{inl, inr, sym, ◌∙◌, subst}
use Rattle.engine_world.specs.Worlds.{World}
use Rattle.kv_model.specs.History.{Table}
use Rattle.kv_model.specs.Holds.{Member}
use Rattle.row_page.specs.Rows.{Row}
use Rattle.stamp.specs.declared.Name.{Name}
use Rattle.stored.specs.Stored.{Stored}
use Rattle.stored.specs.TableTree.{Entry, TableTree}
use Rattle.stored.specs.Tree.{join}
use Rattle.tree_dir.specs.declared.leaf.Leaf.{Leaf}
use Rattle.tree_dir.specs.Leaves.{Directory}
use Rattle.tree_open.specs.declared.place.TreePlace.{TreePlace}
use Rattle.tree_write.specs.Drafts.{HasLeaves}
use Rattle.ckpt_step.specs.Floors.{AreNewestBefore, AreOnDevice, FollowsFrom, IsLeafBefore}
use Rattle.ckpt_step.specs.Lives.{is_live}
use Rattle.ckpt_step.specs.Parts.{AreBelowFloor, IsPart, has_rows, part_in, part_leaves, part_of}
use Rattle.ckpt_step.specs.Rooms.{Written}
use Rattle.ckpt_step.specs.Trees.{HasTreeAt}
use Rattle.ckpt_step.specs.declared.lives.Lone.{Lone}
use Rattle.ckpt_step.proofs.GivingLeaves.{below_next, under_was}
use Rattle.ckpt_step.proofs.GivingParts.{part_still}
use Rattle.ckpt_step.proofs.Members.{some_same}
use Rattle.ckpt_step.proofs.OutLives.{IsOut, dead_stays, giving, live_same, news, none_new, over, same_had, same_part}
use Rattle.ckpt_step.proofs.OutShelf.{AreImagesOut, new_before, one_has, one_part, rows_of, shelf_new, shelf_old, shelf_out}
use Rattle.ckpt_step.proofs.UnderMade.{made_entry}
use Rattle.ckpt_step.proofs.WithParts.{in_alike, lies_alike, own_some}

module _ (d n : Directory) (l : Leaf) (entries : List Entry) (ids : List ℕ) (had has : Written) (lives next : List Lone) (o : IsOut d n l entries ids had has lives next) (seen : List ℕ) (w : World) (images : List (List Row)) (own : AreImagesOut seen w.machine d.leaves l entries images)
    (rows : (e : Entry) → Member e entries → has_rows e.link ≡ true) where
  abbrev shelf : ℕ → List Row
  shelf = shelf_out d n l entries ids had has lives next o seen w.machine images own w.shelf

  shelf_same : (x : Leaf) → Contains d.leaves x → shelf x.id ≡ w.shelf x.id
  shelf_same x c = shelf_old d n l entries ids had has lives next o seen w.machine images own w.shelf x.id (below_next d n l entries ids (over d n l entries ids had has lives next o) has (giving d n l entries ids had has lives next o) x c)

  -- ---- before a floor

  module _ (floor : Name) where
    -- a leaf that stays
    stayed : (table : ℕ) (x : Leaf) (had_rows : List Row) → Contains d.leaves x → Contains n.leaves x → (x.id ≡ l.id → ⊥) → IsLeafBefore w.machine w.shelf floor d.leaves had table x had_rows → IsLeafBefore w.machine shelf floor n.leaves has table x had_rows
    stayed table x had_rows c now other was = record {
      before = λ part is below key under. was.before part (sym (same_had d n l entries ids had has lives next o x now) ∙ is) below key (under_was d n l entries ids (over d n l entries ids had has lives next o) has (giving d n l entries ids had has lives next o) table key x c under);
      same = λ lies. was.same (lies_alike had has x (sym (o.others x.id other)) lies) ∙ sym (shelf_same x c);
    }

    -- a new one has what its entry leads to
    new_part : (x : Leaf) → Contains (news d n l entries ids had has lives next o) x → part_in has x ≡ Some (x.entry ∷ [])
    new_part x c = in_alike has (λ id. None) x (none_new d n l entries ids had has lives next o x c) ∙ own_some x.entry (rows x.entry (made_entry l.table ids entries x c))

    came : (x : Leaf) → Contains (news d n l entries ids had has lives next o) x → IsLeafBefore w.machine shelf floor n.leaves has x.table x (shelf x.id)
    came x c = record {
      before = λ part is below key under.
          let its = (o.stand.own x c).0 in
          let here : x.entry ∷ [] ≡ part = some_same (sym (new_part x c) ∙ is) in
          let newest = new_before d n l entries ids had has lives next o seen w.machine images own floor x c (subst (λ (es : List Entry). AreBelowFloor floor es) (sym here) below) in
          subst (λ (rows : List Row). AreNewestBefore w.machine floor n.leaves x.table x rows) (sym (shelf_new d n l entries ids had has lives next o seen w.machine images own w.shelf x c)) (subst (λ (t : ℕ). AreNewestBefore w.machine floor n.leaves t x (rows_of d n l entries ids had has lives next o seen w.machine images own x.entry)) (sym its) newest) key under;
      same = λ lies. refl;
    }

    leaf_out : (old : Option Stored) (known : List Table) (places : List TreePlace) → FollowsFrom old known lives d.leaves had places floor w → (i : ℕ) (t : Table) (p : TreePlace) (tree : TableTree) (x : Leaf) → slice_get known i ≡ Some t → slice_get places i ≡ Some p → HasTreeAt old t p tree → Contains n.leaves x → x.table ≡ t.number → is_live next x ≡ false
        → IsLeafBefore w.machine shelf floor n.leaves has t.number x (join (part_leaves p tree (part_of has x)))
    leaf_out old known places follows i t p tree x at stands there c its dead =
        let was = dead_stays d n l entries ids had has lives next o x c dead in
        subst (λ (part : List Entry). IsLeafBefore w.machine shelf floor n.leaves has t.number x (join (part_leaves p tree part))) (sym (same_part d n l entries ids had has lives next o x c))
        (stayed t.number x (join (part_leaves p tree (part_of had x))) was.0 c was.1 (follows.leaf i t p tree x at stands there was.0 its was.2))

    pub follows_out : (old : Option Stored) (known : List Table) (places : List TreePlace) → FollowsFrom old known lives d.leaves had places floor w → FollowsFrom old known next n.leaves has places floor (record w { shelf = shelf })
    follows_out old known places follows = record {
      respects = follows.respects;
      leaf = leaf_out old known places follows;
      since = λ x c live. elim (o.stand.members x c) [
        | inl was ↦ subst (λ (rows : List Row). IsLeafBefore w.machine shelf floor n.leaves has x.table x rows) (sym (shelf_same x was.0)) (stayed x.table x (w.shelf x.id) was.0 c was.1 (follows.since x was.0 (sym (live_same d n l entries ids had has lives next o x was.0) ∙ live)))
        | inr new ↦ came x new
      ];
    }

  -- ---- on the device

  pub device_out : AreOnDevice seen lives d.leaves w.shelf → AreOnDevice seen next n.leaves shelf
  device_out device x c live = elim (o.stand.members x c) [
    | inl was ↦
        let one = device x was.0 (sym (live_same d n l entries ids had has lives next o x was.0) ∙ live) in
        record {
          is = subst (λ (rows : List Row). IsPart n.leaves x.table x (x.entry ∷ []) (rows ∷ [])) (sym (shelf_same x was.0))
              (part_still d n l entries ids (over d n l entries ids had has lives next o) has (giving d n l entries ids had has lives next o) x.table x was.1 (x.entry ∷ []) (w.shelf x.id ∷ []) one.is);
          on = subst (λ (rows : List Row). HasLeaves seen (x.entry ∷ []) (rows ∷ [])) (sym (shelf_same x was.0)) one.on;
        }
    | inr new ↦
        let is = shelf_new d n l entries ids had has lives next o seen w.machine images own w.shelf x new in
        record {
          is = subst (λ (t : ℕ). IsPart n.leaves t x (x.entry ∷ []) (shelf x.id ∷ [])) (sym (o.stand.own x new).0)
              (subst (λ (rows : List Row). IsPart n.leaves l.table x (x.entry ∷ []) (rows ∷ [])) (sym is) (one_part d n l entries ids had has lives next o seen w.machine images own x new));
          on = subst (λ (rows : List Row). HasLeaves seen (x.entry ∷ []) (rows ∷ [])) (sym is) (one_has d n l entries ids had has lives next o seen w.machine images own x new);
        }
  ]
