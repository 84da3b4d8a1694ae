-- A table each of whose leaves is kept has the tree of the checkpoint before.
use Rattle.std.specs.Prelude.{◌≡◌, ℕ, false, List, [], ◌∷◌, map, Option, Some, slice_get, refl}
use Rattle.std.specs.List.{AllByRecursion, Contains}
use Rattle.std.proofs.Common.{inl, inr, sym, subst}
use Rattle.stamp.specs.declared.Name.{Name}
use Rattle.kv_model.specs.Holds.{Member}
use Rattle.kv_model.specs.History.{Table}
use Rattle.row_page.specs.Rows.{Row}
use Rattle.leaf_rows.specs.Rows.{AreFit}
use Rattle.snapshot.specs.Sight.{Sight}
use Rattle.stored.specs.Stored.{Stored}
use Rattle.stored.specs.TableTree.{TableTree}
use Rattle.stored.specs.Tree.{join}
use Rattle.checkpoint_core.specs.Stands.{HasStill}
use Rattle.tree_dir.specs.declared.leaf.Leaf.{Leaf}
use Rattle.tree_dir.specs.Leaves.{leaves_of}
use Rattle.tree_open.specs.declared.place.TreePlace.{TreePlace}
use Rattle.tree_write.specs.Writes.{LeadApart}
use Rattle.engine_world.specs.Stands.{Engine}
use Rattle.ckpt_content.specs.Finished.{tables_then}
use Rattle.ckpt_step.specs.Floors.{FollowsFrom}
use Rattle.ckpt_step.specs.Goings.{HasPartsAt}
use Rattle.ckpt_step.specs.Lives.{NoneLive, is_live}
use Rattle.ckpt_step.specs.Moments.{AreServedIn, IsMoment, Moment, RowsServe}
use Rattle.ckpt_step.specs.Parts.{ArePartedBy, IsPart, IsParted, part_leaves, part_of}
use Rattle.ckpt_step.specs.Rooms.{Written}
use Rattle.ckpt_step.specs.Sizes.{AreServedOf}
use Rattle.ckpt_step.specs.Steps.{IsKept}
use Rattle.ckpt_step.specs.Stills.{IsStill}
use Rattle.ckpt_step.specs.Trees.{HasTreeAt, leaves_at}
use Rattle.ckpt_step.specs.declared.lives.Lone.{Lone}
use Rattle.ckpt_step.proofs.TakenLeaves.{kept_serve}
use Rattle.ckpt_step.proofs.OldTrees.{leaves_there}
use Rattle.ckpt_step.proofs.Behind.{rows_by_parts}
use Rattle.ckpt_step.proofs.PartRows.{rows_of_parts}
use Rattle.ckpt_step.proofs.StillTrees.{is_place, on_still}
use Rattle.ckpt_step.proofs.TableLeaves.{contains_of, in_table, member_of, once_of, table_in}

module _ (e : Engine) (s : Sight) (floor : Name) (n : Moment) (moment : IsMoment e s floor n) (had : Written) (was : List TreePlace) (t : Table) (stood : Member t (tables_then n.world.machine n.checkpoint)) (i : ℕ) (known_at : slice_get e.hub.tables.tables i ≡ Some t)
    (old : Option Stored) (bytes : List ℕ) (still : HasStill old bytes) (apart : LeadApart (leaves_at was i)) (lives : List Lone) (has : HasPartsAt old lives e.hub.dir.leaves had was t i) (follows : FollowsFrom old e.hub.tables.tables lives e.hub.dir.leaves had was floor n.world)
    (kept : (l : Leaf) → Contains (leaves_of t.number e.hub.dir.leaves) l → (is_live lives l ≡ false) × IsKept e had floor l) (place : TreePlace) (at : slice_get was i ≡ Some place) where
  abbrev leaves : List Leaf
  leaves = e.hub.dir.leaves

  abbrev tree : TableTree
  tree = (has.tree place at).0

  tree_at : HasTreeAt old t place tree
  tree_at = (has.tree place at).1

  -- none was written since
  none_live : NoneLive lives leaves t.number
  none_live l there own = (kept l (contains_of (leaves_of t.number leaves) l (table_in t.number leaves l (member_of leaves l there) own))).0

  own_parted : IsParted lives leaves t.number had place tree
  own_parted = (has.tree place at).2

  parted : IsParted [] leaves t.number had place tree
  parted = record {
    joined = λ none_too. own_parted.joined none_live;
    among = λ l there own dead. own_parted.among l there own (none_live l there own);
    parts = λ l there own dead. own_parted.parts l there own (none_live l there own);
  }

  abbrev images_of : Leaf → List (List Row)
  images_of l = part_leaves place tree (part_of had l)

  part_in : (l : Leaf) → Member l (leaves_of t.number leaves) → IsPart leaves t.number l (part_of had l) (images_of l)
  part_in l among = let in_it = in_table t.number leaves l among in parted.parts l (contains_of leaves l in_it.0) in_it.1 refl

  serve_in : (l : Leaf) → Member l (leaves_of t.number leaves) → AreServedIn n leaves t.number l (join (images_of l))
  serve_in l among =
      let in_it = in_table t.number leaves l among in
      let there = contains_of leaves l in_it.0 in
      kept_serve e s floor n moment had t stood l there in_it.1 (join (images_of l)) (kept l (contains_of (leaves_of t.number leaves) l among)).1 (follows.leaf i t place tree l known_at at tree_at there in_it.1 (none_live l there in_it.1))

  fit_in : (some : List Leaf) → ((l : Leaf) → Member l some → Member l (leaves_of t.number leaves)) → AllByRecursion (λ (images : List (List Row)). AreFit (join images)) (map images_of some)
  fit_in [] within = tt
  fit_in (l ∷ some) within = ((part_in l (within l (inl refl))).rows_fit, fit_in some (λ x later. within x (inr later)))

  lie_in : (some : List Leaf) → ((l : Leaf) → Member l some → Member l (leaves_of t.number leaves)) → ArePartedBy leaves t.number some (map images_of some)
  lie_in [] within = tt
  lie_in (l ∷ some) within = ((part_in l (within l (inl refl))).lie, lie_in some (λ x later. within x (inr later)))

  all_serve : (some : List Leaf) → ((l : Leaf) → Member l some → Member l (leaves_of t.number leaves)) → AreServedOf n leaves t.number some (map images_of some)
  all_serve [] within = tt
  all_serve (l ∷ some) within = (serve_in l (within l (inl refl)), all_serve some (λ x later. within x (inr later)))

  pub still_table : IsStill old lives leaves had n t place
  still_table =
      let l = moment.stands.begun i t known_at in
      let own = leaves_of t.number leaves in
      let rows = rows_of_parts n t leaves l.0 (map images_of own) (once_of leaves moment.stands.dir.once) moment.stands.dir.begins (member_of leaves l.0 l.1) l.2 (lie_in own (λ x there. there)) (fit_in own (λ x there. there)) (all_serve own (λ x there. there)) in
      let whole = rows_by_parts [] leaves t.number had place tree (is_place old t place tree tree_at) (subst LeadApart (leaves_there was i place at) apart) parted (λ l there own. refl) (on_still old bytes t place tree still tree_at).is in
      record { tree = tree; has = tree_at; none = none_live; parted = parted; is = subst (λ (m : List Row). RowsServe n t m) (sym whole) rows }
