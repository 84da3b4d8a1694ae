-- A leaf that is in no frame, and was not written since the opening, is on the device as it is on the shelf.
use Rattle.std.specs.Prelude.{◌≡◌, ℕ, ◌==◌, true, false, List, [], ◌∷◌, Option, Some, None, slice_get, refl}
use Rattle.std.specs.List.{Contains}
use Rattle.std.proofs.Common.{inl, inr, sym, ◌∙◌, ap, subst, append-nil}
use Rattle.std.proofs.lemmas.Bool.{cases_Bool, eqb-true, false≢true}
use Rattle.kv_model.specs.History.{Table}
use Rattle.kv_model.specs.Holds.{Member}
use Rattle.row_page.specs.Rows.{Row}
use Rattle.stored.specs.Stored.{Stored}
use Rattle.stored.specs.TableTree.{Entry, TableTree, root_entry}
use Rattle.stored.specs.Tree.{join}
use Rattle.device_leaf.specs.Leaves.{LeafIs}
use Rattle.tree_open.specs.declared.place.TreePlace.{TreePlace}
use Rattle.tree_dir.specs.declared.leaf.Leaf.{Leaf}
use Rattle.tree_dir.specs.Leaves.{leaf_named}
use Rattle.tree_write.specs.Drafts.{HasLeaves}
use Rattle.tree_write.specs.Writes.{LeadApart}
use Rattle.engine_world.specs.Stands.{Engine, Stands}
use Rattle.engine_world.specs.Worlds.{World}
use Rattle.engine.specs.Waits.{IsAway}
use Rattle.ckpt_step.specs.declared.ground.Ground.{Ground}
use Rattle.ckpt_step.specs.Floors.{AreLivesOn, Follows, IsOnDevice}
use Rattle.ckpt_step.specs.Grounds.{AreRoots, StandsOn}
use Rattle.ckpt_step.specs.Lives.{is_live}
use Rattle.ckpt_step.specs.Parts.{LieIn, has_rows, part_leaves, part_of}
use Rattle.ckpt_step.specs.Rooms.{Written, known_in}
use Rattle.ckpt_step.specs.Trees.{HasTreeAt}
use Rattle.ckpt_step.proofs.Behind.{part_has}
use Rattle.ckpt_step.proofs.Links.{some_rows}
use Rattle.ckpt_step.proofs.Members.{none_some, some_same}
use Rattle.ckpt_step.proofs.OldTrees.{leaves_apart, leaves_there, on_device}
use Rattle.ckpt_step.proofs.TableLeaves.{contains_of, once_of}
use Rattle.engine_store.specs.Loads.{ShelfIsOn}
use Rattle.engine_store.proofs.LowKeys.{lie_under}

-- ---- the leaf of an id

named : (id : ℕ) (leaves : List Leaf) (l : Leaf) → leaf_named id leaves ≡ Some l → Member l leaves × (l.id ≡ id)
named id [] l is = absurd (none_some is)
named id (x ∷ leaves) l is = elim (cases_Bool (x.id == id)) [
  | inl here ↦ let same : x ≡ l = some_same (rw here at is) in (inl (sym same), ap (λ (m : Leaf). m.id) (sym same) ∙ eqb-true x.id id here)
  | inr other ↦ let later = named id leaves l (rw other at is) in (inr later.0, later.1)
]

-- ---- the part of such a leaf

part_one : (written : Written) (l : Leaf) → written l.id ≡ None → has_rows l.entry.link ≡ true → part_of written l ≡ l.entry ∷ []
part_one written l none has = elim (cases_Bool (l.entry.link.greatest.id == 0)) [
  | inl is ↦ absurd (let clash : false ≡ true = rw is at has in cc)
  | inr isnt ↦ rw (none, isnt) refl
]

part_none : (written : Written) (l : Leaf) → written l.id ≡ None → has_rows l.entry.link ≡ false → part_of written l ≡ []
part_none written l none has = elim (cases_Bool (l.entry.link.greatest.id == 0)) [
  | inl is ↦ rw (none, is) refl
  | inr isnt ↦ absurd (let clash : true ≡ false = rw isnt at has in cc)
]

-- the rows of the only leaf of a part
one_leaf : (bytes : List ℕ) (place : TreePlace) (tree : TableTree) (e : Entry) → HasLeaves bytes (e ∷ []) (part_leaves place tree (e ∷ [])) → LeafIs bytes e.link (join (part_leaves place tree (e ∷ [])))
one_leaf bytes place tree e has = subst (λ (rows : List Row). LeafIs bytes e.link rows) (sym (append-nil _)) has.0.1

module _ (seen : List ℕ) (images : List ℕ → Type 0) (e : Engine) (g : Ground) (now : World) (stands : Stands e now) where
  abbrev written : Written
  written = known_in g.parts

  -- it is of a table whose tree the checkpoint has
  record IsInTree (old : Option Stored) (l : Leaf) (rows : List Row) : Type 0 where
    table : Table
    its : l.table ≡ table.number
    place : TreePlace
    tree : TableTree
    has : HasLeaves seen (part_of written l) (part_leaves place tree (part_of written l))
    lie : LieIn e.hub.dir.leaves table.number l (join (part_leaves place tree (part_of written l)))
    same : join (part_leaves place tree (part_of written l)) ≡ rows

  in_tree : (old : Option Stored) (w : World) (l : Leaf) → StandsOn seen images e.hub g old → Follows old e.hub g w → is_live g.lives l ≡ false → Contains e.hub.dir.leaves l → l.frame ≡ None → IsInTree old l (w.shelf l.id)
  in_tree old w l on follows dead there away = by_place (slice_get g.trees.items at) refl
    where
      owned : (place : ℕ) × (t : Table) × (slice_get e.hub.tables.tables place ≡ Some t) × (l.table ≡ t.number)
      owned = stands.owned l there

      at : ℕ
      at = owned.0

      t : Table
      t = owned.1

      by_old : (p : TreePlace) → slice_get g.trees.items at ≡ Some p → (o : Option Stored) → old ≡ o → IsInTree old l (w.shelf l.id)
      by_old p is None nothing = absurd (none_some (subst (λ (l : List TreePlace). slice_get l at ≡ Some p) (subst (λ (o : Option Stored). AreRoots e.hub.tables.tables g.lives e.hub.dir.leaves written g.trees.items o) nothing on.roots) is))
      by_old p is (Some s) some =
          let on_s = subst (λ (o : Option Stored). StandsOn seen images e.hub g o) some on in
          let tree = on_s.roots.trees at t p owned.2 is in
          let apart : LeadApart p.leaves.items = subst LeadApart (leaves_there g.trees.items at p is)
          (leaves_apart seen images g.place.blocks e.hub.tables.tables e.hub.tables.next stands.catalog.numbers g.lives e.hub.dir.leaves written g.trees.items (Some s) on_s.stands on_s.roots on_s.since.lone on_s.cells on_s.units at) in
          let there_tree = on_device seen images g.place.blocks e.hub.tables.tables e.hub.tables.next stands.catalog.numbers g.lives e.hub.dir.leaves written g.trees.items s on_s.stands on_s.roots on_s.since.lone on_s.cells on_s.units t p tree.0 tree.1 in
          record {
            table = t;
            its = owned.3;
            place = p;
            tree = tree.0;
            has = part_has g.lives e.hub.dir.leaves t.number written p tree.0 tree.1.1 apart tree.2 seen there_tree l there owned.3 dead;
            lie = (tree.2.parts l there owned.3 dead).lie;
            same = (follows.leaf at t p tree.0 l owned.2 is (subst (λ (o : Option Stored). HasTreeAt o t p tree.0) (sym some) tree.1) there owned.3 dead).same (inl away);
          }

      by_place : (o : Option TreePlace) → slice_get g.trees.items at ≡ o → IsInTree old l (w.shelf l.id)
      by_place None nowhere = absurd ((on.written.made_since at t l owned.2 nowhere there owned.3 dead).1 away)
      by_place (Some p) is = by_old p is old refl

  -- a leaf of the checkpoint's trees
  kept_on : (old : Option Stored) (w : World) (l : Leaf) → StandsOn seen images e.hub g old → Follows old e.hub g w → is_live g.lives l ≡ false → Contains e.hub.dir.leaves l → l.frame ≡ None → written l.id ≡ None → leaf_named l.id e.hub.dir.leaves ≡ Some l → ShelfIsOn seen e.hub.dir w.shelf l.id
  kept_on old w l on follows dead there away unwritten named =
      let x = in_tree old w l on follows dead there away in
      record {
        leaf = l;
        there = named;
        under = λ has.
            let part = part_one written l unwritten has in
            let joined : join (part_leaves x.place x.tree (l.entry ∷ [])) ≡ w.shelf l.id = ap (λ (p : List Entry). join (part_leaves x.place x.tree p)) (sym part) ∙ x.same in
            record {
              leaf = subst (λ (r : List Row). LeafIs seen l.entry.link r) joined (one_leaf seen x.place x.tree l.entry (subst (λ (p : List Entry). HasLeaves seen p (part_leaves x.place x.tree p)) part x.has));
              keys = lie_under x.table.number e.hub.dir.leaves l (w.shelf l.id) (once_of e.hub.dir.leaves stands.dir.once) (subst (λ (r : List Row). LieIn e.hub.dir.leaves x.table.number l r) x.same x.lie);
            };
        none = λ has. sym x.same ∙ ap (λ (p : List Entry). join (part_leaves x.place x.tree p)) (part_none written l unwritten has);
      }

  -- one that was written since
  since_on : (shelf : ℕ → List Row) (l : Leaf) → IsOnDevice seen e.hub.dir.leaves shelf l → leaf_named l.id e.hub.dir.leaves ≡ Some l → ShelfIsOn seen e.hub.dir shelf l.id
  since_on shelf l on named = record {
    leaf = l;
    there = named;
    under = λ has. record {
      leaf = on.on.0.1;
      keys = lie_under l.table e.hub.dir.leaves l (shelf l.id) (once_of e.hub.dir.leaves stands.dir.once) (subst (λ (r : List Row). LieIn e.hub.dir.leaves l.table l r) (append-nil (shelf l.id)) on.is.lie);
    };
    none = λ has. absurd (false≢true (sym has ∙ some_rows (root_entry l.entry.link) (shelf l.id) on.on.0.1.bears on.is.some.0));
  }

  pub shelf_on : (old : Option Stored) (w : World) (id : ℕ) → StandsOn seen images e.hub g old → Follows old e.hub g w → AreLivesOn seen e.hub g w → now.shelf ≡ w.shelf → IsAway e.hub.dir.leaves id → written id ≡ None → ShelfIsOn seen e.hub.dir now.shelf id
  shelf_on old w id on follows device shelf (l, there, away) none =
      subst (λ (s : ℕ → List Row). ShelfIsOn seen e.hub.dir s id) (sym shelf) (subst (λ (i : ℕ). ShelfIsOn seen e.hub.dir w.shelf i) own by_kind)
    where
      found : Member l e.hub.dir.leaves × (l.id ≡ id)
      found = named id e.hub.dir.leaves l there

      own : l.id ≡ id
      own = found.1

      among : Contains e.hub.dir.leaves l
      among = contains_of e.hub.dir.leaves l found.0

      its : leaf_named l.id e.hub.dir.leaves ≡ Some l
      its = ap (λ (i : ℕ). leaf_named i e.hub.dir.leaves) own ∙ there

      by_kind : ShelfIsOn seen e.hub.dir w.shelf l.id
      by_kind = elim (cases_Bool (is_live g.lives l)) [
        | inl live ↦ since_on w.shelf l (device l among live) its
        | inr dead ↦ kept_on old w l on follows dead among away (ap written own ∙ none) its
      ]
