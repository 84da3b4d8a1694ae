-- A leaf gave way to entries: the shelf with the rows of its new leaves.
use Rattle.std.proofs.Common.{inl, inr, ◌≡◌, ◌∙◌, ◌<◌, ◌≤◌, ℕ, true, false, List, [], ◌∷◌, Option, Some, None, refl, ap, sym, subst}
use Rattle.std.specs.Prelude.{IfSome, if◌then◌else◌, nat_lt, option_map}
use Rattle.std.specs.List.{Contains}
use Rattle.std.proofs.lemmas.Bool.{le-ltb, lt-ltb}
use Rattle.engine_world.specs.GivingWay.{IsShelved}
use Rattle.kv_model.specs.AgreementLaws.{head_of}
use Rattle.kv_model.specs.History.{line}
use Rattle.kv_model.specs.Machine.{Machine, of_some}
use Rattle.leaf_rows.specs.Rows.{version_at}
use Rattle.recover_open.specs.Bare.{tree_rows}
use Rattle.row_page.specs.Changes.{PageChange, version_in}
use Rattle.row_page.specs.Rows.{Row}
use Rattle.reconcile.specs.Shows.{shown_at}
use Rattle.stamp.specs.declared.Name.{Name}
use Rattle.stamp.specs.declared.Version.{Version}
use Rattle.stored.specs.TableTree.{Entry, TableTree}
use Rattle.stored.specs.Tree.{join}
use Rattle.tree_dir.proofs.Parting.{ids-name}
use Rattle.tree_dir.specs.declared.leaf.Leaf.{Leaf}
use Rattle.tree_dir.specs.Leaves.{Directory, leaf_named, leaf_under}
use Rattle.tree_open.specs.Trees.{HasTree, IsPlaceOf}
use Rattle.tree_open.specs.declared.place.TreePlace.{TreePlace}
use Rattle.tree_write.specs.Writes.{LeadApart}
use Rattle.ckpt_step.specs.Floors.{AreNewestBefore, AreNewestIn}
use Rattle.ckpt_step.specs.Giving.{AreDurableAt}
use Rattle.ckpt_step.specs.Lives.{NoneLive, is_live}
use Rattle.ckpt_step.specs.Parts.{AreBelowFloor, IsParted, part_leaves, part_of}
use Rattle.ckpt_step.specs.Rooms.{Written}
use Rattle.ckpt_step.specs.declared.lives.Lone.{Lone}
use Rattle.ckpt_step.proofs.Behind.{part_has}
use Rattle.ckpt_step.proofs.CleanTrees.{newest_under}
use Rattle.ckpt_step.proofs.GivingLeaves.{IsGiving, made}
use Rattle.ckpt_step.proofs.GivingParts.{one_entry, parted_own}
use Rattle.ckpt_step.proofs.Members.{all_of}
use Rattle.ckpt_step.proofs.PartNames.{part_low, part_newest, shown_lies}
use Rattle.ckpt_step.proofs.PartStamps.{durable_part, shown_durable}
use Rattle.ckpt_step.proofs.UnderMade.{made_entry}

-- The device has the tree of a table, of the parts of these leaves, of which none was written since, and that has the newest version of each key.
pub record IsTreeOf (seen : List ℕ) (m : Machine) (lives : List Lone) (leaves : List Leaf) (table : ℕ) (had : Written) (place : TreePlace) (tree : TableTree) : Type 0 where
  pub has : HasTree seen place.root tree
  pub is : IsPlaceOf place tree
  pub apart : LeadApart place.leaves.items
  pub parted : IsParted lives leaves table had place tree
  pub none : NoneLive lives leaves table
  pub newest : (key : List ℕ) → head_of (line m.history table key) ≡ shown_at key (tree_rows tree)

module _ (d n : Directory) (l : Leaf) (entries : List Entry) (ids : List ℕ) (had has : Written) (g : IsGiving d n l entries ids had has) (seen : List ℕ) (m : Machine) (lives : List Lone) (place : TreePlace) (tree : TableTree) (own : IsTreeOf seen m lives d.leaves l.table had place tree) where
  abbrev pub rows_of : Leaf → List Row
  rows_of x = join (part_leaves place tree (part_of has x))

  -- of a new leaf the rows to which its entry leads, of any other what there was
  abbrev pub shelf_then : (ℕ → List Row) → ℕ → List Row
  shelf_then before id = if nat_lt id d.next then before id else of_some [] rows_of (leaf_named id n.leaves)

  pub shelf_old : (before : ℕ → List Row) (id : ℕ) → id < d.next → shelf_then before id ≡ before id
  shelf_old before id lt = let is : nat_lt id d.next ≡ true = lt-ltb id d.next lt in rw is refl

  pub shelf_new : (before : ℕ → List Row) (x : Leaf) → Contains (made d n l entries ids had has g) x → shelf_then before x.id ≡ rows_of x
  shelf_new before x c =
      let isnt : nat_lt x.id d.next ≡ false = le-ltb x.id d.next (g.stand.later x c) in
      rw isnt (ap (λ (o : Option Leaf). of_some [] rows_of o) (ids-name n g.now x (g.stand.news x c)))

  -- ---- what they show

  module _ (dead : (x : Leaf) → Contains (made d n l entries ids had has g) x → is_live lives x ≡ false) where
    parted : IsParted lives n.leaves l.table has place tree
    parted = parted_own d n l entries ids had has g lives place tree own.parted own.none

    none_now : NoneLive lives n.leaves l.table
    none_now x c its = elim (g.stand.members x c) [ inl old ↦ own.none x old.0 its | inr new ↦ dead x new ]

    new_newest : (x : Leaf) → Contains (made d n l entries ids had has g) x → AreNewestIn m n.leaves l.table x (rows_of x)
    new_newest x c = part_newest seen lives n.leaves l.table has place tree own.has own.is own.apart parted none_now m x (g.stand.news x c) (g.stand.own x c).0 own.newest

    -- nothing of keys that do not lie in the leaf
    new_bare : (x : Leaf) (key : List ℕ) → Contains (made d n l entries ids had has g) x → (leaf_under l.table key n.leaves ≡ Some x → ⊥) → shown_at key (rows_of x) ≡ None
    new_bare x key c away = by (version_at key (rows_of x)) refl
      where
        by : (o : Option (Version PageChange)) → version_at key (rows_of x) ≡ o → shown_at key (rows_of x) ≡ None
        by None is = ap (λ (o : Option (Version PageChange)). option_map version_in o) is
        by (Some v) is = absurd (away (shown_lies n.leaves l.table x key (rows_of x) v (parted.parts x (g.stand.news x c) (g.stand.own x c).0 (dead x c)).lie is))

    new_durable : (oldest : ℕ) (x : Leaf) (key : List ℕ) → AreDurableAt oldest entries → Contains (made d n l entries ids had has g) x → IfSome (shown_at key (rows_of x)) (λ v. v.window.durable ≤ oldest)
    new_durable oldest x key durable c =
        let entry : part_of has x ≡ x.entry ∷ [] = one_entry d n l entries ids had has g lives place tree own.parted own.none x c in
        let each : x.entry.link.durable ≤ oldest = all_of (λ (e : Entry). e.link.durable ≤ oldest) entries x.entry durable (made_entry l.table ids entries x c) in
        shown_durable oldest key (rows_of x) (durable_part seen oldest (part_of has x) (part_leaves place tree (part_of has x))
        (part_has lives n.leaves l.table has place tree own.is own.apart parted seen own.has x (g.stand.news x c) (g.stand.own x c).0 (dead x c))
        (subst (λ (es : List Entry). AreDurableAt oldest es) (sym entry) (each, tt)))

    -- where all its names are below a floor it has the newest before that
    pub new_before : (floor : Name) (x : Leaf) → Contains (made d n l entries ids had has g) x → AreBelowFloor floor (part_of has x) → AreNewestBefore m floor n.leaves l.table x (rows_of x)
    new_before floor x c below =
        let there = g.stand.news x c in
        let its = (g.stand.own x c).0 in
        newest_under m l.table n.leaves x floor (rows_of x) (parted.parts x there its (dead x c)).rows_fit
        (part_low seen lives n.leaves l.table has place tree own.has own.is own.apart parted floor x there its (dead x c) below) (new_newest x c)

    pub shelved : (before : ℕ → List Row) → AreDurableAt m.oldest entries → IsShelved m d n (made d n l entries ids had has g) before (shelf_then before)
    shelved before durable = record {
      others = λ id lt. shelf_old before id lt;
      newest = λ x c key under.
          let its = (g.stand.own x c).0 in
          ap (λ (t : ℕ). head_of (line m.history t key)) its
          ∙ (new_newest x c key (ap (λ (t : ℕ). leaf_under t key n.leaves) (sym its) ∙ under) ∙ ap (λ (rows : List Row). shown_at key rows) (sym (shelf_new before x c)));
      bare = λ x c key away.
          ap (λ (rows : List Row). shown_at key rows) (shelf_new before x c)
          ∙ new_bare x key c (λ under. away (ap (λ (t : ℕ). leaf_under t key n.leaves) (g.stand.own x c).0 ∙ under));
      durable = λ x c key. subst (λ (rows : List Row). IfSome (shown_at key rows) (λ v. v.window.durable ≤ m.oldest)) (sym (shelf_new before x c)) (new_durable m.oldest x key durable c);
    }
