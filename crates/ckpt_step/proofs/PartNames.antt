-- The names and the newest versions in the rows of a part of a tree.
use Rattle.std.specs.Prelude.{◌≡◌, ℕ, ◌==◌, true, false, List, [], ◌∷◌, ◌++◌, map, Option, Some, None, option_map, refl}
use Rattle.std.specs.List.{Contains}
use Rattle.std.specs.Prelude.{bytes_eq}
use Rattle.std.proofs.Common.{inl, inr, sym, ◌∙◌, ap, subst, append_assoc}
use Rattle.std.proofs.lemmas.Bool.{cases_Bool, eq-eqb, eqb-true, false≢true}
use Rattle.std.proofs.lemmas.Slice.Eq.{bytes_eq-Decides}
use Rattle.device_layout.specs.declared.link.Link.{Link}
use Rattle.kv_model.specs.AgreementLaws.{head_of}
use Rattle.kv_model.specs.History.{line}
use Rattle.kv_model.specs.Holds.{Member}
use Rattle.kv_model.specs.Machine.{Machine}
use Rattle.leaf_rows.specs.Rows.{version_at}
use Rattle.row_page.specs.Changes.{PageChange, version_in}
use Rattle.row_page.specs.Rows.{Row}
use Rattle.reconcile.specs.Shows.{shown_at}
use Rattle.snapshot.specs.Past.{is_below}
use Rattle.stamp.specs.declared.Name.{Name}
use Rattle.stamp.specs.declared.Version.{Version}
use Rattle.stored.specs.TableTree.{Entry, TableTree, table_kind}
use Rattle.stored.specs.Tree.{AllBear, bottom, join}
use Rattle.recover_open.specs.Bare.{tree_rows}
use Rattle.tree_dir.specs.declared.leaf.Leaf.{Leaf}
use Rattle.tree_dir.specs.Leaves.{leaf_under, leaves_of}
use Rattle.tree_open.specs.Trees.{HasTree, IsPlaceOf, root_own}
use Rattle.tree_open.specs.declared.place.TreePlace.{TreePlace}
use Rattle.tree_write.specs.Steps.{links_in}
use Rattle.tree_write.specs.Writes.{LeadApart}
use Rattle.ckpt_step.specs.Floors.{AreNewestIn}
use Rattle.ckpt_step.specs.Parts.{AreBelowFloor, IsParted, LieIn, has_rows, part_leaves, part_of, rows_behind}
use Rattle.ckpt_step.specs.Lives.{NoneLive, is_live}
use Rattle.ckpt_step.specs.Rooms.{Written}
use Rattle.ckpt_step.specs.declared.lives.Lone.{Lone}
use Rattle.ckpt_step.proofs.Below.{RowsLow, joined_low, low_rows}
use Rattle.ckpt_step.proofs.GoingLeaves.{there_of}
use Rattle.ckpt_step.proofs.Members.{all_of, none_some, some_same}
use Rattle.ckpt_step.proofs.Behind.{rows_by_parts}
use Rattle.ckpt_step.proofs.TableLeaves.{contains_of, in_table, member_of}

-- ---- names below a floor

-- a link of a tree that leads to rows leads somewhere
stored : (own : List Entry) (leaves : List (List Row)) (link : Link) → AllBear table_kind own leaves → Member link (links_in own) → has_rows link ≡ true → link.addr.offset ≡ 0 → ⊥
stored [] leaves link bear there has zero = there
stored (x ∷ own) [] link bear there has zero = absurd bear
stored (x ∷ own) (rows ∷ leaves) link bear (inl same) has zero =
    let none = bear.0.empty (eq-eqb x.link.addr.offset 0 (ap (λ (l : Link). l.addr.offset) (sym same) ∙ zero)) in
    false≢true (ap has_rows (sym (same ∙ none.0)) ∙ has)
stored (x ∷ own) (rows ∷ leaves) link bear (inr later) has zero = stored own leaves link bear.1 later has zero

module _ (floor : Name) where
  -- the names of the rows to which it leads are those that it says
  said : (own : List Entry) (leaves : List (List Row)) (link : Link) → AllBear table_kind own leaves → LeadApart (links_in own) → Member link (links_in own) → has_rows link ≡ true → is_below link.greatest floor ≡ true → RowsLow floor (rows_behind (links_in own) leaves link)
  said [] leaves link bear apart there has below = absurd there
  said (x ∷ own) [] link bear apart there has below = absurd bear
  said (x ∷ own) (rows ∷ leaves) link bear apart there has below = elim (cases_Bool (x.link.addr.offset == link.addr.offset)) [
    | inl is ↦ rw is (here there (eqb-true x.link.addr.offset link.addr.offset is))
    | inr isnt ↦ rw isnt (elim there [
      | inl same ↦ absurd (false≢true (sym isnt ∙ eq-eqb x.link.addr.offset link.addr.offset (ap (λ (l : Link). l.addr.offset) (sym same))))
      | inr later ↦ said own leaves link bear.1 apart.1 later has below
    ])
  ]
    where
      here : Member link (links_in (x ∷ own)) → x.link.addr.offset ≡ link.addr.offset → RowsLow floor rows
      here (inl same) at = low_rows floor rows (subst (λ (n : Name). is_below n floor ≡ true) bear.0.says.greatest (subst (λ (l : Link). is_below l.greatest floor ≡ true) same below))
      here (inr later) at = elim apart.0 [
        | inl zero ↦ absurd (stored own leaves link bear.1 later has (sym at ∙ zero))
        | inr others ↦ absurd (all_of (λ (l : Link). l.addr.offset ≡ x.link.addr.offset → ⊥) (links_in own) link others later (sym at))
      ]

  -- so are those of entries that are among a tree's
  low_part : (links : List Link) (leaves : List (List Row)) (part : List Entry) → ((e : Entry) → Member e part → RowsLow floor (rows_behind links leaves e.link)) → RowsLow floor (join (map {A = Entry} (λ e. rows_behind links leaves e.link) part))
  low_part links leaves [] each = tt
  low_part links leaves (e ∷ part) each = joined_low floor (rows_behind links leaves e.link) (join (map {A = Entry} (λ x. rows_behind links leaves x.link) part)) (each e (inl refl)) (low_part links leaves part (λ x there. each x (inr there)))

module _ (bytes : List ℕ) (lives : List Lone) (leaves : List Leaf) (table : ℕ) (written : Written) (place : TreePlace) (tree : TableTree) (has : HasTree bytes place.root tree) (is : IsPlaceOf place tree) (apart : LeadApart place.leaves.items) (parted : IsParted lives leaves table written place tree) where
  -- where the names that a part says are below the floor, those of its rows are
  pub part_low : (floor : Name) (l : Leaf) → Contains leaves l → l.table ≡ table → is_live lives l ≡ false → AreBelowFloor floor (part_of written l) → RowsLow floor (join (part_leaves place tree (part_of written l)))
  part_low floor l there its dead below =
      low_part floor place.leaves.items tree.leaves (part_of written l) (λ e mine.
      let link = parted.among l there its dead e mine in
      subst (λ (m : List Link). RowsLow floor (rows_behind m tree.leaves e.link)) (sym is.leaves)
      (said floor (bottom (root_own place.root) tree.layers) tree.leaves e.link has.is.bear (subst LeadApart is.leaves apart) (subst (λ (m : List Link). Member e.link m) is.leaves link.0) link.1
      (all_of (λ (x : Entry). is_below x.link.greatest floor ≡ true) (part_of written l) e below mine)))

-- ---- what rows show of a key

version_both : (key : List ℕ) (xs ys : List Row) (o : Option (Version PageChange)) → version_at key xs ≡ o → (o ≡ None → version_at key (xs ++ ys) ≡ version_at key ys) × ((v : Version PageChange) → o ≡ Some v → version_at key (xs ++ ys) ≡ Some v)
version_both key [] ys o is = ((λ none. refl), (λ v some. absurd (none_some (is ∙ some))))
version_both key (r ∷ xs) ys o is = elim (cases_Bool (bytes_eq r.0 key)) [
  | inl same ↦ ((λ none. absurd (none_some (sym (rw same at is ∙ none)))), (λ v some. rw same (rw same at is ∙ some)))
  | inr other ↦ rw other (version_both key xs ys o (rw other at is))
]

-- a version that they show is that of a row of the key
pub shown_lies : (leaves : List Leaf) (table : ℕ) (l : Leaf) (key : List ℕ) (rows : List Row) (v : Version PageChange) → LieIn leaves table l rows → version_at key rows ≡ Some v → leaf_under table key leaves ≡ Some l
shown_lies leaves table l key [] v lie is = absurd (none_some is)
shown_lies leaves table l key (r ∷ rows) v lie is = elim (cases_Bool (bytes_eq r.0 key)) [
  | inl same ↦ subst (λ (k : List ℕ). leaf_under table k leaves ≡ Some l) ((bytes_eq-Decides r.0 key).0 same) lie.0
  | inr other ↦ shown_lies leaves table l key rows v lie.1 (rw other at is)
]

-- leaves by what each has: the rows of all show of a key what those of its leaf do
module _ (leaves : List Leaf) (table : ℕ) (key : List ℕ) (l : Leaf) (under : leaf_under table key leaves ≡ Some l) (rows_of : Leaf → List (List Row)) where
  abbrev Shown : Option (Version PageChange)
  Shown = version_at key (join (rows_of l))

  abbrev all_rows : List Leaf → List Row
  all_rows front = join (join (map rows_of front))

  joins : (xs ys : List (List Row)) → join (xs ++ ys) ≡ join xs ++ join ys
  joins [] ys = refl
  joins (x ∷ xs) ys = ap (λ (m : List Row). x ++ m) (joins xs ys) ∙ sym (append_assoc x (join xs) (join ys))

  -- what one leaf shows is what its leaf shows
  own_shown : (x : Leaf) (v : Version PageChange) → LieIn leaves table x (join (rows_of x)) → version_at key (join (rows_of x)) ≡ Some v → Shown ≡ Some v
  own_shown x v lie is = let same : x ≡ l = some_same (sym (shown_lies leaves table x key (join (rows_of x)) v lie is) ∙ under) in subst (λ (y : Leaf). version_at key (join (rows_of y)) ≡ Some v) same is

  one_more : (x : Leaf) (front : List Leaf) (o : Option (Version PageChange)) → version_at key (join (rows_of x)) ≡ o → (o ≡ None → version_at key (all_rows (x ∷ front)) ≡ version_at key (all_rows front)) × ((v : Version PageChange) → o ≡ Some v → version_at key (all_rows (x ∷ front)) ≡ Some v)
  one_more x front o is = subst (λ (m : List Row). (o ≡ None → version_at key m ≡ version_at key (all_rows front)) × ((v : Version PageChange) → o ≡ Some v → version_at key m ≡ Some v)) (sym (joins (rows_of x) (join (map rows_of front)))) (version_both key (join (rows_of x)) (all_rows front) o is)

  -- none of them shows another
  no_other : (front : List Leaf) (v : Version PageChange) → ((x : Leaf) → Member x front → LieIn leaves table x (join (rows_of x))) → version_at key (all_rows front) ≡ Some v → Shown ≡ Some v
  no_other [] v lie is = absurd (none_some is)
  no_other (x ∷ front) v lie is = by (version_at key (join (rows_of x))) refl (λ none. no_other front v (λ y there. lie y (inr there)) (sym ((one_more x front None none).0 refl) ∙ is)) where
    by : (o : Option (Version PageChange)) → version_at key (join (rows_of x)) ≡ o → (version_at key (join (rows_of x)) ≡ None → Shown ≡ Some v) → Shown ≡ Some v
    by None none later = later none
    by (Some u) some later = own_shown x u (lie x (inl refl)) some ∙ (sym ((one_more x front (Some u) some).1 u refl) ∙ is)

  pub all_show : (front : List Leaf) → ((x : Leaf) → Member x front → LieIn leaves table x (join (rows_of x))) → Member l front → version_at key (all_rows front) ≡ Shown
  all_show [] lie there = absurd there
  all_show (x ∷ front) lie there = by (version_at key (join (rows_of x))) refl there (λ later. all_show front (λ y mine. lie y (inr mine)) later) where
    rest : (o : Option (Version PageChange)) → version_at key (all_rows front) ≡ o → Shown ≡ None → o ≡ None
    rest None is none = refl
    rest (Some v) is none = sym (no_other front v (λ y mine. lie y (inr mine)) is) ∙ none

    by : (o : Option (Version PageChange)) → version_at key (join (rows_of x)) ≡ o → Member l (x ∷ front) → (Member l front → version_at key (all_rows front) ≡ Shown) → version_at key (all_rows (x ∷ front)) ≡ Shown
    by (Some v) some also more = (one_more x front (Some v) some).1 v refl ∙ sym (own_shown x v (lie x (inl refl)) some)
    by None none (inr later) more = (one_more x front None none).0 refl ∙ more later
    by None none (inl same) more =
        let empty : Shown ≡ None = subst (λ (y : Leaf). version_at key (join (rows_of y)) ≡ None) (sym same) none in
        (one_more x front None none).0 refl ∙ (rest (version_at key (all_rows front)) refl empty ∙ sym empty)

module _ (bytes : List ℕ) (lives : List Lone) (leaves : List Leaf) (table : ℕ) (written : Written) (place : TreePlace) (tree : TableTree) (has : HasTree bytes place.root tree) (is : IsPlaceOf place tree) (apart : LeadApart place.leaves.items) (parted : IsParted lives leaves table written place tree) where
  -- of a key of a leaf the part of it shows what the tree does, if none was written since
  pub part_shows : NoneLive lives leaves table → (l : Leaf) → Contains leaves l → l.table ≡ table → (key : List ℕ) → leaf_under table key leaves ≡ Some l → shown_at key (tree_rows tree) ≡ shown_at key (join (part_leaves place tree (part_of written l)))
  part_shows none l there its key under =
      ap (λ (rows : List Row). shown_at key rows) (rows_by_parts lives leaves table written place tree is apart parted none has.is)
      ∙ ap (option_map version_in) (all_show leaves table key l under (λ x. part_leaves place tree (part_of written x)) (leaves_of table leaves) lie (member_of (leaves_of table leaves) l (there_of table leaves l there its))) where
        lie : (x : Leaf) → Member x (leaves_of table leaves) → LieIn leaves table x (join (part_leaves place tree (part_of written x)))
        lie x mine = let own = in_table table leaves x mine in (parted.parts x (contains_of leaves x own.0) own.1 (none x (contains_of leaves x own.0) own.1)).lie

  -- where the tree has the newest of each key, so has the part
  pub part_newest : NoneLive lives leaves table → (m : Machine) (l : Leaf) → Contains leaves l → l.table ≡ table → ((key : List ℕ) → head_of (line m.history table key) ≡ shown_at key (tree_rows tree)) → AreNewestIn m leaves table l (join (part_leaves place tree (part_of written l)))
  part_newest none m l there its newest key under = newest key ∙ part_shows none l there its key under
