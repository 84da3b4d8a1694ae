-- The rows behind the links of a tree, and the leaves of a part of it.
use Rattle.std.specs.Prelude.{◌≡◌, ℕ, ◌==◌, true, false, List, [], ◌∷◌, ◌++◌, filter, map, refl}
use Rattle.std.specs.List.{AllByRecursion, Contains}
use Rattle.std.proofs.Common.{inl, inr, sym, ◌∙◌, ap, subst, arith}
use Rattle.std.proofs.lemmas.Bool.{cases_Bool, eq-eqb, ne_eqb, false≢true}
use Rattle.device_layout.specs.declared.link.Link.{Link}
use Rattle.kv_model.specs.Holds.{Member}
use Rattle.row_page.specs.Rows.{Row, image}
use Rattle.stored.specs.Blocks.{Block, Holds, IsAddressed, IsAt}
use Rattle.stored.specs.Links.{is_nowhere}
use Rattle.stored.specs.Tree.{AllBear, IsTree, bottom, inner_blocks, join, leaf_blocks}
use Rattle.stored.specs.TableTree.{Bears, Entry, TableTree, root_entry, table_kind}
use Rattle.tree_dir.specs.declared.leaf.Leaf.{Leaf}
use Rattle.tree_dir.specs.Leaves.{leaves_of}
use Rattle.device_leaf.specs.Leaves.{LeafIs, blocks_at}
use Rattle.tree_open.specs.declared.place.TreePlace.{TreePlace}
use Rattle.tree_open.specs.Trees.{HasTree, IsPlaceOf, root_own}
use Rattle.tree_write.specs.Drafts.{HasLeaves}
use Rattle.tree_write.specs.Steps.{links_in}
use Rattle.tree_write.specs.Writes.{LeadApart}
use Rattle.ckpt_step.specs.Parts.{IsPart, IsParted, has_rows, part_leaves, part_of, parts_of, rows_behind}
use Rattle.ckpt_step.specs.Lives.{NoneLive, is_live}
use Rattle.ckpt_step.specs.Rooms.{Written}
use Rattle.ckpt_step.specs.declared.lives.Lone.{Lone}
use Rattle.ckpt_step.proofs.Apart.{filtered_member, links_both}
use Rattle.ckpt_step.proofs.Links.{rows_stand, some_rows}
use Rattle.ckpt_step.proofs.Members.{all_of, flat_member, map_member}
use Rattle.ckpt_step.proofs.TableLeaves.{member_of, table_in}

-- ---- the first link, and those behind it

pub behind_first : (link : Link) (links : List Link) (rows : List Row) (leaves : List (List Row)) → rows_behind (link ∷ links) (rows ∷ leaves) link ≡ rows
behind_first link links rows leaves = let is : (link.addr.offset == link.addr.offset) ≡ true = eq-eqb link.addr.offset link.addr.offset refl in rw is refl

behind_later : (first link : Link) (links : List Link) (rows : List Row) (leaves : List (List Row)) → (link.addr.offset ≡ first.addr.offset → ⊥) → rows_behind (first ∷ links) (rows ∷ leaves) link ≡ rows_behind links leaves link
behind_later first link links rows leaves differ = let isnt : (first.addr.offset == link.addr.offset) ≡ false = ne_eqb first.addr.offset link.addr.offset (λ same. differ (sym same)) in rw isnt refl

-- a link behind that leads somewhere leads elsewhere
pub apart_later : (first link : Link) (links : List Link) → LeadApart (first ∷ links) → Member link links → (link.addr.offset ≡ 0 → ⊥) → link.addr.offset ≡ first.addr.offset → ⊥
apart_later first link links apart there some meet = elim apart.0 [
  | inl zero ↦ some (meet ∙ zero)
  | inr far ↦ all_of (λ (x : Link). x.addr.offset ≡ first.addr.offset → ⊥) links link far there meet
]

-- each link of a tree that leads to rows leads somewhere
stand_in : (es : List Entry) (leaves : List (List Row)) (link : Link) → AllBear table_kind es leaves → Member link (links_in es) → has_rows link ≡ true → link.addr.offset ≡ 0 → ⊥
stand_in [] leaves link bear there has zero = there
stand_in (e ∷ es) [] link bear there has zero = absurd bear
stand_in (e ∷ es) (rows ∷ leaves) link bear (inl same) has zero = rows_stand e rows bear.0 (ap has_rows (sym same) ∙ has) (ap (λ (l : Link). l.addr.offset) (sym same) ∙ zero)
stand_in (e ∷ es) (rows ∷ leaves) link bear (inr later) has zero = stand_in es leaves link bear.1 later has zero

-- ---- all rows of a tree

-- the leaves behind these links
abbrev pub leaves_behind : List Link → List (List Row) → List Link → List (List Row)
leaves_behind links leaves own = map {A = Link} (rows_behind links leaves) own

pub skip_first : (first : Link) (links : List Link) (rows : List Row) (leaves : List (List Row)) (own : List Link) → ((link : Link) → Member link own → link.addr.offset ≡ first.addr.offset → ⊥) → leaves_behind (first ∷ links) (rows ∷ leaves) own ≡ leaves_behind links leaves own
skip_first first links rows leaves [] differ = refl
skip_first first links rows leaves (link ∷ own) differ =
    ap (λ (l : List Row). l ∷ leaves_behind (first ∷ links) (rows ∷ leaves) own) (behind_later first link links rows leaves (differ link (inl refl)))
    ∙ ap (λ (l : List (List Row)). rows_behind links leaves link ∷ l) (skip_first first links rows leaves own (λ x there. differ x (inr there)))

-- a leaf whose link leads to no rows has none
none_behind : (e : Entry) (rows : List Row) → Bears e rows → has_rows e.link ≡ false → rows ≡ []
none_behind e [] bears isnt = refl
none_behind e (r ∷ rows) bears isnt = absurd (false≢true (sym isnt ∙ some_rows e (r ∷ rows) bears (omega arith)))

-- those that lead to rows have all of them
pub all_behind : (es : List Entry) (leaves : List (List Row)) → AllBear table_kind es leaves → LeadApart (links_in es) → join (leaves_behind (links_in es) leaves (filter has_rows (links_in es))) ≡ join leaves
all_behind [] [] bear apart = refl
all_behind [] (rows ∷ leaves) bear apart = absurd bear
all_behind (e ∷ es) [] bear apart = absurd bear
all_behind (e ∷ es) (rows ∷ leaves) bear apart =
    let rest = all_behind es leaves bear.1 apart.1 in
    elim (cases_Bool (has_rows e.link)) [
      | inr isnt ↦ rw isnt (ap (λ (l : List (List Row)). join l) skipped ∙ (rest ∙ ap (λ (l : List Row). l ++ join leaves) (sym (none_behind e rows bear.0 isnt))))
      | inl is ↦ rw is (ap (λ (l : List Row). l ++ join (leaves_behind (links_in (e ∷ es)) (rows ∷ leaves) (filter has_rows (links_in es)))) (behind_first e.link (links_in es) rows leaves) ∙ ap (λ (l : List Row). rows ++ l) (ap (λ (l : List (List Row)). join l) skipped ∙ rest))
    ]
  where
    skipped : leaves_behind (links_in (e ∷ es)) (rows ∷ leaves) (filter has_rows (links_in es)) ≡ leaves_behind (links_in es) leaves (filter has_rows (links_in es))
    skipped = skip_first e.link (links_in es) rows leaves (filter has_rows (links_in es)) (λ link there meet. let own = filtered_member has_rows (links_in es) link there in apart_later e.link link (links_in es) apart own.0 (stand_in es leaves link bear.1 own.0 own.1) meet)

-- ---- on a device

module _ (bytes : List ℕ) where
  here : (e : Entry) (rows : List Row) → Bears e rows → AllByRecursion (λ (b : Block). IsAddressed b) (blocks_at e.link rows) → Holds bytes (blocks_at e.link rows) → LeafIs bytes e.link rows
  here e rows bears addressed holds = record { bears = record { leaf = bears.leaf; empty = bears.empty; says = bears.says }; addressed = addressed; holds = holds }

  front : (P : Block → Type 0) (e : Entry) (rows : List Row) (es : List Entry) (leaves : List (List Row)) → AllByRecursion P (leaf_blocks table_kind (e ∷ es) (rows ∷ leaves)) → AllByRecursion P (blocks_at e.link rows) × AllByRecursion P (leaf_blocks table_kind es leaves)
  front P e rows es leaves all = elim (cases_Bool (is_nowhere e.link.addr)) [
    | inl is ↦ let own : AllByRecursion P (leaf_blocks table_kind es leaves) = rw is at all in (rw is tt, own)
    | inr isnt ↦ let own : P (record { place = e.link.addr; image = image rows }) × AllByRecursion P (leaf_blocks table_kind es leaves) = rw isnt at all in (rw isnt (own.0, tt), own.1)
  ]

  -- a link of a tree that leads to rows leads to them there
  pub leaf_behind : (es : List Entry) (leaves : List (List Row)) (link : Link) → AllBear table_kind es leaves → LeadApart (links_in es) → AllByRecursion (λ (b : Block). IsAddressed b) (leaf_blocks table_kind es leaves) → Holds bytes (leaf_blocks table_kind es leaves)
      → Member link (links_in es) → has_rows link ≡ true → LeafIs bytes link (rows_behind (links_in es) leaves link)
  leaf_behind [] leaves link bear apart addressed holds there has = absurd there
  leaf_behind (e ∷ es) [] link bear apart addressed holds there has = absurd bear
  leaf_behind (e ∷ es) (rows ∷ leaves) link bear apart addressed holds (inl same) has =
      let one = here e rows bear.0 (front (λ (b : Block). IsAddressed b) e rows es leaves addressed).0 (front (λ (b : Block). IsAt bytes b) e rows es leaves holds).0 in
      subst (λ (x : Link). LeafIs bytes x (rows_behind (links_in (e ∷ es)) (rows ∷ leaves) x)) (sym same) (subst (λ (l : List Row). LeafIs bytes e.link l) (sym (behind_first e.link (links_in es) rows leaves)) one)
  leaf_behind (e ∷ es) (rows ∷ leaves) link bear apart addressed holds (inr later) has =
      subst (λ (l : List Row). LeafIs bytes link l) (sym (behind_later e.link link (links_in es) rows leaves (apart_later e.link link (links_in es) apart later (stand_in es leaves link bear.1 later has))))
      (leaf_behind es leaves link bear.1 apart.1 (front (λ (b : Block). IsAddressed b) e rows es leaves addressed).1 (front (λ (b : Block). IsAt bytes b) e rows es leaves holds).1 later has)

-- ---- the leaves of a part

-- the links of a part are among those of the tree, and lead to rows
pub part_links : (leaves : List Leaf) (table : ℕ) (had : Written) (place : TreePlace) → filter has_rows place.leaves.items ≡ links_in (parts_of had (leaves_of table leaves)) → (l : Leaf) → Contains leaves l → l.table ≡ table → (e : Entry) → Member e (part_of had l)
    → Member e.link place.leaves.items × (has_rows e.link ≡ true)
part_links leaves table had place joined l there own e of =
    filtered_member has_rows place.leaves.items e.link
    (subst (λ (links : List Link). Member e.link links) (sym joined) (map_member {A = Entry} {B = Link} (λ x. x.link) e (parts_of had (leaves_of table leaves))
    (flat_member {A = Leaf} {B = Entry} (λ m. part_of had m) l (leaves_of table leaves) e (table_in table leaves l (member_of leaves l there) own) of)))

-- a tree that is the parts of the table's leaves, of which none was written since
pub parted_whole : (leaves : List Leaf) (table : ℕ) (had : Written) (place : TreePlace) (tree : TableTree) → filter has_rows place.leaves.items ≡ links_in (parts_of had (leaves_of table leaves))
    → ((l : Leaf) → Contains leaves l → l.table ≡ table → IsPart leaves table l (part_of had l) (part_leaves place tree (part_of had l))) → IsParted [] leaves table had place tree
parted_whole leaves table had place tree joined parts = record {
  joined = λ none. joined;
  among = λ l there own dead e mine. part_links leaves table had place joined l there own e mine;
  parts = λ l there own dead. parts l there own;
}

module _ (lives : List Lone) (leaves : List Leaf) (table : ℕ) (had : Written) (place : TreePlace) (tree : TableTree) (is : IsPlaceOf place tree) (apart : LeadApart place.leaves.items) (parted : IsParted lives leaves table had place tree) where
  es_apart : LeadApart (links_in (bottom (root_own place.root) tree.layers))
  es_apart = subst LeadApart is.leaves apart

  -- the device has the leaves of a part where it has the tree
  pub part_has : (bytes : List ℕ) → HasTree bytes place.root tree → (l : Leaf) → Contains leaves l → l.table ≡ table → is_live lives l ≡ false → HasLeaves bytes (part_of had l) (part_leaves place tree (part_of had l))
  part_has bytes has l there own dead = all (part_of had l) (λ e of. parted.among l there own dead e of)
    where
      back : (P : Block → Type 0) (xs ys : List Block) → AllByRecursion P (xs ++ ys) → AllByRecursion P ys
      back P [] ys all = all
      back P (x ∷ xs) ys all = back P xs ys all.1

      one : (e : Entry) → Member e.link place.leaves.items × (has_rows e.link ≡ true) → (e.link.addr.offset ≡ 0 → ⊥) × LeafIs bytes e.link (rows_behind place.leaves.items tree.leaves e.link)
      one e of =
          let in_tree : Member e.link (links_in (bottom (root_own place.root) tree.layers)) = subst (λ (links : List Link). Member e.link links) is.leaves of.0 in (
            stand_in (bottom (root_own place.root) tree.layers) tree.leaves e.link has.is.bear in_tree of.1,
            subst (λ (links : List Link). LeafIs bytes e.link (rows_behind links tree.leaves e.link)) (sym is.leaves)
                (leaf_behind bytes (bottom (root_own place.root) tree.layers) tree.leaves e.link has.is.bear es_apart
                (back (λ (b : Block). IsAddressed b) (inner_blocks table_kind (root_own place.root) tree.layers) (leaf_blocks table_kind (bottom (root_own place.root) tree.layers) tree.leaves) has.addressed)
                (back (λ (b : Block). IsAt bytes b) (inner_blocks table_kind (root_own place.root) tree.layers) (leaf_blocks table_kind (bottom (root_own place.root) tree.layers) tree.leaves) has.holds)
                in_tree of.1),
          )

      all : (part : List Entry) → ((e : Entry) → Member e part → Member e.link place.leaves.items × (has_rows e.link ≡ true)) → HasLeaves bytes part (part_leaves place tree part)
      all [] each = tt
      all (e ∷ part) each = (one e (each e (inl refl)), all part (λ x of. each x (inr of)))

  -- its rows are those of the parts, one behind the other, where none was written since
  pub rows_by_parts : NoneLive lives leaves table → IsTree table_kind place.root.level (root_entry place.root.link) tree → join tree.leaves ≡ join (join (map {A = Leaf} (λ l. part_leaves place tree (part_of had l)) (leaves_of table leaves)))
  rows_by_parts none tree_is =
      sym (all_behind (bottom (root_own place.root) tree.layers) tree.leaves tree_is.bear es_apart)
      ∙ (ap (λ (links : List Link). join (leaves_behind links tree.leaves (filter has_rows links))) (sym is.leaves)
      ∙ ap (λ (l : List (List Row)). join l) (ap (λ (own : List Link). leaves_behind place.leaves.items tree.leaves own) (parted.joined none) ∙ each (leaves_of table leaves)))
    where
      both : (xs ys : List Link) → leaves_behind place.leaves.items tree.leaves (xs ++ ys) ≡ leaves_behind place.leaves.items tree.leaves xs ++ leaves_behind place.leaves.items tree.leaves ys
      both [] ys = refl
      both (x ∷ xs) ys = ap (λ (l : List (List Row)). rows_behind place.leaves.items tree.leaves x ∷ l) (both xs ys)

      one : (part : List Entry) → leaves_behind place.leaves.items tree.leaves (links_in part) ≡ part_leaves place tree part
      one [] = refl
      one (e ∷ part) = ap (λ (l : List (List Row)). rows_behind place.leaves.items tree.leaves e.link ∷ l) (one part)

      each : (ls : List Leaf) → leaves_behind place.leaves.items tree.leaves (links_in (parts_of had ls)) ≡ join (map {A = Leaf} (λ l. part_leaves place tree (part_of had l)) ls)
      each [] = refl
      each (l ∷ ls) =
          ap (λ (links : List Link). leaves_behind place.leaves.items tree.leaves links) (links_both (part_of had l) (parts_of had ls))
          ∙ (both (links_in (part_of had l)) (links_in (parts_of had ls))
          ∙ (ap (λ (xs : List (List Row)). xs ++ leaves_behind place.leaves.items tree.leaves (links_in (parts_of had ls))) (one (part_of had l))
          ∙ ap (λ (ys : List (List Row)). part_leaves place tree (part_of had l) ++ ys) (each ls)))
