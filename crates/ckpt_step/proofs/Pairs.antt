-- Tables and their trees, in one order.
use Rattle.std.specs.Prelude.{◌≡◌, ◌≢◌, ℕ, zero, suc, ◌≤◌, true, false, List, [], ◌∷◌, ◌++◌, map, Some, slice_get, refl}
use Rattle.std.specs.List.{AllByRecursion}
use Rattle.std.proofs.Common.{inl, inr, sym, ◌∙◌, ap, subst, arith}
use Rattle.std.proofs.lemmas.Bool.{cases_Bool, eq-eqb, eqb-true}
use Rattle.device_layout.specs.declared.addr.Addr.{Addr}
use Rattle.device_layout.specs.declared.link.Link.{Link}
use Rattle.kv_model.specs.Holds.{Member}
use Rattle.row_page.specs.Rows.{Row}
use Rattle.stored.specs.Blocks.{Block, AreApart, Apart, IsAddressed, IsAt}
use Rattle.stored.specs.Links.{is_nowhere}
use Rattle.stored.specs.Records.{NumbersOnce, TableRoot}
use Rattle.stored.specs.Stored.{AreTrees, tables_blocks}
use Rattle.stored.specs.TableTree.{Entry, TableTree, root_entry, table_kind}
use Rattle.stored.specs.Tree.{AllBear, IsTree, leaf_blocks, tree_blocks}
use Rattle.tree_open.specs.Trees.{HasTree, places}
use Rattle.tree_write.specs.Writes.{LeadApart}
use Rattle.ckpt_step.specs.Trees.{IsPair}
use Rattle.ckpt_step.proofs.Members.{all_made, all_of, in_back, in_either, in_front, member_map, none_some, some_same}
use Rattle.ckpt_step.proofs.OrderedByName.{all_back, all_front}

-- the blocks of the tree of a root
abbrev pub root_blocks : TableRoot → TableTree → List Block
root_blocks r tree = tree_blocks table_kind (root_entry r.root.link) tree

-- ---- blocks that do not meet

pub turned : (x y : Addr) → AreApart x y → AreApart y x
turned x y (inl is) = inr is
turned x y (inr is) = inl is

pub apart_back : (xs ys : List Block) → Apart (xs ++ ys) → Apart ys
apart_back [] ys apart = apart
apart_back (x ∷ xs) ys apart = apart_back xs ys apart.1

pub apart_front : (xs ys : List Block) → Apart (xs ++ ys) → Apart xs
apart_front [] ys apart = tt
apart_front (x ∷ xs) ys apart = (all_front (λ (c : Block). AreApart x.place c.place) xs ys apart.0, apart_front xs ys apart.1)

pub apart_across : (xs ys : List Block) (b c : Block) → Apart (xs ++ ys) → Member b xs → Member c ys → AreApart b.place c.place
apart_across [] ys b c apart there also = absurd there
apart_across (x ∷ xs) ys b c apart (inl same) also = subst (λ (y : Block). AreApart y.place c.place) (sym same) (all_of (λ (z : Block). AreApart x.place z.place) ys c (all_back (λ (z : Block). AreApart x.place z.place) xs ys apart.0) also)
apart_across (x ∷ xs) ys b c apart (inr later) also = apart_across xs ys b c apart.1 later also

-- ---- one of them

pub pair_blocks : (r : TableRoot) (tree : TableTree) (tables : List TableRoot) (trees : List TableTree) (b : Block) → IsPair r tree tables trees → Member b (root_blocks r tree) → Member b (tables_blocks tables trees)
pair_blocks r tree [] trees b (i, at, also) own = absurd (none_some at)
pair_blocks r tree (x ∷ tables) [] b (i, at, also) own = absurd (none_some also)
pair_blocks r tree (x ∷ tables) (y ∷ trees) b (zero, at, also) own =
    in_front (root_blocks x y) (tables_blocks tables trees) b (subst (λ (z : TableRoot). Member b (root_blocks z y)) (sym (some_same at)) (subst (λ (z : TableTree). Member b (root_blocks r z)) (sym (some_same also)) own))
pair_blocks r tree (x ∷ tables) (y ∷ trees) b (suc i, at, also) own = in_back (root_blocks x y) (tables_blocks tables trees) b (pair_blocks r tree tables trees b (i, at, also) own)

-- a block is that of one of them
pub record BlockOf (tables : List TableRoot) (trees : List TableTree) (b : Block) : Type 0 where
  pub root : TableRoot
  pub tree : TableTree
  pub pair : IsPair root tree tables trees
  pub own : Member b (root_blocks root tree)

pub block_of : (tables : List TableRoot) (trees : List TableTree) (b : Block) → Member b (tables_blocks tables trees) → BlockOf tables trees b
block_of [] trees b there = absurd there
block_of (x ∷ tables) [] b there = absurd there
block_of (x ∷ tables) (y ∷ trees) b there = elim (in_either (root_blocks x y) (tables_blocks tables trees) b there) [
  | inl own ↦ record { root = x; tree = y; pair = (zero, refl, refl); own = own }
  | inr later ↦ let one = block_of tables trees b later in record { root = one.root; tree = one.tree; pair = (suc one.pair.0, one.pair.1, one.pair.2); own = one.own }
]

pub pair_apart : (r : TableRoot) (tree : TableTree) (tables : List TableRoot) (trees : List TableTree) → IsPair r tree tables trees → Apart (tables_blocks tables trees) → Apart (root_blocks r tree)
pair_apart r tree [] trees (i, at, also) apart = absurd (none_some at)
pair_apart r tree (x ∷ tables) [] (i, at, also) apart = absurd (none_some also)
pair_apart r tree (x ∷ tables) (y ∷ trees) (zero, at, also) apart =
    subst (λ (z : TableRoot). Apart (root_blocks z tree)) (some_same at) (subst (λ (z : TableTree). Apart (root_blocks x z)) (some_same also) (apart_front (root_blocks x y) (tables_blocks tables trees) apart))
pair_apart r tree (x ∷ tables) (y ∷ trees) (suc i, at, also) apart = pair_apart r tree tables trees (i, at, also) (apart_back (root_blocks x y) (tables_blocks tables trees) apart)

-- the blocks of two of them
pub pairs_apart : (r q : TableRoot) (tree other : TableTree) (tables : List TableRoot) (trees : List TableTree) (b c : Block) (one : IsPair r tree tables trees) (two : IsPair q other tables trees) → (one.0 ≡ two.0 → ⊥) → Apart (tables_blocks tables trees)
    → Member b (root_blocks r tree) → Member c (root_blocks q other) → AreApart b.place c.place
pairs_apart r q tree other [] trees b c (i, at, also) two differ apart own its = absurd (none_some at)
pairs_apart r q tree other (x ∷ tables) [] b c (i, at, also) two differ apart own its = absurd (none_some also)
pairs_apart r q tree other (x ∷ tables) (y ∷ trees) b c (zero, at, also) (zero, to, too) differ apart own its = absurd (differ refl)
pairs_apart r q tree other (x ∷ tables) (y ∷ trees) b c (zero, at, also) (suc j, to, too) differ apart own its =
    apart_across (root_blocks x y) (tables_blocks tables trees) b c apart (subst (λ (z : TableRoot). Member b (root_blocks z y)) (sym (some_same at)) (subst (λ (z : TableTree). Member b (root_blocks r z)) (sym (some_same also)) own)) (pair_blocks q other tables trees c (j, to, too) its)
pairs_apart r q tree other (x ∷ tables) (y ∷ trees) b c (suc i, at, also) (zero, to, too) differ apart own its =
    turned c.place b.place (apart_across (root_blocks x y) (tables_blocks tables trees) c b apart (subst (λ (z : TableRoot). Member c (root_blocks z y)) (sym (some_same to)) (subst (λ (z : TableTree). Member c (root_blocks q z)) (sym (some_same too)) its)) (pair_blocks r tree tables trees b (i, at, also) own))
pairs_apart r q tree other (x ∷ tables) (y ∷ trees) b c (suc i, at, also) (suc j, to, too) differ apart own its =
    pairs_apart r q tree other tables trees b c (i, at, also) (j, to, too) (λ same. differ (ap suc same)) (apart_back (root_blocks x y) (tables_blocks tables trees) apart) own its

pub pair_tree : (r : TableRoot) (tree : TableTree) (tables : List TableRoot) (trees : List TableTree) → IsPair r tree tables trees → AreTrees tables trees → IsTree table_kind r.root.level (root_entry r.root.link) tree
pair_tree r tree [] trees (i, at, also) are = absurd (none_some at)
pair_tree r tree (x ∷ tables) [] (i, at, also) are = absurd are
pair_tree r tree (x ∷ tables) (y ∷ trees) (zero, at, also) are =
    subst (λ (z : TableRoot). IsTree table_kind z.root.level (root_entry z.root.link) tree) (some_same at) (subst (λ (z : TableTree). IsTree table_kind x.root.level (root_entry x.root.link) z) (some_same also) are.0)
pair_tree r tree (x ∷ tables) (y ∷ trees) (suc i, at, also) are = pair_tree r tree tables trees (i, at, also) are.1

-- on a device
pub pair_on : (bytes : List ℕ) (r : TableRoot) (tree : TableTree) (tables : List TableRoot) (trees : List TableTree) → IsPair r tree tables trees → AreTrees tables trees
    → ((b : Block) → Member b (tables_blocks tables trees) → IsAddressed b) → ((b : Block) → Member b (tables_blocks tables trees) → IsAt bytes b) → HasTree bytes r.root tree
pair_on bytes r tree tables trees pair are addressed holds = record {
  is = pair_tree r tree tables trees pair are;
  addressed = all_made (λ (b : Block). IsAddressed b) (root_blocks r tree) (λ b own. addressed b (pair_blocks r tree tables trees b pair own));
  holds = all_made (λ (b : Block). IsAt bytes b) (root_blocks r tree) (λ b own. holds b (pair_blocks r tree tables trees b pair own));
}

-- ---- by number

later_differ : (x : TableRoot) (tables : List TableRoot) (i : ℕ) (r : TableRoot) → AllByRecursion (λ (u : TableRoot). u.table.number ≢ x.table.number) tables → slice_get tables i ≡ Some r → r.table.number ≢ x.table.number
later_differ x [] i r all at = absurd (none_some at)
later_differ x (y ∷ tables) zero r all at = subst (λ (z : TableRoot). z.table.number ≢ x.table.number) (some_same at) all.0
later_differ x (y ∷ tables) (suc i) r all at = later_differ x tables i r all.1 at

-- a number stands at one place
pub one_index : (tables : List TableRoot) (i j : ℕ) (r q : TableRoot) → NumbersOnce tables → slice_get tables i ≡ Some r → slice_get tables j ≡ Some q → r.table.number ≡ q.table.number → i ≡ j
one_index [] i j r q once at also same = absurd (none_some at)
one_index (x ∷ tables) zero zero r q once at also same = refl
one_index (x ∷ tables) zero (suc j) r q once at also same = absurd (later_differ x tables j q once.0 also (sym same ∙ ap (λ (z : TableRoot). z.table.number) (sym (some_same at))))
one_index (x ∷ tables) (suc i) zero r q once at also same = absurd (later_differ x tables i r once.0 at (same ∙ ap (λ (z : TableRoot). z.table.number) (sym (some_same also))))
one_index (x ∷ tables) (suc i) (suc j) r q once at also same = ap suc (one_index tables i j r q once.1 at also same)

-- ---- the leaves of a tree

-- a leaf that stands somewhere has its block
pub leaf_listed : (own : List Entry) (leaves : List (List Row)) (e : Entry) → AllBear table_kind own leaves → Member e own → (e.link.addr.offset ≡ 0 → ⊥) → Member e.link.addr (places (leaf_blocks table_kind own leaves))
leaf_listed [] leaves e bear there some = absurd there
leaf_listed (x ∷ own) [] e bear there some = absurd bear
leaf_listed (x ∷ own) (rows ∷ leaves) e bear (inl same) some = elim (cases_Bool (is_nowhere x.link.addr)) [
  | inl none ↦ absurd (some (ap (λ (z : Entry). z.link.addr.offset) same ∙ eqb-true x.link.addr.offset 0 none))
  | inr isnt ↦ rw isnt (inl (ap (λ (z : Entry). z.link.addr) same))
]
leaf_listed (x ∷ own) (rows ∷ leaves) e bear (inr later) some = elim (cases_Bool (is_nowhere x.link.addr)) [
  | inl none ↦ rw none (leaf_listed own leaves e bear.1 later some)
  | inr isnt ↦ rw isnt (inr (leaf_listed own leaves e bear.1 later some))
]

-- no two leaves that stand somewhere begin at one place
pub lead_apart : (own : List Entry) (leaves : List (List Row)) → AllBear table_kind own leaves → Apart (leaf_blocks table_kind own leaves) → ((b : Block) → Member b (leaf_blocks table_kind own leaves) → 1 ≤ b.place.size) → LeadApart (map {A = Entry} (λ e. e.link) own)
lead_apart [] leaves bear apart some = tt
lead_apart (x ∷ own) [] bear apart some = absurd bear
lead_apart (x ∷ own) (rows ∷ leaves) bear apart some = elim (cases_Bool (is_nowhere x.link.addr)) [
  | inl none ↦ (inl (eqb-true x.link.addr.offset 0 none), lead_apart own leaves bear.1 (rw none at apart) (λ b there. some b (rw none there)))
  | inr isnt ↦
      let here = rw isnt at apart in
      let sizes : (b : Block) → Member b (record { place = x.link.addr; image = table_kind.leaf rows } ∷ leaf_blocks table_kind own leaves) → 1 ≤ b.place.size = λ b there. some b (rw isnt there) in (
        inr (all_made (λ (l : Link). l.addr.offset ≡ x.link.addr.offset → ⊥) (map {A = Entry} (λ e. e.link) own) (λ l there same.
            let e = member_map {A = Entry} (λ e. e.link) l own there in
            let stored : e.0.link.addr.offset ≡ 0 → ⊥ = λ is_zero. not_zero isnt (sym same ∙ (ap (λ (z : Link). z.addr.offset) e.2 ∙ is_zero)) in
            let listed = member_map {A = Block} (λ b. b.place) e.0.link.addr (leaf_blocks table_kind own leaves) (leaf_listed own leaves e.0 bear.1 e.1 stored) in
            meets x.link.addr listed.0.place (all_of (λ (c : Block). AreApart x.link.addr c.place) (leaf_blocks table_kind own leaves) listed.0 here.0 listed.1) (sizes _ (inl refl)) (sizes listed.0 (inr listed.1))
            (sym same ∙ (ap (λ (z : Link). z.addr.offset) e.2 ∙ ap (λ (z : Addr). z.offset) listed.2)))),
        lead_apart own leaves bear.1 here.1 (λ b there. sizes b (inr there)),
      )
]
  where
    not_zero : is_nowhere x.link.addr ≡ false → x.link.addr.offset ≡ 0 → ⊥
    not_zero isnt is_zero = let is = eq-eqb x.link.addr.offset 0 is_zero in let both : true ≡ false = sym is ∙ isnt in cc

    meets : (a b : Addr) → AreApart a b → 1 ≤ a.size → 1 ≤ b.size → a.offset ≡ b.offset → ⊥
    meets a b (inl before) some more same = omega (arith, before, some, same)
    meets a b (inr behind) some more same = omega (arith, behind, more, same)
