-- Trees of one leaf.
use Rattle.std.specs.Prelude.{◌≡◌, ℕ, List, [], ◌∷◌, ◌++◌, None, refl, IsTrue, not}
use Rattle.std.specs.List.{AllByRecursion}
use Rattle.std.proofs.Common.{◌∙◌, ap, subst}
use Rattle.std.proofs.lemmas.List.{nil_from_length}
use Rattle.row_page.specs.Rows.{Row, is_below}
use Rattle.stored.specs.Blocks.{Block}
use Rattle.device_layout.specs.declared.link.Link.{Link}
use Rattle.stored.specs.Tree.{IsTree, AllBear, bottom}
use Rattle.stored.specs.TableTree.{table_kind, TableTree, Bears, Entry, root_entry, ends_below}

pub all_front : (P : Block → Type 0) (xs ys : List Block) → AllByRecursion P (xs ++ ys) → AllByRecursion P xs
all_front P [] ys all = tt
all_front P (x ∷ xs) ys all = (all.0, all_front P xs ys all.1)

pub all_join : (P : Block → Type 0) (xs ys : List Block) → AllByRecursion P xs → AllByRecursion P ys → AllByRecursion P (xs ++ ys)
all_join P [] ys all more = more
all_join P (x ∷ xs) ys all more = (all.0, all_join P xs ys all.1 more)

-- ---- from a tree to its leaf

-- a tree of level 0 is one leaf
pub one_leaf : (link : Link) (tree : TableTree) → IsTree table_kind 0 (root_entry link) tree → (rows : List Row) × (tree ≡ record { layers = []; leaves = rows ∷ [] }) × Bears (root_entry link) rows
one_leaf link tree is =
    let none : tree.layers ≡ [] = nil_from_length tree.layers is.levels in
    go tree.leaves refl none (subst (λ (l : List (List (List Entry))). AllBear table_kind (bottom (root_entry link ∷ []) l) tree.leaves) none is.bear)
  where
    go : (leaves : List (List Row)) → tree.leaves ≡ leaves → tree.layers ≡ [] → AllBear table_kind (root_entry link ∷ []) leaves → (rows : List Row) × (tree ≡ record { layers = []; leaves = rows ∷ [] }) × Bears (root_entry link) rows
    go [] leaves none bear = absurd bear
    go (rows ∷ []) leaves none bear = (rows, ap (λ (l : List (List (List Entry))). let t : TableTree = record { layers = l; leaves = tree.leaves } in t) none ∙ ap (λ (l : List (List Row)). let t : TableTree = record { layers = []; leaves = l } in t) leaves, bear.0)
    go (rows ∷ (more ∷ rest)) leaves none bear = absurd bear.1

-- ---- from a leaf to its tree

stays : (rows : List Row) → AllByRecursion (λ (r : Row). IsTrue (not (is_below r.0 [])) × IsTrue (ends_below None r.0)) rows
stays [] = tt
stays (r ∷ rows) = ((above r.0, refl), stays rows)
  where
    above : (key : List ℕ) → IsTrue (not (is_below key []))
    above [] = refl
    above (k ∷ key) = refl

pub leaf_tree : (link : Link) (rows : List Row) → Bears (root_entry link) rows → IsTree table_kind 0 (root_entry link) (record { layers = []; leaves = rows ∷ [] })
leaf_tree link rows bears = record { levels = refl; lead = tt; bear = (bears, tt); parts = (tt, (stays rows, tt)) }
