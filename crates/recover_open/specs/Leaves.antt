-- The leaves of one tree on a device.
use Rattle.std.specs.Prelude.{◌≡◌, ℕ, not, IsTrue, List, [], ◌∷◌, Option, None}
use Rattle.std.specs.List.{AllByRecursion}
use Rattle.row_page.specs.Rows.{Row, is_below}
use Rattle.stored.specs.Records.{Root}
use Rattle.stored.specs.Tree.{join}
use Rattle.stored.specs.TableTree.{Entry, TableTree, ends_below}
use Rattle.device_leaf.specs.Leaves.{LeafIs}
use Rattle.tree_open.specs.declared.place.TreePlace.{TreePlace}
use Rattle.tree_open.specs.Pages.{key_next}
use Rattle.tree_open.specs.Trees.{HasTree, IsPlaceOf}
use Rattle.recover_open.specs.Bare.{tree_rows}

-- no key is below this one
abbrev pub IsFrom : List ℕ → List Row → Type 0
IsFrom least rows = AllByRecursion (λ (r : Row). IsTrue (not (is_below r.0 least))) rows

-- the keys are below the next one, where there is one
abbrev pub IsUpTo : Option (List ℕ) → List Row → Type 0
IsUpTo next rows = AllByRecursion (λ (r : Row). IsTrue (ends_below next r.0)) rows

-- the keys are from the entry's up to the next entry's, where there is one
abbrev pub AreUnder : Entry → Option (List ℕ) → List Row → Type 0
AreUnder e next rows = AllByRecursion (λ (r : Row). IsTrue (not (is_below r.0 e.key)) × IsTrue (ends_below next r.0)) rows

-- the device has a leaf of these rows where an entry leads, and its keys are from that entry's up to the next one's
pub record IsUnder (bytes : List ℕ) (e : Entry) (next : Option (List ℕ)) (rows : List Row) : Type 0 where
  pub leaf : LeafIs bytes e.link rows
  pub keys : AreUnder e next rows

-- no rows make it such a leaf
abbrev pub NoneUnder : List ℕ → Entry → Option (List ℕ) → Type 0
NoneUnder bytes e next = (rows : List Row) → IsUnder bytes e next rows → ⊥

-- the device has a leaf for each of these entries
abbrev pub AreLeaves : List ℕ → List Entry → Option (List ℕ) → List (List Row) → Type 0
AreLeaves bytes [] next [] = Unit {0}
AreLeaves bytes [] next (rows ∷ leaves) = ⊥
AreLeaves bytes (e ∷ es) next [] = ⊥
AreLeaves bytes (e ∷ es) next (rows ∷ leaves) = IsUnder bytes e (key_next es next) rows × AreLeaves bytes es next leaves

-- these are the rows of the leaves of these entries
pub record RowsAre (bytes : List ℕ) (es : List Entry) (rows : List Row) : Type 0 where
  pub leaves : List (List Row)
  pub are : AreLeaves bytes es None leaves
  pub joined : rows ≡ join leaves

-- the device has a tree of this root, which stands there and has these rows
pub record TreeIs (bytes : List ℕ) (root : Root) (p : TreePlace) (rows : List Row) : Type 0 where
  pub tree : TableTree
  pub has : HasTree bytes root tree
  pub is_root : p.root ≡ root
  pub place : IsPlaceOf p tree
  pub rows_are : rows ≡ tree_rows tree
