-- Where the trees of a checkpoint stand, by what was surveyed of them.
use Rattle.std.specs.Prelude.{◌≡◌, ◌++◌, List, [], ◌∷◌, map}
use Rattle.stored.specs.Records.{Root, TableRoot}
use Rattle.stored.specs.TableTree.{Entry}
use Rattle.tree_open.specs.declared.place.TreePlace.{TreePlace}
use Rattle.tree_open.specs.declared.place.Upper.{Upper}
use Rattle.tree_open.specs.Trees.{leaf_addrs}

-- a place of this root, with these leaves, and the blocks above them and these
pub record IsOver (p : TreePlace) (root : Root) (u : Upper) : Type 0 where
  pub root_is : p.root ≡ root
  pub leaves : p.leaves.items ≡ map {A = Entry} (λ e. e.link) u.entries.items
  pub addrs : p.addrs.items ≡ u.addrs.items ++ leaf_addrs u.entries.items

abbrev pub AreOver : List TreePlace → List TableRoot → List Upper → Type 0
AreOver [] [] [] = Unit {0}
AreOver (p ∷ places) (t ∷ tables) (u ∷ uppers) = IsOver p t.root u × AreOver places tables uppers
AreOver _ _ _ = ⊥
