-- Leaves of the checkpoint before, as a device has them at two moments.
use Rattle.std.specs.Prelude.{◌≡◌, ℕ, ◌+◌, ◌≤◌, List, [], ◌∷◌, length, Option, None, Some, refl}
use Rattle.std.proofs.Common.{inl, inr, sym, ◌∙◌, subst}
use Rattle.std.proofs.lemmas.Bool.{cases_eq}
use Rattle.disk_model.specs.Ranges.{range}
use Rattle.device_layout.specs.declared.link.Link.{Link}
use Rattle.kv_model.specs.Holds.{Member}
use Rattle.row_page.specs.Rows.{Row}
use Rattle.stored.specs.Blocks.{Block, Holds}
use Rattle.stored.specs.TableTree.{TableTree}
use Rattle.device_leaf.specs.Leaves.{LeafIs}
use Rattle.device_leaf.proofs.Leaves.{leaf_there, no_block, stored_block}
use Rattle.tree_write.specs.Sizes.{WritesLeaf, WritesLeaves, WritesTree, first_link, links_behind}
use Rattle.tree_write.specs.Writes.{KeepSame}

-- two contents are the same where a link leads, which is within both
pub record SameThere (bytes later : List ℕ) (link : Link) : Type 0 where
  pub within : link.addr.offset + link.addr.size ≤ length bytes
  pub also : link.addr.offset + link.addr.size ≤ length later
  pub same : range later link.addr.offset link.addr.size ≡ range bytes link.addr.offset link.addr.size

pub back_there : (bytes later : List ℕ) (link : Link) → SameThere bytes later link → SameThere later bytes link
back_there bytes later link there = record { within = there.also; also = there.within; same = sym there.same }

-- so it is of each link that leads somewhere
abbrev pub AllThere : List ℕ → List ℕ → List Link → Type 0
AllThere bytes later links = (link : Link) → Member link links → (link.addr.offset ≡ 0 → ⊥) → SameThere bytes later link

pub back_all : (bytes later : List ℕ) (links : List Link) → AllThere bytes later links → AllThere later bytes links
back_all bytes later links all link there some = back_there bytes later link (all link there some)

pub same_leaf : (bytes later : List ℕ) (link : Link) (rows : List Row) → ((link.addr.offset ≡ 0 → ⊥) → SameThere bytes later link) → LeafIs bytes link rows → LeafIs later link rows
same_leaf bytes later link rows there leaf = elim (cases_eq link.addr.offset 0) [
  | inl zero ↦ record { bears = leaf.bears; addressed = leaf.addressed; holds = subst (λ (l : List Block). Holds later l) (sym (no_block link rows zero)) tt }
  | inr some ↦
      let at = there some in
      let is = (leaf_there bytes link rows some leaf).1 in
      record { bears = leaf.bears; addressed = leaf.addressed; holds = subst (λ (l : List Block). Holds later l) (sym (stored_block link rows some)) (record { within = at.also; is = at.same ∙ is.is }, tt) }
]

-- the first link, and those behind it
first_there : (bytes later : List ℕ) (was : List Link) → AllThere bytes later was → ((first_link was).addr.offset ≡ 0 → ⊥) → SameThere bytes later (first_link was)
first_there bytes later [] all some = absurd (some refl)
first_there bytes later (link ∷ was) all some = all link (inl refl) some

behind_there : (bytes later : List ℕ) (was : List Link) → AllThere bytes later was → AllThere bytes later (links_behind was)
behind_there bytes later [] all link there some = absurd there
behind_there bytes later (x ∷ was) all link there some = all link (inr there) some

leaf_moved : (bytes later : List ℕ) (was : List Link) (rows : List Row) (size : Option ℕ) → AllThere bytes later was → WritesLeaf bytes (first_link was) rows size → WritesLeaf later (first_link was) rows size
leaf_moved bytes later was rows None all (inl none) = inl none
leaf_moved bytes later was rows None all (inr leaf) = inr (same_leaf bytes later (first_link was) rows (first_there bytes later was all) leaf)
leaf_moved bytes later was rows (Some size) all (some, isnt, is) = (some, (λ leaf. isnt (same_leaf later bytes (first_link was) rows (λ stored. back_there bytes later (first_link was) (first_there bytes later was all stored)) leaf)), is)

pub leaves_moved : (bytes later : List ℕ) (was : List Link) (leaves : List (List Row)) (sizes : List ℕ) → AllThere bytes later was → WritesLeaves bytes was leaves sizes → WritesLeaves later was leaves sizes
leaves_moved bytes later was [] sizes all none = none
leaves_moved bytes later was (rows ∷ leaves) sizes all (size, rest, one, more, are) = (size, rest, leaf_moved bytes later was rows size all one, leaves_moved bytes later (links_behind was) leaves rest (behind_there bytes later was all) more, are)

-- what is written of a tree
pub writes_moved : (bytes later : List ℕ) (was : List Link) (t : TableTree) (sizes : List ℕ) → AllThere bytes later was → WritesTree bytes was t sizes → WritesTree later was t sizes
writes_moved bytes later was t sizes all writes = record { of_leaves = writes.of_leaves; leaves = leaves_moved bytes later was t.leaves writes.of_leaves all writes.leaves; is = writes.is }

-- and which leaves keep their blocks
pub keeps_moved : (bytes later : List ℕ) (was links : List Link) (leaves : List (List Row)) → AllThere bytes later was → KeepSame bytes was links leaves → KeepSame later was links leaves
keeps_moved bytes later was [] leaves all keep = tt
keeps_moved bytes later was (link ∷ links) [] all keep = tt
keeps_moved bytes later was (link ∷ links) (rows ∷ leaves) all keep = (
  (λ some leaf. keep.0 some (same_leaf later bytes (first_link was) rows (λ stored. back_there bytes later (first_link was) (first_there bytes later was all stored)) leaf)),
  keeps_moved bytes later (links_behind was) links leaves (behind_there bytes later was all) keep.1,
)

-- a tree that is kept keeps all
pub keeps_self : (bytes : List ℕ) (was : List Link) (leaves : List (List Row)) → KeepSame bytes was was leaves
keeps_self bytes [] leaves = tt
keeps_self bytes (link ∷ was) [] = tt
keeps_self bytes (link ∷ was) (rows ∷ leaves) = ((λ some leaf. refl), keeps_self bytes was leaves)
