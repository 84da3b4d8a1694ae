-- The entries of a tree fit, and what leads to its leaves is the parts of a table's leaves by their entries, where no checkpoint has written any.
use Rattle.std.proofs.Common.{◌≡◌, ℕ, List, [], ◌∷◌, filter, refl, sym, ap, ◌∙◌, inl, inr, arith}
use Rattle.std.specs.Prelude.{◌==◌, true, false}
use Rattle.std.specs.List.{AllByRecursion}
use Rattle.std.proofs.lemmas.Bool.{cases_Bool, false≢true}
use Rattle.device_layout.specs.declared.link.Link.{Link}
use Rattle.stored.specs.Links.{LinkFits}
use Rattle.stored.specs.Tree.{AllLead, Lead, bottom, join}
use Rattle.stored.specs.TableTree.{Entry, EntryFits, TableTree, table_kind}
use Rattle.tree_dir.specs.declared.leaf.Leaf.{Leaf}
use Rattle.tree_open.specs.declared.place.TreePlace.{TreePlace}
use Rattle.tree_open.specs.Trees.{HasTree, root_own}
use Rattle.tree_write.specs.Steps.{links_in}
use Rattle.engine_store.proofs.TwoLists.{all_both}
use Rattle.ckpt_step.specs.Parts.{has_rows, part_of, parts_of}
use Rattle.ckpt_step.specs.Rooms.{Written, known_in}
use Rattle.engine_store.proofs.LeafBehind.{entries_in}

-- ---- the entries of a tree fit

pages_fit : (level : ℕ) (own : List Entry) (pages : List (List Entry)) → Lead table_kind level own pages → AllByRecursion EntryFits (join pages)
pages_fit level [] [] lead = tt
pages_fit level [] (p ∷ pages) lead = absurd lead
pages_fit level (e ∷ own) [] lead = absurd lead
pages_fit level (e ∷ own) (p ∷ pages) lead = all_both EntryFits p (join pages) lead.0.page.fit (pages_fit level own pages lead.1)

bottom_fits : (own : List Entry) (layers : List (List (List Entry))) → AllByRecursion EntryFits own → AllLead table_kind own layers → AllByRecursion EntryFits (bottom own layers)
bottom_fits own [] fit lead = fit
bottom_fits own (pages ∷ layers) fit lead = bottom_fits (join pages) layers (pages_fit _ own pages lead.0) lead.1

pub tree_fits : (bytes : List ℕ) (place : TreePlace) (tree : TableTree) → HasTree bytes place.root tree → LinkFits place.root.link → AllByRecursion EntryFits (bottom (root_own place.root) tree.layers)
tree_fits bytes place tree has fits = bottom_fits (root_own place.root) tree.layers (record { key = omega arith; link = fits }, tt) has.is.lead

-- ---- its links

-- nothing was written
abbrev pub none_written : Written
none_written = known_in []

-- the part of a leaf, by whether its link leads to rows
pub part_none : (l : Leaf) → has_rows l.entry.link ≡ false → part_of none_written l ≡ []
part_none l isnt = elim (cases_Bool (l.entry.link.greatest.id == 0)) [
  | inl is ↦ rw is refl
  | inr other ↦ absurd (false≢true (sym isnt ∙ rw other refl))
]

pub part_one : (l : Leaf) → has_rows l.entry.link ≡ true → part_of none_written l ≡ l.entry ∷ []
part_one l has = elim (cases_Bool (l.entry.link.greatest.id == 0)) [
  | inl is ↦ absurd (false≢true (sym (rw is refl) ∙ has))
  | inr other ↦ rw other refl
]

pub links_joined : (leaves : List Leaf) → filter has_rows (links_in (entries_in leaves)) ≡ links_in (parts_of none_written leaves)
links_joined [] = refl
links_joined (l ∷ leaves) = elim (cases_Bool (l.entry.link.greatest.id == 0)) [
  | inl is ↦ rw is (links_joined leaves)
  | inr other ↦ rw other (ap (λ (links : List Link). l.entry.link ∷ links) (links_joined leaves))
]
