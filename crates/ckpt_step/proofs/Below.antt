-- Where the root of a tree is below a floor, all its rows are.
use Rattle.std.specs.Prelude.{◌≡◌, ℕ, suc, true, List, [], ◌∷◌, ◌++◌, length, map}
use Rattle.std.specs.List.{AllByRecursion}
use Rattle.std.proofs.Common.{subst}
use Rattle.device_layout.specs.declared.link.Link.{Link}
use Rattle.row_page.specs.Greatest.{greatest_in, names_of}
use Rattle.row_page.specs.Rows.{Row}
use Rattle.snapshot.specs.Past.{is_below}
use Rattle.stamp.specs.declared.Name.{Name}
use Rattle.stored.specs.TableTree.{Entry, TableTree, root_entry, table_kind}
use Rattle.stored.specs.Tree.{AllBear, AllLead, IsTree, Layer, Lead, bottom, join}
use Rattle.ckpt_step.proofs.CleanTrees.{both_under}

module _ (floor : Name) where
  abbrev IsLow : Name → Type 0
  IsLow n = is_below n floor ≡ true

  abbrev AreLow : List Entry → Type 0
  AreLow es = AllByRecursion (λ (e : Entry). IsLow e.link.greatest) es

  abbrev pub RowsLow : List Row → Type 0
  RowsLow rows = AllByRecursion (λ (r : Row). IsLow r.1.window.name) rows

  low_entries : (es : List Entry) → IsLow (greatest_in (map {A = Entry} (λ x. x.link.greatest) es)) → AreLow es
  low_entries [] low = tt
  low_entries (e ∷ es) low = let both = both_under e.link.greatest (greatest_in (map {A = Entry} (λ x. x.link.greatest) es)) floor low in (both.0, low_entries es both.1)

  pub low_rows : (rows : List Row) → IsLow (greatest_in (names_of rows)) → RowsLow rows
  low_rows [] low = tt
  low_rows (r ∷ rows) low = let both = both_under r.1.window.name (greatest_in (names_of rows)) floor low in (both.0, low_rows rows both.1)

  joined : {A : Type 0} (P : A → Type 0) (xs ys : List A) → AllByRecursion P xs → AllByRecursion P ys → AllByRecursion P (xs ++ ys)
  joined P [] ys all more = more
  joined P (x ∷ xs) ys all more = (all.0, joined P xs ys all.1 more)

  pub joined_low : (xs ys : List Row) → RowsLow xs → RowsLow ys → RowsLow (xs ++ ys)
  joined_low xs ys low more = joined (λ (r : Row). IsLow r.1.window.name) xs ys low more

  lead_low : (level : ℕ) (own : List Entry) (pages : Layer Entry) → Lead table_kind level own pages → AreLow own → AreLow (join pages)
  lead_low level [] [] lead low = tt
  lead_low level [] (p ∷ pages) lead low = absurd lead
  lead_low level (e ∷ own) [] lead low = absurd lead
  lead_low level (e ∷ own) (p ∷ pages) lead low = joined (λ (x : Entry). IsLow x.link.greatest) p (join pages) (low_entries p (subst IsLow lead.0.says.greatest low.0)) (lead_low level own pages lead.1 low.1)

  bottom_low : (own : List Entry) (layers : List (Layer Entry)) → AllLead table_kind own layers → AreLow own → AreLow (bottom own layers)
  bottom_low own [] lead low = low
  bottom_low own (pages ∷ layers) lead low = bottom_low (join pages) layers lead.1 (lead_low (suc (length layers)) own pages lead.0 low)

  bear_low : (own : List Entry) (leaves : List (List Row)) → AllBear table_kind own leaves → AreLow own → RowsLow (join leaves)
  bear_low [] [] bear low = tt
  bear_low [] (rows ∷ leaves) bear low = absurd bear
  bear_low (e ∷ own) [] bear low = absurd bear
  bear_low (e ∷ own) (rows ∷ leaves) bear low = joined (λ (r : Row). IsLow r.1.window.name) rows (join leaves) (low_rows rows (subst IsLow bear.0.says.greatest low.0)) (bear_low own leaves bear.1 low.1)

  pub tree_low : (level : ℕ) (link : Link) (t : TableTree) → IsTree table_kind level (root_entry link) t → IsLow link.greatest → RowsLow (join t.leaves)
  tree_low level link t tree low = bear_low (bottom (root_entry link ∷ []) t.layers) t.leaves tree.bear (bottom_low (root_entry link ∷ []) t.layers tree.lead (low, tt))
