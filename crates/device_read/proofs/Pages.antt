-- The pages that an opening makes of a table's leaves and its history.
use Rattle.std.proofs.Common.{◌≡◌, ◌⊎◌, ◌+◌, ℕ, zero, suc, true, false, IsTrue, List, [], ◌∷◌, ◌++◌, length, take, drop, Option, Some, None, refl, sym, ap, subst, ◌∙◌, inl, inr, arith}
use Rattle.std.specs.Prelude.{◌==◌, ◌&&◌, not, slice_get}
use Rattle.std.specs.List.{AllByRecursion}
use Rattle.std.proofs.lemmas.Bool.{and_parts, both_ways, cases_Bool, false_from_ne_true}
use Rattle.device_layout.specs.declared.addr.Addr.{Addr}
use Rattle.stored.specs.HistoryTree.{HistoryRecord}
use Rattle.stored.specs.Records.{Root}
use Rattle.stored.specs.TableTree.{Climbs, Entry, ends_below, first_key, table_kind}
use Rattle.stored.specs.Tree.{AllLead, Layer, Lead, bottom, join}
use Rattle.row_page.specs.Rows.{Row, is_below}
use Rattle.row_page.proofs.Ascending.{below_trans}
use Rattle.leaf_rows.specs.declared.marks.Marks.{Marks}
use Rattle.leaf_rows.specs.Contents.{is_seen_row, seen_rows}
use Rattle.leaf_load.proofs.Seen.{some_all}
use Rattle.inner_page.specs.Children.{IsUnderKey}
use Rattle.tree_open.specs.Trees.{InnerIs, root_own}
use Rattle.tree_open.proofs.OneLayer.{key_none}
use Rattle.recover_open.specs.Leaves.{AreLeaves, AreUnder}
use Rattle.device_read.specs.Merging.{merged}
use Rattle.device_read.specs.Newest.{KeysClimb, is_of_leaf, of_leaf, rows_of}
use Rattle.device_read.specs.Readers.{least_of, low_at}
use Rattle.device_read.proofs.Between.{AreBetween, all_above, ascends_some}
use Rattle.device_read.proofs.Merged.{all_merged, merged_ascends}
use Rattle.device_read.proofs.Parts.{leaf_ascends}

-- ---- the first entry of a tree has no key

first_of_page : (p rest : List Entry) (key : List ℕ) → first_key p ≡ Some key → first_key (p ++ rest) ≡ Some key
first_of_page [] rest key is = absurd cc
first_of_page (e ∷ p) rest key is = is

first_of_layer : (level : ℕ) (own : List Entry) (pages : Layer Entry) (key : List ℕ) → Lead table_kind level own pages → first_key own ≡ Some key → first_key (join pages) ≡ Some key
first_of_layer level [] pages key lead is = absurd cc
first_of_layer level (e ∷ own) [] key lead is = absurd lead
first_of_layer level (e ∷ own) (p ∷ pages) key lead is = first_of_page p (join pages) key (lead.0.begins ∙ is)

first_of_bottom : (own : List Entry) (layers : List (Layer Entry)) (key : List ℕ) → AllLead table_kind own layers → first_key own ≡ Some key → first_key (bottom own layers) ≡ Some key
first_of_bottom own [] key lead is = is
first_of_bottom own (pages ∷ layers) key lead is = first_of_bottom (join pages) layers key lead.1 (first_of_layer (suc (length layers)) own pages key lead.0 is)

pub inner_first : (bytes : List ℕ) (root : Root) (es : List Entry) (addrs : List Addr) → InnerIs bytes root es addrs → first_key es ≡ Some []
inner_first bytes root es addrs inner = ap first_key inner.entries ∙ first_of_bottom (root_own root) inner.layers [] inner.lead refl

-- ---- leaf by leaf

module _ (m : Marks) (ids : List ℕ) (number : ℕ) (newest : List HistoryRecord) where
  -- the page of a leaf of these rows, whose keys are from the low one on and below the next
  abbrev pub page_of : List ℕ → Option (List ℕ) → List Row → List Row
  page_of low next rows = merged (seen_rows m ids rows) (rows_of (of_leaf number low next newest))

  -- the pages of leaves, where this is the least key of the first
  abbrev pub opened_pages : List ℕ → List Entry → List (List Row) → List (List Row)
  opened_pages low [] leaves = []
  opened_pages low (e ∷ es) [] = []
  opened_pages low (e ∷ es) (rows ∷ leaves) = page_of low (first_key es) rows ∷ opened_pages (least_of es) es leaves

  -- the least key of the i-th
  abbrev low_from : List ℕ → List Entry → ℕ → List ℕ
  low_from low es zero = low
  low_from low es (suc i) = least_of (drop (suc i) es)

  low_behind : (e : Entry) (es : List Entry) (i : ℕ) → low_from (least_of es) es i ≡ least_of (drop (suc i) (e ∷ es))
  low_behind e es zero = refl
  low_behind e es (suc i) = refl

  opened_from : (bytes : List ℕ) (low : List ℕ) (es : List Entry) (leaves : List (List Row)) (i : ℕ) (rows : List Row) → AreLeaves bytes es None leaves → slice_get leaves i ≡ Some rows
      → slice_get (opened_pages low es leaves) i ≡ Some (page_of (low_from low es i) (first_key (drop (suc i) es)) rows)
  opened_from bytes low [] [] i rows are at = absurd cc
  opened_from bytes low [] (p ∷ leaves) i rows are at = absurd are
  opened_from bytes low (e ∷ es) [] i rows are at = absurd are
  opened_from bytes low (e ∷ es) (p ∷ leaves) zero rows are at = let same : p ≡ rows = cc in ap (λ (l : List Row). Some (page_of low (first_key es) l)) same
  opened_from bytes low (e ∷ es) (p ∷ leaves) (suc i) rows are at =
      opened_from bytes (least_of es) es leaves i rows are.1 at ∙ ap (λ (l : List ℕ). Some (page_of l (first_key (drop (suc i) es)) rows)) (low_behind e es i)

  low_first : (es : List Entry) (i : ℕ) → low_from [] es i ≡ low_at es i
  low_first es zero = refl
  low_first es (suc i) = refl

  pub opened_at : (bytes : List ℕ) (es : List Entry) (leaves : List (List Row)) (i : ℕ) (rows : List Row) → AreLeaves bytes es None leaves → slice_get leaves i ≡ Some rows
      → slice_get (opened_pages [] es leaves) i ≡ Some (page_of (low_at es i) (first_key (drop (suc i) es)) rows)
  opened_at bytes es leaves i rows are at = opened_from bytes [] es leaves i rows are at ∙ ap (λ (l : List ℕ). Some (page_of l (first_key (drop (suc i) es)) rows)) (low_first es i)

  pub opened_count : (bytes : List ℕ) (low : List ℕ) (es : List Entry) (leaves : List (List Row)) → AreLeaves bytes es None leaves → length (opened_pages low es leaves) ≡ length leaves
  opened_count bytes low [] [] are = refl
  opened_count bytes low [] (p ∷ leaves) are = absurd are
  opened_count bytes low (e ∷ es) [] are = absurd are
  opened_count bytes low (e ∷ es) (p ∷ leaves) are = ap suc (opened_count bytes (least_of es) es leaves are.1)

  -- ---- between their entries

  rows_between : (e : Entry) (next : Option (List ℕ)) (records : List HistoryRecord) → AreUnder e next (rows_of (of_leaf number e.key next records))
  rows_between e next [] = tt
  rows_between e next (r ∷ records) = elim (cases_Bool (is_of_leaf number e.key next r)) [
    | inl is ↦ rw is (own is, rows_between e next records)
    | inr isnt ↦ rw isnt (rows_between e next records)
  ]
    where
      own : is_of_leaf number e.key next r ≡ true → IsTrue (not (is_below r.key e.key)) × IsTrue (ends_below next r.key)
      own is = let p = and_parts (r.table == number) (not (is_below r.key e.key) && ends_below next r.key) is in and_parts (not (is_below r.key e.key)) (ends_below next r.key) p.1

  pub between_opened : (bytes : List ℕ) (es : List Entry) (leaves : List (List Row)) → KeysClimb newest → AreLeaves bytes es None leaves → AreBetween es (opened_pages (least_of es) es leaves)
  between_opened bytes [] [] climb are = tt
  between_opened bytes [] (rows ∷ leaves) climb are = absurd are
  between_opened bytes (e ∷ es) [] climb are = absurd are
  between_opened bytes (e ∷ es) (rows ∷ leaves) climb are =
      let keys : AreUnder e (first_key es) rows = subst (λ (k : Option (List ℕ)). AreUnder e k rows) (key_none es) are.0.keys in (
        merged_ascends None (seen_rows m ids rows) (rows_of (of_leaf number e.key (first_key es) newest)) (ascends_some (is_seen_row m ids) None rows are.0.leaf.bears.leaf.ascend) (leaf_ascends number e.key (first_key es) newest climb),
        all_merged (λ (r : Row). IsTrue (not (is_below r.0 e.key)) × IsTrue (ends_below (first_key es) r.0)) (seen_rows m ids rows) (rows_of (of_leaf number e.key (first_key es) newest))
            (some_all (λ (r : Row). IsTrue (not (is_below r.0 e.key)) × IsTrue (ends_below (first_key es) r.0)) (is_seen_row m ids) rows keys) (rows_between e (first_key es) newest),
        between_opened bytes es leaves climb are.1,
      )

pub least_first : (es : List Entry) → first_key es ≡ Some [] → least_of es ≡ []
least_first [] is = absurd cc
least_first (e ∷ es) is = cc

-- ---- the leaf of a key

plus : (i : ℕ) → suc (i + 1) ≡ suc i + 1
plus i = omega arith

-- each key stands below an entry, where there is one
pub under_some : (key : List ℕ) (e : Entry) (es : List Entry) → Climbs (e ∷ es) → (i : ℕ) × IsUnderKey (e ∷ es) key i
under_some key e [] climbs = (0, record { within = omega arith; upto = inl refl; behind = tt })
under_some key e (f ∷ es) climbs = elim (cases_Bool (is_below key f.key)) [
  | inl below ↦ (0, record { within = omega arith; upto = inl refl; behind = all_above key (f ∷ es) climbs.1 below })
  | inr isnt ↦
      let rest = under_some key f es climbs.1 in (
        suc rest.0,
        record {
          within = (let lt = rest.1.within in omega (arith, lt));
          upto = inr (further rest.0 isnt rest.1.upto);
          behind = subst (λ (n : ℕ). AllByRecursion (λ (x : Entry). is_below key x.key ≡ true) (drop n (e ∷ f ∷ es))) (plus rest.0) rest.1.behind;
        },
      )
]
  where
    -- below the first entry that is not above the key there is none
    sooner : is_below key f.key ≡ false → is_below key e.key ≡ false
    sooner isnt = false_from_ne_true (is_below key e.key) (λ below. both_ways (is_below key f.key) isnt (below_trans key e.key f.key below climbs.0))

    further : (i : ℕ) → is_below key f.key ≡ false → (i ≡ 0) ⊎ AllByRecursion (λ (x : Entry). is_below key x.key ≡ false) (take (i + 1) (f ∷ es)) → AllByRecursion (λ (x : Entry). is_below key x.key ≡ false) (take (suc i + 1) (e ∷ f ∷ es))
    further i isnt (inl first) = subst (λ (n : ℕ). AllByRecursion (λ (x : Entry). is_below key x.key ≡ false) (take (suc n + 1) (e ∷ f ∷ es))) (sym first) (sooner isnt, (isnt, tt))
    further i isnt (inr all) = subst (λ (n : ℕ). AllByRecursion (λ (x : Entry). is_below key x.key ≡ false) (take n (e ∷ f ∷ es))) (plus i) (sooner isnt, all)

not_below_none : (key : List ℕ) → is_below key [] ≡ false
not_below_none [] = refl
not_below_none (b ∷ key) = refl

-- of the first entries, up to this place
least_upto : (key : List ℕ) (l : List Entry) (n : ℕ) → AllByRecursion (λ (x : Entry). is_below key x.key ≡ false) (take (suc n) l) → is_below key (least_of (drop n l)) ≡ false
least_upto key [] zero all = not_below_none key
least_upto key [] (suc n) all = not_below_none key
least_upto key (x ∷ l) zero all = all.0
least_upto key (x ∷ l) (suc n) all = least_upto key l n all.1

pub under_first : (key : List ℕ) (es : List Entry) → Climbs es → first_key es ≡ Some [] → (i : ℕ) × IsUnderKey es key i
under_first key [] climbs first = absurd cc
under_first key (e ∷ es) climbs first = under_some key e es climbs

-- its least key is not above the key, and the next one is
pub under_bounds : (es : List Entry) (key : List ℕ) (i : ℕ) → IsUnderKey es key i → (is_below key (low_at es i) ≡ false) × (ends_below (first_key (drop (suc i) es)) key ≡ true)
under_bounds es key i under = (low_of es i under.upto, next_of (drop (suc i) es) (subst (λ (n : ℕ). AllByRecursion (λ (x : Entry). is_below key x.key ≡ true) (drop n es)) (next i) under.behind))
  where
    next : (n : ℕ) → n + 1 ≡ suc n
    next n = omega arith

    next_of : (l : List Entry) → AllByRecursion (λ (x : Entry). is_below key x.key ≡ true) l → ends_below (first_key l) key ≡ true
    next_of [] all = refl
    next_of (x ∷ l) all = all.0

    low_of : (l : List Entry) (i : ℕ) → (i ≡ 0) ⊎ AllByRecursion (λ (x : Entry). is_below key x.key ≡ false) (take (i + 1) l) → is_below key (low_at l i) ≡ false
    low_of l zero upto = not_below_none key
    low_of l (suc i) (inl first) = absurd (omega (arith, first))
    low_of l (suc i) (inr all) = least_upto key l (suc i) (subst (λ (n : ℕ). AllByRecursion (λ (x : Entry). is_below key x.key ≡ false) (take n l)) (next (suc i)) all)
