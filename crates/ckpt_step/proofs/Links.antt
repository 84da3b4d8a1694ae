-- Which links lead to rows: those that say a name with an id.
use Rattle.std.specs.Prelude.{◌≡◌, ◌⊎◌, ◌≤◌, ◌==◌, nat_lt, true, false, List, [], ◌∷◌, length, filter, refl}
use Rattle.std.specs.List.{AllByRecursion}
use Rattle.std.proofs.Common.{inl, inr, sym, ◌∙◌, ap, subst, arith}
use Rattle.std.proofs.lemmas.Bool.{cases_Bool, eq-eqb, ne_eqb, ltb-true}
use Rattle.device_layout.specs.declared.link.Link.{Link}
use Rattle.stamp.specs.declared.name.Name.{Name}
use Rattle.stamp.specs.Order.{is_before, later}
use Rattle.row_page.specs.Greatest.{greatest_in, names_of, no_name}
use Rattle.row_page.specs.Rows.{Row, RowFits, key_most}
use Rattle.stored.specs.Links.{nowhere}
use Rattle.stored.specs.Tree.{AllBear}
use Rattle.stored.specs.TableTree.{Bears, Entry, table_kind}
use Rattle.tree_write.specs.Steps.{links_in}
use Rattle.ckpt_step.specs.Parts.{has_rows}

-- ---- the greatest name of rows

-- no name is before none, and of two names with ids or none the later one has an id where one has
later_id : (x y : Name) → 1 ≤ x.id → (y ≡ no_name) ⊎ (1 ≤ y.id) → 1 ≤ (later x y).id
later_id x y some other = elim (cases_Bool (is_before x y)) [
  | inr isnt ↦ rw isnt some
  | inl is ↦ rw is (elim other [
    | inr has ↦ has
    | inl none ↦ absurd (never (subst (λ (n : Name). is_before x n ≡ true) none is))
  ])
]
  where
    never : is_before x no_name ≡ true → ⊥
    never is = elim (cases_Bool (nat_lt x.run 0)) [
      | inl less ↦ let lt = ltb-true x.run 0 less in omega (arith, lt)
      | inr isnt ↦ elim (cases_Bool (x.run == 0)) [
        | inr other ↦ let clash : false ≡ true = rw (isnt, other) at is in cc
        | inl same ↦ let id : nat_lt x.id 0 ≡ true = rw (isnt, same) at is in let lt = ltb-true x.id 0 id in omega (arith, lt)
      ]
    ]

greatest_of : (rows : List Row) → AllByRecursion (λ (r : Row). RowFits [] key_most r) rows → (greatest_in (names_of rows) ≡ no_name) ⊎ (1 ≤ (greatest_in (names_of rows)).id)
greatest_of [] fit = inl refl
greatest_of (r ∷ rows) fit = inr (later_id r.1.window.name (greatest_in (names_of rows)) fit.0.window.name.id.0 (greatest_of rows fit.1))

greatest_id : (rows : List Row) → AllByRecursion (λ (r : Row). RowFits [] key_most r) rows → 1 ≤ length rows → 1 ≤ (greatest_in (names_of rows)).id
greatest_id [] fit some = absurd (omega (arith, some))
greatest_id (r ∷ rows) fit some = later_id r.1.window.name (greatest_in (names_of rows)) fit.0.window.name.id.0 (greatest_of rows fit.1)

-- ---- a link and its leaf

-- a link to a leaf with rows leads to rows
pub some_rows : (e : Entry) (rows : List Row) → Bears e rows → 1 ≤ length rows → has_rows e.link ≡ true
some_rows e rows bears some =
    let id : 1 ≤ e.link.greatest.id = subst (λ (n : Name). 1 ≤ n.id) (sym bears.says.greatest) (greatest_id rows bears.leaf.fit some) in
    let isnt : (e.link.greatest.id == 0) ≡ false = ne_eqb e.link.greatest.id 0 (λ none. omega (arith, id, none)) in
    rw isnt refl

-- one to a leaf without rows does not
pub no_rows : (e : Entry) → Bears e [] → has_rows e.link ≡ false
no_rows e bears = let is : (e.link.greatest.id == 0) ≡ true = eq-eqb e.link.greatest.id 0 (ap (λ (n : Name). n.id) bears.says.greatest) in rw is refl

-- what leads to rows leads somewhere
pub rows_stand : (e : Entry) (rows : List Row) → Bears e rows → has_rows e.link ≡ true → e.link.addr.offset ≡ 0 → ⊥
rows_stand e rows bears has zero =
    let none : e.link ≡ nowhere = (bears.empty (eq-eqb e.link.addr.offset 0 zero)).0 in
    let clash : false ≡ true = ap has_rows (sym none) ∙ has in cc

-- ---- the links of leaves

-- where each leaf has a row all links lead to rows
pub all_rows : (es : List Entry) (leaves : List (List Row)) → AllBear table_kind es leaves → AllByRecursion (λ (rows : List Row). 1 ≤ length rows) leaves → filter has_rows (links_in es) ≡ links_in es
all_rows [] [] bear some = refl
all_rows [] (rows ∷ leaves) bear some = absurd bear
all_rows (e ∷ es) [] bear some = absurd bear
all_rows (e ∷ es) (rows ∷ leaves) bear some =
    let is : has_rows e.link ≡ true = some_rows e rows bear.0 some.0 in
    rw is (ap (λ (links : List Link). e.link ∷ links) (all_rows es leaves bear.1 some.1))
