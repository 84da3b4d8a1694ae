-- A leaf is led to another block and is in no frame: the leaves that there are then.
use Rattle.std.specs.Prelude.{◌≡◌, ◌⊎◌, ℕ, ◌≤◌, ◌==◌, Bool, true, false, List, [], ◌∷◌, ◌++◌, length, map, Some, if◌then◌else◌, refl}
use Rattle.std.specs.List.{Contains}
use Rattle.std.proofs.Common.{inl, inr, sym, ◌∙◌, ap, subst}
use Rattle.std.proofs.lemmas.Bool.{cases_Bool, cases_eq, eq-eqb, ne_eqb}
use Rattle.std.proofs.lemmas.List.{append-nil}
use Rattle.device_layout.specs.declared.link.Link.{Link}
use Rattle.engine_world.proofs.Homes.{same-id}
use Rattle.engine_world.proofs.LeavesChanged.{IsMild, contains-map, contains-source, under-from, under-to}
use Rattle.engine_world.specs.Evicting.{led_out}
use Rattle.kv_model.specs.Holds.{Member}
use Rattle.leaf_rows.specs.Rows.{AreFit}
use Rattle.row_page.specs.Rows.{Row}
use Rattle.stored.specs.TableTree.{Entry, EntryFits}
use Rattle.stored.specs.Tree.{join}
use Rattle.tree_dir.specs.declared.leaf.Leaf.{Leaf}
use Rattle.tree_dir.specs.Leaves.{Directory, IsDirectory, changed, leaf_under, leaves_of}
use Rattle.tree_dir.proofs.Around.{IsAmong, among}
use Rattle.tree_write.specs.Drafts.{AreFrom}
use Rattle.ckpt_step.specs.Parts.{IsPart, LieIn}
use Rattle.ckpt_step.proofs.EntryImages.{stays_alone}
use Rattle.ckpt_step.proofs.Members.{none_some}
use Rattle.ckpt_step.proofs.TableLeaves.{contains_of, in_table}

-- those leaves
abbrev pub led_leaves : Directory → Leaf → Link → List Leaf
led_leaves d l link = changed l.id (led_out link) d.leaves

-- one of them, by what it was
abbrev step_of : ℕ → Link → Leaf → Leaf
step_of id link x = if x.id == id then led_out link x else x

module _ (id : ℕ) (link : Link) where
  step_by : (P : Leaf → Type 0) (x : Leaf) → P (led_out link x) → P x → P (step_of id link x)
  step_by P x one two = by (x.id == id)
    where
      by : (b : Bool) → P (if b then led_out link x else x)
      by true = one
      by false = two

  step_mild : IsMild (step_of id link)
  step_mild = record {
    id = λ x. step_by (λ (y : Leaf). y.id ≡ x.id) x refl refl;
    table = λ x. step_by (λ (y : Leaf). y.table ≡ x.table) x refl refl;
    key = λ x. step_by (λ (y : Leaf). y.entry.key ≡ x.entry.key) x refl refl;
  }

  step_own : (x : Leaf) → x.id ≡ id → step_of id link x ≡ led_out link x
  step_own x same = let is : (x.id == id) ≡ true = eq-eqb x.id id same in rw is refl

  step_other : (x : Leaf) → (x.id ≡ id → ⊥) → step_of id link x ≡ x
  step_other x other = let isnt : (x.id == id) ≡ false = ne_eqb x.id id other in rw isnt refl

  -- ---- lists

  still : (xs : List Leaf) → ((x : Leaf) → Member x xs → x.id ≡ id → ⊥) → map (step_of id link) xs ≡ xs
  still [] none = refl
  still (x ∷ xs) none = ap (λ (y : Leaf). y ∷ map (step_of id link) xs) (step_other x (none x (inl refl))) ∙ ap (λ (ys : List Leaf). x ∷ ys) (still xs (λ y mine. none y (inr mine)))

  beside : (xs ys : List Leaf) (l : Leaf) → l.id ≡ id → ((x : Leaf) → Member x xs → x.id ≡ id → ⊥) → ((x : Leaf) → Member x ys → x.id ≡ id → ⊥) → map (step_of id link) (xs ++ l ∷ ys) ≡ xs ++ led_out link l ∷ ys
  beside [] ys l same ahead behind = ap (λ (y : Leaf). y ∷ map (step_of id link) ys) (step_own l same) ∙ ap (λ (zs : List Leaf). led_out link l ∷ zs) (still ys behind)
  beside (x ∷ xs) ys l same ahead behind =
      ap (λ (y : Leaf). y ∷ map (step_of id link) (xs ++ l ∷ ys)) (step_other x (ahead x (inl refl)))
      ∙ ap (λ (zs : List Leaf). x ∷ zs) (beside xs ys l same (λ y mine. ahead y (inr mine)) behind)

  of_map : (table : ℕ) (leaves : List Leaf) → leaves_of table (map (step_of id link) leaves) ≡ map (step_of id link) (leaves_of table leaves)
  of_map table [] = refl
  of_map table (x ∷ leaves) =
      ap (λ (n : ℕ). if n == table then step_of id link x ∷ leaves_of table (map (step_of id link) leaves) else leaves_of table (map (step_of id link) leaves)) (step_mild.table x)
      ∙ by (x.table == table) (of_map table leaves)
    where
      by : (b : Bool) → leaves_of table (map (step_of id link) leaves) ≡ map (step_of id link) (leaves_of table leaves)
          → (if b then step_of id link x ∷ leaves_of table (map (step_of id link) leaves) else leaves_of table (map (step_of id link) leaves)) ≡ map (step_of id link) (if b then x ∷ leaves_of table leaves else leaves_of table leaves)
      by true rest = ap (λ (ls : List Leaf). step_of id link x ∷ ls) rest
      by false rest = rest

of_both : (table : ℕ) (xs ys : List Leaf) → leaves_of table (xs ++ ys) ≡ leaves_of table xs ++ leaves_of table ys
of_both table [] ys = refl
of_both table (x ∷ xs) ys = elim (cases_Bool (x.table == table)) [
  | inl is ↦ rw is (ap (λ (ls : List Leaf). x ∷ ls) (of_both table xs ys))
  | inr isnt ↦ rw isnt (of_both table xs ys)
]

module _ (d : Directory) (l : Leaf) (link : Link) (was : IsDirectory d) (there : Contains d.leaves l) where
  abbrev step : Leaf → Leaf
  step = step_of l.id link

  own_step : step l ≡ led_out link l
  own_step = step_own l.id link l refl

  -- ---- each

  -- it is the one that is led, or was there and is another
  pub which : (n : Leaf) → Contains (led_leaves d l link) n → (n ≡ led_out link l) ⊎ (Contains d.leaves n × (n.id ≡ l.id → ⊥))
  which n c =
      let one = contains-source step d.leaves n c in
      elim (cases_eq one.0.id l.id) [
        | inl same ↦ inl (sym one.2 ∙ (ap step (same-id d one.0 l was one.1 there same) ∙ own_step))
        | inr other ↦
            let is : one.0 ≡ n = sym (step_other l.id link one.0 other) ∙ one.2 in
            inr (subst (λ (x : Leaf). Contains d.leaves x) is one.1, subst (λ (x : Leaf). x.id ≡ l.id → ⊥) is other)
      ]

  pub led_there : Contains (led_leaves d l link) (led_out link l)
  led_there = subst (λ (x : Leaf). Contains (led_leaves d l link) x) own_step (contains-map step d.leaves l there)

  pub stays_there : (x : Leaf) → Contains d.leaves x → (x.id ≡ l.id → ⊥) → Contains (led_leaves d l link) x
  stays_there x c other = subst (λ (y : Leaf). Contains (led_leaves d l link) y) (step_other l.id link x other) (contains-map step d.leaves x c)

  -- ---- keys

  under_led : (table : ℕ) (key : List ℕ) → leaf_under table key d.leaves ≡ Some l → leaf_under table key (led_leaves d l link) ≡ Some (led_out link l)
  under_led table key found = under-to d was step (step_mild l.id link) table key l found ∙ ap (λ (x : Leaf). Some x) own_step

  pub under_led_was : (table : ℕ) (key : List ℕ) → leaf_under table key (led_leaves d l link) ≡ Some (led_out link l) → leaf_under table key d.leaves ≡ Some l
  under_led_was table key found = under-from d was step (step_mild l.id link) table key l there (found ∙ ap (λ (x : Leaf). Some x) (sym own_step))

  under_stays : (x : Leaf) → (x.id ≡ l.id → ⊥) → (table : ℕ) (key : List ℕ) → leaf_under table key d.leaves ≡ Some x → leaf_under table key (led_leaves d l link) ≡ Some x
  under_stays x other table key found = under-to d was step (step_mild l.id link) table key x found ∙ ap (λ (y : Leaf). Some y) (step_other l.id link x other)

  pub under_stayed : (x : Leaf) → Contains d.leaves x → (x.id ≡ l.id → ⊥) → (table : ℕ) (key : List ℕ) → leaf_under table key (led_leaves d l link) ≡ Some x → leaf_under table key d.leaves ≡ Some x
  under_stayed x c other table key found = under-from d was step (step_mild l.id link) table key x c (found ∙ ap (λ (y : Leaf). Some y) (sym (step_other l.id link x other)))

  -- ---- parts

  lie_stays : (x : Leaf) → (x.id ≡ l.id → ⊥) → (table : ℕ) (rows : List Row) → LieIn d.leaves table x rows → LieIn (led_leaves d l link) table x rows
  lie_stays x other table [] lie = tt
  lie_stays x other table (r ∷ rows) lie = (under_stays x other table r.0 lie.0, lie_stays x other table rows lie.1)

  pub part_stays : (x : Leaf) → (x.id ≡ l.id → ⊥) → (table : ℕ) (part : List Entry) (images : List (List Row)) → IsPart d.leaves table x part images → IsPart (led_leaves d l link) table x part images
  part_stays x other table part images is = record {
    fit = is.fit;
    climbs = is.climbs;
    begins = is.begins;
    stay = is.stay;
    full = is.full;
    some = is.some;
    rows_fit = is.rows_fit;
    lie = lie_stays x other table (join images) is.lie;
  }

  lie_led : (rows : List Row) → LieIn d.leaves l.table l rows → LieIn (led_leaves d l link) l.table (led_out link l) rows
  lie_led [] lie = tt
  lie_led (r ∷ rows) lie = (under_led l.table r.0 lie.0, lie_led rows lie.1)

  -- its one image
  pub part_led : (rows : List Row) → EntryFits (led_out link l).entry → AreFrom l.entry.key rows → 1 ≤ length rows → AreFit rows → LieIn d.leaves l.table l rows → IsPart (led_leaves d l link) l.table (led_out link l) ((led_out link l).entry ∷ []) (rows ∷ [])
  part_led rows fits from some fit lie =
      let joined : rows ≡ join (rows ∷ []) = sym (append-nil rows) in
      record {
        fit = (fits, tt);
        climbs = tt;
        begins = refl;
        stay = stays_alone (led_out link l).entry rows from;
        full = ((λ row none. absurd (none_some none)), tt);
        some = (some, tt);
        rows_fit = subst AreFit joined fit;
        lie = subst (LieIn (led_leaves d l link) l.table (led_out link l)) joined (lie_led rows lie);
      }

  -- ---- tables

  pub not_it : (table : ℕ) → (table ≡ l.table → ⊥) → (x : Leaf) → Member x (leaves_of table d.leaves) → x.id ≡ l.id → ⊥
  not_it table other x mine same = let at = in_table table d.leaves x mine in other (sym at.1 ∙ ap (λ (y : Leaf). y.table) (same-id d x l was (contains_of d.leaves x at.0) there same))

  pub table_still : (table : ℕ) → (table ≡ l.table → ⊥) → leaves_of table (led_leaves d l link) ≡ leaves_of table d.leaves
  table_still table other = of_map l.id link table d.leaves ∙ still l.id link (leaves_of table d.leaves) (not_it table other)

  -- the leaves of its own, before it and behind it
  pub record IsBeside : Type 0 where
    pub front : List Leaf
    pub back : List Leaf
    pub were : leaves_of l.table d.leaves ≡ front ++ l ∷ back
    pub are : leaves_of l.table (led_leaves d l link) ≡ front ++ led_out link l ∷ back
    pub ahead : (x : Leaf) → Member x front → x.id ≡ l.id → ⊥
    pub behind : (x : Leaf) → Member x back → x.id ≡ l.id → ⊥

  pub is_beside : IsBeside
  is_beside = record {
    front = leaves_of l.table a.front;
    back = leaves_of l.table a.back;
    were = had;
    are = of_map l.id link l.table d.leaves ∙ (ap (λ (ls : List Leaf). map step ls) had ∙ beside l.id link (leaves_of l.table a.front) (leaves_of l.table a.back) l refl before after);
    ahead = before;
    behind = after;
  }
    where
      a : IsAmong d.leaves l
      a = among d.leaves l was.once there

      own : leaves_of l.table (l ∷ a.back) ≡ l ∷ leaves_of l.table a.back
      own = let is : (l.table == l.table) ≡ true = eq-eqb l.table l.table refl in rw is refl

      had : leaves_of l.table d.leaves ≡ leaves_of l.table a.front ++ l ∷ leaves_of l.table a.back
      had = ap (λ (ls : List Leaf). leaves_of l.table ls) a.whole ∙ (of_both l.table a.front (l ∷ a.back) ∙ ap (λ (ls : List Leaf). leaves_of l.table a.front ++ ls) own)

      before : (x : Leaf) → Member x (leaves_of l.table a.front) → x.id ≡ l.id → ⊥
      before x mine = a.ahead x (contains_of a.front x (in_table l.table a.front x mine).0)

      after : (x : Leaf) → Member x (leaves_of l.table a.back) → x.id ≡ l.id → ⊥
      after x mine = a.behind x (contains_of a.back x (in_table l.table a.back x mine).0)
