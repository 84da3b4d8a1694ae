-- How the leaves of a table part its keys.
use Rattle.std.proofs.Common.{◌≡◌, ℕ, zero, suc, ◌<◌, ◌≤◌, true, false, List, [], ◌∷◌, length, get_or, Option, Some, None, refl, sym, ap, subst, ◌∙◌, inl, inr, arith}
use Rattle.std.specs.Prelude.{◌-◌, if◌then◌else◌, nat_eq, not, IsTrue}
use Rattle.std.specs.Option.{option_or}
use Rattle.std.specs.Ordering.{nat_cmp, is_lt}
use Rattle.std.specs.Cmp.Lexicographic.{slice_cmp}
use Rattle.std.proofs.lemmas.Bool.{and_from, and_parts, both_ways, cases_Bool, cases_eq, cases_lt, eq-eqb, false_from_ne_true, ne_eqb, not-true, not_from_false}
use Rattle.std.proofs.lemmas.Cmp.{nat_list_cmp_total, tied_itself}
use Rattle.std.proofs.lemmas.Option.{same_Some}
use Rattle.std.proofs.lemmas.List.{get_or_default}
use Rattle.std.specs.List.{Contains}
use Rattle.row_page.specs.Rows.{is_below}
use Rattle.stored.specs.TableTree.{ends_below}
use Rattle.tree_dir.specs.declared.leaf.Leaf.{Leaf}
use Rattle.tree_dir.specs.Leaves.{Directory, IsDirectory, begins_by, is_before, is_first_of, leaf_ahead, leaf_behind, leaf_last, leaf_under, of_table, place_key}
use Rattle.tree_dir.specs.Ranges.{FirstBegins, HasKey, HasUnder, IdsName, KeysHaveLeaves, LastEnds, NextGoesOn, NextTurns, PrevTurns, TablesEnd, UnderHas, low_key}
use Rattle.tree_dir.specs.Slots.{no_leaf}
use Rattle.tree_dir.proofs.KeyOrder.{begins-table, less-from, place-same, tables-less}
use Rattle.tree_dir.proofs.Looking.{ahead-at, ahead-none, behind-at, behind-none, named-at, under-at}
use Rattle.tree_dir.proofs.Members.{split}

-- the leaf at a place of the list
abbrev at : Directory → ℕ → Leaf
at d k = get_or d.leaves k no_leaf

-- ---- the order

before : (d : Directory) (i j : ℕ) → IsDirectory d → i < j → j < length d.leaves → is_before (at d i) (at d j) ≡ true
before d i j s lt within = s.ascends i j no_leaf lt within

up : (d : Directory) (i j : ℕ) → IsDirectory d → i < j → j < length d.leaves → (at d i).table ≤ (at d j).table
up d i j s lt within =
    let a = at d i in
    let b = at d j in
    tables-less a.table b.table a.entry.key b.entry.key (less-from (slice_cmp nat_cmp (place_key a) (place_key b)) (before d i j s lt within))

-- in one table low keys ascend
low-up : (a b : Leaf) → a.table ≡ b.table → is_before a b ≡ true → is_below a.entry.key b.entry.key ≡ true
low-up a b same h = sym (ap is_lt (place-same a.table b.table a.entry.key b.entry.key same)) ∙ h

pub below-on : (a b c : List ℕ) → is_below a b ≡ true → is_below b c ≡ true → is_below a c ≡ true
below-on a b c h g = ap is_lt (nat_list_cmp_total.trans a b c (less-from (slice_cmp nat_cmp a b) h) (less-from (slice_cmp nat_cmp b c) g))

not-itself : (k : List ℕ) → is_below k k ≡ false
not-itself k = ap is_lt (tied_itself nat_list_cmp_total k)

-- the empty key is above none
never-empty : (k : List ℕ) → is_below k [] ≡ false
never-empty [] = refl
never-empty (x ∷ k) = refl

pub begins-here : (table : ℕ) (key : List ℕ) (l : Leaf) → l.table ≡ table → is_below key l.entry.key ≡ false → begins_by table key l ≡ true
begins-here table key l same low = and_from (nat_eq l.table table) (not (is_below key l.entry.key)) (eq-eqb l.table table same) (not_from_false (is_below key l.entry.key) low)

pub begins-low : (table : ℕ) (key : List ℕ) (l : Leaf) → begins_by table key l ≡ true → is_below key l.entry.key ≡ false
begins-low table key l b = not-true (is_below key l.entry.key) (and_parts (nat_eq l.table table) (not (is_below key l.entry.key)) b).1

-- a leaf of the table that does not begin by the key is above it
above-key : (table : ℕ) (key : List ℕ) (l : Leaf) → l.table ≡ table → begins_by table key l ≡ false → is_below key l.entry.key ≡ true
above-key table key l same b = elim (cases_Bool (is_below key l.entry.key)) [
  | inl t ↦ t
  | inr f ↦ absurd (both_ways (begins_by table key l) b (begins-here table key l same f))
]

-- ---- the leaf behind

behind-next : (d : Directory) (r : ℕ) → IsDirectory d → suc r < length d.leaves → leaf_behind (at d r).id d.leaves ≡ of_table (at d r).table (at d (suc r))
behind-next d r s lt = behind-at (at d r).id d.leaves r no_leaf lt (λ k l e. s.once k r no_leaf l (omega (arith, lt)) e) refl

behind-end : (d : Directory) (r : ℕ) → IsDirectory d → r < length d.leaves → length d.leaves ≤ suc r → leaf_behind (at d r).id d.leaves ≡ None
behind-end d r s lt end = behind-none (at d r).id d.leaves no_leaf (λ k l e. s.once k r no_leaf (omega (arith, l, end)) lt e)

-- a next leaf is the one at the next place, of the same table
pub record IsNext (d : Directory) (r : ℕ) (n : Leaf) : Type 0 where
  pub within : suc r < length d.leaves
  pub is : at d (suc r) ≡ n
  pub same : (at d (suc r)).table ≡ (at d r).table

next-is : (d : Directory) (r : ℕ) (n : Leaf) → IsDirectory d → r < length d.leaves → leaf_behind (at d r).id d.leaves ≡ Some n → IsNext d r n
next-is d r n s lt e = elim (cases_lt (suc r) (length d.leaves)) [
  | inr end ↦ let clash = sym (behind-end d r s lt end) ∙ e in absurd cc
  | inl more ↦
      let own = sym (behind-next d r s more) ∙ e in
      elim (cases_eq (at d (suc r)).table (at d r).table) [
        | inl same ↦ record { within = more; is = same_Some (at d (suc r)) n (rw (eq-eqb (at d (suc r)).table (at d r).table same) at own); same = same }
        | inr other ↦ let clash = rw (ne_eqb (at d (suc r)).table (at d r).table other) at own in absurd cc
      ]
]

-- ---- the leaf under a key

pub none-begins : (table : ℕ) (key : List ℕ) (leaves : List Leaf) → leaf_under table key leaves ≡ None → (k : ℕ) → k < length leaves → begins_by table key (get_or leaves k no_leaf) ≡ false
none-begins table key [] e k lt = absurd (omega (arith, lt))
none-begins table key (x ∷ leaves) e k lt = go (leaf_under table key leaves) refl (none-begins table key leaves) k lt where
  go : (o : Option Leaf) → leaf_under table key leaves ≡ o → (leaf_under table key leaves ≡ None → (k : ℕ) → k < length leaves → begins_by table key (get_or leaves k no_leaf) ≡ false) → (k : ℕ) → k < suc (length leaves) → begins_by table key (get_or (x ∷ leaves) k no_leaf) ≡ false
  go (Some m) h rest k l = let clash = sym (ap (λ (o : Option Leaf). option_or o (if begins_by table key x then Some x else None)) h) ∙ e in absurd cc
  go None h rest zero l = elim (cases_Bool (begins_by table key x)) [
    | inr f ↦ f
    | inl t ↦
        let here = sym (ap (λ (o : Option Leaf). option_or o (if begins_by table key x then Some x else None)) h) ∙ e in
        let clash = rw t at here in absurd cc
  ]
  go None h rest (suc k) l = rest h k (omega (arith, l))

pub record IsLast (table : ℕ) (key : List ℕ) (leaves : List Leaf) (l : Leaf) : Type 0 where
  pub r : ℕ
  pub within : r < length leaves
  pub is : get_or leaves r no_leaf ≡ l
  pub begins : begins_by table key l ≡ true
  pub later : (k : ℕ) → r < k → k < length leaves → begins_by table key (get_or leaves k no_leaf) ≡ false

pub last-is : (table : ℕ) (key : List ℕ) (leaves : List Leaf) (l : Leaf) → leaf_under table key leaves ≡ Some l → IsLast table key leaves l
last-is table key [] l e = absurd cc
last-is table key (x ∷ leaves) l e = go (leaf_under table key leaves) refl (last-is table key leaves l) where
  go : (o : Option Leaf) → leaf_under table key leaves ≡ o → (leaf_under table key leaves ≡ Some l → IsLast table key leaves l) → IsLast table key (x ∷ leaves) l
  go (Some m) h rest =
      let same = same_Some m l (sym (ap (λ (o : Option Leaf). option_or o (if begins_by table key x then Some x else None)) h) ∙ e) in
      let more = rest (h ∙ ap (λ (y : Leaf). Some y) same) in
      record {
        r = suc more.r;
        within = omega (arith, more.within);
        is = more.is;
        begins = more.begins;
        later = λ k lt w. let back : k ≡ suc (k - 1) = omega (arith, lt) in subst (λ (j : ℕ). begins_by table key (get_or (x ∷ leaves) j no_leaf) ≡ false) (sym back) (more.later (k - 1) (omega (arith, lt)) (omega (arith, w, back)));
      }
  go None h rest =
      let here = sym (ap (λ (o : Option Leaf). option_or o (if begins_by table key x then Some x else None)) h) ∙ e in
      elim (cases_Bool (begins_by table key x)) [
        | inl t ↦
            let same = same_Some x l (rw t at here) in
            record {
              r = 0;
              within = omega arith;
              is = same;
              begins = subst (λ (y : Leaf). begins_by table key y ≡ true) same t;
              later = λ k lt w. let back : k ≡ suc (k - 1) = omega (arith, lt) in subst (λ (j : ℕ). begins_by table key (get_or (x ∷ leaves) j no_leaf) ≡ false) (sym back) (none-begins table key leaves h (k - 1) (omega (arith, w, back)));
            }
        | inr f ↦ let clash = rw f at here in absurd cc
      ]

-- ---- the laws

to-next : (d : Directory) (table : ℕ) (key : List ℕ) (l : Leaf) → IsDirectory d → IsLast table key d.leaves l → IsTrue (ends_below (low_key (leaf_behind l.id d.leaves)) key)
to-next d table key l s p = subst (λ (m : Leaf). IsTrue (ends_below (low_key (leaf_behind m.id d.leaves)) key)) p.is (go (leaf_behind (at d p.r).id d.leaves) refl) where
  go : (o : Option Leaf) → leaf_behind (at d p.r).id d.leaves ≡ o → IsTrue (ends_below (low_key o) key)
  go None e = refl
  go (Some n) e =
      let x = next-is d p.r n s p.within e in
      let own = ap (λ (m : Leaf). m.table) p.is ∙ begins-table table key l p.begins in
      subst (λ (m : Leaf). is_below key m.entry.key ≡ true) x.is (above-key table key (at d (suc p.r)) (x.same ∙ own) (p.later (suc p.r) (omega arith) x.within))

pub under-has : UnderHas
under-has d s table key l e =
    let p = last-is table key d.leaves l e in
    record {
      there = (p.r, p.within, get_or_default d.leaves p.r l no_leaf p.within ∙ p.is);
      table = begins-table table key l p.begins;
      from = not_from_false (is_below key l.entry.key) (begins-low table key l p.begins);
      to = to-next d table key l s p;
    }

-- a later leaf does not begin by a key that ends below the next one
later-not : (d : Directory) (table : ℕ) (key : List ℕ) (r k : ℕ) → IsDirectory d → (at d r).table ≡ table → IsTrue (ends_below (low_key (leaf_behind (at d r).id d.leaves)) key) → r < k → k < length d.leaves → begins_by table key (at d k) ≡ false
later-not d table key r k s own to lt within = false_from_ne_true (begins_by table key (at d k)) (λ b.
    let its = begins-table table key (at d k) b in
    let more : suc r < length d.leaves = omega (arith, lt, within) in
    let low = up d r (suc r) s (omega arith) more in
    elim (cases_eq k (suc r)) [
      | inl e ↦
          let same : (at d (suc r)).table ≡ (at d r).table = sym (ap (λ (j : ℕ). (at d j).table) e) ∙ (its ∙ sym own) in
          let next : leaf_behind (at d r).id d.leaves ≡ Some (at d (suc r)) = behind-next d r s more ∙ rw (eq-eqb (at d (suc r)).table (at d r).table same) refl in
          let ends = subst (λ (o : Option Leaf). IsTrue (ends_below (low_key o) key)) next to in
          both_ways (is_below key (at d k).entry.key) (begins-low table key (at d k) b) (ap (λ (j : ℕ). is_below key (at d j).entry.key) e ∙ ends)
      | inr n ↦
          let far : suc r < k = omega (arith, lt, n) in
          let high = up d (suc r) k s far within in
          let same : (at d (suc r)).table ≡ (at d r).table = omega (arith, low, high, its, own) in
          let next : leaf_behind (at d r).id d.leaves ≡ Some (at d (suc r)) = behind-next d r s more ∙ rw (eq-eqb (at d (suc r)).table (at d r).table same) refl in
          let ends = subst (λ (o : Option Leaf). IsTrue (ends_below (low_key o) key)) next to in
          let rise = low-up (at d (suc r)) (at d k) (same ∙ (own ∙ sym its)) (before d (suc r) k s far within) in
          both_ways (is_below key (at d k).entry.key) (begins-low table key (at d k) b) (below-on key (at d (suc r)).entry.key (at d k).entry.key ends rise)
    ])

pub has-under : HasUnder
has-under d s table key l h =
    let r = h.there.0 in
    let within = h.there.1 in
    let is = get_or_default d.leaves r no_leaf l within ∙ h.there.2 in
    let back = sym is in
    let begins = begins-here table key l h.table (not-true (is_below key l.entry.key) h.from) in
    let own = ap (λ (m : Leaf). m.table) is ∙ h.table in
    let to = subst (λ (m : Leaf). IsTrue (ends_below (low_key (leaf_behind m.id d.leaves)) key)) back h.to in
    under-at table key d.leaves r no_leaf within (ap (begins_by table key) is ∙ begins) (λ k lt w. later-not d table key r k s own to lt w)
    ∙ ap (λ (m : Leaf). Some m) is

pub keys-have : KeysHaveLeaves
keys-have d s m c key = go (leaf_under m.table key d.leaves) refl where
  go : (o : Option Leaf) → leaf_under m.table key d.leaves ≡ o → (l : Leaf) × HasKey d m.table key l
  go (Some l) e = (l, under-has d s m.table key l e)
  go None e =
      let f = s.begins m c in
      let first = f.0 in
      let begins = begins-here m.table key first f.2.0 (ap (is_below key) f.2.1 ∙ never-empty key) in
      let is = get_or_default d.leaves f.1.0 no_leaf first f.1.1 ∙ f.1.2 in
      absurd (both_ways (begins_by m.table key first) (sym (ap (begins_by m.table key) is) ∙ none-begins m.table key d.leaves e f.1.0 f.1.1) begins)

pub next-goes-on : NextGoesOn
next-goes-on d s table key l n h e =
    let r = h.there.0 in
    let is = get_or_default d.leaves r no_leaf l h.there.1 ∙ h.there.2 in
    let x = next-is d r n s h.there.1 (ap (λ (m : Leaf). leaf_behind m.id d.leaves) is ∙ e) in
    let own = sym (ap (λ (m : Leaf). m.table) x.is) ∙ (x.same ∙ (ap (λ (m : Leaf). m.table) is ∙ h.table)) in
    let low = n.entry.key in
    let under =
    under-at table low d.leaves (suc r) no_leaf x.within (ap (begins_by table low) x.is ∙ begins-here table low n own (not-itself low))
    (λ k lt w. false_from_ne_true (begins_by table low (at d k)) (λ b.
    let its = begins-table table low (at d k) b in
    let rise = low-up (at d (suc r)) (at d k) (ap (λ (m : Leaf). m.table) x.is ∙ (own ∙ sym its)) (before d (suc r) k s lt w) in
    both_ways (is_below low (at d k).entry.key) (begins-low table low (at d k) b) (sym (ap (λ (m : Leaf). is_below m.entry.key (at d k).entry.key) x.is) ∙ rise)))
    ∙ ap (λ (m : Leaf). Some m) x.is in
    (under-has d s table low n under, subst (λ (o : Option Leaf). IsTrue (ends_below (low_key o) key)) e h.to)

pub next-turns : NextTurns
next-turns d s l n c e =
    let r = c.0 in
    let is = get_or_default d.leaves r no_leaf l c.1 ∙ c.2 in
    let x = next-is d r n s c.1 (ap (λ (m : Leaf). leaf_behind m.id d.leaves) is ∙ e) in
    let back =
    ahead-at (at d (suc r)).id d.leaves r no_leaf x.within (λ k lt same. s.once (suc k) (suc r) no_leaf (omega (arith, lt)) x.within same) refl
    ∙ rw (eq-eqb (at d r).table (at d (suc r)).table (sym x.same)) refl in
    sym (ap (λ (m : Leaf). leaf_ahead m.id d.leaves) x.is) ∙ (back ∙ ap (λ (m : Leaf). Some m) is)

-- ---- the leaf before

ahead-of : (d : Directory) (r : ℕ) → IsDirectory d → suc r < length d.leaves → leaf_ahead (at d (suc r)).id d.leaves ≡ of_table (at d (suc r)).table (at d r)
ahead-of d r s lt = ahead-at (at d (suc r)).id d.leaves r no_leaf lt (λ k l same. s.once (suc k) (suc r) no_leaf (omega (arith, l)) lt same) refl

ahead-start : (d : Directory) → IsDirectory d → leaf_ahead (at d 0).id d.leaves ≡ None
ahead-start d s = ahead-none (at d 0).id d.leaves no_leaf (λ k lt e. s.once 0 (suc k) no_leaf (omega arith) lt (sym e))

pub prev-turns : PrevTurns
prev-turns d s l a c e = by c.0 c.1 (get_or_default d.leaves c.0 no_leaf l c.1 ∙ c.2) where
  by : (r : ℕ) → r < length d.leaves → at d r ≡ l → Contains d.leaves a × (a.table ≡ l.table) × (leaf_behind a.id d.leaves ≡ Some l)
  by zero lt is = let clash = sym (ahead-start d s) ∙ (ap (λ (m : Leaf). leaf_ahead m.id d.leaves) is ∙ e) in absurd cc
  by (suc r) lt is =
      let own = sym (ahead-of d r s lt) ∙ (ap (λ (m : Leaf). leaf_ahead m.id d.leaves) is ∙ e) in
      elim (cases_eq (at d r).table (at d (suc r)).table) [
        | inr other ↦ let clash = rw (ne_eqb (at d r).table (at d (suc r)).table other) at own in absurd cc
        | inl same ↦
            let it = same_Some (at d r) a (rw (eq-eqb (at d r).table (at d (suc r)).table same) at own) in
            let next : leaf_behind (at d r).id d.leaves ≡ Some (at d (suc r)) = behind-next d r s lt ∙ rw (eq-eqb (at d (suc r)).table (at d r).table (sym same)) refl in (
              (r, omega (arith, lt), get_or_default d.leaves r a no_leaf (omega (arith, lt)) ∙ it),
              sym (ap (λ (m : Leaf). m.table) it) ∙ (same ∙ ap (λ (m : Leaf). m.table) is),
              ap (λ (m : Leaf). leaf_behind m.id d.leaves) (sym it) ∙ (next ∙ ap (λ (m : Leaf). Some m) is),
            )
      ]

pub first-begins : FirstBegins
first-begins d s l c e = by c.0 c.1 (get_or_default d.leaves c.0 no_leaf l c.1 ∙ c.2) where
  f : (first : Leaf) × Contains d.leaves first × is_first_of l.table first
  f = s.begins l c

  there : at d f.1.0 ≡ f.0
  there = get_or_default d.leaves f.1.0 no_leaf f.0 f.1.1 ∙ f.1.2

  by : (r : ℕ) → r < length d.leaves → at d r ≡ l → l.entry.key ≡ []
  by r lt is = elim (cases_lt r f.1.0) [
    | inl low ↦
        let rise = low-up (at d r) (at d f.1.0) (ap (λ (m : Leaf). m.table) is ∙ (sym f.2.0 ∙ ap (λ (m : Leaf). m.table) (sym there))) (before d r f.1.0 s low f.1.1) in
        let onto : is_below (at d r).entry.key [] ≡ true = subst (λ (k : List ℕ). is_below (at d r).entry.key k ≡ true) (ap (λ (m : Leaf). m.entry.key) there ∙ f.2.1) rise in
        absurd (both_ways (is_below (at d r).entry.key []) (never-empty (at d r).entry.key) onto)
    | inr ge ↦ elim (cases_eq r f.1.0) [
      | inl same ↦ ap (λ (m : Leaf). m.entry.key) (sym is ∙ (ap (at d) same ∙ there)) ∙ f.2.1
      | inr apart ↦ absurd (behind r lt is (omega (arith, ge, apart)))
    ]
  ] where
    behind : (r : ℕ) → r < length d.leaves → at d r ≡ l → f.1.0 < r → ⊥
    behind zero lt is low = omega (arith, low)
    behind (suc r) lt is low =
        let own = sym (ahead-of d r s lt) ∙ (ap (λ (m : Leaf). leaf_ahead m.id d.leaves) is ∙ e) in
        let high = up d r (suc r) s (omega arith) lt in
        let its = ap (λ (m : Leaf). m.table) is in
        let first = ap (λ (m : Leaf). m.table) there ∙ f.2.0 in
        let least : (at d f.1.0).table ≤ (at d r).table = elim (cases_lt f.1.0 r) [
          | inl far ↦ up d f.1.0 r s far (omega (arith, lt))
          | inr near ↦ let one : f.1.0 ≡ r = omega (arith, near, low) in let same = ap (λ (k : ℕ). (at d k).table) one in omega (arith, same)
        ] in
        let same : (at d r).table ≡ (at d (suc r)).table = omega (arith, high, its, first, least) in
        let clash = rw (eq-eqb (at d r).table (at d (suc r)).table same) at own in absurd cc

-- ---- the last leaf

pub record IsEnd (table : ℕ) (leaves : List Leaf) (l : Leaf) : Type 0 where
  pub r : ℕ
  pub within : r < length leaves
  pub is : get_or leaves r no_leaf ≡ l
  pub own : l.table ≡ table
  pub later : (k : ℕ) → r < k → k < length leaves → (get_or leaves k no_leaf).table ≡ table → ⊥

none-of : (table : ℕ) (leaves : List Leaf) → leaf_last table leaves ≡ None → (k : ℕ) → k < length leaves → (get_or leaves k no_leaf).table ≡ table → ⊥
none-of table [] e k lt same = omega (arith, lt)
none-of table (x ∷ leaves) e k lt same = go (leaf_last table leaves) refl (none-of table leaves) k lt same where
  go : (o : Option Leaf) → leaf_last table leaves ≡ o → (leaf_last table leaves ≡ None → (k : ℕ) → k < length leaves → (get_or leaves k no_leaf).table ≡ table → ⊥) → (k : ℕ) → k < suc (length leaves) → (get_or (x ∷ leaves) k no_leaf).table ≡ table → ⊥
  go (Some m) h rest k lt same = let clash = sym (ap (λ (o : Option Leaf). option_or o (of_table table x)) h) ∙ e in absurd cc
  go None h rest zero lt same =
      let here = sym (ap (λ (o : Option Leaf). option_or o (of_table table x)) h) ∙ e in
      let clash = rw (eq-eqb x.table table same) at here in absurd cc
  go None h rest (suc k) lt same = rest h k (omega (arith, lt)) same

end-is : (table : ℕ) (leaves : List Leaf) (l : Leaf) → leaf_last table leaves ≡ Some l → IsEnd table leaves l
end-is table [] l e = absurd cc
end-is table (x ∷ leaves) l e = go (leaf_last table leaves) refl (end-is table leaves l) where
  go : (o : Option Leaf) → leaf_last table leaves ≡ o → (leaf_last table leaves ≡ Some l → IsEnd table leaves l) → IsEnd table (x ∷ leaves) l
  go (Some m) h rest =
      let same = same_Some m l (sym (ap (λ (o : Option Leaf). option_or o (of_table table x)) h) ∙ e) in
      let more = rest (h ∙ ap (λ (y : Leaf). Some y) same) in
      record {
        r = suc more.r;
        within = omega (arith, more.within);
        is = more.is;
        own = more.own;
        later = λ k lt w its. let back : k ≡ suc (k - 1) = omega (arith, lt) in more.later (k - 1) (omega (arith, lt)) (omega (arith, w, back)) (subst (λ (j : ℕ). (get_or (x ∷ leaves) j no_leaf).table ≡ table) back its);
      }
  go None h rest =
      let here = sym (ap (λ (o : Option Leaf). option_or o (of_table table x)) h) ∙ e in
      elim (cases_eq x.table table) [
        | inl t ↦
            let same = same_Some x l (rw (eq-eqb x.table table t) at here) in
            record {
              r = 0;
              within = omega arith;
              is = same;
              own = ap (λ (m : Leaf). m.table) (sym same) ∙ t;
              later = λ k lt w its. let back : k ≡ suc (k - 1) = omega (arith, lt) in none-of table leaves h (k - 1) (omega (arith, w, back)) (subst (λ (j : ℕ). (get_or (x ∷ leaves) j no_leaf).table ≡ table) back its);
            }
        | inr f ↦ let clash = rw (ne_eqb x.table table f) at here in absurd cc
      ]

pub last-ends : LastEnds
last-ends d s table l e =
    let p = end-is table d.leaves l e in
    let own = ap (λ (m : Leaf). m.table) p.is ∙ p.own in
    let none : leaf_behind (at d p.r).id d.leaves ≡ None = elim (cases_lt (suc p.r) (length d.leaves)) [
      | inr end ↦ behind-end d p.r s p.within end
      | inl more ↦ behind-next d p.r s more ∙ rw (ne_eqb (at d (suc p.r)).table (at d p.r).table (λ same. p.later (suc p.r) (omega arith) more (same ∙ own))) refl
    ] in
    ((p.r, p.within, get_or_default d.leaves p.r l no_leaf p.within ∙ p.is), p.own, ap (λ (m : Leaf). leaf_behind m.id d.leaves) (sym p.is) ∙ none)

pub tables-end : TablesEnd
tables-end [] m c = absurd (omega (arith, c.1))
tables-end (x ∷ leaves) m c = elim (split x m leaves c) [
  | inr later ↦ let f = tables-end leaves m later in (f.0, ap (λ (o : Option Leaf). option_or o (of_table m.table x)) f.1)
  | inl same ↦ go same (leaf_last m.table leaves) refl
] where
  go : x ≡ m → (o : Option Leaf) → leaf_last m.table leaves ≡ o → (l : Leaf) × (leaf_last m.table (x ∷ leaves) ≡ Some l)
  go same (Some l) h = (l, ap (λ (o : Option Leaf). option_or o (of_table m.table x)) h)
  go same None h = (x, ap (λ (o : Option Leaf). option_or o (of_table m.table x)) h ∙ rw (eq-eqb x.table m.table (ap (λ (y : Leaf). y.table) same)) refl)

pub ids-name : IdsName
ids-name d s l c =
    let is = get_or_default d.leaves c.0 no_leaf l c.1 ∙ c.2 in
    named-at l.id d.leaves c.0 no_leaf c.1 (λ k lt e. s.once k c.0 no_leaf lt c.1 (e ∙ sym (ap (λ (m : Leaf). m.id) is))) (ap (λ (m : Leaf). m.id) is)
    ∙ ap (λ (m : Leaf). Some m) is
