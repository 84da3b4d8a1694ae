-- The machine that an opening makes is valid.
use Rattle.std.proofs.Common.{◌≡◌, ◌⊎◌, ◌<◌, ◌≤◌, ◌+◌, ℕ, refl, ap, sym, ◌∙◌, Bool, true, false, ◌&&◌, List, [], ◌∷◌, ◌++◌, length, inl, inr, subst, arith, map}
use Rattle.std.specs.Prelude.{Option, Some, None, filter, not, nat_lt, ◌==◌, bytes_eq, slice_index_or}
use Rattle.std.specs.List.{list_any}
use Rattle.std.specs.declared.cmp.Ordering.{Ordering}
use Rattle.std.specs.declared.cmp.Ordering.TheVariants.{Less, Equal, Greater}
use Rattle.std.specs.Ordering.{nat_cmp, ordering_then, is_lt}
use Rattle.std.specs.Cmp.Lexicographic.{slice_cmp, lists_total}
use Rattle.std.specs.Cmp.{IsTotalOrder, then_total, on_total}
use Rattle.std.proofs.lemmas.Cmp.{nat_cmp_total}
use Rattle.std.proofs.lemmas.Map.Lookups.{exact_unsigned, exact_bytes}
use Rattle.std.proofs.lemmas.Bool.{cases_Bool, both_ways, and_parts, and_from, or_cases, or_left, or_right, eqb-true, eq-eqb, ltb-true, lt-ltb}
use Rattle.std.proofs.lemmas.Slice.Eq.{bytes_eq-Decides}
use Rattle.item.specs.declared.Change.{Change}
use Rattle.stamp.specs.declared.Name.{Name}
use Rattle.stamp.specs.declared.Version.{Version}
use Rattle.kv_model.specs.Holds.{Member, Descends}
use Rattle.kv_model.specs.Ordered.{NameBelow, Under, Follows, IsOrderly}
use Rattle.kv_model.specs.History.{Entry, Create, Table, Placed, Write, of_key, history_of, commit_of, write_of, is_at, writes_at, released, name_eq, tables, has_table, is_stable}
use Rattle.kv_model.specs.Machine.{Transaction}
use Rattle.kv_model.specs.Content.{Content, base, start, kept, kept_cells, is_kept_version, is_again, sees_name, sees_id, descending, placed_cmp, placed_lt, table_lt}
use Rattle.kv_model.specs.Regular.{AllApart, SameNumber, SameKey, SameVersion, IsRegular, IsVersionOf}
use Rattle.kv_model.specs.Valid.{Valid}
use Rattle.kv_model.proofs.Finishing.{line-base, tables-base, created-base, name_eq-refl, member-append}
use Rattle.std.specs.Option.{option_to_list}
use Rattle.kv_model.proofs.Releases.{released-whole, released-older, released-cases, released-mono, name_eq-same}
use Rattle.kv_model.proofs.Capturing.{member-out}
use Rattle.kv_model.proofs.OwnWrites.{at-parts}
use Rattle.kv_model.proofs.Sorting.{Lt, Sorts, member-descending, descending-member, descending-descends, total-self, total-sorts}

-- ---- the order of versions

placed-total : IsTotalOrder placed_cmp
placed-total = then_total (on_total (λ (p : Placed). p.version.window.name.run) nat_cmp_total) (then_total (on_total (λ (p : Placed). p.version.window.name.id) nat_cmp_total)
    (then_total (on_total (λ (p : Placed). p.table) nat_cmp_total) (on_total (λ (p : Placed). p.key) (lists_total nat_cmp_total))))

then-equal : (r s : Ordering) → ordering_then r s ≡ Equal → (r ≡ Equal) × (s ≡ Equal)
then-equal Less s e = absurd (cc)
then-equal Equal s e = (refl, e)
then-equal Greater s e = absurd (cc)

placed-equal : (p q : Placed) → placed_cmp p q ≡ Equal → SameVersion p q
placed-equal p q e =
    let one = then-equal (nat_cmp p.version.window.name.run q.version.window.name.run) _ e in
    let two = then-equal (nat_cmp p.version.window.name.id q.version.window.name.id) _ one.1 in
    let three = then-equal (nat_cmp p.table q.table) _ two.1 in
    ((exact_unsigned p.table q.table three.0, exact_bytes p.key q.key three.1), exact_unsigned p.version.window.name.run q.version.window.name.run one.0, exact_unsigned p.version.window.name.id q.version.window.name.id two.0)

pub placed-sorts : Sorts placed_lt SameVersion
placed-sorts = total-sorts placed_cmp SameVersion placed-total placed-equal

-- below in the order, a name is not above
nat-cases : (x y : ℕ) → ((nat_cmp x y ≡ Less) × (x < y)) ⊎ (((nat_cmp x y ≡ Equal) × (x ≡ y)) ⊎ ((nat_cmp x y ≡ Greater) × (y < x)))
nat-cases x y = elim (cases_Bool (nat_lt x y)) [
  | inl less ↦ inl (rw less refl, ltb-true x y less)
  | inr not_less ↦ elim (cases_Bool (x == y)) [
    | inl same ↦ inr (inl (rw (not_less, same) refl, eqb-true x y same))
    | inr other ↦ inr (inr (rw (not_less, other) refl, above not_less other))
  ]
] where
  above : nat_lt x y ≡ false → (x == y) ≡ false → y < x
  above a b = greater (λ le. both_ways (nat_lt x y) a (lt-ltb x y le)) (λ e. both_ways (x == y) b (eq-eqb x y e)) where
    greater : (x < y → ⊥) → (x ≡ y → ⊥) → y < x
    greater a b = omega (arith, a, b)

name-cases : (p q : Placed) → placed_lt p q ≡ true → NameBelow p.version.window.name q.version.window.name
    ⊎ ((p.version.window.name.run ≡ q.version.window.name.run) × (p.version.window.name.id ≡ q.version.window.name.id))
name-cases p q is = elim (nat-cases p.version.window.name.run q.version.window.name.run) [
  | inl less ↦ inl (inl less.1)
  | inr rest ↦ elim rest [
    | inl same ↦ elim (nat-cases p.version.window.name.id q.version.window.name.id) [
      | inl less ↦ inl (inr (same.1, less.1))
      | inr more ↦ elim more [
        | inl also ↦ inr (same.1, also.1)
        | inr above ↦ absurd (both_ways (placed_lt p q) (rw (same.0, above.0) refl) is)
      ]
    ]
    | inr above ↦ absurd (both_ways (placed_lt p q) (rw above.0 refl) is)
  ]
]

-- at one key the order is that of the names
name-below : (p q : Placed) → placed_lt p q ≡ true → p.table ≡ q.table → p.key ≡ q.key → NameBelow p.version.window.name q.version.window.name
name-below p q is table key = elim (name-cases p q is) [
  | inl below ↦ below
  | inr same ↦ absurd (both_ways (placed_lt p q) (ap is_lt (equal same.0 same.1)) is)
] where
  equal : p.version.window.name.run ≡ q.version.window.name.run → p.version.window.name.id ≡ q.version.window.name.id → placed_cmp p q ≡ Equal
  equal run id =
      ap (λ n. ordering_then (nat_cmp n q.version.window.name.run) (ordering_then (nat_cmp p.version.window.name.id q.version.window.name.id) (ordering_then (nat_cmp p.table q.table) (slice_cmp nat_cmp p.key q.key)))) run
      ∙ (ap (λ n. ordering_then (nat_cmp q.version.window.name.run q.version.window.name.run) (ordering_then (nat_cmp n q.version.window.name.id) (ordering_then (nat_cmp p.table q.table) (slice_cmp nat_cmp p.key q.key)))) id
      ∙ (ap (λ n. ordering_then (nat_cmp q.version.window.name.run q.version.window.name.run) (ordering_then (nat_cmp q.version.window.name.id q.version.window.name.id) (ordering_then (nat_cmp n q.table) (slice_cmp nat_cmp p.key q.key)))) table
      ∙ (ap (λ k. ordering_then (nat_cmp q.version.window.name.run q.version.window.name.run) (ordering_then (nat_cmp q.version.window.name.id q.version.window.name.id) (ordering_then (nat_cmp q.table q.table) (slice_cmp nat_cmp k q.key)))) key
      ∙ total-self placed_cmp placed-total q)))

not-above : (p q : Placed) → placed_lt p q ≡ true → NameBelow q.version.window.name p.version.window.name → ⊥
not-above p q is above = elim (name-cases p q is) [ inl below ↦ names p.version.window.name q.version.window.name below above | inr same ↦ names-same above same.0 same.1 ] where
  names : (x y : Name) → NameBelow x y → NameBelow y x → ⊥
  names x y (inl a) (inl b) = omega arith
  names x y (inl a) (inr b) = let e = b.0 in omega arith
  names x y (inr a) (inl b) = let e = a.0 in omega arith
  names x y (inr a) (inr b) = let e = a.1 in let f = b.1 in omega arith

  names-same : NameBelow q.version.window.name p.version.window.name → p.version.window.name.run ≡ q.version.window.name.run → p.version.window.name.id ≡ q.version.window.name.id → ⊥
  names-same (inl a) run id = omega arith
  names-same (inr a) run id = let e = a.1 in omega arith

-- ---- what the commits of a list release

abbrev commits : List Placed → List Table → List Entry
commits placed known = history_of known placed

creates-release : (known : List Table) (n : ℕ) (x : Name) → released (map Create known) n x ≡ true → ⊥
creates-release [] n x e = absurd (cc)
creates-release (t ∷ known) n x e = elim (released-cases (Create t) (map Create known) n x e) [ inl here ↦ let never = here.0 in absurd (cc) | inr later ↦ creates-release known n x later ]

-- whom a history of commits released, it has a version of
released-from : (known : List Table) (placed : List Placed) (n : ℕ) (x : Name) → released (commits placed known) n x ≡ true → (p : Placed) × Member p placed × (name_eq p.version.window.name x ≡ true)
released-from known [] n x e = absurd (creates-release known n x e)
released-from known (p ∷ placed) n x e = elim (released-cases (commit_of p) (commits placed known) n x e) [
  | inl here ↦ (p, inl refl, here.0)
  | inr later ↦ let q = released-from known placed n x later in (q.0, inr q.1, q.2)
]

released-there : (known : List Table) (placed : List Placed) (p : Placed) → Member p placed → released (commits placed known) (length (commits placed known)) p.version.window.name ≡ true
released-there known [] p there = absurd there
released-there known (q ∷ placed) p (inl same) = or_left (name_eq q.version.window.name p.version.window.name && nat_lt (length (commits placed known)) (length (commits (q ∷ placed) known))) (released (commits placed known) (length (commits (q ∷ placed) known)) p.version.window.name)
    (and_from (name_eq q.version.window.name p.version.window.name) (nat_lt (length (commits placed known)) (length (commits (q ∷ placed) known)))
    (subst (λ (z : Placed). name_eq z.version.window.name p.version.window.name ≡ true) same (name_eq-refl p.version.window.name)) (lt-ltb (length (commits placed known)) (length (commits (q ∷ placed) known)) (omega arith)))
released-there known (q ∷ placed) p (inr later) = released-whole (commits (q ∷ placed) known) (length (commits placed known)) p.version.window.name
    (released-older (commit_of q) (commits placed known) (length (commits placed known)) p.version.window.name (released-there known placed p later))

below-same : (x y z : Name) → name_eq y z ≡ true → NameBelow x z → NameBelow x y
below-same x y z e (inl a) = let s = name_eq-same y z e in let r = s.0 in inl (omega arith)
below-same x y z e (inr a) = let s = name_eq-same y z e in let r = s.1 in inr (a.0 ∙ sym s.0, (let l = a.1 in omega arith))

-- where a name is released, each older one is
released-under : (known : List Table) (placed : List Placed) → Descends (Lt placed_lt) placed → (q : Placed) → Member q placed → (x : Name) → NameBelow q.version.window.name x → (n : ℕ)
    → released (commits placed known) n x ≡ true → released (commits placed known) n q.version.window.name ≡ true
released-under known [] d q there x below n e = absurd there
released-under known (r ∷ placed) d q (inl same) x below n e = elim (released-cases (commit_of r) (commits placed known) n x e) [
  | inl here ↦ let at = here.1 in released-mono (commits (r ∷ placed) known) (length (commits (r ∷ placed) known)) n q.version.window.name (omega arith) (released-there known (r ∷ placed) q (inl same))
  | inr later ↦ let s = released-from known placed n x later in
      absurd (not-above s.0 r (d.0 s.0 s.1) (subst (λ (z : Placed). NameBelow z.version.window.name s.0.version.window.name) same (below-same q.version.window.name s.0.version.window.name x s.2 below)))
]
released-under known (r ∷ placed) d q (inr there) x below n e = elim (released-cases (commit_of r) (commits placed known) n x e) [
  | inl here ↦ let at = here.1 in released-older (commit_of r) (commits placed known) n q.version.window.name
      (released-mono (commits placed known) (length (commits placed known)) n q.version.window.name (omega arith) (released-there known placed q there))
  | inr later ↦ released-older (commit_of r) (commits placed known) n q.version.window.name (released-under known placed d.1 q there x below n later)
]

-- ---- the history is orderly

pub of-key-from : (table : ℕ) (key : List ℕ) (placed : List Placed) (v : Version Change) → Member v (of_key table key placed) → (q : Placed) × Member q placed × (is_at table key q ≡ true) × (v ≡ q.version)
of-key-from table key placed v there = let p = from (filter (is_at table key) placed) there in let o = member-out (is_at table key) placed p.0 p.1 in (p.0, o.0, o.1, p.2) where
  from : (l : List Placed) → Member v (map {A = Placed} (λ p. p.version) l) → (q : Placed) × Member q l × (v ≡ q.version)
  from [] there = absurd there
  from (q ∷ l) (inl same) = (q, inl refl, same)
  from (q ∷ l) (inr later) = let p = from l later in (p.0, inr p.1, p.2)

pub at-placed : (table : ℕ) (key : List ℕ) (q : Placed) → is_at table key q ≡ true → (q.table ≡ table) × (q.key ≡ key)
at-placed table key q e = let p = and_parts (q.table == table) (bytes_eq q.key key) e in (eqb-true q.table table p.0, (bytes_eq-Decides q.key key).0 p.1)

one-write : (w : Write) (table : ℕ) (key : List ℕ) → (found : Option Write) × (filter (writes_at table key) (w ∷ []) ≡ option_to_list found)
one-write w table key = elim (cases_Bool (writes_at table key w)) [ inl is ↦ (Some w, rw is refl) | inr isnt ↦ (None, rw isnt refl) ]

commit-follows : (known : List Table) (p : Placed) (placed : List Placed) → Descends (Lt placed_lt) (p ∷ placed) → p.version.window.commit ≤ p.version.window.durable → has_table known p.table ≡ true
    → Follows p.version.window.name (write_of p ∷ []) (commits placed known)
commit-follows known p placed d stamps has = record {
  single = one-write (write_of p);
  above = λ table key w of v there. let q = of-key-from table key placed v (subst (λ l. Member v l) (line-base known placed table key) there) in
      let o = member-out (writes_at table key) (write_of p ∷ []) w of in
      let mine : (p.table ≡ table) × (p.key ≡ key) = at-parts table key (write_of p) (subst (λ (z : Write). writes_at table key z ≡ true) (only w o.0) o.1) in
      let theirs = at-placed table key q.0 q.2 in
      subst (λ (z : Version Change). Under p.version.window.name (commits placed known) z) (sym q.3)
      (under q.0 q.1 (name-below q.0 p (d.0 q.0 q.1) (theirs.0 ∙ sym mine.0) (theirs.1 ∙ sym mine.1)));
  stamps = λ w of. subst (λ (z : Write). z.commit ≤ z.durable) (sym (only w of)) stamps;
  placed = λ w of. subst (λ (z : Write). has_table (tables (commits placed known)) z.table ≡ true) (sym (only w of)) (subst (λ l. has_table l p.table ≡ true) (sym (tables-base known placed)) has);
} where
  only : (w : Write) → Member w (write_of p ∷ []) → w ≡ write_of p
  only w (inl same) = same
  only w (inr none) = absurd none

  under : (q : Placed) → Member q placed → NameBelow q.version.window.name p.version.window.name → Under p.version.window.name (commits placed known) q.version
  under q there below = record {
    below = below;
    sooner = λ n e. released-under known placed d.1 q there p.version.window.name below n e;
    whole = released-there known placed q there;
  }

creates-orderly : (known : List Table) → Descends (Lt table_lt) known → ((t u : Table) → Member t known → Member u known → t.name ≡ u.name → t.number ≡ u.number) → IsOrderly (map Create known)
creates-orderly [] d names = tt
creates-orderly (t ∷ known) d names = (
  record {
    number = λ u there. ltb-true u.number t.number (d.0 u (subst (Member u) (created-base known []) there));
    name = λ u at same. let there = subst (Member u) (tables-base known []) at in let e = names u t (inr there) (inl refl) same in let l = ltb-true u.number t.number (d.0 u there) in omega arith;
  },
  creates-orderly known d.1 (λ a b at there. names a b (inr at) (inr there)),
)

commits-orderly : (known : List Table) (placed : List Placed) → Descends (Lt placed_lt) placed → ((p : Placed) → Member p placed → (p.version.window.commit ≤ p.version.window.durable) × (has_table known p.table ≡ true))
    → IsOrderly (map Create known) → IsOrderly (commits placed known)
commits-orderly known [] d each creates = creates
commits-orderly known (p ∷ placed) d each creates = (commit-follows known p placed d (each p (inl refl)).0 (each p (inl refl)).1, commits-orderly known placed d.1 (λ q there. each q (inr there)) creates)

-- ---- what is kept

pub table-kept : (lt : Table → Table → Bool) (l : List Table) (number : ℕ) → has_table l number ≡ true → has_table (descending lt l) number ≡ true
table-kept lt l number e = let t = from l e in to (descending lt l) t.0 (descending-member lt l t.0 t.1) t.2 where
  from : (l : List Table) → has_table l number ≡ true → (t : Table) × Member t l × ((t.number == number) ≡ true)
  from [] e = absurd (cc)
  from (t ∷ ts) e = elim (or_cases (t.number == number) (has_table ts number) e) [ inl here ↦ (t, inl refl, here) | inr later ↦ let u = from ts later in (u.0, inr u.1, u.2) ]

  to : (l : List Table) (t : Table) → Member t l → (t.number == number) ≡ true → has_table l number ≡ true
  to [] t there e = absurd there
  to (u ∷ us) t (inl same) e = or_left (u.number == number) (has_table us number) (subst (λ (z : Table). (z.number == number) ≡ true) same e)
  to (u ∷ us) t (inr there) e = or_right (u.number == number) (has_table us number) (to us t there e)

apart-filter : {A : Type 0} (Clash More : A → A → Type 0) (keeps : A → Bool) (l : List A) → ((x y : A) → More x y → Clash x y) → AllApart Clash l → AllApart More (filter keeps l)
apart-filter Clash More keeps [] fewer a = tt
apart-filter Clash More keeps (x ∷ xs) fewer a = elim (cases_Bool (keeps x)) [
  | inl is ↦ rw is ((λ y there c. a.0 y (member-out keeps xs y there).0 (fewer x y c)), apart-filter Clash More keeps xs fewer a.1)
  | inr isnt ↦ rw isnt (apart-filter Clash More keeps xs fewer a.1)
]

apart-append : {A : Type 0} (Clash : A → A → Type 0) (l r : List A) → AllApart Clash l → AllApart Clash r → ((x y : A) → Member x l → Member y r → Clash x y → ⊥) → AllApart Clash (l ++ r)
apart-append Clash [] r a b cross = b
apart-append {A} Clash (x ∷ xs) r a b cross = ((λ y there c. elim (member-append y xs r there) [ inl at ↦ a.0 y at c | inr at ↦ cross x y (inl refl) at c ]), apart-append Clash xs r a.1 b (λ y z at there. cross y z (inr at) there))

again-from : (p q : Placed) → SameVersion p q → is_again q p ≡ true
again-from p q s = and_from (is_at p.table p.key q) (name_eq q.version.window.name p.version.window.name)
    (and_from (q.table == p.table) (bytes_eq q.key p.key) (eq-eqb q.table p.table (sym s.0.0)) ((bytes_eq-Decides q.key p.key).1 (sym s.0.1)))
    (and_from (q.version.window.name.run == p.version.window.name.run) (q.version.window.name.id == p.version.window.name.id) (eq-eqb q.version.window.name.run p.version.window.name.run (sym s.1)) (eq-eqb q.version.window.name.id p.version.window.name.id (sym s.2)))

pub any-there : {A : Type 0} (test : A → Bool) (l : List A) (x : A) → Member x l → test x ≡ true → list_any test l ≡ true
any-there test [] x there e = absurd there
any-there test (y ∷ ys) x (inl same) e = or_left (test y) (list_any test ys) (subst (λ z. test z ≡ true) same e)
any-there test (y ∷ ys) x (inr there) e = or_right (test y) (list_any test ys) (any-there test ys x there e)

abbrev pub is_other : Content → Placed → Bool
is_other c p = is_kept_version c p && not (list_any (is_again p) (kept_cells c))

kept-apart : (c : Content) → IsRegular c → AllApart SameVersion (kept c)
kept-apart c r = apart-append SameVersion (kept_cells c) (filter (is_other c) c.records)
    (apart-filter SameKey SameVersion (is_kept_version c) c.cells (λ p q s. s.0) r.cells)
    (apart-filter SameVersion SameVersion (is_other c) c.records (λ p q s. s) r.records)
    (λ p q there at s. let o = (member-out (is_other c) c.records q at).1 in let n = (and_parts (is_kept_version c q) (not (list_any (is_again q) (kept_cells c))) o).1 in
    not_both (list_any (is_again q) (kept_cells c)) (any-there (is_again q) (kept_cells c) p there (again-from p q s)) n) where
      not_both : (b : Bool) → b ≡ true → not b ≡ true → ⊥
      not_both true e f = absurd (cc)
      not_both false e f = absurd (cc)

pub kept-from : (c : Content) (p : Placed) → Member p (kept c) → IsVersionOf c p × (is_kept_version c p ≡ true)
kept-from c p there = elim (member-append p (kept_cells c) (filter (is_other c) c.records) there) [
  | inl at ↦ let o = member-out (is_kept_version c) c.cells p at in (inl o.0, o.1)
  | inr at ↦ let o = member-out (is_other c) c.records p at in (inr o.0, (and_parts (is_kept_version c p) (not (list_any (is_again p) (kept_cells c))) o.1).0)
]

-- a name that is seen is not of a later run
seen-run : (run : ℕ) (c : Content) (x : Name) → sees_name c.run c.snapshot x ≡ true → x.run < c.run + 1
seen-run run c x e = elim (or_cases (nat_lt x.run c.run) ((x.run == c.run) && sees_id c.snapshot x.id) e) [
  | inl below ↦ let l = ltb-true x.run c.run below in omega arith
  | inr same ↦ let l = eqb-true x.run c.run (and_parts (x.run == c.run) (sees_id c.snapshot x.id) same).0 in omega arith
]

table-sorts : Sorts table_lt SameNumber
table-sorts = record {
  trans = λ t u v one two. lt-ltb t.number v.number (let a = ltb-true t.number u.number one in let b = ltb-true u.number v.number two in omega arith);
  connex = λ t u apart other. elim (nat-cases t.number u.number) [
    | inl less ↦ lt-ltb t.number u.number less.1
    | inr rest ↦ elim rest [ inl same ↦ absurd (apart same.1) | inr above ↦ absurd (both_ways (nat_lt u.number t.number) other (lt-ltb u.number t.number above.1)) ]
  ];
}

pub no-seat : (s : ℕ) (t : Transaction) → slice_index_or [] s None ≡ Some t → ⊥
no-seat s t e = absurd (cc)

pub start-valid : (c : Content) → IsRegular c → Valid (start c)
start-valid c r = record {
  run = omega arith;
  next = omega arith;
  orderly = commits-orderly (descending table_lt c.tables) (descending placed_lt (kept c))
      (descending-descends placed_lt SameVersion placed-sorts (kept c) (kept-apart c r))
      (λ p there. let k = kept-from c p (member-descending placed_lt (kept c) p there) in
      (r.stamps p k.0, table-kept table_lt c.tables p.table (and_parts (has_table c.tables p.table) (sees_name c.run c.snapshot p.version.window.name && is_stable c.stable p.version) k.1).0))
      (creates-orderly (descending table_lt c.tables) (descending-descends table_lt SameNumber table-sorts c.tables r.numbers)
      (λ t u at there. r.names t u (member-descending table_lt c.tables t at) (member-descending table_lt c.tables u there)));
  names = λ x e. let p = released-from (descending table_lt c.tables) (descending placed_lt (kept c)) (length (base c)) x e in
      let k = kept-from c p.0 (member-descending placed_lt (kept c) p.0 p.1) in
      let sees = (and_parts (sees_name c.run c.snapshot p.0.version.window.name) (is_stable c.stable p.0.version) (and_parts (has_table c.tables p.0.table) (sees_name c.run c.snapshot p.0.version.window.name && is_stable c.stable p.0.version) k.1).1).0 in
      let low = seen-run c.run c p.0.version.window.name sees in let same = (name_eq-same p.0.version.window.name x p.2).0 in inl (omega arith);
  stamps = r.fit;
  sessions = record {
    each = λ s t there. absurd (no-seat s t there);
    distinct = λ s q t u there. absurd (no-seat s t there);
    apart = λ s q t u table key there. absurd (no-seat s t there);
  };
  checkpoint = λ k runs. let none : None ≡ Some k = runs in absurd (cc);
  cursors = record {
    seats = refl;
    all = λ s lt. absurd (omega arith);
    reset = λ s cursor none. refl;
  };
}
