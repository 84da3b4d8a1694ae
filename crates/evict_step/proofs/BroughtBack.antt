-- A leaf that comes back, version by version.
use Rattle.std.proofs.Common.{◌≡◌, ◌≤◌, ◌-◌, ℕ, zero, suc, Bool, true, false, refl, ap, sym, ◌∙◌, List, [], ◌∷◌, ◌++◌, length, map, drop, inl, inr, subst, arith}
use Rattle.std.specs.Prelude.{Option, Some, None, bytes_eq, if◌then◌else◌, option_map, slice_get}
use Rattle.std.specs.List.{AllByRecursion}
use Rattle.std.specs.Option.{option_to_list}
use Rattle.std.proofs.lemmas.Bool.{cases_Bool}
use Rattle.std.proofs.lemmas.Option.{same_Some}
use Rattle.item.specs.declared.Change.{Change}
use Rattle.stamp.specs.declared.Version.{Version}
use Rattle.kv_model.specs.History.{name_eq}
use Rattle.kv_model.specs.Holds.{Descends, Member}
use Rattle.kv_model.specs.Ordered.{Older}
use Rattle.kv_model.proofs.Releases.{name_eq-same}
use Rattle.row_page.specs.declared.change.CellChange.TheVariants.{Put, Remove}
use Rattle.row_page.specs.Changes.{PageChange, change_in, version_in}
use Rattle.row_page.specs.Rows.{Ascends, Row, RowFits, is_below, key_most}
use Rattle.row_page.proofs.Ascending.{above_differs, all_above}
use Rattle.leaf_rows.specs.Rows.{AreFit}
use Rattle.reconcile.specs.Shows.{shown_at}
use Rattle.reconcile.proofs.Keyed.{key_self, none_above, same_key}
use Rattle.update_chain.specs.declared.update.Update.{Update}
use Rattle.update_chain.specs.Updates.{installed, unmarked_update}
use Rattle.leaf_chains.specs.Slots.{chain_at, with_update}
use Rattle.leaf_chains.proofs.Installs.{installs_change, installs_keep}
use Rattle.reconcile.specs.Capture.{ChainsFit}
use Rattle.reconcile.specs.Cells.{cell_change, cell_version}
use Rattle.reconcile.proofs.Fitting.{install_fits}
use Rattle.reconcile.specs.declared.image.Moved.{Moved}
use Rattle.reconcile.specs.Held.{held_at, versions}
use Rattle.reconcile.specs.Moving.{versions_in}
use Rattle.leaf_frame.specs.Leaf.{HeldLeaf}
use Rattle.engine_world.specs.Coming.{ComesFrom}
use Rattle.evict_step.specs.Backs.{AllFit, AreNewestFirst, HasVersions, is_again, unlike, with_shown, with_version}

-- ---- one version on top

-- an older version is of another name
apart : (v w : Version Change) → Older w v → name_eq w.window.name v.window.name ≡ false
apart v w below = elim (cases_Bool (name_eq w.window.name v.window.name)) [
  | inl is ↦ let same = name_eq-same w.window.name v.window.name is in absurd (elim below [
    | inl run ↦ (let r = same.0 in omega (arith, run, r))
    | inr id ↦ (let i = same.1 in let less = id.1 in omega (arith, less, i))
  ])
  | inr isnt ↦ isnt
]

on-top : (v : Version Change) (older : List (Version Change)) → Descends Older (v ∷ older) → installed (unmarked_update v) (map unmarked_update older) ≡ map unmarked_update (v ∷ older)
on-top v [] down = refl
on-top v (w ∷ older) down = rw (apart v w (down.0 w (inl refl))) refl

pub put-holds : (leaf later : HeldLeaf) (key : List ℕ) (v : Version Change) (held : List ℕ → List (Version Change)) → later ≡ record leaf { chains = with_update key (unmarked_update v) leaf.chains } → HasVersions leaf held
    → Descends Older (with_version key v held key) → HasVersions later (with_version key v held)
put-holds leaf later key v held is h down = record {
  page = ap (λ (x : HeldLeaf). x.page) is ∙ h.page;
  chains = λ other. ap (λ (x : HeldLeaf). chain_at other x.chains) is ∙ by other;
} where
  newest : Descends Older (v ∷ held key)
  newest = subst (λ (b : Bool). Descends Older (if b then v ∷ held key else held key)) (key_self key) down

  here : chain_at key (with_update key (unmarked_update v) leaf.chains) ≡ map unmarked_update (v ∷ held key)
  here = installs_change key (unmarked_update v) leaf.chains ∙ (ap (installed (unmarked_update v)) (h.chains key) ∙ on-top v (held key) newest)

  by : (other : List ℕ) → chain_at other (with_update key (unmarked_update v) leaf.chains) ≡ map unmarked_update (with_version key v held other)
  by other = elim (cases_Bool (bytes_eq key other)) [
    | inl is ↦ rw is (subst (λ (k : List ℕ). chain_at k (with_update key (unmarked_update v) leaf.chains) ≡ map unmarked_update (v ∷ held k)) (same_key key other is) here)
    | inr isnt ↦ rw isnt (installs_keep key other (unmarked_update v) leaf.chains (different other isnt) ∙ h.chains other)
  ] where
    different : (other : List ℕ) → bytes_eq key other ≡ false → other ≡ key → ⊥
    different other isnt same = let clash : false ≡ true = sym isnt ∙ (ap (bytes_eq key) same ∙ key_self key) in absurd cc

pub put-fits : (leaf later : HeldLeaf) (key : List ℕ) (v : Version Change) → later ≡ record leaf { chains = with_update key (unmarked_update v) leaf.chains } → ChainsFit leaf.chains → RowFits [] key_most (key, cell_version v) → ChainsFit later.chains
put-fits leaf later key v is fit new = subst (λ (x : HeldLeaf). ChainsFit x.chains) (sym is) (install_fits key (unmarked_update v) leaf.chains new fit)

-- one more version, on top of those of its key
pub record PutsOne (leaf later : HeldLeaf) (key : List ℕ) (v : Version Change) : Type 0 where
  pub holds : (held : List ℕ → List (Version Change)) → HasVersions leaf held → Descends Older (with_version key v held key) → HasVersions later (with_version key v held)
  pub fit : ChainsFit leaf.chains → RowFits [] key_most (key, cell_version v) → ChainsFit later.chains

-- the same versions, said in another way
pub holds-as : (leaf : HeldLeaf) (held others : List ℕ → List (Version Change)) → ((key : List ℕ) → held key ≡ others key) → HasVersions leaf held → HasVersions leaf others
holds-as leaf held others same h = record { page = h.page; chains = λ key. h.chains key ∙ ap (map unmarked_update) (same key) }

-- ---- versions that moved

pub versions-cons : (m : Moved) (moved : List Moved) (key : List ℕ) → with_version m.key m.version (λ k. versions_in k moved) key ≡ versions_in key (m ∷ moved)
versions-cons m moved key = elim (cases_Bool (bytes_eq m.key key)) [ inl is ↦ rw is refl | inr isnt ↦ rw isnt refl ]

versions-behind : (key : List ℕ) (front moved : List Moved) → Descends Older (versions_in key (front ++ moved)) → Descends Older (versions_in key moved)
versions-behind key [] moved down = down
versions-behind key (m ∷ front) moved down = versions-behind key front moved (elim (cases_Bool (bytes_eq m.key key)) [
  | inl is ↦ (rw is at down).1
  | inr isnt ↦ rw isnt at down
])

fit-behind : (front : List Moved) (m : Moved) (moved : List Moved) → AllFit (front ++ m ∷ moved) → RowFits [] key_most (m.key, cell_version m.version)
fit-behind [] m moved all = all.0
fit-behind (x ∷ front) m moved all = fit-behind front m moved all.1

-- those that are put, and those that are left
pub record PutsMoved (all left : List Moved) (leaf later : HeldLeaf) : Type 0 where
  pub done : List Moved
  pub whole : left ++ done ≡ all
  pub holds : HasVersions leaf (λ key. []) → ((key : List ℕ) → Descends Older (versions_in key all)) → HasVersions later (λ key. versions_in key done)
  pub fit : ChainsFit leaf.chains → ChainsFit later.chains

append-one : {A : Type 0} (xs : List A) (x : A) (ys : List A) → (xs ++ x ∷ []) ++ ys ≡ xs ++ x ∷ ys
append-one [] x ys = refl
append-one {A} (z ∷ xs) x ys = ap (λ (l : List A). z ∷ l) (append-one xs x ys)

-- none is put yet
pub none-moved : (all : List Moved) (leaf : HeldLeaf) → PutsMoved all all leaf leaf
none-moved all leaf = record { done = []; whole = append-none all; holds = λ h down. h; fit = λ fit. fit } where
  append-none : (l : List Moved) → l ++ [] ≡ l
  append-none [] = refl
  append-none (m ∷ l) = ap (λ (k : List Moved). m ∷ k) (append-none l)

pub puts-moved : (all front left : List Moved) (m : Moved) (leaf middle later : HeldLeaf) → left ≡ front ++ m ∷ [] → AllFit all → PutsMoved all left leaf middle → PutsOne middle later m.key m.version → PutsMoved all front leaf later
puts-moved all front left m leaf middle later is fit p one = record {
  done = m ∷ p.done;
  whole = whole;
  holds = λ h down. holds-as later (with_version m.key m.version (λ key. versions_in key p.done)) (λ key. versions_in key (m ∷ p.done)) (versions-cons m p.done)
      (one.holds (λ key. versions_in key p.done) (p.holds h down)
      (subst (Descends Older) (sym (versions-cons m p.done m.key)) (versions-behind m.key front (m ∷ p.done) (subst (λ (l : List Moved). Descends Older (versions_in m.key l)) (sym whole) (down m.key)))));
  fit = λ before. one.fit (p.fit before) (fit-behind front m p.done (subst AllFit (sym whole) fit));
} where
  whole : front ++ m ∷ p.done ≡ all
  whole = sym (append-one front m p.done) ∙ (ap (λ (l : List Moved). l ++ p.done) (sym is) ∙ p.whole)

-- none is left
pub moved-put : (all left : List Moved) (leaf later : HeldLeaf) → left ≡ [] → PutsMoved all left leaf later → HasVersions leaf (λ key. []) → ((key : List ℕ) → Descends Older (versions_in key all)) → HasVersions later (λ key. versions_in key all)
moved-put all left leaf later none p h down = subst (λ (l : List Moved). HasVersions later (λ key. versions_in key l)) (ap (λ (l : List Moved). l ++ p.done) (sym none) ∙ p.whole) (p.holds h down)

-- ---- rows

drop-at : {A : Type 0} (l : List A) (i : ℕ) (x : A) → slice_get l i ≡ Some x → drop i l ≡ x ∷ drop (suc i) l
drop-at [] i x at = absurd cc
drop-at {A} (y ∷ l) zero x at = ap (λ (z : A). z ∷ l) (same_Some y x at)
drop-at (y ∷ l) (suc i) x at = drop-at l i x at

drop-ascends : (before : Option (List ℕ)) (rows : List Row) (i : ℕ) (r : Row) → Ascends before rows → slice_get rows i ≡ Some r → Ascends (Some r.0) (drop (suc i) rows)
drop-ascends before [] i r up at = absurd cc
drop-ascends before (q ∷ rows) zero r up at = subst (λ (x : Row). Ascends (Some x.0) rows) (same_Some q r at) up.1
drop-ascends before (q ∷ rows) (suc i) r up at = drop-ascends (Some q.0) rows i r up.1 at

-- the row that stands at a place is the one that its key has among those from there on
pub shown-cons : (r : Row) (rest : List Row) (held : List ℕ → List (Version Change)) → shown_at r.0 rest ≡ None → (key : List ℕ) → with_version r.0 (version_in r.1) (with_shown rest held) key ≡ with_shown (r ∷ rest) held key
shown-cons r rest held none key = elim (cases_Bool (bytes_eq r.0 key)) [
  | inl is ↦ let here : shown_at key rest ≡ None = subst (λ (k : List ℕ). shown_at k rest ≡ None) (same_key r.0 key is) none in
      rw is (ap (λ (o : Option (Version Change)). version_in r.1 ∷ (option_to_list o ++ held key)) here)
  | inr isnt ↦ rw isnt refl
]

none-shown : (before : Option (List ℕ)) (rows : List Row) (i : ℕ) (r : Row) → Ascends before rows → slice_get rows i ≡ Some r → shown_at r.0 (drop (suc i) rows) ≡ None
none-shown before rows i r up at = ap (option_map version_in) (none_above r.0 (drop (suc i) rows) (all_above r.0 (drop (suc i) rows) (drop-ascends before rows i r up at)))

fit-at : (rows : List Row) (i : ℕ) (r : Row) → AllByRecursion (λ (x : Row). RowFits [] key_most x) rows → slice_get rows i ≡ Some r → RowFits [] key_most r
fit-at [] i r all at = absurd cc
fit-at (q ∷ rows) zero r all at = subst (λ (x : Row). RowFits [] key_most x) (same_Some q r at) all.0
fit-at (q ∷ rows) (suc i) r all at = fit-at rows i r all.1 at

-- it is that of the key among all of them, since none before it has the key
shown-there : (before : Option (List ℕ)) (rows : List Row) (i : ℕ) (r : Row) → Ascends before rows → slice_get rows i ≡ Some r → shown_at r.0 rows ≡ Some (version_in r.1)
shown-there before [] i r up at = absurd cc
shown-there before (q ∷ rows) zero r up at = subst (λ (x : Row). shown_at x.0 (q ∷ rows) ≡ Some (version_in x.1)) (same_Some q r at) (rw (key_self q.0) refl)
shown-there before (q ∷ rows) (suc i) r up at = elim (cases_Bool (bytes_eq q.0 r.0)) [
  | inl is ↦ absurd (differs is)
  | inr isnt ↦ rw isnt (shown-there (Some q.0) rows i r up.1 at)
] where
  above-at : (l : List Row) (j : ℕ) → AllByRecursion (λ (x : Row). is_below q.0 x.0 ≡ true) l → slice_get l j ≡ Some r → is_below q.0 r.0 ≡ true
  above-at [] j all there = absurd cc
  above-at (x ∷ l) zero all there = subst (λ (y : Row). is_below q.0 y.0 ≡ true) (same_Some x r there) all.0
  above-at (x ∷ l) (suc j) all there = above-at l j all.1 there

  differs : bytes_eq q.0 r.0 ≡ true → ⊥
  differs is = let back = same_key q.0 r.0 is in
      let differ : bytes_eq r.0 q.0 ≡ false = above_differs r.0 q.0 (above-at rows i (all_above q.0 rows up.1) at) in
      let clash : false ≡ true = sym differ ∙ (ap (bytes_eq r.0) back ∙ key_self r.0) in absurd cc

-- a row says what its version says
change-back : (c : PageChange) → c ≡ cell_change (change_in c)
change-back (Put value) = refl
change-back Remove = refl

pub same-row : (r : Row) → r ≡ (r.0, cell_version (version_in r.1))
same-row r = λ i. (r.0, record { window = r.1.window; change = change-back r.1.change i })

-- the rows from a place on are put, whatever was held below them
pub record PutsRows (rows : List Row) (left : ℕ) (leaf later : HeldLeaf) : Type 0 where
  pub holds : (held : List ℕ → List (Version Change)) → HasVersions leaf held → ((key : List ℕ) → Descends Older (with_shown rows held key)) → HasVersions later (with_shown (drop left rows) held)
  pub fit : ChainsFit leaf.chains → ChainsFit later.chains

puts-row : (rows : List Row) (i : ℕ) (r : Row) (leaf middle later : HeldLeaf) → AreFit rows → slice_get rows i ≡ Some r → PutsRows rows (suc i) leaf middle → PutsOne middle later r.0 (version_in r.1) → PutsRows rows i leaf later
puts-row rows i r leaf middle later fit at p one = record {
  holds = λ held h down. subst (λ (l : List Row). HasVersions later (with_shown l held)) (sym (drop-at rows i r at))
      (holds-as later (with_version r.0 (version_in r.1) (with_shown (drop (suc i) rows) held)) (with_shown (r ∷ drop (suc i) rows) held) (shown-cons r (drop (suc i) rows) held none)
      (one.holds (with_shown (drop (suc i) rows) held) (p.holds held h down) (newest held down)));
  fit = λ before. one.fit (p.fit before) row-fits;
} where
  none : shown_at r.0 (drop (suc i) rows) ≡ None
  none = none-shown None rows i r fit.ascend at

  here : shown_at r.0 (r ∷ drop (suc i) rows) ≡ Some (version_in r.1)
  here = rw (key_self r.0) refl

  newest : (held : List ℕ → List (Version Change)) → ((key : List ℕ) → Descends Older (with_shown rows held key)) → Descends Older (with_version r.0 (version_in r.1) (with_shown (drop (suc i) rows) held) r.0)
  newest held down = subst (Descends Older) (sym (shown-cons r (drop (suc i) rows) held none r.0)) (subst (λ (o : Option (Version Change)). Descends Older (option_to_list o ++ held r.0))
      (shown-there None rows i r fit.ascend at ∙ sym here) (down r.0))

  row-fits : RowFits [] key_most (r.0, cell_version (version_in r.1))
  row-fits = subst (λ (x : Row). RowFits [] key_most x) (same-row r) (fit-at rows i r fit.fit at)

-- one more of them
pub puts-back : (rows : List Row) (left : ℕ) (r : Row) (leaf middle later : HeldLeaf) → 1 ≤ left → AreFit rows → slice_get rows (left - 1) ≡ Some r → PutsRows rows left leaf middle → PutsOne middle later r.0 (version_in r.1) → PutsRows rows (left - 1) leaf later
puts-back rows left r leaf middle later some fit at p one = puts-row rows (left - 1) r leaf middle later fit at (subst (λ n. PutsRows rows n leaf middle) (omega (arith, some)) p) one

-- none is put yet
pub none-put : (rows : List Row) (leaf : HeldLeaf) → PutsRows rows (length rows) leaf leaf
none-put rows leaf = record { holds = λ held h down. subst (λ (l : List Row). HasVersions leaf (with_shown l held)) (sym (drop-all rows)) h; fit = λ fit. fit } where
  drop-all : (l : List Row) → drop (length l) l ≡ []
  drop-all [] = refl
  drop-all (x ∷ l) = drop-all l

-- ---- the whole leaf

unmarked-all : (held : List (Version Change)) (u : Update) → Member u (map unmarked_update held) → u.prepared ≡ 0
unmarked-all [] u there = absurd there
unmarked-all (v ∷ held) u (inl same) = ap (λ (x : Update). x.prepared) same
unmarked-all (v ∷ held) u (inr later) = unmarked-all held u later

versions-back : (held : List (Version Change)) → versions (map unmarked_update held) ≡ held
versions-back [] = refl
versions-back (v ∷ held) = ap (λ (l : List (Version Change)). v ∷ l) (versions-back held)

-- all that it holds is in its chains
pub comes-from : (leaf : HeldLeaf) (rows : List Row) (moved : List Moved) → HasVersions leaf (with_shown rows (λ key. versions_in key moved)) → ComesFrom leaf rows (λ key. versions_in key moved)
comes-from leaf rows moved h = record {
  held = λ key. ap (λ (page : List Row). held_at key page leaf.chains) h.page
      ∙ (append-none (versions (chain_at key leaf.chains)) ∙ (ap versions (h.chains key) ∙ versions-back (with_shown rows (λ k. versions_in k moved) key)));
  unmarked = λ key u there. unmarked-all (with_shown rows (λ k. versions_in k moved) key) u (subst (Member u) (h.chains key) there);
  lies = λ some. let none = ap (λ (l : List Row). length l) h.page in absurd (omega (arith, some, none));
} where
  append-none : (l : List (Version Change)) → l ++ [] ≡ l
  append-none [] = refl
  append-none (v ∷ l) = ap (λ (k : List (Version Change)). v ∷ k) (append-none l)

-- or it has its page, where nothing moved
pub comes-alone : (leaf : HeldLeaf) (rows : List Row) (moved : List Moved) → leaf ≡ record { page = rows; chains = [] } → moved ≡ [] → ComesFrom leaf rows (λ key. versions_in key moved)
comes-alone leaf rows moved is none = record {
  held = λ key. ap (λ (x : HeldLeaf). held_at key x.page x.chains) is ∙ (sym (append-none (option_to_list (shown_at key rows))) ∙ ap (λ (l : List Moved). option_to_list (shown_at key rows) ++ versions_in key l) (sym none));
  unmarked = λ key u there. absurd (subst (λ (x : HeldLeaf). Member u (chain_at key x.chains)) is there);
  lies = λ some. ap (λ (x : HeldLeaf). x.page) is;
} where
  append-none : (l : List (Version Change)) → l ++ [] ≡ l
  append-none [] = refl
  append-none (v ∷ l) = ap (λ (k : List (Version Change)). v ∷ k) (append-none l)

-- what moved is newest first under rows that are above it
pub moved-first : (rows : List Row) (moved : List Moved) → AreNewestFirst rows moved → (key : List ℕ) → Descends Older (versions_in key moved)
moved-first rows moved first key = by (shown_at key rows) (first key) where
  by : (o : Option (Version Change)) → Descends Older (option_to_list o ++ versions_in key moved) → Descends Older (versions_in key moved)
  by None down = down
  by (Some v) down = down.1

-- a leaf that holds nothing
pub bare-leaf : (leaf : HeldLeaf) → leaf ≡ record { page = []; chains = [] } → HasVersions leaf (λ key. [])
bare-leaf leaf is = record { page = ap (λ (x : HeldLeaf). x.page) is; chains = λ key. ap (λ (x : HeldLeaf). chain_at key x.chains) is }

pub bare-fits : (leaf : HeldLeaf) (rows : List Row) → leaf ≡ record { page = rows; chains = [] } → ChainsFit leaf.chains
bare-fits leaf rows is = subst (λ (x : HeldLeaf). ChainsFit x.chains) (sym is) (λ key. tt)

pub none-of-length : (moved : List Moved) → length moved ≡ 0 → moved ≡ []
none-of-length [] none = refl
none-of-length (m ∷ moved) none = absurd (omega (arith, none))

-- all rows are put
pub rows-put : (rows : List Row) (left : ℕ) (leaf later : HeldLeaf) → left ≡ 0 → PutsRows rows left leaf later → (held : List ℕ → List (Version Change)) → HasVersions leaf held → ((key : List ℕ) → Descends Older (with_shown rows held key)) → HasVersions later (with_shown rows held)
rows-put rows left leaf later none p held h down = subst (λ (n : ℕ). HasVersions later (with_shown (drop n rows) held)) none (p.holds held h down)

-- ---- versions that are rows

pub unlike-fits : (rows : List Row) (moved : List Moved) → AllFit moved → AllFit (unlike rows moved)
unlike-fits rows [] fit = tt
unlike-fits rows (m ∷ moved) fit = elim (cases_Bool (is_again rows m)) [
  | inl is ↦ rw is (unlike-fits rows moved fit.1)
  | inr isnt ↦ rw isnt (fit.0, unlike-fits rows moved fit.1)
]
