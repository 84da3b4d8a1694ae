-- What the history has of the leaves that took the place of one that parted.
use Rattle.std.specs.Prelude.{◌≡◌, ◌≢◌, ◌⊎◌, ℕ, ◌==◌, ◌<◌, ◌≤◌, ◌++◌, true, false, List, [], ◌∷◌, map, filter, bytes_eq, Option, Some, None, refl}
use Rattle.std.specs.List.{Contains}
use Rattle.std.proofs.Common.{inl, inr, sym, ◌∙◌, ap, subst, arith}
use Rattle.std.proofs.lemmas.Bool.{cases_Bool, cases_lt, eq-eqb, eqb-true}
use Rattle.std.proofs.lemmas.List.{append-nil, map-append}
use Rattle.std.proofs.lemmas.List.Elements.{filter-append}
use Rattle.std.proofs.lemmas.Slice.Eq.{bytes_eq-Decides}
use Rattle.item.specs.declared.Change.{Change}
use Rattle.stamp.specs.declared.Version.{Version}
use Rattle.kv_model.specs.Machine.{of_some}
use Rattle.reconcile.specs.declared.image.Moved.{Moved}
use Rattle.reconcile.specs.Moving.{versions_in}
use Rattle.row_page.specs.Rows.{Row}
use Rattle.tree_dir.specs.declared.leaf.Leaf.{Leaf}
use Rattle.tree_dir.specs.GivingWay.{StandFor}
use Rattle.tree_dir.specs.Leaves.{Directory, IsDirectory, leaf_under}
use Rattle.engine_world.proofs.Homes.{lies-or-not, same-id}
use Rattle.engine_world.specs.Worlds.{Records, World}
use Rattle.evict_step.specs.Backs.{AreNewestFirst}
use Rattle.evict_step.specs.Kept.{KeepsMore, KeepsThese, Lists, but_rows, lies_in, list_of, lying_in, with_moved}
use Rattle.evict_step.proofs.Again.{but_all, none_of}
use Rattle.ckpt_step.proofs.Members.{some_same}
use Rattle.ckpt_step.proofs.TableLeaves.{contains_of, under_in}

-- ---- versions of a key

pub versions-append : (key : List ℕ) (a b : List Moved) → versions_in key (a ++ b) ≡ versions_in key a ++ versions_in key b
versions-append key a b = ap (map {A = Moved} (λ m. m.version)) (filter-append (λ (m : Moved). bytes_eq m.key key) a b) ∙ map-append (λ (m : Moved). m.version) (filter (λ (m : Moved). bytes_eq m.key key) a) (filter (λ (m : Moved). bytes_eq m.key key) b)

-- those that lie in a leaf, where the key does
versions_here : (leaves : List Leaf) (table id : ℕ) (key : List ℕ) (moved : List Moved) → lies_in leaves table id key ≡ true → versions_in key (lying_in leaves table moved id) ≡ versions_in key moved
versions_here leaves table id key [] here = refl
versions_here leaves table id key (m ∷ moved) here = elim (cases_Bool (lies_in leaves table id m.key)) [
  | inl lies ↦ (let rest : versions_in key (m ∷ lying_in leaves table moved id) ≡ versions_in key (m ∷ moved) = head m (lying_in leaves table moved id) moved (versions_here leaves table id key moved here) in rw lies rest)
  | inr away ↦ elim (cases_Bool (bytes_eq m.key key)) [
    | inl same ↦ absurd (let lies : lies_in leaves table id m.key ≡ true = ap (lies_in leaves table id) ((bytes_eq-Decides m.key key).0 same) ∙ here in let clash : false ≡ true = sym away ∙ lies in cc)
    | inr other ↦ rw (away, other) (versions_here leaves table id key moved here)
  ]
]
  where
    head : (m : Moved) (a b : List Moved) → versions_in key a ≡ versions_in key b → versions_in key (m ∷ a) ≡ versions_in key (m ∷ b)
    head m a b same = elim (cases_Bool (bytes_eq m.key key)) [
      | inl is ↦ rw is (ap (λ (vs : List (Version Change)). m.version ∷ vs) same)
      | inr isnt ↦ rw isnt same
    ]

-- and none where it does not
versions_away : (leaves : List Leaf) (table id : ℕ) (key : List ℕ) (moved : List Moved) → lies_in leaves table id key ≡ false → versions_in key (lying_in leaves table moved id) ≡ []
versions_away leaves table id key [] away = refl
versions_away leaves table id key (m ∷ moved) away = elim (cases_Bool (lies_in leaves table id m.key)) [
  | inl lies ↦ elim (cases_Bool (bytes_eq m.key key)) [
    | inl same ↦ absurd (let here : lies_in leaves table id key ≡ true = ap (lies_in leaves table id) (sym ((bytes_eq-Decides m.key key).0 same)) ∙ lies in let clash : false ≡ true = sym away ∙ here in cc)
    | inr other ↦ (let rest : versions_in key (m ∷ lying_in leaves table moved id) ≡ [] = rw other (versions_away leaves table id key moved away) in rw lies rest)
  ]
  | inr isnt ↦ rw isnt (versions_away leaves table id key moved away)
]

-- ---- where a key lies

-- in which leaf
record LiesAt (leaves : List Leaf) (table id : ℕ) (key : List ℕ) : Type 0 where
  leaf : Leaf
  under : leaf_under table key leaves ≡ Some leaf
  is : leaf.id ≡ id

lies_at : (leaves : List Leaf) (table id : ℕ) (key : List ℕ) → lies_in leaves table id key ≡ true → LiesAt leaves table id key
lies_at leaves table id key lies = by (leaf_under table key leaves) refl lies
  where
    by : (found : Option Leaf) → leaf_under table key leaves ≡ found → of_some false (λ (l : Leaf). l.id == id) found ≡ true → LiesAt leaves table id key
    by None none is = absurd (let clash : false ≡ true = is in cc)
    by (Some l) some is = record { leaf = l; under = some; is = eqb-true l.id id is }

-- ---- the history

module _ (old next : Directory) (l : Leaf) (made : List Leaf) (stand : StandFor old next l made) (was : IsDirectory old) (now : IsDirectory next) (there : Contains old.leaves l) (records : Records) (unmade : (id : ℕ) → old.next ≤ id → (key : List ℕ) → records id key ≡ []) (moved : List Moved)
    (bare : (key : List ℕ) → leaf_under l.table key old.leaves ≢ Some l → versions_in key moved ≡ []) where
  abbrev pub after : Records
  after = with_moved next.leaves l.table moved records

  -- a leaf in which the key does not lie has what it had
  still : (id : ℕ) (key : List ℕ) → versions_in key (lying_in next.leaves l.table moved id) ≡ [] → after id key ≡ records id key
  still id key none = ap (λ (vs : List (Version Change)). records id key ++ vs) none ∙ append-nil (records id key)

  -- a new one all that moved of its keys
  pub moved_own : (n : Leaf) → Contains made n → (key : List ℕ) → leaf_under n.table key next.leaves ≡ Some n → after n.id key ≡ versions_in key moved
  moved_own n c key under =
      let own : leaf_under l.table key next.leaves ≡ Some n = ap (λ (t : ℕ). leaf_under t key next.leaves) (sym (stand.own n c).0) ∙ under in
      let here : lies_in next.leaves l.table n.id key ≡ true = ap (of_some false (λ (x : Leaf). x.id == n.id)) own ∙ eq-eqb n.id n.id refl in
      ap (λ (vs : List (Version Change)). vs ++ versions_in key (lying_in next.leaves l.table moved n.id)) (unmade n.id (stand.later n c) key) ∙ versions_here next.leaves l.table n.id key moved here

  -- and nothing of other keys
  pub moved_bare : (n : Leaf) → Contains made n → (key : List ℕ) → leaf_under n.table key next.leaves ≢ Some n → after n.id key ≡ []
  moved_bare n c key away = elim (cases_Bool (lies_in next.leaves l.table n.id key)) [
    | inl lies ↦
        let at = lies_at next.leaves l.table n.id key lies in
        let same : at.leaf ≡ n = same-id next at.leaf n now (contains_of next.leaves at.leaf (under_in l.table key next.leaves at.leaf at.under).0) (stand.news n c) at.is in
        absurd (away (ap (λ (t : ℕ). leaf_under t key next.leaves) (stand.own n c).0 ∙ (at.under ∙ ap (λ (x : Leaf). Some x) same)))
    | inr isnt ↦ still n.id key (versions_away next.leaves l.table n.id key moved isnt) ∙ unmade n.id (stand.later n c) key
  ]

  -- any other what it had
  pub moved_kept : (id : ℕ) → id < old.next → (key : List ℕ) → after id key ≡ records id key
  moved_kept id less key = elim (cases_Bool (lies_in next.leaves l.table id key)) [
    | inl lies ↦ elim (lies-or-not old l key was there) [
      | inl lay ↦
          let at = lies_at next.leaves l.table id key lies in
          let new = stand.under_new key lay in
          absurd (let late = stand.later new.0 new.1 in let same = ap (λ (x : Leaf). x.id) (some_same (sym at.under ∙ new.2)) in let is = at.is in omega (arith, less, late, same, is))
      | inr away ↦ still id key (versions_here next.leaves l.table id key moved lies ∙ bare key away)
    ]
    | inr isnt ↦ still id key (versions_away next.leaves l.table id key moved isnt)
  ]

  -- one that was never made nothing
  pub moved_unused : (id : ℕ) → next.next ≤ id → (key : List ℕ) → after id key ≡ []
  moved_unused id late key = elim (cases_Bool (lies_in next.leaves l.table id key)) [
    | inl lies ↦
        let at = lies_at next.leaves l.table id key lies in
        let c = contains_of next.leaves at.leaf (under_in l.table key next.leaves at.leaf at.under).0 in
        let below : at.leaf.id < next.next = subst (λ (x : Leaf). x.id < next.next) c.2 (now.below c.0 at.leaf c.1) in
        absurd (let is = at.is in omega (arith, late, below, is))
    | inr isnt ↦ still id key (versions_away next.leaves l.table id key moved isnt) ∙ unmade id (let ids = stand.ids in omega (arith, late, ids)) key
  ]

-- ---- what is kept of it

-- of a list behind another one nothing is there that adds nothing
adds_none : (a b : List (Version Change)) → a ++ b ≡ a → b ≡ []
adds_none [] b same = same
adds_none (v ∷ a) b same = adds_none a b (let rest : v ∷ (a ++ b) ≡ v ∷ a = same in cc)

-- Where the history was kept, so it is then. n: the id that came next before; first: of new leaves what is kept lies below the rows.
pub keeps_more : (w : World) (before lists : Lists) (leaves : List Leaf) (table : ℕ) (moved : List Moved) (shelf : ℕ → List Row) (n : ℕ) → KeepsThese w before → KeepsMore before lists (lying_in leaves table moved) → ((id : ℕ) → id < n → shelf id ≡ w.shelf id)
    → ((id : ℕ) → id < n → (key : List ℕ) → with_moved leaves table moved w.records id key ≡ w.records id key) → ((id : ℕ) → n ≤ id → list_of before id ≡ []) → ((id : ℕ) → n ≤ id → AreNewestFirst (shelf id) (lying_in leaves table moved id))
    → KeepsThese (record w { shelf = shelf; records = with_moved leaves table moved w.records }) lists
keeps_more w before lists leaves table moved shelf n keeps more others still none first id key = elim (cases_lt id n) [
  | inl less ↦ still id less key ∙ (keeps id key ∙ ap (versions_in key) (ap (λ (rows : List Row). but_rows rows (list_of before id)) (sym (others id less)) ∙ ap (but_rows (shelf id)) (sym (listed_still id less))))
  | inr late ↦
      let nothing : w.records id key ≡ [] = keeps id key ∙ ap (λ (l : List Moved). versions_in key (but_rows (w.shelf id) l)) (none id late) in
      ap (λ (vs : List (Version Change)). vs ++ versions_in key (lying_in leaves table moved id)) nothing
      ∙ ap (versions_in key) (sym (ap (but_rows (shelf id)) (listed_new id late) ∙ but_all (shelf id) (lying_in leaves table moved id) (first id late)))
]
  where
    -- nothing comes to a leaf that was there
    listed_still : (id : ℕ) → id < n → list_of lists id ≡ list_of before id
    listed_still id less =
        let nothing : lying_in leaves table moved id ≡ [] = none_of (lying_in leaves table moved id) (λ key. adds_none (w.records id key) (versions_in key (lying_in leaves table moved id)) (still id less key)) in
        more id ∙ (ap (λ (l : List Moved). list_of before id ++ l) nothing ∙ append-nil (list_of before id))

    listed_new : (id : ℕ) → n ≤ id → list_of lists id ≡ lying_in leaves table moved id
    listed_new id late = more id ∙ ap (λ (l : List Moved). l ++ lying_in leaves table moved id) (none id late)

-- what lies in a leaf of an id is of one that is there, or there is nothing
pub lying_leaf : (leaves : List Leaf) (table : ℕ) (moved : List Moved) (id : ℕ) → (lying_in leaves table moved id ≡ []) ⊎ ((l : Leaf) × Contains leaves l × (l.id ≡ id))
lying_leaf leaves table [] id = inl refl
lying_leaf leaves table (m ∷ moved) id = elim (cases_Bool (lies_in leaves table id m.key)) [
  | inl lies ↦
      let at = lies_at leaves table id m.key lies in
      inr (at.leaf, contains_of leaves at.leaf (under_in table m.key leaves at.leaf at.under).0, at.is)
  | inr away ↦ (let rest = lying_leaf leaves table moved id in rw away rest)
]
