-- A leaf to which nothing newer was committed has the rows of the checkpoint before, and when it does.
use Rattle.std.proofs.Common.{◌≡◌, ◌∙◌, ◌≤◌, ℕ, true, false, List, [], ◌∷◌, ◌++◌, Option, Some, None, refl, ap, sym, subst, inl, inr, arith}
use Rattle.std.specs.Prelude.{◌==◌, bytes_eq, nat_lt}
use Rattle.std.specs.List.{AllByRecursion}
use Rattle.std.specs.Option.{option_to_list}
use Rattle.std.proofs.Math.Bool.{or-true}
use Rattle.std.proofs.lemmas.Bool.{both_ways, cases_Bool, cases_lt, eq-eqb, lt-ltb}
use Rattle.std.proofs.lemmas.Option.{same_Some}
use Rattle.item.specs.declared.Change.{Change}
use Rattle.stamp.specs.declared.Name.{Name}
use Rattle.stamp.specs.declared.Version.{Version}
use Rattle.kv_model.specs.AgreementLaws.{head_of}
use Rattle.kv_model.specs.Captures.{UpTo}
use Rattle.kv_model.specs.History.{line}
use Rattle.kv_model.specs.Holds.{Descends, Member}
use Rattle.kv_model.specs.Machine.{Machine}
use Rattle.kv_model.specs.Ordered.{Older}
use Rattle.kv_model.proofs.Finishing.{older-order}
use Rattle.row_page.specs.Changes.{version_in}
use Rattle.stamp.specs.Order.{later}
use Rattle.row_page.specs.Rows.{Row, RowFits, key_most}
use Rattle.leaf_rows.specs.Rows.{AreFit}
use Rattle.reconcile.specs.Shows.{shown_at}
use Rattle.snapshot.specs.Past.{is_below}
use Rattle.snapshot.specs.Sight.{Sight, is_seen}
use Rattle.tree_dir.specs.declared.leaf.Leaf.{Leaf}
use Rattle.update_chain.specs.declared.update.Update.{Update}
use Rattle.reconcile.specs.Capture.{ChainFits}
use Rattle.frame_capture.specs.Capture.{captured_over}
use Rattle.ckpt_step.specs.Floors.{AreNewestBefore, AreNewestIn, is_before, newest_before}
use Rattle.reconcile.specs.Held.{versions}
use Rattle.ckpt_step.proofs.Floors.{Lower, lower_of}
use Rattle.ckpt_step.proofs.Members.{none_some}

-- ---- names

is_lower : (x y : Name) → Lower x y → is_below x y ≡ true
is_lower x y (inl less) = let is : nat_lt x.run y.run ≡ true = lt-ltb x.run y.run less in rw is refl
is_lower x y (inr (same, less)) =
    let run : (x.run == y.run) ≡ true = eq-eqb x.run y.run same in
    let id : nat_lt x.id y.id ≡ true = lt-ltb x.id y.id less in
    rw (run, id) (or-true (nat_lt x.run y.run))

-- what is not above a name that is below a floor is below it too
under : (greatest x floor : Name) → is_below greatest x ≡ false → is_below greatest floor ≡ true → is_below x floor ≡ true
under greatest x floor none below = elim (cases_Bool (is_below x floor)) [ inl is ↦ is | inr isnt ↦ absurd (past (lower_of greatest floor below) isnt) ]
  where
    above : Lower greatest x → ⊥
    above less = both_ways (is_below greatest x) none (is_lower greatest x less)

    over : is_below x floor ≡ false → Lower x floor → ⊥
    over isnt less = both_ways (is_below x floor) isnt (is_lower x floor less)

    past : Lower greatest floor → is_below x floor ≡ false → ⊥
    past (inl less) isnt = elim (cases_lt x.run floor.run) [
      | inl lower ↦ over isnt (inl lower)
      | inr high ↦ above (inl (omega (arith, less, high)))
    ]
    past (inr (same, less)) isnt = elim (cases_lt x.run floor.run) [
      | inl lower ↦ over isnt (inl lower)
      | inr high ↦ elim (cases_lt floor.run x.run) [
        | inl more ↦ above (inl (omega (arith, same, more)))
        | inr most ↦ elim (cases_lt x.id floor.id) [
          | inl lower ↦ over isnt (inr (omega (arith, high, most), lower))
          | inr past_id ↦ above (inr (omega (arith, same, high, most), omega (arith, less, past_id)))
        ]
      ]
    ]

-- of two names the later is below the floor: both are
pub both_under : (x y floor : Name) → is_below (later x y) floor ≡ true → (is_below x floor ≡ true) × (is_below y floor ≡ true)
both_under x y floor below = elim (cases_Bool (is_below x y)) [
  | inl less ↦ let own = rw less at below in (is_lower x floor (joined (lower_of x y less) (lower_of y floor own)), own)
  | inr more ↦ let own = rw more at below in (own, under x y floor more own)
]
  where
    joined : Lower x y → Lower y floor → Lower x floor
    joined (inl a) (inl b) = inl (omega (arith, a, b))
    joined (inl a) (inr b) = inl (omega (arith, a, b.0))
    joined (inr a) (inl b) = inl (omega (arith, a.0, b))
    joined (inr a) (inr b) = inr (omega (arith, a.0, b.0), omega (arith, a.1, b.1))

-- a name with an id that is below the floor is before it
before_of : (floor x : Name) → 1 ≤ x.id → is_below x floor ≡ true → is_before floor x ≡ true
before_of floor x some below = let has_id : nat_lt 0 x.id ≡ true = lt-ltb 0 x.id some in rw has_id below

-- ---- the newest version of a key

pub newest_head : (floor : Name) (l : List (Version Change)) → ((v : Version Change) → head_of l ≡ Some v → is_before floor v.window.name ≡ true) → newest_before floor l ≡ head_of l
newest_head floor [] each = refl
newest_head floor (v ∷ older) each = let first : is_before floor v.window.name ≡ true = each v refl in rw first refl

-- a row that is shown has an id
pub shown_id : (key : List ℕ) (rows : List Row) (v : Version Change) → AllByRecursion (λ (r : Row). RowFits [] key_most r) rows → shown_at key rows ≡ Some v → 1 ≤ v.window.name.id
shown_id key [] v fit is = absurd cc
shown_id key (r ∷ rows) v fit is = elim (cases_Bool (bytes_eq r.0 key)) [
  | inl same ↦ subst (λ (x : Version Change). 1 ≤ x.window.name.id) (same_Some (version_in r.1) v (rw same at is)) fit.0.window.name.id.0
  | inr other ↦ shown_id key rows v fit.1 (rw other at is)
]

pub captured_before : (s : Sight) (greatest floor : Name) (key : List ℕ) (chain : List Update) (row : Option (Version Change)) (v : Version Change) → is_below greatest floor ≡ true
    → AllByRecursion (λ (x : Version Change). is_below greatest x.window.name ≡ false) (versions chain ++ option_to_list row) → ChainFits key chain → ((x : Version Change) → row ≡ Some x → 1 ≤ x.window.name.id) → captured_over s chain row ≡ Some v
    → is_before floor v.window.name ≡ true
captured_before s greatest floor key [] None v below none fit has_id is = absurd cc
captured_before s greatest floor key [] (Some x) v below none fit has_id is = elim (cases_Bool (is_seen s x.window.name)) [
  | inl seen ↦ subst (λ (y : Version Change). is_before floor y.window.name ≡ true) (same_Some x v (rw seen at is)) (before_of floor x.window.name (has_id x refl) (under greatest x.window.name floor none.0 below))
  | inr unseen ↦ absurd (let nothing : None ≡ Some v = rw unseen at is in cc)
]
captured_before s greatest floor key (u ∷ older) row v below none fit has_id is = elim (cases_Bool (is_seen s u.version.window.name)) [
  | inl seen ↦ subst (λ (x : Version Change). is_before floor x.window.name ≡ true) (same_Some u.version v (rw seen at is)) (before_of floor u.version.window.name fit.0.window.name.id.0 (under greatest u.version.window.name floor none.0 below))
  | inr unseen ↦ captured_before s greatest floor key older row v below none.1 fit.1 has_id (rw unseen at is)
]

pub shown_before : (floor : Name) (key : List ℕ) (rows : List Row) (v : Version Change) → AllByRecursion (λ (r : Row). RowFits [] key_most r) rows → AllByRecursion (λ (r : Row). is_below r.1.window.name floor ≡ true) rows → shown_at key rows ≡ Some v → is_before floor v.window.name ≡ true
shown_before floor key [] v fit below is = absurd cc
shown_before floor key (r ∷ rows) v fit below is = elim (cases_Bool (bytes_eq r.0 key)) [
  | inl same ↦ subst (λ (x : Version Change). is_before floor x.window.name ≡ true) (same_Some (version_in r.1) v (rw same at is)) (before_of floor r.1.window.name (fit.0.window.name.id.0) below.0)
  | inr other ↦ shown_before floor key rows v fit.1 below.1 (rw other at is)
]

-- it is a version of the key, and before the floor
pub before_there : (floor : Name) (l : List (Version Change)) (v : Version Change) → newest_before floor l ≡ Some v → Member v l × (is_before floor v.window.name ≡ true)
before_there floor [] v is = absurd (none_some is)
before_there floor (x ∷ older) v is = elim (cases_Bool (is_before floor x.window.name)) [
  | inl before ↦ let same : x ≡ v = same_Some x v (rw before at is) in (inl (sym same), subst (λ (y : Version Change). is_before floor y.window.name ≡ true) same before)
  | inr past ↦ let later : newest_before floor older ≡ Some v = rw past at is in let rest = before_there floor older v later in (inr rest.0, rest.1)
]

-- at or above each that is before the floor
pub before_top : (floor : Name) (l : List (Version Change)) (v : Version Change) → Descends Older l → Member v l → is_before floor v.window.name ≡ true → (y : Version Change) × (newest_before floor l ≡ Some y) × UpTo Older v y
before_top floor [] v down there is = absurd there
before_top floor (x ∷ older) v down there is = elim (cases_Bool (is_before floor x.window.name)) [
  | inl before ↦ let here : newest_before floor (x ∷ older) ≡ Some x = rw before refl in (x, here, elim there [ inl same ↦ inl same | inr later ↦ inr (down.0 v later) ])
  | inr past ↦ elim there [
    | inl same ↦ absurd (both_ways (is_before floor x.window.name) past (subst (λ (y : Version Change). is_before floor y.window.name ≡ true) same is))
    | inr later ↦
        let rest = before_top floor older v down.1 later is in
        let over : newest_before floor (x ∷ older) ≡ Some rest.0 = rw past rest.1 in
        (rest.0, over, rest.2)
  ]
]

-- a cell that stands, before the floor, at or above each that is before the floor
pub newest_cell : (floor : Name) (l : List (Version Change)) (cell : Option (Version Change)) → Descends Older l → ((w : Version Change) → cell ≡ Some w → Member w l × (is_before floor w.window.name ≡ true))
    → ((v : Version Change) → Member v l → is_before floor v.window.name ≡ true → (y : Version Change) × (cell ≡ Some y) × UpTo Older v y) → newest_before floor l ≡ cell
newest_cell floor l cell down there top = by (newest_before floor l) cell refl refl
  where
    one : (v w : Version Change) → UpTo Older v w → UpTo Older w v → v ≡ w
    one v w (inl same) back = same
    one v w (inr less) (inl same) = sym same
    one v w (inr less) (inr more) = absurd (older-order.asym v w less more)

    by : (o c : Option (Version Change)) → newest_before floor l ≡ o → cell ≡ c → o ≡ c
    by None None is has = refl
    by None (Some w) is has =
        let own = there w has in
        let over = before_top floor l w down own.0 own.1 in
        absurd (none_some (sym is ∙ over.1))
    by (Some v) c is has =
        let own = before_there floor l v is in
        let y = top v own.0 own.1 in
        let held = there y.0 y.1 in
        let over = before_top floor l y.0 down held.0 held.1 in
        let same : over.0 ≡ v = same_Some over.0 v (sym over.1 ∙ is) in
        ap (λ (x : Version Change). Some x) (one v y.0 y.2 (subst (λ (x : Version Change). UpTo Older y.0 x) same over.2)) ∙ (sym y.1 ∙ has)

-- ---- leaves

-- newest rows with names below the floor are the newest before it
pub newest_under : (m : Machine) (table : ℕ) (leaves : List Leaf) (l : Leaf) (floor : Name) (rows : List Row) → AreFit rows → AllByRecursion (λ (r : Row). is_below r.1.window.name floor ≡ true) rows → AreNewestIn m leaves table l rows → AreNewestBefore m floor leaves table l rows
newest_under m table leaves l floor rows fit below is key under =
    newest_head floor (line m.history table key) (λ v first. shown_before floor key rows v fit.fit below (sym (is key under) ∙ first)) ∙ is key under
