-- The leaves of images, and the keys of the entries that lead to them.
use Rattle.std.specs.Prelude.{◌≡◌, ℕ, suc, ◌≤◌, Bool, true, false, not, IsTrue, IfSome, OnErr, OnOk, List, [], ◌∷◌, ◌++◌, length, Option, Some, None, Result, Ok, Err, bytes_eq, refl}
use Rattle.std.specs.List.{AllByRecursion}
use Rattle.std.proofs.Common.{inl, inr, sym, ◌∙◌, ap, subst, arith}
use Rattle.std.proofs.lemmas.Bool.{cases_Bool, false≢true}
use Rattle.std.proofs.lemmas.List.{append-nil}
use Rattle.std.proofs.lemmas.Slice.Eq.{bytes_eq-Decides}
use Rattle.wt_code.specs.declared.store_error.StoreError.{StoreError}
use Rattle.row_page.specs.Rows.{Ascends, Row, RowFits, is_below, key_most}
use Rattle.row_page.proofs.Ascending.{all_above, below_self, below_trans, keys_part}
use Rattle.leaf_rows.specs.Rows.{AreFit}
use Rattle.reconcile.specs.declared.image.Image.{Image}
use Rattle.reconcile.specs.Images.{AreImages, IsFull, IsLow}
use Rattle.stored.specs.Links.{LinkFits}
use Rattle.stored.specs.Tree.{join}
use Rattle.stored.specs.TableTree.{Climbs, Entry, EntryFits, Stay, ends_below, first_key}
use Rattle.tree_write.specs.Drafts.{AreBelow, AreFrom, LeavesOf, rooted}
use Rattle.tree_write.specs.Steps.{AreSpelled, image_keys, keys_of, part_keys}
use Rattle.tree_write.proofs.Lists.{all_back, all_both, all_front, all_map, all_zip}

-- ---- the leaves of images

pub low_some : (key : List ℕ) (rows : List Row) → IsLow key rows → 1 ≤ length rows
low_some key [] low = absurd (none_some low.first)
  where
    none_some : None ≡ Some low.row → ⊥
    none_some same = cc
low_some key (r ∷ rows) low = omega arith

pub leaves_of : (images : List Image) (rows : List Row) → AreImages images rows → LeavesOf images rows
leaves_of [] rows none = record { leaves = []; spelled = tt; whole = sym none; full = tt; some = tt }
leaves_of (i ∷ images) rows begins =
    let rest = leaves_of images begins.others begins.go_on in
    record {
      leaves = begins.front ∷ rest.leaves;
      spelled = (begins.spells, rest.spelled);
      whole = ap (λ (l : List Row). begins.front ++ l) rest.whole ∙ sym begins.whole;
      full = (subst (λ (l : List Row). IsFull begins.front l) (sym rest.whole) begins.full, rest.full);
      some = (low_some i.low begins.front begins.spells.low, rest.some);
    }

-- ---- keys

-- each entry has the key of the first row of its leaf
abbrev HasKeys : List Entry → List (List Row) → Type 0
HasKeys [] [] = Unit {0}
HasKeys [] (rows ∷ leaves) = ⊥
HasKeys (e ∷ es) [] = ⊥
HasKeys (e ∷ es) (rows ∷ leaves) = IsLow e.key rows × HasKeys es leaves

cons_first : {A : Type 0} {x y : A} {xs ys : List A} → x ∷ xs ≡ y ∷ ys → x ≡ y
cons_first same = cc

cons_rest : {A : Type 0} {x y : A} {xs ys : List A} → x ∷ xs ≡ y ∷ ys → xs ≡ ys
cons_rest same = cc

nil_cons : {A : Type 0} {x : A} {xs : List A} → [] ≡ x ∷ xs → ⊥
nil_cons same = cc

has_keys : (es : List Entry) (images : List Image) (leaves : List (List Row)) → keys_of es ≡ image_keys images → AreSpelled images leaves → HasKeys es leaves
has_keys [] [] [] keys spelled = tt
has_keys [] [] (rows ∷ leaves) keys spelled = spelled
has_keys [] (i ∷ images) leaves keys spelled = absurd (nil_cons keys)
has_keys (e ∷ es) [] leaves keys spelled = absurd (nil_cons (sym keys))
has_keys (e ∷ es) (i ∷ images) [] keys spelled = spelled
has_keys (e ∷ es) (i ∷ images) (rows ∷ leaves) keys spelled = (subst (λ (k : List ℕ). IsLow k rows) (sym (cons_first keys)) spelled.0.low, has_keys es images leaves (cons_rest keys) spelled.1)

-- no key is below the empty one
not_below_empty : (key : List ℕ) → is_below key [] ≡ false
not_below_empty [] = refl
not_below_empty (x ∷ key) = refl

pub empty_below : (key other : List ℕ) → is_below other key ≡ true → is_below [] key ≡ true
empty_below [] other below = absurd (false≢true (sym (not_below_empty other) ∙ below))
empty_below (x ∷ key) other below = refl

not_is : (b : Bool) → IsTrue (not b) → b ≡ false
not_is false is = refl
not_is true is = absurd (false≢true is)

-- a key that a key from another one on is below is above that other one
from_below : (low key other : List ℕ) → IsTrue (not (is_below key low)) → is_below key other ≡ true → is_below low other ≡ true
from_below low key other from below = elim (cases_Bool (is_below low key)) [
  | inl is ↦ below_trans low key other is below
  | inr isnt ↦ elim (cases_Bool (bytes_eq low key)) [
    | inl same ↦ subst (λ (k : List ℕ). is_below k other ≡ true) (sym ((bytes_eq-Decides low key).0 same)) below
    | inr differ ↦ absurd (false≢true (sym (not_is (is_below key low) from) ∙ keys_part low key isnt differ))
  ]
]

not_below : (x y : List ℕ) → is_below x y ≡ true → is_below y x ≡ false
not_below x y below = elim (cases_Bool (is_below y x)) [ inl back ↦ absurd (below_self x (below_trans x y x below back)) | inr isnt ↦ isnt ]

is_not : (x y : List ℕ) → is_below y x ≡ false → IsTrue (not (is_below y x))
is_not x y isnt = rw isnt refl

low_row : (key : List ℕ) (r : Row) (rows : List Row) → IsLow key (r ∷ rows) → key ≡ r.0
low_row key r rows low = low.is ∙ ap (λ (x : Row). x.0) (sym (one low.first))
  where
    one : Some r ≡ Some low.row → r ≡ low.row
    one same = cc

abbrev Under : List ℕ → List Row → Type 0
Under key rows = AllByRecursion (λ (r : Row). is_below r.0 key ≡ true) rows

pub from_empty : (rows : List Row) → AreFrom [] rows
from_empty [] = tt
from_empty (r ∷ rows) = (is_not [] r.0 (not_below_empty r.0), from_empty rows)

pub from_low : (key : List ℕ) (before : Option (List ℕ)) (rows more : List Row) → IsLow key rows → Ascends before (rows ++ more) → AreFrom key rows
from_low key before [] more low ascend = tt
from_low key before (r ∷ rows) more low ascend = subst (λ (k : List ℕ). AreFrom k (r ∷ rows)) (sym (low_row key r rows low)) (
  is_not r.0 r.0 (self r.0),
  all_map (λ (x : Row). is_below r.0 x.0 ≡ true) (λ (x : Row). IsTrue (not (is_below x.0 r.0))) rows (λ x above. is_not r.0 x.0 (not_below r.0 x.0 above)) (all_front (λ (x : Row). is_below r.0 x.0 ≡ true) rows more (all_above r.0 (rows ++ more) ascend.1)),
)
  where
    self : (k : List ℕ) → is_below k k ≡ false
    self k = elim (cases_Bool (is_below k k)) [ inl is ↦ absurd (below_self k is) | inr isnt ↦ isnt ]

-- rows are below the first behind them
under_next : (key : List ℕ) (before : Option (List ℕ)) (rows next more : List Row) → IsLow key next → Ascends before (rows ++ (next ++ more)) → Under key rows
under_next key before [] next more low ascend = tt
under_next key before (r ∷ rows) [] more low ascend = absurd (let some = low_some key [] low in omega (arith, some))
under_next key before (r ∷ rows) (q ∷ next) more low ascend = (
  subst (λ (k : List ℕ). is_below r.0 k ≡ true) (sym (low_row key q next low)) (all_back (λ (x : Row). is_below r.0 x.0 ≡ true) rows ((q ∷ next) ++ more) (all_above r.0 (rows ++ ((q ∷ next) ++ more)) ascend.1)).0,
  under_next key (Some r.0) rows (q ∷ next) more low ascend.1,
)

ascends_back : (before : Option (List ℕ)) (rows more : List Row) → Ascends before (rows ++ more) → (b : Option (List ℕ)) × Ascends b more
ascends_back before [] more ascend = (before, ascend)
ascends_back before (r ∷ rows) more ascend = ascends_back (Some r.0) rows more ascend.1

stays : (before : Option (List ℕ)) (e : Entry) (es : List Entry) (rows : List Row) (leaves : List (List Row)) → AreFrom e.key rows → HasKeys es leaves → Ascends before (rows ++ join leaves) → Stay (e ∷ es) (rows ∷ leaves)
stays before e [] rows [] from keys ascend = (all_map (λ (r : Row). IsTrue (not (is_below r.0 e.key))) (λ (r : Row). IsTrue (not (is_below r.0 e.key)) × IsTrue (ends_below None r.0)) rows (λ r is. (is, refl)) from, tt)
stays before e [] rows (next ∷ leaves) from keys ascend = absurd keys
stays before e (f ∷ es) rows [] from keys ascend = absurd keys
stays before e (f ∷ es) rows (next ∷ leaves) from keys ascend =
    let back = ascends_back before rows (next ++ join leaves) ascend in (
      all_zip (λ (r : Row). IsTrue (not (is_below r.0 e.key))) (λ (r : Row). is_below r.0 f.key ≡ true) (λ (r : Row). IsTrue (not (is_below r.0 e.key)) × IsTrue (ends_below (Some f.key) r.0)) rows (λ r is below. (is, below)) from (under_next f.key before rows next (join leaves) keys.0 ascend),
      stays back.0 f es next leaves (from_low f.key back.0 next (join leaves) keys.0 back.1) keys.1 back.1,
    )

climbs : (before : Option (List ℕ)) (e : Entry) (es : List Entry) (rows : List Row) (leaves : List (List Row)) → ((k : List ℕ) → Under k rows → is_below e.key k ≡ true) → HasKeys es leaves → Ascends before (rows ++ join leaves) → Climbs (e ∷ es)
climbs before e [] rows leaves heads keys ascend = tt
climbs before e (f ∷ es) rows [] heads keys ascend = absurd keys
climbs before e (f ∷ es) rows (next ∷ leaves) heads keys ascend =
    let back = ascends_back before rows (next ++ join leaves) ascend in
    (heads f.key (under_next f.key before rows next (join leaves) keys.0 ascend), climbs back.0 f es next leaves (low_heads f.key next keys.0) keys.1 back.1)
  where
    low_heads : (key : List ℕ) (rows : List Row) → IsLow key rows → (k : List ℕ) → Under k rows → is_below key k ≡ true
    low_heads key [] low k under = absurd (let some = low_some key [] low in omega (arith, some))
    low_heads key (r ∷ rows) low k under = subst (λ (x : List ℕ). is_below x k ≡ true) (sym (low_row key r rows low)) under.0

part_heads : (low : List ℕ) (rows : List Row) → AreFrom low rows → 1 ≤ length rows → (k : List ℕ) → Under k rows → is_below low k ≡ true
part_heads low [] from some k under = absurd (omega (arith, some))
part_heads low (r ∷ rows) from some k under = from_below low r.0 k from.0 under.0

-- ---- the entries of leaves

-- what is known of the entries of a part's leaves whatever the device has
pub record AreEntriesOf (low : List ℕ) (es : List Entry) (leaves : List (List Row)) : Type 0 where
  pub climbs : Climbs es
  pub stay : Stay es leaves
  pub first : first_key es ≡ Some low
  pub keys : AllByRecursion (λ (e : Entry). length e.key ≤ key_most) es

pub low_fits : (key : List ℕ) (rows : List Row) → IsLow key rows → AllByRecursion (λ (r : Row). RowFits [] key_most r) rows → length key ≤ key_most
low_fits key [] low fit = absurd (let some = low_some key [] low in omega (arith, some))
low_fits key (r ∷ rows) low fit = subst (λ (k : List ℕ). length k ≤ key_most) (sym (low_row key r rows low)) fit.0.key

keys_fit : (es : List Entry) (leaves : List (List Row)) → HasKeys es leaves → AllByRecursion (λ (r : Row). RowFits [] key_most r) (join leaves) → AllByRecursion (λ (e : Entry). length e.key ≤ key_most) es
keys_fit [] leaves keys fit = tt
keys_fit (e ∷ es) [] keys fit = absurd keys
keys_fit (e ∷ es) (rows ∷ leaves) keys fit = (low_fits e.key rows keys.0 (all_front (λ (r : Row). RowFits [] key_most r) rows (join leaves) fit), keys_fit es leaves keys.1 (all_back (λ (r : Row). RowFits [] key_most r) rows (join leaves) fit))

no_entries : (es : List Entry) → keys_of es ≡ [] → es ≡ []
no_entries [] keys = refl
no_entries (e ∷ es) keys = absurd (nil_cons (sym keys))

pub entries_of : (low : List ℕ) (es : List Entry) (images : List Image) (leaves : List (List Row)) → 1 ≤ length images → length low ≤ key_most → keys_of es ≡ part_keys low images → AreSpelled images leaves → AllByRecursion (λ (l : List Row). 1 ≤ length l) leaves → AreFit (join leaves) → AreFrom low (join leaves) → AreEntriesOf low es leaves
entries_of low es [] leaves some short keys spelled has fit from = absurd (omega (arith, some))
entries_of low [] (i ∷ images) leaves some short keys spelled has fit from = absurd (nil_cons keys)
entries_of low (e ∷ es) (i ∷ images) [] some short keys spelled has fit from = absurd spelled
entries_of low (e ∷ es) (i ∷ images) (rows ∷ leaves) some short keys spelled has fit from =
    let rest = has_keys es images leaves (cons_rest keys) spelled.1 in
    let first : e.key ≡ low = cons_first keys in
    let here : AreFrom low rows = all_front (λ (r : Row). IsTrue (not (is_below r.0 low))) rows (join leaves) from in
    record {
      climbs = climbs None e es rows leaves (λ k under. subst (λ (x : List ℕ). is_below x k ≡ true) (sym first) (part_heads low rows here has.0 k under)) rest fit.ascend;
      stay = stays None e es rows leaves (subst (λ (x : List ℕ). AreFrom x rows) (sym first) here) rest fit.ascend;
      first = ap (λ (k : List ℕ). Some k) first;
      keys = (subst (λ (x : List ℕ). length x ≤ key_most) (sym first) short, keys_fit es leaves rest (all_back (λ (r : Row). RowFits [] key_most r) rows (join leaves) fit.fit));
    }

-- entries of rows below a key are below it
pub keys_under : (low key : List ℕ) (es : List Entry) (images : List Image) (leaves : List (List Row)) → is_below low key ≡ true → keys_of es ≡ part_keys low images → AreSpelled images leaves → Under key (join leaves) → AreBelow key es
keys_under low key [] images leaves less keys spelled under = tt
keys_under low key (e ∷ es) [] leaves less keys spelled under = absurd (nil_cons (sym keys))
keys_under low key (e ∷ es) (i ∷ images) [] less keys spelled under = absurd spelled
keys_under low key (e ∷ es) (i ∷ images) (rows ∷ leaves) less keys spelled under = (
  subst (λ (k : List ℕ). is_below k key ≡ true) (sym (cons_first keys)) less,
  each es leaves (has_keys es images leaves (cons_rest keys) spelled.1) (all_back (λ (r : Row). is_below r.0 key ≡ true) rows (join leaves) under),
)
  where
    first : (k : List ℕ) (rows : List Row) → IsLow k rows → Under key rows → is_below k key ≡ true
    first k [] low under = absurd (let some = low_some k [] low in omega (arith, some))
    first k (r ∷ rows) low under = subst (λ (x : List ℕ). is_below x key ≡ true) (sym (low_row k r rows low)) under.0

    each : (es : List Entry) (leaves : List (List Row)) → HasKeys es leaves → Under key (join leaves) → AreBelow key es
    each [] leaves has under = tt
    each (e ∷ es) [] has under = absurd has
    each (e ∷ es) (rows ∷ leaves) has under = (
      first e.key rows has.0 (all_front (λ (r : Row). is_below r.0 key ≡ true) rows (join leaves) under),
      each es leaves has.1 (all_back (λ (r : Row). is_below r.0 key ≡ true) rows (join leaves) under),
    )

-- the rows of a part lie between its entries
pub part_stays : (low : List ℕ) (es : List Entry) (images : List Image) (rows : List Row) → length low ≤ key_most → keys_of es ≡ part_keys low images → (of : LeavesOf images rows) → AreFit rows → AreFrom low rows → Stay es of.leaves
part_stays low es [] rows short keys of fit from = subst (λ (l : List Entry). Stay l of.leaves) (sym (no_entries es keys)) tt
part_stays low es (i ∷ images) rows short keys of fit from = (entries_of low es (i ∷ images) of.leaves (omega arith) short keys of.spelled of.some (subst AreFit (sym of.whole) fit) (subst (AreFrom low) (sym of.whole) from)).stay

-- ---- entries behind others

pub entries_fit : (es : List Entry) → AllByRecursion (λ (e : Entry). length e.key ≤ key_most) es → AllByRecursion (λ (e : Entry). LinkFits e.link) es → AllByRecursion EntryFits es
entries_fit es keys links = all_zip (λ (e : Entry). length e.key ≤ key_most) (λ (e : Entry). LinkFits e.link) EntryFits es (λ e key link. record { key = key; link = link }) keys links

-- entries climb where the first of those behind is above each of the others
pub climbs_both : (key : List ℕ) (xs ys : List Entry) → first_key ys ≡ Some key → Climbs xs → Climbs ys → AreBelow key xs → Climbs (xs ++ ys)
climbs_both key [] ys first one two below = two
climbs_both key (e ∷ []) [] first one two below = tt
climbs_both key (e ∷ []) (f ∷ ys) first one two below = (subst (λ (k : List ℕ). is_below e.key k ≡ true) (sym (some_same first)) below.0, two)
  where
    some_same : Some f.key ≡ Some key → f.key ≡ key
    some_same same = cc
climbs_both key (e ∷ f ∷ xs) ys first one two below = (one.0, climbs_both key (f ∷ xs) ys first one.1 two below.1)

-- what is known of a draft's entries
pub record AreDraft (es : List Entry) : Type 0 where
  pub climbs : Climbs es
  pub fit : AllByRecursion EntryFits es

none_behind : (xs : List Entry) → Climbs xs × AllByRecursion EntryFits xs → AreDraft (xs ++ [])
none_behind xs was = subst AreDraft (sym (append-nil xs)) (record { climbs = was.0; fit = was.1 })

-- the entries of a part that is written, behind others
pub part_behind : (low : List ℕ) (images : List Image) (rows : List Row) (xs es : List Entry) → length low ≤ key_most → keys_of es ≡ part_keys low images → LeavesOf images rows → AreFit rows → AreFrom low rows → AllByRecursion (λ (e : Entry). LinkFits e.link) es → AreBelow low xs → Climbs xs × AllByRecursion EntryFits xs → AreDraft (xs ++ es)
part_behind low [] rows xs es short keys of fit from links below was = subst (λ (l : List Entry). AreDraft (xs ++ l)) (sym (no_entries es keys)) (none_behind xs was)
part_behind low (i ∷ images) rows xs es short keys of fit from links below was =
    let known = entries_of low es (i ∷ images) of.leaves (omega arith) short keys of.spelled of.some (subst AreFit (sym of.whole) fit) (subst (AreFrom low) (sym of.whole) from) in
    record { climbs = climbs_both low xs es known.first was.0 known.climbs below; fit = all_both EntryFits xs es was.1 (entries_fit es known.keys links) }

-- the entries of a part that is kept, behind others
pub kept_behind : (xs es : List Entry) → Climbs es → AllByRecursion EntryFits es → IfSome (first_key es) (λ key. AreBelow key xs) → Climbs xs × AllByRecursion EntryFits xs → AreDraft (xs ++ es)
kept_behind xs [] climbs fit above was = none_behind xs was
kept_behind xs (e ∷ es) climbs fit above was = record { climbs = climbs_both e.key xs (e ∷ es) refl was.0 climbs above; fit = all_both EntryFits xs (e ∷ es) was.1 fit }

-- entries that are put behind others, or not
pub draft_closed : (r : Result (Unit {0}) StoreError) (xs es all : List Entry) → OnOk r (all ≡ xs ++ es) → OnErr r (all ≡ xs) → Climbs xs × AllByRecursion EntryFits xs → (Climbs xs × AllByRecursion EntryFits xs → AreDraft (xs ++ es)) → Climbs all × AllByRecursion EntryFits all
draft_closed (Ok done) xs es all put same was more = let draft = subst AreDraft (sym put) (more was) in (draft.climbs, draft.fit)
draft_closed (Err e) xs es all put same was more = subst (λ (l : List Entry). Climbs l × AllByRecursion EntryFits l) (sym same) was

-- ---- entries as those of a whole tree

pub rooted_climbs : (es : List Entry) → Climbs es → Climbs (rooted es)
rooted_climbs [] c = tt
rooted_climbs (e ∷ []) c = tt
rooted_climbs (e ∷ f ∷ es) c = (empty_below f.key e.key c.0, c.1)

pub rooted_fit : (es : List Entry) → AllByRecursion EntryFits es → AllByRecursion EntryFits (rooted es)
rooted_fit [] fit = tt
rooted_fit (e ∷ es) fit = (record { key = omega arith; link = fit.0.link }, fit.1)

pub rooted_first : (es : List Entry) → 1 ≤ length es → first_key (rooted es) ≡ Some []
rooted_first [] some = absurd (omega (arith, some))
rooted_first (e ∷ es) some = refl

pub rooted_stay : (es : List Entry) (leaves : List (List Row)) → Stay es leaves → Stay (rooted es) leaves
rooted_stay [] leaves stay = tt
rooted_stay (e ∷ es) [] stay = tt
rooted_stay (e ∷ es) (rows ∷ leaves) stay = (all_map (λ (r : Row). IsTrue (not (is_below r.0 e.key)) × IsTrue (ends_below (first_key es) r.0)) (λ (r : Row). IsTrue (not (is_below r.0 [])) × IsTrue (ends_below (first_key es) r.0)) rows (λ r is. (is_not [] r.0 (not_below_empty r.0), is.1)) stay.0, stay.1)

pub keys_length : (low : List ℕ) (es : List Entry) (images : List Image) → keys_of es ≡ part_keys low images → length es ≡ length images
keys_length low [] [] keys = refl
keys_length low [] (i ∷ images) keys = absurd (nil_cons keys)
keys_length low (e ∷ es) [] keys = absurd (nil_cons (sym keys))
keys_length low (e ∷ es) (i ∷ images) keys = ap (λ (n : ℕ). suc n) (rest es images (cons_rest keys))
  where
    rest : (es : List Entry) (images : List Image) → keys_of es ≡ image_keys images → length es ≡ length images
    rest [] [] keys = refl
    rest [] (i ∷ images) keys = absurd (nil_cons keys)
    rest (e ∷ es) [] keys = absurd (nil_cons (sym keys))
    rest (e ∷ es) (i ∷ images) keys = ap (λ (n : ℕ). suc n) (rest es images (cons_rest keys))
