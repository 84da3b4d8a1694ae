-- Entries whose keys ascend, and rows that stand from a key on.
use Rattle.std.specs.Prelude.{◌≡◌, ℕ, suc, true, false, ◌+◌, ◌-◌, ◌<◌, List, [], ◌∷◌, ◌++◌, length, take, Option, Some, None, option_map, bytes_eq, slice_get, refl}
use Rattle.std.specs.List.{AllByRecursion}
use Rattle.std.specs.Borrow.{Bor}
use Rattle.std.proofs.Common.{inl, inr, sym, ◌∙◌, ap, subst, arith, get_or}
use Rattle.std.proofs.lemmas.Bool.{cases_Bool, both_ways, not-true, not_from_false}
use Rattle.std.proofs.lemmas.List.{append-nil, take_more}
use Rattle.kv_model.specs.Machine.{of_some}
use Rattle.row_page.specs.Rows.{Ascends, Row, is_below}
use Rattle.row_page.proofs.Ascending.{below_trans, keys_part}
use Rattle.reconcile.proofs.Keyed.{same_key}
use Rattle.leaf_rows.specs.Rows.{AreFit}
use Rattle.reconcile.specs.declared.image.Image.{Image}
use Rattle.reconcile.specs.Images.{AreImages, IsLow}
use Rattle.stored.specs.TableTree.{Climbs, Entry, EntryFits}
use Rattle.tree_write.specs.Drafts.{AreBelow, AreFrom}
use Rattle.tree_write.proofs.LeafKeys.{from_low}

-- ---- entries

abbrev pub last_of : List Entry → Option Entry
last_of [] = None
last_of (e ∷ []) = Some e
last_of (e ∷ f ∷ es) = last_of (f ∷ es)

-- the key is above that of the last one, where there is one
abbrev pub AboveLast : Entry → Option Entry → Type 0
AboveLast e last = of_some true (λ (x : Entry). is_below x.key e.key) last ≡ true

pub climbs_more : (es : List Entry) (e : Entry) → Climbs es → AboveLast e (last_of es) → Climbs (es ++ e ∷ [])
climbs_more [] e climbs above = tt
climbs_more (x ∷ []) e climbs above = (above, tt)
climbs_more (x ∷ y ∷ es) e climbs above = (climbs.0, climbs_more (y ∷ es) e climbs.1 above)

last_more : (es : List Entry) (e : Entry) → last_of (es ++ e ∷ []) ≡ Some e
last_more [] e = refl
last_more (x ∷ []) e = refl
last_more (x ∷ y ∷ es) e = last_more (y ∷ es) e

fits_more : (es : List Entry) (e : Entry) → AllByRecursion EntryFits es → EntryFits e → AllByRecursion EntryFits (es ++ e ∷ [])
fits_more [] e fits own = (own, tt)
fits_more (x ∷ es) e fits own = (fits.0, fits_more es e fits.1 own)

-- Of entries the first ones.
pub record ClimbTo (es : List Entry) (i : ℕ) : Type 0 where
  pub fit : AllByRecursion EntryFits (take i es)
  pub climbs : Climbs (take i es)

-- one more of them
pub climb_step : (es : List Entry) (i : ℕ) (e : Entry) → i < length es → e ≡ get_or es i e → ClimbTo es i → EntryFits e → AboveLast e (last_of (take i es)) → ClimbTo es (i + 1)
climb_step es i e lt is to fits above =
    let step : take i es ++ e ∷ [] ≡ take (i + 1) es = sym (take_more es i e lt ∙ ap (λ (x : Entry). take i es ++ x ∷ []) (sym is)) in
    record {
      fit = subst (λ (l : List Entry). AllByRecursion EntryFits l) step (fits_more (take i es) e to.fit fits);
      climbs = subst Climbs step (climbs_more (take i es) e to.climbs above);
    }

pub last_step : (es : List Entry) (i : ℕ) (e : Entry) → i < length es → e ≡ get_or es i e → Some e ≡ last_of (take (i + 1) es)
last_step es i e lt is = sym (ap last_of (take_more es i e lt ∙ ap (λ (x : Entry). take i es ++ x ∷ []) (sym is)) ∙ last_more (take i es) e)

-- the last one by its place
pub last_get : (es : List Entry) → slice_get es (length es - 1) ≡ last_of es
last_get [] = refl
last_get (x ∷ []) = let none : length (x ∷ []) - 1 ≡ 0 = omega arith in ap (λ (i : ℕ). slice_get (x ∷ []) i) none
last_get (x ∷ y ∷ es) = (let back : length (x ∷ y ∷ es) - 1 ≡ suc (length (y ∷ es) - 1) = omega arith in ap (λ (i : ℕ). slice_get (x ∷ y ∷ es) i) back) ∙ last_get (y ∷ es)

-- what is above the last is above all
pub below_all : (es : List Entry) (last : Entry) (key : List ℕ) → Climbs es → last_of es ≡ Some last → is_below last.key key ≡ true → AreBelow key es
below_all [] last key climbs is below = tt
below_all (x ∷ []) last key climbs is below = (subst (λ (e : Entry). is_below e.key key ≡ true) (sym (one is)) below, tt)
  where
    one : Some x ≡ Some last → x ≡ last
    one same = cc
below_all (x ∷ y ∷ es) last key climbs is below = let rest = below_all (y ∷ es) last key climbs.1 is below in (below_trans x.key y.key key climbs.0 rest.0, rest)

-- ---- rows

-- what stands from a key on stands from each that is not above it
from_lower : (low key : List ℕ) (rows : List Row) → is_below key low ≡ false → AreFrom key rows → AreFrom low rows
from_lower low key [] least from = tt
from_lower low key (r ∷ rows) least from = (
  not_from_false (is_below r.0 low) (elim (cases_Bool (is_below r.0 low)) [
    | inr isnt ↦ isnt
    | inl below ↦ absurd (both_ways (is_below key low) least (turned r.0 below (not-true (is_below r.0 key) from.0)))
  ]),
  from_lower low key rows least from.1,
)
  where
    turned : (k : List ℕ) → is_below k low ≡ true → is_below k key ≡ false → is_below key low ≡ true
    turned k below from = elim (cases_Bool (bytes_eq k key)) [
      | inl same ↦ subst (λ (x : List ℕ). is_below x low ≡ true) (same_key k key same) below
      | inr differ ↦ below_trans key k low (keys_part k key from differ) below
    ]

low_of_all : (key : List ℕ) (front others : List Row) → IsLow key front → IsLow key (front ++ others)
low_of_all key [] others low = absurd (none low.first)
  where
    none : None ≡ Some low.row → ⊥
    none same = cc
low_of_all key (r ∷ front) others low = record { row = low.row; first = low.first; is = low.is }

-- the rows of images stand from the first one's least key on
images_from : (image : Image) (images : List Image) (rows : List Row) (low : List ℕ) → AreImages (image ∷ images) rows → AreFit rows → is_below image.low low ≡ false → AreFrom low rows
images_from image images rows low are fit least =
    from_lower low image.low rows least
    (from_low image.low None rows [] (subst (λ (l : List Row). IsLow image.low l) (sym are.whole) (low_of_all image.low are.front are.others are.spells.low)) (subst (λ (l : List Row). Ascends None l) (sym (append-nil rows)) fit.ascend))

-- the same, where this is the first image
pub images_stand : (images : List Image) (image : Image) (rows : List Row) (low : List ℕ) → Some image ≡ slice_get images 0 → AreImages images rows → AreFit rows → is_below image.low low ≡ false → AreFrom low rows
images_stand [] image rows low first are fit least = absurd cc
images_stand (i ∷ images) image rows low first are fit least = images_from i images rows low are fit (subst (λ (x : Image). is_below x.low low ≡ false) (one first) least)
  where
    one : Some image ≡ Some i → image ≡ i
    one same = cc

-- ---- lent

-- a test of what is lent
pub lent_test : (last : Option (Bor Entry)) (e : Entry) → of_some true (λ (x : Bor Entry). is_below x.now.key e.key) last ≡ true → AboveLast e (option_map (λ (x : Bor Entry). x.now) last)
lent_test None e is = refl
lent_test (Some x) e is = is

pub lent_from : (last : Option (Bor Entry)) (e : Entry) → AboveLast e (option_map (λ (x : Bor Entry). x.now) last) → of_some true (λ (x : Bor Entry). is_below x.now.key e.key) last ≡ true
lent_from None e is = refl
lent_from (Some x) e is = is
