-- Rows that are put one behind the other.
use Rattle.std.proofs.Common.{◌≡◌, ◌+◌, ◌<◌, ◌≤◌, ℕ, zero, suc, true, false, List, [], ◌∷◌, ◌++◌, length, take, drop, get_or, map, Some, refl, sym, ap, ap₂, subst, ◌∙◌, append_assoc, arith}
use Rattle.std.specs.Prelude.{slice_get}
use Rattle.std.specs.List.{AllByRecursion}
use Rattle.std.proofs.lemmas.List.{drop_all, map-append, take_all}
use Rattle.row_page.specs.declared.cell.Cell.{Cell}
use Rattle.row_page.specs.Rows.{Row, is_below}
use Rattle.row_page.specs.Views.{row_seen}
use Rattle.stored.specs.HistoryTree.{HistoryRecord}
use Rattle.device_read.specs.Merging.{later_row, merged, rows_below, rows_from, rows_past}
use Rattle.device_read.specs.Newest.{row_of, rows_of}

-- ---- those below a key, and the others

one_more : (n : ℕ) → suc (n + 1) ≡ suc n + 1
one_more n = omega arith

pub all_push : {A : Type 0} (P : A → Type 0) (xs : List A) (n : ℕ) (x : A) → n < length xs → x ≡ get_or xs n x → AllByRecursion P (take n xs) → P x → AllByRecursion P (take (n + 1) xs)
all_push P [] n x lt is all here = absurd (omega (arith, lt))
all_push P (y ∷ xs) zero x lt is all here = (subst P is here, tt)
all_push {A} P (y ∷ xs) (suc n) x lt is all here = subst (λ (k : ℕ). AllByRecursion P (take k (y ∷ xs))) (one_more n) (all.0, all_push P xs n x (omega (arith, lt)) is all.1 here)

-- the first so many are below the key, and the one behind them is not
pub below_here : (key : List ℕ) (newest : List HistoryRecord) (n : ℕ) (r : HistoryRecord) → n < length newest → r ≡ get_or newest n r → AllByRecursion (λ (x : HistoryRecord). is_below x.key key ≡ true) (take n newest) → is_below r.key key ≡ false
    → (rows_of (take n newest) ≡ rows_below key (rows_of newest)) × (rows_of (drop n newest) ≡ rows_from key (rows_of newest))
below_here key [] n r lt is all isnt = absurd (omega (arith, lt))
below_here key (x ∷ newest) zero r lt is all isnt =
    let first : is_below x.key key ≡ false = subst (λ (y : HistoryRecord). is_below y.key key ≡ false) is isnt in
    (rw first refl, rw first refl)
below_here key (x ∷ newest) (suc n) r lt is all isnt =
    let rest = below_here key newest n r (omega (arith, lt)) is all.1 isnt in
    (rw all.0 (ap (λ (l : List Row). row_of x ∷ l) rest.0), rw all.0 rest.1)

-- all are below it
pub below_all : (key : List ℕ) (newest : List HistoryRecord) → AllByRecursion (λ (x : HistoryRecord). is_below x.key key ≡ true) newest → (rows_of newest ≡ rows_below key (rows_of newest)) × ([] ≡ rows_from key (rows_of newest))
below_all key [] all = (refl, refl)
below_all key (x ∷ newest) all = let rest = below_all key newest all.1 in (rw all.0 (ap (λ (l : List Row). row_of x ∷ l) rest.0), rw all.0 rest.1)

-- after the last one
pub below_end : (key : List ℕ) (newest : List HistoryRecord) (n : ℕ) → length newest ≤ n → AllByRecursion (λ (x : HistoryRecord). is_below x.key key ≡ true) (take n newest)
    → (rows_of (take (length newest) newest) ≡ rows_below key (rows_of newest)) × (rows_of (drop (length newest) newest) ≡ rows_from key (rows_of newest))
below_end key newest n le all =
    let rest = below_all key newest (subst (λ (l : List HistoryRecord). AllByRecursion (λ (x : HistoryRecord). is_below x.key key ≡ true) l) (take_all n newest le) all) in
    (ap rows_of (take_all (length newest) newest (omega arith)) ∙ rest.0, ap rows_of (drop_all (length newest) newest (omega arith)) ∙ rest.1)

-- ---- a row, and what is left

pub drop_here : {A : Type 0} (xs : List A) (i : ℕ) (x : A) → slice_get xs i ≡ Some x → drop i xs ≡ x ∷ drop (i + 1) xs
drop_here [] i x is = absurd cc
drop_here {A} (y ∷ xs) zero x is = let same : y ≡ x = cc in ap (λ (z : A). z ∷ xs) same
drop_here {A} (y ∷ xs) (suc i) x is = drop_here xs i x is ∙ ap (λ (n : ℕ). x ∷ drop n (y ∷ xs)) (one_more i)

-- with the row and the records up to its key
pub put_more : (before now : List Row) (r : Row) (rows others rest : List Row) → now ≡ before ++ rows_below r.0 others ++ later_row r (rows_from r.0 others) ∷ [] → rest ≡ rows_past r.0 (rows_from r.0 others) → now ++ merged rows rest ≡ before ++ merged (r ∷ rows) others
put_more before now r rows others rest is left =
    let low : List Row = rows_below r.0 others in
    let y : Row = later_row r (rows_from r.0 others) in
    ap₂ (λ (x z : List Row). x ++ merged rows z) is left
    ∙ append_assoc (before ++ low) (y ∷ []) (merged rows (rows_past r.0 (rows_from r.0 others)))
    ∙ append_assoc before low (y ∷ merged rows (rows_past r.0 (rows_from r.0 others)))

pub seen_push : (cells : List Cell) (c : Cell) → map {A = Cell} row_seen (cells ++ c ∷ []) ≡ map {A = Cell} row_seen cells ++ row_seen c ∷ []
seen_push cells c = map-append row_seen cells (c ∷ [])

pub seen_at : (cells : List Cell) (i : ℕ) (c : Cell) → i < length cells → c ≡ get_or cells i c → slice_get (map {A = Cell} row_seen cells) i ≡ Some (row_seen c)
seen_at [] i c lt is = absurd (omega (arith, lt))
seen_at (x ∷ cells) zero c lt is = ap (λ (y : Cell). Some (row_seen y)) (sym is)
seen_at (x ∷ cells) (suc i) c lt is = seen_at cells i c (omega (arith, lt)) is

-- rows without others are themselves
pub merged_none : (rows : List Row) → merged rows [] ≡ rows
merged_none [] = refl
merged_none (r ∷ rows) = ap (λ (l : List Row). r ∷ l) (merged_none rows)

pub none_there : (newest : List HistoryRecord) → length newest ≡ 0 → newest ≡ []
none_there [] is = refl
none_there (r ∷ newest) is = absurd (omega (arith, is))
