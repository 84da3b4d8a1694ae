-- Lists on a way, and the rows of pages as a way goes over them.
use Rattle.std.proofs.Common.{◌≡◌, ◌<◌, ◌≤◌, ◌-◌, ◌∙◌, ◌++◌, ℕ, zero, suc, List, [], ◌∷◌, length, take, drop, reverse, append_assoc, Some, inl, inr, refl, sym, ap, ap₂, subst, arith}
use Rattle.std.specs.Prelude.{slice_get, get_or}
use Rattle.std.specs.List.{flat_map}
use Rattle.std.proofs.lemmas.Option.{slice_get_read, get_or_from_slice_get, same_Some}
use Rattle.std.proofs.lemmas.Grind.{flat_map-append}
use Rattle.std.proofs.lemmas.List.{append-nil, length-reverse, get_or-reverse, reverse-append, reverse-reverse, take-append-drop}
use Rattle.kv_model.specs.Content.{Content, start}
use Rattle.kv_model.specs.History.{Table}
use Rattle.kv_model.specs.Rows.{Way, Up, Down}
use Rattle.row_page.specs.declared.change.CellChange.TheVariants.{Put, Remove}
use Rattle.row_page.specs.Changes.{PageChange}
use Rattle.row_page.specs.Rows.{Row as PageRow}
use Rattle.device_read.specs.Laws.{AreWholePages}
use Rattle.device_read.specs.Readers.{Held, entries_at}
use Rattle.device_read.specs.Rows.{AreAllRows, put_as, put_row, put_rows, rows_in}
use Rattle.device_read.specs.Rows as read
use Rattle.dump_text.specs.declared.form.Form.{Form}
use Rattle.dump_text.specs.Grammar.{Row}
use Rattle.dump_text.specs.Written.{row_lines, text_of}
use Rattle.kv_model.specs.Holds.{Member}
use Rattle.inner_page.specs.Children.{IsUnderKey}
use Rattle.device_read.proofs.Lists.{member_at, member_parts}
use Rattle.device_read.proofs.Turned.{turned_member}
use Rattle.wt_tool.specs.Damaged.{ComesBefore}
use Rattle.wt_tool.specs.Dumps.{AreRows, InOrder}
use Rattle.wt_tool.specs.Pages.{along, place_on, rows_on, rows_text}

-- ---- a list on a way

pub along_length : {A : Type 0} (way : Way) (xs : List A) → length (along way xs) ≡ length xs
along_length Up xs = refl
along_length Down xs = length-reverse xs

pub along_at : {A : Type 0} (way : Way) (xs : List A) (k : ℕ) (x : A) → k < length xs → slice_get xs (place_on way (length xs) k) ≡ Some x → slice_get (along way xs) k ≡ Some x
along_at Up xs k x within is = is
along_at {A} Down xs k x within is =
    let same : length xs - 1 - k ≡ length xs - suc k = omega arith in
    let there : get_or xs (length xs - 1 - k) x ≡ x = ap (λ (n : ℕ). get_or xs n x) same ∙ get_or_from_slice_get xs (length xs - suc k) x x is in
    slice_get_read (reverse xs) (length xs) k x (sym (length-reverse xs)) within (sym (get_or-reverse xs k x within ∙ there))

-- ---- fronts

-- a list of lists, with one more of them in the front
pub front_more : {A B : Type 0} (f : A → List B) (xs : List A) (i : ℕ) (x : A) → slice_get xs i ≡ Some x → flat_map f (take (suc i) xs) ≡ flat_map f (take i xs) ++ f x
front_more f [] i x is = absurd cc
front_more f (y ∷ xs) zero x is = append-nil (f y) ∙ ap f (same_Some y x is)
front_more f (y ∷ xs) (suc i) x is = ap (λ l. f y ++ l) (front_more f xs i x is) ∙ sym (append_assoc (f y) (flat_map f (take i xs)) (f x))

pub front_all : {A B : Type 0} (f : A → List B) (xs : List A) (i : ℕ) → length xs ≤ i → flat_map f (take i xs) ≡ flat_map f xs
front_all f [] zero le = refl
front_all f [] (suc i) le = refl
front_all f (y ∷ xs) zero le = absurd (omega (arith, le))
front_all f (y ∷ xs) (suc i) le = ap (λ l. f y ++ l) (front_all f xs i (omega (arith, le)))

pub front_rest : {A B : Type 0} (f : A → List B) (xs : List A) (i : ℕ) → flat_map f xs ≡ flat_map f (take i xs) ++ flat_map f (drop i xs)
front_rest f xs i = ap (flat_map f) (sym (take-append-drop i xs)) ∙ flat_map-append f (take i xs) (drop i xs)

-- ---- the other way round

turned_map : {A B : Type 0} (f : A → List B) (xs : List A) → flat_map (λ x. reverse (f x)) (reverse xs) ≡ reverse (flat_map f xs)
turned_map f [] = refl
turned_map f (x ∷ xs) =
    ap (flat_map (λ y. reverse (f y))) (reverse-append (x ∷ []) xs)
    ∙ flat_map-append (λ y. reverse (f y)) (reverse xs) (x ∷ [])
    ∙ ap₂ (λ l m. l ++ m) (turned_map f xs) (append-nil (reverse (f x)))
    ∙ sym (reverse-append (f x) (flat_map f xs))

map_alike : {A B : Type 0} (f g : A → List B) (xs : List A) → ((x : A) → f x ≡ g x) → flat_map f xs ≡ flat_map g xs
map_alike f g [] same = refl
map_alike f g (x ∷ xs) same = ap₂ (λ l m. l ++ m) (same x) (map_alike f g xs same)

one_turned : (key : List ℕ) (change : PageChange) → reverse (put_as key change) ≡ put_as key change
one_turned key (Put value) = refl
one_turned key Remove = refl

page_turned : (page : List PageRow) → put_rows (reverse page) ≡ reverse (put_rows page)
page_turned page = map_alike put_row (λ r. reverse (put_row r)) (reverse page) (λ r. sym (one_turned r.0 r.1.change)) ∙ turned_map put_row page

pub rows_down : (pages : List (List PageRow)) → rows_on Down pages ≡ reverse (rows_in pages)
rows_down pages = map_alike (λ page. put_rows (reverse page)) (λ page. reverse (put_rows page)) (reverse pages) page_turned ∙ turned_map put_rows pages

-- ---- all rows of a table

in_order : (way : Way) (rows : List Row) → read.InOrder way rows → InOrder way rows
in_order way [] order = tt
in_order way (row ∷ rows) order = (order.0, in_order way rows order.1)

are_rows : (way : Way) (c : Content) (t : Table) (rows : List Row) → AreAllRows way c t.number rows → AreRows way (start c) t rows
are_rows way c t rows are = record { all = are.all; in_order = in_order way rows are.in_order }

pub whole_rows : (way : Way) (bytes : List ℕ) (c : Content) (h : Held) (place : ℕ) (t : Table) (pages : List (List PageRow)) → AreWholePages bytes c h place t.number pages → AreRows way (start c) t (rows_on way pages)
whole_rows Up bytes c h place t pages are = are_rows Up c t (rows_in pages) are.up
whole_rows Down bytes c h place t pages are = subst (λ (l : List Row). AreRows Down (start c) t l) (sym (rows_down pages)) (are_rows Down c t (reverse (rows_in pages)) are.down)

-- ---- texts

pub text_append : (xs ys : List (List ℕ)) → text_of (xs ++ ys) ≡ text_of xs ++ text_of ys
text_append [] ys = refl
text_append (x ∷ xs) ys = ap (λ (l : List ℕ). x ++ 10 ∷ l) (text_append xs ys) ∙ sym (append_assoc x (10 ∷ text_of xs) (text_of ys))

pub rows_append : (form : Form) (rows others : List Row) → rows_text form (rows ++ others) ≡ rows_text form rows ++ rows_text form others
rows_append form rows others = ap text_of (flat_map-append (row_lines form) rows others) ∙ text_append (flat_map (row_lines form) rows) (flat_map (row_lines form) others)

-- ---- the rows in front, and where their leaves stand

member_from : {A B : Type 0} (f : A → List B) (xs : List A) (y : B) → Member y (flat_map f xs) → (k : ℕ) × ((x : A) × (slice_get xs k ≡ Some x) × Member y (f x))
member_from f [] y there = absurd there
member_from {A} f (x ∷ xs) y there = elim (member_parts (f x) (flat_map f xs) y there) [
  | inl front ↦ (0, (x, refl, front))
  | inr back ↦ let more = member_from f xs y back in (suc more.0, more.1)
]

get_taken : {A : Type 0} (n : ℕ) (xs : List A) (k : ℕ) (x : A) → slice_get (take n xs) k ≡ Some x → (k < n) × (slice_get xs k ≡ Some x)
get_taken zero xs k x is = absurd cc
get_taken (suc n) [] k x is = absurd cc
get_taken (suc n) (y ∷ xs) zero x is = (omega arith, is)
get_taken (suc n) (y ∷ xs) (suc k) x is = let more = get_taken n xs k x is in let less : k < n = more.0 in (omega (arith, less), more.1)

get_within : {A : Type 0} (xs : List A) (k : ℕ) (x : A) → slice_get xs k ≡ Some x → k < length xs
get_within [] k x is = absurd cc
get_within (y ∷ xs) zero x is = omega arith
get_within (y ∷ xs) (suc k) x is = let less : k < length xs = get_within xs k x is in omega (arith, less)

-- a list on a way, back to the list
along_back : {A : Type 0} (way : Way) (xs : List A) (k : ℕ) (x : A) → slice_get (along way xs) k ≡ Some x → slice_get xs (place_on way (length xs) k) ≡ Some x
along_back Up xs k x is = is
along_back {A} Down xs k x is =
    let less : k < length (reverse xs) = get_within (reverse xs) k x is in
    let long : length (reverse xs) ≡ length xs = length-reverse xs in
    let back : length (reverse xs) - suc (length xs - suc k) ≡ k = omega (arith, less, long) in
    subst (λ (l : List A). slice_get l (length xs - suc k) ≡ Some x) (reverse-reverse xs)
    (along_at Down (reverse xs) (length xs - suc k) x (omega (arith, less, long)) (subst (λ (n : ℕ). slice_get (reverse xs) n ≡ Some x) (sym back) is))

comes_before : (way : Way) (count passed k : ℕ) → k < passed → passed < count → ComesBefore way (place_on way count k) (place_on way count passed)
comes_before Up count passed k less within = less
comes_before Down count passed k less within = omega (arith, less, within)

member_along : {A : Type 0} (way : Way) (xs : List A) (x : A) → Member x (along way xs) → Member x xs
member_along Up xs x there = there
member_along Down xs x there = turned_member x xs there

put_key : (key : List ℕ) (change : PageChange) (row : Row) → Member row (put_as key change) → row.0 ≡ key
put_key key (Put value) row (inl is) = ap (λ (r : Row). r.0) is
put_key key (Put value) row (inr none) = absurd none
put_key key Remove row there = absurd there

pub under_before : (way : Way) (bytes : List ℕ) (c : Content) (h : Held) (place number : ℕ) (pages : List (List PageRow)) (passed : ℕ) (row : Row) → AreWholePages bytes c h place number pages → passed < length pages → Member row (flat_map (λ page. put_rows (along way page)) (take passed (along way pages)))
    → (j : ℕ) × IsUnderKey (entries_at h place) row.0 j × ComesBefore way j (place_on way (length pages) passed)
under_before way bytes c h place number pages passed row are within there =
    let of_page = member_from (λ (page : List PageRow). put_rows (along way page)) (take passed (along way pages)) row there in
    let taken = get_taken passed (along way pages) of_page.0 of_page.1.0 of_page.1.1 in
    let of_row = member_from put_row (along way of_page.1.0) row of_page.1.2 in
    let own : PageRow = of_row.1.0 in
    let member : Member own of_page.1.0 = member_along way of_page.1.0 own (member_at (along way of_page.1.0) of_row.0 own of_row.1.1) in
    let j : ℕ = place_on way (length pages) of_page.0 in
    let key : row.0 ≡ own.0 = put_key own.0 own.1.change row of_row.1.2 in
    let under : IsUnderKey (entries_at h place) own.0 j = are.under j of_page.1.0 own (along_back way pages of_page.0 of_page.1.0 taken.1) member in
    (j, subst (λ (l : List ℕ). IsUnderKey (entries_at h place) l j) (sym key) under, comes_before way (length pages) passed of_page.0 taken.0 within)
