-- Cells that are found by where they begin.
use Rattle.std.proofs.Common.{◌≡◌, ◌≢◌, ℕ, zero, suc, ◌+◌, ◌-◌, ◌<◌, ◌≤◌, ◌==◌, ◌^◌, Bool, true, false, cond, List, [], ◌∷◌, ◌++◌, length, drop, take, replicate, get_or, Option, Some, None, refl, sym, ap, subst, ◌∙◌, append_assoc, inl, inr, arith}
use Rattle.std.specs.Prelude.{◌&&◌, nat_le, option_map, slice_get, max, Result, Ok, Err, IfOk, IfSome, IfNone}
use Rattle.std.specs.List.{AllByRecursion}
use Rattle.std.proofs.lemmas.Bool.{cases_lt, cases_Bool, le-leb, leb-true, ne_eqb}
use Rattle.std.proofs.lemmas.Option.{cond_some, slice_get-map, slice_get-get_or}
use Rattle.std.proofs.lemmas.List.{drop_at, drop-drop, drop-append-le, length-drop, length-append, map-append, nil_from_length, take_at}
use Rattle.std.specs.Int.{w8, w16, w32, from_le_bytes}
use Rattle.le_codec.specs.Fields.{◌>>=◌, le, number_at, IsBytes}
use Rattle.le_codec.specs.Combine.{then_at, try_at, with_front}
use Rattle.le_codec.specs.Images.{first_format, header, framed, block_size, HoldsImage}
use Rattle.le_codec.proofs.Laws.{bind_some, some_is, IsBytes-drop, wide16, length_8, length_16, length_32, length_64}
use Rattle.le_codec.proofs.Heads.{length-header}
use Rattle.le_codec.proofs.Chains.{goes_on, ends, is_done}
use Rattle.stamp.specs.declared.name.Name.{Name}
use Rattle.row_page.specs.Rows.{Row, Raw, lengths_text, window_text, cell, key_most, key_of, Ascends, IsPage}
use Rattle.row_page.specs.Reading.{raw_at, row_under, row_fits, change_of, cell_at, row_at, rows_at, read_rows, leaf_at}
use Rattle.row_page.specs.Greatest.{greatest_in, most_in, names_of, durables_of}
use Rattle.stamp.specs.Order.{later}
use Rattle.row_page.specs.Places.{row_read, row_from, rows_from, CellBegins, AreFound}
use Rattle.row_page.proofs.Fields.{raw_field, row_field}
use Rattle.row_page.proofs.Greater.{greatest_push, most_push}
use Rattle.row_page.proofs.Grammar.{leaf_takes, page_takes, no_rows}
use Rattle.row_page.proofs.Steps.{ordered}

nothing_some : {A : Type 0} {x : A} → None ≡ Some x → ⊥
nothing_some e = absurd cc

no_cell : cell_at [] key_most [] ≡ None
unfolding cell_at try_at raw_at then_at number_at
no_cell = refl

pub begins_within : (text : List ℕ) (place : ℕ) → CellBegins text place → place < length text
begins_within text place b = elim (cases_lt place (length text)) [
  | inl less ↦ less
  | inr past ↦ absurd (nothing_some (sym (ap (cell_at [] key_most) (nil_from_length (drop place text) (omega (arith, length-drop place text, past))) ∙ no_cell) ∙ b.is))
]

-- in the block
pub in_block : (block : List ℕ) (place : ℕ) → CellBegins (drop 16 block) place → 16 + place ≤ length block
in_block block place b = omega (arith, begins_within (drop 16 block) place b, length-drop 16 block)

pub cell_there : (block : List ℕ) (place : ℕ) (b : CellBegins (drop 16 block) place) → cell_at [] key_most (drop (16 + place) block) ≡ Some (b.row, b.rest)
cell_there block place b = ap (cell_at [] key_most) (sym (drop-drop place 16 block)) ∙ b.is

-- a cell's key, as it stands there
pub raw_there : (bytes : List ℕ) (r : Row) (rest : List ℕ) → cell_at [] key_most bytes ≡ Some (r, rest) → (x : Raw) × (raw_at bytes ≡ Some (x, rest)) × (r.0 ≡ x.key)
unfolding cell_at try_at
raw_there bytes r rest e =
    let a = bind_some (raw_at bytes) (λ x. row_under [] key_most x.0 >>= λ b. Some (b, x.1)) (r, rest) e in
    let b = bind_some (row_under [] key_most a.0.0) (λ b. Some (b, a.0.1)) (r, rest) a.2 in
    let same = some_is (b.0, a.0.1) (r, rest) b.2 in
    let x : Raw = a.0.0 in
    let d = bind_some (change_of x.code x.value) (λ change. cond (row_fits key_most ([] ++ x.key, record { window = x.window; change = change })) (Some ([] ++ x.key, record { window = x.window; change = change })) None) b.0 b.1 in
    let made : Row = ([] ++ x.key, record { window = x.window; change = d.0 }) in
    let g = cond_some (row_fits key_most made) made b.0 d.2 in
    (x, a.1 ∙ ap (λ (l : List ℕ). Some (x, l)) (ap (λ (p : Row × List ℕ). p.1) same), sym (ap (λ (p : Row × List ℕ). p.0.0) same) ∙ sym (ap (λ (y : Row). y.0) g.1))

-- a cell whose key is found by its length: the numbers, the key, and what is behind
pub record KeyAt (bytes : List ℕ) (key : List ℕ) : Type 0 where
  pub long : 39 + length key ≤ length bytes
  pub len : from_le_bytes w16 (take 39 bytes) ≡ length key
  pub is : take (length key) (drop 39 bytes) ≡ key

number_front : (k : ℕ) (more bytes : List ℕ) → k < 2 ^ 16 → bytes ≡ le w16 k ++ more → from_le_bytes w16 bytes ≡ k
unfolding le
number_front k more bytes small e = ap (from_le_bytes w16) e ∙ wide16.again k small

pub key_there : (bytes : List ℕ) (r : Row) (rest : List ℕ) → IsBytes bytes → cell_at [] key_most bytes ≡ Some (r, rest) → KeyAt bytes r.0
key_there bytes r rest fits e =
    let raw = raw_there bytes r rest e in
    let x : Raw = raw.0 in
    let t = raw_field.takes bytes x rest fits raw.1 in
    let head : List ℕ = lengths_text (length x.key) x.code (length x.value) ++ window_text x.window in
    let head_len : length head ≡ 39 = simp (length-append, length_8, length_16, length_32, length_64) refl in
    let parts : bytes ≡ head ++ (x.key ++ (x.value ++ rest)) = t.0.parts ∙ simp append_assoc refl in
    let numbers : take 39 bytes ≡ head = ap (take 39) parts ∙ take_at head (x.key ++ (x.value ++ rest)) 39 head_len in
    let front : take 39 bytes ≡ le w16 (length x.key) ++ (le w8 x.code ++ le w32 (length x.value) ++ window_text x.window) = numbers ∙ simp append_assoc refl in
    let behind : drop 39 bytes ≡ x.key ++ (x.value ++ rest) = ap (drop 39) parts ∙ drop_at head (x.key ++ (x.value ++ rest)) 39 head_len in
    let read : KeyAt bytes x.key = record {
      long = omega (arith, ap length parts, length-append head (x.key ++ (x.value ++ rest)), head_len, length-append x.key (x.value ++ rest));
      len = number_front (length x.key) (le w8 x.code ++ le w32 (length x.value) ++ window_text x.window) (take 39 bytes) t.1.key front;
      is = ap (take (length x.key)) behind ∙ take_at x.key (x.value ++ rest) (length x.key) refl;
    } in
    subst (λ (k : List ℕ). KeyAt bytes k) (sym raw.2) read

-- ---- more bytes behind

cell_on : (bytes more : List ℕ) (r : Row) (rest : List ℕ) → IsBytes bytes → cell_at [] key_most bytes ≡ Some (r, rest) → cell_at [] key_most (bytes ++ more) ≡ Some (r, rest ++ more)
cell_on bytes more r rest fits e =
    let t = (row_field [] key_most (omega arith)).takes bytes r rest fits e in
    ap (λ (l : List ℕ). cell_at [] key_most (l ++ more)) t.0.parts ∙ ap (cell_at [] key_most) (append_assoc (cell r) rest more) ∙ (row_field [] key_most (omega arith)).again r (rest ++ more) t.1

begins_on : (text more : List ℕ) (place : ℕ) → IsBytes text → CellBegins text place → (b : CellBegins (text ++ more) place) × (row_from (text ++ more) place ≡ row_from text place)
begins_on text more place fits b =
    let apart : drop place (text ++ more) ≡ drop place text ++ more = drop-append-le place text more (omega (arith, begins_within text place b)) in
    let read : cell_at [] key_most (drop place (text ++ more)) ≡ Some (b.row, b.rest ++ more) = ap (cell_at [] key_most) apart ∙ cell_on (drop place text) more b.row b.rest (IsBytes-drop place text fits) b.is in
    (record { row = b.row; rest = b.rest ++ more; is = read }, ap row_read read ∙ sym (ap row_read b.is))

all_on : (text more places : List ℕ) → IsBytes text → AllByRecursion (λ (place : ℕ). CellBegins text place) places
    → AllByRecursion (λ (place : ℕ). CellBegins (text ++ more) place) places × (rows_from (text ++ more) places ≡ rows_from text places)
all_on text more [] fits all = (tt, refl)
all_on text more (p ∷ places) fits all =
    let first = begins_on text more p fits all.0 in
    let others = all_on text more places fits all.1 in
    ((first.0, others.0), ap (λ (r : Row). r ∷ rows_from (text ++ more) places) first.1 ∙ ap (λ (l : List Row). row_from text p ∷ l) others.1)

found_on : (text more places : List ℕ) (name : Name) (stamp : ℕ) → IsBytes text → AreFound text places name stamp → AreFound (text ++ more) places name stamp × (rows_from (text ++ more) places ≡ rows_from text places)
found_on text more places name stamp fits f =
    let all = all_on text more places fits f.begin in (
      record {
        begin = all.0;
        ascend = subst (λ (l : List Row). Ascends None l) (sym all.1) f.ascend;
        greatest = subst (λ (l : List Row). name ≡ greatest_in (names_of l)) (sym all.1) f.greatest;
        durable = subst (λ (l : List Row). stamp ≡ most_in (durables_of l)) (sym all.1) f.durable;
      },
      all.1,
    )

behind : (kind count level : ℕ) (text block : List ℕ) → HoldsImage kind first_format block count level text → (more : List ℕ) × (drop 16 block ≡ text ++ more)
behind kind count level text block h =
    let first : List ℕ = header kind first_format count (16 + length text) level in
    let more : List ℕ = replicate (block_size (length (framed kind first_format count level text)) - length (framed kind first_format count level text)) 0 in
    (more, ap (λ (l : List ℕ). drop 16 l) (h.spelled ∙ append_assoc first text more) ∙ drop_at first (text ++ more) 16 (length-header kind first_format count (16 + length text) level))

-- what was found in the text stands in the block
pub found_in_block : (kind count level : ℕ) (text block places : List ℕ) (name : Name) (stamp : ℕ) → IsBytes text → HoldsImage kind first_format block count level text → AreFound text places name stamp
    → AreFound (drop 16 block) places name stamp × (rows_from (drop 16 block) places ≡ rows_from text places)
found_in_block kind count level text block places name stamp fits h f =
    let b = behind kind count level text block h in
    let on = found_on text b.0 places name stamp fits f in
    (subst (λ (l : List ℕ). AreFound l places name stamp) (sym b.1) on.0, ap (λ (l : List ℕ). rows_from l places) b.1 ∙ on.1)

-- ---- one pass

-- what is known after some of the cells
pub record Passed (text : List ℕ) (count i : ℕ) (before : Option (List ℕ)) (left places : List ℕ) (name : Name) (stamp : ℕ) : Type 0 where
  pub read : with_front (rows_from text places) (rows_at [] key_most (count - i) before left) ≡ read_rows count text
  pub begin : AllByRecursion (λ (place : ℕ). CellBegins text place) places
  pub short : length left ≤ length text
  pub suffix : left ≡ drop (length text - length left) text
  pub greatest : name ≡ greatest_in (names_of (rows_from text places))
  pub durable : stamp ≡ most_in (durables_of (rows_from text places))

all_push : {A : Type 0} (P : A → Type 0) (xs : List A) (x : A) → AllByRecursion P xs → P x → AllByRecursion P (xs ++ x ∷ [])
all_push P [] x all p = (p, tt)
all_push P (y ∷ xs) x all p = (all.0, all_push P xs x all.1 p)

pub passed_start : (text left : List ℕ) (count : ℕ) → left ≡ text → Passed text count 0 None left [] (record { run = 0; id = 0 }) 0
passed_start text left count same =
    let all : rows_at [] key_most (count - 0) None left ≡ read_rows count text = ap (λ (n : ℕ). rows_at [] key_most n None left) (minus count) ∙ ap (λ (l : List ℕ). read_rows count l) same in
    record {
      read = front (rows_at [] key_most (count - 0) None left) ∙ all;
      begin = tt;
      short = omega (arith, ap length same);
      suffix = same ∙ ap (λ (n : ℕ). drop n text) (none (length text) (length left) (ap length same));
      greatest = refl;
      durable = refl;
    }
  where
    minus : (n : ℕ) → n - 0 ≡ n
    minus n = omega arith

    none : (n m : ℕ) → m ≡ n → 0 ≡ n - m
    none n m e = omega (arith, e)

    front : (read : Option (List Row × List ℕ)) → with_front [] read ≡ read
    front (Some x) = refl
    front None = refl

pub passed_more : (text : List ℕ) (count i : ℕ) (before : Option (List ℕ)) (left places : List ℕ) (name : Name) (stamp : ℕ) (r : Row) (after : List ℕ) → IsBytes text → i < count
    → Passed text count i before left places name stamp → row_at [] key_most before left ≡ Some (r, after)
    → Passed text count (i + 1) (Some r.0) after (places ++ (length text - length left) ∷ []) (later name r.1.window.name) (max stamp r.1.window.durable)
passed_more text count i before left places name stamp r after fits lt p e =
    let place : ℕ = length text - length left in
    let o = ordered before left r after e in
    let bytes : IsBytes left = subst (λ (l : List ℕ). IsBytes l) (sym p.suffix) (IsBytes-drop place text fits) in
    let t = (row_field [] key_most (omega arith)).takes left r after bytes o.0 in
    let here : cell_at [] key_most (drop place text) ≡ Some (r, after) = ap (cell_at [] key_most) (sym p.suffix) ∙ o.0 in
    let more : rows_from text (places ++ place ∷ []) ≡ rows_from text places ++ r ∷ [] = map-append (row_from text) places (place ∷ []) ∙ ap (λ (x : Row). rows_from text places ++ x ∷ []) (ap row_read here) in
    let long : length left ≡ length (cell r) + length after = ap length t.0.parts ∙ length-append (cell r) after in
    let names : names_of (rows_from text places ++ r ∷ []) ≡ names_of (rows_from text places) ++ r.1.window.name ∷ [] = map-append {A = Row} (λ x. x.1.window.name) (rows_from text places) (r ∷ []) in
    let stamps : durables_of (rows_from text places ++ r ∷ []) ≡ durables_of (rows_from text places) ++ r.1.window.durable ∷ [] = map-append {A = Row} (λ x. x.1.window.durable) (rows_from text places) (r ∷ []) in
    record {
      read = ap (λ (l : List Row). with_front l (rows_at [] key_most (count - (i + 1)) (Some r.0) after)) more ∙ goes_on (row_at [] key_most) key_of (rows_from text places) count i before left r after (read_rows count text) lt e p.read;
      begin = all_push (λ (x : ℕ). CellBegins text x) places place p.begin (record { row = r; rest = after; is = here });
      short = omega (arith, long, p.short);
      suffix =
          sym (drop_at (cell r) after (length (cell r)) refl)
          ∙ ap (λ (l : List ℕ). drop (length (cell r)) l) (sym t.0.parts ∙ p.suffix)
          ∙ drop-drop (length (cell r)) place text
          ∙ ap (λ (n : ℕ). drop n text) (sums (length text) (length left) (length (cell r)) (length after) long p.short);
      greatest = ap (λ (n : Name). later n r.1.window.name) p.greatest ∙ sym (greatest_push (names_of (rows_from text places)) r.1.window.name) ∙ ap greatest_in (sym names) ∙ ap (λ (l : List Row). greatest_in (names_of l)) (sym more);
      durable = ap (λ (n : ℕ). max n r.1.window.durable) p.durable ∙ sym (most_push (durables_of (rows_from text places)) r.1.window.durable) ∙ ap most_in (sym stamps) ∙ ap (λ (l : List Row). most_in (durables_of l)) (sym more);
    }
  where
    sums : (t l c a : ℕ) → l ≡ c + a → l ≤ t → (t - l) + c ≡ t - a
    sums t l c a e le = omega (arith, e, le)

-- no cell where one should be
pub passed_none : (text : List ℕ) (count i : ℕ) (before : Option (List ℕ)) (left places : List ℕ) (name : Name) (stamp : ℕ) → i < count → Passed text count i before left places name stamp → row_at [] key_most before left ≡ None → leaf_at count 0 text ≡ None
passed_none text count i before left places name stamp lt p e =
    let none = ends (row_at [] key_most) key_of (rows_from text places) count i before left (read_rows count text) lt e p.read in
    rw none refl

-- all cells, and more bytes
pub passed_left : (text : List ℕ) (count i : ℕ) (before : Option (List ℕ)) (left places : List ℕ) (name : Name) (stamp : ℕ) → count ≤ i → Passed text count i before left places name stamp → length left ≢ 0 → leaf_at count 0 text ≡ None
passed_left text count i before left places name stamp le p some =
    let all = is_done (row_at [] key_most) key_of (rows_from text places) count i before left (read_rows count text) le p.read in
    let other : (length left == 0) ≡ false = ne_eqb (length left) 0 some in
    rw (all, other) refl

pub passed_all : (text : List ℕ) (count i : ℕ) (before : Option (List ℕ)) (left places : List ℕ) (name : Name) (stamp : ℕ) → IsBytes text → length text ≤ 32752 → count ≤ i → Passed text count i before left places name stamp → length left ≡ 0
    → (leaf_at count 0 text ≡ Some (rows_from text places)) × AreFound text places name stamp
passed_all text count i before left places name stamp fits small le p none =
    let all = is_done (row_at [] key_most) key_of (rows_from text places) count i before left (read_rows count text) le p.read in
    let empty : left ≡ [] = nil_from_length left none in
    let whole : read_rows count text ≡ Some (rows_from text places, []) = all ∙ ap (λ (l : List ℕ). Some (rows_from text places, l)) empty in
    let few : nat_le (length text) 32752 ≡ true = le-leb _ _ small in
    let leaf : leaf_at count 0 text ≡ Some (rows_from text places) = rw (whole, few) refl in
    (leaf, record { begin = p.begin; ascend = (leaf_takes count 0 text (rows_from text places) fits leaf).admitted.ascend; greatest = p.greatest; durable = p.durable })

and_false : (b : Bool) → (b && false) ≡ false
and_false true = refl
and_false false = refl

-- another level, or a text that is too long
pub no_leaf_above : (count level : ℕ) (text : List ℕ) → level ≢ 0 → leaf_at count level text ≡ None
no_leaf_above count level text other = by (read_rows count text)
  where
    by : (o : Option (List Row × List ℕ)) → (o >>= λ rows. cond ((level == 0) && (length rows.1 == 0) && nat_le (length text) 32752) (Some rows.0) None) ≡ None
    by None = refl
    by (Some rows) = let e : (level == 0) ≡ false = ne_eqb level 0 other in rw e refl

pub no_long_leaf : (count level : ℕ) (text : List ℕ) → 32752 < length text → leaf_at count level text ≡ None
no_long_leaf count level text long = elim (cases_Bool (nat_le (length text) 32752)) [
  | inl is ↦ absurd (omega (arith, leb-true (length text) 32752 is, long))
  | inr isnt ↦ by (read_rows count text) isnt
]
  where
    by : (o : Option (List Row × List ℕ)) → nat_le (length text) 32752 ≡ false → (o >>= λ rows. cond ((level == 0) && (length rows.1 == 0) && nat_le (length text) 32752) (Some rows.0) None) ≡ None
    by None isnt = refl
    by (Some rows) isnt = rw (isnt, and_false ((level == 0) && (length rows.1 == 0))) refl

-- ---- the i-th

pub begin_at : (text places : List ℕ) (i d : ℕ) → AllByRecursion (λ (place : ℕ). CellBegins text place) places → i < length places → CellBegins text (get_or places i d)
begin_at text [] i d all lt = absurd (omega (arith, lt))
begin_at text (p ∷ places) zero d all lt = all.0
begin_at text (p ∷ places) (suc i) d all lt = begin_at text places i d all.1 (omega (arith, lt))

pub row_there : (text places : List ℕ) (i d : ℕ) → i < length places → slice_get (rows_from text places) i ≡ Some (row_from text (get_or places i d))
row_there text places i d lt = slice_get-map (row_from text) places i ∙ ap (option_map (row_from text)) (slice_get-get_or places i d lt)

-- ---- what an answer says

pub if_some : {E X : Type 0} (P Q R : X → Type 0) (r : Result (Option X) E) → ((x : X) → P x → Q x → R x) → IfOk r (λ o. IfSome o P) → IfOk r (λ o. IfSome o Q) → IfOk r (λ o. IfSome o R)
if_some P Q R (Ok (Some x)) f p q = f x p q
if_some P Q R (Ok None) f p q = tt
if_some P Q R (Err e) f p q = tt

pub if_none : {E X : Type 0} (P Q : Type 0) (r : Result (Option X) E) → (P → Q) → IfOk r (λ o. IfNone o P) → IfOk r (λ o. IfNone o Q)
if_none P Q (Ok (Some x)) f p = tt
if_none P Q (Ok None) f p = f p
if_none P Q (Err e) f p = tt

-- the leaf that the block's image says
pub page_of : (block : List ℕ) (count : ℕ) (text places : List ℕ) (name : Name) (stamp : ℕ) → IsBytes text → HoldsImage 1 first_format block count 0 text → AreFound text places name stamp → leaf_at count 0 text ≡ Some (rows_from text places)
    → IsPage block (rows_from (drop 16 block) places)
page_of block count text places name stamp fits h f leaf =
    let on = found_in_block 1 count 0 text block places name stamp fits h f in
    subst (λ (l : List Row). IsPage block l) (sym on.1) (page_takes block count 0 text (rows_from text places) h.spelled (leaf_takes count 0 text (rows_from text places) fits leaf))

pub no_page : (block : List ℕ) (count level : ℕ) (text : List ℕ) → HoldsImage 1 first_format block count level text → leaf_at count level text ≡ None → (rows : List Row) → IsPage block rows → ⊥
no_page block count level text h leaf = no_rows block count level text h (sym leaf)
