-- What is written is a dump, line by line.
use Rattle.std.proofs.Common.{◌≡◌, ◌≢◌, ◌∙◌, ◌+◌, ◌<◌, ◌/◌, ◌%◌, ℕ, zero, suc, List, lit<, [], ◌∷◌, ◌++◌, refl, sym, ap, subst, inl, inr, codes, append_assoc, get_or, arith}
use Rattle.std.specs.Prelude.{Bool, true, false, ◌&&◌, ◌==◌, nat_lt, nat_le}
use Rattle.std.specs.List.{AllByRecursion, list_all, flat_map}
use Rattle.std.proofs.lemmas.Bool.{cases_Bool, and_parts, and_from, ne_eqb, not_from_false, leb-true, false≢true}
use Rattle.std.proofs.lemmas.List.{append-nil}
use Rattle.item.specs.declared.formats.Format.{Format}
use Rattle.item.specs.declared.formats.Format.TheVariants.{S, U}
use Rattle.item.specs.declared.formats.Formats.{Formats}
use Rattle.item.specs.Escapes.{escaped, escape_byte, digit, is_printable}
use Rattle.item.proofs.ReadBack.{reads-back}
use Rattle.hex.specs.Hex.{encode_with, lower_digits, IsBytes}
use Rattle.hex.proofs.HexLemmas.{decode_of-encode_lower}
use Rattle.config_text.specs.Bytes.{is_bare}
use Rattle.config_text.specs.Grammar.{IsValue, IsItem, AreItems}
use Rattle.config_text.specs.Items.{NamesFormats}
use Rattle.dump_text.specs.Items.{item_line, decoded, HasFormat, IsItemLine}
use Rattle.dump_text.specs.Written.{form_line, format_word, config_line, head_lines, row_lines, dump_lines, text_of}
use Rattle.dump_text.specs.Grammar.{Row, AreRows, IsDump}
use Rattle.dump_text.specs.Runs.{AreBytes, IsRowOf, is_of_line, IsOneLine}
use Rattle.dump_text.specs.declared.form.Form.{Form}
use Rattle.dump_text.specs.declared.form.Form.TheVariants.{Print, Hex}

-- ---- items

each-byte : (item : List ℕ) → AreBytes item → IsBytes item
each-byte [] are i = lit< tt
each-byte (b ∷ item) are zero = are.0
each-byte (b ∷ item) are (suc i) = each-byte item are.1 i

-- the line of an item writes it
pub item-written : (form : Form) (format : Format) (item : List ℕ) → AreBytes item → HasFormat format item → IsItemLine form format item (item_line form item)
item-written Print format item are has = (reads-back item are, has)
item-written Hex format item are has = (ap decoded (decode_of-encode_lower item (each-byte item are)), has)

-- ---- a configuration

pairs-written : (key value : List ℕ) → list_all is_bare key ≡ true → list_all is_bare value ≡ true
    → AreItems ((codes "key_format", key) ∷ (codes "value_format", value) ∷ []) (codes "key_format=" ++ key ++ codes ",value_format=" ++ value)
pairs-written key value one two =
    let last : IsItem (codes "value_format", value) (codes "value_format=" ++ value) = IsItem.valued 118 (codes "alue_format") value value refl (IsValue.bare value two) in
    let first : IsItem (codes "key_format", key) (codes "key_format=" ++ key) = IsItem.valued 107 (codes "ey_format") key key refl (IsValue.bare key one) in
    let behind : AreItems ((codes "value_format", value) ∷ []) (codes "value_format=" ++ value) =
    subst (AreItems ((codes "value_format", value) ∷ [])) (append-nil (codes "value_format=" ++ value)) (AreItems.item (codes "value_format", value) [] (codes "value_format=" ++ value) [] last tt AreItems.none) in
    subst (AreItems ((codes "key_format", key) ∷ (codes "value_format", value) ∷ [])) (sym (append_assoc (codes "key_format=" ++ key) (codes ",value_format=") value))
    (AreItems.item (codes "key_format", key) ((codes "value_format", value) ∷ []) (codes "key_format=" ++ key) (44 ∷ (codes "value_format=" ++ value)) first refl
    (AreItems.comma ((codes "value_format", value) ∷ []) (codes "value_format=" ++ value) behind))

pub config-written : (key value : Format) → NamesFormats (config_line (record { key = key; value = value })) (record { key = key; value = value })
config-written S S = (_, pairs-written (codes "S") (codes "S") refl refl, refl)
config-written S U = (_, pairs-written (codes "S") (codes "u") refl refl, refl)
config-written U S = (_, pairs-written (codes "u") (codes "S") refl refl, refl)
config-written U U = (_, pairs-written (codes "u") (codes "u") refl refl, refl)

-- ---- dumps

rows-written : (form : Form) (formats : Formats) (rows : List Row) → AllByRecursion (IsRowOf formats) rows → AreRows form formats rows (flat_map (row_lines form) rows)
rows-written form formats [] are = refl
rows-written form formats (row ∷ rows) are =
    let row_is = are.0 in
    (item_line form row.0, item_line form row.1, flat_map (row_lines form) rows, item-written form formats.key row.0 row_is.0 row_is.2, item-written form formats.value row.1 row_is.1 row_is.3, refl, rows-written form formats rows are.1)

pub dump-written : (form : Form) (name : List ℕ) (formats : Formats) (rows : List Row) → AllByRecursion (IsRowOf formats) rows
    → IsDump (record { form = form; name = name; formats = formats; rows = rows }) (dump_lines form name formats rows)
dump-written form name formats rows are = (
  codes "WiredTiger Dump (row store 1)",
  (codes "table:" ++ name, config_line formats) ∷ [],
  flat_map (row_lines form) rows,
  (codes " (row store 1)", refl),
  inl (inl refl, config-written formats.key formats.value, tt),
  rows-written form formats rows are,
  refl,
)

-- ---- texts

text-append : (xs ys : List (List ℕ)) → text_of (xs ++ ys) ≡ text_of xs ++ text_of ys
text-append [] ys = refl
text-append (x ∷ xs) ys = ap (λ (l : List ℕ). x ++ 10 ∷ l) (text-append xs ys) ∙ sym (append_assoc x (10 ∷ text_of xs) (text_of ys))

rows-append : (form : Form) (rows : List Row) (row : Row) → flat_map (row_lines form) (rows ++ row ∷ []) ≡ flat_map (row_lines form) rows ++ row_lines form row
rows-append form [] row = refl
rows-append form (first ∷ rows) row = ap (λ (l : List (List ℕ)). item_line form first.0 ∷ item_line form first.1 ∷ l) (rows-append form rows row)

pub row-behind : (form : Form) (name : List ℕ) (formats : Formats) (rows : List Row) (row : Row)
    → text_of (dump_lines form name formats rows) ++ text_of (row_lines form row) ≡ text_of (dump_lines form name formats (rows ++ row ∷ []))
row-behind form name formats rows row =
    sym (text-append (dump_lines form name formats rows) (row_lines form row))
    ∙ ap (λ (l : List (List ℕ)). text_of (head_lines form name formats ++ l)) (sym (rows-append form rows row))

-- ---- no newline in a line

both-lines : (xs ys : List ℕ) → IsOneLine xs → IsOneLine ys → IsOneLine (xs ++ ys)
both-lines [] ys one two = two
both-lines (x ∷ xs) ys one two = let parts = and_parts (is_of_line x) (list_all is_of_line xs) one in and_from (is_of_line x) (list_all is_of_line (xs ++ ys)) parts.0 (both-lines xs ys parts.1 two)

high-is : (b : ℕ) → 10 < b → is_of_line b ≡ true
high-is b high = not_from_false (b == 10) (ne_eqb b 10 (apart high)) where
  apart : 10 < b → b ≢ 10
  apart high e = omega (arith, high, e)

digit-is : (d : ℕ) → is_of_line (digit d) ≡ true
digit-is d = elim (cases_Bool (nat_lt d 10)) [ inl low ↦ rw low (high-is (48 + d) (omega arith)) | inr high ↦ rw high (high-is (87 + d) (omega arith)) ]

byte-line : (b : ℕ) → IsOneLine (escape_byte b)
byte-line b = elim (cases_Bool (b == 92)) [
  | inl is ↦ rw is refl
  | inr other ↦ elim (cases_Bool (is_printable b)) [
    | inl plain ↦ let low = leb-true 32 b (and_parts (nat_le 32 b) (nat_le b 126) plain).0 in
        let here : is_of_line b ≡ true = high-is b (omega (arith, low)) in
        rw (other, plain) (and_from (is_of_line b) true here refl)
    | inr hidden ↦ rw (other, hidden) (and_from (is_of_line (digit (b / 16))) (is_of_line (digit (b % 16)) && true) (digit-is (b / 16)) (and_from (is_of_line (digit (b % 16))) true (digit-is (b % 16)) refl))
  ]
]

escaped-line : (item : List ℕ) → IsOneLine (escaped item)
escaped-line [] = refl
escaped-line (b ∷ item) = both-lines (escape_byte b) (escaped item) (byte-line b) (escaped-line item)

entry-line : (xs : List ℕ) (k : ℕ) → IsOneLine xs → is_of_line (get_or xs k 0) ≡ true
entry-line [] k one = refl
entry-line (x ∷ xs) zero one = (and_parts (is_of_line x) (list_all is_of_line xs) one).0
entry-line (x ∷ xs) (suc k) one = entry-line xs k (and_parts (is_of_line x) (list_all is_of_line xs) one).1

hex-line : (t item : List ℕ) → IsOneLine t → IsOneLine (encode_with t item)
unfolding encode_with
hex-line t [] one = refl
hex-line t (b ∷ item) one =
    and_from (is_of_line (get_or t (b / 16) 0)) _ (entry-line t (b / 16) one) (and_from (is_of_line (get_or t (b % 16) 0)) (list_all is_of_line (encode_with t item)) (entry-line t (b % 16) one) (hex-line t item one))

item-one-line : (form : Form) (item : List ℕ) → IsOneLine (item_line form item)
item-one-line Print item = escaped-line item
item-one-line Hex item = hex-line lower_digits item refl

word-line : (format : Format) → IsOneLine (format_word format)
word-line S = refl
word-line U = refl

form-one-line : (form : Form) → IsOneLine (form_line form)
form-one-line Print = refl
form-one-line Hex = refl

rows-lines : (form : Form) (rows : List Row) → AllByRecursion IsOneLine (flat_map (row_lines form) rows)
rows-lines form [] = tt
rows-lines form (row ∷ rows) = (item-one-line form row.0, (item-one-line form row.1, rows-lines form rows))

pub one-lines : (form : Form) (name : List ℕ) (formats : Formats) (rows : List Row) → IsOneLine name → AllByRecursion IsOneLine (dump_lines form name formats rows)
one-lines form name formats rows name_is =
    let config = both-lines (codes "key_format=" ++ format_word formats.key ++ codes ",value_format=") (format_word formats.value)
    (both-lines (codes "key_format=" ++ format_word formats.key) (codes ",value_format=") (both-lines (codes "key_format=") (format_word formats.key) refl (word-line formats.key)) refl) (word-line formats.value) in
    (refl, (form-one-line form, (refl, (both-lines (codes "table:") name refl name_is, (config, (refl, rows-lines form rows))))))

-- ---- a text parts into lines in one way

newline-apart : (b : ℕ) (more : Bool) → 10 ≡ b → (is_of_line b && more) ≡ true → ⊥
newline-apart b more e one = not-line (subst (λ (c : ℕ). is_of_line c ≡ true) (sym e) (and_parts (is_of_line b) more one).0) where
  not-line : false ≡ true → ⊥
  not-line f = false≢true f

some-text : (y rest : List ℕ) → [] ≡ y ++ 10 ∷ rest → ⊥
some-text [] rest e = cc (e)
some-text (b ∷ y) rest e = cc (e)

front-one-way : (x y rest others : List ℕ) → IsOneLine x → IsOneLine y → x ++ 10 ∷ rest ≡ y ++ 10 ∷ others → (x ≡ y) × (rest ≡ others)
front-one-way [] [] rest others one two e = (refl, tail 10 10 rest others e) where
  tail : (a b : ℕ) (l m : List ℕ) → a ∷ l ≡ b ∷ m → l ≡ m
  tail a b l m e = cc
front-one-way [] (b ∷ y) rest others one two e = absurd (newline-apart b (list_all is_of_line y) (head 10 b rest (y ++ 10 ∷ others) e) two) where
  head : (a b : ℕ) (l m : List ℕ) → a ∷ l ≡ b ∷ m → a ≡ b
  head a b l m e = cc
front-one-way (a ∷ x) [] rest others one two e = absurd (newline-apart a (list_all is_of_line x) (head 10 a others (x ++ 10 ∷ rest) (sym e)) one) where
  head : (a b : ℕ) (l m : List ℕ) → a ∷ l ≡ b ∷ m → a ≡ b
  head a b l m e = cc
front-one-way (a ∷ x) (b ∷ y) rest others one two e =
    let parts = heads a b (x ++ 10 ∷ rest) (y ++ 10 ∷ others) e in
    let more = front-one-way x y rest others (and_parts (is_of_line a) (list_all is_of_line x) one).1 (and_parts (is_of_line b) (list_all is_of_line y) two).1 parts.1 in
    (λ i. parts.0 i ∷ more.0 i, more.1) where
      heads : (a b : ℕ) (l m : List ℕ) → a ∷ l ≡ b ∷ m → (a ≡ b) × (l ≡ m)
      heads a b l m e = (cc, cc)

pub text-one-way : (xs ys : List (List ℕ)) → AllByRecursion IsOneLine xs → AllByRecursion IsOneLine ys → text_of xs ≡ text_of ys → xs ≡ ys
text-one-way [] [] one two e = refl
text-one-way [] (y ∷ ys) one two e = absurd (some-text y (text_of ys) e)
text-one-way (x ∷ xs) [] one two e = absurd (some-text x (text_of xs) (sym e))
text-one-way (x ∷ xs) (y ∷ ys) one two e =
    let here = front-one-way x y (text_of xs) (text_of ys) one.0 two.0 e in
    let more = text-one-way xs ys one.1 two.1 here.1 in
    λ i. here.0 i ∷ more i
