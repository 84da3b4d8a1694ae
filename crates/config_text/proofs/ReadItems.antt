-- Items: what is read at the front of a text is what the grammar says.
use Rattle.std.proofs.Common.{◌≡◌, ◌∙◌, ◌+◌, ◌⊎◌, ◌↔◌, ℕ, suc, List, [], ◌∷◌, ◌++◌, length, take, drop, refl, sym, ap, subst, inl, inr, append_assoc, length-append, take-append-drop, arith}
use Rattle.std.specs.Prelude.{true, false, not, ◌==◌, Option, Some, None, option_map, option_and_then}
use Rattle.std.specs.List.{list_all, prefix_len}
use Rattle.std.proofs.lemmas.Bool.{cases_Bool, and_parts, eqb-true, eq-eqb, not-true, not-false}
use Rattle.std.proofs.lemmas.Option.{none-some, same_Some, some_pair_parts, cond_some}
use Rattle.std.proofs.lemmas.List.{take_at, drop_at, append-nil}
use Rattle.config_text.specs.Bytes.{is_plain, is_bare, is_of_key, is_quotable}
use Rattle.config_text.specs.Grammar.{Pair, IsWithin, IsValue, IsItem, IsItemsEnd, AreItems}
use Rattle.config_text.specs.Reading.{closing_len, cut_at, behind_quote, quoted_value, bracketed_value, bare_value, value_at, value_behind, is_items_end, ended, keyed, item_at}
use Rattle.config_text.proofs.Fronts.{Stops, front-passes, front-stops, front-taken, front-dropped}
use Rattle.config_text.proofs.Choices.{then-is, else-is, then-from, else-from}
use Rattle.config_text.proofs.ClosingBrackets.{IsClosing, bracket-closes, bracket-read}

-- ---- values

abbrev Found : List ℕ → List ℕ → List ℕ → Type 0
Found value rest text = (written : List ℕ) × IsValue value written × (text ≡ written ++ rest)

quoted-is : (text value rest : List ℕ) → quoted_value text ≡ Some (value, rest) → Found value rest (34 ∷ text)
quoted-is text value rest e = go (take n text) (drop n text) (front-passes is_quotable text) (front-stops is_quotable text) (sym (take-append-drop n text)) e where
  n : ℕ
  n = prefix_len is_quotable text

  go : (front others : List ℕ) → list_all is_quotable front ≡ true → Stops is_quotable others → text ≡ front ++ others → behind_quote front others ≡ Some (value, rest) → Found value rest (34 ∷ text)
  go front [] passes stops is e = absurd (none-some (value, rest) e)
  go front (q ∷ others) passes stops is e =
      let parts = some_pair_parts front value others rest e in
      let q-is : q ≡ 34 = eqb-true q 34 (not-false (q == 34) stops) in
      let same : text ≡ (value ++ 34 ∷ []) ++ rest = is ∙ (λ i. parts.0 i ++ q-is i ∷ parts.1 i) ∙ sym (append_assoc value (34 ∷ []) rest) in
      (34 ∷ (value ++ 34 ∷ []), IsValue.quoted value (subst (λ (l : List ℕ). list_all is_quotable l ≡ true) parts.0 passes), ap (λ (l : List ℕ). 34 ∷ l) same)

bracketed-is : (opening closing : ℕ) (text value rest : List ℕ) → bracketed_value opening text closing ≡ Some (value, rest)
    → (inner : List ℕ) × IsWithin inner × (value ≡ opening ∷ (inner ++ closing ∷ [])) × (opening ∷ text ≡ value ++ rest)
bracketed-is opening closing text value rest e = go (closing_len false (closing ∷ []) text) refl e where
  go : (o : Option ℕ) → closing_len false (closing ∷ []) text ≡ o → option_map (λ n. cut_at (opening ∷ text) (suc n)) o ≡ Some (value, rest)
      → (inner : List ℕ) × IsWithin inner × (value ≡ opening ∷ (inner ++ closing ∷ [])) × (opening ∷ text ≡ value ++ rest)
  go None is e = absurd (none-some (value, rest) e)
  go (Some n) is e =
      let found = bracket-closes closing text n is in
      let parts = some_pair_parts (opening ∷ take n text) value (drop n text) rest e in
      (found.0, found.1, sym parts.0 ∙ ap (λ (l : List ℕ). opening ∷ l) found.2, sym (ap (λ (l : List ℕ). opening ∷ l) (take-append-drop n text)) ∙ (λ i. parts.0 i ++ parts.1 i))

round-is : (text value rest : List ℕ) → bracketed_value 40 text 41 ≡ Some (value, rest) → Found value rest (40 ∷ text)
round-is text value rest e = let found = bracketed-is 40 41 text value rest e in (value, subst (λ (v : List ℕ). IsValue v v) (sym found.2) (IsValue.round found.0 found.1), found.3)

square-is : (text value rest : List ℕ) → bracketed_value 91 text 93 ≡ Some (value, rest) → Found value rest (91 ∷ text)
square-is text value rest e = let found = bracketed-is 91 93 text value rest e in (value, subst (λ (v : List ℕ). IsValue v v) (sym found.2) (IsValue.square found.0 found.1), found.3)

bare-is : (text value rest : List ℕ) → bare_value text ≡ Some (value, rest) → Found value rest text
bare-is text value rest e =
    let n : ℕ = prefix_len is_bare text in
    let parts = some_pair_parts (take n text) value (drop n text) rest e in
    (value, IsValue.bare value (subst (λ (l : List ℕ). list_all is_bare l ≡ true) parts.0 (front-passes is_bare text)), sym (take-append-drop n text) ∙ (λ i. parts.0 i ++ parts.1 i))

value-is : (text value rest : List ℕ) → value_at text ≡ Some (value, rest) → Found value rest text
value-is [] value rest e = let parts = some_pair_parts [] value [] rest e in (value, IsValue.bare value (subst (λ (l : List ℕ). list_all is_bare l ≡ true) parts.0 refl), λ i. parts.0 i ++ parts.1 i)
value-is (b ∷ text) value rest e = elim (cases_Bool (b == 34)) [
  | inl q ↦ at-byte 34 q (quoted-is text value rest (then-is _ _ _ _ q e))
  | inr q ↦ let e = else-is _ _ _ _ q e in elim (cases_Bool (b == 40)) [
    | inl r ↦ at-byte 40 r (round-is text value rest (there 40 41 r (then-is _ _ _ _ r e)))
    | inr r ↦ let e = else-is _ _ _ _ r e in elim (cases_Bool (b == 91)) [
      | inl s ↦ at-byte 91 s (square-is text value rest (there 91 93 s (then-is _ _ _ _ s e)))
      | inr s ↦ bare-is (b ∷ text) value rest (else-is _ _ _ _ s e)
    ]
  ]
] where
  at-byte : (d : ℕ) → (b == d) ≡ true → Found value rest (d ∷ text) → Found value rest (b ∷ text)
  at-byte d same found = subst (λ (x : ℕ). Found value rest (x ∷ text)) (sym (eqb-true b d same)) found

  there : (d closing : ℕ) → (b == d) ≡ true → bracketed_value b text closing ≡ Some (value, rest) → bracketed_value d text closing ≡ Some (value, rest)
  there d closing same e = subst (λ (x : ℕ). bracketed_value x text closing ≡ Some (value, rest)) (eqb-true b d same) e

end-stops : (rest : List ℕ) → IsItemsEnd rest → Stops is_bare rest
end-stops [] end = tt
end-stops (b ∷ rest) end = ap is_bare end

bare-front : (b : ℕ) → is_bare b ≡ true → ((b == 34) ≡ false) × ((b == 40) ≡ false) × ((b == 91) ≡ false)
bare-front b bare =
    let plain = (and_parts (is_plain b) (not (b == 44)) bare).0 in
    let p = and_parts (not (b == 34)) _ plain in
    let q = and_parts (not (b == 40)) _ p.1 in
    let r = and_parts (not (b == 41)) _ q.1 in
    let s = and_parts (not (b == 91)) (not (b == 93)) r.1 in
    (not-true (b == 34) p.0, not-true (b == 40) q.0, not-true (b == 91) s.0)

bracket-back : (opening : ℕ) (inner : List ℕ) (closing : ℕ) (rest : List ℕ) → IsWithin inner → IsClosing closing → bracketed_value opening ((inner ++ closing ∷ []) ++ rest) closing ≡ Some (opening ∷ (inner ++ closing ∷ []), rest)
bracket-back opening inner closing rest is of =
    let value : List ℕ = opening ∷ (inner ++ closing ∷ []) in
    let read : closing_len false (closing ∷ []) ((inner ++ closing ∷ []) ++ rest) ≡ Some (length inner + 1) = ap (closing_len false (closing ∷ [])) (append_assoc inner (closing ∷ []) rest) ∙ bracket-read inner closing rest is of in
    let len = length-append inner (closing ∷ []) in
    let long : length value ≡ suc (length inner + 1) = omega (arith, len) in
    let taken : take (suc (length inner + 1)) (value ++ rest) ≡ value = take_at value rest (suc (length inner + 1)) long in
    let dropped : drop (suc (length inner + 1)) (value ++ rest) ≡ rest = drop_at value rest (suc (length inner + 1)) long in
    ap (option_map (λ n. cut_at (value ++ rest) (suc n))) read ∙ (λ i. Some (taken i, dropped i))

value-back : {value written : List ℕ} → IsValue value written → (rest : List ℕ) → IsItemsEnd rest → value_at (written ++ rest) ≡ Some (value, rest)
value-back (IsValue.bare value passes) rest end = go value rest passes end where
  go : (value rest : List ℕ) → list_all is_bare value ≡ true → IsItemsEnd rest → value_at (value ++ rest) ≡ Some (value, rest)
  go [] [] passes end = refl
  go [] (b ∷ rest) passes end = subst (λ (x : ℕ). value_at (x ∷ rest) ≡ Some ([], x ∷ rest)) (sym end) refl
  go (b ∷ value) rest passes end =
      let front = bare-front b (and_parts (is_bare b) (list_all is_bare value) passes).0 in
      let taken = front-taken is_bare (b ∷ value) rest passes (end-stops rest end) in
      let dropped = front-dropped is_bare (b ∷ value) rest passes (end-stops rest end) in
      else-from _ _ _ _ front.0 (else-from _ _ _ _ front.1 (else-from _ _ _ _ front.2 (λ i. Some (taken i, dropped i))))
value-back (IsValue.quoted value passes) rest end =
    let taken = front-taken is_quotable value (34 ∷ rest) passes refl in
    let dropped = front-dropped is_quotable value (34 ∷ rest) passes refl in
    ap (λ (l : List ℕ). quoted_value l) (append_assoc value (34 ∷ []) rest) ∙ (λ i. behind_quote (taken i) (dropped i))
value-back (IsValue.round inner is) rest end = bracket-back 40 inner 41 rest is (inl refl)
value-back (IsValue.square inner is) rest end = bracket-back 91 inner 93 rest is (inr refl)

-- ---- items

abbrev ItemFound : Pair → List ℕ → List ℕ → Type 0
ItemFound item rest text = (written : List ℕ) × IsItem item written × (text ≡ written ++ rest) × IsItemsEnd rest

is-end : (rest : List ℕ) → is_items_end rest ≡ true → IsItemsEnd rest
is-end [] e = tt
is-end (b ∷ rest) e = eqb-true b 44 e

end-is : (rest : List ℕ) → IsItemsEnd rest → is_items_end rest ≡ true
end-is [] end = refl
end-is (b ∷ rest) end = eq-eqb b 44 end

behind-is : (b : ℕ) (key others value rest : List ℕ) → list_all is_of_key (b ∷ key) ≡ true → IsItemsEnd rest → value_behind others ≡ Some (value, rest) → ItemFound (b ∷ key, value) rest ((b ∷ key) ++ others)
behind-is b key [] value rest passes end e =
    let parts = some_pair_parts [] value [] rest e in
    (b ∷ key, subst (λ (v : List ℕ). IsItem (b ∷ key, v) (b ∷ key)) parts.0 (IsItem.alone b key passes), ap (λ (l : List ℕ). (b ∷ key) ++ l) parts.1, end)
behind-is b key (x ∷ others) value rest passes end e = elim (cases_Bool (x == 61)) [
  | inl equals ↦
      let found = value-is others value rest (then-is _ _ _ _ equals e) in
      let same : (b ∷ key) ++ x ∷ others ≡ ((b ∷ key) ++ 61 ∷ found.0) ++ rest =
      (λ i. (b ∷ key) ++ eqb-true x 61 equals i ∷ found.2 i) ∙ sym (append_assoc (b ∷ key) (61 ∷ found.0) rest) in
      ((b ∷ key) ++ 61 ∷ found.0, IsItem.valued b key value found.0 passes found.1, same, end)
  | inr other ↦
      let parts = some_pair_parts [] value (x ∷ others) rest (else-is _ _ _ _ other e) in
      (b ∷ key, subst (λ (v : List ℕ). IsItem (b ∷ key, v) (b ∷ key)) parts.0 (IsItem.alone b key passes), ap (λ (l : List ℕ). (b ∷ key) ++ l) parts.1, end)
]

ended-is : (b : ℕ) (key others : List ℕ) (item : Pair) (rest : List ℕ) → list_all is_of_key (b ∷ key) ≡ true → (o : Option (List ℕ × List ℕ)) → value_behind others ≡ o → option_and_then (ended (b ∷ key)) o ≡ Some (item, rest)
    → ItemFound item rest ((b ∷ key) ++ others)
ended-is b key others item rest passes None is e = absurd (none-some (item, rest) e)
ended-is b key others item rest passes (Some found) is e =
    let parts = cond_some (is_items_end found.1) ((b ∷ key, found.0), found.1) (item, rest) e in
    subst (λ (p : Pair × List ℕ). ItemFound p.0 p.1 ((b ∷ key) ++ others)) parts.1 (behind-is b key others found.0 found.1 passes (is-end found.1 parts.0) is)

-- what is read is an item
item-is : (text : List ℕ) (item : Pair) (rest : List ℕ) → item_at text ≡ Some (item, rest) → ItemFound item rest text
item-is text item rest e = subst (ItemFound item rest) (take-append-drop n text) (go (take n text) (drop n text) (front-passes is_of_key text) e) where
  n : ℕ
  n = prefix_len is_of_key text

  go : (key others : List ℕ) → list_all is_of_key key ≡ true → keyed key others ≡ Some (item, rest) → ItemFound item rest (key ++ others)
  go [] others passes e = absurd (none-some (item, rest) e)
  go (b ∷ key) others passes e = ended-is b key others item rest passes (value_behind others) refl e

key-stops : (rest : List ℕ) → IsItemsEnd rest → Stops is_of_key rest
key-stops [] end = tt
key-stops (b ∷ rest) end = ap is_of_key end

-- an item is read
item-back : {item : Pair} {written : List ℕ} → IsItem item written → (rest : List ℕ) → IsItemsEnd rest → item_at (written ++ rest) ≡ Some (item, rest)
item-back (IsItem.alone b key passes) rest end =
    let taken = front-taken is_of_key (b ∷ key) rest passes (key-stops rest end) in
    let dropped = front-dropped is_of_key (b ∷ key) rest passes (key-stops rest end) in
    (λ i. keyed (taken i) (dropped i)) ∙ alone rest end where
      alone : (rest : List ℕ) → IsItemsEnd rest → keyed (b ∷ key) rest ≡ Some ((b ∷ key, []), rest)
      alone [] end = refl
      alone (x ∷ rest) end = subst (λ (y : ℕ). keyed (b ∷ key) (y ∷ rest) ≡ Some ((b ∷ key, []), y ∷ rest)) (sym end) refl
item-back (IsItem.valued b key value written passes is) rest end =
    let taken = front-taken is_of_key (b ∷ key) (61 ∷ (written ++ rest)) passes refl in
    let dropped = front-dropped is_of_key (b ∷ key) (61 ∷ (written ++ rest)) passes refl in
    ap item_at (append_assoc (b ∷ key) (61 ∷ written) rest) ∙ ((λ i. keyed (taken i) (dropped i)) ∙ (ap (option_and_then (ended (b ∷ key))) (value-back is rest end) ∙ then-from _ _ _ _ (end-is rest end) refl))

-- ---- lists of items

abbrev Parted : List Pair → List ℕ → Type 0
Parted items text =
    ((items ≡ []) × (text ≡ []))
    ⊎ (((rest : List ℕ) × (text ≡ 44 ∷ rest) × AreItems items rest)
    ⊎ ((first : Pair) × (others : List Pair) × (behind : List ℕ) × (item_at text ≡ Some (first, behind)) × (items ≡ first ∷ others) × AreItems others behind))

parted : {items : List Pair} {text : List ℕ} → AreItems items text → Parted items text
parted AreItems.none = inl (refl, refl)
parted (AreItems.comma items rest more) = inr (inl (rest, refl, more))
parted (AreItems.item first items written rest is end more) = inr (inr (first, items, rest, item-back is rest end, refl, more))

no-item : (rest : List ℕ) (p : Pair × List ℕ) → item_at (44 ∷ rest) ≡ Some p → ⊥
no-item rest p e = none-some p e

-- a text has one list of items at most
pub one-list : {items : List Pair} {text : List ℕ} → AreItems items text → (others : List Pair) → AreItems others text → items ≡ others
one-list AreItems.none others other = go (parted other) where
  go : Parted others [] → [] ≡ others
  go (inl both) = sym both.0
  go (inr (inl more)) = absurd (cc (more.1))
  go (inr (inr more)) = absurd (none-some (more.0, more.2) more.3)
one-list (AreItems.comma items rest more) others other = go (λ l m. one-list more l m) (parted other) where
  go : ((l : List Pair) → AreItems l rest → items ≡ l) → Parted others (44 ∷ rest) → items ≡ others
  go again (inl both) = absurd (cc (both.1))
  go again (inr (inl next)) = again others (subst (AreItems others) (sym (cons-tail next.1)) next.2) where
    cons-tail : {x y : ℕ} {xs ys : List ℕ} → x ∷ xs ≡ y ∷ ys → xs ≡ ys
    cons-tail e = cc
  go again (inr (inr next)) = absurd (no-item rest (next.0, next.2) next.3)
one-list (AreItems.item first items written rest is end more) others other = go (λ l m. one-list more l m) (item-back is rest end) (parted other) where
  go : ((l : List Pair) → AreItems l rest → items ≡ l) → item_at (written ++ rest) ≡ Some (first, rest) → Parted others (written ++ rest) → first ∷ items ≡ others
  go again read (inl both) = absurd (none-some (first, rest) (sym (ap item_at both.1) ∙ read))
  go again read (inr (inl next)) = absurd (none-some (first, rest) (sym (ap item_at next.1) ∙ read))
  go again read (inr (inr next)) =
      let parts = some_pair_parts first next.0 rest next.2 (sym read ∙ next.3) in
      let same : items ≡ next.1 = again next.1 (subst (AreItems next.1) (sym parts.1) next.5) in
      (λ i. parts.0 i ∷ same i) ∙ sym next.4

-- items are read, and the rest of the text is to be read: its items go on from them, and no others do
pub record HasRead (seen : List Pair) (rest text : List ℕ) : Type 0 where
  pub on : (items : List Pair) → AreItems items rest → AreItems (seen ++ items) text
  pub only : (all : List Pair) → AreItems all text → (items : List Pair) × (all ≡ seen ++ items) × AreItems items rest

pub nothing-read : (text : List ℕ) → HasRead [] text text
nothing-read text = record { on = λ items is. is; only = λ all is. (all, refl, is) }

-- a comma that no item stands before
pub comma-read : (seen : List Pair) (rest text : List ℕ) → HasRead seen (44 ∷ rest) text → HasRead seen rest text
comma-read seen rest text read = record {
  on = λ items is. read.on items (AreItems.comma items rest is);
  only = λ all is. let more = read.only all is in (more.0, more.1, go more.0 (parted more.2));
} where
  go : (items : List Pair) → Parted items (44 ∷ rest) → AreItems items rest
  go items (inl both) = absurd (cc (both.1))
  go items (inr (inl next)) = subst (AreItems items) (sym (cons-tail next.1)) next.2 where
    cons-tail : {x y : ℕ} {xs ys : List ℕ} → x ∷ xs ≡ y ∷ ys → xs ≡ ys
    cons-tail e = cc
  go items (inr (inr next)) = absurd (no-item rest (next.0, next.2) next.3)

pub item-read : (seen : List Pair) (item : Pair) (here rest text : List ℕ) → item_at here ≡ Some (item, rest) → HasRead seen here text → HasRead (seen ++ item ∷ []) rest text
item-read seen item here rest text e read = record {
  on = λ items is.
      let found = item-is here item rest e in
      subst (λ (l : List Pair). AreItems l text) (sym (append_assoc seen (item ∷ []) items))
      (read.on (item ∷ items) (subst (AreItems (item ∷ items)) (sym found.2) (AreItems.item item items found.0 rest found.1 found.3 is)));
  only = λ all is. let more = read.only all is in go all more.0 more.1 (parted more.2);
} where
  go : (all items : List Pair) → all ≡ seen ++ items → Parted items here → (others : List Pair) × (all ≡ (seen ++ item ∷ []) ++ others) × AreItems others rest
  go all items split (inl both) = absurd (none-some (item, rest) (sym (ap item_at both.1) ∙ e))
  go all items split (inr (inl next)) = absurd (none-some (item, rest) (sym (ap item_at next.1) ∙ e))
  go all items split (inr (inr next)) =
      let parts = some_pair_parts item next.0 rest next.2 (sym e ∙ next.3) in
      (next.1, split ∙ ap (λ (l : List Pair). seen ++ l) (next.4 ∙ ap (λ (f : Pair). f ∷ next.1) (sym parts.0)) ∙ sym (append_assoc seen (item ∷ []) next.1), subst (AreItems next.1) (sym parts.1) next.5)

-- no item, and no comma
pub none-read : (seen : List Pair) (b : ℕ) (rest text : List ℕ) → (b ≡ 44 → ⊥) → item_at (b ∷ rest) ≡ None → HasRead seen (b ∷ rest) text → (items : List Pair) → AreItems items text → ⊥
none-read seen b rest text other e read all is = let more = read.only all is in go more.0 (parted more.2) where
  go : (items : List Pair) → Parted items (b ∷ rest) → ⊥
  go items (inl both) = cc (both.1)
  go items (inr (inl next)) = other (cons-head next.1) where
    cons-head : {x y : ℕ} {xs ys : List ℕ} → x ∷ xs ≡ y ∷ ys → x ≡ y
    cons-head e = cc
  go items (inr (inr next)) = none-some (next.0, next.2) (sym e ∙ next.3)

-- the whole text is read
pub all-read : (seen : List Pair) (text : List ℕ) → HasRead seen [] text → (items : List Pair) → (Some seen ≡ Some items) ↔ AreItems items text
all-read seen text read items =
    let whole : AreItems seen text = subst (λ (l : List Pair). AreItems l text) (append-nil seen) (read.on [] AreItems.none) in
    (λ e. subst (λ (l : List Pair). AreItems l text) (same_Some seen items e) whole, λ is. ap Some (one-list whole items is))

pub refused : (text : List ℕ) → ((items : List Pair) → AreItems items text → ⊥) → (items : List Pair) → (None ≡ Some items) ↔ AreItems items text
refused text never items = (λ e. absurd (none-some items e), λ is. absurd (never items is))
