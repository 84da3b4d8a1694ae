-- A row has one spelling below each front, and so have the rows of a page.
use Rattle.std.proofs.Common.{◌≡◌, ℕ, zero, suc, ◌^◌, ◌<◌, Bool, true, false, cond, List, [], ◌∷◌, ◌++◌, length, drop, Option, Some, None, refl, sym, ap, subst, ◌∙◌, append_assoc, arith}
use Rattle.std.specs.Prelude.{◌&&◌, nat_le, nat_lt}
use Rattle.std.specs.List.{flat_map}
use Rattle.std.proofs.lemmas.Bool.{leb-true, ltb-true, le-leb, lt-ltb}
use Rattle.std.proofs.lemmas.Option.{cond_some}
use Rattle.std.proofs.lemmas.List.{drop_at, length-drop}
use Rattle.stamp.specs.declared.version.Window.{Window}
use Rattle.le_codec.specs.Fields.{IsField}
use Rattle.le_codec.specs.Combine.{Chained}
use Rattle.le_codec.proofs.Laws.{byte_field, field16, field32, field64, slice_field, some_is, bind_some}
use Rattle.le_codec.proofs.Combined.{then_field, as_field, again_field, try_field}
use Rattle.le_codec.proofs.Chains.{chain_field}
use Rattle.row_page.specs.declared.change.CellChange.TheVariants.{Put, Remove}
use Rattle.row_page.specs.Changes.{PageChange}
use Rattle.row_page.specs.Rows.{Row, Raw, raw_text, window_text, tail_of, cell_under, code_of, value_of, IsNumber, WindowFits, RowFits, comes_after, key_of}
use Rattle.row_page.specs.Reading.{Numbers, window_of, window_at, Parts, raw_of, raw_at, change_of, is_number, window_fits, row_fits, row_under, cell_at, row_after, row_at, rows_at}

-- ---- a cell before anything is asked of it

pub record IsWide (w : Window) : Type 0 where
  pub run : w.name.run < 2 ^ 64
  pub id : w.name.id < 2 ^ 64
  pub commit : w.commit < 2 ^ 64
  pub durable : w.durable < 2 ^ 64

abbrev numbers_of : Window → Numbers
numbers_of w = (w.name.run, (w.name.id, (w.commit, w.durable)))

pub window_field : IsField window_text window_at IsWide
unfolding window_at
window_field =
    again_field window_text IsWide (λ w. simp append_assoc refl) (λ w h. record { run = h.0; id = h.1.0; commit = h.1.1.0; durable = h.1.1.1 }) (λ w h. (h.run, (h.id, (h.commit, h.durable))))
    (as_field window_of numbers_of (λ p. refl) (λ w. refl) (then_field field64 (λ run. then_field field64 (λ id. then_field field64 (λ commit. field64)))))

pub record RawFits (x : Raw) : Type 0 where
  pub key : length x.key < 2 ^ 16
  pub code : x.code < 2 ^ 8
  pub value : length x.value < 2 ^ 32
  pub window : IsWide x.window

abbrev parts_of : Raw → Parts
parts_of x = (length x.key, (x.code, (length x.value, (x.window, (x.key, x.value)))))

abbrev PartsFit : Parts → Type 0
PartsFit p = (p.0 < 2 ^ 16) × ((p.1.0 < 2 ^ 8) × ((p.1.1.0 < 2 ^ 32) × (IsWide p.1.1.1.0 × ((length p.1.1.1.1.0 ≡ p.0) × (length p.1.1.1.1.1 ≡ p.1.1.0)))))

raw_there : (a : Parts) (b : Raw) → PartsFit a → raw_of a ≡ Some b → (parts_of b ≡ a) × RawFits b
raw_there a b h e =
    let made : Raw = record { key = a.1.1.1.1.0; code = a.1.0; window = a.1.1.1.0; value = a.1.1.1.1.1 } in
    let k : length made.key ≡ a.0 = h.1.1.1.1.0 in
    let v : length made.value ≡ a.1.1.0 = h.1.1.1.1.1 in
    let same : parts_of made ≡ a = ap (λ (n : ℕ). (n, (made.code, (length made.value, (made.window, (made.key, made.value)))))) k ∙ ap (λ (n : ℕ). (a.0, (made.code, (n, (made.window, (made.key, made.value)))))) v in
    subst (λ (x : Raw). (parts_of x ≡ a) × RawFits x) (some_is made b e) (same, record { key = omega (arith, k, h.0); code = h.1.0; value = omega (arith, v, h.1.1.0); window = h.1.1.1.0 })

raw_here : (b : Raw) → RawFits b → (raw_of (parts_of b) ≡ Some b) × PartsFit (parts_of b)
raw_here b h = (refl, (h.key, (h.code, (h.value, (h.window, (refl, refl))))))

pub raw_field : IsField raw_text raw_at RawFits
unfolding raw_at
raw_field = again_field raw_text RawFits (λ x. simp append_assoc refl) (λ x h. h) (λ x h. h)
    (try_field raw_of parts_of RawFits raw_there raw_here (then_field field16 (λ k. then_field byte_field (λ c. then_field field32 (λ v. then_field window_field (λ w. then_field (slice_field k) (λ key. slice_field v)))))))

-- ---- a row

and_is : (b c : Bool) → (b && c) ≡ true → (b ≡ true) × (c ≡ true)
and_is true c e = (refl, e)
and_is false c e = absurd cc

pub change_takes : (code : ℕ) (value : List ℕ) (c : PageChange) → change_of code value ≡ Some c → (code_of c ≡ code) × (value_of c ≡ value)
change_takes zero value c e = absurd cc
change_takes (suc zero) value c e = subst (λ (x : PageChange). (code_of x ≡ 1) × (value_of x ≡ value)) (some_is (Put value) c e) (refl, refl)
change_takes (suc (suc zero)) [] c e = subst (λ (x : PageChange). (code_of x ≡ 2) × (value_of x ≡ [])) (some_is Remove c e) (refl, refl)
change_takes (suc (suc zero)) (b ∷ bs) c e = absurd cc
change_takes (suc (suc (suc n))) value c e = absurd cc

change_again : (c : PageChange) → change_of (code_of c) (value_of c) ≡ Some c
change_again (Put value) = refl
change_again Remove = refl

code_small : (c : PageChange) → code_of c < 2 ^ 8
code_small (Put value) = omega arith
code_small Remove = omega arith

number_true : (n : ℕ) → is_number n ≡ true → IsNumber n
number_true n e =
    let p = and_is (nat_le 1 n) (nat_lt n (2 ^ 62)) e in
    (leb-true _ _ p.0, ltb-true _ _ p.1)

number_is : (n : ℕ) → IsNumber n → is_number n ≡ true
number_is n h =
    let x : nat_le 1 n ≡ true = le-leb _ _ h.0 in
    let y : nat_lt n (2 ^ 62) ≡ true = lt-ltb _ _ h.1 in
    rw (x, y) refl

pub window_true : (w : Window) → window_fits w ≡ true → WindowFits w
window_true w e =
    let c = and_is (is_number w.name.run && is_number w.name.id && nat_le w.commit w.durable) (nat_lt w.durable (2 ^ 64)) e in
    let d = and_is (is_number w.name.run && is_number w.name.id) (nat_le w.commit w.durable) c.0 in
    let n = and_is (is_number w.name.run) (is_number w.name.id) d.0 in
    record { name = record { run = number_true w.name.run n.0; id = number_true w.name.id n.1 }; stamps = leb-true _ _ d.1; durable = ltb-true _ _ c.1 }

pub window_is : (w : Window) → WindowFits w → window_fits w ≡ true
window_is w h =
    let run : is_number w.name.run ≡ true = number_is w.name.run h.name.run in
    let id : is_number w.name.id ≡ true = number_is w.name.id h.name.id in
    let x : nat_le w.commit w.durable ≡ true = le-leb _ _ h.stamps in
    let y : nat_lt w.durable (2 ^ 64) ≡ true = lt-ltb _ _ h.durable in
    rw (run, id, x, y) refl

pub wide : (w : Window) → WindowFits w → IsWide w
wide w h = record { run = omega (arith, h.name.run.1); id = omega (arith, h.name.id.1); commit = omega (arith, h.stamps, h.durable); durable = h.durable }

row_there : (front : List ℕ) (most : ℕ) (x : Raw) (r : Row) → RawFits x → row_under front most x ≡ Some r → (tail_of front r ≡ x) × RowFits front most r
row_there front most x r h e =
    let a = bind_some (change_of x.code x.value) (λ change. cond (row_fits most (front ++ x.key, record { window = x.window; change = change })) (Some (front ++ x.key, record { window = x.window; change = change })) None) r e in
    let made : Row = (front ++ x.key, record { window = x.window; change = a.0 }) in
    let g = cond_some (row_fits most made) made r a.2 in
    let p = and_is (nat_le (length (front ++ x.key)) most && nat_le (length (value_of a.0)) 16384) (window_fits x.window) g.0 in
    let q = and_is (nat_le (length (front ++ x.key)) most) (nat_le (length (value_of a.0)) 16384) p.0 in
    let t = change_takes x.code x.value a.0 a.1 in
    let k : drop (length front) (front ++ x.key) ≡ x.key = drop_at front x.key (length front) refl in
    let same : tail_of front made ≡ x = ap (λ (n : List ℕ). record { key = n; code = code_of a.0; window = x.window; value = value_of a.0 }) k ∙ ap (λ (n : ℕ). record { key = x.key; code = n; window = x.window; value = value_of a.0 }) t.0 ∙ ap (λ (v : List ℕ). record { key = x.key; code = x.code; window = x.window; value = v }) t.1 in
    subst (λ (y : Row). (tail_of front y ≡ x) × RowFits front most y) g.1 (same, record { begins = ap (λ (n : List ℕ). front ++ n) k; key = leb-true _ _ q.0; value = leb-true _ _ q.1; window = window_true x.window p.1 })

row_here : (front : List ℕ) (most : ℕ) (r : Row) → most < 2 ^ 16 → RowFits front most r → (row_under front most (tail_of front r) ≡ Some r) × RawFits (tail_of front r)
row_here front most r small h =
    let x : nat_le (length r.0) most ≡ true = le-leb _ _ h.key in
    let y : nat_le (length (value_of r.1.change)) 16384 ≡ true = le-leb _ _ h.value in
    let z : window_fits r.1.window ≡ true = window_is r.1.window h.window in
    (rw (h.begins, change_again r.1.change, x, y, z) refl, record { key = omega (arith, h.key, small, length-drop (length front) r.0); code = code_small r.1.change; value = omega (arith, h.value); window = wide r.1.window h.window })

pub row_field : (front : List ℕ) (most : ℕ) → most < 2 ^ 16 → IsField (cell_under front) (cell_at front most) (RowFits front most)
unfolding cell_at
row_field front most small = try_field (row_under front most) (tail_of front) (RowFits front most) (row_there front most) (λ r h. row_here front most r small h) raw_field

-- ---- rows, one after the other

-- a row fits and comes after the key before
abbrev pub After : List ℕ → ℕ → Option (List ℕ) → Row → Type 0
After front most before r = RowFits front most r × (comes_after before r.0 ≡ true)

after_there : (front : List ℕ) (most : ℕ) (before : Option (List ℕ)) (a b : Row) → RowFits front most a → row_after before a ≡ Some b → (b ≡ a) × After front most before b
after_there front most before a b h e =
    let g = cond_some (comes_after before a.0) a b e in
    (sym g.1, subst (λ (x : Row). After front most before x) g.1 (h, g.0))

after_here : (front : List ℕ) (most : ℕ) (before : Option (List ℕ)) (b : Row) → After front most before b → (row_after before b ≡ Some b) × RowFits front most b
after_here front most before b h = (rw h.1 refl, h.0)

abbrev same_row : Row → Row
same_row r = r

pub row_after_field : (front : List ℕ) (most : ℕ) → most < 2 ^ 16 → (before : Option (List ℕ)) → IsField (cell_under front) (row_at front most before) (After front most before)
unfolding row_at
row_after_field front most small before = try_field (row_after before) same_row (After front most before) (after_there front most before) (after_here front most before) (row_field front most small)

pub rows_field : (front : List ℕ) (most : ℕ) → most < 2 ^ 16 → (count : ℕ) (before : Option (List ℕ)) → IsField (flat_map (cell_under front)) (rows_at front most count before) (λ (rows : List Row). (length rows ≡ count) × Chained (After front most) key_of before rows)
rows_field front most small count before = chain_field key_of (row_after_field front most small) count before
