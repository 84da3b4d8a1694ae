-- The nearest key of all that were written is that of the next row.
use Rattle.std.proofs.Common.{◌≡◌, ◌∙◌, ap, refl, subst, ℕ, zero, suc, true, false, ◌&&◌, List, [], ◌∷◌, ◌++◌, map, inl, inr}
use Rattle.std.specs.Prelude.{Option, Some, None, filter, find, slice_index_or, bytes_eq, ◌==◌}
use Rattle.std.proofs.lemmas.Bool.{cases_Bool, both_ways, and_parts, and_from}
use Rattle.std.proofs.lemmas.Slice.Eq.{bytes_eq-Decides}
use Rattle.kv_model.specs.History.{Entry, Create, Commit, Prepare, Resolve, Undo, Rts, Write, line, writes_at, version_of, is_by}
use Rattle.kv_model.specs.Machine.{Transaction}
use Rattle.kv_model.specs.Reads.{own_write, is_own, Found, Value, Conflict, ReadAnswer}
use Rattle.kv_model.specs.Rows.{Way, comes_after, is_past, AbsentBefore, RowAnswer}
use Rattle.kv_model.proofs.Agrees.{line-rts}
use Rattle.kv_model.proofs.KeyOrder.{after-trans, after-itself}
use Rattle.kv_model.proofs.Ordering.{line-writes}
use Rattle.kv_plain.specs.Choices.{met}
use Rattle.kv_plain.specs.Walk.{Walk, is_row, read_at, is_met, is_nearer, nearer, nearest_written, nearest_entered, nearest_stored, nearest_held, nearest_of, row_answer, answer_at}
use Rattle.kv_plain.proofs.Choosing.{reads-others, read-answers}

-- ---- what the nearest key so far keeps

IsMet : Walk → Option (List ℕ) → Type 0
IsMet w None = Unit {0}
IsMet w (Some key) = is_met w key ≡ true

-- a later one: it is met too, and what comes before it came before the earlier one
record Improves (w : Walk) (nearest later : Option (List ℕ)) : Type 0 where
  keeps : IsMet w nearest → IsMet w later
  lasts : (k : List ℕ) → is_nearer w.way k later ≡ true → is_nearer w.way k nearest ≡ true

same : (w : Walk) (nearest : Option (List ℕ)) → Improves w nearest nearest
same w nearest = record { keeps = λ met. met; lasts = λ k before. before }

along : (w : Walk) (a b c : Option (List ℕ)) → Improves w a b → Improves w b c → Improves w a c
along w a b c one two = record { keeps = λ met. two.keeps (one.keeps met); lasts = λ k before. one.lasts k (two.lasts k before) }

before-both : (way : Way) (nearest : Option (List ℕ)) (k key : List ℕ) → comes_after way k key ≡ true → is_nearer way key nearest ≡ true → is_nearer way k nearest ≡ true
before-both way None k key one two = refl
before-both way (Some n) k key one two = after-trans way k key n one two

improves-nearer : (w : Walk) (nearest : Option (List ℕ)) (key : List ℕ) → Improves w nearest (nearer w nearest key)
unfolding IsMet
improves-nearer w nearest key = elim (cases_Bool (is_met w key && is_nearer w.way key nearest)) [
  | inl is ↦ let p = and_parts (is_met w key) (is_nearer w.way key nearest) is in rw is (record { keeps = λ met. p.0; lasts = λ k before. before-both w.way nearest k key before p.1 })
  | inr isnt ↦ rw isnt (same w nearest)
]

-- a key that is met is not before the nearest one once it was looked at
taken : (w : Walk) (nearest : Option (List ℕ)) (key : List ℕ) → is_met w key ≡ true → is_nearer w.way key (nearer w nearest key) ≡ true → ⊥
taken w nearest key is before = elim (cases_Bool (is_nearer w.way key nearest)) [
  | inl first ↦ both_ways (comes_after w.way key key) (after-itself w.way key) (rw (is, first) at before)
  | inr later ↦ both_ways (is_nearer w.way key nearest) later (rw (is, later) at before)
]

improves-written : (w : Walk) (nearest : Option (List ℕ)) (writes : List Write) → Improves w nearest (nearest_written w nearest writes)
improves-written w nearest [] = same w nearest
improves-written w nearest (x ∷ writes) = along w nearest (nearer w nearest x.key) (nearest_written w (nearer w nearest x.key) writes) (improves-nearer w nearest x.key) (improves-written w (nearer w nearest x.key) writes)

improves-entered : (w : Walk) (nearest : Option (List ℕ)) (entry : Entry) → Improves w nearest (nearest_entered w nearest entry)
improves-entered w nearest (Create t) = same w nearest
improves-entered w nearest (Commit name writes) = improves-written w nearest writes
improves-entered w nearest (Prepare name stamp) = same w nearest
improves-entered w nearest (Resolve name writes) = improves-written w nearest writes
improves-entered w nearest (Undo name) = same w nearest
improves-entered w nearest (Rts s) = same w nearest

improves-stored : (w : Walk) (nearest : Option (List ℕ)) (history : List Entry) → Improves w nearest (nearest_stored w nearest history)
improves-stored w nearest [] = same w nearest
improves-stored w nearest (entry ∷ older) = along w nearest (nearest_entered w nearest entry) (nearest_stored w (nearest_entered w nearest entry) older) (improves-entered w nearest entry) (improves-stored w (nearest_entered w nearest entry) older)

improves-held : (w : Walk) (nearest : Option (List ℕ)) (sessions : List (Option Transaction)) → Improves w nearest (nearest_held w nearest sessions)
improves-held w nearest [] = same w nearest
improves-held w nearest (None ∷ later) = improves-held w nearest later
improves-held w nearest (Some x ∷ later) = along w nearest (nearest_written w nearest x.writes) (nearest_held w (nearest_written w nearest x.writes) later) (improves-written w nearest x.writes) (improves-held w (nearest_written w nearest x.writes) later)

-- ---- a key before the nearest one was not written

none-there : (table : ℕ) (key : List ℕ) (writes : List Write) → filter (writes_at table key) writes ≡ [] → find (writes_at table key) writes ≡ None
none-there table key [] e = refl
none-there table key (x ∷ writes) e = elim (cases_Bool (writes_at table key x)) [
  | inl at ↦ let f = rw at at e in absurd (cc)
  | inr off ↦ rw off (none-there table key writes (rw off at e))
]

not-written : (w : Walk) (nearest : Option (List ℕ)) (writes : List Write) (table : ℕ) (k : List ℕ) → is_met w k ≡ true → is_nearer w.way k (nearest_written w nearest writes) ≡ true → filter (writes_at table k) writes ≡ []
not-written w nearest [] table k is before = refl
not-written w nearest (x ∷ writes) table k is before = elim (cases_Bool (writes_at table k x)) [
  | inl at ↦
      let key : x.key ≡ k = (bytes_eq-Decides x.key k).0 (and_parts (x.table == table) (bytes_eq x.key k) at).1 in
      absurd (taken w nearest k is (subst (λ y. is_nearer w.way k (nearer w nearest y) ≡ true) key ((improves-written w (nearer w nearest x.key) writes).lasts k before)))
  | inr off ↦ rw off (not-written w (nearer w nearest x.key) writes table k is before)
]

-- the line of a commit's writes and of older entries
line-none : (w : Walk) (nearest : Option (List ℕ)) (writes : List Write) (older : List Entry) (name : _) (table : ℕ) (k : List ℕ) → is_met w k ≡ true → is_nearer w.way k (nearest_stored w (nearest_written w nearest writes) older) ≡ true
    → line older table k ≡ [] → map (version_of name) (filter (writes_at table k) writes) ++ line older table k ≡ []
line-none w nearest writes older name table k is before rest =
    ap (λ l. map (version_of name) l ++ line older table k) (not-written w nearest writes table k is ((improves-stored w (nearest_written w nearest writes) older).lasts k before)) ∙ rest

not-stored : (w : Walk) (nearest : Option (List ℕ)) (history : List Entry) (table : ℕ) (k : List ℕ) → is_met w k ≡ true → is_nearer w.way k (nearest_stored w nearest history) ≡ true → line history table k ≡ []
not-stored w nearest [] table k is before = refl
not-stored w nearest (Create t ∷ older) table k is before = not-stored w nearest older table k is before
not-stored w nearest (Commit name writes ∷ older) table k is before =
    line-writes name writes older table k ∙ line-none w nearest writes older name table k is before (not-stored w (nearest_written w nearest writes) older table k is before)
not-stored w nearest (Prepare name stamp ∷ older) table k is before = not-stored w nearest older table k is before
not-stored w nearest (Resolve name writes ∷ older) table k is before =
    line-writes name writes older table k ∙ line-none w nearest writes older name table k is before (not-stored w (nearest_written w nearest writes) older table k is before)
not-stored w nearest (Undo name ∷ older) table k is before = not-stored w nearest older table k is before
not-stored w nearest (Rts s ∷ older) table k is before = line-rts s older table k ∙ ap (filter (is_by s)) (not-stored w nearest older table k is before)

not-held : (w : Walk) (nearest : Option (List ℕ)) (sessions : List (Option Transaction)) (table : ℕ) (k : List ℕ) → is_met w k ≡ true → is_nearer w.way k (nearest_held w nearest sessions) ≡ true
    → (s : ℕ) (x : Transaction) → slice_index_or sessions s None ≡ Some x → own_write x table k ≡ None
not-held w nearest [] table k is before s x there = absurd (cc)
not-held w nearest (None ∷ later) table k is before zero x there = absurd (cc)
not-held w nearest (None ∷ later) table k is before (suc s) x there = not-held w nearest later table k is before s x there
not-held w nearest (Some y ∷ later) table k is before zero x there =
    let seated : y ≡ x = cc in
    subst (λ t. own_write t table k ≡ None) seated (none-there table k y.writes (not-written w nearest y.writes table k is ((improves-held w (nearest_written w nearest y.writes) later).lasts k before)))
not-held w nearest (Some y ∷ later) table k is before (suc s) x there = not-held w (nearest_written w nearest y.writes) later table k is before s x there

-- ---- it reads as absent

not-row : (found : Found) → is_row found ≡ false → found ≡ Value None
not-row (Value (Some v)) e = absurd (cc)
not-row (Value None) e = refl
not-row (Conflict id) e = absurd (cc)

module _ (w : Walk) where
  abbrev Reads : List ℕ → Found → Type 0
  Reads = ReadAnswer w.machine w.session w.transaction w.table

  abbrev own : Option (List ℕ)
  own = nearest_written w None w.transaction.writes

  abbrev stored : Option (List ℕ)
  stored = nearest_stored w own w.machine.history

  met-none : (k : List ℕ) → is_met w k ≡ true → is_nearer w.way k (nearest_of w) ≡ true → met w.machine w.session w.transaction w.table k ≡ None
  met-none k is before = go (met w.machine w.session w.transaction w.table k) refl where
    go : (o : Option ℕ) → met w.machine w.session w.transaction w.table k ≡ o → met w.machine w.session w.transaction w.table k ≡ None
    go None e = e
    go (Some id) e =
        let p = reads-others w.machine w.session w.transaction w.table k (Some id) e in
        let free = not-held w stored w.machine.sessions w.table k is before p.0 p.1 p.2.writer.0 in
        absurd (both_ways (is_own (own_write p.1 w.table k)) (ap is_own free) p.2.writer.1)

  reads-none : (k : List ℕ) → is_met w k ≡ true → is_nearer w.way k (nearest_of w) ≡ true → read_at w k ≡ Value None
  reads-none k is before =
      let held = (improves-held w stored w.machine.sessions).lasts k before in
      let first = (improves-stored w own w.machine.history).lasts k held in
      let free : own_write w.transaction w.table k ≡ None = none-there w.table k w.transaction.writes (not-written w None w.transaction.writes w.table k is first) in
      let bare : line w.machine.history w.table k ≡ [] = not-stored w own w.machine.history w.table k is held in
      rw (free, met-none k is before, bare) refl

  absent : (k : List ℕ) → is_past w.way w.from k ≡ true → is_nearer w.way k (nearest_of w) ≡ true → Reads k (Value None)
  absent k past before = elim (cases_Bool (is_row (read_at w k))) [
    | inl row ↦ absurd (both_ways (is_row (read_at w k)) (ap is_row (reads-none k (and_from (is_past w.way w.from k) (is_row (read_at w k)) past row) before)) row)
    | inr isnt ↦ subst (Reads k) (not-row (read_at w k) isnt) (read-answers w.machine w.session w.transaction w.table k)
  ]

  nearest-met : IsMet w (nearest_of w)
  unfolding IsMet
  nearest-met = (improves-held w stored w.machine.sessions).keeps ((improves-stored w own w.machine.history).keeps ((improves-written w None w.transaction.writes).keeps tt))

  row-there : (key : List ℕ) → is_past w.way w.from key ≡ true → AbsentBefore Reads w.way (is_past w.way w.from) key → (found : Found) → read_at w key ≡ found → is_row found ≡ true → RowAnswer Reads w.way w.from (row_answer key found)
  row-there key past before (Value (Some v)) e is = (past, subst (Reads key) e (read-answers w.machine w.session w.transaction w.table key), before)
  row-there key past before (Value None) e is = absurd (cc)
  row-there key past before (Conflict id) e is = (key, past, subst (Reads key) e (read-answers w.machine w.session w.transaction w.table key), before)

  pub row-answers : RowAnswer Reads w.way w.from (answer_at w (nearest_of w))
  unfolding IsMet
  row-answers = go (nearest_of w) refl where
    go : (o : Option (List ℕ)) → nearest_of w ≡ o → RowAnswer Reads w.way w.from (answer_at w o)
    go None e = λ k past. absent k past (ap (is_nearer w.way k) e)
    go (Some key) e =
        let p = and_parts (is_past w.way w.from key) (is_row (read_at w key)) (subst (IsMet w) e nearest-met) in
        row-there key p.0 (λ k past before. absent k past (ap (is_nearer w.way k) e ∙ before)) (read_at w key) refl p.1
