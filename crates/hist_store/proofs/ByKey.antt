-- Slots by table and key, a change in one, and a new one behind all others.
use Rattle.std.proofs.Common.{◌≡◌, ◌≢◌, ℕ, zero, suc, ◌+◌, ◌<◌, ◌≤◌, true, false, cond, List, [], ◌∷◌, ◌++◌, length, get_or, set, Option, Some, None, refl, sym, ap, subst, ◌∙◌, inl, inr, map, arith}
use Rattle.std.specs.Prelude.{bytes_eq, slice_get, option_map, ◌==◌}
use Rattle.std.proofs.lemmas.Bool.{cases_Bool, false_from_ne_true, and_parts, eqb-true}
use Rattle.std.proofs.lemmas.Option.{same_Some}
use Rattle.std.proofs.lemmas.Slice.Eq.{bytes_eq-Decides}
use Rattle.item.specs.declared.Change.{Change}
use Rattle.stamp.specs.declared.Version.{Version}
use Rattle.kv_model.specs.Holds.{Descends}
use Rattle.kv_model.specs.Ordered.{Older}
use Rattle.kv_model.specs.SweepLaws.{Swept}
use Rattle.stamp.specs.declared.Name.{Name}
use Rattle.hist_store.specs.declared.key_history.KeyHistory.{KeyHistory}
use Rattle.hist_store.specs.Laws.{AddsChange, AddsKeep}
use Rattle.hist_store.specs.Order.{rank_at, slot_key}
use Rattle.hist_store.specs.Slots.{AreDescending, slot_changed, slot_of}
use Rattle.hist_store.specs.Versions.{added, is_of, is_past, swept_slot, versions_of, with_version}
use Rattle.hist_store.proofs.Sweeping.{sweeps-change, sweeps-descend, sweeps-sweep}

abbrev pub slot_with : ℕ → List ℕ → List (Version Change) → KeyHistory
slot_with table key versions = record { table = table; key = key; versions = versions }

-- ---- whose a slot is

pub its-own : (table : ℕ) (key : List ℕ) (h : KeyHistory) → slot_key h ≡ table ∷ key → is_of table key h ≡ true
its-own table key h e = (bytes_eq-Decides (slot_key h) (table ∷ key)).1 e

pub its-key : (table : ℕ) (key : List ℕ) (h : KeyHistory) → is_of table key h ≡ true → slot_key h ≡ table ∷ key
its-key table key h is = (bytes_eq-Decides (slot_key h) (table ∷ key)).0 is

pub not-its : (table : ℕ) (key : List ℕ) (h : KeyHistory) → (slot_key h ≡ table ∷ key → ⊥) → is_of table key h ≡ false
not-its table key h n = false_from_ne_true (is_of table key h) (λ is. n (its-key table key h is))

self : (table : ℕ) (key : List ℕ) (versions : List (Version Change)) → is_of table key (slot_with table key versions) ≡ true
self table key versions = its-own table key (slot_with table key versions) refl

-- ---- the slot of a key, by the first slot and the others

abbrev next : Option ℕ → Option ℕ
next o = option_map (λ k. k + 1) o

next-of : (o : Option ℕ) (i : ℕ) → next o ≡ Some i → (j : ℕ) × (i ≡ suc j) × (o ≡ Some j)
next-of None i e = absurd cc
next-of (Some k) i e = let s = same_Some (k + 1) i e in (k, omega (arith, s), refl)

none-of : (o : Option ℕ) → next o ≡ None → o ≡ None
none-of None e = refl
none-of (Some k) e = absurd cc

found-first : (table : ℕ) (key : List ℕ) (h : KeyHistory) (slots : List KeyHistory) (i : ℕ) → is_of table key h ≡ true → slot_of table key (h ∷ slots) ≡ Some i → i ≡ 0
found-first table key h slots i t e = sym (same_Some 0 i (rw t at e))

found-later : (table : ℕ) (key : List ℕ) (h : KeyHistory) (slots : List KeyHistory) (i : ℕ) → is_of table key h ≡ false → slot_of table key (h ∷ slots) ≡ Some i → (j : ℕ) × (i ≡ suc j) × (slot_of table key slots ≡ Some j)
found-later table key h slots i f e = next-of (slot_of table key slots) i (rw f at e)

not-found : (table : ℕ) (key : List ℕ) (h : KeyHistory) (slots : List KeyHistory) → slot_of table key (h ∷ slots) ≡ None → (is_of table key h ≡ false) × (slot_of table key slots ≡ None)
not-found table key h slots e = elim (cases_Bool (is_of table key h)) [
  | inl t ↦ let n = rw t at e in absurd cc
  | inr f ↦ (f, none-of (slot_of table key slots) (rw f at e))
]

pub no-versions : (table : ℕ) (key : List ℕ) (slots : List KeyHistory) → slot_of table key slots ≡ None → versions_of table key slots ≡ []
no-versions table key [] e = refl
no-versions table key (h ∷ slots) e = let n = not-found table key h slots e in let f = n.0 in rw f (no-versions table key slots n.1)

-- the slot of a key has its versions
pub held : (table : ℕ) (key : List ℕ) (slots : List KeyHistory) (i : ℕ) → slot_of table key slots ≡ Some i → option_map (λ (h : KeyHistory). h.versions) (slice_get slots i) ≡ Some (versions_of table key slots)
held table key [] i e = absurd cc
held table key (h ∷ slots) i e = elim (cases_Bool (is_of table key h)) [
  | inl t ↦ subst (λ (k : ℕ). option_map (λ (x : KeyHistory). x.versions) (slice_get (h ∷ slots) k) ≡ Some (versions_of table key (h ∷ slots))) (sym (found-first table key h slots i t e)) (rw t refl)
  | inr f ↦
      let n = found-later table key h slots i f e in
      subst (λ (k : ℕ). option_map (λ (x : KeyHistory). x.versions) (slice_get (h ∷ slots) k) ≡ Some (versions_of table key (h ∷ slots))) (sym n.1) (rw f (held table key slots n.0 n.2))
]

-- ---- a slot is that of its key where it is the first with it

pub slot-of-is : (table : ℕ) (key : List ℕ) (slots : List KeyHistory) (i : ℕ) → i < length slots → rank_at slots i ≡ table ∷ key → ((j : ℕ) → j < i → rank_at slots j ≢ (table ∷ key)) → slot_of table key slots ≡ Some i
slot-of-is table key [] i lt e first = absurd (omega (arith, lt))
slot-of-is table key (h ∷ slots) zero lt e first = let t = its-own table key h e in rw t refl
slot-of-is table key (h ∷ slots) (suc i) lt e first =
    let f = not-its table key h (first 0 (omega arith)) in
    let rest = slot-of-is table key slots i (omega (arith, lt)) e (λ j l. first (suc j) (omega (arith, l))) in
    let n : i + 1 ≡ suc i = omega arith in
    rw f (ap next rest ∙ ap (λ (k : ℕ). Some k) n)

pub slot-of-none : (table : ℕ) (key : List ℕ) (slots : List KeyHistory) → ((i : ℕ) → i < length slots → rank_at slots i ≢ (table ∷ key)) → slot_of table key slots ≡ None
slot-of-none table key [] never = refl
slot-of-none table key (h ∷ slots) never =
    let f = not-its table key h (never 0 (omega arith)) in
    rw f (ap next (slot-of-none table key slots (λ i l. never (suc i) (omega (arith, l)))))

-- ---- an add

pub added-over : (table : ℕ) (key : List ℕ) (v : Version Change) (slots : List KeyHistory) (i : ℕ) → slot_of table key slots ≡ Some i → slot_changed i (with_version v) slots ≡ added table key v slots
added-over table key v [] i e = absurd cc
added-over table key v (h ∷ slots) i e = elim (cases_Bool (is_of table key h)) [
  | inl t ↦ subst (λ (k : ℕ). slot_changed k (with_version v) (h ∷ slots) ≡ added table key v (h ∷ slots)) (sym (found-first table key h slots i t e)) (rw t refl)
  | inr f ↦
      let n = found-later table key h slots i f e in
      subst (λ (k : ℕ). slot_changed k (with_version v) (h ∷ slots) ≡ added table key v (h ∷ slots)) (sym n.1) (rw f (ap (λ (l : List KeyHistory). h ∷ l) (added-over table key v slots n.0 n.2)))
]

pub added-new : (table : ℕ) (key : List ℕ) (v : Version Change) (slots : List KeyHistory) → slot_of table key slots ≡ None → slots ++ slot_with table key (v ∷ []) ∷ [] ≡ added table key v slots
added-new table key v [] e = refl
added-new table key v (h ∷ slots) e = let n = not-found table key h slots e in let f = n.0 in rw f (ap (λ (l : List KeyHistory). h ∷ l) (added-new table key v slots n.1))

pub adds-change : AddsChange
adds-change table key v [] = let t = self table key (v ∷ []) in rw t refl
adds-change table key v (h ∷ slots) = elim (cases_Bool (is_of table key h)) [
  | inl t ↦ rw t (changed t)
  | inr f ↦ let there = adds-change table key v slots in rw f (rest f there)
] where
  changed : is_of table key h ≡ true → versions_of table key (slot_with h.table h.key (with_version v h.versions) ∷ slots) ≡ with_version v h.versions
  changed t = let u : is_of table key (slot_with h.table h.key (with_version v h.versions)) ≡ true = t in rw u refl

  rest : is_of table key h ≡ false → versions_of table key (added table key v slots) ≡ with_version v (versions_of table key slots) → versions_of table key (h ∷ added table key v slots) ≡ with_version v (versions_of table key slots)
  rest f there = rw f there

other-of : (table other : ℕ) (key its : List ℕ) (h : KeyHistory) → (other ≡ table → its ≡ key → ⊥) → is_of table key h ≡ true → is_of other its h ≡ false
other-of table other key its h n is = false_from_ne_true (is_of other its h) (λ also.
    let p = and_parts (h.table == table) (bytes_eq h.key key) is in
    let q = and_parts (h.table == other) (bytes_eq h.key its) also in
    n (sym (eqb-true h.table other q.0) ∙ eqb-true h.table table p.0) (sym ((bytes_eq-Decides h.key its).0 q.1) ∙ (bytes_eq-Decides h.key key).0 p.1))

pub adds-keep : AddsKeep
adds-keep table other key its v [] n = let f = other-of table other key its (slot_with table key (v ∷ [])) n (self table key (v ∷ [])) in rw f refl
adds-keep table other key its v (h ∷ slots) n = elim (cases_Bool (is_of table key h)) [
  | inl t ↦ rw t (changed (other-of table other key its h n t))
  | inr f ↦ rw f (ap (λ (l : List (Version Change)). cond (is_of other its h) h.versions l) (adds-keep table other key its v slots n))
] where
  changed : is_of other its h ≡ false → versions_of other its (slot_with h.table h.key (with_version v h.versions) ∷ slots) ≡ versions_of other its (h ∷ slots)
  changed f = rw f refl

-- ---- what a change keeps, and as which write it comes

pub length-changed : (i : ℕ) (change : List (Version Change) → List (Version Change)) (slots : List KeyHistory) → length (slot_changed i change slots) ≡ length slots
length-changed i change [] = refl
length-changed zero change (h ∷ slots) = refl
length-changed (suc i) change (h ∷ slots) = omega (arith, length-changed i change slots)

pub rank-changed : (i : ℕ) (change : List (Version Change) → List (Version Change)) (slots : List KeyHistory) (j : ℕ) → rank_at (slot_changed i change slots) j ≡ rank_at slots j
rank-changed i change [] j = refl
rank-changed zero change (h ∷ slots) zero = refl
rank-changed zero change (h ∷ slots) (suc j) = refl
rank-changed (suc i) change (h ∷ slots) zero = refl
rank-changed (suc i) change (h ∷ slots) (suc j) = rank-changed i change slots j

pub changed-set : (i : ℕ) (change : List (Version Change) → List (Version Change)) (slots : List KeyHistory) (h : KeyHistory) (versions : List (Version Change)) → i < length slots → h ≡ get_or slots i h → versions ≡ change h.versions → set slots i (slot_with h.table h.key versions) ≡ slot_changed i change slots
changed-set i change [] h versions lt is e = absurd (omega (arith, lt))
changed-set zero change (x ∷ slots) h versions lt is e =
    subst (λ (y : KeyHistory). (slot_with h.table h.key versions ∷ slots) ≡ (slot_with y.table y.key (change y.versions) ∷ slots)) is (ap (λ (l : List (Version Change)). slot_with h.table h.key l ∷ slots) e)
changed-set (suc i) change (x ∷ slots) h versions lt is e = ap (λ (ys : List KeyHistory). x ∷ ys) (changed-set i change slots h versions (omega (arith, lt)) is e)

pub changed-past : (i : ℕ) (change : List (Version Change) → List (Version Change)) (slots : List KeyHistory) → length slots ≤ i → slots ≡ slot_changed i change slots
changed-past i change [] le = refl
changed-past zero change (x ∷ slots) le = absurd (omega (arith, le))
changed-past (suc i) change (x ∷ slots) le = ap (λ (ys : List KeyHistory). x ∷ ys) (changed-past i change slots (omega (arith, le)))

-- ---- what a sweep keeps

pub length-swept : (pin : ℕ) (floor : Name) (slots : List KeyHistory) → length (map (swept_slot pin floor) slots) ≡ length slots
length-swept pin floor [] = refl
length-swept pin floor (h ∷ slots) = omega (arith, length-swept pin floor slots)

pub rank-swept : (pin : ℕ) (floor : Name) (slots : List KeyHistory) (j : ℕ) → rank_at (map (swept_slot pin floor) slots) j ≡ rank_at slots j
rank-swept pin floor [] j = refl
rank-swept pin floor (h ∷ slots) zero = refl
rank-swept pin floor (h ∷ slots) (suc j) = rank-swept pin floor slots j

-- ---- names that descend

pub descend-changed : (i : ℕ) (change : List (Version Change) → List (Version Change)) (slots : List KeyHistory) → ((l : List (Version Change)) → Descends Older l → Descends Older (change l)) → AreDescending slots → AreDescending (slot_changed i change slots)
descend-changed i change [] keeps d = d
descend-changed zero change (h ∷ slots) keeps d = (keeps h.versions d.0, d.1)
descend-changed (suc i) change (h ∷ slots) keeps d = (d.0, descend-changed i change slots keeps d.1)

pub descend-pushed : (slots : List KeyHistory) (h : KeyHistory) → AreDescending slots → Descends Older h.versions → AreDescending (slots ++ h ∷ [])
descend-pushed [] h d one = (one, tt)
descend-pushed (x ∷ slots) h d one = (d.0, descend-pushed slots h d.1 one)

pub descend-swept : (pin : ℕ) (floor : Name) (slots : List KeyHistory) → AreDescending slots → AreDescending (map (swept_slot pin floor) slots)
descend-swept pin floor [] d = d
descend-swept pin floor (h ∷ slots) d = (sweeps-descend pin floor h.versions d.0, descend-swept pin floor slots d.1)

pub descend-of : (table : ℕ) (key : List ℕ) (slots : List KeyHistory) → AreDescending slots → Descends Older (versions_of table key slots)
descend-of table key [] d = tt
descend-of table key (h ∷ slots) d = elim (cases_Bool (is_of table key h)) [
  | inl t ↦ rw t d.0
  | inr f ↦ rw f (descend-of table key slots d.1)
]

pub descend-at : (slots : List KeyHistory) (i : ℕ) (h : KeyHistory) → AreDescending slots → slice_get slots i ≡ Some h → Descends Older h.versions
descend-at [] i h d e = absurd cc
descend-at (x ∷ slots) zero h d e = subst (λ (y : KeyHistory). Descends Older y.versions) (same_Some x h e) d.0
descend-at (x ∷ slots) (suc i) h d e = descend-at slots i h d.1 e

-- of each key
pub all-swept : (pin : ℕ) (floor : Name) (slots : List KeyHistory) → AreDescending slots → (table : ℕ) (key : List ℕ) → Swept (is_past pin floor) (versions_of table key slots) (versions_of table key (map (swept_slot pin floor) slots))
all-swept pin floor slots d table key =
    let all = versions_of table key slots in
    subst (λ (l : List (Version Change)). Swept (is_past pin floor) all l) (sym (sweeps-change table key pin floor slots)) (sweeps-sweep pin floor all (descend-of table key slots d))
