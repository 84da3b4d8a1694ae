-- The writes of a transaction: one at most of each key, also after one more.
use Rattle.std.proofs.Common.{◌≡◌, ◌⊎◌, ℕ, refl, ap, sym, ◌∙◌, Bool, true, false, List, [], ◌∷◌, inl, inr, subst}
use Rattle.std.specs.Prelude.{Option, Some, None, find, filter, not, ◌==◌, bytes_eq}
use Rattle.std.specs.Option.{option_to_list}
use Rattle.std.proofs.lemmas.Bool.{cases_Bool, both_ways, and_parts, and_from, eqb-true, eq-eqb}
use Rattle.std.proofs.lemmas.Slice.Eq.{bytes_eq-Decides}
use Rattle.kv_model.specs.Holds.{Member}
use Rattle.kv_model.specs.History.{Write, writes_at}
use Rattle.kv_model.specs.Machine.{joined, stamped}
use Rattle.kv_model.specs.Reads.{is_own}

pub at-parts : (table : ℕ) (key : List ℕ) (w : Write) → writes_at table key w ≡ true → (w.table ≡ table) × (w.key ≡ key)
at-parts table key w e = let p = and_parts (w.table == table) (bytes_eq w.key key) e in (eqb-true w.table table p.0, (bytes_eq-Decides w.key key).0 p.1)

pub at-own : (w : Write) → writes_at w.table w.key w ≡ true
at-own w = and_from (w.table == w.table) (bytes_eq w.key w.key) (eq-eqb w.table w.table refl) ((bytes_eq-Decides w.key w.key).1 refl)

none-own : (o : Option Write) → is_own o ≡ false → o ≡ None
none-own None e = refl
none-own (Some w) e = absurd (cc)

-- of a key that is not written there is no write
pub filter-unwritten : (table : ℕ) (key : List ℕ) (writes : List Write) → filter (writes_at table key) writes ≡ option_to_list (find (writes_at table key) writes)
    → is_own (find (writes_at table key) writes) ≡ false → filter (writes_at table key) writes ≡ []
filter-unwritten table key writes single none = single ∙ ap option_to_list (none-own (find (writes_at table key) writes) none)

filter-apart : {A : Type 0} (p : A → Bool) (l : List A) → filter p (filter (λ x. not (p x)) l) ≡ []
filter-apart p [] = refl
filter-apart p (x ∷ xs) = elim (cases_Bool (p x)) [
  | inl is ↦ rw is (filter-apart p xs)
  | inr isnt ↦ rw (isnt, isnt) (filter-apart p xs)
]

filter-within : {A : Type 0} (p q : A → Bool) (l : List A) → ((x : A) → p x ≡ true → q x ≡ true) → filter p (filter q l) ≡ filter p l
filter-within p q [] within = refl
filter-within p q (x ∷ xs) within = elim (cases_Bool (p x)) [
  | inl is ↦ rw (within x is, is) (ap (λ l. x ∷ l) (filter-within p q xs within))
  | inr isnt ↦ elim (cases_Bool (q x)) [ inl t ↦ rw (t, isnt) (filter-within p q xs within) | inr f ↦ rw (f, isnt) (filter-within p q xs within) ]
]

find-within : {A : Type 0} (p q : A → Bool) (l : List A) → ((x : A) → p x ≡ true → q x ≡ true) → find p (filter q l) ≡ find p l
find-within p q [] within = refl
find-within p q (x ∷ xs) within = elim (cases_Bool (p x)) [
  | inl is ↦ rw (within x is, is) refl
  | inr isnt ↦ elim (cases_Bool (q x)) [ inl t ↦ rw (t, isnt) (find-within p q xs within) | inr f ↦ rw (f, isnt) (find-within p q xs within) ]
]

not-from : (b : Bool) → b ≡ false → not b ≡ true
not-from b e = rw e refl

-- another key's writes stay
others-stay : (w : Write) (table : ℕ) (key : List ℕ) → writes_at table key w ≡ false → (o : Write) → writes_at table key o ≡ true → not (writes_at w.table w.key o) ≡ true
others-stay w table key other o is = elim (cases_Bool (writes_at w.table w.key o)) [
  | inl both ↦ let a = at-parts table key o is in let b = at-parts w.table w.key o both in
      let again : writes_at table key w ≡ true = and_from (w.table == table) (bytes_eq w.key key) (eq-eqb w.table table (sym b.0 ∙ a.0)) ((bytes_eq-Decides w.key key).1 (sym b.1 ∙ a.1)) in
      absurd (both_ways (writes_at table key w) other again)
  | inr one ↦ not-from (writes_at w.table w.key o) one
]

pub find-joined-other : (w : Write) (writes : List Write) (table : ℕ) (key : List ℕ) → writes_at table key w ≡ false → find (writes_at table key) (joined w writes) ≡ find (writes_at table key) writes
find-joined-other w writes table key other = rw other (find-within (writes_at table key) (λ o. not (writes_at w.table w.key o)) writes (others-stay w table key other))

pub joined-single : (w : Write) (writes : List Write) (table : ℕ) (key : List ℕ) → filter (writes_at table key) writes ≡ option_to_list (find (writes_at table key) writes)
    → filter (writes_at table key) (joined w writes) ≡ option_to_list (find (writes_at table key) (joined w writes))
joined-single w writes table key single = elim (cases_Bool (writes_at table key w)) [
  | inl is ↦ let parts = at-parts table key w is in
      let gone : filter (writes_at table key) (filter (λ o. not (writes_at w.table w.key o)) writes) ≡ [] =
      subst (λ k. filter (writes_at table k) (filter (λ o. not (writes_at w.table w.key o)) writes) ≡ []) parts.1
      (subst (λ t. filter (writes_at t w.key) (filter (λ o. not (writes_at w.table w.key o)) writes) ≡ []) parts.0 (filter-apart (writes_at w.table w.key) writes)) in
      rw (is, gone) refl
  | inr other ↦ rw other (
      filter-within (writes_at table key) (λ o. not (writes_at w.table w.key o)) writes (others-stay w table key other)
      ∙ (single ∙ ap option_to_list (sym (find-within (writes_at table key) (λ o. not (writes_at w.table w.key o)) writes (others-stay w table key other)))))
]

member-filtered : {A : Type 0} (p : A → Bool) (l : List A) (x : A) → Member x (filter p l) → Member x l × (p x ≡ true)
member-filtered p [] x there = absurd there
member-filtered p (y ∷ ys) x there = elim (cases_Bool (p y)) [
  | inl k ↦ elim (rw k at there) [ inl is ↦ (inl is, subst (λ v. p v ≡ true) (sym is) k) | inr later ↦ let o = member-filtered p ys x later in (inr o.0, o.1) ]
  | inr n ↦ let o = member-filtered p ys x (rw n at there) in (inr o.0, o.1)
]

-- a write of the joined ones is the new one or an old one
pub member-joined : (w : Write) (writes : List Write) (o : Write) → Member o (joined w writes) → (o ≡ w) ⊎ Member o writes
member-joined w writes o (inl same) = inl same
member-joined w writes o (inr there) = inr (member-filtered (λ o. not (writes_at w.table w.key o)) writes o there).0

abbrev pub with_stamps : ℕ → ℕ → Write → Write
with_stamps commit durable w = record w { commit = commit; durable = durable }

pub stamped-at : (commit durable table : ℕ) (key : List ℕ) (writes : List Write) → filter (writes_at table key) (stamped commit durable writes) ≡ stamped commit durable (filter (writes_at table key) writes)
stamped-at commit durable table key [] = refl
stamped-at commit durable table key (w ∷ writes) = elim (cases_Bool (writes_at table key w)) [
  | inl is ↦ rw (is, stamped-at commit durable table key writes) refl
  | inr isnt ↦ rw (isnt, stamped-at commit durable table key writes) refl
]

-- a stamped write is one of the writes, with these stamps
pub member-stamped : (commit durable : ℕ) (writes : List Write) (o : Write) → Member o (stamped commit durable writes) → (w : Write) × Member w writes × (o ≡ with_stamps commit durable w)
member-stamped commit durable [] o there = absurd there
member-stamped commit durable (w ∷ writes) o (inl same) = (w, inl refl, same)
member-stamped commit durable (w ∷ writes) o (inr there) = let later = member-stamped commit durable writes o there in (later.0, inr later.1, later.2)

pub stamped-single : (commit durable table : ℕ) (key : List ℕ) (writes : List Write) (own : Option Write) → filter (writes_at table key) writes ≡ option_to_list own
    → (found : Option Write) × (filter (writes_at table key) (stamped commit durable writes) ≡ option_to_list found)
stamped-single commit durable table key writes None single = (None, stamped-at commit durable table key writes ∙ ap (stamped commit durable) single)
stamped-single commit durable table key writes (Some w) single = (Some (with_stamps commit durable w), stamped-at commit durable table key writes ∙ ap (stamped commit durable) single)

-- a key of which a stamped write is found was written
pub stamped-own : (commit durable table : ℕ) (key : List ℕ) (writes : List Write) → filter (writes_at table key) writes ≡ option_to_list (find (writes_at table key) writes)
    → (o : Write) → Member o (filter (writes_at table key) (stamped commit durable writes)) → is_own (find (writes_at table key) writes) ≡ true
stamped-own commit durable table key writes single o there = elim (cases_Bool (is_own (find (writes_at table key) writes))) [
  | inl own ↦ own
  | inr none ↦ let empty = stamped-at commit durable table key writes ∙ ap (stamped commit durable) (filter-unwritten table key writes single none) in absurd (subst (λ l. Member o l) empty there)
]
