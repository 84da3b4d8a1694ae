-- Laws of lines: they descend by name, and what agrees on its cores is read alike.
use Rattle.std.proofs.Common.{◌≡◌, ◌⊎◌, ◌≤◌, ℕ, refl, ap, sym, ◌∙◌, Bool, true, List, [], ◌∷◌, length, inl, inr, arith, map}
use Rattle.std.specs.Prelude.{find, filter, nat_le, ◌==◌, option_and_then}
use Rattle.std.proofs.lemmas.Bool.{cases_Bool, or_right, le-leb, leb-true}
use Rattle.item.specs.declared.Change.{Change}
use Rattle.stamp.specs.declared.Version.{Version}
use Rattle.kv_model.specs.Holds.{Member}
use Rattle.kv_model.specs.History.{Entry, Rts, Placed, line, standing, is_at, is_by, down_to, core, Agree, reads_at, put_of, released, admits, value}

pub find-down_to : {A : Type 0} (p q : A → Bool) (l : List A) → ((x : A) → Member x l → q x ≡ true → p x ≡ true) → find p (down_to q l) ≡ find p l
find-down_to p q [] le = refl
find-down_to p q (x ∷ xs) le = elim (cases_Bool (q x)) [
  | inl is ↦ rw (is, le x (inl refl) is) refl
  | inr isnt ↦ elim (cases_Bool (p x)) [
    | inl t ↦ rw (isnt, t) refl
    | inr f ↦ rw (isnt, f) (find-down_to p q xs (λ y there. le y (inr there)))
  ]
]

pub down_to-filter : {A : Type 0} (q f : A → Bool) (l : List A) → ((x : A) → q x ≡ true → f x ≡ true) → down_to q (filter f l) ≡ filter f (down_to q l)
down_to-filter q f [] le = refl
down_to-filter q f (x ∷ xs) le = elim (cases_Bool (q x)) [
  | inl is ↦ rw (le x is, is, le x is) refl
  | inr isnt ↦ elim (cases_Bool (f x)) [
    | inl t ↦ rw (t, isnt, t, down_to-filter q f xs le) refl
    | inr n ↦ rw (n, isnt, n) (down_to-filter q f xs le)
  ]
]

-- the line after a rollback to stable
pub line-rts : (s : ℕ) (history : List Entry) (table : ℕ) (key : List ℕ) → line (Rts s ∷ history) table key ≡ filter (is_by s) (line history table key)
line-rts s history table key = go (standing history) where
  go : (l : List Placed) → map {A = Placed} (λ p. p.version) (filter (is_at table key) (filter (λ p. is_by s p.version) l)) ≡ filter (is_by s) (map {A = Placed} (λ p. p.version) (filter (is_at table key) l))
  go [] = refl
  go (x ∷ xs) = elim (cases_Bool (is_by s x.version)) [
    | inl t ↦ elim (cases_Bool (is_at table key x)) [ inl a ↦ rw (t, a, t, go xs) refl | inr b ↦ rw (t, b, go xs) refl ]
    | inr f ↦ elim (cases_Bool (is_at table key x)) [ inl a ↦ rw (f, a, f, go xs) refl | inr b ↦ rw (f, b, go xs) refl ]
  ]

-- a rollback to a stable stamp that is not before oldest keeps agreement
pub agree-rts : (history other : List Entry) (oldest s : ℕ) → oldest ≤ s → Agree history other oldest → Agree (Rts s ∷ history) (Rts s ∷ other) oldest
agree-rts history other oldest s le agree = record {
  same_tables = agree.same_tables;
  cores = λ table key.
      let below = λ (v : Version Change) (e : is_by oldest v ≡ true). le-leb v.window.durable s (let low = leb-true v.window.durable oldest e in omega arith) in
      ap (core oldest) (line-rts s history table key)
      ∙ (down_to-filter (is_by oldest) (is_by s) (line history table key) below
      ∙ (ap (filter (is_by s)) (agree.cores table key)
      ∙ (sym (down_to-filter (is_by oldest) (is_by s) (line other table key) below)
      ∙ ap (core oldest) (sym (line-rts s other table key)))));
}

-- each version of the history's lines was released, and its commit stamp is not after its durable one
pub record IsSettled (history : List Entry) : Type 0 where
  pub released : (table : ℕ) (key : List ℕ) (v : Version Change) → Member v (line history table key) → released history (length history) v.window.name ≡ true
  pub stamps : (table : ℕ) (key : List ℕ) (v : Version Change) → Member v (line history table key) → v.window.commit ≤ v.window.durable

find-cong : {A : Type 0} (p q : A → Bool) (l : List A) → ((x : A) → Member x l → p x ≡ q x) → find p l ≡ find q l
find-cong p q [] same = refl
find-cong p q (x ∷ xs) same = rw (same x (inl refl), find-cong p q xs (λ y there. same y (inr there))) refl

-- without transactions, a read at no stamp or at one not before oldest is a read of the core
pub read-core : (history : List Entry) (oldest read : ℕ) → IsSettled history → (read ≡ 0) ⊎ (oldest ≤ read) → (table : ℕ) (key : List ℕ)
    → find (admits history (length history) read) (line history table key) ≡ find (λ (v : Version Change). reads_at read v.window.commit) (core oldest (line history table key))
read-core history oldest read settled late table key =
    find-cong (admits history (length history) read) (λ v. reads_at read v.window.commit) (line history table key)
    (λ v there. rw (settled.released table key v there) refl)
    ∙ sym (find-down_to (λ v. reads_at read v.window.commit) (is_by oldest) (line history table key)
    (λ v there e. elim late [
      | inl none ↦ rw none refl
      | inr after ↦ or_right (read == 0) (nat_le v.window.commit read) (le-leb v.window.commit read (let low = leb-true v.window.durable oldest e in let c = settled.stamps table key v there in omega arith))
    ]))

-- what agrees is read alike
pub agree-reads : (history other : List Entry) (oldest read : ℕ) → IsSettled history → IsSettled other → (read ≡ 0) ⊎ (oldest ≤ read) → Agree history other oldest → (table : ℕ) (key : List ℕ)
    → value history (length history) read table key ≡ value other (length other) read table key
agree-reads history other oldest read one two late agree table key =
    ap (option_and_then (λ (v : Version Change). put_of v.change))
    (read-core history oldest read one late table key
    ∙ (ap (find (λ (v : Version Change). reads_at read v.window.commit)) (agree.cores table key)
    ∙ sym (read-core other oldest read two late table key)))
