-- Sessions after one of them changed.
use Rattle.std.proofs.Common.{◌≡◌, ◌≢◌, ◌⊎◌, ◌<◌, ℕ, ap, sym, ◌∙◌, true, List, [], ◌∷◌, length, inl, inr, subst, arith, zero, suc}
use Rattle.std.specs.Prelude.{Option, Some, None, slice_index_or, slice_set, find}
use Rattle.std.proofs.lemmas.Bool.{cases_eq}
use Rattle.std.proofs.lemmas.List.{get_or-set_same, get_or-set_other}
use Rattle.kv_model.specs.History.{Entry, Write, writes_at}
use Rattle.kv_model.specs.Machine.{Transaction}
use Rattle.kv_model.specs.Reads.{own_write, is_own, IsEnding}
use Rattle.kv_model.specs.Valid.{ValidTransaction, ValidSessions}

pub seat-inside : {A : Type 0} (xs : List (Option A)) (s : ℕ) (x : A) → slice_index_or xs s None ≡ Some x → s < length xs
seat-inside [] s x e = absurd (cc)
seat-inside (y ∷ ys) zero x e = omega arith
seat-inside (y ∷ ys) (suc s) x e = let low = seat-inside ys s x e in omega arith

-- a seat after the change: the one that changed, or as it was
pub seat-cases : {A : Type 0} (xs : List (Option A)) (s : ℕ) (o : Option A) (r : ℕ) (x : A) → s < length xs → slice_index_or (slice_set xs s o) r None ≡ Some x
    → ((r ≡ s) × (o ≡ Some x)) ⊎ ((r ≢ s) × (slice_index_or xs r None ≡ Some x))
seat-cases {A} xs s o r x inside e = elim (cases_eq r s) [
  | inl same ↦ inl (same, sym (get_or-set_same xs s o None inside) ∙ subst (λ i. slice_index_or (slice_set xs s o) i None ≡ Some x) same e)
  | inr other ↦ inr (other, sym (get_or-set_other xs s r o None other) ∙ e)
]

-- what is asked of the transaction that sits there now, next to each other one
pub record Beside (sessions : List (Option Transaction)) (s : ℕ) (o : Option Transaction) : Type 0 where
  pub distinct : (r : ℕ) (t u : Transaction) → r ≢ s → slice_index_or sessions r None ≡ Some t → o ≡ Some u → 0 < u.id → u.id ≡ t.id → ⊥
  pub apart : (r : ℕ) (t u : Transaction) (table : ℕ) (key : List ℕ) → r ≢ s → slice_index_or sessions r None ≡ Some t → o ≡ Some u
      → is_own (own_write t table key) ≡ true → is_own (own_write u table key) ≡ true → IsEnding t.phase ⊎ IsEnding u.phase

pub seats-set : (run0 next0 : ℕ) (history0 : List Entry) (run next : ℕ) (history : List Entry) (sessions : List (Option Transaction)) (s : ℕ) (o : Option Transaction) → s < length sessions
    → ValidSessions run0 next0 history0 sessions
    → ((r : ℕ) (t : Transaction) → r ≢ s → slice_index_or sessions r None ≡ Some t → ValidTransaction run next history t)
    → ((u : Transaction) → o ≡ Some u → ValidTransaction run next history u)
    → Beside sessions s o
    → ValidSessions run next history (slice_set sessions s o)
seats-set run0 next0 history0 run next history sessions s o inside v others here beside = record {
  each = λ r t e. elim (seat-cases sessions s o r t inside e) [ inl at ↦ here t at.1 | inr at ↦ others r t at.0 at.1 ];
  distinct = λ a b t u e f apart drawn same. elim (seat-cases sessions s o a t inside e) [
    | inl x ↦ elim (seat-cases sessions s o b u inside f) [
      | inl y ↦ apart (x.0 ∙ sym y.0)
      | inr y ↦ beside.distinct b u t y.0 y.1 x.1 drawn same
    ]
    | inr x ↦ elim (seat-cases sessions s o b u inside f) [
      | inl y ↦ beside.distinct a t u x.0 x.1 y.1 (omega arith) (sym same)
      | inr y ↦ v.distinct a b t u x.1 y.1 apart drawn same
    ]
  ];
  apart = λ a b t u table key e f apart one two. elim (seat-cases sessions s o a t inside e) [
    | inl x ↦ elim (seat-cases sessions s o b u inside f) [
      | inl y ↦ absurd (apart (x.0 ∙ sym y.0))
      | inr y ↦ elim (beside.apart b u t table key y.0 y.1 x.1 two one) [ inl m ↦ inr m | inr m ↦ inl m ]
    ]
    | inr x ↦ elim (seat-cases sessions s o b u inside f) [
      | inl y ↦ beside.apart a t u table key x.0 x.1 y.1 one two
      | inr y ↦ v.apart a b t u table key x.1 y.1 apart one two
    ]
  ];
}

-- nobody sits there
pub beside-none : (sessions : List (Option Transaction)) (s : ℕ) → Beside sessions s None
beside-none sessions s = record {
  distinct = λ r t u other e f. let g : None ≡ Some u = f in absurd (cc);
  apart = λ r t u table key other e f. let g : None ≡ Some u = f in absurd (cc);
}

-- the transaction that sat there, with the same id and writes
pub beside-kin : (run next : ℕ) (history : List Entry) (sessions : List (Option Transaction)) (s : ℕ) (t u : Transaction) → ValidSessions run next history sessions → slice_index_or sessions s None ≡ Some t
    → u.id ≡ t.id → u.writes ≡ t.writes → (IsEnding t.phase → IsEnding u.phase) → Beside sessions s (Some u)
beside-kin run next history sessions s t u v there id writes ending = record {
  distinct = λ r x y other e f drawn same. let is : u ≡ y = cc in let ids : u.id ≡ y.id = ap (λ (z : Transaction). z.id) is in
      v.distinct s r t x there e (λ q. other (sym q)) (omega arith) (omega arith);
  apart = λ r x y table key other e f one two. let is : u ≡ y = cc in
      let own : is_own (own_write t table key) ≡ true = subst (λ (z : List Write). is_own (find (writes_at table key) z) ≡ true) writes (subst (λ (z : Transaction). is_own (own_write z table key) ≡ true) (sym is) two) in
      elim (v.apart r s x t table key e there other one own) [ inl m ↦ inl m | inr m ↦ inr (subst (λ (z : Transaction). IsEnding z.phase) is (ending m)) ];
}
