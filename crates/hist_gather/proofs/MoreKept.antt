-- A history with more versions, and with still more.
use Rattle.std.specs.Prelude.{◌⊎◌, ℕ, List}
use Rattle.std.proofs.Common.{inl, inr}
use Rattle.item.specs.declared.Change.{Change}
use Rattle.stamp.specs.declared.Version.{Version}
use Rattle.hist_store.specs.declared.key_history.KeyHistory.{KeyHistory}
use Rattle.hist_gather.specs.Added.{HasMore}

-- where none are added
pub none_more : (Of : ℕ → List ℕ → Version Change → Type 0) (slots : List KeyHistory) → ((table : ℕ) (key : List ℕ) (v : Version Change) → Of table key v → ⊥) → HasMore Of slots slots
none_more Of slots none = record {
  from = λ table key v there. inl there;
  kept = λ table key v there. there;
  into = λ table key v of. absurd (none table key v of);
}

-- the same ones, said in another way
pub more_as : (One Two : ℕ → List ℕ → Version Change → Type 0) (old new : List KeyHistory) → HasMore One old new → ((table : ℕ) (key : List ℕ) (v : Version Change) → One table key v → Two table key v)
    → ((table : ℕ) (key : List ℕ) (v : Version Change) → Two table key v → One table key v) → HasMore Two old new
more_as One Two old new more to back = record {
  from = λ table key v there. elim (more.from table key v there) [ inl was ↦ inl was | inr one ↦ inr (to table key v one) ];
  kept = more.kept;
  into = λ table key v two. more.into table key v (back table key v two);
}

-- some, and then others
pub more_then : (One Two Both : ℕ → List ℕ → Version Change → Type 0) (old mid new : List KeyHistory) → HasMore One old mid → HasMore Two mid new
    → ((table : ℕ) (key : List ℕ) (v : Version Change) → One table key v → Both table key v) → ((table : ℕ) (key : List ℕ) (v : Version Change) → Two table key v → Both table key v)
    → ((table : ℕ) (key : List ℕ) (v : Version Change) → Both table key v → One table key v ⊎ Two table key v) → HasMore Both old new
more_then One Two Both old mid new first next left right parts = record {
  from = λ table key v there. elim (next.from table key v there) [
    | inr two ↦ inr (right table key v two)
    | inl was ↦ elim (first.from table key v was) [ inl before ↦ inl before | inr one ↦ inr (left table key v one) ]
  ];
  kept = λ table key v there. next.kept table key v (first.kept table key v there);
  into = λ table key v both. elim (parts table key v both) [
    | inr two ↦ next.into table key v two
    | inl one ↦ (let w = first.into table key v one in (w.0, next.kept table key w.0 w.1, w.2))
  ];
}
