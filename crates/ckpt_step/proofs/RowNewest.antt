-- The row of a key without a chain is its newest version, whatever the history keeps below it.
use Rattle.std.specs.Prelude.{◌≡◌, ◌⊎◌, ℕ, List, [], ◌∷◌, ◌++◌, map, Option, Some, None, refl}
use Rattle.std.specs.Option.{option_to_list}
use Rattle.std.proofs.Common.{inl, inr, sym, ◌∙◌, ap, subst}
use Rattle.item.specs.declared.Change.{Change}
use Rattle.stamp.specs.declared.Version.{Version}
use Rattle.kv_model.specs.AgreementLaws.{head_of}
use Rattle.kv_model.specs.Holds.{Descends, Member}
use Rattle.kv_model.specs.History.{line}
use Rattle.kv_model.specs.Machine.{Machine}
use Rattle.kv_model.specs.Ordered.{Older}
use Rattle.kv_model.specs.Pending.{InFrame, TopStands, settled, Update as ModelUpdate}
use Rattle.kv_model.specs.Valid.{Valid}
use Rattle.kv_model.proofs.Ordering.{line-descends}
use Rattle.reconcile.proofs.Newest.{newest_held}
use Rattle.update_chain.specs.EventLaws.{StandsFor}

-- a cell
in_cell : (row : Option (Version Change)) (v : Version Change) → Member v (option_to_list row) → row ≡ Some v
in_cell None v there = absurd there
in_cell (Some x) v (inl same) = ap (λ (y : Version Change). Some y) (sym same)
in_cell (Some x) v (inr none) = absurd none

of_cell : (row : Option (Version Change)) (v : Version Change) → row ≡ Some v → Member v (option_to_list row)
of_cell row v is = subst (λ (o : Option (Version Change)). Member v (option_to_list o)) (sym is) (inl refl)

-- of two lists
in_one : (xs ys : List (Version Change)) (v : Version Change) → Member v (xs ++ ys) → Member v xs ⊎ Member v ys
in_one [] ys v there = inr there
in_one (x ∷ xs) ys v (inl same) = inl (inl same)
in_one (x ∷ xs) ys v (inr later) = elim (in_one xs ys v later) [ inl there ↦ inl (inr there) | inr there ↦ inr there ]

in_first : (xs ys : List (Version Change)) (v : Version Change) → Member v xs → Member v (xs ++ ys)
in_first [] ys v there = absurd there
in_first (x ∷ xs) ys v (inl same) = inl same
in_first (x ∷ xs) ys v (inr later) = inr (in_first xs ys v later)

in_second : (xs ys : List (Version Change)) (v : Version Change) → Member v ys → Member v (xs ++ ys)
in_second [] ys v there = there
in_second (x ∷ xs) ys v there = inr (in_second xs ys v there)

nil_cons : {A : Type 0} {x : A} {xs : List A} → [] ≡ x ∷ xs → ⊥
nil_cons same = cc

-- no update is in an empty chain
no_held : (top : List ModelUpdate) (held : List (Version Change)) → [] ≡ top ++ map settled held → held ≡ []
no_held [] [] is = refl
no_held [] (v ∷ held) is = absurd (nil_cons is)
no_held (u ∷ top) held is = absurd (nil_cons is)

no_top : (m : Machine) (table : ℕ) (key : List ℕ) (below : List (Version Change)) (top held : List ModelUpdate) → [] ≡ top ++ held → TopStands m table key top below → line m.history table key ≡ below
no_top m table key below [] held is topped = topped.0
no_top m table key below (u ∷ top) held is topped = absurd (nil_cons is)

module _ (m : Machine) (table : ℕ) (key : List ℕ) (row : Option (Version Change)) (records : List (Version Change)) (valid : Valid m) (stands : StandsFor m table key [] row records) where
  line_is : line m.history table key ≡ stands.below
  line_is = no_top m table key stands.below stands.top (map settled stands.held) stands.chained stands.topped

  none : stands.held ≡ []
  none = no_held stands.top stands.held stands.chained

  -- what is in the frame is the row
  row_is : (v : Version Change) → InFrame stands.held row v → row ≡ Some v
  row_is v (inl held) = absurd (subst (λ (l : List (Version Change)). Member v l) none held)
  row_is v (inr cell) = cell

  -- where the history keeps a version there is a row
  kept_under : (v : Version Change) → Member v records → row ≡ None → ⊥
  kept_under v there bare = let top = stands.layered v there in let is = row_is top.0 top.1 in let clash : None ≡ Some top.0 = sym bare ∙ is in absurd cc

  down : Descends Older stands.below
  down = subst (λ (l : List (Version Change)). Descends Older l) line_is (line-descends m.history valid.orderly table key)

  within : (v : Version Change) → Member v (option_to_list row ++ records) → Member v stands.below
  within v there = elim (in_one (option_to_list row) records v there) [
    | inl cell ↦ stands.stores.kept.within v (inl (inr (in_cell row v cell)))
    | inr record_of ↦ stands.stores.kept.within v (inr record_of)
  ]

  all : (v : Version Change) → Member v stands.below → Member v (option_to_list row ++ records) ⊎ ((x : Version Change) × Member x stands.below × Older v x)
  all v there = elim (stands.stores.kept.all v there) [
    | inr covered ↦ inr (covered.0, covered.1, covered.2)
    | inl one ↦ elim one [
      | inl frame ↦ inl (in_first (option_to_list row) records v (of_cell row v (row_is v frame)))
      | inr past ↦ inl (in_second (option_to_list row) records v past)
    ]
  ]

  first : (o : Option (Version Change)) → row ≡ o → head_of (option_to_list row ++ records) ≡ row
  first None bare = by records refl
    where
      by : (l : List (Version Change)) → records ≡ l → head_of (option_to_list row ++ records) ≡ row
      by [] is = ap (λ (o : Option (Version Change)). head_of (option_to_list o ++ records)) bare ∙ (ap (λ (l : List (Version Change)). head_of l) is ∙ sym bare)
      by (v ∷ l) is = absurd (kept_under v (subst (λ (k : List (Version Change)). Member v k) (sym is) (inl refl)) bare)
  first (Some v) some = ap (λ (o : Option (Version Change)). head_of (option_to_list o ++ records)) some ∙ sym some

  pub row_newest : Descends Older (option_to_list row ++ records) → head_of (line m.history table key) ≡ row
  row_newest ordered = ap head_of line_is ∙ (sym (newest_held (option_to_list row ++ records) stands.below down ordered within all) ∙ first row refl)
