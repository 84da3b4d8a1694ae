-- What a rollback to stable leaves of a chain stands for its key.
use Rattle.std.proofs.Common.{◌≡◌, ℕ, refl, ap, sym, ◌∙◌, true, false, List, [], ◌∷◌, ◌++◌, inl, inr, subst, map}
use Rattle.std.specs.Prelude.{Option, Some, None, filter}
use Rattle.std.specs.Option.{option_to_list}
use Rattle.std.proofs.lemmas.Bool.{cases_Bool}
use Rattle.item.specs.declared.Change.{Change}
use Rattle.stamp.specs.declared.Version.{Version}
use Rattle.kv_model.specs.Holds.{Member}
use Rattle.kv_model.specs.History.{is_stable}
use Rattle.kv_model.specs.Machine.{Machine, RollbackToStable}
use Rattle.kv_model.specs.Allowed.{Allowed}
use Rattle.kv_model.specs.Pending.{Update as ModelUpdate, settled as model_settled, TopStands}
use Rattle.kv_model.specs.Reconciling.{held_in}
use Rattle.kv_model.proofs.Capturing.{member-into, member-out}
use Rattle.kv_model.proofs.RolledKeys.{frame-rolls-back}
use Rattle.update_chain.specs.declared.update.Update.{Update}
use Rattle.update_chain.specs.Updates.{update_in, unmarked_update, rolled_back}
use Rattle.update_chain.specs.Writing.{newest_of}
use Rattle.update_chain.specs.RollbackLaws.{cell_rolled_back, RollbacksKeep, RollbacksBringBack}

-- nobody holds an update
no-top : (m : Machine) (table : ℕ) (key : List ℕ) (top : List ModelUpdate) (below : List (Version Change)) → Allowed m RollbackToStable → TopStands m table key top below → top ≡ []
no-top m table key [] below may topped = refl
no-top m table key (u ∷ []) below may q = let gone = may.0 q.session in let there = q.there in let both : None ≡ Some q.transaction = sym gone ∙ there in absurd (cc)
no-top m table key (u ∷ (v ∷ rest)) below may topped = absurd topped

-- what is left of a chain of committed versions
plain : (stable : ℕ) (chain : List Update) (held : List (Version Change)) → map update_in chain ≡ map model_settled held → map update_in (rolled_back stable chain) ≡ map model_settled (filter (is_stable stable) held)
plain stable [] [] e = refl
plain stable [] (v ∷ held) e = absurd (cc)
plain stable (u ∷ chain) [] e = absurd (cc)
plain stable (u ∷ chain) (v ∷ held) e =
    let first : update_in u ≡ model_settled v = cc in
    let rest : map update_in chain ≡ map model_settled held = cc in
    let version : u.version ≡ v = ap (λ (x : ModelUpdate). x.version) first in
    let more = plain stable chain held rest in
    elim (cases_Bool (is_stable stable v)) [
      | inl is ↦ let here : is_stable stable u.version ≡ true = ap (is_stable stable) version ∙ is in rw (here, is) (ap (λ x. x ∷ map update_in (rolled_back stable chain)) first ∙ ap (λ l. model_settled v ∷ l) more)
      | inr isnt ↦ let here : is_stable stable u.version ≡ false = ap (is_stable stable) version ∙ isnt in rw (here, isnt) more
    ]

-- what is left of all that a frame holds
left-held : (stable : ℕ) (chain : List Update) (cell : Option (Version Change)) → held_in (map update_in (rolled_back stable chain)) (cell_rolled_back stable cell) ≡ filter (is_stable stable) (held_in (map update_in chain) cell)
left-held stable [] None = refl
left-held stable [] (Some v) = elim (cases_Bool (is_stable stable v)) [ inl is ↦ rw is refl | inr isnt ↦ rw isnt refl ]
left-held stable (u ∷ chain) cell = elim (cases_Bool (is_stable stable u.version)) [
  | inl is ↦ rw is (ap (λ l. u.version ∷ l) (left-held stable chain cell))
  | inr isnt ↦ rw isnt (left-held stable chain cell)
]

newest-held : (chain : List Update) (cell : Option (Version Change)) (u : Update) → newest_of chain cell ≡ Some u → (v : Version Change) × Member v (held_in (map update_in chain) cell)
newest-held [] None u e = absurd (cc)
newest-held [] (Some v) u e = (v, inl refl)
newest-held (w ∷ older) cell u e = (w.version, inl refl)

none-left : (chain : List Update) (cell : Option (Version Change)) → newest_of chain cell ≡ None → held_in (map update_in chain) cell ≡ []
none-left [] None e = refl
none-left [] (Some v) e = absurd (cc)
none-left (w ∷ older) cell e = absurd (cc)

pub rollbacks-keep : RollbacksKeep
rollbacks-keep m table key chain cell records u valid may k there =
    frame-rolls-back m table key (map update_in chain) (map update_in (rolled_back m.stable chain)) cell (cell_rolled_back m.stable cell) records valid may (record {
      held = filter (is_stable m.stable) k.held;
      plain = plain m.stable chain k.held (subst (λ top. map update_in chain ≡ top ++ map model_settled k.held) (no-top m table key k.top k.below may k.topped) k.chained);
      frame_is = (let at = newest-held (rolled_back m.stable chain) (cell_rolled_back m.stable cell) u there in
          let out = member-out (is_stable m.stable) (held_in (map update_in chain) cell) at.0 (subst (Member at.0) (left-held m.stable chain cell) at.1) in
          inl ((at.0, out.0, out.1), left-held m.stable chain cell));
    }) k

pub rollbacks-bring-back : RollbacksBringBack
rollbacks-bring-back m table key chain cell records back valid may k gone picks = (
  frame-rolls-back m table key (map update_in chain) [] cell back records valid may (record { held = []; plain = refl; frame_is = inr (none, (back, picks, refl)) }) k,
  frame-rolls-back m table key (map update_in chain) (map update_in (map unmarked_update (option_to_list back))) cell None records valid may
      (record { held = option_to_list back; plain = as-settled back; frame_is = inr (none, (back, picks, as-held back)) }) k,
) where
  none : (v : Version Change) → Member v (held_in (map update_in chain) cell) → is_stable m.stable v ≡ true → ⊥
  none v at is = subst (Member v) (sym (left-held m.stable chain cell) ∙ none-left (rolled_back m.stable chain) (cell_rolled_back m.stable cell) gone) (member-into (is_stable m.stable) (held_in (map update_in chain) cell) v at is)

  as-settled : (o : Option (Version Change)) → map update_in (map unmarked_update (option_to_list o)) ≡ map model_settled (option_to_list o)
  as-settled None = refl
  as-settled (Some v) = refl

  as-held : (o : Option (Version Change)) → held_in (map update_in (map unmarked_update (option_to_list o))) None ≡ option_to_list o
  as-held None = refl
  as-held (Some v) = refl
