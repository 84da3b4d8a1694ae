-- What is done to a chain takes no version out that had ended.
use Rattle.std.proofs.Common.{◌≡◌, ap, ◌∙◌, Bool, true, false, List, [], ◌∷◌, inl, inr, map}
use Rattle.std.specs.Prelude.{Option}
use Rattle.std.proofs.lemmas.Bool.{cases_Bool, both_ways}
use Rattle.item.specs.declared.Change.{Change}
use Rattle.stamp.specs.declared.Name.{Name}
use Rattle.stamp.specs.declared.Version.{Version}
use Rattle.kv_model.specs.Holds.{Member}
use Rattle.kv_model.specs.Reconciling.{held_in}
use Rattle.update_chain.specs.declared.update.Update.{Update}
use Rattle.update_chain.specs.Updates.{update_in, is_named, front_changed, installed, undone, marked, stamped}
use Rattle.update_chain.specs.UnderLaws.{LieUnder, RecordsLieUnder}
use Rattle.update_chain.proofs.Tops.{same-name}

-- what a frame holds with this chain
abbrev held_with : List Update → Option (Version Change) → List (Version Change)
held_with chain cell = held_in (map update_in chain) cell

-- what passes is of another name
others : (live : Version Change → Bool) (name : Name) (u : Update) (w : Version Change) → ((v : Version Change) → v.window.name ≡ name → live v ≡ false) → live w ≡ true → w ≡ u.version → is_named name u ≡ true → ⊥
others live name u w dead passes is named = both_ways (live w) (dead w (ap (λ (v : Version Change). v.window.name) is ∙ same-name u.version.window.name name named)) passes

-- a change of the newest update, where it is of the name, keeps what passes
front-held : (live : Version Change → Bool) (name : Name) (change : Update → Update) (chain : List Update) (cell : Option (Version Change)) (w : Version Change)
    → ((v : Version Change) → v.window.name ≡ name → live v ≡ false) → live w ≡ true → Member w (held_with chain cell) → Member w (held_with (front_changed name change chain) cell)
front-held live name change [] cell w dead passes at = at
front-held live name change (u ∷ older) cell w dead passes at = elim (cases_Bool (is_named name u)) [
  | inl named ↦ rw named (elim at [ inl here ↦ absurd (others live name u w dead passes here named) | inr there ↦ inr there ])
  | inr other ↦ rw other at
]

install-held : (live : Version Change → Bool) (u : Update) (chain : List Update) (cell : Option (Version Change)) (w : Version Change)
    → ((v : Version Change) → v.window.name ≡ u.version.window.name → live v ≡ false) → live w ≡ true → Member w (held_with chain cell) → Member w (held_with (installed u chain) cell)
install-held live u [] cell w dead passes at = inr at
install-held live u (v ∷ older) cell w dead passes at = elim (cases_Bool (is_named u.version.window.name v)) [
  | inl named ↦ rw named (elim at [ inl here ↦ absurd (others live u.version.window.name v w dead passes here named) | inr there ↦ inr there ])
  | inr other ↦ rw other (inr at)
]

undo-held : (live : Version Change → Bool) (name : Name) (chain : List Update) (cell : Option (Version Change)) (w : Version Change)
    → ((v : Version Change) → v.window.name ≡ name → live v ≡ false) → live w ≡ true → Member w (held_with chain cell) → Member w (held_with (undone name chain) cell)
undo-held live name [] cell w dead passes at = at
undo-held live name (u ∷ older) cell w dead passes at = elim (cases_Bool (is_named name u)) [
  | inl named ↦ rw named (elim at [ inl here ↦ absurd (others live name u w dead passes here named) | inr there ↦ there ])
  | inr other ↦ rw other at
]

-- each record stays under the version that it lies under
moved : (live : Version Change → Bool) (chain later : List Update) (cell : Option (Version Change)) (records : List (Version Change)) → ((w : Version Change) → live w ≡ true → Member w (held_with chain cell) → Member w (held_with later cell))
    → LieUnder live chain cell records → LieUnder live later cell records
moved live chain later cell records keeps lie v at = let under = lie v at in (under.0, keeps under.0 under.2 under.1, under.2, under.3)

pub records-lie-under : RecordsLieUnder
records-lie-under live name chain cell records dead lie = record {
  installs = λ u named. moved live chain (installed u chain) cell records (λ w passes at. install-held live u chain cell w (λ v same. dead v (same ∙ named)) passes at) lie;
  marks = λ prepare. moved live chain (front_changed name (marked prepare) chain) cell records (λ w passes at. front-held live name (marked prepare) chain cell w dead passes at) lie;
  stamps = λ commit durable. moved live chain (front_changed name (stamped commit durable) chain) cell records (λ w passes at. front-held live name (stamped commit durable) chain cell w dead passes at) lie;
  undoes = moved live chain (undone name chain) cell records (λ w passes at. undo-held live name chain cell w dead passes at) lie;
}
