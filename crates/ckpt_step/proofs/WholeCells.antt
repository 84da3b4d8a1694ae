-- What serves a checkpoint that captures all there is is the newest version of its key.
use Rattle.std.specs.Prelude.{◌≡◌, ℕ, true, List, [], ◌∷◌, length, Option, Some, None, refl}
use Rattle.std.proofs.Common.{inl, inr, sym, ◌∙◌, ap}
use Rattle.item.specs.declared.Change.{Change}
use Rattle.stamp.specs.declared.Version.{Version}
use Rattle.kv_model.specs.AgreementLaws.{head_of}
use Rattle.kv_model.specs.Captures.{UpTo, is_in}
use Rattle.kv_model.specs.Holds.{Descends, Member}
use Rattle.kv_model.specs.History.{line}
use Rattle.kv_model.specs.Machine.{Machine}
use Rattle.kv_model.specs.Ordered.{Older}
use Rattle.kv_model.specs.Valid.{Valid}
use Rattle.kv_model.proofs.Finishing.{line-committed, older-order}
use Rattle.kv_model.proofs.Ordering.{line-descends}

-- of a line in order the version at or above the first one is the first one
first_of : (v : Version Change) (older : List (Version Change)) (y : Version Change) → Descends Older (v ∷ older) → Member y (v ∷ older) → UpTo Older v y → v ≡ y
first_of v older y descends there (inl same) = same
first_of v older y descends (inl same) (inr above) = sym same
first_of v older y descends (inr later) (inr above) = absurd (older-order.asym v y above (descends.0 y later))

head_is : (l : List (Version Change)) (cell : Option (Version Change)) → Descends Older l → ((v : Version Change) → cell ≡ Some v → Member v l) → ((v : Version Change) → Member v l → (y : Version Change) × (cell ≡ Some y) × UpTo Older v y) → cell ≡ head_of l
head_is [] None descends there top = refl
head_is [] (Some v) descends there top = absurd (there v refl)
head_is (v ∷ older) cell descends there top =
    let y = top v (inl refl) in
    y.1 ∙ ap (λ (x : Version Change). Some x) (sym (first_of v older y.0 descends (there y.0 y.1) y.2))

-- whatever else a line has, all of it was committed
pub whole_head : (m : Machine) (table : ℕ) (key : List ℕ) (cell : Option (Version Change)) → Valid m → ((v : Version Change) → cell ≡ Some v → Member v (line m.history table key))
    → ((v : Version Change) → Member v (line m.history table key) → is_in m.history (length m.history) v ≡ true → (y : Version Change) × (cell ≡ Some y) × UpTo Older v y) → cell ≡ head_of (line m.history table key)
whole_head m table key cell valid there top =
    head_is (line m.history table key) cell (line-descends m.history valid.orderly table key) there (λ v member. top v member (line-committed m.history table key v member))
