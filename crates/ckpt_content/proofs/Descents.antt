-- Lists that descend.
use Rattle.std.proofs.Common.{◌≡◌, ◌∙◌, List, [], ◌∷◌, Some, refl, sym, ap, subst, inl, inr}
use Rattle.item.specs.declared.Change.{Change}
use Rattle.stamp.specs.declared.Version.{Version}
use Rattle.kv_model.specs.AgreementLaws.{head_of}
use Rattle.kv_model.specs.Holds.{Descends, IsOrder, Member}

-- those that have the same members are the same
pub one_descent : {A : Type 0} (Below : A → A → Type 0) → IsOrder Below → (xs ys : List A) → Descends Below xs → Descends Below ys → ((x : A) → Member x xs → Member x ys) → ((x : A) → Member x ys → Member x xs) → xs ≡ ys
one_descent Below order [] [] down under there back = refl
one_descent Below order [] (y ∷ ys) down under there back = absurd (back y (inl refl))
one_descent Below order (x ∷ xs) [] down under there back = absurd (there x (inl refl))
one_descent {A} Below order (x ∷ xs) (y ∷ ys) down under there back =
    let same : x ≡ y = elim (there x (inl refl)) [
      | inl is ↦ is
      | inr x_later ↦ elim (back y (inl refl)) [
        | inl is ↦ sym is
        | inr y_later ↦ absurd (order.asym x y (under.0 x x_later) (down.0 y y_later))
      ]
    ] in
    ap (λ (z : A). z ∷ xs) same ∙ ap (λ (l : List A). y ∷ l) (one_descent Below order xs ys down.1 under.1
    (λ z at. elim (there z (inr at)) [ inl is ↦ absurd (order.irrefl x (subst (λ (w : A). Below w x) (is ∙ sym same) (down.0 z at))) | inr later ↦ later ])
    (λ z at. elim (back z (inr at)) [ inl is ↦ absurd (order.irrefl y (subst (λ (w : A). Below w y) (is ∙ same) (under.0 z at))) | inr later ↦ later ]))

pub head_member : (v : Version Change) (l : List (Version Change)) → head_of l ≡ Some v → Member v l
head_member v [] is = absurd cc
head_member v (w ∷ l) is = let same : v ≡ w = cc in inl same
