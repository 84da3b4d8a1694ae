-- Members of a list in the other order.
use Rattle.std.specs.Prelude.{List, [], ◌∷◌, reverse}
use Rattle.std.proofs.Common.{inl, inr, sym, subst}
use Rattle.std.proofs.lemmas.List.{reverse-append, reverse-reverse}
use Rattle.kv_model.specs.Holds.{Member}
use Rattle.ckpt_step.proofs.Members.{in_back, in_front}

pub member_turned : {A : Type 0} (x : A) (xs : List A) → Member x xs → Member x (reverse xs)
member_turned x [] there = absurd there
member_turned {A} x (y ∷ xs) (inl same) = subst (λ (l : List A). Member x l) (sym (reverse-append (y ∷ []) xs)) (in_back (reverse xs) (y ∷ []) x (inl same))
member_turned {A} x (y ∷ xs) (inr there) = subst (λ (l : List A). Member x l) (sym (reverse-append (y ∷ []) xs)) (in_front (reverse xs) (y ∷ []) x (member_turned x xs there))

pub turned_member : {A : Type 0} (x : A) (xs : List A) → Member x (reverse xs) → Member x xs
turned_member {A} x xs there = subst (λ (l : List A). Member x l) (reverse-reverse xs) (member_turned x (reverse xs) there)
