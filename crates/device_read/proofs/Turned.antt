-- Rows from the greatest key down.
use Rattle.std.proofs.Common.{◌≡◌, true, List, [], ◌∷◌, ◌++◌, reverse, refl, sym, subst, inl, inr}
use Rattle.std.proofs.lemmas.List.{reverse-append, reverse-reverse}
use Rattle.kv_model.specs.Holds.{Member}
use Rattle.kv_model.specs.Rows.{Up, Down, comes_after}
use Rattle.device_read.specs.Rows.{KeyValue, InOrder}
use Rattle.device_read.proofs.Lists.{member_back, member_front, member_parts}

pub turned_first : {A : Type 0} (x : A) (xs : List A) → reverse (x ∷ xs) ≡ reverse xs ++ x ∷ []
turned_first x xs = reverse-append (x ∷ []) xs

pub member_turned : {A : Type 0} (x : A) (xs : List A) → Member x xs → Member x (reverse xs)
member_turned x [] there = absurd there
member_turned x (y ∷ xs) (inl same) = subst (λ l. Member x l) (sym (turned_first y xs)) (member_back (reverse xs) (y ∷ []) x (inl same))
member_turned x (y ∷ xs) (inr there) = subst (λ l. Member x l) (sym (turned_first y xs)) (member_front (reverse xs) (y ∷ []) x (member_turned x xs there))

pub turned_member : {A : Type 0} (x : A) (xs : List A) → Member x (reverse xs) → Member x xs
turned_member x xs there = subst (λ l. Member x l) (reverse-reverse xs) (member_turned x (reverse xs) there)

down_last : (rows : List KeyValue) (row : KeyValue) → InOrder Down rows → ((earlier : KeyValue) → Member earlier rows → comes_after Down earlier.0 row.0 ≡ true) → InOrder Down (rows ++ row ∷ [])
down_last [] row order before = ((λ later none. absurd none), tt)
down_last (x ∷ rows) row order before = (
  (λ later there. elim (member_parts rows (row ∷ []) later there) [
    | inl within ↦ order.0 later within
    | inr last ↦ elim last [ inl same ↦ subst (λ (y : KeyValue). comes_after Down x.0 y.0 ≡ true) (sym same) (before x (inl refl)) | inr none ↦ absurd none ]
  ]),
  down_last rows row order.1 (λ earlier there. before earlier (inr there)),
)

-- what ascends descends the other way round
pub turned_order : (rows : List KeyValue) → InOrder Up rows → InOrder Down (reverse rows)
turned_order [] order = tt
turned_order (row ∷ rows) order =
    subst (λ (l : List KeyValue). InOrder Down l) (sym (turned_first row rows))
    (down_last (reverse rows) row (turned_order rows order.1) (λ earlier there. order.0 earlier (turned_member earlier rows there)))
