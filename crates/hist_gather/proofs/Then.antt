-- The tables that stood as a checkpoint started are the first ones of the catalog.
use Rattle.std.specs.Prelude.{◌≡◌, ℕ, zero, suc, ◌<◌, List, [], ◌∷◌, ◌++◌, length, reverse, Some, slice_get, refl}
use Rattle.std.proofs.Common.{inl, inr, sym, ◌∙◌, ap, subst, arith}
use Rattle.std.proofs.lemmas.List.{length-reverse, reverse-append, reverse-reverse}
use Rattle.std.proofs.lemmas.Option.{same_Some}
use Rattle.kv_model.specs.Holds.{Member}
use Rattle.kv_model.specs.History.{Entry, Create, Commit, Prepare, Resolve, Undo, Rts, Table, first, tables}
use Rattle.kv_model.specs.Machine.{Checkpoint, Machine}
use Rattle.kv_model.specs.Valid.{Valid, ValidCheckpoint}
use Rattle.kv_model.proofs.Finishing.{first-start}
use Rattle.ckpt_content.specs.Finished.{tables_then}
use Rattle.hist_gather.proofs.Members.{member_at, member_turned, turned_member}

tables_behind : (news start : List Entry) → tables (news ++ start) ≡ tables news ++ tables start
tables_behind [] start = refl
tables_behind (Create t ∷ news) start = ap (λ (l : List Table). t ∷ l) (tables_behind news start)
tables_behind (Commit name writes ∷ news) start = tables_behind news start
tables_behind (Prepare name stamp ∷ news) start = tables_behind news start
tables_behind (Resolve name writes ∷ news) start = tables_behind news start
tables_behind (Undo name ∷ news) start = tables_behind news start
tables_behind (Rts stable ∷ news) start = tables_behind news start

-- ---- a list in front of another

get_in_front : {A : Type 0} (xs ys : List A) (i : ℕ) (x : A) → slice_get xs i ≡ Some x → slice_get (xs ++ ys) i ≡ Some x
get_in_front [] ys i x is = absurd cc
get_in_front (y ∷ xs) ys zero x is = is
get_in_front (y ∷ xs) ys (suc i) x is = get_in_front xs ys i x is

in_front_get : {A : Type 0} (xs ys : List A) (i : ℕ) (x : A) → i < length xs → slice_get (xs ++ ys) i ≡ Some x → Member x xs
in_front_get [] ys i x low is = absurd (omega (arith, low))
in_front_get (y ∷ xs) ys zero x low is = inl (sym (same_Some y x is))
in_front_get (y ∷ xs) ys (suc i) x low is = inr (in_front_get xs ys i x (omega (arith, low)) is)

-- ---- the tables

module _ (m : Machine) (c : Checkpoint) (known : List Table) (valid : Valid m) (runs : m.checkpoint ≡ Some c) (made : reverse known ≡ tables m.history) where
  k : ValidCheckpoint m.history m.oldest m.stable c
  k = valid.checkpoint c runs

  then_is : first c.prefix m.history ≡ k.start
  then_is = ap (λ (n : ℕ). first n m.history) k.prefix ∙ (ap (λ (h : List Entry). first (length k.start) h) k.whole ∙ first-start k.news k.start)

  known_is : known ≡ reverse (tables_then m c) ++ reverse (tables k.news)
  known_is =
      sym (reverse-reverse known)
      ∙ (ap (λ (l : List Table). reverse l) (made ∙ (ap tables k.whole ∙ (tables_behind k.news k.start ∙ ap (λ (h : List Entry). tables k.news ++ tables h) (sym then_is))))
      ∙ reverse-append (tables k.news) (tables_then m c))

  pub then_place : (t : Table) → Member t (tables_then m c) → (place : ℕ) × (place < length (tables_then m c)) × (slice_get known place ≡ Some t)
  then_place t there =
      let at = member_at t (reverse (tables_then m c)) (member_turned t (tables_then m c) there) in
      let low = at.1 in
      let same = length-reverse (tables_then m c) in
      (at.0, omega (arith, low, same), subst (λ (l : List Table). slice_get l at.0 ≡ Some t) (sym known_is) (get_in_front (reverse (tables_then m c)) (reverse (tables k.news)) at.0 t at.2))

  pub place_then : (place : ℕ) (t : Table) → place < length (tables_then m c) → slice_get known place ≡ Some t → Member t (tables_then m c)
  place_then place t low at =
      let same = length-reverse (tables_then m c) in
      turned_member t (tables_then m c) (in_front_get (reverse (tables_then m c)) (reverse (tables k.news)) place t (omega (arith, low, same)) (subst (λ (l : List Table). slice_get l place ≡ Some t) known_is at))
