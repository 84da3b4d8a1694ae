-- The tables that stood as a checkpoint started are the first ones of the engine.
use Rattle.std.specs.Prelude.{◌≡◌, ◌≤◌, ℕ, List, [], ◌∷◌, ◌++◌, length, reverse, take, Some, refl}
use Rattle.std.proofs.Common.{sym, ◌∙◌, ap, arith}
use Rattle.std.proofs.lemmas.List.{length-append, length-reverse, reverse-append, reverse-reverse}
use Rattle.kv_model.specs.History.{Entry, Create, Commit, Prepare, Resolve, Undo, Rts, Table, first, tables}
use Rattle.kv_model.specs.Machine.{Checkpoint, Machine}
use Rattle.kv_model.specs.Valid.{Valid, ValidCheckpoint}
use Rattle.kv_model.proofs.Finishing.{first-start}
use Rattle.ckpt_content.specs.Finished.{tables_then}

tables_behind : (news start : List Entry) → tables (news ++ start) ≡ tables news ++ tables start
tables_behind [] start = refl
tables_behind (Create t ∷ news) start = ap (λ (l : List Table). t ∷ l) (tables_behind news start)
tables_behind (Commit name writes ∷ news) start = tables_behind news start
tables_behind (Prepare name stamp ∷ news) start = tables_behind news start
tables_behind (Resolve name writes ∷ news) start = tables_behind news start
tables_behind (Undo name ∷ news) start = tables_behind news start
tables_behind (Rts stable ∷ news) start = tables_behind news start

take_front : {A : Type 0} (xs ys : List A) → take (length xs) (xs ++ ys) ≡ xs
take_front [] ys = refl
take_front {A} (x ∷ xs) ys = ap (λ (l : List A). x ∷ l) (take_front xs ys)

module _ (m : Machine) (c : Checkpoint) (known : List Table) (valid : Valid m) (runs : m.checkpoint ≡ Some c) (made : reverse known ≡ tables m.history) where
  k : ValidCheckpoint m.history m.oldest m.stable c
  k = valid.checkpoint c runs

  then_is : first c.prefix m.history ≡ k.start
  then_is = ap (λ (n : ℕ). first n m.history) k.prefix ∙ (ap (λ (h : List Entry). first (length k.start) h) k.whole ∙ first-start k.news k.start)

  known_is : known ≡ reverse (tables_then m c) ++ reverse (tables k.news)
  known_is =
      sym (reverse-reverse known)
      ∙ (ap (λ (l : List Table). reverse l) (made ∙ (ap tables k.whole ∙ (tables_behind k.news k.start ∙ ap (λ (h : List Entry). tables k.news ++ tables h) (sym then_is))))
      ∙ reverse-append (tables k.news) (tables_then m c))

  pub then_few : length (tables_then m c) ≤ length known
  then_few =
      let all = ap (λ (l : List Table). length l) known_is ∙ length-append (reverse (tables_then m c)) (reverse (tables k.news)) in
      omega (arith, all, length-reverse (tables_then m c))

  pub then_first : take (length (tables_then m c)) known ≡ reverse (tables_then m c)
  then_first =
      ap (λ (n : ℕ). take n known) (sym (length-reverse (tables_then m c)))
      ∙ (ap (λ (l : List Table). take (length (reverse (tables_then m c))) l) known_is ∙ take_front (reverse (tables_then m c)) (reverse (tables k.news)))
