-- The tables of a checkpoint's record are those of the machine.
use Rattle.std.proofs.Common.{◌≡◌, ◌⊎◌, ℕ, true, false, List, [], ◌∷◌, ◌++◌, reverse, refl, sym, ap, subst, inl, inr, arith}
use Rattle.std.specs.Prelude.{◌==◌, nat_lt}
use Rattle.std.proofs.lemmas.Bool.{cases_Bool, eq-eqb, eqb-true, lt-ltb, ltb-true}
use Rattle.std.proofs.lemmas.Bool.Decides.{nat_tests}
use Rattle.std.proofs.lemmas.List.{reverse-reverse}
use Rattle.kv_model.specs.Content.{descending, table_lt}
use Rattle.kv_model.specs.Holds.{Descends, IsOrder, Member}
use Rattle.kv_model.specs.History.{Entry, Create, Commit, Prepare, Resolve, Undo, Rts, Table, created, has_table, tables}
use Rattle.kv_model.specs.Ordered.{IsOrderly}
use Rattle.kv_model.specs.Regular.{AllApart, SameNumber}
use Rattle.kv_model.proofs.ContentKeys.{any-from}
use Rattle.kv_model.proofs.Opening.{any-there}
use Rattle.kv_model.proofs.Sorting.{Lt, Sorts, descending-descends, descending-member, member-descending}
use Rattle.catalog.specs.Known.{by_name}
use Rattle.catalog.proofs.InOrder.{order_keeps}
use Rattle.catalog.proofs.Turning.{turn_one}
use Rattle.ckpt_content.proofs.Descents.{one_descent}

-- ---- by number

pub table_there : (known : List Table) (number : ℕ) → has_table known number ≡ true → (t : Table) × Member t known × (t.number ≡ number)
table_there known number has = let t = any-from (λ (u : Table). u.number == number) known has in (t.0, t.1, eqb-true t.0.number number t.2)

pub there_table : (known : List Table) (t : Table) → Member t known → has_table known t.number ≡ true
there_table known t there = any-there (λ (u : Table). u.number == t.number) known t there (eq-eqb t.number t.number refl)

-- ---- those of a machine descend

made_tables : (history : List Entry) → tables history ≡ created history
made_tables [] = refl
made_tables (Create t ∷ older) = ap (λ (l : List Table). t ∷ l) (made_tables older)
made_tables (Commit name writes ∷ older) = made_tables older
made_tables (Prepare name stamp ∷ older) = made_tables older
made_tables (Resolve name writes ∷ older) = made_tables older
made_tables (Undo name ∷ older) = made_tables older
made_tables (Rts stable ∷ older) = made_tables older

tables_descend : (history : List Entry) → IsOrderly history → Descends (Lt table_lt) (tables history)
tables_descend [] orderly = tt
tables_descend (Create t ∷ older) orderly = (
  λ u there. lt-ltb u.number t.number (orderly.0.number u (subst (λ (l : List Table). Member u l) (made_tables older) there)),
  tables_descend older orderly.1,
)
tables_descend (Commit name writes ∷ older) orderly = tables_descend older orderly.1
tables_descend (Prepare name stamp ∷ older) orderly = tables_descend older orderly
tables_descend (Resolve name writes ∷ older) orderly = tables_descend older orderly.1
tables_descend (Undo name ∷ older) orderly = tables_descend older orderly
tables_descend (Rts stable ∷ older) orderly = tables_descend older orderly

-- so do those of a part of it
pub tables_descend_behind : (news start : List Entry) → IsOrderly (news ++ start) → Descends (Lt table_lt) (tables start)
tables_descend_behind [] start orderly = tables_descend start orderly
tables_descend_behind (Create t ∷ news) start orderly = tables_descend_behind news start orderly.1
tables_descend_behind (Commit name writes ∷ news) start orderly = tables_descend_behind news start orderly.1
tables_descend_behind (Prepare name stamp ∷ news) start orderly = tables_descend_behind news start orderly
tables_descend_behind (Resolve name writes ∷ news) start orderly = tables_descend_behind news start orderly.1
tables_descend_behind (Undo name ∷ news) start orderly = tables_descend_behind news start orderly
tables_descend_behind (Rts stable ∷ news) start orderly = tables_descend_behind news start orderly

part : (m n : ℕ) → (m ≡ n → ⊥) → nat_lt n m ≡ false → nat_lt m n ≡ true
part m n apart other = elim (cases_Bool (nat_lt m n)) [ inl is ↦ is | inr isnt ↦ absurd (apart (grind (arith, nat_tests))) ]

numbers_sort : Sorts table_lt SameNumber
numbers_sort = record {
  trans = λ t u v one two. let a = ltb-true t.number u.number one in let b = ltb-true u.number v.number two in lt-ltb t.number v.number (omega (arith, a, b));
  connex = λ t u apart other. part t.number u.number apart other;
}

numbers_order : IsOrder (Lt table_lt)
numbers_order = record {
  asym = λ t u one two. let a = ltb-true t.number u.number one in let b = ltb-true u.number t.number two in omega (arith, a, b);
  irrefl = λ t is. let a = ltb-true t.number t.number is in omega (arith, a);
}

-- ---- those of a record

member_push : (t : Table) (known : List Table) (u : Table) → Member t known ⊎ (t ≡ u) → Member t (known ++ u ∷ [])
member_push t [] u (inl none) = absurd none
member_push t [] u (inr same) = inl same
member_push t (v ∷ later) u (inl (inl same)) = inl same
member_push t (v ∷ later) u (inl (inr there)) = inr (member_push t later u (inl there))
member_push t (v ∷ later) u (inr same) = inr (member_push t later u (inr same))

member_turned : (t : Table) (known : List Table) → Member t known → Member t (reverse known)
member_turned t [] there = absurd there
member_turned t (u ∷ later) (inl same) = subst (λ (l : List Table). Member t l) (sym (turn_one u later)) (member_push t (reverse later) u (inr same))
member_turned t (u ∷ later) (inr there) = subst (λ (l : List Table). Member t l) (sym (turn_one u later)) (member_push t (reverse later) u (inl (member_turned t later there)))

module _ (history : List Entry) (known : List Table) (are : known ≡ by_name (reverse (tables history))) where
  pub known_there : (t : Table) → Member t known → Member t (tables history)
  known_there t there = subst (λ (l : List Table). Member t l) (reverse-reverse (tables history)) (member_turned t (reverse (tables history))
      ((order_keeps (reverse (tables history)) t).0 (subst (λ (l : List Table). Member t l) are there)))

  pub there_known : (t : Table) → Member t (tables history) → Member t known
  there_known t there = subst (λ (l : List Table). Member t l) (sym are) ((order_keeps (reverse (tables history)) t).1 (member_turned t (tables history) there))

  pub tables_are_one : Descends (Lt table_lt) (tables history) → AllApart SameNumber known → descending table_lt known ≡ tables history
  tables_are_one down apart = one_descent (Lt table_lt) numbers_order (descending table_lt known) (tables history)
      (descending-descends table_lt SameNumber numbers_sort known apart) down
      (λ t there. known_there t (member-descending table_lt known t there))
      (λ t there. descending-member table_lt known t (there_known t there))
