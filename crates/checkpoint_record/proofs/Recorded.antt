-- The tables of a record are those that a catalog opens with.
use Rattle.std.proofs.Common.{◌≡◌, ◌≢◌, ℕ, ◌<◌, ◌≤◌, true, List, [], ◌∷◌, sym, ap, ◌∙◌, inl, inr, arith}
use Rattle.std.specs.Prelude.{map}
use Rattle.std.specs.List.{AllByRecursion}
use Rattle.std.proofs.lemmas.List.{length-map}
use Rattle.kv_model.specs.Holds.{Member}
use Rattle.kv_model.specs.History.{Table}
use Rattle.kv_model.specs.Regular.{AllApart, SameNumber}
use Rattle.kv_model.specs.Decisions.{is_name}
use Rattle.catalog.specs.Known.{NamesAscend}
use Rattle.catalog.specs.Opens.{AreRecorded}
use Rattle.stored.specs.Records.{TableRoot, Record, TableFits, TablesClimb, NumbersOnce, IsRecord}
use Rattle.checkpoint_record.proofs.Kept.{name_is}

abbrev tables_of : List TableRoot → List Table
tables_of tables = map {A = TableRoot} (λ t. t.table) tables

all_of : (P : TableRoot → Type 0) (Q : Table → Type 0) → ((t : TableRoot) → P t → Q t.table) → (tables : List TableRoot) → AllByRecursion P tables → AllByRecursion Q (tables_of tables)
all_of P Q more [] all = tt
all_of P Q more (t ∷ tables) all = (more t all.0, all_of P Q more tables all.1)

ascend : (tables : List TableRoot) → TablesClimb tables → NamesAscend (tables_of tables)
ascend [] climb = tt
ascend (t ∷ []) climb = tt
ascend (t ∷ u ∷ tables) climb = (climb.0, ascend (u ∷ tables) climb.1)

other : (n : ℕ) (tables : List TableRoot) → AllByRecursion (λ (u : TableRoot). u.table.number ≢ n) tables → (y : Table) → Member y (tables_of tables) → n ≡ y.number → ⊥
other n [] all y there same = absurd there
other n (u ∷ tables) all y (inl is) same = all.0 (sym (same ∙ ap (λ (t : Table). t.number) is))
other n (u ∷ tables) all y (inr there) same = other n tables all.1 y there same

apart : (tables : List TableRoot) → NumbersOnce tables → AllApart SameNumber (tables_of tables)
apart [] once = tt
apart (t ∷ tables) once = (other t.table.number tables once.0, apart tables once.1)

pub recorded : (r : Record) → IsRecord r → AreRecorded (tables_of r.tables) r.next_table
recorded r ok = record {
  few = omega (arith, length-map r.tables (λ (t : TableRoot). t.table), ok.count);
  names = all_of (λ (t : TableRoot). TableFits r.next_table t) (λ (t : Table). is_name t.name ≡ true) (λ t fits. name_is t.table.name fits.name) r.tables ok.tables;
  ascend = ascend r.tables ok.climb;
  from_one = all_of (λ (t : TableRoot). TableFits r.next_table t) (λ (t : Table). 1 ≤ t.number) (λ t fits. fits.number.0) r.tables ok.tables;
  below_next = all_of (λ (t : TableRoot). TableFits r.next_table t) (λ (t : Table). t.number < r.next_table) (λ t fits. fits.number.1) r.tables ok.tables;
  once = apart r.tables ok.once;
}
