-- The rules of a record beside the widths of its fields.
use Rattle.std.specs.Prelude.{◌≡◌, ℕ, ◌+◌, Bool, true, ◌&&◌, ◌||◌, ◌==◌, nat_le, nat_lt, List, [], ◌∷◌, length}
use Rattle.std.specs.List.{list_all}
use Rattle.limits.specs.declared.TheConstants.{NUMBER_MAX, LEVELS_MAX}
use Rattle.kv_model.specs.Content.{Snapshot}
use Rattle.kv_model.specs.Decisions.{is_name}
use Rattle.row_page.specs.Rows.{is_below}
use Rattle.stored.specs.Records.{TableRoot, Record, NumbersOnce, record_body, IsRecord}

-- the run is drawn, and the stamps are in order; 0 is unset
abbrev pub marks_keep : Record → Bool
marks_keep r = nat_le r.sequence NUMBER_MAX && (nat_le 1 r.run && nat_le r.run r.sequence) && ((r.stable == 0) || nat_le r.oldest r.stable)

-- the ids ascend strictly, each from the least one to below max
abbrev pub ids_ascend : ℕ → ℕ → List ℕ → Bool
ids_ascend least max [] = true
ids_ascend least max (id ∷ ids) = nat_le least id && nat_lt id max && ids_ascend (id + 1) max ids

abbrev pub snapshot_keeps : Snapshot → Bool
snapshot_keeps s = nat_le s.min s.max && nat_le (length s.ids) 64 && ids_ascend s.min s.max s.ids

-- a table whose number is below the next one
abbrev pub table_keeps : ℕ → TableRoot → Bool
table_keeps next t = nat_le 1 t.table.number && nat_lt t.table.number next && nat_le t.root.level LEVELS_MAX && is_name t.table.name

-- the names ascend strictly
abbrev pub names_ascend : List TableRoot → Bool
names_ascend [] = true
names_ascend (t ∷ []) = true
names_ascend (t ∷ u ∷ tables) = is_below t.table.name u.table.name && names_ascend (u ∷ tables)

abbrev pub tables_keep : ℕ → List TableRoot → Bool
tables_keep next tables = list_all (table_keeps next) tables && names_ascend tables

abbrev pub fields_keep : Record → Bool
fields_keep r = marks_keep r && snapshot_keeps r.snapshot && nat_le r.history.level LEVELS_MAX && tables_keep r.next_table r.tables

-- each field keeps its rules, and a number stands once
pub record Keeps (r : Record) : Type 0 where
  pub fields : fields_keep r ≡ true
  pub once : NumbersOnce r.tables

-- an image of this count and text is the record's
pub record Says (count : ℕ) (text : List ℕ) (r : Record) : Type 0 where
  pub admitted : IsRecord r
  pub count_is : count ≡ length r.tables
  pub text_is : text ≡ record_body r
