use Rattle.std.proofs.Common.{◌≡◌, ◌∙◌, sym, ℕ, ◌≤◌, Bool, List, length}
use Rattle.std.specs.Prelude.{◌&&◌, nat_lt, nat_le, IsTrue}
use Rattle.std.specs.List.{list_all}
use Rattle.std.proofs.lemmas.Bool.{and_parts, leb-true}
use Rattle.limits.specs.declared.TheConstants.{TABLE_NAME_MAX}
use Rattle.kv_model.specs.Decisions.{is_name, is_name_byte}
use Rattle.device_leaf.proofs.table_name.is_table_name.Goals as goal

-- a name is short
name_short : (name : List ℕ) (b : Bool) → b ≡ is_name name → IsTrue b → length name ≤ 128
name_short name b is h =
    let parts = and_parts (nat_lt 0 (length name)) (nat_le (length name) TABLE_NAME_MAX && list_all is_name_byte name) (sym is ∙ h) in
    leb-true (length name) 128 (and_parts (nat_le (length name) TABLE_NAME_MAX) (list_all is_name_byte name) parts.1).0

pub returns-clause-short : goal.returns-clause-short
returns-clause-short c = name_short c.args.name.now c.is_name.result c.is_name.ensures
