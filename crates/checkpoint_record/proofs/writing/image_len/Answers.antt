use Rattle.std.proofs.Common.{◌≡◌, List, length, ap, ◌∙◌, arith}
use Rattle.std.specs.List.{flat_map}
use Rattle.stored.specs.Records.{TableRoot, Record, table_text}
use Rattle.checkpoint_record.proofs.Sizes.{length-image, tables_most}
use Rattle.checkpoint_record.proofs.writing.image_len.Goals as goal

-- the bytes of the tables that were taken from a record
taken : (tables : List TableRoot) (r : Record) → tables ≡ r.tables → length (flat_map table_text tables) ≡ length (flat_map table_text r.tables)
taken tables r is = ap (λ (l : List TableRoot). length (flat_map table_text l)) is

pub tables_len-requires : goal.tables_len-requires
tables_len-requires c = omega (arith, taken c.deref.result.now c.args.record.now (c.deref.ensures.value ∙ ap (λ (r : Record). r.tables) c.record.view_is), tables_most c.args.record.now c.requires)

pub overflow_add-result-3 : goal.overflow_add-result-3
overflow_add-result-3 c =
    omega (arith, c.id_count.ensures, ap (λ (r : Record). length r.snapshot.ids) c.record.view_is, c.requires.snapshot.few, c.tables_len.ensures, taken c.deref.result.now c.args.record.now (c.deref.ensures.value ∙ ap (λ (r : Record). r.tables) c.record.view_is), tables_most c.args.record.now c.requires)

pub returns : goal.returns
returns c = omega (arith, c.id_count.ensures, ap (λ (r : Record). length r.snapshot.ids) c.record.view_is, c.tables_len.ensures, taken c.deref.result.now c.args.record.now (c.deref.ensures.value ∙ ap (λ (r : Record). r.tables) c.record.view_is), length-image c.args.record.now)
