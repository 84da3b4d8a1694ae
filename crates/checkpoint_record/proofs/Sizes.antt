-- How long the texts of a record are.
use Rattle.std.proofs.Common.{◌≡◌, ℕ, ◌+◌, ◌*◌, ◌<◌, ◌≤◌, ◌^◌, List, [], ◌∷◌, length, take, get_or, refl, sym, subst, arith}
use Rattle.std.specs.List.{flat_map, AllByRecursion}
use Rattle.std.specs.Int.{w64}
use Rattle.std.proofs.lemmas.List.{length-append}
use Rattle.std.proofs.lemmas.List.Folds.{length-flat_map-take}
use Rattle.le_codec.specs.Fields.{le}
use Rattle.le_codec.specs.Images.{first_format}
use Rattle.le_codec.proofs.Laws.{length_8, length_16, length_32, length_64}
use Rattle.le_codec.proofs.Heads.{length-framed}
use Rattle.stored.specs.Records.{TableRoot, Record, TableFits, IsRecord, table_text, record_body, record_image}
use Rattle.stored.proofs.Exact.{record_most}
use Rattle.checkpoint_record.proofs.Lists.{all_more}

pub length-table : (t : TableRoot) → length (table_text t) ≡ 48 + length t.table.name
length-table t = simp (length-append, length_8, length_32, length_64) (omega arith)

pub tables_upto : (tables : List TableRoot) (i : ℕ) (t : TableRoot) → i < length tables → t ≡ get_or tables i t → length (flat_map table_text (take i tables)) + length (table_text t) ≤ length (flat_map table_text tables)
tables_upto tables i t lt is = subst (λ (x : TableRoot). length (flat_map table_text (take i tables)) + length (table_text x) ≤ length (flat_map table_text tables)) (sym is) (length-flat_map-take table_text tables i t lt)

pub length-ids : (ids : List ℕ) → length (flat_map (le w64) ids) ≡ 8 * length ids
length-ids [] = refl
length-ids (id ∷ ids) = omega (arith, length-append (le w64 id) (flat_map (le w64) ids), length_64 id, length-ids ids)

pub length-image : (r : Record) → length (record_image r) ≡ 16 + (95 + 8 * length r.snapshot.ids + length (flat_map table_text r.tables))
length-image r =
    let body : length (record_body r) ≡ 95 + length (flat_map (le w64) r.snapshot.ids) + length (flat_map table_text r.tables) = simp (length-append, length_8, length_16, length_32, length_64) (omega arith) in
    omega (arith, length-framed 5 first_format (length r.tables) 0 (record_body r), body, length-ids r.snapshot.ids)

pub image_most : (r : Record) → IsRecord r → length (record_image r) ≤ 2 ^ 18
image_most r ok = omega (arith, length-framed 5 first_format (length r.tables) 0 (record_body r), record_most r ok)

pub tables_most : (r : Record) → IsRecord r → length (flat_map table_text r.tables) ≤ 2 ^ 18
tables_most r ok = omega (arith, length-image r, image_most r ok)

pub names_short : (r : Record) → IsRecord r → AllByRecursion (λ (t : TableRoot). length t.table.name ≤ 128) r.tables
names_short r ok = all_more (λ (t : TableRoot). TableFits r.next_table t) (λ (t : TableRoot). length t.table.name ≤ 128) (λ t fits. fits.name.most) r.tables ok.tables
