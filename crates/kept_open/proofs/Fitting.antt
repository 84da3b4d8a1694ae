-- Records that pass the test fit.
use Rattle.std.specs.Prelude.{◌≡◌, ◌&&◌, ◌^◌, true, List, [], ◌∷◌, length, nat_le, nat_lt, refl}
use Rattle.std.specs.List.{AllByRecursion, list_all}
use Rattle.std.proofs.lemmas.Bool.{and_parts, leb-true, ltb-true}
use Rattle.row_page.specs.Reading.{row_fits, window_fits}
use Rattle.row_page.specs.Rows.{key_most, value_of}
use Rattle.row_page.proofs.Fields.{window_true}
use Rattle.stored.specs.HistoryTree.{HistoryRecord, RecordFits}
use Rattle.kept_open.specs.Keeping.{record_fits}

one_fits : (r : HistoryRecord) → record_fits r ≡ true → RecordFits r
one_fits r is =
    let one = and_parts (row_fits key_most (r.key, r.version)) (nat_lt r.table (2 ^ 32)) is in
    let two = and_parts (nat_le (length r.key) key_most && nat_le (length (value_of r.version.change)) 16384) (window_fits r.version.window) one.0 in
    let three = and_parts (nat_le (length r.key) key_most) (nat_le (length (value_of r.version.change)) 16384) two.0 in
    record { table = ltb-true r.table (2 ^ 32) one.1; row = record { begins = refl; key = leb-true (length r.key) key_most three.0; value = leb-true (length (value_of r.version.change)) 16384 three.1; window = window_true r.version.window two.1 } }

pub pass_fit : (records : List HistoryRecord) → list_all record_fits records ≡ true → AllByRecursion (λ (r : HistoryRecord). RecordFits r) records
pass_fit [] pass = tt
pass_fit (r ∷ records) pass = let both = and_parts (record_fits r) (list_all record_fits records) pass in (one_fits r both.0, pass_fit records both.1)
