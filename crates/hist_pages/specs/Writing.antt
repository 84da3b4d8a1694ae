-- What a writer of a leaf of the history has written.
use Rattle.std.specs.Prelude.{◌≡◌, ℕ, ◌+◌, List, length}
use Rattle.std.specs.List.{flat_map}
use Rattle.stored.specs.HistoryTree.{HistoryRecord, record_text}

pub record Written : Type 0 where
  -- how many records
  pub count : ℕ
  -- the records, one behind another
  pub text : List ℕ

-- these records, in this order
pub record Wrote (w : Written) (records : List HistoryRecord) : Type 0 where
  pub count : w.count ≡ length records
  pub text : w.text ≡ flat_map record_text records

-- the bytes of the image with one record more
abbrev pub size_with : Written → HistoryRecord → ℕ
size_with w r = 16 + length w.text + length (record_text r)
