-- What a writer of a leaf has written, with one record more and at its end.
use Rattle.std.proofs.Common.{◌≡◌, ℕ, ◌+◌, ◌-◌, ◌≤◌, slice_index_or, append_assoc, List, [], ◌∷◌, ◌++◌, length, drop, replicate, sym, ap, subst, ◌∙◌, arith}
use Rattle.std.specs.List.{flat_map}
use Rattle.std.specs.Int.{w32, to_le_bytes}
use Rattle.le_codec.specs.Fields.{le}
use Rattle.std.proofs.lemmas.List.{length-append, length-drop, drop-append-le, append-nil}
use Rattle.std.proofs.lemmas.List.Concat.{flat_map-append}
use Rattle.le_codec.specs.Images.{first_format, header, block_size, block_of}
use Rattle.le_codec.proofs.Heads.{length-framed}
use Rattle.row_page.specs.Rows.{value_of}
use Rattle.stored.specs.HistoryTree.{HistoryRecord, history_image, record_text, RecordFits}
use Rattle.inner_page.proofs.HistoryLeaves.{length-record}
use Rattle.hist_pages.specs.Leaves.{image_length}
use Rattle.hist_pages.specs.Writing.{Written, Wrote, size_with}

abbrev pub written_as : ℕ → List ℕ → Written
written_as count bytes = record { count = count; text = drop 16 bytes }

pub size_is : (bytes : List ℕ) (count : ℕ) (w : Written) (r : HistoryRecord) → written_as count bytes ≡ w → 16 ≤ length bytes → size_with w r ≡ length bytes + 43 + length r.key + length (value_of r.version.change)
size_is bytes count w r e long =
    subst (λ (x : Written). size_with x r ≡ length bytes + 43 + length r.key + length (value_of r.version.change)) e (omega (arith, length-drop 16 bytes, length-record r, long))

texts_both : (records others : List HistoryRecord) → flat_map record_text (records ++ others) ≡ flat_map record_text records ++ flat_map record_text others
texts_both records others = flat_map-append record_text records others

pub wrote_more : (bytes new : List ℕ) (count : ℕ) (w : Written) (r : HistoryRecord) → written_as count bytes ≡ w → 16 ≤ length bytes → new ≡ bytes ++ record_text r
    → (records : List HistoryRecord) → Wrote w records → Wrote (written_as (count + 1) new) (records ++ r ∷ [])
wrote_more bytes new count w r e long is records h = record {
  count = omega (arith, ap (λ (x : Written). x.count) e, h.count, length-append records (r ∷ []));
  text =
      ap (λ (l : List ℕ). drop 16 l) is
      ∙ drop-append-le 16 bytes (record_text r) long
      ∙ ap (λ (l : List ℕ). l ++ record_text r) (ap (λ (x : Written). x.text) e ∙ h.text)
      ∙ sym (texts_both records (r ∷ []) ∙ ap (λ (b : List ℕ). flat_map record_text records ++ b) (append-nil (record_text r)));
}

pub finished : (bytes out front fill : List ℕ) (count used : ℕ) (w : Written) → written_as count bytes ≡ w → 16 ≤ length bytes → used ≡ length bytes → front ≡ header 3 first_format count used 0 → fill ≡ replicate (block_size used - used) 0
    → out ≡ (front ++ drop 16 bytes) ++ fill → (records : List HistoryRecord) → Wrote w records → out ≡ block_of (history_image records)
finished bytes out front fill count used w e long used_is front_is fill_is is records h =
    let all = flat_map record_text records in
    let text : drop 16 bytes ≡ all = ap (λ (x : Written). x.text) e ∙ h.text in
    let number : count ≡ length records = ap (λ (x : Written). x.count) e ∙ h.count in
    let size : used ≡ 16 + length all = omega (arith, used_is, long, length-drop 16 bytes, ap length text) in
    is
    ∙ ap (λ (f : List ℕ). (f ++ drop 16 bytes) ++ fill) front_is
    ∙ ap (λ (n : ℕ). (header 3 first_format n used 0 ++ drop 16 bytes) ++ fill) number
    ∙ ap (λ (n : ℕ). (header 3 first_format (length records) n 0 ++ drop 16 bytes) ++ fill) size
    ∙ ap (λ (t : List ℕ). (header 3 first_format (length records) (16 + length all) 0 ++ t) ++ fill) text
    ∙ ap (λ (l : List ℕ). history_image records ++ l) (fill_is ∙ ap (λ (n : ℕ). replicate (block_size n - n) 0) (size ∙ sym (length-framed 3 first_format (length records) 0 all)))

-- ---- room

-- any record has room in a leaf of its own
pub first_room : (w : Written) (r : HistoryRecord) → Wrote w [] → RecordFits r → size_with w r ≤ 32768
first_room w r h fits = omega (arith, ap length h.text, length-record r, fits.row.key, fits.row.value)

-- what a writer counts with one record more
pub size_more : (w : Written) (records : List HistoryRecord) (r : HistoryRecord) → Wrote w records → size_with w r ≡ image_length (records ++ r ∷ [])
size_more w records r h =
    omega (arith, ap length h.text, ap length (texts_both records (r ∷ [])), length-append (flat_map record_text records) (flat_map record_text (r ∷ [])), ap length (append-nil (record_text r)))

-- ---- bytes

-- four bytes that are a number's bytes, before others
pub four_from : (number : ℕ) (bytes rest all : List ℕ) → bytes ≡ to_le_bytes w32 number → rest ≡ all
    → slice_index_or bytes 0 0 ∷ slice_index_or bytes 1 0 ∷ slice_index_or bytes 2 0 ∷ slice_index_or bytes 3 0 ∷ rest ≡ le w32 number ++ all
unfolding le
four_from number bytes rest all is same =
    ap (λ (l : List ℕ). slice_index_or l 0 0 ∷ slice_index_or l 1 0 ∷ slice_index_or l 2 0 ∷ slice_index_or l 3 0 ∷ rest) is ∙ ap (λ (l : List ℕ). to_le_bytes w32 number ++ l) same

-- one text behind the other
pub put_is : (out one two three T N K V : List ℕ) → one ≡ out ++ (T ++ N) → two ≡ one ++ K → three ≡ two ++ V → three ≡ out ++ (T ++ ((N ++ K) ++ V))
put_is out one two three T N K V a b c =
    c ∙ ap (λ (l : List ℕ). l ++ V) (b ∙ ap (λ (l : List ℕ). l ++ K) a) ∙ regroup where
      regroup : ((out ++ (T ++ N)) ++ K) ++ V ≡ out ++ (T ++ ((N ++ K) ++ V))
      regroup = simp append_assoc
