-- What a writer of a leaf has written, with one row more and at its end.
use Rattle.std.proofs.Common.{◌≡◌, ℕ, ◌+◌, ◌-◌, ◌<◌, ◌≤◌, List, [], ◌∷◌, ◌++◌, length, drop, replicate, slice_index_or, refl, sym, ap, subst, ◌∙◌, arith}
use Rattle.std.specs.Int.{w8, w16, w32, w64, to_le_bytes}
use Rattle.std.proofs.lemmas.List.{length-append, length-drop, drop-append-le, append-nil}
use Rattle.std.proofs.lemmas.List.Concat.{flat_map-append}
use Rattle.stamp.specs.declared.version.Window.{Window}
use Rattle.le_codec.specs.Fields.{le}
use Rattle.le_codec.specs.Images.{first_format, header, block_size}
use Rattle.row_page.specs.Rows.{Row, cell, cells, lengths_text, window_text, value_of, AreRows, image, IsPage}
use Rattle.row_page.specs.Writing.{Written, Wrote, size_with}
use Rattle.row_page.proofs.Leaves.{length-cell, length-image}

abbrev pub written_as : ℕ → ℕ → List ℕ → Written
written_as limit count bytes = record { limit = limit; count = count; text = drop 16 bytes }

pub size_is : (bytes : List ℕ) (limit count : ℕ) (w : Written) (r : Row) → written_as limit count bytes ≡ w → 16 ≤ length bytes
    → (size_with w r ≡ length bytes + 39 + length r.0 + length (value_of r.1.change)) × (w.limit ≡ limit)
size_is bytes limit count w r e long =
    subst (λ (x : Written). (size_with x r ≡ length bytes + 39 + length r.0 + length (value_of r.1.change)) × (x.limit ≡ limit)) e (omega (arith, length-drop 16 bytes, length-cell r, long), refl)

pub wrote_more : (bytes new : List ℕ) (limit count : ℕ) (w : Written) (r : Row) → written_as limit count bytes ≡ w → 16 ≤ length bytes → new ≡ bytes ++ cell r
    → (rows : List Row) → Wrote w rows → Wrote (written_as limit (count + 1) new) (rows ++ r ∷ [])
wrote_more bytes new limit count w r e long is rows h = record {
  count = omega (arith, ap (λ (x : Written). x.count) e, h.count, length-append rows (r ∷ []));
  text =
      ap (λ (l : List ℕ). drop 16 l) is
      ∙ drop-append-le 16 bytes (cell r) long
      ∙ ap (λ (l : List ℕ). l ++ cell r) (ap (λ (x : Written). x.text) e ∙ h.text)
      ∙ sym (flat_map-append cell rows (r ∷ []) ∙ ap (λ (b : List ℕ). cells rows ++ b) (append-nil (cell r)));
}

pub finished : (bytes out front fill : List ℕ) (limit count used : ℕ) (w : Written) → written_as limit count bytes ≡ w → 16 ≤ length bytes → used ≡ length bytes → front ≡ header 1 first_format count used 0 → fill ≡ replicate (block_size used - used) 0
    → out ≡ (front ++ drop 16 bytes) ++ fill → (rows : List Row) → Wrote w rows → AreRows rows → IsPage out rows
finished bytes out front fill limit count used w e long used_is front_is fill_is is rows h ok =
    let text : drop 16 bytes ≡ cells rows = ap (λ (x : Written). x.text) e ∙ h.text in
    let number : count ≡ length rows = ap (λ (x : Written). x.count) e ∙ h.count in
    let size : used ≡ 16 + length (cells rows) = omega (arith, used_is, long, length-drop 16 bytes, ap length text) in
    record {
      admitted = ok;
      spelled =
          is
          ∙ ap (λ (f : List ℕ). (f ++ drop 16 bytes) ++ fill) front_is
          ∙ ap (λ (n : ℕ). (header 1 first_format n used 0 ++ drop 16 bytes) ++ fill) number
          ∙ ap (λ (n : ℕ). (header 1 first_format (length rows) n 0 ++ drop 16 bytes) ++ fill) size
          ∙ ap (λ (t : List ℕ). (header 1 first_format (length rows) (16 + length (cells rows)) 0 ++ t) ++ fill) text
          ∙ ap (λ (l : List ℕ). image rows ++ l) (fill_is ∙ ap (λ (n : ℕ). replicate (block_size n - n) 0) (size ∙ sym (length-image rows)));
    }

abbrev eight : List ℕ → List ℕ
eight l = slice_index_or l 0 0 ∷ slice_index_or l 1 0 ∷ slice_index_or l 2 0 ∷ slice_index_or l 3 0 ∷ slice_index_or l 4 0 ∷ slice_index_or l 5 0 ∷ slice_index_or l 6 0 ∷ slice_index_or l 7 0 ∷ []

abbrev four : List ℕ → List ℕ
four l = slice_index_or l 0 0 ∷ slice_index_or l 1 0 ∷ slice_index_or l 2 0 ∷ slice_index_or l 3 0 ∷ []

abbrev two : List ℕ → List ℕ
two l = slice_index_or l 0 0 ∷ slice_index_or l 1 0 ∷ []

-- thirty-nine bytes that are the numbers' bytes begin a cell
pub numbers_from : (key code value : ℕ) (w : Window) (k v r i c d : List ℕ) → code < 256 → k ≡ to_le_bytes w16 key → v ≡ to_le_bytes w32 value
    → r ≡ to_le_bytes w64 w.name.run → i ≡ to_le_bytes w64 w.name.id → c ≡ to_le_bytes w64 w.commit → d ≡ to_le_bytes w64 w.durable
    → two k ++ code ∷ four v ++ eight r ++ eight i ++ eight c ++ eight d ≡ lengths_text key code value ++ window_text w
unfolding le
numbers_from key code value w k v r i c d small ek ev er ei ec ed =
    let K : List ℕ = to_le_bytes w16 key in
    let V : List ℕ = to_le_bytes w32 value in
    let R : List ℕ = to_le_bytes w64 w.name.run in
    let I : List ℕ = to_le_bytes w64 w.name.id in
    let C : List ℕ = to_le_bytes w64 w.commit in
    let D : List ℕ = to_le_bytes w64 w.durable in
    let byte : code ∷ [] ≡ to_le_bytes w8 code = ap (λ (n : ℕ). n ∷ []) (omega (arith, small)) in
    ap (λ (l : List ℕ). two l ++ code ∷ four v ++ eight r ++ eight i ++ eight c ++ eight d) ek
    ∙ ap (λ (l : List ℕ). two K ++ code ∷ four l ++ eight r ++ eight i ++ eight c ++ eight d) ev
    ∙ ap (λ (l : List ℕ). two K ++ code ∷ four V ++ eight l ++ eight i ++ eight c ++ eight d) er
    ∙ ap (λ (l : List ℕ). two K ++ code ∷ four V ++ eight R ++ eight l ++ eight c ++ eight d) ei
    ∙ ap (λ (l : List ℕ). two K ++ code ∷ four V ++ eight R ++ eight I ++ eight l ++ eight d) ec
    ∙ ap (λ (l : List ℕ). two K ++ code ∷ four V ++ eight R ++ eight I ++ eight C ++ eight l) ed
    ∙ ap (λ (l : List ℕ). (K ++ l) ++ V ++ R ++ I ++ C ++ D) byte
