-- The bytes before the name of a table.
use Rattle.std.proofs.Common.{◌≡◌, ℕ, ◌<◌, List, [], ◌∷◌, ◌++◌, ap, ◌∙◌, arith}
use Rattle.std.specs.Prelude.{slice_index_or}
use Rattle.std.specs.Int.{w8, w32, w64, to_le_bytes}
use Rattle.device_layout.specs.declared.link.Link.{Link}
use Rattle.le_codec.specs.Fields.{le}
use Rattle.stored.specs.Links.{link_text}

abbrev eight : List ℕ → List ℕ
eight l = slice_index_or l 0 0 ∷ slice_index_or l 1 0 ∷ slice_index_or l 2 0 ∷ slice_index_or l 3 0 ∷ slice_index_or l 4 0 ∷ slice_index_or l 5 0 ∷ slice_index_or l 6 0 ∷ slice_index_or l 7 0 ∷ []

abbrev four : List ℕ → List ℕ
four l = slice_index_or l 0 0 ∷ slice_index_or l 1 0 ∷ slice_index_or l 2 0 ∷ slice_index_or l 3 0 ∷ []

-- a byte is its number
byte_is : (n : ℕ) → n < 256 → n ∷ [] ≡ to_le_bytes w8 n
byte_is n small = ap (λ (x : ℕ). x ∷ []) (omega (arith, small))

-- forty-eight bytes that are the numbers' bytes
pub front_from : (number key value level len : ℕ) (k : Link) (n o b s r i d : List ℕ) → key < 256 → value < 256 → level < 256 → len < 256 → n ≡ to_le_bytes w32 number
    → o ≡ to_le_bytes w64 k.addr.offset → b ≡ to_le_bytes w32 k.addr.size → s ≡ to_le_bytes w32 k.addr.sum → r ≡ to_le_bytes w64 k.greatest.run → i ≡ to_le_bytes w64 k.greatest.id → d ≡ to_le_bytes w64 k.durable
    → four n ++ key ∷ value ∷ level ∷ len ∷ eight o ++ four b ++ four s ++ eight r ++ eight i ++ eight d ≡ (le w32 number ++ le w8 key ++ le w8 value ++ le w8 level ++ le w8 len) ++ link_text k
unfolding le
front_from number key value level len k n o b s r i d key_fits value_fits level_fits len_fits en eo eb es er ei ed =
    let N : List ℕ = to_le_bytes w32 number in
    let O : List ℕ = to_le_bytes w64 k.addr.offset in
    let B : List ℕ = to_le_bytes w32 k.addr.size in
    let S : List ℕ = to_le_bytes w32 k.addr.sum in
    let R : List ℕ = to_le_bytes w64 k.greatest.run in
    let I : List ℕ = to_le_bytes w64 k.greatest.id in
    let D : List ℕ = to_le_bytes w64 k.durable in
    ap (λ (l : List ℕ). four l ++ key ∷ value ∷ level ∷ len ∷ eight o ++ four b ++ four s ++ eight r ++ eight i ++ eight d) en
    ∙ ap (λ (l : List ℕ). four N ++ key ∷ value ∷ level ∷ len ∷ eight l ++ four b ++ four s ++ eight r ++ eight i ++ eight d) eo
    ∙ ap (λ (l : List ℕ). four N ++ key ∷ value ∷ level ∷ len ∷ eight O ++ four l ++ four s ++ eight r ++ eight i ++ eight d) eb
    ∙ ap (λ (l : List ℕ). four N ++ key ∷ value ∷ level ∷ len ∷ eight O ++ four B ++ four l ++ eight r ++ eight i ++ eight d) es
    ∙ ap (λ (l : List ℕ). four N ++ key ∷ value ∷ level ∷ len ∷ eight O ++ four B ++ four S ++ eight l ++ eight i ++ eight d) er
    ∙ ap (λ (l : List ℕ). four N ++ key ∷ value ∷ level ∷ len ∷ eight O ++ four B ++ four S ++ eight R ++ eight l ++ eight d) ei
    ∙ ap (λ (l : List ℕ). four N ++ key ∷ value ∷ level ∷ len ∷ eight O ++ four B ++ four S ++ eight R ++ eight I ++ eight l) ed
    ∙ ap (λ (l : List ℕ). (N ++ l ++ (value ∷ []) ++ (level ∷ []) ++ (len ∷ [])) ++ O ++ B ++ S ++ R ++ I ++ D) (byte_is key key_fits)
    ∙ ap (λ (l : List ℕ). (N ++ to_le_bytes w8 key ++ l ++ (level ∷ []) ++ (len ∷ [])) ++ O ++ B ++ S ++ R ++ I ++ D) (byte_is value value_fits)
    ∙ ap (λ (l : List ℕ). (N ++ to_le_bytes w8 key ++ to_le_bytes w8 value ++ l ++ (len ∷ [])) ++ O ++ B ++ S ++ R ++ I ++ D) (byte_is level level_fits)
    ∙ ap (λ (l : List ℕ). (N ++ to_le_bytes w8 key ++ to_le_bytes w8 value ++ to_le_bytes w8 level ++ l) ++ O ++ B ++ S ++ R ++ I ++ D) (byte_is len len_fits)
