-- What stands at the front of bytes, and the bytes after it.
use Rattle.std.specs.Prelude.{◌≡◌, ℕ, ◌<◌, List, ◌++◌, length, take, drop, slice_index, Option, Some, None, nat_lt, if◌then◌else◌}
use Rattle.std.specs.Int.{Width, byte_len, from_le_bytes, to_le_bytes}

infixl 10 ◌>>=◌
abbrev pub ◌>>=◌ : {A B : Type 0} → Option A → (A → Option B) → Option B
(Some x) >>= f = f x
None >>= f = None

-- a number, its lowest byte first
unfoldable pub le : Width → ℕ → List ℕ
le w n = to_le_bytes w n

-- A field is a value and the bytes after it. None: there are fewer bytes than the field has.
unfoldable pub number_at : Width → List ℕ → Option (ℕ × List ℕ)
number_at w bytes = if nat_lt (length bytes) (byte_len w) then None else Some (from_le_bytes w (take (byte_len w) bytes), drop (byte_len w) bytes)

unfoldable pub slice_at : ℕ → List ℕ → Option (List ℕ × List ℕ)
slice_at n bytes = if nat_lt (length bytes) n then None else Some (take n bytes, drop n bytes)

-- What a reader gave, seen by view, and what it has left, is what reading gives. (Of a reader after None it says nothing.)
abbrev pub Gives : {X Y : Type 0} → (X → Y) → Option X → List ℕ → Option (Y × List ℕ) → Type 0
Gives view (Some x) left read = read ≡ Some (view x, left)
Gives view None left read = read ≡ None

abbrev pub IsBytes : List ℕ → Type 0
IsBytes bytes = (i : ℕ) → slice_index bytes i < 256

-- what a reader took from the front
pub record Takes (bytes text rest : List ℕ) : Type 0 where
  pub parts : bytes ≡ text ++ rest
  pub rest_fits : IsBytes rest

-- A field has one spelling, and what is spelled is read.
pub record IsField {A : Type 0} (spell : A → List ℕ) (read : List ℕ → Option (A × List ℕ)) (Fits : A → Type 0) : Type 0 where
  pub takes : (bytes : List ℕ) (x : A) (rest : List ℕ) → IsBytes bytes → read bytes ≡ Some (x, rest) → Takes bytes (spell x) rest × Fits x
  pub again : (x : A) (rest : List ℕ) → Fits x → read (spell x ++ rest) ≡ Some (x, rest)

-- a byte string is its own spelling
abbrev pub itself : List ℕ → List ℕ
itself s = s
