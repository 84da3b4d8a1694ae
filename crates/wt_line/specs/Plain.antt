-- Words that are items to every command.
use Rattle.std.specs.Prelude.{◌≡◌, ◌≤◌, ◌<◌, ◌^◌, Bool, true, false, List, [], ◌∷◌, ◌==◌, codes, length}
use Rattle.clap.specs.Walk.{Text}

-- the word's first byte is `-`
abbrev pub begins_with_hyphen : Text → Bool
begins_with_hyphen [] = false
begins_with_hyphen (b ∷ rest) = b == 45

-- the word does not begin with a hyphen
abbrev pub IsPlain : Text → Type 0
IsPlain word = begins_with_hyphen word ≡ false

-- P holds of each word
abbrev pub EachWord : (Text → Type 0) → List Text → Type 0
EachWord P [] = Unit {0}
EachWord P (word ∷ rest) = P word × EachWord P rest

-- none of the words begins with a hyphen
abbrev pub ArePlain : List Text → Type 0
ArePlain words = EachWord IsPlain words

-- a table that does not begin with a hyphen, and one item or more: fewer than 2^64
abbrev pub HasItems : Text → List Text → Type 0
HasItems uri items = IsPlain uri × (1 ≤ length items) × (length items < 2 ^ 64)

-- the same, and none of the items begins with a hyphen
abbrev pub HasPlainItems : Text → List Text → Type 0
HasPlainItems uri items = HasItems uri items × ArePlain items

-- ---- the words of a command

-- `create -c config uri`
abbrev pub create_words : Text → Text → List Text
create_words config uri = codes "create" ∷ codes "-c" ∷ config ∷ uri ∷ []

-- `write uri item ..`, and `write -o uri item ..` where keys may be present
abbrev pub write_words : Bool → Text → List Text → List Text
write_words false uri items = codes "write" ∷ uri ∷ items
write_words true uri items = codes "write" ∷ codes "-o" ∷ uri ∷ items

-- `read uri item ..`
abbrev pub read_words : Text → List Text → List Text
read_words uri items = codes "read" ∷ uri ∷ items

-- `-- item ..`
abbrev pub dashed : List Text → List Text
dashed items = codes "--" ∷ items
