-- What the items of a configuration say.
use Rattle.std.specs.Prelude.{◌≡◌, ℕ, List, [], ◌∷◌, Option, Some, None, Result, Ok, Err, map, codes, if◌then◌else◌}
use Rattle.std.specs.Str.{bytes_eq}
use Rattle.item.specs.declared.formats.Format.{Format}
use Rattle.item.specs.declared.formats.Format.TheVariants.{S, U}
use Rattle.item.specs.declared.formats.Formats.{Formats}
use Rattle.wt_code.specs.declared.refusals.Refusal.{Refusal}
use Rattle.wt_code.specs.declared.refusals.Refusal.TheVariants.{Invalid}
use Rattle.wt_code.specs.declared.refusals.Invalid.TheVariants.{BadConfig}
use Rattle.config_text.specs.declared.config_item.ConfigItem.{ConfigItem}
use Rattle.config_text.specs.Grammar.{Pair, AreItems}

-- an item's bytes
abbrev pub pair_of : ConfigItem → Pair
pair_of item = (item.key.now, item.value.now)

abbrev pub pairs_of : List ConfigItem → List Pair
pairs_of items = map pair_of items

-- the first of two that is there
abbrev pub first_there : Option (List ℕ) → Option (List ℕ) → Option (List ℕ)
first_there (Some value) other = Some value
first_there None other = other

-- the value of the last item that has the key
abbrev pub last_value : List ℕ → List Pair → Option (List ℕ)
last_value key [] = None
last_value key (item ∷ items) = first_there (last_value key items) (if bytes_eq item.0 key then Some item.1 else None)

-- a format as it is written
abbrev pub format_in : List ℕ → Option Format
format_in word = if bytes_eq word (codes "S") then Some S else (if bytes_eq word (codes "u") then Some U else None)

-- the format that a value names; bytes as they are, where there is no value
abbrev pub format_named : Option (List ℕ) → Option Format
format_named None = Some U
format_named (Some word) = format_in word

abbrev pub both_formats : Option Format → Option Format → Result Formats Refusal
both_formats (Some key) (Some value) = Ok (record { key = key; value = value })
both_formats (Some key) None = Err (Invalid BadConfig)
both_formats None value = Err (Invalid BadConfig)

-- the formats of keys and of values that items name
abbrev pub formats_of : List Pair → Result Formats Refusal
formats_of items = both_formats (format_named (last_value (codes "key_format") items)) (format_named (last_value (codes "value_format") items))

-- a configuration's text names these formats
abbrev pub NamesFormats : List ℕ → Formats → Type 0
NamesFormats text formats = (items : List Pair) × AreItems items text × (formats_of items ≡ Ok formats)
