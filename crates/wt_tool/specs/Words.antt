-- What the words of a command mean.
use Rattle.std.specs.Prelude.{◌≡◌, ℕ, if◌then◌else◌, List, take, drop, Option, Some, None, codes}
use Rattle.std.specs.Str.{bytes_eq}
use Rattle.config_text.specs.Items.{NamesFormats}
use Rattle.item.specs.declared.formats.Format.TheVariants.{U}
use Rattle.item.specs.declared.formats.Formats.{Formats}
use Rattle.kv_model.specs.Decisions.{is_name}

-- items that are stored as they are
abbrev pub plain_formats : Formats
plain_formats = record { key = U; value = U }

-- the configuration asks for these formats; without one, keys and values are stored as they are
abbrev pub AsksFor : Option (List ℕ) → Formats → Type 0
AsksFor None formats = formats ≡ plain_formats
AsksFor (Some text) formats = NamesFormats text formats

abbrev pub after_scheme : List ℕ → List ℕ
after_scheme uri = if bytes_eq (take 6 uri) (codes "table:") then drop 6 uri else uri

-- the table that a uri names, where what stands behind the scheme is a name; a name has no colon, so another scheme gives none
abbrev pub name_in : List ℕ → Option (List ℕ)
name_in uri = if is_name (after_scheme uri) then Some (after_scheme uri) else None
