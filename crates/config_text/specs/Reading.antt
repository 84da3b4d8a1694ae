-- What stands at the front of a configuration text.
use Rattle.std.specs.Prelude.{ℕ, suc, Bool, true, false, not, ◌==◌, List, [], ◌∷◌, take, drop, Option, Some, None, option_map, option_and_then, if◌then◌else◌}
use Rattle.std.specs.List.{prefix_len}
use Rattle.config_text.specs.Bytes.{is_bare, is_of_key, is_quotable}
use Rattle.config_text.specs.Grammar.{Pair}

-- whether a text is quoted that began, and the closing brackets that are awaited, the next one first
pub record Nest : Type 0 where
  pub quoted : Bool
  pub awaited : List ℕ

-- a closing bracket, which has to be the next that is awaited
abbrev pub closed_by : List ℕ → ℕ → Option Nest
closed_by [] b = None
closed_by (c ∷ awaited) b = if c == b then Some (record { quoted = false; awaited = awaited }) else None

abbrev pub unquoted_step : List ℕ → ℕ → Option Nest
unquoted_step awaited b =
    if b == 34 then Some (record { quoted = true; awaited = awaited })
    else (if b == 40 then Some (record { quoted = false; awaited = 41 ∷ awaited })
    else (if b == 91 then Some (record { quoted = false; awaited = 93 ∷ awaited })
    else (if b == 41 then closed_by awaited b
    else (if b == 93 then closed_by awaited b
    else Some (record { quoted = false; awaited = awaited })))))

abbrev pub quoted_step : List ℕ → ℕ → Option Nest
quoted_step awaited b = Some (record { quoted = not (b == 34); awaited = awaited })

-- one byte more; none where a closing bracket is not the awaited one
abbrev pub nest_step : Bool → List ℕ → ℕ → Option Nest
nest_step true awaited b = quoted_step awaited b
nest_step false awaited b = unquoted_step awaited b

-- how many bytes stand up to the last bracket that is awaited, with it
abbrev pub closing_len : Bool → List ℕ → List ℕ → Option ℕ
closing_len quoted [] text = Some 0
closing_len quoted (c ∷ awaited) [] = None
closing_len quoted (c ∷ awaited) (b ∷ rest) =
    option_and_then (λ nest. option_map suc (closing_len nest.quoted nest.awaited rest)) (nest_step quoted (c ∷ awaited) b)

-- a value, and what stands behind it
abbrev pub cut_at : List ℕ → ℕ → List ℕ × List ℕ
cut_at text n = (take n text, drop n text)

abbrev pub behind_quote : List ℕ → List ℕ → Option (List ℕ × List ℕ)
behind_quote value [] = None
behind_quote value (quote ∷ rest) = Some (value, rest)

-- a value whose opening quote is read
abbrev pub quoted_value : List ℕ → Option (List ℕ × List ℕ)
quoted_value text = behind_quote (take (prefix_len is_quotable text) text) (drop (prefix_len is_quotable text) text)

abbrev pub bracketed_value : ℕ → List ℕ → ℕ → Option (List ℕ × List ℕ)
bracketed_value opening rest closing = option_map (λ n. cut_at (opening ∷ rest) (suc n)) (closing_len false (closing ∷ []) rest)

abbrev pub bare_value : List ℕ → Option (List ℕ × List ℕ)
bare_value text = Some (cut_at text (prefix_len is_bare text))

abbrev pub value_at : List ℕ → Option (List ℕ × List ℕ)
value_at [] = Some ([], [])
value_at (b ∷ rest) =
    if b == 34 then quoted_value rest
    else (if b == 40 then bracketed_value b rest 41
    else (if b == 91 then bracketed_value b rest 93
    else bare_value (b ∷ rest)))

-- the value behind a key, and what stands behind it
abbrev pub value_behind : List ℕ → Option (List ℕ × List ℕ)
value_behind [] = Some ([], [])
value_behind (b ∷ rest) = if b == 61 then value_at rest else Some ([], b ∷ rest)

abbrev pub is_items_end : List ℕ → Bool
is_items_end [] = true
is_items_end (b ∷ rest) = b == 44

abbrev pub ended : List ℕ → List ℕ × List ℕ → Option (Pair × List ℕ)
ended key found = if is_items_end found.1 then Some ((key, found.0), found.1) else None

abbrev pub keyed : List ℕ → List ℕ → Option (Pair × List ℕ)
keyed [] text = None
keyed (b ∷ key) text = option_and_then (ended (b ∷ key)) (value_behind text)

-- the item at the front of a text, and what stands behind it
abbrev pub item_at : List ℕ → Option (Pair × List ℕ)
item_at text = keyed (take (prefix_len is_of_key text) text) (drop (prefix_len is_of_key text) text)
