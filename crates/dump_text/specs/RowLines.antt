-- The rows that lines write.
use Rattle.std.specs.Prelude.{◌≡◌, ℕ, List, [], ◌∷◌, Some}
use Rattle.std.specs.Option.{unwrap_or}
use Rattle.dump_text.specs.Items.{item_on}
use Rattle.dump_text.specs.declared.form.Form.{Form}

-- the item that a line writes; an empty one where it writes none
abbrev pub item_at : Form → List ℕ → List ℕ
item_at form line = unwrap_or (item_on form line) []

abbrev pub HasItem : Form → List ℕ → Type 0
HasItem form line = item_on form line ≡ Some (item_at form line)

-- a key and a value for each two lines
abbrev pub rows_in : Form → List (List ℕ) → List (List ℕ × List ℕ)
rows_in form [] = []
rows_in form (key ∷ []) = []
rows_in form (key ∷ (value ∷ lines)) = (item_at form key, item_at form value) ∷ rows_in form lines

-- there is no key without its value, and each line writes an item
abbrev pub AreRowLines : Form → List (List ℕ) → Type 0
AreRowLines form [] = Unit {0}
AreRowLines form (key ∷ []) = ⊥
AreRowLines form (key ∷ (value ∷ lines)) = HasItem form key × HasItem form value × AreRowLines form lines
