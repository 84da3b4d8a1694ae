-- The tree of a table: inner pages of entries, and leaves of rows.
use Rattle.std.specs.Prelude.{◌≡◌, ℕ, ◌+◌, ◌≤◌, Bool, true, not, IsTrue, List, [], ◌∷◌, ◌++◌, length, map, Option, Some, None}
use Rattle.std.specs.List.{flat_map, AllByRecursion}
use Rattle.std.specs.Int.{w16}
use Rattle.le_codec.specs.Fields.{le}
use Rattle.le_codec.specs.Images.{first_format}
use Rattle.le_codec.specs.Images.{framed}
use Rattle.row_page.specs.Rows.{Row, key_most, is_below, image, AreRows}
use Rattle.device_layout.specs.declared.link.Link.{Link}
use Rattle.stored.specs.Links.{link_text, LinkFits, nowhere, is_nowhere, SaysOf}
use Rattle.stored.specs.Tree.{Kind, Tree}

-- the least key that may stand below, and what leads there
pub record Entry : Type 0 where
  pub key : List ℕ
  pub link : Link

-- 42 bytes and the key
abbrev pub entry_text : Entry → List ℕ
entry_text e = le w16 (length e.key) ++ link_text e.link ++ e.key

abbrev pub inner_image : ℕ → List Entry → List ℕ
inner_image level entries = framed 2 first_format (length entries) level (flat_map entry_text entries)

-- ---- an inner page

pub record EntryFits (e : Entry) : Type 0 where
  pub key : length e.key ≤ key_most
  pub link : LinkFits e.link

-- each entry's key is above the one before
abbrev pub Climbs : List Entry → Type 0
Climbs [] = Unit {0}
Climbs (e ∷ []) = Unit {0}
Climbs (e ∷ f ∷ es) = IsTrue (is_below e.key f.key) × Climbs (f ∷ es)

-- the entries that an inner page of this level can have
pub record AreEntries (level : ℕ) (es : List Entry) : Type 0 where
  pub some : 1 ≤ length es
  pub fit : AllByRecursion (λ (e : Entry). EntryFits e) es
  pub climbs : Climbs es
  pub low : 1 ≤ level
  pub high : level ≤ 60
  pub size : 16 + length (flat_map entry_text es) ≤ 4096

-- ---- between the blocks

abbrev pub first_key : List Entry → Option (List ℕ)
first_key [] = None
first_key (e ∷ es) = Some e.key

abbrev pub ends_below : Option (List ℕ) → List ℕ → Bool
ends_below None key = true
ends_below (Some next) key = is_below key next

-- an inner page begins with its entry's key, and the entry says the greatest of what stands below
pub record Leads (level : ℕ) (e : Entry) (p : List Entry) : Type 0 where
  pub page : AreEntries level p
  pub begins : first_key p ≡ Some e.key
  pub says : SaysOf e.link (map (λ (x : Entry). x.link.greatest) p) (map (λ (x : Entry). x.link.durable) p)

-- a leaf, which is empty where it is stored nowhere, and whose entry says the greatest of what stands in it
pub record Bears (e : Entry) (rows : List Row) : Type 0 where
  pub leaf : AreRows rows
  pub empty : IsTrue (is_nowhere e.link.addr) → (e.link ≡ nowhere) × (rows ≡ [])
  pub says : SaysOf e.link (map (λ (r : Row). r.1.window.name) rows) (map (λ (r : Row). r.1.window.durable) rows)

-- a leaf's keys are from its entry's key up to the next entry's
abbrev pub Stay : List Entry → List (List Row) → Type 0
Stay [] leaves = Unit {0}
Stay (e ∷ es) [] = Unit {0}
Stay (e ∷ es) (rows ∷ leaves) = AllByRecursion (λ (r : Row). IsTrue (not (is_below r.0 e.key)) × IsTrue (ends_below (first_key es) r.0)) rows × Stay es leaves

abbrev pub table_kind : Kind Entry Row
table_kind = record {
  place = λ e. e.link.addr;
  inner = inner_image;
  leaf = image;
  Leads = Leads;
  Bears = Bears;
  Parts = λ es leaves. Climbs es × Stay es leaves;
}

abbrev pub TableTree : Type 0
TableTree = Tree Entry Row

-- a root has no key of its own: any key may stand below it
abbrev pub root_entry : Link → Entry
root_entry root = record { key = []; link = root }
