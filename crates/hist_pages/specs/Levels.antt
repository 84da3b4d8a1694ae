-- Entries of a level, cut into the inner pages of the level above.
use Rattle.std.specs.Prelude.{◌≡◌, ℕ, ◌+◌, ◌*◌, ◌<◌, ◌≤◌, List, [], ◌∷◌, ◌++◌, length, map, slice_get, Some}
use Rattle.std.specs.List.{flat_map}
use Rattle.row_page.specs.Greatest.{greatest_in, most_in}
use Rattle.stamp.specs.declared.name.Name.{Name}
use Rattle.stored.specs.HistoryTree.{AreHistoryEntries, HistoryEntry, history_entry_text, first_mark, history_inner_image}
use Rattle.hist_pages.specs.declared.page.HistoryPage.{HistoryPage}

abbrev pub greatest_of : List HistoryEntry → Name
greatest_of es = greatest_in (map (λ (e : HistoryEntry). e.link.greatest) es)

abbrev pub durable_of : List HistoryEntry → ℕ
durable_of es = most_in (map (λ (e : HistoryEntry). e.link.durable) es)

-- the length of a page with these entries, in bytes
abbrev pub page_length : List HistoryEntry → ℕ
page_length es = 16 + length (flat_map history_entry_text es)

-- a page spells these entries, of which there are some, and these are their least record, their greatest name and durable stamp
pub record SpellsPage (level : ℕ) (page : HistoryPage) (es : List HistoryEntry) : Type 0 where
  pub admitted : AreHistoryEntries level es
  pub image : page.image.items ≡ history_inner_image level es
  pub least : first_mark es ≡ Some page.least
  pub greatest : page.greatest ≡ greatest_of es
  pub durable : page.durable ≡ durable_of es

-- the first of the others has no room behind these entries
abbrev pub IsFull : List HistoryEntry → List HistoryEntry → Type 0
IsFull es others = (e : HistoryEntry) → slice_get others 0 ≡ Some e → 4096 < page_length (es ++ e ∷ [])

-- the entries begin with those of the first page, which is full, and the others are those of the other pages
pub record Begins (level : ℕ) (page : HistoryPage) (Others : List HistoryEntry → Type 0) (es : List HistoryEntry) : Type 0 where
  pub front : List HistoryEntry
  pub others : List HistoryEntry
  pub spells : SpellsPage level page front
  pub full : IsFull front others
  pub go_on : Others others
  pub whole : es ≡ front ++ others

-- the pages have the entries, one behind the other, each as many as it has room for; no page where there are no entries
abbrev pub AreCut : ℕ → List HistoryPage → List HistoryEntry → Type 0
AreCut level [] es = es ≡ []
AreCut level (page ∷ pages) es = Begins level page (AreCut level pages) es

-- the level above is shorter: but for the last, each page has three entries at least
abbrev pub LevelsShrink : Type 0
LevelsShrink = (level : ℕ) (pages : List HistoryPage) (es : List HistoryEntry) → AreCut level pages es → 3 * length pages ≤ length es + 2
