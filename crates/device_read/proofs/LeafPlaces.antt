-- The leaves of one table of a reader.
use Rattle.std.proofs.Common.{◌≡◌, ℕ, zero, suc, ◌<◌, ◌≤◌, List, [], ◌∷◌, length, take, drop, get_or, map, Option, Some, None, refl, sym, ap, subst, ◌∙◌, inl, inr, arith}
use Rattle.std.specs.Prelude.{slice_get}
use Rattle.device_layout.specs.declared.addr.Addr.{Addr}
use Rattle.kv_model.specs.History.{Table}
use Rattle.stamp.specs.declared.version.Version.{Version}
use Rattle.row_page.specs.Changes.{PageChange}
use Rattle.row_page.specs.Rows.{Row}
use Rattle.leaf_rows.specs.declared.marks.Marks.{Marks}
use Rattle.leaf_rows.specs.Contents.{seen_rows}
use Rattle.stored.specs.HistoryTree.{HistoryRecord}
use Rattle.stored.specs.TableTree.{Entry, Climbs, first_key}
use Rattle.stored.specs.Records.{TableRoot}
use Rattle.stored.specs.Stored.{tables_of}
use Rattle.device_leaf.specs.Leaves.{LeafIs}
use Rattle.tree_open.specs.declared.place.Upper.{Upper}
use Rattle.tree_open.specs.Trees.{InnerIs}
use Rattle.recover_open.specs.Bare.{AllClimb, HaveUppers}
use Rattle.recover_open.specs.Damage.{EntrySpoils, IsAmong}
use Rattle.recover_open.specs.Leaves.{AreLeaves}
use Rattle.recover_open.proofs.OneLeaf.{one_leaf}
use Rattle.leaf_frame.specs.Leaf.{HeldLeaf}
use Rattle.device_read.specs.declared.lookup.LastLeaf.{LastLeaf}
use Rattle.device_read.specs.Lookups.{KeepsLast}
use Rattle.device_read.specs.Leaves.{HasPage}
use Rattle.device_read.specs.Merging.{merged}
use Rattle.device_read.specs.Newest.{of_leaf, rows_of}
use Rattle.device_read.specs.Readers.{Held, HasPages, IsReaderOf, entries_at, entries_in, least_of, low_at, newest_on, number_at, number_in}
use Rattle.device_read.specs.Refusals.{LeafIsAtFault}
use Rattle.device_read.specs.Steps.{IsLeafAt, IsValueOf, LeafSpoilsAt}
use Rattle.device_read.proofs.Lists.{mapped_at, split_at}

-- ---- the entries at a place

pub entries_some : (uppers : List Upper) (place : ℕ) (u : Upper) → place < length uppers → u ≡ get_or uppers place u → entries_in uppers place ≡ u.entries.items
entries_some [] place u lt is = absurd (omega (arith, lt))
entries_some (x ∷ uppers) zero u lt is = ap (λ (y : Upper). y.entries.items) (sym is)
entries_some (x ∷ uppers) (suc place) u lt is = entries_some uppers place u (omega (arith, lt)) is

pub entries_none : (uppers : List Upper) (place : ℕ) → length uppers ≤ place → entries_in uppers place ≡ []
entries_none [] place le = refl
entries_none (x ∷ uppers) zero le = absurd (omega (arith, le))
entries_none (x ∷ uppers) (suc place) le = entries_none uppers place (omega (arith, le))

-- the number of the table there
pub number_some : (tables : List TableRoot) (place : ℕ) (t : Table) → slice_get (tables_of tables) place ≡ Some t → number_in tables place ≡ t.number
number_some [] place t is = absurd cc
number_some (x ∷ tables) zero t is = let same : x.table ≡ t = cc in ap (λ (y : Table). y.number) same
number_some (x ∷ tables) (suc place) t is = number_some tables place t is

pub number_none : (tables : List TableRoot) (place : ℕ) → slice_get (tables_of tables) place ≡ None → number_in tables place ≡ 0
number_none [] place is = refl
number_none (x ∷ tables) zero is = absurd cc
number_none (x ∷ tables) (suc place) is = number_none tables place is

-- the least key of a leaf
least_here : (es : List Entry) (i : ℕ) (e : Entry) → i < length es → e ≡ get_or es i e → e.key ≡ least_of (drop i es)
least_here [] i e lt is = absurd (omega (arith, lt))
least_here (x ∷ es) zero e lt is = ap (λ (y : Entry). y.key) is
least_here (x ∷ es) (suc i) e lt is = least_here es i e (omega (arith, lt)) is

pub low_first : (es : List Entry) (i : ℕ) → i ≡ 0 → [] ≡ low_at es i
low_first es zero is = refl
low_first es (suc i) is = absurd cc

pub low_here : (es : List Entry) (i : ℕ) (e : Entry) → (i ≡ 0 → ⊥) → i < length es → e ≡ get_or es i e → e.key ≡ low_at es i
low_here es zero e some lt is = absurd (some refl)
low_here es (suc i) e some lt is = least_here es (suc i) e lt is

pub entries_climb : (uppers : List Upper) (place : ℕ) → AllClimb uppers → Climbs (entries_in uppers place)
entries_climb [] place all = tt
entries_climb (u ∷ uppers) zero all = all.0
entries_climb (u ∷ uppers) (suc place) all = entries_climb uppers place all.1

-- ---- a leaf that is there

leaf_rows_at : (bytes : List ℕ) (es : List Entry) (leaves : List (List Row)) (i : ℕ) (e : Entry) (rows : List Row) → AreLeaves bytes es None leaves → slice_get es i ≡ Some e → LeafIs bytes e.link rows → slice_get leaves i ≡ Some rows
leaf_rows_at bytes [] leaves i e rows are at leaf = absurd cc
leaf_rows_at bytes (x ∷ es) [] i e rows are at leaf = absurd are
leaf_rows_at bytes (x ∷ es) (own ∷ leaves) zero e rows are at leaf =
    let same : x ≡ e = cc in
    ap Some (one_leaf bytes e.link own rows (subst (λ (y : Entry). LeafIs bytes y.link own) same are.0.leaf) leaf)
leaf_rows_at bytes (x ∷ es) (own ∷ leaves) (suc i) e rows are at leaf = leaf_rows_at bytes es leaves i e rows are.1 at leaf

-- what was loaded of it is the page at its place
pub page_at : (bytes : List ℕ) (es : List Entry) (leaves : List (List Row)) (i : ℕ) (m : Marks) (ids : List ℕ) (leaf : HeldLeaf) → AreLeaves bytes es None leaves → IsLeafAt bytes es i m ids leaf → slice_get (map (seen_rows m ids) leaves) i ≡ Some leaf.page
page_at bytes es leaves i m ids leaf are at =
    mapped_at (seen_rows m ids) leaves i at.loaded.rows (leaf_rows_at bytes es leaves i at.entry at.loaded.rows are at.is at.loaded.under.leaf)
    ∙ ap (λ (x : HeldLeaf). Some x.page) (sym at.loaded.is)

-- the device has a leaf for each entry
pub leaf_there : (bytes : List ℕ) (es : List Entry) (leaves : List (List Row)) (i : ℕ) → AreLeaves bytes es None leaves → i < length es → (rows : List Row) × (slice_get leaves i ≡ Some rows)
leaf_there bytes [] leaves i are lt = absurd (omega (arith, lt))
leaf_there bytes (e ∷ es) [] i are lt = absurd are
leaf_there bytes (e ∷ es) (rows ∷ leaves) zero are lt = (rows, refl)
leaf_there bytes (e ∷ es) (rows ∷ leaves) (suc i) are lt = leaf_there bytes es leaves i are.1 (omega (arith, lt))

-- the page that an opening makes of it is that at its place
pub held_page_at : (bytes : List ℕ) (h : Held) (place : ℕ) (pages : List (List Row)) (i : ℕ) (page : List Row) → HasPages bytes h place pages → HasPage bytes h place i page → slice_get pages i ≡ Some page
held_page_at bytes h place pages i page has (leaf, at, is) =
    has.kept i at.loaded.rows (leaf_rows_at bytes (entries_at h place) has.leaves i at.entry at.loaded.rows has.are at.is at.loaded.under.leaf)
    ∙ ap (λ (x : HeldLeaf). Some (merged x.page (rows_of (newest_on h place i)))) (sym at.loaded.is)
    ∙ ap (λ (l : List Row). Some l) (sym is)

-- ---- a leaf at fault

-- the table of a place has these entries
owner : (bytes : List ℕ) (tables : List TableRoot) (uppers : List Upper) (place i : ℕ) (e : Entry) → HaveUppers bytes tables uppers → slice_get (entries_in uppers place) i ≡ Some e → (t : TableRoot) × IsAmong tables t × ((addrs : List Addr) × InnerIs bytes t.root (entries_in uppers place) addrs)
owner bytes tables [] place i e have at = absurd cc
owner bytes [] (u ∷ uppers) place i e have at = absurd have
owner bytes (t ∷ tables) (u ∷ uppers) zero i e have at = (t, (0, omega arith, refl), (u.addrs.items, have.0))
owner bytes (t ∷ tables) (u ∷ uppers) (suc place) i e have at =
    let there = owner bytes tables uppers place i e have.1 at in
    (there.0, (suc there.1.0, omega (arith, there.1.1), there.1.2), there.2)

pub at_fault : (bytes : List ℕ) (h : Held) (place i at want found : ℕ) → IsReaderOf bytes h → LeafSpoilsAt bytes (entries_at h place) i at want found → LeafIsAtFault bytes at want found
at_fault bytes h place i at want found (inl (blank, none)) spoils =
    let gone : slice_get (entries_in [] place) i ≡ Some spoils.entry = subst (λ (l : List Upper). slice_get (entries_in l place) i ≡ Some spoils.entry) none.1 spoils.is in absurd cc
at_fault bytes h place i at want found (inr (where_it, w, surveyed, same)) spoils =
    let uppers : h.uppers ≡ w.uppers.items = ap (λ (x : Held). x.uppers) same in
    let is : slice_get (entries_in w.uppers.items place) i ≡ Some spoils.entry = subst (λ (l : List Upper). slice_get (entries_in l place) i ≡ Some spoils.entry) uppers spoils.is in
    let there = owner bytes w.record.tables w.uppers.items place i spoils.entry surveyed.have is in
    record {
      slot = surveyed.slot;
      names = w.record;
      there = surveyed.names;
      table = there.0;
      among = there.1;
      es = entries_in w.uppers.items place;
      addrs = there.2.0;
      inner = there.2.1;
      front = take i (entries_in w.uppers.items place);
      entry = spoils.entry;
      others = drop (suc i) (entries_in w.uppers.items place);
      is = split_at (entries_in w.uppers.items place) i spoils.entry is;
      leaf = subst (λ (l : List Upper). EntrySpoils bytes spoils.entry (first_key (drop (suc i) (entries_in l place))) at want found) uppers spoils.spoils;
    }

-- ---- of what a reader has

-- the records that stand in a leaf
pub newest_same : (h : Held) (place i number : ℕ) (read : List Entry) (own : List HistoryRecord) → number ≡ number_at h place → read ≡ entries_at h place → own ≡ h.newest → of_leaf number (low_at read i) (first_key (drop (suc i) read)) own ≡ newest_on h place i
newest_same h place i number read own numbers entries records =
    ap (λ (n : ℕ). of_leaf n (low_at read i) (first_key (drop (suc i) read)) own) numbers
    ∙ ap (λ (l : List Entry). of_leaf (number_at h place) (low_at l i) (first_key (drop (suc i) l)) own) entries
    ∙ ap (λ (l : List HistoryRecord). of_leaf (number_at h place) (low_at (entries_at h place) i) (first_key (drop (suc i) (entries_at h place))) l) records

pub same_leaf : (bytes : List ℕ) (es read : List Entry) (i : ℕ) (m own : Marks) (ids known : List ℕ) (leaf : HeldLeaf) → read ≡ es → own ≡ m → known ≡ ids → IsLeafAt bytes read i own known leaf → IsLeafAt bytes es i m ids leaf
same_leaf bytes es read i m own ids known leaf entries marks listed at =
    subst (λ (l : List Entry). IsLeafAt bytes l i m ids leaf) entries (subst (λ (x : Marks). IsLeafAt bytes read i x ids leaf) marks (subst (λ (l : List ℕ). IsLeafAt bytes read i own l leaf) listed at))

-- of what was loaded, and of what stands in it, the page that an opening makes
pub page_there : (bytes : List ℕ) (h : Held) (place i number : ℕ) (read : List Entry) (own : Marks) (known : List ℕ) (records newest : List HistoryRecord) (leaf : HeldLeaf) → read ≡ entries_at h place → own ≡ h.marks → known ≡ h.ids → number ≡ number_at h place → records ≡ h.newest
    → newest ≡ of_leaf number (low_at read i) (first_key (drop (suc i) read)) records → IsLeafAt bytes read i own known leaf → HasPage bytes h place i (merged leaf.page (rows_of newest))
page_there bytes h place i number read own known records newest leaf entries marks listed numbers same stand at =
    (leaf, same_leaf bytes (entries_at h place) read i h.marks own h.ids known leaf entries marks listed at, ap (λ (l : List HistoryRecord). merged leaf.page (rows_of l)) (stand ∙ newest_same h place i number read records numbers entries same))

pub same_last : (bytes : List ℕ) (es read : List Entry) (m own : Marks) (ids known : List ℕ) (kept last : Option LastLeaf) → read ≡ es → own ≡ m → known ≡ ids → last ≡ kept → KeepsLast bytes es m ids kept → KeepsLast bytes read own known last
same_last bytes es read m own ids known kept last entries marks listed leaf keeps =
    subst (λ (l : List Entry). KeepsLast bytes l own known last) (sym entries) (subst (λ (x : Marks). KeepsLast bytes es x known last) (sym marks) (subst (λ (l : List ℕ). KeepsLast bytes es m l last) (sym listed) (subst (λ (o : Option LastLeaf). KeepsLast bytes es m ids o) (sym leaf) keeps)))

pub same_value : (bytes : List ℕ) (es read : List Entry) (key : List ℕ) (m own : Marks) (ids known : List ℕ) (newest found : Option (Version PageChange)) (v : Option (List ℕ)) → read ≡ es → own ≡ m → known ≡ ids → found ≡ newest → IsValueOf bytes read key own known found v → IsValueOf bytes es key m ids newest v
same_value bytes es read key m own ids known newest found v entries marks listed same is =
    subst (λ (l : List Entry). IsValueOf bytes l key m ids newest v) entries
    (subst (λ (x : Marks). IsValueOf bytes read key x ids newest v) marks
    (subst (λ (l : List ℕ). IsValueOf bytes read key own l newest v) listed (subst (λ (o : Option (Version PageChange)). IsValueOf bytes read key own known o v) same is)))
