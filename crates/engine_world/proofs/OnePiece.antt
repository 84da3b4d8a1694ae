-- One piece of the frames changes, and the others stay.
use Rattle.std.proofs.Common.{◌≡◌, ◌≢◌, ◌≤◌, ℕ, zero, suc, refl, ap, sym, ◌∙◌, Bool, true, List, [], ◌∷◌, ◌++◌, length, inl, inr, subst}
use Rattle.std.specs.Prelude.{Option, Some, None, ◌==◌, reverse, slice_get, slice_set, option_and_then}
use Rattle.std.specs.List.{Contains, list_any}
use Rattle.std.proofs.lemmas.Bool.{cases_eq, eq-eqb, or_left, or_right, cases_Bool}
use Rattle.std.proofs.lemmas.Option.{same_Some}
use Rattle.item.specs.declared.Change.{Change}
use Rattle.stamp.specs.declared.Name.{Name}
use Rattle.stamp.specs.declared.Version.{Version}
use Rattle.kv_model.specs.Holds.{Member}
use Rattle.kv_model.specs.History.{Table, tables, has_table}
use Rattle.kv_model.specs.Machine.{Machine, Transaction, of_some, transaction_of, name_of}
use Rattle.kv_model.specs.Valid.{Valid}
use Rattle.reconcile.specs.Shows.{shown_at}
use Rattle.tree_dir.specs.declared.leaf.Framed.{Framed}
use Rattle.tree_dir.specs.declared.leaf.Leaf.{Leaf}
use Rattle.tree_dir.specs.Leaves.{Directory, IsDirectory, leaf_under}
use Rattle.update_chain.specs.declared.update.Update.{Update}
use Rattle.update_chain.specs.EventLaws.{StandsFor}
use Rattle.leaf_chains.specs.declared.slot.KeyChain.{KeyChain}
use Rattle.leaf_chains.specs.Slots.{chain_at, slot_of}
use Rattle.catalog.proofs.Turning.{turn_one}
use Rattle.call_steps.specs.declared.frame.Frame.{Frame}
use Rattle.call_steps.specs.declared.frame.FramePiece.{FramePiece}
use Rattle.call_steps.specs.declared.written.WrittenKey.{WrittenKey}
use Rattle.row_page.specs.Rows.{Row}
use Rattle.engine_world.specs.Leaves.{IsLaid, LeafInFrame, LeafStands, IsSlotOf, frame_in, generation_at, slots_in, table_at}
use Rattle.engine_world.specs.Worlds.{Records}
use Rattle.engine_world.proofs.Beside.{SlotsStay, BringsOnly, OthersUpdates}
use Rattle.engine_world.proofs.Homes.{LeavesStand, one-leaf}
use Rattle.engine_world.proofs.Moves.{get-set-same, get-set-other}

-- ---- lists

pub set-same : {A : Type 0} (xs : List A) (i : ℕ) (x : A) → slice_get xs i ≡ Some x → slice_set xs i x ≡ xs
set-same [] i x at = refl
set-same (y ∷ ys) zero x at = let same : y ≡ x = cc in ap (λ z. z ∷ ys) (sym same)
set-same (y ∷ ys) (suc i) x at = ap (λ l. y ∷ l) (set-same ys i x at)

-- ---- pieces

abbrev pub slots_of : FramePiece → List KeyChain
slots_of p = of_some [] (λ (f : Frame). f.leaf.chains) p.frame

abbrev pub table_of : FramePiece → ℕ
table_of p = of_some 0 (λ (f : Frame). f.table) p.frame

module _ (pieces : List FramePiece) (frame : ℕ) (p : FramePiece) where
  pub frame-there : slice_get pieces frame ≡ Some p → frame_in pieces frame ≡ p.frame
  frame-there at = ap (λ o. option_and_then (λ (q : FramePiece). q.frame) o) at

  pub slots-there : slice_get pieces frame ≡ Some p → slots_in pieces frame ≡ slots_of p
  slots-there at = ap (λ o. of_some [] (λ (f : Frame). f.leaf.chains) o) (frame-there at)

  pub table-there-at : slice_get pieces frame ≡ Some p → table_at pieces frame ≡ table_of p
  table-there-at at = ap (λ o. of_some 0 (λ (f : Frame). f.table) o) (frame-there at)

-- a piece has this frame, which stands for the leaf
pub record IsNow (next : Machine) (shelf : ℕ → List Row) (leaves : List Leaf) (home : Leaf) (p : FramePiece) (f : Frame) : Type 0 where
  pub is : p.frame ≡ Some f
  pub table : f.table ≡ home.table
  pub id : f.id ≡ home.id
  pub keys : (key : List ℕ) → leaf_under home.table key leaves ≡ Some home → StandsFor next home.table key (chain_at key f.leaf.chains) (shown_at key f.leaf.page) []
  pub bare : (key : List ℕ) → leaf_under home.table key leaves ≢ Some home → (chain_at key f.leaf.chains ≡ []) × (shown_at key f.leaf.page ≡ None)
  pub lies : 1 ≤ length f.leaf.page → f.leaf.page ≡ shelf home.id

module _ (pieces : List FramePiece) (frame : ℕ) (p p' : FramePiece) (at : slice_get pieces frame ≡ Some p) where
  pub frame-set : frame_in (slice_set pieces frame p') frame ≡ p'.frame
  frame-set = frame-there (slice_set pieces frame p') frame p' (get-set-same pieces frame p p' at)

  pub slots-set : slots_in (slice_set pieces frame p') frame ≡ slots_of p'
  slots-set = slots-there (slice_set pieces frame p') frame p' (get-set-same pieces frame p p' at)

  pub frame-other : (place : ℕ) → place ≢ frame → frame_in (slice_set pieces frame p') place ≡ frame_in pieces place
  frame-other place other = ap (λ o. option_and_then (λ (q : FramePiece). q.frame) o) (get-set-other pieces frame place p' other)

  pub slots-other : (place : ℕ) → place ≢ frame → slots_in (slice_set pieces frame p') place ≡ slots_in pieces place
  slots-other place other = ap (λ o. of_some [] (λ (f : Frame). f.leaf.chains) o) (frame-other place other)

  pub generation-set : generation_at (slice_set pieces frame p') frame ≡ p'.generation
  generation-set = ap (of_some 0 (λ (q : FramePiece). q.generation)) (get-set-same pieces frame p p' at)

  pub generation-other : (place : ℕ) → place ≢ frame → generation_at (slice_set pieces frame p') place ≡ generation_at pieces place
  generation-other place other = ap (of_some 0 (λ (q : FramePiece). q.generation)) (get-set-other pieces frame place p' other)

  generations-stay : p'.generation ≡ p.generation → (place : ℕ) → generation_at (slice_set pieces frame p') place ≡ generation_at pieces place
  generations-stay same place = elim (cases_eq place frame) [
    | inl here ↦ ap (generation_at (slice_set pieces frame p')) here ∙ (generation-set ∙ (same ∙ (sym (ap (of_some 0 (λ (q : FramePiece). q.generation)) at) ∙ ap (generation_at pieces) (sym here))))
    | inr other ↦ generation-other place other
  ]

  -- the piece stays with its table and generation, and each key of it keeps its slot
  pub slots-stay : p'.generation ≡ p.generation → table_of p' ≡ table_of p → ((key : List ℕ) (i : ℕ) → slot_of key (slots_of p) ≡ Some i → slot_of key (slots_of p') ≡ Some i) → SlotsStay pieces (slice_set pieces frame p')
  slots-stay same table keeps = record { generations = generations-stay same; tables = tables; slots = slots } where
    tables : (place : ℕ) → table_at (slice_set pieces frame p') place ≡ table_at pieces place
    tables place = elim (cases_eq place frame) [
      | inl same ↦ ap (λ j. table_at (slice_set pieces frame p') j) same ∙ (ap (λ o. of_some 0 (λ (f : Frame). f.table) o) frame-set
          ∙ (table ∙ (sym (table-there-at pieces frame p at) ∙ ap (λ j. table_at pieces j) (sym same))))
      | inr other ↦ ap (λ o. of_some 0 (λ (f : Frame). f.table) o) (frame-other place other)
    ]

    here : (place : ℕ) (key : List ℕ) (i : ℕ) → place ≡ frame → slot_of key (slots_in pieces place) ≡ Some i → slot_of key (slots_in (slice_set pieces frame p') place) ≡ Some i
    here place key i same there = ap (λ j. slot_of key (slots_in (slice_set pieces frame p') j)) same ∙ (ap (slot_of key) slots-set
        ∙ keeps key i (ap (slot_of key) (sym (slots-there pieces frame p at)) ∙ (ap (λ j. slot_of key (slots_in pieces j)) (sym same) ∙ there)))

    slots : (place : ℕ) (key : List ℕ) (i : ℕ) → slot_of key (slots_in pieces place) ≡ Some i → slot_of key (slots_in (slice_set pieces frame p') place) ≡ Some i
    slots place key i there = elim (cases_eq place frame) [
      | inl same ↦ here place key i same there
      | inr other ↦ ap (slot_of key) (slots-other place other) ∙ there
    ]

  -- an update of another name was in the piece
  pub brings-only : (name : Name) → ((key : List ℕ) (u : Update) → Member u (chain_at key (slots_of p')) → u.version.window.name ≢ name → Member u (chain_at key (slots_of p))) → BringsOnly name pieces (slice_set pieces frame p')
  brings-only name was place key u there other_name = elim (cases_eq place frame) [
    | inl same ↦ here same
    | inr other ↦ subst (λ l. Member u (chain_at key l)) (slots-other place other) there
  ] where
    here : place ≡ frame → Member u (chain_at key (slots_in pieces place))
    here same = subst (λ l. Member u (chain_at key l)) (sym (slots-there pieces frame p at) ∙ ap (slots_in pieces) (sym same))
        (was key u (subst (λ l. Member u (chain_at key l)) (ap (slots_in (slice_set pieces frame p')) same ∙ slots-set) there) other_name)

  -- a leaf of another frame is where it was
  abbrev laid-other : (states : List ℕ) (l : Leaf) → (x : IsLaid pieces states l) → x.framed.frame ≢ frame → IsLaid (slice_set pieces frame p') states l
  laid-other states l x other = record { framed = x.framed; placed = x.placed; frame = x.frame; there = frame-other x.framed.frame other ∙ x.there; table = x.table; id = x.id; generation = generation-other x.framed.frame other ∙ x.generation; below = x.below; word = x.word }

  here-stands : p'.generation ≡ p.generation → (next : Machine) (shelf : ℕ → List Row) (records : Records) (states : List ℕ) (leaves : List Leaf) (home : Leaf) (f' : Frame) → (x : IsLaid pieces states home) → x.framed.frame ≡ frame → ((key : List ℕ) → records home.id key ≡ []) → IsNow next shelf leaves home p' f'
      → LeafInFrame next shelf records leaves (slice_set pieces frame p') states home
  here-stands aged next shelf records states leaves home f' x same none now = record {
    laid = record {
      framed = x.framed;
      placed = x.placed;
      frame = f';
      there = ap (frame_in (slice_set pieces frame p')) same ∙ (frame-set ∙ now.is);
      table = now.table;
      id = now.id;
      generation = generations-stay aged x.framed.frame ∙ x.generation;
      below = x.below;
      word = x.word;
    };
    keys = now.keys;
    bare = now.bare;
    lies = now.lies;
    none = none;
  }

  -- the leaf in the piece stands, and so do the others
  pub leaves-on : p'.generation ≡ p.generation → (m next : Machine) (shelf : ℕ → List Row) (records : Records) (states : List ℕ) (d : Directory) (home : Leaf) (f' : Frame) → IsDirectory d → LeavesStand m shelf records d.leaves pieces states → Contains d.leaves home → (x : IsLaid pieces states home) → x.framed.frame ≡ frame
      → IsNow next shelf d.leaves home p' f'
      → ((l : Leaf) → Contains d.leaves l → l ≢ home → (key : List ℕ) (chain : List Update) (row : Option (Version Change)) (kept : List (Version Change)) → leaf_under l.table key d.leaves ≡ Some l → StandsFor m l.table key chain row kept → StandsFor next l.table key chain row kept)
      → LeavesStand next shelf records d.leaves (slice_set pieces frame p') states
  leaves-on aged m next shelf records states d home f' is stand home_there x same now elsewhere l there = by (stand l there) where
    framed : (old : LeafInFrame m shelf records d.leaves pieces states l) → LeafInFrame next shelf records d.leaves (slice_set pieces frame p') states l
    framed old = elim (cases_eq old.laid.framed.frame frame) [
      | inl here ↦ subst (λ (n : Leaf). LeafInFrame next shelf records d.leaves (slice_set pieces frame p') states n)
          (its-leaf old here) (here-stands aged next shelf records states d.leaves home f' x same (λ key. ap (λ (n : Leaf). records n.id key) (its-leaf old here) ∙ old.none key) now)
      | inr other ↦ record {
        laid = laid-other states l old.laid other;
        keys = λ key under. elsewhere l there (λ one. other (moved old one)) key (chain_at key old.laid.frame.leaf.chains) (shown_at key old.laid.frame.leaf.page) [] under (old.keys key under);
        bare = old.bare;
        lies = old.lies;
        none = old.none;
      }
    ] where
      its-leaf : (old : LeafInFrame m shelf records d.leaves pieces states l) → old.laid.framed.frame ≡ frame → home ≡ l
      its-leaf old here = one-leaf d pieces states home l is home_there there x old.laid (same ∙ sym here)

      -- one leaf is in one frame
      moved : (old : LeafInFrame m shelf records d.leaves pieces states l) → l ≡ home → old.laid.framed.frame ≡ frame
      moved old one = ap (λ (f : Framed). f.frame) (same_Some old.laid.framed x.framed (sym old.laid.placed ∙ (ap (λ (n : Leaf). n.frame) one ∙ x.placed))) ∙ same

    by : LeafStands m shelf records d.leaves pieces states l → LeafStands next shelf records d.leaves (slice_set pieces frame p') states l
    by (inl old) = inl (framed old)
    by (inr old) = inr (record {
      none = old.none;
      keys = λ key under. elsewhere l there (λ one. let clash : None ≡ Some x.framed = sym old.none ∙ (ap (λ (n : Leaf). n.frame) one ∙ x.placed) in absurd cc) key [] (shown_at key (shelf l.id)) (records l.id key) under (old.keys key under);
      ordered = old.ordered;
      bare = old.bare;
    })

-- a slot that was noted stays that of its key
pub slot-stays : (leaves : List Leaf) (pieces later : List FramePiece) → SlotsStay pieces later → (k : WrittenKey) (table : ℕ) (key : List ℕ) → IsSlotOf leaves pieces k table key → IsSlotOf leaves later k table key
slot-stays leaves pieces later stays k table key s = record { home = s.home; number = stays.tables k.frame ∙ s.number; slot = stays.slots k.frame key k.slot s.slot }

-- ---- names

-- what brings no update of another name brings none of another session's transaction
pub brings-others : (m : Machine) (session : ℕ) (t : Transaction) (pieces later : List FramePiece) → Valid m → transaction_of m session ≡ Some t → BringsOnly (name_of m t) pieces later → OthersUpdates m session pieces later
brings-others m session t pieces later valid there brings r x other there_x drawn place key u member named =
    brings place key u member (λ same. valid.sessions.distinct r session x t there_x there other drawn (ap (λ (n : Name). n.id) (sym named ∙ same)))

-- ---- tables

any-left : (p : Table → Bool) (xs ys : List Table) → list_any p xs ≡ true → list_any p (xs ++ ys) ≡ true
any-left p [] ys is = absurd (cc)
any-left p (x ∷ xs) ys is = elim (cases_Bool (p x)) [ inl one ↦ or_left (p x) (list_any p (xs ++ ys)) one | inr not_it ↦ or_right (p x) (list_any p (xs ++ ys)) (any-left p xs ys (rw not_it at is)) ]

any-right : (p : Table → Bool) (xs ys : List Table) → list_any p ys ≡ true → list_any p (xs ++ ys) ≡ true
any-right p [] ys is = is
any-right p (x ∷ xs) ys is = or_right (p x) (list_any p (xs ++ ys)) (any-right p xs ys is)

has-turned : (known : List Table) (place : ℕ) (t : Table) → slice_get known place ≡ Some t → has_table (reverse known) t.number ≡ true
has-turned [] place t at = absurd (cc)
has-turned (x ∷ later) zero t at = let same : x ≡ t = cc in
    subst (λ l. has_table l t.number ≡ true) (sym (turn_one x later)) (any-right (λ (z : Table). z.number == t.number) (reverse later) (x ∷ []) (or_left (x.number == t.number) (list_any (λ (z : Table). z.number == t.number) []) (eq-eqb x.number t.number (ap (λ (z : Table). z.number) same))))
has-turned (x ∷ later) (suc place) t at =
    subst (λ l. has_table l t.number ≡ true) (sym (turn_one x later)) (any-left (λ (z : Table). z.number == t.number) (reverse later) (x ∷ []) (has-turned later place t at))

-- a table that is known is there
pub table-there : (m : Machine) (known : List Table) (place : ℕ) (t : Table) → reverse known ≡ tables m.history → slice_get known place ≡ Some t → has_table (tables m.history) t.number ≡ true
table-there m known place t made at = subst (λ l. has_table l t.number ≡ true) made (has-turned known place t at)
