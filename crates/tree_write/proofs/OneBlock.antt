-- One block that is captured.
use Rattle.std.specs.Prelude.{◌≡◌, ◌⊎◌, ℕ, ◌+◌, ◌*◌, ◌/◌, ◌≤◌, Bool, true, List, [], ◌∷◌, length, Option, Result, Ok, Err, IfOk, refl}
use Rattle.std.proofs.Common.{inl, inr, sym, ◌∙◌, ap, subst, arith}
use Rattle.std.proofs.lemmas.Bool.{cases_eq, cases_lt, false≢true}
use Rattle.std.proofs.lemmas.List.{get_or_past, get_or-set_same, get_or-set_other}
use Rattle.block_sum.specs.Sum.{sum_of}
use Rattle.le_codec.specs.Images.{block_of, block_size, padded}
use Rattle.disk_model.specs.Disk.{put, Torn}
use Rattle.disk_model.specs.Laws.{torn_put}
use Rattle.disk_model.specs.Ranges.{range, range_put_same, length_put}
use Rattle.disk_model.specs.Crash.{Each, Keeps, LeavesOnly, Looked}
use Rattle.disk_model.specs.declared.disk.Disk.{Ghosts}
use Rattle.disk_model.proofs.Crash.{joined, keeps_refl, widened}
use Rattle.extent_list.specs.Space.{Space, IsSpot, Taken, HasNoRoom, end_of}
use Rattle.block_mgr.specs.declared.cell.Cell.{Cell}
use Rattle.block_mgr.specs.Cells.{AreUnits, cell_at, captured, fresh, is_used, nothing}
use Rattle.block_mgr.specs.Blocks.{Books, Has, HasLive, unit_of}
use Rattle.block_mgr.specs.Writes.{Added, FromBase, IsAddress, LeavesWrite}
use Rattle.block_mgr.proofs.HasLemmas.{has_added, has_set, spot_keeps}
use Rattle.block_mgr.proofs.HolderLemmas.{is_there, used_running}
use Rattle.block_mgr.proofs.LiveLemmas.{unit_is}
use Rattle.block_mgr.proofs.UnitLemmas.{live_some, same_block}
use Rattle.block_mgr.proofs.WriteLemmas.{taken_low}
use Rattle.device_layout.specs.declared.addr.Addr.{Addr}
use Rattle.stored.specs.Blocks.{Block, IsAddressed, IsAt}
use Rattle.stored.specs.Stored.{Stored}
use Rattle.wt_code.specs.declared.store_error.StoreError.{StoreError}
use Rattle.wt_code.specs.declared.store_error.StoreError.TheVariants.{NoMemory, NoSpace, Read, Down}
use Rattle.checkpoint_core.specs.Stands.{HasStill, Stands}
use Rattle.checkpoint_core.specs.Finishes.{IsOld}
use Rattle.checkpoint_core.proofs.Capturing.{captured as stands_added, has_new, live_added}
use Rattle.checkpoint_core.proofs.Recording.{image_still, wrote_old}
use Rattle.device_leaf.proofs.Leaves.{length_block}
use Rattle.device_leaf.proofs.Writes.{stands_captured}
use Rattle.tree_write.specs.Captures.{Captures, IsPlaced, IsSafe, MayWrite, with_addr}
use Rattle.tree_write.specs.Steps.{BlockWrites, Fails}
use Rattle.tree_write.proofs.Joining.{left_looked, live_is_used, old_looked, stands_looked, with_far, with_here}

-- ---- cells

live_within : (cells : List Cell) (v : ℕ) → (cell_at cells v).is_live ≡ true → v + 1 ≤ length cells
live_within cells v live = elim (cases_lt v (length cells)) [
  | inl lt ↦ omega (arith, lt)
  | inr past ↦ absurd (false≢true (sym (ap (λ (c : Cell). c.is_live) (get_or_past cells v nothing past)) ∙ live))
]

cell_is : (c : Cell) (n k : ℕ) (l r b : Bool) → c.units ≡ n → c.is_live ≡ l → c.is_running ≡ r → c.is_last ≡ b → c.names ≡ k → c ≡ record { units = n; is_live = l; is_running = r; is_last = b; names = k }
cell_is c n k l r b units live running last names = rw (sym units, sym live, sym running, sym last, sym names) refl

-- a block of the live tree that is captured stays the block that it was
pub units_captured : (books : Books) (u : ℕ) → AreUnits books.cells books.space → (cell_at books.cells u).is_live ≡ true → AreUnits (captured books.cells u) books.space
units_captured books u units live =
    let more : 1 ≤ (cell_at books.cells u).units = live_some books.cells books.space u units live in
    let next : Cell = record (cell_at books.cells u) { is_running = true } in
    same_block books.cells books.space u units (is_there books.cells u more) next refl more (used_running next refl)

pub has_captured : (cells : List Cell) (u at n : ℕ) → Has cells at n → Has (captured cells u) at n
has_captured cells u at n has = has_set (λ (c : Cell). is_used c ≡ true) cells at n u (record (cell_at cells u) { is_running = true }) (λ is. (is.0, used_running (record (cell_at cells u) { is_running = true }) refl)) has

pub live_captured : (cells : List Cell) (u at n : ℕ) → HasLive cells at n → HasLive (captured cells u) at n
live_captured cells u at n has = has_set (λ (c : Cell). c.is_live ≡ true) cells at n u (record (cell_at cells u) { is_running = true }) (λ is. is) has

-- the cells of a block that is captured, where nobody has named one
pub cells_captured : (cells : List Cell) (a : Addr) (u : ℕ) → HasLive cells a.offset a.size → (cell_at cells (unit_of a.offset)).names ≡ 0 → cell_at (captured cells (unit_of a.offset)) u ≡ with_addr u (cell_at cells u) a
cells_captured cells a u (v, at, size, live) unnamed = subst (λ (k : ℕ). (cell_at cells k).names ≡ 0 → cell_at (captured cells k) u ≡ with_addr u (cell_at cells u) a) own (λ none. elim (cases_eq u v) [
  | inr other ↦ get_or-set_other cells v u (record (cell_at cells v) { is_running = true }) nothing other ∙ sym (with_far u (cell_at cells u) a (λ here. other (omega (arith, at, here))))
  | inl same ↦ subst (λ (k : ℕ). cell_at (captured cells v) k ≡ with_addr k (cell_at cells k) a) (sym same) (get_or-set_same cells v (record (cell_at cells v) { is_running = true }) nothing (omega (arith, live_within cells v live)) ∙ (filled none ∙ sym (with_here v (cell_at cells v) a at)))
]) unnamed
  where
    own : v ≡ unit_of a.offset
    own = unit_is a.offset v at

    whole : (cell_at cells v).units ≡ a.size / 4096
    whole = omega (arith, size)

    filled : (cell_at cells v).names ≡ 0 → record (cell_at cells v) { is_running = true } ≡ record { units = a.size / 4096; is_live = true; is_running = true; is_last = (cell_at cells v).is_last; names = 0 }
    filled none = cell_is (record (cell_at cells v) { is_running = true }) (a.size / 4096) 0 true true (cell_at cells v).is_last whole live refl refl none

pub unnamed_with : (u : ℕ) (c : Cell) (a : Addr) → c.names ≡ 0 → (with_addr u c a).names ≡ 0
unnamed_with u c a none = elim (cases_eq a.offset (8192 + 4096 * u)) [ inl at ↦ ap (λ (x : Cell). x.names) (with_here u c a at) | inr far ↦ ap (λ (x : Cell). x.names) (with_far u c a far) ∙ none ]

-- ---- a block that stays

module _ {D : Type 0} (g : Ghosts D) (old : Option Stored) (first books books' : Books) (b : Block) (before after : D) (looked : Looked g before after) (only : (c : List ℕ) → g.left_since before (g.moment before) c → g.may_leave before c)
    (may : MayWrite (g.seen before) (g.may_leave before) books old) (addressed : IsAddressed b) (there : IsAt (g.seen before) b) (live : HasLive books.cells b.place.offset b.place.size) (at_first : HasLive first.cells b.place.offset b.place.size)
    (cells : books'.cells ≡ captured books.cells (unit_of b.place.offset)) (space : books'.space ≡ books.space) (synced : books'.is_synced ≡ books.is_synced) where
  is_live : (cell_at books.cells (unit_of b.place.offset)).is_live ≡ true
  is_live = subst (λ (k : ℕ). (cell_at books.cells k).is_live ≡ true) (unit_is b.place.offset live.0 live.1) live.3

  pointwise : (u : ℕ) → cell_at books'.cells u ≡ with_addr u (cell_at books.cells u) b.place
  pointwise u = ap (λ (l : List Cell). cell_at l u) cells ∙ cells_captured books.cells b.place u live (may.unnamed (unit_of b.place.offset))

  pub captures_kept : Captures g old first (b ∷ []) [] books books' before after
  captures_kept = record {
    may = record {
      stands = stands_looked g old first books' before after looked only (stands_captured (g.seen before) (g.may_leave before) books books' (unit_of b.place.offset) old cells synced may.stands);
      units = subst (λ (s : Space). AreUnits books'.cells s) (sym space) (subst (λ (l : List Cell). AreUnits l books.space) (sym cells) (units_captured books (unit_of b.place.offset) may.units is_live));
      unnamed = λ u. ap (λ (c : Cell). c.names) (pointwise u) ∙ unnamed_with u (cell_at books.cells u) b.place (may.unnamed u);
    };
    left = left_looked g old first books before after looked only;
    images = λ c left. inl (looked.images c left);
    addressed = (addressed, tt);
    holds = (subst (λ (l : List ℕ). IsAt l b) (sym looked.content) there, tt);
    in_use = (subst (λ (l : List Cell). Has l b.place.offset b.place.size) (sym cells) (has_captured books.cells (unit_of b.place.offset) b.place.offset b.place.size (live_is_used books.cells b.place.offset b.place.size live)), tt);
    each = (inr at_first, tt);
    once = (tt, tt);
    cells = pointwise;
    used = λ at n has. subst (λ (l : List Cell). Has l at n) (sym cells) (has_captured books.cells (unit_of b.place.offset) at n has);
    live = λ at n has. subst (λ (l : List Cell). HasLive l at n) (sym cells) (live_captured books.cells (unit_of b.place.offset) at n has);
    keeps = subst (λ (l : List ℕ). Keeps (Has books.cells) (g.seen before) l) (sym looked.content) (keeps_refl (Has books.cells) (g.seen before));
    places = space;
  }

-- ---- failures

module _ {D : Type 0} (g : Ghosts D) (old : Option Stored) (first books : Books) (before mid : D) (looked : Looked g before mid) (only : (c : List ℕ) → g.left_since before (g.moment before) c → g.may_leave before c) where
  pub fails_alone : (known : Type 0) → Fails g old first books books before mid known
  fails_alone known = record { same = refl; left = left_looked g old first books before mid looked only; seen = λ is. looked.content; images = λ is. looked.images }

  pub fails_looked : (books' : Books) (after : D) (known : Type 0) → Fails g old first books books' mid after known → Fails g old first books books' before after known
  fails_looked books' after known fails = record {
    same = fails.same;
    left = joined g before mid after _ _ (left_looked g old first books before mid looked only) fails.left (old_looked g old first books before mid looked only);
    seen = λ is. fails.seen is ∙ looked.content;
    images = λ is c left. looked.images c (fails.images is c left);
  }

-- after a failure nothing more is captured
pub captures_failed : {D : Type 0} (g : Ghosts D) (old : Option Stored) (first books books' : Books) (before after : D) (known : Type 0) → known → MayWrite (g.seen before) (g.may_leave before) books old → Fails g old first books books' before after known
    → Captures g old first [] [] books books' before after
captures_failed g old first books books' before after known is may fails = subst (λ (b : Books). Captures g old first [] [] books b before after) (sym fails.same) (record {
  may = record {
    stands = record {
      seen_has = subst (λ (l : List ℕ). HasStill old l) (sym (fails.seen is)) may.stands.seen_has;
      images_have = λ synced c left. may.stands.images_have synced c (fails.images is c left);
      in_use = may.stands.in_use;
    };
    units = may.units;
    unnamed = may.unnamed;
  };
  left = fails.left;
  images = λ c left. inl (fails.images is c left);
  addressed = tt;
  holds = tt;
  in_use = tt;
  each = tt;
  once = tt;
  cells = λ u. refl;
  used = λ at n has. has;
  live = λ at n has. has;
  keeps = subst (λ (l : List ℕ). Keeps (Has books.cells) (g.seen before) l) (sym (fails.seen is)) (keeps_refl (Has books.cells) (g.seen before));
  places = refl;
})

-- ---- a new block

module _ {D : Type 0} (g : Ghosts D) (old : Option Stored) (first : Books) (image block : List ℕ) (books : Books) (before after : D) (may : MayWrite (g.seen before) (g.may_leave before) books old) (spelled : block ≡ block_of image) (has_bytes : 1 ≤ length image)
    (leaves : LeavesWrite g books (length block) before after) where
  block_length : length block ≡ block_size (length image)
  block_length = ap length spelled ∙ length_block image

  block_some : 1 ≤ length block
  block_some = omega (arith, block_length, has_bytes)

  left_new : LeavesOnly g before after (IsOld (g.may_leave before) old)
  left_new = widened g before after _ _ leaves (wrote_old (g.seen before) (g.may_leave before) books old may.stands may.units (length block) (g.capacity before) block_some)

  pub fails_new : (books' : Books) (e : StoreError) → (e ≡ NoMemory → after ≡ before) → (e ≡ NoSpace → (after ≡ before) × HasNoRoom books.space (length block) (g.capacity before)) → (e ≡ Read → ⊥) → books' ≡ books → BlockWrites g old first books books' before after image (Err e)
  fails_new books' e no_memory no_space no_read same = (
    record {
      same = same;
      left = left_new;
      seen = λ safe. ap g.seen (untouched e no_memory no_space no_read safe);
      images = λ safe c left. subst (λ (d : D). g.may_leave d c) (untouched e no_memory no_space no_read safe) left;
    },
    λ is. subst (λ (k : ℕ). HasNoRoom books.space k (g.capacity before)) block_length (no_space is).1,
  )
    where
      untouched : (e : StoreError) → (e ≡ NoMemory → after ≡ before) → (e ≡ NoSpace → (after ≡ before) × HasNoRoom books.space (length block) (g.capacity before)) → (e ≡ Read → ⊥) → IsSafe e → after ≡ before
      untouched NoMemory memory space read safe = memory refl
      untouched NoSpace memory space read safe = (space refl).0
      untouched Read memory space read safe = absurd (read refl)
      untouched (Down fault) memory space read safe = absurd safe

  module _ (mid books' : Books) (a : Addr) (written : g.seen after ≡ put (g.seen before) a.offset block) (images : Each (g.may_leave after) (FromBase books.is_synced a.offset a.size (g.seen before) (g.may_leave before)))
      (address : IsAddress block a) (taken : Taken books.space mid.space a.size (g.capacity before) a.offset) (added : Added books mid a) (units : AreUnits mid.cells mid.space) (within : end_of books.space ≤ length (g.seen before))
      (cells : books'.cells ≡ captured mid.cells (unit_of a.offset)) (space : books'.space ≡ mid.space) (synced : books'.is_synced ≡ mid.is_synced) where
    abbrev unit : ℕ
    unit = unit_of a.offset

    abbrev seen : List ℕ
    seen = g.seen before

    size : a.size ≡ block_size (length image)
    size = address.size ∙ block_length

    low : a.offset ≤ length seen
    low = omega (arith, within, taken_low books.space mid.space a.size (g.capacity before) a.offset taken)

    spot : IsSpot books.space (length block) (g.capacity before) a.offset
    spot = subst (λ (k : ℕ). IsSpot books.space k (g.capacity before) a.offset) address.size taken.0

    from : (d : List ℕ) → g.may_leave after d → FromBase books.is_synced a.offset (length block) seen (g.may_leave before) d
    from d left = subst (λ (k : ℕ). FromBase books.is_synced a.offset k seen (g.may_leave before) d) address.size (images d left)

    stands_mid : Stands (g.seen after) (g.may_leave after) mid old
    stands_mid = stands_added seen (g.seen after) block (g.may_leave before) (g.may_leave after) books mid (g.capacity before) old a may.stands may.units block_some spot written from added

    is_live_now : (cell_at mid.cells unit).is_live ≡ true
    is_live_now = let live = live_added books mid a added in subst (λ (k : ℕ). (cell_at mid.cells k).is_live ≡ true) (unit_is a.offset live.0 live.1) live.3

    unnamed_mid : (u : ℕ) → (cell_at mid.cells u).names ≡ 0
    unnamed_mid u = elim (cases_eq u added.unit) [
      | inl same ↦ ap (λ (k : ℕ). (cell_at mid.cells k).names) same ∙ ap (λ (c : Cell). c.names) added.put.here
      | inr other ↦ ap (λ (c : Cell). c.names) (added.put.others u other) ∙ may.unnamed u
    ]

    -- but at its own unit, which it overwrites, nothing was added
    over : (u : ℕ) → with_addr u (cell_at mid.cells u) a ≡ with_addr u (cell_at books.cells u) a
    over u = elim (cases_eq u added.unit) [
      | inr other ↦ ap (λ (c : Cell). with_addr u c a) (added.put.others u other)
      | inl same ↦
          let at : a.offset ≡ 8192 + 4096 * u = added.offset ∙ ap (λ (k : ℕ). 8192 + 4096 * k) (sym same) in
          let mine : cell_at mid.cells u ≡ fresh added.units = ap (cell_at mid.cells) same ∙ added.put.here in
          let none : cell_at books.cells u ≡ nothing = ap (cell_at books.cells) same ∙ added.none in
          let filled : Bool → Cell = λ b. record { units = a.size / 4096; is_live = true; is_running = true; is_last = b; names = 0 } in
          with_here u (cell_at mid.cells u) a at ∙ (ap filled (ap (λ (c : Cell). c.is_last) mine ∙ sym (ap (λ (c : Cell). c.is_last) none)) ∙ sym (with_here u (cell_at books.cells u) a at))
    ]

    pointwise_new : (u : ℕ) → cell_at books'.cells u ≡ with_addr u (cell_at books.cells u) a
    pointwise_new u = ap (λ (l : List Cell). cell_at l u) cells ∙ (cells_captured mid.cells a u (live_added books mid a added) (unnamed_mid unit) ∙ over u)

    still : range (g.seen after) a.offset a.size ≡ block
    still = subst (λ (k : ℕ). range (g.seen after) a.offset k ≡ block) (sym address.size) (ap (λ (l : List ℕ). range l a.offset (length block)) written ∙ range_put_same seen block a.offset low)

    padded_is : block ≡ padded image a.size
    padded_is = spelled ∙ ap (λ k. padded image k) (sym size)

    addressed : IsAddressed (record { place = a; image = image })
    addressed = record { low = address.place.behind; unit = address.place.unit; size = size; most = address.place.most; sum = address.sum ∙ ap sum_of padded_is }

    at : IsAt (g.seen after) (record { place = a; image = image })
    at = record { within = omega (arith, ap length written, length_put seen block a.offset low, address.size); is = still ∙ padded_is }

    placed : IsPlaced books a
    placed = record { unit = added.unit; units = added.units; offset = added.offset; size = added.size; none = added.none }

    pub captures_new : BlockWrites g old first books books' before after image (Ok a)
    captures_new = (
      placed,
      record {
        may = record {
          stands = stands_captured (g.seen after) (g.may_leave after) mid books' unit old cells synced stands_mid;
          units = subst (λ (s : Space). AreUnits books'.cells s) (sym space) (subst (λ (l : List Cell). AreUnits l mid.space) (sym cells) (units_captured mid unit units is_live_now));
          unnamed = λ u. ap (λ (c : Cell). c.names) (pointwise_new u) ∙ unnamed_with u (cell_at books.cells u) a (may.unnamed u);
        };
        left = left_new;
        images = λ c left. inr (image_still seen (g.may_leave before) books old may.stands may.units c (length block) (g.capacity before) a.offset block_some spot (from c left));
        addressed = (addressed, tt);
        holds = (at, tt);
        in_use = (subst (λ (l : List Cell). Has l a.offset a.size) (sym cells) (has_captured mid.cells unit a.offset a.size (has_new books mid a added)), tt);
        each = (inl placed, tt);
        once = (tt, tt);
        cells = pointwise_new;
        used = λ at n has. subst (λ (l : List Cell). Has l at n) (sym cells) (has_captured mid.cells unit at n (has_added (λ (c : Cell). is_used c ≡ true) (λ is. false≢true is) books mid a at n added has));
        live = λ at n has. subst (λ (l : List Cell). HasLive l at n) (sym cells) (live_captured mid.cells unit at n (has_added (λ (c : Cell). c.is_live ≡ true) (λ is. false≢true is) books mid a at n added has));
        keeps = spot_keeps books.cells books.space (length block) (g.capacity before) a.offset seen (g.seen after) may.units block_some spot (subst (λ (l : List ℕ). Torn a.offset (length block) seen l) (sym written) (torn_put a.offset block seen));
        places = (mid.space, a.offset, subst (λ (k : ℕ). Taken books.space mid.space k (g.capacity before) a.offset) size taken, space);
      },
    )

-- ---- answers by cases

pub not_space : {P : Type 0} (e : StoreError) → (e ≡ NoMemory) ⊎ ((e ≡ Read) × P) → e ≡ NoSpace → ⊥
not_space e (inl is) space = cc
not_space e (inr (is, failed)) space = cc

pub if_ok_map : {T E : Type 0} {P Q : T → Type 0} (r : Result T E) → IfOk r P → ((x : T) → P x → Q x) → IfOk r Q
if_ok_map (Ok x) is more = more x is
if_ok_map (Err e) is more = tt
