-- Blocks that are captured as they stand.
use Rattle.std.specs.Prelude.{◌≡◌, ℕ, zero, suc, ◌+◌, ◌<◌, List, [], ◌∷◌, length, take, Option, refl}
use Rattle.std.specs.List.{AllByRecursion}
use Rattle.std.proofs.Common.{inl, sym, ◌∙◌, ap, subst, arith, get_or}
use Rattle.std.proofs.lemmas.List.{take_more}
use Rattle.std.proofs.lemmas.List.Sums.{fold-append}
use Rattle.disk_model.specs.Crash.{Looked}
use Rattle.disk_model.specs.declared.disk.Disk.{Ghosts}
use Rattle.disk_model.proofs.Crash.{keeps_refl, started}
use Rattle.extent_list.specs.Space.{Space}
use Rattle.block_mgr.specs.declared.cell.Cell.{Cell}
use Rattle.block_mgr.specs.Blocks.{Books, Has, HasLive, unit_of}
use Rattle.block_mgr.specs.Cells.{AreUnits, captured, cell_at}
use Rattle.device_layout.specs.declared.addr.Addr.{Addr}
use Rattle.stored.specs.Blocks.{Block, Holds, IsAddressed}
use Rattle.stored.specs.Stored.{Stored}
use Rattle.stored.specs.TableTree.{Entry}
use Rattle.checkpoint_core.specs.Stands.{AreInUse, blocks_of}
use Rattle.checkpoint_core.specs.Finishes.{IsOld}
use Rattle.tree_write.specs.Captures.{Captures, MayWrite, places_of}
use Rattle.tree_write.specs.Drafts.{addrs_to}
use Rattle.tree_write.specs.Keeps.{AreLive, KeepsAll, captured_all}
use Rattle.tree_write.proofs.Joining.{captures_join}
use Rattle.tree_write.proofs.OneBlock.{captures_kept, live_captured}

pub looked_same : {D : Type 0} (g : Ghosts D) (d : D) → Looked g d d
looked_same g d = record { same = refl; content = refl; images = λ c left. left; capacity = refl; count = omega arith; later = omega arith; since = λ t c le left. left }

-- what the live tree has it has after one more capture
pub all_live_captured : (cells : List Cell) (u : ℕ) (addrs : List Addr) → AreLive cells addrs → AreLive (captured cells u) addrs
all_live_captured cells u [] live = tt
all_live_captured cells u (a ∷ addrs) live = (live_captured cells u a.offset a.size live.0, all_live_captured cells u addrs live.1)

abbrev with_one : Books → Addr → Books
with_one books a = record { cells = captured books.cells (unit_of a.offset); space = books.space; is_synced = books.is_synced; is_held = books.is_held }

module _ {D : Type 0} (g : Ghosts D) (old : Option Stored) (first : Books) (d : D) (only : (c : List ℕ) → g.left_since d (g.moment d) c → g.may_leave d c) where
  -- books with the same cells and the same units
  same_books : (books books' : Books) → MayWrite (g.seen d) (g.may_leave d) books old → books'.cells ≡ books.cells → books'.space ≡ books.space → books'.is_synced ≡ books.is_synced → Captures g old first [] [] books books' d d
  same_books books books' may cells space synced = record {
    may = record {
      stands = record {
        seen_has = may.stands.seen_has;
        images_have = λ is. may.stands.images_have (sym synced ∙ is);
        in_use = subst (λ (l : List Cell). AreInUse l (blocks_of old)) (sym cells) may.stands.in_use;
      };
      units = subst (λ (s : Space). AreUnits books'.cells s) (sym space) (subst (λ (l : List Cell). AreUnits l books.space) (sym cells) may.units);
      unnamed = λ u. ap (λ (l : List Cell). (cell_at l u).names) cells ∙ may.unnamed u;
    };
    left = started g d (IsOld (g.may_leave d) old) (λ c left. inl (only c left));
    images = λ c left. inl left;
    addressed = tt;
    holds = tt;
    in_use = tt;
    each = tt;
    once = tt;
    cells = λ u. ap (λ (l : List Cell). cell_at l u) cells;
    used = λ at n has. subst (λ (l : List Cell). Has l at n) (sym cells) has;
    live = λ at n has. subst (λ (l : List Cell). HasLive l at n) (sym cells) has;
    keeps = keeps_refl (Has books.cells) (g.seen d);
    places = space;
  }

  -- the blocks that are kept are captured
  pub keeps_capture : (blocks : List Block) (books books' : Books) → MayWrite (g.seen d) (g.may_leave d) books old → KeepsAll books books' (places_of blocks) → AllByRecursion (λ (b : Block). IsAddressed b) blocks → Holds (g.seen d) blocks
      → AreLive first.cells (places_of blocks) → Captures g old first blocks [] books books' d d
  keeps_capture [] books books' may keeps addressed holds live = same_books books books' may keeps.cells keeps.space keeps.synced
  keeps_capture (b ∷ blocks) books books' may keeps addressed holds live = captures_join g old first (b ∷ []) blocks [] [] books (with_one books b.place) books' d d d refl one
      (keeps_capture blocks (with_one books b.place) books' one.may (record { live = all_live_captured books.cells (unit_of b.place.offset) (places_of blocks) keeps.live.1; cells = keeps.cells; space = keeps.space; synced = keeps.synced }) addressed.1 holds.1 live.1)
    where
      one : Captures g old first (b ∷ []) [] books (with_one books b.place) d d
      one = captures_kept g old first books (with_one books b.place) b d d (looked_same g d) only may addressed.0 holds.0 keeps.live.0 live.0 refl refl refl

-- ---- the walk over the blocks

pub live_at : (cells : List Cell) (addrs : List Addr) (i : ℕ) (d : Addr) → AreLive cells addrs → i < length addrs → HasLive cells (get_or addrs i d).offset (get_or addrs i d).size
live_at cells [] i d live lt = absurd (omega (arith, lt))
live_at cells (x ∷ addrs) zero d live lt = live.0
live_at cells (x ∷ addrs) (suc i) d live lt = live_at cells addrs i d live.1 (omega (arith, lt))

pub captured_more : (cells : List Cell) (addrs : List Addr) (i : ℕ) (d : Addr) → i < length addrs → captured_all cells (take (i + 1) addrs) ≡ captured (captured_all cells (take i addrs)) (unit_of (get_or addrs i d).offset)
captured_more cells addrs i d lt = ap (captured_all cells) (take_more addrs i d lt) ∙ fold-append {A = Addr} {B = List Cell} (λ l x. captured l (unit_of x.offset)) cells (take i addrs) (get_or addrs i d ∷ [])

-- ---- the walk over entries

pub addrs_length : (es : List Entry) → length (addrs_to es) ≡ length es
addrs_length [] = refl
addrs_length (e ∷ es) = ap (λ (n : ℕ). suc n) (addrs_length es)

pub addr_at : (es : List Entry) (i : ℕ) (e : Entry) (d : Addr) → i < length es → e ≡ get_or es i e → get_or (addrs_to es) i d ≡ e.link.addr
addr_at [] i e d lt is = absurd (omega (arith, lt))
addr_at (x ∷ es) zero e d lt is = ap (λ (y : Entry). y.link.addr) (sym is)
addr_at (x ∷ es) (suc i) e d lt is = addr_at es i e d (omega (arith, lt)) is
