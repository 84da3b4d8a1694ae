-- A device has one content, and keeps it while the bytes that it uses stay.
use Rattle.std.proofs.Common.{◌≡◌, ℕ, ◌≤◌, List, [], ◌∷◌, length, Option, Some, None, refl, sym, ap, subst, ◌∙◌, arith, inl, inr}
use Rattle.disk_model.specs.Disk.{Torn}
use Rattle.turtle.specs.Slots.{Chooses}
use Rattle.turtle.proofs.Choice.{chooses_one, chooses_still}
use Rattle.device_layout.specs.Slots.{addr_in}
use Rattle.le_codec.proofs.Laws.{some_is}
use Rattle.kv_model.specs.Content.{Content}
use Rattle.stored.specs.Blocks.{IsAt, Holds, Same, Away}
use Rattle.device_layout.specs.declared.slot.Slot.{Slot}
use Rattle.stored.specs.Tree.{IsTree, tree_blocks}
use Rattle.stored.specs.TableTree.{table_kind, TableTree, root_entry}
use Rattle.stored.specs.HistoryTree.{history_kind, HistoryTree, history_root_entry}
use Rattle.stored.specs.Records.{Record, record_image, TableRoot}
use Rattle.stored.specs.Stored.{Stored, tables_blocks, history_blocks, stored_blocks, AreTrees, SameSlots, IsOn, content_of, IsBlank, Reads}
use Rattle.stored.proofs.Frame.{frame, torn_before, torn_same}
use Rattle.stored.proofs.OneTree.{holds_front, holds_back, same_padded, one_tree}
use Rattle.stored.proofs.Exact.{table_exact, history_exact, record_exact}

-- ---- the frame

pub frame_on : (old new : List ℕ) (s : Stored) → length old ≤ length new → SameSlots old new → Same old new (stored_blocks s) → IsOn old s → IsOn new s
frame_on old new s longer slots same on = record {
  whole = on.whole;
  long = omega (arith, on.long, longer);
  chosen = chooses_still old new (Some s.slot) slots.0 slots.1 on.chosen;
  holds = frame old new (stored_blocks s) longer same on.holds;
}

-- a write behind the slots, away from the blocks, that a crash may cut short
pub torn_on : (at n : ℕ) (old new : List ℕ) (s : Stored) → 8192 ≤ at → Torn at n old new → Away at n (stored_blocks s) → IsOn old s → IsOn new s
torn_on at n old new s high torn away on =
    frame_on old new s torn.no_shorter (torn_before at n old new 0 36 torn (omega (arith, high)) (omega (arith, on.long)), torn_before at n old new 4096 36 torn (omega (arith, high)) (omega (arith, on.long))) (torn_same at n old new (stored_blocks s) torn away on.holds) on

pub frame_blank : (old new : List ℕ) → length old ≤ length new → SameSlots old new → IsBlank old → IsBlank new
frame_blank old new longer slots blank = record { long = omega (arith, blank.long, longer); shut = chooses_still old new None slots.0 slots.1 blank.shut }

pub torn_blank : (at n : ℕ) (old new : List ℕ) → 8192 ≤ at → Torn at n old new → IsBlank old → IsBlank new
torn_blank at n old new high torn blank =
    frame_blank old new torn.no_shorter (torn_before at n old new 0 36 torn (omega (arith, high)) (omega (arith, blank.long)), torn_before at n old new 4096 36 torn (omega (arith, high)) (omega (arith, blank.long))) blank

-- ---- one slot is chosen

pub one_choice : (bytes : List ℕ) (s t : Slot) → Chooses bytes (Some s) → Chooses bytes (Some t) → s ≡ t
one_choice bytes s t one two = some_is s t (chooses_one bytes (Some s) (Some t) one two)

not_blank : (bytes : List ℕ) (s : Slot) → IsBlank bytes → Chooses bytes (Some s) → ⊥
not_blank bytes s blank is = none_some (chooses_one bytes None (Some s) blank.shut is)
  where
    none_some : let none : Option Slot = None in none ≡ Some s → ⊥
    none_some same = cc

-- ---- one content

one_forest : (bytes : List ℕ) (tables : List TableRoot) (trees others : List TableTree) → AreTrees tables trees → AreTrees tables others
    → Holds bytes (tables_blocks tables trees) → Holds bytes (tables_blocks tables others) → trees ≡ others
one_forest bytes [] [] [] it iu ht hu = refl
one_forest bytes [] [] (u ∷ others) it iu ht hu = absurd iu
one_forest bytes [] (t ∷ trees) others it iu ht hu = absurd it
one_forest bytes (x ∷ tables) [] others it iu ht hu = absurd it
one_forest bytes (x ∷ tables) (t ∷ trees) [] it iu ht hu = absurd iu
one_forest bytes (x ∷ tables) (t ∷ trees) (u ∷ others) it iu ht hu =
    let root = root_entry x.root.link in
    let first : t ≡ u = one_tree table_kind table_exact bytes x.root.level root t u it.0 iu.0 (holds_front bytes (tree_blocks table_kind root t) (tables_blocks tables trees) ht) (holds_front bytes (tree_blocks table_kind root u) (tables_blocks tables others) hu) in
    let rest : trees ≡ others = one_forest bytes tables trees others it.1 iu.1 (holds_back bytes (tree_blocks table_kind root t) (tables_blocks tables trees) ht) (holds_back bytes (tree_blocks table_kind root u) (tables_blocks tables others) hu) in
    ap (λ (y : TableTree). y ∷ trees) first ∙ ap (λ (y : List TableTree). u ∷ y) rest

pub one_stored : (bytes : List ℕ) (s t : Stored) → IsOn bytes s → IsOn bytes t → s ≡ t
one_stored bytes s t os ot =
    let slot : s.slot ≡ t.slot = one_choice bytes s.slot t.slot os.chosen ot.chosen in
    let block : IsAt bytes (record { place = addr_in s.slot; image = record_image t.kept }) = subst (λ (x : Slot). IsAt bytes (record { place = addr_in x; image = record_image t.kept })) (sym slot) ot.holds.0 in
    let size = s.slot.size in
    let kept : s.kept ≡ t.kept = record_exact size size s.kept t.kept os.whole.is_record ot.whole.is_record (same_padded bytes (addr_in s.slot) (record_image s.kept) (record_image t.kept) os.holds.0 block) in
    let front_s = holds_front bytes (tables_blocks s.kept.tables s.trees) (history_blocks s.kept s.history) os.holds.1 in
    let back_s = holds_back bytes (tables_blocks s.kept.tables s.trees) (history_blocks s.kept s.history) os.holds.1 in
    let front_t = holds_front bytes (tables_blocks t.kept.tables t.trees) (history_blocks t.kept t.history) ot.holds.1 in
    let back_t = holds_back bytes (tables_blocks t.kept.tables t.trees) (history_blocks t.kept t.history) ot.holds.1 in
    let trees : s.trees ≡ t.trees = one_forest bytes s.kept.tables s.trees t.trees os.whole.trees (subst (λ (x : Record). AreTrees x.tables t.trees) (sym kept) ot.whole.trees) front_s (subst (λ (x : Record). Holds bytes (tables_blocks x.tables t.trees)) (sym kept) front_t) in
    let root = history_root_entry s.kept.history.link in
    let is = subst (λ (x : Record). IsTree history_kind x.history.level (history_root_entry x.history.link) t.history) (sym kept) ot.whole.history in
    let history : s.history ≡ t.history = one_tree history_kind history_exact bytes s.kept.history.level root s.history t.history os.whole.history is back_s (subst (λ (x : Record). Holds bytes (history_blocks x t.history)) (sym kept) back_t) in
    ap (λ (x : Slot). record { slot = x; kept = s.kept; trees = s.trees; history = s.history }) slot ∙ ap (λ (x : Record). record { slot = t.slot; kept = x; trees = s.trees; history = s.history }) kept ∙ ap (λ (x : List TableTree). record { slot = t.slot; kept = t.kept; trees = x; history = s.history }) trees ∙ ap (λ (x : HistoryTree). record { slot = t.slot; kept = t.kept; trees = t.trees; history = x }) history

pub one_content : (bytes : List ℕ) (c d : Content) → Reads bytes c → Reads bytes d → c ≡ d
one_content bytes c d (inl x) (inl y) = x.1 ∙ sym y.1
one_content bytes c d (inl x) (inr y) = absurd (not_blank bytes y.0.slot x.0 y.1.chosen)
one_content bytes c d (inr x) (inl y) = absurd (not_blank bytes x.0.slot y.0 x.1.chosen)
one_content bytes c d (inr x) (inr y) = x.2 ∙ ap content_of (one_stored bytes x.0 y.0 x.1 y.1) ∙ sym y.2
