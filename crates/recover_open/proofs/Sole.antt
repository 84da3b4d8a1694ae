-- What can be surveyed is refused for a fault of the disk or want of memory alone.
use Rattle.std.specs.Prelude.{◌≡◌, ◌⊎◌, ℕ, zero, suc, ◌+◌, ◌<◌, List, [], ◌∷◌, ◌++◌, length, map, Some, get_or, refl}
use Rattle.std.specs.List.{flat_map}
use Rattle.std.proofs.Common.{inl, inr, sym, ◌∙◌, ap₂, subst, arith}
use Rattle.device_layout.specs.declared.addr.Addr.{Addr}
use Rattle.device_layout.specs.declared.slot.Slot.{Slot}
use Rattle.device_layout.specs.Slots.{addr_in}
use Rattle.disk_model.specs.Ranges.{range}
use Rattle.block_mgr.specs.declared.found.Found.{Found}
use Rattle.block_mgr.specs.Places.{IsThere, Spoils}
use Rattle.block_mgr.specs.Open.{AreStored}
use Rattle.turtle.specs.Slots.{IsCorruptAt}
use Rattle.turtle.proofs.Choice.{chooses_one, chosen_in_form}
use Rattle.wt_code.specs.declared.refusals.Refusal.{Refusal}
use Rattle.wt_code.specs.declared.refusals.Refusal.TheVariants.{DiskFault, Corrupt}
use Rattle.stored.specs.Records.{Record, Root, TableRoot}
use Rattle.stored.specs.TableTree.{Entry}
use Rattle.device_leaf.specs.Damage.{IsChosen, record_found}
use Rattle.device_leaf.proofs.Opens.{IsRecordBlock}
use Rattle.tree_open.specs.declared.place.Upper.{Upper}
use Rattle.tree_open.specs.Damage.{Refused, InnerSpoils}
use Rattle.tree_open.specs.Trees.{InnerIs, leaf_addrs}
use Rattle.tree_open.proofs.Descent.{one_inner}
use Rattle.recover_open.specs.Bare.{HaveUppers}
use Rattle.recover_open.specs.Damage.{Names, found_there, upper_found, uppers_found}
use Rattle.recover_open.specs.Surveys.{CanHaveUppers, CanSurvey, HasAbove, HasRecord, IsOfDisk, RecordRefused, RefusesBlocks}
use Rattle.recover_open.proofs.Devices.{same_record}

-- ---- the slot and its record

-- a chosen slot is not at fault
pub of_slot : (bytes : List ℕ) (r : Refusal) → CanSurvey bytes → (r ≡ DiskFault) ⊎ ((at : ℕ) × IsCorruptAt bytes at × (r ≡ Corrupt at 0 0)) → IsOfDisk r
of_slot bytes r can (inl failed) = inl failed
of_slot bytes r (place, a, surveyed) (inr (at, corrupt, is)) = absurd (chosen_in_form bytes (Some surveyed.slot) at surveyed.names.chosen.long surveyed.names.chosen.chooses corrupt)

some_is : (x y : Slot) → Some x ≡ Some y → x ≡ y
some_is x y same = cc

-- what is surveyed is at the chosen slot
pub above_at : (bytes : List ℕ) (slot : Slot) → IsChosen bytes slot → CanSurvey bytes → HasAbove bytes slot
above_at bytes slot chosen (place, a, surveyed) =
    let same : surveyed.slot ≡ slot = some_is surveyed.slot slot (chooses_one bytes (Some surveyed.slot) (Some slot) surveyed.names.chosen.chooses chosen.chooses) in
    subst (λ (x : Slot). HasAbove bytes x) same (a.record, a.uppers.items, surveyed.names, surveyed.bare, surveyed.have, surveyed.stored)

there_sound : (bytes : List ℕ) (a : Addr) (found : ℕ) → IsThere bytes a → Spoils bytes a found → ⊥
there_sound bytes a found there (inl (place, within, is, other)) = other (is ∙ there.sum)
there_sound bytes a found there (inr (same, past)) = let short : length bytes < a.offset + a.size = past there.place in omega (arith, short, there.within)

-- the block of a record that is there
pub record_sound : (bytes : List ℕ) (slot : Slot) (a : Addr) (found : ℕ) → a ≡ addr_in slot → HasRecord bytes slot → Spoils bytes a found → ⊥
record_sound bytes slot a found is (r, names) spoils = there_sound bytes a found (subst (λ (x : Addr). IsThere bytes x) (sym is) names.there) spoils

pub of_record : (bytes block : List ℕ) (slot : Slot) (r : Refusal) → IsRecordBlock bytes slot block → HasRecord bytes slot → RecordRefused slot block r → IsOfDisk r
of_record bytes block slot r there has (inl none) = inr none
of_record bytes block slot r there (q, names) (inr (is, none)) = absurd (none q names.is_record names.sequence (there.is ∙ names.is))

-- ---- the inner pages

inner_of : (bytes : List ℕ) (tables : List TableRoot) (uppers : List Upper) (t : TableRoot) (i : ℕ) → HaveUppers bytes tables uppers → i < length tables → t ≡ get_or tables i t → (es : List Entry) × ((addrs : List Addr) × InnerIs bytes t.root es addrs)
inner_of bytes [] uppers t i have lt is = absurd (omega (arith, lt))
inner_of bytes (x ∷ tables) [] t i have lt is = absurd have
inner_of bytes (x ∷ tables) (u ∷ uppers) t zero have lt is = (u.entries.items, (u.addrs.items, subst (λ (y : TableRoot). InnerIs bytes y.root u.entries.items u.addrs.items) (sym is) have.0))
inner_of bytes (x ∷ tables) (u ∷ uppers) t (suc i) have lt is = inner_of bytes tables uppers t i have.1 (omega (arith, lt)) is

pub of_inner : (fault known : Type 0) (bytes now : List ℕ) (tables : List TableRoot) (t : TableRoot) (root : Root) (i : ℕ) (r : Refusal) → CanHaveUppers bytes tables → i < length tables → t ≡ get_or tables i t → root ≡ t.root → now ≡ bytes → known → Refused fault known (InnerSpoils now root) r → IsOfDisk r
of_inner fault known bytes now tables t root i r can lt is root_is same k (inl (failed, rose)) = inl failed
of_inner fault known bytes now tables t root i r can lt is root_is same k (inr (inl none)) = inr none
of_inner fault known bytes now tables t root i r (uppers, have) lt is root_is same k (inr (inr (at, want, found, told, why))) =
    let inner = inner_of bytes tables uppers t i have lt is in
    let spoils : InnerSpoils bytes root at want found = subst (λ (l : List ℕ). InnerSpoils l root at want found) same (why k) in
    absurd (spoils.none inner.0 inner.1.0 (subst (λ (x : Root). InnerIs bytes x inner.0 inner.1.0) (sym root_is) inner.1.1))

-- ---- the blocks

one_found : (u v : Upper) → u.entries.items ≡ v.entries.items → u.addrs.items ≡ v.addrs.items → upper_found u ≡ upper_found v
one_found u v entries addrs = ap₂ (λ (l : List Addr) (es : List Entry). map found_there l ++ map found_there (leaf_addrs es)) addrs entries

pub all_found_same : (bytes : List ℕ) (tables : List TableRoot) (us vs : List Upper) → HaveUppers bytes tables us → HaveUppers bytes tables vs → flat_map upper_found us ≡ flat_map upper_found vs
all_found_same bytes [] [] [] have also = refl
all_found_same bytes [] [] (v ∷ vs) have also = absurd also
all_found_same bytes [] (u ∷ us) vs have also = absurd have
all_found_same bytes (t ∷ tables) [] vs have also = absurd have
all_found_same bytes (t ∷ tables) (u ∷ us) [] have also = absurd also
all_found_same bytes (t ∷ tables) (u ∷ us) (v ∷ vs) have also =
    let one = one_inner bytes t.root u.entries.items v.entries.items u.addrs.items v.addrs.items have.0 also.0 in
    ap₂ (λ (l m : List Found). l ++ m) (one_found u v one.0 one.1) (all_found_same bytes tables us vs have.1 also.1)

pub all_stored : (found : List Found) (len : ℕ) (r : Refusal) → AreStored found len → RefusesBlocks found len r → IsOfDisk r
all_stored found len r are (inl none) = inr none
all_stored found len r are (inr (i, within, is, (inl unfit))) = absurd (unfit (are.fit i within))
all_stored found len r are (inr (i, within, is, (inr (j, lt, apart)))) = absurd (apart (are.agree j i lt within))

pub same_names : (bytes : List ℕ) (slot : Slot) (r q : Record) → Names bytes slot r → Names bytes slot q → r ≡ q
same_names bytes slot r q one two = same_record (range bytes slot.offset slot.size) r q one.is_record two.is_record one.is two.is

-- where the same tables have these too
pub of_books : (bytes : List ℕ) (slot : Slot) (tables : List TableRoot) (uppers us : List Upper) (len : ℕ) (r : Refusal) → HaveUppers bytes tables uppers → HaveUppers bytes tables us → AreStored (uppers_found slot uppers) (length bytes) → len ≡ length bytes → RefusesBlocks (uppers_found slot us) len r → IsOfDisk r
of_books bytes slot tables uppers us len r have also stored long why =
    all_stored (uppers_found slot us) len r
    (subst (λ (n : ℕ). AreStored (uppers_found slot us) n) (sym long)
    (subst (λ (l : List Found). AreStored (record_found slot ∷ l) (length bytes)) (all_found_same bytes tables uppers us have also) stored))
    why
