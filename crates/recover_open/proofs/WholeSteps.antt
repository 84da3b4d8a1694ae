-- The steps of a whole survey.
use Rattle.std.specs.Prelude.{◌≡◌, ◌⊎◌, ℕ, ◌<◌, ◌≤◌, List, ◌∷◌, ◌++◌, length, map, false, Option, Some, None, refl}
use Rattle.std.proofs.Common.{inl, inr, sym, ◌∙◌, ap, ap₂, subst}
use Rattle.device_layout.specs.declared.addr.Addr.{Addr}
use Rattle.device_layout.specs.declared.slot.Slot.{Slot}
use Rattle.turtle.specs.Slots.{Chooses, IsCorruptAt}
use Rattle.turtle.proofs.Choice.{chooses_one, chosen_in_form}
use Rattle.block_mgr.specs.declared.found.Found.{Found}
use Rattle.block_mgr.specs.Blocks.{Books}
use Rattle.block_mgr.specs.Open.{AreStored, found_at}
use Rattle.wt_code.specs.declared.refusals.Refusal.{Refusal}
use Rattle.wt_code.specs.declared.refusals.Refusal.TheVariants.{DiskFault, Corrupt}
use Rattle.stored.specs.Tree.{tree_blocks}
use Rattle.stored.specs.HistoryTree.{HistoryTree, history_kind, history_root_entry}
use Rattle.stored.specs.Records.{Root, TableRoot, Record, IsRecord}
use Rattle.device_leaf.specs.declared.place.Place.{Place}
use Rattle.device_leaf.specs.Damage.{IsChosen, record_found}
use Rattle.tree_open.specs.declared.place.Upper.{Upper}
use Rattle.tree_open.specs.Trees.{places}
use Rattle.tree_open.specs.Damage.{Refused}
use Rattle.hist_open.specs.declared.history.History.{History}
use Rattle.hist_open.specs.Trees.{IsRead}
use Rattle.hist_open.specs.Damage.{HistorySpoils}
use Rattle.hist_open.proofs.TreeLeaves.{one_history, spoilt_no_history}
use Rattle.recover_open.specs.declared.surveying.Surveyed.{Surveyed}
use Rattle.recover_open.specs.declared.wholes.Whole.{Whole}
use Rattle.recover_open.specs.declared.wholes.SurveyedWhole.{SurveyedWhole}
use Rattle.recover_open.specs.Bare.{HaveUppers, AllClimb}
use Rattle.recover_open.specs.Damage.{Names, IsAmong, CannotStand, RecordSpoils, TreeSpoils, found_there}
use Rattle.recover_open.specs.Recoveries.{Counts, KeepsNone, TreesRefused}
use Rattle.recover_open.specs.Surveys.{IsOfDisk, IsOwn, IsBlankSurvey, RefusesBlocks}
use Rattle.recover_open.specs.Wholes.{SurveysWhole, SurveysWholeOr, IsSurveyedWhole, InFormWhole, CanSurveyWhole, HasWhole, IsWholeDamage, IsJoined, whole_found}
use Rattle.recover_open.proofs.Steps.{nothing_kept}
use Rattle.recover_open.proofs.Sole.{all_found_same, all_stored}

-- ---- why nothing is found

pub record_damage : (fault known : Type 0) (bytes : List ℕ) (r : Refusal) → Refused fault known (RecordSpoils bytes) r → Refused fault known (IsWholeDamage bytes) r
record_damage fault known bytes r (inl failed) = inl failed
record_damage fault known bytes r (inr (inl none)) = inr (inl none)
record_damage fault known bytes r (inr (inr (at, want, found, is, why))) = inr (inr (at, want, found, is, λ k. inr (inl (why k))))

pub table_damage : (fault later known still : Type 0) (bytes now : List ℕ) (slot : Slot) (names : Record) (tables : List TableRoot) (r : Refusal) → TreesRefused later still now tables r → (later → fault) → (known → still) → now ≡ bytes → (known → Names bytes slot names) → tables ≡ names.tables
    → Refused fault known (IsWholeDamage bytes) r
table_damage fault later known still bytes now slot names tables r (inl none) more k same there are = inr (inl none)
table_damage fault later known still bytes now slot names tables r (inr (t, among, inl failed)) more k same there are = inl (failed.0, more failed.1)
table_damage fault later known still bytes now slot names tables r (inr (t, among, inr (inl none))) more k same there are = inr (inl none)
table_damage fault later known still bytes now slot names tables r (inr (t, among, inr (inr (at, want, found, is, spoils)))) more k same there are =
    inr (inr (
      at,
      want,
      found,
      is,
      λ h. inr (inr (inl (record {
        slot = slot;
        names = names;
        there = there h;
        table = t;
        among = subst (λ (l : List TableRoot). IsAmong l t) are among;
        tree = subst (λ (l : List ℕ). TreeSpoils l t.root at want found) same (spoils (k h));
      }))),
    ))

pub history_damage : (fault later known still : Type 0) (bytes now : List ℕ) (slot : Slot) (names : Record) (root : Root) (r : Refusal) → Refused later still (HistorySpoils now root) r → (later → fault) → (known → still) → now ≡ bytes → (known → Names bytes slot names) → root ≡ names.history
    → Refused fault known (IsWholeDamage bytes) r
history_damage fault later known still bytes now slot names root r (inl failed) more k same there is = inl (failed.0, more failed.1)
history_damage fault later known still bytes now slot names root r (inr (inl none)) more k same there is = inr (inl none)
history_damage fault later known still bytes now slot names root r (inr (inr (at, want, found, told, spoils))) more k same there is =
    inr (inr (
      at,
      want,
      found,
      told,
      λ h. inr (inr (inr (inl (record {
        slot = slot;
        names = names;
        there = there h;
        spoils = subst (λ (x : Root). HistorySpoils bytes x at want found) is (subst (λ (l : List ℕ). HistorySpoils l root at want found) same (spoils (k h)));
      })))),
    ))

pub meeting_damage : (fault known : Type 0) (bytes : List ℕ) (slot : Slot) (names : Record) (uppers : List Upper) (h : History) (len : ℕ) (r : Refusal) → RefusesBlocks (whole_found slot uppers h.addrs.items) len r → (known → len ≡ length bytes) → (known → Names bytes slot names)
    → (known → HaveUppers bytes names.tables uppers) → (known → IsRead bytes names.history h) → Refused fault known (IsWholeDamage bytes) r
meeting_damage fault known bytes slot names uppers h len r (inl none) long there have read = inr (inl none)
meeting_damage fault known bytes slot names uppers h len r (inr (i, within, is, why)) long there have read =
    let all : List Found = whole_found slot uppers h.addrs.items in
    let f = found_at all i in
    inr (inr (
      f.addr.offset,
      f.addr.sum,
      f.addr.sum,
      is,
      λ k. inr (inr (inr (inr (record {
        slot = slot;
        names = names;
        there = there k;
        uppers = uppers;
        have = have k;
        history = h;
        read = read k;
        index = i;
        within = within;
        place = refl;
        sum = refl;
        same = refl;
        why = subst (λ (n : ℕ). CannotStand all n i) (long k) why;
      })))),
    ))

-- a slot at fault
pub slot_damage : (fault known : Type 0) (bytes : List ℕ) (r : Refusal) → ((r ≡ DiskFault) × fault) ⊎ ((at : ℕ) × (r ≡ Corrupt at 0 0)) → (known → (r ≡ DiskFault) ⊎ ((at : ℕ) × IsCorruptAt bytes at × (r ≡ Corrupt at 0 0))) → Refused fault known (IsWholeDamage bytes) r
slot_damage fault known bytes r (inl failed) why = inl failed
slot_damage fault known bytes r (inr (at, is)) why = inr (inr (
  at,
  0,
  0,
  is,
  λ k. elim (why k) [
    | inl failed ↦ absurd (no_fault (sym failed ∙ is))
    | inr (place, corrupt, same) ↦ inl (record { corrupt = subst (λ (m : ℕ). IsCorruptAt bytes m) (one_place place at (sym same ∙ is)) corrupt; sums = (refl, refl) })
  ],
))
  where
    one_place : (x y : ℕ) → Corrupt x 0 0 ≡ Corrupt y 0 0 → x ≡ y
    one_place x y same = cc

    no_fault : DiskFault ≡ Corrupt at 0 0 → ⊥
    no_fault same = cc

-- ---- what is found

pub whole_is : (bytes : List ℕ) (slot : Slot) (r : Record) (uppers : List Upper) (h : History) (books : Books) (o : SurveyedWhole) → Names bytes slot r → HaveUppers bytes r.tables uppers → IsRead bytes r.history h → AreStored (whole_found slot uppers h.addrs.items) (length bytes) → books.is_synced ≡ false
    → Counts (whole_found slot uppers h.addrs.items) books → IsJoined slot r uppers h books o → IsSurveyedWhole bytes o
whole_is bytes slot r uppers h books o names have read stored fresh counts made =
    let w = made.whole in
    let all : whole_found slot uppers h.addrs.items ≡ whole_found slot w.uppers.items w.history.addrs.items = ap₂ (λ (l : List Upper) (x : History). whole_found slot l x.addrs.items) (sym made.uppers_are) (sym made.history_is) in
    subst (λ (k : Option Whole). SurveysWholeOr bytes o.place k) (sym made.is) (record {
      slot = slot;
      stands = made.slot_is;
      names = subst (λ (q : Record). Names bytes slot q) (sym made.names) names;
      have = subst (λ (l : List Upper). HaveUppers bytes w.record.tables l) (sym made.uppers_are) (subst (λ (q : Record). HaveUppers bytes q.tables uppers) (sym made.names) have);
      history = subst (λ (x : History). IsRead bytes w.record.history x) (sym made.history_is) (subst (λ (q : Record). IsRead bytes q.history h) (sym made.names) read);
      stored = subst (λ (l : List Found). AreStored l (length bytes)) all stored;
      books = subst (λ (l : List Found). Counts l o.place.blocks) all (subst (λ (b : Books). Counts (whole_found slot uppers h.addrs.items) b) (sym made.blocks_are) counts);
      unsynced = ap (λ (b : Books). b.is_synced) made.blocks_are ∙ fresh;
    })

pub whole_in_form : (slot : Slot) (r : Record) (uppers : List Upper) (h : History) (books : Books) (o : SurveyedWhole) → IsOwn slot r → AllClimb uppers → length uppers ≡ length r.tables → IsJoined slot r uppers h books o → InFormWhole o.whole
whole_in_form slot r uppers h books o own climb count made = subst (λ (k : Option Whole). InFormWhole k) (sym made.is) (record {
  is_record = subst (λ (q : Record). IsRecord q) (sym made.names) own.is_record;
  climb = subst (λ (l : List Upper). AllClimb l) (sym made.uppers_are) climb;
  count = ap (λ (l : List Upper). length l) made.uppers_are ∙ count ∙ ap (λ (q : Record). length q.tables) (sym made.names);
})

-- no checkpoint was completed
pub no_whole : (bytes : List ℕ) (o : SurveyedWhole) (s : Surveyed) → o.whole ≡ None → s.place ≡ o.place → IsBlankSurvey s → 8192 ≤ length bytes → Chooses bytes None → IsSurveyedWhole bytes o
no_whole bytes o s none same blank long shut = subst (λ (k : Option Whole). SurveysWholeOr bytes o.place k) (sym none) (subst (λ (x : Place). KeepsNone bytes x) same (nothing_kept bytes s blank long shut))

-- ---- what can be surveyed is refused for a fault of the disk or want of memory alone

pub of_slot_whole : (bytes : List ℕ) (r : Refusal) → CanSurveyWhole bytes → (r ≡ DiskFault) ⊎ ((at : ℕ) × IsCorruptAt bytes at × (r ≡ Corrupt at 0 0)) → IsOfDisk r
of_slot_whole bytes r can (inl failed) = inl failed
of_slot_whole bytes r (place, w, surveyed) (inr (at, corrupt, is)) = absurd (chosen_in_form bytes (Some surveyed.slot) at surveyed.names.chosen.long surveyed.names.chosen.chooses corrupt)

some_is : (x y : Slot) → Some x ≡ Some y → x ≡ y
some_is x y same = cc

-- what is surveyed is at the chosen slot
pub whole_there : (bytes : List ℕ) (slot : Slot) → IsChosen bytes slot → CanSurveyWhole bytes → HasWhole bytes slot
whole_there bytes slot chosen (place, w, surveyed) =
    let same : surveyed.slot ≡ slot = some_is surveyed.slot slot (chooses_one bytes (Some surveyed.slot) (Some slot) surveyed.names.chosen.chooses chosen.chooses) in
    subst (λ (x : Slot). HasWhole bytes x) same (w.record, w.uppers.items, w.history, surveyed.names, surveyed.have, surveyed.history, surveyed.stored)

pub of_history : (fault known : Type 0) (bytes now : List ℕ) (root : Root) (h : History) (r : Refusal) → IsRead bytes root h → now ≡ bytes → known → Refused fault known (HistorySpoils now root) r → IsOfDisk r
of_history fault known bytes now root h r read same k (inl (failed, rose)) = inl failed
of_history fault known bytes now root h r read same k (inr (inl none)) = inr none
of_history fault known bytes now root h r read same k (inr (inr (at, want, found, told, why))) =
    absurd (spoilt_no_history bytes root at want found read.tree (subst (λ (l : List ℕ). HistorySpoils l root at want found) same (why k)) read.has)

-- where the same tables and the same history are read too
pub of_whole_books : (bytes : List ℕ) (slot : Slot) (q : Record) (uppers us : List Upper) (h g : History) (len : ℕ) (r : Refusal) → HaveUppers bytes q.tables uppers → HaveUppers bytes q.tables us → IsRead bytes q.history h → IsRead bytes q.history g → AreStored (whole_found slot uppers h.addrs.items) (length bytes)
    → len ≡ length bytes → RefusesBlocks (whole_found slot us g.addrs.items) len r → IsOfDisk r
of_whole_books bytes slot q uppers us h g len r have also read again stored long why =
    let addrs : h.addrs.items ≡ g.addrs.items = read.stand ∙ ap (λ (t : HistoryTree). places (tree_blocks history_kind (history_root_entry q.history.link) t)) (one_history bytes q.history read.tree again.tree read.has again.has) ∙ sym again.stand in
    let same : whole_found slot uppers h.addrs.items ≡ whole_found slot us g.addrs.items = ap₂ (λ (l : List Found) (a : List Addr). (record_found slot ∷ l) ++ map found_there a) (all_found_same bytes q.tables uppers us have also) addrs in
    all_stored (whole_found slot us g.addrs.items) len r (subst (λ (n : ℕ). AreStored (whole_found slot us g.addrs.items) n) (sym long) (subst (λ (l : List Found). AreStored l (length bytes)) same stored)) why
