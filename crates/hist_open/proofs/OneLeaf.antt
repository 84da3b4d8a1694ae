-- The leaf that an entry leads to.
use Rattle.std.proofs.Common.{◌≡◌, ℕ, zero, suc, ◌+◌, ◌-◌, ◌≤◌, Bool, IsTrue, List, [], ◌∷◌, length, Option, Some, None, refl, sym, ◌∙◌, ap, subst, inl, inr, arith}
use Rattle.std.specs.List.{flat_map, slice_get}
use Rattle.std.specs.Prelude.{◌==◌, ◌≢◌, ◌⊎◌, true}
use Rattle.std.proofs.lemmas.Bool.{cases_Bool, eqb-true, eq-eqb, false≢true}
use Rattle.block_sum.specs.Sum.{sum_of}
use Rattle.le_codec.specs.Images.{padded, block_size, first_format}
use Rattle.le_codec.proofs.Heads.{length-framed}
use Rattle.disk_model.specs.Ranges.{range}
use Rattle.failure.specs.Counts.{Rose}
use Rattle.wt_code.specs.declared.refusals.Refusal.{Refusal}
use Rattle.device_layout.specs.declared.link.Link.{Link}
use Rattle.block_mgr.specs.Places.{IsThere, Spoils}
use Rattle.block_mgr.specs.Reads.{IsBlock, IsSpoilt, IsRefused}
use Rattle.stored.specs.Blocks.{Block, IsAddressed, IsAt, Holds}
use Rattle.stored.specs.Links.{nowhere}
use Rattle.stored.specs.HistoryTree.{HistoryEntry, HistoryRecord, Mark, RecordsAscend, AreRecords, Begins, is_before, mark_of, first_record, record_text, history_image, start}
use Rattle.inner_page.specs.Pages.{IsHistoryLeaf}
use Rattle.inner_page.proofs.MarkOrder.{before_trans}
use Rattle.inner_page.proofs.HistoryLeaves.{one_leaf_page}
use Rattle.device_leaf.proofs.Leaves.{there_not_spoilt, length_block}
use Rattle.tree_open.specs.Damage.{Refused}
use Rattle.hist_open.specs.Leaves.{IsUnder, IsLeafOf, RecordsStay, SpellsLeaf, leaf_block}
use Rattle.hist_open.specs.Damage.{EntrySpoils, RefusesLeaf}
use Rattle.hist_open.proofs.OnePage.{range_length}
use Rattle.hist_open.proofs.OneLayer.{AllAddressed}

abbrev block_at : HistoryEntry → List HistoryRecord → Block
block_at e records = record { place = e.link.addr; image = history_image records }

-- a leaf that is stored has one block, and one that is not has none
stored_block : (e : HistoryEntry) (records : List HistoryRecord) → (e.link.addr.offset ≡ 0 → ⊥) → leaf_block e records ≡ block_at e records ∷ []
stored_block e records some = elim (cases_Bool (e.link.addr.offset == 0)) [
  | inl is ↦ absurd (some (eqb-true e.link.addr.offset 0 is))
  | inr isnt ↦ rw isnt refl
]

no_block : (e : HistoryEntry) (records : List HistoryRecord) → e.link.addr.offset ≡ 0 → leaf_block e records ≡ []
no_block e records is = rw (eq-eqb e.link.addr.offset 0 is) refl

image_length : (records : List HistoryRecord) → length (history_image records) ≡ 16 + length (flat_map record_text records)
image_length records = length-framed 3 first_format (length records) 0 (flat_map record_text records)

pub image_bytes : (records : List HistoryRecord) → 16 ≤ length (history_image records)
image_bytes records = omega (arith, image_length records)

-- of a leaf that is stored
there : (bytes : List ℕ) (e : HistoryEntry) (next : Option Mark) (records : List HistoryRecord) → (e.link.addr.offset ≡ 0 → ⊥) → IsUnder bytes e next records → IsAddressed (block_at e records) × IsAt bytes (block_at e records)
there bytes e next records some is =
    let one = stored_block e records some in (
      (subst (λ (l : List Block). AllAddressed l) one is.addressed).0,
      (subst (λ (l : List Block). Holds bytes l) one is.holds).0,
    )

-- its block is that of the leaf
leaf_there : (bytes block : List ℕ) (e : HistoryEntry) (next : Option Mark) (records : List HistoryRecord) → (e.link.addr.offset ≡ 0 → ⊥) → block ≡ range bytes e.link.addr.offset e.link.addr.size → IsUnder bytes e next records → SpellsLeaf block e next records
leaf_there bytes block e next records some block_is is =
    let at = there bytes e next records some is in
    record {
      leaf = record { admitted = admits is.bears.leaf; spelled = block_is ∙ at.1.is ∙ ap (λ k. padded (history_image records) k) at.0.size };
      suits = record { begins = is.bears.begins; stays = is.stays; says = is.bears.says };
    }
  where
    admits : (e.link ≡ nowhere) × (records ≡ []) ⊎ (e.link.addr.offset ≢ 0) × AreRecords records → AreRecords records
    admits (inl none) = absurd (some (ap (λ (l : Link). l.addr.offset) none.0))
    admits (inr are) = are.1

-- a block of such a leaf that stands where the entry leads is that leaf
leaf_stands : (bytes block : List ℕ) (e : HistoryEntry) (next : Option Mark) (records : List HistoryRecord) → (e.link.addr.offset ≡ 0 → ⊥) → IsThere bytes e.link.addr → block ≡ range bytes e.link.addr.offset e.link.addr.size → SpellsLeaf block e next records → IsUnder bytes e next records
leaf_stands bytes block e next records some stands block_is of =
    let size : length block ≡ e.link.addr.size = ap length block_is ∙ range_length bytes e.link.addr.offset e.link.addr.size stands.within in
    let sizes : e.link.addr.size ≡ block_size (length (history_image records)) = sym size ∙ ap length of.leaf.spelled ∙ length_block (history_image records) in
    let at : IsAt bytes (block_at e records) = record { within = stands.within; is = sym block_is ∙ of.leaf.spelled ∙ ap (λ k. padded (history_image records) k) (sym sizes) } in
    let addressed : IsAddressed (block_at e records) = record {
      low = stands.place.behind;
      unit = stands.place.unit;
      size = sizes;
      most = stands.place.most;
      sum = sym stands.sum ∙ ap sum_of at.is;
    } in
    let one = sym (stored_block e records some) in
    record {
      bears = record { leaf = inr (some, of.leaf.admitted); begins = of.suits.begins; says = of.suits.says };
      stays = of.suits.stays;
      addressed = subst (λ (l : List Block). AllAddressed l) one (addressed, tt);
      holds = subst (λ (l : List Block). Holds bytes l) one (at, tt);
    }

-- there is one such leaf at most
pub one_under : (bytes : List ℕ) (e : HistoryEntry) (next : Option Mark) (p q : List HistoryRecord) → IsUnder bytes e next p → IsUnder bytes e next q → p ≡ q
one_under bytes e next p q is other = elim (cases_Bool (e.link.addr.offset == 0)) [
  | inl empty ↦ none empty p is.bears.leaf ∙ sym (none empty q other.bears.leaf)
  | inr isnt ↦
      let some : e.link.addr.offset ≡ 0 → ⊥ = λ nil. false≢true (sym isnt ∙ eq-eqb e.link.addr.offset 0 nil) in
      let block : List ℕ = range bytes e.link.addr.offset e.link.addr.size in
      one_leaf_page block p q (leaf_there bytes block e next p some refl is).leaf (leaf_there bytes block e next q some refl other).leaf
]
  where
    none : (e.link.addr.offset == 0) ≡ true → (records : List HistoryRecord) → (e.link ≡ nowhere) × (records ≡ []) ⊎ (e.link.addr.offset ≢ 0) × AreRecords records → records ≡ []
    none nil records (inl empty) = empty.1
    none nil records (inr are) = absurd (are.0 (eqb-true e.link.addr.offset 0 nil))

-- ---- a leaf that is stored nowhere

pub nothing_under : (bytes : List ℕ) (e : HistoryEntry) (next : Option Mark) → e.link ≡ nowhere → e.least ≡ start → IsUnder bytes e next []
nothing_under bytes e next none first =
    let empty = sym (no_block e [] (ap (λ (l : Link). l.addr.offset) none)) in
    record {
      bears = record { leaf = inl (none, refl); begins = inl first; says = record { greatest = ap (λ (l : Link). l.greatest) none; durable = ap (λ (l : Link). l.durable) none } };
      stays = tt;
      addressed = subst (λ (l : List Block). AllAddressed l) empty tt;
      holds = subst (λ (l : List Block). Holds bytes l) empty tt;
    }

pub nowhere_spoils : (bytes : List ℕ) (e : HistoryEntry) (next : Option Mark) → e.link.addr.offset ≡ 0 → ((e.link ≡ nowhere) × (e.least ≡ start) → ⊥) → EntrySpoils bytes e next e.link.addr.offset e.link.addr.sum e.link.addr.sum
nowhere_spoils bytes e next nil other = record { none = λ records is. none records is.bears.leaf is.bears.begins; place = refl; sum = refl; why = inr refl }
  where
    none : (records : List HistoryRecord) → (e.link ≡ nowhere) × (records ≡ []) ⊎ (e.link.addr.offset ≢ 0) × AreRecords records → Begins e (first_record records) → ⊥
    none records (inr are) begins = are.0 nil
    none records (inl empty) (inl first) = other (empty.0, first)
    none records (inl empty) (inr first) = cc

-- ---- what a leaf's block answers

sum_spoils : (bytes : List ℕ) (e : HistoryEntry) (next : Option Mark) (found : ℕ) → (e.link.addr.offset ≡ 0 → ⊥) → Spoils bytes e.link.addr found → EntrySpoils bytes e next e.link.addr.offset e.link.addr.sum found
sum_spoils bytes e next found some spoils = record {
  none = λ records is. let at = there bytes e next records some is in there_not_spoilt bytes (block_at e records) found (image_bytes records) at.0 at.1 spoils;
  place = refl;
  sum = refl;
  why = inl spoils;
}

-- no other records than those that the block spells
pub other_leaf : (block : List ℕ) (e : HistoryEntry) (next : Option Mark) (records others : List HistoryRecord) → IsHistoryLeaf block records → (IsLeafOf e next records → ⊥) → SpellsLeaf block e next others → ⊥
other_leaf block e next records others page none other = none (subst (λ (l : List HistoryRecord). IsLeafOf e next l) (one_leaf_page block others records other.leaf page) other.suits)

module _ (bytes block : List ℕ) (link : Link) (e : HistoryEntry) (next : Option Mark) (same : link ≡ e.link) (some : link.addr.offset ≡ 0 → ⊥) where
  stored : e.link.addr.offset ≡ 0 → ⊥
  stored nil = some (ap (λ (l : Link). l.addr.offset) same ∙ nil)

  here : (items : List ℕ) → block ≡ items → IsBlock bytes link.addr items → IsThere bytes e.link.addr × (block ≡ range bytes e.link.addr.offset e.link.addr.size)
  here items is at =
      let mine : IsBlock bytes e.link.addr items = subst (λ (l : Link). IsBlock bytes l.addr items) same at in
      (mine.0, is ∙ mine.1)

  pub leaf_read : (items : List ℕ) (records : List HistoryRecord) → block ≡ items → IsBlock bytes link.addr items → SpellsLeaf block e next records → IsUnder bytes e next records
  leaf_read items records is at of =
      let mine = here items is at in
      leaf_stands bytes block e next records stored mine.0 mine.1 of

  pub leaf_refused : (fault known : Type 0) (items : List ℕ) (r : Refusal) → block ≡ items → (known → IsBlock bytes link.addr items) → RefusesLeaf block e next r → Refused fault known (EntrySpoils bytes e next) r
  leaf_refused fault known items r is at (inl none) = inr (inl none)
  leaf_refused fault known items r is at (inr (refuses, none)) =
      inr (inr (
        e.link.addr.offset,
        e.link.addr.sum,
        e.link.addr.sum,
        refuses,
        λ h. record {
          none = λ records under. none records (leaf_there bytes block e next records stored (here items is (at h)).1 under);
          place = refl;
          sum = refl;
          why = inr refl;
        },
      ))

refused_here : (known : Type 0) (bytes : List ℕ) (old new : ℕ) (e : HistoryEntry) (next : Option Mark) (r : Refusal) → (e.link.addr.offset ≡ 0 → ⊥) → (known → (offset want found : ℕ) → IsSpoilt bytes e.link.addr offset want found r) → IsRefused e.link.addr old new r → Refused (Rose old new) known (EntrySpoils bytes e next) r
refused_here known bytes old new e next r some why (inl none) = inr (inl none)
refused_here known bytes old new e next r some why (inr (inl fault)) = inl fault
refused_here known bytes old new e next r some why (inr (inr (found, is))) =
    inr (inr (e.link.addr.offset, e.link.addr.sum, found, is, λ h. sum_spoils bytes e next found some (why h e.link.addr.offset e.link.addr.sum found is).2))

pub read_refused : (known : Type 0) (bytes : List ℕ) (old new : ℕ) (link : Link) (e : HistoryEntry) (next : Option Mark) (r : Refusal) → link ≡ e.link → (link.addr.offset ≡ 0 → ⊥) → (known → (offset want found : ℕ) → IsSpoilt bytes link.addr offset want found r) → IsRefused link.addr old new r → Refused (Rose old new) known (EntrySpoils bytes e next) r
read_refused known bytes old new link e next r same some why refused =
    refused_here known bytes old new e next r (λ nil. some (ap (λ (l : Link). l.addr.offset) same ∙ nil)) (subst (λ (l : Link). known → (offset want found : ℕ) → IsSpoilt bytes l.addr offset want found r) same why) (subst (λ (l : Link). IsRefused l.addr old new r) same refused)

-- ---- records before a bound

pub stay_none : (records : List HistoryRecord) → RecordsStay None records
stay_none [] = tt
stay_none (r ∷ records) = (refl, stay_none records)

-- the record behind all others
abbrev pub last_mark : List HistoryRecord → Option Mark
last_mark [] = None
last_mark (r ∷ []) = Some (mark_of r)
last_mark (r ∷ s ∷ records) = last_mark (s ∷ records)

stay_last : (next mark : Mark) (before : Option Mark) (records : List HistoryRecord) → RecordsAscend before records → last_mark records ≡ Some mark → is_before mark next ≡ true → RecordsStay (Some next) records
stay_last next mark before [] ascend is low = tt
stay_last next mark before (r ∷ []) ascend is low = let same : mark_of r ≡ mark = cc in (ap (λ (m : Mark). is_before m next) same ∙ low, tt)
stay_last next mark before (r ∷ s ∷ records) ascend is low =
    let rest : RecordsStay (Some next) (s ∷ records) = stay_last next mark (Some (mark_of r)) (s ∷ records) ascend.1 is low in
    (before_trans (mark_of r) (mark_of s) next ascend.1.0 rest.0, rest)

last_stay : (next mark : Mark) (records : List HistoryRecord) → RecordsStay (Some next) records → last_mark records ≡ Some mark → is_before mark next ≡ true
last_stay next mark [] stays is = cc
last_stay next mark (r ∷ []) stays is = let same : mark_of r ≡ mark = cc in ap (λ (m : Mark). is_before m next) (sym same) ∙ stays.0
last_stay next mark (r ∷ s ∷ records) stays is = last_stay next mark (s ∷ records) stays.1 is

last_at : (records : List HistoryRecord) (end : HistoryRecord) (n : ℕ) → length records ≡ suc n → Some end ≡ slice_get records n → last_mark records ≡ Some (mark_of end)
last_at [] end n long is = cc
last_at (r ∷ []) end zero long is = let same : end ≡ r = cc in ap (λ (x : HistoryRecord). Some (mark_of x)) (sym same)
last_at (r ∷ []) end (suc n) long is = cc
last_at (r ∷ s ∷ records) end zero long is = absurd (omega (arith, long))
last_at (r ∷ s ∷ records) end (suc n) long is = last_at (s ∷ records) end n (omega (arith, long)) is

-- the last record tells whether all are before
pub end_tells : (next mark : Mark) (records : List HistoryRecord) (end : HistoryRecord) (b : Bool) → RecordsAscend None records → Some end ≡ slice_get records (length records - 1) → mark ≡ mark_of end → b ≡ is_before mark next
    → (IsTrue b → RecordsStay (Some next) records) × (RecordsStay (Some next) records → IsTrue b)
end_tells next mark [] end b ascend is same told = let none : ⊥ = cc in absurd none
end_tells next mark (r ∷ records) end b ascend is same told =
    let at : Some end ≡ slice_get (r ∷ records) (length records) = subst (λ (n : ℕ). Some end ≡ slice_get (r ∷ records) n) (omega arith) is in
    let mark_is : last_mark (r ∷ records) ≡ Some (mark_of end) = last_at (r ∷ records) end (length records) refl at in
    let low : b ≡ is_before (mark_of end) next = told ∙ ap (λ (m : Mark). is_before m next) same in
    (λ yes. stay_last next (mark_of end) None (r ∷ records) ascend mark_is (sym low ∙ yes), λ stays. low ∙ last_stay next (mark_of end) (r ∷ records) stays mark_is)
