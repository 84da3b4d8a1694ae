-- Devices some of whose leaves are at fault, beside the whole ones.
use Rattle.std.proofs.Common.{◌≡◌, ℕ, List, [], ◌∷◌, Option, Some, None, inl, inr, refl, sym, subst}
use Rattle.std.specs.Prelude.{slice_get}
use Rattle.wt_code.specs.declared.refusals.Refusal.{Refusal}
use Rattle.wt_code.specs.declared.refusals.Refusal.TheVariants.{DiskFault}
use Rattle.turtle.proofs.Choice.{chooses_one}
use Rattle.disk_model.specs.Ranges.{range}
use Rattle.le_codec.specs.Images.{block_of}
use Rattle.device_layout.specs.declared.slot.Slot.{Slot}
use Rattle.kv_model.specs.Content.{Content, nothing}
use Rattle.kv_model.specs.History.{Table}
use Rattle.kv_model.specs.Regular.{IsRegular}
use Rattle.stamp.specs.declared.version.Version.{Version}
use Rattle.row_page.specs.Changes.{PageChange}
use Rattle.row_page.specs.Rows.{Row}
use Rattle.leaf_rows.specs.declared.marks.Marks.{Marks}
use Rattle.stored.specs.TableTree.{Entry}
use Rattle.stored.specs.Records.{Record, record_image}
use Rattle.stored.specs.Stored.{IsBlank, IsOn, Reads, Stored}
use Rattle.device_leaf.specs.declared.place.Place.{Place}
use Rattle.device_leaf.proofs.Opens.{no_blank}
use Rattle.tree_open.specs.Damage.{Refused}
use Rattle.recover_open.specs.declared.wholes.Whole.{Whole}
use Rattle.recover_open.specs.Surveys.{IsOfDisk}
use Rattle.recover_open.specs.Wholes.{IsWholeDamage, SurveysWhole}
use Rattle.recover_open.proofs.Devices.{same_record, whole_damage_no_content}
use Rattle.leaf_frame.specs.Leaf.{HeldLeaf}
use Rattle.device_read.specs.Leaves.{HasPage, HasValue}
use Rattle.device_read.specs.Newest.{record_at}
use Rattle.device_read.specs.Readers.{Held, HasPages, IsReaderOf, entries_at, number_at, tables_in}
use Rattle.device_read.specs.Refusals.{HasNumbers, OpenRefused}
use Rattle.device_read.specs.Rows.{value_in}
use Rattle.device_read.specs.Spoilt.{IsSpoiltFrom}
use Rattle.device_read.specs.Steps.{CanOpen, HasNumbersAbove, IsLeafAt, IsValueOf, RefusesSurveyed}
use Rattle.device_read.proofs.LeafPlaces.{held_page_at}
use Rattle.device_read.proofs.Numbers.{numbers_had, numbers_refused}
use Rattle.device_read.proofs.Readings.{value_is}

pub itself : (bytes : List ℕ) (h : Held) → IsReaderOf bytes h → IsSpoiltFrom bytes bytes
itself bytes h reader = record { held = h; opens = reader; blank = λ none. none; above = λ place w surveyed. (place, surveyed); leaves = λ k place i leaf has there. there }

pub reader_whole : (whole bytes : List ℕ) (h : Held) → IsSpoiltFrom whole bytes → IsReaderOf bytes h → IsReaderOf whole h
reader_whole whole bytes h spoilt (inl (blank, none)) = inl (spoilt.blank blank, none)
reader_whole whole bytes h spoilt (inr (place, w, surveyed, same)) = let there = spoilt.above place w surveyed in inr (there.0, w, there.1, same)

-- ---- what a leaf gives

value_moves : (whole bytes : List ℕ) (es : List Entry) (key : List ℕ) (m : Marks) (ids : List ℕ) (newest : Option (Version PageChange)) (v : Option (List ℕ)) → ((i : ℕ) (leaf : HeldLeaf) → IsLeafAt bytes es i m ids leaf → IsLeafAt whole es i m ids leaf) → IsValueOf bytes es key m ids newest v → IsValueOf whole es key m ids newest v
value_moves whole bytes [] key m ids newest v more is = is
value_moves whole bytes (e ∷ es) key m ids newest v more (i, leaf, under, at, is) = (i, leaf, under, more i leaf at, is)

-- the value of a key whose leaf is there is that of the whole device
pub value_whole : (whole bytes : List ℕ) (content : Content) (h : Held) (place : ℕ) (t : Table) (key : List ℕ) (v : Option (List ℕ)) → IsRegular content → IsSpoiltFrom whole bytes → IsReaderOf bytes h → Reads whole content → slice_get (tables_in h) place ≡ Some t → HasValue bytes h place key v → v ≡ value_in content t.number key
value_whole whole bytes content h place t key v regular spoilt reader reads at has =
    value_is whole content h place t key v regular (reader_whole whole bytes h spoilt reader) reads at
    (value_moves whole bytes (entries_at h place) key h.marks h.ids (record_at (number_at h place) key h.newest) v (λ i leaf there. spoilt.leaves h place i leaf reader there) has)

-- the page of a leaf that is there is that of the whole device
pub page_whole : (whole bytes : List ℕ) (h : Held) (place : ℕ) (pages : List (List Row)) (i : ℕ) (page : List Row) → IsSpoiltFrom whole bytes → IsReaderOf bytes h → HasPages whole h place pages → HasPage bytes h place i page → slice_get pages i ≡ Some page
page_whole whole bytes h place pages i page spoilt reader has (leaf, there, is) = held_page_at whole h place pages i page has (leaf, spoilt.leaves h place i leaf reader there, is)

-- ---- openings

-- a survey is refused on no blank device
pub blank_sole : (fault known : Type 0) (bytes : List ℕ) (r : Refusal) → known → IsBlank bytes → Refused fault known (IsWholeDamage bytes) r → IsOfDisk r
blank_sole fault known bytes r k blank (inl (is, failed)) = inl is
blank_sole fault known bytes r k blank (inr (inl is)) = inr is
blank_sole fault known bytes r k blank (inr (inr (at, want, found, is, why))) = absurd (whole_damage_no_content bytes at want found nothing (why k) (inl (blank, refl)))

pub survey_sole : (fault known : Type 0) (bytes : List ℕ) (r : Refusal) → known → CanOpen bytes → Refused fault known (IsWholeDamage bytes) r → ((place : Place) (w : Whole) → SurveysWhole bytes place w → IsOfDisk r) → RefusesSurveyed bytes r
survey_sole fault known bytes r k (h, inl (blank, none)) why sole = inl (blank_sole fault known bytes r k blank why)
survey_sole fault known bytes r k (h, inr (place, w, surveyed, same)) why sole = inl (sole place w surveyed)

one_slot : (x y : Slot) → Some x ≡ Some y → x ≡ y
one_slot x y same = cc

-- one device has one record
record_one : (bytes : List ℕ) (place other : Place) (a b : Whole) → SurveysWhole bytes place a → SurveysWhole bytes other b → a.record ≡ b.record
record_one bytes place other a b one two =
    let slots : one.slot ≡ two.slot = one_slot one.slot two.slot (chooses_one bytes (Some one.slot) (Some two.slot) one.names.chosen.chooses two.names.chosen.chooses) in
    same_record (range bytes one.slot.offset one.slot.size) a.record b.record one.names.is_record two.names.is_record one.names.is (subst (λ (s : Slot). range bytes s.offset s.size ≡ block_of (record_image b.record)) (sym slots) two.names.is)

pub numbers_one : (bytes : List ℕ) (place : Place) (a : Whole) → SurveysWhole bytes place a → HasNumbers a.record → HasNumbersAbove bytes
numbers_one bytes place a surveyed has other b also = subst (λ (r : Record). HasNumbers r) (record_one bytes place other a b surveyed also) has

pub numbers_none : (bytes : List ℕ) → IsBlank bytes → HasNumbersAbove bytes
numbers_none bytes blank other b also = absurd (no_blank bytes also.slot also.names.chosen blank)

-- the numbers of the whole device are those that were read
pub numbers_whole : (whole bytes : List ℕ) → IsSpoiltFrom whole bytes → HasNumbersAbove bytes → (s : Stored) → IsOn whole s → HasNumbers s.kept
numbers_whole whole bytes spoilt numbers s on = by_reader spoilt.opens
  where
    none_some : (s : Slot) → let none : Option Slot = None in none ≡ Some s → ⊥
    none_some s same = cc

    by_reader : IsReaderOf bytes spoilt.held → HasNumbers s.kept
    by_reader (inl (blank, none)) = absurd (none_some s.slot (chooses_one whole None (Some s.slot) (spoilt.blank blank).shut on.chosen))
    by_reader (inr (place, a, surveyed, same)) = let there = spoilt.above place a surveyed in numbers_had whole there.0 a s there.1 (numbers place a surveyed) on

-- why it is not opened is why the whole device is not
pub refused_whole : (fault : Type 0) (whole bytes : List ℕ) (r : Refusal) → IsSpoiltFrom whole bytes → (r ≡ DiskFault → fault) → RefusesSurveyed bytes r → OpenRefused fault (Unit {0}) whole r
refused_whole fault whole bytes r spoilt failed (inl (inl is)) = inl (inl (is, failed is))
refused_whole fault whole bytes r spoilt failed (inl (inr is)) = inl (inr (inl is))
refused_whole fault whole bytes r spoilt failed (inr (place, a, surveyed, why)) = let there = spoilt.above place a surveyed in numbers_refused fault (Unit {0}) whole there.0 a r (λ k. there.1) why
