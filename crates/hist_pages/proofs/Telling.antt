-- The records along a way through all slots are those of the versions of every key, in the order of the device.
use Rattle.std.proofs.Common.{◌≡◌, ◌<◌, ◌++◌, ◌∙◌, ℕ, zero, suc, true, List, [], ◌∷◌, length, get_or, Option, Some, None, refl, sym, ap, subst, inl, inr, arith}
use Rattle.std.specs.Prelude.{slice_get, bytes_eq, ◌==◌}
use Rattle.std.specs.List.{All, AllPairs}
use Rattle.std.specs.Ordering.{nat_cmp, ordering_then, is_lt}
use Rattle.std.specs.Cmp.Lexicographic.{slice_cmp}
use Rattle.std.specs.declared.cmp.Ordering.{Ordering}
use Rattle.std.specs.declared.cmp.Ordering.TheVariants.{Less, Equal, Greater}
use Rattle.std.proofs.lemmas.Bool.{cases_Bool, and_parts, eqb-true}
use Rattle.std.proofs.lemmas.Cmp.{nat_cmp_total, nat_list_cmp_total, tied_itself}
use Rattle.std.proofs.lemmas.List.{append-nil, append_assoc}
use Rattle.std.proofs.lemmas.List.Elements.{at_from_Contains}
use Rattle.std.proofs.lemmas.Option.{same_Some, slice_get_within}
use Rattle.std.proofs.lemmas.Slice.Eq.{bytes_eq-Decides}
use Rattle.item.specs.declared.change.Change.{Change}
use Rattle.item.specs.declared.change.Change.TheVariants.{Put as Puts, Remove as Removes}
use Rattle.stamp.specs.declared.Version.{Version}
use Rattle.kv_model.specs.Holds.{Descends, Member}
use Rattle.row_page.specs.Changes.{change_in, version_in}
use Rattle.stored.specs.HistoryTree.{AreAlike, HistoryRecord, NamesOnce, RecordFits, RecordsAscend, is_before, mark_of}
use Rattle.hist_store.specs.declared.key_history.KeyHistory.{KeyHistory}
use Rattle.hist_store.specs.Order.{IsSlotBelow, IsWay, rank_at, rank_key}
use Rattle.hist_store.specs.Versions.{is_of, versions_of}
use Rattle.hist_pages.specs.declared.leaf.HistoryLeaf.{HistoryLeaf}
use Rattle.hist_pages.specs.declared.leaves.Leaves.{Leaves}
use Rattle.hist_pages.specs.Leaves.{AreLeavesOf}
use Rattle.hist_pages.specs.Making.{Along, AreByStamp, AreGone, ComesAfter, Have, HaveRecords, records_of}
use Rattle.hist_pages.specs.Records.{AreRecordsOf, Fits, VersionsFit, change_on, record_of, stamp_cmp}
use Rattle.hist_pages.proofs.Cutting.{AreFit, leaves_are}
use Rattle.hist_pages.proofs.Members.{all_at, all_of, descends_both, mapped_member, member_either, member_left, member_mapped, member_right, of_all}

-- ---- a version and its record

change_back : (change : Change) → change_in (change_on change) ≡ change
change_back (Puts value) = refl
change_back Removes = refl

version_with : Version Change → Change → Version Change
version_with v change = record { window = v.window; change = change }

pub version_back : (table : ℕ) (key : List ℕ) (v : Version Change) → version_in (record_of table key v).version ≡ v
unfolding version_with
version_back table key v = ap (version_with v) (change_back v.change)

-- ---- the order of records

-- the second comes before, and is of another version
pub record Apart (s r : HistoryRecord) : Type 0 where
  pub before : is_before (mark_of r) (mark_of s) ≡ true
  pub differ : AreAlike r s → ⊥

of_key : (h : KeyHistory) (w v : Version Change) → ComesAfter w v → Apart (record_of h.table h.key w) (record_of h.table h.key v)
of_key h w v after = record {
  before =
      ap (λ (o : Ordering). is_lt (ordering_then o (ordering_then (slice_cmp nat_cmp h.key h.key) (stamp_cmp v w)))) (tied_itself nat_cmp_total h.table)
      ∙ ap (λ (o : Ordering). is_lt (ordering_then o (stamp_cmp v w))) (tied_itself nat_list_cmp_total h.key)
      ∙ ap is_lt after.stamps;
  differ = λ alike. after.names alike.name;
}

pub part_apart : (h : KeyHistory) (sorted : List (Version Change)) → Descends ComesAfter sorted → Descends Apart (records_of h sorted)
part_apart h [] d = tt
part_apart h (v ∷ sorted) d = (
  (λ s there. let m = mapped_member (record_of h.table h.key) s sorted there in subst (λ (x : HistoryRecord). Apart x (record_of h.table h.key v)) (sym m.2) (of_key h m.0 v (d.0 m.0 m.1))),
  part_apart h sorted d.1,
)

lesser : (a b c : Ordering) → ordering_then a b ≡ Less → is_lt (ordering_then a (ordering_then b c)) ≡ true
lesser Less b c e = refl
lesser Equal Less c e = refl
lesser Equal Equal c e = absurd cc
lesser Equal Greater c e = absurd cc
lesser Greater b c e = absurd cc

-- the records of a lesser key
of_keys : (r s : HistoryRecord) → slice_cmp nat_cmp (r.table ∷ r.key) (s.table ∷ s.key) ≡ Less → Apart s r
of_keys r s less = record {
  before = lesser (nat_cmp r.table s.table) (slice_cmp nat_cmp r.key s.key) (ordering_then (nat_cmp r.version.window.commit s.version.window.commit) (ordering_then (nat_cmp r.version.window.name.run s.version.window.name.run) (nat_cmp r.version.window.name.id s.version.window.name.id))) less;
  differ = λ alike.
      let both : r.table ∷ r.key ≡ s.table ∷ s.key = ap (λ (n : ℕ). n ∷ r.key) alike.table ∙ ap (λ (k : List ℕ). s.table ∷ k) alike.key in
      let same : slice_cmp nat_cmp (r.table ∷ r.key) (s.table ∷ s.key) ≡ Equal = subst (λ (l : List ℕ). slice_cmp nat_cmp (r.table ∷ r.key) l ≡ Equal) both (tied_itself nat_list_cmp_total (r.table ∷ r.key)) in
      clash (slice_cmp nat_cmp (r.table ∷ r.key) (s.table ∷ s.key)) less same;
} where
  clash : (o : Ordering) → o ≡ Less → o ≡ Equal → ⊥
  clash o less same = absurd (let e : Less ≡ Equal = sym less ∙ same in cc)

ascends_on : (r : HistoryRecord) (records : List HistoryRecord) → Descends Apart (r ∷ records) → RecordsAscend (Some (mark_of r)) records
ascends_on r [] d = tt
ascends_on r (s ∷ records) d = ((d.0 s (inl refl)).before, ascends_on s records d.1)

ascends : (records : List HistoryRecord) → Descends Apart records → RecordsAscend None records
ascends [] d = tt
ascends (r ∷ records) d = (refl, ascends_on r records d)

once : (records : List HistoryRecord) → Descends Apart records → NamesOnce records
once [] d = tt
once (r ∷ records) d = (all_of (λ (s : HistoryRecord). AreAlike r s → ⊥) records (λ s there. (d.0 s there).differ), once records d.1)

-- ---- along a way

-- one slot more
pub along_more : (slots : List KeyHistory) (front : List ℕ) (i : ℕ) (h : KeyHistory) (sorted : List (Version Change)) (records : List HistoryRecord) → slice_get slots i ≡ Some h → versions_of h.table h.key slots ≡ h.versions → AreByStamp h.versions sorted
    → Along slots front records → Along slots (front ++ i ∷ []) (records ++ records_of h sorted)
along_more slots [] i h sorted records at own by none = record { slot = h; at = at; own = own; sorted = sorted; by_stamp = by; others = []; go_on = refl; whole = ap (λ (l : List HistoryRecord). l ++ records_of h sorted) none ∙ sym (nothing (records_of h sorted)) } where
  nothing : (l : List HistoryRecord) → l ++ [] ≡ l
  nothing [] = refl
  nothing (x ∷ l) = ap (λ (k : List HistoryRecord). x ∷ k) (nothing l)
along_more slots (j ∷ front) i h sorted records at own by p = record {
  slot = p.slot;
  at = p.at;
  own = p.own;
  sorted = p.sorted;
  by_stamp = p.by_stamp;
  others = p.others ++ records_of h sorted;
  go_on = along_more slots front i h sorted p.others at own by p.go_on;
  whole = ap (λ (l : List HistoryRecord). l ++ records_of h sorted) p.whole ∙ append_assoc (records_of p.slot p.sorted) p.others (records_of h sorted);
}

-- a record is of a version of a slot of the way
record IsAt (slots : List KeyHistory) (way : List ℕ) (r : HistoryRecord) : Type 0 where
  place : ℕ
  within : place < length way
  slot : KeyHistory
  at : slice_get slots (get_or way place 0) ≡ Some slot
  own : versions_of slot.table slot.key slots ≡ slot.versions
  version : Version Change
  there : Member version slot.versions
  is : r ≡ record_of slot.table slot.key version

is_at : (slots : List KeyHistory) (way : List ℕ) (records : List HistoryRecord) (r : HistoryRecord) → Along slots way records → Member r records → IsAt slots way r
is_at slots [] records r none there = absurd (subst (Member r) none there)
is_at slots (i ∷ way) records r p there = elim (member_either r (records_of p.slot p.sorted) p.others (subst (Member r) p.whole there)) [
  | inl here ↦
      let m = mapped_member (record_of p.slot.table p.slot.key) r p.sorted here in
      record { place = 0; within = omega arith; slot = p.slot; at = p.at; own = p.own; version = m.0; there = p.by_stamp.only m.0 m.1; is = m.2 }
  | inr later ↦
      let q = is_at slots way p.others r p.go_on later in
      record { place = suc q.place; within = (let lt = q.within in omega (arith, lt)); slot = q.slot; at = q.at; own = q.own; version = q.version; there = q.there; is = q.is }
]

only : (slots : List KeyHistory) (way : List ℕ) (records : List HistoryRecord) (r : HistoryRecord) → Along slots way records → Member r records → Member (version_in r.version) (versions_of r.table r.key slots)
only slots way records r along there =
    let q = is_at slots way records r along there in
    subst (λ (x : HistoryRecord). Member (version_in x.version) (versions_of x.table x.key slots)) (sym q.is)
    (subst (λ (l : List (Version Change)). Member (version_in (record_of q.slot.table q.slot.key q.version).version) l) (sym q.own)
    (subst (λ (v : Version Change). Member v q.slot.versions) (sym (version_back q.slot.table q.slot.key q.version)) q.there))

-- a version of a slot of the way is among the records
there_at : (slots : List KeyHistory) (way : List ℕ) (records : List HistoryRecord) (k : ℕ) (h : KeyHistory) (v : Version Change) → Along slots way records → k < length way → slice_get slots (get_or way k 0) ≡ Some h → Member v h.versions → Member (record_of h.table h.key v) records
there_at slots [] records k h v along lt at there = absurd (omega (arith, lt))
there_at slots (i ∷ way) records zero h v p lt at there =
    let same : p.slot ≡ h = same_Some p.slot h (sym p.at ∙ at) in
    let here : Member v p.slot.versions = subst (λ (x : KeyHistory). Member v x.versions) (sym same) there in
    subst (λ (x : KeyHistory). Member (record_of x.table x.key v) records) same
    (subst (Member (record_of p.slot.table p.slot.key v)) (sym p.whole)
    (member_left (record_of p.slot.table p.slot.key v) (records_of p.slot p.sorted) p.others (member_mapped (record_of p.slot.table p.slot.key) v p.sorted (p.by_stamp.all v here))))
there_at slots (i ∷ way) records (suc k) h v p lt at there =
    subst (Member (record_of h.table h.key v)) (sym p.whole)
    (member_right (record_of h.table h.key v) (records_of p.slot p.sorted) p.others (there_at slots way p.others k h v p.go_on (omega (arith, lt)) at there))

-- the slot of a version
record IsIn (slots : List KeyHistory) (table : ℕ) (key : List ℕ) (v : Version Change) : Type 0 where
  place : ℕ
  slot : KeyHistory
  at : slice_get slots place ≡ Some slot
  table_is : slot.table ≡ table
  key_is : slot.key ≡ key
  there : Member v slot.versions

is_in : (slots : List KeyHistory) (table : ℕ) (key : List ℕ) (v : Version Change) → Member v (versions_of table key slots) → IsIn slots table key v
is_in [] table key v there = absurd there
is_in (h ∷ slots) table key v there = elim (cases_Bool (is_of table key h)) [
  | inl t ↦
      let p = and_parts (h.table == table) (bytes_eq h.key key) t in
      record { place = 0; slot = h; at = refl; table_is = eqb-true h.table table p.0; key_is = (bytes_eq-Decides h.key key).0 p.1; there = rw t at there }
  | inr f ↦
      let q = is_in slots table key v (rw f at there) in
      record { place = suc q.place; slot = q.slot; at = q.at; table_is = q.table_is; key_is = q.key_is; there = q.there }
]

all : (slots : List KeyHistory) (way : List ℕ) (records : List HistoryRecord) → IsWay slots way → Along slots way records → (table : ℕ) (key : List ℕ) (v : Version Change) → Member v (versions_of table key slots) → Member (record_of table key v) records
all slots way records w along table key v there =
    let q = is_in slots table key v there in
    let k = at_from_Contains way q.place (w.whole q.place (slice_get_within slots q.place q.slot q.at)) in
    let found = there_at slots way records k.0 q.slot v along k.1 (ap (slice_get slots) (k.2 0) ∙ q.at) q.there in
    subst (λ (l : List ℕ). Member (record_of table l v) records) q.key_is (subst (λ (n : ℕ). Member (record_of n q.slot.key v) records) q.table_is found)

-- ---- in order

apart : (slots : List KeyHistory) (way : List ℕ) (records : List HistoryRecord) → AllPairs (IsSlotBelow slots) way → Along slots way records → Descends Apart records
apart slots [] records up none = subst (Descends Apart) (sym none) tt
apart slots (i ∷ way) records up p =
    subst (Descends Apart) (sym p.whole)
    (descends_both Apart (records_of p.slot p.sorted) p.others (part_apart p.slot p.sorted p.by_stamp.rises)
    (apart slots way p.others (λ a b d lt within. up (suc a) (suc b) d (omega (arith, lt)) (omega (arith, within))) p.go_on) cross) where
      cross : (r s : HistoryRecord) → Member r (records_of p.slot p.sorted) → Member s p.others → Apart s r
      cross r s here there =
          let m = mapped_member (record_of p.slot.table p.slot.key) r p.sorted here in
          let q = is_at slots way p.others s p.go_on there in
          let lt = q.within in
          let below : slice_cmp nat_cmp (rank_key (Some p.slot)) (rank_key (Some q.slot)) ≡ Less =
          ap (λ (o : Option KeyHistory). slice_cmp nat_cmp (rank_key o) (rank_key (Some q.slot))) (sym p.at)
          ∙ (ap (λ (o : Option KeyHistory). slice_cmp nat_cmp (rank_at slots i) (rank_key o)) (sym q.at) ∙ up 0 (suc q.place) 0 (omega arith) (omega (arith, lt)))
          in
          subst (λ (x : HistoryRecord). Apart x r) (sym q.is)
          (subst (λ (x : HistoryRecord). Apart (record_of q.slot.table q.slot.key q.version) x) (sym m.2)
          (of_keys (record_of p.slot.table p.slot.key m.0) (record_of q.slot.table q.slot.key q.version) below))

pub told : (slots : List KeyHistory) (way : List ℕ) (records : List HistoryRecord) → IsWay slots way → Along slots way records → AreRecordsOf slots records
told slots way records w along =
    let d = apart slots way records w.ascends along in
    record { all = all slots way records w along; only = λ r there. only slots way records r along there; ascend = ascends records d; once = once records d }

-- ---- they fit

pub fits_at : (slots : List KeyHistory) (i : ℕ) (h : KeyHistory) → Fits slots → slice_get slots i ≡ Some h → VersionsFit h
fits_at [] i h fit at = absurd cc
fits_at (x ∷ slots) zero h fit at = subst VersionsFit (same_Some x h at) fit.0
fits_at (x ∷ slots) (suc i) h fit at = fits_at slots i h fit.1 at

pub are_fit : (slots : List KeyHistory) (way : List ℕ) (records : List HistoryRecord) → IsWay slots way → Along slots way records → Fits slots → AreFit records
are_fit slots way records w along fit =
    let d = apart slots way records w.ascends along in
    record { fit = all_of (λ (r : HistoryRecord). RecordFits r) records (λ r there. fits r (is_at slots way records r along there)); ascend = ascends records d; once = once records d } where
      fits : (r : HistoryRecord) → IsAt slots way r → RecordFits r
      fits r q = subst RecordFits (sym q.is) (of_all (λ (v : Version Change). RecordFits (record_of q.slot.table q.slot.key v)) q.slot.versions q.version (fits_at slots (get_or way q.place 0) q.slot fit q.at) q.there)

-- ---- one slot after the other

pub begins : (slots : List KeyHistory) (way : List ℕ) (leaves : Leaves) → HaveRecords leaves [] → AreGone slots way way leaves
begins slots way leaves have = record { front = []; records = []; whole = refl; along = refl; have = have }

pub goes_on : (slots : List KeyHistory) (way left rest : List ℕ) (leaves now : Leaves) (i : ℕ) (h : KeyHistory) → left ≡ i ∷ rest → slice_get slots i ≡ Some h → versions_of h.table h.key slots ≡ h.versions
    → (sorted : List (Version Change)) × AreByStamp h.versions sorted × ((records : List HistoryRecord) → HaveRecords leaves records → HaveRecords now (records ++ records_of h sorted))
    → AreGone slots way left leaves → AreGone slots way rest now
goes_on slots way left rest leaves now i h first at own (sorted, by, put) g = record {
  front = g.front ++ i ∷ [];
  records = g.records ++ records_of h sorted;
  whole = append_assoc g.front (i ∷ []) rest ∙ ap (λ (l : List ℕ). g.front ++ l) (sym first) ∙ g.whole;
  along = along_more slots g.front i h sorted g.records at own by g.along;
  have = put g.records g.have;
}

-- a way names no slot that is not there
pub slot_there : (slots : List KeyHistory) (way left rest : List ℕ) (leaves : Leaves) (i : ℕ) → IsWay slots way → left ≡ i ∷ rest → slice_get slots i ≡ None → AreGone slots way left leaves → ⊥
slot_there slots way left rest leaves i w first none g =
    let way_is : g.front ++ i ∷ rest ≡ way = ap (λ (l : List ℕ). g.front ++ l) (sym first) ∙ g.whole in
    past slots i none (all_at (λ k. k < length slots) g.front i rest (subst (All (λ k. k < length slots)) (sym way_is) w.within)) where
      past : (slots : List KeyHistory) (i : ℕ) → slice_get slots i ≡ None → i < length slots → ⊥
      past [] i none lt = omega (arith, lt)
      past (h ∷ slots) zero none lt = absurd cc
      past (h ∷ slots) (suc i) none lt = past slots i none (omega (arith, lt))

pub ends : (slots : List KeyHistory) (way left : List ℕ) (leaves : Leaves) (done : List HistoryLeaf) → IsWay slots way → Fits slots → left ≡ [] → ((records : List HistoryRecord) → HaveRecords leaves records → Have done records)
    → AreGone slots way left leaves → AreLeavesOf slots done
ends slots way left leaves done w fit none all_in g =
    let whole : g.front ≡ way = sym (append-nil g.front) ∙ (ap (λ (l : List ℕ). g.front ++ l) (sym none) ∙ g.whole) in
    let along : Along slots way g.records = subst (λ (l : List ℕ). Along slots l g.records) whole g.along in
    record { records = g.records; are = told slots way g.records w along; cut = leaves_are done g.records (all_in g.records g.have) (are_fit slots way g.records w along fit) }
