-- The records of a history rise by table and key.
use Rattle.std.proofs.Common.{◌≡◌, true, false, IsTrue, List, [], ◌∷◌, ◌++◌, Option, Some, None, refl, sym, ap, subst, ◌∙◌, inl, inr, ℕ, arith}
use Rattle.std.specs.List.{AllByRecursion}
use Rattle.std.specs.Cmp.Lexicographic.{slice_cmp}
use Rattle.std.specs.Ordering.{is_lt, nat_cmp, on, ordering_reverse, ordering_then, then_cmp}
use Rattle.std.specs.declared.cmp.Ordering.{Ordering}
use Rattle.std.specs.declared.cmp.Ordering.TheVariants.{Less, Equal, Greater}
use Rattle.std.proofs.lemmas.Bool.{both_ways, false_from_ne_true}
use Rattle.std.proofs.lemmas.List.{append-nil}
use Rattle.stored.specs.HistoryTree.{HistoryBears, HistoryClimbs, HistoryEntry, HistoryRecord, HistoryStays, HistoryTree, Mark, RecordsAscend, first_record, history_kind, history_root_entry, is_before, mark_cmp, mark_of, start}
use Rattle.stored.specs.Records.{Root}
use Rattle.stored.specs.Tree.{AllBear, bottom, join}
use Rattle.inner_page.proofs.MarkOrder.{before_trans, mark_total}
use Rattle.hist_open.specs.Trees.{HasHistory}
use Rattle.device_read.specs.Newest.{key_cmp}
use Rattle.device_read.proofs.Lists.{all_both}
use Rattle.device_read.proofs.NewestRecords.{KeysRise, key_total}
use Rattle.device_read.proofs.Parts.{number_less}

-- ---- marks

less_then : (a b c : Ordering) → ordering_then a b ≡ Less → ordering_then a (ordering_then b c) ≡ Less
less_then Less b c is = refl
less_then Equal Less c is = refl
less_then Equal Equal c is = absurd cc
less_then Equal Greater c is = absurd cc
less_then Greater b c is = absurd cc

-- of one key
abbrev tail_cmp : Mark → Mark → Ordering
tail_cmp = then_cmp (on (λ m. m.commit) nat_cmp) (then_cmp (on (λ m. m.name.run) nat_cmp) (on (λ m. m.name.id) nat_cmp))

-- of a key before another's
key_before : (r s : HistoryRecord) → key_cmp r s ≡ Less → is_before (mark_of r) (mark_of s) ≡ true
key_before r s less = ap is_lt (less_then (nat_cmp r.table s.table) (slice_cmp nat_cmp r.key s.key) (tail_cmp (mark_of r) (mark_of s)) less)

-- what is not before another is not of a key before its
not_greater : (r s : HistoryRecord) → is_before (mark_of s) (mark_of r) ≡ false → key_cmp r s ≡ Greater → ⊥
not_greater r s isnt greater = both_ways (is_before (mark_of s) (mark_of r)) isnt (key_before s r (key_total.antisymm s r ∙ ap ordering_reverse greater))

not_turned : (o : Ordering) → o ≡ ordering_reverse o → is_lt o ≡ true → ⊥
not_turned Less same is = cc
not_turned Equal same is = cc
not_turned Greater same is = cc

back : (x y : Mark) → is_before x y ≡ true → is_before y x ≡ false
back x y is = false_from_ne_true (is_before y x) (λ other. not_turned (mark_cmp x x) (mark_total.antisymm x x) (before_trans x y x is other))

-- ---- records that ascend

abbrev AllAfter : Mark → List HistoryRecord → Type 0
AllAfter mark records = AllByRecursion (λ (s : HistoryRecord). is_before mark (mark_of s) ≡ true) records

after_more : (x y : Mark) (records : List HistoryRecord) → is_before x y ≡ true → AllAfter y records → AllAfter x records
after_more x y [] is all = tt
after_more x y (r ∷ records) is all = (before_trans x y (mark_of r) is all.0, after_more x y records is all.1)

all_after : (mark : Mark) (records : List HistoryRecord) → RecordsAscend (Some mark) records → AllAfter mark records
all_after mark [] up = tt
all_after mark (r ∷ records) up = (up.0, after_more mark (mark_of r) records up.0 (all_after (mark_of r) records up.1))

-- ---- leaf after leaf

abbrev AllFrom : Mark → List HistoryRecord → Type 0
AllFrom mark records = AllByRecursion (λ (s : HistoryRecord). is_before (mark_of s) mark ≡ false) records

less_is : (o : Ordering) → is_lt o ≡ true → o ≡ Less
less_is Less e = refl
less_is Equal e = absurd cc
less_is Greater e = absurd cc

behind_same : (a b : Ordering) → (a ≡ Less → ⊥) → ordering_then a b ≡ Less → b ≡ Less
behind_same Less b none is = absurd (none refl)
behind_same Equal b none is = is
behind_same Greater b none is = absurd cc

no_number : (n : ℕ) → nat_cmp n 0 ≡ Less → ⊥
no_number n is = let less = number_less n 0 is in omega (arith, less)

no_key : (key : List ℕ) → slice_cmp nat_cmp key [] ≡ Less → ⊥
no_key [] is = cc
no_key (b ∷ key) is = cc

-- nothing is before what stands before every record
nothing_before : (x : Mark) → is_before x start ≡ false
nothing_before x = false_from_ne_true (is_before x start) (λ is.
    let keys : ordering_then (slice_cmp nat_cmp x.key []) (tail_cmp x start) ≡ Less = behind_same (nat_cmp x.table 0) (ordering_then (slice_cmp nat_cmp x.key []) (tail_cmp x start)) (no_number x.table) (less_is (mark_cmp x start) is) in
    let stamps : tail_cmp x start ≡ Less = behind_same (slice_cmp nat_cmp x.key []) (tail_cmp x start) (no_key x.key) keys in
    let runs : ordering_then (nat_cmp x.name.run 0) (nat_cmp x.name.id 0) ≡ Less = behind_same (nat_cmp x.commit 0) (ordering_then (nat_cmp x.name.run 0) (nat_cmp x.name.id 0)) (no_number x.commit) stamps in
    no_number x.name.id (behind_same (nat_cmp x.name.run 0) (nat_cmp x.name.id 0) (no_number x.name.run) runs))

from_of : (mark : Mark) (records : List HistoryRecord) → AllAfter mark records → AllFrom mark records
from_of mark [] all = tt
from_of mark (r ∷ records) all = (back mark (mark_of r) all.0, from_of mark records all.1)

leaf_ascends : (e : HistoryEntry) (p : List HistoryRecord) → HistoryBears e p → RecordsAscend None p
leaf_ascends e p bears = elim bears.leaf [
  | inl none ↦ subst (λ (l : List HistoryRecord). RecordsAscend None l) (sym none.1) tt
  | inr are ↦ are.1.ascend
]

every : (records : List HistoryRecord) → AllFrom start records
every [] = tt
every (r ∷ records) = (nothing_before (mark_of r), every records)

itself : (x : Mark) → is_before x x ≡ false
itself x = false_from_ne_true (is_before x x) (λ own. both_ways (is_before x x) (back x x own) own)

begun : (mark : Mark) (records : List HistoryRecord) → first_record records ≡ Some mark → RecordsAscend None records → AllFrom mark records
begun mark [] is up = absurd cc
begun mark (r ∷ records) is up =
    let same : mark_of r ≡ mark = cc in
    subst (λ (m : Mark). AllFrom m (r ∷ records)) same (itself (mark_of r), from_of (mark_of r) records (all_after (mark_of r) records up.1))

-- a leaf's records are not before its entry's
leaf_from : (e : HistoryEntry) (records : List HistoryRecord) → HistoryBears e records → AllFrom e.least records
leaf_from e records bears = elim bears.begins [
  | inl first ↦ subst (λ (m : Mark). AllFrom m records) (sym first) (every records)
  | inr is ↦ begun e.least records is (leaf_ascends e records bears)
]

not_sooner : (x y z : Mark) → is_before x y ≡ true → is_before z y ≡ false → is_before z x ≡ false
not_sooner x y z less isnt = false_from_ne_true (is_before z x) (λ is. both_ways (is_before z y) isnt (before_trans z x y is less))

from_sooner : (x y : Mark) (records : List HistoryRecord) → is_before x y ≡ true → AllFrom y records → AllFrom x records
from_sooner x y [] less all = tt
from_sooner x y (r ∷ records) less all = (not_sooner x y (mark_of r) less all.0, from_sooner x y records less all.1)

none_left : (leaves : List (List HistoryRecord)) → AllBear history_kind [] leaves → join leaves ≡ []
none_left [] bear = refl
none_left (p ∷ leaves) bear = absurd bear

-- those of all leaves are not before the first entry's
all_from : (e : HistoryEntry) (es : List HistoryEntry) (leaves : List (List HistoryRecord)) → HistoryClimbs (e ∷ es) → AllBear history_kind (e ∷ es) leaves → AllFrom e.least (join leaves)
all_from e es [] climbs bear = absurd bear
all_from e [] (p ∷ leaves) climbs bear = all_both (λ (s : HistoryRecord). is_before (mark_of s) e.least ≡ false) p (join leaves) (leaf_from e p bear.0) (subst (λ (l : List HistoryRecord). AllFrom e.least l) (sym (none_left leaves bear.1)) tt)
all_from e (f ∷ es) (p ∷ leaves) climbs bear = all_both (λ (s : HistoryRecord). is_before (mark_of s) e.least ≡ false) p (join leaves) (leaf_from e p bear.0) (from_sooner e.least f.least (join leaves) climbs.0 (all_from f es leaves climbs.1 bear.1))

-- ---- no key behind a greater one

after_rise : (r : HistoryRecord) (records : List HistoryRecord) → AllAfter (mark_of r) records → AllByRecursion (λ (s : HistoryRecord). key_cmp r s ≡ Greater → ⊥) records
after_rise r [] all = tt
after_rise r (s ∷ records) all = (not_greater r s (back (mark_of r) (mark_of s) all.0), after_rise r records all.1)

own_rise : (before : Option Mark) (records : List HistoryRecord) → RecordsAscend before records → KeysRise records
own_rise before [] up = tt
own_rise before (r ∷ records) up = (after_rise r records (all_after (mark_of r) records up.1), own_rise (Some (mark_of r)) records up.1)

-- one before a mark, and others from it on
across : (r : HistoryRecord) (mark : Mark) (records : List HistoryRecord) → is_before (mark_of r) mark ≡ true → AllFrom mark records → AllByRecursion (λ (s : HistoryRecord). key_cmp r s ≡ Greater → ⊥) records
across r mark [] less all = tt
across r mark (s ∷ records) less all = (not_greater r s (not_sooner (mark_of r) mark (mark_of s) less all.0), across r mark records less all.1)

rise_both : (mark : Mark) (p records : List HistoryRecord) → KeysRise p → AllByRecursion (λ (r : HistoryRecord). IsTrue (is_before (mark_of r) mark)) p → AllFrom mark records → KeysRise records → KeysRise (p ++ records)
rise_both mark [] records own stay all rise = rise
rise_both mark (r ∷ p) records own stay all rise = (all_both (λ (s : HistoryRecord). key_cmp r s ≡ Greater → ⊥) p records own.0 (across r mark records stay.0 all), rise_both mark p records own.1 stay.1 all rise)

leaves_rise : (es : List HistoryEntry) (leaves : List (List HistoryRecord)) → HistoryClimbs es → AllBear history_kind es leaves → HistoryStays es leaves → KeysRise (join leaves)
leaves_rise [] [] climbs bear stay = tt
leaves_rise [] (p ∷ leaves) climbs bear stay = absurd bear
leaves_rise (e ∷ es) [] climbs bear stay = absurd bear
leaves_rise (e ∷ []) (p ∷ leaves) climbs bear stay = subst (λ (l : List HistoryRecord). KeysRise (p ++ l)) (sym (none_left leaves bear.1)) (subst (λ (l : List HistoryRecord). KeysRise l) (sym (append-nil p)) (own_rise None p (leaf_ascends e p bear.0)))
leaves_rise (e ∷ f ∷ es) (p ∷ leaves) climbs bear stay =
    rise_both f.least p (join leaves) (own_rise None p (leaf_ascends e p bear.0)) stay.0 (all_from f es leaves climbs.1 bear.1) (leaves_rise (f ∷ es) leaves climbs.1 bear.1 stay.1)

pub history_rises : (bytes : List ℕ) (root : Root) (t : HistoryTree) → HasHistory bytes root t → KeysRise (join t.leaves)
history_rises bytes root t has =
    let es : List HistoryEntry = bottom (history_root_entry root.link ∷ []) t.layers in
    leaves_rise es t.leaves has.is.parts.climbs has.is.bear has.is.parts.stays
