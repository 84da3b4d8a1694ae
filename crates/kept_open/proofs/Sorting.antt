-- Records in the order in which they are kept.
use Rattle.std.proofs.Common.{◌≡◌, ◌<◌, ◌≤◌, ◌∙◌, ℕ, zero, suc, Bool, true, false, List, [], ◌∷◌, length, get_or, refl, sym, ap, subst, inl, inr, arith}
use Rattle.std.specs.Prelude.{◌==◌, ◌&&◌, bytes_eq, filter, IsPermutation}
use Rattle.std.specs.List.{AllByRecursion, IsDistinct}
use Rattle.std.specs.List.Sorted.{IsSortedBy}
use Rattle.std.specs.Ordering.{nat_cmp, ordering_then, is_lt}
use Rattle.std.specs.Cmp.{IsTotalOrder, nat_cmp_is}
use Rattle.std.specs.Cmp.Lexicographic.{slice_cmp}
use Rattle.std.specs.declared.cmp.Ordering.{Ordering}
use Rattle.std.specs.declared.cmp.Ordering.TheVariants.{Less, Equal, Greater}
use Rattle.std.proofs.lemmas.Bool.{cases_Bool, cases_eq, cases_lt, both_ways, and_parts, and_from, false_from_ne_true, eqb-true, eq-eqb}
use Rattle.std.proofs.lemmas.Cmp.{back_total, then_total, tied_itself, on_total, nat_cmp_total, nat_list_cmp_total}
use Rattle.std.proofs.lemmas.List.Sorted.{sorted_far, ranks_by}
use Rattle.std.proofs.lemmas.Map.Keys.{IsDistinct-head, IsDistinct-tail, IsDistinct-IsPermutation}
use Rattle.std.proofs.lemmas.Slice.Eq.{bytes_eq-Decides}
use Rattle.stamp.specs.declared.Name.{Name}
use Rattle.kv_model.specs.Holds.{Descends, Member}
use Rattle.kv_model.specs.History.{name_eq}
use Rattle.kv_model.specs.Ordered.{NameBelow}
use Rattle.kv_model.proofs.Capturing.{member-out}
use Rattle.stored.specs.HistoryTree.{AreAlike, HistoryRecord, NamesOnce}
use Rattle.hist_store.proofs.NamesInOrder.{same-name}
use Rattle.hist_pages.proofs.Members.{all_of, of_all, place_of}
use Rattle.kept_open.specs.Keeping.{AreOrdered, Follows, name_cmp, record_cmp}

name_total : IsTotalOrder name_cmp
name_total = then_total (on_total (λ (n : Name). n.run) nat_cmp_total) (on_total (λ (n : Name). n.id) nat_cmp_total)

pub record_total : IsTotalOrder record_cmp
record_total =
    then_total (on_total (λ (r : HistoryRecord). r.table) nat_cmp_total)
    (then_total (on_total (λ (r : HistoryRecord). r.key) nat_list_cmp_total) (back_total (on_total (λ (r : HistoryRecord). r.version.window.name) name_total)))

-- ---- records of one version

alike : HistoryRecord → HistoryRecord → Bool
alike r s = (r.table == s.table) && (bytes_eq r.key s.key && name_eq r.version.window.name s.version.window.name)

name_self : (x y : Name) → x ≡ y → name_eq x y ≡ true
name_self x y is = and_from (x.run == y.run) (x.id == y.id) (eq-eqb x.run y.run (ap (λ (n : Name). n.run) is)) (eq-eqb x.id y.id (ap (λ (n : Name). n.id) is))

alike_is : (r s : HistoryRecord) → alike r s ≡ true → AreAlike r s
unfolding alike
alike_is r s is =
    let p = and_parts (r.table == s.table) (bytes_eq r.key s.key && name_eq r.version.window.name s.version.window.name) is in
    let q = and_parts (bytes_eq r.key s.key) (name_eq r.version.window.name s.version.window.name) p.1 in
    record { table = eqb-true r.table s.table p.0; key = (bytes_eq-Decides r.key s.key).0 q.0; name = same-name r.version.window.name s.version.window.name q.1 }

is_alike : (r s : HistoryRecord) → r.table ≡ s.table → r.key ≡ s.key → name_eq r.version.window.name s.version.window.name ≡ true → alike r s ≡ true
unfolding alike
is_alike r s tables keys names =
    and_from (r.table == s.table) (bytes_eq r.key s.key && name_eq r.version.window.name s.version.window.name) (eq-eqb r.table s.table tables)
    (and_from (bytes_eq r.key s.key) (name_eq r.version.window.name s.version.window.name) ((bytes_eq-Decides r.key s.key).1 keys) names)

turn : (r s : HistoryRecord) → alike r s ≡ true → alike s r ≡ true
turn r s is = let a = alike_is r s is in is_alike s r (sym a.table) (sym a.key) (name_self s.version.window.name r.version.window.name (sym a.name))

flips : (r s : HistoryRecord) → alike r s ≡ alike s r
flips r s = elim (cases_Bool (alike r s)) [
  | inl t ↦ t ∙ sym (turn r s t)
  | inr f ↦ f ∙ sym (false_from_ne_true (alike s r) (λ t. both_ways (alike r s) f (turn s r t)))
]

apart : (records : List HistoryRecord) → NamesOnce records → IsDistinct alike records
unfolding IsDistinct
apart [] once = tt
apart (r ∷ records) once = (all_of (λ (s : HistoryRecord). alike r s ≡ false) records (λ s there. false_from_ne_true (alike r s) (λ t. of_all (λ (x : HistoryRecord). AreAlike r x → ⊥) records s once.0 there (alike_is r s t))), apart records once.1)

-- ---- what a sort leaves

by_names : (x y : Name) → is_lt (name_cmp x y) ≡ false → name_eq x y ≡ false → NameBelow y x
by_names x y late other = elim (cases_lt x.run y.run) [
  | inl less ↦ absurd (both_ways (is_lt (name_cmp x y)) late (ap (λ (o : Ordering). is_lt (ordering_then o (nat_cmp x.id y.id))) (sym (nat_cmp_is x.run y.run Less less))))
  | inr most ↦ elim (cases_eq x.run y.run) [
    | inr differ ↦ inl (omega (arith, most, differ))
    | inl same ↦ elim (cases_lt x.id y.id) [
      | inl less ↦ absurd (both_ways (is_lt (name_cmp x y)) late
          (ap (λ (o : Ordering). is_lt (ordering_then o (nat_cmp x.id y.id))) (sym (nat_cmp_is x.run y.run Equal same)) ∙ ap (λ (o : Ordering). is_lt o) (sym (nat_cmp_is x.id y.id Less less))))
      | inr up ↦ inr (sym same, lower same up)
    ]
  ]
] where
  lower : x.run ≡ y.run → y.id ≤ x.id → y.id < x.id
  lower same up = elim (cases_eq x.id y.id) [
    | inl ids ↦ absurd (both_ways (name_eq x y) other (and_from (x.run == y.run) (x.id == y.id) (eq-eqb x.run y.run same) (eq-eqb x.id y.id ids)))
    | inr differ ↦ omega (arith, up, differ)
  ]

older_name : (r s : HistoryRecord) → r.table ≡ s.table → r.key ≡ s.key → is_lt (record_cmp s r) ≡ false → alike r s ≡ false → NameBelow s.version.window.name r.version.window.name
older_name r s tables keys late other =
    let x = r.version.window.name in
    let y = s.version.window.name in
    let table_tie : nat_cmp s.table r.table ≡ Equal = ap (λ (n : ℕ). nat_cmp n r.table) (sym tables) ∙ tied_itself nat_cmp_total r.table in
    let key_tie : slice_cmp nat_cmp s.key r.key ≡ Equal = ap (λ (k : List ℕ). slice_cmp nat_cmp k r.key) (sym keys) ∙ tied_itself nat_list_cmp_total r.key in
    let tie : record_cmp s r ≡ name_cmp x y =
    ap (λ (o : Ordering). ordering_then o (ordering_then (slice_cmp nat_cmp s.key r.key) (name_cmp x y))) table_tie ∙ ap (λ (o : Ordering). ordering_then o (name_cmp x y)) key_tie in
    by_names x y (sym (ap (λ (o : Ordering). is_lt o) tie) ∙ late) (false_from_ne_true (name_eq x y) (λ t. both_ways (alike r s) other (is_alike r s tables keys t)))

abbrev comes_first : HistoryRecord → HistoryRecord → Bool
comes_first r s = is_lt (record_cmp r s)

-- none comes before one that stands before it
abbrev IsFar : List HistoryRecord → Type 0
IsFar items = (i j : ℕ) (d : HistoryRecord) → i ≤ j → j < length items → comes_first (get_or items j d) (get_or items i d) ≡ false

falls : (items : List HistoryRecord) → IsFar items → IsDistinct alike items → Descends Follows items
falls [] far distinct = tt
falls (r ∷ items) far distinct = ((λ s there. above s there), falls items (λ i j d le lt. far (suc i) (suc j) d (omega (arith, le)) (omega (arith, lt))) (IsDistinct-tail alike r items distinct)) where
  above : (s : HistoryRecord) → Member s items → Follows s r
  above s there tables keys =
      let p = place_of s items there in
      let lt = p.1 in
      let late : is_lt (record_cmp s r) ≡ false = ap (λ (x : HistoryRecord). comes_first x r) (sym (p.2 r)) ∙ far 0 (suc p.0) r (omega arith) (omega (arith, lt)) in
      older_name r s tables keys late (of_all (λ (x : HistoryRecord). alike r x ≡ false) items s (IsDistinct-head alike r items distinct) there)

pub sorted_is : (records sorted : List HistoryRecord) → NamesOnce records → IsPermutation records sorted → IsSortedBy (λ r s. is_lt (record_cmp r s)) sorted → AreOrdered records sorted
sorted_is records sorted once moved up = record {
  same = moved;
  falls = falls sorted (λ i j d le lt. sorted_far comes_first (ranks_by record_total (λ (r : HistoryRecord). r)) sorted up i j d le lt) (IsDistinct-IsPermutation alike flips records sorted moved (apart records once));
}

-- ---- some of the records

pub once_filtered : (test : HistoryRecord → Bool) (records : List HistoryRecord) → NamesOnce records → NamesOnce (filter test records)
once_filtered test [] once = tt
once_filtered test (r ∷ records) once = elim (cases_Bool (test r)) [
  | inl is ↦ rw is (
    all_of (λ (s : HistoryRecord). AreAlike r s → ⊥) (filter test records) (λ s there. of_all (λ (x : HistoryRecord). AreAlike r x → ⊥) records s once.0 (member-out test records s there).0),
    once_filtered test records once.1,
  )
  | inr isnt ↦ rw isnt (once_filtered test records once.1)
]
