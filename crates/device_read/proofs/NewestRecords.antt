-- The newest record of each key of a history.
use Rattle.std.proofs.Common.{◌≡◌, ◌⊎◌, ◌<◌, ℕ, zero, suc, Bool, true, false, List, [], ◌∷◌, ◌++◌, length, get_or, Option, Some, None, refl, sym, ap, subst, ◌∙◌, inl, inr, append_assoc, arith}
use Rattle.std.specs.Prelude.{◌==◌, ◌&&◌, bytes_eq, filter}
use Rattle.std.specs.List.{AllByRecursion}
use Rattle.std.specs.Cmp.{IsTotalOrder, ranks}
use Rattle.std.specs.Cmp.Lexicographic.{slice_cmp}
use Rattle.std.specs.Ordering.{MatchOrdering, nat_cmp, ordering_reverse, ordering_then}
use Rattle.std.specs.declared.cmp.Ordering.{Ordering}
use Rattle.std.specs.declared.cmp.Ordering.TheVariants.{Less, Equal, Greater}
use Rattle.std.proofs.lemmas.Bool.{and_from, and_parts, cases_Bool, eq-eqb, eqb-true}
use Rattle.std.proofs.lemmas.List.{append-nil}
use Rattle.std.proofs.lemmas.Cmp.{then_total, tied_itself, on_total, nat_cmp_total, nat_list_cmp_total}
use Rattle.std.proofs.lemmas.Map.Lookups.{exact_bytes}
use Rattle.stamp.specs.Order.{is_before}
use Rattle.stamp.specs.declared.version.Version.{Version}
use Rattle.kv_model.specs.Holds.{Member}
use Rattle.kv_model.proofs.Capturing.{member-into, member-out}
use Rattle.row_page.specs.Changes.{PageChange}
use Rattle.reconcile.proofs.Keyed.{key_self, same_key}
use Rattle.stored.specs.HistoryTree.{HistoryRecord}
use Rattle.leaf_rows.specs.declared.marks.Marks.{Marks}
use Rattle.device_read.specs.Newest.{KeysClimb, by_order, is_kept_record, key_cmp, newer, newest_behind, newest_from, newest_in, newest_kept, record_at}
use Rattle.device_read.proofs.Names.{not_back, not_itself, not_over}

-- ---- the order of keys

pub key_total : IsTotalOrder key_cmp
key_total = then_total (on_total (λ (r : HistoryRecord). r.table) nat_cmp_total) (on_total (λ (r : HistoryRecord). r.key) nat_list_cmp_total)

order_of : (o : Ordering) → (o ≡ Less) ⊎ ((o ≡ Equal) ⊎ (o ≡ Greater))
order_of Less = inl refl
order_of Equal = inr (inl refl)
order_of Greater = inr (inr refl)

both_equal : (a b : Ordering) → ordering_then a b ≡ Equal → (a ≡ Equal) × (b ≡ Equal)
both_equal Less b is = absurd cc
both_equal Equal b is = (refl, is)
both_equal Greater b is = absurd cc

number_equal : (x y : ℕ) → nat_cmp x y ≡ Equal → x ≡ y
number_equal x y is = let m : MatchOrdering Equal (x < y) (x ≡ y) (y < x) = subst (λ (o : Ordering). MatchOrdering o (x < y) (x ≡ y) (y < x)) is (ranks x y) in m

pub same_keys : (r s : HistoryRecord) → key_cmp r s ≡ Equal → (r.table ≡ s.table) × (r.key ≡ s.key)
same_keys r s is = let p = both_equal (nat_cmp r.table s.table) (slice_cmp nat_cmp r.key s.key) is in (number_equal r.table s.table p.0, exact_bytes r.key s.key p.1)

-- of one key
pub keys_equal : (r s : HistoryRecord) → r.table ≡ s.table → r.key ≡ s.key → key_cmp r s ≡ Equal
keys_equal r s tables keys =
    subst (λ (n : ℕ). ordering_then (nat_cmp r.table n) (slice_cmp nat_cmp r.key s.key) ≡ Equal) tables
    (subst (λ (k : List ℕ). ordering_then (nat_cmp r.table r.table) (slice_cmp nat_cmp r.key k) ≡ Equal) keys (tied_itself key_total r))

pub not_both : (o : Ordering) → o ≡ Less → o ≡ Equal → ⊥
not_both o less same = let e : Less ≡ Equal = sym less ∙ same in cc

-- one of a key is before the same as another
same_before : (b r s : HistoryRecord) → key_cmp r s ≡ Equal → key_cmp b s ≡ key_cmp b r
same_before b r s is = key_total.antisymm b s ∙ ap ordering_reverse (sym (key_total.congr r s b is)) ∙ sym (key_total.antisymm b r)

pub newer_of : (r s : HistoryRecord) → (newer r s ≡ r) ⊎ (newer r s ≡ s)
newer_of r s = elim (cases_Bool (is_before r.version.window.name s.version.window.name)) [ inl is ↦ inr (rw is refl) | inr isnt ↦ inl (rw isnt refl) ]

newer_key : (r s : HistoryRecord) → key_cmp r s ≡ Equal → key_cmp r (newer r s) ≡ Equal
newer_key r s is = elim (newer_of r s) [
  | inl own ↦ subst (λ (x : HistoryRecord). key_cmp r x ≡ Equal) (sym own) (tied_itself key_total r)
  | inr other ↦ subst (λ (x : HistoryRecord). key_cmp r x ≡ Equal) (sym other) is
]

-- ---- what is found climbs

climbs_from : (b r : HistoryRecord) (records : List HistoryRecord) → key_cmp b r ≡ Less → KeysClimb (b ∷ newest_from r records)
climbs_from b r [] less = (less, tt)
climbs_from b r (s ∷ records) less = elim (order_of (key_cmp r s)) [
  | inl is ↦ subst (λ (o : Ordering). KeysClimb (b ∷ by_order o (r ∷ newest_from s records) (newest_from (newer r s) records) (newest_from r records))) (sym is) (less, climbs_from r s records is)
  | inr (inl is) ↦ subst (λ (o : Ordering). KeysClimb (b ∷ by_order o (r ∷ newest_from s records) (newest_from (newer r s) records) (newest_from r records))) (sym is)
      (climbs_from b (newer r s) records (same_before b r (newer r s) (newer_key r s is) ∙ less))
  | inr (inr is) ↦ subst (λ (o : Ordering). KeysClimb (b ∷ by_order o (r ∷ newest_from s records) (newest_from (newer r s) records) (newest_from r records))) (sym is) (climbs_from b r records less)
]

climbs_on : (r : HistoryRecord) (records : List HistoryRecord) → KeysClimb (newest_from r records)
climbs_on r [] = tt
climbs_on r (s ∷ records) = elim (order_of (key_cmp r s)) [
  | inl is ↦ subst (λ (o : Ordering). KeysClimb (by_order o (r ∷ newest_from s records) (newest_from (newer r s) records) (newest_from r records))) (sym is) (climbs_from r s records is)
  | inr (inl is) ↦ subst (λ (o : Ordering). KeysClimb (by_order o (r ∷ newest_from s records) (newest_from (newer r s) records) (newest_from r records))) (sym is) (climbs_on (newer r s) records)
  | inr (inr is) ↦ subst (λ (o : Ordering). KeysClimb (by_order o (r ∷ newest_from s records) (newest_from (newer r s) records) (newest_from r records))) (sym is) (climbs_on r records)
]

pub newest_climb : (records : List HistoryRecord) → KeysClimb (newest_in records)
newest_climb [] = tt
newest_climb (r ∷ records) = climbs_on r records

-- ---- one record more

-- behind what was put before, with the record that was found last and those that come
pub put_less : (out : List HistoryRecord) (r s : HistoryRecord) (rest : List HistoryRecord) → key_cmp r s ≡ Less → (out ++ r ∷ []) ++ newest_from s rest ≡ out ++ newest_from r (s ∷ rest)
put_less out r s rest is = append_assoc out (r ∷ []) (newest_from s rest) ∙ ap (λ (o : Ordering). out ++ by_order o (r ∷ newest_from s rest) (newest_from (newer r s) rest) (newest_from r rest)) (sym is)

pub put_same : (out : List HistoryRecord) (r s : HistoryRecord) (rest : List HistoryRecord) → key_cmp r s ≡ Equal → out ++ newest_from (newer r s) rest ≡ out ++ newest_from r (s ∷ rest)
put_same out r s rest is = ap (λ (o : Ordering). out ++ by_order o (r ∷ newest_from s rest) (newest_from (newer r s) rest) (newest_from r rest)) (sym is)

pub put_greater : (out : List HistoryRecord) (r s : HistoryRecord) (rest : List HistoryRecord) → key_cmp r s ≡ Greater → out ++ newest_from r rest ≡ out ++ newest_from r (s ∷ rest)
put_greater out r s rest is = ap (λ (o : Ordering). out ++ by_order o (r ∷ newest_from s rest) (newest_from (newer r s) rest) (newest_from r rest)) (sym is)

-- where none is left
pub put_end : (out : List HistoryRecord) (last : Option HistoryRecord) (yielded records : List HistoryRecord) → yielded ≡ records → ((rest : List HistoryRecord) → out ++ newest_behind last rest ≡ newest_in (yielded ++ rest)) → out ++ newest_behind last [] ≡ newest_in records
put_end out last yielded records all so = so [] ∙ ap newest_in (append-nil yielded ∙ all)

-- ---- a list that climbs

abbrev AllBehind : HistoryRecord → List HistoryRecord → Type 0
AllBehind r records = AllByRecursion (λ (s : HistoryRecord). key_cmp r s ≡ Less) records

all_over : (r s : HistoryRecord) (records : List HistoryRecord) → key_cmp r s ≡ Less → AllBehind s records → AllBehind r records
all_over r s [] less all = tt
all_over r s (t ∷ records) less all = (key_total.trans r s t less all.0, all_over r s records less all.1)

pub climb_later : (r : HistoryRecord) (records : List HistoryRecord) → KeysClimb (r ∷ records) → KeysClimb records
climb_later r [] climb = tt
climb_later r (s ∷ records) climb = climb.1

pub all_behind : (r : HistoryRecord) (records : List HistoryRecord) → KeysClimb (r ∷ records) → AllBehind r records
all_behind r [] climb = tt
all_behind r (s ∷ records) climb = (climb.0, all_over r s records climb.0 (all_behind s records climb.1))

pub all_of : {A : Type 0} (P : A → Type 0) (xs : List A) (x : A) → AllByRecursion P xs → Member x xs → P x
all_of P [] x all there = absurd there
all_of P (y ∷ xs) x all (inl same) = subst P (sym same) all.0
all_of P (y ∷ xs) x all (inr later) = all_of P xs x all.1 later

all_at : {A : Type 0} (P : A → Type 0) (xs : List A) (i : ℕ) (d : A) → AllByRecursion P xs → i < length xs → P (get_or xs i d)
all_at P [] i d all lt = absurd (omega (arith, lt))
all_at P (x ∷ xs) zero d all lt = all.0
all_at P (x ∷ xs) (suc i) d all lt = all_at P xs i d all.1 (omega (arith, lt))

pub climb_at : (records : List HistoryRecord) (i j : ℕ) (d : HistoryRecord) → KeysClimb records → i < j → j < length records → key_cmp (get_or records i d) (get_or records j d) ≡ Less
climb_at [] i j d climb lt within = absurd (omega (arith, within))
climb_at (r ∷ records) zero zero d climb lt within = absurd (omega (arith, lt))
climb_at (r ∷ records) (suc i) zero d climb lt within = absurd (omega (arith, lt))
climb_at (r ∷ records) zero (suc j) d climb lt within = all_at (λ (s : HistoryRecord). key_cmp r s ≡ Less) records j d (all_behind r records climb) (omega (arith, within))
climb_at (r ∷ records) (suc i) (suc j) d climb lt within = climb_at records i j d (climb_later r records climb) (omega (arith, lt)) (omega (arith, within))

pub some_of : {A : Type 0} (P : A → Type 0) (p : A → Bool) (xs : List A) → AllByRecursion P xs → AllByRecursion P (filter p xs)
some_of P p [] all = tt
some_of P p (x ∷ xs) all = elim (cases_Bool (p x)) [ inl is ↦ rw is (all.0, some_of P p xs all.1) | inr isnt ↦ rw isnt (some_of P p xs all.1) ]

-- ---- a record by its key

of_parts : (table : ℕ) (key : List ℕ) (r : HistoryRecord) → ((r.table == table) && bytes_eq r.key key) ≡ true → (r.table ≡ table) × (r.key ≡ key)
of_parts table key r is = let p = and_parts (r.table == table) (bytes_eq r.key key) is in (eqb-true r.table table p.0, same_key r.key key p.1)

of_whole : (table : ℕ) (key : List ℕ) (r : HistoryRecord) → r.table ≡ table → r.key ≡ key → ((r.table == table) && bytes_eq r.key key) ≡ true
of_whole table key r tables keys = and_from (r.table == table) (bytes_eq r.key key) (eq-eqb r.table table tables) (subst (λ (k : List ℕ). bytes_eq r.key k ≡ true) keys (key_self r.key))

-- the only one of its key
pub found_at : (table : ℕ) (key : List ℕ) (records : List HistoryRecord) (n : HistoryRecord) → KeysClimb records → Member n records → n.table ≡ table → n.key ≡ key → record_at table key records ≡ Some n.version
found_at table key [] n climb there tables keys = absurd there
found_at table key (r ∷ records) n climb (inl same) tables keys =
    rw (of_whole table key r (subst (λ (x : HistoryRecord). x.table ≡ table) same tables) (subst (λ (x : HistoryRecord). x.key ≡ key) same keys)) (ap (λ (x : HistoryRecord). Some x.version) (sym same))
found_at table key (r ∷ records) n climb (inr later) tables keys = elim (cases_Bool ((r.table == table) && bytes_eq r.key key)) [
  | inl is ↦
      let own = of_parts table key r is in
      absurd (not_both (key_cmp r n) (all_of (λ (s : HistoryRecord). key_cmp r s ≡ Less) records n (all_behind r records climb) later) (keys_equal r n (own.0 ∙ sym tables) (own.1 ∙ sym keys)))
  | inr isnt ↦ rw isnt (found_at table key records n (climb_later r records climb) later tables keys)
]

-- what is found is one of them
pub record IsFound (table : ℕ) (key : List ℕ) (records : List HistoryRecord) (v : Version PageChange) : Type 0 where
  pub newest : HistoryRecord
  pub there : Member newest records
  pub tables : newest.table ≡ table
  pub keys : newest.key ≡ key
  pub is : newest.version ≡ v

pub record_found : (table : ℕ) (key : List ℕ) (records : List HistoryRecord) (v : Version PageChange) → record_at table key records ≡ Some v → IsFound table key records v
record_found table key [] v is = absurd cc
record_found table key (r ∷ records) v is = elim (cases_Bool ((r.table == table) && bytes_eq r.key key)) [
  | inl here ↦
      let own = of_parts table key r here in
      let some : Some r.version ≡ Some v = rw here at is in
      record { newest = r; there = inl refl; tables = own.0; keys = own.1; is = cc }
  | inr isnt ↦
      let rest = record_found table key records v (rw isnt at is) in
      record { newest = rest.newest; there = inr rest.there; tables = rest.tables; keys = rest.keys; is = rest.is }
]

-- ---- what is found of a list that rises

-- none is of a key before one in front of it
abbrev pub KeysRise : List HistoryRecord → Type 0
KeysRise [] = Unit {0}
KeysRise (r ∷ records) = AllByRecursion (λ (s : HistoryRecord). key_cmp r s ≡ Greater → ⊥) records × KeysRise records

pub rise_some : (p : HistoryRecord → Bool) (records : List HistoryRecord) → KeysRise records → KeysRise (filter p records)
rise_some p [] rise = tt
rise_some p (r ∷ records) rise = elim (cases_Bool (p r)) [
  | inl is ↦ rw is (some_of (λ (s : HistoryRecord). key_cmp r s ≡ Greater → ⊥) p records rise.0, rise_some p records rise.1)
  | inr isnt ↦ rw isnt (rise_some p records rise.1)
]

-- one of the records that were found is of the key, and none of that key is later
pub record HasNewest (found : List HistoryRecord) (r : HistoryRecord) : Type 0 where
  pub newest : HistoryRecord
  pub there : Member newest found
  pub tables : newest.table ≡ r.table
  pub keys : newest.key ≡ r.key
  pub late : is_before newest.version.window.name r.version.window.name ≡ false

has_more : (x : HistoryRecord) (found : List HistoryRecord) (r : HistoryRecord) → HasNewest found r → HasNewest (x ∷ found) r
has_more x found r has = record { newest = has.newest; there = inr has.there; tables = has.tables; keys = has.keys; late = has.late }

-- of a record of the same key that is not later
has_older : (found : List HistoryRecord) (r s : HistoryRecord) → key_cmp s r ≡ Equal → is_before r.version.window.name s.version.window.name ≡ false → HasNewest found r → HasNewest found s
has_older found r s same late has =
    let own = same_keys s r same in
    record {
      newest = has.newest;
      there = has.there;
      tables = has.tables ∙ sym own.0;
      keys = has.keys ∙ sym own.1;
      late = not_over has.newest.version.window.name r.version.window.name s.version.window.name has.late late;
    }

newer_late : (r s : HistoryRecord) → is_before (newer r s).version.window.name r.version.window.name ≡ false
newer_late r s = elim (cases_Bool (is_before r.version.window.name s.version.window.name)) [
  | inl is ↦ rw is (not_back r.version.window.name s.version.window.name is)
  | inr isnt ↦ rw isnt (not_itself r.version.window.name)
]

newer_over : (r s : HistoryRecord) → is_before (newer r s).version.window.name s.version.window.name ≡ false
newer_over r s = elim (cases_Bool (is_before r.version.window.name s.version.window.name)) [
  | inl is ↦ rw is (not_itself s.version.window.name)
  | inr isnt ↦ rw isnt isnt
]

turned : (r s : HistoryRecord) → key_cmp r s ≡ Equal → key_cmp s r ≡ Equal
turned r s is = key_total.antisymm s r ∙ ap ordering_reverse is

-- the newer of two stands for both
rise_newer : (r s : HistoryRecord) (records : List HistoryRecord) → KeysRise (r ∷ s ∷ records) → KeysRise (newer r s ∷ records)
rise_newer r s records rise = elim (newer_of r s) [
  | inl own ↦ subst (λ (x : HistoryRecord). KeysRise (x ∷ records)) (sym own) (rise.0.1, rise.1.1)
  | inr other ↦ subst (λ (x : HistoryRecord). KeysRise (x ∷ records)) (sym other) rise.1
]

abbrev Finds : HistoryRecord → List HistoryRecord → Type 0
Finds r records = (x : HistoryRecord) → Member x (r ∷ records) → HasNewest (newest_from r records) x

finds_less : (r s : HistoryRecord) (records : List HistoryRecord) → Finds s records → (x : HistoryRecord) → Member x (r ∷ s ∷ records) → HasNewest (r ∷ newest_from s records) x
finds_less r s records more x (inl same) = record { newest = r; there = inl refl; tables = ap (λ (y : HistoryRecord). y.table) (sym same); keys = ap (λ (y : HistoryRecord). y.key) (sym same); late = subst (λ (y : HistoryRecord). is_before r.version.window.name y.version.window.name ≡ false) (sym same) (not_itself r.version.window.name) }
finds_less r s records more x (inr later) = has_more r (newest_from s records) x (more x later)

finds_same : (r s : HistoryRecord) (records : List HistoryRecord) → key_cmp r s ≡ Equal → Finds (newer r s) records → (x : HistoryRecord) → Member x (r ∷ s ∷ records) → HasNewest (newest_from (newer r s) records) x
finds_same r s records is more x (inl same) =
    subst (λ (y : HistoryRecord). HasNewest (newest_from (newer r s) records) y) (sym same)
    (has_older (newest_from (newer r s) records) (newer r s) r (newer_key r s is) (newer_late r s) (more (newer r s) (inl refl)))
finds_same r s records is more x (inr (inl same)) =
    subst (λ (y : HistoryRecord). HasNewest (newest_from (newer r s) records) y) (sym same)
    (has_older (newest_from (newer r s) records) (newer r s) s (same_before s r (newer r s) (newer_key r s is) ∙ turned r s is) (newer_over r s) (more (newer r s) (inl refl)))
finds_same r s records is more x (inr (inr later)) = more x (inr later)

finds : (r : HistoryRecord) (records : List HistoryRecord) → KeysRise (r ∷ records) → Finds r records
finds r [] rise x (inl same) = record { newest = r; there = inl refl; tables = ap (λ (y : HistoryRecord). y.table) (sym same); keys = ap (λ (y : HistoryRecord). y.key) (sym same); late = subst (λ (y : HistoryRecord). is_before r.version.window.name y.version.window.name ≡ false) (sym same) (not_itself r.version.window.name) }
finds r [] rise x (inr none) = absurd none
finds r (s ∷ records) rise x there = elim (order_of (key_cmp r s)) [
  | inl is ↦ subst (λ (o : Ordering). HasNewest (by_order o (r ∷ newest_from s records) (newest_from (newer r s) records) (newest_from r records)) x) (sym is) (finds_less r s records (finds s records rise.1) x there)
  | inr (inl is) ↦ subst (λ (o : Ordering). HasNewest (by_order o (r ∷ newest_from s records) (newest_from (newer r s) records) (newest_from r records)) x) (sym is)
      (finds_same r s records is (finds (newer r s) records (rise_newer r s records rise)) x there)
  | inr (inr is) ↦ absurd (rise.0.0 is)
]

finds_in : (records : List HistoryRecord) → KeysRise records → (x : HistoryRecord) → Member x records → HasNewest (newest_in records) x
finds_in [] rise x there = absurd there
finds_in (r ∷ records) rise x there = finds r records rise x there

-- ---- and nothing else

newer_there : (r s x : HistoryRecord) (records : List HistoryRecord) → Member x (newer r s ∷ records) → Member x (r ∷ s ∷ records)
newer_there r s x records (inl same) = elim (newer_of r s) [ inl own ↦ inl (same ∙ own) | inr other ↦ inr (inl (same ∙ other)) ]
newer_there r s x records (inr later) = inr (inr later)

less_there : (r s x : HistoryRecord) (records : List HistoryRecord) → (Member x (newest_from s records) → Member x (s ∷ records)) → Member x (r ∷ newest_from s records) → Member x (r ∷ s ∷ records)
less_there r s x records more (inl same) = inl same
less_there r s x records more (inr later) = inr (more later)

first_there : (r s x : HistoryRecord) (records : List HistoryRecord) → Member x (r ∷ records) → Member x (r ∷ s ∷ records)
first_there r s x records (inl same) = inl same
first_there r s x records (inr later) = inr (inr later)

within : (r : HistoryRecord) (records : List HistoryRecord) (x : HistoryRecord) → Member x (newest_from r records) → Member x (r ∷ records)
within r [] x there = there
within r (s ∷ records) x there = elim (order_of (key_cmp r s)) [
  | inl is ↦ less_there r s x records (within s records x) (subst (λ (o : Ordering). Member x (by_order o (r ∷ newest_from s records) (newest_from (newer r s) records) (newest_from r records))) is there)
  | inr (inl is) ↦ newer_there r s x records (within (newer r s) records x (subst (λ (o : Ordering). Member x (by_order o (r ∷ newest_from s records) (newest_from (newer r s) records) (newest_from r records))) is there))
  | inr (inr is) ↦ first_there r s x records (within r records x (subst (λ (o : Ordering). Member x (by_order o (r ∷ newest_from s records) (newest_from (newer r s) records) (newest_from r records))) is there))
]

within_in : (records : List HistoryRecord) (x : HistoryRecord) → Member x (newest_in records) → Member x records
within_in [] x there = there
within_in (r ∷ records) x there = within r records x there

-- ---- of the records that an opening keeps

-- what a reader holds of them: the version that is found of a key is one of theirs, and none of the key is later
pub record IsNewestAt (m : Marks) (ids : List ℕ) (records : List HistoryRecord) (table : ℕ) (key : List ℕ) (v : Version PageChange) : Type 0 where
  pub newest : HistoryRecord
  pub there : Member newest records
  pub kept : is_kept_record m ids newest ≡ true
  pub tables : newest.table ≡ table
  pub keys : newest.key ≡ key
  pub is : newest.version ≡ v
  pub late : (r : HistoryRecord) → Member r records → is_kept_record m ids r ≡ true → r.table ≡ table → r.key ≡ key → is_before v.window.name r.version.window.name ≡ false

module _ (m : Marks) (ids : List ℕ) (records : List HistoryRecord) (rise : KeysRise records) (table : ℕ) (key : List ℕ) where
  -- each that is kept is found, or one that is not before it
  found_of : (r : HistoryRecord) → Member r records → is_kept_record m ids r ≡ true → r.table ≡ table → r.key ≡ key
      → (n : HistoryRecord) × (record_at table key (newest_kept m ids records) ≡ Some n.version) × (is_before n.version.window.name r.version.window.name ≡ false)
  found_of r there is tables keys =
      let has = finds_in (filter (is_kept_record m ids) records) (rise_some (is_kept_record m ids) records rise) r (member-into (is_kept_record m ids) records r there is) in
      (has.newest, found_at table key (newest_kept m ids records) has.newest (newest_climb (filter (is_kept_record m ids) records)) has.there (has.tables ∙ tables) (has.keys ∙ keys), has.late)

  pub newest_is : (v : Version PageChange) → record_at table key (newest_kept m ids records) ≡ Some v → IsNewestAt m ids records table key v
  newest_is v is =
      let found = record_found table key (newest_kept m ids records) v is in
      let out = member-out (is_kept_record m ids) records found.newest (within_in (filter (is_kept_record m ids) records) found.newest found.there) in
      record {
        newest = found.newest;
        there = out.0;
        kept = out.1;
        tables = found.tables;
        keys = found.keys;
        is = found.is;
        late = λ r there kept tables keys.
            let other = found_of r there kept tables keys in
            let same : other.0.version ≡ v = (let e : Some other.0.version ≡ Some v = sym other.1 ∙ is in cc) in
            subst (λ (x : Version PageChange). is_before x.window.name r.version.window.name ≡ false) same other.2;
      }

  -- where none is found, none is kept
  pub newest_none : record_at table key (newest_kept m ids records) ≡ None → (r : HistoryRecord) → Member r records → is_kept_record m ids r ≡ true → r.table ≡ table → r.key ≡ key → ⊥
  newest_none is r there kept tables keys = let other = found_of r there kept tables keys in let e : None ≡ Some other.0.version = sym is ∙ other.1 in cc
