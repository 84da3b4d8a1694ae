-- Records that are cut into leaves.
use Rattle.std.proofs.Common.{◌≡◌, ◌≢◌, ◌<◌, ◌≤◌, ◌∙◌, ◌++◌, ℕ, Bool, false, List, [], ◌∷◌, length, Option, Some, None, refl, ap, sym, subst, inl, inr, arith}
use Rattle.std.specs.Prelude.{max, slice_get, nat_lt, ◌==◌, if◌then◌else◌}
use Rattle.std.specs.List.{AllByRecursion}
use Rattle.std.proofs.lemmas.Bool.{cases_Bool, ltb-true}
use Rattle.std.proofs.lemmas.List.{append-nil, append_assoc, map-append}
use Rattle.std.proofs.lemmas.Option.{same_Some}
use Rattle.stamp.specs.declared.Name.{Name}
use Rattle.row_page.specs.Greatest.{greatest_in, most_in, no_name}
use Rattle.stamp.specs.Order.{is_before, later}
use Rattle.row_page.proofs.Greater.{greatest_push, most_push}
use Rattle.stored.specs.HistoryTree.{HistoryRecord, Mark, NamesOnce, RecordFits, RecordsAscend, first_record, mark_of}
use Rattle.hist_pages.specs.declared.leaf.HistoryLeaf.{HistoryLeaf}
use Rattle.hist_pages.specs.declared.leaves.Leaves.{Leaves}
use Rattle.hist_pages.specs.declared.open_leaf.OpenLeaf.{OpenLeaf}
use Rattle.hist_pages.specs.Leaves.{AreLeaves, IsFull, SpellsRecords, durables_of, image_length, names_of}
use Rattle.hist_pages.specs.Making.{Behind, HasBegun, HasRecords, Have, HaveRecords, Holds, IsClosed, OpenHas}
use Rattle.hist_pages.specs.Writing.{Written, Wrote, size_with}
use Rattle.hist_pages.proofs.Members.{all_back, all_front}
use Rattle.hist_pages.proofs.Writings.{first_room, size_more}

-- ---- one record more in a leaf

none_below : (x : Name) → is_before x no_name ≡ false
none_below x = elim (cases_Bool (nat_lt x.run 0)) [
  | inl t ↦ absurd (let less = ltb-true x.run 0 t in omega (arith, less))
  | inr f ↦ elim (cases_Bool (nat_lt x.id 0)) [
    | inl t ↦ absurd (let less = ltb-true x.id 0 t in omega (arith, less))
    | inr g ↦ elim (cases_Bool (x.run == 0)) [ inl e ↦ rw (f, e, g) refl | inr e ↦ rw (f, e) refl ]
  ]
]

pub first_leaf : (w w' : Written) (least : Mark) (name : Name) (durable : ℕ) (r : HistoryRecord) → Wrote w [] → RecordFits r → Wrote w' (r ∷ [])
    → least ≡ mark_of r → name ≡ r.version.window.name → durable ≡ r.version.window.durable → HasRecords (record { least = least; writer = w'; greatest = name; durable = durable }) (r ∷ [])
first_leaf w w' least name durable r h fits wrote mark is stamp = record {
  wrote = wrote;
  small = omega (arith, first_room w r h fits, size_more w [] r h);
  least = ap (λ (m : Mark). Some m) (sym mark);
  greatest = is ∙ sym (ap (λ (b : Bool). if b then no_name else r.version.window.name) (none_below r.version.window.name));
  durable = omega (arith, stamp);
}

first_more : (least : Mark) (records : List HistoryRecord) (r : HistoryRecord) → first_record records ≡ Some least → first_record (records ++ r ∷ []) ≡ Some least
first_more least [] r first = absurd cc
first_more least (q ∷ records) r first = first

pub more_records : (o : OpenLeaf) (w : Written) (name : Name) (durable : ℕ) (r : HistoryRecord) → size_with o.writer r ≤ 32768 → ((records : List HistoryRecord) → Wrote o.writer records → Wrote w (records ++ r ∷ []))
    → name ≡ later o.greatest r.version.window.name → durable ≡ max o.durable r.version.window.durable → (records : List HistoryRecord) → HasRecords o records → HasRecords (record { least = o.least; writer = w; greatest = name; durable = durable }) (records ++ r ∷ [])
more_records o w name durable r room wrote is stamp records h = record {
  wrote = wrote records h.wrote;
  small = omega (arith, room, size_more o.writer records r h.wrote);
  least = first_more o.least records r h.least;
  greatest =
      is
      ∙ (ap (λ (n : Name). later n r.version.window.name) h.greatest
      ∙ (sym (greatest_push (names_of records) r.version.window.name) ∙ ap greatest_in (sym (map-append {A = HistoryRecord} (λ x. x.version.window.name) records (r ∷ [])))));
  durable =
      stamp
      ∙ (ap (λ (n : ℕ). max n r.version.window.durable) h.durable
      ∙ (sym (most_push (durables_of records) r.version.window.durable) ∙ ap most_in (sym (map-append {A = HistoryRecord} (λ x. x.version.window.durable) records (r ∷ [])))));
}

-- ---- leaves one behind the other

-- there is a first record
abbrev pub HasFirst : List HistoryRecord → Type 0
HasFirst records = (q : HistoryRecord) × (slice_get records 0 ≡ Some q)

least_first : (least : Mark) (records : List HistoryRecord) → first_record records ≡ Some least → HasFirst records
least_first least [] first = absurd cc
least_first least (q ∷ records) first = (q, refl)

first_both : (xs ys : List HistoryRecord) → HasFirst xs → HasFirst (xs ++ ys)
first_both [] ys (q, e) = absurd (none q e) where
  none : (q : HistoryRecord) → None ≡ Some q → ⊥
  none q e = cc
first_both (x ∷ xs) ys h = h

behind_first : (leaves : List HistoryLeaf) (last records : List HistoryRecord) → Behind leaves last records → HasFirst last → HasFirst records
behind_first [] last records is h = subst HasFirst (sym is) h
behind_first (leaf ∷ leaves) last records b h = subst HasFirst (sym b.whole) (first_both b.front b.others (least_first leaf.least b.front b.holds.least))

full_more : (records others : List HistoryRecord) (r : HistoryRecord) → HasFirst others → IsFull records others → IsFull records (others ++ r ∷ [])
full_more records [] r (q, e) full = absurd (none q e) where
  none : (q : HistoryRecord) → None ≡ Some q → ⊥
  none q e = cc
full_more records (x ∷ others) r h full = full

-- one record more behind the others
pub behind_more : (leaves : List HistoryLeaf) (last records : List HistoryRecord) (r : HistoryRecord) → Behind leaves last records → HasFirst last → Behind leaves (last ++ r ∷ []) (records ++ r ∷ [])
behind_more [] last records r is h = ap (λ (l : List HistoryRecord). l ++ r ∷ []) is
behind_more (leaf ∷ leaves) last records r b h = record {
  front = b.front;
  others = b.others ++ r ∷ [];
  holds = b.holds;
  full = full_more b.front b.others r (behind_first leaves last b.others b.go_on h) b.full;
  go_on = behind_more leaves last b.others r b.go_on h;
  whole = ap (λ (l : List HistoryRecord). l ++ r ∷ []) b.whole ∙ append_assoc b.front b.others (r ∷ []);
}

-- a record that had no room begins a leaf
pub behind_cut : (leaves : List HistoryLeaf) (leaf : HistoryLeaf) (last records : List HistoryRecord) (r : HistoryRecord) → Behind leaves last records → Holds leaf last → 32768 < image_length (last ++ r ∷ []) → Behind (leaves ++ leaf ∷ []) (r ∷ []) (records ++ r ∷ [])
behind_cut [] leaf last records r is holds over = record {
  front = last;
  others = r ∷ [];
  holds = holds;
  full = λ q e. subst (λ (x : HistoryRecord). 32768 < image_length (last ++ x ∷ [])) (same_Some r q e) over;
  go_on = refl;
  whole = ap (λ (l : List HistoryRecord). l ++ r ∷ []) is;
}
behind_cut (first ∷ leaves) leaf last records r b holds over = record {
  front = b.front;
  others = b.others ++ r ∷ [];
  holds = b.holds;
  full = full_more b.front b.others r (behind_first leaves last b.others b.go_on (least_first leaf.least last holds.least)) b.full;
  go_on = behind_cut leaves leaf last b.others r b.go_on holds over;
  whole = ap (λ (l : List HistoryRecord). l ++ r ∷ []) b.whole ∙ append_assoc b.front b.others (r ∷ []);
}

-- the last leaf
pub behind_all : (leaves : List HistoryLeaf) (leaf : HistoryLeaf) (last records : List HistoryRecord) → Behind leaves last records → Holds leaf last → Have (leaves ++ leaf ∷ []) records
behind_all [] leaf last records is holds = record {
  front = last;
  others = [];
  holds = holds;
  full = λ q e. absurd (none q e);
  go_on = refl;
  whole = is ∙ sym (append-nil last);
} where
  none : (q : HistoryRecord) → None ≡ Some q → ⊥
  none q e = cc
behind_all (first ∷ leaves) leaf last records b holds = record { front = b.front; others = b.others; holds = b.holds; full = b.full; go_on = behind_all leaves leaf last b.others b.go_on holds; whole = b.whole }

-- ---- the leaf that is open

pub close_some : (o : Option OpenLeaf) (i : OpenLeaf) (leaf : HistoryLeaf) (done now : List HistoryLeaf) → o ≡ Some i → ((records : List HistoryRecord) → HasRecords i records → Holds leaf records) → now ≡ done ++ leaf ∷ []
    → (records : List HistoryRecord) → OpenHas o records → IsClosed done o records now
close_some None i leaf done now is holds whole records has = absurd cc
close_some (Some o) i leaf done now is holds whole records has = (leaf, holds records (subst (λ (x : OpenLeaf). HasRecords x records) (same_Some o i is) has), whole)

open_first : (o : Option OpenLeaf) (records : List HistoryRecord) → OpenHas o records → (o ≡ None → ⊥) → HasFirst records
open_first None records has some = absurd (some refl)
open_first (Some o) records has some = least_first o.least records has.least

not_empty : (records : List HistoryRecord) → HasFirst records → records ≢ []
not_empty [] (q, e) is = cc
not_empty (r ∷ records) h is = cc

begun_with : (o : Option OpenLeaf) (done : List HistoryLeaf) (records : List HistoryRecord) (r : HistoryRecord) → OpenHas o (records ++ r ∷ []) → HasBegun o done
begun_with None done [] r has = absurd cc
begun_with None done (q ∷ records) r has = absurd cc
begun_with (Some o) done records r has = tt

-- a record has room
pub pushed_open : (leaves : Leaves) (now : Option OpenLeaf) (r : HistoryRecord) → (leaves.opened ≡ None → ⊥) → ((records : List HistoryRecord) → OpenHas leaves.opened records → OpenHas now (records ++ r ∷ []))
    → (records : List HistoryRecord) → HaveRecords leaves records → HaveRecords (record { done = leaves.done; opened = now }) (records ++ r ∷ [])
pushed_open leaves now r some put records h = record {
  last = h.last ++ r ∷ [];
  opened = put h.last h.opened;
  begun = begun_with now leaves.done.items h.last r (put h.last h.opened);
  behind = behind_more leaves.done.items h.last records r h.behind (open_first leaves.opened h.last h.opened some);
}

-- none is done where none is open
done_none : (o : Option OpenLeaf) (done : List HistoryLeaf) (last : List HistoryRecord) → OpenHas o last → HasBegun o done → last ≡ [] → done ≡ []
done_none None done last has begun is = begun
done_none (Some o) done last has begun is = absurd (not_empty last (least_first o.least last has.least) is)

-- it has none, and begins a leaf
pub pushed_new : (leaves now : Leaves) (was : Option OpenLeaf) (r : HistoryRecord) → ((records : List HistoryRecord) → OpenHas leaves.opened records → OpenHas was records × (records ≢ [] → 32768 < image_length (records ++ r ∷ [])))
    → ((records : List HistoryRecord) → OpenHas was records → IsClosed leaves.done.items was records now.done.items) → OpenHas now.opened (r ∷ []) → HasBegun now.opened now.done.items
    → (records : List HistoryRecord) → HaveRecords leaves records → HaveRecords now (records ++ r ∷ [])
pushed_new leaves now was r over closed new begun records h = record {
  last = r ∷ [];
  opened = new;
  begun = begun;
  behind = by was (over h.last h.opened).0 (closed h.last (over h.last h.opened).0);
} where
  by : (o : Option OpenLeaf) → OpenHas o h.last → IsClosed leaves.done.items o h.last now.done.items → Behind now.done.items (r ∷ []) (records ++ r ∷ [])
  by None has same =
      let none = done_none leaves.opened leaves.done.items h.last h.opened h.begun has in
      let all : records ≡ h.last = subst (λ (l : List HistoryLeaf). Behind l h.last records) none h.behind in
      subst (λ (l : List HistoryLeaf). Behind l (r ∷ []) (records ++ r ∷ [])) (sym (same ∙ none)) (ap (λ (l : List HistoryRecord). l ++ r ∷ []) (all ∙ has))
  by (Some o) has (leaf, holds, whole) =
      subst (λ (l : List HistoryLeaf). Behind l (r ∷ []) (records ++ r ∷ [])) (sym whole)
      (behind_cut leaves.done.items leaf h.last records r h.behind holds ((over h.last h.opened).1 (not_empty h.last (least_first o.least h.last has.least))))

-- all records are in
pub closed_all : (leaves : Leaves) (done : List HistoryLeaf) → ((records : List HistoryRecord) → OpenHas leaves.opened records → IsClosed leaves.done.items leaves.opened records done) → (records : List HistoryRecord) → HaveRecords leaves records → Have done records
closed_all leaves done closed records h = by leaves.opened h.opened h.begun (closed h.last h.opened) where
  by : (o : Option OpenLeaf) → OpenHas o h.last → HasBegun o leaves.done.items → IsClosed leaves.done.items o h.last done → Have done records
  by None has none same =
      let all : records ≡ h.last = subst (λ (l : List HistoryLeaf). Behind l h.last records) none h.behind in
      subst (λ (l : List HistoryLeaf). Have l records) (sym (same ∙ none)) (all ∙ has)
  by (Some o) has begun (leaf, holds, whole) = subst (λ (l : List HistoryLeaf). Have l records) (sym whole) (behind_all leaves.done.items leaf h.last records h.behind holds)

-- ---- leaves of records that fit and ascend

-- records that leaves can have, however many they are
pub record AreFit (records : List HistoryRecord) : Type 0 where
  pub fit : AllByRecursion (λ (r : HistoryRecord). RecordFits r) records
  pub ascend : RecordsAscend None records
  pub once : NamesOnce records

ascend_front : (before : Option Mark) (xs ys : List HistoryRecord) → RecordsAscend before (xs ++ ys) → RecordsAscend before xs
ascend_front before [] ys up = tt
ascend_front before (x ∷ xs) ys up = (up.0, ascend_front (Some (mark_of x)) xs ys up.1)

ascend_none : (before : Option Mark) (ys : List HistoryRecord) → RecordsAscend before ys → RecordsAscend None ys
ascend_none before [] up = tt
ascend_none before (y ∷ ys) up = (refl, up.1)

ascend_back : (before : Option Mark) (xs ys : List HistoryRecord) → RecordsAscend before (xs ++ ys) → RecordsAscend None ys
ascend_back before [] ys up = ascend_none before ys up
ascend_back before (x ∷ xs) ys up = ascend_back (Some (mark_of x)) xs ys up.1

once_front : (xs ys : List HistoryRecord) → NamesOnce (xs ++ ys) → NamesOnce xs
once_front [] ys once = tt
once_front (x ∷ xs) ys once = (all_front _ xs ys once.0, once_front xs ys once.1)

once_back : (xs ys : List HistoryRecord) → NamesOnce (xs ++ ys) → NamesOnce ys
once_back [] ys once = once
once_back (x ∷ xs) ys once = once_back xs ys once.1

front_fit : (xs ys : List HistoryRecord) → AreFit (xs ++ ys) → AreFit xs
front_fit xs ys are = record { fit = all_front _ xs ys are.fit; ascend = ascend_front None xs ys are.ascend; once = once_front xs ys are.once }

back_fit : (xs ys : List HistoryRecord) → AreFit (xs ++ ys) → AreFit ys
back_fit xs ys are = record { fit = all_back _ xs ys are.fit; ascend = ascend_back None xs ys are.ascend; once = once_back xs ys are.once }

some_there : (least : Mark) (records : List HistoryRecord) → first_record records ≡ Some least → 1 ≤ length records
some_there least [] first = absurd cc
some_there least (q ∷ records) first = omega arith

spells : (leaf : HistoryLeaf) (records : List HistoryRecord) → Holds leaf records → AreFit records → SpellsRecords leaf records
spells leaf records h are = record {
  least = h.least;
  block = record {
    admitted = record { some = some_there leaf.least records h.least; fit = are.fit; ascend = are.ascend; once = are.once; size = h.small };
    spelled = h.block;
  };
  greatest = h.greatest;
  durable = h.durable;
}

pub leaves_are : (leaves : List HistoryLeaf) (records : List HistoryRecord) → Have leaves records → AreFit records → AreLeaves leaves records
leaves_are [] records is are = is
leaves_are (leaf ∷ leaves) records h are =
    let both = subst AreFit h.whole are in
    record {
      front = h.front;
      others = h.others;
      spells = spells leaf h.front h.holds (front_fit h.front h.others both);
      full = h.full;
      go_on = leaves_are leaves h.others h.go_on (back_fit h.front h.others both);
      whole = h.whole;
    }
