-- Versions that are kept of a leaf, of which some may be rows of its block.
use Rattle.std.proofs.Common.{◌≡◌, ◌⊎◌, ℕ, Bool, true, false, List, [], ◌∷◌, ◌++◌, filter, Option, Some, None, refl, sym, ap, subst, ◌∙◌, inl, inr, arith}
use Rattle.std.specs.Prelude.{◌==◌, ◌&&◌, bytes_eq, not, if◌then◌else◌}
use Rattle.std.specs.Option.{option_to_list}
use Rattle.std.proofs.lemmas.Bool.{and_from, and_parts, cases_Bool, eq-eqb, eqb-true, false≢true, false_from_ne_true}
use Rattle.std.proofs.lemmas.Slice.Eq.{bytes_eq-Decides}
use Rattle.item.specs.declared.Change.{Change}
use Rattle.item.specs.declared.Change.TheVariants.{Put, Remove}
use Rattle.stamp.specs.declared.Name.{Name}
use Rattle.stamp.specs.declared.Version.{Version}
use Rattle.kv_model.specs.Holds.{Descends, Member}
use Rattle.kv_model.specs.History.{name_eq}
use Rattle.kv_model.specs.Machine.{of_some}
use Rattle.kv_model.specs.Ordered.{NameBelow, Older}
use Rattle.kv_model.proofs.Capturing.{member-into, member-out}
use Rattle.kv_model.proofs.Finishing.{name_eq-refl}
use Rattle.kv_model.proofs.Releases.{name_eq-same}
use Rattle.row_page.specs.Rows.{Row}
use Rattle.reconcile.specs.Shows.{shown_at}
use Rattle.reconcile.specs.declared.image.Moved.{Moved}
use Rattle.reconcile.specs.Moving.{versions_in}
use Rattle.engine_world.specs.Evicting.{with_rows}
use Rattle.engine_world.specs.Worlds.{World, with_records}
use Rattle.evict_step.specs.Backs.{AreNewestFirst, is_again, unlike}
use Rattle.evict_step.specs.Kept.{KeepsAt, KeepsThese, Lists, but_rows, change_eq, is_row, list_of, version_eq}

-- ---- the versions of a key

-- which of these has a version of a key
pub record IsOf (moved : List Moved) (key : List ℕ) (v : Version Change) : Type 0 where
  pub one : Moved
  pub there : Member one moved
  pub own : one.key ≡ key
  pub is : v ≡ one.version

pub version_of : (key : List ℕ) (moved : List Moved) (v : Version Change) → Member v (versions_in key moved) → IsOf moved key v
version_of key [] v there = absurd there
version_of key (m ∷ moved) v there = elim (cases_Bool (bytes_eq m.key key)) [
  | inl is ↦
      let both : Member v (m.version ∷ versions_in key moved) = rw is at there in
      elim both [
        | inl same ↦ record { one = m; there = inl refl; own = (bytes_eq-Decides m.key key).0 is; is = same }
        | inr rest ↦ later (version_of key moved v rest)
      ]
  | inr isnt ↦
      let rest : Member v (versions_in key moved) = rw isnt at there in
      later (version_of key moved v rest)
]
  where
    later : IsOf moved key v → IsOf (m ∷ moved) key v
    later of = record { one = of.one; there = inr of.there; own = of.own; is = of.is }

pub version_there : (moved : List Moved) (m : Moved) → Member m moved → Member m.version (versions_in m.key moved)
version_there [] m there = absurd there
version_there (x ∷ moved) m (inl same) =
    let own : bytes_eq x.key m.key ≡ true = (bytes_eq-Decides x.key m.key).1 (ap (λ (y : Moved). y.key) (sym same)) in
    let first : Member m.version (x.version ∷ versions_in m.key moved) = inl (ap (λ (y : Moved). y.version) same) in
    rw own first
version_there (x ∷ moved) m (inr later) = elim (cases_Bool (bytes_eq x.key m.key)) [
  | inl is ↦ (let rest : Member m.version (x.version ∷ versions_in m.key moved) = inr (version_there moved m later) in rw is rest)
  | inr isnt ↦ rw isnt (version_there moved m later)
]

-- where no key has one, there are none
pub none_of : (moved : List Moved) → ((key : List ℕ) → versions_in key moved ≡ []) → moved ≡ []
none_of [] none = refl
none_of (m ∷ moved) none = absurd (subst (λ (l : List (Version Change)). Member m.version l) (none m.key) (version_there (m ∷ moved) m (inl refl)))

pub filtered_none : (test : Moved → Bool) (key : List ℕ) (moved : List Moved) → versions_in key moved ≡ [] → versions_in key (filter test moved) ≡ []
filtered_none test key [] none = refl
filtered_none test key (m ∷ moved) none = elim (cases_Bool (bytes_eq m.key key)) [
  | inl is ↦ absurd (let some : m.version ∷ versions_in key moved ≡ [] = rw is at none in cc)
  | inr isnt ↦
      let rest : versions_in key moved ≡ [] = rw isnt at none in
      elim (cases_Bool (test m)) [ inl stays ↦ rw stays (rw isnt (filtered_none test key moved rest)) | inr goes ↦ rw goes (filtered_none test key moved rest) ]
]

-- ---- of a filtered list

pub among_filtered : (test : Moved → Bool) (moved : List Moved) (m : Moved) → Member m (filter test moved) → Member m moved
among_filtered test moved m there = (member-out test moved m there).0

-- a version of a key is one of those that stay, or of one that goes
pub stays_or_goes : (test : Moved → Bool) (moved : List Moved) (key : List ℕ) (v : Version Change) → Member v (versions_in key moved) → Member v (versions_in key (filter test moved)) ⊎ ((of : IsOf moved key v) × (test of.one ≡ false))
stays_or_goes test moved key v there =
    let of = version_of key moved v there in
    elim (cases_Bool (test of.one)) [
      | inr goes ↦ inr (of, goes)
      | inl stays ↦
          let own : Member of.one.version (versions_in of.one.key (filter test moved)) = version_there (filter test moved) of.one (member-into test moved of.one of.there stays) in
          inl (subst (λ (k : List ℕ). Member v (versions_in k (filter test moved))) of.own (subst (λ (x : Version Change). Member x (versions_in of.one.key (filter test moved))) (sym of.is) own))
    ]

all_stay : (test : Moved → Bool) (moved : List Moved) → ((m : Moved) → Member m moved → test m ≡ true) → filter test moved ≡ moved
all_stay test [] all = refl
all_stay test (m ∷ moved) all = (let stays = all m (inl refl) in rw stays (ap (λ (l : List Moved). m ∷ l) (all_stay test moved (λ x there. all x (inr there)))))

filtered_alike : (one two : Moved → Bool) (moved : List Moved) → ((m : Moved) → Member m moved → one m ≡ two m) → filter one moved ≡ filter two moved
filtered_alike one two [] same = refl
filtered_alike one two (m ∷ moved) same =
    let first = same m (inl refl) in
    let rest = filtered_alike one two moved (λ x there. same x (inr there)) in
    elim (cases_Bool (two m)) [
      | inl stays ↦ (let also = first ∙ stays in rw (stays, also) (ap (λ (l : List Moved). m ∷ l) rest))
      | inr goes ↦ (let also = first ∙ goes in rw (goes, also) rest)
    ]

-- ---- one version

name_same : (x y : Name) → name_eq x y ≡ true → x ≡ y
name_same x y is =
    let e = name_eq-same x y is in
    ap (λ (r : ℕ). let n : Name = record { run = r; id = x.id } in n) e.0 ∙ ap (λ (i : ℕ). let n : Name = record { run = y.run; id = i } in n) e.1

change_same : (a b : Change) → change_eq a b ≡ true → a ≡ b
change_same (Put value) (Put other) is = ap (λ (v : List ℕ). let c : Change = Put v in c) ((bytes_eq-Decides value other).0 is)
change_same (Put value) Remove is = absurd (false≢true is)
change_same Remove (Put other) is = absurd (false≢true is)
change_same Remove Remove is = refl

change_self : (a : Change) → change_eq a a ≡ true
change_self (Put value) = (bytes_eq-Decides value value).1 refl
change_self Remove = refl

-- the parts of a test of two versions
record AreSame (v w : Version Change) : Type 0 where
  names : name_eq v.window.name w.window.name ≡ true
  commit : v.window.commit ≡ w.window.commit
  durable : v.window.durable ≡ w.window.durable
  change : change_eq v.change w.change ≡ true

are_same : (v w : Version Change) → version_eq v w ≡ true → AreSame v w
are_same v w is =
    let one = and_parts (name_eq v.window.name w.window.name) ((v.window.commit == w.window.commit) && ((v.window.durable == w.window.durable) && change_eq v.change w.change)) is in
    let two = and_parts (v.window.commit == w.window.commit) ((v.window.durable == w.window.durable) && change_eq v.change w.change) one.1 in
    let three = and_parts (v.window.durable == w.window.durable) (change_eq v.change w.change) two.1 in
    record { names = one.0; commit = eqb-true v.window.commit w.window.commit two.0; durable = eqb-true v.window.durable w.window.durable three.0; change = three.1 }

pub version_same : (v w : Version Change) → version_eq v w ≡ true → v ≡ w
version_same v w is =
    let s = are_same v w is in
    ap (λ (n : Name). let x : Version Change = record { window = record { name = n; commit = v.window.commit; durable = v.window.durable }; change = v.change } in x) (name_same v.window.name w.window.name s.names)
    ∙ (ap (λ (c : ℕ). let x : Version Change = record { window = record { name = w.window.name; commit = c; durable = v.window.durable }; change = v.change } in x) s.commit
    ∙ (ap (λ (d : ℕ). let x : Version Change = record { window = record { name = w.window.name; commit = w.window.commit; durable = d }; change = v.change } in x) s.durable
    ∙ ap (λ (c : Change). let x : Version Change = record { window = w.window; change = c } in x) (change_same v.change w.change s.change)))

pub version_self : (v : Version Change) → version_eq v v ≡ true
version_self v =
    and_from (name_eq v.window.name v.window.name) ((v.window.commit == v.window.commit) && ((v.window.durable == v.window.durable) && change_eq v.change v.change)) (name_eq-refl v.window.name)
    (and_from (v.window.commit == v.window.commit) ((v.window.durable == v.window.durable) && change_eq v.change v.change) (eq-eqb v.window.commit v.window.commit refl)
    (and_from (v.window.durable == v.window.durable) (change_eq v.change v.change) (eq-eqb v.window.durable v.window.durable refl) (change_self v.change)))

-- ---- those that are rows

-- one that is a row has its name
pub row_again : (rows : List Row) (m : Moved) → is_row rows m ≡ true → is_again rows m ≡ true
row_again rows m is = by (shown_at m.key rows) is
  where
    by : (o : Option (Version Change)) → of_some false (λ (v : Version Change). version_eq v m.version) o ≡ true → of_some false (λ (v : Version Change). name_eq v.window.name m.version.window.name) o ≡ true
    by None is = is
    by (Some v) is = (are_same v m.version is).names

pub row_shown : (rows : List Row) (m : Moved) → is_row rows m ≡ true → shown_at m.key rows ≡ Some m.version
row_shown rows m is = by (shown_at m.key rows) is
  where
    by : (o : Option (Version Change)) → of_some false (λ (v : Version Change). version_eq v m.version) o ≡ true → o ≡ Some m.version
    by None is = absurd (false≢true is)
    by (Some v) is = ap (λ (x : Version Change). Some x) (version_same v m.version is)

pub shown_row : (rows : List Row) (m : Moved) → shown_at m.key rows ≡ Some m.version → is_row rows m ≡ true
shown_row rows m shown = ap (λ (o : Option (Version Change)). of_some false (λ (v : Version Change). version_eq v m.version) o) shown ∙ version_self m.version

-- there are none of a block without rows
pub bare_rows : (moved : List Moved) → but_rows [] moved ≡ moved
bare_rows [] = refl
bare_rows (m ∷ moved) = ap (λ (l : List Moved). m ∷ l) (bare_rows moved)

-- a version of a key that is kept is one of the others, or the row
pub other_or_row : (rows : List Row) (moved : List Moved) (key : List ℕ) (v : Version Change) → Member v (versions_in key moved) → Member v (versions_in key (but_rows rows moved)) ⊎ (shown_at key rows ≡ Some v)
other_or_row rows moved key v there = elim (stays_or_goes (λ m. not (is_row rows m)) moved key v there) [
  | inl stays ↦ inl stays
  | inr goes ↦
      let of = goes.0 in
      let is : is_row rows of.one ≡ true = turned (is_row rows of.one) goes.1 in
      inr (ap (λ (k : List ℕ). shown_at k rows) (sym of.own) ∙ (row_shown rows of.one is ∙ ap (λ (x : Version Change). Some x) (sym of.is)))
]
  where
    turned : (b : Bool) → not b ≡ false → b ≡ true
    turned true is = refl
    turned false is = absurd (false≢true (sym is))

pub others_among : (rows : List Row) (moved : List Moved) (key : List ℕ) (v : Version Change) → Member v (versions_in key (but_rows rows moved)) → Member v (versions_in key moved)
others_among rows moved key v there =
    let of = version_of key (but_rows rows moved) v there in
    subst (λ (k : List ℕ). Member v (versions_in k moved)) of.own (subst (λ (x : Version Change). Member x (versions_in of.one.key moved)) (sym of.is) (version_there moved of.one (among_filtered (λ m. not (is_row rows m)) moved of.one of.there)))

-- ---- of what lies below the rows none has the name of one

apart : (x y : Name) → NameBelow y x → name_eq x y ≡ false
apart x y below = false_from_ne_true (name_eq x y) (λ is. clash (name_eq-same x y is) below)
  where
    clash : (x.run ≡ y.run) × (x.id ≡ y.id) → NameBelow y x → ⊥
    clash same (inl runs) = let e = same.0 in omega (arith, runs, e)
    clash same (inr ids) = let e = same.1 in let l = ids.1 in omega (arith, l, e)

not_again : (rows : List Row) (moved : List Moved) (m : Moved) → AreNewestFirst rows moved → Member m moved → is_again rows m ≡ false
not_again rows moved m first there = by (shown_at m.key rows) (first m.key)
  where
    by : (o : Option (Version Change)) → Descends Older (option_to_list o ++ versions_in m.key moved) → of_some false (λ (v : Version Change). name_eq v.window.name m.version.window.name) o ≡ false
    by None down = refl
    by (Some v) down = apart v.window.name m.version.window.name (down.0 m.version (version_there moved m there))

-- so none is a row
pub but_all : (rows : List Row) (moved : List Moved) → AreNewestFirst rows moved → but_rows rows moved ≡ moved
but_all rows moved first = all_stay (λ m. not (is_row rows m)) moved (λ m there. ap not (false_from_ne_true (is_row rows m) (λ is. false≢true (sym (not_again rows moved m first there) ∙ row_again rows m is))))

-- where those that are no rows lie below the rows, those that have the name of a row are rows
pub again_rows : (rows : List Row) (moved : List Moved) → AreNewestFirst rows (but_rows rows moved) → unlike rows moved ≡ but_rows rows moved
again_rows rows moved first = filtered_alike (λ m. not (is_again rows m)) (λ m. not (is_row rows m)) moved (λ m there. ap not (alike m there (is_row rows m) refl))
  where
    alike : (m : Moved) → Member m moved → (b : Bool) → is_row rows m ≡ b → is_again rows m ≡ is_row rows m
    alike m there true is = row_again rows m is ∙ sym is
    alike m there false isnt = not_again rows (but_rows rows moved) m first (member-into (λ x. not (is_row rows x)) moved m there (ap not isnt)) ∙ sym isnt

-- ---- what is kept

-- of a leaf whose block has no rows, and of which the history has nothing, nothing is kept
pub none_kept : (w : World) (lists : Lists) (id : ℕ) → KeepsThese w lists → w.shelf id ≡ [] → ((key : List ℕ) → w.records id key ≡ []) → list_of lists id ≡ []
none_kept w lists id keeps bare none =
    none_of (list_of lists id) (λ key. ap (versions_in key) (sym (ap (λ (rows : List Row). but_rows rows (list_of lists id)) bare ∙ bare_rows (list_of lists id))) ∙ (sym (keeps id key) ∙ none key))

list_put : (before lists : Lists) (id leaf : ℕ) (moved : List Moved) → KeepsAt before lists id moved → (leaf == id) ≡ true → list_of lists leaf ≡ moved
list_put before lists id leaf moved at is = at leaf ∙ rw is refl

list_still : (before lists : Lists) (id leaf : ℕ) (moved : List Moved) → KeepsAt before lists id moved → (leaf == id) ≡ false → list_of lists leaf ≡ list_of before leaf
list_still before lists id leaf moved at isnt = at leaf ∙ rw isnt refl

-- a leaf of which this is kept then has it below these rows
pub kept_at : (w : World) (before lists : Lists) (id : ℕ) (rows : List Row) (moved : List Moved) → KeepsThese w before → KeepsAt before lists id moved → AreNewestFirst rows moved → KeepsThese (with_records id (λ key. versions_in key moved) (with_rows id rows w)) lists
kept_at w before lists id rows moved keeps at first leaf key = elim (cases_Bool (leaf == id)) [
  | inl is ↦
      let own : versions_in key moved ≡ versions_in key (but_rows rows (list_of lists leaf)) = ap (versions_in key) (sym (ap (but_rows rows) (list_put before lists id leaf moved at is) ∙ but_all rows moved first)) in
      rw is own
  | inr isnt ↦
      let own : w.records leaf key ≡ versions_in key (but_rows (w.shelf leaf) (list_of lists leaf)) = keeps leaf key ∙ ap (λ (l : List Moved). versions_in key (but_rows (w.shelf leaf) l)) (sym (list_still before lists id leaf moved at isnt)) in
      rw isnt own
]

-- where the blocks of leaves of which something is kept have the rows that they had
pub kept_shelved : (w : World) (next : ℕ → List Row) (lists : Lists) → ((id : ℕ) → (list_of lists id ≡ []) ⊎ (next id ≡ w.shelf id)) → KeepsThese w lists → KeepsThese (record w { shelf = next }) lists
kept_shelved w next lists same keeps leaf key = keeps leaf key ∙ elim (same leaf) [
  | inl none ↦ ap (λ (l : List Moved). versions_in key (but_rows (w.shelf leaf) l)) none ∙ sym (ap (λ (l : List Moved). versions_in key (but_rows (next leaf) l)) none)
  | inr is ↦ ap (λ (rows : List Row). versions_in key (but_rows rows (list_of lists leaf))) (sym is)
]

-- once nothing is kept any more of a leaf of which the history has nothing
pub kept_nowhere : (w : World) (before lists : Lists) (id : ℕ) → KeepsThese w before → ((key : List ℕ) → w.records id key ≡ []) → KeepsAt before lists id [] → KeepsThese w lists
kept_nowhere w before lists id keeps none at leaf key = elim (cases_Bool (leaf == id)) [
  | inl is ↦ ap (λ (n : ℕ). w.records n key) (eqb-true leaf id is) ∙ (none key ∙ sym (ap (λ (l : List Moved). versions_in key (but_rows (w.shelf leaf) l)) (list_put before lists id leaf [] at is)))
  | inr isnt ↦ keeps leaf key ∙ ap (λ (l : List Moved). versions_in key (but_rows (w.shelf leaf) l)) (sym (list_still before lists id leaf [] at isnt))
]
