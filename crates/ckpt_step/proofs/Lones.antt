-- Leaves that were written since the last completed checkpoint: look-ups among them, and the cells of their blocks.
use Rattle.std.specs.Prelude.{◌≡◌, ◌⊎◌, ℕ, ◌+◌, ◌*◌, ◌/◌, ◌≤◌, ◌==◌, Bool, true, false, List, [], ◌∷◌, filter, Option, Some, None, is_some, refl}
use Rattle.std.specs.List.{Contains}
use Rattle.std.proofs.Common.{inl, inr, sym, ◌∙◌, ap, subst, arith}
use Rattle.std.proofs.lemmas.Bool.{cases_Bool, cases_eq, eq-eqb, eqb-true, ne_eqb, false≢true}
use Rattle.block_mgr.specs.declared.cell.Cell.{Cell}
use Rattle.block_mgr.specs.Cells.{fresh, nothing}
use Rattle.block_mgr.specs.Open.{found_cell}
use Rattle.device_layout.specs.declared.addr.Addr.{Addr}
use Rattle.kv_model.specs.History.{Table}
use Rattle.kv_model.specs.Holds.{Member}
use Rattle.stored.specs.Stored.{Stored}
use Rattle.stored.specs.TableTree.{Entry}
use Rattle.tree_dir.specs.declared.leaf.Leaf.{Leaf}
use Rattle.tree_dir.specs.Leaves.{Directory}
use Rattle.tree_write.specs.Captures.{AreDistinct}
use Rattle.ckpt_step.specs.Grounds.{AreLedTo, AreLone, AreSince, found_in, start_cell}
use Rattle.ckpt_step.specs.Halves.{IsOldBlock, body_cell, held_cell, record_cell}
use Rattle.ckpt_step.specs.Lives.{NoneLive, addrs_in, has_at, is_live, is_of, live_addrs, lone_at, with_lives, with_lone}
use Rattle.ckpt_step.specs.Rooms.{Written}
use Rattle.ckpt_step.specs.declared.lives.Lone.{Lone}
use Rattle.ckpt_step.proofs.Apart.{filtered_member}
use Rattle.ckpt_step.proofs.Members.{all_of, map_member, member_map, none_some, some_same}
use Rattle.ckpt_step.proofs.TableLeaves.{contains_of, member_of}
use Rattle.ckpt_step.proofs.Cells.{Begins, OldCell, begins_or_not, old_cell}

-- ---- look-ups

pub at_member : (lives : List Lone) (offset : ℕ) (x : Lone) → lone_at lives offset ≡ Some x → Member x lives × (x.addr.offset ≡ offset)
at_member [] offset x is = absurd (none_some is)
at_member (y ∷ lives) offset x is = elim (cases_Bool (y.addr.offset == offset)) [
  | inl here ↦ let same : y ≡ x = some_same (rw here at is) in (inl (sym same), ap (λ (z : Lone). z.addr.offset) (sym same) ∙ eqb-true y.addr.offset offset here)
  | inr far ↦ let later = at_member lives offset x (rw far at is) in (inr later.0, later.1)
]

pub some_at : (lives : List Lone) (offset : ℕ) → has_at lives offset ≡ true → (x : Lone) × Member x lives × (x.addr.offset ≡ offset)
some_at lives offset has = by (lone_at lives offset) refl
  where
    by : (o : Option Lone) → lone_at lives offset ≡ o → (x : Lone) × Member x lives × (x.addr.offset ≡ offset)
    by None is = absurd (false≢true (ap (λ (o : Option Lone). is_some o) (sym is) ∙ has))
    by (Some x) is = let one = at_member lives offset x is in (x, one.0, one.1)

pub none_at : (lives : List Lone) (offset : ℕ) → has_at lives offset ≡ false → (x : Lone) → Member x lives → x.addr.offset ≡ offset → ⊥
none_at [] offset none x there at = there
none_at (y ∷ lives) offset none x there at = elim (cases_Bool (y.addr.offset == offset)) [
  | inl here ↦ absurd (false≢true (sym none ∙ rw here refl))
  | inr far ↦ elim there [
    | inl same ↦ absurd (false≢true (sym far ∙ eq-eqb y.addr.offset offset (ap (λ (z : Lone). z.addr.offset) (sym same) ∙ at)))
    | inr later ↦ none_at lives offset (rw far at none) x later at
  ]
]

-- the one that a leaf of the directory is
pub record IsLiveAs (lives : List Lone) (l : Leaf) : Type 0 where
  pub lone : Lone
  pub found : lone_at lives l.entry.link.addr.offset ≡ Some lone
  pub there : Member lone lives
  pub id : lone.leaf ≡ l.id
  pub at : lone.addr.offset ≡ l.entry.link.addr.offset

pub live_as : (lives : List Lone) (l : Leaf) → is_live lives l ≡ true → IsLiveAs lives l
live_as lives l live = by (lone_at lives l.entry.link.addr.offset) refl
  where
    by : (o : Option Lone) → lone_at lives l.entry.link.addr.offset ≡ o → IsLiveAs lives l
    by None is = absurd (false≢true (ap (λ (o : Option Lone). is_of l.id o) (sym is) ∙ live))
    by (Some x) is =
        let one = at_member lives l.entry.link.addr.offset x is in
        record { lone = x; found = is; there = one.0; id = eqb-true x.leaf l.id (ap (λ (o : Option Lone). is_of l.id o) (sym is) ∙ live); at = one.1 }

-- two leaves at one place have one id
pub live_once : (lives : List Lone) (l m : Leaf) → is_live lives l ≡ true → is_live lives m ≡ true → l.entry.link.addr.offset ≡ m.entry.link.addr.offset → l.id ≡ m.id
live_once lives l m one two same =
    let x = live_as lives l one in
    let y = live_as lives m two in
    let equal : x.lone ≡ y.lone = some_same (sym x.found ∙ (ap (λ (n : ℕ). lone_at lives n) same ∙ y.found)) in
    sym x.id ∙ (ap (λ (z : Lone). z.leaf) equal ∙ y.id)

-- a leaf of the same id and entry
pub live_alike : (lives : List Lone) (l n : Leaf) → n.id ≡ l.id → n.entry ≡ l.entry → is_live lives n ≡ is_live lives l
live_alike lives l n id entry = ap (λ (k : ℕ). is_of k (lone_at lives n.entry.link.addr.offset)) id ∙ ap (λ (e : Entry). is_of l.id (lone_at lives e.link.addr.offset)) entry

-- a leaf whose id comes later is none
pub later_dead : (old : Option Stored) (lives : List Lone) (dir : Directory) (written : Written) → AreSince old lives dir written → (l : Leaf) → dir.next ≤ l.id → is_live lives l ≡ false
later_dead old lives dir written since l late = elim (cases_Bool (is_live lives l)) [
  | inr isnt ↦ isnt
  | inl is ↦ let x = live_as lives l is in absurd (let given = since.given x.lone x.there in omega (arith, given, late, x.id))
]

-- a leaf of the table that is one
pub record HasLiveLeaf (lives : List Lone) (table : ℕ) (leaves : List Leaf) : Type 0 where
  pub leaf : Leaf
  pub there : Contains leaves leaf
  pub own : leaf.table ≡ table
  pub live : is_live lives leaf ≡ true

-- there is one, or none
pub some_live : (lives : List Lone) (table : ℕ) (leaves : List Leaf) → HasLiveLeaf lives table leaves ⊎ NoneLive lives leaves table
some_live lives table leaves = elim (among leaves) [
  | inl one ↦ inl (record { leaf = one.0; there = contains_of leaves one.0 one.1; own = one.2; live = one.3 })
  | inr none ↦ inr (λ l there own. none l (member_of leaves l there) own)
]
  where
    among : (ls : List Leaf) → ((l : Leaf) × Member l ls × (l.table ≡ table) × (is_live lives l ≡ true)) ⊎ ((l : Leaf) → Member l ls → l.table ≡ table → is_live lives l ≡ false)
    among [] = inr (λ l there own. absurd there)
    among (x ∷ ls) = elim (among ls) [
      | inl one ↦ inl (one.0, inr one.1, one.2, one.3)
      | inr none ↦ elim (cases_eq x.table table) [
        | inr other ↦ inr (λ l there own. elim there [ inl same ↦ absurd (other (ap (λ (y : Leaf). y.table) (sym same) ∙ own)) | inr later ↦ none l later own ])
        | inl own ↦ elim (cases_Bool (is_live lives x)) [
          | inl live ↦ inl (x, inl refl, own, live)
          | inr dead ↦ inr (λ l there its. elim there [ inl same ↦ subst (λ (y : Leaf). is_live lives y ≡ false) (sym same) dead | inr later ↦ none l later its ])
        ]
      ]
    ]

-- ---- where those of some leaves stand

pub in_live : (lives : List Lone) (leaves : List Leaf) (l : Leaf) → Member l leaves → is_live lives l ≡ true → Member l.entry.link.addr (live_addrs lives leaves)
in_live lives leaves l there live = map_member {A = Leaf} {B = Addr} (λ x. x.entry.link.addr) l (filter (is_live lives) leaves) (kept leaves there)
  where
    kept : (ls : List Leaf) → Member l ls → Member l (filter (is_live lives) ls)
    kept [] there = there
    kept (x ∷ ls) (inl same) = let is : is_live lives x ≡ true = subst (λ (y : Leaf). is_live lives y ≡ true) same live in rw is (inl same)
    kept (x ∷ ls) (inr later) = elim (cases_Bool (is_live lives x)) [ inl is ↦ rw is (inr (kept ls later)) | inr isnt ↦ rw isnt (kept ls later) ]

pub record IsLiveAt (lives : List Lone) (leaves : List Leaf) (a : Addr) : Type 0 where
  pub leaf : Leaf
  pub there : Member leaf leaves
  pub live : is_live lives leaf ≡ true
  pub is : a ≡ leaf.entry.link.addr

pub of_live : (lives : List Lone) (leaves : List Leaf) (a : Addr) → Member a (live_addrs lives leaves) → IsLiveAt lives leaves a
of_live lives leaves a there =
    let l = member_map {A = Leaf} {B = Addr} (λ x. x.entry.link.addr) a (filter (is_live lives) leaves) there in
    let own = filtered_member (is_live lives) leaves l.0 l.1 in
    record { leaf = l.0; there = own.0; live = own.1; is = l.2 }

-- ---- the cells of their blocks

module _ (u : ℕ) where
  lone_here : (c : Cell) (x : Lone) → Begins u x.addr → with_lone u c x ≡ fresh (x.addr.size / 4096)
  lone_here c x at = rw (eq-eqb x.addr.offset (8192 + 4096 * u) at) refl

  lone_far : (c : Cell) (x : Lone) → (Begins u x.addr → ⊥) → with_lone u c x ≡ c
  lone_far c x far = rw (ne_eqb x.addr.offset (8192 + 4096 * u) far) refl

  -- the block of one begins at the unit, and the last one is that of the cell
  pub record HasLone (lives : List Lone) : Type 0 where
    pub lone : Lone
    pub there : Member lone lives
    pub at : Begins u lone.addr
    pub cell : (c : Cell) → with_lives u c lives ≡ fresh (lone.addr.size / 4096)

  pub record HasNoLone (lives : List Lone) : Type 0 where
    pub none : (x : Lone) → Member x lives → Begins u x.addr → ⊥
    pub cell : (c : Cell) → with_lives u c lives ≡ c

  pub which_lone : (lives : List Lone) → HasLone lives ⊎ HasNoLone lives
  which_lone [] = inr (record { none = λ x there at. there; cell = λ c. refl })
  which_lone (x ∷ lives) = elim (which_lone lives) [
    | inl later ↦ inl (record { lone = later.lone; there = inr later.there; at = later.at; cell = λ c. later.cell (with_lone u c x) })
    | inr none ↦ elim (begins_or_not u x.addr) [
      | inl at ↦ inl (record { lone = x; there = inl refl; at = at; cell = λ c. none.cell (with_lone u c x) ∙ lone_here c x at })
      | inr far ↦ inr (record { none = λ y there at. not_here none.none far y there at; cell = λ c. none.cell (with_lone u c x) ∙ lone_far c x far })
    ]
  ]
    where
      not_here : ((y : Lone) → Member y lives → Begins u y.addr → ⊥) → (Begins u x.addr → ⊥) → (y : Lone) → Member y (x ∷ lives) → Begins u y.addr → ⊥
      not_here none far y (inl same) at = far (subst (λ (z : Lone). Begins u z.addr) same at)
      not_here none far y (inr later) at = none y later at

-- two of them that begin at one place are one
pub one_lone : (lives : List Lone) (x y : Lone) → AreDistinct (addrs_in lives) → Member x lives → Member y lives → x.addr.offset ≡ y.addr.offset → x ≡ y
one_lone [] x y distinct there also same = absurd there
one_lone (z ∷ lives) x y distinct (inl one) (inl two) same = one ∙ sym two
one_lone (z ∷ lives) x y distinct (inl one) (inr two) same =
    absurd (all_of (λ (a : Addr). a.offset ≡ z.addr.offset → ⊥) (addrs_in lives) y.addr distinct.0 (map_member {A = Lone} (λ w. w.addr) y lives two) (sym same ∙ ap (λ (w : Lone). w.addr.offset) one))
one_lone (z ∷ lives) x y distinct (inr one) (inl two) same =
    absurd (all_of (λ (a : Addr). a.offset ≡ z.addr.offset → ⊥) (addrs_in lives) x.addr distinct.0 (map_member {A = Lone} (λ w. w.addr) x lives one) (same ∙ ap (λ (w : Lone). w.addr.offset) two))
one_lone (z ∷ lives) x y distinct (inr one) (inr two) same = one_lone lives x y distinct.1 one two same

-- the block of a record, one that the live tree has, or none
abbrev pub StartCell : Cell → Type 0
StartCell c = (c ≡ nothing) ⊎ (((a : Addr) × (c ≡ record_cell a)) ⊎ ((n : ℕ) × (last : Bool) × (c ≡ held_cell n last)))

pub start_kind : (u : ℕ) (old : Option Stored) (lives : List Lone) → StartCell (start_cell old lives u)
start_kind u old lives = elim (which_lone u lives) [
  | inl one ↦ inr (inr (one.lone.addr.size / 4096, false, one.cell (found_cell (found_in old) u)))
  | inr none ↦ of_old (old_cell u old) (none.cell (found_cell (found_in old) u))
]
  where
    of_old : OldCell (found_cell (found_in old) u) → start_cell old lives u ≡ found_cell (found_in old) u → StartCell (start_cell old lives u)
    of_old (inl is) same = inl (same ∙ is)
    of_old (inr (inl (a, is))) same = inr (inl (a, same ∙ is))
    of_old (inr (inr (n, is))) same = inr (inr (n, true, same ∙ is))

module _ (old : Option Stored) (lives : List Lone) (lone : AreLone old lives) where
  -- at the unit of one the checkpoint has no block
  pub none_found_at : (u : ℕ) (x : Lone) → Member x lives → Begins u x.addr → found_cell (found_in old) u ≡ nothing
  none_found_at u x there at =
      let own = lone.each x there in
      subst (λ (v : ℕ). found_cell (found_in old) v ≡ nothing) (let same : own.unit ≡ u = omega (arith, at, own.offset) in same) own.none

  -- the cell of one
  pub lone_cell : (u : ℕ) (x : Lone) → Member x lives → Begins u x.addr → start_cell old lives u ≡ fresh (x.addr.size / 4096)
  lone_cell u x there at = elim (which_lone u lives) [
    | inr none ↦ absurd (none.none x there at)
    | inl one ↦ one.cell (found_cell (found_in old) u) ∙ ap (λ (y : Lone). fresh (y.addr.size / 4096)) (one_lone lives one.lone x lone.distinct one.there there (one.at ∙ sym at))
  ]

  -- where the checkpoint has a block the cell is that of it
  pub found_stays : (u : ℕ) → (found_cell (found_in old) u ≡ nothing → ⊥) → start_cell old lives u ≡ found_cell (found_in old) u
  found_stays u some = elim (which_lone u lives) [
    | inl one ↦ absurd (some (none_found_at u one.lone one.there one.at))
    | inr none ↦ none.cell (found_cell (found_in old) u)
  ]

  pub body_stays : (u n : ℕ) → found_cell (found_in old) u ≡ body_cell n → start_cell old lives u ≡ body_cell n
  body_stays u n is = found_stays u (λ none. false≢true (sym (ap (λ (c : Cell). c.is_live) (sym is ∙ none)))) ∙ is

  pub lone_old : (x : Lone) → Member x lives → IsOldBlock old lives x.addr
  lone_old x there =
      let own = lone.each x there in
      record {
        unit = own.unit;
        units = own.units;
        is_last = false;
        offset = own.offset;
        size = own.size;
        cell = lone_cell own.unit x there own.offset ∙ ap (λ (n : ℕ). held_cell n false) (omega (arith, own.size));
      }

-- no leaves were written since
pub no_since : (old : Option Stored) (dir : Directory) (written : Written) → AreSince old [] dir written
no_since old dir written = record {
  lone = record { each = λ x there. absurd there; distinct = tt };
  given = λ x there. absurd there;
  leaf = λ l there live. absurd (false≢true live);
  apart = λ l there live. absurd (false≢true live);
}

pub no_led : (known : List Table) (leaves : List Leaf) → AreLedTo known [] leaves
no_led known leaves x there = absurd there
