-- A leaf that was written out gave way: the leaves that there are then, and which of them were written since.
use Rattle.std.specs.Prelude.{◌≡◌, ◌≢◌, ◌⊎◌, ℕ, ◌<◌, ◌≤◌, ◌==◌, Bool, true, false, List, [], ◌∷◌, Option, None, Some, if◌then◌else◌, refl}
use Rattle.std.specs.List.{Contains}
use Rattle.std.proofs.Common.{inl, inr, sym, ◌∙◌, ap, subst, arith}
use Rattle.std.proofs.lemmas.Bool.{eq-eqb, ne_eqb, false≢true}
use Rattle.device_layout.specs.declared.addr.Addr.{Addr}
use Rattle.engine_world.proofs.Homes.{same-id}
use Rattle.kv_model.specs.History.{Table}
use Rattle.kv_model.specs.Holds.{Member}
use Rattle.stored.specs.TableTree.{Entry}
use Rattle.tree_dir.specs.declared.leaf.Leaf.{Leaf}
use Rattle.tree_dir.specs.GivingWay.{StandFor}
use Rattle.tree_dir.specs.Leaves.{Directory, GaveWay, IsDirectory, TakePlace, leaves_of, leaves_with}
use Rattle.tree_write.specs.Captures.{AreDistinct}
use Rattle.ckpt_step.specs.Grounds.{IsLedTo}
use Rattle.ckpt_step.specs.Lives.{NoneLive, addrs_in, is_live, is_of, lone_at}
use Rattle.ckpt_step.specs.Parts.{part_in, part_of, parts_of}
use Rattle.ckpt_step.specs.Rooms.{Written}
use Rattle.ckpt_step.specs.declared.lives.Lone.{Lone}
use Rattle.ckpt_step.proofs.GivingLeaves.{IsGiving, below_next, other_id}
use Rattle.ckpt_step.proofs.HeldLives.{AreMore, lone_as}
use Rattle.ckpt_step.proofs.Lones.{live_as}
use Rattle.ckpt_step.proofs.LonesMore.{distinct_first}
use Rattle.ckpt_step.proofs.Members.{all_made}
use Rattle.ckpt_step.proofs.TableLeaves.{contains_of, in_table, member_of, table_in}
use Rattle.ckpt_step.proofs.WithParts.{in_alike, part_alike, parts_alike}

-- The leaf gave way to others with these entries. had: what was written of leaves. has: the same, but of this one. lives, next: the leaves that were written since, before and after.
pub record IsOut (d n : Directory) (l : Leaf) (entries : List Entry) (ids : List ℕ) (had has : Written) (lives next : List Lone) : Type 0 where
  pub was : IsDirectory d
  pub now : IsDirectory n
  pub there : Contains d.leaves l
  pub place : TakePlace l.id entries d.leaves
  pub gave : GaveWay d n l.id entries ids
  pub stand : StandFor d n l (leaves_with l.table ids entries)
  pub later : (id : ℕ) → d.next ≤ id → had id ≡ None
  pub others : (id : ℕ) → id ≢ l.id → has id ≡ had id
  pub more : AreMore lives next (leaves_with l.table ids entries)
  pub distinct : AreDistinct (addrs_in lives)

-- ---- look-ups

pub found_lone : (lives : List Lone) (y : Lone) → AreDistinct (addrs_in lives) → Member y lives → lone_at lives y.addr.offset ≡ Some y
found_lone [] y distinct there = absurd there
found_lone (z ∷ lives) y distinct (inl same) = let here : (z.addr.offset == y.addr.offset) ≡ true = eq-eqb z.addr.offset y.addr.offset (ap (λ (w : Lone). w.addr.offset) (sym same)) in rw here (ap (λ (w : Lone). Some w) (sym same))
found_lone (z ∷ lives) y distinct (inr later) =
    let far : (z.addr.offset == y.addr.offset) ≡ false = ne_eqb z.addr.offset y.addr.offset (λ same. distinct_first z lives distinct y later (sym same)) in
    rw far (found_lone lives y distinct.1 later)

pub live_by : (lives : List Lone) (y : Lone) (x : Leaf) → AreDistinct (addrs_in lives) → Member y lives → y.addr.offset ≡ x.entry.link.addr.offset → y.leaf ≡ x.id → is_live lives x ≡ true
live_by lives y x distinct there at id =
    ap (λ (o : ℕ). is_of x.id (lone_at lives o)) (sym at) ∙ (ap (λ (o : Option Lone). is_of x.id o) (found_lone lives y distinct there) ∙ eq-eqb y.leaf x.id id)

-- one to which a leaf leads is that leaf
pub led_live : (known : List Table) (lives : List Lone) (leaves : List Leaf) (x : Lone) → AreDistinct (addrs_in lives) → Member x lives → (b : IsLedTo known leaves x) → is_live lives b.leaf ≡ true
led_live known lives leaves x distinct there b = live_by lives x b.leaf distinct there (ap (λ (a : Addr). a.offset) (sym b.addr)) (sym b.id)

pub both_same : (a b : Bool) → (a ≡ true → b ≡ true) → (b ≡ true → a ≡ true) → a ≡ b
both_same true b on off = sym (on refl)
both_same false true on off = off refl
both_same false false on off = refl

module _ (d n : Directory) (l : Leaf) (entries : List Entry) (ids : List ℕ) (had has : Written) (lives next : List Lone) (o : IsOut d n l entries ids had has lives next) where
  abbrev pub news : List Leaf
  news = leaves_with l.table ids entries

  -- as where the leaf gives way to what was known of it
  abbrev pub over : Written
  over id = if id == l.id then Some entries else had id

  pub over_own : over l.id ≡ Some entries
  over_own = let is : (l.id == l.id) ≡ true = eq-eqb l.id l.id refl in rw is refl

  pub over_other : (id : ℕ) → (id ≡ l.id → ⊥) → over id ≡ had id
  over_other id other = let isnt : (id == l.id) ≡ false = ne_eqb id l.id other in rw isnt refl

  pub l_below : l.id < d.next
  l_below = subst (λ (y : Leaf). y.id < d.next) o.there.2 (o.was.below o.there.0 l o.there.1)

  abbrev pub giving : IsGiving d n l entries ids over has
  giving = record {
    was = o.was;
    now = o.now;
    there = o.there;
    place = o.place;
    gave = o.gave;
    stand = o.stand;
    later = λ id late. over_other id (λ same. omega (arith, late, l_below, same)) ∙ o.later id late;
    others = λ id other. o.others id other ∙ sym (over_other id other);
    part = in_alike over (λ id. Some entries) l over_own;
  }

  -- ---- what is written of them

  pub same_had : (x : Leaf) → Contains n.leaves x → part_in has x ≡ part_in had x
  same_had x c = in_alike has had x (o.others x.id (other_id d n l entries ids over has giving x c))

  pub same_part : (x : Leaf) → Contains n.leaves x → part_of has x ≡ part_of had x
  same_part x c = part_alike has had x (o.others x.id (other_id d n l entries ids over has giving x c))

  pub none_new : (x : Leaf) → Contains news x → has x.id ≡ None
  none_new x c = o.others x.id (other_id d n l entries ids over has giving x (o.stand.news x c)) ∙ o.later x.id (o.stand.later x c)

  -- the parts of leaves that stay
  pub parts_stay : (leaves : List Leaf) → ((x : Leaf) → Member x leaves → x.id ≡ l.id → ⊥) → parts_of has leaves ≡ parts_of had leaves
  parts_stay leaves other = parts_alike has had leaves (all_made (λ (x : Leaf). has x.id ≡ had x.id) leaves (λ x there. o.others x.id (other x there)))

  -- ---- which were written since

  pub live_new : (x : Leaf) → Contains news x → is_live next x ≡ true
  live_new x c = live_by next (lone_as x) x o.more.distinct (o.more.has x (member_of news x c)) refl refl

  pub live_same : (x : Leaf) → Contains d.leaves x → is_live next x ≡ is_live lives x
  live_same x c = both_same (is_live next x) (is_live lives x) down up
    where
      up : is_live lives x ≡ true → is_live next x ≡ true
      up live = let one = live_as lives x live in live_by next one.lone x o.more.distinct (o.more.keeps one.lone one.there) one.at one.id

      down : is_live next x ≡ true → is_live lives x ≡ true
      down live =
          let one = live_as next x live in
          elim (o.more.from one.lone one.there) [
            | inl was ↦ live_by lives one.lone x o.distinct was one.at one.id
            | inr (m, own, same) ↦ absurd (let late = o.stand.later m (contains_of news m own) in let low = below_next d n l entries ids over has giving x c in let id = one.id in omega (arith, late, low, id, ap (λ (y : Lone). y.leaf) same))
          ]

  -- a leaf of what there is then stayed, or is new
  pub stays_or_new : (x : Leaf) → Contains n.leaves x → (Contains d.leaves x × (x.id ≢ l.id)) ⊎ Contains news x
  stays_or_new x c = o.stand.members x c

  -- one that was not written since stayed
  pub dead_stays : (x : Leaf) → Contains n.leaves x → is_live next x ≡ false → Contains d.leaves x × (x.id ≢ l.id) × (is_live lives x ≡ false)
  dead_stays x c dead = elim (o.stand.members x c) [
    | inl was ↦ (was.0, was.1, sym (live_same x was.0) ∙ dead)
    | inr new ↦ absurd (false≢true (sym dead ∙ live_new x new))
  ]

  -- of a table that is not the leaf's
  pub none_else : (table : ℕ) → (table ≡ l.table → ⊥) → NoneLive next n.leaves table → NoneLive lives d.leaves table
  none_else table other none x c its =
      let at = in_table table n.leaves x (subst (λ (ls : List Leaf). Member x ls) (sym (o.stand.rest table other)) (table_in table d.leaves x (member_of d.leaves x c) its)) in
      sym (live_same x c) ∙ none x (contains_of n.leaves x at.0) its

  pub parts_other : (table : ℕ) → (table ≡ l.table → ⊥) → parts_of has (leaves_of table n.leaves) ≡ parts_of had (leaves_of table d.leaves)
  parts_other table other = ap (parts_of has) (o.stand.rest table other) ∙ parts_stay (leaves_of table d.leaves) (λ x there same.
      let at = in_table table d.leaves x there in
      other (sym at.1 ∙ ap (λ (y : Leaf). y.table) (same-id d x l o.was (contains_of d.leaves x at.0) o.there same)))
