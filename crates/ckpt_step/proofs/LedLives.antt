-- A leaf is evicted to a block of its own: what the next checkpoint has of the leaves that there are then, and which of them were written since.
use Rattle.std.specs.Prelude.{◌≡◌, ◌≢◌, ℕ, ◌<◌, ◌≤◌, Bool, true, false, List, [], ◌∷◌, ◌++◌, length, Option, None, Some, if◌then◌else◌, refl}
use Rattle.std.specs.List.{Contains}
use Rattle.std.proofs.Common.{inl, inr, sym, ◌∙◌, ap, subst, arith}
use Rattle.std.proofs.lemmas.Bool.{cases_eq, eq-eqb, false≢true, ne_eqb}
use Rattle.block_mgr.specs.Blocks.{Books, HasLive}
use Rattle.device_layout.specs.declared.link.Link.{Link}
use Rattle.engine_world.proofs.Homes.{same-id}
use Rattle.engine_world.specs.Evicting.{led_out, with_rows}
use Rattle.engine_world.specs.Worlds.{World}
use Rattle.kv_model.specs.Holds.{Member}
use Rattle.kv_model.specs.History.{Table}
use Rattle.kv_model.specs.Machine.{Machine, of_some}
use Rattle.row_page.specs.Rows.{Row}
use Rattle.snapshot.specs.Past.{is_below}
use Rattle.stamp.specs.declared.Name.{Name}
use Rattle.stored.specs.Stored.{Stored}
use Rattle.stored.specs.TableTree.{Entry, EntryFits, TableTree}
use Rattle.stored.specs.Tree.{join}
use Rattle.tree_dir.specs.declared.leaf.Leaf.{Leaf}
use Rattle.tree_dir.specs.Leaves.{Directory, IsDirectory, leaves_of}
use Rattle.tree_open.specs.declared.place.TreePlace.{TreePlace}
use Rattle.tree_write.specs.Captures.{AreDistinct, IsPlaced}
use Rattle.tree_write.specs.Drafts.{AreFrom, AreLiveLeaves, HasLeaves}
use Rattle.tree_write.specs.Steps.{links_in}
use Rattle.tree_write.specs.Writes.{IsLiveLeaf, LeadApart}
use Rattle.ckpt_step.specs.Floors.{AreNewestBefore, AreNewestIn, AreOnDevice, FollowsFrom, IsLeafBefore, IsOnDevice}
use Rattle.ckpt_step.specs.Grounds.{AreLone, AreRoots, AreSince, AreWritten, IsSince}
use Rattle.ckpt_step.specs.Lives.{NoneLive, addrs_in, is_live}
use Rattle.ckpt_step.specs.Parts.{AreBelowFloor, IsPart, IsParted, has_rows, part_in, part_leaves, part_of, parts_of}
use Rattle.ckpt_step.specs.Rooms.{Written}
use Rattle.ckpt_step.specs.WritesOut.{AreRowsIn}
use Rattle.ckpt_step.specs.declared.lives.Lone.{Lone}
use Rattle.ckpt_step.proofs.Apart.{links_both}
use Rattle.ckpt_step.proofs.Below.{low_rows}
use Rattle.ckpt_step.proofs.CleanTrees.{newest_under}
use Rattle.ckpt_step.proofs.HeldLives.{AreMore, lone_as}
use Rattle.ckpt_step.proofs.LedOut.{IsBeside, is_beside, led_leaves, led_there, not_it, part_led, part_stays, stays_there, table_still, under_led_was, under_stayed, which}
use Rattle.ckpt_step.proofs.Lones.{live_as}
use Rattle.ckpt_step.proofs.Members.{all_made, all_of, in_back, some_same}
use Rattle.ckpt_step.proofs.OutLives.{both_same, live_by}
use Rattle.ckpt_step.proofs.OutParts.{in_place, placed_dead}
use Rattle.ckpt_step.proofs.WithParts.{in_alike, lies_alike, own_some, part_alike, parts_alike, parts_both}

-- The leaf is led to this block and is in no frame. had: what was written of leaves. has: the same, but nothing of this one. lives, next: the leaves that were written since, before, and with its new block.
pub record IsLed (d : Directory) (l : Leaf) (link : Link) (had has : Written) (lives next : List Lone) : Type 0 where
  pub was : IsDirectory d
  pub there : Contains d.leaves l
  pub later : (id : ℕ) → d.next ≤ id → had id ≡ None
  pub gone : has l.id ≡ None
  pub others : (id : ℕ) → id ≢ l.id → has id ≡ had id
  pub more : AreMore lives next (led_out link l ∷ [])
  pub distinct : AreDistinct (addrs_in lives)

-- Its image there: the newest versions of its keys.
pub record IsImageLed (seen : List ℕ) (m : Machine) (leaves : List Leaf) (l : Leaf) (link : Link) (rows : List Row) : Type 0 where
  pub are : AreRowsIn m leaves l rows
  pub fits : EntryFits (led_out link l).entry
  pub from : AreFrom l.entry.key rows
  pub some : 1 ≤ length rows
  pub leads : has_rows link ≡ true
  pub has : HasLeaves seen ((led_out link l).entry ∷ []) (rows ∷ [])

module _ (d : Directory) (l : Leaf) (link : Link) (had has : Written) (lives next : List Lone) (o : IsLed d l link had has lives next) where
  abbrev pub led : Leaf
  led = led_out link l

  abbrev pub after : List Leaf
  after = led_leaves d l link

  -- ---- which were written since

  pub live_led : is_live next led ≡ true
  live_led = live_by next (lone_as led) led o.more.distinct (o.more.has led (inl refl)) refl refl

  pub live_same : (x : Leaf) → (x.id ≡ l.id → ⊥) → is_live next x ≡ is_live lives x
  live_same x other = both_same (is_live next x) (is_live lives x) down up
    where
      up : is_live lives x ≡ true → is_live next x ≡ true
      up live = let one = live_as lives x live in live_by next one.lone x o.more.distinct (o.more.keeps one.lone one.there) one.at one.id

      down : is_live next x ≡ true → is_live lives x ≡ true
      down live =
          let one = live_as next x live in
          elim (o.more.from one.lone one.there) [
            | inl was ↦ live_by lives one.lone x o.distinct was one.at one.id
            | inr (m, own, same) ↦ elim own [
              | inl is ↦ absurd (other (sym one.id ∙ (ap (λ (y : Lone). y.leaf) same ∙ ap (λ (y : Leaf). y.id) is)))
              | inr none ↦ absurd none
            ]
          ]

  -- one that was not is another
  pub dead_stays : (x : Leaf) → Contains after x → is_live next x ≡ false → Contains d.leaves x × (x.id ≡ l.id → ⊥) × (is_live lives x ≡ false)
  dead_stays x c dead = elim (which d l link o.was o.there x c) [
    | inl is ↦ absurd (false≢true (sym dead ∙ (ap (λ (y : Leaf). is_live next y) is ∙ live_led)))
    | inr old ↦ (old.0, old.1, sym (live_same x old.1) ∙ dead)
  ]

  -- ---- what is written of them

  same_in : (x : Leaf) → (x.id ≡ l.id → ⊥) → part_in has x ≡ part_in had x
  same_in x other = in_alike has had x (o.others x.id other)

  same_part : (x : Leaf) → (x.id ≡ l.id → ⊥) → part_of has x ≡ part_of had x
  same_part x other = part_alike has had x (o.others x.id other)

  parts_stay : (leaves : List Leaf) → ((x : Leaf) → Member x leaves → x.id ≡ l.id → ⊥) → parts_of has leaves ≡ parts_of had leaves
  parts_stay leaves other = parts_alike has had leaves (all_made (λ (x : Leaf). has x.id ≡ had x.id) leaves (λ x mine. o.others x.id (other x mine)))

  parts_other : (table : ℕ) → (table ≡ l.table → ⊥) → parts_of has (leaves_of table after) ≡ parts_of had (leaves_of table d.leaves)
  parts_other table other = ap (parts_of has) (table_still d l link o.was o.there table other) ∙ parts_stay (leaves_of table d.leaves) (not_it d l link o.was o.there table other)

  -- ---- the trees

  -- where none was written since the table is another
  another : (table : ℕ) → NoneLive next after table → table ≡ l.table → ⊥
  another table none same = false≢true (sym (none led (led_there d l link o.was o.there) (sym same)) ∙ live_led)

  none_else : (table : ℕ) → (table ≡ l.table → ⊥) → NoneLive next after table → NoneLive lives d.leaves table
  none_else table other none x c its = sym (live_same x apart) ∙ none x (stays_there d l link o.was o.there x c apart) its
    where
      apart : x.id ≡ l.id → ⊥
      apart same = other (sym its ∙ ap (λ (y : Leaf). y.table) (same-id d x l o.was c o.there same))

  parted_led : (table : ℕ) (place : TreePlace) (tree : TableTree) → IsParted lives d.leaves table had place tree → IsParted next after table has place tree
  parted_led table place tree parted = record {
    joined = λ none. (let other = another table none in parted.joined (none_else table other none) ∙ ap links_in (sym (parts_other table other)));
    among = λ x c its dead e mine. (let was = dead_stays x c dead in parted.among x was.0 its was.2 e (subst (λ (part : List Entry). Member e part) (same_part x was.1) mine));
    parts = λ x c its dead.
        let was = dead_stays x c dead in
        subst (λ (part : List Entry). IsPart after table x part (part_leaves place tree part)) (sym (same_part x was.1))
        (part_stays d l link o.was o.there x was.1 table (part_of had x) (part_leaves place tree (part_of had x)) (parted.parts x was.0 its was.2));
  }

  module _ (known : List Table) (places : List TreePlace) where
    pub roots_led : (old : Option Stored) → AreRoots known lives d.leaves had places old → AreRoots known next after has places old
    roots_led None none = none
    roots_led (Some s) roots = record {
      few = roots.few;
      count = roots.count;
      trees = λ i t place at stands. let tree = roots.trees i t place at stands in (tree.0, tree.1, parted_led t.number place tree.0 tree.2);
    }

    pub written_led : AreWritten known lives d had places → AreWritten known next (record d { leaves = after }) has places
    written_led were = record {
      later = λ id late. elim (cases_eq id l.id) [
        | inl same ↦ ap (λ (k : ℕ). has k) same ∙ o.gone
        | inr other ↦ o.others id other ∙ o.later id late
      ];
      made_since = λ i t x at none c its dead.
          let was = dead_stays x c dead in
          let own = were.made_since i t x at none was.0 its was.2 in
          (same_in x was.1 ∙ own.0, own.1);
    }

  -- ---- those that were written since

  l_below : l.id < d.next
  l_below = subst (λ (y : Leaf). y.id < d.next) o.there.2 (o.was.below o.there.0 l o.there.1)

  module _ (leads : has_rows link ≡ true) (books : Books) (placed : IsPlaced books link.addr) (live : AreLiveLeaves books (links_in (parts_of had (leaves_of l.table d.leaves)))) (apart : LeadApart (links_in (parts_of had (leaves_of l.table d.leaves)))) where
    abbrev beside : IsBeside d l link o.was o.there
    beside = is_beside d l link o.was o.there

    own_part_is : part_of has led ≡ led.entry ∷ []
    own_part_is = ap (λ (found : Option (List Entry)). of_some [] (λ (es : List Entry). es) found) (in_alike has (λ id. None) led o.gone ∙ own_some led.entry leads)

    parts_were : links_in (parts_of had (leaves_of l.table d.leaves)) ≡ links_in (parts_of had beside.front) ++ (links_in (part_of had l) ++ links_in (parts_of had beside.back))
    parts_were =
        ap (λ (ls : List Leaf). links_in (parts_of had ls)) beside.were
        ∙ (ap links_in (parts_both had beside.front (l ∷ beside.back))
        ∙ (links_both (parts_of had beside.front) (part_of had l ++ parts_of had beside.back)
        ∙ ap (λ (ls : List Link). links_in (parts_of had beside.front) ++ ls) (links_both (part_of had l) (parts_of had beside.back))))

    parts_are : links_in (parts_of has (leaves_of l.table after)) ≡ links_in (parts_of had beside.front) ++ ((link ∷ []) ++ links_in (parts_of had beside.back))
    parts_are =
        ap (λ (ls : List Leaf). links_in (parts_of has ls)) beside.are
        ∙ (ap links_in (parts_both has beside.front (led ∷ beside.back))
        ∙ (ap (λ (es : List Entry). links_in (es ++ parts_of has (led ∷ beside.back))) (parts_stay beside.front beside.ahead)
        ∙ (ap (λ (es : List Entry). links_in (parts_of had beside.front ++ (es ++ parts_of has beside.back))) own_part_is
        ∙ (ap (λ (es : List Entry). links_in (parts_of had beside.front ++ (led.entry ∷ es))) (parts_stay beside.back beside.behind)
        ∙ links_both (parts_of had beside.front) (led.entry ∷ parts_of had beside.back)))))

    far : (y : Link) → Member y (link ∷ []) → (z : Link) → Member z (links_in (parts_of had beside.front) ++ links_in (parts_of had beside.back)) → z.addr.offset ≡ y.addr.offset → ⊥
    far y (inr none) z also same = none
    far y (inl is) z also same =
        let meets : z.addr.offset ≡ link.addr.offset = same ∙ ap (λ (k : Link). k.addr.offset) is in
        elim (all_of (λ (k : Link). IsLiveLeaf books k) (links_in (parts_of had (leaves_of l.table d.leaves))) z live (subst (λ (ls : List Link). Member z ls) (sym parts_were) (amid (links_in (parts_of had beside.front)) (links_in (part_of had l)) (links_in (parts_of had beside.back)) z also))) [
          | inl zero ↦ absurd (let offset = placed.offset in omega (arith, zero, meets, offset))
          | inr block ↦ absurd (placed_dead books link.addr z.addr.size placed (subst (λ (k : ℕ). HasLive books.cells k z.addr.size) meets block))
        ]
      where
        amid : (xs gone ys : List Link) (k : Link) → Member k (xs ++ ys) → Member k (xs ++ (gone ++ ys))
        amid [] gone ys k mine = in_back gone ys k mine
        amid (x ∷ xs) gone ys k (inl is) = inl is
        amid (x ∷ xs) gone ys k (inr later) = inr (amid xs gone ys k later)

    apart_own : LeadApart (links_in (parts_of has (leaves_of l.table after)))
    apart_own = subst LeadApart (sym parts_are) (in_place (links_in (parts_of had beside.front)) (links_in (part_of had l)) (link ∷ []) (links_in (parts_of had beside.back)) (subst LeadApart parts_were apart) (inr tt, tt) far)

    pub since_led : (old : Option Stored) → AreSince old lives d had → AreLone old next → AreSince old next (record d { leaves = after }) has
    since_led old since lone = record {
      lone = lone;
      given = λ x mine. elim (o.more.from x mine) [
        | inl was ↦ since.given x was
        | inr (m, own, same) ↦ elim own [
          | inl is ↦ (let id : x.leaf ≡ l.id = ap (λ (y : Lone). y.leaf) same ∙ ap (λ (y : Leaf). y.id) is in omega (arith, id, l_below))
          | inr none ↦ absurd none
        ]
      ];
      leaf = λ x c live_x. elim (which d l link o.was o.there x c) [
        | inl is ↦ subst (λ (y : Leaf). IsSince next has y) (sym is) (record { there = o.more.has led (inl refl); none = o.gone })
        | inr old ↦
            (let one = since.leaf x old.0 (sym (live_same x old.1) ∙ live_x) in
            record { there = o.more.keeps (record { leaf = x.id; addr = x.entry.link.addr }) one.there; none = o.others x.id old.1 ∙ one.none })
      ];
      apart = λ x c live_x. elim (cases_eq x.table l.table) [
        | inl own ↦ subst (λ (t : ℕ). LeadApart (links_in (parts_of has (leaves_of t after)))) (sym own) apart_own
        | inr other ↦ subst (λ (es : List Entry). LeadApart (links_in es)) (sym (parts_other x.table other)) (elim (which d l link o.was o.there x c) [
          | inl is ↦ absurd (other (ap (λ (y : Leaf). y.table) is))
          | inr old ↦ since.apart x old.0 (sym (live_same x old.1) ∙ live_x)
        ])
      ];
    }

  -- ---- its rows

  module _ (seen : List ℕ) (w : World) (rows : List Row) (own : IsImageLed seen w.machine d.leaves l link rows) where
    abbrev shelf : ℕ → List Row
    shelf = (with_rows l.id rows w).shelf

    shelf_own : shelf l.id ≡ rows
    shelf_own = ap (λ (b : Bool). if b then rows else w.shelf l.id) (eq-eqb l.id l.id refl)

    shelf_same : (id : ℕ) → (id ≡ l.id → ⊥) → shelf id ≡ w.shelf id
    shelf_same id other = ap (λ (b : Bool). if b then rows else w.shelf id) (ne_eqb id l.id other)

    newest : AreNewestIn w.machine after l.table led rows
    newest key under = own.are.newest key (under_led_was d l link o.was o.there l.table key under)

    image : IsPart after l.table led (led.entry ∷ []) (rows ∷ [])
    image = part_led d l link o.was o.there rows own.fits own.from own.some own.are.fit own.are.lie

    -- ---- before a floor

    module _ (floor : Name) where
      stayed : (table : ℕ) (x : Leaf) (had_rows : List Row) → Contains d.leaves x → (x.id ≡ l.id → ⊥) → IsLeafBefore w.machine w.shelf floor d.leaves had table x had_rows → IsLeafBefore w.machine shelf floor after has table x had_rows
      stayed table x had_rows c other was = record {
        before = λ part is below key under. was.before part (sym (same_in x other) ∙ is) below key (under_stayed d l link o.was o.there x c other table key under);
        same = λ lies. was.same (lies_alike had has x (sym (o.others x.id other)) lies) ∙ sym (shelf_same x.id other);
      }

      part_is : part_in has led ≡ Some (led.entry ∷ [])
      part_is = in_alike has (λ id. None) led o.gone ∙ own_some led.entry own.leads

      came : IsLeafBefore w.machine shelf floor after has led.table led (shelf led.id)
      came = record {
        before = λ part is below.
            let here : led.entry ∷ [] ≡ part = some_same (sym part_is ∙ is) in
            let low = subst (λ (es : List Entry). AreBelowFloor floor es) (sym here) below in
            let low_name = subst (λ (name : Name). is_below name floor ≡ true) own.has.0.1.bears.says.greatest low.0 in
            subst (λ (rs : List Row). AreNewestBefore w.machine floor after l.table led rs) (sym shelf_own) (newest_under w.machine l.table after led floor rows own.are.fit (low_rows floor rows low_name) newest);
        same = λ lies. refl;
      }

      pub follows_led : (old : Option Stored) (known : List Table) (places : List TreePlace) → FollowsFrom old known lives d.leaves had places floor w → FollowsFrom old known next after has places floor (with_rows l.id rows w)
      follows_led old known places follows = record {
        respects = follows.respects;
        leaf = λ i t p tree x at stands there c its dead.
            let was = dead_stays x c dead in
            subst (λ (part : List Entry). IsLeafBefore w.machine shelf floor after has t.number x (join (part_leaves p tree part))) (sym (same_part x was.1))
            (stayed t.number x (join (part_leaves p tree (part_of had x))) was.0 was.1 (follows.leaf i t p tree x at stands there was.0 its was.2));
        since = λ x c live. elim (which d l link o.was o.there x c) [
          | inl is ↦ subst (λ (y : Leaf). IsLeafBefore w.machine shelf floor after has y.table y (shelf y.id)) (sym is) came
          | inr old ↦ subst (λ (rs : List Row). IsLeafBefore w.machine shelf floor after has x.table x rs) (sym (shelf_same x.id old.1)) (stayed x.table x (w.shelf x.id) old.0 old.1 (follows.since x old.0 (sym (live_same x old.1) ∙ live)))
        ];
      }

    -- ---- on the device

    pub device_led : AreOnDevice seen lives d.leaves w.shelf → AreOnDevice seen next after shelf
    device_led device x c live = elim (which d l link o.was o.there x c) [
      | inl is ↦ subst (λ (y : Leaf). IsOnDevice seen after shelf y) (sym is) (record {
        is = subst (λ (rs : List Row). IsPart after l.table led (led.entry ∷ []) (rs ∷ [])) (sym shelf_own) image;
        on = subst (λ (rs : List Row). HasLeaves seen (led.entry ∷ []) (rs ∷ [])) (sym shelf_own) own.has;
      })
      | inr old ↦
          let one = device x old.0 (sym (live_same x old.1) ∙ live) in
          record {
            is = subst (λ (rs : List Row). IsPart after x.table x (x.entry ∷ []) (rs ∷ [])) (sym (shelf_same x.id old.1)) (part_stays d l link o.was o.there x old.1 x.table (x.entry ∷ []) (w.shelf x.id ∷ []) one.is);
            on = subst (λ (rs : List Row). HasLeaves seen (x.entry ∷ []) (rs ∷ [])) (sym (shelf_same x.id old.1)) one.on;
          }
    ]
