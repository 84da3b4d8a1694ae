-- A leaf that was written out gave way: what the checkpoint has of the leaves that there are then.
use Rattle.std.specs.Prelude.{◌≡◌, ℕ, ◌<◌, true, false, List, [], ◌∷◌, ◌++◌, Option, None, Some, refl}
use Rattle.std.specs.List.{AllByRecursion, Contains}
use Rattle.std.proofs.Common.{inl, inr, sym, ◌∙◌, ap, subst, arith, append_assoc}
use Rattle.std.proofs.lemmas.Bool.{cases_eq, false≢true}
use Rattle.block_mgr.specs.Blocks.{Books, HasLive}
use Rattle.block_mgr.specs.declared.cell.Cell.{Cell}
use Rattle.block_mgr.specs.Cells.{cell_at}
use Rattle.device_layout.specs.declared.addr.Addr.{Addr}
use Rattle.device_layout.specs.declared.link.Link.{Link}
use Rattle.kv_model.specs.History.{Table}
use Rattle.kv_model.specs.Holds.{Member}
use Rattle.kv_model.specs.Machine.{of_some}
use Rattle.stored.specs.Stored.{Stored}
use Rattle.stored.specs.TableTree.{Entry, TableTree}
use Rattle.tree_dir.specs.declared.leaf.Leaf.{Leaf}
use Rattle.tree_dir.specs.Leaves.{Directory, leaves_of}
use Rattle.tree_open.specs.declared.place.TreePlace.{TreePlace}
use Rattle.tree_write.specs.Captures.{AreDistinct, IsPlaced}
use Rattle.tree_write.specs.Drafts.{AreLiveLeaves, addrs_to}
use Rattle.tree_write.specs.Steps.{links_in}
use Rattle.tree_write.specs.Writes.{IsLiveLeaf, LeadApart}
use Rattle.ckpt_step.specs.Grounds.{AreLone, AreRoots, AreSince, AreWritten}
use Rattle.ckpt_step.specs.Lives.{NoneLive, is_live}
use Rattle.ckpt_step.specs.Parts.{IsPart, IsParted, has_rows, part_leaves, part_of, parts_of}
use Rattle.ckpt_step.specs.Rooms.{Written}
use Rattle.ckpt_step.specs.declared.lives.Lone.{Lone}
use Rattle.ckpt_step.proofs.Apart.{links_both}
use Rattle.ckpt_step.proofs.GivingLeaves.{below_next, other_id, parts_made}
use Rattle.ckpt_step.proofs.GivingParts.{part_still}
use Rattle.ckpt_step.proofs.Members.{all_made, all_of, in_back, in_front, map_member, member_map}
use Rattle.ckpt_step.proofs.OutLives.{IsOut, dead_stays, giving, live_new, live_same, news, none_else, none_new, over, parts_other, parts_stay, same_had, same_part}
use Rattle.ckpt_step.proofs.TableLeaves.{contains_of, in_table, member_of}
use Rattle.ckpt_step.proofs.WithParts.{in_alike, own_some, parts_both}

-- ---- links that lead apart

-- where a block was put the live tree had none
pub placed_dead : (books : Books) (a : Addr) (size : ℕ) → IsPlaced books a → HasLive books.cells a.offset size → ⊥
placed_dead books a size placed (u, at, sized, live) =
    let same : u ≡ placed.unit = (let offset = placed.offset in omega (arith, at, offset)) in
    false≢true (ap (λ (c : Cell). c.is_live) (sym placed.none ∙ ap (cell_at books.cells) (sym same)) ∙ live)

all_both : {A : Type 0} (P : A → Type 0) (xs ys : List A) → AllByRecursion P xs → AllByRecursion P ys → AllByRecursion P (xs ++ ys)
all_both P [] ys all more = more
all_both P (x ∷ xs) ys all more = (all.0, all_both P xs ys all.1 more)

all_front : {A : Type 0} (P : A → Type 0) (xs ys : List A) → AllByRecursion P (xs ++ ys) → AllByRecursion P xs
all_front P [] ys all = tt
all_front P (x ∷ xs) ys all = (all.0, all_front P xs ys all.1)

all_back : {A : Type 0} (P : A → Type 0) (xs ys : List A) → AllByRecursion P (xs ++ ys) → AllByRecursion P ys
all_back P [] ys all = all
all_back P (x ∷ xs) ys all = all_back P xs ys all.1

apart_back : (xs ys : List Link) → LeadApart (xs ++ ys) → LeadApart ys
apart_back [] ys apart = apart
apart_back (x ∷ xs) ys apart = apart_back xs ys apart.1

-- new ones in front of the last
put_before : (ys zs : List Link) → LeadApart ys → LeadApart zs → ((y : Link) → Member y ys → (z : Link) → Member z zs → z.addr.offset ≡ y.addr.offset → ⊥) → LeadApart (ys ++ zs)
put_before [] zs new last far = last
put_before (y ∷ ys) zs new last far = (
  (elim new.0 [
    | inl zero ↦ inl zero
    | inr others ↦ inr (all_both (λ (x : Link). x.addr.offset ≡ y.addr.offset → ⊥) ys zs others (all_made (λ (x : Link). x.addr.offset ≡ y.addr.offset → ⊥) zs (λ z there. far y (inl refl) z there)))
  ]),
  put_before ys zs new.1 last (λ x there. far x (inr there)),
)

-- new ones in the place of some
pub in_place : (xs gone ys zs : List Link) → LeadApart (xs ++ (gone ++ zs)) → LeadApart ys → ((y : Link) → Member y ys → (z : Link) → Member z (xs ++ zs) → z.addr.offset ≡ y.addr.offset → ⊥) → LeadApart (xs ++ (ys ++ zs))
in_place [] gone ys zs apart new far = put_before ys zs new (apart_back gone zs apart) far
in_place (x ∷ xs) gone ys zs apart new far = (
  (elim apart.0 [
    | inl zero ↦ inl zero
    | inr others ↦ inr (all_both (λ (l : Link). l.addr.offset ≡ x.addr.offset → ⊥) xs (ys ++ zs) (all_front (λ (l : Link). l.addr.offset ≡ x.addr.offset → ⊥) xs (gone ++ zs) others)
        (all_both (λ (l : Link). l.addr.offset ≡ x.addr.offset → ⊥) ys zs (all_made (λ (l : Link). l.addr.offset ≡ x.addr.offset → ⊥) ys (λ y there same. far y there x (inl refl) (sym same)))
        (all_back (λ (l : Link). l.addr.offset ≡ x.addr.offset → ⊥) gone zs (all_back (λ (l : Link). l.addr.offset ≡ x.addr.offset → ⊥) xs (gone ++ zs) others))))
  ]),
  in_place xs gone ys zs apart.1 new (λ y there z also. far y there z (inr also)),
)

distinct_apart : (es : List Entry) → AreDistinct (addrs_to es) → LeadApart (links_in es)
distinct_apart [] distinct = tt
distinct_apart (e ∷ es) distinct = (inr (all_made (λ (x : Link). x.addr.offset ≡ e.link.addr.offset → ⊥) (links_in es) far), distinct_apart es distinct.1)
  where
    far : (x : Link) → Member x (links_in es) → x.addr.offset ≡ e.link.addr.offset → ⊥
    far x there =
        let one = member_map {A = Entry} {B = Link} (λ y. y.link) x es there in
        subst (λ (k : Link). k.addr.offset ≡ e.link.addr.offset → ⊥) (sym one.2) (all_of (λ (a : Addr). a.offset ≡ e.link.addr.offset → ⊥) (addrs_to es) one.0.link.addr distinct.0 (map_member {A = Entry} {B = Addr} (λ y. y.link.addr) one.0 es one.1))

module _ (d n : Directory) (l : Leaf) (entries : List Entry) (ids : List ℕ) (had has : Written) (lives next : List Lone) (o : IsOut d n l entries ids had has lives next) where
  -- ---- the trees

  -- a leaf that stays has its part
  still : (table : ℕ) (place : TreePlace) (tree : TableTree) → IsParted lives d.leaves table had place tree → (x : Leaf) → Contains n.leaves x → x.table ≡ table → is_live next x ≡ false → IsPart n.leaves table x (part_of has x) (part_leaves place tree (part_of has x))
  still table place tree parted x c its dead =
      let was = dead_stays d n l entries ids had has lives next o x c dead in
      subst (λ (part : List Entry). IsPart n.leaves table x part (part_leaves place tree part)) (sym (same_part d n l entries ids had has lives next o x c))
      (part_still d n l entries ids (over d n l entries ids had has lives next o) has (giving d n l entries ids had has lives next o) table x was.1 (part_of had x) (part_leaves place tree (part_of had x)) (parted.parts x was.0 its was.2))

  -- where none was written since the table is another
  another : (table : ℕ) → (x : Leaf) → Member x (news d n l entries ids had has lives next o) → NoneLive next n.leaves table → table ≡ l.table → ⊥
  another table x new none same =
      let c = contains_of (news d n l entries ids had has lives next o) x new in
      false≢true (sym (none x (o.stand.news x c) ((o.stand.own x c).0 ∙ sym same)) ∙ live_new d n l entries ids had has lives next o x c)

  pub parted_out : (first : Leaf) → Member first (news d n l entries ids had has lives next o) → (table : ℕ) (place : TreePlace) (tree : TableTree) → IsParted lives d.leaves table had place tree → IsParted next n.leaves table has place tree
  parted_out first new table place tree parted = record {
    joined = λ none. (let other = another table first new none in parted.joined (none_else d n l entries ids had has lives next o table other none) ∙ ap links_in (sym (parts_other d n l entries ids had has lives next o table other)));
    among = λ x c its dead e mine. (let was = dead_stays d n l entries ids had has lives next o x c dead in parted.among x was.0 its was.2 e (subst (λ (part : List Entry). Member e part) (same_part d n l entries ids had has lives next o x c) mine));
    parts = λ x c its dead. still table place tree parted x c its dead;
  }

  module _ (first : Leaf) (new_first : Member first (news d n l entries ids had has lives next o)) (known : List Table) (places : List TreePlace) where
    pub roots_out : (old : Option Stored) → AreRoots known lives d.leaves had places old → AreRoots known next n.leaves has places old
    roots_out None none = none
    roots_out (Some s) roots = record {
      few = roots.few;
      count = roots.count;
      trees = λ i t place at stands. let tree = roots.trees i t place at stands in (tree.0, tree.1, parted_out first new_first t.number place tree.0 tree.2);
    }

    pub written_out : AreWritten known lives d had places → AreWritten known next n has places
    written_out were = record {
      later = λ id late. o.others id (λ same. omega (arith, late, o.stand.ids, below_next d n l entries ids (over d n l entries ids had has lives next o) has (giving d n l entries ids had has lives next o) l o.there, same)) ∙ o.later id (omega (arith, late, o.stand.ids));
      made_since = λ i t x at none c its dead.
          let was = dead_stays d n l entries ids had has lives next o x c dead in
          let own = were.made_since i t x at none was.0 its was.2 in
          (same_had d n l entries ids had has lives next o x c ∙ own.0, own.1);
    }

  -- ---- the leaves that were written since

  -- of a new leaf there is its entry, which leads to rows
  module _ (rows : (e : Entry) → Member e entries → has_rows e.link ≡ true) (in_entries : (x : Leaf) → Contains (news d n l entries ids had has lives next o) x → Member x.entry entries) where
    own_entry : (x : Leaf) → Contains (news d n l entries ids had has lives next o) x → part_of has x ≡ x.entry ∷ []
    own_entry x c =
        ap (λ (found : Option (List Entry)). of_some [] (λ (es : List Entry). es) found)
        (in_alike has (λ id. None) x (none_new d n l entries ids had has lives next o x c) ∙ own_some x.entry (rows x.entry (in_entries x c)))

    parts_new : parts_of has (news d n l entries ids had has lives next o) ≡ entries
    parts_new = parts_made has l.table ids entries o.gave.fresh.many (λ x there. own_entry x (contains_of (news d n l entries ids had has lives next o) x there))

    front_stays : (x : Leaf) → Member x o.stand.front → x.id ≡ l.id → ⊥
    front_stays x there = other_id d n l entries ids (over d n l entries ids had has lives next o) has (giving d n l entries ids had has lives next o) x (contains_of n.leaves x (in_table l.table n.leaves x (subst (λ (ls : List Leaf). Member x ls) (sym o.stand.are)
        (in_front (o.stand.front ++ news d n l entries ids had has lives next o) o.stand.back x (in_front o.stand.front (news d n l entries ids had has lives next o) x there)))).0)

    back_stays : (x : Leaf) → Member x o.stand.back → x.id ≡ l.id → ⊥
    back_stays x there = other_id d n l entries ids (over d n l entries ids had has lives next o) has (giving d n l entries ids had has lives next o) x (contains_of n.leaves x (in_table l.table n.leaves x (subst (λ (ls : List Leaf). Member x ls) (sym o.stand.are)
        (in_back (o.stand.front ++ news d n l entries ids had has lives next o) o.stand.back x there))).0)

    parts_were : links_in (parts_of had (leaves_of l.table d.leaves)) ≡ links_in (parts_of had o.stand.front) ++ (links_in (part_of had l) ++ links_in (parts_of had o.stand.back))
    parts_were =
        ap (λ (ls : List Leaf). links_in (parts_of had ls)) o.stand.were
        ∙ (ap links_in (parts_both had o.stand.front (l ∷ o.stand.back))
        ∙ (links_both (parts_of had o.stand.front) (part_of had l ++ parts_of had o.stand.back)
        ∙ ap (λ (ls : List Link). links_in (parts_of had o.stand.front) ++ ls) (links_both (part_of had l) (parts_of had o.stand.back))))

    parts_are : links_in (parts_of has (leaves_of l.table n.leaves)) ≡ links_in (parts_of had o.stand.front) ++ (links_in entries ++ links_in (parts_of had o.stand.back))
    parts_are =
        let these = news d n l entries ids had has lives next o in
        ap (λ (ls : List Leaf). links_in (parts_of has ls)) (o.stand.are ∙ append_assoc o.stand.front these o.stand.back)
        ∙ (ap links_in (parts_both has o.stand.front (these ++ o.stand.back))
        ∙ (ap (λ (es : List Entry). links_in (es ++ parts_of has (these ++ o.stand.back))) (parts_stay d n l entries ids had has lives next o o.stand.front front_stays)
        ∙ (ap (λ (es : List Entry). links_in (parts_of had o.stand.front ++ es)) (parts_both has these o.stand.back)
        ∙ (ap (λ (es : List Entry). links_in (parts_of had o.stand.front ++ (es ++ parts_of has o.stand.back))) parts_new
        ∙ (ap (λ (es : List Entry). links_in (parts_of had o.stand.front ++ (entries ++ es))) (parts_stay d n l entries ids had has lives next o o.stand.back back_stays)
        ∙ (links_both (parts_of had o.stand.front) (entries ++ parts_of had o.stand.back)
        ∙ ap (λ (ls : List Link). links_in (parts_of had o.stand.front) ++ ls) (links_both entries (parts_of had o.stand.back))))))))

    -- the parts of its table lead apart
    module _ (books : Books) (placed : AllByRecursion (λ (a : Addr). IsPlaced books a) (addrs_to entries)) (distinct : AreDistinct (addrs_to entries)) (live : AreLiveLeaves books (links_in (parts_of had (leaves_of l.table d.leaves)))) (apart : LeadApart (links_in (parts_of had (leaves_of l.table d.leaves)))) where
      far_old : (y : Link) → Member y (links_in entries) → (z : Link) → Member z (links_in (parts_of had o.stand.front) ++ links_in (parts_of had o.stand.back)) → z.addr.offset ≡ y.addr.offset → ⊥
      far_old y there z also same =
          let e = member_map {A = Entry} {B = Link} (λ x. x.link) y entries there in
          let at = all_of (λ (a : Addr). IsPlaced books a) (addrs_to entries) e.0.link.addr placed (map_member {A = Entry} {B = Addr} (λ x. x.link.addr) e.0 entries e.1) in
          let meets : z.addr.offset ≡ e.0.link.addr.offset = same ∙ ap (λ (k : Link). k.addr.offset) e.2 in
          elim (all_of (λ (k : Link). IsLiveLeaf books k) (links_in (parts_of had (leaves_of l.table d.leaves))) z live (subst (λ (ls : List Link). Member z ls) (sym parts_were) (among (links_in (parts_of had o.stand.front)) (links_in (part_of had l)) (links_in (parts_of had o.stand.back)) z also))) [
            | inl zero ↦ absurd (let offset = at.offset in omega (arith, zero, meets, offset))
            | inr block ↦ absurd (placed_dead books e.0.link.addr z.addr.size at (subst (λ (k : ℕ). HasLive books.cells k z.addr.size) meets block))
          ]
        where
          among : (xs gone ys : List Link) (k : Link) → Member k (xs ++ ys) → Member k (xs ++ (gone ++ ys))
          among [] gone ys k there = in_back gone ys k there
          among (x ∷ xs) gone ys k (inl is) = inl is
          among (x ∷ xs) gone ys k (inr later) = inr (among xs gone ys k later)

      pub apart_own : LeadApart (links_in (parts_of has (leaves_of l.table n.leaves)))
      apart_own = subst LeadApart (sym parts_are) (in_place (links_in (parts_of had o.stand.front)) (links_in (part_of had l)) (links_in entries) (links_in (parts_of had o.stand.back)) (subst LeadApart parts_were apart) (distinct_apart entries distinct) far_old)

      pub since_out : (old : Option Stored) → AreSince old lives d had → AreLone old next → AreSince old next n has
      since_out old since lone = record {
        lone = lone;
        given = λ x there. elim (o.more.from x there) [
          | inl was ↦ (let low = since.given x was in omega (arith, low, o.stand.ids))
          | inr (m, own, same) ↦ subst (λ (y : Lone). y.leaf < n.next) (sym same) (new_below m own)
        ];
        leaf = λ x c live_x. elim (o.stand.members x c) [
          | inl was ↦
              (let one = since.leaf x was.0 (sym (live_same d n l entries ids had has lives next o x was.0) ∙ live_x) in
              record { there = o.more.keeps (record { leaf = x.id; addr = x.entry.link.addr }) one.there; none = o.others x.id was.1 ∙ one.none })
          | inr new ↦ record { there = o.more.has x (member_of (news d n l entries ids had has lives next o) x new); none = none_new d n l entries ids had has lives next o x new }
        ];
        apart = λ x c live_x. elim (cases_eq x.table l.table) [
          | inl own ↦ subst (λ (t : ℕ). LeadApart (links_in (parts_of has (leaves_of t n.leaves)))) (sym own) apart_own
          | inr other ↦ subst (λ (es : List Entry). LeadApart (links_in es)) (sym (parts_other d n l entries ids had has lives next o x.table other)) (elim (o.stand.members x c) [
            | inl was ↦ since.apart x was.0 (sym (live_same d n l entries ids had has lives next o x was.0) ∙ live_x)
            | inr new ↦ absurd (other (o.stand.own x new).0)
          ])
        ];
      }
        where
          new_below : (m : Leaf) → Member m (news d n l entries ids had has lives next o) → m.id < n.next
          new_below m own =
              let at = o.stand.news m (contains_of (news d n l entries ids had has lives next o) m own) in
              subst (λ (y : Leaf). y.id < n.next) at.2 (o.now.below at.0 m at.1)
