-- The steps of the writing out of a leaf: what each leaves.
use Rattle.std.specs.Prelude.{◌≡◌, ℕ, suc, ◌≤◌, List, [], ◌∷◌, length, Option, Some, Vec, refl}
use Rattle.std.specs.List.{AllByRecursion, Contains}
use Rattle.std.specs.declared.alloc.Global.{Global}
use Rattle.std.proofs.Common.{inl, inr, sym, ◌∙◌, ap, subst, arith}
use Rattle.disk_model.specs.Crash.{LeavesOnly, Looked}
use Rattle.disk_model.specs.declared.disk.Disk.{Ghosts}
use Rattle.disk_model.proofs.Crash.{joined, looked_only}
use Rattle.extent_list.specs.Space.{end_of}
use Rattle.block_mgr.specs.declared.cell.Cell.{Cell}
use Rattle.block_mgr.specs.Blocks.{Books}
use Rattle.block_mgr.specs.Cells.{AreUnits, cell_at}
use Rattle.call_steps.specs.declared.hub.Hub.{Hub}
use Rattle.call_turns.proofs.Walks.{named-is}
use Rattle.checkpoint_core.proofs.Holding.{in_use_same, still_long}
use Rattle.checkpoint_core.specs.Finishes.{IsOld}
use Rattle.checkpoint_core.specs.Stands.{blocks_of}
use Rattle.device_layout.specs.declared.addr.Addr.{Addr}
use Rattle.engine.proofs.LeavesCome.{named-there}
use Rattle.engine_world.specs.Stands.{Engine, Stands}
use Rattle.engine_world.specs.Worlds.{World}
use Rattle.kv_model.specs.Holds.{Member}
use Rattle.leaf_write.specs.Writes.{LeavesGivenBack, LeavesWritten, leaf_sizes}
use Rattle.row_page.specs.Rows.{Row}
use Rattle.stored.specs.Links.{LinkFits}
use Rattle.stored.specs.Stored.{Stored}
use Rattle.stored.specs.TableTree.{Entry}
use Rattle.stamp.specs.declared.Name.{Name}
use Rattle.tree_open.specs.declared.place.TreePlace.{TreePlace}
use Rattle.tree_dir.specs.declared.leaf.Leaf.{Leaf}
use Rattle.tree_dir.specs.GivingWay.{LeavesGiveWay, StandFor}
use Rattle.tree_dir.specs.Slots.{new_leaf}
use Rattle.tree_dir.specs.Leaves.{Directory, GaveWay, TakePlace, leaf_named, leaf_under, leaves_with}
use Rattle.tree_write.specs.Captures.{IsSafe, MayWrite}
use Rattle.tree_write.specs.Drafts.{HasLeaves, addrs_to}
use Rattle.stored.specs.Tree.{join}
use Rattle.tree_write.specs.Cuts.{AreFullLeaves}
use Rattle.tree_write.specs.Sizes.{LacksAll}
use Rattle.tree_write.specs.Steps.{keys_of, part_keys}
use Rattle.tree_write.proofs.LeafKeys.{keys_length}
use Rattle.wt_code.specs.declared.store_error.StoreError.{StoreError}
use Rattle.wt_code.specs.declared.store_error.StoreError.TheVariants.{NoMemory, Read}
use Rattle.ckpt_step.specs.declared.ground.Ground.{Ground}
use Rattle.ckpt_step.specs.declared.lives.Lone.{Lone}
use Rattle.ckpt_step.specs.declared.cutting_out.LeafCut.{LeafCut}
use Rattle.ckpt_step.specs.declared.moving_in.When.{When}
use Rattle.ckpt_step.specs.CutOuts.{AreShelved, HasMoved, HasNotMoved, HasPut, IsSameBut, LetGo, MayReplace, NotPut}
use Rattle.ckpt_step.specs.Floors.{AreLivesOn, AreOnDevice, Follows, FollowsFrom}
use Rattle.ckpt_step.specs.Frees.{without_all}
use Rattle.ckpt_step.specs.Grounds.{AreLedTo, AreRoots, AreSince, AreWritten, StandsOn, start_cell}
use Rattle.ckpt_step.specs.Holding.{AreNewAt, addrs_if, gone_if, held_all, named_all, own_of}
use Rattle.ckpt_step.specs.Rooms.{Rooms, known_in}
use Rattle.ckpt_step.specs.WritesOut.{AreRowsIn}
use Rattle.ckpt_step.proofs.HeldLives.{are_more, named_ids, named_is}
use Rattle.ckpt_step.proofs.HalfCells.{may_of}
use Rattle.ckpt_step.proofs.LeavesNow.{device_kept}
use Rattle.ckpt_step.proofs.LookedAt.{stands_looked}
use Rattle.ckpt_step.proofs.LowUnder.{low_under}
use Rattle.ckpt_step.proofs.Members.{some_same}
use Rattle.ckpt_step.proofs.OutBlocks.{cells_back, placed_new}
use Rattle.ckpt_step.proofs.OutCuts.{may_take, newest_rows, own_images, whole_part}
use Rattle.ckpt_step.proofs.OutLives.{IsOut}
use Rattle.ckpt_step.proofs.OutShelf.{AreImagesOut}
use Rattle.ckpt_step.proofs.OutWay.{device_ground, follows_ground, freed_ground, live_ground, shelf, shelved_ground, stands_out}
use Rattle.ckpt_step.proofs.Past.{free_space}
use Rattle.ckpt_step.proofs.TableLeaves.{contains_of}

-- ---- the ground as it was

-- with these blocks, whose cells are the same
pub stands_back : (seen later : List ℕ) (images left : List ℕ → Type 0) (hub : Hub) (g g' : Ground) (old : Option Stored) → StandsOn seen images hub g old → (books : Books) → MayWrite later left books old → end_of books.space ≤ length later → end_of g'.place.blocks.space ≡ end_of books.space → g'.place.blocks.is_synced ≡ books.is_synced
    → AreUnits g'.place.blocks.cells g'.place.blocks.space → g'.place.blocks.is_held ≡ g.place.blocks.is_held → ((u : ℕ) → cell_at g'.place.blocks.cells u ≡ cell_at g.place.blocks.cells u) → g'.lives ≡ g.lives → g'.parts ≡ g.parts → IsSameBut g g' → StandsOn later left hub g' old
stands_back seen later images left hub g g' old on books may within end synced units held cells lives parts same = record {
  stands = record {
    seen_has = may.stands.seen_has;
    images_have = λ is. may.stands.images_have (sym synced ∙ is);
    in_use = in_use_same g.place.blocks.cells g'.place.blocks.cells (blocks_of old) cells on.stands.in_use;
  };
  number = same.number ∙ on.number;
  slot = same.slot ∙ on.slot;
  cells = λ u. cells u ∙ (on.cells u ∙ ap (λ (l : List Lone). start_cell old l u) (sym lives));
  units = units;
  idle = held ∙ on.idle;
  long = still_long old later may.stands.seen_has;
  within = omega (arith, within, end);
  history = ap (λ (v : Vec Addr Global). v.items) same.history ∙ on.history;
  roots = from (λ p t l. AreRoots hub.tables.tables l hub.dir.leaves (known_in p) t.items old) on.roots;
  written = from (λ p t l. AreWritten hub.tables.tables l hub.dir (known_in p) t.items) on.written;
  since = from (λ p t l. AreSince old l hub.dir (known_in p)) on.since;
  led = from (λ p t l. AreLedTo hub.tables.tables l hub.dir.leaves) on.led;
} where
  from : (P : Rooms → Vec TreePlace Global → List Lone → Type 0) → P g.parts g.trees g.lives → P g'.parts g'.trees g'.lives
  from P was =
      subst (λ (p : Rooms). P p g'.trees g'.lives) (sym parts)
      (subst (λ (t : Vec TreePlace Global). P g.parts t g'.lives) (sym same.trees) (subst (λ (l : List Lone). P g.parts g.trees l) (sym lives) was))

pub follows_back : (old : Option Stored) (hub : Hub) (g g' : Ground) (w : World) → g'.lives ≡ g.lives → g'.parts ≡ g.parts → IsSameBut g g' → Follows old hub g w → Follows old hub g' w
follows_back old hub g g' w lives parts same follows =
    subst (λ (n : Name). FollowsFrom old hub.tables.tables g'.lives hub.dir.leaves (known_in g'.parts) g'.trees.items n w) (sym same.floor)
    (subst (λ (t : Vec TreePlace Global). FollowsFrom old hub.tables.tables g'.lives hub.dir.leaves (known_in g'.parts) t.items g.floor w) (sym same.trees)
    (subst (λ (p : Rooms). FollowsFrom old hub.tables.tables g'.lives hub.dir.leaves (known_in p) g.trees.items g.floor w) (sym parts)
    (subst (λ (l : List Lone). FollowsFrom old hub.tables.tables l hub.dir.leaves (known_in g.parts) g.trees.items g.floor w) (sym lives) follows)))

-- ---- lists

has_many : (bytes : List ℕ) (es : List Entry) (images : List (List Row)) → HasLeaves bytes es images → length es ≡ length images
has_many bytes [] [] has = refl
has_many bytes [] (rows ∷ images) has = absurd has
has_many bytes (e ∷ es) [] has = absurd has
has_many bytes (e ∷ es) (rows ∷ images) has = ap (λ (n : ℕ). suc n) (has_many bytes es images has.1)

first_made : (table : ℕ) (ids : List ℕ) (es : List Entry) (many : ℕ) → length ids ≡ length es → 1 ≤ many → length es ≡ many → (x : Leaf) × Member x (leaves_with table ids es)
first_made table [] [] many same some is = absurd (omega (arith, some, is))
first_made table [] (e ∷ es) many same some is = absurd (omega (arith, same))
first_made table (id ∷ ids) [] many same some is = absurd (omega (arith, same))
first_made table (id ∷ ids) (e ∷ es) many same some is = (new_leaf table id e, inl refl)

-- ---- on a disk that was only looked at before

module _ {D : Type 0} (g : Ghosts D) (before start : D) (looked : Looked g before start) (only : (c : List ℕ) → g.left_since before (g.moment before) c → g.may_leave before c) (old : Option Stored) (w : World) (stand : Ground) (e : Engine) (id : ℕ)
    (on : StandsOn (g.seen before) (g.may_leave before) e.hub stand old) (follows : Follows old e.hub stand w) (device : AreLivesOn (g.seen before) e.hub stand w) where
  pub only_looked : LeavesOnly g before start (IsOld (g.may_leave before) old)
  only_looked = looked_only g before start (IsOld (g.may_leave before) old) looked (λ c is. inl (only c is))

  pub all_left : (after : D) → LeavesOnly g start after (IsOld (g.may_leave start) old) → LeavesOnly g before after (IsOld (g.may_leave before) old)
  all_left after more = joined g before start after _ _ only_looked more old_before
    where
      old_before : (c : List ℕ) → IsOld (g.may_leave start) old c → IsOld (g.may_leave before) old c
      old_before c (inl image) = inl (looked.images c image)
      old_before c (inr still) = inr still

  pub stood : StandsOn (g.seen start) (g.may_leave start) e.hub stand old
  stood = stands_looked (g.seen before) (g.seen start) (g.may_leave before) (g.may_leave start) e.hub stand old looked.content looked.images on

  pub device_start : AreLivesOn (g.seen start) e.hub stand w
  device_start = subst (λ (bytes : List ℕ). AreLivesOn bytes e.hub stand w) (sym looked.content) device

  -- blocks may be written
  pub may_start : MayWrite (g.seen start) (g.may_leave start) stand.place.blocks old
  may_start = may_of (g.seen start) (g.may_leave start) stand.place.blocks old stand.lives [] (record { stands = stood.stands; cells = stood.cells; units = stood.units; long = stood.long; within = stood.within; own = λ a there. absurd there })

  -- nothing was written
  pub not_begun_out : NotPut g old w stand stand e e id before start Read
  not_begun_out = record { left = only_looked; on = λ safe. stood; follows = λ safe. follows; since = λ safe. device_start; same = refl; full = λ is. absurd (cc) }

  pub not_begun_without : NotPut g old w stand stand e e id before start NoMemory
  not_begun_without = record { left = only_looked; on = λ safe. stood; follows = λ safe. follows; since = λ safe. device_start; same = refl; full = λ is. absurd (cc) }

  module _ (after : D) (books : Books) (images : List (List Row)) where
    -- not all of these images were written, which have the newest versions of the leaf's keys
    pub given_back_all : (l : Leaf) → leaf_named id e.hub.dir.leaves ≡ Some l → AreRowsIn w.machine e.hub.dir.leaves l (join images) → AreFullLeaves images → (x : StoreError) (g' : Ground) → LeavesGivenBack g old stand.place.blocks books start after images x → (IsSafe x → end_of books.space ≤ length (g.seen after)) → books.is_held ≡ stand.place.blocks.is_held → g'.place.blocks ≡ books → g'.lives ≡ stand.lives → g'.parts ≡ stand.parts → IsSameBut stand g'
        → NotPut g old w stand g' e e id before after x
    given_back_all l named newest fill x g' back within held blocks lives parts same = record {
      left = all_left after back.left;
      on = λ safe. stands_back (g.seen start) (g.seen after) (g.may_leave start) (g.may_leave after) e.hub stand g' old stood books (back.may safe) (within safe) (ap (λ (b : Books). end_of b.space) blocks) (ap (λ (b : Books). b.is_synced) blocks)
          (subst (λ (b : Books). AreUnits b.cells b.space) (sym blocks) (back.may safe).units) (ap (λ (b : Books). b.is_held) blocks ∙ held) (λ u. ap (λ (b : Books). cell_at b.cells u) blocks ∙ back.cells u) lives parts same;
      follows = λ safe. follows_back old e.hub stand g' w lives parts same follows;
      since = λ safe. subst (λ (l : List Lone). AreOnDevice (g.seen after) l e.hub.dir.leaves w.shelf) (sym lives)
          (device_kept (g.seen start) (g.seen after) stand.place.blocks old stand.lives e.hub.dir (known_in stand.parts) stood.since stood.cells stood.units stood.within (back.keeps safe) w.shelf device_start);
      same = refl;
      full = λ no_space. record {
        old = old;
        has = on.stands.seen_has;
        space = stand.place.blocks.space;
        space_is = free_space (g.seen before) (g.may_leave before) stand.place.blocks old stand.lives on.stands on.since.lone on.cells on.units on.within;
        leaf = l;
        there = named;
        images = images;
        are = newest;
        full = fill;
        lacks = subst (λ (n : ℕ). LacksAll stand.place.blocks.space n (leaf_sizes images)) looked.capacity (back.lacks no_space);
      };
    }

    module _ (es : List Entry) (wrote : LeavesWritten g old stand.place.blocks books start after images es) (within : end_of books.space ≤ length (g.seen after)) (held : books.is_held ≡ stand.place.blocks.is_held)
        (mid : Ground) (blocks : mid.place.blocks ≡ books) (lives : mid.lives ≡ stand.lives) (parts : mid.parts ≡ stand.parts) (same : IsSameBut stand mid) where
      pub new_at : AreNewAt stand.lives es
      new_at = placed_new old stand.lives stood.since.lone stand.place.blocks stood.cells es wrote.added.placed wrote.added.distinct

      -- there was no memory for the rest
      pub moved_back_all : (table : ℕ) (e' : Engine) (g' : Ground) → HasNotMoved e e' mid g' id table es → NotPut g old w stand g' e e' id before after NoMemory
      moved_back_all table e' g' back =
          let now : g'.lives ≡ stand.lives = back.lives (subst (λ (l : List Lone). AreNewAt l es) (sym lives) new_at) ∙ lives in
          let kept : g'.parts ≡ stand.parts = back.parts ∙ parts in
          let alike : IsSameBut stand g' = record { slot = back.same.slot ∙ same.slot; number = back.same.number ∙ same.number; trees = back.same.trees ∙ same.trees; floor = back.same.floor ∙ same.floor; history = back.same.history ∙ same.history; kept = back.same.kept ∙ same.kept } in
          let freed : LetGo books g'.place.blocks (addrs_to es) = subst (λ (b : Books). LetGo b g'.place.blocks (addrs_to es)) blocks back.blocks in
          record {
            left = all_left after wrote.left;
            on = λ safe. stands_back (g.seen start) (g.seen after) (g.may_leave start) (g.may_leave after) e.hub stand g' old stood books wrote.may within freed.end freed.synced (freed.units wrote.may.units) (freed.held ∙ held)
                (λ u. freed.cells u ∙ (ap (λ (c : Cell). without_all u c (addrs_to es)) (wrote.added.cells u) ∙ cells_back old stand.lives stood.since.lone stand.place.blocks stood.cells (addrs_to es) wrote.added.placed wrote.added.distinct u)) now kept alike;
            follows = λ safe. follows_back old e.hub stand g' w now kept alike follows;
            since = λ safe. subst (λ (l : List Lone). AreOnDevice (g.seen after) l e.hub.dir.leaves w.shelf) (sym now)
                (device_kept (g.seen start) (g.seen after) stand.place.blocks old stand.lives e.hub.dir (known_in stand.parts) stood.since stood.cells stood.units stood.within wrote.keeps w.shelf device_start);
            same = back.engine;
            full = λ no_space. absurd (cc);
          }

  module _ (cut : LeafCut) (all : List Row) (is : MayReplace e id cut all) (stands : Stands e w) (newest : AreRowsIn w.machine e.hub.dir.leaves is.leaf all) (after : D) (books : Books) where
    -- not all images were written
    pub given_back : (x : StoreError) (g' : Ground) → LeavesGivenBack g old stand.place.blocks books start after (own_images e id cut all is).leaves x → (IsSafe x → end_of books.space ≤ length (g.seen after)) → books.is_held ≡ stand.place.blocks.is_held → g'.place.blocks ≡ books → g'.lives ≡ stand.lives → g'.parts ≡ stand.parts → IsSameBut stand g'
        → NotPut g old w stand g' e e id before after x
    given_back x g' back within held blocks lives parts same = given_back_all after books (own_images e id cut all is).leaves is.leaf is.there (newest_rows e id cut all is w.machine newest) (own_images e id cut all is).full x g' back within held blocks lives parts same

    module _ (es : List Entry) (wrote : LeavesWritten g old stand.place.blocks books start after (own_images e id cut all is).leaves es) (within : end_of books.space ≤ length (g.seen after)) (held : books.is_held ≡ stand.place.blocks.is_held)
        (mid : Ground) (blocks : mid.place.blocks ≡ books) (lives : mid.lives ≡ stand.lives) (parts : mid.parts ≡ stand.parts) (same : IsSameBut stand mid) where
      -- there was no memory for the rest
      pub moved_back : (e' : Engine) (g' : Ground) → HasNotMoved e e' mid g' id cut.table es → NotPut g old w stand g' e e' id before after NoMemory
      moved_back e' g' back = moved_back_all after books (own_images e id cut all is).leaves es wrote within held mid blocks lives parts same cut.table e' g' back

      -- the leaf gave way
      module _ (laws : LeavesGiveWay) (keys : keys_of es ≡ part_keys cut.low cut.images.items) (fits : AllByRecursion (λ (x : Entry). LinkFits x.link) es) (e' : Engine) (g' : Ground) (when : When) (moved : HasMoved e e' mid g' id cut.table es when) where
        abbrev l : Leaf
        l = moved.way.leaf

        abbrev n : Directory
        n = e'.hub.dir

        abbrev d : Directory
        d = e.hub.dir

        leaf_is : is.leaf ≡ l
        leaf_is = some_same (sym is.there ∙ moved.way.there)

        id_is : l.id ≡ id
        id_is = named-is id d.leaves l moved.way.there

        there : Contains d.leaves l
        there = named-there id d.leaves l moved.way.there

        place : TakePlace l.id es d.leaves
        place = subst (λ (k : ℕ). TakePlace k es d.leaves) (sym id_is) (may_take e id cut all is es keys)

        gave : GaveWay d n l.id es moved.way.ids
        gave = subst (λ (k : ℕ). GaveWay d n k es moved.way.ids) (sym id_is) moved.way.gave

        stand_for : StandFor d n l (leaves_with l.table moved.way.ids es)
        stand_for = laws d n l es moved.way.ids stands.dir moved.now there place gave

        abbrev next : List Lone
        next = named_ids (held_all id stand.lives es) moved.way.ids es

        own_key : (x : Leaf) → Member x (leaves_with l.table moved.way.ids es) → leaf_under l.table x.entry.key n.leaves ≡ Some x
        own_key x mine =
            let c = contains_of (leaves_with l.table moved.way.ids es) x mine in
            ap (λ (t : ℕ). leaf_under t x.entry.key n.leaves) (sym (stand_for.own x c).0) ∙ low_under n moved.now x (stand_for.news x c)

        named : named_all n cut.table (held_all id mid.lives es) es ≡ next
        named =
            ap (λ (t : ℕ). named_all n t (held_all id mid.lives es) es) (is.table ∙ ap (λ (x : Leaf). x.table) leaf_is)
            ∙ (ap (λ (x : List Lone). named_all n l.table (held_all id x es) es) lives ∙ named_is n l.table (held_all id stand.lives es) moved.way.ids es gave.fresh.many own_key)

        out : IsOut d n l es moved.way.ids (known_in stand.parts) (known_in g'.parts) stand.lives next
        out = record {
          was = stands.dir;
          now = moved.now;
          there = there;
          place = place;
          gave = gave;
          stand = stand_for;
          later = stood.written.later;
          others = λ other differ. moved.others other (λ met. differ (met ∙ sym id_is)) ∙ ap (λ (p : Rooms). known_in p other) parts;
          more = are_more id l.table stand.lives moved.way.ids es gave.fresh.many stood.since.lone.distinct (new_at after books (own_images e id cut all is).leaves es wrote within held mid blocks lives parts same);
          distinct = stood.since.lone.distinct;
        }

        abbrev rows : List (List Row)
        rows = (own_images e id cut all is).leaves

        images_out : AreImagesOut (g.seen after) w.machine d.leaves l es rows
        images_out = subst (λ (x : Leaf). AreImagesOut (g.seen after) w.machine d.leaves x es rows) leaf_is (record {
          part = whole_part e id cut all is w.machine newest es keys fits;
          newest = (newest_rows e id cut all is w.machine newest).newest;
          apart = wrote.added.distinct;
          many = has_many (g.seen after) es rows wrote.has;
          has = wrote.has;
        })

        own_is : own_of mid.lives (leaf_named id d.leaves) ≡ own_of stand.lives (Some l)
        own_is = ap (λ (x : List Lone). own_of x (leaf_named id d.leaves)) lives ∙ ap (own_of stand.lives) moved.way.there

        lives_are : g'.lives ≡ gone_if next (own_of stand.lives (Some l))
        lives_are = moved.lives ∙ (ap (λ (x : List Lone). gone_if x (own_of mid.lives (leaf_named id d.leaves))) named ∙ ap (gone_if next) own_is)

        let_go : LetGo books g'.place.blocks (addrs_if (own_of stand.lives (Some l)))
        let_go = subst (λ (b : Books). LetGo b g'.place.blocks (addrs_if (own_of stand.lives (Some l)))) blocks (subst (λ (a : Option Addr). LetGo mid.place.blocks g'.place.blocks (addrs_if a)) own_is moved.blocks)

        alike : IsSameBut stand g'
        alike = record { slot = moved.same.slot ∙ same.slot; number = moved.same.number ∙ same.number; trees = moved.same.trees ∙ same.trees; floor = moved.same.floor ∙ same.floor; history = moved.same.history ∙ same.history; kept = moved.same.kept ∙ same.kept }

        -- one of the leaves in its place
        first : (x : Leaf) × Member x (leaves_with l.table moved.way.ids es)
        first = first_made l.table moved.way.ids es (length cut.images.items) gave.fresh.many is.some (keys_length cut.low es cut.images.items keys)

        hub_is : e'.hub ≡ record e.hub { dir = n }
        hub_is = ap (λ (x : Engine). x.hub) moved.way.is

        -- of the new leaves it has the rows of their blocks
        abbrev then_shelf : ℕ → List Row
        then_shelf = shelf (g.seen start) (g.seen after) (g.may_leave start) (g.may_leave after) e n w stand g' old l es moved.way.ids next stands stood follows device_start out first.0 first.1 rows images_out books wrote.added wrote.may wrote.keeps within held lives_are let_go alike

        pub moved_out : HasPut g old w stand g' e e' id before after when all
        moved_out = record {
          entries = es;
          way = moved.way;
          stands = moved.stands;
          now = moved.now;
          left = all_left after wrote.left;
          shelf = then_shelf;
          shelved = subst (λ (x : List Row). AreShelved d n l x (leaves_with l.table moved.way.ids es) w.shelf then_shelf) (own_images e id cut all is).whole (shelved_ground (g.seen start) (g.seen after) (g.may_leave start) (g.may_leave after) e n w stand g' old l es moved.way.ids next stands stood follows device_start out first.0 first.1 rows images_out books wrote.added wrote.may wrote.keeps within held lives_are let_go alike);
          on = subst (λ (hub : Hub). StandsOn (g.seen after) (g.may_leave after) hub g' old) (sym hub_is) (stands_out (g.seen start) (g.seen after) (g.may_leave start) (g.may_leave after) e n w stand g' old l es moved.way.ids next stands stood follows device_start out first.0 first.1 rows images_out books wrote.added wrote.may wrote.keeps within held lives_are let_go alike);
          follows = subst (λ (hub : Hub). Follows old hub g' (record w { shelf = then_shelf })) (sym hub_is) (follows_ground (g.seen start) (g.seen after) (g.may_leave start) (g.may_leave after) e n w stand g' old l es moved.way.ids next stands stood follows device_start out first.0 first.1 rows images_out books wrote.added wrote.may wrote.keeps within held lives_are let_go alike);
          since = subst (λ (hub : Hub). AreLivesOn (g.seen after) hub g' (record w { shelf = then_shelf })) (sym hub_is) (device_ground (g.seen start) (g.seen after) (g.may_leave start) (g.may_leave after) e n w stand g' old l es moved.way.ids next stands stood follows device_start out first.0 first.1 rows images_out books wrote.added wrote.may wrote.keeps within held lives_are let_go alike);
          live = λ x c. live_ground (g.seen start) (g.seen after) (g.may_leave start) (g.may_leave after) e n w stand g' old l es moved.way.ids next stands stood follows device_start out first.0 first.1 rows images_out books wrote.added wrote.may wrote.keeps within held lives_are let_go alike x c;
          freed = freed_ground (g.seen start) (g.seen after) (g.may_leave start) (g.may_leave after) e n w stand g' old l es moved.way.ids next stands stood follows device_start out first.0 first.1 rows images_out books wrote.added wrote.may wrote.keeps within held lives_are let_go alike;
          forgets = moved.gone;
        }
