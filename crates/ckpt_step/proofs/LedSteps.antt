-- The steps of the eviction of a leaf: what each leaves.
use Rattle.std.specs.Prelude.{◌≡◌, ℕ, ◌≤◌, false, List, [], ◌∷◌, length, Option, None, Some, refl}
use Rattle.std.specs.List.{AllByRecursion, Contains}
use Rattle.std.proofs.Common.{get_or, inl, inr, sym, ◌∙◌, ap, subst, arith}
use Rattle.std.proofs.lemmas.List.{append-nil}
use Rattle.disk_model.specs.Crash.{Looked}
use Rattle.disk_model.specs.declared.disk.Disk.{Ghosts}
use Rattle.extent_list.specs.Space.{end_of}
use Rattle.block_mgr.specs.Blocks.{Books}
use Rattle.call_steps.specs.declared.hub.Hub.{Hub}
use Rattle.call_turns.proofs.Walks.{named-is}
use Rattle.device_layout.specs.declared.addr.Addr.{Addr}
use Rattle.device_layout.specs.declared.link.Link.{Link}
use Rattle.engine.proofs.LeavesCome.{named-there}
use Rattle.engine.specs.declared.running_checkpoint.RunningCheckpoint.{RunningCheckpoint}
use Rattle.engine.specs.Evictions.{HasBeenEvicted, MayBeEvicted}
use Rattle.engine.specs.Running.{RunsAs}
use Rattle.engine_world.specs.Evicting.{IsEvictedTo, evicted, led_out, with_rows}
use Rattle.engine_world.specs.GoingOut.{with_again}
use Rattle.engine_world.specs.Stands.{Engine, Stands}
use Rattle.engine_world.specs.Worlds.{World, with_records}
use Rattle.evict_step.specs.Cuts.{AreCut}
use Rattle.kv_model.specs.Holds.{Member}
use Rattle.leaf_write.specs.Adds.{AreAdded}
use Rattle.leaf_write.specs.Writes.{LeavesGivenBack, LeavesWritten}
use Rattle.reconcile.specs.declared.image.Image.{Image}
use Rattle.reconcile.specs.declared.image.Moved.{Moved}
use Rattle.reconcile.specs.Moving.{versions_in}
use Rattle.row_page.specs.Rows.{Row, key_most}
use Rattle.stored.specs.Links.{LinkFits}
use Rattle.stored.specs.Stored.{Stored}
use Rattle.stored.specs.TableTree.{Entry, root_entry}
use Rattle.stored.specs.Tree.{join}
use Rattle.tree_dir.specs.declared.leaf.Framed.{Framed}
use Rattle.tree_dir.specs.declared.leaf.Leaf.{Leaf}
use Rattle.tree_dir.specs.Leaves.{Directory, changed, leaf_named}
use Rattle.tree_write.specs.Captures.{AreDistinct, IsSafe}
use Rattle.tree_write.specs.Drafts.{AreFrom, HasLeaves, LeavesOf, addrs_to}
use Rattle.tree_write.specs.Steps.{AreSpelled}
use Rattle.tree_write.proofs.LeafKeys.{leaves_of}
use Rattle.wt_code.specs.declared.store_error.StoreError.{StoreError}
use Rattle.wt_code.specs.declared.store_error.StoreError.TheVariants.{NoMemory}
use Rattle.ckpt_step.specs.declared.ground.Ground.{Ground}
use Rattle.ckpt_step.specs.declared.lives.Lone.{Lone}
use Rattle.ckpt_step.specs.CutOuts.{IsSameBut, LetGo, NotPut}
use Rattle.ckpt_step.specs.EvictSteps.{HasLeft, HasStayed, IsLowOf}
use Rattle.ckpt_step.specs.Evicts.{LeftFrame}
use Rattle.ckpt_step.specs.Floors.{AreLivesOn, Follows}
use Rattle.ckpt_step.specs.Grounds.{StandsOn}
use Rattle.ckpt_step.specs.Holding.{AreNewAt, addrs_if, gone_if, own_of, put_lone}
use Rattle.ckpt_step.specs.Lives.{addrs_in, has_at}
use Rattle.ckpt_step.specs.Rooms.{Rooms, known_in}
use Rattle.ckpt_step.specs.WritesOut.{AreRowsIn}
use Rattle.ckpt_step.proofs.HeldLives.{AreMore, lone_as}
use Rattle.ckpt_step.proofs.KeptGround.{follows_records}
use Rattle.ckpt_step.proofs.LedLives.{IsImageLed, IsLed}
use Rattle.ckpt_step.proofs.LedNewest.{evicted_rows}
use Rattle.ckpt_step.proofs.LedWay.{device_ground, follows_ground, freed_ground, live_ground, stands_led}
use Rattle.ckpt_step.proofs.Links.{some_rows}
use Rattle.ckpt_step.proofs.LonesMore.{put_distinct, put_from, put_keeps, put_there}
use Rattle.ckpt_step.proofs.Members.{some_same}
use Rattle.ckpt_step.proofs.OutBlocks.{placed_new}
use Rattle.ckpt_step.proofs.OutSteps.{all_left, device_start, given_back_all, moved_back_all, stood}

-- ---- one image

-- it has all rows
sole_image : (images : List Image) (leaves : List (List Row)) (rows : List Row) → AreSpelled images leaves → join leaves ≡ rows → length images ≡ 1 → leaves ≡ rows ∷ []
sole_image [] leaves rows spelled whole one = absurd (omega (arith, one))
sole_image (i ∷ j ∷ images) leaves rows spelled whole one = absurd (omega (arith, one))
sole_image (i ∷ []) [] rows spelled whole one = absurd spelled
sole_image (i ∷ []) (r ∷ []) rows spelled whole one = ap (λ (x : List Row). x ∷ []) (sym (append-nil r) ∙ whole)
sole_image (i ∷ []) (r ∷ s ∷ leaves) rows spelled whole one = absurd spelled.1

-- an entry leads to it, by this link
pub sole_entry : (es : List Entry) (e : Entry) (link : Link) → length es ≡ 1 → e ≡ get_or es 0 e → link ≡ e.link → es ≡ record { key = e.key; link = link } ∷ []
sole_entry [] e link one is same = absurd (omega (arith, one))
sole_entry (x ∷ y ∷ es) e link one is same = absurd (omega (arith, one))
sole_entry (x ∷ []) e link one is same = ap (λ (y : Entry). y ∷ []) (sym is) ∙ ap (λ (k : Link). let y : Entry = record { key = e.key; link = k } in y ∷ []) (sym same)

-- ---- the leaf is one

pub may_same : (e : Engine) (id : ℕ) (a b : MayBeEvicted e id) → a.framed ≡ b.framed
may_same e id a b = some_same (sym a.placed ∙ (ap (λ (l : Leaf). l.frame) (some_same (sym a.there ∙ b.there)) ∙ b.placed))

-- with a block that is new
more_led : (lives : List Lone) (l : Leaf) (link : Link) → AreDistinct (addrs_in lives) → has_at lives link.addr.offset ≡ false → AreMore lives (put_lone (lone_as (led_out link l)) lives) (led_out link l ∷ [])
more_led lives l link distinct new = record {
  distinct = put_distinct (lone_as (led_out link l)) lives new distinct;
  from = λ y there. elim (put_from (lone_as (led_out link l)) lives y new there) [
    | inl same ↦ inr (led_out link l, inl refl, same)
    | inr was ↦ inl was
  ];
  keeps = λ y there. put_keeps (lone_as (led_out link l)) lives y new there;
  has = λ n there. elim there [
    | inl same ↦ subst (λ (m : Leaf). Member (lone_as m) (put_lone (lone_as (led_out link l)) lives)) (sym same) (put_there (lone_as (led_out link l)) lives new)
    | inr none ↦ absurd none
  ];
}

-- a world in which calls may be told more is followed as well
again_follows : (old : Option Stored) (hub : Hub) (g : Ground) (w : World) (e : Engine) (frame : ℕ) → Follows old hub g w → Follows old hub g (with_again e frame w)
again_follows old hub g w e frame follows = record { respects = follows.respects; leaf = follows.leaf; since = follows.since }

-- ---- on a disk that was only looked at before

module _ {D : Type 0} (g : Ghosts D) (before start : D) (looked : Looked g before start) (only : (c : List ℕ) → g.left_since before (g.moment before) c → g.may_leave before c) (old : Option Stored) (w : World) (stand : Ground) (e : Engine) (id : ℕ)
    (on : StandsOn (g.seen before) (g.may_leave before) e.hub stand old) (follows : Follows old e.hub stand w) (device : AreLivesOn (g.seen before) e.hub stand w)
    (running : Option RunningCheckpoint) (images : List Image) (moved : List Moved) (cut : AreCut e running id images moved) (one : length images ≡ 1) (low : List ℕ) (begins : IsLowOf e id images low) (stands : Stands e w) (runs : RunsAs w.machine running) (after : D) (books : Books) where
  abbrev pub own : LeavesOf images cut.rows
  own = leaves_of images cut.rows cut.are

  abbrev l : Leaf
  l = cut.may.leaf

  is_evicted : IsEvictedTo w.machine e.hub.dir.leaves l cut.may.frame cut.rows (λ key. versions_in key moved)
  is_evicted = cut.evicted w stands runs

  rows_in : AreRowsIn w.machine e.hub.dir.leaves l cut.rows
  rows_in = evicted_rows e w stands id cut.may cut.rows cut.fit (λ key. versions_in key moved) is_evicted

  start_on : StandsOn (g.seen start) (g.may_leave start) e.hub stand old
  start_on = stood g before start looked only old w stand e id on follows device

  start_device : AreLivesOn (g.seen start) e.hub stand w
  start_device = device_start g before start looked only old w stand e id on follows device

  -- it was not written
  pub given_back_led : (x : StoreError) (g' : Ground) → LeavesGivenBack g old stand.place.blocks books start after own.leaves x → (IsSafe x → end_of books.space ≤ length (g.seen after)) → books.is_held ≡ stand.place.blocks.is_held → g'.place.blocks ≡ books → g'.lives ≡ stand.lives → g'.parts ≡ stand.parts → IsSameBut stand g'
      → NotPut g old w stand g' e e id before after x
  given_back_led x g' back within held blocks lives parts same =
      given_back_all g before start looked only old w stand e id on follows device after books own.leaves l cut.may.there (subst (λ (rows : List Row). AreRowsIn w.machine e.hub.dir.leaves l rows) (sym own.whole) rows_in) own.full x g' back within held blocks lives parts same

  module _ (es : List Entry) (entry : Entry) (are : es ≡ entry ∷ []) (fits : AllByRecursion (λ (x : Entry). LinkFits x.link) es) (wrote : LeavesWritten g old stand.place.blocks books start after own.leaves es) (within : end_of books.space ≤ length (g.seen after)) (held : books.is_held ≡ stand.place.blocks.is_held)
      (mid : Ground) (blocks : mid.place.blocks ≡ books) (lives : mid.lives ≡ stand.lives) (parts : mid.parts ≡ stand.parts) (same : IsSameBut stand mid) where
    abbrev link : Link
    link = entry.link

    added : AreAdded stand.place.blocks (link.addr ∷ []) books
    added = subst (λ (xs : List Entry). AreAdded stand.place.blocks (addrs_to xs) books) are wrote.added

    new : has_at stand.lives link.addr.offset ≡ false
    new = (placed_new old stand.lives start_on.since.lone stand.place.blocks start_on.cells (entry ∷ []) added.placed added.distinct).none.0

    -- there was no memory for the rest
    pub moved_back_led : (e' : Engine) (g' : Ground) → HasStayed e e' mid g' id link → NotPut g old w stand g' e e' id before after NoMemory
    moved_back_led e' g' back = moved_back_all g before start looked only old w stand e id on follows device after books own.leaves es wrote within held mid blocks lives parts same 0 e' g' (record {
      engine = back.engine;
      lives = λ all_new. back.lives (subst (λ (xs : List Entry). AreNewAt mid.lives xs) are all_new).none.0;
      parts = back.parts;
      blocks = subst (λ (xs : List Entry). LetGo mid.place.blocks g'.place.blocks (addrs_to xs)) (sym are) back.blocks;
      same = back.same;
    })

    -- the leaf left its frame
    module _ (e' : Engine) (g' : Ground) (gone : HasLeft e e' mid g' id link) where
      abbrev d : Directory
      d = e.hub.dir

      id_is : l.id ≡ id
      id_is = named-is id d.leaves l cut.may.there

      there : Contains d.leaves l
      there = named-there id d.leaves l cut.may.there

      abbrev next : List Lone
      next = put_lone (lone_as (led_out link l)) stand.lives

      abbrev v : World
      v = with_again e cut.may.framed.frame w

      led : IsLed d l link (known_in stand.parts) (known_in g'.parts) stand.lives next
      led = record {
        was = stands.dir;
        there = there;
        later = start_on.written.later;
        gone = ap (λ (k : ℕ). known_in g'.parts k) id_is ∙ gone.gone;
        others = λ other differ. gone.others other (λ met. differ (met ∙ sym id_is)) ∙ ap (λ (p : Rooms). known_in p other) parts;
        more = more_led stand.lives l link start_on.since.lone.distinct new;
        distinct = start_on.since.lone.distinct;
      }

      -- its image
      has : HasLeaves (g.seen after) (entry ∷ []) (cut.rows ∷ [])
      has = subst (λ (xs : List Entry). HasLeaves (g.seen after) xs (cut.rows ∷ [])) are (subst (λ (leaves : List (List Row)). HasLeaves (g.seen after) es leaves) (sole_image images own.leaves cut.rows own.spelled own.whole one) wrote.has)

      some : 1 ≤ length cut.rows
      some = (subst (λ (leaves : List (List Row)). AllByRecursion (λ (rows : List Row). 1 ≤ length rows) leaves) (sole_image images own.leaves cut.rows own.spelled own.whole one) own.some).0

      key_is : low ≡ l.entry.key
      key_is = begins.is ∙ ap (λ (x : Leaf). x.entry.key) (some_same (sym begins.there ∙ cut.may.there))

      image : IsImageLed (g.seen after) v.machine d.leaves l link cut.rows
      image = record {
        are = rows_in;
        fits = record { key = subst (λ (k : List ℕ). length k ≤ key_most) key_is begins.short; link = (subst (λ (xs : List Entry). AllByRecursion (λ (x : Entry). LinkFits x.link) xs) are fits).0 };
        from = subst (λ (k : List ℕ). AreFrom k cut.rows) key_is (begins.from cut.rows cut.are cut.fit);
        some = some;
        leads = some_rows (root_entry link) cut.rows has.0.1.bears some;
        has = has;
      }

      former_is : own_of mid.lives (leaf_named id d.leaves) ≡ own_of stand.lives (Some l)
      former_is = ap (λ (x : List Lone). own_of x (leaf_named id d.leaves)) lives ∙ ap (own_of stand.lives) cut.may.there

      held_is : put_lone (record { leaf = id; addr = link.addr }) mid.lives ≡ next
      held_is = ap (λ (x : List Lone). put_lone (record { leaf = id; addr = link.addr }) x) lives ∙ ap (λ (k : ℕ). put_lone (record { leaf = k; addr = link.addr }) stand.lives) (sym id_is)

      lives_are : g'.lives ≡ gone_if next (own_of stand.lives (Some l))
      lives_are = gone.lives ∙ (ap (λ (x : List Lone). gone_if x (own_of mid.lives (leaf_named id d.leaves))) held_is ∙ ap (gone_if next) former_is)

      let_go : LetGo books g'.place.blocks (addrs_if (own_of stand.lives (Some l)))
      let_go = subst (λ (b : Books). LetGo b g'.place.blocks (addrs_if (own_of stand.lives (Some l)))) blocks (subst (λ (a : Option Addr). LetGo mid.place.blocks g'.place.blocks (addrs_if a)) former_is gone.blocks)

      alike : IsSameBut stand g'
      alike = record { slot = gone.same.slot ∙ same.slot; number = gone.same.number ∙ same.number; trees = gone.same.trees ∙ same.trees; floor = gone.same.floor ∙ same.floor; history = gone.same.history ∙ same.history; kept = gone.same.kept ∙ same.kept }

      follows_then : Follows old e.hub stand v
      follows_then = again_follows old e.hub stand w e cut.may.framed.frame follows

      -- the engine then, by the leaf as it was found
      out : HasBeenEvicted e e' id link
      out = record { may = cut.may; is = gone.out.is ∙ ap (λ (f : Framed). evicted e id link f.frame) (may_same e id gone.out.may cut.may) }

      hub_is : e'.hub ≡ record e.hub { dir = record e.hub.dir { leaves = changed l.id (led_out link) e.hub.dir.leaves } }
      hub_is = ap (λ (x : Engine). x.hub) out.is ∙ ap (λ (k : ℕ). let h : Hub = record e.hub { dir = record e.hub.dir { leaves = changed k (led_out link) e.hub.dir.leaves } } in h) (sym id_is)

      rows_are : with_rows l.id cut.rows v ≡ with_rows id cut.rows v
      rows_are = ap (λ (k : ℕ). with_rows k cut.rows v) id_is

      -- its world, in which the history has what moved
      abbrev then_world : World
      then_world = with_records id (λ key. versions_in key moved) (with_rows id cut.rows v)

      pub moved_out_led : LeftFrame g old w stand g' e e' id before after moved
      unfolding out
      moved_out_led = record {
        link = link;
        rows = cut.rows;
        out = out;
        left = all_left g before start looked only old w stand e id on follows device after wrote.left;
        stands = gone.stands cut.may w cut.rows (λ key. versions_in key moved) stands is_evicted;
        on = subst (λ (hub : Hub). StandsOn (g.seen after) (g.may_leave after) hub g' old) (sym hub_is)
            (stands_led (g.seen start) (g.seen after) (g.may_leave start) (g.may_leave after) e w v stand g' old l link cut.rows next stands start_on follows_then start_device led image new books added wrote.may wrote.keeps within held lives_are let_go alike);
        follows = follows_records old e'.hub g' (with_rows id cut.rows v) then_world.records (subst (λ (x : World). Follows old e'.hub g' x) rows_are (subst (λ (hub : Hub). Follows old hub g' (with_rows l.id cut.rows v)) (sym hub_is)
            (follows_ground (g.seen start) (g.seen after) (g.may_leave start) (g.may_leave after) e w v stand g' old l link cut.rows next stands start_on follows_then start_device led image new books added wrote.may wrote.keeps within held lives_are let_go alike)));
        since = subst (λ (x : World). AreLivesOn (g.seen after) e'.hub g' x) rows_are (subst (λ (hub : Hub). AreLivesOn (g.seen after) hub g' (with_rows l.id cut.rows v)) (sym hub_is)
            (device_ground (g.seen start) (g.seen after) (g.may_leave start) (g.may_leave after) e w v stand g' old l link cut.rows next stands start_on follows_then start_device led image new books added wrote.may wrote.keeps within held lives_are let_go alike));
        live = live_ground (g.seen start) (g.seen after) (g.may_leave start) (g.may_leave after) e w v stand g' old l link cut.rows next stands start_on follows_then start_device led image new books added wrote.may wrote.keeps within held lives_are let_go alike;
        freed = freed_ground (g.seen start) (g.seen after) (g.may_leave start) (g.may_leave after) e w v stand g' old l link cut.rows next stands start_on follows_then start_device led image new books added wrote.may wrote.keeps within held lives_are let_go alike;
        forgets = gone.gone;
      }
