-- What the steps of a checkpoint leave together.
use Rattle.std.specs.Prelude.{◌≡◌, ℕ, ◌+◌, ◌*◌, ◌/◌, ◌<◌, ◌≤◌, true, false, List, length, Option, Some, None, Result, Ok, Err, IfOk, refl}
use Rattle.std.proofs.Common.{inl, inr, sym, ◌∙◌, ap, subst, arith}
use Rattle.std.proofs.lemmas.Bool.{cases_eq, eq-eqb, ne_eqb}
use Rattle.std.proofs.lemmas.List.{get_or-set_same, get_or-set_other}
use Rattle.disk_model.specs.declared.disk.Disk.{Ghosts}
use Rattle.disk_model.specs.Crash.{Keeps, LeavesOnly}
use Rattle.disk_model.proofs.Crash.{joined, keeps_fewer, keeps_trans, widened}
use Rattle.extent_list.specs.Space.{Taken, HasNoRoom, end_of}
use Rattle.le_codec.specs.Images.{block_size}
use Rattle.block_mgr.specs.declared.cell.Cell.{Cell}
use Rattle.block_mgr.specs.Blocks.{Books, Has, unit_of}
use Rattle.block_mgr.specs.Cells.{AreUnits, cell_at, captured, done_cell, freed, fresh, kept, nothing}
use Rattle.block_mgr.proofs.HolderLemmas.{at_map, is_there}
use Rattle.device_layout.specs.declared.addr.Addr.{Addr}
use Rattle.tree_open.specs.declared.place.TreePlace.{TreePlace}
use Rattle.device_layout.specs.declared.slot.Slot.{Slot}
use Rattle.wt_code.specs.declared.store_error.StoreError.{StoreError}
use Rattle.wt_code.specs.declared.store_error.StoreError.TheVariants.{NoMemory, NoSpace, Read, Down}
use Rattle.turtle.specs.Slots.{IsNext}
use Rattle.kv_model.specs.History.{Table}
use Rattle.kv_model.specs.Holds.{Member}
use Rattle.kv_model.specs.Valid.{Valid}
use Rattle.tree_dir.specs.declared.leaf.Leaf.{Leaf}
use Rattle.catalog.specs.Known.{NumbersAscend}
use Rattle.stored.specs.Blocks.{Apart, Block}
use Rattle.stored.specs.Records.{Record, Root, record_image}
use Rattle.stored.specs.Stored.{Stored}
use Rattle.device_leaf.proofs.Opens.{record_bytes}
use Rattle.checkpoint_core.specs.Stands.{AreInUse, HasStill, IsReady, Stands, chosen_of}
use Rattle.hist_open.specs.Trees.{HasHistory}
use Rattle.tree_write.specs.Captures.{places_of}
use Rattle.checkpoint_core.proofs.Holding.{still_long}
use Rattle.checkpoint_core.specs.Finishes.{IsOld, IsEither, Finishes, Fails, IsLastNow, KeepsAfter, ReadsAfter, AreBack, units_of}
use Rattle.ckpt_content.specs.Finished.{IsFinishOf, IsRecordThen, tables_then}
use Rattle.ckpt_content.specs.Laws.{TakenBeforeServes}
use Rattle.ckpt_step.specs.Grounds.{number_of}
use Rattle.ckpt_step.specs.Halves.{AllTaken, SomeTaken, IsFresh, Runs, done_at, half_cell, made_blocks, older_blocks, record_cell}
use Rattle.ckpt_step.specs.Moments.{Moment}
use Rattle.ckpt_step.specs.Runs.{AllPut, IsImageOf, SomePut, made_of}
use Rattle.ckpt_step.specs.Parts.{with_parts}
use Rattle.ckpt_step.specs.Rooms.{Written}
use Rattle.ckpt_step.specs.declared.lives.Lone.{Lone}
use Rattle.ckpt_step.specs.declared.parts.LeafPart.{LeafPart}
use Rattle.ckpt_step.proofs.Following.{follows_new}
use Rattle.ckpt_step.proofs.LeadingLeaves.{leaves_lead}
use Rattle.ckpt_step.specs.Trees.{trees_blocks}
use Rattle.ckpt_step.proofs.Made.{made_is, made_ready}
use Rattle.ckpt_step.proofs.Pairs.{apart_front}
use Rattle.ckpt_step.proofs.PlacedTrees.{all_front}

pub if_ok_map : {T E : Type 0} {P Q : T → Type 0} (r : Result T E) → IfOk r P → ((x : T) → P x → Q x) → IfOk r Q
if_ok_map (Ok x) is more = more x is
if_ok_map (Err e) is more = tt

-- the slot of the next checkpoint follows that of the one before
pub next_slot : (seen : List ℕ) (old : Option Stored) (number : ℕ) (slot : Slot) → HasStill old seen → number ≡ number_of old → slot.sequence ≡ number + 1 → IsNext (chosen_of old) slot
next_slot seen None number slot still is next = omega (arith, is, next)
next_slot seen (Some s) number slot still is next = next ∙ ap (λ k. k + 1) (is ∙ still.whole.sequence)

-- ---- the cells once the record is installed

done_nothing : done_cell nothing ≡ nothing
done_nothing = refl

pub freed_there : (cells : List Cell) (v : ℕ) → v < length cells → cell_at (freed cells v) v ≡ kept (record (cell_at cells v) { is_live = false })
freed_there cells v lt = get_or-set_same cells v (kept (record (cell_at cells v) { is_live = false })) nothing lt

pub last_cells : (before after : Books) (a : Addr) (old : Option Stored) (lives : List Lone) (captured_ : List Addr) → 1 ≤ a.size → ((u : ℕ) → cell_at before.cells u ≡ half_cell old lives captured_ u) → IsLastNow before after a → (u : ℕ) → cell_at after.cells u ≡ done_at old lives captured_ a u
last_cells before after a old lives captured_ some half (mid, added, is) u =
    ap (λ (l : List Cell). cell_at l u) is ∙ (at_map done_cell (freed (captured mid.cells v) v) u done_nothing ∙ elim (cases_eq a.offset (8192 + 4096 * u)) [
      | inl here ↦
          let same : u ≡ v = omega (arith, here) in
          ap (λ (k : ℕ). done_cell (cell_at (freed (captured mid.cells v) v) k)) same ∙ (ap done_cell gone ∙ (sized ∙ rw (eq-eqb a.offset (8192 + 4096 * u) here) refl))
      | inr other ↦
          let far : u ≡ v → ⊥ = λ same. other (added.offset ∙ ap (λ (k : ℕ). 8192 + 4096 * k) (unit ∙ sym same)) in
          ap done_cell (get_or-set_other (captured mid.cells v) v u (kept (record (cell_at (captured mid.cells v) v) { is_live = false })) nothing far
          ∙ (get_or-set_other mid.cells v u (record (cell_at mid.cells v) { is_running = true }) nothing far ∙ (added.put.others u (λ same. far (same ∙ unit)) ∙ half u)))
          ∙ rw (ne_eqb a.offset (8192 + 4096 * u) other) refl
    ])
  where
    v : ℕ
    v = unit_of a.offset

    unit : added.unit ≡ v
    unit = omega (arith, added.offset)

    there : cell_at mid.cells v ≡ fresh added.units
    there = ap (λ (k : ℕ). cell_at mid.cells k) (sym unit) ∙ added.put.here

    within : v < length mid.cells
    within = is_there mid.cells v (omega (arith, some, added.size, ap (λ (c : Cell). c.units) there))

    taken : cell_at (captured mid.cells v) v ≡ record { units = added.units; is_live = true; is_running = true; is_last = false; names = 0 }
    taken = get_or-set_same mid.cells v (record (cell_at mid.cells v) { is_running = true }) nothing within ∙ ap (λ (c : Cell). record c { is_running = true }) there

    gone : cell_at (freed (captured mid.cells v) v) v ≡ record { units = added.units; is_live = false; is_running = true; is_last = false; names = 0 }
    gone = freed_there (captured mid.cells v) v (is_there (captured mid.cells v) v (omega (arith, some, added.size, ap (λ (c : Cell). c.units) taken))) ∙ ap (λ (c : Cell). kept (record c { is_live = false })) taken

    sized : done_cell (record { units = added.units; is_live = false; is_running = true; is_last = false; names = 0 }) ≡ record_cell a
    sized = ap (λ (n : ℕ). let c : Cell = record { units = n; is_live = false; is_running = false; is_last = true; names = 0 } in c) (omega (arith, added.size))

pub fresh_there : (before after : Books) (a : Addr) (old : Option Stored) (lives : List Lone) (captured_ : List Addr) → ((u : ℕ) → cell_at before.cells u ≡ half_cell old lives captured_ u) → IsLastNow before after a → IsFresh old lives captured_ a
fresh_there before after a old lives captured_ half (mid, added, is) = (added.unit, added.offset, sym (half added.unit) ∙ added.none)

pub whole_there : (before after : Books) (a : Addr) → IsLastNow before after a → a.size ≡ 4096 * (a.size / 4096)
whole_there before after a (mid, added, is) = omega (arith, added.size)

-- ---- the steps

module _ {D : Type 0} (g : Ghosts D) (old : Option Stored) (lives : List Lone) (n : Moment) (known : List Table) (leaves : List Leaf) (had : Written) (books : Books) (places : List TreePlace) (root : Root) (stand : List Addr) (more : List LeafPart) (taken : List Addr) (before : D) where
  -- not all was captured
  pub body_failed : (books' : Books) (after : D) (e : StoreError) → SomeTaken g old lives n known leaves had books books' places more taken before after e → SomePut g old lives n known leaves had books books' places stand more taken before after e
  body_failed books' after e some = record {
    left = inl some.left;
    kept = λ safe. some.left;
    keeps = some.keeps;
    runs = some.runs;
    lacks = λ is. inl (some.lacks is);
  }

  module _ (mid : D) (books' : Books) (all : AllTaken g old lives n known leaves had books books' places more taken before mid root stand) where
    -- there was no memory for the record
    pub no_image : SomePut g old lives n known leaves had books books' places stand more taken before mid NoMemory
    no_image = record {
      left = inl all.left;
      kept = λ safe. all.left;
      keeps = λ safe. all.keeps;
      runs = λ safe. all.body.runs;
      lacks = λ is. absurd (cc);
    }

    module _ (next : ℕ) (ascend : NumbersAscend 1 known next) (count : length places ≡ length known) (law : TakenBeforeServes) (stood : (t : Table) → Member t known → Member t (tables_then n.world.machine n.checkpoint)) (image : List ℕ) (number : ℕ) (is_number : number ≡ number_of old) (img : IsImageOf n.world.machine n.checkpoint number known places root image) (counts : (c : List ℕ) → g.may_leave mid c → g.left_since mid (g.moment before) c) where
      abbrev pub made : Addr → Stored
      made a = made_of img.r known all.trees all.history a

      rooted : (P : Root → Type 0) → P root → P img.r.history
      rooted P is = subst P (sym img.history) is

      pub ready : (a : Addr) → IsReady (g.seen mid) books' image (made a)
      ready a = made_ready known next ascend places all.trees count (g.seen mid) all.body.there img.r all.history a img.tables image books' img.admitted img.spelled (rooted (λ (x : Root). HasHistory (g.seen mid) x all.history) all.body.has) (rooted (λ (x : Root). AreInUse books'.cells (made_blocks places all.trees x all.history)) all.body.in_use) (rooted (λ (x : Root). Apart (made_blocks places all.trees x all.history)) all.body.apart)

      since : (c : List ℕ) → g.may_leave mid c → IsOld (g.may_leave before) old c
      since c there = all.left.each c (counts c there)

      old_since : (c : List ℕ) → IsOld (g.may_leave mid) old c → IsOld (g.may_leave before) old c
      old_since c (inl image) = since c image
      old_since c (inr still) = inr still

      either_since : (a : Addr) (c : List ℕ) → IsEither (g.may_leave mid) old (made a) c → IsEither (g.may_leave before) old (made a) c
      either_since a c (inl before) = inl (old_since c before)
      either_since a c (inr on) = inr on

      keeps : (after : D) → LeavesOnly g mid after (IsOld (g.may_leave mid) old) → LeavesOnly g before after (IsOld (g.may_leave before) old)
      keeps after left = joined g before mid after _ _ all.left left old_since

      turns : (after : D) (a : Addr) → LeavesOnly g mid after (IsEither (g.may_leave mid) old (made a)) → LeavesOnly g before after (IsEither (g.may_leave before) old (made a))
      turns after a left = joined g before mid after _ _ (widened g before mid _ _ all.left (λ c is. inl is)) left (either_since a)

      is_made : (a : Addr) → IsFinishOf n.world.machine n.checkpoint (number_of old) (made a)
      is_made a = subst (λ (k : ℕ). IsFinishOf n.world.machine n.checkpoint k (made a)) is_number (made_is known next ascend places all.trees count (g.seen mid) all.body.there img.r all.history a img.tables law n number stood img.is all.rows all.older)

      sized : (P : ℕ → ℕ → Type 0) → g.capacity mid ≡ g.capacity before → P (units_of (length image)) (g.capacity mid) → P (block_size (length (record_image img.r))) (g.capacity before)
      sized P room is = subst (λ (k : ℕ). P (block_size (length (record_image img.r))) k) room (subst (λ (l : List ℕ). P (block_size (length l)) (g.capacity mid)) img.spelled is)

      record_size : (r : Record) × IsRecordThen n.world.machine n.checkpoint (number_of old) r × (block_size (length (record_image img.r)) ≡ block_size (length (record_image r)))
      record_size = (img.r, subst (λ (k : ℕ). IsRecordThen n.world.machine n.checkpoint k img.r) is_number img.is, refl)

      pub all_put : (last : Books) (after : D) (a : Addr) → g.capacity mid ≡ g.capacity before → Finishes g books'.space (length image) (g.capacity mid) old (made a) mid after (Ok a) → ReadsAfter g last old (made a) after (Ok a) → KeepsAfter g books' mid after (Ok a) → IsLastNow books' last a → AreUnits last.cells last.space → last.is_held ≡ false → Valid n.world.machine
          → AllPut g old lives n known leaves had books last places stand more taken before after a
      all_put last after a room (left, each, (space, at, got)) (on, within) still now units idle valid = record {
        r = img.r;
        trees = all.trees;
        history = all.history;
        is = is_made a;
        left = turns after a left;
        each = each;
        placed = (books'.space, block_size (length (record_image img.r)), space, at, all.placed, record_size, sized (λ (k capacity : ℕ). Taken books'.space space k capacity at) room got);
        by_leaves = all.by_leaves;
        of_tables = all.of_tables;
        apart = all.apart;
        keeps = record {
          part = λ from k has within_them. still.part from k (all.used from k has) (omega (arith, within_them, all.keeps.no_shorter)) ∙ all.keeps.part from k has within_them;
          no_shorter = omega (arith, still.no_shorter, all.keeps.no_shorter);
        };
        done = record {
          on = on;
          tables = img.tables;
          bytes = g.seen mid;
          there = all.body.there;
          stand_is = rooted (λ (x : Root). stand ≡ places_of (older_blocks x all.history)) all.body.stand_is;
          half = books'.cells;
          half_are = all.body.runs.cells;
          half_use = rooted (λ (x : Root). AreInUse books'.cells (made_blocks places all.trees x all.history)) all.body.in_use;
          listed = all.body.listed;
          own = all.body.runs.own;
          fresh = fresh_there books' last a old lives taken all.body.runs.cells now;
          sized = whole_there books' last a now;
          cells = last_cells books' last a old lives taken (omega (arith, on.whole.addressed.0.size, record_bytes img.r)) all.body.runs.cells now;
          units = units;
          idle = idle;
          within = within;
        };
        follows = follows_new known next ascend places all.trees count (g.seen mid) all.body.there img.r all.history a img.tables leaves (with_parts had more) n valid all.rows all.by_leaves.parted all.by_leaves.shelved (leaves_lead (g.seen mid) books' all.body.runs.units places all.trees all.body.there (apart_front (trees_blocks places all.trees) (older_blocks root all.history) all.body.apart) (all_front (λ (b : Block). Has books'.cells b.place.offset b.place.size) (trees_blocks places all.trees) (older_blocks root all.history) all.body.in_use));
      }

      runs_back : (last : Books) (after : D) (a : Addr) (e : StoreError) → ReadsAfter g last old (made a) after (Err e) → AreBack books' last → ((ReadsAfter g last old (made a) after (Err e)) → Stands (g.seen after) (g.may_leave after) last old × (end_of last.space ≤ length (g.seen after))) → 8192 ≤ length (g.seen after) → Runs (g.seen after) (g.may_leave after) last old lives taken
      runs_back last after a e reads back is long = let r = is reads in record { stands = r.0; cells = λ u. back.cells u ∙ all.body.runs.cells u; units = back.units all.body.runs.units; long = long; within = r.1; own = all.body.runs.own }

      -- what the books had at first is as it was
      keeps_then : (after : D) → Keeps (Has books'.cells) (g.seen mid) (g.seen after) → Keeps (Has books.cells) (g.seen before) (g.seen after)
      keeps_then after still = keeps_trans (Has books.cells) (g.seen before) (g.seen mid) (g.seen after) all.keeps (keeps_fewer (Has books'.cells) (Has books.cells) (g.seen mid) (g.seen after) all.used still)

      -- the record was not installed
      pub not_put : (last : Books) (after : D) (a : Addr) (e : StoreError) → g.capacity mid ≡ g.capacity before → Fails g books'.space (length image) (g.capacity mid) old (made a) mid after e → ReadsAfter g last old (made a) after (Err e) → KeepsAfter g books' mid after (Err e) → AreBack books' last → SomePut g old lives n known leaves had books last places stand more taken before after e
      not_put last after a NoMemory room left reads still back = record {
        left = inl (keeps after left);
        kept = λ safe. keeps after left;
        keeps = λ safe. keeps_then after still;
        runs = λ safe. runs_back last after a NoMemory reads back (λ r. r) (still_long old (g.seen after) reads.0.seen_has);
        lacks = λ is. absurd (cc);
      }
      not_put last after a NoSpace room left reads still back = record {
        left = inl (keeps after left.1);
        kept = λ safe. keeps after left.1;
        keeps = λ safe. keeps_then after still;
        runs = λ safe. runs_back last after a NoSpace reads back (λ r. r) (still_long old (g.seen after) reads.0.seen_has);
        lacks = λ is. inr (books'.space, block_size (length (record_image img.r)), all.placed, record_size, sized (λ (k capacity : ℕ). HasNoRoom books'.space k capacity) room left.0);
      }
      not_put last after a Read room left reads still back = record {
        left = inl (keeps after left);
        kept = λ safe. keeps after left;
        keeps = λ safe. keeps_then after still;
        runs = λ safe. runs_back last after a Read reads back (λ r. r) (still_long old (g.seen after) reads.0.seen_has);
        lacks = λ is. absurd (cc);
      }
      not_put last after a (Down fault) room left reads still back = record {
        left = elim left [ inl kept ↦ inl (keeps after kept) | inr (b, either) ↦ inr (made b, is_made b, turns after b either) ];
        kept = λ safe. absurd safe;
        keeps = λ safe. absurd safe;
        runs = λ safe. absurd safe;
        lacks = λ is. absurd (cc);
      }
