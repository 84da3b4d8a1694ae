-- A leaf that is evicted, or stays.
use Rattle.std.proofs.Common.{◌≡◌, ◌≢◌, ◌+◌, ℕ, refl, ap, sym, ◌∙◌, Bool, true, false, List, inl, inr, subst, arith}
use Rattle.std.specs.Prelude.{Option, Some, None, ◌==◌, not, option_and_then, option_map, if◌then◌else◌, IfSome, slice_set}
use Rattle.std.specs.Borrow.{Bor}
use Rattle.std.specs.Option.{is_some}
use Rattle.std.proofs.lemmas.Bool.{cases_Bool}
use Rattle.std.proofs.lemmas.List.{length-set}
use Rattle.std.proofs.lemmas.Option.{same_Some}
use Rattle.item.specs.declared.Change.{Change}
use Rattle.stamp.specs.declared.Version.{Version}
use Rattle.device_layout.specs.declared.link.Link.{Link}
use Rattle.kv_model.specs.Droppable.{pin}
use Rattle.kv_model.specs.History.{Table}
use Rattle.kv_model.specs.Machine.{Checkpoint, Machine}
use Rattle.row_page.specs.Rows.{Row}
use Rattle.snapshot.specs.Matters.{SeesCommitted}
use Rattle.snapshot.specs.Past.{IsPast}
use Rattle.leaf_frame.specs.Leaf.{HeldLeaf}
use Rattle.txn_table.specs.Past.{PastsStand, SightStands}
use Rattle.txn_table.specs.TableLaws.{PinsAreTheMachines}
use Rattle.txn_table.specs.Tabled.{Table as Txns, floor_of, pin_of, sight_in}
use Rattle.ts_rules.specs.declared.stamps.Stamps.{Stamps}
use Rattle.tree_dir.specs.declared.leaf.Framed.{Framed}
use Rattle.tree_dir.specs.declared.leaf.Leaf.{Leaf}
use Rattle.tree_dir.specs.Leaves.{Directory, IsDirectory, changed, in_frame, leaf_named, led_to}
use Rattle.call_steps.specs.declared.frame.Frame.{Frame}
use Rattle.call_steps.specs.declared.frame.FramePiece.{FramePiece}
use Rattle.call_steps.specs.Tables.{empty}
use Rattle.call_turns.proofs.Walks.{named-is}
use Rattle.engine_world.specs.Evicting.{IsEvictedTo, LeavesAreEvicted, evicted, led_out, with_rows}
use Rattle.engine_world.specs.GoingOut.{with_again}
use Rattle.engine_world.specs.Leaves.{LeavesOwned, emptied, frame_in, generation_at}
use Rattle.engine_world.specs.Stands.{Engine, Stands}
use Rattle.engine_world.specs.Worlds.{World, with_records}
use Rattle.engine_world.proofs.LeavesChanged.{changed-twice, contains-source}
use Rattle.engine.specs.declared.evicting.Stays.{Stays}
use Rattle.engine.specs.declared.running_checkpoint.RunningCheckpoint.{RunningCheckpoint}
use Rattle.engine.specs.declared.evicting.Stays.TheVariants.{Away, Call, Pinned, Written, LastGeneration, Coming, Walked}
use Rattle.engine.specs.Evictions.{KeepsFrame, KeepsLeaf, MayBeEmptied, MayBeEvicted, framed_in}
use Rattle.engine.specs.Running.{RunsAs, recorded, sight_of_running}
use Rattle.engine.specs.Sound.{IsSound}
use Rattle.engine.proofs.GivingWay.{empty-fits}
use Rattle.engine.proofs.LeafSizes.{leaves-set}
use Rattle.engine.proofs.LeavesCome.{named-there}
use Rattle.engine.proofs.Soundness.{seated-with}

-- ---- whether it may

pub may-evict : (e : Engine) (id : ℕ) (framed : Framed) → framed_in e id ≡ Some framed → frame_in e.pieces framed.frame ≢ None → MayBeEmptied e framed.frame → (may : MayBeEvicted e id) × (may.framed.frame ≡ framed.frame)
may-evict e id framed placed some may = by (leaf_named id e.hub.dir.leaves) refl (frame_in e.pieces framed.frame) refl where
  by : (o : Option Leaf) → leaf_named id e.hub.dir.leaves ≡ o → (f : Option Frame) → frame_in e.pieces framed.frame ≡ f → (may : MayBeEvicted e id) × (may.framed.frame ≡ framed.frame)
  by None none f at = let clash : None ≡ Some framed = ap (option_and_then (λ (l : Leaf). l.frame)) (sym none) ∙ placed in absurd cc
  by (Some l) named None at = absurd (some at)
  by (Some l) named (Some f) at = (
    record {
      leaf = l;
      there = named;
      framed = framed;
      placed = ap (option_and_then (λ (x : Leaf). x.frame)) (sym named) ∙ placed;
      frame = f;
      filled = at;
      may = may;
    },
    refl,
  )

-- where it is
pub may-at : (e : Engine) (id : ℕ) (may : MayBeEvicted e id) → framed_in e id ≡ Some may.framed
may-at e id may = ap (option_and_then (λ (l : Leaf). l.frame)) may.there ∙ may.placed

pub may-in : (e : Engine) (id : ℕ) (framed : Framed) → framed_in e id ≡ Some framed → MayBeEvicted e id → (frame_in e.pieces framed.frame ≢ None) × MayBeEmptied e framed.frame
may-in e id framed placed may = (
  λ none. let clash : None ≡ Some may.frame = sym none ∙ (ap (λ (g : Framed). frame_in e.pieces g.frame) (sym framed-is) ∙ may.filled) in absurd cc,
  subst (λ (g : Framed). MayBeEmptied e g.frame) framed-is may.may,
) where
  framed-is : may.framed ≡ framed
  framed-is = same_Some may.framed framed (sym (may-at e id may) ∙ placed)

pub same-frame : (e : Engine) (id : ℕ) (a b : MayBeEvicted e id) → a.framed.frame ≡ b.framed.frame
same-frame e id a b = ap (λ (g : Framed). g.frame) (same_Some a.framed b.framed (sym (may-at e id a) ∙ may-at e id b))

-- what keeps a frame keeps it
pub keeps-frame : (e : Engine) (frame : ℕ) (why : Stays) → KeepsFrame e frame why → frame_in e.pieces frame ≢ None → MayBeEmptied e frame → ⊥
keeps-frame e frame Away none some may = some none
keeps-frame e frame (Call session) at some may = may.aside session at.0 at.1 at.2
keeps-frame e frame (Pinned word) named some may = may.unpinned word named
keeps-frame e frame (Written session) wrote some may = may.unwritten session wrote.0 wrote.1 wrote.2 wrote.3 wrote.4
keeps-frame e frame LastGeneration last some may = let next = may.next in omega (arith, last, next)
keeps-frame e frame (Coming session) none some may = none
keeps-frame e frame (Walked session) none some may = none

-- and its leaf
pub keeps-leaf : (e : Engine) (id : ℕ) (framed : Framed) (why : Stays) → framed_in e id ≡ Some framed → KeepsFrame e framed.frame why → KeepsLeaf e id why
keeps-leaf e id framed Away placed keeps = λ other at. subst (λ (g : Framed). frame_in e.pieces g.frame ≡ None) (same_Some framed other (sym placed ∙ at)) keeps
keeps-leaf e id framed (Call session) placed keeps = (framed, placed, keeps)
keeps-leaf e id framed (Pinned word) placed keeps = (framed, placed, keeps)
keeps-leaf e id framed (Written session) placed keeps = (framed, placed, keeps)
keeps-leaf e id framed LastGeneration placed keeps = (framed, placed, keeps)
keeps-leaf e id framed (Coming session) placed keeps = (framed, placed, keeps)
keeps-leaf e id framed (Walked session) placed keeps = (framed, placed, keeps)

pub keeps-not : (e : Engine) (id : ℕ) (framed : Framed) (why : Stays) → framed_in e id ≡ Some framed → KeepsFrame e framed.frame why → MayBeEvicted e id → ⊥
keeps-not e id framed why placed keeps may = let it = may-in e id framed placed may in keeps-frame e framed.frame why keeps it.0 it.1

-- a leaf that is in no frame stays
pub away-not : (e : Engine) (id : ℕ) → framed_in e id ≡ None → MayBeEvicted e id → ⊥
away-not e id none may = let clash : None ≡ Some may.framed = sym none ∙ may-at e id may in absurd cc

pub keeps-nones : (e : Engine) (id : ℕ) (framed : Framed) (told : Option Stays) → framed_in e id ≡ Some framed → IfSome told (λ why. KeepsFrame e framed.frame why) → IfSome told (λ why. MayBeEvicted e id → ⊥)
keeps-nones e id framed None placed keeps = tt
keeps-nones e id framed (Some why) placed keeps = keeps-not e id framed why placed keeps

pub keeps-leaves : (e : Engine) (id : ℕ) (framed : Framed) (told : Option Stays) → framed_in e id ≡ Some framed → IfSome told (λ why. KeepsFrame e framed.frame why) → IfSome told (λ why. KeepsLeaf e id why)
keeps-leaves e id framed None placed keeps = tt
keeps-leaves e id framed (Some why) placed keeps = keeps-leaf e id framed why placed keeps

-- a frame whose leaf is told has one
pub frame-there : (pieces : List FramePiece) (frame : ℕ) (told : Option (Bor HeldLeaf)) (none : Bool) → option_map (λ l. l.now) told ≡ option_map (λ (f : Frame). f.leaf) (frame_in pieces frame) → is_some told ≡ not none → none ≡ false
    → frame_in pieces frame ≢ None
frame-there pieces frame None none is some found bare = let clash : false ≡ true = some ∙ ap not found in absurd cc
frame-there pieces frame (Some l) none is some found bare = let clash : Some l.now ≡ None = is ∙ ap (option_map (λ (f : Frame). f.leaf)) bare in absurd cc

-- ---- the engine that is left

-- by what it is made of
pub evicted-is : (e : Engine) (id : ℕ) (link : Link) (frame : ℕ) (linked dir : Directory) (pieces : List FramePiece) (states : List ℕ) → linked ≡ record e.hub.dir { leaves = changed id (led_to link) e.hub.dir.leaves }
    → dir ≡ record linked { leaves = changed id (in_frame None) linked.leaves } → pieces ≡ slice_set e.pieces frame (emptied e.pieces frame) → states ≡ slice_set e.states frame (empty (generation_at e.pieces frame + 1))
    → evicted e id link frame ≡ record e { hub = record e.hub { dir = dir }; pieces = pieces; states = states }
evicted-is e id link frame linked dir pieces states first last p s = λ i. record e { hub = record e.hub { dir = sym d i }; pieces = sym p i; states = sym s i } where
  d : dir ≡ record e.hub.dir { leaves = changed id (led_out link) e.hub.dir.leaves }
  d = last ∙ (ap (λ (x : Directory). record x { leaves = changed id (in_frame None) x.leaves }) first
      ∙ ap (λ (ls : List Leaf). record e.hub.dir { leaves = ls }) (changed-twice id (led_to link) (in_frame None) (λ x. refl) e.hub.dir.leaves))

table-same : (id : ℕ) (link : Link) (l : Leaf) → (if l.id == id then led_out link l else l).table ≡ l.table
table-same id link l = elim (cases_Bool (l.id == id)) [
  | inl is ↦ rw is refl
  | inr isnt ↦ rw isnt refl
]

led-owned : (known : List Table) (leaves : List Leaf) (id : ℕ) (link : Link) → LeavesOwned known leaves → LeavesOwned known (changed id (led_out link) leaves)
led-owned known leaves id link owned l there = let s = contains-source (λ (x : Leaf). if x.id == id then led_out link x else x) leaves l there in let o = owned s.0 s.1 in
    (o.0, o.1, o.2, ap (λ (x : Leaf). x.table) (sym s.2) ∙ (table-same id link s.0 ∙ o.3))

pub evicted-sound : (e : Engine) (id : ℕ) (link : Link) (frame : ℕ) → IsSound e → IsSound (evicted e id link frame)
evicted-sound e id link frame sound = record {
  count = sound.count;
  seated = seated-with e.hub (evicted e id link frame).hub e.sessions refl sound.seated;
  run = sound.run;
  built = sound.built;
  actors = sound.actors;
  states = length-set e.states frame (empty (generation_at e.pieces frame + 1)) ∙ (sound.states ∙ sym (length-set e.pieces frame (emptied e.pieces frame)));
  numbers = sound.numbers;
  owned = led-owned e.hub.tables.tables e.hub.dir.leaves id link sound.owned;
  stamps = sound.stamps;
  sizes = record { leaves = leaves-set e.pieces frame (emptied e.pieces frame) sound.sizes.leaves (empty-fits e.pieces frame); sessions = sound.sizes.sessions; names = sound.sizes.names };
}

-- who has found it may be told so, and nobody else sees it
pub evicted-stands : LeavesAreEvicted → (e : Engine) (id : ℕ) (link : Link) (may : MayBeEvicted e id) → IsDirectory (evicted e id link may.framed.frame).hub.dir
    → (w : World) (rows : List Row) (moved : List ℕ → List (Version Change)) → Stands e w → IsEvictedTo w.machine e.hub.dir.leaves may.leaf may.frame rows moved
    → Stands (evicted e id link may.framed.frame) (with_records id moved (with_rows id rows (with_again e may.framed.frame w)))
evicted-stands law e id link may is w rows moved st to = subst (λ (n : ℕ). Stands (evicted e n link may.framed.frame) (with_records n moved (with_rows n rows (with_again e may.framed.frame w)))) id-is
    (law e w may.leaf may.framed may.frame link rows moved st (named-there id e.hub.dir.leaves may.leaf may.there) may.placed may.filled (λ session a there. (may.may.aside session a there, may.may.unwritten session a there)) may.may.next
    (subst (λ (n : ℕ). IsDirectory (evicted e n link may.framed.frame).hub.dir) (sym id-is) is) to) where
      id-is : may.leaf.id ≡ id
      id-is = named-is id e.hub.dir.leaves may.leaf may.there

-- ---- what is out of reach

-- what its snapshot sees
pub seen-running : (r : Option RunningCheckpoint) → sight_in (option_map (λ (x : RunningCheckpoint). x.snapshot) r) ≡ sight_of_running r
seen-running None = refl
seen-running (Some r) = refl

-- the snapshot of the checkpoint that runs is the one that is kept
sight-runs : (m : Machine) (r : Option RunningCheckpoint) → RunsAs m r → SightStands m (sight_of_running r)
sight-runs m None none k runs = let clash : None ≡ Some k = sym none ∙ runs in absurd cc
sight-runs m (Some r) is k runs = (r.snapshot.sight, refl, subst (λ (x : Checkpoint). SeesCommitted m x.prefix r.snapshot.sight) (same_Some is.0 k (sym is.1 ∙ runs)) is.2.sees)

-- and so is the stamp that it recorded
recorded-runs : (m : Machine) (r : Option RunningCheckpoint) → RunsAs m r → option_map (λ (c : Checkpoint). c.oldest) m.checkpoint ≡ recorded r
recorded-runs m None none = ap (option_map (λ (c : Checkpoint). c.oldest)) none
recorded-runs m (Some r) is = ap (option_map (λ (c : Checkpoint). c.oldest)) is.1 ∙ ap Some (sym is.2.oldest)

oldest-is : (e : Engine) (w : World) → Stands e w → w.machine.oldest ≡ e.hub.stamps.oldest
oldest-is e w st = ap (λ (s : Stamps). s.oldest) (sym st.stamps)

recorded-is : (t : Txns) (m : Machine) (r : Option RunningCheckpoint) → RunsAs m r → pin_of t m.oldest (option_map (λ (c : Checkpoint). c.oldest) m.checkpoint) ≡ pin_of t m.oldest (recorded r)
recorded-is t m r runs = ap (pin_of t m.oldest) (recorded-runs m r runs)

pub pin-is : PinsAreTheMachines → (e : Engine) (w : World) (r : Option RunningCheckpoint) → Stands e w → RunsAs w.machine r → pin_of e.hub.txns e.hub.stamps.oldest (recorded r) ≡ pin w.machine
pin-is law e w r st runs = ap (λ n. pin_of e.hub.txns n (recorded r)) (sym (oldest-is e w st)) ∙ (sym (recorded-is e.hub.txns w.machine r runs) ∙ law e.hub.txns w.machine st.txns)

pub past-is : PastsStand → (e : Engine) (w : World) (r : Option RunningCheckpoint) → Stands e w → RunsAs w.machine r → (table : ℕ) (key : List ℕ)
    → IsPast w.machine table key (pin_of e.hub.txns e.hub.stamps.oldest (recorded r)) (floor_of e.hub.txns (sight_of_running r))
past-is law e w r st runs table key = subst (λ n. IsPast w.machine table key n (floor_of e.hub.txns (sight_of_running r))) (recorded-is e.hub.txns w.machine r runs ∙ ap (λ n. pin_of e.hub.txns n (recorded r)) (oldest-is e w st))
    (law e.hub.txns w.machine (sight_of_running r) table key st.valid st.txns (sight-runs w.machine r runs))
