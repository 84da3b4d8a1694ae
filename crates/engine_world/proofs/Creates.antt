-- A table is made, with one leaf, which is empty, in a frame that had none.
use Rattle.std.proofs.Common.{◌≡◌, ◌≢◌, ◌<◌, ◌≤◌, ℕ, true, false, refl, ap, sym, ◌∙◌, List, [], ◌∷◌, ◌++◌, length, inl, inr, subst, arith, reverse}
use Rattle.std.specs.Prelude.{◌==◌, Option, Some, None, option_and_then, slice_get, slice_set}
use Rattle.std.specs.List.{Contains}
use Rattle.std.proofs.lemmas.Bool.{both_ways, cases_Bool, cases_eq, eqb-true}
use Rattle.std.proofs.lemmas.List.{get_or-set_other, get_or-set_same, reverse-append}
use Rattle.item.specs.declared.Formats.{Formats}
use Rattle.kv_model.specs.Allowed.{Allowed}
use Rattle.kv_model.specs.Decisions.{Outcome, Done, CreateCall}
use Rattle.kv_model.specs.Holds.{Member}
use Rattle.kv_model.specs.History.{Entry, Create, Commit, Prepare, Resolve, Undo, Rts, Table, created, has_table, tables}
use Rattle.kv_model.specs.Machine.{Machine, CreateTable, Event, after, of_some}
use Rattle.kv_model.specs.Ordered.{IsNewTable}
use Rattle.kv_model.proofs.ContentKeys.{any-from}
use Rattle.kv_model.proofs.Deciding.{may-decide}
use Rattle.kv_model.proofs.EveryEvent.{valid-after}
use Rattle.kv_model.proofs.FinishedKeys.{absent-stands}
use Rattle.tree_dir.specs.declared.leaf.Leaf.{Leaf}
use Rattle.tree_dir.specs.Leaves.{Directory, IsDirectory, leaf_under}
use Rattle.txn_table.proofs.Standing.{calls-stand}
use Rattle.update_chain.specs.EventLaws.{ChainsGoOn}
use Rattle.catalog.specs.Known.{AreTables, Known}
use Rattle.catalog.specs.Creates.{asked, decided}
use Rattle.catalog.proofs.Turning.{creates_are_suited, creates_judged}
use Rattle.leaf_chains.specs.declared.slot.KeyChain.{KeyChain}
use Rattle.leaf_chains.specs.Slots.{chain_at, slot_of}
use Rattle.call_steps.specs.declared.frame.Frame.{Frame}
use Rattle.call_steps.specs.declared.frame.FramePiece.{FramePiece}
use Rattle.call_steps.specs.Tables.{filled}
use Rattle.engine_world.specs.Leaves.{LeafInFrame, LeafStands, LeavesOwned, TablesBegun, frame_in, frame_of, generation_at}
use Rattle.engine_world.specs.Stands.{Engine, Stands}
use Rattle.engine_world.specs.Systems.{CreatesGo, HasFirstLeaf, first_piece, with_table}
use Rattle.engine_world.specs.Worlds.{World}
use Rattle.engine_world.proofs.Appended.{append-finds, append-keeps, append-last}
use Rattle.engine_world.proofs.Beside.{Apart, LeavesKept, LeavesStay, OthersAtHome}
use Rattle.engine_world.proofs.FrameWords.{filled-stand, frame-here, generations-kept}
use Rattle.engine_world.proofs.Homes.{LeavesStand, home-at}
use Rattle.engine_world.proofs.HubMoves.{leaves-go-on}
use Rattle.engine_world.proofs.Moves.{get-set-other, noticed-stays}
use Rattle.engine_world.proofs.NewLeaf.{IsCome, come-cases, come-kept, comes, new-there, new_leaf, under-come, under-same}
use Rattle.engine_world.proofs.OnePiece.{table-there}
use Rattle.engine_world.proofs.Others.{doing-kept, others-stay}
use Rattle.engine_world.proofs.SystemEvents.{created-apart, past-all}

-- ---- the event may come

create-may : (m : Machine) (known : Known) (name : List ℕ) (formats : Formats) → AreTables known → reverse known.tables ≡ tables m.history
    → decided known.tables (asked known name formats) ≡ (Done, CreateTable (asked known name formats)) → Allowed m (CreateTable (asked known name formats))
create-may m known name formats are is decides = subst (λ (d : Outcome × Event). Allowed (record m { fault = None }) d.1)
    (creates_judged m 0 known.tables (asked known name formats) are.distinct is ∙ decides)
    (may-decide (record m { fault = None }) 0 (CreateCall (asked known name formats)) (creates_are_suited m known name formats are is).2)

-- ---- no key of the table was there

made-are : (history : List Entry) → created history ≡ tables history
made-are [] = refl
made-are (Create t ∷ older) = ap (λ l. t ∷ l) (made-are older)
made-are (Commit name writes ∷ older) = made-are older
made-are (Prepare name stamp ∷ older) = made-are older
made-are (Resolve name writes ∷ older) = made-are older
made-are (Undo name ∷ older) = made-are older
made-are (Rts stable ∷ older) = made-are older

number-absent : (m : Machine) (t : Table) → IsNewTable t m.history → has_table (tables m.history) t.number ≡ false
number-absent m t new = elim (cases_Bool (has_table (tables m.history) t.number)) [
  | inl is ↦ let u = any-from (λ (u : Table). u.number == t.number) (tables m.history) is in
      let same = eqb-true u.0.number t.number u.2 in
      let less = new.number u.0 (subst (λ l. Member u.0 l) (sym (made-are m.history)) u.1) in
      absurd (omega arith)
  | inr isnt ↦ isnt
]

-- ---- the frames

abbrev chains_in : Option Frame → List KeyChain
chains_in o = of_some [] (λ (f : Frame). f.leaf.chains) o

old-frame : (pieces : List FramePiece) (frame other : ℕ) (p : FramePiece) → other ≢ frame → frame_in (slice_set pieces frame p) other ≡ frame_in pieces other
old-frame pieces frame other p elsewhere = ap (option_and_then (λ (p : FramePiece). p.frame)) (get-set-other pieces frame other p elsewhere)

-- a frame that has a leaf is not the empty one
not-empty : (pieces : List FramePiece) (frame other : ℕ) (f : Frame) → frame_in pieces frame ≡ None → frame_in pieces other ≡ Some f → other ≢ frame
not-empty pieces frame other f empty there same = let clash : None ≡ Some f = sym empty ∙ (ap (frame_in pieces) (sym same) ∙ there) in absurd (cc)

-- ---- a table that is made behind the others

record IsMade (e : Engine) (w : World) (known : Known) (dir : Directory) (t : Table) (id frame : ℕ) : Type 0 where
  stands : Stands e w
  may : Allowed w.machine (CreateTable t)
  tables : known.tables ≡ e.hub.tables.tables ++ t ∷ []
  leaf : HasFirstLeaf e.hub.dir dir t.number id frame (generation_at e.pieces frame)
  dir_is : IsDirectory dir
  empty : frame_in e.pieces frame ≡ None
  piece : frame < length e.pieces
  word : frame < length e.states

module _ (chains : ChainsGoOn) (e : Engine) (w : World) (known : Known) (dir : Directory) (t : Table) (id frame : ℕ) (c : IsMade e w known dir t id frame) where
  abbrev next : Machine
  next = after w.machine (CreateTable t)

  abbrev pieces : List FramePiece
  pieces = slice_set e.pieces frame (first_piece (generation_at e.pieces frame) t id)

  abbrev states : List ℕ
  states = slice_set e.states frame (filled (generation_at e.pieces frame))

  new-frame : frame_in pieces frame ≡ Some (record { table = t.number; id = id; leaf = record { page = []; chains = [] } })
  new-frame = frame-here e.pieces frame (first_piece (generation_at e.pieces frame) t id) c.piece

  same-generation : (other : ℕ) → generation_at pieces other ≡ generation_at e.pieces other
  same-generation = generations-kept e.pieces frame (first_piece (generation_at e.pieces frame) t id) c.piece refl

  -- no leaf was of its number
  none-of : (l : Leaf) → Contains e.hub.dir.leaves l → l.table ≢ t.number
  none-of l there same = let owner = c.stands.owned l there in
      both_ways (has_table (tables w.machine.history) t.number) (number-absent w.machine t c.may.0)
      (subst (λ n. has_table (tables w.machine.history) n ≡ true) (sym owner.3 ∙ same) (table-there w.machine e.hub.tables.tables owner.0 owner.1 c.stands.made owner.2))

  come : IsCome e.hub.dir.leaves dir.leaves (new_leaf t.number id frame (generation_at e.pieces frame))
  come = comes e.hub.dir dir t.number id frame (generation_at e.pieces frame) c.stands.dir none-of c.leaf

  kept : LeavesKept None e.hub.dir.leaves dir.leaves
  kept = come-kept e.hub.dir dir.leaves (new_leaf t.number id frame (generation_at e.pieces frame)) c.stands.dir come

  new-stands : LeafInFrame next w.shelf w.records dir.leaves pieces states (new_leaf t.number id frame (generation_at e.pieces frame))
  new-stands = record {
    laid = record {
      framed = record { frame = frame; generation = generation_at e.pieces frame };
      placed = refl;
      frame = record { table = t.number; id = id; leaf = record { page = []; chains = [] } };
      there = new-frame;
      table = refl;
      id = refl;
      generation = same-generation frame;
      below = (c.stands.frames frame).below;
      word = get_or-set_same e.states frame (filled (generation_at e.pieces frame)) 0 c.word;
    };
    keys = λ key under. chains w.machine (CreateTable t) t.number key [] None [] c.stands.valid c.may tt
        (absent-stands w.machine t.number key c.stands.valid (number-absent w.machine t c.may.0));
    bare = λ key outside. absurd (outside (under-come e.hub.dir dir.leaves (new_leaf t.number id frame (generation_at e.pieces frame)) c.stands.dir come refl key));
    lies = λ some. absurd (omega (arith, some));
    none = c.stands.unused id c.leaf.added.fresh.ascend.0;
  }

  old-stands : (l : Leaf) → Contains e.hub.dir.leaves l → LeafStands next w.shelf w.records dir.leaves pieces states l
  old-stands l there = by (leaves-go-on chains w.machine (CreateTable t) w.shelf w.records e.hub.dir.leaves e.pieces e.states c.stands.valid c.may (λ table key. tt) c.stands.leaves l there) where
    same : (key : List ℕ) → leaf_under l.table key dir.leaves ≡ leaf_under l.table key e.hub.dir.leaves
    same key = under-same e.hub.dir dir.leaves (new_leaf t.number id frame (generation_at e.pieces frame)) c.stands.dir come l.table key (come.apart l there)

    apart : (old : LeafInFrame next w.shelf w.records e.hub.dir.leaves e.pieces e.states l) → old.laid.framed.frame ≢ frame
    apart old = not-empty e.pieces frame old.laid.framed.frame old.laid.frame c.empty old.laid.there

    by : LeafStands next w.shelf w.records e.hub.dir.leaves e.pieces e.states l → LeafStands next w.shelf w.records dir.leaves pieces states l
    by (inr old) = inr (record {
      none = old.none;
      keys = λ key under. old.keys key (sym (same key) ∙ under);
      ordered = λ key under. old.ordered key (sym (same key) ∙ under);
      bare = λ key outside. old.bare key (λ under. outside (same key ∙ under));
    })
    by (inl old) = inl (record {
      laid = record {
        framed = old.laid.framed;
        placed = old.laid.placed;
        frame = old.laid.frame;
        there = old-frame e.pieces frame old.laid.framed.frame (first_piece (generation_at e.pieces frame) t id) (apart old) ∙ old.laid.there;
        table = old.laid.table;
        id = old.laid.id;
        generation = same-generation old.laid.framed.frame ∙ old.laid.generation;
        below = old.laid.below;
        word = get_or-set_other e.states frame old.laid.framed.frame (filled (generation_at e.pieces frame)) 0 (apart old) ∙ old.laid.word;
      };
      keys = λ key under. old.keys key (sym (same key) ∙ under);
      bare = λ key outside. old.bare key (λ under. outside (same key ∙ under));
      lies = old.lies;
      none = old.none;
    })

  each-stands : LeavesStand next w.shelf w.records dir.leaves pieces states
  each-stands l there = elim (come-cases e.hub.dir dir.leaves (new_leaf t.number id frame (generation_at e.pieces frame)) c.stands.dir come l there) [
    | inl old ↦ old-stands l old
    | inr same ↦ subst (LeafStands next w.shelf w.records dir.leaves pieces states) same (inl new-stands)
  ]

  all-begun : TablesBegun known.tables dir.leaves
  all-begun place u there = elim (append-finds e.hub.tables.tables t u place (subst (λ l. slice_get l place ≡ Some u) c.tables there)) [
    | inl old ↦ let l = c.stands.begun place u old in (kept.to l.0, kept.there l.0 l.1, (kept.alike l.0).table ∙ l.2)
    | inr last ↦ (new_leaf t.number id frame (generation_at e.pieces frame), new-there e.hub.dir dir.leaves (new_leaf t.number id frame (generation_at e.pieces frame)) c.stands.dir come, ap (λ (x : Table). x.number) last.1)
  ]

  all-owned : LeavesOwned known.tables dir.leaves
  all-owned l there = elim (come-cases e.hub.dir dir.leaves (new_leaf t.number id frame (generation_at e.pieces frame)) c.stands.dir come l there) [
    | inl old ↦ let owner = c.stands.owned l old in
        (owner.0, owner.1, subst (λ ls. slice_get ls owner.0 ≡ Some owner.1) (sym c.tables) (append-keeps e.hub.tables.tables t owner.1 owner.0 owner.2), owner.3)
    | inr same ↦ (length e.hub.tables.tables, t, subst (λ ls. slice_get ls (length e.hub.tables.tables) ≡ Some t) (sym c.tables) (append-last e.hub.tables.tables t), ap (λ (x : Leaf). x.table) (sym same))
  ]

  -- a frame that has a leaf is as it was
  home-apart : (table : ℕ) (key : List ℕ) (f : ℕ) → frame_of e.hub.dir.leaves table key ≡ Some f → f ≢ frame
  home-apart table key f home = let h = home-at w.machine w.shelf w.records e.hub.dir e.pieces e.states table key f c.stands.dir c.stands.leaves home in
      not-empty e.pieces frame f h.stands.laid.frame c.empty (ap (frame_in e.pieces) (sym h.at) ∙ h.stands.laid.there)

  leaves-stay : LeavesStay None e.hub.dir.leaves dir.leaves e.pieces pieces
  leaves-stay = record {
    kept = kept;
    tables = λ table key f home other. ap (λ (o : Option Frame). of_some 0 (λ (x : Frame). x.table) o) (old-frame e.pieces frame f (first_piece (generation_at e.pieces frame) t id) (home-apart table key f home));
    slots = λ table key f other i home left slot. ap (λ (o : Option Frame). slot_of other (chains_in o)) (old-frame e.pieces frame f (first_piece (generation_at e.pieces frame) t id) (home-apart table key f home)) ∙ slot;
    older = λ other. let same = same-generation other in omega (arith, same);
    past = λ l target there is none. absurd cc;
  }

  updates-stay : OthersAtHome None w.machine (length e.sessions) e.hub.dir.leaves e.pieces pieces
  updates-stay r x other there drawn table key at home stays u member named =
      subst (λ f. Member u (chain_at key (chains_in f))) (old-frame e.pieces frame at (first_piece (generation_at e.pieces frame) t id) (home-apart table key at home)) member

  made-beside : Apart None (length e.sessions) w.machine next e.hub (record e.hub { tables = known; dir = dir }) e.pieces pieces
  made-beside = record {
    machine = created-apart (length e.sessions) w.machine t c.stands.valid c.may;
    leaves = leaves-stay;
    seats = omega arith;
    phases = λ r other. refl;
    updates = updates-stay;
  }

  -- ids go on from those that were given
  never : (other : ℕ) → dir.next ≤ other → e.hub.dir.next ≤ other
  never other past = let given = c.leaf.added.fresh.ascend in let same = ap (λ (d : Directory). d.next) c.leaf.placed in omega (arith, given.0, given.1, same, past)

  made-stands : AreTables known → Stands (with_table e known dir t id frame) (record w { machine = next })
  made-stands are = record {
    valid = valid-after w.machine (CreateTable t) c.stands.valid c.may;
    fault = c.stands.fault;
    stamps = c.stands.stamps;
    txns = (calls-stand e.hub.txns w.machine c.stands.valid c.stands.txns).others (CreateTable t) tt c.may;
    catalog = are;
    made = ap reverse c.tables ∙ (reverse-append e.hub.tables.tables (t ∷ []) ∙ ap (λ l. t ∷ l) c.stands.made);
    dir = c.dir_is;
    begun = all-begun;
    owned = all-owned;
    leaves = each-stands;
    unused = λ other past key. c.stands.unused other (never other past) key;
    frames = filled-stand e.pieces e.states frame (first_piece (generation_at e.pieces frame) t id) c.piece c.word refl c.stands.frames;
    count = c.stands.count;
    doings = c.stands.doings;
    doing = λ r b there. c.stands.doing r b there ∙ sym (doing-kept None w.machine e.hub.dir.leaves dir.leaves e.pieces r b kept (c.stands.sessions r b there).stage);
    sessions = λ r b there. others-stay (length e.sessions) w.machine next e.hub (record e.hub { tables = known; dir = dir }) e.pieces pieces r b
        made-beside (past-all e.sessions r b there) c.stands.valid (c.stands.sessions r b there);
    systems = c.stands.systems;
    noticed = λ r b there. noticed-stays b.stage e.pieces pieces (w.again r) same-generation (c.stands.noticed r b there);
  }

pub creates-go : ChainsGoOn → CreatesGo
creates-go chains e w name formats known dir place id frame st created are leaf is empty piece word = made-stands chains e w known dir (asked e.hub.tables name formats) id frame (record {
  stands = st;
  may = create-may w.machine e.hub.tables name formats st.catalog st.made created.0;
  tables = ap (λ (k : Known). k.tables) created.2;
  leaf = leaf;
  dir_is = is;
  empty = empty;
  piece = piece;
  word = word;
}) are
