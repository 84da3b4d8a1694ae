-- Rows of one leaf that are read together are those that so many calls of a cursor answer.
use Rattle.std.proofs.Common.{◌≡◌, ◌⊎◌, ◌<◌, ℕ, zero, suc, refl, ap, sym, ◌∙◌, Bool, List, [], ◌∷◌, ◌++◌, length, inl, inr, subst, arith}
use Rattle.std.specs.Prelude.{Option, Some, None, Ok, if◌then◌else◌, slice_get, slice_index_or, slice_set}
use Rattle.std.specs.List.{Contains}
use Rattle.std.proofs.lemmas.Bool.{eq-eqb}
use Rattle.std.proofs.lemmas.List.{get_or-set_same, set-get_or, set-set}
use Rattle.std.proofs.lemmas.Option.{get_or_from_slice_get, none-some, same_Some}
use Rattle.stamp.specs.declared.View.{View}
use Rattle.wt_code.specs.declared.answers.Answer.TheVariants as answers
use Rattle.wt_code.specs.declared.refusals.Refusal.{Refusal}
use Rattle.wt_code.specs.declared.refusals.Refusal.TheVariants as told
use Rattle.kv_model.specs.Calls.{NextRow}
use Rattle.kv_model.specs.Decisions.{GivesRow, Refused}
use Rattle.kv_model.specs.History.{Table, named, tables}
use Rattle.kv_model.specs.Allowed.{HasTransaction}
use Rattle.kv_model.specs.Machine.{Machine, Transaction, Running, Event, Nothing, PlaceCursor, Position as ModelPosition, after, cursor_of, cursors_of}
use Rattle.kv_model.specs.Reads.{IsEnding, ReadAnswer, Value}
use Rattle.kv_model.specs.Rows.{Up, Down, Way as KeyWay, AbsentBefore, NextAnswer, RowAnswer, is_past, starts_at}
use Rattle.kv_model.proofs.EveryEvent.{valid-after}
use Rattle.kv_model.proofs.Seats.{seat-inside}
use Rattle.reconcile.specs.Shows.{shown_at}
use Rattle.tree_dir.specs.declared.leaf.Framed.{Framed}
use Rattle.tree_dir.specs.declared.leaf.Leaf.{Leaf}
use Rattle.tree_dir.specs.Leaves.{leaf_under}
use Rattle.txn_table.proofs.Standing.{calls-stand}
use Rattle.update_chain.specs.EventLaws.{ChainsGoOn, StandsFor}
use Rattle.update_chain.specs.Updates.{Reply, Gives, IsRemoved, IsOlder}
use Rattle.leaf_chains.specs.Slots.{chain_at}
use Rattle.leaf_frame.specs.Leaf.{HeldLeaf}
use Rattle.leaf_frame.specs.Looks.{read_at, read_held}
use Rattle.leaf_frame.specs.ReadLaws.{HeldReadsStand, ReplyStands}
use Rattle.wt_calls.specs.declared.way.Way.{Way}
use Rattle.wt_calls.specs.Calls.{way_in}
use Rattle.call_steps.specs.declared.cursor.Cursor.{Cursor}
use Rattle.call_steps.specs.declared.cursor.Position.{Position}
use Rattle.call_steps.specs.declared.frame.Frame.{Frame}
use Rattle.call_steps.specs.declared.stage.KeyCall.{KeyCall}
use Rattle.call_steps.specs.declared.stage.KeyCall.TheVariants as key_call
use Rattle.call_steps.specs.declared.stage.Stage.{Stage}
use Rattle.call_steps.specs.declared.stage.Stage.TheVariants as stage
use Rattle.call_steps.specs.Looks.{IsNearestRow, start_in}
use Rattle.call_steps.specs.State.{State, changed_at, placed}
use Rattle.call_steps.specs.Tables.{leaf_sought, row_sought}
use Rattle.engine_world.specs.Doings.{doing_at, doing_in}
use Rattle.engine_world.specs.Laws.{IsViewOf, with_session}
use Rattle.engine_world.specs.Leaves.{LeafInFrame, frame_in}
use Rattle.engine_world.specs.Stands.{Engine, SessionStands, Stands}
use Rattle.engine_world.specs.Worlds.{World, Resting, doing_of}
use Rattle.engine_world.proofs.CursorChanges.{positions-set}
use Rattle.engine_world.proofs.Events.{all-same, event-beside}
use Rattle.engine_world.proofs.Homes.{LiesIn, in-its-frame, lies-or-not}
use Rattle.engine_world.proofs.HubMoves.{leaves-go-on}
use Rattle.engine_world.proofs.InPlace.{StageInPlace}
use Rattle.engine_world.proofs.Looking.{view-stands}
use Rattle.engine_world.proofs.Moves.{get-set-same, moves}
use Rattle.engine_world.proofs.OwnStates.{alive-ends}
use Rattle.engine_world.proofs.Seeking.{start-same}
use Rattle.engine_world.proofs.WalkKeys.{before-parts, none-passed, sought-there}
use Rattle.engine.specs.Reads.{IsNameOf, refused_first}
use Rattle.engine.specs.RowReads.{AreNearest, GivesNoRow, NoneNearest, NoneRead, NotRead, RowsAt, RowsCalled, RowsRead, moved_over, stands_at, start_behind}
use Rattle.engine.specs.Whole.{MayCall}
use Rattle.engine.proofs.CopyingRows.{start-more}
use Rattle.engine.proofs.TableNames.{a-name}
use Rattle.engine.proofs.ReadStarts.{GoesOn, answered-so, goes-on, is-known, its-table, refused-call, table-found, table-missing}
use Rattle.engine.proofs.KeyReads.{older-absent}

-- a session is as it was
set-again : (e : Engine) (session : ℕ) (a : State) → slice_get e.sessions session ≡ Some a → with_session e session a ≡ e
set-again e session a at = let own = get_or_from_slice_get e.sessions session a a at in ap (λ (xs : List State). record e { sessions = xs }) (ap (slice_set e.sessions session) (sym own) ∙ set-get_or e.sessions session a)

-- a cursor that stands at a key of the table starts there
start-placed : (ks : List Cursor) (cursor table : ℕ) (key : List ℕ) → cursor < length ks → start_in (changed_at ks cursor (placed (Some (record { table = table; key = key })))) cursor table ≡ Some key
start-placed [] cursor table key there = absurd (omega arith)
start-placed (k ∷ ks) zero table key there = ap (λ (b : Bool). if b then Some key else None) (eq-eqb table table refl)
start-placed (k ∷ ks) (suc n) table key there = start-placed ks n table key (omega arith)

count-stays : (ks : List Cursor) (cursor : ℕ) (change : Cursor → Cursor) → length (changed_at ks cursor change) ≡ length ks
count-stays [] cursor change = refl
count-stays (k ∷ ks) zero change = refl
count-stays (k ∷ ks) (suc n) change = ap suc (count-stays ks n change)

-- where the cursor stands behind a row, in the machine
abbrev behind : ℕ → ℕ → ℕ → List ℕ → Event
behind session cursor table key = PlaceCursor session cursor (Some (record { table = table; key = key }))

-- what a leaf has not is older
bare-older : (view : View) (key : List ℕ) (leaf : HeldLeaf) → chain_at key leaf.chains ≡ [] → shown_at key leaf.page ≡ None → read_at view key leaf ≡ IsOlder
bare-older view key leaf chain row = ap (λ c. read_held view c (shown_at key leaf.page)) chain ∙ ap (λ r. read_held view [] r) row

-- a key that is silent reads as absent
silent-absent : (m : Machine) (session : ℕ) (t : Transaction) (table : ℕ) (key : List ℕ) (given : Reply) → (given ≡ IsRemoved) ⊎ (given ≡ IsOlder) → ReplyStands m session t table key [] given → ReadAnswer m session t table key (Value None)
silent-absent m session t table key given (inl is) stands = subst (ReplyStands m session t table key []) is stands
silent-absent m session t table key given (inr is) stands = older-absent m session t table key (subst (ReplyStands m session t table key []) is stands)

-- ---- one cursor of a transaction that runs is placed

module _ (chains : ChainsGoOn) (e : Engine) (w : World) (session : ℕ) (a : State) (st : Stands e w) (at : slice_get e.sessions session ≡ Some a) (rests : a.stage ≡ stage.Rest) (resting : doing_of w session ≡ Resting)
    (has : HasTransaction w.machine session (λ t. t.phase ≡ Running)) (cursor table : ℕ) (key : List ℕ) where
  abbrev next : Machine
  next = after w.machine (behind session cursor table key)

  abbrev moved-on : State
  moved-on = stands_at cursor table key a

  abbrev spot : Option ModelPosition
  spot = Some (record { table = table; key = key })

  placed-stands : Stands (with_session e session moved-on) (record w { machine = next })
  placed-stands = subst (λ ds. Stands (with_session e session moved-on) (record w { machine = next; sessions = ds })) same
      (moves e w session a moved-on e.hub e.pieces e.hazards next st at (record {
        valid = valid-after w.machine (behind session cursor table key) st.valid has;
        beside = all-same session w.machine next e.hub e.pieces (event-beside session w.machine (behind session cursor table key) st.valid has refl);
        fault = refl;
        stamps = refl;
        txns = (calls-stand e.hub.txns w.machine st.valid st.txns).others (behind session cursor table key) tt has;
        made = refl;
        leaves = leaves-go-on chains w.machine (behind session cursor table key) w.shelf w.records e.hub.dir.leaves e.pieces e.states st.valid has (λ n k. tt) st.leaves;
        mine = record {
          phase = mine.phase;
          seated = record { opened = mine.seated.opened; phase = mine.seated.phase };
          cursors = positions-set a.cursors cursor (placed (Some (record { table = table; key = key }))) spot (λ k. refl)
              ∙ (ap (λ l. slice_set l cursor spot) mine.cursors ∙ sym (get_or-set_same w.machine.cursors session (slice_set (cursors_of w.machine session) cursor spot) [] inside));
          noted = mine.noted;
          stage = subst (λ s. StageInPlace s next e.hub.dir.leaves e.pieces session moved-on) (sym rests) (alive-ends next session has.0 has.1 (λ ending. subst IsEnding has.2 ending));
        };
      })) where
        mine : SessionStands w.machine e.hub e.pieces session a
        mine = st.sessions session a at

        inside : session < length w.machine.cursors
        inside = let seat = seat-inside w.machine.sessions session has.0 has.1 in let seats = st.valid.cursors.seats in omega (arith, seat, seats)

        same : slice_set w.sessions session (doing_in e.hub.dir.leaves session moved-on) ≡ w.sessions
        same = ap (slice_set w.sessions session) (ap (λ (g : Stage). doing_at g e.hub.dir.leaves session moved-on) rests ∙ sym resting) ∙ set-get_or w.sessions session Resting

-- ---- one row

-- a session at rest, whose cursor is to go on in a leaf of its table
pub record Ready (e : Engine) (w : World) (session : ℕ) (a : State) (name : List ℕ) (cursor table : ℕ) (way : Way) (l : Leaf) : Type 0 where
  pub stands : Stands e w
  pub at : slice_get e.sessions session ≡ Some a
  pub of : IsNameOf (tables w.machine.history) table name
  pub on : refused_first e.hub a [] ≡ None
  pub there : cursor < length a.cursors
  pub begins : leaf_sought e.hub.dir.leaves table (row_sought (way_in way) (start_in a.cursors cursor table)) ≡ Some l

module _ (chains : ChainsGoOn) (reads : HeldReadsStand) (session : ℕ) (name : List ℕ) (cursor table : ℕ) (way : Way) (l : Leaf) (framed : Framed) (in-frame : l.frame ≡ Some framed) (f : Frame) (view : View) where
  abbrev step : KeyCall
  step = key_call.Step cursor way

  module _ (e : Engine) (w : World) (a : State) (r : Ready e w session a name cursor table way l) (held : frame_in e.pieces framed.frame ≡ Some f) (lent : IsViewOf e.hub session view) (key value : List ℕ)
      (row : IsNearestRow view (way_in way) (start_in a.cursors cursor table) f.leaf key (Gives value)) where
    abbrev from : Option (List ℕ)
    from = start_in a.cursors cursor table

    goes : GoesOn e w session a r.stands r.at step refl name [] (refl, refl)
    goes = goes-on e w session a r.stands r.at step refl name [] (refl, refl) table r.of r.on

    home : Contains e.hub.dir.leaves l × (l.table ≡ table)
    home = sought-there e.hub.dir table (row_sought (way_in way) from) l r.stands.dir r.begins

    lies : LeafInFrame w.machine w.shelf w.records e.hub.dir.leaves e.pieces e.states l
    lies = in-its-frame w.machine w.shelf w.records e.hub.dir.leaves e.pieces e.states l framed in-frame (r.stands.leaves l home.0)

    is-frame : lies.laid.frame ≡ f
    is-frame = same_Some lies.laid.frame f (sym lies.laid.there ∙ (ap (λ (x : Framed). frame_in e.pieces x.frame) (same_Some lies.laid.framed framed (sym lies.laid.placed ∙ in-frame)) ∙ held))

    replies : (k : List ℕ) → LiesIn e.hub.dir.leaves l k → ReplyStands w.machine session goes.transaction table k [] (read_at view k f.leaf)
    replies k inside = reads w.machine session goes.transaction view table k (chain_at k f.leaf.chains) (shown_at k f.leaf.page) [] r.stands.valid goes.there goes.running
        (view-stands e.hub w.machine session goes.transaction view r.stands.txns lent goes.there)
        (subst (λ n. StandsFor w.machine n k (chain_at k f.leaf.chains) (shown_at k f.leaf.page) []) home.1
        (subst (λ (x : Frame). StandsFor w.machine l.table k (chain_at k x.leaf.chains) (shown_at k x.leaf.page) []) is-frame (lies.keys k inside)))

    -- the row lies in the leaf
    key-lies : LiesIn e.hub.dir.leaves l key
    key-lies = elim (lies-or-not e.hub.dir l key r.stands.dir home.0) [
      | inl inside ↦ inside
      | inr outside ↦ let none = subst (λ (x : Frame). (chain_at key x.leaf.chains ≡ []) × (shown_at key x.leaf.page ≡ None)) is-frame (lies.bare key outside) in
          absurd (let clash : Gives value ≡ IsOlder = sym row.reads ∙ bare-older view key f.leaf none.0 none.1 in cc)
    ]

    absent : AbsentBefore (ReadAnswer w.machine session goes.transaction table) (way_in way) (is_past (way_in way) from) key
    absent k past before = elim (before-parts e.hub.dir r.stands.dir l home.0 (way_in way) (is_past (way_in way) from) k key past key-lies before) [
      | inl was ↦ absurd (none-passed e.hub.dir (way_in way) from table l k r.stands.dir r.begins was)
      | inr inside ↦ silent-absent w.machine session goes.transaction table k (read_at view k f.leaf) (row.before k past before) (replies k inside)
    ]

    from-is : from ≡ starts_at table (cursor_of w.machine session cursor)
    from-is = start-same a.cursors cursor table ∙ ap (λ ps. starts_at table (slice_index_or ps cursor None)) (r.stands.sessions session a r.at).cursors

    finds : NextAnswer w.machine session goes.transaction cursor table (way_in way) (GivesRow key value) (behind session cursor table key)
    finds = (
      subst (λ o. RowAnswer (ReadAnswer w.machine session goes.transaction table) (way_in way) o (GivesRow key value)) from-is
          (row.past, subst (ReplyStands w.machine session goes.transaction table key []) row.reads (replies key key-lies), absent),
      refl,
    )

    abbrev later : World
    later = record w { machine = after w.machine (behind session cursor table key) }

    pub row-called : MayCall w session (NextRow cursor name (way_in way)) (answers.Row key value) later
    row-called = answered-so e w session a r.stands r.at (NextRow cursor name (way_in way)) (answers.Row key value) later goes.resting
        (inl (
          GivesRow key value,
          inr (
            Nothing,
            goes.transaction,
            t.0,
            behind session cursor table key,
            table-found e w session a r.stands r.at step refl name [] (refl, refl) table l r.of goes r.begins,
            record { transaction = goes.there; table_is = t.1 },
            subst (λ n. NextAnswer w.machine session goes.transaction cursor n (way_in way) (GivesRow key value) (behind session cursor table key)) (sym t.2) finds,
            refl,
          ),
          refl,
        )) refl where
          t : (t : Table) × (named name (tables w.machine.history) ≡ Some t) × (t.number ≡ table)
          t = its-table e w session a r.stands r.at step refl name [] (refl, refl) table l r.of r.begins

    pub ready-behind : Ready (with_session e session (stands_at cursor table key a)) later session (stands_at cursor table key a) name cursor table way l
    ready-behind = record {
      stands = placed-stands chains e w session a r.stands r.at goes.rests goes.resting (goes.transaction, goes.there, goes.running) cursor table key;
      at = get-set-same e.sessions session a (stands_at cursor table key a) r.at;
      of = r.of;
      on = r.on;
      there = (let there = r.there in let same = count-stays a.cursors cursor (placed (Some (record { table = table; key = key }))) in omega (arith, there, same));
      begins = ap (λ o. leaf_sought e.hub.dir.leaves table (row_sought (way_in way) o)) (start-placed a.cursors cursor table key r.there) ∙ under (way_in way);
    } where
      under : (y : KeyWay) → leaf_sought e.hub.dir.leaves table (row_sought y (Some key)) ≡ Some l
      under Up = ap (λ n. leaf_under n key e.hub.dir.leaves) (sym home.1) ∙ key-lies
      under Down = ap (λ n. leaf_under n key e.hub.dir.leaves) (sym home.1) ∙ key-lies

  -- ---- one row after the other

  -- behind the rows the session is ready to go on in the leaf
  pub rows-called : (e : Engine) (w : World) (a : State) → Ready e w session a name cursor table way l → frame_in e.pieces framed.frame ≡ Some f → IsViewOf e.hub session view → (rows : List (List ℕ × List ℕ))
      → AreNearest view (way_in way) (start_in a.cursors cursor table) f.leaf rows
      → (later : World) × RowsCalled w session cursor name (way_in way) rows later × Ready (with_session e session (moved_over cursor table rows a)) later session (moved_over cursor table rows a) name cursor table way l
  rows-called e w a r held lent [] near = (w, refl, subst (λ (x : Engine). Ready x w session a name cursor table way l) (sym (set-again e session a r.at)) r)
  rows-called e w a r held lent (row ∷ rows) near =
      let here = stands_at cursor table row.0 a in
      let there = rows-called (with_session e session here) (record w { machine = after w.machine (behind session cursor table row.0) }) here (ready-behind e w a r held lent row.0 row.1 near.0) held lent rows
      (subst (λ o. AreNearest view (way_in way) o f.leaf rows) (sym (start-placed a.cursors cursor table row.0 r.there)) near.1) in (
        there.0,
        (record w { machine = after w.machine (behind session cursor table row.0) }, row-called e w a r held lent row.0 row.1 near.0, there.1),
        subst (λ (xs : List State). Ready (record e { sessions = xs }) there.0 session (moved_over cursor table rows here) name cursor table way l) (set-set e.sessions session here (moved_over cursor table rows here)) there.2,
      )

-- ---- where the cursor stands behind them

changed-twice : (ks : List Cursor) (cursor : ℕ) (one two : Option Position) → changed_at (changed_at ks cursor (placed one)) cursor (placed two) ≡ changed_at ks cursor (placed two)
changed-twice [] cursor one two = refl
changed-twice (k ∷ ks) zero one two = refl
changed-twice (k ∷ ks) (suc n) one two = ap (λ l. k ∷ l) (changed-twice ks n one two)

-- at the last one
pub moved-is : (cursor table : ℕ) (rows : List (List ℕ × List ℕ)) (row : List ℕ × List ℕ) (a : State) → moved_over cursor table (rows ++ row ∷ []) a ≡ stands_at cursor table row.0 a
moved-is cursor table [] row a = refl
moved-is cursor table (one ∷ rows) row a = moved-is cursor table rows row (stands_at cursor table one.0 a)
    ∙ ap (λ ks. record a { cursors = ks }) (changed-twice a.cursors cursor (Some (record { table = table; key = one.0 })) (Some (record { table = table; key = row.0 })))

-- ---- what is read

some-not-none : (rows front : List (List ℕ × List ℕ)) (row : List ℕ × List ℕ) → rows ≡ front ++ row ∷ [] → rows ≡ [] → ⊥
some-not-none rows [] row are none = let clash : row ∷ [] ≡ [] = sym are ∙ none in cc
some-not-none rows (one ∷ front) row are none = let clash : one ∷ (front ++ row ∷ []) ≡ [] = sym are ∙ none in cc

module _ (chains : ChainsGoOn) (reads : HeldReadsStand) (e : Engine) (w : World) (session : ℕ) (a : State) (st : Stands e w) (at : slice_get e.sessions session ≡ Some a) (name : List ℕ) (cursor table : ℕ) (way : Way)
    (of : IsNameOf (tables w.machine.history) table name) (most : ℕ) (rows : List (List ℕ × List ℕ)) where
  abbrev call : KeyCall
  call = key_call.Step cursor way

  goes-from : refused_first e.hub a [] ≡ None → GoesOn e w session a st at call refl name [] (refl, refl)
  goes-from on = goes-on e w session a st at call refl name [] (refl, refl) table of on

  -- why they are not
  pub rows-refused : (r : Refusal) → NotRead e session a cursor table (way_in way) r → MayCall w session (NextRow cursor name (way_in way)) (answers.Refused r) w
  rows-refused r (inl is) = refused-call e w session a st at call refl name [] (refl, refl) table r (NextRow cursor name (way_in way)) of is (λ decided. inl (Refused r, inl (r, Nothing, decided, refl, refl), refl))
  rows-refused r (inr (on, inl missing)) = subst (λ x. MayCall w session (NextRow cursor name (way_in way)) (answers.Refused x) w) (sym missing.1)
      (answered-so e w session a st at (NextRow cursor name (way_in way)) (answers.Refused told.NoTable) w (goes-from on).resting
      (inl (Refused told.NoTable, inl (told.NoTable, Nothing, table-missing e w session a st at call refl name [] (refl, refl) table of (goes-from on) missing.0, refl, refl), refl)) refl)
  rows-refused r (inr (on, inr (inl short))) = subst (λ x. MayCall w session (NextRow cursor name (way_in way)) (answers.Refused x) w) (sym short) (answered-so e w session a st at (NextRow cursor name (way_in way)) (answers.Refused told.NoMemory) w (goes-from on).resting (inr (inl (refl, refl))) refl)
  rows-refused r (inr (on, inr (inr lacks))) = absurd (elim lacks.4 [ inl bare ↦ frame-there bare | inr idle ↦ is-known e w session a st at (goes-from on).transaction (goes-from on).there (goes-from on).running idle ]) where
    lies : LeafInFrame w.machine w.shelf w.records e.hub.dir.leaves e.pieces e.states lacks.0
    lies = in-its-frame w.machine w.shelf w.records e.hub.dir.leaves e.pieces e.states lacks.0 lacks.1 lacks.3
        (st.leaves lacks.0 (sought-there e.hub.dir table (row_sought (way_in way) (start_in a.cursors cursor table)) lacks.0 st.dir lacks.2).0)

    frame-there : frame_in e.pieces lacks.1.frame ≡ None → ⊥
    frame-there bare = none-some lies.laid.frame (sym bare ∙ (ap (λ (x : Framed). frame_in e.pieces x.frame) (same_Some lacks.1 lies.laid.framed (sym lacks.3 ∙ lies.laid.placed)) ∙ lies.laid.there))

  ready : refused_first e.hub a [] ≡ None → (x : RowsAt e session a cursor table (way_in way) most rows) → Ready e w session a name cursor table way x.leaf
  ready on x = record { stands = st; at = at; of = of; on = on; there = x.there; begins = x.begins }

  -- ---- some rows

  module _ (on : refused_first e.hub a [] ≡ None) (x : RowsAt e session a cursor table (way_in way) most rows) (front : List (List ℕ × List ℕ)) (row : List ℕ × List ℕ) (are : rows ≡ front ++ row ∷ []) where
    abbrev at-last : State
    at-last = stands_at cursor table row.0 a

    done : (later : World) × RowsCalled w session cursor name (way_in way) rows later × Ready (with_session e session at-last) later session at-last name cursor table way x.leaf
    done = let there = rows-called chains reads session name cursor table way x.leaf x.framed x.placed x.frame x.view e w a (ready on x) x.held x.lent rows x.near in
        (there.0, there.1, subst (λ (b : State). Ready (with_session e session b) there.0 session b name cursor table way x.leaf) over there.2) where
          over : moved_over cursor table rows a ≡ at-last
          over = ap (λ l. moved_over cursor table l a) are ∙ moved-is cursor table front row a

    some-none-more : length rows < most → GivesNoRow (with_session e session at-last) session cursor table (way_in way)
    some-none-more less b l framed f b_at there begins placed held = (
      x.view,
      x.lent,
      subst (λ (y : Frame). NoneNearest x.view (way_in way) (start_in b.cursors cursor table) y.leaf) frames
          (subst (λ o. NoneNearest x.view (way_in way) o x.frame.leaf) starts (x.ends less)),
    ) where
      same : at-last ≡ b
      same = same_Some at-last b (sym done.2.at ∙ b_at)

      leaves : x.leaf ≡ l
      leaves = same_Some x.leaf l (sym (subst (λ (y : State). leaf_sought e.hub.dir.leaves table (row_sought (way_in way) (start_in y.cursors cursor table)) ≡ Some x.leaf) same done.2.begins) ∙ begins)

      framings : x.framed ≡ framed
      framings = same_Some x.framed framed (sym x.placed ∙ (ap (λ (y : Leaf). y.frame) leaves ∙ placed))

      frames : x.frame ≡ f
      frames = same_Some x.frame f (sym x.held ∙ (ap (λ (y : Framed). frame_in e.pieces y.frame) framings ∙ held))

      starts : start_behind (start_in a.cursors cursor table) rows ≡ start_in b.cursors cursor table
      starts = ap (start_behind (start_in a.cursors cursor table)) are ∙ (start-more (start_in a.cursors cursor table) front row ∙ (sym (start-placed a.cursors cursor table row.0 x.there) ∙ ap (λ (y : State). start_in y.cursors cursor table) same))

  -- the cursor stands at the last one
  pub rows-read : RowsRead e session a cursor table (way_in way) most (Ok tt) rows → (front : List (List ℕ × List ℕ)) (row : List ℕ × List ℕ) → rows ≡ front ++ row ∷ []
      → (later : World) × RowsCalled w session cursor name (way_in way) rows later × Stands (with_session e session (stands_at cursor table row.0 a)) later
  rows-read (on, inl none) front row are = absurd (some-not-none rows front row are none.0)
  rows-read (on, inr x) front row are = let d = done on x front row are in (d.0, d.1, d.2.stands)

  named-end : RowsRead e session a cursor table (way_in way) most (Ok tt) rows → (front : List (List ℕ × List ℕ)) (row : List ℕ × List ℕ) → rows ≡ front ++ row ∷ [] → length rows < most
      → GivesNoRow (with_session e session (stands_at cursor table row.0 a)) session cursor table (way_in way)
  named-end (on, inl none) front row are = absurd (some-not-none rows front row are none.0)
  named-end (on, inr x) front row are = some-none-more on x front row are

  -- ---- none

  pub none-read : rows ≡ [] → (later : World) × RowsCalled w session cursor name (way_in way) rows later × Stands e later
  none-read none = (w, subst (λ l. RowsCalled w session cursor name (way_in way) l w) (sym none) refl, st)

-- behind them the leaf has no further row up to a conflict
pub rows-end : (chains : ChainsGoOn) (reads : HeldReadsStand) (e : Engine) (w : World) (session : ℕ) (a : State) (st : Stands e w) (at : slice_get e.sessions session ≡ Some a) (cursor table : ℕ) (way : Way) (most : ℕ) (rows : List (List ℕ × List ℕ))
    → RowsRead e session a cursor table (way_in way) most (Ok tt) rows → (front : List (List ℕ × List ℕ)) (row : List ℕ × List ℕ) → rows ≡ front ++ row ∷ [] → length rows < most
    → GivesNoRow (with_session e session (stands_at cursor table row.0 a)) session cursor table (way_in way)
rows-end chains reads e w session a st at cursor table way most rows (on, inl none) front row are less = absurd (some-not-none rows front row are none.0)
rows-end chains reads e w session a st at cursor table way most rows (on, inr x) front row are less =
    let has = sought-there e.hub.dir table (row_sought (way_in way) (start_in a.cursors cursor table)) x.leaf st.dir x.begins in
    let n = a-name e w x.leaf st has.0 in
    named-end chains reads e w session a st at n.0 cursor table way (subst (λ i. IsNameOf (tables w.machine.history) i n.0) has.1 n.1) most rows (on, inr x) front row are less

module _ (e : Engine) (session : ℕ) (a : State) (at : slice_get e.sessions session ≡ Some a) (cursor table : ℕ) (way : Way) (most : ℕ) (rows : List (List ℕ × List ℕ)) where
  pub none-end : RowsRead e session a cursor table (way_in way) most (Ok tt) rows → rows ≡ [] → length rows < most → GivesNoRow e session cursor table (way_in way)
  none-end (on, read) none less b l framed f b_at there begins placed held = by read where
    same : a ≡ b
    same = same_Some a b (sym at ∙ b_at)

    found : (m : Leaf) → leaf_sought e.hub.dir.leaves table (row_sought (way_in way) (start_in a.cursors cursor table)) ≡ Some m → m ≡ l
    found m is = same_Some m l (sym (subst (λ (y : State). leaf_sought e.hub.dir.leaves table (row_sought (way_in way) (start_in y.cursors cursor table)) ≡ Some m) same is) ∙ begins)

    by : NoneRead e a cursor table (way_in way) rows ⊎ RowsAt e session a cursor table (way_in way) most rows → (view : View) × IsViewOf e.hub session view × NoneNearest view (way_in way) (start_in b.cursors cursor table) f.leaf
    by (inl (nothing, inl past)) = absurd (let long = ap (λ (y : State). length y.cursors) same in omega (arith, past, there, long))
    by (inl (nothing, inr away)) = absurd (none-some framed (sym away.2 ∙ (ap (λ (y : Leaf). y.frame) (found away.0 away.1) ∙ placed)))
    by (inr x) = (
      x.view,
      x.lent,
      subst (λ (y : Frame). NoneNearest x.view (way_in way) (start_in b.cursors cursor table) y.leaf) frames
          (subst (λ (y : State). NoneNearest x.view (way_in way) (start_in y.cursors cursor table) x.frame.leaf) same
          (subst (λ l. NoneNearest x.view (way_in way) (start_behind (start_in a.cursors cursor table) l) x.frame.leaf) none (x.ends less))),
    ) where
      framings : x.framed ≡ framed
      framings = same_Some x.framed framed (sym x.placed ∙ (ap (λ (y : Leaf). y.frame) (found x.leaf x.begins) ∙ placed))

      frames : x.frame ≡ f
      frames = same_Some x.frame f (sym x.held ∙ (ap (λ (y : Framed). frame_in e.pieces y.frame) framings ∙ held))
