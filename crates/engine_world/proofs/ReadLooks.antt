-- The looks of a get, a seek, and a step to the next row or the previous one.
use Rattle.std.proofs.Common.{◌≡◌, ◌⊎◌, ◌+◌, ℕ, refl, ap, sym, ◌∙◌, Bool, true, List, [], inl, inr, subst, arith}
use Rattle.std.specs.Prelude.{Option, Some, None, slice_get, slice_index_or}
use Rattle.std.proofs.lemmas.Option.{same_Some}
use Rattle.stamp.specs.declared.View.{View}
use Rattle.wt_code.specs.declared.answers.Answer.{Answer}
use Rattle.wt_code.specs.declared.answers.Answer.TheVariants as answers
use Rattle.wt_code.specs.declared.refusals.Refusal.TheVariants as refusal
use Rattle.kv_model.specs.Machine.{Machine, Transaction, cursor_of, transaction_of, Event, Nothing}
use Rattle.kv_model.specs.Decisions.{Outcome, Gives, GivesRow, Refused, GetAnswer}
use Rattle.kv_model.specs.Reads.{Found, ReadAnswer, Value}
use Rattle.kv_model.specs.Rows.{is_past, AbsentBefore, RowAnswer, NextAnswer, starts_at, seek_event, row_event}
use Rattle.kv_model.specs.Told.{Tells}
use Rattle.reconcile.specs.Shows.{shown_at}
use Rattle.tree_dir.specs.declared.leaf.Leaf.{Leaf}
use Rattle.update_chain.specs.Updates.{Reply, Gives as LeafGives, IsRemoved, Conflicts, IsOlder}
use Rattle.leaf_chains.specs.Slots.{chain_at}
use Rattle.leaf_frame.specs.Leaf.{HeldLeaf}
use Rattle.leaf_frame.specs.Looks.{read_at, read_held}
use Rattle.leaf_frame.specs.ReadLaws.{HeldReadsStand, ReplyStands}
use Rattle.wt_calls.specs.declared.way.Way.{Way as CalledWay}
use Rattle.wt_calls.specs.Calls.{way_in}
use Rattle.call_steps.specs.declared.frame.FramePiece.{FramePiece}
use Rattle.call_steps.specs.declared.hub.Hub.{Hub}
use Rattle.call_steps.specs.declared.reply.Reply.TheVariants as reply
use Rattle.call_steps.specs.declared.stage.KeyCall.{KeyCall}
use Rattle.call_steps.specs.declared.stage.KeyCall.TheVariants as key_call
use Rattle.call_steps.specs.declared.stage.Stage.{Stage}
use Rattle.call_steps.specs.declared.stage.Stage.TheVariants as stage
use Rattle.call_steps.specs.declared.stage.Target.{Target}
use Rattle.call_steps.specs.FrameEvents.{with_leaf}
use Rattle.call_steps.specs.Looks.{LookedBy, ReadBy, SteppedBy, IsSilent, NoRow, SilentBefore, from_of, refused, no_memory}
use Rattle.call_steps.specs.State.{State, answered, at_stage}
use Rattle.engine_world.specs.Worlds.{World, Decided}
use Rattle.engine_world.specs.Doings.{call_in, landing, event_with, further_left}
use Rattle.engine_world.specs.Steps.{Made, GoesTo, LookAnswer, LooksOn}
use Rattle.engine_world.specs.Laws.{Leads, ReadsGo, RowsGo, ReadsKey, StepsOn, IsLook, with_session, with_piece}
use Rattle.engine_world.specs.Stages.{IsPassed, IsSought}
use Rattle.engine_world.specs.Stands.{Engine, Stands}
use Rattle.engine_world.specs.Walks.{passed, passed_with}
use Rattle.engine_world.proofs.Homes.{LiesIn, lies-or-not}
use Rattle.engine_world.proofs.Looking.{AtLeaf, at-leaf, look-made, goes-placed, quiet-leads, Keeps, stands-at, answered-stands, older-stands, answered-does, older-does, short-does, made_in, looks-lead, shorts-lead}
use Rattle.engine_world.proofs.Seeking.{start-same}
use Rattle.engine_world.proofs.WalkKeys.{before-parts, passed-inside, passed-parts}
use Rattle.engine_world.proofs.InPlace.{SessionInPlace}

-- ---- what a leaf gives

abbrev outcome_of : Reply → Outcome
outcome_of (LeafGives value) = Gives value
outcome_of IsRemoved = Refused refusal.NotFound
outcome_of (Conflicts id) = Refused (refusal.PrepareConflict id)
outcome_of IsOlder = Refused refusal.NotFound

abbrev answer_of : Reply → Answer (List ℕ)
answer_of (LeafGives value) = answers.Value value
answer_of IsRemoved = answers.Refused refusal.NotFound
answer_of (Conflicts id) = answers.Refused (refusal.PrepareConflict id)
answer_of IsOlder = answers.Refused refusal.NotFound

answer-tells : (given : Reply) → Tells (outcome_of given) (answer_of given)
answer-tells (LeafGives value) = refl
answer-tells IsRemoved = refl
answer-tells (Conflicts id) = refl
answer-tells IsOlder = refl

-- there is no record: what is not in the leaf reads as absent
older-absent : (m : Machine) (s : ℕ) (t : Transaction) (table : ℕ) (key : List ℕ) → ReplyStands m s t table key [] IsOlder → ReadAnswer m s t table key (Value None)
older-absent m s t table key stands = stands None (λ x held. absurd held)

reply-gets : (m : Machine) (s : ℕ) (t : Transaction) (table : ℕ) (key : List ℕ) (given : Reply) → ReplyStands m s t table key [] given → GetAnswer m s t table key (outcome_of given)
reply-gets m s t table key (LeafGives value) stands = stands
reply-gets m s t table key IsRemoved stands = stands
reply-gets m s t table key (Conflicts id) stands = stands
reply-gets m s t table key IsOlder stands = older-absent m s t table key stands

-- ---- gets and seeks

seeks-land : (session cursor : ℕ) (target : Target) (key : List ℕ) (given : Reply) → landing session cursor target key (answer_of given) ≡ seek_event session cursor target.table key (outcome_of given)
seeks-land session cursor target key (LeafGives value) = refl
seeks-land session cursor target key IsRemoved = refl
seeks-land session cursor target key (Conflicts id) = refl
seeks-land session cursor target key IsOlder = refl

read-finds : (m : Machine) (session : ℕ) (t : Transaction) (call : KeyCall) (target : Target) (a : State) (given : Reply) → ReadsKey call → ReplyStands m session t target.table a.key [] given
    → LookAnswer (call_in call a) m session t target.table (outcome_of given) (event_with session call target a.key (answer_of given))
read-finds m session t key_call.Get target a given is stands = (reply-gets m session t target.table a.key given stands, refl)
read-finds m session t (key_call.Seek cursor) target a given is stands = (reply-gets m session t target.table a.key given stands, seeks-land session cursor target a.key given)
read-finds m session t call target a given is stands = absurd is

read-on : (m : Machine) (left : ℕ) (call : KeyCall) (a : State) (answer : Answer (List ℕ)) (event : Event) (made : Made) → ReadsKey call → GoesTo (Decided answer event) left m made → LooksOn (call_in call a) m answer event left made
read-on m left key_call.Get a answer event made is goes = goes
read-on m left (key_call.Seek cursor) a answer event made is goes = goes
read-on m left call a answer event made is goes = absurd is

-- its key lies in the leaf that is sought
sought-key : (m : Machine) (leaves : List Leaf) (session : ℕ) (a : State) (call : KeyCall) (l : Leaf) → ReadsKey call → IsSought m leaves session a call l → LiesIn leaves l a.key
sought-key m leaves session a key_call.Get l is sought = sought
sought-key m leaves session a (key_call.Seek cursor) l is sought = sought
sought-key m leaves session a call l is sought = absurd is

read-made : (call : KeyCall) (view : View) (target : Target) (leaf : HeldLeaf) (a : State) (leaf' : HeldLeaf) (a' : State) → ReadsKey call → LookedBy call view target leaf a leaf' a'
    → (leaf' ≡ leaf) × ReadBy (read_at view a.key leaf) call target a a'
read-made key_call.Get view target leaf a leaf' a' is made = made
read-made (key_call.Seek cursor) view target leaf a leaf' a' is made = made
read-made call view target leaf a leaf' a' is made = absurd is

module _ (e : Engine) (w : World) (session frame : ℕ) (a a' : State) (p p' : FramePiece) (view : View) (call : KeyCall) (target : Target) (leaf : HeldLeaf) (x : AtLeaf e w session frame a p view call target)
    (st : Stands e w) (at : slice_get e.sessions session ≡ Some a) (there : slice_get e.pieces frame ≡ Some p) (look : a.stage ≡ stage.Look call target)
    (is : p' ≡ record p { frame = Some (with_leaf leaf x.was) }) (same : leaf ≡ x.was.leaf) where
  short : a' ≡ answered call target no_memory a → Leads (with_session (with_piece e frame p') session a') w session reply.More
  short now = shorts-lead e w session frame a a' p p' view call target leaf x st at there look is same
      (subst (λ b. GoesTo (Decided no_memory Nothing) (4 + further_left call target e.hub.dir.leaves) w.machine (made_in e.hub.dir.leaves w.machine session b)) (sym now) (short-does e.hub.dir.leaves (4 + further_left call target e.hub.dir.leaves) (omega arith) w.machine session call target a))
      (subst (SessionInPlace w.machine e.hub e.pieces session) (sym now) (answered-stands w.machine e.hub e.pieces session call target a x.keeps x.on no_memory))

  read-leads : ReadsKey call → (given : Reply) → ReplyStands w.machine session x.transaction target.table a.key [] given → ReadBy given call target a a' → Leads (with_session (with_piece e frame p') session a') w session reply.More
  read-leads reads given stands made = by given stands made where
    gives : (given : Reply) → ReplyStands w.machine session x.transaction target.table a.key [] given
        → GoesTo (Decided (answer_of given) (event_with session call target a.key (answer_of given))) (4 + further_left call target e.hub.dir.leaves) w.machine (made_in e.hub.dir.leaves w.machine session a') → SessionInPlace w.machine e.hub e.pieces session a'
        → Leads (with_session (with_piece e frame p') session a') w session reply.More
    gives given stands goes mine = looks-lead e w session frame a a' p p' view call target leaf x st at there look is same (outcome_of given) (event_with session call target a.key (answer_of given)) (answer_of given)
        (read-finds w.machine session x.transaction call target a given reads stands) (answer-tells given)
        (read-on w.machine (4 + further_left call target e.hub.dir.leaves) call a (answer_of given) (event_with session call target a.key (answer_of given)) (made_in e.hub.dir.leaves w.machine session a') reads goes) mine

    told : (given : Reply) → ReplyStands w.machine session x.transaction target.table a.key [] given → a' ≡ answered call target (answer_of given) a → Leads (with_session (with_piece e frame p') session a') w session reply.More
    told given stands now = gives given stands
        (subst (λ b. GoesTo (Decided (answer_of given) (event_with session call target a.key (answer_of given))) (4 + further_left call target e.hub.dir.leaves) w.machine (made_in e.hub.dir.leaves w.machine session b)) (sym now) (answered-does e.hub.dir.leaves (4 + further_left call target e.hub.dir.leaves) (omega arith) w.machine session call target a (answer_of given)))
        (subst (SessionInPlace w.machine e.hub e.pieces session) (sym now) (answered-stands w.machine e.hub e.pieces session call target a x.keeps x.on (answer_of given)))

    by : (given : Reply) → ReplyStands w.machine session x.transaction target.table a.key [] given → ReadBy given call target a a' → Leads (with_session (with_piece e frame p') session a') w session reply.More
    by (LeafGives value) stands (inl now) = told (LeafGives value) stands now
    by (LeafGives value) stands (inr now) = short now
    by IsRemoved stands now = told IsRemoved stands now
    by (Conflicts id) stands now = told (Conflicts id) stands now
    by IsOlder stands now = gives IsOlder stands
        (subst (λ b. GoesTo (Decided (answer_of IsOlder) (event_with session call target a.key (answer_of IsOlder))) (4 + further_left call target e.hub.dir.leaves) w.machine (made_in e.hub.dir.leaves w.machine session b)) (sym now) (older-does e.hub.dir.leaves (4 + further_left call target e.hub.dir.leaves) (omega arith) w.machine session call target a (omega arith)))
        (subst (SessionInPlace w.machine e.hub e.pieces session) (sym now) (older-stands w.machine e.hub e.pieces session call target a x.keeps x.on))

pub reads-go : HeldReadsStand → ReadsGo
reads-go reads-stand e w session frame a a' p p' view st at of goes there v made = by a.stage refl of where
  by : (g : Stage) → a.stage ≡ g → IsLook ReadsKey g → Leads (with_session (with_piece e frame p') session a') w session reply.More
  by (stage.Look call target) look reads =
      let x = at-leaf e w session frame a p view call target st at look goes there v in
      let l = look-made e w session frame a p view call target a' p' x look made in
      let r = read-made call view target x.was.leaf a l.0 a' reads l.2 in
      read-leads e w session frame a a' p p' view call target l.0 x st at there look l.1 r.0 reads (read_at view a.key x.was.leaf)
      (reads-stand w.machine session x.transaction view target.table a.key (chain_at a.key x.was.leaf.chains) (shown_at a.key x.was.leaf.page) [] st.valid x.there x.running x.sees
      (x.keys a.key (sought-key w.machine e.hub.dir.leaves session a call x.home reads x.sought))) r.1
  by g look no_look = absurd no_look

-- ---- steps

-- a key that is silent reads as absent
silent-absent : (m : Machine) (s : ℕ) (t : Transaction) (table : ℕ) (key : List ℕ) (given : Reply) → (given ≡ IsRemoved) ⊎ (given ≡ IsOlder) → ReplyStands m s t table key [] given → ReadAnswer m s t table key (Value None)
silent-absent m s t table key given (inl is) stands = subst (ReplyStands m s t table key []) is stands
silent-absent m s t table key given (inr is) stands = older-absent m s t table key (subst (ReplyStands m s t table key []) is stands)

-- what a leaf has not is silent
bare-older : (view : View) (key : List ℕ) (leaf : HeldLeaf) → chain_at key leaf.chains ≡ [] → shown_at key leaf.page ≡ None → read_at view key leaf ≡ IsOlder
bare-older view key leaf chain row = ap (λ c. read_held view c (shown_at key leaf.page)) chain ∙ ap (λ r. read_held view [] r) row

-- the key that is kept for the cursor is nothing else to the session
keyed : (m : Machine) (hub : Hub) (pieces : List FramePiece) (session : ℕ) (a : State) (key : List ℕ) → Keeps m hub pieces session a → Keeps m hub pieces session (record a { key = key })
keyed m hub pieces session a key k = record { phase = k.phase; seated = record { opened = k.seated.opened; phase = k.seated.phase }; cursors = k.cursors; noted = k.noted }

module _ (reads-stand : HeldReadsStand) (e : Engine) (w : World) (session frame : ℕ) (a a' : State) (p p' : FramePiece) (view : View) (cursor : ℕ) (way : CalledWay) (target : Target) (leaf : HeldLeaf)
    (x : AtLeaf e w session frame a p view (key_call.Step cursor way) target) (st : Stands e w) (at : slice_get e.sessions session ≡ Some a) (there : slice_get e.pieces frame ≡ Some p)
    (look : a.stage ≡ stage.Look (key_call.Step cursor way) target) (is : p' ≡ record p { frame = Some (with_leaf leaf x.was) }) (same : leaf ≡ x.was.leaf) where
  abbrev step : KeyCall
  step = key_call.Step cursor way

  abbrev Reads : List ℕ → Found → Type 0
  Reads = ReadAnswer w.machine session x.transaction target.table

  abbrev from : Option (List ℕ)
  from = starts_at target.table (cursor_of w.machine session cursor)

  from-is : from_of a cursor target.table ≡ from
  from-is = start-same a.cursors cursor target.table ∙ ap (λ l. starts_at target.table (slice_index_or l cursor None)) x.keeps.cursors

  replies : (key : List ℕ) → LiesIn e.hub.dir.leaves x.home key → ReplyStands w.machine session x.transaction target.table key [] (read_at view key x.was.leaf)
  replies key lies = reads-stand w.machine session x.transaction view target.table key (chain_at key x.was.leaf.chains) (shown_at key x.was.leaf.page) [] st.valid x.there x.running x.sees (x.keys key lies)

  -- a key that gives something lies in the leaf
  gives-lies : (key : List ℕ) (given : Reply) → (given ≡ IsOlder → ⊥) → read_at view key x.was.leaf ≡ given → LiesIn e.hub.dir.leaves x.home key
  gives-lies key given some reads = elim (lies-or-not e.hub.dir x.home key st.dir x.home_there) [
    | inl lies ↦ lies
    | inr outside ↦ let none = x.bare key outside in absurd (some (sym reads ∙ bare-older view key x.was.leaf none.0 none.1))
  ]

  silent : (key : List ℕ) → LiesIn e.hub.dir.leaves x.home key → IsSilent view key x.was.leaf → Reads key (Value None)
  silent key lies is = silent-absent w.machine session x.transaction target.table key (read_at view key x.was.leaf) is (replies key lies)

  -- the keys on the way
  abbrev within : List ℕ → Bool
  within = is_past (way_in way) (from_of a cursor target.table)

  -- those that were passed have no row
  passed-absent : (key : List ℕ) → passed (way_in way) e.hub.dir.leaves x.home within key ≡ true → Reads key (Value None)
  passed-absent key is = subst (λ (n : ℕ). passed (way_in way) e.hub.dir.leaves x.home (is_past (way_in way) (starts_at n (cursor_of w.machine session cursor))) key ≡ true → ReadAnswer w.machine session x.transaction n key (Value None)) x.number
      (x.sought x.transaction x.there key) (subst (λ (f : Option (List ℕ)). passed (way_in way) e.hub.dir.leaves x.home (is_past (way_in way) f) key ≡ true) from-is is)

  absent : (key : List ℕ) → LiesIn e.hub.dir.leaves x.home key → SilentBefore view (way_in way) (from_of a cursor target.table) key x.was.leaf → AbsentBefore Reads (way_in way) within key
  absent key lies before k past after = elim (before-parts e.hub.dir st.dir x.home x.home_there (way_in way) within k key past lies after) [
    | inl was ↦ passed-absent k was
    | inr here ↦ silent k here (before k past after)
  ]

  finds : (outcome : Outcome) → RowAnswer Reads (way_in way) (from_of a cursor target.table) outcome → NextAnswer w.machine session x.transaction cursor target.table (way_in way) outcome (row_event session cursor target.table outcome)
  finds outcome row = (subst (λ f. RowAnswer Reads (way_in way) f outcome) from-is row, refl)

  -- by a state that has the key of the row
  leads-as : (b : State) (outcome : Outcome) (answer : Answer (List ℕ)) → Keeps w.machine e.hub e.pieces session b → RowAnswer Reads (way_in way) (from_of a cursor target.table) outcome → Tells outcome answer
      → event_with session step target b.key answer ≡ row_event session cursor target.table outcome → a' ≡ answered step target answer b → Leads (with_session (with_piece e frame p') session a') w session reply.More
  leads-as b outcome answer k row tells event now = looks-lead e w session frame a a' p p' view step target leaf x st at there look is same outcome (row_event session cursor target.table outcome) answer (finds outcome row) tells
      (subst (λ c. GoesTo (Decided answer (row_event session cursor target.table outcome)) (4 + further_left step target e.hub.dir.leaves) w.machine (made_in e.hub.dir.leaves w.machine session c)) (sym now)
      (subst (λ v. GoesTo (Decided answer v) (4 + further_left step target e.hub.dir.leaves) w.machine (made_in e.hub.dir.leaves w.machine session (answered step target answer b))) event
      (answered-does e.hub.dir.leaves (4 + further_left step target e.hub.dir.leaves) (omega arith) w.machine session step target b answer)))
      (subst (SessionInPlace w.machine e.hub e.pieces session) (sym now) (answered-stands w.machine e.hub e.pieces session step target b k x.on answer))

  -- the leaf has no row on the way: the next one is to be looked at
  none-passed : NoRow view (way_in way) (from_of a cursor target.table) x.was.leaf → (t : Transaction) → transaction_of w.machine session ≡ Some t → (key : List ℕ)
      → passed_with (way_in way) e.hub.dir.leaves x.home within key ≡ true → ReadAnswer w.machine session t target.table key (Value None)
  none-passed none t t_there key is = subst (λ (u : Transaction). ReadAnswer w.machine session u target.table key (Value None)) (same_Some x.transaction t (sym x.there ∙ t_there))
      (elim (passed-parts e.hub.dir st.dir x.home x.home_there (way_in way) within key is) [
        | inl was ↦ passed-absent key was
        | inr here ↦ silent key here (none key (passed-inside e.hub.dir st.dir x.home x.home_there (way_in way) within key is))
      ])

  goes-past : NoRow view (way_in way) (from_of a cursor target.table) x.was.leaf → IsPassed w.machine e.hub.dir.leaves session step x.home
  goes-past none t t_there key is = subst (λ (n : ℕ). passed_with (way_in way) e.hub.dir.leaves x.home (is_past (way_in way) (starts_at n (cursor_of w.machine session cursor))) key ≡ true → ReadAnswer w.machine session t n key (Value None)) (sym x.number)
      (λ inside. none-passed none t t_there key (subst (λ (f : Option (List ℕ)). passed_with (way_in way) e.hub.dir.leaves x.home (is_past (way_in way) f) key ≡ true) (sym from-is) inside)) is

  past-stands : NoRow view (way_in way) (from_of a cursor target.table) x.was.leaf → SessionInPlace w.machine e.hub e.pieces session (at_stage (stage.Pass step target) a)
  past-stands none = stands-at w.machine e.hub e.pieces session (at_stage (stage.Pass step target) a)
      (record { phase = x.keeps.phase; seated = record { opened = x.keeps.seated.opened; phase = x.keeps.seated.phase }; cursors = x.keeps.cursors; noted = x.keeps.noted })
      ((x.on.0, (x.home, x.home_there, x.targeted)), goes-past none)

  passes : NoRow view (way_in way) (from_of a cursor target.table) x.was.leaf → a' ≡ at_stage (stage.Pass step target) a → Leads (with_session (with_piece e frame p') session a') w session reply.More
  passes none now = quiet-leads e w session frame a p view step target a' p' leaf x st at there is same
      (goes-placed e w session frame a p view step target (made_in e.hub.dir.leaves w.machine session a') look (inl (3 + further_left step target e.hub.dir.leaves, omega arith, ap (made_in e.hub.dir.leaves w.machine session) now)))
      (subst (SessionInPlace w.machine e.hub e.pieces session) (sym now) (past-stands none))

  step-leads : SteppedBy view (way_in way) (from_of a cursor target.table) step target x.was.leaf a a' → Leads (with_session (with_piece e frame p') session a') w session reply.More
  step-leads (inl row) = let lies = gives-lies row.0 (LeafGives row.1) (λ older. absurd cc) row.2.reads in
      leads-as (record a { key = row.0 }) (GivesRow row.0 row.1) (answers.Row row.0 row.1) (keyed w.machine e.hub e.pieces session a row.0 x.keeps)
      (row.2.past, subst (ReplyStands w.machine session x.transaction target.table row.0 []) row.2.reads (replies row.0 lies), absent row.0 lies row.2.before) refl refl row.3
  step-leads (inr (inl met)) = let lies = gives-lies met.0 (Conflicts met.1) (λ older. absurd cc) met.2.reads in
      leads-as a (Refused (refusal.PrepareConflict met.1)) (refused (refusal.PrepareConflict met.1)) x.keeps
      (met.0, met.2.past, subst (ReplyStands w.machine session x.transaction target.table met.0 []) met.2.reads (replies met.0 lies), absent met.0 lies met.2.before) refl refl met.3
  step-leads (inr (inr (inl none))) = passes none.0 none.1
  step-leads (inr (inr (inr now))) = short e w session frame a a' p p' view step target leaf x st at there look is same now

pub rows-go : HeldReadsStand → RowsGo
rows-go reads-stand e w session frame a a' p p' view st at of goes there v made = by a.stage refl of where
  by-call : (call : KeyCall) (target : Target) → a.stage ≡ stage.Look call target → StepsOn call → Leads (with_session (with_piece e frame p') session a') w session reply.More
  by-call (key_call.Step cursor way) target look steps =
      let x = at-leaf e w session frame a p view (key_call.Step cursor way) target st at look goes there v in
      let l = look-made e w session frame a p view (key_call.Step cursor way) target a' p' x look made in
      step-leads reads-stand e w session frame a a' p p' view cursor way target l.0 x st at there look l.1 l.2.0 l.2.1
  by-call call target look no_step = absurd no_step

  by : (g : Stage) → a.stage ≡ g → IsLook StepsOn g → Leads (with_session (with_piece e frame p') session a') w session reply.More
  by (stage.Look call target) look steps = by-call call target look steps
  by g look no_look = absurd no_look
