-- The look of a put or a remove.
use Rattle.std.proofs.Common.{◌≡◌, ◌≢◌, ◌⊎◌, ◌≤◌, ◌+◌, ℕ, refl, ap, sym, ◌∙◌, Bool, true, false, List, [], ◌∷◌, length, inl, inr, subst, arith}
use Rattle.std.specs.Prelude.{Option, Some, None, option_map, slice_get, slice_set, bytes_eq}
use Rattle.std.proofs.lemmas.Bool.{cases_Bool, both_ways}
use Rattle.std.proofs.lemmas.List.{get_or-set_same}
use Rattle.std.specs.List.{Contains}
use Rattle.std.proofs.lemmas.Option.{same_Some}
use Rattle.std.proofs.lemmas.Slice.Eq.{bytes_eq-Decides}
use Rattle.item.specs.declared.Change.{Change}
use Rattle.item.specs.declared.Change.TheVariants.{Put, Remove}
use Rattle.stamp.specs.declared.Version.{Version}
use Rattle.stamp.specs.declared.View.{View}
use Rattle.wt_code.specs.declared.answers.Answer.{Answer}
use Rattle.wt_code.specs.declared.answers.Answer.TheVariants as answers
use Rattle.wt_code.specs.declared.refusals.Refusal.TheVariants as refusal
use Rattle.kv_model.specs.Holds.{Member}
use Rattle.kv_model.specs.History.{Write, tables, has_table, writes_at}
use Rattle.kv_model.specs.Reads.{own_write}
use Rattle.kv_model.specs.Machine.{Machine, Transaction, Running, Failed, Prepared, Resolving, Leaving, of_some, transaction_of, name_of, changing, in_phase, written, Event, AcceptWrite, RefuseWrite, Nothing, after}
use Rattle.kv_model.specs.Allowed.{Allowed}
use Rattle.kv_model.specs.Decisions.{Outcome, Done, Refused, WriteAnswer}
use Rattle.kv_model.proofs.EveryEvent.{valid-after}
use Rattle.kv_model.proofs.Seats.{seat-inside}
use Rattle.txn_table.specs.declared.phase.Phase.{Phase as Kept}
use Rattle.txn_table.specs.declared.phase.Phase.TheVariants as phase
use Rattle.txn_table.specs.SessionData.{phase_in}
use Rattle.txn_table.proofs.Standing.{calls-stand}
use Rattle.reconcile.specs.Shows.{shown_at}
use Rattle.tree_dir.specs.declared.leaf.Leaf.{Leaf}
use Rattle.tree_dir.specs.Leaves.{leaf_under}
use Rattle.update_chain.specs.declared.update.Update.{Update}
use Rattle.update_chain.specs.Answers.{ViewStands}
use Rattle.update_chain.specs.EventLaws.{StandsFor, ChainsGoOn, InstallsStand}
use Rattle.update_chain.specs.Updates.{installed, is_led_by, is_named}
use Rattle.update_chain.specs.Writing.{WritesStand}
use Rattle.leaf_chains.specs.declared.slot.KeyChain.{KeyChain}
use Rattle.leaf_chains.specs.Slots.{chain_at, slot_of, with_update}
use Rattle.leaf_chains.proofs.Installs.{installs_change, installs_keep, installs_keep_slots}
use Rattle.leaf_frame.specs.Leaf.{HeldLeaf}
use Rattle.wt_calls.specs.declared.demand.Demand.TheVariants as demand
use Rattle.wt_calls.specs.Calls.{demand_in}
use Rattle.call_steps.specs.declared.frame.Frame.{Frame}
use Rattle.call_steps.specs.declared.frame.FramePiece.{FramePiece}
use Rattle.call_steps.specs.declared.reply.Reply.TheVariants as reply
use Rattle.call_steps.specs.declared.stage.KeyCall.{KeyCall}
use Rattle.call_steps.specs.declared.stage.KeyCall.TheVariants as key_call
use Rattle.call_steps.specs.declared.stage.Stage.{Stage}
use Rattle.call_steps.specs.declared.stage.Stage.TheVariants as stage
use Rattle.call_steps.specs.declared.stage.Target.{Target}
use Rattle.call_steps.specs.declared.written.WrittenKey.{WrittenKey}
use Rattle.call_steps.specs.FrameEvents.{with_leaf}
use Rattle.call_steps.specs.HubEvents.{known_phase}
use Rattle.call_steps.specs.Looks.{own_name, update_by, noted, refused, no_memory, conflicts, without_value, IsInstalled, FoundBy, write_found}
use Rattle.call_steps.specs.Stages.{is_write, cursor_in}
use Rattle.call_steps.specs.State.{State, clears}
use Rattle.engine_world.specs.Worlds.{World, Decided}
use Rattle.engine_world.specs.Doings.{call_in, further_left, landing}
use Rattle.engine_world.specs.Steps.{Made, GoesTo, LookAnswer, LooksOn}
use Rattle.engine_world.specs.Laws.{Leads, WritesGo, WritesKey, IsLook, with_session, with_piece}
use Rattle.engine_world.specs.Leaves.{AreNoted, IsSlotOf, frame_of, slots_in, table_at}
use Rattle.engine_world.specs.Stands.{Engine, Stands, writes_in}
use Rattle.engine_world.proofs.Beside.{SlotsStay}
use Rattle.engine_world.proofs.Events.{event-beside, all-same}
use Rattle.engine_world.proofs.Homes.{LiesIn, frame-of-leaf}
use Rattle.engine_world.proofs.HubMoves.{leaves-go-on}
use Rattle.engine_world.proofs.Moves.{leads}
use Rattle.engine_world.proofs.OnePiece.{slots_of, table_of, slots-set, slots-stay, table-there-at, brings-only, brings-others, leaves-on, table-there}
use Rattle.engine_world.proofs.Notes.{led-own, own-member, noted-on}
use Rattle.engine_world.proofs.Found.{Written, Accepted, Unmet, Conflicting, WriteCases, write-cases}
use Rattle.engine_world.proofs.Looking.{AtLeaf, at-leaf, look-made, goes-placed, pieces-same, Keeps, stands-at, clears-keep, clears-stand, clears-does, made_in, looks-lead, shorts-lead}
use Rattle.engine_world.proofs.InPlace.{SessionInPlace}

-- ---- parts

changed-there : (m : Machine) (session : ℕ) (change : Transaction → Transaction) (t : Transaction) → transaction_of m session ≡ Some t → transaction_of (changing m session change) session ≡ Some (change t)
changed-there m session change t there = get_or-set_same m.sessions session (option_map change (transaction_of m session)) None (seat-inside m.sessions session t there) ∙ ap (option_map change) there

running-of : (kept : Kept) → phase_in kept ≡ Some Running → kept ≡ phase.Running
running-of phase.Idle is = absurd (cc)
running-of phase.Running is = refl
running-of phase.Failed is = let e : Failed ≡ Running = cc in absurd (cc)
running-of (phase.Prepared stamp) is = let e : Prepared stamp ≡ Running = cc in absurd (cc)
running-of phase.Resolving is = let e : Resolving ≡ Running = cc in absurd (cc)
running-of phase.Leaving is = let e : Leaving ≡ Running = cc in absurd (cc)

keys-part : (x y : List ℕ) → (x ≡ y) ⊎ (x ≢ y)
keys-part x y = elim (cases_Bool (bytes_eq x y)) [
  | inl is ↦ inl ((bytes_eq-Decides x y).0 is)
  | inr isnt ↦ inr (λ e. both_ways (bytes_eq x y) isnt ((bytes_eq-Decides x y).1 e))
]

own-is : (m : Machine) (t : Transaction) (view : View) → ViewStands m t view → own_name view ≡ name_of m t
own-is m t view v = λ i. record { run = v.sees.run i; id = v.own i }

-- an update of a chain with one installed was there, or is the one
member-installed : (u v : Update) (chain : List Update) → Member v (installed u chain) → (v ≡ u) ⊎ Member v chain
member-installed u v [] (inl is) = inl is
member-installed u v [] (inr none) = absurd none
member-installed u v (x ∷ older) there = elim (cases_Bool (is_named u.version.window.name x)) [
  | inl mine ↦ elim (rw mine at there) [ inl is ↦ inl is | inr deep ↦ inr (inr deep) ]
  | inr other ↦ elim (rw other at there) [ inl is ↦ inl is | inr deep ↦ inr deep ]
]

-- the same of the chains of a leaf
member-with : (key other : List ℕ) (u v : Update) (slots : List KeyChain) → Member v (chain_at other (with_update key u slots)) → (v ≡ u) ⊎ Member v (chain_at other slots)
member-with key other u v slots there = elim (keys-part other key) [
  | inl same ↦ member-installed u v (chain_at other slots) (subst (Member v) (ap (λ k. chain_at k (with_update key u slots)) same ∙ (installs_change key u slots ∙ ap (λ k. installed u (chain_at k slots)) (sym same))) there)
  | inr apart ↦ inr (subst (Member v) (installs_keep key other u slots apart) there)
]

-- ---- a write

pub record IsWrite (m : Machine) (session : ℕ) (t : Transaction) (a : State) (x : Written) : Type 0 where
  pub none : cursor_in x.call ≡ None
  pub draws : is_write x.call ≡ true
  pub finds : (outcome : Outcome) (event : Event) → WriteAnswer m session t x.target.table x.before.key x.change (demand_in x.asked) outcome event → LookAnswer (call_in x.call a) m session t x.target.table outcome event
  pub goes : (left : ℕ) (answer : Answer (List ℕ)) (event : Event) (made : Made) → GoesTo (Decided answer Nothing) left (after m event) made → LooksOn (call_in x.call a) m answer event left made

module _ (e : Engine) (w : World) (session frame : ℕ) (a : State) (p p' : FramePiece) (x : Written) (l : AtLeaf e w session frame a p x.view x.call x.target) (writes : IsWrite w.machine session l.transaction a x)
    (lies : LiesIn e.hub.dir.leaves l.home x.before.key) (k : Keeps w.machine e.hub e.pieces session x.before) (st : Stands e w) (at : slice_get e.sessions session ≡ Some a) (there : slice_get e.pieces frame ≡ Some p) (look : a.stage ≡ stage.Look x.call x.target)
    (is : p' ≡ record p { frame = Some (with_leaf x.leaf_after l.was) }) (from : x.leaf ≡ l.was.leaf) where
  abbrev left : ℕ
  left = 4 + further_left x.call x.target e.hub.dir.leaves

  enough : 3 ≤ 4 + further_left x.call x.target e.hub.dir.leaves
  enough = omega arith

  abbrev Led : Type 0
  Led = Leads (with_session (with_piece e frame p') session x.later) w session reply.More

  decided-does : (next : Machine) (b : State) (answer : Answer (List ℕ)) → x.later ≡ clears x.call x.target answer b → GoesTo (Decided answer Nothing) left next (made_in e.hub.dir.leaves next session x.later)
  decided-does next b answer now = subst (λ c. GoesTo (Decided answer Nothing) left next (made_in e.hub.dir.leaves next session c)) (sym now)
      (subst (λ v. GoesTo (Decided answer v) left next (made_in e.hub.dir.leaves next session (clears x.call x.target answer b))) (ap (λ o. of_some Nothing (λ cursor. landing session cursor x.target b.key answer) o) writes.none)
      (clears-does e.hub.dir.leaves left enough next session x.call x.target b answer))

  cleared : (answer : Answer (List ℕ)) → x.later ≡ clears x.call x.target answer x.before → SessionInPlace w.machine e.hub e.pieces session x.later
  cleared answer now = subst (SessionInPlace w.machine e.hub e.pieces session) (sym now) (clears-stand w.machine e.hub e.pieces session x.call x.target x.before k l.on answer)

  -- memory was too short
  short-leads : x.leaf_after ≡ x.leaf → x.later ≡ clears x.call x.target no_memory x.before → Led
  short-leads same now = shorts-lead e w session frame a x.later p p' x.view x.call x.target x.leaf_after l st at there look is (same ∙ from) (decided-does w.machine x.before no_memory now) (cleared no_memory now)

  -- the key is not as the write asks
  unmet-leads : Unmet w.machine session l.transaction x.before.key x → Led
  unmet-leads u = looks-lead e w session frame a x.later p p' x.view x.call x.target x.leaf_after l st at there look is (u.same ∙ from) (Refused u.refusal) Nothing (refused u.refusal)
      (writes.finds (Refused u.refusal) Nothing u.answers) refl (writes.goes left (refused u.refusal) Nothing (made_in e.hub.dir.leaves w.machine session x.later) (decided-does w.machine x.before (refused u.refusal) u.now)) (cleared (refused u.refusal) u.now)

  -- ---- a conflict

  -- the transaction can be rolled back, no more
  conflict-leads : ChainsGoOn → Conflicting w.machine session l.transaction x.before.key x → Led
  conflict-leads chains-go c = subst (λ z. Leads (with_session (record e { pieces = z }) session x.later) w session reply.More) (sym (pieces-same e w session frame a p x.view x.call x.target p' x.leaf_after l there is (c.same ∙ from)))
      (leads e w session a x.later e.hub e.pieces e.hazards next reply.More st at (goes-placed e w session frame a p x.view x.call x.target (made_in e.hub.dir.leaves next session x.later) look (inr (inl (record {
        transaction = l.transaction;
        outcome = Refused (refusal.Rollback c.other.run c.other.id);
        event = event;
        answer = answer;
        there = l.there;
        finds = writes.finds (Refused (refusal.Rollback c.other.run c.other.id)) event (c.must_not, refl);
        tells = refl;
        goes = writes.goes left answer event (made_in e.hub.dir.leaves next session x.later) (decided-does next failed answer c.now);
      })))) (record {
        valid = valid-after w.machine event st.valid may;
        beside = all-same session w.machine next e.hub e.pieces (event-beside session w.machine event st.valid may refl);
        fault = refl;
        stamps = refl;
        txns = (calls-stand e.hub.txns w.machine st.valid st.txns).others event tt may;
        made = refl;
        leaves = leaves-go-on chains-go w.machine event w.shelf w.records e.hub.dir.leaves e.pieces e.states st.valid may (λ table key. tt) st.leaves;
        mine = subst (SessionInPlace next e.hub e.pieces session) (sym c.now) mine;
      })) where
        event : Event
        event = RefuseWrite session

        next : Machine
        next = after w.machine event

        answer : Answer (List ℕ)
        answer = refused (refusal.Rollback c.other.run c.other.id)

        failed : State
        failed = record x.before { phase = phase.Failed }

        may : Allowed w.machine event
        may = (l.transaction, l.there, l.running)

        now : transaction_of next session ≡ Some (in_phase Failed l.transaction)
        now = changed-there w.machine session (in_phase Failed) l.transaction l.there

        running : x.before.phase ≡ phase.Running
        running = running-of x.before.phase (k.phase ∙ (ap (option_map (λ (t : Transaction). t.phase)) l.there ∙ ap Some l.running))

        writes-same : writes_in w.machine session ≡ writes_in next session
        writes-same = ap (λ o. of_some [] (λ (t : Transaction). t.writes) o) l.there ∙ sym (ap (λ o. of_some [] (λ (t : Transaction). t.writes) o) now)

        keeps-failed : Keeps next e.hub e.pieces session failed
        keeps-failed = record {
          phase = sym (ap (option_map (λ (t : Transaction). t.phase)) now);
          seated = record { opened = k.seated.opened; phase = k.seated.phase ∙ ap known_phase running };
          cursors = k.cursors;
          noted = subst (λ o. AreNoted e.hub.dir.leaves e.pieces o x.before.written) writes-same k.noted;
        }

        mine : SessionInPlace next e.hub e.pieces session (conflicts x.call x.target c.other x.before)
        mine = stands-at next e.hub e.pieces session (conflicts x.call x.target c.other x.before) (clears-keep next e.hub e.pieces session x.call x.target answer failed keeps-failed)
            (in_phase Failed l.transaction, now, inr (refl, writes.none))

  -- ---- an accepted write

  accept-leads : ChainsGoOn → InstallsStand → Accepted w.machine session l.transaction x.before.key (chain_at x.before.key l.was.leaf.chains) x → Led
  accept-leads chains-go installs-stand c = elim c.made [
    | inl made ↦ install made.0 made.1 made.2
    | inr short ↦ short-leads short.0 short.1
  ] where
    event : Event
    event = AcceptWrite session x.target.table x.before.key x.change

    next : Machine
    next = after w.machine event

    pieces : List FramePiece
    pieces = slice_set e.pieces frame p'

    u : Update
    u = update_by (own_name x.view) x.change

    -- the table of the leaf is there
    has : has_table (tables w.machine.history) x.target.table ≡ true
    has = let owner = st.owned l.home l.home_there in
        subst (λ n. has_table (tables w.machine.history) n ≡ true) (sym owner.3 ∙ l.number) (table-there w.machine e.hub.tables.tables owner.0 owner.1 st.made owner.2)

    named : own_name x.view ≡ name_of w.machine l.transaction
    named = own-is w.machine l.transaction x.view l.sees

    may : Allowed w.machine event
    may = (l.transaction, l.there, (l.running, l.drawn writes.draws, c.may, has))

    now : transaction_of next session ≡ Some (written x.target.table x.before.key x.change l.transaction)
    now = changed-there w.machine session (written x.target.table x.before.key x.change) l.transaction l.there

    install : (middle : State) → IsInstalled (own_name x.view) x.target.frame x.change (is_led_by (own_name x.view) (chain_at x.before.key x.leaf.chains)) x.leaf x.before x.leaf_after middle → x.later ≡ clears x.call x.target answers.Done middle → Led
    install middle i later = leads e w session a x.later e.hub pieces e.hazards next reply.More st at (goes-placed e w session frame a p x.view x.call x.target (made_in e.hub.dir.leaves next session x.later) look (inr (inl (record {
      transaction = l.transaction;
      outcome = Done;
      event = event;
      answer = answers.Done;
      there = l.there;
      finds = writes.finds Done event (c.may, c.met, refl);
      tells = refl;
      goes = writes.goes left answers.Done event (made_in e.hub.dir.leaves next session x.later) (decided-does next middle answers.Done later);
    })))) (record {
      valid = valid-after w.machine event st.valid may;
      beside = record {
        machine = event-beside session w.machine event st.valid may refl;
        tables = refl;
        dir = refl;
        seats = refl;
        phases = λ r other. refl;
        slots = stays;
        updates = brings-others w.machine session l.transaction e.pieces pieces st.valid l.there (brings-only e.pieces frame p p' there (name_of w.machine l.transaction) brings);
      };
      fault = refl;
      stamps = refl;
      txns = (calls-stand e.hub.txns w.machine st.valid st.txns).others event tt may;
      made = refl;
      leaves = leaves-on e.pieces frame p p' there aged w.machine next w.shelf w.records e.states e.hub.dir l.home (with_leaf x.leaf_after l.was) st.dir st.leaves l.home_there l.laid l.laid_at (record {
        is = ap (λ (q : FramePiece). q.frame) is;
        table = l.table;
        id = l.id;
        keys = here;
        bare = outside;
        lies = subst (λ (h : HeldLeaf). 1 ≤ length h.page → h.page ≡ w.shelf l.home.id) (sym whole) l.lies;
      }) elsewhere;
      mine = subst (SessionInPlace next e.hub pieces session) (sym later) mine;
    }) where
      chains : slots_of p ≡ l.was.leaf.chains
      chains = ap (λ o. of_some [] (λ (f : Frame). f.leaf.chains) o) l.held

      whole : x.leaf_after ≡ record l.was.leaf { chains = with_update x.before.key u l.was.leaf.chains }
      whole = i.leaf_is ∙ ap (λ (h : HeldLeaf). record h { chains = with_update x.before.key u h.chains }) from

      after_is : x.leaf_after.chains ≡ with_update x.before.key u l.was.leaf.chains
      after_is = ap (λ (h : HeldLeaf). h.chains) whole

      chains_after : slots_of p' ≡ x.leaf_after.chains
      chains_after = ap slots_of is

      aged : p'.generation ≡ p.generation
      aged = ap (λ (q : FramePiece). q.generation) is

      stays : SlotsStay e.pieces pieces
      stays = slots-stay e.pieces frame p p' there aged (ap table_of is ∙ sym (ap (of_some 0 (λ (f : Frame). f.table)) l.held)) (λ key j from. ap (slot_of key) (chains_after ∙ after_is) ∙ installs_keep_slots x.before.key key u l.was.leaf.chains j (ap (slot_of key) (sym chains) ∙ from))

      brings : (key : List ℕ) (v : Update) → Member v (chain_at key (slots_of p')) → v.version.window.name ≢ name_of w.machine l.transaction → Member v (chain_at key (slots_of p))
      brings key v member other = elim (member-with x.before.key key u v l.was.leaf.chains (subst (λ z. Member v (chain_at key z)) (chains_after ∙ after_is) member)) [
        | inl one ↦ absurd (other (ap (λ (z : Update). z.version.window.name) one ∙ named))
        | inr old ↦ subst (λ z. Member v (chain_at key z)) (sym chains) old
      ]

      -- the key that was written, and the others of its table
      at-key : (key : List ℕ) → LiesIn e.hub.dir.leaves l.home key → StandsFor next x.target.table key (chain_at key (with_update x.before.key u l.was.leaf.chains)) (shown_at key l.was.leaf.page) []
      at-key key inside = elim (keys-part key x.before.key) [
        | inl same ↦ subst (λ z. StandsFor next x.target.table z (chain_at z (with_update x.before.key u l.was.leaf.chains)) (shown_at z l.was.leaf.page) []) (sym same) own
        | inr apart ↦ subst (λ z. StandsFor next x.target.table key z (shown_at key l.was.leaf.page) []) (sym (installs_keep x.before.key key u l.was.leaf.chains apart))
            (chains-go w.machine event x.target.table key (chain_at key l.was.leaf.chains) (shown_at key l.was.leaf.page) [] st.valid may (λ same_table same_key. apart (sym same_key)) (l.keys key inside))
      ] where
        own : StandsFor next x.target.table x.before.key (chain_at x.before.key (with_update x.before.key u l.was.leaf.chains)) (shown_at x.before.key l.was.leaf.page) []
        own = subst (λ z. StandsFor next x.target.table x.before.key z (shown_at x.before.key l.was.leaf.page) []) (sym (installs_change x.before.key u l.was.leaf.chains))
            (installs-stand w.machine session l.transaction x.view x.target.table x.before.key u (chain_at x.before.key l.was.leaf.chains) (shown_at x.before.key l.was.leaf.page) [] st.valid l.there may l.sees c.follows named (l.keys x.before.key lies))

      here : (key : List ℕ) → LiesIn e.hub.dir.leaves l.home key → StandsFor next l.home.table key (chain_at key x.leaf_after.chains) (shown_at key x.leaf_after.page) []
      here key inside = subst (λ n. StandsFor next n key (chain_at key x.leaf_after.chains) (shown_at key x.leaf_after.page) []) (sym l.number)
          (subst (λ (h : HeldLeaf). StandsFor next x.target.table key (chain_at key h.chains) (shown_at key h.page) []) (sym whole) (at-key key inside))

      -- a key that does not lie in the leaf is not the one that was written
      outside : (key : List ℕ) → (LiesIn e.hub.dir.leaves l.home key → ⊥) → (chain_at key x.leaf_after.chains ≡ []) × (shown_at key x.leaf_after.page ≡ None)
      outside key none = let old = l.bare key none in (
        ap (chain_at key) after_is ∙ (installs_keep x.before.key key u l.was.leaf.chains (λ same. none (subst (LiesIn e.hub.dir.leaves l.home) (sym same) lies)) ∙ old.0),
        ap (λ (h : HeldLeaf). shown_at key h.page) whole ∙ old.1,
      )

      elsewhere : (n : Leaf) → Contains e.hub.dir.leaves n → n ≢ l.home → (key : List ℕ) (chain : List Update) (row : Option (Version Change)) (kept : List (Version Change)) → LiesIn e.hub.dir.leaves n key → StandsFor w.machine n.table key chain row kept → StandsFor next n.table key chain row kept
      elsewhere n there_n other key chain row kept inside stands = chains-go w.machine event n.table key chain row kept st.valid may
          (λ same_table same_key. other (same_Some n l.home (sym inside ∙ (ap (λ t. leaf_under t key e.hub.dir.leaves) (sym same_table ∙ sym l.number)
          ∙ (ap (λ k. leaf_under l.home.table k e.hub.dir.leaves) (sym same_key) ∙ lies))))) stands

      slot : WrittenKey
      slot = record { frame = x.target.frame; slot = i.slot }

      mine : SessionInPlace next e.hub pieces session (clears x.call x.target answers.Done middle)
      mine = stands-at next e.hub pieces session (clears x.call x.target answers.Done middle)
          (clears-keep next e.hub pieces session x.call x.target answers.Done middle (subst (Keeps next e.hub pieces session) (sym i.state) (keeps-noted led refl)))
          (written x.target.table x.before.key x.change l.transaction, now, inl l.running) where
            led : Bool
            led = is_led_by (own_name x.view) (chain_at x.before.key x.leaf.chains)

            -- who led the chain had written the key
            wrote : led ≡ true → (o : Write) × Member o l.transaction.writes × (writes_at x.target.table x.before.key o ≡ true)
            wrote on = (own.0, member.0, member.1) where
              own : (o : Write) × (own_write l.transaction x.target.table x.before.key ≡ Some o)
              own = led-own w.machine session l.transaction x.target.table x.before.key (chain_at x.before.key l.was.leaf.chains) (shown_at x.before.key l.was.leaf.page) st.valid l.there l.running (l.drawn writes.draws) (l.keys x.before.key lies)
                  (ap (λ n. is_led_by n (chain_at x.before.key l.was.leaf.chains)) (sym named) ∙ (ap (λ (h : HeldLeaf). is_led_by (own_name x.view) (chain_at x.before.key h.chains)) (sym from) ∙ on))

              member : Member own.0 l.transaction.writes × (writes_at x.target.table x.before.key own.0 ≡ true)
              member = own-member l.transaction x.target.table x.before.key own.0 own.1

            slot-is : IsSlotOf e.hub.dir.leaves pieces slot x.target.table x.before.key
            slot-is = record {
              home = ap (λ n. frame_of e.hub.dir.leaves n x.before.key) (sym l.number)
                  ∙ (frame-of-leaf e.hub.dir.leaves e.pieces e.states l.home x.before.key l.laid lies ∙ ap Some (l.laid_at ∙ sym l.place));
              number = stays.tables x.target.frame ∙ (ap (table_at e.pieces) l.place ∙ (table-there-at e.pieces frame p there ∙ (ap (of_some 0 (λ (f : Frame). f.table)) l.held ∙ (l.table ∙ l.number))));
              slot = ap (slot_of x.before.key) (ap (slots_in pieces) l.place ∙ (slots-set e.pieces frame p p' there ∙ chains_after)) ∙ i.there;
            }

            notes : (b : Bool) → led ≡ b → AreNoted e.hub.dir.leaves pieces (writes_in next session) (noted b slot x.before).written
            notes b on = subst (λ o. AreNoted e.hub.dir.leaves pieces o (noted b slot x.before).written) (sym (ap (λ o. of_some [] (λ (t : Transaction). t.writes) o) now))
                (noted-on e.hub.dir.leaves e.pieces pieces x.target.table x.before.key x.change l.transaction.writes x.before slot stays
                (subst (λ o. AreNoted e.hub.dir.leaves e.pieces o x.before.written) (ap (λ o. of_some [] (λ (t : Transaction). t.writes) o) l.there) k.noted) slot-is b (λ yes_led. wrote (on ∙ yes_led)))

            phase-is : phase_in x.before.phase ≡ option_map (λ (t : Transaction). t.phase) (transaction_of next session)
            phase-is = k.phase ∙ (ap (option_map (λ (t : Transaction). t.phase)) l.there ∙ sym (ap (option_map (λ (t : Transaction). t.phase)) now))

            keeps-noted : (b : Bool) → led ≡ b → Keeps next e.hub pieces session (noted b slot x.before)
            keeps-noted true on = record { phase = phase-is; seated = record { opened = k.seated.opened; phase = k.seated.phase }; cursors = k.cursors; noted = notes true on }
            keeps-noted false on = record { phase = phase-is; seated = record { opened = k.seated.opened; phase = k.seated.phase }; cursors = k.cursors; noted = notes false on }

  -- ---- any write

  write-leads : ChainsGoOn → InstallsStand → WritesStand
      → FoundBy (write_found x.view x.asked (chain_at x.before.key x.leaf.chains) (shown_at x.before.key x.leaf.page)) (own_name x.view) x.call x.target x.change x.leaf x.before x.leaf_after x.later → Led
  write-leads chains-go installs-stand writes-stand made = elim cases [
    | inl free ↦ accept-leads chains-go installs-stand free
    | inr other ↦ elim other [ inl unmet ↦ unmet-leads unmet | inr conflict ↦ conflict-leads chains-go conflict ]
  ] where
    cases : WriteCases w.machine session l.transaction x.before.key (chain_at x.before.key l.was.leaf.chains) x
    cases = write-cases w.machine session l.transaction x.before.key x writes-stand (chain_at x.before.key l.was.leaf.chains) (shown_at x.before.key l.was.leaf.page) st.valid l.there l.running l.sees (l.keys x.before.key lies)
        (subst (λ (h : HeldLeaf). FoundBy (write_found x.view x.asked (chain_at x.before.key h.chains) (shown_at x.before.key h.page)) (own_name x.view) x.call x.target x.change x.leaf x.before x.leaf_after x.later) from made)

pub writes-go : ChainsGoOn → InstallsStand → WritesStand → WritesGo
writes-go chains-go installs-stand writes-stand e w session frame a a' p p' view st at of goes there v made = by a.stage refl of where
  by-call : (call : KeyCall) (target : Target) → a.stage ≡ stage.Look call target → WritesKey call → Leads (with_session (with_piece e frame p') session a') w session reply.More
  by-call (key_call.Put asked) target look writes =
      let l = at-leaf e w session frame a p view (key_call.Put asked) target st at look goes there v in
      let m = look-made e w session frame a p view (key_call.Put asked) target a' p' l look made in
      let x : Written = record { view = view; call = key_call.Put asked; target = target; asked = asked; change = Put a.value; leaf = l.was.leaf; before = without_value a; leaf_after = m.0; later = a' } in
      let k : Keeps w.machine e.hub e.pieces session (without_value a) = record { phase = l.keeps.phase; seated = record { opened = l.keeps.seated.opened; phase = l.keeps.seated.phase }; cursors = l.keeps.cursors; noted = l.keeps.noted } in
      write-leads e w session frame a p p' x l (record { none = refl; draws = refl; finds = λ outcome event f. f; goes = λ left answer event made g. g }) l.sought k st at there look m.1 refl chains-go installs-stand writes-stand m.2
  by-call key_call.Remove target look writes =
      let l = at-leaf e w session frame a p view key_call.Remove target st at look goes there v in
      let m = look-made e w session frame a p view key_call.Remove target a' p' l look made in
      let x : Written = record { view = view; call = key_call.Remove; target = target; asked = demand.Occupied; change = Remove; leaf = l.was.leaf; before = a; leaf_after = m.0; later = a' } in
      write-leads e w session frame a p p' x l (record { none = refl; draws = refl; finds = λ outcome event f. f; goes = λ left answer event made g. g }) l.sought l.keeps st at there look m.1 refl chains-go installs-stand writes-stand m.2
  by-call call target look no_write = absurd no_write

  by : (g : Stage) → a.stage ≡ g → IsLook WritesKey g → Leads (with_session (with_piece e frame p') session a') w session reply.More
  by (stage.Look call target) look writes = by-call call target look writes
  by g look no_look = absurd no_look
