-- The look of a commit below the updates of one leaf.
use Rattle.std.proofs.Common.{◌≡◌, ◌⊎◌, ◌≤◌, ◌+◌, ℕ, zero, suc, max, refl, ap, sym, ◌∙◌, List, [], ◌∷◌, ◌++◌, length, inl, inr, subst, map, arith}
use Rattle.std.specs.Prelude.{Option, Some, drop, slice_get, ◌==◌, if◌then◌else◌}
use Rattle.std.proofs.Math.Nat.{le-max_left, le-max_right}
use Rattle.std.proofs.lemmas.Bool.{cases_Bool, cases_eq, eqb-true}
use Rattle.std.proofs.lemmas.Option.{slice_get_within}
use Rattle.item.specs.declared.Change.{Change}
use Rattle.stamp.specs.declared.Version.{Version}
use Rattle.kv_model.specs.Holds.{Member}
use Rattle.kv_model.specs.History.{Write, line}
use Rattle.kv_model.specs.Machine.{Machine, Transaction, Running as ModelRunning, Failed as ModelFailed, Leaving as ModelLeaving, Prepared as ModelPrepared, Resolving as ModelResolving, transaction_of, of_some}
use Rattle.kv_model.specs.Pending.{Update as ModelUpdate, settled, TopStands}
use Rattle.kv_model.specs.Reads.{own_write, is_own, IsEnding}
use Rattle.kv_model.specs.Refusals.{newest_durable}
use Rattle.kv_model.specs.Valid.{Valid}
use Rattle.tree_dir.specs.declared.leaf.Leaf.{Leaf}
use Rattle.txn_table.specs.SessionData.{phase_in}
use Rattle.txn_table.specs.declared.phase.Phase.{Phase}
use Rattle.txn_table.specs.declared.phase.Phase.TheVariants as phase
use Rattle.row_page.specs.Rows.{Row}
use Rattle.reconcile.specs.Shows.{shown_at}
use Rattle.update_chain.specs.declared.update.Update.{Update}
use Rattle.update_chain.specs.EventLaws.{StandsFor}
use Rattle.update_chain.specs.FrameLaws.{durable_of, OrdersStand as OrdersLaw}
use Rattle.update_chain.specs.Writing.{newest_of}
use Rattle.update_chain.proofs.Reading.{running-alive}
use Rattle.leaf_chains.specs.declared.slot.KeyChain.{KeyChain}
use Rattle.leaf_chains.specs.Slots.{chain_at, slot_of}
use Rattle.leaf_chains.proofs.Changes.{held}
use Rattle.leaf_frame.specs.Leaf.{HeldLeaf, durable_under as durable_below}
use Rattle.call_steps.specs.declared.frame.Frame.{Frame}
use Rattle.call_steps.specs.declared.frame.FramePiece.{FramePiece}
use Rattle.call_steps.specs.declared.next.Next.TheVariants as next
use Rattle.call_steps.specs.declared.reply.Reply.TheVariants as reply
use Rattle.call_steps.specs.declared.stage.CommitStamps.{CommitStamps}
use Rattle.call_steps.specs.declared.stage.Stage.{Stage}
use Rattle.call_steps.specs.declared.stage.Stage.TheVariants as stage
use Rattle.call_steps.specs.declared.written.WrittenKey.{WrittenKey}
use Rattle.call_steps.specs.FrameEvents.{FrameMadeAt, prev_in, with_prev, ordered, starts_at}
use Rattle.call_steps.specs.Leaves.{leaf_prev}
use Rattle.call_steps.specs.Stages.{orders, stamps_then, after_orders}
use Rattle.call_steps.specs.State.{State, at_stage}
use Rattle.call_steps.specs.Words.{next_at}
use Rattle.call_steps.specs.Written.{frame_at, slot_at, leaf_start}
use Rattle.engine_world.specs.Worlds.{World, Asked}
use Rattle.engine_world.specs.Doings.{doing_in, doing_at, commit_in, decide_left}
use Rattle.engine_world.specs.Laws.{Leads, IsOrder, OrdersGo, with_session, with_piece}
use Rattle.engine_world.specs.Leaves.{AreNoted, IsSlotOf, OrderedDownTo, durable_under, frame_in, slots_in}
use Rattle.engine_world.specs.Stages.{StageStands, OrdersStand, DecidesStand, IsEdited, IsOrdered, IsLeft, stamps_in}
use Rattle.engine_world.specs.Stands.{Engine, Stands}
use Rattle.engine_world.specs.Steps.{GoesOn}
use Rattle.engine_world.proofs.Events.{slots-same}
use Rattle.engine_world.proofs.Homes.{IsAt, home-at}
use Rattle.engine_world.proofs.Moves.{alone-leads, engine_with}
use Rattle.engine_world.proofs.NotedSlots.{slot-durable}
use Rattle.engine_world.proofs.OnePiece.{frame-there, set-same}
use Rattle.engine_world.proofs.EditedChains.{own-of}
use Rattle.engine_world.proofs.EditedLeaves.{got-member, leaf-framed, lies-in, some-at, start-within, start-below}
use Rattle.engine_world.proofs.EditMoves.{the-one, known-phase, alive-only, noted-of, session-on, asked-on}
use Rattle.engine_world.proofs.StampingLeaves.{decide-doing, decide-stage}
use Rattle.engine_world.proofs.InPlace.{StageInPlace}

-- ---- below the newest update

-- lies the newest version that stands
below-is : OrdersLaw → (m : Machine) (s : ℕ) (t : Transaction) (w : Write) → Valid m → transaction_of m s ≡ Some t → (IsEnding t.phase → ⊥) → own_write t w.table w.key ≡ Some w → (chain : List Update) (row : Option (Version Change))
    → StandsFor m w.table w.key chain row [] → durable_of (newest_of (drop 1 chain) row) ≡ newest_durable (line m.history w.table w.key)
below-is law m s t w valid there alive own [] row k = absurd (never k.top k.chained k.topped) where
  never : (top : List ModelUpdate) → [] ≡ top ++ map settled k.held → TopStands m w.table w.key top k.below → ⊥
  never [] e topped = alive (topped.1 s t (there, ap is_own own))
  never (y ∷ rest) e topped = absurd (cc)
below-is law m s t w valid there alive own (u ∷ older) row k = law m s t w w.table w.key u older row [] valid there alive own k

-- in the slot of a key
below-slot : (key : List ℕ) (page : List Row) (slots : List KeyChain) (i : ℕ) → slot_of key slots ≡ Some i → durable_below page (slice_get slots i) ≡ durable_of (newest_of (drop 1 (chain_at key slots)) (shown_at key page))
below-slot key page slots i at = ap (durable_below page) (held key slots i at)

-- ---- the keys of a leaf

max-cases : (a b : ℕ) → (max a b ≡ a) ⊎ (max a b ≡ b)
max-cases a b = elim (cases_eq (max a b) a) [ inl same ↦ inl same | inr other ↦ inr (omega (arith, other)) ]

-- what is below a key that was noted
record UnderIs (m : Machine) (pieces : List FramePiece) (t : Transaction) (leaf : HeldLeaf) (k : WrittenKey) : Type 0 where
  pub write : Write
  pub there : Member write t.writes
  pub below : durable_below leaf.page (slice_get leaf.chains k.slot) ≡ newest_durable (line m.history write.table write.key)
  pub under : durable_under m pieces k ≡ newest_durable (line m.history write.table write.key)

module _ (m : Machine) (t : Transaction) (pieces : List FramePiece) (leaf : HeldLeaf) (keys : List WrittenKey) (frame : ℕ) where
  ordered-one : (n prev : ℕ) (k : WrittenKey) → slice_get keys n ≡ Some k → UnderIs m pieces t leaf k → OrderedDownTo m pieces t.writes keys prev (suc n)
      → OrderedDownTo m pieces t.writes keys (max prev (durable_below leaf.page (slice_get leaf.chains k.slot))) n
  ordered-one n prev k at u o = record {
    covers = λ i x low there. elim (cases_eq i n) [
      | inl same ↦ let one : Some k ≡ Some x = sym at ∙ (ap (slice_get keys) (sym same) ∙ there) in let is : k ≡ x = cc in
          subst (λ (z : WrittenKey). durable_under m pieces z ≤ max prev (durable_below leaf.page (slice_get leaf.chains k.slot))) is
          (subst (λ d. d ≤ max prev (durable_below leaf.page (slice_get leaf.chains k.slot))) (u.below ∙ sym u.under) (le-max_right prev (durable_below leaf.page (slice_get leaf.chains k.slot))))
      | inr apart ↦ let deep = o.covers i x (omega (arith, low, apart)) there in let more = le-max_left prev (durable_below leaf.page (slice_get leaf.chains k.slot)) in omega (arith, deep, more)
    ];
    least = elim (max-cases prev (durable_below leaf.page (slice_get leaf.chains k.slot))) [
      | inl old ↦ elim o.least [ inl none ↦ inl (old ∙ none) | inr w ↦ inr (w.0, w.1, old ∙ w.2) ]
      | inr new ↦ inr (u.write, u.there, new ∙ u.below)
    ];
  }

  ordered-leaf : ((k : WrittenKey) → Member k keys → k.frame ≡ frame → UnderIs m pieces t leaf k) → (n : ℕ) → n ≤ length keys → (prev : ℕ) → OrderedDownTo m pieces t.writes keys prev n
      → OrderedDownTo m pieces t.writes keys (leaf_prev keys frame n leaf prev) (leaf_start keys frame n)
  ordered-leaf under zero within prev o = o
  ordered-leaf under (suc n) within prev o = elim (cases_Bool (frame_at keys (suc n) == frame)) [
    | inl is ↦ subst (λ b. OrderedDownTo m pieces t.writes keys (if b then leaf_prev keys frame n leaf (max prev (durable_below leaf.page (slice_get leaf.chains (slot_at keys (suc n))))) else prev) (if b then leaf_start keys frame n else suc n)) (sym is)
        (more (ordered-leaf under n (omega (arith, within))) (eqb-true (frame_at keys (suc n)) frame is))
    | inr isnt ↦ subst (λ b. OrderedDownTo m pieces t.writes keys (if b then leaf_prev keys frame n leaf (max prev (durable_below leaf.page (slice_get leaf.chains (slot_at keys (suc n))))) else prev) (if b then leaf_start keys frame n else suc n)) (sym isnt) o
  ] where
    last : (k : WrittenKey) × (slice_get keys n ≡ Some k)
    last = some-at keys n (omega (arith, within))

    more : ((p : ℕ) → OrderedDownTo m pieces t.writes keys p n → OrderedDownTo m pieces t.writes keys (leaf_prev keys frame n leaf p) (leaf_start keys frame n)) → frame_at keys (suc n) ≡ frame
        → OrderedDownTo m pieces t.writes keys (leaf_prev keys frame n leaf (max prev (durable_below leaf.page (slice_get leaf.chains (slot_at keys (suc n)))))) (leaf_start keys frame n)
    more rest is = let here : last.0.frame ≡ frame = sym (ap (of_some 0 (λ (k : WrittenKey). k.frame)) last.1) ∙ is in
        subst (λ j. OrderedDownTo m pieces t.writes keys (leaf_prev keys frame n leaf (max prev (durable_below leaf.page (slice_get leaf.chains j)))) (leaf_start keys frame n)) (sym (ap (of_some 0 (λ (k : WrittenKey). k.slot)) last.1))
        (rest (max prev (durable_below leaf.page (slice_get leaf.chains last.0.slot))) (ordered-one n prev last.0 last.1 (under last.0 (got-member keys n last.0 last.1) here) o))

-- ---- the leaf of a frame

-- the session at a leaf below whose updates is to be looked
record OrdersAt (e : Engine) (w : World) (session : ℕ) (a : State) (p : FramePiece) (stamps : CommitStamps) (left : ℕ) (t : Transaction) : Type 0 where
  pub st : Stands e w
  pub at : slice_get e.sessions session ≡ Some a
  pub same : a.stage ≡ stage.Order stamps left
  pub piece : slice_get e.pieces (frame_at a.written left) ≡ Some p
  pub some : IsLeft left a
  pub there : transaction_of w.machine session ≡ Some t

prev-ordered : OrdersLaw → (e : Engine) (w : World) (session : ℕ) (a : State) (p : FramePiece) (stamps : CommitStamps) (left : ℕ) (t : Transaction) → OrdersAt e w session a p stamps left t → (IsEnding t.phase → ⊥)
    → IsOrdered stamps w.machine e.pieces t a left
    → OrderedDownTo w.machine e.pieces t.writes a.written (prev_in p.frame a left stamps.prev) (leaf_start a.written (frame_at a.written left) left)
prev-ordered law e w session a p stamps left t o alive now = subst (λ f. OrderedDownTo w.machine e.pieces t.writes a.written (prev_in f a left stamps.prev) (leaf_start a.written (frame_at a.written left) left)) (sym framed)
    (ordered-leaf w.machine t e.pieces home.stands.laid.frame.leaf a.written (frame_at a.written left) under left o.some.1 stamps.prev now) where
      noted : AreNoted e.hub.dir.leaves e.pieces t.writes a.written
      noted = noted-of w.machine e.hub e.pieces session a t (o.st.sessions session a o.at) o.there

      last-of : (n : ℕ) → 1 ≤ n → n ≤ length a.written → (k : WrittenKey) × Member k a.written × (k.frame ≡ frame_at a.written n)
      last-of zero low within = absurd (omega (arith, low))
      last-of (suc n) low within = let k = some-at a.written n (omega (arith, within)) in (k.0, got-member a.written n k.0 k.1, sym (ap (of_some 0 (λ (x : WrittenKey). x.frame)) k.1))

      last : (k : WrittenKey) × Member k a.written × (k.frame ≡ frame_at a.written left)
      last = last-of left o.some.0 o.some.1

      wrote : (x : Write) × Member x t.writes × IsSlotOf e.hub.dir.leaves e.pieces last.0 x.table x.key
      wrote = noted.wrote last.0 last.1

      -- the leaf in the frame
      home : IsAt w.machine w.shelf w.records e.hub.dir e.pieces e.states wrote.0.table wrote.0.key (frame_at a.written left)
      home = home-at w.machine w.shelf w.records e.hub.dir e.pieces e.states wrote.0.table wrote.0.key (frame_at a.written left) o.st.dir o.st.leaves (wrote.2.home ∙ ap Some last.2)

      there : frame_in e.pieces (frame_at a.written left) ≡ Some home.stands.laid.frame
      there = leaf-framed w.machine w.shelf w.records e.hub.dir.leaves e.pieces e.states home.leaf (frame_at a.written left) home.stands home.at

      framed : p.frame ≡ Some home.stands.laid.frame
      framed = sym (frame-there e.pieces (frame_at a.written left) p o.piece) ∙ there

      in-leaf : slots_in e.pieces (frame_at a.written left) ≡ home.stands.laid.frame.leaf.chains
      in-leaf = ap (of_some [] (λ (f : Frame). f.leaf.chains)) there

      under : (k : WrittenKey) → Member k a.written → k.frame ≡ frame_at a.written left → UnderIs w.machine e.pieces t home.stands.laid.frame.leaf k
      under k member same = let x = noted.wrote k member in
          let slot : slot_of x.0.key home.stands.laid.frame.leaf.chains ≡ Some k.slot = ap (slot_of x.0.key) (sym (ap (slots_in e.pieces) same ∙ in-leaf)) ∙ x.2.slot in
          let lies = lies-in w.machine w.shelf w.records e.hub.dir e.pieces e.states home.leaf (frame_at a.written left) k x.0.table x.0.key o.st.dir o.st.leaves home.there home.stands home.at same x.2 in record {
            write = x.0;
            there = x.1;
            below = below-slot x.0.key home.stands.laid.frame.leaf.page home.stands.laid.frame.leaf.chains k.slot slot
                ∙ below-is law w.machine session t x.0 o.st.valid o.there alive (own-of w.machine session t x.0 o.st.valid o.there x.1) (chain_at x.0.key home.stands.laid.frame.leaf.chains) (shown_at x.0.key home.stands.laid.frame.leaf.page)
                (subst (λ n. StandsFor w.machine n x.0.key (chain_at x.0.key home.stands.laid.frame.leaf.chains) (shown_at x.0.key home.stands.laid.frame.leaf.page) []) (sym lies.0) (home.stands.keys x.0.key lies.1));
            under = slot-durable w.machine e.hub.dir.leaves e.pieces k x.0.table x.0.key x.2;
          }

-- ---- what the session does then, and what stands then

run-doing : (leaves : List Leaf) (stamps : CommitStamps) (n keys session : ℕ) (a : State) → a.phase ≡ phase.Running → keys ≡ length a.written
    → doing_in leaves session (at_stage (orders stamps n (stamps_then stamps keys (stage.Decide stamps))) a) ≡ Asked (commit_in stamps) (n + (length a.written + decide_left a))
run-doing leaves stamps zero keys session a running all = let sum : keys + decide_left a ≡ zero + (length a.written + decide_left a) = omega (arith, all) in decide-doing leaves stamps keys session a running ∙ ap (Asked (commit_in stamps)) sum
run-doing leaves stamps (suc n) keys session a running all = refl

run-stage : (stamps : CommitStamps) (n keys : ℕ) (m : Machine) (leaves : List Leaf) (pieces : List FramePiece) (session : ℕ) (a : State) (t : Transaction) → n ≤ length a.written → keys ≡ length a.written → transaction_of m session ≡ Some t
    → t.phase ≡ ModelRunning → IsOrdered stamps m pieces t a n
    → StageInPlace (orders stamps n (stamps_then stamps keys (stage.Decide stamps))) m leaves pieces session (at_stage (orders stamps n (stamps_then stamps keys (stage.Decide stamps))) a)
run-stage stamps zero keys m leaves pieces session a t within all there running done = decide-stage stamps keys m leaves pieces session a t (omega (arith, all)) there running done none where
  none : IsEdited (stamps_in ModelRunning stamps) m pieces t a keys
  none i k low at = let inside = slice_get_within a.written i k at in absurd (omega (arith, low, inside, all))
run-stage stamps (suc n) keys m leaves pieces session a t within all there running done =
    ((omega arith, within), (t, there, subst (λ p. OrdersStand p stamps m pieces t (at_stage (stage.Order stamps (suc n)) a) (suc n)) (sym running) done))

prepared-doing : (leaves : List Leaf) (stamps : CommitStamps) (n session : ℕ) (a : State) → (fewer : ℕ) × (fewer ≤ n + (length a.written + decide_left a)) × (doing_in leaves session (at_stage (orders stamps n (stage.Decide stamps)) a) ≡ Asked (commit_in stamps) fewer)
prepared-doing leaves stamps zero session a = (decide_left a, omega arith, refl)
prepared-doing leaves stamps (suc n) session a = (suc n + (length a.written + decide_left a), omega arith, refl)

prepared-alive : (t : Transaction) (stamp : ℕ) → t.phase ≡ ModelPrepared stamp → IsEnding t.phase → ⊥
prepared-alive t stamp prepared ending = subst IsEnding prepared ending

prepared-stage : (stamps : CommitStamps) (n stamp : ℕ) (m : Machine) (leaves : List Leaf) (pieces : List FramePiece) (session : ℕ) (a : State) (t : Transaction) → n ≤ length a.written → transaction_of m session ≡ Some t → t.phase ≡ ModelPrepared stamp
    → IsOrdered stamps m pieces t a n → StageInPlace (orders stamps n (stage.Decide stamps)) m leaves pieces session (at_stage (orders stamps n (stage.Decide stamps)) a)
prepared-stage stamps zero stamp m leaves pieces session a t within there prepared done = (
  alive-only m session t there (prepared-alive t stamp prepared),
  λ x at. subst (λ (z : Transaction). DecidesStand z.phase stamps m pieces z (at_stage (stage.Decide stamps) a)) (the-one m session t x there at)
      (subst (λ p. DecidesStand p stamps m pieces t (at_stage (stage.Decide stamps) a)) (sym prepared) done),
)
prepared-stage stamps (suc n) stamp m leaves pieces session a t within there prepared done =
    ((omega arith, within), (t, there, subst (λ p. OrdersStand p stamps m pieces t (at_stage (stage.Order stamps (suc n)) a) (suc n)) (sym prepared) done))

-- ---- the event

abbrev pub state_ordered : State → FramePiece → CommitStamps → ℕ → Phase → State
state_ordered a p stamps left ph = let with = with_prev stamps (prev_in p.frame a left stamps.prev) in at_stage (orders with (starts_at a left) (after_orders ph with (length a.written))) a

run-ordered : OrdersLaw → (e : Engine) (w : World) (session : ℕ) (a : State) (p : FramePiece) (stamps : CommitStamps) (left : ℕ) (t : Transaction) → OrdersAt e w session a p stamps left t → a.phase ≡ phase.Running → t.phase ≡ ModelRunning
    → IsOrdered stamps w.machine e.pieces t a left → Leads (engine_with e session e.hub e.pieces e.hazards (state_ordered a p stamps left phase.Running)) w session reply.More
run-ordered law e w session a p stamps left t o in-phase running now = alone-leads e w session a (state_ordered a p stamps left phase.Running) e.hazards reply.More o.st o.at
    (subst (λ d. GoesOn (w.again session) d w.machine session (record { told = reply.More; machine = w.machine; doing = doing_in e.hub.dir.leaves session (state_ordered a p stamps left phase.Running) })) (sym (ap (λ x. doing_at x e.hub.dir.leaves session a) o.same))
    (asked-on (commit_in stamps) (left + (length a.written + decide_left a)) (n + (length a.written + decide_left a)) w.machine session (doing_in e.hub.dir.leaves session (state_ordered a p stamps left phase.Running))
    (let low = start-below a.written left o.some.0 in omega (arith, low)) (run-doing e.hub.dir.leaves with n (length a.written) session a in-phase refl)))
    (session-on w.machine e.hub e.pieces e.pieces session a (orders with n (stamps_then with (length a.written) (stage.Decide with))) (slots-same e.pieces) (o.st.sessions session a o.at)
    (run-stage with n (length a.written) w.machine e.hub.dir.leaves e.pieces session a t (let low = start-within a.written (frame_at a.written left) left in let most = o.some.1 in omega (arith, low, most)) refl o.there running
    (prev-ordered law e w session a p stamps left t o (running-alive t running) now))) where
      n : ℕ
      n = leaf_start a.written (frame_at a.written left) left

      with : CommitStamps
      with = with_prev stamps (prev_in p.frame a left stamps.prev)

prepared-ordered : OrdersLaw → (e : Engine) (w : World) (session : ℕ) (a : State) (p : FramePiece) (stamps : CommitStamps) (left : ℕ) (t : Transaction) (stamp : ℕ) → OrdersAt e w session a p stamps left t → t.phase ≡ ModelPrepared stamp
    → IsOrdered stamps w.machine e.pieces t a left → Leads (engine_with e session e.hub e.pieces e.hazards (state_ordered a p stamps left (phase.Prepared stamp))) w session reply.More
prepared-ordered law e w session a p stamps left t stamp o prepared now = alone-leads e w session a (state_ordered a p stamps left (phase.Prepared stamp)) e.hazards reply.More o.st o.at
    (subst (λ d. GoesOn (w.again session) d w.machine session (record { told = reply.More; machine = w.machine; doing = doing_in e.hub.dir.leaves session (state_ordered a p stamps left (phase.Prepared stamp)) })) (sym (ap (λ x. doing_at x e.hub.dir.leaves session a) o.same))
    (asked-on (commit_in stamps) (left + (length a.written + decide_left a)) doing.0 w.machine session (doing_in e.hub.dir.leaves session (state_ordered a p stamps left (phase.Prepared stamp)))
    (let low = start-below a.written left o.some.0 in let few = doing.1 in omega (arith, low, few)) doing.2))
    (session-on w.machine e.hub e.pieces e.pieces session a (orders with n (stage.Decide with)) (slots-same e.pieces) (o.st.sessions session a o.at)
    (prepared-stage with n stamp w.machine e.hub.dir.leaves e.pieces session a t (let low = start-within a.written (frame_at a.written left) left in let most = o.some.1 in omega (arith, low, most)) o.there prepared
    (prev-ordered law e w session a p stamps left t o (prepared-alive t stamp prepared) now))) where
      n : ℕ
      n = leaf_start a.written (frame_at a.written left) left

      with : CommitStamps
      with = with_prev stamps (prev_in p.frame a left stamps.prev)

      doing : (fewer : ℕ) × (fewer ≤ leaf_start a.written (frame_at a.written left) left + (length a.written + decide_left a)) × (doing_in e.hub.dir.leaves session (state_ordered a p stamps left (phase.Prepared stamp)) ≡ Asked (commit_in stamps) fewer)
      doing = prepared-doing e.hub.dir.leaves (with_prev stamps (prev_in p.frame a left stamps.prev)) (leaf_start a.written (frame_at a.written left) left) session a

-- by the phase
ordered-in : OrdersLaw → (e : Engine) (w : World) (session : ℕ) (a : State) (p : FramePiece) (stamps : CommitStamps) (left : ℕ) (t : Transaction) → OrdersAt e w session a p stamps left t
    → OrdersStand t.phase stamps w.machine e.pieces t a left → (ph : Phase) → a.phase ≡ ph → phase_in ph ≡ Some t.phase
    → Leads (engine_with e session e.hub e.pieces e.hazards (state_ordered a p stamps left ph)) w session reply.More
ordered-in law e w session a p stamps left t o now phase.Running is known = let running : t.phase ≡ ModelRunning = cc in
    run-ordered law e w session a p stamps left t o is running (subst (λ q. OrdersStand q stamps w.machine e.pieces t a left) running now)
ordered-in law e w session a p stamps left t o now (phase.Prepared stamp) is known = let prepared : t.phase ≡ ModelPrepared stamp = cc in
    prepared-ordered law e w session a p stamps left t stamp o prepared (subst (λ q. OrdersStand q stamps w.machine e.pieces t a left) prepared now)
ordered-in law e w session a p stamps left t o now phase.Idle is known = absurd (cc)
ordered-in law e w session a p stamps left t o now phase.Failed is known = let failed : t.phase ≡ ModelFailed = cc in absurd (subst (λ q. OrdersStand q stamps w.machine e.pieces t a left) failed now)
ordered-in law e w session a p stamps left t o now phase.Leaving is known = let leaving : t.phase ≡ ModelLeaving = cc in absurd (subst (λ q. OrdersStand q stamps w.machine e.pieces t a left) leaving now)
ordered-in law e w session a p stamps left t o now phase.Resolving is known = let resolving : t.phase ≡ ModelResolving = cc in absurd (subst (λ q. OrdersStand q stamps w.machine e.pieces t a left) resolving now)

looked : OrdersLaw → (e : Engine) (w : World) (session frame : ℕ) (a a' : State) (p p' : FramePiece) (stamps : CommitStamps) (left : ℕ) → Stands e w → slice_get e.sessions session ≡ Some a → a.stage ≡ stage.Order stamps left
    → next.Frame (frame_at a.written left) ≡ next.Frame frame → slice_get e.pieces frame ≡ Some p → (p' ≡ p) × (a' ≡ ordered (with_prev stamps (prev_in p.frame a left stamps.prev)) (starts_at a left) a)
    → Leads (with_session (with_piece e frame p') session a') w session reply.More
looked law e w session frame a a' p p' stamps left st at same here piece made = by-stage (subst (λ s. StageStands s w.machine e.hub.dir.leaves e.pieces session a) same (st.sessions session a at).stage) where
  frames : frame_at a.written left ≡ frame
  frames = cc

  by-stage : StageStands (stage.Order stamps left) w.machine e.hub.dir.leaves e.pieces session a → Leads (with_session (with_piece e frame p') session a') w session reply.More
  by-stage now = subst (λ q. Leads (with_session (with_piece e frame q) session a') w session reply.More) (sym made.0)
      (subst (λ s. Leads (with_session (with_piece e frame p) session s) w session reply.More) (sym made.1)
      (subst (λ l. Leads (engine_with e session e.hub l e.hazards (state_ordered a p stamps left a.phase)) w session reply.More) (sym (set-same e.pieces frame p piece))
      (ordered-in law e w session a p stamps left now.1.0 (record {
        st = st;
        at = at;
        same = same;
        piece = subst (λ f. slice_get e.pieces f ≡ Some p) (sym frames) piece;
        some = now.0;
        there = now.1.1;
      }) now.1.2 a.phase refl (known-phase w.machine e.hub e.pieces session a now.1.0 (st.sessions session a at) now.1.1))))

pub orders-go : OrdersLaw → OrdersGo
orders-go law e w session frame a a' p p' view st at is here piece seen made = by-stage a.stage refl is here made where
  by-stage : (s : Stage) → a.stage ≡ s → IsOrder s → next_at s a ≡ next.Frame frame → FrameMadeAt s view p a p' a' → Leads (with_session (with_piece e frame p') session a') w session reply.More
  by-stage (stage.Order stamps left) same is here made = looked law e w session frame a a' p p' stamps left st at same here piece made
  by-stage _ same is here made = absurd is
