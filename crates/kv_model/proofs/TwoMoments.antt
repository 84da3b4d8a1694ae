-- What a reader admits of a key stays while others' events come, so that a read may look in the frame and later in the history.
use Rattle.std.proofs.Common.{◌≡◌, ◌≢◌, ◌⊎◌, ◌≤◌, ℕ, refl, ap, sym, ◌∙◌, Bool, true, false, ◌&&◌, List, [], ◌∷◌, ◌++◌, length, inl, inr, subst, map}
use Rattle.std.specs.Prelude.{Option, Some, None, find, filter, option_and_then}
use Rattle.std.specs.Option.{option_to_list}
use Rattle.std.proofs.lemmas.Bool.{both_ways, and_left}
use Rattle.item.specs.declared.Change.{Change}
use Rattle.stamp.specs.declared.Name.{Name}
use Rattle.stamp.specs.declared.Version.{Version}
use Rattle.kv_model.specs.Holds.{Member, Descends, IsOrder}
use Rattle.kv_model.specs.Ordered.{Older}
use Rattle.kv_model.specs.History.{Entry, Write, line, version_of, writes_at, admits, released, reads_at, put_of}
use Rattle.kv_model.specs.Machine.{Machine, Transaction, Phase, Running, Failed, Prepared, Resolving, Leaving, Event, RollbackToStable, transaction_of, name_of, after, stamped}
use Rattle.kv_model.specs.Reads.{own_write, is_own, Meets, IsEnding, PreparedAt, prepared_in}
use Rattle.kv_model.specs.Allowed.{Allowed, CommitsAt}
use Rattle.kv_model.specs.Valid.{Valid, PhaseStands}
use Rattle.kv_model.specs.Pending.{Update, MarkStands, BelowStands, TopStands, InFrame}
use Rattle.kv_model.specs.Closing.{after_all}
use Rattle.kv_model.specs.DecisionLaws.{EachMayCome}
use Rattle.kv_model.specs.Elsewhere.{IsOfOthers, AllOfOthers}
use Rattle.kv_model.specs.Passing.{Passes}
use Rattle.kv_model.specs.PassingLaws.{LinesGrow, PinsBegin, PinsGoOn, ReadsInTwoMoments}
use Rattle.kv_model.specs.StoreLaws.{Held, or_else}
use Rattle.kv_model.proofs.Newest.{find-member, find-none, find-newest}
use Rattle.kv_model.proofs.Releases.{false-from, unreleased, released-later}
use Rattle.kv_model.proofs.Prepares.{prepared-released, prepared-later, unreleased-at, unmet-unread}
use Rattle.kv_model.proofs.Ordering.{line-descends}
use Rattle.kv_model.proofs.Droppables.{line-stamps, version-from}
use Rattle.kv_model.proofs.OwnWrites.{member-stamped, stamped-own}
use Rattle.kv_model.proofs.Capturing.{member-out}
use Rattle.kv_model.proofs.Finishing.{member-append, older-order}
use Rattle.kv_model.proofs.EveryEvent.{valid-after}
use Rattle.kv_model.proofs.Onward.{session-was, session-stays, run-after, history-grew}
use Rattle.kv_model.proofs.ReconciledKeys.{frame-list, list-frame, stores-alike, line-top}
use Rattle.kv_model.proofs.StoreLists.{stores-answer}

-- ---- one event

-- no version that the reader admits comes to the line, and none of it goes
record Alike (t : Transaction) (table : ℕ) (key : List ℕ) (history next : List Entry) : Type 0 where
  into : (v : Version Change) → Member v (line next table key) → admits next t.start t.read v ≡ true → Member v (line history table key)
  out : (v : Version Change) → Member v (line history table key) → Member v (line next table key)
  same : (v : Version Change) → admits next t.start t.read v ≡ admits history t.start t.read v

alike-self : (t : Transaction) (table : ℕ) (key : List ℕ) (history : List Entry) → Alike t table key history history
alike-self t table key history = record { into = λ v at is. at; out = λ v at. at; same = λ v. refl }

alike-trans : (t : Transaction) (table : ℕ) (key : List ℕ) (a b c : List Entry) → Alike t table key a b → Alike t table key b c → Alike t table key a c
alike-trans t table key a b c one two = record {
  into = λ v at is. one.into v (two.into v at is) (sym (two.same v) ∙ is);
  out = λ v at. two.out v (one.out v at);
  same = λ v. two.same v ∙ one.same v;
}

-- an entry that changes nothing later changes nothing of what is admitted
admits-later : (entry : Entry) (history : List Entry) (t : Transaction) (v : Version Change) → t.start ≤ length history → admits (entry ∷ history) t.start t.read v ≡ admits history t.start t.read v
admits-later entry history t v le = ap (λ b. b && reads_at t.read v.window.commit) (released-later entry history t.start v.window.name le)

module _ (m : Machine) (event : Event) (s : ℕ) (t : Transaction) (table : ℕ) (key : List ℕ) (valid : Valid m) (may : Allowed m event) (others : IsOfOthers s event) (there : transaction_of m s ≡ Some t) where
  low : t.start ≤ length m.history
  low = (valid.sessions.each s t there).start

  no-rollback : event ≡ RollbackToStable → ⊥
  no-rollback is = let gone = (subst (Allowed m) is may).0 s in absurd (cc)

  -- the commit of another's transaction is not admitted, if it is not met
  unread-commit : (r commit durable : ℕ) (x : Transaction) → transaction_of m r ≡ Some x → r ≢ s → CommitsAt x.phase commit durable → is_own (own_write x table key) ≡ true
      → ((other : ℕ) (y : Transaction) → Meets m s t table key other y → IsEnding y.phase) → (w : Write) → Member w x.writes
      → (released m.history t.start (name_of m x) && reads_at t.read commit) ≡ false
  unread-commit r commit durable x at another fits own ending w of = by-phase x.phase fits (λ met. ending r x met) (valid.sessions.each r x at).phase where
    by-phase : (p : Phase) → CommitsAt p commit durable → (Meets m s t table key r x → IsEnding p) → PhaseStands p m.history (name_of m x) x → (released m.history t.start (name_of m x) && reads_at t.read commit) ≡ false
    by-phase Running fits ends stands = and_left (released m.history t.start (name_of m x)) (reads_at t.read commit) (unreleased-at m.history t.start (name_of m x) stands)
    by-phase (Prepared p) fits ends stands = unmet-unread m.history t.start t.read p commit (name_of m x) (stands.prepared w of)
        (false-from (prepared_in m.history t.start t.read (name_of m x)) (λ met. ends (record { another = another; writer = (at, own); before = met }))) fits.0
    by-phase Failed fits ends stands = absurd fits
    by-phase Resolving fits ends stands = absurd fits
    by-phase Leaving fits ends stands = absurd fits

  alike-step : ((other : ℕ) (y : Transaction) → Meets m s t table key other y → IsEnding y.phase) → Alike t table key m.history (after m event).history
  alike-step ending = elim (history-grew m event valid may) [
    | inl same ↦ subst (λ h. Alike t table key m.history h) (sym same) (alike-self t table key m.history)
    | inr more ↦ elim more [
      | inl q ↦ subst (λ h. Alike t table key m.history h) (sym q.is) (record {
        into = λ v at is. subst (λ l. Member v l) (q.lines table key) at;
        out = λ v at. subst (λ l. Member v l) (sym (q.lines table key)) at;
        same = λ v. admits-later q.entry m.history t v low;
      })
      | inr rest ↦ elim rest [
        | inl c ↦ subst (λ h. Alike t table key m.history h) (sym c.is) (record {
          into = λ v at is. elim (member-append v (map (version_of (name_of m c.transaction)) (filter (writes_at table key) (stamped c.commit c.durable c.transaction.writes))) (line m.history table key) (subst (λ l. Member v l) (c.lines table key) at)) [
            | inl new ↦
                let w = version-from (name_of m c.transaction) (filter (writes_at table key) (stamped c.commit c.durable c.transaction.writes)) v new in
                let at_key = member-out (writes_at table key) (stamped c.commit c.durable c.transaction.writes) w.0 w.1 in
                let o = member-stamped c.commit c.durable c.transaction.writes w.0 at_key.0 in
                let own = stamped-own c.commit c.durable table key c.transaction.writes ((valid.sessions.each c.session c.transaction c.there).single table key) w.0 w.1 in
                let unread = unread-commit c.session c.commit c.durable c.transaction c.there (subst (IsOfOthers s) c.by others) c.may own ending o.0 o.1 in
                let not_seen : admits m.history t.start t.read v ≡ false = subst (λ (z : Version Change). admits m.history t.start t.read z ≡ false) (sym (w.2 ∙ ap (version_of (name_of m c.transaction)) o.2)) unread in
                absurd (both_ways (admits m.history t.start t.read v) not_seen (sym (admits-later c.entry m.history t v low) ∙ is))
            | inr old ↦ old
          ];
          out = λ v at. subst (λ l. Member v l) (sym (c.lines table key)) (after-more v (map (version_of (name_of m c.transaction)) (filter (writes_at table key) (stamped c.commit c.durable c.transaction.writes))) (line m.history table key) at);
          same = λ v. admits-later c.entry m.history t v low;
        })
        | inr is ↦ absurd (no-rollback is)
      ]
    ]
  ] where
    after-more : (v : Version Change) (new l : List (Version Change)) → Member v l → Member v (new ++ l)
    after-more v [] l at = at
    after-more v (w ∷ new) l at = inr (after-more v new l at)

  prepared-back : (x : Name) → prepared_in (after m event).history t.start t.read x ≡ prepared_in m.history t.start t.read x
  prepared-back x = elim (history-grew m event valid may) [
    | inl same ↦ ap (λ h. prepared_in h t.start t.read x) same
    | inr more ↦ elim more [
      | inl q ↦ ap (λ h. prepared_in h t.start t.read x) q.is ∙ prepared-later q.entry m.history t.start t.read x low
      | inr rest ↦ elim rest [
        | inl c ↦ ap (λ h. prepared_in h t.start t.read x) c.is ∙ prepared-later c.entry m.history t.start t.read x low
        | inr is ↦ absurd (no-rollback is)
      ]
    ]
  ]

  named : (x y : Transaction) → x.id ≡ y.id → name_of (after m event) x ≡ name_of m y
  named x y id = ap (λ run. the_name run x.id) (run-after m event) ∙ ap (the_name m.run) id where
    the_name : ℕ → ℕ → Name
    the_name run id = record { run = run; id = id }

  -- who is met after the event was met before, and goes on to end
  ending-step : ((other : ℕ) (y : Transaction) → Meets m s t table key other y → IsEnding y.phase) → (other : ℕ) (x : Transaction) → Meets (after m event) s t table key other x → IsEnding x.phase
  ending-step ending other x meets = elim (session-was m event table key valid may other x meets.writer.0) [
    | inl kin ↦ kin.2.ending (ending other kin.0 (record {
      another = meets.another;
      writer = (kin.1, ap is_own (sym kin.2.own) ∙ meets.writer.1);
      before = before kin.0 kin.2.id;
    }))
    | inr new ↦ elim new [
      | inl fresh ↦ let none : is_own (own_write x table key) ≡ false = ap is_own fresh.own in absurd (both_ways (is_own (own_write x table key)) none meets.writer.1)
      | inr wrote ↦ absurd (unreleased m.history t.start (name_of m wrote.0)
          (subst (λ p. PhaseStands p m.history (name_of m wrote.0) wrote.0) wrote.2.running (valid.sessions.each other wrote.0 wrote.1).phase)
          (prepared-released m.history t.start t.read (name_of m wrote.0) (before wrote.0 wrote.2.id)))
    ]
  ] where
    before : (y : Transaction) → x.id ≡ y.id → prepared_in m.history t.start t.read (name_of m y) ≡ true
    before y id = subst (λ n. prepared_in m.history t.start t.read n ≡ true) (named x y id) (sym (prepared-back (name_of (after m event) x)) ∙ meets.before)

pub lines-grow : LinesGrow
lines-grow m event s t table key v valid may there at = elim (history-grew m event valid may) [
  | inl same ↦ subst (λ h. Member v (line h table key)) (sym same) at
  | inr more ↦ elim more [
    | inl q ↦ subst (λ h. Member v (line h table key)) (sym q.is) (subst (λ l. Member v l) (sym (q.lines table key)) at)
    | inr rest ↦ elim rest [
      | inl c ↦ subst (λ h. Member v (line h table key)) (sym c.is) (subst (λ l. Member v l) (sym (c.lines table key))
          (beneath (map (version_of (name_of m c.transaction)) (filter (writes_at table key) (stamped c.commit c.durable c.transaction.writes)))))
      | inr is ↦ let gone = (subst (Allowed m) is may).0 s in absurd (cc)
    ]
  ]
] where
  beneath : (new : List (Version Change)) → Member v (new ++ line m.history table key)
  beneath [] = at
  beneath (w ∷ new) = inr (beneath new)

-- ---- a run of events

alike-all : (events : List Event) (m : Machine) (s : ℕ) (t : Transaction) (table : ℕ) (key : List ℕ) → Valid m → EachMayCome m events → AllOfOthers s events → transaction_of m s ≡ Some t
    → ((other : ℕ) (y : Transaction) → Meets m s t table key other y → IsEnding y.phase) → Alike t table key m.history (after_all m events).history × (transaction_of (after_all m events) s ≡ Some t) × Valid (after_all m events)
alike-all [] m s t table key valid may others there ending = (alike-self t table key m.history, there, valid)
alike-all (event ∷ later) m s t table key valid may others there ending =
    let stays = session-stays m event s may.0 others.0 ∙ there in
    let rest = alike-all later (after m event) s t table key (valid-after m event valid may.0) may.1 others.1 stays (ending-step m event s t table key valid may.0 others.0 there ending) in
    (alike-trans t table key m.history (after m event).history (after_all (after m event) later).history (alike-step m event s t table key valid may.0 others.0 there ending) rest.0, rest.1, rest.2)

-- ---- look-ups

find-cong : {A : Type 0} (p q : A → Bool) (l : List A) → ((x : A) → p x ≡ q x) → find p l ≡ find q l
find-cong p q [] same = refl
find-cong p q (x ∷ xs) same = rw (same x, find-cong p q xs same) refl

find-nothing : {A : Type 0} (p : A → Bool) (l : List A) → ((x : A) → Member x l → p x ≡ false) → find p l ≡ None
find-nothing p [] none = refl
find-nothing p (x ∷ xs) none = rw (none x (inl refl)) (find-nothing p xs (λ y at. none y (inr at)))

-- sorted lists of the same that pass
find-same : {A : Type 0} (Below : A → A → Type 0) (p : A → Bool) (l other : List A) → IsOrder Below → Descends Below l → Descends Below other
    → ((x : A) → Member x l → p x ≡ true → Member x other) → ((x : A) → Member x other → p x ≡ true → Member x l) → find p l ≡ find p other
find-same {A} Below p l other order d e into out = go (find p l) (find p other) refl refl where
  go : (a b : Option A) → find p l ≡ a → find p other ≡ b → find p l ≡ find p other
  go None None f g = f ∙ sym g
  go None (Some y) f g = let at = find-member p other y g in absurd (find-none p l f y (out y at.0 at.1) at.1)
  go (Some x) None f g = let at = find-member p l x f in absurd (find-none p other g x (into x at.0 at.1) at.1)
  go (Some x) (Some y) f g = let a = find-member p l x f in let b = find-member p other y g in
      elim (find-newest Below p l x d f y (out y b.0 b.1) b.1) [
        | inl same ↦ f ∙ (ap Some (sym same) ∙ sym g)
        | inr below ↦ elim (find-newest Below p other y e g x (into x a.0 a.1) a.1) [ inl same ↦ f ∙ (ap Some same ∙ sym g) | inr above ↦ absurd (order.asym y x below above) ]
      ]

-- ---- the frame at the first moment

-- what stands is what lies below, or one version more, which a resolving transaction's update will be
outcome : (m : Machine) (p : Phase) (name : Name) (u : Update) (stands below : List (Version Change)) → MarkStands p m.history name u → BelowStands p name u stands below
    → (stands ≡ below) ⊎ ((v : Version Change) × (v.window.name ≡ name) × PreparedAt m.history name u.prepared × (u.prepared ≤ v.window.commit) × (stands ≡ v ∷ below))
outcome m Running name u stands below mark rest = inl rest
outcome m Failed name u stands below mark rest = inl rest
outcome m Leaving name u stands below mark rest = inl rest
outcome m (Prepared stamp) name u stands below mark rest = inl rest
outcome m Resolving name u stands below mark (inl same) = inl same.0
outcome m Resolving name u stands below mark (inr one) = inr (one.0, one.1.0, mark.1, one.1.1, one.2)

-- a version that stands, but not below the top, is not admitted
above-unread : (m : Machine) (s : ℕ) (t : Transaction) (table : ℕ) (key : List ℕ) (top : List Update) (held below : List (Version Change)) (cell : Option (Version Change)) → transaction_of m s ≡ Some t → TopStands m table key top below
    → Passes m s t table key top held cell → (v : Version Change) → Member v (line m.history table key) → (Member v below → ⊥) → admits m.history t.start t.read v ≡ false
above-unread m s t table key [] held below cell there stands passes v at out = absurd (out (subst (λ l. Member v l) stands.0 at))
above-unread m s t table key (u ∷ (w ∷ rest)) held below cell there stands passes v at out = absurd stands
above-unread m s t table key (u ∷ []) held below cell there q passes v at out = elim (outcome m q.transaction.phase (name_of m q.transaction) u (line m.history table key) below q.mark q.rest) [
  | inl same ↦ absurd (out (subst (λ l. Member v l) same at))
  | inr one ↦ elim (subst (λ l. Member v l) one.4 at) [
    | inl here ↦ subst (λ (z : Version Change). admits m.history t.start t.read z ≡ false) (sym here)
        (subst (λ x. (released m.history t.start x && reads_at t.read one.0.window.commit) ≡ false) (sym one.1)
        (unmet-unread m.history t.start t.read u.prepared one.0.window.commit (name_of m q.transaction) one.2 unmet one.3))
    | inr under ↦ absurd (out under)
  ]
] where
  another : q.session ≢ s
  another same = let both : Some q.transaction ≡ Some t = sym q.there ∙ (ap (transaction_of m) same ∙ there) in let is : q.transaction ≡ t = cc in
      let own : own_write t table key ≡ Some q.write = subst (λ (z : Transaction). own_write z table key ≡ Some q.write) is q.own in let none = passes.unwritten in absurd (cc)

  unmet : prepared_in m.history t.start t.read (name_of m q.transaction) ≡ false
  unmet = false-from (prepared_in m.history t.start t.read (name_of m q.transaction)) (λ met. passes.unmet u (inl refl) q.session q.transaction (record { another = another; writer = (q.there, ap is_own q.own); before = met }) q.name)

-- ---- a pinned frame

pub pins-begin : PinsBegin
pins-begin stands below held cell = record { frame = λ v f. inl f; top = λ v there out under. out under }

pub pins-go-on : PinsGoOn
pins-go-on below held stands middle_below middle_held later_stands later_below later_held cell middle_cell later_cell into pinned comes above = record {
  frame = λ v f. elim (comes v f) [ inl old ↦ pinned.frame v old | inr new ↦ inr (λ under. pinned.top v (into v under) (new (into v under)) under) ];
  top = λ v there out under. pinned.top v (into v under) (above v there out (into v under)) under;
}

-- ---- the law

pub reads-in-two-moments : ReadsInTwoMoments
reads-in-two-moments m events s t table key chain later_chain cell later_cell records later_records second valid there may others before passes later pinned picks = ap (option_and_then (λ (v : Version Change). put_of v.change)) (picked ∙ alike-picks) where
  next : Machine
  next = after_all m events

  facts : Alike t table key m.history next.history × (transaction_of next s ≡ Some t) × Valid next
  facts = alike-all events m s t table key valid may others there passes.ending

  p : Version Change → Bool
  p = admits next.history t.start t.read

  alike-picks : find p (line next.history table key) ≡ find (admits m.history t.start t.read) (line m.history table key)
  alike-picks = find-same Older p (line next.history table key) (line m.history table key) older-order (line-descends next.history facts.2.orderly table key) (line-descends m.history valid.orderly table key)
      (λ v at is. facts.0.into v at is) (λ v at is. facts.0.out v at)
      ∙ find-cong p (admits m.history t.start t.read) (line m.history table key) facts.0.same

  -- what came to the frame since is not admitted, nor what stands above its versions
  unread : (v : Version Change) → Member v (line next.history table key) → (Member v before.below → ⊥) → p v ≡ false
  unread v at out = false-from (p v) (λ is. both_ways (admits m.history t.start t.read v)
      (above-unread m s t table key before.top before.held before.below cell there before.topped passes v (facts.0.into v at is) out) (sym (facts.0.same v) ∙ is))

  into : (v : Version Change) → Member v later.below → Member v (line next.history table key)
  into v at = elim (line-top next table key later.top later.below later.topped) [ inl same ↦ subst (λ l. Member v l) (sym same) at | inr one ↦ subst (λ l. Member v l) (sym one.2) (inr at) ]

  frame-unread : (v : Version Change) → Member v (later.held ++ option_to_list later_cell) → p v ≡ false
  frame-unread v at = let f = list-frame later.held later_cell v at in elim (pinned.frame v f) [
    | inl held ↦ facts.0.same v ∙ passes.none v held
    | inr out ↦ unread v (into v (later.stores.kept.within v (inl f))) out
  ]

  descends : Descends Older later.below
  descends = let d = line-descends next.history facts.2.orderly table key in
      elim (line-top next table key later.top later.below later.topped) [ inl same ↦ subst (Descends Older) same d | inr one ↦ (subst (Descends Older) one.2 d).1 ]

  below-picks : find p (line next.history table key) ≡ find p later.below
  below-picks = elim (line-top next table key later.top later.below later.topped) [
    | inl same ↦ ap (find p) same
    | inr one ↦ let at : Member one.0 (line next.history table key) = subst (λ l. Member one.0 l) (sym one.2) (inl refl) in
        let d = subst (Descends Older) one.2 (line-descends next.history facts.2.orderly table key) in
        let none = unread one.0 at (pinned.top one.0 at (λ under. older-order.irrefl one.0 (d.0 one.0 under))) in
        ap (find p) one.2 ∙ (rw none refl)
  ]

  picked : second ≡ find p (line next.history table key)
  picked = sym (ap (λ o. or_else o second) (find-nothing p (later.held ++ option_to_list later_cell) frame-unread))
      ∙ (stores-answer next s t later.below (later.held ++ option_to_list later_cell) later_records second facts.1 descends
      (λ v at. line-stamps next.history facts.2.orderly table key v (into v at)) later.ordered
      (stores-alike Older _ later.below (InFrame later.held later_cell) (Held later_records) (Held (later.held ++ option_to_list later_cell)) (Held later_records) (frame-list later.held later_cell) (list-frame later.held later_cell) (λ x h. h) (λ x h. h) later.stores) picks
      ∙ sym below-picks)
