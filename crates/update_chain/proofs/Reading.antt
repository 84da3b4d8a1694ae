-- A read of a chain that stands for its key is the model's.
use Rattle.std.proofs.Common.{◌≡◌, ◌⊎◌, ◌<◌, ℕ, refl, ap, sym, ◌∙◌, true, false, ◌&&◌, ◌||◌, List, [], ◌∷◌, ◌++◌, inl, inr, subst, map, arith}
use Rattle.std.specs.Prelude.{find, Option, Some, None, ◌==◌, not, if◌then◌else◌}
use Rattle.std.proofs.lemmas.Bool.{cases_Bool, cases_eq, both_ways, and_parts, and_from, eq-eqb, ne_eqb, eqb-true, not_from_false}
use Rattle.item.specs.declared.Change.{Change}
use Rattle.stamp.specs.declared.Name.{Name}
use Rattle.stamp.specs.declared.Version.{Version}
use Rattle.stamp.specs.declared.View.{View}
use Rattle.kv_model.specs.Holds.{Member, Descends}
use Rattle.kv_model.specs.Ordered.{Older, NameBelow}
use Rattle.kv_model.specs.History.{Write, line, released, reads_at, put_of}
use Rattle.kv_model.specs.Machine.{Machine, Transaction, Phase, Running, Failed, Prepared, Resolving, Leaving, transaction_of, name_of}
use Rattle.kv_model.specs.Reads.{own_write, is_own as has_own, Wrote, Meets, IsEnding, IsNewestUpdate, ReadAs, Value, Conflict, prepared_in}
use Rattle.kv_model.specs.Valid.{Valid}
use Rattle.kv_model.specs.StoreLaws.{Held}
use Rattle.kv_model.specs.Pending.{Update as ModelUpdate, settled as model_settled, BelowStands, IsTop, TopStands, KeyStands}
use Rattle.kv_model.proofs.Ordering.{line-descends}
use Rattle.kv_model.proofs.Droppables.{line-stamps}
use Rattle.kv_model.proofs.Finishing.{older-order}
use Rattle.kv_model.proofs.Releases.{false-from}
use Rattle.snapshot.specs.Sight.{sight_of, is_seen}
use Rattle.snapshot.specs.Matters.{Matters}
use Rattle.update_chain.specs.declared.update.Update.{Update}
use Rattle.update_chain.specs.Updates.{update_in, unmarked_update, Conflicts, decides, is_own, stamp_at, reply_of, reply_by, reply_to, read_of}
use Rattle.update_chain.specs.Answers.{ViewStands, is_admitted, ReplyStands, ReadStands, ReadsStand}
use Rattle.update_chain.proofs.Meeting.{back, Tops, tops, below-cases, has-writes, counts-writes, writer-drawn}
use Rattle.update_chain.proofs.Below.{stores-list, change-stands, Rests, rests-stand}

-- ---- chains

back-all : (chain : List Update) → map back (map update_in chain) ≡ chain
back-all [] = refl
back-all (u ∷ older) = ap (λ l. u ∷ l) (back-all older)

back-settled : (held : List (Version Change)) → map back (map model_settled held) ≡ map unmarked_update held
back-settled [] = refl
back-settled (v ∷ older) = ap (λ l. unmarked_update v ∷ l) (back-settled older)

back-parts : (top : List ModelUpdate) (held : List (Version Change)) → map back (top ++ map model_settled held) ≡ map back top ++ map unmarked_update held
back-parts [] held = back-settled held
back-parts (u ∷ top) held = ap (λ l. back u ∷ l) (back-parts top held)

chain-as : (chain : List Update) (top : List ModelUpdate) (held : List (Version Change)) → map update_in chain ≡ top ++ map model_settled held → chain ≡ map back top ++ map unmarked_update held
chain-as chain top held is = sym (back-all chain) ∙ (ap (map back) is ∙ back-parts top held)

pub read-here : (view : View) (u : Update) (older : List Update) → decides view u ≡ true → read_of view (u ∷ older) ≡ reply_by view u
read-here view u older is = ap (λ b. reply_to view (if b then Some u else find (decides view) older)) is

pub read-past : (view : View) (u : Update) (older : List Update) → decides view u ≡ false → read_of view (u ∷ older) ≡ read_of view older
read-past view u older isnt = ap (λ b. reply_to view (if b then Some u else find (decides view) older)) isnt

-- ---- the reader

-- who did not write the key has no own write of it
pub unwritten : (m : Machine) (s : ℕ) (t : Transaction) (table : ℕ) (key : List ℕ) → transaction_of m s ≡ Some t → (Wrote m s table key t → ⊥) → own_write t table key ≡ None
unwritten m s t table key there none = by-own (own_write t table key) refl where
  by-own : (o : Option Write) → own_write t table key ≡ o → own_write t table key ≡ None
  by-own None is = is
  by-own (Some w) is = absurd (none (there, ap has_own is))

pub running-alive : (t : Transaction) → t.phase ≡ Running → IsEnding t.phase → ⊥
running-alive t running ending = subst IsEnding running ending

pub one-transaction : (m : Machine) (s r : ℕ) (t x : Transaction) → transaction_of m s ≡ Some t → transaction_of m r ≡ Some x → r ≡ s → x ≡ t
one-transaction m s r t x there at same = let both : Some x ≡ Some t = sym at ∙ (ap (transaction_of m) same ∙ there) in cc

-- ---- what is below the top stands

-- of the versions that stand, or all of them but the newest
pub part-within : (stands below : List (Version Change)) → (stands ≡ below) ⊎ ((v : Version Change) × (stands ≡ v ∷ below)) → (v : Version Change) → Member v below → Member v stands
part-within stands below (inl same) v there = subst (Member v) (sym same) there
part-within stands below (inr one) v there = subst (Member v) (sym one.1) (inr there)

pub part-sorted : (stands below : List (Version Change)) → (stands ≡ below) ⊎ ((v : Version Change) × (stands ≡ v ∷ below)) → Descends Older stands → Descends Older below
part-sorted stands below (inl same) d = subst (Descends Older) same d
part-sorted stands below (inr one) d = let whole : Descends Older (one.0 ∷ below) = subst (Descends Older) one.1 d in whole.1

rests : (m : Machine) (s : ℕ) (t : Transaction) (table : ℕ) (key : List ℕ) (chain : List ModelUpdate) (cell : Option (Version Change)) (records : List (Version Change)) → Valid m → transaction_of m s ≡ Some t
    → (k : KeyStands m table key chain cell (Held records)) → (line m.history table key ≡ k.below) ⊎ ((v : Version Change) × (line m.history table key ≡ v ∷ k.below))
    → own_write t table key ≡ None → ((other : ℕ) (x : Transaction) → Meets m s t table key other x → IsEnding x.phase)
    → find (is_admitted m t) (line m.history table key) ≡ find (is_admitted m t) k.below → Rests m s t table key k.held k.below records cell
rests m s t table key chain cell records valid there k part none ending same = record {
  none_own = none;
  ending = ending;
  same = same;
  within = part-within (line m.history table key) k.below part;
  shown = record {
    there = there;
    sorted = part-sorted (line m.history table key) k.below part (line-descends m.history valid.orderly table key);
    fits = λ v at. line-stamps m.history valid.orderly table key v (part-within (line m.history table key) k.below part v at);
    ordered = k.ordered;
    stores = stores-list _ k.below k.held records cell k.stores;
  };
}

-- a read that is decided below the top, and who is met there
below-read : (m : Machine) (s : ℕ) (t : Transaction) (view : View) (table : ℕ) (key : List ℕ) (held below records : List (Version Change)) (cell : Option (Version Change)) → Valid m → t.phase ≡ Running → ViewStands m t view
    → Rests m s t table key held below records cell → ReadStands m s t table key cell records (read_of view (map unmarked_update held))
below-read m s t view table key held below records cell valid running stands r = record {
  answers = rests-stand m s t view table key held below records cell valid running stands r;
  conflicts = λ other x met alive. absurd (alive (r.ending other x met));
}

-- ---- the update on top

-- what a reader has at hand
pub record Reader (m : Machine) (s : ℕ) (t : Transaction) (view : View) : Type 0 where
  pub valid : Valid m
  pub there : transaction_of m s ≡ Some t
  pub running : t.phase ≡ Running
  pub stands : ViewStands m t view

-- the update is the reader's own
pub own-is : (m : Machine) (s : ℕ) (t : Transaction) (view : View) (u : Update) → Reader m s t view → 0 < t.id → u.version.window.name ≡ name_of m t → is_own view u ≡ true
own-is m s t view u r drawn name = and_from (not (view.own == 0)) ((u.version.window.name.run == view.run) && (u.version.window.name.id == view.own))
    (not_from_false (view.own == 0) (ne_eqb view.own 0 (λ e. let own = r.stands.own in absurd (omega arith))))
    (and_from (u.version.window.name.run == view.run) (u.version.window.name.id == view.own)
    (eq-eqb u.version.window.name.run view.run (ap (λ (n : Name). n.run) name ∙ sym r.stands.sees.run))
    (eq-eqb u.version.window.name.id view.own (ap (λ (n : Name). n.id) name ∙ sym r.stands.own)))

-- the update of another session's transaction is not
pub other-isnt : (m : Machine) (s other : ℕ) (t x : Transaction) (view : View) (u : Update) → Reader m s t view → (other ≡ s → ⊥) → transaction_of m other ≡ Some x → 0 < x.id → u.version.window.name ≡ name_of m x → is_own view u ≡ false
other-isnt m s other t x view u r apart at drawn name = false-from (is_own view u) (λ own.
    let p = and_parts (not (view.own == 0)) ((u.version.window.name.run == view.run) && (u.version.window.name.id == view.own)) own in
    let q = and_parts (u.version.window.name.run == view.run) (u.version.window.name.id == view.own) p.1 in
    r.valid.sessions.distinct other s x t at r.there apart drawn (sym (ap (λ (n : Name). n.id) name) ∙ (eqb-true u.version.window.name.id view.own q.1 ∙ r.stands.own)))

-- the top is the reader's own update
own-read : (m : Machine) (s : ℕ) (t : Transaction) (view : View) (table : ℕ) (key : List ℕ) (u : ModelUpdate) (older : List Update) (below records : List (Version Change)) (cell : Option (Version Change)) → Reader m s t view
    → (q : IsTop m table key u below) → q.session ≡ s → ReadStands m s t table key cell records (read_of view (back u ∷ older))
own-read m s t view table key u older below records cell r q here = record {
  answers = subst (ReplyStands m s t table key cell records) (sym (read-here view (back u) older (ap (λ b. b || (is_seen (sight_of view) u.version.window.name && reads_at view.read (stamp_at (back u)))) own) ∙ replies))
      (change-stands m s t table key cell records u.version.change (subst (λ o. ReadAs o m s t table key (Value (put_of u.version.change))) (sym mine) (ap (λ c. Value (put_of c)) q.change)));
  conflicts = λ other x met alive. absurd (alive (q.alone other x (λ e. met.another (e ∙ here)) met.writer));
} where
  same : q.transaction ≡ t
  same = one-transaction m s q.session t q.transaction r.there q.there here

  mine : own_write t table key ≡ Some q.write
  mine = subst (λ z. own_write z table key ≡ Some q.write) same q.own

  own : is_own view (back u) ≡ true
  own = own-is m s t view (back u) r (writer-drawn m s t table key q.write r.valid r.there mine) (q.name ∙ ap (name_of m) same)

  replies : reply_by view (back u) ≡ reply_of u.version.change
  replies = ap (λ b. if b || (u.prepared == 0) then reply_of u.version.change else Conflicts u.version.window.name.id) own

-- what stands is the update's own outcome, or lies below
stands-below : (p : Phase) (name : Name) (u : ModelUpdate) (stands below : List (Version Change)) → BelowStands p name u stands below → (v : Version Change) → Member v stands → (v.window.name ≡ name) ⊎ Member v below
stands-below Running name u stands below rest v at = inr (subst (λ l. Member v l) rest at)
stands-below Failed name u stands below rest v at = inr (subst (λ l. Member v l) rest at)
stands-below Leaving name u stands below rest v at = inr (subst (λ l. Member v l) rest at)
stands-below (Prepared stamp) name u stands below rest v at = inr (subst (λ l. Member v l) rest at)
stands-below Resolving name u stands below (inl same) v at = inr (subst (λ l. Member v l) same.0 at)
stands-below Resolving name u stands below (inr one) v at = elim (subst (λ l. Member v l) one.2 at) [
  | inl here ↦ inl (ap (λ (x : Version Change). x.window.name) here ∙ one.1.0)
  | inr under ↦ inr under
]

-- so the top is the newest update
pub top-newest : (m : Machine) (table : ℕ) (key : List ℕ) (u : ModelUpdate) (below : List (Version Change)) → (q : IsTop m table key u below) → IsNewestUpdate m table key q.session q.transaction
top-newest m table key u below q = record {
  stands = λ v at up. elim (stands-below q.transaction.phase (name_of m q.transaction) u (line m.history table key) below q.rest v at) [
    | inl same ↦ older-order.irrefl v (subst (λ n. NameBelow n v.window.name) (sym same) up)
    | inr under ↦ older-order.asym v u.version (q.above v under) (subst (λ n. NameBelow n v.window.name) (sym q.name) up)
  ];
  alone = q.alone;
}

-- the top is another's update
other-read : (m : Machine) (s : ℕ) (t : Transaction) (view : View) (table : ℕ) (key : List ℕ) (chain : List ModelUpdate) (u : ModelUpdate) (records : List (Version Change)) (cell : Option (Version Change)) → Reader m s t view
    → (k : KeyStands m table key chain cell (Held records)) → (q : IsTop m table key u k.below) → (q.session ≡ s → ⊥) → ReadStands m s t table key cell records (read_of view (back u ∷ map unmarked_update k.held))
other-read m s t view table key chain u records cell r k q apart = elim (cases_Bool (prepared_in m.history t.start t.read (name_of m q.transaction))) [
  | inl met ↦ conflict met
  | inr unmet ↦ subst (ReadStands m s t table key cell records) (sym (read-past view (back u) (map unmarked_update k.held) (decided ∙ unmet)))
      (below-read m s t view table key k.held k.below records cell r.valid r.running r.stands
      (rests m s t table key chain cell records r.valid r.there k (below-cases q.transaction.phase (name_of m q.transaction) u (line m.history table key) k.below q.rest) none (ending unmet) (top.skips unmet)))
] where
  drawn : 0 < q.transaction.id
  drawn = writer-drawn m q.session q.transaction table key q.write r.valid q.there q.own

  not_own : is_own view (back u) ≡ false
  not_own = other-isnt m s q.session t q.transaction view (back u) r apart q.there drawn q.name

  top : Tops m t.start t.read (name_of m q.transaction) u (line m.history table key) k.below
  top = tops m t.start t.read q.transaction.phase q.transaction u (line m.history table key) k.below (has-writes q.transaction table key q.write q.own) (r.valid.sessions.each q.session q.transaction q.there).phase q.mark q.rest

  matters : Matters m (name_of m q.transaction)
  matters = inr (record { session = q.session; transaction = q.transaction; there = q.there; drawn = drawn; name = refl; counts = counts-writes q.transaction.phase q.transaction (has-writes q.transaction table key q.write q.own) })

  decided : decides view (back u) ≡ prepared_in m.history t.start t.read (name_of m q.transaction)
  decided = ap (λ b. b || (is_seen (sight_of view) u.version.window.name && reads_at view.read (stamp_at (back u)))) not_own
      ∙ (ap (λ n. is_seen (sight_of view) n && reads_at view.read (stamp_at (back u))) q.name
      ∙ (ap (λ b. b && reads_at view.read (stamp_at (back u))) (r.stands.sees.sees (name_of m q.transaction) matters)
      ∙ (ap (λ n. released m.history t.start (name_of m q.transaction) && reads_at n (stamp_at (back u))) r.stands.read ∙ top.met)))

  none : own_write t table key ≡ None
  none = unwritten m s t table key r.there (λ wrote. running-alive t r.running (q.alone s t (λ e. apart (sym e)) wrote))

  -- who is met is the top's transaction, or ending
  others : (other : ℕ) (x : Transaction) → Meets m s t table key other x → (q.transaction ≡ x) ⊎ IsEnding x.phase
  others other x met = elim (cases_eq other q.session) [
    | inl here ↦ inl (sym (one-transaction m q.session other q.transaction x q.there met.writer.0 here))
    | inr away ↦ inr (q.alone other x away met.writer)
  ]

  ending : prepared_in m.history t.start t.read (name_of m q.transaction) ≡ false → (other : ℕ) (x : Transaction) → Meets m s t table key other x → IsEnding x.phase
  ending unmet other x met = elim (others other x met) [
    | inl same ↦ absurd (both_ways (prepared_in m.history t.start t.read (name_of m q.transaction)) unmet (subst (λ z. prepared_in m.history t.start t.read (name_of m z) ≡ true) (sym same) met.before))
    | inr is ↦ is
  ]

  conflict : prepared_in m.history t.start t.read (name_of m q.transaction) ≡ true → ReadStands m s t table key cell records (read_of view (back u ∷ map unmarked_update k.held))
  conflict met = subst (ReadStands m s t table key cell records) (sym reads) (record {
    answers = subst (λ o. ReadAs o m s t table key (Conflict q.transaction.id)) (sym none)
        (q.session, q.transaction, record { another = apart; writer = (q.there, ap has_own q.own); before = met }, (λ e. top-newest m table key u k.below q), refl);
    conflicts = λ other x meets alive. elim (others other x meets) [
      | inl same ↦ ap (λ (z : Transaction). Conflicts z.id) same
      | inr is ↦ absurd (alive is)
    ];
  }) where
    unsettled : (u.prepared == 0) ≡ false
    unsettled = ne_eqb u.prepared 0 (λ e. let some = top.marked met in absurd (omega arith))

    reads : read_of view (back u ∷ map unmarked_update k.held) ≡ Conflicts q.transaction.id
    reads = read-here view (back u) (map unmarked_update k.held) (decided ∙ met)
        ∙ (ap (λ b. if b || (u.prepared == 0) then reply_of u.version.change else Conflicts u.version.window.name.id) not_own
        ∙ (ap (λ b. if b then reply_of u.version.change else Conflicts u.version.window.name.id) unsettled
        ∙ ap (λ (n : Name). Conflicts n.id) q.name))

pub reads-stand : ReadsStand
reads-stand m s t view table key chain cell records valid there running stands k =
    subst (ReadStands m s t table key cell records) (sym (ap (read_of view) (chain-as chain k.top k.held k.chained))) (by-top k.top k.topped) where
      reader : Reader m s t view
      reader = record { valid = valid; there = there; running = running; stands = stands }

      by-top : (top : List ModelUpdate) → TopStands m table key top k.below → ReadStands m s t table key cell records (read_of view (map back top ++ map unmarked_update k.held))
      by-top [] topped = below-read m s t view table key k.held k.below records cell valid running stands
          (rests m s t table key (map update_in chain) cell records valid there k (inl topped.0) (unwritten m s t table key there (λ wrote. running-alive t running (topped.1 s t wrote)))
          (λ other x met. topped.1 other x met.writer) (ap (find (is_admitted m t)) topped.0))
      by-top (u ∷ []) topped = elim (cases_eq topped.session s) [
        | inl here ↦ own-read m s t view table key u (map unmarked_update k.held) k.below records cell reader topped here
        | inr apart ↦ other-read m s t view table key (map update_in chain) u records cell reader k topped apart
      ]
      by-top (u ∷ (w ∷ more)) topped = absurd topped
