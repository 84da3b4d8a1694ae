-- Writes are decided by the newest update of a frame.
use Rattle.std.proofs.Common.{◌≡◌, ◌<◌, ℕ, refl, ap, sym, ◌∙◌, Bool, true, false, ◌&&◌, ◌||◌, List, [], ◌∷◌, ◌++◌, length, inl, inr, subst, map, arith}
use Rattle.std.specs.Prelude.{Option, Some, None, ◌==◌, not, if◌then◌else◌}
use Rattle.std.specs.Option.{option_to_list}
use Rattle.std.proofs.lemmas.Bool.{cases_Bool, cases_eq, both_ways, and_parts, and_from, eq-eqb, eqb-true, ne_eqb, or_left}
use Rattle.item.specs.declared.Change.{Change}
use Rattle.stamp.specs.declared.Version.{Version}
use Rattle.stamp.specs.declared.View.{View}
use Rattle.kv_model.specs.Holds.{Member, Descends, Stores}
use Rattle.kv_model.specs.Ordered.{Older}
use Rattle.kv_model.specs.Captures.{UpTo}
use Rattle.kv_model.specs.History.{line, released, reads_at}
use Rattle.kv_model.specs.Machine.{Machine, Transaction, Phase, Running, Failed, Prepared, Resolving, Leaving, transaction_of, name_of}
use Rattle.kv_model.specs.Droppable.{covers}
use Rattle.kv_model.specs.Reads.{own_write, is_own as has_own, MayWrite, MayWriteAs, MustNotWrite, MustNotWriteAs, may_follow, names_newest}
use Rattle.kv_model.specs.Valid.{PhaseStands}
use Rattle.kv_model.specs.Pending.{Update as ModelUpdate, settled as model_settled, HasEnded, IsTop, TopStands, InFrame, NoneHolds, MarkStands}
use Rattle.kv_model.specs.StoreLaws.{Held}
use Rattle.kv_model.proofs.Ordering.{line-descends}
use Rattle.kv_model.proofs.Finishing.{older-order}
use Rattle.kv_model.proofs.Snapshots.{line-released}
use Rattle.kv_model.proofs.Releases.{false-from, unreleased}
use Rattle.snapshot.specs.Sight.{is_seen, sight_of}
use Rattle.snapshot.specs.Matters.{IsLive}
use Rattle.update_chain.specs.declared.look.Judgement.TheVariants.{Allowed, Refused}
use Rattle.update_chain.specs.declared.update.Update.{Update}
use Rattle.update_chain.specs.Updates.{update_in, unmarked_update, is_own}
use Rattle.update_chain.proofs.Meeting.{has-writes, counts-writes, writer-drawn}
use Rattle.update_chain.specs.Writing.{may_follow_by, newest_of, judgement_to, JudgementStands, WritesStand}
use Rattle.update_chain.proofs.Below.{in-list, in-frame}
use Rattle.update_chain.proofs.Reading.{Reader, top-newest, own-is, other-isnt, unwritten, running-alive, one-transaction}

-- what an update that may be followed, or may not, decides of a write
abbrev pub WriteStands : Machine → ℕ → Transaction → View → ℕ → List ℕ → Option Update → Type 0
WriteStands m s t view table key None = MayWrite m s t table key
WriteStands m s t view table key (Some u) = (may_follow_by view u ≡ true → MayWrite m s t table key) × (may_follow_by view u ≡ false → MustNotWrite m s t table key u.version.window.name)

judged : (m : Machine) (s : ℕ) (t : Transaction) (view : View) (table : ℕ) (key : List ℕ) (o : Option Update) → WriteStands m s t view table key o → JudgementStands m s t table key (judgement_to view o)
judged m s t view table key None stands = stands
judged m s t view table key (Some u) stands = elim (cases_Bool (may_follow_by view u)) [
  | inl is ↦ subst (λ b. JudgementStands m s t table key (if b then Allowed else Refused u.version.window.name)) (sym is) (stands.0 is)
  | inr isnt ↦ subst (λ b. JudgementStands m s t table key (if b then Allowed else Refused u.version.window.name)) (sym isnt) (stands.1 isnt)
]

-- the newest of a line stands in the frame
newest-in-frame : (m : Machine) (h : Version Change) (rest held records : List (Version Change)) (cell : Option (Version Change)) → Descends Older (h ∷ rest) → Stores Older (covers m) (h ∷ rest) (InFrame held cell) (Held records)
    → ((v : Version Change) → Held records v → (w : Version Change) × InFrame held cell w × HasEnded m w.window.name × UpTo Older v w) → InFrame held cell h
newest-in-frame m h rest held records cell d s layered = elim (s.kept.all h (inl refl)) [
  | inl one ↦ elim one [ inl frame ↦ frame | inr record_of ↦ above (layered h record_of) ]
  | inr more ↦ absurd (none-above more.0 more.1 more.2)
] where
  none-above : (w : Version Change) → Member w (h ∷ rest) → Older h w → ⊥
  none-above w (inl e) up = older-order.irrefl h (subst (Older h) e up)
  none-above w (inr deep) up = older-order.asym h w up (d.0 w deep)

  above : (w : Version Change) × InFrame held cell w × HasEnded m w.window.name × UpTo Older h w → InFrame held cell h
  above a = elim a.3 [
    | inl e ↦ subst (InFrame held cell) (sym e) a.1
    | inr up ↦ absurd (none-above a.0 (s.kept.within a.0 (inl a.1)) up)
  ]

-- the frame's newest is the line's
pub head-is : (m : Machine) (stands frame held records : List (Version Change)) (cell : Option (Version Change)) (a : Version Change) (older : List (Version Change)) → Descends Older stands → Stores Older (covers m) stands (InFrame held cell) (Held records)
    → ((v : Version Change) → Held records v → (w : Version Change) × InFrame held cell w × HasEnded m w.window.name × UpTo Older v w) → Descends Older frame → frame ≡ held ++ option_to_list cell → frame ≡ a ∷ older
    → (rest : List (Version Change)) × (stands ≡ a ∷ rest)
head-is m [] frame held records cell a older d s layered f is e = absurd (s.kept.within a (inl (in-frame held cell a (subst (Member a) (sym e ∙ is) (inl refl)))))
head-is m (h ∷ rest) frame held records cell a older d s layered f is e = (rest, ap (λ z. z ∷ rest) (by-place (subst (Member h) (sym is ∙ e) (in-list held cell h (newest-in-frame m h rest held records cell d s layered))))) where
  a-in : Member a (h ∷ rest)
  a-in = s.kept.within a (inl (in-frame held cell a (subst (Member a) (sym e ∙ is) (inl refl))))

  by-place : Member h (a ∷ older) → h ≡ a
  by-place (inl same) = same
  by-place (inr deep) = by-a a-in where
    up : Older h a
    up = let sorted : Descends Older (a ∷ older) = subst (Descends Older) e f in sorted.0 h deep

    by-a : Member a (h ∷ rest) → h ≡ a
    by-a (inl same) = sym same
    by-a (inr under) = absurd (older-order.asym h a up (d.0 a under))

-- where the frame has nothing, nothing stands
pub none-stands : (m : Machine) (stands records : List (Version Change)) → Descends Older stands → Stores Older (covers m) stands (InFrame [] None) (Held records)
    → ((v : Version Change) → Held records v → (w : Version Change) × InFrame [] None w × HasEnded m w.window.name × UpTo Older v w) → stands ≡ []
none-stands m [] records d s layered = refl
none-stands m (h ∷ rest) records d s layered = absurd (elim (newest-in-frame m h rest [] records None d s layered) [ inl at ↦ at | inr e ↦ absurd (cc) ])

-- ---- a version that stands is newest

settled-writes : (m : Machine) (s : ℕ) (t : Transaction) (view : View) (table : ℕ) (key : List ℕ) (u : Update) (rest : List (Version Change)) → Reader m s t view → u.prepared ≡ 0 → line m.history table key ≡ u.version ∷ rest
    → own_write t table key ≡ None → NoneHolds m table key → WriteStands m s t view table key (Some u)
settled-writes m s t view table key u rest r unmarked stands none free = (λ granted. accepts (sym test ∙ granted), λ no_test. refuses (sym test ∙ no_test)) where
  there : Member u.version (line m.history table key)
  there = subst (Member u.version) (sym stands) (inl refl)

  whole : released m.history (length m.history) u.version.window.name ≡ true
  whole = line-released m.history r.valid.orderly table key u.version there

  not_own : is_own view u ≡ false
  not_own = false-from (is_own view u) (λ own.
      let p = and_parts (not (view.own == 0)) ((u.version.window.name.run == view.run) && (u.version.window.name.id == view.own)) own in
      let q = and_parts (u.version.window.name.run == view.run) (u.version.window.name.id == view.own) p.1 in
      let phase : released m.history (length m.history) (name_of m t) ≡ false = subst (λ p. PhaseStands p m.history (name_of m t) t) r.running (r.valid.sessions.each s t r.there).phase in
      both_ways (released m.history (length m.history) (name_of m t)) phase (subst (λ n. released m.history (length m.history) n ≡ true) (mine q.0 q.1) whole)) where
        mine : (u.version.window.name.run == view.run) ≡ true → (u.version.window.name.id == view.own) ≡ true → u.version.window.name ≡ name_of m t
        mine a b = let run : u.version.window.name.run ≡ m.run = eqb-true u.version.window.name.run view.run a ∙ r.stands.sees.run in let id : u.version.window.name.id ≡ t.id = eqb-true u.version.window.name.id view.own b ∙ r.stands.own in
            ap (λ n. record { run = n; id = u.version.window.name.id }) run ∙ ap (λ n. record { run = m.run; id = n }) id

  test : may_follow_by view u ≡ may_follow m t (line m.history table key)
  test = ap (λ b. b || ((u.prepared == 0) && (is_seen (sight_of view) u.version.window.name && reads_at view.read u.version.window.commit))) not_own
      ∙ (ap (λ n. (n == 0) && (is_seen (sight_of view) u.version.window.name && reads_at view.read u.version.window.commit)) unmarked
      ∙ (ap (λ b. b && reads_at view.read u.version.window.commit) (r.stands.sees.sees u.version.window.name (inl whole))
      ∙ (ap (λ n. released m.history t.start u.version.window.name && reads_at n u.version.window.commit) r.stands.read
      ∙ sym (ap (may_follow m t) stands))))

  accepts : may_follow m t (line m.history table key) ≡ true → MayWrite m s t table key
  accepts granted = subst (λ o. MayWriteAs o m s t table key) (sym none) (record { others = λ other x apart wrote. free other x wrote; newest = granted })

  refuses : may_follow m t (line m.history table key) ≡ false → MustNotWrite m s t table key u.version.window.name
  refuses not_so = subst (λ o. MustNotWriteAs o m s t table key u.version.window.name) (sym none)
      (inr (
        (λ other x apart wrote. free other x wrote),
        ap (names_newest u.version.window.name) stands ∙ and_from (u.version.window.name.run == u.version.window.name.run) (u.version.window.name.id == u.version.window.name.id)
            (eq-eqb u.version.window.name.run u.version.window.name.run refl) (eq-eqb u.version.window.name.id u.version.window.name.id refl),
        not_so,
      ))

pub unseen : (m : Machine) (s : ℕ) (t x : Transaction) (view : View) (r : ℕ) → Reader m s t view → transaction_of m r ≡ Some x → IsLive m (name_of m x) → released m.history (length m.history) (name_of m x) ≡ false → is_seen (sight_of view) (name_of m x) ≡ false
unseen m s t x view r reader at live never = reader.stands.sees.sees (name_of m x) (inr live) ∙ false-from (released m.history t.start (name_of m x)) (λ is. unreleased m.history t.start (name_of m x) never is)

by-sight : (m : Machine) (s : ℕ) (t x : Transaction) (view : View) (u : Update) (r : ℕ) → Reader m s t view → transaction_of m r ≡ Some x → IsLive m (name_of m x) → u.version.window.name ≡ name_of m x
    → released m.history (length m.history) (name_of m x) ≡ false → ((u.prepared == 0) && (is_seen (sight_of view) u.version.window.name && reads_at view.read u.version.window.commit)) ≡ false
by-sight m s t x view u r reader at live name never =
    ap (λ b. (u.prepared == 0) && (b && reads_at view.read u.version.window.commit)) (ap (is_seen (sight_of view)) name ∙ unseen m s t x view r reader at live never) ∙ and-false (u.prepared == 0) where
      and-false : (b : Bool) → (b && false) ≡ false
      and-false true = refl
      and-false false = refl

never-follows : (p : Phase) (m : Machine) (s : ℕ) (t x : Transaction) (view : View) (u : Update) (r : ℕ) → x.phase ≡ p → Reader m s t view → transaction_of m r ≡ Some x → IsLive m (name_of m x) → u.version.window.name ≡ name_of m x
    → PhaseStands p m.history (name_of m x) x → MarkStands p m.history (name_of m x) (update_in u) → ((u.prepared == 0) && (is_seen (sight_of view) u.version.window.name && reads_at view.read u.version.window.commit)) ≡ false
never-follows (Prepared stamp) m s t x view u r is reader at live name phase mark = ap (λ b. b && (is_seen (sight_of view) u.version.window.name && reads_at view.read u.version.window.commit)) (ne_eqb u.prepared 0 (λ e. let low = phase.marked in let same : u.prepared ≡ stamp = mark in absurd (omega arith)))
never-follows Resolving m s t x view u r is reader at live name phase mark = ap (λ b. b && (is_seen (sight_of view) u.version.window.name && reads_at view.read u.version.window.commit)) (ne_eqb u.prepared 0 (λ e. let low : 0 < u.prepared = mark.0 in absurd (omega arith)))
never-follows Running m s t x view u r is reader at live name phase mark = by-sight m s t x view u r reader at live name phase
never-follows Failed m s t x view u r is reader at live name phase mark = by-sight m s t x view u r reader at live name phase
never-follows Leaving m s t x view u r is reader at live name phase mark = by-sight m s t x view u r reader at live name phase

-- another's update on top may not be followed
pub never-follow : (m : Machine) (s : ℕ) (t : Transaction) (view : View) (table : ℕ) (key : List ℕ) (u : Update) (below : List (Version Change)) → Reader m s t view → (q : IsTop m table key (update_in u) below) → (q.session ≡ s → ⊥) → may_follow_by view u ≡ false
never-follow m s t view table key u below r q apart = ap (λ b. b || ((u.prepared == 0) && (is_seen (sight_of view) u.version.window.name && reads_at view.read u.version.window.commit))) (other-isnt m s q.session t q.transaction view u r apart q.there drawn q.name)
    ∙ never-follows q.transaction.phase m s t q.transaction view u q.session refl r q.there live q.name (r.valid.sessions.each q.session q.transaction q.there).phase q.mark where
      drawn : 0 < q.transaction.id
      drawn = writer-drawn m q.session q.transaction table key q.write r.valid q.there q.own

      live : IsLive m (name_of m q.transaction)
      live = record { session = q.session; transaction = q.transaction; there = q.there; drawn = drawn; name = refl; counts = counts-writes q.transaction.phase q.transaction (has-writes q.transaction table key q.write q.own) }

top-writes : (m : Machine) (s : ℕ) (t : Transaction) (view : View) (table : ℕ) (key : List ℕ) (u : Update) (below : List (Version Change)) → Reader m s t view → IsTop m table key (update_in u) below → WriteStands m s t view table key (Some u)
top-writes m s t view table key u below r q = elim (cases_eq q.session s) [
  | inl here ↦ (λ granted. mine here, λ not_so. absurd (both_ways (may_follow_by view u) not_so (or_left (is_own view u) ((u.prepared == 0) && (is_seen (sight_of view) u.version.window.name && reads_at view.read u.version.window.commit)) (own here))))
  | inr apart ↦ (λ granted. absurd (both_ways (may_follow_by view u) (never-follow m s t view table key u below r q apart) granted), λ not_so. subst (λ o. MustNotWriteAs o m s t table key u.version.window.name) (sym (none apart)) (inl (q.session, q.transaction, apart, (q.there, ap has_own q.own), (λ e. top-newest m table key (update_in u) below q), q.name)))
] where
  same : q.session ≡ s → q.transaction ≡ t
  same here = one-transaction m s q.session t q.transaction r.there q.there here

  written : q.session ≡ s → own_write t table key ≡ Some q.write
  written here = subst (λ z. own_write z table key ≡ Some q.write) (same here) q.own

  mine : q.session ≡ s → MayWrite m s t table key
  mine here = subst (λ o. MayWriteAs o m s t table key) (sym (written here)) tt

  own : q.session ≡ s → is_own view u ≡ true
  own here = own-is m s t view u r (writer-drawn m s t table key q.write r.valid r.there (written here)) (q.name ∙ ap (name_of m) (same here))

  none : (q.session ≡ s → ⊥) → own_write t table key ≡ None
  none apart = unwritten m s t table key r.there (λ wrote. running-alive t r.running (q.alone s t (λ e. apart (sym e)) wrote))

pub writes-stand : WritesStand
writes-stand m s t view table key chain cell records valid there running stands k = judged m s t view table key (newest_of chain cell) (by-top k.top chain k.chained k.topped) where
  reader : Reader m s t view
  reader = record { valid = valid; there = there; running = running; stands = stands }

  by-top : (top : List ModelUpdate) (chain : List Update) → map update_in chain ≡ top ++ map model_settled k.held → TopStands m table key top k.below → WriteStands m s t view table key (newest_of chain cell)
  by-top (x ∷ (y ∷ more)) chain e topped = absurd topped
  by-top (x ∷ []) [] e topped = absurd (cc)
  by-top (x ∷ []) (u ∷ older) e topped = let first : update_in u ≡ x = cc in top-writes m s t view table key u k.below reader (subst (λ z. IsTop m table key z k.below) (sym first) topped)
  by-top [] chain e topped = by-held k.held cell chain e k.ordered k.stores k.layered where
    none : own_write t table key ≡ None
    none = unwritten m s t table key there (λ wrote. running-alive t running (topped.1 s t wrote))

    sorted : Descends Older k.below
    sorted = subst (Descends Older) topped.0 (line-descends m.history valid.orderly table key)

    by-held : (held : List (Version Change)) (cell : Option (Version Change)) (chain : List Update) → map update_in chain ≡ map model_settled held → Descends Older (held ++ option_to_list cell) → Stores Older (covers m) k.below (InFrame held cell) (Held records)
        → ((v : Version Change) → Held records v → (w : Version Change) × InFrame held cell w × HasEnded m w.window.name × UpTo Older v w) → WriteStands m s t view table key (newest_of chain cell)
    by-held [] None [] e d stored layered = subst (λ o. MayWriteAs o m s t table key) (sym none)
        (record { others = λ other x apart wrote. topped.1 other x wrote; newest = ap (may_follow m t) (topped.0 ∙ none-stands m k.below records sorted stored layered) })
    by-held [] (Some v) [] e d stored layered = let at = head-is m k.below (v ∷ []) [] records (Some v) v [] sorted stored layered d refl refl in settled-writes m s t view table key (unmarked_update v) at.0 reader refl (topped.0 ∙ at.1) none topped.1
    by-held [] cell (u ∷ older) e d stored layered = absurd (cc)
    by-held (a ∷ rest) cell [] e d stored layered = absurd (cc)
    by-held (a ∷ rest) cell (u ∷ older) e d stored layered =
        let first : update_in u ≡ model_settled a = cc in
        let version : u.version ≡ a = ap (λ (z : ModelUpdate). z.version) first in
        let at = head-is m k.below (a ∷ (rest ++ option_to_list cell)) (a ∷ rest) records cell a (rest ++ option_to_list cell) sorted stored layered d refl refl in
        settled-writes m s t view table key u at.0 reader (ap (λ (z : ModelUpdate). z.prepared) first) (topped.0 ∙ (at.1 ∙ ap (λ z. z ∷ at.0) (sym version))) none topped.1
