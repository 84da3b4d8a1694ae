-- Prepares and commits, over a chain that stands for a key that was written.
use Rattle.std.proofs.Common.{◌≡◌, ◌≤◌, ℕ, refl, ap, sym, ◌∙◌, Bool, List, [], ◌∷◌, ◌++◌, inl, inr, subst, map, arith}
use Rattle.std.specs.Prelude.{Option, Some, None, filter}
use Rattle.std.specs.Option.{option_to_list}
use Rattle.std.proofs.lemmas.Bool.{cases_eq}
use Rattle.item.specs.declared.Change.{Change}
use Rattle.stamp.specs.declared.Version.{Version}
use Rattle.kv_model.specs.Holds.{Member, Descends, Stores}
use Rattle.kv_model.specs.Ordered.{Older}
use Rattle.kv_model.specs.Captures.{Either}
use Rattle.kv_model.specs.History.{Entry, Commit, Prepare, Resolve, Write, line, version_of, writes_at}
use Rattle.kv_model.specs.Machine.{Machine, Transaction, Running, Prepared, Resolving, PrepareAt, CommitAt, transaction_of, name_of, after, of_some, in_phase, prepared, decided, appended, stamped}
use Rattle.kv_model.specs.Droppable.{covers}
use Rattle.kv_model.specs.Reads.{own_write, IsEnding, OthersEnding, PreparedAt}
use Rattle.kv_model.specs.Allowed.{Allowed, CommitsAt}
use Rattle.kv_model.specs.Valid.{Valid, PhaseStands, PreparedStands}
use Rattle.kv_model.specs.Pending.{Update as ModelUpdate, settled as model_settled, MarkStands, BelowStands, IsTop, TopStands, InFrame, NoneHolds}
use Rattle.kv_model.proofs.Finishing.{older-order}
use Rattle.kv_model.proofs.Living.{stores-covers, stores-commit}
use Rattle.kv_model.proofs.Ordering.{line-descends, line-writes}
use Rattle.kv_model.proofs.OwnWrites.{stamped-at}
use Rattle.kv_model.proofs.Pins.{covers-after}
use Rattle.kv_model.proofs.Meetings.{appended-either}
use Rattle.update_chain.specs.Updates.{update_in, unmarked_update}
use Rattle.update_chain.specs.EventLaws.{outcome, PreparesStand, CommitsStand, ResolvesStand}
use Rattle.update_chain.proofs.Below.{in-frame}
use Rattle.update_chain.proofs.Meeting.{has-writes}
use Rattle.update_chain.proofs.Reading.{running-alive, one-transaction}
use Rattle.update_chain.proofs.Ended.{ended-after}
use Rattle.update_chain.proofs.Tops.{TopOf, the-top, running-rest, frame-stands, below-stands, some-own}
use Rattle.update_chain.proofs.Carrying.{carried, taken, elsewhere, others-ending}

-- ---- what a transaction with a write of the key leaves

pub appended-some : (writes : List Write) (entry : Entry) (history : List Entry) (w : Write) → Member w writes → appended writes entry history ≡ entry ∷ history
appended-some [] entry history w has = absurd has
appended-some (o ∷ writes) entry history w has = refl

-- its commit puts the version of its write on top of the line
pub line-of-writer : (m : Machine) (s commit durable : ℕ) (t : Transaction) (w : Write) (table : ℕ) (key : List ℕ) (entry : Entry) → Valid m → transaction_of m s ≡ Some t → own_write t table key ≡ Some w
    → line (entry ∷ m.history) table key ≡ map (version_of (name_of m t)) (filter (writes_at table key) (stamped commit durable t.writes)) ++ line m.history table key
    → line (appended t.writes entry m.history) table key ≡ outcome m t w commit durable ∷ line m.history table key
line-of-writer m s commit durable t w table key entry v there own is = ap (λ h. line h table key) (appended-some t.writes entry m.history (has-writes t table key w own).0 (has-writes t table key w own).1)
    ∙ (is ∙ ap (λ l. map (version_of (name_of m t)) l ++ line m.history table key) (stamped-at commit durable table key t.writes
    ∙ ap (stamped commit durable) ((v.sessions.each s t there).single table key ∙ ap option_to_list own)))

-- ---- prepares

prepared-top : (m : Machine) (s stamp : ℕ) (t : Transaction) (w : Write) (table : ℕ) (key : List ℕ) (u : ModelUpdate) (below : List (Version Change)) → t.phase ≡ Running → u.prepared ≡ stamp → TopOf m s t w table key u below
    → IsTop (after m (PrepareAt s stamp)) table key u below
prepared-top m s stamp t w table key u below running marked q = subst (λ o. IsTop (of_some m (prepared m s stamp) o) table key u below) (sym q.there) (record {
  session = s;
  transaction = in_phase (Prepared stamp) t;
  write = w;
  there = taken m s t (Some (in_phase (Prepared stamp) t)) q.there;
  own = q.own;
  name = q.name;
  change = q.change;
  mark = marked;
  rest = appended-either (λ h. line h table key ≡ below) t.writes (Prepare (name_of m t) stamp) m.history
      (running-rest t (name_of m t) u (line m.history table key) below running q.rest) (λ o has. running-rest t (name_of m t) u (line m.history table key) below running q.rest);
  alone = others-ending m (prepared m s stamp t) s table key (λ r x other at. elsewhere m s (Some (in_phase (Prepared stamp) t)) r x other at) q.alone;
  above = q.above;
})

pub prepares-stand : PreparesStand
prepares-stand m s stamp t table key u older cell records valid may wrote marked k = carried m (PrepareAt s stamp) table key _ cell _ valid may k
    (subst (λ l. TopStands (after m (PrepareAt s stamp)) table key l k.below) (sym top.1) (prepared-top m s stamp t own.0 table key top.0 k.below running (sym (ap (λ (x : ModelUpdate). x.prepared) first) ∙ marked) top.2)) where
      own : (w : Write) × (own_write t table key ≡ Some w)
      own = some-own (own_write t table key) wrote.1

      running : t.phase ≡ Running
      running = subst (λ (x : Transaction). x.phase ≡ Running) (one-transaction m s s t may.0.0 wrote.0 may.0.1 refl) may.0.2

      top : (x : ModelUpdate) × (k.top ≡ x ∷ []) × TopOf m s t own.0 table key x k.below
      top = the-top m s t own.0 table key k.top k.below wrote.0 own.1 (running-alive t running) k.topped

      first : update_in u ≡ top.0
      first = let e : update_in u ∷ map update_in older ≡ top.0 ∷ map model_settled k.held = subst (λ l. update_in u ∷ map update_in older ≡ l ++ map model_settled k.held) top.1 k.chained in cc

-- ---- the commit of a prepared transaction

resolved-top : (m : Machine) (s stamp commit durable : ℕ) (t : Transaction) (w : Write) (table : ℕ) (key : List ℕ) (u : ModelUpdate) (below : List (Version Change)) → Valid m → t.phase ≡ Prepared stamp → stamp ≤ commit → TopOf m s t w table key u below
    → IsTop (after m (CommitAt s commit durable)) table key u below
resolved-top m s stamp commit durable t w table key u below valid is later q = subst (λ o. IsTop (of_some m (λ (x : Transaction). decided x.phase m s commit durable x) o) table key u below) (sym q.there)
    (subst (λ p. IsTop (decided p m s commit durable t) table key u below) (sym is) (record {
      session = s;
      transaction = in_phase Resolving t;
      write = w;
      there = taken m s t (Some (in_phase Resolving t)) q.there;
      own = q.own;
      name = q.name;
      change = q.change;
      mark = (
        (let low = stands.marked in let e = here in omega arith),
        appended-either (λ h. PreparedAt h (name_of m t) u.prepared) t.writes (Resolve (name_of m t) (stamped commit durable t.writes)) m.history known (λ o has. inr (refl, known)),
      );
      rest = inr (
        outcome m t w commit durable,
        (refl, (let e = here in omega arith)),
        line-of-writer m s commit durable t w table key (Resolve (name_of m t) (stamped commit durable t.writes)) valid q.there q.own
            (line-writes (name_of m t) (stamped commit durable t.writes) m.history table key) ∙ ap (λ l. outcome m t w commit durable ∷ l) (subst (λ p. BelowStands p (name_of m t) u (line m.history table key) below) is q.rest),
      );
      alone = others-ending m (decided (Prepared stamp) m s commit durable t) s table key (λ r x other at. elsewhere m s (Some (in_phase Resolving t)) r x other at) q.alone;
      above = q.above;
    })) where
      stands : PreparedStands stamp m.history (name_of m t) t
      stands = subst (λ p. PhaseStands p m.history (name_of m t) t) is (valid.sessions.each s t q.there).phase

      here : u.prepared ≡ stamp
      here = subst (λ p. MarkStands p m.history (name_of m t) u) is q.mark

      known : PreparedAt m.history (name_of m t) u.prepared
      known = subst (PreparedAt m.history (name_of m t)) (sym here) (stands.prepared (has-writes t table key w q.own).0 (has-writes t table key w q.own).1)

pub resolves-stand : ResolvesStand
resolves-stand m s stamp commit durable t table key chain cell records valid may wrote is k = carried m (CommitAt s commit durable) table key _ cell _ valid may k
    (subst (λ l. TopStands (after m (CommitAt s commit durable)) table key l k.below) (sym top.1) (resolved-top m s stamp commit durable t own.0 table key top.0 k.below valid is later top.2)) where
      own : (w : Write) × (own_write t table key ≡ Some w)
      own = some-own (own_write t table key) wrote.1

      later : stamp ≤ commit
      later = (subst (λ p. CommitsAt p commit durable) is (subst (λ (x : Transaction). CommitsAt x.phase commit durable) (one-transaction m s s t may.0 wrote.0 may.1 refl) may.2)).0

      top : (x : ModelUpdate) × (k.top ≡ x ∷ []) × TopOf m s t own.0 table key x k.below
      top = the-top m s t own.0 table key k.top k.below wrote.0 own.1 (λ e. subst IsEnding is e) k.topped

-- ---- one more version

-- what is in the frame with one more version on top
more-frame : (v : Version Change) (held : List (Version Change)) (cell : Option (Version Change)) (x : Version Change) → Either (InFrame held cell) (λ y. y ≡ v) x → InFrame (v ∷ held) cell x
more-frame v held cell x (inl (inl at)) = inl (inr at)
more-frame v held cell x (inl (inr is)) = inr is
more-frame v held cell x (inr same) = inl (inl same)

less-frame : (v : Version Change) (held : List (Version Change)) (cell : Option (Version Change)) (x : Version Change) → InFrame (v ∷ held) cell x → Either (InFrame held cell) (λ y. y ≡ v) x
less-frame v held cell x (inl (inl same)) = inr same
less-frame v held cell x (inl (inr at)) = inl (inl at)
less-frame v held cell x (inr is) = inl (inr is)

stores-frames : (covers : Version Change → Bool) (l : List (Version Change)) (Frame Other H : Version Change → Type 0) → ((x : Version Change) → Frame x → Other x) → ((x : Version Change) → Other x → Frame x)
    → Stores Older covers l Frame H → Stores Older covers l Other H
stores-frames covers l Frame Other H into from s = record {
  kept = record {
    within = λ x at. elim at [ inl frame ↦ s.kept.within x (inl (from x frame)) | inr record_of ↦ s.kept.within x (inr record_of) ];
    all = λ x at. elim (s.kept.all x at) [
      | inl one ↦ elim one [ inl frame ↦ inl (inl (into x frame)) | inr record_of ↦ inl (inr record_of) ]
      | inr covered ↦ inr covered
    ];
  };
  upper = λ x y frame there below. elim (s.upper x y (from x frame) there below) [ inl one ↦ inl (into y one) | inr covered ↦ inr covered ];
}

-- a version above all that stand joins the line and the frame
pub grown : (covers : Version Change → Bool) (v : Version Change) (held below : List (Version Change)) (cell : Option (Version Change)) (H : Version Change → Type 0) → Descends Older (v ∷ below) → Stores Older covers below (InFrame held cell) H
    → Stores Older covers (v ∷ below) (InFrame (v ∷ held) cell) H
grown covers v held below cell H d s = stores-frames covers (v ∷ below) (Either (InFrame held cell) (λ y. y ≡ v)) (InFrame (v ∷ held) cell) H (more-frame v held cell) (less-frame v held cell)
    (stores-commit Older covers below (InFrame held cell) H v older-order d s)

-- ---- the commit of a running transaction

committed-holds : (m : Machine) (s stamp : ℕ) (t : Transaction) (table : ℕ) (key : List ℕ) → transaction_of m s ≡ Some t → OthersEnding m s table key → NoneHolds (decided Running m s stamp stamp t) table key
committed-holds m s stamp t table key there alone r x wrote = elim (cases_eq r s) [
  | inl here ↦ let gone : None ≡ Some x = sym (taken m s t None there) ∙ subst (λ i. transaction_of (decided Running m s stamp stamp t) i ≡ Some x) here wrote.0 in absurd (cc)
  | inr other ↦ alone r x other (elsewhere m s None r x other wrote.0, wrote.1)
]

pub commits-stand : CommitsStand
commits-stand m s stamp t w table key older cell records valid there running own k = record {
  top = [];
  held = v ∷ k.held;
  below = v ∷ k.below;
  chained = ap (λ l. model_settled v ∷ l) rest;
  ordered = ((λ y at. over y (k.stores.kept.within y (inl (in-frame k.held cell y at)))), k.ordered);
  topped = subst (λ o. TopStands (of_some m (λ (x : Transaction). decided x.phase m s stamp stamp x) o) table key [] (v ∷ k.below)) (sym there)
      (subst (λ p. TopStands (decided p m s stamp stamp t) table key [] (v ∷ k.below)) (sym running) (
        line-of-writer m s stamp stamp t w table key (Commit (name_of m t) (stamped stamp stamp t.writes)) valid there own (line-writes (name_of m t) (stamped stamp stamp t.writes) m.history table key) ∙ ap (λ l. v ∷ l) whole,
        committed-holds m s stamp t table key there top.2.alone,
      ));
  stores = grown (covers next) v k.held k.below cell _ (over, subst (Descends Older) whole (line-descends m.history valid.orderly table key))
      (stores-covers Older (covers m) (covers next) k.below (InFrame k.held cell) _ (λ x at is. covers-after m (CommitAt s stamp stamp) table key x valid may (below-stands m table key k.top k.below k.topped x at) is) k.stores);
  layered = λ x at. let a = k.layered x at in
      (a.0, elim a.1 [ inl deep ↦ inl (inr deep) | inr is ↦ inr is ], ended-after m (CommitAt s stamp stamp) table key a.0 valid may (frame-stands m table key _ cell _ k a.0 a.1) a.2, a.3);
} where
  v : Version Change
  v = outcome m t w stamp stamp

  next : Machine
  next = after m (CommitAt s stamp stamp)

  may : Allowed m (CommitAt s stamp stamp)
  may = (t, there, subst (λ p. CommitsAt p stamp stamp) (sym running) refl)

  top : (x : ModelUpdate) × (k.top ≡ x ∷ []) × TopOf m s t w table key x k.below
  top = the-top m s t w table key k.top k.below there own (running-alive t running) k.topped

  parts : model_settled v ∷ map update_in older ≡ top.0 ∷ map model_settled k.held
  parts = subst (λ l. update_in (unmarked_update v) ∷ map update_in older ≡ l ++ map model_settled k.held) top.1 k.chained

  rest : map update_in older ≡ map model_settled k.held
  rest = let e = parts in cc

  first : model_settled v ≡ top.0
  first = let e = parts in cc

  over : (y : Version Change) → Member y k.below → Older y v
  over y at = subst (λ (x : ModelUpdate). Older y x.version) (sym first) (top.2.above y at)

  whole : line m.history table key ≡ k.below
  whole = running-rest t (name_of m t) top.0 (line m.history table key) k.below running top.2.rest
