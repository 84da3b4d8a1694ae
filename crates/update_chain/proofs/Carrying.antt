-- A chain that stands for its key, over another machine.
use Rattle.std.proofs.Common.{◌≡◌, ◌≢◌, ℕ, refl, ap, sym, ◌∙◌, true, List, [], ◌∷◌, ◌++◌, inl, inr, subst, map}
use Rattle.std.specs.Prelude.{Option, Some, None, slice_index_or, slice_set}
use Rattle.std.proofs.lemmas.Bool.{cases_eq}
use Rattle.std.proofs.lemmas.List.{get_or-set_same, get_or-set_other}
use Rattle.item.specs.declared.Change.{Change}
use Rattle.stamp.specs.declared.Name.{Name}
use Rattle.stamp.specs.declared.Version.{Version}
use Rattle.kv_model.specs.Ordered.{Older}
use Rattle.kv_model.specs.History.{Entry, line}
use Rattle.kv_model.specs.Machine.{Machine, Transaction, Phase, Running, Failed, Prepared, Resolving, Leaving, Event, transaction_of, name_of, name_in, after}
use Rattle.kv_model.specs.Droppable.{covers}
use Rattle.kv_model.specs.Reads.{own_write, is_own, Wrote, IsEnding, OthersEnding, PreparedAt}
use Rattle.kv_model.specs.Allowed.{Allowed}
use Rattle.kv_model.specs.Valid.{Valid}
use Rattle.kv_model.specs.Pending.{Update as ModelUpdate, settled, MarkStands, BelowStands, TopStands, KeyStands, InFrame}
use Rattle.kv_model.proofs.Living.{stores-covers}
use Rattle.kv_model.proofs.Pins.{covers-after}
use Rattle.kv_model.proofs.Seats.{seat-inside}
use Rattle.update_chain.proofs.Ended.{ended-after}
use Rattle.update_chain.proofs.Tops.{below-stands, frame-stands}

-- an event leaves all but the top, which has to stand
pub carried-top : (m : Machine) (event : Event) (table : ℕ) (key : List ℕ) (chain : List ModelUpdate) (cell : Option (Version Change)) (H : Version Change → Type 0) → Valid m → Allowed m event
    → (k : KeyStands m table key chain cell H) → (top : List ModelUpdate) → TopStands (after m event) table key top k.below → KeyStands (after m event) table key (top ++ map settled k.held) cell H
carried-top m event table key chain cell H valid may k top topped = record {
  top = top;
  held = k.held;
  below = k.below;
  chained = refl;
  ordered = k.ordered;
  topped = topped;
  stores = stores-covers Older (covers m) (covers (after m event)) k.below (InFrame k.held cell) H
      (λ v at is. covers-after m event table key v valid may (below-stands m table key k.top k.below k.topped v at) is) k.stores;
  layered = λ v at. let a = k.layered v at in (a.0, a.1, ended-after m event table key a.0 valid may (frame-stands m table key chain cell H k a.0 a.1) a.2, a.3);
}

-- the same chain
pub carried : (m : Machine) (event : Event) (table : ℕ) (key : List ℕ) (chain : List ModelUpdate) (cell : Option (Version Change)) (H : Version Change → Type 0) → Valid m → Allowed m event
    → (k : KeyStands m table key chain cell H) → TopStands (after m event) table key k.top k.below → KeyStands (after m event) table key chain cell H
carried m event table key chain cell H valid may k topped = subst (λ c. KeyStands (after m event) table key c cell H) (sym k.chained) (carried-top m event table key chain cell H valid may k k.top topped)

-- ---- a machine in which the key's line and those who wrote it are as before

-- what t was for the key, u is: it may have begun to end
pub record Follows (m next : Machine) (table : ℕ) (key : List ℕ) (t u : Transaction) : Type 0 where
  pub name : name_of next u ≡ name_of m t
  pub own : own_write u table key ≡ own_write t table key
  pub ending : IsEnding t.phase → IsEnding u.phase
  pub mark : (x : ModelUpdate) → MarkStands t.phase m.history (name_of m t) x → MarkStands u.phase next.history (name_of m t) x
  pub rest : (x : ModelUpdate) (below : List (Version Change)) → BelowStands t.phase (name_of m t) x (line m.history table key) below → BelowStands u.phase (name_of m t) x (line m.history table key) below

pub record Quiet (m next : Machine) (table : ℕ) (key : List ℕ) : Type 0 where
  pub lines : line next.history table key ≡ line m.history table key
  pub from : (s : ℕ) (u : Transaction) → Wrote next s table key u → (t : Transaction) × Wrote m s table key t × Follows m next table key t u
  pub into : (s : ℕ) (t : Transaction) → Wrote m s table key t → (u : Transaction) × (transaction_of next s ≡ Some u) × Follows m next table key t u

pub quiet-top : (m next : Machine) (table : ℕ) (key : List ℕ) (top : List ModelUpdate) (below : List (Version Change)) → Quiet m next table key → TopStands m table key top below → TopStands next table key top below
quiet-top m next table key [] below q topped = (q.lines ∙ topped.0, λ s u wrote. let f = q.from s u wrote in f.2.ending (topped.1 s f.0 f.1))
quiet-top m next table key (u ∷ []) below q topped = let i = q.into topped.session topped.transaction (topped.there, ap is_own topped.own) in record {
  session = topped.session;
  transaction = i.0;
  write = topped.write;
  there = i.1;
  own = i.2.own ∙ topped.own;
  name = topped.name ∙ sym i.2.name;
  change = topped.change;
  mark = subst (λ n. MarkStands i.0.phase next.history n u) (sym i.2.name) (i.2.mark u topped.mark);
  rest = subst (λ n. BelowStands i.0.phase n u (line next.history table key) below) (sym i.2.name)
      (subst (λ l. BelowStands i.0.phase (name_of m topped.transaction) u l below) (sym q.lines) (i.2.rest u below topped.rest));
  alone = λ r x other wrote. let f = q.from r x wrote in f.2.ending (topped.alone r f.0 other f.1);
  above = topped.above;
}
quiet-top m next table key (u ∷ (v ∷ rest)) below q topped = absurd topped

pub quiet-stands : (m : Machine) (event : Event) (table : ℕ) (key : List ℕ) (chain : List ModelUpdate) (cell : Option (Version Change)) (H : Version Change → Type 0) → Valid m → Allowed m event
    → Quiet m (after m event) table key → KeyStands m table key chain cell H → KeyStands (after m event) table key chain cell H
quiet-stands m event table key chain cell H valid may q k = carried m event table key chain cell H valid may k (quiet-top m (after m event) table key k.top k.below q k.topped)

-- ---- who is as before

-- its prepare goes on to be in the history
abbrev pub Remembers : List Entry → List Entry → Name → Type 0
Remembers history longer x = (stamp : ℕ) → PreparedAt history x stamp → PreparedAt longer x stamp

pub same-mark : (p : Phase) (history longer : List Entry) (x : Name) (u : ModelUpdate) → Remembers history longer x → MarkStands p history x u → MarkStands p longer x u
same-mark Running history longer x u known mark = mark
same-mark Failed history longer x u known mark = mark
same-mark Leaving history longer x u known mark = mark
same-mark (Prepared stamp) history longer x u known mark = mark
same-mark Resolving history longer x u known mark = (mark.0, known u.prepared mark.1)

pub unchanged : (m next : Machine) (table : ℕ) (key : List ℕ) (t : Transaction) → next.run ≡ m.run → Remembers m.history next.history (name_of m t) → Follows m next table key t t
unchanged m next table key t run known = record {
  name = ap (λ n. name_in n t) run;
  own = refl;
  ending = λ e. e;
  mark = λ x mark. same-mark t.phase m.history next.history (name_of m t) x known mark;
  rest = λ x below rest. rest;
}

pub all-quiet : (m next : Machine) (table : ℕ) (key : List ℕ) → next.run ≡ m.run → line next.history table key ≡ line m.history table key → ((r : ℕ) → transaction_of next r ≡ transaction_of m r)
    → ((x : Name) → Remembers m.history next.history x) → Quiet m next table key
all-quiet m next table key run lines seats known = record {
  lines = lines;
  from = λ s u wrote. (u, (sym (seats s) ∙ wrote.0, wrote.1), unchanged m next table key u run (known (name_of m u)));
  into = λ s t wrote. (t, seats s ∙ wrote.0, unchanged m next table key t run (known (name_of m t)));
}

-- the others are, and the history may have one entry more
pub record OthersSame (m next : Machine) (s : ℕ) (table : ℕ) (key : List ℕ) : Type 0 where
  pub run : next.run ≡ m.run
  pub lines : line next.history table key ≡ line m.history table key
  pub seats : (r : ℕ) → r ≢ s → transaction_of next r ≡ transaction_of m r
  pub known : (r : ℕ) (x : Transaction) → r ≢ s → transaction_of m r ≡ Some x → Remembers m.history next.history (name_of m x)

-- and so is the session's own transaction, if it wrote the key
pub seat-quiet : (m next : Machine) (s : ℕ) (table : ℕ) (key : List ℕ) → OthersSame m next s table key
    → ((u : Transaction) → Wrote next s table key u → (t : Transaction) × Wrote m s table key t × Follows m next table key t u)
    → ((t : Transaction) → Wrote m s table key t → (u : Transaction) × (transaction_of next s ≡ Some u) × Follows m next table key t u)
    → Quiet m next table key
seat-quiet m next s table key o from into = record {
  lines = o.lines;
  from = λ r u wrote. elim (cases_eq r s) [
    | inl here ↦ let f = from u (subst (λ i. transaction_of next i ≡ Some u) here wrote.0, wrote.1) in (f.0, (subst (λ i. transaction_of m i ≡ Some f.0) (sym here) f.1.0, f.1.1), f.2)
    | inr other ↦ let there : transaction_of m r ≡ Some u = sym (o.seats r other) ∙ wrote.0 in (u, (there, wrote.1), unchanged m next table key u o.run (o.known r u other there))
  ];
  into = λ r t wrote. elim (cases_eq r s) [
    | inl here ↦ let i = into t (subst (λ i. transaction_of m i ≡ Some t) here wrote.0, wrote.1) in (i.0, subst (λ j. transaction_of next j ≡ Some i.0) (sym here) i.1, i.2)
    | inr other ↦ (t, o.seats r other ∙ wrote.0, unchanged m next table key t o.run (o.known r t other wrote.0))
  ];
}

-- it did not write the key, before or now
pub silent : (m next : Machine) (s : ℕ) (table : ℕ) (key : List ℕ) → OthersSame m next s table key → ((t : Transaction) → Wrote m s table key t → ⊥) → ((u : Transaction) → Wrote next s table key u → ⊥) → Quiet m next table key
silent m next s table key o before now = seat-quiet m next s table key o (λ u wrote. absurd (now u wrote)) (λ t wrote. absurd (before t wrote))

-- it is this one, which follows that one
pub follower : (m next : Machine) (s : ℕ) (t u : Transaction) (table : ℕ) (key : List ℕ) → OthersSame m next s table key → transaction_of m s ≡ Some t → transaction_of next s ≡ Some u → Follows m next table key t u → Quiet m next table key
follower m next s t u table key o there now f = seat-quiet m next s table key o
    (λ x wrote. let same : u ≡ x = (let e : Some u ≡ Some x = sym now ∙ wrote.0 in cc) in
    (t, (there, ap is_own (sym f.own) ∙ subst (λ z. is_own (own_write z table key) ≡ true) (sym same) wrote.1), subst (Follows m next table key t) same f))
    (λ x wrote. let same : t ≡ x = (let e : Some t ≡ Some x = sym there ∙ wrote.0 in cc) in (u, now, subst (λ z. Follows m next table key z u) same f))

-- ---- what a machine has with another transaction in one seat

pub taken : (m : Machine) (s : ℕ) (t : Transaction) (o : Option Transaction) → transaction_of m s ≡ Some t → slice_index_or (slice_set m.sessions s o) s None ≡ o
taken m s t o there = get_or-set_same m.sessions s o None (seat-inside m.sessions s t there)

-- who sits elsewhere was there
pub elsewhere : (m : Machine) (s : ℕ) (o : Option Transaction) (r : ℕ) (x : Transaction) → r ≢ s → slice_index_or (slice_set m.sessions s o) r None ≡ Some x → transaction_of m r ≡ Some x
elsewhere m s o r x other at = sym (get_or-set_other m.sessions s r o None other) ∙ at

-- the others go on to end
pub others-ending : (m next : Machine) (s : ℕ) (table : ℕ) (key : List ℕ) → ((r : ℕ) (x : Transaction) → r ≢ s → transaction_of next r ≡ Some x → transaction_of m r ≡ Some x) → OthersEnding m s table key → OthersEnding next s table key
others-ending m next s table key old alone r x other wrote = alone r x other (old r x other wrote.0, wrote.1)
