-- What the running checkpoint holds of a key: of a leaf in no frame as it lies there, and at each event that comes.
use Rattle.std.proofs.Common.{◌≡◌, ◌⊎◌, ◌≤◌, ℕ, refl, ap, sym, ◌∙◌, Bool, true, false, ◌||◌, List, [], ◌∷◌, ◌++◌, length, inl, inr, subst, arith, map, length-append}
use Rattle.std.specs.Prelude.{Option, Some, None, filter, nat_lt}
use Rattle.std.proofs.lemmas.Bool.{both_ways, and_right, le-ltb}
use Rattle.item.specs.declared.Change.{Change}
use Rattle.stamp.specs.declared.Name.{Name}
use Rattle.stamp.specs.declared.Version.{Version}
use Rattle.kv_model.specs.Holds.{Member, Picks}
use Rattle.kv_model.specs.Ordered.{Older}
use Rattle.kv_model.specs.History.{Entry, line, released, committed, ends, is_by, version_of, writes_at}
use Rattle.kv_model.specs.Machine.{Machine, Transaction, Phase, Running, Failed, Prepared, Resolving, Leaving, Checkpoint, transaction_of, name_of, after, stamped}
use Rattle.kv_model.specs.Allowed.{Allowed, CommitsAt}
use Rattle.kv_model.specs.Captures.{In, Captured, CapturedIn, is_in}
use Rattle.kv_model.specs.Droppable.{covers}
use Rattle.kv_model.specs.Reconciling.{each_one}
use Rattle.kv_model.specs.ReconcileLaws.{LeafIsHeld, CapturesGoOn, PrefixesBegin, PrefixesGoOn}
use Rattle.kv_model.specs.StoreLaws.{Held}
use Rattle.kv_model.specs.Valid.{Valid, PhaseStands}
use Rattle.kv_model.proofs.Releases.{false-from, committed-whole, committed-released}
use Rattle.kv_model.proofs.Snapshots.{line-released}
use Rattle.kv_model.proofs.Ordering.{line-descends}
use Rattle.kv_model.proofs.Capturing.{captured-from}
use Rattle.kv_model.proofs.Finishing.{line-committed, member-append, covers-checkpoint, older-order, named-so}
use Rattle.kv_model.proofs.StoreSteps.{captured-grow}
use Rattle.kv_model.proofs.StoreLists.{older-trans}
use Rattle.kv_model.proofs.Onward.{Grew, history-grew}
use Rattle.kv_model.proofs.MarkedKeys.{ended-rests, Rests, rest-parts}

-- ---- a leaf in no frame

picks-cell : (cell : Option (Version Change)) → Picks Older (In cell) each_one cell
picks-cell None = λ x is lives. absurd (cc)
picks-cell (Some v) = record { held = refl; passes = refl; newest = λ y is lives. inl (let same : v ≡ y = cc in sym same) }

pub leaf-is-held : LeafIsHeld
leaf-is-held m c table key cell records valid runs k = held (captured-from Older (covers m) each_one each_one none (is_in m.history c.prefix) (is_by c.oldest) (line m.history table key) (In cell) (Held records) cell nothing older-order older-trans
    (line-descends m.history valid.orderly table key) rests.stores
    (λ v h. let w = rests.layered v h in (w.0, w.1, refl, w.3)) (λ v is. is) (λ v there sees. refl) (λ v is. covers-checkpoint m c v runs is) (λ v there is. absurd (cc))
    (record { newest = picks-cell cell; moved = λ v h. absurd h; all = λ v is lives. inl is })) where
      none : Version Change → Bool
      none v = false

      nothing : Version Change → Type 0
      nothing v = ⊥

      rests : Rests m table key cell (Held records)
      rests = rest-parts m table key cell (Held records) k

      held : Captured Older (is_in m.history c.prefix) (is_by c.oldest) (line m.history table key) cell (λ v. Held records v ⊎ nothing v) → CapturedIn m c table key cell (Held records)
      held k = record {
        cell_there = k.cell_there;
        within = λ v h. k.within v (inl h);
        all = λ v there sees. elim (k.all v there sees) [
          | inl at ↦ elim at [ inl is ↦ inl (inl is) | inr h ↦ elim h [ inl old ↦ inl (inr old) | inr bad ↦ absurd bad ] ]
          | inr covered ↦ inr covered
        ];
        top = k.top;
      }

-- ---- an event

committed-later : (entry : Entry) (history : List Entry) (n : ℕ) (x : Name) → n ≤ length history → committed (entry ∷ history) n x ≡ committed history n x
committed-later entry history n x le = ap (λ b. b || committed history n x) (and_right (ends entry x) (nat_lt (length history) n) (le-ltb (length history) n le))

prefix-low : (m : Machine) (c : Checkpoint) → Valid m → m.checkpoint ≡ Some c → c.prefix ≤ length m.history
prefix-low m c valid runs = let stands = valid.checkpoint c runs in let prefix = stands.prefix in let whole = ap length stands.whole in let sum = length-append stands.news stands.start in omega arith

-- who commits now is not committed in the prefix
uncommitted : (m : Machine) (s : ℕ) (t : Transaction) (commit durable n : ℕ) → Valid m → transaction_of m s ≡ Some t → CommitsAt t.phase commit durable → committed m.history n (name_of m t) ≡ false
uncommitted m s t commit durable n valid there fits = by-phase t.phase fits (valid.sessions.each s t there).phase where
  by-phase : (p : Phase) → CommitsAt p commit durable → PhaseStands p m.history (name_of m t) t → committed m.history n (name_of m t) ≡ false
  by-phase Running fits stands = false-from (committed m.history n (name_of m t)) (λ e. both_ways _ stands (committed-released m.history valid.orderly n (name_of m t) e))
  by-phase (Prepared p) fits stands = false-from (committed m.history n (name_of m t)) (λ e. both_ways _ stands.uncommitted (committed-whole m.history n (name_of m t) e))
  by-phase Failed fits stands = absurd fits
  by-phase Resolving fits stands = absurd fits
  by-phase Leaving fits stands = absurd fits

pub captures-go-on : CapturesGoOn
captures-go-on m c event table key image records valid may runs k = elim (history-grew m event valid may) [
  | inl same ↦ subst Holds (sym same) k
  | inr more ↦ elim more [
    | inl q ↦ subst Holds (sym q.is) (grows q.entry [] (sym (q.lines table key)) (λ v none. absurd none))
    | inr rest ↦ elim rest [
      | inl d ↦ subst Holds (sym d.is) (grows d.entry (map (version_of (name_of m d.transaction)) (filter (writes_at table key) (stamped d.commit d.durable d.transaction.writes))) (sym (d.lines table key))
          (λ v new. subst (λ x. committed m.history c.prefix x ≡ false) (sym (named-so (name_of m d.transaction) (filter (writes_at table key) (stamped d.commit d.durable d.transaction.writes)) v new))
          (uncommitted m d.session d.transaction d.commit d.durable c.prefix valid d.there d.may)))
      | inr is ↦ let quiet = (subst (Allowed m) is may).1 in absurd (cc)
    ]
  ]
] where
  Holds : List Entry → Type 0
  Holds history = Captured Older (is_in history c.prefix) (is_by c.oldest) (line history table key) image (Held records)

  low : c.prefix ≤ length m.history
  low = prefix-low m c valid runs

  grows : (entry : Entry) (new : List (Version Change)) → new ++ line m.history table key ≡ line (entry ∷ m.history) table key → ((v : Version Change) → Member v new → is_in m.history c.prefix v ≡ false) → Holds (entry ∷ m.history)
  grows entry new lines unseen = subst (λ l. Captured Older (is_in (entry ∷ m.history) c.prefix) (is_by c.oldest) l image (Held records)) lines
      (captured-grow Older (is_in m.history c.prefix) (is_in (entry ∷ m.history) c.prefix) (is_by c.oldest) new (line m.history table key) image (Held records)
      (λ v. committed-later entry m.history c.prefix v.window.name low) unseen k)

-- ---- the prefix

-- who has not ended, and is not resolving, has no version that stands
unended : (m : Machine) (s : ℕ) (t : Transaction) (table : ℕ) (key : List ℕ) (v : Version Change) → Valid m → transaction_of m s ≡ Some t → (t.phase ≡ Resolving → ⊥) → Member v (line m.history table key) → v.window.name ≡ name_of m t → ⊥
unended m s t table key v valid there busy at named = by-phase t.phase busy (valid.sessions.each s t there).phase where
  out : released m.history (length m.history) (name_of m t) ≡ true
  out = subst (λ x. released m.history (length m.history) x ≡ true) named (line-released m.history valid.orderly table key v at)

  by-phase : (p : Phase) → (p ≡ Resolving → ⊥) → PhaseStands p m.history (name_of m t) t → ⊥
  by-phase Running busy stands = both_ways _ stands out
  by-phase Failed busy stands = both_ways _ stands out
  by-phase Leaving busy stands = both_ways _ stands out
  by-phase Resolving busy stands = busy refl
  by-phase (Prepared p) busy stands = both_ways _ stands.uncommitted (subst (λ x. committed m.history (length m.history) x ≡ true) named (line-committed m.history table key v at))

pub prefixes-begin : PrefixesBegin
prefixes-begin m c valid may runs table key v at is s t there named = unended m s t table key v valid there (may.1 s t there) at named

pub prefixes-go-on : PrefixesGoOn
prefixes-go-on m c event valid may runs ended table key v at is = let old = before (history-grew m event valid may) in
    ended-rests m event v.window.name valid may (valid.names v.window.name (line-released m.history valid.orderly table key v old.0)) (ended table key v old.0 old.1) where
      low : c.prefix ≤ length m.history
      low = prefix-low m c valid runs

      later : (entry : Entry) → (after m event).history ≡ entry ∷ m.history → is_in m.history c.prefix v ≡ true
      later entry grew = sym (committed-later entry m.history c.prefix v.window.name low) ∙ subst (λ h. committed h c.prefix v.window.name ≡ true) grew is

      before : Grew m event (after m event).history → Member v (line m.history table key) × (is_in m.history c.prefix v ≡ true)
      before (inl same) = (subst (λ h. Member v (line h table key)) same at, subst (λ h. committed h c.prefix v.window.name ≡ true) same is)
      before (inr (inl q)) = (subst (λ l. Member v l) (q.lines table key) (subst (λ h. Member v (line h table key)) q.is at), later q.entry q.is)
      before (inr (inr (inl d))) = elim (member-append v (map (version_of (name_of m d.transaction)) (filter (writes_at table key) (stamped d.commit d.durable d.transaction.writes))) (line m.history table key)
          (subst (λ l. Member v l) (d.lines table key) (subst (λ h. Member v (line h table key)) d.is at))) [
            | inl new ↦ absurd (both_ways (is_in m.history c.prefix v) (subst (λ x. committed m.history c.prefix x ≡ false) (sym (named-so (name_of m d.transaction) (filter (writes_at table key) (stamped d.commit d.durable d.transaction.writes)) v new))
                (uncommitted m d.session d.transaction d.commit d.durable c.prefix valid d.there d.may)) (later d.entry d.is))
            | inr old ↦ (old, later d.entry d.is)
          ]
      before (inr (inr (inr back))) = let quiet = (subst (Allowed m) back may).1 in absurd (cc)
