-- What is done to the newest update of a chain that stands for its key.
use Rattle.std.proofs.Common.{◌≡◌, ◌≢◌, ℕ, refl, ap, sym, ◌∙◌, true, false, List, [], ◌∷◌, ◌++◌, length, inl, inr, subst, map}
use Rattle.std.specs.Prelude.{Option, Some, None, if◌then◌else◌}
use Rattle.std.specs.Option.{option_to_list}
use Rattle.std.proofs.lemmas.Bool.{cases_Bool, both_ways}
use Rattle.item.specs.declared.Change.{Change}
use Rattle.stamp.specs.declared.Name.{Name}
use Rattle.stamp.specs.declared.Version.{Version}
use Rattle.kv_model.specs.Holds.{Member, Descends}
use Rattle.kv_model.specs.Ordered.{Older, NameBelow}
use Rattle.kv_model.specs.History.{Write, line, released, name_eq, writes_at}
use Rattle.kv_model.specs.Machine.{Machine, Transaction, Running, Resolving, Leaving, transaction_of, name_of}
use Rattle.kv_model.specs.Reads.{own_write}
use Rattle.kv_model.specs.Pending.{Update as ModelUpdate, settled, TopStands}
use Rattle.kv_model.specs.Valid.{Valid, PhaseStands}
use Rattle.kv_model.proofs.Capturing.{member-into}
use Rattle.kv_model.proofs.Finishing.{name_eq-refl, older-order}
use Rattle.kv_model.proofs.Ordering.{line-descends}
use Rattle.kv_model.proofs.OwnWrites.{at-own}
use Rattle.kv_model.proofs.Releases.{name_eq-same}
use Rattle.kv_model.proofs.Snapshots.{line-released}
use Rattle.update_chain.specs.declared.update.Update.{Update}
use Rattle.update_chain.specs.Updates.{update_in, unmarked_update, is_named, front_changed, marked, stamped, undone}
use Rattle.update_chain.specs.EventLaws.{StandsFor, IsUndone, outcome, MarksStand, StampsStand, UndosStand}
use Rattle.update_chain.proofs.Meeting.{back, below-cases}
use Rattle.update_chain.proofs.Reading.{part-within}
use Rattle.call_steps.specs.declared.edit.Edit.{Edit}
use Rattle.call_steps.specs.declared.edit.Edit.TheVariants as edit
use Rattle.call_steps.specs.Leaves.{edited}
use Rattle.engine_world.specs.Leaves.{HasEdit, AllHave}

-- the versions of the name that stand have it
abbrev pub LineHas : Edit → Machine → Name → ℕ → List ℕ → Type 0
LineHas e m name table key = (v : Version Change) → Member v (line m.history table key) → v.window.name ≡ name → HasEdit e (unmarked_update v)

-- ---- names

same-name : (x y : Name) → name_eq x y ≡ true → x ≡ y
same-name x y e = let p = name_eq-same x y e in ap (λ n. record { run = n; id = x.id }) p.0 ∙ ap (λ n. record { run = y.run; id = n }) p.1

named-apart : (x y : Version Change) → x.window.name ≡ y.window.name → Older x y → ⊥
named-apart x y e below = older-order.irrefl y (subst (λ n. NameBelow n y.window.name) e below)

-- of a name there is one version
same-named : (l : List (Version Change)) (x y : Version Change) → Descends Older l → Member x l → Member y l → x.window.name ≡ y.window.name → x ≡ y
same-named [] x y d at there e = absurd at
same-named (z ∷ l) x y d (inl a) (inl b) e = a ∙ sym b
same-named (z ∷ l) x y d (inl a) (inr b) e = absurd (named-apart y z (sym e ∙ ap (λ (v : Version Change). v.window.name) a) (d.0 y b))
same-named (z ∷ l) x y d (inr a) (inl b) e = absurd (named-apart x z (e ∙ ap (λ (v : Version Change). v.window.name) b) (d.0 x a))
same-named (z ∷ l) x y d (inr a) (inr b) e = same-named l x y d.1 a b e

-- ---- below the newest update

-- what lies below the top stands
below-stands : (m : Machine) (table : ℕ) (key : List ℕ) (top : List ModelUpdate) (below : List (Version Change)) → TopStands m table key top below → (v : Version Change) → Member v below → Member v (line m.history table key)
below-stands m table key [] below topped v at = subst (Member v) (sym topped.0) at
below-stands m table key (u ∷ []) below q v at = part-within (line m.history table key) below (below-cases q.transaction.phase (name_of m q.transaction) u (line m.history table key) below q.rest) v at
below-stands m table key (u ∷ (w ∷ rest)) below topped v at = absurd topped

settled-in : (chain : List Update) (held : List (Version Change)) → map update_in chain ≡ map settled held → (x : Update) → Member x chain → (v : Version Change) × Member v held × (update_in x ≡ settled v)
settled-in [] held e x at = absurd at
settled-in (u ∷ chain) [] e x at = absurd (cc)
settled-in (u ∷ chain) (v ∷ held) e x (inl same) = let first : update_in u ≡ settled v = cc in (v, inl refl, ap update_in same ∙ first)
settled-in (u ∷ chain) (v ∷ held) e x (inr later) = let rest : map update_in chain ≡ map settled held = cc in let found = settled-in chain held rest x later in (found.0, inr found.1, found.2)

-- each is a version that is held
below-front : (m : Machine) (table : ℕ) (key : List ℕ) (u : Update) (older : List Update) (top : List ModelUpdate) (held below : List (Version Change)) → update_in u ∷ map update_in older ≡ top ++ map settled held → TopStands m table key top below
    → (x : Update) → Member x older → (v : Version Change) × Member v held × (update_in x ≡ settled v)
below-front m table key u older [] [] below e topped x at = absurd (cc)
below-front m table key u older [] (v ∷ held) below e topped x at = let rest : map update_in older ≡ map settled held = cc in let found = settled-in older held rest x at in (found.0, inr found.1, found.2)
below-front m table key u older (y ∷ []) held below e topped x at = let rest : map update_in older ≡ map settled held = cc in settled-in older held rest x at
below-front m table key u older (y ∷ (z ∷ more)) held below e topped x at = absurd topped

below-have : (e : Edit) (m : Machine) (name : Name) (table : ℕ) (key : List ℕ) (u : Update) (older : List Update) (row : Option (Version Change)) → LineHas e m name table key → StandsFor m table key (u ∷ older) row [] → AllHave e name older
below-have e m name table key u older row has k x at named = let found = below-front m table key u older k.top k.held k.below k.chained k.topped x at in
    let same : x ≡ unmarked_update found.0 = ap back found.2 in
    subst (HasEdit e) (sym same) (has found.0 (below-stands m table key k.top k.below k.topped found.0 (k.stores.kept.within found.0 (inl (inl found.1)))) (sym (ap (λ (y : ModelUpdate). y.version.window.name) found.2) ∙ named))

-- ---- the edit

named-is : (name : Name) (u : Update) → u.version.window.name ≡ name → is_named name u ≡ true
named-is name u e = ap (λ n. name_eq n name) e ∙ name_eq-refl name

not-named : (e : Edit) (name : Name) (u x : Update) → is_named name u ≡ false → x ≡ u → x.version.window.name ≡ name → HasEdit e x
not-named e name u x isnt same named = absurd (both_ways (is_named name u) isnt (named-is name u (sym (ap (λ (y : Update). y.version.window.name) same) ∙ named)))

front-have : (e : Edit) (name : Name) (change : Update → Update) (u : Update) (older : List Update) → HasEdit e (change u) → AllHave e name older → AllHave e name (front_changed name change (u ∷ older))
front-have e name change u older has rest = elim (cases_Bool (is_named name u)) [
  | inl is ↦ subst (λ b. AllHave e name ((if b then change u else u) ∷ older)) (sym is) (λ x at named. elim at [ inl same ↦ subst (HasEdit e) (sym same) has | inr later ↦ rest x later named ])
  | inr isnt ↦ subst (λ b. AllHave e name ((if b then change u else u) ∷ older)) (sym isnt) (λ x at named. elim at [ inl same ↦ not-named e name u x isnt same named | inr later ↦ rest x later named ])
]

undone-have : (name : Name) (u : Update) (older : List Update) → AllHave edit.Undo name older → AllHave edit.Undo name (undone name (u ∷ older))
undone-have name u older rest = elim (cases_Bool (is_named name u)) [
  | inl is ↦ subst (λ b. AllHave edit.Undo name (if b then older else u ∷ older)) (sym is) rest
  | inr isnt ↦ subst (λ b. AllHave edit.Undo name (if b then older else u ∷ older)) (sym isnt) (λ x at named. elim at [ inl same ↦ not-named edit.Undo name u x isnt same named | inr later ↦ rest x later named ])
]

-- afterwards each update of the name has it
pub edited-have : (e : Edit) (m : Machine) (name : Name) (table : ℕ) (key : List ℕ) (chain : List Update) (row : Option (Version Change)) → LineHas e m name table key → StandsFor m table key chain row [] → AllHave e name (edited name e chain)
edited-have (edit.Mark stamp) m name table key [] row has k = λ x at named. absurd at
edited-have (edit.Mark stamp) m name table key (u ∷ older) row has k = front-have (edit.Mark stamp) name (marked stamp) u older refl (below-have (edit.Mark stamp) m name table key u older row has k)
edited-have (edit.Stamp commit durable) m name table key [] row has k = λ x at named. absurd at
edited-have (edit.Stamp commit durable) m name table key (u ∷ older) row has k =
    front-have (edit.Stamp commit durable) name (stamped commit durable) u older (refl, (refl, refl)) (below-have (edit.Stamp commit durable) m name table key u older row has k)
edited-have edit.Undo m name table key [] row has k = λ x at named. absurd at
edited-have edit.Undo m name table key (u ∷ older) row has k = undone-have name u older (below-have edit.Undo m name table key u older row has k)

-- ---- it brings no update of another name

front-brings : (name : Name) (change : Update → Update) (names : (u : Update) → (change u).version.window.name ≡ u.version.window.name) (u : Update) (older : List Update) (x : Update)
    → Member x (front_changed name change (u ∷ older)) → x.version.window.name ≢ name → Member x (u ∷ older)
front-brings name change names u older x at other = elim (cases_Bool (is_named name u)) [
  | inl is ↦ elim (subst (λ b. Member x ((if b then change u else u) ∷ older)) is at) [
    | inl same ↦ absurd (other (ap (λ (y : Update). y.version.window.name) same ∙ (names u ∙ same-name u.version.window.name name is)))
    | inr later ↦ inr later
  ]
  | inr isnt ↦ subst (λ b. Member x ((if b then change u else u) ∷ older)) isnt at
]

pub edited-brings : (e : Edit) (name : Name) (chain : List Update) (x : Update) → Member x (edited name e chain) → x.version.window.name ≢ name → Member x chain
edited-brings (edit.Mark stamp) name [] x at other = absurd at
edited-brings (edit.Mark stamp) name (u ∷ older) x at other = front-brings name (marked stamp) (λ u. refl) u older x at other
edited-brings (edit.Stamp commit durable) name [] x at other = absurd at
edited-brings (edit.Stamp commit durable) name (u ∷ older) x at other = front-brings name (stamped commit durable) (λ u. refl) u older x at other
edited-brings edit.Undo name [] x at other = absurd at
edited-brings edit.Undo name (u ∷ older) x at other = elim (cases_Bool (is_named name u)) [
  | inl is ↦ inr (subst (λ b. Member x (if b then older else u ∷ older)) is at)
  | inr isnt ↦ subst (λ b. Member x (if b then older else u ∷ older)) isnt at
]

-- ---- what a transaction may do to the keys that it wrote

-- the chains of its keys stand after it, and each update of its name has it
pub record Edits (e : Edit) (m : Machine) (t : Transaction) : Type 0 where
  pub stands : (w : Write) → Member w t.writes → (chain : List Update) (row : Option (Version Change)) → StandsFor m w.table w.key chain row [] → StandsFor m w.table w.key (edited (name_of m t) e chain) row []
  pub has : (w : Write) → Member w t.writes → LineHas e m (name_of m t) w.table w.key

in-option : (w : Write) (o : Option Write) → Member w (option_to_list o) → o ≡ Some w
in-option w None at = absurd at
in-option w (Some x) (inl same) = ap Some (sym same)
in-option w (Some x) (inr later) = absurd later

pub own-of : (m : Machine) (s : ℕ) (t : Transaction) (w : Write) → Valid m → transaction_of m s ≡ Some t → Member w t.writes → own_write t w.table w.key ≡ Some w
own-of m s t w valid there at = in-option w (own_write t w.table w.key)
    (subst (Member w) ((valid.sessions.each s t there).single w.table w.key) (member-into (writes_at w.table w.key) t.writes w at (at-own w)))

-- no version of a name that was not released stands
unreleased-has : (e : Edit) (m : Machine) (name : Name) (table : ℕ) (key : List ℕ) → Valid m → released m.history (length m.history) name ≡ false → LineHas e m name table key
unreleased-has e m name table key valid none v at named = absurd (both_ways (released m.history (length m.history) name) none
    (subst (λ n. released m.history (length m.history) n ≡ true) named (line-released m.history valid.orderly table key v at)))

running-none : (m : Machine) (s : ℕ) (t : Transaction) → Valid m → transaction_of m s ≡ Some t → t.phase ≡ Running → released m.history (length m.history) (name_of m t) ≡ false
running-none m s t valid there running = subst (λ p. PhaseStands p m.history (name_of m t) t) running (valid.sessions.each s t there).phase

leaving-none : (m : Machine) (s : ℕ) (t : Transaction) → Valid m → transaction_of m s ≡ Some t → t.phase ≡ Leaving → released m.history (length m.history) (name_of m t) ≡ false
leaving-none m s t valid there leaving = subst (λ p. PhaseStands p m.history (name_of m t) t) leaving (valid.sessions.each s t there).phase

pub marks-edit : MarksStand → (m : Machine) (s : ℕ) (t : Transaction) (stamp : ℕ) → Valid m → transaction_of m s ≡ Some t → t.phase ≡ Running → Edits (edit.Mark stamp) m t
marks-edit marks-stand m s t stamp valid there running = record {
  stands = λ w at chain row k. (marks-stand m s t w.table w.key chain row [] stamp 0 0 valid there running k).0;
  has = λ w at. unreleased-has (edit.Mark stamp) m (name_of m t) w.table w.key valid (running-none m s t valid there running);
}

pub stamps-edit : MarksStand → (m : Machine) (s : ℕ) (t : Transaction) (commit durable : ℕ) → Valid m → transaction_of m s ≡ Some t → t.phase ≡ Running → Edits (edit.Stamp commit durable) m t
stamps-edit marks-stand m s t commit durable valid there running = record {
  stands = λ w at chain row k. (marks-stand m s t w.table w.key chain row [] 0 commit durable valid there running k).1;
  has = λ w at. unreleased-has (edit.Stamp commit durable) m (name_of m t) w.table w.key valid (running-none m s t valid there running);
}

pub resolved-edit : StampsStand → (m : Machine) (s : ℕ) (t : Transaction) (commit durable : ℕ) → Valid m → transaction_of m s ≡ Some t → t.phase ≡ Resolving
    → ((w : Write) → Member w t.writes → Member (outcome m t w commit durable) (line m.history w.table w.key)) → Edits (edit.Stamp commit durable) m t
resolved-edit stamps-stand m s t commit durable valid there resolving committed = record {
  stands = λ w at chain row k. stamps-stand m s t w w.table w.key chain row [] commit durable valid there resolving (own-of m s t w valid there at) (committed w at) k;
  has = λ w at v in_line named.
      let same : v ≡ outcome m t w commit durable = same-named (line m.history w.table w.key) v (outcome m t w commit durable) (line-descends m.history valid.orderly w.table w.key) in_line (committed w at) named in
      (ap (λ (x : Version Change). x.window.commit) same, (ap (λ (x : Version Change). x.window.durable) same, refl));
}

undone-has : (m : Machine) (s : ℕ) (t : Transaction) (table : ℕ) (key : List ℕ) → Valid m → transaction_of m s ≡ Some t → IsUndone m t table key → LineHas edit.Undo m (name_of m t) table key
undone-has m s t table key valid there (inl leaving) = unreleased-has edit.Undo m (name_of m t) table key valid (leaving-none m s t valid there leaving)
undone-has m s t table key valid there (inr resolving) = λ v at named. resolving.1 v at named

pub undos-edit : UndosStand → (m : Machine) (s : ℕ) (t : Transaction) → Valid m → transaction_of m s ≡ Some t → ((w : Write) → Member w t.writes → IsUndone m t w.table w.key) → Edits edit.Undo m t
undos-edit undos-stand m s t valid there undone = record {
  stands = λ w at chain row k. undos-stand m s t w.table w.key chain row [] valid there (undone w at) k;
  has = λ w at. undone-has m s t w.table w.key valid there (undone w at);
}
