-- The events of a create and of a set, over the data of an engine.
use Rattle.std.proofs.Common.{◌≡◌, ◌≢◌, ◌+◌, ◌<◌, ℕ, refl, ap, sym, ◌∙◌, Bool, true, false, not, List, [], ◌∷◌, ◌++◌, length, inl, inr, subst, arith}
use Rattle.std.specs.Prelude.{Option, Some, None, Result, Ok, Err, ◌&&◌, ◌==◌, max, nat_le, nat_lt, slice_get, if◌then◌else◌, slice_set}
use Rattle.std.specs.List.{Contains}
use Rattle.std.proofs.lemmas.Bool.{cases_eq, leb-false, ltb-false, ne_eqb}
use Rattle.std.proofs.lemmas.List.{length-append}
use Rattle.limits.specs.declared.TheConstants.{TABLES_MAX}
use Rattle.failure.specs.declared.Fault.{Fault}
use Rattle.item.specs.declared.Formats.{Formats}
use Rattle.wt_code.specs.declared.answers.Answer.TheVariants as answers
use Rattle.wt_code.specs.declared.refusals.Refusal.{Refusal}
use Rattle.wt_code.specs.declared.refusals.Refusal.TheVariants as refusal
use Rattle.wt_code.specs.declared.refusals.Invalid.{Invalid}
use Rattle.wt_code.specs.declared.refusals.Invalid.TheVariants as why
use Rattle.wt_code.specs.declared.refusals.Limit.TheVariants as counted
use Rattle.kv_model.specs.Allowed.{StampsFit}
use Rattle.kv_model.specs.Calls.{Create, Set, IsTableFor}
use Rattle.kv_model.specs.Decisions.{Outcome, Done, Refused, CreateCall, SetCall, checked, create_decision, decision, is_name, judged, refused, ruled, same_formats, while_up}
use Rattle.kv_model.specs.History.{Table, named}
use Rattle.kv_model.specs.Machine.{Machine, Event, CreateTable, Nothing, SetStamps, after, of_some}
use Rattle.kv_model.specs.Refusals.{first_of, set_rules, stamp_of}
use Rattle.tree_dir.specs.declared.leaf.Leaf.{Leaf}
use Rattle.tree_dir.specs.Leaves.{Directory, IsDirectory}
use Rattle.ts_rules.specs.Rules.{answer_by, raised}
use Rattle.ts_rules.specs.declared.stamps.Stamps.{Stamps}
use Rattle.catalog.specs.Creates.{IsCreated, IsRefused, asked, decided}
use Rattle.catalog.specs.Known.{AreTables, Known}
use Rattle.catalog.specs.Laws.{CreatesAreJudged, CreatesSuit}
use Rattle.catalog.specs.declared.created.Created.TheVariants.{New}
use Rattle.call_steps.specs.declared.frame.FramePiece.{FramePiece}
use Rattle.call_steps.specs.Tables.{filled}
use Rattle.engine_world.specs.Leaves.{LeavesOwned}
use Rattle.engine_world.specs.Stands.{Engine, Stands}
use Rattle.engine_world.specs.Systems.{CreatesGo, FramesGrow, HasFirstLeaf, SetsGo, first_piece, with_frame}
use Rattle.engine_world.specs.Worlds.{World}
use Rattle.engine_world.proofs.Appended.{append-keeps, append-last}
use Rattle.engine_world.proofs.NewLeaf.{IsCome, come-cases, comes, new_leaf}
use Rattle.engine.specs.Sound.{IsSound}
use Rattle.engine.specs.Systems.{Makes}
use Rattle.engine.proofs.FramesMore.{generation-first, frame-none, one-more, piece-within, pieces-last, states-last, word-within}
use Rattle.engine.proofs.LeafSizes.{filled-fits, leaves-more}
use Rattle.engine.proofs.Numbers.{number-below}
use Rattle.engine.proofs.Soundness.{seated-with}

-- ---- a fault comes first

while-down : (m : Machine) (go : Outcome × Event) (fault : Fault) → m.fault ≡ Some fault → while_up m go ≡ refused (refusal.Panic fault)
while-down m go fault is = ap (λ (o : Option Fault). of_some go (λ f. refused (refusal.Panic f)) o) is

while-well : (m : Machine) (go : Outcome × Event) → m.fault ≡ None → while_up m go ≡ go
while-well m go is = ap (λ (o : Option Fault). of_some go (λ f. refused (refusal.Panic f)) o) is

-- ---- create

pub record CreateLaws : Type 0 where
  pub goes : CreatesGo
  pub judged_as : CreatesAreJudged
  pub suits : CreatesSuit

-- the table that a create would make
abbrev table_in : Engine → List ℕ → Formats → Table
table_in e name formats = asked e.hub.tables name formats

table-suits : CreateLaws → (e : Engine) (w : World) (name : List ℕ) (formats : Formats) → Stands e w → IsTableFor w.machine name formats (table_in e name formats)
table-suits laws e w name formats st = laws.suits w.machine e.hub.tables name formats st.catalog st.made

-- what the machine decides is what the catalog does
decision-is : CreateLaws → (e : Engine) (w : World) (name : List ℕ) (formats : Formats) → Stands e w → e.hub.fault ≡ None
    → decision w.machine 0 (CreateCall (table_in e name formats)) ≡ decided e.hub.tables.tables (table_in e name formats)
decision-is laws e w name formats st well =
    while-well w.machine (judged w.machine 0 (CreateCall (table_in e name formats))) (sym st.fault ∙ well)
    ∙ laws.judged_as w.machine 0 e.hub.tables.tables (table_in e name formats) st.catalog.distinct st.made

pub create-down : CreateLaws → (e : Engine) (w : World) (name : List ℕ) (formats : Formats) (fault : Fault) → Stands e w → e.hub.fault ≡ Some fault
    → Makes e w (Create name formats) (answers.Refused (refusal.Panic fault))
create-down laws e w name formats fault st down = (
  w.machine,
  inr (table_in e name formats, table-suits laws e w name formats st, (Refused (refusal.Panic fault), (Nothing, while-down w.machine (judged w.machine 0 (CreateCall (table_in e name formats))) fault (sym st.fault ∙ down), refl), refl)),
  st,
)

never-done : (r : Refusal) (event : Event) → refused r ≡ (Done, event) → ⊥
never-done r event is = first (ap (λ (x : Outcome × Event). x.0) is) where
  first : Refused r ≡ Done → ⊥
  first same = absurd (cc)

-- a table that is made is not one too many
new-few : (known : List Table) (t : Table) → decided known t ≡ (Done, CreateTable t) → length known < TABLES_MAX
new-few known t is = by-name (is_name t.name) is where
  by-count : (b : Bool) → nat_le TABLES_MAX (length known) ≡ b → checked ((b, refusal.Limit counted.Tables) ∷ []) (Done, CreateTable t) ≡ (Done, CreateTable t) → length known < TABLES_MAX
  by-count true n is = absurd (never-done (refusal.Limit counted.Tables) (CreateTable t) is)
  by-count false n is = leb-false TABLES_MAX (length known) n

  by-same : (b : Bool) → (if b then (Done, Nothing) else refused refusal.Exists) ≡ (Done, CreateTable t) → length known < TABLES_MAX
  by-same true is = absurd (none (ap (λ (x : Outcome × Event). x.1) is)) where
    none : Nothing ≡ CreateTable t → ⊥
    none same = absurd (cc)
  by-same false is = absurd (never-done refusal.Exists (CreateTable t) is)

  by-other : (o : Option Table) → create_decision known t o ≡ (Done, CreateTable t) → length known < TABLES_MAX
  by-other None is = by-count (nat_le TABLES_MAX (length known)) refl is
  by-other (Some old) is = by-same (same_formats t.formats old.formats) is

  by-name : (b : Bool) → checked ((not b, refusal.Invalid why.BadName) ∷ []) (create_decision known t (named t.name known)) ≡ (Done, CreateTable t) → length known < TABLES_MAX
  by-name true is = by-other (named t.name known) is
  by-name false is = absurd (never-done (refusal.Invalid why.BadName) (CreateTable t) is)

pub create-refused : CreateLaws → (e : Engine) (w : World) (name : List ℕ) (formats : Formats) (r : Refusal) → IsSound e → Stands e w → e.hub.fault ≡ None
    → IsRefused e.hub.tables (table_in e name formats) r → Makes e w (Create name formats) (answers.Refused r)
create-refused laws e w name formats r sound st well why_not = elim why_not [
  | inl short ↦ (w.machine, inl (ap answers.Refused short, refl), st)
  | inr other ↦ elim other [
    | inl judged_so ↦ (
      w.machine,
      inr (table_in e name formats, table-suits laws e w name formats st, (Refused r, (Nothing, decision-is laws e w name formats st well ∙ judged_so, refl), refl)),
      st,
    )
    | inr used_up ↦ absurd (let few = new-few e.hub.tables.tables (table_in e name formats) used_up.1 in let room = sound.numbers in let full = used_up.2 in omega arith)
  ]
]

-- a table that was made is taken back where there is no memory for its leaf
pub create-short : (e : Engine) (w : World) (name : List ℕ) (formats : Formats) → Stands e w → Makes e w (Create name formats) (answers.Refused refusal.NoMemory)
create-short e w name formats st = (w.machine, inl (refl, refl), st)

pub create-same : CreateLaws → (e : Engine) (w : World) (name : List ℕ) (formats : Formats) → Stands e w → e.hub.fault ≡ None
    → decided e.hub.tables.tables (table_in e name formats) ≡ (Done, Nothing) → Makes e w (Create name formats) answers.Done
create-same laws e w name formats st well is = (
  w.machine,
  inr (table_in e name formats, table-suits laws e w name formats st, (Done, (Nothing, decision-is laws e w name formats st well ∙ is, refl), refl)),
  st,
)

-- no leaf is of a table that is to come
pub none-yet : (e : Engine) → AreTables e.hub.tables → IsSound e → (l : Leaf) → Contains e.hub.dir.leaves l → l.table ≢ e.hub.tables.next
none-yet e are sound l there same = let o = sound.owned l there in let below = number-below 1 e.hub.tables.tables e.hub.tables.next o.0 o.1 are.numbers o.2 in let its = o.3 in omega (arith, below, its, same)

-- the engine with a table more, whose first leaf is in a frame more
abbrev pub created : Engine → Known → Directory → Table → ℕ → Engine
created e known dir t id = record e { hub = record e.hub { tables = known; dir = dir }; pieces = e.pieces ++ first_piece 0 t id ∷ []; states = e.states ++ filled 0 ∷ [] }

module _ (e : Engine) (name : List ℕ) (formats : Formats) (known : Known) (dir : Directory) (place id : ℕ) (sound : IsSound e)
    (made : IsCreated e.hub.tables (table_in e name formats) known (New place)) (all : AreTables known) (first : HasFirstLeaf e.hub.dir dir (table_in e name formats).number id (length e.pieces) 0) where
  abbrev t : Table
  t = table_in e name formats

  pub create-new : CreateLaws → FramesGrow → IsDirectory dir → e.hub.fault ≡ None → (w : World) → Stands e w → Makes (created e known dir (table_in e name formats) id) w (Create name formats) answers.Done
  create-new laws grow is well w st = (
    after w.machine (CreateTable t),
    inr (t, table-suits laws e w name formats st, (Done, (CreateTable t, decision-is laws e w name formats st well ∙ made.0, refl), refl)),
    subst (λ (ps : List FramePiece). Stands (record (created e known dir t id) { pieces = ps }) (record w { machine = after w.machine (CreateTable t) })) (pieces-last e (first_piece 0 t id))
        (subst (λ (ws : List ℕ). Stands (record (created e known dir t id) { pieces = slice_set (with_frame e).pieces (length e.pieces) (first_piece 0 t id); states = ws }) (record w { machine = after w.machine (CreateTable t) })) (states-last e sound.states (filled 0))
        (subst (λ g. Stands (comes-at g) (record w { machine = after w.machine (CreateTable t) })) (generation-first e)
        (laws.goes (with_frame e) w name formats known dir place id (length e.pieces) (grow e w st) made all (subst (HasFirstLeaf e.hub.dir dir t.number id (length e.pieces)) (sym (generation-first e)) first) is (frame-none e) (piece-within e) (word-within e sound.states)))),
  ) where
    comes-at : ℕ → Engine
    comes-at g = record e {
      hub = record e.hub { tables = known; dir = dir };
      pieces = slice_set (with_frame e).pieces (length e.pieces) (first_piece g t id);
      states = slice_set (with_frame e).states (length e.pieces) (filled g);
    }

  known-is : known.tables ≡ e.hub.tables.tables ++ t ∷ []
  known-is = ap (λ (k : Known). k.tables) made.2

  long : length known.tables ≡ length e.hub.tables.tables + 1
  long = ap (λ (ts : List Table). length ts) known-is ∙ length-append e.hub.tables.tables (t ∷ [])

  module _ (are : AreTables e.hub.tables) (was : IsDirectory e.hub.dir) where
    come : IsCome e.hub.dir.leaves dir.leaves (new_leaf t.number id (length e.pieces) 0)
    come = comes e.hub.dir dir t.number id (length e.pieces) 0 was (none-yet e are sound) first

    owned : LeavesOwned known.tables dir.leaves
    owned l at = elim (come-cases e.hub.dir dir.leaves (new_leaf t.number id (length e.pieces) 0) was come l at) [
      | inl old ↦ let o = sound.owned l old in (o.0, o.1, ap (λ (ts : List Table). slice_get ts o.0) known-is ∙ append-keeps e.hub.tables.tables t o.1 o.0 o.2, o.3)
      | inr same ↦ (length e.hub.tables.tables, t, ap (λ (ts : List Table). slice_get ts (length e.hub.tables.tables)) known-is ∙ append-last e.hub.tables.tables t, ap (λ (x : Leaf). x.table) (sym same))
    ]

    pub new-sound : IsSound (created e known dir (table_in e name formats) id)
    new-sound = record {
      count = sound.count;
      seated = seated-with e.hub (record e.hub { tables = known; dir = dir }) e.sessions refl sound.seated;
      run = sound.run;
      built = sound.built;
      actors = sound.actors;
      states = one-more e sound.states (first_piece 0 t id) (filled 0);
      numbers = (let next = ap (λ (k : Known). k.next) made.2 in let before = sound.numbers in omega (arith, before, long, next));
      owned = owned;
      stamps = sound.stamps;
      sizes = record { leaves = leaves-more e.pieces (first_piece 0 t id) sound.sizes.leaves (filled-fits 0 t.number id (record { page = []; chains = [] }) (λ key. tt)); sessions = sound.sizes.sessions; names = sound.sizes.names };
    }

-- ---- set

-- by the first rule that holds
abbrev told_by : Option Invalid → Result (Unit {0}) Invalid
told_by o = of_some (Ok tt) (λ reason. Err reason) o

abbrev decided_by : Event → Event → Option Invalid → Outcome × Event
decided_by event other o = of_some (Done, event) (λ reason. (Refused (refusal.Invalid reason), other)) o

ruled-done : (rules : List (Bool × Invalid)) (event other : Event) → answer_by rules ≡ Ok tt → ruled rules event other ≡ (Done, event)
ruled-done rules event other is = by-first (first_of rules) is where
  by-first : (o : Option Invalid) → told_by o ≡ Ok tt → decided_by event other o ≡ (Done, event)
  by-first None is = refl
  by-first (Some reason) is = absurd (cc)

ruled-not : (rules : List (Bool × Invalid)) (event other : Event) (reason : Invalid) → answer_by rules ≡ Err reason → ruled rules event other ≡ (Refused (refusal.Invalid reason), other)
ruled-not rules event other reason is = by-first (first_of rules) is where
  by-first : (o : Option Invalid) → told_by o ≡ Err reason → decided_by event other o ≡ (Refused (refusal.Invalid reason), other)
  by-first None is = absurd (cc)
  by-first (Some r) is = ap (λ (x : Invalid). decided_by event other (Some x)) (let same : r ≡ reason = cc in same)

-- the rules over the two stamps of the engine
abbrev rules_in : Engine → Option ℕ → Option ℕ → List (Bool × Invalid)
rules_in e oldest stable = set_rules e.hub.stamps.oldest e.hub.stamps.stable oldest stable

abbrev set_event : Option ℕ → Option ℕ → Event
set_event oldest stable = SetStamps (stamp_of oldest) (stamp_of stable)

set-decision : (e : Engine) (w : World) (oldest stable : Option ℕ) → Stands e w → e.hub.fault ≡ None
    → decision w.machine 0 (SetCall oldest stable) ≡ ruled (rules_in e oldest stable) (set_event oldest stable) Nothing
set-decision e w oldest stable st well =
    while-well w.machine (judged w.machine 0 (SetCall oldest stable)) (sym st.fault ∙ well)
    ∙ ap (λ (s : Stamps). ruled (set_rules s.oldest s.stable oldest stable) (set_event oldest stable) Nothing) (sym st.stamps)

pub set-down : (e : Engine) (w : World) (oldest stable : Option ℕ) (fault : Fault) → Stands e w → e.hub.fault ≡ Some fault
    → Makes e w (Set oldest stable) (answers.Refused (refusal.Panic fault))
set-down e w oldest stable fault st down = (
  w.machine,
  (Refused (refusal.Panic fault), (Nothing, while-down w.machine (judged w.machine 0 (SetCall oldest stable)) fault (sym st.fault ∙ down), refl), refl),
  st,
)

pub set-done : SetsGo → (e : Engine) (w : World) (oldest stable : Option ℕ) → Stands e w → e.hub.fault ≡ None → answer_by (rules_in e oldest stable) ≡ Ok tt
    → Makes (record e { hub = record e.hub { stamps = raised e.hub.stamps oldest stable } }) w (Set oldest stable) answers.Done
set-done law e w oldest stable st well is = (
  after w.machine (set_event oldest stable),
  (Done, (set_event oldest stable, set-decision e w oldest stable st well ∙ ruled-done (rules_in e oldest stable) (set_event oldest stable) Nothing is, refl), refl),
  law e w oldest stable st is,
)

pub set-refused : (e : Engine) (w : World) (oldest stable : Option ℕ) (reason : Invalid) → Stands e w → e.hub.fault ≡ None → answer_by (rules_in e oldest stable) ≡ Err reason
    → Makes e w (Set oldest stable) (answers.Refused (refusal.Invalid reason))
set-refused e w oldest stable reason st well is = (
  w.machine,
  (Refused (refusal.Invalid reason), (Nothing, set-decision e w oldest stable st well ∙ ruled-not (rules_in e oldest stable) (set_event oldest stable) Nothing reason is, refl), refl),
  st,
)

-- the stamps as they would be are in order
second-passes : (a b : Bool) (x y : Invalid) → answer_by ((a, x) ∷ ((b, y) ∷ [])) ≡ Ok tt → b ≡ false
second-passes true b x y is = absurd (cc)
second-passes false true x y is = absurd (cc)
second-passes false false x y is = refl

fit-by : (o s : ℕ) → (not (o == 0) && (not (s == 0) && nat_lt s o)) ≡ false → StampsFit o s
fit-by o s is = elim (cases_eq o 0) [
  | inl none ↦ inr (omega (arith, none))
  | inr some ↦ elim (cases_eq s 0) [
    | inl unset ↦ inl unset
    | inr given ↦ inr (let over : nat_lt s o ≡ false = rw (ne_eqb o 0 some, ne_eqb s 0 given) at is in let least = ltb-false s o over in omega (arith, least))
  ]
]

pub raised-fit : (e : Engine) (oldest stable : Option ℕ) → answer_by (rules_in e oldest stable) ≡ Ok tt → let s = raised e.hub.stamps oldest stable in StampsFit s.oldest s.stable
raised-fit e oldest stable is = fit-by (max e.hub.stamps.oldest (stamp_of oldest)) (max e.hub.stamps.stable (stamp_of stable)) (second-passes _ _ _ _ is)
