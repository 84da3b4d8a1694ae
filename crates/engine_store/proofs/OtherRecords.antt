-- What a history keeps does not matter to a session's call: its steps are those of a world with another history.
use Rattle.std.proofs.Common.{◌≡◌, ◌∙◌, ℕ, zero, suc, List, [], refl, ap, sym, subst, inl, inr}
use Rattle.std.specs.Prelude.{◌≢◌, ◌++◌, ◌==◌, true, if◌then◌else◌, Option, Some, None, slice_index_or}
use Rattle.std.specs.List.{Contains}
use Rattle.std.specs.Option.{option_to_list}
use Rattle.std.proofs.lemmas.Bool.{cases_Bool, cases_eq, eq-eqb}
use Rattle.wt_code.specs.declared.answers.Answer.{Answer}
use Rattle.wt_code.specs.declared.refusals.Refusal.{Refusal}
use Rattle.item.specs.declared.Change.{Change}
use Rattle.stamp.specs.declared.Version.{Version}
use Rattle.kv_model.specs.Calls.{Call}
use Rattle.kv_model.specs.Holds.{Descends}
use Rattle.kv_model.specs.Ordered.{Older}
use Rattle.row_page.specs.Rows.{Row}
use Rattle.reconcile.specs.Shows.{shown_at}
use Rattle.reconcile.specs.declared.image.Moved.{Moved}
use Rattle.reconcile.specs.Moving.{versions_in}
use Rattle.tree_dir.specs.declared.leaf.Leaf.{Leaf}
use Rattle.tree_dir.specs.Leaves.{leaf_named, leaf_under}
use Rattle.tree_dir.proofs.Parting.{ids-name, under-has}
use Rattle.call_steps.specs.declared.reply.Reply.{Reply}
use Rattle.call_steps.specs.declared.reply.Reply.TheVariants as reply
use Rattle.call_turns.proofs.Walks.{named-is}
use Rattle.engine.proofs.LeavesCome.{named-there}
use Rattle.engine_world.specs.Evicting.{with_rows}
use Rattle.engine_world.specs.Stands.{Engine, Stands}
use Rattle.engine_world.specs.Steps.{BeginsIn, MayGo, MayKeepOut}
use Rattle.engine_world.specs.Worlds.{Doing, Resting, Asked, Placed, Decided, Ending, Records, World, doing_of, with_records, without_records}
use Rattle.engine.specs.declared.step.Actor.TheVariants as actor
use Rattle.engine.specs.declared.step.Step.{Step}
use Rattle.engine.specs.declared.step.Step.TheVariants.{Start, Go}
use Rattle.engine.specs.Runs.{AsksIn, MakesIn, MayStep, StepsMore, StepsOut}
use Rattle.wt_calls.specs.Calls.{session_call_in, system_call_in}
use Rattle.wt_calls.specs.declared.call.Call.{Call as AnyCall}
use Rattle.wt_calls.specs.declared.call.Call.TheVariants as call
use Rattle.engine.specs.Waits.{IsAway}
use Rattle.engine.specs.Whole.{CallsIn, IsUnderWay, KeptBy, MakesAt, MayAnswer}
use Rattle.evict_step.specs.Backs.{AreNewestFirst}
use Rattle.evict_step.specs.Kept.{KeepsAt, KeepsThese, Lists, but_rows, list_of, older_in}
use Rattle.evict_step.proofs.Again.{kept_at}
use Rattle.ckpt_step.specs.Floors.{laid_of}
use Rattle.ckpt_step.proofs.Members.{none_some, some_same}
use Rattle.ckpt_step.specs.declared.ground.Ground.{Ground}
use Rattle.disk_model.specs.declared.disk.Disk.{Ghosts}
use Rattle.kv_model.specs.Machine.{Completed}
use Rattle.engine_store.specs.declared.store.Store.{Store}
use Rattle.engine_store.specs.Devices.{Installed}
use Rattle.engine_store.specs.Held.{IsHeld, IsHeldIn}
use Rattle.engine_store.specs.Keeping.{IsSameButKept, with_kept}

-- the world with another history
abbrev pub other_records : Records → World → World
other_records r w = record w { records = r }

-- ---- calls

pub go_other : (r : Records) (w later : World) (session : ℕ) (told : Reply) → MayGo w session told later → MayGo (other_records r w) session told (other_records r later)
go_other r w later session told may = record { made = may.made; goes = may.goes; tells = may.tells; leaves = ap (other_records r) may.leaves }

pub out_other : (r : Records) (w later : World) (session : ℕ) (refusal : Refusal) → MayKeepOut w session refusal later → MayKeepOut (other_records r w) session refusal (other_records r later)
out_other r w later session refusal may = record { made = may.made; keeps = may.keeps; leaves = ap (other_records r) may.leaves }

pub steps_other : (r : Records) (n : ℕ) (w last : World) (session : ℕ) (answer : Answer (List ℕ)) → StepsOut n w (actor.Session session) answer last → StepsOut n (other_records r w) (actor.Session session) answer (other_records r last)
steps_other r zero w last session answer may = go_other r w last session (reply.Answer answer) may
steps_other r (suc n) w last session answer (middle, one, rest) = (other_records r middle, go_other r w middle session reply.More one, steps_other r n middle last session answer rest)

pub more_other : (r : Records) (n : ℕ) (w last : World) (session : ℕ) → StepsMore n w (actor.Session session) last → StepsMore n (other_records r w) (actor.Session session) (other_records r last)
more_other r zero w last session is = ap (other_records r) is
more_other r (suc n) w last session (middle, one, rest) = (other_records r middle, go_other r w middle session reply.More one, more_other r n middle last session rest)

pub calls_other : (r : Records) (doing : Doing) (w later : World) (session : ℕ) (asked : Call) (answer : Answer (List ℕ)) → CallsIn doing w session asked answer later → CallsIn doing (other_records r w) session asked answer (other_records r later)
calls_other r Resting w later session asked answer (answered, is) = (answered, ap (other_records r) is)
calls_other r (Asked other left) w later session asked answer (refused, is) = (refused, ap (other_records r) is)
calls_other r (Placed other table left) w later session asked answer (refused, is) = (refused, ap (other_records r) is)
calls_other r (Decided other event left) w later session asked answer (refused, is) = (refused, ap (other_records r) is)
calls_other r (Ending other left) w later session asked answer (refused, is) = (refused, ap (other_records r) is)

pub under_other : (r : Records) (kept : KeptBy) (w now : World) (session : ℕ) (asked : Call) → IsUnderWay kept w session asked now → IsUnderWay kept (other_records r w) session asked (other_records r now)
under_other r kept w now session asked under = record { rests = under.rests; moved_to = ap (other_records r) under.moved_to; reached = under.reached }

begins_other : (r : Records) (doing : Doing) (w later : World) (session : ℕ) (asked : Call) (told : Reply) → BeginsIn doing w session asked told later → BeginsIn doing (other_records r w) session asked told (other_records r later)
begins_other r Resting w later session asked told (left, started, is) = (left, started, ap (other_records r) is)
begins_other r (Asked other left) w later session asked told (refused, is) = (refused, ap (other_records r) is)
begins_other r (Placed other table left) w later session asked told (refused, is) = (refused, ap (other_records r) is)
begins_other r (Decided other event left) w later session asked told (refused, is) = (refused, ap (other_records r) is)
begins_other r (Ending other left) w later session asked told (refused, is) = (refused, ap (other_records r) is)

asks_other : (r : Records) (o : Option Call) (w later : World) (number : ℕ) (asked : Call) (told : Reply) → AsksIn o w number asked told later → AsksIn o (other_records r w) number asked told (other_records r later)
asks_other r None w later number asked told (started, is) = (started, ap (other_records r) is)
asks_other r (Some other) w later number asked told (refused, is) = (refused, ap (other_records r) is)

makes_other : (r : Records) (o : Option Call) (w later : World) (number : ℕ) (told : Reply) → MakesIn o w number told later → MakesIn o (other_records r w) number told (other_records r later)
makes_other r None w later number told (refused, is) = (refused, ap (other_records r) is)
makes_other r (Some asked) w later number told (answer, next, answered, tells, is) = (answer, next, answered, tells, ap (other_records r) is)

pub step_other : (r : Records) (w later : World) (made : Step) (told : Reply) → MayStep w made told later → MayStep (other_records r w) made told (other_records r later)
step_other r w later (Start (call.Session session made)) told may = begins_other r (doing_of w session) w later session (session_call_in made) told may
step_other r w later (Start (call.System number made)) told may = asks_other r (slice_index_or w.systems number None) w later number (system_call_in made) told may
step_other r w later (Go (actor.Session session)) told may = go_other r w later session told may
step_other r w later (Go (actor.System number)) told may = makes_other r (slice_index_or w.systems number None) w later number told may

made_other : (r : Records) (o : Option Call) (w later : World) (asked : Call) (answer : Answer (List ℕ)) → MakesAt o w asked answer later → MakesAt o (other_records r w) asked answer (other_records r later)
made_other r None w later asked answer (answered, is) = (answered, ap (other_records r) is)
made_other r (Some other) w later asked answer (refused, is) = (refused, ap (other_records r) is)

pub answer_other : (r : Records) (w later : World) (made : AnyCall) (answer : Answer (List ℕ)) → MayAnswer w made answer later → MayAnswer (other_records r w) made answer (other_records r later)
answer_other r w later (call.Session session made) answer may = calls_other r (doing_of w session) w later session (session_call_in made) answer may
answer_other r w later (call.System number made) answer may = made_other r (slice_index_or w.systems number None) w later (system_call_in made) answer may

-- ---- what is kept

-- what came of a world in which the history has what is kept is such a world
pub same_kept : (lists : Lists) (w last : World) → laid_of last ≡ laid_of (with_kept lists w) → last ≡ with_kept lists last
same_kept lists w last laid = ap (λ (r : Records). let v : World = record last { records = r } in v) are
  where
    are : last.records ≡ older_in last.shelf lists
    are = ap (λ (x : (ℕ → List Row) × Records). x.1) laid ∙ ap (λ (shelf : ℕ → List Row). older_in shelf lists) (sym (ap (λ (x : (ℕ → List Row) × Records). x.0) laid))

pub stands_other : (e : Engine) (lists : Lists) (w last : World) (r : Records) → laid_of last ≡ laid_of (with_kept lists w) → Stands e last → Stands e (with_kept lists (other_records r last))
stands_other e lists w last r laid stands = subst (Stands e) (same_kept lists w last laid) stands

-- a world is that in which the history has what is kept
pub kept_world : (lists : Lists) (w : World) → KeepsThese w lists → w ≡ with_kept lists w
kept_world lists w keeps = λ i. record w { records = λ leaf key. keeps leaf key i }

-- what came of it keeps the same
pub keeps_laid : (lists : Lists) (w later : World) → laid_of later ≡ laid_of w → KeepsThese w lists → KeepsThese later lists
keeps_laid lists w later laid keeps = subst (λ (x : (ℕ → List Row) × Records). (leaf : ℕ) (key : List ℕ) → x.1 leaf key ≡ older_in x.0 lists leaf key) (sym laid) keeps

-- of three grounds
pub kept_more : (a b c : Ground) → IsSameButKept a b → IsSameButKept b c → IsSameButKept a c
kept_more a b c one two = two ∙ ap (λ (x : Ground). let ground : Ground = record x { kept = c.kept } in ground) one

pub held_kept : {D : Type 0} (g : Ghosts D) (start disk : D) (s : Store) (w : World) (first : Completed) (made : List Installed) → IsHeldIn g start s disk w first made → IsHeld g start s disk w first made
held_kept g start disk s w first made held = subst (λ (v : World). IsHeldIn g start s disk v first made) (kept_world s.ground.kept w held.kept) held

-- of one id there is one leaf
one_leaf : (e : Engine) (w : World) (x l : Leaf) → Stands e w → Contains e.hub.dir.leaves x → Contains e.hub.dir.leaves l → x.id ≡ l.id → x ≡ l
one_leaf e w x l stands one two same = some_same (sym (ids-name e.hub.dir stands.dir x one) ∙ (ap (λ (n : ℕ). leaf_named n e.hub.dir.leaves) same ∙ ids-name e.hub.dir stands.dir l two))

-- what the history has of a leaf lies below its rows, newest first
pub newest_at : (e : Engine) (w : World) (l : Leaf) (moved : List Moved) → Stands e w → Contains e.hub.dir.leaves l → ((key : List ℕ) → w.records l.id key ≡ versions_in key moved) → AreNewestFirst (w.shelf l.id) moved
newest_at e w l moved stands there are key = subst (λ (vs : List (Version Change)). Descends Older (option_to_list (shown_at key (w.shelf l.id)) ++ vs)) (are key) (elim (stands.leaves l there) [
  | inl frame ↦ subst (λ (vs : List (Version Change)). Descends Older (option_to_list (shown_at key (w.shelf l.id)) ++ vs)) (sym (frame.none key)) (alone (shown_at key (w.shelf l.id)))
  | inr device ↦ by device.ordered device.bare (leaf_under l.table key e.hub.dir.leaves) refl
])
  where
    alone : (o : Option (Version Change)) → Descends Older (option_to_list o ++ [])
    alone None = tt
    alone (Some v) = ((λ x among. absurd among), tt)

    by : ((k : List ℕ) → leaf_under l.table k e.hub.dir.leaves ≡ Some l → Descends Older (option_to_list (shown_at k (w.shelf l.id)) ++ w.records l.id k))
        → ((k : List ℕ) → leaf_under l.table k e.hub.dir.leaves ≢ Some l → (shown_at k (w.shelf l.id) ≡ None) × (w.records l.id k ≡ []))
        → (o : Option Leaf) → leaf_under l.table key e.hub.dir.leaves ≡ o → Descends Older (option_to_list (shown_at key (w.shelf l.id)) ++ w.records l.id key)
    by ordered bare None none = none_of (bare key (λ same. none_some (sym none ∙ same)))
      where
        none_of : (shown_at key (w.shelf l.id) ≡ None) × (w.records l.id key ≡ []) → Descends Older (option_to_list (shown_at key (w.shelf l.id)) ++ w.records l.id key)
        none_of (row, rest) = subst (λ (o : Option (Version Change)). Descends Older (option_to_list o ++ w.records l.id key)) (sym row) (subst (λ (vs : List (Version Change)). Descends Older vs) (sym rest) tt)
    by ordered bare (Some x) some = elim (cases_eq x.id l.id) [
      | inl same ↦ ordered key (some ∙ ap (λ (y : Leaf). Some y) (one_leaf e w x l stands (under-has e.hub.dir stands.dir l.table key x some).there there same))
      | inr differ ↦
          let none = bare key (λ same. differ (ap (λ (y : Leaf). y.id) (some_same (sym some ∙ same)))) in
          subst (λ (o : Option (Version Change)). Descends Older (option_to_list o ++ w.records l.id key)) (sym none.0) (subst (λ (vs : List (Version Change)). Descends Older vs) (sym none.1) tt)
    ]

-- so does what is kept of one that is there, but for those that are rows
pub newest_first : (e : Engine) (lists : Lists) (w : World) (id : ℕ) → Stands e (with_kept lists w) → IsAway e.hub.dir.leaves id → AreNewestFirst (w.shelf id) (but_rows (w.shelf id) (list_of lists id))
newest_first e lists w id stands (l, named, free) =
    let is : l.id ≡ id = named-is id e.hub.dir.leaves l named in
    subst (λ (n : ℕ). AreNewestFirst (w.shelf n) (but_rows (w.shelf n) (list_of lists n))) is (newest_at e (with_kept lists w) l (but_rows (w.shelf l.id) (list_of lists l.id)) stands (named-there id e.hub.dir.leaves l named) (λ key. refl))

-- ---- once something is kept of a leaf

-- the world in which a leaf has what is kept of it then, below these rows
pub keeps_at : (before lists : Lists) (leaf : ℕ) (rows : List Row) (moved : List Moved) (e : Engine) (w : World) → Stands e (with_records leaf (λ key. versions_in key moved) (with_rows leaf rows w)) → ((l : Leaf) × Contains e.hub.dir.leaves l × (l.id ≡ leaf)) → KeepsThese w before → KeepsAt before lists leaf moved
    → KeepsThese (with_records leaf (λ key. versions_in key moved) (with_rows leaf rows w)) lists
keeps_at before lists leaf rows moved e w stands (l, there, is) keeps at = kept_at w before lists leaf rows moved keeps at first
  where
    v : World
    v = with_records leaf (λ key. versions_in key moved) (with_rows leaf rows w)

    here : (l.id == leaf) ≡ true
    here = eq-eqb l.id leaf is

    own : (key : List ℕ) → v.records l.id key ≡ versions_in key moved
    own key = rw here refl

    shelf_is : v.shelf l.id ≡ rows
    shelf_is = rw here refl

    first : AreNewestFirst rows moved
    first = subst (λ (r : List Row). AreNewestFirst r moved) shelf_is (newest_at e v l moved stands there own)

-- nothing is kept any more of a leaf that came
pub kept_then : (before lists : Lists) (leaf : ℕ) (w : World) → KeepsAt before lists leaf [] → without_records leaf (with_kept before w) ≡ with_kept lists w
kept_then before lists leaf w keeps = λ i. record w { records = λ other key. same other key i }
  where
    same : (other : ℕ) (key : List ℕ) → (if other == leaf then [] else older_in w.shelf before other key) ≡ older_in w.shelf lists other key
    same other key = elim (cases_Bool (other == leaf)) [
      | inl is ↦ (let none : list_of lists other ≡ [] = keeps other ∙ (let at : (if other == leaf then [] else list_of before other) ≡ [] = rw is refl in at) in rw is (ap (λ (l : List Moved). versions_in key (but_rows (w.shelf other) l)) (sym none)))
      | inr isnt ↦ (let still : list_of lists other ≡ list_of before other = keeps other ∙ (let at : (if other == leaf then [] else list_of before other) ≡ list_of before other = rw isnt refl in at) in rw isnt (ap (λ (l : List Moved). versions_in key (but_rows (w.shelf other) l)) (sym still)))
    ]
