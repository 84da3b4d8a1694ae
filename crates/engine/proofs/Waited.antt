-- Which calls wait for a leaf that is in no frame.
use Rattle.std.proofs.Common.{◌≡◌, ◌⊎◌, ℕ, refl, ap, sym, ◌∙◌, Bool, true, false, List, inl, inr, subst}
use Rattle.std.specs.Prelude.{Option, Some, None, if◌then◌else◌, option_and_then, slice_get}
use Rattle.wt_code.specs.declared.refusals.Refusal.{Refusal}
use Rattle.kv_model.specs.Machine.{of_some}
use Rattle.tree_dir.specs.declared.leaf.Framed.{Framed}
use Rattle.tree_dir.specs.declared.leaf.Leaf.{Leaf}
use Rattle.tree_dir.specs.Leaves.{leaf_named}
use Rattle.call_steps.specs.declared.hub.Hub.{Hub}
use Rattle.call_steps.specs.declared.next.Next.{Next}
use Rattle.call_steps.specs.declared.next.Next.TheVariants as next
use Rattle.call_steps.specs.declared.stage.KeyCall.{KeyCall}
use Rattle.call_steps.specs.declared.stage.Stage.{Stage}
use Rattle.call_steps.specs.declared.stage.Stage.TheVariants as stage
use Rattle.call_steps.specs.declared.stage.Wanted.{Wanted}
use Rattle.call_steps.specs.State.{State}
use Rattle.call_steps.specs.Words.{kept_out, kept_out_at, next_at, next_of}
use Rattle.call_turns.specs.Turns.{IsHubNext, IsReady}
use Rattle.engine_world.specs.Laws.{IsWaiting as IsAtFill}
use Rattle.engine_world.specs.Stands.{Engine}
use Rattle.engine.specs.Waits.{IsAway, in_none, is_away, waits_at, waits_in}

-- ---- by the leaf

away-there : (leaves : List Leaf) (id : ℕ) → is_away leaves id ≡ true → IsAway leaves id
away-there leaves id is = by (leaf_named id leaves) refl is where
  by-frame : (l : Leaf) → leaf_named id leaves ≡ Some l → (o : Option Framed) → l.frame ≡ o → in_none o ≡ true → IsAway leaves id
  by-frame l named None at away = (l, named, at)
  by-frame l named (Some f) at away = absurd (cc)

  by : (o : Option Leaf) → leaf_named id leaves ≡ o → of_some false (λ (l : Leaf). in_none l.frame) o ≡ true → IsAway leaves id
  by None named away = absurd (cc)
  by (Some l) named away = by-frame l named l.frame refl away

-- it is gone, or in a frame
not-away : (leaves : List Leaf) (id : ℕ) → is_away leaves id ≡ false → (leaf_named id leaves ≡ None) ⊎ ((l : Leaf) × (f : Framed) × (leaf_named id leaves ≡ Some l) × (l.frame ≡ Some f))
not-away leaves id isnt = by (leaf_named id leaves) refl isnt where
  by-frame : (l : Leaf) → leaf_named id leaves ≡ Some l → (o : Option Framed) → l.frame ≡ o → in_none o ≡ false → (leaf_named id leaves ≡ None) ⊎ ((l : Leaf) × (f : Framed) × (leaf_named id leaves ≡ Some l) × (l.frame ≡ Some f))
  by-frame l named None at other = absurd (cc)
  by-frame l named (Some f) at other = inr (l, f, named, at)

  by : (o : Option Leaf) → leaf_named id leaves ≡ o → of_some false (λ (l : Leaf). in_none l.frame) o ≡ false → (leaf_named id leaves ≡ None) ⊎ ((l : Leaf) × (f : Framed) × (leaf_named id leaves ≡ Some l) × (l.frame ≡ Some f))
  by None named other = inl named
  by (Some l) named other = by-frame l named l.frame refl other

-- ---- by the next event

-- a call that is to go on at this leaf
pub record IsFilling (g : Stage) (leaf : ℕ) : Type 0 where
  pub call : KeyCall
  pub wanted : Wanted
  pub stage_is : g ≡ stage.Fill call wanted
  pub leaf_is : wanted.leaf ≡ leaf

pub filling : (g : Stage) (a : State) (leaf : ℕ) → next_at g a ≡ next.Fill leaf → IsFilling g leaf
filling (stage.Fill call wanted) a leaf on = record { call = call; wanted = wanted; stage_is = refl; leaf_is = (let same : wanted.leaf ≡ leaf = cc in same) }
filling stage.Rest a leaf on = absurd (cc)
filling (stage.Begin read) a leaf on = absurd (cc)
filling (stage.Find call) a leaf on = absurd (cc)
filling (stage.Publish call target) a leaf on = absurd (cc)
filling (stage.Validate call target) a leaf on = absurd (cc)
filling (stage.Look call target) a leaf on = absurd (cc)
filling (stage.Pass call target) a leaf on = absurd (cc)
filling (stage.History call target) a leaf on = absurd (cc)
filling (stage.ClearCursor call target) a leaf on = absurd (cc)
filling (stage.Clear call target) a leaf on = absurd (cc)
filling (stage.Reset cursor) a leaf on = absurd (cc)
filling (stage.Mark stamp left) a leaf on = absurd (cc)
filling (stage.Release stamp) a leaf on = absurd (cc)
filling (stage.Order stamps left) a leaf on = absurd (cc)
filling (stage.Stamp stamps left) a leaf on = absurd (cc)
filling (stage.Decide stamps) a leaf on = absurd (cc)
filling stage.Resolve a leaf on = absurd (cc)
filling (stage.Undo left) a leaf on = absurd (cc)
filling stage.Done a leaf on = absurd (cc)
filling (stage.Unpin cursor) a leaf on = absurd (cc)

pub ready-at : (h : Hub) (a : State) (leaf : ℕ) → next_of a ≡ next.Fill leaf → is_away h.dir.leaves leaf ≡ false → IsHubNext h a
ready-at h a leaf on isnt = inr (subst (IsReady h.dir.leaves) (sym f.stage_is) (subst (λ (id : ℕ). (leaf_named id h.dir.leaves ≡ None) ⊎ ((l : Leaf) × (g : Framed) × (leaf_named id h.dir.leaves ≡ Some l) × (l.frame ≡ Some g))) (sym f.leaf_is) (not-away h.dir.leaves leaf isnt))) where
  f : IsFilling a.stage leaf
  f = filling a.stage a leaf on

-- ---- by the session

pub waits-now : (e : Engine) (session : ℕ) (a : State) → slice_get e.sessions session ≡ Some a → waits_in e session ≡ waits_at e.hub.dir.leaves (next_of a)
waits-now e session a at = ap (option_and_then (λ (x : State). waits_at e.hub.dir.leaves (next_of x))) at

pub waits-away : (e : Engine) (session leaf : ℕ) (a : State) → slice_get e.sessions session ≡ Some a → next_of a ≡ next.Fill leaf → is_away e.hub.dir.leaves leaf ≡ true → waits_in e session ≡ Some leaf
waits-away e session leaf a at on is = waits-now e session a at ∙ (ap (waits_at e.hub.dir.leaves) on ∙ ap (λ (b : Bool). if b then Some leaf else None) is)

waits-not : (leaves : List Leaf) (leaf : ℕ) (b : Bool) → is_away leaves leaf ≡ b → (if b then Some leaf else None) ≡ None → is_away leaves leaf ≡ false
waits-not leaves leaf true is none = absurd (cc)
waits-not leaves leaf false is none = is

-- a call that waits for no leaf goes on at the hub
pub ready-now : (e : Engine) (session leaf : ℕ) (a : State) → slice_get e.sessions session ≡ Some a → next_of a ≡ next.Fill leaf → waits_in e session ≡ None → IsHubNext e.hub a
ready-now e session leaf a at on none = ready-at e.hub a leaf on (waits-not e.hub.dir.leaves leaf (is_away e.hub.dir.leaves leaf) refl (sym (ap (waits_at e.hub.dir.leaves) on) ∙ (sym (waits-now e session a at) ∙ none)))

-- the state of a session that waits
pub record IsHeld (e : Engine) (session leaf : ℕ) : Type 0 where
  pub state : State
  pub at : slice_get e.sessions session ≡ Some state
  pub on : next_of state ≡ next.Fill leaf
  pub away : is_away e.hub.dir.leaves leaf ≡ true

held-by : (leaves : List Leaf) (n : Next) (leaf : ℕ) → waits_at leaves n ≡ Some leaf → (n ≡ next.Fill leaf) × (is_away leaves leaf ≡ true)
held-by leaves (next.Fill id) leaf is = by (is_away leaves id) refl is where
  by : (b : Bool) → is_away leaves id ≡ b → (if b then Some id else None) ≡ Some leaf → (next.Fill id ≡ next.Fill leaf) × (is_away leaves leaf ≡ true)
  by true away is = let same : id ≡ leaf = cc in (ap (λ (n : ℕ). next.Fill n) same, subst (λ (n : ℕ). is_away leaves n ≡ true) same away)
  by false other is = absurd (cc)
held-by leaves next.Nothing leaf is = absurd (cc)
held-by leaves next.Hub leaf is = absurd (cc)
held-by leaves (next.Frame frame) leaf is = absurd (cc)
held-by leaves (next.Load frame) leaf is = absurd (cc)
held-by leaves (next.Store word value) leaf is = absurd (cc)

pub held : (e : Engine) (session leaf : ℕ) → waits_in e session ≡ Some leaf → IsHeld e session leaf
held e session leaf is = by (slice_get e.sessions session) refl is where
  by : (o : Option State) → slice_get e.sessions session ≡ o → option_and_then (λ (x : State). waits_at e.hub.dir.leaves (next_of x)) o ≡ Some leaf → IsHeld e session leaf
  by None at is = absurd (cc)
  by (Some a) at is = let h = held-by e.hub.dir.leaves (next_of a) leaf is in record { state = a; at = at; on = h.0; away = h.1 }

pub held-away : (e : Engine) (session leaf : ℕ) → waits_in e session ≡ Some leaf → IsAway e.hub.dir.leaves leaf
held-away e session leaf is = away-there e.hub.dir.leaves leaf (held e session leaf is).away

-- ---- a call that is kept from its leaf

pub at-fill : (a : State) (leaf : ℕ) → next_of a ≡ next.Fill leaf → IsAtFill a.stage
at-fill a leaf on = subst IsAtFill (sym (filling a.stage a leaf on).stage_is) tt

-- it waits no more
pub kept-goes : (leaves : List Leaf) (a : State) (leaf : ℕ) → next_of a ≡ next.Fill leaf → (r : Refusal) → waits_at leaves (next_of (kept_out r a)) ≡ None
kept-goes leaves a leaf on r = let f = filling a.stage a leaf on in ap (λ (g : Stage). waits_at leaves (next_of (kept_out_at g r a))) f.stage_is
