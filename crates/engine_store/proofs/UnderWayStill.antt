-- A checkpoint that runs stays under way, over what others do.
use Rattle.std.proofs.Common.{◌≡◌, ◌⊎◌, ◌∙◌, ◌≤◌, ◌<◌, ℕ, true, false, List, [], ◌∷◌, ◌++◌, length, length-append, Option, Some, None, refl, ap, sym, subst, inl, inr, arith}
use Rattle.std.specs.Prelude.{MatchOption}
use Rattle.std.proofs.lemmas.Bool.{cases_Bool, false≢true}
use Rattle.failure.specs.declared.Fault.{Fault}
use Rattle.item.specs.declared.Change.{Change}
use Rattle.stamp.specs.declared.Name.{Name}
use Rattle.stamp.specs.declared.Version.{Version}
use Rattle.kv_model.specs.Captures.{is_in}
use Rattle.kv_model.specs.History.{Entry, Table, committed, first, line, tables}
use Rattle.kv_model.specs.Holds.{Member}
use Rattle.kv_model.specs.Machine.{Checkpoint, GoDown, Machine, Transaction, after as after_event, name_of, transaction_of}
use Rattle.kv_model.specs.Pending.{HasEnded}
use Rattle.kv_model.specs.Reconciling.{PrefixHasEnded}
use Rattle.kv_model.specs.Valid.{IsDrawn, Valid, ValidCheckpoint}
use Rattle.kv_model.proofs.Finishing.{committed-start, first-start}
use Rattle.kv_model.proofs.Releases.{committed-released, committed-whole}
use Rattle.snapshot.specs.Matters.{IsLive, MattersToCheckpoints, SeesCommitted}
use Rattle.snapshot.specs.Sight.{Sight, is_seen}
use Rattle.engine.specs.declared.running_checkpoint.RunningCheckpoint.{RunningCheckpoint}
use Rattle.engine.specs.Running.{IsRunning, RunsAs}
use Rattle.ckpt_step.specs.declared.ground.Ground.{Ground}
use Rattle.ckpt_step.specs.Floors.{GoesOn, is_before}
use Rattle.ckpt_step.specs.Moments.{IsUnderWay, floor_at}
use Rattle.engine_store.specs.declared.progress.Underway.{Underway}
use Rattle.engine_store.specs.Devices.{last_number}
use Rattle.engine_store.specs.Keeping.{IsSameButKept}
use Rattle.engine_store.specs.Running.{RunsOver, checkpoint_of}
use Rattle.engine_store.proofs.Apart.{GoesApart, Grows, IsApart, IsUnseen, apart_down, committed_grown}

-- ---- its snapshot

append_twice : (a b c : List Entry) → a ++ (b ++ c) ≡ (a ++ b) ++ c
append_twice [] b c = refl
append_twice (x ∷ a) b c = ap (λ (l : List Entry). x ∷ l) (append_twice a b c)

module _ (m next : Machine) (c : Checkpoint) (r : RunningCheckpoint) (valid : Valid m) (now : Valid next) (runs : m.checkpoint ≡ Some c) (is : IsRunning m c r) (apart : IsApart next r.snapshot.sight) (grows : Grows r.snapshot.sight m.history next.history) where
  abbrev s : Sight
  s = r.snapshot.sight

  v : ValidCheckpoint m.history m.oldest m.stable c
  v = valid.checkpoint c runs

  abbrev news : List Entry
  news = grows.news ++ v.news

  whole : next.history ≡ news ++ v.start
  whole = grows.whole ∙ (ap (λ (l : List Entry). grows.news ++ l) v.whole ∙ append_twice grows.news v.news v.start)

  -- the same names are committed in its entries
  in_start : (x : Name) → committed m.history c.prefix x ≡ committed v.start (length v.start) x
  in_start x = ap (λ (h : List Entry). committed h c.prefix x) v.whole ∙ (ap (λ (n : ℕ). committed (v.news ++ v.start) n x) v.prefix ∙ committed-start v.news v.start x)

  same_in : (x : Name) → committed next.history c.prefix x ≡ committed m.history c.prefix x
  same_in x = ap (λ (h : List Entry). committed h c.prefix x) whole ∙ (ap (λ (n : ℕ). committed (news ++ v.start) n x) v.prefix ∙ (committed-start news v.start x ∙ sym (in_start x)))

  -- and they are the same entries
  same_first : first c.prefix next.history ≡ first c.prefix m.history
  same_first =
      ap (λ (h : List Entry). first c.prefix h) whole ∙ (ap (λ (n : ℕ). first n (news ++ v.start)) v.prefix ∙ first-start news v.start)
      ∙ sym (ap (λ (h : List Entry). first c.prefix h) v.whole ∙ (ap (λ (n : ℕ). first n (v.news ++ v.start)) v.prefix ∙ first-start v.news v.start))

  -- what is committed has an id
  drawn : (x : Name) → committed next.history (length next.history) x ≡ true → IsDrawn next.run next.next x
  drawn x at = now.names x (committed-released next.history now.orderly (length next.history) x at)

  has_id : (x : Name) → x.run ≡ next.run → IsDrawn next.run next.next x → x.id ≡ 0 → ⊥
  has_id x run (inl earlier) none = omega (arith, run, earlier)
  has_id x run (inr (same, some, below)) none = omega (arith, some, none)

  -- a name that it does not see is committed in none of its entries
  not_in : (x : Name) → is_seen s x ≡ false → committed next.history c.prefix x ≡ false
  not_in x unseen = elim (cases_Bool (committed m.history c.prefix x)) [
    | inl at ↦ absurd (false≢true (sym unseen ∙ (is.sees.sees x (inl (committed-whole m.history c.prefix x at)) ∙ at)))
    | inr none ↦ same_in x ∙ none
  ]

  -- nor is one of somebody who has not ended
  hidden : (x : Name) (session : ℕ) (t : Transaction) → transaction_of next session ≡ Some t → x ≡ name_of next t → (x.id ≡ 0) ⊎ (is_seen s x ≡ false)
  hidden x session t there name =
      subst (λ (y : Name). (y.id ≡ 0) ⊎ (is_seen s y ≡ false)) (sym name) (subst (λ (o : Option Transaction). MatchOption o (Unit {0}) (λ u. (u.id ≡ 0) ⊎ (is_seen s (name_of next u) ≡ false))) there (apart.unseen session))

  sees_still : (x : Name) → MattersToCheckpoints next x → is_seen s x ≡ committed next.history c.prefix x
  sees_still x (inl at) = elim (committed_grown s grows.news m.history x grows.unseen (subst (λ (h : List Entry). committed h (length h) x ≡ true) grows.whole at)) [
    | inl was ↦ is.sees.sees x (inl was) ∙ sym (same_in x)
    | inr unseen ↦ by unseen.0 unseen.1
  ]
    where
      by : x.run ≡ s.run → (x.id ≡ 0) ⊎ (is_seen s x ≡ false) → is_seen s x ≡ committed next.history c.prefix x
      by run (inl none) = absurd (has_id x (run ∙ apart.run) (drawn x at) none)
      by run (inr unseen) = unseen ∙ sym (not_in x unseen)
  sees_still x (inr live) = elim (hidden x live.session live.transaction live.there live.name) [
    | inl none ↦ absurd (let id : x.id ≡ live.transaction.id = ap (λ (y : Name). y.id) live.name in let some = live.drawn in omega (arith, none, id, some))
    | inr unseen ↦ unseen ∙ sym (not_in x unseen)
  ]

  long : c.prefix ≤ length next.history
  long =
      let one = ap (λ (h : List Entry). length h) grows.whole in
      let two = length-append grows.news m.history in
      let had = is.sees.within in
      omega (arith, one, two, had)

  ended_still : PrefixHasEnded next c
  ended_still table key v at inside session t there name = elim (hidden v.window.name session t there name) [
    | inl none ↦ absurd (has_id v.window.name (ap (λ (y : Name). y.run) name) (drawn v.window.name (committed-whole next.history c.prefix v.window.name inside)) none)
    | inr unseen ↦ absurd (false≢true (sym (not_in v.window.name unseen) ∙ inside))
  ]

  pub running_still : IsRunning next c r
  running_still = record {
    sees = record { run = apart.run; order = apart.order; drawn = apart.drawn; within = long; sees = sees_still };
    oldest = is.oldest;
    ended = ended_still;
    stable = is.stable;
    tables = is.tables ∙ ap (λ (h : List Entry). length (tables h)) (sym same_first);
  }

-- ---- under way

abbrev apart_of : (m : Machine) (c : Checkpoint) (r : RunningCheckpoint) (g : Ground) → IsUnderWay m c r g → IsApart m r.snapshot.sight
apart_of m c r g u = record { run = u.is.sees.run; order = u.is.sees.order; drawn = u.is.sees.drawn; unseen = u.unseen }

pub still_under_way : (m next : Machine) (c : Checkpoint) (r : RunningCheckpoint) (g : Ground) → Valid m → Valid next → next.checkpoint ≡ m.checkpoint → GoesOn m next → GoesApart m next → IsUnderWay m c r g → IsUnderWay next c r g
still_under_way m next c r g valid now same on goes u =
    let apart = goes r.snapshot.sight (apart_of m c r g u) in
    record {
      runs = same ∙ u.runs;
      is = running_still m next c r valid now u.runs u.is apart.0 apart.1;
      number = u.number;
      respects = (on (floor_at r.snapshot.sight) u.respects).0;
      unseen = apart.0.unseen;
      above = u.above;
    }

-- the machine goes on
pub runs_on : (g : Ground) (o : Option Underway) (m next : Machine) → Valid m → Valid next → next.checkpoint ≡ m.checkpoint → GoesOn m next → GoesApart m next → RunsOver g o m → RunsOver g o next
runs_on g None m next valid now same on goes none = same ∙ none
runs_on g (Some x) m next valid now same on goes (c, u) = (c, still_under_way m next c x.checkpoint g valid now same on goes u)

-- it is down
pub runs_down : (g : Ground) (o : Option Underway) (m : Machine) (fault : Fault) → Valid m → Valid (after_event m (GoDown fault)) → RunsOver g o m → RunsOver g o (after_event m (GoDown fault))
runs_down g o m fault valid now runs =
    runs_on g o m (after_event m (GoDown fault)) valid now refl (λ floor r. (record { next = r.next; living = r.living }, λ table key. refl)) (apart_down m (after_event m (GoDown fault)) refl refl refl refl) runs

-- on another ground of the same checkpoint
pub runs_ground : (g g' : Ground) (o : Option Underway) (m : Machine) → g'.number ≡ g.number → g'.floor ≡ g.floor → RunsOver g o m → RunsOver g' o m
runs_ground g g' None m number floor none = none
runs_ground g g' (Some x) m number floor (c, u) = (
  c,
  record {
    runs = u.runs;
    is = u.is;
    number = subst (λ (n : ℕ). n < last_number) (sym number) u.number;
    respects = u.respects;
    unseen = u.unseen;
    above = subst (λ (f : Name). (y : Name) → is_before f y ≡ true → is_before (floor_at x.checkpoint.snapshot.sight) y ≡ true) (sym floor) u.above;
  },
)

pub runs_kept : (g g' : Ground) (o : Option Underway) (m : Machine) → IsSameButKept g g' → RunsOver g o m → RunsOver g' o m
runs_kept g g' o m same runs = runs_ground g g' o m (ap (λ (x : Ground). x.number) same) (ap (λ (x : Ground). x.floor) same) runs

-- as what asks of the engine is told
pub runs_as : (g : Ground) (o : Option Underway) (m : Machine) → RunsOver g o m → RunsAs m (checkpoint_of o)
runs_as g None m none = none
runs_as g (Some x) m (c, u) = (c, u.runs, u.is)

-- lent
pub runs_lent : (g : Ground) (o : Option Underway) (lent : Option RunningCheckpoint) (m : Machine) → lent ≡ checkpoint_of o → RunsOver g o m → RunsAs m lent
runs_lent g o lent m same runs = subst (λ (x : Option RunningCheckpoint). RunsAs m x) (sym same) (runs_as g o m runs)

-- none does
pub runs_none : (g : Ground) (o : Option Underway) (m : Machine) → o ≡ None → RunsOver g o m → m.checkpoint ≡ None
runs_none g o m none runs = subst (λ (x : Option Underway). RunsOver g x m) none runs

pub none_runs : (g : Ground) (o : Option Underway) (m : Machine) → o ≡ None → m.checkpoint ≡ None → RunsOver g o m
none_runs g o m none free = subst (λ (x : Option Underway). RunsOver g x m) (sym none) free

-- the same one
pub runs_same : (g : Ground) (o o' : Option Underway) (m : Machine) → o' ≡ o → RunsOver g o m → RunsOver g o' m
runs_same g o o' m same runs = subst (λ (x : Option Underway). RunsOver g x m) (sym same) runs

-- a step of it was taken: it is the same checkpoint
pub runs_stepped : (g : Ground) (o : Option Underway) (u v : Underway) (m : Machine) → o ≡ Some u → v.checkpoint ≡ u.checkpoint → RunsOver g o m → RunsOver g (Some v) m
runs_stepped g o u v m some same runs =
    let x : (c : Checkpoint) × IsUnderWay m c u.checkpoint g = subst (λ (y : Option Underway). RunsOver g y m) some runs in
    (x.0, subst (λ (r : RunningCheckpoint). IsUnderWay m x.0 r g) (sym same) x.1)
