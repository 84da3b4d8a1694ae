-- What is left to do for a prepared transaction whose commit or rollback was decided.
use Rattle.std.proofs.Common.{◌≡◌, ◌≤◌, ◌+◌, ℕ, zero, suc, refl, ap, sym, Bool, true, List, [], ◌∷◌, ◌++◌, length, inl, inr, subst, map, arith}
use Rattle.std.specs.Prelude.{Some, filter}
use Rattle.std.proofs.lemmas.Bool.{cases_Bool, both_ways}
use Rattle.std.proofs.lemmas.Option.{slice_get_within}
use Rattle.stamp.specs.declared.Name.{Name}
use Rattle.wt_code.specs.declared.answers.Answer.TheVariants as answers
use Rattle.kv_model.specs.Holds.{Member}
use Rattle.kv_model.specs.History.{Entry, Resolve, Undo, Write, line, committed, version_of, writes_at}
use Rattle.kv_model.specs.Machine.{Machine, Transaction, Prepared, Resolving, appended, decided, in_phase, left, stamped, transaction_of, name_of}
use Rattle.kv_model.specs.Refusals.{stamp_of, or_stamp}
use Rattle.kv_model.specs.Valid.{Valid, PhaseStands, PreparedStands}
use Rattle.kv_model.proofs.Finishing.{line-committed}
use Rattle.kv_model.proofs.Ordering.{line-writes}
use Rattle.kv_model.proofs.OwnWrites.{at-own, with_stamps}
use Rattle.tree_dir.specs.declared.leaf.Leaf.{Leaf}
use Rattle.call_steps.specs.declared.edit.Edit.{Edit}
use Rattle.call_steps.specs.declared.edit.Edit.TheVariants as edit
use Rattle.call_steps.specs.declared.frame.FramePiece.{FramePiece}
use Rattle.call_steps.specs.declared.stage.CommitStamps.{CommitStamps}
use Rattle.call_steps.specs.declared.stage.Stage.{Stage}
use Rattle.call_steps.specs.declared.stage.Stage.TheVariants as stage
use Rattle.call_steps.specs.declared.written.WrittenKey.{WrittenKey}
use Rattle.call_steps.specs.Stages.{stamps_then, undoes}
use Rattle.call_steps.specs.State.{State}
use Rattle.txn_table.specs.declared.phase.Phase.TheVariants as phase
use Rattle.engine_world.specs.Doings.{doing_at, done_left}
use Rattle.engine_world.specs.Leaves.{EditedDownTo}
use Rattle.engine_world.specs.Stages.{AreCommitted, NoneStands, stamps_in}
use Rattle.engine_world.specs.Worlds.{Ending}
use Rattle.engine_world.proofs.InPlace.{StageInPlace}

-- where no key is past the ones that are left, nothing is said
pub edited-none : (e : Edit) (name : Name) (pieces : List FramePiece) (keys : List WrittenKey) (left : ℕ) → length keys ≤ left → EditedDownTo e name pieces keys left
edited-none e name pieces keys left few i k low at = let inside = slice_get_within keys i k at in absurd (omega (arith, few, low))

-- ---- versions

member-map : {A B : Type 0} (f : A → B) (l : List A) (x : A) → Member x l → Member (f x) (map f l)
member-map f [] x there = absurd there
member-map f (y ∷ l) x (inl same) = inl (ap f same)
member-map f (y ∷ l) x (inr there) = inr (member-map f l x there)

member-filter : {A : Type 0} (p : A → Bool) (l : List A) (x : A) → Member x l → p x ≡ true → Member x (filter p l)
member-filter p [] x there is = absurd there
member-filter p (y ∷ l) x (inl same) is = rw (subst (λ z. p z ≡ true) same is) (inl same)
member-filter p (y ∷ l) x (inr there) is = elim (cases_Bool (p y)) [ inl passes ↦ rw passes (inr (member-filter p l x there is)) | inr not ↦ rw not (member-filter p l x there is) ]

member-left : {A : Type 0} (l rest : List A) (x : A) → Member x l → Member x (l ++ rest)
member-left [] rest x there = absurd there
member-left (y ∷ l) rest x (inl same) = inl same
member-left (y ∷ l) rest x (inr there) = inr (member-left l rest x there)

appended-some : (writes : List Write) (w : Write) (entry : Entry) (history : List Entry) → Member w writes → appended writes entry history ≡ entry ∷ history
appended-some [] w entry history there = absurd there
appended-some (x ∷ writes) w entry history there = refl

-- the commit of a prepared transaction makes a version of each of its writes
version-made : (name : Name) (commit durable : ℕ) (writes : List Write) (history : List Entry) (w : Write) → Member w writes
    → Member (version_of name (with_stamps commit durable w)) (line (appended writes (Resolve name (stamped commit durable writes)) history) w.table w.key)
version-made name commit durable writes history w there =
    subst (λ h. Member (version_of name (with_stamps commit durable w)) (line h w.table w.key)) (sym (appended-some writes w (Resolve name (stamped commit durable writes)) history there))
    (subst (Member (version_of name (with_stamps commit durable w))) (sym (line-writes name (stamped commit durable writes) history w.table w.key))
    (member-left (map (version_of name) (filter (writes_at w.table w.key) (stamped commit durable writes))) (line history w.table w.key) (version_of name (with_stamps commit durable w))
    (member-map (version_of name) (filter (writes_at w.table w.key) (stamped commit durable writes)) (with_stamps commit durable w)
    (member-filter (writes_at w.table w.key) (stamped commit durable writes) (with_stamps commit durable w) (member-map (with_stamps commit durable) writes w there) (at-own w)))))

pub are-committed : (stamps : CommitStamps) (m : Machine) (session stamp : ℕ) (t : Transaction)
    → AreCommitted stamps (decided (Prepared stamp) m session (stamp_of stamps.commit) (or_stamp (stamp_of stamps.durable) (stamp_of stamps.commit)) t) (in_phase Resolving t)
are-committed stamps m session stamp t w there = version-made (name_of m t) (stamp_of stamps.commit) (or_stamp (stamp_of stamps.durable) (stamp_of stamps.commit)) t.writes m.history w there

line-undone : (writes : List Write) (name : Name) (history : List Entry) (table : ℕ) (key : List ℕ) → line (appended writes (Undo name) history) table key ≡ line history table key
line-undone [] name history table key = refl
line-undone (w ∷ writes) name history table key = refl

-- its rollback makes none
pub none-stands : (m : Machine) (session stamp : ℕ) (t : Transaction) → Valid m → transaction_of m session ≡ Some t → t.phase ≡ Prepared stamp → NoneStands (left (Prepared stamp) m session t) (in_phase Resolving t)
none-stands m session stamp t valid there is w own v at named = both_ways (committed m.history (length m.history) (name_of m t)) stands.uncommitted
    (subst (λ n. committed m.history (length m.history) n ≡ true) named (line-committed m.history w.table w.key v (subst (Member v) (line-undone t.writes (name_of m t) m.history w.table w.key) at))) where
      stands : PreparedStands stamp m.history (name_of m t) t
      stands = subst (λ q. PhaseStands q m.history (name_of m t) t) is (valid.sessions.each session t there).phase

-- ---- stages

-- it is resolving, with this stage first
abbrev pub resolving_at : Stage → State → State
resolving_at g a = record a { phase = phase.Resolving; stage = g; answer = answers.Done }

pub stamps-doing : (leaves : List Leaf) (stamps : CommitStamps) (n session : ℕ) (g : Stage) (a : State) → (fewer : ℕ) × (fewer ≤ n + done_left a) × (doing_at (stamps_then stamps n stage.Done) leaves session (resolving_at g a) ≡ Ending answers.Done fewer)
stamps-doing leaves stamps zero session g a = (done_left a, omega arith, refl)
stamps-doing leaves stamps (suc n) session g a = (suc n + done_left a, omega arith, refl)

pub undos-doing : (leaves : List Leaf) (n session : ℕ) (g : Stage) (a : State) → (fewer : ℕ) × (fewer ≤ n + done_left a) × (doing_at (undoes n) leaves session (resolving_at g a) ≡ Ending answers.Done fewer)
undos-doing leaves zero session g a = (done_left a, omega arith, refl)
undos-doing leaves (suc n) session g a = (suc n + done_left a, omega arith, refl)

pub stamps-stage : (stamps : CommitStamps) (n : ℕ) (next : Machine) (leaves : List Leaf) (pieces : List FramePiece) (session : ℕ) (g : Stage) (a : State) (t : Transaction) → transaction_of next session ≡ Some (in_phase Resolving t)
    → AreCommitted stamps next (in_phase Resolving t) → length a.written ≡ n → StageInPlace (stamps_then stamps n stage.Done) next leaves pieces session (resolving_at g a)
stamps-stage stamps zero next leaves pieces session g a t there committed none =
    (in_phase Resolving t, there, inl (edited-none edit.Undo (name_of next (in_phase Resolving t)) pieces a.written 0 (omega (arith, none))))
stamps-stage stamps (suc n) next leaves pieces session g a t there committed some = (
  ((omega arith), (omega (arith, some))),
  (in_phase Resolving t, there, (committed, edited-none (stamps_in Resolving stamps) (name_of next (in_phase Resolving t)) pieces a.written (suc n) (omega (arith, some)))),
)

pub undos-stage : (n : ℕ) (next : Machine) (leaves : List Leaf) (pieces : List FramePiece) (session : ℕ) (g : Stage) (a : State) (t : Transaction) → transaction_of next session ≡ Some (in_phase Resolving t)
    → NoneStands next (in_phase Resolving t) → length a.written ≡ n → StageInPlace (undoes n) next leaves pieces session (resolving_at g a)
undos-stage zero next leaves pieces session g a t there gone none =
    (in_phase Resolving t, there, inl (edited-none edit.Undo (name_of next (in_phase Resolving t)) pieces a.written 0 (omega (arith, none))))
undos-stage (suc n) next leaves pieces session g a t there gone some = (
  ((omega arith), (omega (arith, some))),
  (in_phase Resolving t, there, (gone, edited-none edit.Undo (name_of next (in_phase Resolving t)) pieces a.written (suc n) (omega (arith, some)))),
)
