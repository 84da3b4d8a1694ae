-- The chains of the leaves over the events that release, decide and end a transaction.
use Rattle.std.proofs.Common.{◌≡◌, ℕ, refl, ap, sym, ◌∙◌, List, [], ◌∷◌, inl, inr, subst}
use Rattle.std.specs.Prelude.{Some, slice_get}
use Rattle.stamp.specs.declared.Name.{Name}
use Rattle.kv_model.specs.Allowed.{Allowed}
use Rattle.kv_model.specs.History.{Write}
use Rattle.kv_model.specs.Machine.{Machine, Transaction, Phase, Running, Failed, Prepared, Resolving, Leaving, PrepareAt, CommitAt, EndTransaction, transaction_of, name_of, after}
use Rattle.kv_model.specs.Reads.{own_write, is_own, IsEnding}
use Rattle.update_chain.specs.declared.update.Update.{Update}
use Rattle.update_chain.specs.EventLaws.{StandsFor, NoneLeft, outcome, ChainsGoOn, PreparesStand, CommitsStand, ResolvesStand, EndsStand}
use Rattle.update_chain.specs.Updates.{unmarked_update}
use Rattle.leaf_chains.specs.Slots.{chain_at}
use Rattle.call_steps.specs.declared.edit.Edit.{Edit}
use Rattle.call_steps.specs.declared.edit.Edit.TheVariants as edit
use Rattle.call_steps.specs.declared.frame.FramePiece.{FramePiece}
use Rattle.call_steps.specs.State.{State}
use Rattle.engine_world.specs.Worlds.{World}
use Rattle.engine_world.specs.Leaves.{AllHave, HasEdit, slots_in}
use Rattle.engine_world.specs.Stages.{IsEdited, DoneStands}
use Rattle.engine_world.specs.Stands.{Engine, Stands}
use Rattle.engine_world.proofs.Homes.{LeavesStand}
use Rattle.engine_world.proofs.Fronts.{SlotIs, row_at, front-is, front-has, edited-at, leaves-own}

living : (x : Transaction) (p : Phase) → x.phase ≡ p → (IsEnding p → ⊥) → IsEnding x.phase → ⊥
living x p is alive ending = alive (subst IsEnding is ending)

-- the front of a key that was written, with what was done to all
own-front : (e : Engine) (w : World) (s : ℕ) (a : State) (x : Transaction) (change : Edit) (place table : ℕ) (key : List ℕ) (o : Write) → transaction_of w.machine s ≡ Some x → (IsEnding x.phase → ⊥)
    → IsEdited change w.machine e.pieces x a 0 → own_write x table key ≡ Some o → SlotIs e.pieces a.written place key → StandsFor w.machine table key (chain_at key (slots_in e.pieces place)) (row_at e.pieces place key) []
    → (u : Update) × (older : List Update) × (chain_at key (slots_in e.pieces place) ≡ u ∷ older) × (u.version.window.name ≡ name_of w.machine x) × (u.version.change ≡ o.change) × HasEdit change u
own-front e w s a x change place table key o there alive done own slot k =
    let f = front-is w.machine s x o table key (chain_at key (slots_in e.pieces place)) (row_at e.pieces place key) [] there own alive k in
    let all = edited-at change (name_of w.machine x) e.pieces a.written place key done slot in
    (f.front, f.older, f.chained, f.named, f.changed, front-has change (name_of w.machine x) o.change (chain_at key (slots_in e.pieces place)) f all f.front (inl refl) f.named)

-- a prepare, after the marks
pub prepared-leaves : ChainsGoOn → PreparesStand → (e : Engine) (w : World) (s stamp : ℕ) (a : State) (x : Transaction) → Stands e w → slice_get e.sessions s ≡ Some a → transaction_of w.machine s ≡ Some x → x.phase ≡ Running
    → Allowed w.machine (PrepareAt s stamp) → IsEdited (edit.Mark stamp) w.machine e.pieces x a 0 → LeavesStand (after w.machine (PrepareAt s stamp)) w.shelf w.records e.hub.dir.leaves e.pieces e.states
prepared-leaves chains-go-on prepares-stand e w s stamp a x st at there running may marked =
    leaves-own chains-go-on e w s a x (PrepareAt s stamp) st at there may (λ number key none. none) (λ place table key o own slot k.
    let f = own-front e w s a x (edit.Mark stamp) place table key o there (living x Running running (λ z. z)) marked own slot k in
    subst (λ c. StandsFor (after w.machine (PrepareAt s stamp)) table key c (row_at e.pieces place key) []) (sym f.2)
    (prepares-stand w.machine s stamp x table key f.0 f.1 (row_at e.pieces place key) [] st.valid may (there, ap is_own own) f.5 (subst (λ c. StandsFor w.machine table key c (row_at e.pieces place key) []) f.2 k)))

-- a commit of a transaction that runs, after the stamps
pub committed-leaves : ChainsGoOn → CommitsStand → (e : Engine) (w : World) (s stamp : ℕ) (a : State) (x : Transaction) → Stands e w → slice_get e.sessions s ≡ Some a → transaction_of w.machine s ≡ Some x → x.phase ≡ Running
    → Allowed w.machine (CommitAt s stamp stamp) → IsEdited (edit.Stamp stamp stamp) w.machine e.pieces x a 0 → LeavesStand (after w.machine (CommitAt s stamp stamp)) w.shelf w.records e.hub.dir.leaves e.pieces e.states
committed-leaves chains-go-on commits-stand e w s stamp a x st at there running may stamped =
    leaves-own chains-go-on e w s a x (CommitAt s stamp stamp) st at there may (λ number key none. none) (λ place table key o own slot k.
    let f = own-front e w s a x (edit.Stamp stamp stamp) place table key o there (living x Running running (λ z. z)) stamped own slot k in
    let whole : f.0 ≡ unmarked_update (outcome w.machine x o stamp stamp) =
    λ i. record { version = record { window = record { name = f.3 i; commit = f.5.0 i; durable = f.5.1.0 i }; change = f.4 i }; prepared = f.5.1.1 i } in
    let chained : chain_at key (slots_in e.pieces place) ≡ unmarked_update (outcome w.machine x o stamp stamp) ∷ f.1 = f.2 ∙ ap (λ u. u ∷ f.1) whole in
    subst (λ c. StandsFor (after w.machine (CommitAt s stamp stamp)) table key c (row_at e.pieces place key) []) (sym chained)
    (commits-stand w.machine s stamp x o table key f.1 (row_at e.pieces place key) [] st.valid there running own (subst (λ c. StandsFor w.machine table key c (row_at e.pieces place key) []) chained k)))

-- the commit of a prepared transaction, before the stamps
pub resolved-leaves : ChainsGoOn → ResolvesStand → (e : Engine) (w : World) (s stamp commit durable : ℕ) (a : State) (x : Transaction) → Stands e w → slice_get e.sessions s ≡ Some a → transaction_of w.machine s ≡ Some x
    → x.phase ≡ Prepared stamp → Allowed w.machine (CommitAt s commit durable) → LeavesStand (after w.machine (CommitAt s commit durable)) w.shelf w.records e.hub.dir.leaves e.pieces e.states
resolved-leaves chains-go-on resolves-stand e w s stamp commit durable a x st at there is may =
    leaves-own chains-go-on e w s a x (CommitAt s commit durable) st at there may (λ number key none. none) (λ place table key o own slot k.
    resolves-stand w.machine s stamp commit durable x table key (chain_at key (slots_in e.pieces place)) (row_at e.pieces place key) [] st.valid may (there, ap is_own own) is k)

-- ---- ends

none-leaving : (name : Name) (chain : List Update) → AllHave edit.Undo name chain → NoneLeft Leaving name chain
none-leaving name [] none = tt
none-leaving name (u ∷ older) none = λ named. none u (inl refl) named

none-resolving : (name : Name) (chain : List Update) → AllHave edit.Undo name chain → NoneLeft Resolving name chain
none-resolving name [] none = tt
none-resolving name (u ∷ older) none = λ named. absurd (none u (inl refl) named)

all-stamped : (name : Name) (commit durable : ℕ) (chain : List Update) → AllHave (edit.Stamp commit durable) name chain → NoneLeft Resolving name chain
all-stamped name commit durable [] all = tt
all-stamped name commit durable (u ∷ older) all = λ named. (all u (inl refl) named).1.1

-- nothing is left to change
done-left : (p : Phase) (m : Machine) (pieces : List FramePiece) (x : Transaction) (a : State) (place : ℕ) (key : List ℕ) → DoneStands p m pieces x a → SlotIs pieces a.written place key
    → NoneLeft p (name_of m x) (chain_at key (slots_in pieces place))
done-left Running m pieces x a place key done slot = absurd done
done-left Failed m pieces x a place key done slot = absurd done
done-left (Prepared stamp) m pieces x a place key done slot = absurd done
done-left Leaving m pieces x a place key done slot = none-leaving (name_of m x) (chain_at key (slots_in pieces place)) (edited-at edit.Undo (name_of m x) pieces a.written place key done slot)
done-left Resolving m pieces x a place key (inl undone) slot =
    none-resolving (name_of m x) (chain_at key (slots_in pieces place)) (edited-at edit.Undo (name_of m x) pieces a.written place key undone slot)
done-left Resolving m pieces x a place key (inr stamped) slot =
    all-stamped (name_of m x) stamped.0 stamped.1 (chain_at key (slots_in pieces place)) (edited-at (edit.Stamp stamped.0 stamped.1) (name_of m x) pieces a.written place key stamped.2 slot)

-- the end of a transaction
pub ended-leaves : ChainsGoOn → EndsStand → (e : Engine) (w : World) (s : ℕ) (a : State) (x : Transaction) → Stands e w → slice_get e.sessions s ≡ Some a → transaction_of w.machine s ≡ Some x
    → Allowed w.machine (EndTransaction s) → DoneStands x.phase w.machine e.pieces x a → LeavesStand (after w.machine (EndTransaction s)) w.shelf w.records e.hub.dir.leaves e.pieces e.states
ended-leaves chains-go-on ends-stand e w s a x st at there may done =
    leaves-own chains-go-on e w s a x (EndTransaction s) st at there may (λ number key none. none) (λ place table key o own slot k.
    ends-stand w.machine s x table key (chain_at key (slots_in e.pieces place)) (row_at e.pieces place key) [] st.valid may there (done-left x.phase w.machine e.pieces x a place key done slot) k)
