-- A droppable version is never picked.
use Rattle.std.proofs.Common.{◌≡◌, ◌≤◌, ℕ, refl, sym, Bool, List, [], ◌∷◌, ◌++◌, inl, inr, subst, map}
use Rattle.std.specs.Prelude.{Some, find, filter}
use Rattle.item.specs.declared.Change.{Change}
use Rattle.stamp.specs.declared.Name.{Name}
use Rattle.stamp.specs.declared.Version.{Version}
use Rattle.kv_model.specs.Holds.{Member}
use Rattle.kv_model.specs.Ordered.{Older, Follows, IsOrderly}
use Rattle.kv_model.specs.History.{Entry, Create, Commit, Prepare, Resolve, Undo, Rts, Write, line, admits, version_of, writes_at, is_by}
use Rattle.kv_model.specs.Machine.{Machine, Transaction, transaction_of}
use Rattle.kv_model.specs.Droppable.{IsDroppable}
use Rattle.kv_model.specs.Valid.{Valid}
use Rattle.kv_model.proofs.Agrees.{line-rts}
use Rattle.kv_model.proofs.Ordering.{line-writes, line-descends}
use Rattle.kv_model.proofs.Newest.{find-newest}
use Rattle.kv_model.proofs.Covering.{covers-admitted}
use Rattle.kv_model.proofs.Capturing.{member-out}
use Rattle.kv_model.proofs.Finishing.{member-append, older-order}

-- a version of these writes is the version of one of them
pub version-from : (name : Name) (writes : List Write) (v : Version Change) → Member v (map (version_of name) writes) → (w : Write) × Member w writes × (v ≡ version_of name w)
version-from name [] v there = absurd there
version-from name (w ∷ writes) v (inl same) = (w, inl refl, same)
version-from name (w ∷ writes) v (inr there) = let later = version-from name writes v there in (later.0, inr later.1, later.2)

fit : (name : Name) (writes : List Write) (older : List Entry) → Follows name writes older → (table : ℕ) (key : List ℕ) → ((v : Version Change) → Member v (line older table key) → v.window.commit ≤ v.window.durable)
    → (v : Version Change) → Member v (map (version_of name) (filter (writes_at table key) writes) ++ line older table key) → v.window.commit ≤ v.window.durable
fit name writes older follows table key rest v there = elim (member-append v (map (version_of name) (filter (writes_at table key) writes)) (line older table key) there) [
  | inl new ↦ let w = version-from name (filter (writes_at table key) writes) v new in
      subst (λ (x : Version Change). x.window.commit ≤ x.window.durable) (sym w.2) (follows.stamps w.0 (member-out (writes_at table key) writes w.0 w.1).0)
  | inr old ↦ rest v old
]

member-out-of : {A : Type 0} (keeps : A → Bool) (l : List A) (x : A) → Member x (filter keeps l) → Member x l
member-out-of keeps l x there = (member-out keeps l x there).0

-- the commit stamp of a version that stands is not after its durable one
pub line-stamps : (history : List Entry) → IsOrderly history → (table : ℕ) (key : List ℕ) (v : Version Change) → Member v (line history table key) → v.window.commit ≤ v.window.durable
line-stamps [] orderly table key v there = absurd there
line-stamps (Create t ∷ older) orderly table key v there = line-stamps older orderly.1 table key v there
line-stamps (Commit name writes ∷ older) orderly table key v there = fit name writes older orderly.0 table key (line-stamps older orderly.1 table key) v (rw (line-writes name writes older table key) at there)
line-stamps (Prepare name stamp ∷ older) orderly table key v there = line-stamps older orderly table key v there
line-stamps (Resolve name writes ∷ older) orderly table key v there = fit name writes older orderly.0.0 table key (line-stamps older orderly.1 table key) v (rw (line-writes name writes older table key) at there)
line-stamps (Undo name ∷ older) orderly table key v there = line-stamps older orderly table key v there
line-stamps (Rts s ∷ older) orderly table key v there = line-stamps older orderly table key v (member-out-of (is_by s) (line older table key) v (rw (line-rts s older table key) at there))

pub never-picked : (m : Machine) (s : ℕ) (t : Transaction) (table : ℕ) (key : List ℕ) (v : Version Change) → Valid m → transaction_of m s ≡ Some t → IsDroppable m table key v
    → find (admits m.history t.start t.read) (line m.history table key) ≡ Some v → ⊥
never-picked m s t table key v valid there c found =
    let sees = covers-admitted m s t c.by there (line-stamps m.history valid.orderly table key c.by c.there) c.is_cover in
    elim (find-newest Older (admits m.history t.start t.read) (line m.history table key) v (line-descends m.history valid.orderly table key) found c.by c.there sees) [
      | inl same ↦ older-order.irrefl v (subst (λ x. Older v x) same c.above)
      | inr below ↦ older-order.asym v c.by c.above below
    ]
