-- One key as a running engine, a checkpoint and an opening hold it.
use Rattle.std.specs.Prelude.{◌≡◌, ◌⊎◌, Bool, true, false, ◌&&◌, List, [], ◌∷◌, ◌++◌, length, find, Option, Some, None, ℕ}
use Rattle.item.specs.declared.Change.{Change}
use Rattle.stamp.specs.declared.Version.{Version}
use Rattle.kv_model.specs.Holds.{Member, Covered, Picks}
use Rattle.kv_model.specs.Ordered.{Older}
use Rattle.kv_model.specs.History.{Entry, Commit, Resolve, Rts, committed, is_by, is_stable, line}
use Rattle.kv_model.specs.Machine.{Machine, Checkpoint}

-- the same version, or an older one
abbrev pub UpTo : {A : Type 0} → (A → A → Type 0) → A → A → Type 0
UpTo Below x y = (x ≡ y) ⊎ Below x y

abbrev pub Either : {A : Type 0} → (A → Type 0) → (A → Type 0) → A → Type 0
Either One Two x = One x ⊎ Two x

abbrev pub In : {A : Type 0} → Option A → A → Type 0
In cell x = cell ≡ Some x

abbrev pub both : {A : Type 0} → (A → Bool) → (A → Bool) → A → Bool
both p q x = p x && q x

-- ---- a running engine

-- each history record lies at or below a version in the frame whose transaction has ended
abbrev pub Layered : {A : Type 0} → (A → A → Type 0) → (A → Bool) → (A → Type 0) → (A → Type 0) → Type 0
Layered {A} Below ended Frame History = (x : A) → History x → (y : A) × Frame y × (ended y ≡ true) × UpTo Below x y

-- what an image's cell and the versions that go to the history are made of; live: its transaction had ended when the leaf was looked up; past: what is older is out of reach
pub record Reconciled {A : Type 0} (Below : A → A → Type 0) (live past : A → Bool) (Frame : A → Type 0) (cell : Option A) (Moved : A → Type 0) : Type 0 where
  -- the newest that is live, a Remove too
  pub newest : Picks Below Frame live cell
  pub moved : (x : A) → Moved x → Frame x × (live x ≡ true)
  -- nothing is lost but what a newer one makes unreachable
  pub all : (x : A) → Frame x → live x ≡ true → In cell x ⊎ (Moved x ⊎ ((w : A) × Frame w × Below x w × (live w ≡ true) × (past w ≡ true)))

-- the same of lists: held is the chain's updates, then the cell, newest first
pub record ReconciledLists {A : Type 0} (Below : A → A → Type 0) (live past : A → Bool) (held : List A) (cell : Option A) (moved : List A) : Type 0 where
  pub cell_is : cell ≡ find live held
  pub from : (x : A) → Member x moved → Member x held × (live x ≡ true)
  pub all : (x : A) → Member x held → live x ≡ true → (find live held ≡ Some x) ⊎ (Member x moved ⊎ ((w : A) × Member w held × Below x w × (live w ≡ true) × (past w ≡ true)))

-- ---- a checkpoint, from the capture of the key's leaf to the finish

-- seen: the checkpoint's snapshot sees it; low: its durable stamp is at most the recorded oldest
pub record Captured {A : Type 0} (Below : A → A → Type 0) (seen low : A → Bool) (l : List A) (cell : Option A) (History : A → Type 0) : Type 0 where
  pub cell_there : (x : A) → In cell x → Member x l
  pub within : (x : A) → History x → Member x l
  pub all : (x : A) → Member x l → seen x ≡ true → Either (In cell) History x ⊎ Covered Below (both seen low) l x
  -- the cell is at or above each version that is seen
  pub top : (x : A) → Member x l → seen x ≡ true → (y : A) × In cell y × UpTo Below x y

-- the checkpoint of the first n entries sees it
abbrev pub is_in : List Entry → ℕ → Version Change → Bool
is_in history n v = committed history n v.window.name

-- what the checkpoint of start holds of one key after the newer entries
abbrev pub KeyCaptured : List Entry → List Entry → ℕ → ℕ → List ℕ → Option (Version Change) → (Version Change → Type 0) → Type 0
KeyCaptured news start oldest table key cell History =
    Captured Older (is_in (news ++ start) (length start)) (is_by oldest) (line (news ++ start) table key) cell History

-- what the running checkpoint holds of one key
abbrev pub CapturedIn : Machine → Checkpoint → ℕ → List ℕ → Option (Version Change) → (Version Change → Type 0) → Type 0
CapturedIn m c table key cell History = Captured Older (is_in m.history c.prefix) (is_by c.oldest) (line m.history table key) cell History

-- it is kept by that checkpoint, at its recorded stable stamp
abbrev pub keeps : List Entry → List Entry → ℕ → Version Change → Bool
keeps news start stable = both (is_in (news ++ start) (length start)) (is_stable stable)

-- an entry that may come while a checkpoint of start runs: no rollback to stable, and no second commit of a name
abbrev pub MayFollow : List Entry → Entry → Type 0
MayFollow start (Commit name writes) = committed start (length start) name ≡ false
MayFollow start (Resolve name writes) = committed start (length start) name ≡ false
MayFollow start (Rts stable) = ⊥
MayFollow start _ = Unit {0}

abbrev pub AllFollow : List Entry → List Entry → Type 0
AllFollow start [] = Unit {0}
AllFollow start (entry ∷ older) = MayFollow start entry × AllFollow start older

-- ---- a device

-- each record that is kept has a cell of its key with a greater name, or is that cell; the cell may be hidden
abbrev pub IsKeyLayered : {A : Type 0} → (A → A → Type 0) → (A → Bool) → Option A → (A → Type 0) → Type 0
IsKeyLayered {A} Below keep cell History = (x : A) → History x → keep x ≡ true → (y : A) × In cell y × UpTo Below x y

-- the list of what is kept of a cell and the history
pub record IsKeyContent {A : Type 0} (keep : A → Bool) (cell : Option A) (History : A → Type 0) (content : List A) : Type 0 where
  pub from : (x : A) → Member x content → Either (In cell) History x × (keep x ≡ true)
  pub into : (x : A) → Either (In cell) History x → keep x ≡ true → Member x content

-- what becomes of a marked leaf's cell: a hidden one gives way to the newest record that is kept
abbrev pub Cleaned : {A : Type 0} → (A → A → Type 0) → (A → Bool) → Option A → (A → Type 0) → Option A → Type 0
Cleaned Below keep None History new = new ≡ None
Cleaned Below keep (Some v) History new = ((keep v ≡ true) × (new ≡ Some v)) ⊎ ((keep v ≡ false) × Picks Below History keep new)
