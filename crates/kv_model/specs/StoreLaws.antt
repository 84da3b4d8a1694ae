-- What a store that holds the versions of a key in a frame and a history is good for.
use Rattle.std.specs.Prelude.{◌≡◌, ◌⊎◌, ◌≤◌, ℕ, Bool, true, List, filter, find, Option, Some, None}
use Rattle.item.specs.declared.Change.{Change}
use Rattle.stamp.specs.declared.Version.{Version}
use Rattle.kv_model.specs.Holds.{Member, Descends, Picks, Stores}
use Rattle.kv_model.specs.Ordered.{Older}
use Rattle.kv_model.specs.History.{admits}
use Rattle.kv_model.specs.Machine.{Machine, Transaction, transaction_of}
use Rattle.kv_model.specs.Droppable.{covers}
use Rattle.kv_model.specs.Captures.{Either, In, Layered, ReconciledLists}

abbrev pub Held : List (Version Change) → Version Change → Type 0
Held l v = Member v l

-- what the first step found, or else what the second did
abbrev pub or_else : Option (Version Change) → Option (Version Change) → Option (Version Change)
or_else None second = second
or_else (Some v) second = Some v

-- frame, then history, answer what the whole list answers; l: the versions of a key that stand
abbrev pub StoresAnswer : Type 0
StoresAnswer = (m : Machine) (s : ℕ) (t : Transaction) (l held records : List (Version Change)) (second : Option (Version Change)) → transaction_of m s ≡ Some t
    → Descends Older l → ((v : Version Change) → Member v l → v.window.commit ≤ v.window.durable) → Descends Older held
    → Stores Older (covers m) l (Held held) (Held records)
    → Picks Older (Held records) (admits m.history t.start t.read) second
    → or_else (find (admits m.history t.start t.read) held) second ≡ find (admits m.history t.start t.read) l

-- an eviction, of whose frame nothing is unresolved, leaves the image's cell in the frame and moves others to the history
abbrev pub EvictionKeepsStores : Type 0
EvictionKeepsStores = (covers ended past : Version Change → Bool) (l held records moved : List (Version Change)) (cell : Option (Version Change)) → Descends Older held
    → Stores Older covers l (Held held) (Held records) → Layered Older ended (Held held) (Held records)
    → ((v : Version Change) → Member v held → ended v ≡ true) → ((v : Version Change) → Member v l → past v ≡ true → covers v ≡ true)
    → ReconciledLists Older ended past held cell moved
    → Stores Older covers l (In cell) (Either (Held records) (Held moved)) × Layered Older ended (In cell) (Either (Held records) (Held moved))

-- a capture leaves the frame as it is
abbrev pub CaptureKeepsStores : Type 0
CaptureKeepsStores = (covers ended live past : Version Change → Bool) (l held records moved : List (Version Change)) (cell : Option (Version Change)) → Descends Older held
    → Stores Older covers l (Held held) (Held records) → Layered Older ended (Held held) (Held records)
    → ((v : Version Change) → Member v held → live v ≡ true → ended v ≡ true)
    → ReconciledLists Older live past held cell moved
    → Stores Older covers l (Held held) (Either (Held records) (Held moved)) × Layered Older ended (Held held) (Either (Held records) (Held moved))

-- what a rollback to stable leaves of a list
abbrev pub Staying : (Version Change → Bool) → List (Version Change) → Version Change → Type 0
Staying keeps l v = Member v l × (keeps v ≡ true)

-- the newest record comes back where nothing of the key is left in the frame
abbrev pub ComesBack : (Version Change → Bool) → List (Version Change) → List (Version Change) → Option (Version Change) → Type 0
ComesBack keeps held records back = (((v : Version Change) × Member v held × (keeps v ≡ true)) × (back ≡ None))
    ⊎ (((v : Version Change) → Member v held → keeps v ≡ true → ⊥) × Picks Older (Held records) keeps back)

-- a rollback to stable
abbrev pub RollbackKeepsStores : Type 0
RollbackKeepsStores = (covers keeps : Version Change → Bool) (l held records : List (Version Change)) (back : Option (Version Change)) → Descends Older l
    → ((v : Version Change) → covers v ≡ true → keeps v ≡ true)
    → Stores Older covers l (Held held) (Held records) → ComesBack keeps held records back
    → Stores Older covers (filter keeps l) (Either (Staying keeps held) (In back)) (Staying keeps records)
    × Layered Older (λ v. true) (Either (Staying keeps held) (In back)) (Staying keeps records)
