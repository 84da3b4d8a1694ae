-- What a checkpoint holds of a key, from the capture of its leaf to the finish, and what an opening makes of it.
use Rattle.std.specs.Prelude.{◌≡◌, ◌⊎◌, ℕ, Bool, true, List, ◌∷◌, ◌++◌, length, Option}
use Rattle.item.specs.declared.Change.{Change}
use Rattle.stamp.specs.declared.Version.{Version}
use Rattle.kv_model.specs.Holds.{Member, Descends, Stores, Covered}
use Rattle.kv_model.specs.Ordered.{Older, IsOrderly}
use Rattle.kv_model.specs.History.{Entry, Placed, Agree, of_key, history_of, cut, tables}
use Rattle.kv_model.specs.Captures.{Either, In, Layered, ReconciledLists, Captured, both, KeyCaptured, MayFollow, AllFollow, keeps, IsKeyLayered, IsKeyContent, Cleaned}
use Rattle.kv_model.specs.Allowed.{StampsFit}
use Rattle.kv_model.specs.StoreLaws.{Held}

-- the capture, from what stands at the event that makes the images
abbrev pub CaptureHolds : Type 0
CaptureHolds = (covers ended live past seen low : Version Change → Bool) (l held records moved : List (Version Change)) (cell : Option (Version Change)) → Descends Older l → Descends Older held
    → Stores Older covers l (Held held) (Held records) → Layered Older ended (Held held) (Held records)
    → ((v : Version Change) → ended v ≡ true → live v ≡ true)
    → ((v : Version Change) → Member v l → seen v ≡ true → live v ≡ true)
    → ((v : Version Change) → covers v ≡ true → (seen v ≡ true) × (low v ≡ true))
    → ((v : Version Change) → Member v l → past v ≡ true → covers v ≡ true)
    → ReconciledLists Older live past held cell moved
    → Captured Older seen low l cell (Either (Held records) (Held moved))

-- each entry that may come while a checkpoint runs keeps what it holds
abbrev pub EntriesKeepCaptures : Type 0
EntriesKeepCaptures = (entry : Entry) (news start : List Entry) (oldest table : ℕ) (key : List ℕ) (cell : Option (Version Change)) (records : List (Version Change))
    → MayFollow start entry → KeyCaptured news start oldest table key cell (Held records) → KeyCaptured (entry ∷ news) start oldest table key cell (Held records)

-- so does a history that gets versions of the line and loses covered ones
abbrev pub HistoriesKeepCaptures : Type 0
HistoriesKeepCaptures = (covers seen low : Version Change → Bool) (l records later : List (Version Change)) (cell : Option (Version Change))
    → ((v : Version Change) → covers v ≡ true → (seen v ≡ true) × (low v ≡ true))
    → ((v : Version Change) → Member v later → Member v l)
    → ((v : Version Change) → Member v records → Member v later ⊎ Covered Older covers l v)
    → Captured Older seen low l cell (Held records) → Captured Older seen low l cell (Held later)

-- what each key holds at the finish makes a content that agrees with the cut
abbrev pub FinishAgrees : Type 0
FinishAgrees = (news start : List Entry) (oldest stable : ℕ) (content : List Placed) (cells : ℕ → List ℕ → Option (Version Change)) (records : ℕ → List ℕ → List (Version Change))
    → IsOrderly (news ++ start) → AllFollow start news → StampsFit oldest stable
    → ((table : ℕ) (key : List ℕ) → KeyCaptured news start oldest table key (cells table key) (Held (records table key)))
    → ((table : ℕ) (key : List ℕ) → Descends Older (of_key table key content))
    → ((table : ℕ) (key : List ℕ) → IsKeyContent (keeps news start stable) (cells table key) (Held (records table key)) (of_key table key content))
    → Agree (history_of (tables start) content) (cut (news ++ start) (length start) stable) oldest

-- and one that is layered
abbrev pub FinishIsLayered : Type 0
FinishIsLayered = (seen low stable : Version Change → Bool) (l records : List (Version Change)) (cell : Option (Version Change))
    → Captured Older seen low l cell (Held records) → IsKeyLayered Older (both seen stable) cell (Held records)

-- what is kept of a cell and its records
abbrev pub KeptOf : (Version Change → Bool) → (Version Change → Type 0) → Version Change → Type 0
KeptOf keep P v = P v × (keep v ≡ true)

-- an opening: what is kept of a layered key stands for the line of what is kept
abbrev pub OpeningStores : Type 0
OpeningStores = (covers keep : Version Change → Bool) (l records : List (Version Change)) (cell : Option (Version Change))
    → IsKeyContent keep cell (Held records) l → IsKeyLayered Older keep cell (Held records)
    → Stores Older covers l (KeptOf keep (In cell)) (KeptOf keep (Held records))

-- a marked leaf's cell is cleaned: a hidden one gives way to the newest record
abbrev pub CleaningStores : Type 0
CleaningStores = (covers keep ended : Version Change → Bool) (l records : List (Version Change)) (cell new : Option (Version Change))
    → Stores Older covers l (KeptOf keep (In cell)) (Held records) → IsKeyLayered Older keep cell (Held records)
    → ((v : Version Change) → Member v records → keep v ≡ true) → ((v : Version Change) → Member v l → ended v ≡ true)
    → Cleaned Older keep cell (Held records) new
    → Stores Older covers l (In new) (Held records) × Layered Older ended (In new) (Held records)
