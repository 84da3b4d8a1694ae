-- A snapshot that sees a version of a key sees each older one.
use Rattle.std.proofs.Common.{◌≡◌, ℕ, sym, true, List, [], ◌∷◌, ◌++◌, length, inl, inr, subst, arith, map}
use Rattle.std.specs.Prelude.{filter}
use Rattle.item.specs.declared.Change.{Change}
use Rattle.stamp.specs.declared.Name.{Name}
use Rattle.stamp.specs.declared.Version.{Version}
use Rattle.kv_model.specs.Holds.{Member, Descends}
use Rattle.kv_model.specs.Ordered.{Follows, IsOrderly}
use Rattle.kv_model.specs.History.{Entry, Create, Commit, Prepare, Resolve, Undo, Rts, Write, line, released, version_of, writes_at, is_by}
use Rattle.kv_model.proofs.Agrees.{line-rts}
use Rattle.kv_model.proofs.Ordering.{line-writes, above-writes}
use Rattle.kv_model.proofs.Capturing.{descends-filter}
use Rattle.kv_model.proofs.Finishing.{line-committed}
use Rattle.kv_model.proofs.Releases.{released-mono, released-cases, released-older, committed-released}

-- each version of a line was released
pub line-released : (history : List Entry) → IsOrderly history → (table : ℕ) (key : List ℕ) (v : Version Change) → Member v (line history table key) → released history (length history) v.window.name ≡ true
line-released history orderly table key v there = committed-released history orderly (length history) v.window.name (line-committed history table key v there)

-- w is seen wherever v is
abbrev pub Sooner : List Entry → Version Change → Version Change → Type 0
Sooner history w v = (n : ℕ) → released history n v.window.name ≡ true → released history n w.window.name ≡ true

sooner-older : (entry : Entry) (history : List Entry) (w v : Version Change) → released history (length history) w.window.name ≡ true → Sooner history w v → Sooner (entry ∷ history) w v
sooner-older entry history w v whole s = λ n e. released-older entry history n w.window.name (elim (released-cases entry history n v.window.name e) [
  | inl here ↦ let after = here.1 in released-mono history (length history) n w.window.name (omega arith) whole
  | inr later ↦ s n later
])

descends-more : {A : Type 0} (P Q : A → A → Type 0) (l : List A) → ((x y : A) → Member y l → P y x → Q y x) → Descends P l → Descends Q l
descends-more P Q [] more d = tt
descends-more P Q (x ∷ xs) more d = ((λ y there. more x y (inr there) (d.0 y there)), descends-more P Q xs (λ z y there. more z y (inr there)) d.1)

sooner-entry : (entry : Entry) (older : List Entry) → IsOrderly older → (table : ℕ) (key : List ℕ) → Descends (Sooner older) (line older table key) → Descends (Sooner (entry ∷ older)) (line older table key)
sooner-entry entry older orderly table key d = descends-more (Sooner older) (Sooner (entry ∷ older)) (line older table key) (λ v w there s. sooner-older entry older w v (line-released older orderly table key w there) s) d

-- the versions of a commit, whose entry may release its name
sooner-writes : (entry : Entry) (name : Name) (writes : List Write) (older : List Entry) → IsOrderly older → Follows name writes older → (table : ℕ) (key : List ℕ) → Descends (Sooner older) (line older table key)
    → Descends (Sooner (entry ∷ older)) (map (version_of name) (filter (writes_at table key) writes) ++ line older table key)
sooner-writes entry name writes older orderly follows table key d = above-writes (Sooner (entry ∷ older)) name older table key writes follows
    (λ w of v there. let u = follows.above table key w of v there in sooner-older entry older v (version_of name w) u.whole u.sooner)
    (sooner-entry entry older orderly table key d)

pub line-sooner : (history : List Entry) → IsOrderly history → (table : ℕ) (key : List ℕ) → Descends (Sooner history) (line history table key)
line-sooner [] orderly table key = tt
line-sooner (Create t ∷ older) orderly table key = sooner-entry (Create t) older orderly.1 table key (line-sooner older orderly.1 table key)
line-sooner (Commit name writes ∷ older) orderly table key = rw (line-writes name writes older table key) (sooner-writes (Commit name writes) name writes older orderly.1 orderly.0 table key (line-sooner older orderly.1 table key))
line-sooner (Prepare name stamp ∷ older) orderly table key = sooner-entry (Prepare name stamp) older orderly table key (line-sooner older orderly table key)
line-sooner (Resolve name writes ∷ older) orderly table key = rw (line-writes name writes older table key) (sooner-writes (Resolve name writes) name writes older orderly.1 orderly.0.0 table key (line-sooner older orderly.1 table key))
line-sooner (Undo name ∷ older) orderly table key = sooner-entry (Undo name) older orderly table key (line-sooner older orderly table key)
line-sooner (Rts s ∷ older) orderly table key = rw (line-rts s older table key) (descends-filter (Sooner (Rts s ∷ older)) (is_by s) (line older table key) (sooner-entry (Rts s) older orderly table key (line-sooner older orderly table key)))

-- a snapshot that sees the newest version of a key sees all
pub line-seen : (history : List Entry) → IsOrderly history → (n table : ℕ) (key : List ℕ) → (newest : Version Change) (older : List (Version Change)) → line history table key ≡ newest ∷ older
    → released history n newest.window.name ≡ true → (v : Version Change) → Member v (line history table key) → released history n v.window.name ≡ true
line-seen history orderly n table key newest older is seen v there = go (subst (λ l. Descends (Sooner history) l) is (line-sooner history orderly table key)) (subst (λ l. Member v l) is there) where
  go : Descends (Sooner history) (newest ∷ older) → Member v (newest ∷ older) → released history n v.window.name ≡ true
  go d (inl same) = subst (λ (x : Version Change). released history n x.window.name ≡ true) (sym same) seen
  go d (inr later) = d.0 v later n seen
