-- A read that finds nothing in the frame and goes on to the history, at a later moment.
use Rattle.std.specs.Prelude.{◌≡◌, ◌⊎◌, ℕ, false, List, Option, None}
use Rattle.item.specs.declared.Change.{Change}
use Rattle.stamp.specs.declared.Version.{Version}
use Rattle.kv_model.specs.Holds.{Member}
use Rattle.kv_model.specs.History.{admits}
use Rattle.kv_model.specs.Machine.{Machine, Transaction, name_of}
use Rattle.kv_model.specs.Reads.{own_write, Meets, IsEnding}
use Rattle.kv_model.specs.Pending.{Update, InFrame}

-- the frame holds nothing of the key that the reader admits; who is met there is ending, and his update is not on top
pub record Passes (m : Machine) (session : ℕ) (t : Transaction) (table : ℕ) (key : List ℕ) (top : List Update) (held : List (Version Change)) (cell : Option (Version Change)) : Type 0 where
  pub unwritten : own_write t table key ≡ None
  pub none : (v : Version Change) → InFrame held cell v → admits m.history t.start t.read v ≡ false
  pub ending : (other : ℕ) (x : Transaction) → Meets m session t table key other x → IsEnding x.phase
  pub unmet : (u : Update) → Member u top → (other : ℕ) (x : Transaction) → Meets m session t table key other x → u.version.window.name ≡ name_of m x → ⊥

-- a frame that stays: what it holds later, and what stands above its later versions, it held before or did not stand below its top before
pub record StaysPinned (below held : List (Version Change)) (cell : Option (Version Change)) (stands later_below later_held : List (Version Change)) (later_cell : Option (Version Change)) : Type 0 where
  pub frame : (v : Version Change) → InFrame later_held later_cell v → InFrame held cell v ⊎ (Member v below → ⊥)
  pub top : (v : Version Change) → Member v stands → (Member v later_below → ⊥) → Member v below → ⊥
