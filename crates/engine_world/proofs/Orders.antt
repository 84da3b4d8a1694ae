-- The greatest durable stamp that was found below the writes is the one that the stamp rules ask for.
use Rattle.std.proofs.Common.{◌≡◌, ◌⊎◌, ◌≤◌, ℕ, refl, ap, ◌∙◌, List, [], ◌∷◌, inl, inr, arith}
use Rattle.kv_model.specs.Holds.{Member}
use Rattle.kv_model.specs.History.{Write, line}
use Rattle.kv_model.specs.Machine.{Machine}
use Rattle.kv_model.specs.Refusals.{newest_durable, durable_below}
use Rattle.tree_dir.specs.declared.leaf.Leaf.{Leaf}
use Rattle.leaf_chains.specs.Slots.{key_of, key_at}
use Rattle.leaf_chains.proofs.Changes.{held}
use Rattle.call_steps.specs.declared.frame.FramePiece.{FramePiece}
use Rattle.call_steps.specs.declared.written.WrittenKey.{WrittenKey}
use Rattle.engine_world.specs.Leaves.{AreNoted, IsSlotOf, OrderedDownTo, durable_under, slots_in}
use Rattle.engine_world.proofs.Fronts.{index-of}

-- the durable stamp of the newest version of the key of a write
abbrev durable_at : Machine → Write → ℕ
durable_at m w = newest_durable (line m.history w.table w.key)

at-most : (m : Machine) (writes : List Write) (w : Write) → Member w writes → durable_at m w ≤ durable_below m writes
at-most m [] w there = absurd there
at-most m (x ∷ writes) w (inl same) = let is : durable_at m w ≡ durable_at m x = ap (durable_at m) same in omega arith
at-most m (x ∷ writes) w (inr there) = let later = at-most m writes w there in omega arith

bounded : (m : Machine) (writes : List Write) (bound : ℕ) → ((w : Write) → Member w writes → durable_at m w ≤ bound) → durable_below m writes ≤ bound
bounded m [] bound all = omega arith
bounded m (x ∷ writes) bound all = let first = all x (inl refl) in let later = bounded m writes bound (λ w there. all w (inr there)) in omega arith

-- under the slot that was noted stands the key of the write
under-is : (m : Machine) (leaves : List Leaf) (pieces : List FramePiece) (k : WrittenKey) (w : Write) → IsSlotOf leaves pieces k w.table w.key → durable_under m pieces k ≡ durable_at m w
under-is m leaves pieces k w slot = ap (λ n. newest_durable (line m.history n (key_at (slots_in pieces k.frame) k.slot))) slot.number ∙ ap (λ key. newest_durable (line m.history w.table key)) key where
  key : key_at (slots_in pieces k.frame) k.slot ≡ w.key
  key = ap key_of (held w.key (slots_in pieces k.frame) k.slot slot.slot)

pub prev-is : (m : Machine) (leaves : List Leaf) (pieces : List FramePiece) (writes : List Write) (keys : List WrittenKey) (prev : ℕ) → AreNoted leaves pieces writes keys → OrderedDownTo m pieces writes keys prev 0
    → prev ≡ durable_below m writes
prev-is m leaves pieces writes keys prev noted ordered = let low = bounded m writes prev covers in let high = least ordered.least in omega arith where
  covers : (w : Write) → Member w writes → durable_at m w ≤ prev
  covers w there = let n = noted.noted w there in let i = index-of keys n.0 n.1 in
      let under = ordered.covers i.0 n.0 (omega arith) i.1 in let is = under-is m leaves pieces n.0 w n.2 in omega arith

  least : (prev ≡ 0) ⊎ ((w : Write) × Member w writes × (prev ≡ newest_durable (line m.history w.table w.key))) → prev ≤ durable_below m writes
  least (inl none) = omega arith
  least (inr one) = let most = at-most m writes one.0 one.1 in let is = one.2 in omega arith
