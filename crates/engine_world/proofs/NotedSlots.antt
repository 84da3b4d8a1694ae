-- The slots that were noted for the writes of a transaction.
use Rattle.std.proofs.Common.{◌≡◌, ◌≢◌, ◌<◌, ℕ, zero, suc, refl, ap, ◌∙◌, true, List, [], ◌∷◌, inl, inr, subst, arith}
use Rattle.std.specs.Prelude.{Option, Some, None, find, slice_get}
use Rattle.std.proofs.lemmas.Bool.{cases_Bool, both_ways}
use Rattle.kv_model.specs.Holds.{Member}
use Rattle.kv_model.specs.History.{Write, line, writes_at}
use Rattle.kv_model.specs.Machine.{Machine, Transaction, of_some, transaction_of}
use Rattle.kv_model.specs.Reads.{is_own}
use Rattle.kv_model.specs.Refusals.{newest_durable}
use Rattle.kv_model.specs.Valid.{Valid}
use Rattle.kv_model.proofs.OwnWrites.{at-own}
use Rattle.kv_model.proofs.Releasing.{drawn-by-write}
use Rattle.leaf_chains.specs.declared.slot.KeyChain.{KeyChain}
use Rattle.leaf_chains.specs.Slots.{chain_at, key_at, key_of, slot_of}
use Rattle.leaf_chains.proofs.Changes.{held}
use Rattle.tree_dir.specs.declared.leaf.Leaf.{Leaf}
use Rattle.call_steps.specs.declared.frame.FramePiece.{FramePiece}
use Rattle.call_steps.specs.declared.written.WrittenKey.{WrittenKey}
use Rattle.call_steps.specs.Leaves.{chain_in}
use Rattle.engine_world.specs.Leaves.{AreNoted, IsSlotOf, durable_under, frame_of, slots_in}
use Rattle.engine_world.proofs.Beside.{LeavesKept, LeavesStay, SlotsStay, StayWritten}
use Rattle.engine_world.proofs.Homes.{IsHome, frame-from, home-is}

-- ---- one slot

pub slot-chain : (key : List ℕ) (slots : List KeyChain) (i : ℕ) → slot_of key slots ≡ Some i → chain_in slots i ≡ chain_at key slots
slot-chain key slots i at = ap (λ (o : Option KeyChain). of_some [] (λ (s : KeyChain). s.chain) o) (held key slots i at)

pub slot-key : (key : List ℕ) (slots : List KeyChain) (i : ℕ) → slot_of key slots ≡ Some i → key_at slots i ≡ key
slot-key key slots i at = ap key_of (held key slots i at)

-- what stands at an index is a member
pub at-index : {A : Type 0} (xs : List A) (i : ℕ) (x : A) → slice_get xs i ≡ Some x → Member x xs
at-index [] i x at = let none : None ≡ Some x = at in absurd (cc)
at-index (y ∷ ys) zero x at = inl (let same : Some y ≡ Some x = at in cc)
at-index (y ∷ ys) (suc i) x at = inr (at-index ys i x at)

-- ---- the writes

-- of a key that was written there is an own write
pub own-found : (w : Write) (writes : List Write) → Member w writes → is_own (find (writes_at w.table w.key) writes) ≡ true
own-found w [] member = absurd member
own-found w (o ∷ writes) member = elim (cases_Bool (writes_at w.table w.key o)) [
  | inl is ↦ rw is refl
  | inr isnt ↦ rw isnt (own-found w writes (elim member [
    | inl same ↦ absurd (both_ways (writes_at w.table w.key o) isnt (subst (λ (x : Write). writes_at w.table w.key x ≡ true) same (at-own w)))
    | inr later ↦ later
  ]))
]

-- who wrote has drawn its id
pub drawn-with : (m : Machine) (session : ℕ) (t : Transaction) (w : Write) → Valid m → transaction_of m session ≡ Some t → Member w t.writes → 0 < t.id
drawn-with m session t w valid there member = by-writes t.writes refl member where
  by-writes : (writes : List Write) → t.writes ≡ writes → Member w writes → 0 < t.id
  by-writes [] is member = absurd member
  by-writes (o ∷ writes) is member = drawn-by-write m.run m.next m.history t o writes (valid.sessions.each session t there) is

-- ---- a slot that was noted

-- the newest version that stands of the key
pub slot-durable : (m : Machine) (leaves : List Leaf) (pieces : List FramePiece) (k : WrittenKey) (table : ℕ) (key : List ℕ) → IsSlotOf leaves pieces k table key → durable_under m pieces k ≡ newest_durable (line m.history table key)
slot-durable m leaves pieces k table key s = λ i. newest_durable (line m.history (s.number i) (slot-key key (slots_in pieces k.frame) k.slot s.slot i))

-- where the directory is the same
pub kept-same : (leaves : List Leaf) → LeavesKept None leaves leaves
kept-same leaves = record { to = λ l. l; alike = λ l. record { id = refl; table = refl; key = refl; frame = λ f e other. e }; there = λ l there. there; under = λ table key l e. e; behind = λ l there. refl; on = λ way l there. refl }

pub stay-same : (leaves : List Leaf) (pieces later : List FramePiece) → SlotsStay pieces later → LeavesStay None leaves leaves pieces later
stay-same leaves pieces later stays = record {
  kept = kept-same leaves;
  tables = λ table key frame e other. stays.tables frame;
  slots = λ table key frame other i e left at. stays.slots frame other i at;
  older = λ frame. let same = stays.generations frame in omega (arith, same);
  past = λ l target there is none. absurd cc;
}

-- a key stays in its frame
pub home-stays : (freed : Option ℕ) (leaves made : List Leaf) (table : ℕ) (key : List ℕ) (frame : ℕ) → LeavesKept freed leaves made → frame_of leaves table key ≡ Some frame → freed ≢ Some frame → frame_of made table key ≡ Some frame
home-stays freed leaves made table key frame kept e stays =
    frame-from made table key (kept.to h.leaf) h.framed (kept.under table key h.leaf h.under) ((kept.alike h.leaf).frame h.framed h.placed (λ is. stays (is ∙ ap Some h.at))) ∙ ap Some h.at where
      h : IsHome leaves table key frame
      h = home-is leaves table key frame e

-- where the leaves stay
pub slot-stays : (freed : Option ℕ) (leaves made : List Leaf) (pieces later : List FramePiece) (k : WrittenKey) (table : ℕ) (key : List ℕ) → LeavesStay freed leaves made pieces later → freed ≢ Some k.frame
    → IsSlotOf leaves pieces k table key → IsSlotOf made later k table key
slot-stays freed leaves made pieces later k table key stay stays s = record {
  home = home-stays freed leaves made table key k.frame stay.kept s.home stays;
  number = stay.tables table key k.frame s.home stays ∙ s.number;
  slot = stay.slots table key k.frame key k.slot s.home stays s.slot;
}

pub noted-stay : (freed : Option ℕ) (leaves made : List Leaf) (pieces later : List FramePiece) (writes : List Write) (keys : List WrittenKey) → LeavesStay freed leaves made pieces later → StayWritten freed keys
    → AreNoted leaves pieces writes keys → AreNoted made later writes keys
noted-stay freed leaves made pieces later writes keys stay written n = record {
  noted = λ w member. let k = n.noted w member in (k.0, k.1, slot-stays freed leaves made pieces later k.0 w.table w.key stay (written k.0 k.1) k.2);
  wrote = λ k member. let w = n.wrote k member in (w.0, w.1, slot-stays freed leaves made pieces later k w.0.table w.0.key stay (written k member) w.2);
}
