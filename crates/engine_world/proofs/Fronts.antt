-- The slot that was noted of a write, and the update on top of the chain in it.
use Rattle.std.proofs.Common.{◌≡◌, ◌⊎◌, ℕ, suc, refl, ap, sym, ◌∙◌, true, false, List, [], ◌∷◌, ◌++◌, inl, inr, subst, map, arith}
use Rattle.std.specs.Prelude.{Option, Some, None, slice_get, option_and_then, option_map}
use Rattle.std.proofs.lemmas.Bool.{cases_eq}
use Rattle.std.proofs.lemmas.Option.{same_Some}
use Rattle.item.specs.declared.Change.{Change}
use Rattle.stamp.specs.declared.Name.{Name}
use Rattle.stamp.specs.declared.Version.{Version}
use Rattle.kv_model.specs.Allowed.{Allowed}
use Rattle.kv_model.specs.Holds.{Member}
use Rattle.kv_model.specs.History.{Write, writes_at}
use Rattle.kv_model.specs.Machine.{Machine, Transaction, Event, transaction_of, name_of, of_some, after}
use Rattle.kv_model.specs.Pending.{Update as ModelUpdate, TopStands, settled}
use Rattle.kv_model.specs.Reads.{own_write, is_own, IsEnding}
use Rattle.kv_model.proofs.Newest.{find-member}
use Rattle.kv_model.proofs.OwnWrites.{at-parts}
use Rattle.reconcile.specs.Shows.{shown_at}
use Rattle.row_page.specs.Rows.{Row}
use Rattle.tree_dir.specs.declared.leaf.Framed.{Framed}
use Rattle.tree_dir.specs.declared.leaf.Leaf.{Leaf}
use Rattle.tree_dir.specs.Leaves.{leaf_under}
use Rattle.update_chain.specs.declared.update.Update.{Update}
use Rattle.update_chain.specs.EventLaws.{StandsFor, DidNotWrite, LeavesAlone, ChainsGoOn}
use Rattle.update_chain.specs.Updates.{update_in}
use Rattle.update_chain.proofs.Reading.{one-transaction}
use Rattle.leaf_chains.specs.declared.slot.KeyChain.{KeyChain}
use Rattle.leaf_chains.specs.Slots.{chain_at, slot_of}
use Rattle.leaf_chains.proofs.Changes.{held}
use Rattle.call_steps.specs.declared.edit.Edit.{Edit}
use Rattle.call_steps.specs.declared.frame.Frame.{Frame}
use Rattle.call_steps.specs.declared.frame.FramePiece.{FramePiece}
use Rattle.call_steps.specs.declared.written.WrittenKey.{WrittenKey}
use Rattle.call_steps.specs.Leaves.{chain_in}
use Rattle.call_steps.specs.State.{State}
use Rattle.engine_world.specs.Worlds.{Records, World}
use Rattle.engine_world.specs.Leaves.{AreNoted, IsLaid, IsSlotOf, LeafInFrame, LeafOnDevice, LeafStands, AllHave, EditedDownTo, frame_in, frame_of, slots_in}
use Rattle.engine_world.specs.Stands.{Engine, Stands}
use Rattle.engine_world.proofs.Homes.{LeavesStand, frame-of-leaf}

-- ---- fronts

-- the newest update of the chain is of this name and makes this change
pub record FrontIs (name : Name) (change : Change) (chain : List Update) : Type 0 where
  pub front : Update
  pub older : List Update
  pub chained : chain ≡ front ∷ older
  pub named : front.version.window.name ≡ name
  pub changed : front.version.change ≡ change

-- the top of a key that a transaction wrote which is not ending
top-is : (m : Machine) (s : ℕ) (t : Transaction) (w : Write) (table : ℕ) (key : List ℕ) (top : List ModelUpdate) (below : List (Version Change)) → transaction_of m s ≡ Some t → own_write t table key ≡ Some w
    → (IsEnding t.phase → ⊥) → TopStands m table key top below → (u : ModelUpdate) × (top ≡ u ∷ []) × (u.version.window.name ≡ name_of m t) × (u.version.change ≡ w.change)
top-is m s t w table key [] below there own alive topped = absurd (alive (topped.1 s t (there, ap is_own own)))
top-is m s t w table key (u ∷ (v ∷ rest)) below there own alive topped = absurd topped
top-is m s t w table key (u ∷ []) below there own alive q = elim (cases_eq q.session s) [
  | inr other ↦ absurd (alive (q.alone s t (λ e. other (sym e)) (there, ap is_own own)))
  | inl here ↦
      let same = one-transaction m s q.session t q.transaction there q.there here in
      let both : Some q.write ≡ Some w = sym q.own ∙ (ap (λ z. own_write z table key) same ∙ own) in
      let written : q.write ≡ w = cc in
      (u, refl, q.name ∙ ap (name_of m) same, q.change ∙ ap (λ (z : Write). z.change) written)
]

-- who wrote the key and is not ending has the newest update of a chain that stands
pub front-is : (m : Machine) (s : ℕ) (t : Transaction) (w : Write) (table : ℕ) (key : List ℕ) (chain : List Update) (cell : Option (Version Change)) (records : List (Version Change))
    → transaction_of m s ≡ Some t → own_write t table key ≡ Some w → (IsEnding t.phase → ⊥) → StandsFor m table key chain cell records → FrontIs (name_of m t) w.change chain
front-is m s t w table key [] cell records there own alive k =
    let top = top-is m s t w table key k.top k.below there own alive k.topped in
    let e : [] ≡ top.0 ∷ map settled k.held = k.chained ∙ ap (λ l. l ++ map settled k.held) top.1 in absurd (cc)
front-is m s t w table key (u ∷ older) cell records there own alive k =
    let top = top-is m s t w table key k.top k.below there own alive k.topped in
    let e : update_in u ∷ map update_in older ≡ top.0 ∷ map settled k.held = k.chained ∙ ap (λ l. l ++ map settled k.held) top.1 in
    let same : update_in u ≡ top.0 = cc in record {
      front = u;
      older = older;
      chained = refl;
      named = ap (λ (x : ModelUpdate). x.version.window.name) same ∙ top.2;
      changed = ap (λ (x : ModelUpdate). x.version.change) same ∙ top.3;
    }

-- what each update of the name has, the front has
pub front-has : (e : Edit) (name : Name) (change : Change) (chain : List Update) → (f : FrontIs name change chain) → AllHave e name chain → AllHave e name (f.front ∷ [])
front-has e name change chain f all u (inl same) named = all u (subst (Member u) (sym f.chained) (inl same)) named
front-has e name change chain f all u (inr none) named = absurd none

-- ---- slots

-- where a member stands in a list
pub index-of : {A : Type 0} (l : List A) (x : A) → Member x l → (i : ℕ) × (slice_get l i ≡ Some x)
index-of [] x there = absurd there
index-of (y ∷ l) x (inl same) = (0, ap Some (sym same))
index-of (y ∷ l) x (inr there) = let k = index-of l x there in (suc k.0, k.1)

-- the slot of a key holds its chain
pub chain-in : (slots : List KeyChain) (key : List ℕ) (i : ℕ) → slot_of key slots ≡ Some i → chain_in slots i ≡ chain_at key slots
chain-in slots key i at = ap (of_some [] (λ (s : KeyChain). s.chain)) (held key slots i at)

-- the slot that was noted of a key in the leaf in a frame
pub record SlotIs (pieces : List FramePiece) (keys : List WrittenKey) (place : ℕ) (key : List ℕ) : Type 0 where
  pub index : ℕ
  pub slot : WrittenKey
  pub there : slice_get keys index ≡ Some slot
  pub frame : slot.frame ≡ place
  pub of : slot_of key (slots_in pieces place) ≡ Some slot.slot
  pub chain : chain_in (slots_in pieces slot.frame) slot.slot ≡ chain_at key (slots_in pieces place)

pub slot-is : (leaves : List Leaf) (pieces : List FramePiece) (states : List ℕ) (writes : List Write) (keys : List WrittenKey) (l : Leaf) (key : List ℕ) (w : Write) → AreNoted leaves pieces writes keys
    → (x : IsLaid pieces states l) → leaf_under l.table key leaves ≡ Some l → Member w writes → w.table ≡ l.table → w.key ≡ key → SlotIs pieces keys x.framed.frame key
slot-is leaves pieces states writes keys l key w noted x under member table same = record {
  index = i.0;
  slot = n.0;
  there = i.1;
  frame = here;
  of = ap (λ p. slot_of key (slots_in pieces p)) (sym here) ∙ slot;
  chain = chain-in (slots_in pieces n.0.frame) key n.0.slot slot ∙ ap (λ p. chain_at key (slots_in pieces p)) here;
} where
  n : (k : WrittenKey) × Member k keys × IsSlotOf leaves pieces k w.table w.key
  n = noted.noted w member

  i : (i : ℕ) × (slice_get keys i ≡ Some n.0)
  i = index-of keys n.0 n.1

  home : frame_of leaves l.table key ≡ Some n.0.frame
  home = ap (λ t. frame_of leaves t key) (sym table) ∙ (ap (frame_of leaves w.table) (sym same) ∙ n.2.home)

  here : n.0.frame ≡ x.framed.frame
  here = same_Some n.0.frame x.framed.frame (sym home ∙ frame-of-leaf leaves pieces states l key x under)

  slot : slot_of key (slots_in pieces n.0.frame) ≡ Some n.0.slot
  slot = ap (λ k. slot_of k (slots_in pieces n.0.frame)) (sym same) ∙ n.2.slot

-- so it is of a key that the transaction wrote
pub own-slot : (leaves : List Leaf) (pieces : List FramePiece) (states : List ℕ) (t : Transaction) (keys : List WrittenKey) (l : Leaf) (key : List ℕ) (o : Write) → AreNoted leaves pieces t.writes keys
    → (x : IsLaid pieces states l) → leaf_under l.table key leaves ≡ Some l → own_write t l.table key ≡ Some o → SlotIs pieces keys x.framed.frame key
own-slot leaves pieces states t keys l key o noted x under own =
    let found = find-member (writes_at l.table key) t.writes o own in let parts = at-parts l.table key o found.1 in
    slot-is leaves pieces states t.writes keys l key o noted x under found.0 parts.0 parts.1

-- and the leaf of such a key is in a frame
pub own-framed : (leaves : List Leaf) (pieces : List FramePiece) (t : Transaction) (keys : List WrittenKey) (l : Leaf) (key : List ℕ) (o : Write) → AreNoted leaves pieces t.writes keys
    → l.frame ≡ None → leaf_under l.table key leaves ≡ Some l → own_write t l.table key ≡ Some o → ⊥
own-framed leaves pieces t keys l key o noted none under own =
    let found = find-member (writes_at l.table key) t.writes o own in let parts = at-parts l.table key o found.1 in let k = noted.noted o found.0 in
    let home : frame_of leaves l.table key ≡ Some k.0.frame = ap (λ n. frame_of leaves n key) (sym parts.0) ∙ (ap (frame_of leaves o.table) (sym parts.1) ∙ k.2.home) in
    let nowhere : frame_of leaves l.table key ≡ None = ap (option_and_then (λ (x : Leaf). option_map (λ (f : Framed). f.frame) x.frame)) under ∙ ap (option_map (λ (f : Framed). f.frame)) none in
    let clash : None ≡ Some k.0.frame = sym nowhere ∙ home in absurd cc

-- what was done in all the slots was done in this one
pub edited-at : (e : Edit) (name : Name) (pieces : List FramePiece) (keys : List WrittenKey) (place : ℕ) (key : List ℕ) → EditedDownTo e name pieces keys 0 → SlotIs pieces keys place key
    → AllHave e name (chain_at key (slots_in pieces place))
edited-at e name pieces keys place key done s = subst (AllHave e name) s.chain (done s.index s.slot (omega arith) s.there)

-- ---- leaves

-- the row of a key in the leaf in a frame
abbrev pub row_at : List FramePiece → ℕ → List ℕ → Option (Version Change)
row_at pieces place key = shown_at key (of_some [] (λ (f : Frame). f.leaf.page) (frame_in pieces place))

-- what a leaf holds, key by key, with the frames as they are
pub leaf-with : (m next : Machine) (shelf : ℕ → List Row) (records : Records) (leaves : List Leaf) (pieces : List FramePiece) (states : List ℕ) (l : Leaf) → (x : LeafInFrame m shelf records leaves pieces states l)
    → ((key : List ℕ) → leaf_under l.table key leaves ≡ Some l → StandsFor m l.table key (chain_at key (slots_in pieces x.laid.framed.frame)) (row_at pieces x.laid.framed.frame key) []
    → StandsFor next l.table key (chain_at key (slots_in pieces x.laid.framed.frame)) (row_at pieces x.laid.framed.frame key) [])
    → LeafInFrame next shelf records leaves pieces states l
leaf-with m next shelf records leaves pieces states l x on = record {
  laid = x.laid;
  keys = λ key under. subst (Holds next key) x.laid.there (on key under (subst (Holds m key) (sym x.laid.there) (x.keys key under)));
  bare = x.bare;
  lies = x.lies;
  none = x.none;
} where
  Holds : Machine → List ℕ → Option Frame → Type 0
  Holds m key o = StandsFor m l.table key (chain_at key (of_some [] (λ (f : Frame). f.leaf.chains) o)) (shown_at key (of_some [] (λ (f : Frame). f.leaf.page) o)) []

pub own-cases : (o : Option Write) → (o ≡ None) ⊎ ((w : Write) × (o ≡ Some w))
own-cases None = inl refl
own-cases (Some w) = inr (w, refl)

pub did-not : (m : Machine) (s : ℕ) (t : Transaction) (table : ℕ) (key : List ℕ) → transaction_of m s ≡ Some t → own_write t table key ≡ None → DidNotWrite m s table key
did-not m s t table key there none x wrote =
    let both : Some t ≡ Some x = sym there ∙ wrote.0 in let same : t ≡ x = cc in
    let own : is_own (own_write t table key) ≡ true = subst (λ z. is_own (own_write z table key) ≡ true) (sym same) wrote.1 in
    let not : false ≡ true = sym (ap is_own none) ∙ own in absurd (cc)

-- an event over the keys that a session's transaction wrote and over the others, with the frames as they are
pub leaves-own : ChainsGoOn → (e : Engine) (w : World) (s : ℕ) (a : State) (x : Transaction) (event : Event) → Stands e w → slice_get e.sessions s ≡ Some a → transaction_of w.machine s ≡ Some x → Allowed w.machine event
    → ((table : ℕ) (key : List ℕ) → DidNotWrite w.machine s table key → LeavesAlone w.machine table key event)
    → ((place table : ℕ) (key : List ℕ) (o : Write) → own_write x table key ≡ Some o → SlotIs e.pieces a.written place key → StandsFor w.machine table key (chain_at key (slots_in e.pieces place)) (row_at e.pieces place key) []
    → StandsFor (after w.machine event) table key (chain_at key (slots_in e.pieces place)) (row_at e.pieces place key) [])
    → LeavesStand (after w.machine event) w.shelf w.records e.hub.dir.leaves e.pieces e.states
leaves-own chains-go-on e w s a x event st at there may alone on l here = by (st.leaves l here) where
  noted : AreNoted e.hub.dir.leaves e.pieces x.writes a.written
  noted = subst (λ o. AreNoted e.hub.dir.leaves e.pieces (of_some [] (λ (z : Transaction). z.writes) o) a.written) there (st.sessions s a at).noted

  in-frame : LeafInFrame w.machine w.shelf w.records e.hub.dir.leaves e.pieces e.states l → LeafInFrame (after w.machine event) w.shelf w.records e.hub.dir.leaves e.pieces e.states l
  in-frame leaf = leaf-with w.machine (after w.machine event) w.shelf w.records e.hub.dir.leaves e.pieces e.states l leaf (λ key under k. elim (own-cases (own_write x l.table key)) [
    | inl none ↦ chains-go-on w.machine event l.table key (chain_at key (slots_in e.pieces leaf.laid.framed.frame)) (row_at e.pieces leaf.laid.framed.frame key) [] st.valid may (alone l.table key (did-not w.machine s x l.table key there none)) k
    | inr own ↦ on leaf.laid.framed.frame l.table key own.0 own.1 (own-slot e.hub.dir.leaves e.pieces e.states x a.written l key own.0 noted leaf.laid under own.1) k
  ])

  on-device : LeafOnDevice w.machine w.shelf w.records e.hub.dir.leaves l → LeafOnDevice (after w.machine event) w.shelf w.records e.hub.dir.leaves l
  on-device leaf = record {
    none = leaf.none;
    keys = λ key under. elim (own-cases (own_write x l.table key)) [
      | inl none ↦ chains-go-on w.machine event l.table key [] (shown_at key (w.shelf l.id)) (w.records l.id key) st.valid may (alone l.table key (did-not w.machine s x l.table key there none)) (leaf.keys key under)
      | inr own ↦ absurd (own-framed e.hub.dir.leaves e.pieces x a.written l key own.0 noted leaf.none under own.1)
    ];
    ordered = leaf.ordered;
    bare = leaf.bare;
  }

  by : LeafStands w.machine w.shelf w.records e.hub.dir.leaves e.pieces e.states l → LeafStands (after w.machine event) w.shelf w.records e.hub.dir.leaves e.pieces e.states l
  by (inl leaf) = inl (in-frame leaf)
  by (inr leaf) = inr (on-device leaf)
