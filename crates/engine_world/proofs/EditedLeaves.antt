-- What is done to the keys of one leaf that a transaction wrote.
use Rattle.std.proofs.Common.{◌≡◌, ◌≢◌, ◌⊎◌, ◌<◌, ◌≤◌, ℕ, zero, suc, refl, ap, sym, ◌∙◌, List, [], ◌∷◌, length, inl, inr, subst, arith}
use Rattle.std.specs.Prelude.{Option, Some, None, slice_get, slice_set, bytes_eq, ◌==◌, if◌then◌else◌, option_map}
use Rattle.std.proofs.lemmas.Bool.{cases_Bool, cases_eq, both_ways, eqb-true, eq-eqb}
use Rattle.std.specs.List.{Contains}
use Rattle.std.proofs.lemmas.Slice.Eq.{bytes_eq-Decides}
use Rattle.stamp.specs.declared.Name.{Name}
use Rattle.kv_model.specs.Holds.{Member}
use Rattle.kv_model.specs.History.{Write}
use Rattle.kv_model.specs.Machine.{Machine, Transaction, name_of, of_some}
use Rattle.row_page.specs.Rows.{Row}
use Rattle.reconcile.specs.Shows.{shown_at}
use Rattle.tree_dir.specs.declared.leaf.Leaf.{Leaf}
use Rattle.tree_dir.specs.Leaves.{Directory, IsDirectory, leaf_under}
use Rattle.update_chain.specs.declared.update.Update.{Update}
use Rattle.update_chain.specs.EventLaws.{StandsFor}
use Rattle.leaf_chains.specs.declared.slot.KeyChain.{KeyChain}
use Rattle.leaf_chains.specs.Slots.{chain_at, key_of, key_at, slot_of, slot_changed}
use Rattle.leaf_chains.proofs.Changes.{held, changed_chain, kept_chain, kept_slots}
use Rattle.call_steps.specs.declared.edit.Edit.{Edit}
use Rattle.call_steps.specs.declared.frame.Frame.{Frame}
use Rattle.call_steps.specs.declared.frame.FramePiece.{FramePiece}
use Rattle.call_steps.specs.declared.written.WrittenKey.{WrittenKey}
use Rattle.call_steps.specs.FrameEvents.{with_chains, piece_changed}
use Rattle.call_steps.specs.Leaves.{edited, chain_in, leaf_changed}
use Rattle.call_steps.specs.Written.{frame_at, slot_at, leaf_start}
use Rattle.row_page.specs.Rows.{Row}
use Rattle.engine_world.specs.Leaves.{AllHave, LeafInFrame, IsSlotOf, AreNoted, EditedDownTo, frame_in, slots_in}
use Rattle.engine_world.specs.Worlds.{Records}
use Rattle.engine_world.proofs.Beside.{SlotsStay, BringsOnly}
use Rattle.engine_world.proofs.Homes.{IsAt, LeavesStand, LiesIn, home-at, one-leaf}
use Rattle.engine_world.proofs.OnePiece.{slots_of, table_of, frame-there, slots-set, slots-other, slots-stay, brings-only, leaves-on}
use Rattle.engine_world.proofs.EditedChains.{Edits, edited-have, edited-brings}

-- ---- lists

pub got-member : {A : Type 0} (xs : List A) (i : ℕ) (x : A) → slice_get xs i ≡ Some x → Member x xs
got-member [] i x at = absurd (cc)
got-member (y ∷ ys) zero x at = let same : y ≡ x = cc in inl (sym same)
got-member (y ∷ ys) (suc i) x at = inr (got-member ys i x at)

pub some-at : {A : Type 0} (xs : List A) (i : ℕ) → i < length xs → (x : A) × (slice_get xs i ≡ Some x)
some-at [] i inside = absurd (omega arith)
some-at (y ∷ ys) zero inside = (y, refl)
some-at (y ∷ ys) (suc i) inside = some-at ys i (omega arith)

cases-key : (key other : List ℕ) → (key ≡ other) ⊎ (key ≢ other)
cases-key key other = elim (cases_Bool (bytes_eq key other)) [
  | inl is ↦ inl ((bytes_eq-Decides key other).0 is)
  | inr isnt ↦ inr (λ q. both_ways (bytes_eq key other) isnt ((bytes_eq-Decides key other).1 q))
]

-- the slot of a key holds its chain
pub chain-held : (slots : List KeyChain) (key : List ℕ) (i : ℕ) → slot_of key slots ≡ Some i → chain_in slots i ≡ chain_at key slots
chain-held slots key i at = ap (of_some [] (λ (s : KeyChain). s.chain)) (held key slots i at)

-- and the key
pub key-held : (slots : List KeyChain) (key : List ℕ) (i : ℕ) → slot_of key slots ≡ Some i → key_at slots i ≡ key
key-held slots key i at = ap key_of (held key slots i at)

other-slot : (i j : ℕ) (change : List Update → List Update) (slots : List KeyChain) → j ≢ i → slice_get (slot_changed i change slots) j ≡ slice_get slots j
other-slot i j change [] other = refl
other-slot zero zero change (s ∷ slots) other = absurd (other refl)
other-slot zero (suc j) change (s ∷ slots) other = refl
other-slot (suc i) zero change (s ∷ slots) other = refl
other-slot (suc i) (suc j) change (s ∷ slots) other = other-slot i j change slots (λ e. other (ap suc e))

-- ---- where the keys of a leaf begin

pub start-within : (keys : List WrittenKey) (frame n : ℕ) → leaf_start keys frame n ≤ n
start-within keys frame zero = omega arith
start-within keys frame (suc n) = elim (cases_Bool (frame_at keys (suc n) == frame)) [
  | inl is ↦ subst (λ b. (if b then leaf_start keys frame n else suc n) ≤ suc n) (sym is) (let low = start-within keys frame n in omega arith)
  | inr isnt ↦ subst (λ b. (if b then leaf_start keys frame n else suc n) ≤ suc n) (sym isnt) (omega arith)
]

-- fewer are left
pub start-below : (keys : List WrittenKey) (left : ℕ) → 1 ≤ left → leaf_start keys (frame_at keys left) left < left
start-below keys zero some = absurd (omega arith)
start-below keys (suc n) some = subst (λ b. (if b then leaf_start keys (frame_at keys (suc n)) n else suc n) < suc n) (sym (eq-eqb (frame_at keys (suc n)) (frame_at keys (suc n)) refl))
    (let low = start-within keys (frame_at keys (suc n)) n in omega arith)

-- ---- the chains of a leaf

-- the slot is that of a write, the key of which lies in the leaf
pub record IsWritten (t : Transaction) (table : ℕ) (Lies : List ℕ → Type 0) (old : List KeyChain) (k : WrittenKey) : Type 0 where
  pub write : Write
  pub there : Member write t.writes
  pub number : write.table ≡ table
  pub lies : Lies write.key
  pub slot : slot_of write.key old ≡ Some k.slot

-- done to the keys of this leaf, but to the first n
pub record Edited (e : Edit) (name : Name) (m : Machine) (table : ℕ) (Lies : List ℕ → Type 0) (frame from : ℕ) (keys : List WrittenKey) (page : List Row) (old : List KeyChain) (n : ℕ) (slots : List KeyChain) : Type 0 where
  pub stands : (key : List ℕ) → Lies key → StandsFor m table key (chain_at key slots) (shown_at key page) []
  pub bare : (key : List ℕ) → (Lies key → ⊥) → chain_at key slots ≡ []
  pub places : (key : List ℕ) → slot_of key slots ≡ slot_of key old
  pub brings : (key : List ℕ) (u : Update) → Member u (chain_at key slots) → u.version.window.name ≢ name → Member u (chain_at key old)
  pub done : (i : ℕ) (k : WrittenKey) → n ≤ i → slice_get keys i ≡ Some k → k.frame ≡ frame → AllHave e name (chain_in slots k.slot)
  -- a key of another leaf was done before
  pub before : (i : ℕ) (k : WrittenKey) → n ≤ i → slice_get keys i ≡ Some k → k.frame ≢ frame → from ≤ i

module _ (e : Edit) (m : Machine) (t : Transaction) (edits : Edits e m t) (table : ℕ) (Lies : List ℕ → Type 0) (frame from : ℕ) (keys : List WrittenKey) (page : List Row) (old : List KeyChain) where
  edited-one : (n : ℕ) (slots : List KeyChain) (k : WrittenKey) → slice_get keys n ≡ Some k → k.frame ≡ frame → IsWritten t table Lies old k → Edited e (name_of m t) m table Lies frame from keys page old (suc n) slots
      → Edited e (name_of m t) m table Lies frame from keys page old n (slot_changed k.slot (edited (name_of m t) e) slots)
  edited-one n slots k at here w s = record {
    stands = λ other lies. elim (cases-key other key) [
      | inl same ↦ subst (λ (q : List ℕ). StandsFor m table q (chain_at q later) (shown_at q page) []) (sym same) stands_here
      | inr apart ↦ subst (λ c. StandsFor m table other c (shown_at other page) []) (sym (kept_chain key other change slots k.slot slot apart)) (s.stands other lies)
    ];
    bare = λ other outside. kept_chain key other change slots k.slot slot (λ same. outside (subst Lies (sym same) w.lies)) ∙ s.bare other outside;
    places = λ other. kept_slots other change slots k.slot ∙ s.places other;
    brings = λ other u member else_named. elim (cases-key other key) [
      | inl same ↦ subst (λ (q : List ℕ). Member u (chain_at q old)) (sym same) (brings_here u (subst (λ (q : List ℕ). Member u (chain_at q later)) same member) else_named)
      | inr apart ↦ s.brings other u (subst (Member u) (kept_chain key other change slots k.slot slot apart) member) else_named
    ];
    done = λ i o low there of. elim (cases_eq i n) [
      | inl same ↦ let one : Some k ≡ Some o = sym at ∙ (ap (slice_get keys) (sym same) ∙ there) in let is : k ≡ o = cc in subst (λ (z : WrittenKey). AllHave e (name_of m t) (chain_in later z.slot)) is done_here
      | inr apart ↦ elim (cases_eq o.slot k.slot) [
        | inl same ↦ subst (λ j. AllHave e (name_of m t) (chain_in later j)) (sym same) done_here
        | inr other ↦ subst (AllHave e (name_of m t)) (sym (ap (of_some [] (λ (x : KeyChain). x.chain)) (other-slot k.slot o.slot change slots other))) (s.done i o (omega (arith, low, apart)) there of)
      ]
    ];
    before = λ i o low there else_of. elim (cases_eq i n) [
      | inl same ↦ let one : Some k ≡ Some o = sym at ∙ (ap (slice_get keys) (sym same) ∙ there) in let is : k ≡ o = cc in absurd (else_of (ap (λ (z : WrittenKey). z.frame) (sym is) ∙ here))
      | inr apart ↦ s.before i o (omega (arith, low, apart)) there else_of
    ];
  } where
    key : List ℕ
    key = w.write.key

    change : List Update → List Update
    change = edited (name_of m t) e

    later : List KeyChain
    later = slot_changed k.slot (edited (name_of m t) e) slots

    slot : slot_of w.write.key slots ≡ Some k.slot
    slot = s.places w.write.key ∙ w.slot

    changed : chain_at w.write.key (slot_changed k.slot (edited (name_of m t) e) slots) ≡ edited (name_of m t) e (chain_at w.write.key slots)
    changed = changed_chain w.write.key (edited (name_of m t) e) slots k.slot slot

    was : StandsFor m w.write.table w.write.key (chain_at w.write.key slots) (shown_at w.write.key page) []
    was = subst (λ n. StandsFor m n w.write.key (chain_at w.write.key slots) (shown_at w.write.key page) []) (sym w.number) (s.stands w.write.key w.lies)

    stands_here : StandsFor m table w.write.key (chain_at w.write.key (slot_changed k.slot (edited (name_of m t) e) slots)) (shown_at w.write.key page) []
    stands_here = subst (λ c. StandsFor m table w.write.key c (shown_at w.write.key page) []) (sym changed)
        (subst (λ n. StandsFor m n w.write.key (edited (name_of m t) e (chain_at w.write.key slots)) (shown_at w.write.key page) []) w.number (edits.stands w.write w.there (chain_at w.write.key slots) (shown_at w.write.key page) was))

    brings_here : (u : Update) → Member u (chain_at w.write.key (slot_changed k.slot (edited (name_of m t) e) slots)) → u.version.window.name ≢ name_of m t → Member u (chain_at w.write.key old)
    brings_here u member else_named = s.brings w.write.key u (edited-brings e (name_of m t) (chain_at w.write.key slots) u (subst (Member u) changed member) else_named) else_named

    done_here : AllHave e (name_of m t) (chain_in (slot_changed k.slot (edited (name_of m t) e) slots) k.slot)
    done_here = subst (AllHave e (name_of m t))
        (sym (chain-held (slot_changed k.slot (edited (name_of m t) e) slots) w.write.key k.slot (kept_slots w.write.key (edited (name_of m t) e) slots k.slot ∙ slot) ∙ changed))
        (edited-have e m (name_of m t) w.write.table w.write.key (chain_at w.write.key slots) (shown_at w.write.key page) (edits.has w.write w.there) was)

  -- done to all keys of the leaf that end the first n
  edited-leaf : ((k : WrittenKey) → Member k keys → k.frame ≡ frame → IsWritten t table Lies old k) → (n : ℕ) → n ≤ length keys → (slots : List KeyChain) → Edited e (name_of m t) m table Lies frame from keys page old n slots
      → Edited e (name_of m t) m table Lies frame from keys page old (leaf_start keys frame n) (leaf_changed (edited (name_of m t) e) keys frame n slots)
  edited-leaf written zero within slots s = s
  edited-leaf written (suc n) within slots s = elim (cases_Bool (frame_at keys (suc n) == frame)) [
    | inl is ↦ subst (λ b. Edited e (name_of m t) m table Lies frame from keys page old (if b then leaf_start keys frame n else suc n)
        (if b then leaf_changed (edited (name_of m t) e) keys frame n (slot_changed (slot_at keys (suc n)) (edited (name_of m t) e) slots) else slots)) (sym is) (more (edited-leaf written n (omega (arith, within))) (eqb-true (frame_at keys (suc n)) frame is))
    | inr isnt ↦ subst (λ b. Edited e (name_of m t) m table Lies frame from keys page old (if b then leaf_start keys frame n else suc n)
        (if b then leaf_changed (edited (name_of m t) e) keys frame n (slot_changed (slot_at keys (suc n)) (edited (name_of m t) e) slots) else slots)) (sym isnt) s
  ] where
    last : (k : WrittenKey) × (slice_get keys n ≡ Some k)
    last = some-at keys n (omega (arith, within))

    more : ((slots : List KeyChain) → Edited e (name_of m t) m table Lies frame from keys page old n slots → Edited e (name_of m t) m table Lies frame from keys page old (leaf_start keys frame n) (leaf_changed (edited (name_of m t) e) keys frame n slots))
        → frame_at keys (suc n) ≡ frame
        → Edited e (name_of m t) m table Lies frame from keys page old (leaf_start keys frame n) (leaf_changed (edited (name_of m t) e) keys frame n (slot_changed (slot_at keys (suc n)) (edited (name_of m t) e) slots))
    more rest is = let here : last.0.frame ≡ frame = sym (ap (of_some 0 (λ (k : WrittenKey). k.frame)) last.1) ∙ is in
        subst (λ (j : ℕ). Edited e (name_of m t) m table Lies frame from keys page old (leaf_start keys frame n) (leaf_changed (edited (name_of m t) e) keys frame n (slot_changed j (edited (name_of m t) e) slots)))
        (sym (ap (of_some 0 (λ (k : WrittenKey). k.slot)) last.1))
        (rest (slot_changed last.0.slot (edited (name_of m t) e) slots)
        (edited-one n slots last.0 last.1 here (written last.0 (got-member keys n last.0 last.1) here) s))

-- ---- the frames

-- the frames before, with a transaction whose noted keys are done down to so many
pub record OnLeaf (e : Edit) (m : Machine) (t : Transaction) (shelf : ℕ → List Row) (records : Records) (d : Directory) (pieces : List FramePiece) (states : List ℕ) (keys : List WrittenKey) (left : ℕ) : Type 0 where
  pub edits : Edits e m t
  pub dir : IsDirectory d
  pub leaves : LeavesStand m shelf records d.leaves pieces states
  pub noted : AreNoted d.leaves pieces t.writes keys
  pub some : 1 ≤ left
  pub within : left ≤ length keys
  pub old : EditedDownTo e (name_of m t) pieces keys left

-- and after the edit of one leaf
pub record LeafEdited (e : Edit) (m : Machine) (t : Transaction) (shelf : ℕ → List Row) (records : Records) (d : Directory) (pieces later : List FramePiece) (states : List ℕ) (keys : List WrittenKey) (left : ℕ) : Type 0 where
  pub leaves : LeavesStand m shelf records d.leaves later states
  pub slots : SlotsStay pieces later
  pub brings : BringsOnly (name_of m t) pieces later
  pub done : EditedDownTo e (name_of m t) later keys left

abbrev pub piece_edited : Edit → Name → List WrittenKey → ℕ → FramePiece → FramePiece
piece_edited e name keys left p = piece_changed (leaf_changed (edited name e) keys (frame_at keys left) left) p

-- an edit of chains leaves a piece with its table
table-edited : (change : List KeyChain → List KeyChain) (p : FramePiece) → table_of (piece_changed change p) ≡ table_of p
table-edited change p = by p.frame where
  by : (o : Option Frame) → of_some 0 (λ (f : Frame). f.table) (option_map (λ (f : Frame). with_chains (change f.leaf.chains) f) o) ≡ of_some 0 (λ (f : Frame). f.table) o
  by None = refl
  by (Some f) = refl

-- the frame of a leaf that stands
pub leaf-framed : (m : Machine) (shelf : ℕ → List Row) (records : Records) (leaves : List Leaf) (pieces : List FramePiece) (states : List ℕ) (l : Leaf) (frame : ℕ) → (x : LeafInFrame m shelf records leaves pieces states l) → x.laid.framed.frame ≡ frame → frame_in pieces frame ≡ Some x.laid.frame
leaf-framed m shelf records leaves pieces states l frame x at = ap (frame_in pieces) (sym at) ∙ x.laid.there

-- a slot that was noted in the frame of a leaf is of a key that lies in it
pub lies-in : (m : Machine) (shelf : ℕ → List Row) (records : Records) (d : Directory) (pieces : List FramePiece) (states : List ℕ) (l : Leaf) (frame : ℕ) (k : WrittenKey) (table : ℕ) (key : List ℕ) → IsDirectory d → LeavesStand m shelf records d.leaves pieces states → Contains d.leaves l
    → (x : LeafInFrame m shelf records d.leaves pieces states l) → x.laid.framed.frame ≡ frame → k.frame ≡ frame → IsSlotOf d.leaves pieces k table key → (table ≡ l.table) × (leaf_under l.table key d.leaves ≡ Some l)
lies-in m shelf records d pieces states l frame k table key is stand there x at same s = (
  sym h.table_is ∙ ap (λ (n : Leaf). n.table) one,
  subst (λ (n : Leaf). leaf_under n.table key d.leaves ≡ Some n) one h.under,
) where
  h : IsAt m shelf records d pieces states table key k.frame
  h = home-at m shelf records d pieces states table key k.frame is stand s.home

  one : h.leaf ≡ l
  one = one-leaf d pieces states h.leaf l is h.there there h.stands.laid x.laid (h.at ∙ (same ∙ sym at))

pub leaf-edited : (e : Edit) (m : Machine) (t : Transaction) (shelf : ℕ → List Row) (records : Records) (d : Directory) (pieces : List FramePiece) (states : List ℕ) (keys : List WrittenKey) (left : ℕ) (p : FramePiece)
    → OnLeaf e m t shelf records d pieces states keys left → slice_get pieces (frame_at keys left) ≡ Some p
    → LeafEdited e m t shelf records d pieces (slice_set pieces (frame_at keys left) (piece_edited e (name_of m t) keys left p)) states keys (leaf_start keys (frame_at keys left) left)
leaf-edited e m t shelf records d pieces states keys zero p o at = absurd (let some = o.some in omega arith)
leaf-edited e m t shelf records d pieces states keys (suc n) p o at = record {
  leaves = leaves-on pieces frame p p' at refl m m shelf records states d home.leaf (with_chains new home.stands.laid.frame) o.dir o.leaves home.there home.stands.laid home.at
      (record { is = whole; table = home.stands.laid.table; id = home.stands.laid.id; keys = final.stands; bare = λ key outside. (final.bare key outside, (home.stands.bare key outside).1); lies = home.stands.lies })
      (λ l there other key chain row kept under k. k);
  slots = slots-stay pieces frame p p' at refl (table-edited change p) (λ key i there. ap (slot_of key) now ∙ (final.places key ∙ (ap (slot_of key) was ∙ there)));
  brings = brings-only pieces frame p p' at (name_of m t) (λ key u member other. subst (λ l. Member u (chain_at key l)) was (final.brings key u (subst (λ l. Member u (chain_at key l)) now member) other));
  done = λ i k low there. elim (cases_eq k.frame frame) [
    | inl same ↦ subst (λ l. AllHave e (name_of m t) (chain_in l k.slot)) (sym (ap (slots_in later) same ∙ (slots-set pieces frame p p' at ∙ now))) (final.done i k low there same)
    | inr other ↦ subst (λ l. AllHave e (name_of m t) (chain_in l k.slot)) (sym (slots-other pieces frame p p' at k.frame other)) (o.old i k (final.before i k low there other) there)
  ];
} where
  frame : ℕ
  frame = frame_at keys (suc n)

  p' : FramePiece
  p' = piece_edited e (name_of m t) keys (suc n) p

  later : List FramePiece
  later = slice_set pieces (frame_at keys (suc n)) (piece_edited e (name_of m t) keys (suc n) p)

  last : (k : WrittenKey) × (slice_get keys n ≡ Some k)
  last = some-at keys n (let within = o.within in omega (arith, within))

  here : last.0.frame ≡ frame_at keys (suc n)
  here = sym (ap (of_some 0 (λ (k : WrittenKey). k.frame)) last.1)

  noted : (w : Write) × Member w t.writes × IsSlotOf d.leaves pieces last.0 w.table w.key
  noted = o.noted.wrote last.0 (got-member keys n last.0 last.1)

  home : IsAt m shelf records d pieces states noted.0.table noted.0.key (frame_at keys (suc n))
  home = home-at m shelf records d pieces states noted.0.table noted.0.key (frame_at keys (suc n)) o.dir o.leaves (noted.2.home ∙ ap Some here)

  there : frame_in pieces (frame_at keys (suc n)) ≡ Some home.stands.laid.frame
  there = leaf-framed m shelf records d.leaves pieces states home.leaf (frame_at keys (suc n)) home.stands home.at

  framed : p.frame ≡ Some home.stands.laid.frame
  framed = sym (frame-there pieces (frame_at keys (suc n)) p at) ∙ there

  was : home.stands.laid.frame.leaf.chains ≡ slots_of p
  was = ap (of_some [] (λ (f : Frame). f.leaf.chains)) (sym framed)

  new : List KeyChain
  new = leaf_changed (edited (name_of m t) e) keys (frame_at keys (suc n)) (suc n) home.stands.laid.frame.leaf.chains

  change : List KeyChain → List KeyChain
  change = leaf_changed (edited (name_of m t) e) keys (frame_at keys (suc n)) (suc n)

  whole : (piece_edited e (name_of m t) keys (suc n) p).frame ≡ Some (with_chains (leaf_changed (edited (name_of m t) e) keys (frame_at keys (suc n)) (suc n) home.stands.laid.frame.leaf.chains) home.stands.laid.frame)
  whole = ap (option_map (λ (f : Frame). with_chains (leaf_changed (edited (name_of m t) e) keys (frame_at keys (suc n)) (suc n) f.leaf.chains) f)) framed

  now : slots_of (piece_edited e (name_of m t) keys (suc n) p) ≡ leaf_changed (edited (name_of m t) e) keys (frame_at keys (suc n)) (suc n) home.stands.laid.frame.leaf.chains
  now = ap (of_some [] (λ (f : Frame). f.leaf.chains)) whole

  in-leaf : slots_in pieces (frame_at keys (suc n)) ≡ home.stands.laid.frame.leaf.chains
  in-leaf = ap (of_some [] (λ (f : Frame). f.leaf.chains)) there

  written : (k : WrittenKey) → Member k keys → k.frame ≡ frame_at keys (suc n) → IsWritten t home.leaf.table (LiesIn d.leaves home.leaf) home.stands.laid.frame.leaf.chains k
  written k member same = let w = o.noted.wrote k member in
      let lies = lies-in m shelf records d pieces states home.leaf (frame_at keys (suc n)) k w.0.table w.0.key o.dir o.leaves home.there home.stands home.at same w.2 in record {
        write = w.0;
        there = w.1;
        number = lies.0;
        lies = lies.1;
        slot = ap (slot_of w.0.key) (sym (ap (slots_in pieces) same ∙ in-leaf)) ∙ w.2.slot;
      }

  first : Edited e (name_of m t) m home.leaf.table (LiesIn d.leaves home.leaf) (frame_at keys (suc n)) (suc n) keys home.stands.laid.frame.leaf.page home.stands.laid.frame.leaf.chains (suc n) home.stands.laid.frame.leaf.chains
  first = record {
    stands = home.stands.keys;
    bare = λ key outside. (home.stands.bare key outside).0;
    places = λ key. refl;
    brings = λ key u member other. member;
    done = λ i k low there same. subst (λ l. AllHave e (name_of m t) (chain_in l k.slot)) (ap (slots_in pieces) same ∙ in-leaf) (o.old i k low there);
    before = λ i k low there other. low;
  }

  final : Edited e (name_of m t) m home.leaf.table (LiesIn d.leaves home.leaf) (frame_at keys (suc n)) (suc n) keys home.stands.laid.frame.leaf.page home.stands.laid.frame.leaf.chains (leaf_start keys (frame_at keys (suc n)) (suc n))
      (leaf_changed (edited (name_of m t) e) keys (frame_at keys (suc n)) (suc n) home.stands.laid.frame.leaf.chains)
  final = edited-leaf e m t o.edits home.leaf.table (LiesIn d.leaves home.leaf) (frame_at keys (suc n)) (suc n) keys home.stands.laid.frame.leaf.page home.stands.laid.frame.leaf.chains written (suc n) o.within home.stands.laid.frame.leaf.chains first
