-- What a rollback to stable leaves of a key.
use Rattle.std.proofs.Common.{◌≡◌, ◌≤◌, ℕ, refl, ap, sym, ◌∙◌, Bool, true, false, ◌&&◌, List, [], ◌∷◌, ◌++◌, inl, inr, subst, arith}
use Rattle.std.specs.Prelude.{Option, Some, None, filter, ◌==◌, if◌then◌else◌}
use Rattle.std.specs.Option.{option_to_list}
use Rattle.std.proofs.lemmas.Bool.{cases_Bool, and_parts, and_from, or_left, or_right, leb-true, le-leb}
use Rattle.item.specs.declared.Change.{Change}
use Rattle.stamp.specs.declared.Version.{Version}
use Rattle.kv_model.specs.Holds.{Member, Descends, Stores}
use Rattle.kv_model.specs.Ordered.{Older}
use Rattle.kv_model.specs.History.{Rts, line, is_stable, is_by}
use Rattle.kv_model.specs.Machine.{Machine, RollbackToStable, transaction_of, after}
use Rattle.kv_model.specs.Allowed.{StampsFit}
use Rattle.kv_model.specs.Droppable.{covers, pin}
use Rattle.kv_model.specs.Captures.{In, Either, Layered, Cleaned}
use Rattle.kv_model.specs.CaptureLaws.{KeptOf}
use Rattle.kv_model.specs.Pending.{HasEnded, NoneHolds, TopStands, InFrame, KeyStands}
use Rattle.kv_model.specs.Reconciling.{held_in, each_one}
use Rattle.kv_model.specs.Marks.{Mark, MarkedStands, no_mark, keeps_cell, lets_through, rolled}
use Rattle.kv_model.specs.StoreLaws.{Held, Staying, ComesBack}
use Rattle.kv_model.specs.StableLaws.{MarkedRollsBack, LeafRollsBack, CleanRollsBack, FrameRollsBack}
use Rattle.kv_model.specs.Valid.{Valid}
use Rattle.kv_model.proofs.Agrees.{line-rts}
use Rattle.kv_model.proofs.Capturing.{member-out, member-into, descends-filter}
use Rattle.kv_model.proofs.Finishing.{filter-all}
use Rattle.kv_model.proofs.Ordering.{line-descends}
use Rattle.kv_model.proofs.Pins.{covers-parts, pin-low, covers-after}
use Rattle.kv_model.proofs.FrameAndHistory.{stores-filter}
use Rattle.kv_model.proofs.Living.{stores-covers}
use Rattle.kv_model.proofs.StoreLists.{rollback-keeps}
use Rattle.kv_model.proofs.ReconciledKeys.{stores-alike, no-top, plain-held, frame-list, list-frame, cell-member, member-cell, one-descends}
use Rattle.kv_model.proofs.MarkedKeys.{rest-parts, marked-loads}

-- ---- the machine

rolled-line : (m : Machine) (table : ℕ) (key : List ℕ) → line (after m RollbackToStable).history table key ≡ filter (is_stable m.stable) (line m.history table key)
rolled-line m table key = elim (cases_Bool (m.stable == 0)) [
  | inl unset ↦ ap (λ b. line (if b then m.history else Rts m.stable ∷ m.history) table key) unset ∙ sym (filter-all (is_stable m.stable) (line m.history table key) (λ v there. or_left (m.stable == 0) (is_by m.stable v) unset))
  | inr set ↦ ap (λ b. line (if b then m.history else Rts m.stable ∷ m.history) table key) set ∙ (line-rts m.stable m.history table key ∙ same set (line m.history table key))
] where
  same : (m.stable == 0) ≡ false → (l : List (Version Change)) → filter (is_by m.stable) l ≡ filter (is_stable m.stable) l
  same set [] = refl
  same set (v ∷ l) = elim (cases_Bool (is_by m.stable v)) [ inl is ↦ rw (set, is) (ap (λ rest. v ∷ rest) (same set l)) | inr isnt ↦ rw (set, isnt) (same set l) ]

-- what covers is stable
covers-stable : (m : Machine) → Valid m → (v : Version Change) → covers m v ≡ true → is_stable m.stable v ≡ true
covers-stable m valid v is = fits valid.stamps where
  low : v.window.durable ≤ m.oldest
  low = let a = (covers-parts m v is).low in let b = (pin-low m (pin m) (omega arith)).oldest in omega arith

  fits : StampsFit m.oldest m.stable → is_stable m.stable v ≡ true
  fits (inl unset) = rw unset refl
  fits (inr under) = or_right (m.stable == 0) (is_by m.stable v) (le-leb v.window.durable m.stable (let l = low in omega arith))

nobody-ended : (m : Machine) → ((s : ℕ) → transaction_of m s ≡ None) → (v : Version Change) → HasEnded (after m RollbackToStable) v.window.name
nobody-ended m none v s t there = let gone = none s in absurd (cc)

nobody-free : (m : Machine) (table : ℕ) (key : List ℕ) → ((s : ℕ) → transaction_of m s ≡ None) → NoneHolds (after m RollbackToStable) table key
nobody-free m table key none s t wrote = let gone = none s in let there : transaction_of m s ≡ Some t = wrote.0 in absurd (cc)

-- ---- a leaf in no frame

rolled-keeps : (mark : Mark) (stable : ℕ) (v : Version Change) → mark.bound ≤ stable → keeps_cell (rolled stable mark) v ≡ (keeps_cell mark v && is_stable stable v)
rolled-keeps mark stable v low = elim (cases_Bool (mark.bound == 0)) [
  | inl unset ↦ rw unset (regroup (lets_through mark.filter v.window.name) (is_stable stable v))
  | inr set ↦ rw (set, set) (within set (lets_through mark.filter v.window.name) (is_by mark.bound v) refl)
] where
  regroup : (a b : Bool) → (a && b) ≡ ((a && true) && b)
  regroup true b = refl
  regroup false b = refl

  within : (mark.bound == 0) ≡ false → (a b : Bool) → is_by mark.bound v ≡ b → (a && b) ≡ ((a && b) && is_stable stable v)
  within set true true is = sym (or_right (stable == 0) (is_by stable v) (le-leb v.window.durable stable (let under = leb-true v.window.durable mark.bound is in omega arith)))
  within set true false is = refl
  within set false b is = refl

rolled-bound : (mark : Mark) (stable : ℕ) → mark.bound ≤ stable → (rolled stable mark).bound ≤ stable
rolled-bound mark stable low = elim (cases_Bool (mark.bound == 0)) [
  | inl unset ↦ rw unset (omega arith)
  | inr set ↦ rw set low
]

pub marked-rolls-back : MarkedRollsBack
marked-rolls-back m table key mark cell records valid may k = record {
  stores = subst (λ l. Stores Older (covers next) l (KeptOf (keeps_cell (rolled m.stable mark)) (In cell)) (Held (filter keeps records))) (sym (rolled-line m table key))
      (stores-covers Older (covers m) (covers next) (filter keeps (line m.history table key)) (KeptOf (keeps_cell (rolled m.stable mark)) (In cell)) (Held (filter keeps records))
      (λ v there is. covers-after m RollbackToStable table key v valid may (member-out keeps (line m.history table key) v there).0 is)
      (stores-alike Older (covers m) (filter keeps (line m.history table key)) (λ v. KeptOf (keeps_cell mark) (In cell) v × (keeps v ≡ true)) (Staying keeps records) (KeptOf (keeps_cell (rolled m.stable mark)) (In cell)) (Held (filter keeps records))
      (λ v f. (f.0.0, same v ∙ and_from (keeps_cell mark v) (keeps v) f.0.1 f.1))
      (λ v f. let p = and_parts (keeps_cell mark v) (keeps v) (sym (same v) ∙ f.1) in ((f.0, p.0), p.1))
      (λ v h. member-into keeps records v h.0 h.1) (λ v h. member-out keeps records v h)
      (stores-filter Older (covers m) keeps (line m.history table key) (KeptOf (keeps_cell mark) (In cell)) (Held records) (covers-stable m valid) k.stores)));
  filtered = λ v h. let o = member-out keeps records v h in same v ∙ and_from (keeps_cell mark v) (keeps v) (k.filtered v o.0) o.1;
  layered = λ v h. k.layered v (member-out keeps records v h).0;
  ended = λ v there. nobody-ended m may.0 v;
  free = nobody-free m table key may.0;
  bound = rolled-bound mark m.stable k.bound;
} where
  next : Machine
  next = after m RollbackToStable

  keeps : Version Change → Bool
  keeps = is_stable m.stable

  same : (v : Version Change) → keeps_cell (rolled m.stable mark) v ≡ (keeps_cell mark v && keeps v)
  same v = rolled-keeps mark m.stable v k.bound

-- a leaf that is not marked, while nobody is active
unmarked-stands : (m : Machine) (table : ℕ) (key : List ℕ) (cell : Option (Version Change)) (records : List (Version Change)) → ((s : ℕ) → transaction_of m s ≡ None)
    → KeyStands m table key [] cell (Held records) → MarkedStands m table key no_mark cell (Held records)
unmarked-stands m table key cell records none k = let p = rest-parts m table key cell (Held records) k in record {
  stores = stores-alike Older (covers m) (line m.history table key) (In cell) (Held records) (KeptOf (keeps_cell no_mark) (In cell)) (Held records) (λ v is. (is, refl)) (λ v f. f.0) (λ v h. h) (λ v h. h) p.stores;
  filtered = λ v h. refl;
  layered = λ v h. let w = p.layered v h in (w.0, w.1, w.3);
  ended = λ v there s t at. let gone = none s in absurd (cc);
  free = p.free;
  bound = omega arith;
}

pub leaf-rolls-back : LeafRollsBack
leaf-rolls-back m table key cell records valid may k = marked-rolls-back m table key no_mark cell records valid may (unmarked-stands m table key cell records may.0 k)

pub clean-rolls-back : CleanRollsBack
clean-rolls-back m table key durable cell records valid may low stamps k =
    marked-loads (after m RollbackToStable) table key (rolled m.stable no_mark) cell cell (filter (is_stable m.stable) records) (kept cell (λ v is. keeps v (stamps v is))) (leaf-rolls-back m table key cell records valid may k) where
      keeps : (v : Version Change) → v.window.durable ≤ durable → keeps_cell (rolled m.stable no_mark) v ≡ true
      keeps v le = or_right (m.stable == 0) (is_by m.stable v) (le-leb v.window.durable m.stable (omega arith))

      kept : (cell : Option (Version Change)) → ((v : Version Change) → In cell v → keeps_cell (rolled m.stable no_mark) v ≡ true) → Cleaned Older (keeps_cell (rolled m.stable no_mark)) cell (Held (filter (is_stable m.stable) records)) cell
      kept None each = refl
      kept (Some v) each = inl (each v refl, refl)

-- ---- a leaf in a frame

pub frame-rolls-back : FrameRollsBack
frame-rolls-back m table key chain later_chain cell later_cell records valid may r k = record {
  top = [];
  held = r.held;
  below = line next.history table key;
  chained = r.plain;
  ordered = parts.1;
  topped = (refl, nobody-free m table key may.0);
  stores = parts.0.0;
  layered = λ v h. let w = parts.0.1 v h in (w.0, w.1, nobody-ended m may.0 w.0, w.3);
} where
  next : Machine
  next = after m RollbackToStable

  keeps : Version Change → Bool
  keeps = is_stable m.stable

  all : List (Version Change)
  all = k.held ++ option_to_list cell

  none : k.top ≡ []
  none = no-top m table key chain k.top k.held k.below k.chained k.topped (λ u there s t at. let gone = may.0 s in absurd (cc))

  is-line : line m.history table key ≡ k.below
  is-line = (subst (λ t. TopStands m table key t k.below) none k.topped).0

  same : held_in chain cell ≡ all
  same = plain-held chain k.top k.held cell k.chained none

  later : held_in later_chain later_cell ≡ r.held ++ option_to_list later_cell
  later = plain-held later_chain [] r.held later_cell r.plain refl

  descends : Descends Older k.below
  descends = subst (Descends Older) is-line (line-descends m.history valid.orderly table key)

  rolls : (back : Option (Version Change)) → ComesBack keeps all records back
      → Stores Older (covers m) (filter keeps k.below) (Either (Staying keeps all) (In back)) (Staying keeps records) × Layered Older each_one (Either (Staying keeps all) (In back)) (Staying keeps records)
  rolls back comes = rollback-keeps (covers m) keeps k.below all records back descends (covers-stable m valid)
      (stores-alike Older (covers m) k.below (InFrame k.held cell) (Held records) (Held all) (Held records) (frame-list k.held cell) (list-frame k.held cell) (λ x h. h) (λ x h. h) k.stores) comes

  Frame : Version Change → Type 0
  Frame v = InFrame r.held later_cell v

  moved : (back : Option (Version Change)) → ((v : Version Change) → Either (Staying keeps all) (In back) v → Frame v) → ((v : Version Change) → Frame v → Either (Staying keeps all) (In back) v) → ComesBack keeps all records back
      → Stores Older (covers next) (line next.history table key) Frame (Held (filter keeps records)) × Layered Older each_one Frame (Held (filter keeps records))
  moved back one two comes = let rolled_back = rolls back comes in (
    subst (λ l. Stores Older (covers next) l Frame (Held (filter keeps records))) (ap (filter keeps) (sym is-line) ∙ sym (rolled-line m table key))
        (stores-covers Older (covers m) (covers next) (filter keeps k.below) Frame (Held (filter keeps records))
        (λ v there is. covers-after m RollbackToStable table key v valid may (subst (λ l. Member v l) (sym is-line) (member-out keeps k.below v there).0) is)
        (stores-alike Older (covers m) (filter keeps k.below) (Either (Staying keeps all) (In back)) (Staying keeps records) Frame (Held (filter keeps records)) one two
        (λ v h. member-into keeps records v h.0 h.1) (λ v h. member-out keeps records v h) rolled_back.0)),
    (λ v h. let w = rolled_back.1 v (member-out keeps records v h) in (w.0, one w.0 w.1, w.2, w.3)),
  )

  parts : (Stores Older (covers next) (line next.history table key) Frame (Held (filter keeps records)) × Layered Older each_one Frame (Held (filter keeps records)))
      × Descends Older (r.held ++ option_to_list later_cell)
  parts = elim r.frame_is [
    | inl stays ↦
        let list : r.held ++ option_to_list later_cell ≡ filter keeps all = sym later ∙ (stays.1 ∙ ap (filter keeps) same) in (
          moved None
              (λ v f. elim f [
                | inl s ↦ list-frame r.held later_cell v (subst (λ l. Member v l) (sym list) (member-into keeps all v s.0 s.1))
                | inr is ↦ absurd (cc)
              ])
              (λ v f. inl (member-out keeps all v (subst (λ l. Member v l) list (frame-list r.held later_cell v f))))
              (inl ((stays.0.0, subst (λ l. Member stays.0.0 l) same stays.0.1, stays.0.2), refl)),
          subst (Descends Older) (sym list) (descends-filter Older keeps all k.ordered),
        )
    | inr gone ↦
        let list : r.held ++ option_to_list later_cell ≡ option_to_list gone.1.0 = sym later ∙ gone.1.2 in
        let nothing = λ (v : Version Change) (at : Member v all) (is : keeps v ≡ true). gone.0 v (subst (λ l. Member v l) (sym same) at) is in (
          moved gone.1.0
              (λ v f. elim f [
                | inl s ↦ absurd (nothing v s.0 s.1)
                | inr is ↦ list-frame r.held later_cell v (subst (λ l. Member v l) (sym list) (cell-member gone.1.0 v is))
              ])
              (λ v f. inr (member-cell gone.1.0 v (subst (λ l. Member v l) list (frame-list r.held later_cell v f))))
              (inr (nothing, gone.1.1)),
          subst (Descends Older) (sym list) (one-descends gone.1.0),
        )
  ]
