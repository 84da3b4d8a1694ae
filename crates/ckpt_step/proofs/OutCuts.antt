-- The images of a leaf that is written out: their rows, and the entries that lead to them.
use Rattle.std.specs.Prelude.{◌≡◌, ℕ, ◌≤◌, ◌<◌, ◌==◌, true, false, List, [], ◌∷◌, ◌++◌, length, Option, None, Some, IfSome, option_map, refl}
use Rattle.std.specs.List.{AllByRecursion, Contains}
use Rattle.std.proofs.Common.{inl, inr, sym, ◌∙◌, ap, subst, arith}
use Rattle.std.proofs.lemmas.Bool.{cases_lt, eq-eqb, eqb-true, false≢true}
use Rattle.std.proofs.lemmas.List.{append-nil}
use Rattle.frame_capture.specs.Capture.{IsCaptured}
use Rattle.frame_capture.specs.Laws.{CapturesAreNewest}
use Rattle.leaf_frame.specs.Leaf.{HeldLeaf}
use Rattle.kv_model.specs.Holds.{Member}
use Rattle.kv_model.specs.Machine.{Machine}
use Rattle.leaf_rows.specs.Rows.{AreFit}
use Rattle.reconcile.specs.declared.image.Image.{Image}
use Rattle.reconcile.specs.Images.{AreImages}
use Rattle.row_page.specs.Greatest.{durables_of, most_in}
use Rattle.row_page.specs.Rows.{Row, is_below}
use Rattle.snapshot.specs.Matters.{NoneResolves, SeesCommitted}
use Rattle.snapshot.specs.Sight.{Sight}
use Rattle.stored.specs.Links.{LinkFits}
use Rattle.stored.specs.TableTree.{Climbs, Entry}
use Rattle.stored.specs.Tree.{join}
use Rattle.tree_dir.specs.declared.leaf.Leaf.{Leaf}
use Rattle.tree_dir.specs.Leaves.{TakePlace, entry_of, leaf_behind, leaf_named}
use Rattle.tree_write.specs.Drafts.{AreBelow, AreFrom, LeavesOf}
use Rattle.tree_write.specs.Steps.{AreSpelled, image_keys, keys_of, part_keys}
use Rattle.tree_write.proofs.LeafKeys.{AreEntriesOf, climbs_both, entries_fit, entries_of, leaves_of}
use Rattle.engine.specs.Frames.{IsFramed}
use Rattle.engine.proofs.LeavesCome.{named-there}
use Rattle.engine_world.specs.Stands.{Engine, Stands}
use Rattle.engine_world.specs.Worlds.{World}
use Rattle.ckpt_step.specs.CutOuts.{AreAhead, AreOldAt, IsCutOut, MayReplace}
use Rattle.ckpt_step.specs.Parts.{IsPart}
use Rattle.ckpt_step.specs.Steps.{IsLoaded}
use Rattle.ckpt_step.specs.WritesOut.{AreRowsIn, IsNotOld}
use Rattle.ckpt_step.specs.declared.cutting_out.LeafCut.{LeafCut}
use Rattle.ckpt_step.proofs.LoadedLeaves.{captured_lie, captured_newest, stands_in}
use Rattle.ckpt_step.proofs.Members.{in_back, in_front, none_some}
use Rattle.ckpt_step.proofs.OrderedByName.{all_join}
use Rattle.ckpt_step.proofs.PartStamps.{RowsDurable, durable_rows}

cons_first : {A : Type 0} {x y : A} {xs ys : List A} → x ∷ xs ≡ y ∷ ys → x ≡ y
cons_first same = cc

cons_rest : {A : Type 0} {x y : A} {xs ys : List A} → x ∷ xs ≡ y ∷ ys → xs ≡ ys
cons_rest same = cc

-- ---- the stamps

-- rows of images that are durable at a stamp are
pub old_rows : (oldest : ℕ) (images : List Image) (leaves : List (List Row)) → AreSpelled images leaves → AreOldAt oldest images → RowsDurable oldest (join leaves)
old_rows oldest [] [] spelled old = tt
old_rows oldest [] (rows ∷ leaves) spelled old = absurd spelled
old_rows oldest (i ∷ images) [] spelled old = absurd spelled
old_rows oldest (i ∷ images) (rows ∷ leaves) spelled old =
    all_join (λ (r : Row). r.1.window.durable ≤ oldest) rows (join leaves) (durable_rows oldest rows (subst (λ (n : ℕ). n ≤ oldest) spelled.0.durable old.0)) (old_rows oldest images leaves spelled.1 old.1)

-- a version that is durable later only
abbrev pub HasLate : ℕ → List Row → Type 0
HasLate oldest rows = (r : Row) × Member r rows × (oldest < r.1.window.durable)

most_late : (oldest : ℕ) (rows : List Row) → oldest < most_in (durables_of rows) → HasLate oldest rows
most_late oldest [] late = absurd (omega (arith, late))
most_late oldest (r ∷ rows) late = elim (cases_lt oldest r.1.window.durable) [
  | inl here ↦ (r, inl refl, here)
  | inr low ↦ (let rest = most_late oldest rows (omega (arith, late, low)) in (rest.0, inr rest.1, rest.2))
]

pub late_row : (oldest : ℕ) (images : List Image) (leaves : List (List Row)) → AreSpelled images leaves → (AreOldAt oldest images → ⊥) → HasLate oldest (join leaves)
late_row oldest [] leaves spelled isnt = absurd (isnt tt)
late_row oldest (i ∷ images) [] spelled isnt = absurd spelled
late_row oldest (i ∷ images) (rows ∷ leaves) spelled isnt = elim (cases_lt oldest i.durable) [
  | inl late ↦ (let one = most_late oldest rows (subst (λ (n : ℕ). oldest < n) spelled.0.durable late) in (one.0, in_front rows (join leaves) one.0 one.1, one.2))
  | inr low ↦ (let rest = late_row oldest images leaves spelled.1 (λ old. isnt (low, old)) in (rest.0, in_back rows (join leaves) rest.0 rest.1, rest.2))
]

-- ---- the keys

-- entries with the keys of images that are below a key
pub keys_ahead : (low key : List ℕ) (images : List Image) (es : List Entry) → keys_of es ≡ part_keys low images → AreAhead low images key → AreBelow key es
keys_ahead low key [] [] keys ahead = tt
keys_ahead low key [] (e ∷ es) keys ahead = absurd (let clash : keys_of (e ∷ es) ≡ [] = keys in cc)
keys_ahead low key (i ∷ images) [] keys ahead = tt
keys_ahead low key (i ∷ images) (e ∷ es) keys ahead = (subst (λ (k : List ℕ). is_below k key ≡ true) (sym (cons_first keys)) ahead.low_is, rest es images (cons_rest keys) ahead.each.1)
  where
    rest : (es : List Entry) (images : List Image) → keys_of es ≡ image_keys images → AllByRecursion (λ (i : Image). is_below i.low key ≡ true) images → AreBelow key es
    rest [] images keys each = tt
    rest (e ∷ es) [] keys each = absurd (let clash : keys_of (e ∷ es) ≡ [] = keys in cc)
    rest (e ∷ es) (i ∷ images) keys each = (subst (λ (k : List ℕ). is_below k key ≡ true) (sym (cons_first keys)) each.0, rest es images (cons_rest keys) each.1)

climbs_ahead : (low : List ℕ) (images : List Image) (es : List Entry) (next : Option Leaf) → keys_of es ≡ part_keys low images → Climbs es → IfSome next (λ n. AreAhead low images n.entry.key) → Climbs (es ++ entry_of next)
climbs_ahead low images es None keys climbs ahead = subst Climbs (sym (append-nil es)) climbs
climbs_ahead low images es (Some n) keys climbs ahead = climbs_both n.entry.key es (n.entry ∷ []) refl climbs tt (keys_ahead low n.entry.key images es keys ahead)

-- ---- the rows

module _ (e : Engine) (w : World) (l : Leaf) (there : Contains e.hub.dir.leaves l) (held : HeldLeaf) (loaded : IsLoaded e l held) (s : Sight) (rows : List Row) (captured : IsCaptured s held rows) (law : CapturesAreNewest) (stands : Stands e w) (none : NoneResolves w.machine) (sees : SeesCommitted w.machine (length w.machine.history) s) where
  -- what is captured of a leaf in a frame is the newest of its keys
  pub captured_rows : AreRowsIn w.machine e.hub.dir.leaves l rows
  captured_rows =
      let stand = stands_in e w l.table l held stands there refl loaded in
      record {
        fit = captured.fit;
        lie = captured_lie e w s l.table l held rows stands there stand captured;
        newest = captured_newest e w s l.table l held rows stands there stand captured law none sees;
      }

  module _ (id : ℕ) (named : leaf_named id e.hub.dir.leaves ≡ Some l) (images : List Image) (are : AreImages images rows) where
    -- there are none
    pub no_rows : images ≡ [] → IsNotOld w.machine e.hub.dir.leaves id
    no_rows empty = record { leaf = l; there = named; rows = rows; are = captured_rows; why = inl (subst (λ (is : List Image). AreImages is rows) empty are) }

    -- or one is not durable yet
    pub late_rows : (oldest : ℕ) → oldest ≡ w.machine.oldest → (AreOldAt oldest images → ⊥) → IsNotOld w.machine e.hub.dir.leaves id
    late_rows oldest is isnt =
        let of = leaves_of images rows are in
        let late = subst (λ (all : List Row). HasLate oldest all) of.whole (late_row oldest images of.leaves of.spelled isnt) in
        record { leaf = l; there = named; rows = rows; are = captured_rows; why = inr (late.0, late.1, subst (λ (n : ℕ). n < late.0.1.window.durable) is late.2) }

-- ---- that stand where a leaf does

module _ (e : Engine) (id : ℕ) (cut : LeafCut) (rows : List Row) (is : MayReplace e id cut rows) where
  abbrev pub own_images : LeavesOf cut.images.items rows
  own_images = leaves_of cut.images.items rows is.are

  all_fit : AreFit (join own_images.leaves)
  all_fit = subst AreFit (sym own_images.whole) is.fit

  module _ (es : List Entry) (keys : keys_of es ≡ part_keys cut.low cut.images.items) where
    known : AreEntriesOf cut.low es own_images.leaves
    known = entries_of cut.low es cut.images.items own_images.leaves is.some is.short keys own_images.spelled own_images.some all_fit (subst (AreFrom cut.low) (sym own_images.whole) is.from)

    -- the entries may take the leaf's place
    pub may_take : TakePlace id es e.hub.dir.leaves
    may_take = record {
      leaf = is.leaf;
      there = is.there;
      begins = known.first ∙ ap (λ (k : List ℕ). Some k) is.low;
      climbs = climbs_ahead cut.low cut.images.items es (leaf_behind id e.hub.dir.leaves) keys known.climbs is.ahead;
    }

  module _ (m : Machine) (newest : AreRowsIn m e.hub.dir.leaves is.leaf rows) where
    -- the rows are the newest of its keys
    pub newest_rows : AreRowsIn m e.hub.dir.leaves is.leaf (join own_images.leaves)
    newest_rows = subst (λ (all : List Row). AreRowsIn m e.hub.dir.leaves is.leaf all) (sym own_images.whole) newest

    -- they are a part of the leaf
    pub whole_part : (es : List Entry) → keys_of es ≡ part_keys cut.low cut.images.items → AllByRecursion (λ (x : Entry). LinkFits x.link) es → IsPart e.hub.dir.leaves is.leaf.table is.leaf es own_images.leaves
    whole_part es keys fits =
        let own = known es keys in
        record {
          fit = entries_fit es own.keys fits;
          climbs = own.climbs;
          begins = subst (λ (o : Option (List ℕ)). IfSome o (λ key. key ≡ is.leaf.entry.key)) (sym own.first) is.low;
          stay = own.stay;
          full = own_images.full;
          some = own_images.some;
          rows_fit = all_fit;
          lie = newest_rows.lie;
        }

-- ---- that are captured

module _ (e : Engine) (id : ℕ) (cut : LeafCut) (is : IsCutOut e id cut) (w : World) (law : CapturesAreNewest) (stands : Stands e w) (none : NoneResolves w.machine) where
  -- they have the newest of its keys
  pub cut_rows : AreRowsIn w.machine e.hub.dir.leaves is.place.leaf is.rows
  cut_rows = captured_rows e w is.place.leaf (named-there id e.hub.dir.leaves is.place.leaf is.place.there) is.held is.loaded is.sight is.rows is.captured law stands none (is.sees w stands none)

  pub old_enough : RowsDurable w.machine.oldest is.rows
  old_enough =
      let own = leaves_of cut.images.items is.rows is.place.are in
      subst (λ (rows : List Row). RowsDurable w.machine.oldest rows) own.whole (subst (λ (n : ℕ). RowsDurable n (join own.leaves)) (is.oldest_is w stands) (old_rows is.oldest cut.images.items own.leaves own.spelled is.durable))

pub found_cut : (e : Engine) (id : ℕ) (found : Option LeafCut) (cut : LeafCut) → found ≡ Some cut → IfSome found (λ x. IsCutOut e id x) → IsCutOut e id cut
found_cut e id found cut is own = subst (λ (o : Option LeafCut). IfSome o (λ x. IsCutOut e id x)) is own

-- the leaf is in a frame
pub cut_framed : (e : Engine) (id : ℕ) (cut : LeafCut) → IsCutOut e id cut → IsFramed e.hub.dir.leaves id
cut_framed e id cut is = (is.place.leaf, is.place.there, λ none. none_some (sym none ∙ is.loaded.placed))

-- ---- of answers

pub next_ahead : (low : List ℕ) (images : List Image) (next : Option Leaf) (e : Option Entry) → e ≡ option_map (λ (n : Leaf). n.entry) next → IfSome e (λ x. AreAhead low images x.key) → IfSome next (λ n. AreAhead low images n.entry.key)
next_ahead low images None e is ahead = tt
next_ahead low images (Some n) e is ahead = subst (λ (o : Option Entry). IfSome o (λ x. AreAhead low images x.key)) is ahead

pub not_none : {A : Type 0} (l : List A) (n : ℕ) → length l ≡ n → (n == 0) ≡ false → 1 ≤ length l
not_none [] n is isnt = absurd (false≢true (sym isnt ∙ eq-eqb n 0 (sym is)))
not_none (x ∷ l) n is isnt = omega arith

pub is_none : {A : Type 0} (l : List A) (n : ℕ) → length l ≡ n → (n == 0) ≡ true → l ≡ []
is_none [] n is none = refl
is_none (x ∷ l) n is none = absurd (let zero = eqb-true n 0 none in omega (arith, is, zero))
