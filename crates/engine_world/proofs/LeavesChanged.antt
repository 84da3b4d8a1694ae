-- Leaves that are changed one by one, and keep what they are found by, while one frame comes to have another leaf, or none.
use Rattle.std.proofs.Common.{◌≡◌, ◌≢◌, ◌≤◌, ℕ, suc, refl, ap, sym, ◌∙◌, Bool, true, false, List, [], ◌∷◌, ◌++◌, length, map, inl, inr, subst, arith}
use Rattle.std.specs.Prelude.{Option, Some, None, not, ◌==◌, ◌&&◌, if◌then◌else◌, option_and_then, option_map, slice_get, slice_set}
use Rattle.std.specs.List.{Contains}
use Rattle.std.specs.Option.{option_or, option_to_list}
use Rattle.std.proofs.lemmas.Bool.{cases_Bool, cases_eq, eq-eqb, ne_eqb}
use Rattle.std.proofs.lemmas.List.{get_or-map, get_or-set_other, length-map}
use Rattle.std.proofs.lemmas.Option.{same_Some}
use Rattle.item.specs.declared.Change.{Change}
use Rattle.stamp.specs.declared.Version.{Version}
use Rattle.kv_model.specs.Holds.{Descends, Member}
use Rattle.kv_model.specs.Machine.{Machine, of_some}
use Rattle.kv_model.specs.Ordered.{Older}
use Rattle.kv_model.specs.Rows.{Way, Up, Down}
use Rattle.leaf_chains.specs.Slots.{chain_at, slot_of}
use Rattle.row_page.specs.Rows.{Row, is_below}
use Rattle.reconcile.specs.Shows.{shown_at}
use Rattle.update_chain.specs.EventLaws.{StandsFor}
use Rattle.tree_dir.specs.declared.leaf.Framed.{Framed}
use Rattle.tree_dir.specs.declared.leaf.Leaf.{Leaf}
use Rattle.tree_dir.specs.Leaves.{Directory, IsDirectory, begins_by, changed, in_frame, leaf_behind, leaf_under, of_table}
use Rattle.tree_dir.specs.Ranges.{low_key}
use Rattle.tree_dir.proofs.Members.{head-in, later, split}
use Rattle.tree_dir.proofs.Parting.{under-has}
use Rattle.call_steps.specs.declared.frame.Frame.{Frame}
use Rattle.call_steps.specs.declared.frame.FramePiece.{FramePiece}
use Rattle.call_steps.specs.declared.stage.Target.{Target}
use Rattle.call_steps.specs.State.{State}
use Rattle.call_steps.specs.Tables.{target_in}
use Rattle.engine_world.specs.Evicting.{NoneWroteIn}
use Rattle.engine_world.specs.GoingOut.{IsAside}
use Rattle.engine_world.specs.Leaves.{FramesStand, IsLaid, LeafStands, frame_in, frame_of, generation_at, slots_in}
use Rattle.engine_world.specs.Stages.{IsNoticed, IsPast}
use Rattle.engine_world.specs.Stands.{Engine, Stands}
use Rattle.engine_world.specs.Walks.{all_ahead, all_behind, in_table, leaves_on}
use Rattle.engine_world.specs.Worlds.{Records, World}
use Rattle.engine_world.proofs.Beside.{Apart, LeavesKept, LeavesStay, OthersAtHome}
use Rattle.engine_world.proofs.FrameWords.{generation-beside}
use Rattle.engine_world.proofs.Homes.{LeavesStand, same-id}
use Rattle.engine_world.proofs.Moves.{get-set-other}
use Rattle.engine_world.proofs.Others.{doing-kept, others-aside}
use Rattle.engine_world.proofs.SystemEvents.{past-all, same-apart}

-- ---- leaves that are changed one by one, and keep what they are found by

-- what changes a leaf leaves what it is found by
pub record IsMild (f : Leaf → Leaf) : Type 0 where
  pub id : (l : Leaf) → (f l).id ≡ l.id
  pub table : (l : Leaf) → (f l).table ≡ l.table
  pub key : (l : Leaf) → (f l).entry.key ≡ l.entry.key

map-some : {A B : Type 0} (f : A → B) (o : Option A) (b : Bool) (x : A) → option_or (option_map f o) (if b then Some (f x) else None) ≡ option_map f (option_or o (if b then Some x else None))
map-some f (Some y) b x = refl
map-some f None true x = refl
map-some f None false x = refl

module _ (f : Leaf → Leaf) (mild : IsMild f) where
  begins-same : (table : ℕ) (key : List ℕ) (l : Leaf) → begins_by table key (f l) ≡ begins_by table key l
  begins-same table key l = ap (λ n. (n == table) && not (is_below key (f l).entry.key)) (mild.table l) ∙ ap (λ k. (l.table == table) && not (is_below key k)) (mild.key l)

  pub under-map : (table : ℕ) (key : List ℕ) (leaves : List Leaf) → leaf_under table key (map f leaves) ≡ option_map f (leaf_under table key leaves)
  under-map table key [] = refl
  under-map table key (l ∷ leaves) =
      ap (λ (o : Option Leaf). option_or o (if begins_by table key (f l) then Some (f l) else None)) (under-map table key leaves)
      ∙ (ap (λ b. option_or (option_map f (leaf_under table key leaves)) (if b then Some (f l) else None)) (begins-same table key l)
      ∙ map-some f (leaf_under table key leaves) (begins_by table key l) l)

  low-of : (b : Bool) (l : Leaf) → low_key (if b then Some (f l) else None) ≡ low_key (if b then Some l else None)
  low-of true l = ap (λ (k : List ℕ). Some k) (mild.key l)
  low-of false l = refl

  pub behind-map : (id : ℕ) (leaves : List Leaf) → low_key (leaf_behind id (map f leaves)) ≡ low_key (leaf_behind id leaves)
  behind-map id [] = refl
  behind-map id (a ∷ []) = refl
  behind-map id (a ∷ b ∷ leaves) =
      ap (λ n. low_key (if n == id then of_table (f a).table (f b) else leaf_behind id (map f (b ∷ leaves)))) (mild.id a) ∙ by (a.id == id) (behind-map id (b ∷ leaves)) where
        here : low_key (of_table (f a).table (f b)) ≡ low_key (of_table a.table b)
        here = ap (λ n. low_key (if n == (f a).table then Some (f b) else None)) (mild.table b)
            ∙ (ap (λ n. low_key (if b.table == n then Some (f b) else None)) (mild.table a) ∙ low-of (b.table == a.table) b)

        by : (is : Bool) → low_key (leaf_behind id (map f (b ∷ leaves))) ≡ low_key (leaf_behind id (b ∷ leaves)) → low_key (if is then of_table (f a).table (f b) else leaf_behind id (map f (b ∷ leaves))) ≡ low_key (if is then of_table a.table b else leaf_behind id (b ∷ leaves))
        by true rest = here
        by false rest = rest

  in-table-map : (table : ℕ) (leaves : List Leaf) → in_table table (map f leaves) ≡ map f (in_table table leaves)
  in-table-map table [] = refl
  in-table-map table (l ∷ leaves) = ap (λ n. if n == table then f l ∷ in_table table (map f leaves) else in_table table (map f leaves)) (mild.table l) ∙ by (l.table == table) (in-table-map table leaves) where
    by : (is : Bool) → in_table table (map f leaves) ≡ map f (in_table table leaves) → (if is then f l ∷ in_table table (map f leaves) else in_table table (map f leaves)) ≡ map f (if is then l ∷ in_table table leaves else in_table table leaves)
    by true rest = ap (λ (ls : List Leaf). f l ∷ ls) rest
    by false rest = rest

  behind-long : (id : ℕ) (leaves : List Leaf) → length (all_behind id (map f leaves)) ≡ length (all_behind id leaves)
  behind-long id [] = refl
  behind-long id (l ∷ leaves) = ap (λ n. length (if n == id then map f leaves else all_behind id (map f leaves))) (mild.id l) ∙ by (l.id == id) (behind-long id leaves) where
    by : (is : Bool) → length (all_behind id (map f leaves)) ≡ length (all_behind id leaves) → length (if is then map f leaves else all_behind id (map f leaves)) ≡ length (if is then leaves else all_behind id leaves)
    by true rest = length-map leaves f
    by false rest = rest

  ahead-long : (id : ℕ) (leaves : List Leaf) → length (all_ahead id (map f leaves)) ≡ length (all_ahead id leaves)
  ahead-long id [] = refl
  ahead-long id (l ∷ leaves) = ap (λ n. length (if n == id then [] else f l ∷ all_ahead id (map f leaves))) (mild.id l) ∙ by (l.id == id) (ahead-long id leaves) where
    by : (is : Bool) → length (all_ahead id (map f leaves)) ≡ length (all_ahead id leaves) → length {A = Leaf} (if is then [] else f l ∷ all_ahead id (map f leaves)) ≡ length {A = Leaf} (if is then [] else l ∷ all_ahead id leaves)
    by true rest = refl
    by false rest = ap (λ (n : ℕ). suc n) rest

  pub on-map : (way : Way) (table id : ℕ) (leaves : List Leaf) → leaves_on way table id (map f leaves) ≡ leaves_on way table id leaves
  on-map Up table id leaves = ap (λ ls. length (all_behind id ls)) (in-table-map table leaves) ∙ behind-long id (in_table table leaves)
  on-map Down table id leaves = ap (λ ls. length (all_ahead id ls)) (in-table-map table leaves) ∙ ahead-long id (in_table table leaves)

pub contains-map : (f : Leaf → Leaf) (xs : List Leaf) (x : Leaf) → Contains xs x → Contains (map f xs) (f x)
contains-map f xs x c = let long = length-map xs f in (c.0, omega (arith, c.1, long), get_or-map f xs c.0 x (f x) c.1 ∙ ap f c.2)

pub contains-source : (f : Leaf → Leaf) (xs : List Leaf) (y : Leaf) → Contains (map f xs) y → (x : Leaf) × Contains xs x × (f x ≡ y)
contains-source f [] y c = absurd (omega (arith, c.1))
contains-source f (x ∷ xs) y c = elim (split (f x) y (map f xs) c) [
  | inl here ↦ (x, head-in x xs, here)
  | inr there ↦ let s = contains-source f xs y there in (s.0, later x s.0 xs s.1, s.2)
]

-- ---- one leaf is changed

-- one that comes to another frame, or to none
pub frame-mild : (to : Option Framed) → IsMild (in_frame to)
frame-mild to = record { id = λ x. refl; table = λ x. refl; key = λ x. refl }

-- the leaf of this id, where its frame is such a one
module _ (id : ℕ) (from : Option Framed → Bool) (change : Leaf → Leaf) where
  abbrev pub moved : Leaf → Leaf
  moved x = if x.id == id then (if from x.frame then change x else x) else x

  one-of : (P : Leaf → Type 0) (x : Leaf) → P (change x) → P x → P (moved x)
  one-of P x here stays = by (x.id == id) (from x.frame) where
    by : (is out : Bool) → P (if is then (if out then change x else x) else x)
    by true true = here
    by true false = stays
    by false out = stays

  pub moved-mild : IsMild change → IsMild moved
  moved-mild mild = record { id = λ x. one-of (λ y. y.id ≡ x.id) x (mild.id x) refl; table = λ x. one-of (λ y. y.table ≡ x.table) x (mild.table x) refl; key = λ x. one-of (λ y. y.entry.key ≡ x.entry.key) x (mild.key x) refl }

  pub moved-it : (x : Leaf) → x.id ≡ id → from x.frame ≡ true → moved x ≡ change x
  moved-it x same such = ap (λ b. if b then (if from x.frame then change x else x) else x) (eq-eqb x.id id same) ∙ ap (λ b. if b then change x else x) such

  pub moved-not : (x : Leaf) → x.id ≢ id → moved x ≡ x
  moved-not x other = ap (λ b. if b then (if from x.frame then change x else x) else x) (ne_eqb x.id id other)

  pub stays-in : (x : Leaf) → from x.frame ≡ false → (moved x).frame ≡ x.frame
  stays-in x not_such = ap (λ b. (if x.id == id then (if b then change x else x) else x).frame) not_such ∙ by (x.id == id) where
    by : (is : Bool) → (if is then x else x).frame ≡ x.frame
    by true = refl
    by false = refl

  -- where the leaf of this id is in such a one
  pub changed-is : (leaves : List Leaf) → ((x : Leaf) → Contains leaves x → x.id ≡ id → from x.frame ≡ true) → map moved leaves ≡ changed id change leaves
  changed-is [] such = refl
  changed-is (x ∷ leaves) such = ap (λ (y : Leaf). y ∷ map moved leaves) one ∙ ap (λ (ls : List Leaf). (if x.id == id then change x else x) ∷ ls) (changed-is leaves (λ y there. such y (later x y leaves there))) where
    one : moved x ≡ (if x.id == id then change x else x)
    one = elim (cases_eq x.id id) [
      | inl same ↦ moved-it x same (such x (head-in x leaves) same) ∙ sym (ap (λ b. if b then change x else x) (eq-eqb x.id id same))
      | inr other ↦ moved-not x other ∙ sym (ap (λ b. if b then change x else x) (ne_eqb x.id id other))
    ]

-- a leaf that is changed twice
pub changed-twice : (id : ℕ) (f g : Leaf → Leaf) → ((x : Leaf) → (f x).id ≡ x.id) → (leaves : List Leaf) → changed id g (changed id f leaves) ≡ changed id (λ x. g (f x)) leaves
changed-twice id f g same [] = refl
changed-twice id f g same (x ∷ leaves) = ap (λ (y : Leaf). y ∷ changed id g (changed id f leaves)) one ∙ ap (λ (ls : List Leaf). (if x.id == id then g (f x) else x) ∷ ls) (changed-twice id f g same leaves) where
  one : (if (if x.id == id then f x else x).id == id then g (if x.id == id then f x else x) else (if x.id == id then f x else x)) ≡ (if x.id == id then g (f x) else x)
  one = elim (cases_Bool (x.id == id)) [
    | inl is ↦ rw is (rw (same x) (rw is refl))
    | inr isnt ↦ rw isnt (rw isnt refl)
  ]

-- ---- what is found among them

module _ (d : Directory) (is : IsDirectory d) (f : Leaf → Leaf) (mild : IsMild f) where
  pub under-to : (table : ℕ) (key : List ℕ) (x : Leaf) → leaf_under table key d.leaves ≡ Some x → leaf_under table key (map f d.leaves) ≡ Some (f x)
  under-to table key x found = under-map f mild table key d.leaves ∙ ap (option_map f) found

  -- leaves that are found by one key are one leaf
  pub under-from : (table : ℕ) (key : List ℕ) (x : Leaf) → Contains d.leaves x → leaf_under table key (map f d.leaves) ≡ Some (f x) → leaf_under table key d.leaves ≡ Some x
  under-from table key x there found-now = by (leaf_under table key d.leaves) refl where
    by : (o : Option Leaf) → leaf_under table key d.leaves ≡ o → leaf_under table key d.leaves ≡ Some x
    by None none = let clash : None ≡ Some (f x) = ap (option_map f) (sym none) ∙ (sym (under-map f mild table key d.leaves) ∙ found-now) in absurd cc
    by (Some y) found = found ∙ ap (λ (z : Leaf). Some z) (same-id d y x is (under-has d is table key y found).there there ids) where
      ids : y.id ≡ x.id
      ids = sym (mild.id y) ∙ (ap (λ (z : Leaf). z.id) (same_Some (f y) (f x) (sym (under-to table key y found) ∙ found-now)) ∙ mild.id x)

-- ---- a frame beside the one that changes

pub frame-beside : (pieces : List FramePiece) (frame : ℕ) (p : FramePiece) (other : ℕ) → other ≢ frame → frame_in (slice_set pieces frame p) other ≡ frame_in pieces other
frame-beside pieces frame p other elsewhere = ap (λ o. option_and_then (λ (q : FramePiece). q.frame) o) (get-set-other pieces frame other p elsewhere)

-- a leaf that does not change, and is in another frame or in none, stands as before, where its block has the rows that it had, and the history what it kept
pub stands-beside : (m : Machine) (shelf shelf' : ℕ → List Row) (records records' : Records) (d : Directory) (f : Leaf → Leaf) (pieces : List FramePiece) (states : List ℕ) (frame : ℕ) (p : FramePiece) (word : ℕ) (x : Leaf) → IsDirectory d → IsMild f → Contains d.leaves x → f x ≡ x → shelf x.id ≡ shelf' x.id → ((key : List ℕ) → records x.id key ≡ records' x.id key)
    → ((laid : IsLaid pieces states x) → laid.framed.frame ≢ frame) → LeafStands m shelf records d.leaves pieces states x → LeafStands m shelf' records' (map f d.leaves) (slice_set pieces frame p) (slice_set states frame word) x
stands-beside m shelf shelf' records records' d f pieces states frame p word x is mild there same rows kept elsewhere stands = by stands where
  under-now : (key : List ℕ) → leaf_under x.table key (map f d.leaves) ≡ Some x → leaf_under x.table key d.leaves ≡ Some x
  under-now key e = under-from d is f mild x.table key x there (e ∙ ap (λ (y : Leaf). Some y) (sym same))

  under-then : (key : List ℕ) → leaf_under x.table key d.leaves ≡ Some x → leaf_under x.table key (map f d.leaves) ≡ Some x
  under-then key e = under-to d is f mild x.table key x e ∙ ap (λ (y : Leaf). Some y) same

  by : LeafStands m shelf records d.leaves pieces states x → LeafStands m shelf' records' (map f d.leaves) (slice_set pieces frame p) (slice_set states frame word) x
  by (inl old) = let apart = elsewhere old.laid in inl (record {
    laid = record {
      framed = old.laid.framed;
      placed = old.laid.placed;
      frame = old.laid.frame;
      there = frame-beside pieces frame p old.laid.framed.frame apart ∙ old.laid.there;
      table = old.laid.table;
      id = old.laid.id;
      generation = generation-beside pieces frame p old.laid.framed.frame apart ∙ old.laid.generation;
      below = old.laid.below;
      word = get_or-set_other states frame old.laid.framed.frame word 0 apart ∙ old.laid.word;
    };
    keys = λ key under. old.keys key (under-now key under);
    bare = λ key outside. old.bare key (λ under. outside (under-then key under));
    lies = λ some. old.lies some ∙ rows;
    none = λ key. sym (kept key) ∙ old.none key;
  })
  by (inr old) = inr (record {
    none = old.none;
    keys = λ key under. subst (λ (vs : List (Version Change)). StandsFor m x.table key [] (shown_at key (shelf' x.id)) vs) (kept key)
        (subst (λ (xs : List Row). StandsFor m x.table key [] (shown_at key xs) (records x.id key)) rows (old.keys key (under-now key under)));
    ordered = λ key under. subst (λ (vs : List (Version Change)). Descends Older (option_to_list (shown_at key (shelf' x.id)) ++ vs)) (kept key)
        (subst (λ (xs : List Row). Descends Older (option_to_list (shown_at key xs) ++ records x.id key)) rows (old.ordered key (under-now key under)));
    bare = λ key outside. let was = old.bare key (λ under. outside (under-then key under)) in (subst (λ (xs : List Row). shown_at key xs ≡ None) rows was.0, sym (kept key) ∙ was.1);
  })

-- ---- nobody sees it, but who has found a leaf that goes out

-- The leaves change mildly, the rows of blocks and what the history keeps too, and a frame that has no leaf, or that its leaf leaves, comes to have this piece. freed: the frame that its leaf left.
pub record IsChange (e : Engine) (w : World) (again : ℕ → Bool) (shelf : ℕ → List Row) (records : Records) (freed : Option ℕ) (f : Leaf → Leaf) (frame : ℕ) (p : FramePiece) (word : ℕ) : Type 0 where
  pub stands : Stands e w
  pub mild : IsMild f
  -- the others stay in their frames
  pub frames : (x : Leaf) (g : Framed) → x.frame ≡ Some g → freed ≢ Some g.frame → (f x).frame ≡ Some g
  pub homes : (table : ℕ) (key : List ℕ) (other : ℕ) → frame_of e.hub.dir.leaves table key ≡ Some other → freed ≢ Some other → other ≢ frame
  pub aside : (session : ℕ) (a : State) → slice_get e.sessions session ≡ Some a → (other : ℕ) → freed ≡ Some other → IsAside other a × NoneWroteIn other a
  pub dir : IsDirectory (record e.hub.dir { leaves = map f e.hub.dir.leaves })
  pub leaves : LeavesStand w.machine shelf records (map f e.hub.dir.leaves) (slice_set e.pieces frame p) (slice_set e.states frame word)
  pub unused : (id : ℕ) → e.hub.dir.next ≤ id → (key : List ℕ) → records id key ≡ []
  pub words : FramesStand (slice_set e.pieces frame p) (slice_set e.states frame word)
  pub older : (other : ℕ) → generation_at e.pieces other ≤ generation_at (slice_set e.pieces frame p) other
  pub past : (l : Leaf) (target : Target) → Contains e.hub.dir.leaves l → target_in l ≡ Some target → freed ≡ Some target.frame → IsPast (slice_set e.pieces frame p) target
  pub noticed : (session : ℕ) (a : State) → slice_get e.sessions session ≡ Some a → IsNoticed a.stage (slice_set e.pieces frame p) (again session)

abbrev pub changed_by : Engine → (Leaf → Leaf) → ℕ → FramePiece → ℕ → Engine
changed_by e f frame p word = record e { hub = record e.hub { dir = record e.hub.dir { leaves = map f e.hub.dir.leaves } }; pieces = slice_set e.pieces frame p; states = slice_set e.states frame word }

module _ (e : Engine) (w : World) (again : ℕ → Bool) (shelf : ℕ → List Row) (records : Records) (freed : Option ℕ) (f : Leaf → Leaf) (frame : ℕ) (p : FramePiece) (word : ℕ) (c : IsChange e w again shelf records freed f frame p word) where
  abbrev leaves : List Leaf
  leaves = e.hub.dir.leaves

  abbrev made : List Leaf
  made = map f e.hub.dir.leaves

  abbrev pieces : List FramePiece
  pieces = slice_set e.pieces frame p

  abbrev now : Directory
  now = record e.hub.dir { leaves = map f e.hub.dir.leaves }

  kept : LeavesKept freed leaves made
  kept = record {
    to = f;
    alike = λ x. record { id = c.mild.id x; table = c.mild.table x; key = c.mild.key x; frame = λ g placed other. c.frames x g placed other };
    there = λ x there. contains-map f leaves x there;
    under = under-to e.hub.dir c.stands.dir f c.mild;
    behind = λ x there. behind-map f c.mild x.id leaves;
    on = λ way x there. on-map f c.mild way x.table x.id leaves;
  }

  leaves-stay : LeavesStay freed leaves made e.pieces pieces
  leaves-stay = record {
    kept = kept;
    tables = λ table key other home stays. ap (λ (o : Option Frame). of_some 0 (λ (x : Frame). x.table) o) (frame-beside e.pieces frame p other (c.homes table key other home stays));
    slots = λ table key other k i home stays slot. ap (λ (o : Option Frame). slot_of k (of_some [] (λ (x : Frame). x.leaf.chains) o)) (frame-beside e.pieces frame p other (c.homes table key other home stays)) ∙ slot;
    older = c.older;
    past = c.past;
  }

  updates-stay : OthersAtHome freed w.machine (length e.sessions) e.hub.dir.leaves e.pieces pieces
  updates-stay r x other there drawn table key at home stays u member named =
      subst (λ (o : Option Frame). Member u (chain_at key (of_some [] (λ (x : Frame). x.leaf.chains) o))) (frame-beside e.pieces frame p at (c.homes table key at home stays)) member

  apart : Apart freed (length e.sessions) w.machine w.machine e.hub (record e.hub { dir = now }) e.pieces pieces
  apart = record {
    machine = same-apart (length e.sessions) w.machine;
    leaves = leaves-stay;
    seats = omega arith;
    phases = λ r other. refl;
    updates = updates-stay;
  }

  pub changed-stands : Stands (changed_by e f frame p word) (record w { again = again; shelf = shelf; records = records })
  changed-stands = record {
    valid = c.stands.valid;
    fault = c.stands.fault;
    stamps = c.stands.stamps;
    txns = c.stands.txns;
    catalog = c.stands.catalog;
    made = c.stands.made;
    dir = c.dir;
    begun = λ place t at. let x = c.stands.begun place t at in (f x.0, contains-map f leaves x.0 x.1, c.mild.table x.0 ∙ x.2);
    owned = λ y there. let s = contains-source f leaves y there in let o = c.stands.owned s.0 s.1 in (o.0, o.1, o.2, ap (λ (x : Leaf). x.table) (sym s.2) ∙ (c.mild.table s.0 ∙ o.3));
    leaves = c.leaves;
    unused = c.unused;
    frames = c.words;
    count = c.stands.count;
    doings = c.stands.doings;
    doing = λ r b at. c.stands.doing r b at ∙ sym (doing-kept freed w.machine leaves made e.pieces r b kept (c.stands.sessions r b at).stage);
    sessions = λ r b at. others-aside freed (length e.sessions) w.machine w.machine e.hub (record e.hub { dir = now }) e.pieces pieces r b apart (past-all e.sessions r b at) c.stands.valid (c.aside r b at) (c.stands.sessions r b at);
    systems = c.stands.systems;
    noticed = c.noticed;
  }
