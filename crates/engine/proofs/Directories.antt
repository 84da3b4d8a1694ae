-- The tables of an engine and their leaves go on.
use Rattle.std.proofs.Common.{◌≡◌, ◌≢◌, ◌⊎◌, ◌≤◌, ℕ, zero, suc, refl, ap, sym, ◌∙◌, List, [], ◌∷◌, ◌++◌, inl, inr, subst, arith}
use Rattle.std.specs.Prelude.{◌==◌, None, Some, Result, Ok, Err, OnErr, OnOk, slice_get}
use Rattle.std.specs.List.{Contains}
use Rattle.std.proofs.lemmas.Bool.{cases_Bool, cases_eq, eq-eqb, ne_eqb}
use Rattle.std.proofs.lemmas.Option.{none-some, same_Some}
use Rattle.kv_model.specs.History.{Table}
use Rattle.stored.specs.Links.{nowhere}
use Rattle.stored.specs.TableTree.{Entry}
use Rattle.tree_dir.specs.declared.leaf.Framed.{Framed}
use Rattle.tree_dir.specs.declared.leaf.Leaf.{Leaf}
use Rattle.tree_dir.specs.Leaves.{Directory, IsDirectory, changed, in_frame, leaves_of}
use Rattle.tree_dir.proofs.Members.{head-in, later, split}
use Rattle.catalog.specs.Known.{AreTables, Known, with_new}
use Rattle.leaf_frame.specs.Leaf.{HeldLeaf}
use Rattle.call_steps.specs.declared.hub.Hub.{Hub}
use Rattle.engine_world.specs.Leaves.{LeavesOwned, generation_at}
use Rattle.engine_world.specs.Stands.{Engine}
use Rattle.engine_world.specs.Systems.{HasFirstLeaf}
use Rattle.engine_world.proofs.Appended.{append-keeps}
use Rattle.engine_world.proofs.NewLeaf.{IsCome, come-cases, comes, new_leaf}
use Rattle.engine.specs.Directories.{DirGoesOn, HubGoesOn, LeafGoesOn, LeavesGoOn}
use Rattle.engine.specs.Frames.{IsFilled, framed_at}
use Rattle.engine.specs.Sound.{IsSound, Keeps}
use Rattle.engine.proofs.LeavesCome.{framed-owned}
use Rattle.engine.proofs.Numbers.{number-below}
use Rattle.engine.proofs.SystemEvents.{none-yet}

-- ---- leaves

leaf-same : (l : Leaf) → LeafGoesOn l l
leaf-same l = record { id = refl; table = refl; entry = refl; stays = λ none. none }

leaf-then : (a b c : Leaf) → LeafGoesOn a b → LeafGoesOn b c → LeafGoesOn a c
leaf-then a b c g h = record { id = h.id ∙ g.id; table = h.table ∙ g.table; entry = h.entry ∙ g.entry; stays = λ none. g.stays (h.stays none) }

leaf-framed : (l : Leaf) (f : Framed) → LeafGoesOn l (in_frame (Some f) l)
leaf-framed l f = record { id = refl; table = refl; entry = refl; stays = λ none. absurd (cc) }

leaves-same : (leaves : List Leaf) → LeavesGoOn leaves leaves
leaves-same [] = tt
leaves-same (l ∷ leaves) = (leaf-same l, leaves-same leaves)

leaves-then : (a b c : List Leaf) → LeavesGoOn a b → LeavesGoOn b c → LeavesGoOn a c
leaves-then [] [] c g h = h
leaves-then [] (y ∷ b) c g h = absurd g
leaves-then (x ∷ a) [] c g h = absurd g
leaves-then (x ∷ a) (y ∷ b) [] g h = absurd h
leaves-then (x ∷ a) (y ∷ b) (z ∷ c) g h = (leaf-then x y z g.0 h.0, leaves-then a b c g.1 h.1)

-- each of those that went on was there
leaf-before : (leaves next : List Leaf) (n : Leaf) → LeavesGoOn leaves next → Contains next n → (l : Leaf) × Contains leaves l × LeafGoesOn l n
leaf-before [] [] n goes there = absurd (omega (arith, there.1))
leaf-before [] (x ∷ next) n goes there = absurd goes
leaf-before (l ∷ leaves) [] n goes there = absurd goes
leaf-before (l ∷ leaves) (x ∷ next) n goes there = elim (split x n next there) [
  | inl here ↦ (l, head-in l leaves, subst (LeafGoesOn l) here goes.0)
  | inr more ↦ let was = leaf-before leaves next n goes.1 more in (was.0, later l was.0 leaves was.1, was.2)
]

-- ---- the leaves of a table

of-there : (table : ℕ) (leaves : List Leaf) (l : Leaf) → Contains (leaves_of table leaves) l → Contains leaves l
of-there table [] l c = c
of-there table (x ∷ leaves) l c = elim (cases_Bool (x.table == table)) [
  | inl is ↦ elim (split x l (leaves_of table leaves) (rw is at c)) [
    | inl same ↦ subst (Contains (x ∷ leaves)) same (head-in x leaves)
    | inr more ↦ later x l leaves (of-there table leaves l more)
  ]
  | inr isnt ↦ later x l leaves (of-there table leaves l (rw isnt at c))
]

there-of : (table : ℕ) (leaves : List Leaf) (l : Leaf) → Contains leaves l → l.table ≡ table → Contains (leaves_of table leaves) l
there-of table [] l c its = c
there-of table (x ∷ leaves) l c its = elim (split x l leaves c) [
  | inl here ↦ rw (eq-eqb x.table table (ap (λ (y : Leaf). y.table) here ∙ its)) (subst (Contains (x ∷ leaves_of table leaves)) here (head-in x (leaves_of table leaves)))
  | inr more ↦ elim (cases_Bool (x.table == table)) [
    | inl is ↦ rw is (later x l (leaves_of table leaves) (there-of table leaves l more its))
    | inr isnt ↦ rw isnt (there-of table leaves l more its)
  ]
]

-- one of them comes into a frame
changed-goes : (table id : ℕ) (f : Framed) (leaves : List Leaf) → LeavesGoOn (leaves_of table leaves) (leaves_of table (changed id (in_frame (Some f)) leaves))
changed-goes table id f [] = tt
changed-goes table id f (l ∷ leaves) = elim (cases_Bool (l.id == id)) [
  | inl is ↦ elim (cases_Bool (l.table == table)) [
    | inl its ↦ rw (is, its) (leaf-framed l f, changed-goes table id f leaves)
    | inr other ↦ rw (is, other) (changed-goes table id f leaves)
  ]
  | inr isnt ↦ elim (cases_Bool (l.table == table)) [
    | inl its ↦ rw (isnt, its) (leaf-same l, changed-goes table id f leaves)
    | inr other ↦ rw (isnt, other) (changed-goes table id f leaves)
  ]
]

-- a leaf of another table comes among them
of-other : (table : ℕ) (xs ys : List Leaf) (n : Leaf) → n.table ≢ table → leaves_of table (xs ++ (n ∷ ys)) ≡ leaves_of table (xs ++ ys)
of-other table [] ys n other = rw (ne_eqb n.table table other) refl
of-other table (x ∷ xs) ys n other = elim (cases_Bool (x.table == table)) [
  | inl is ↦ rw is (ap (λ (ls : List Leaf). x ∷ ls) (of-other table xs ys n other))
  | inr isnt ↦ rw isnt (of-other table xs ys n other)
]

-- ---- tables

abbrev IsAt : List Table → ℕ → ℕ → Table → Type 0
IsAt known number i t = (slice_get known i ≡ Some t) × (number ≡ t.number)

abbrev IsOfNone : List Table → ℕ → Type 0
IsOfNone known number = (i : ℕ) (t : Table) → slice_get known i ≡ Some t → number ≢ t.number

none-more : (x : Table) (known : List Table) (number : ℕ) → number ≢ x.number → IsOfNone known number → IsOfNone (x ∷ known) number
none-more x known number other none zero t at same = other (same ∙ ap (λ (v : Table). v.number) (sym (same_Some x t at)))
none-more x known number other none (suc i) t at same = none i t at same

known-or : (known : List Table) (number : ℕ) → ((i : ℕ) × (t : Table) × IsAt known number i t) ⊎ IsOfNone known number
known-or [] number = inr (λ i t at. absurd (none-some t at))
known-or (x ∷ known) number = elim (cases_eq number x.number) [
  | inl here ↦ inl (0, x, (refl, here))
  | inr other ↦ elim (known-or known number) [
    | inl found ↦ inl (suc found.0, found.1, found.2)
    | inr none ↦ inr (none-more x known number other none)
  ]
]

-- no leaf is of another table
owned-not : (known : List Table) (leaves : List Leaf) (l : Leaf) → LeavesOwned known leaves → Contains leaves l → IsOfNone known l.table → ⊥
owned-not known leaves l owned there none = let o = owned l there in none o.0 o.1 o.2 o.3

-- ---- the hub

-- the same tables, and the same leaves
hub-same : (h next : Hub) → LeavesOwned h.tables.tables h.dir.leaves → next.txns.run ≡ h.txns.run → next.fault ≡ h.fault → next.tables ≡ h.tables → next.dir ≡ h.dir → HubGoesOn h next
hub-same h next owned run fault tables dir = record {
  run = run;
  fault = fault;
  tables = λ i t at. ap (λ (k : Known). slice_get k.tables i) tables ∙ at;
  dir = subst (DirGoesOn h.tables.tables h.dir) (sym dir) same;
} where
  same : DirGoesOn h.tables.tables h.dir h.dir
  same = record {
    ids = omega arith;
    kept = λ i t at. leaves-same (leaves_of t.number h.dir.leaves);
    made = λ l there none. absurd (owned-not h.tables.tables h.dir.leaves l owned there none);
  }

pub goes-with : (e : Engine) (next : Hub) → IsSound e → next.txns.run ≡ e.hub.txns.run → next.fault ≡ e.hub.fault → next.tables ≡ e.hub.tables → next.dir ≡ e.hub.dir → HubGoesOn e.hub next
goes-with e next sound run fault tables dir = hub-same e.hub next sound.owned run fault tables dir

pub goes-same : (e : Engine) → IsSound e → HubGoesOn e.hub e.hub
goes-same e sound = goes-with e e.hub sound refl refl refl refl

pub goes-keeps : (old new : Engine) → IsSound old → Keeps old new → HubGoesOn old.hub new.hub
goes-keeps old new sound kept = goes-with old new.hub sound kept.run kept.fault kept.tables kept.dir

-- a leaf comes into a frame
goes-framed : (e : Engine) (next : Hub) (leaf frame generation : ℕ) → IsSound e → next.txns.run ≡ e.hub.txns.run → next.fault ≡ e.hub.fault → next.tables ≡ e.hub.tables → next.dir ≡ framed_at e.hub.dir leaf frame generation → HubGoesOn e.hub next
goes-framed e next leaf frame generation sound run fault tables dir = record {
  run = run;
  fault = fault;
  tables = λ i t at. ap (λ (k : Known). slice_get k.tables i) tables ∙ at;
  dir = subst (DirGoesOn e.hub.tables.tables e.hub.dir) (sym dir) framed;
} where
  its : Framed
  its = record { frame = frame; generation = generation }

  framed : DirGoesOn e.hub.tables.tables e.hub.dir (framed_at e.hub.dir leaf frame generation)
  framed = record {
    ids = omega arith;
    kept = λ i t at. changed-goes t.number leaf its e.hub.dir.leaves;
    made = λ l there none. absurd (owned-not e.hub.tables.tables (framed_at e.hub.dir leaf frame generation).leaves l (framed-owned e.hub.tables.tables e.hub.dir.leaves leaf (Some its) sound.owned) there none);
  }

pub goes-filled : {E : Type 0} (old new : Engine) (leaf : ℕ) (page : HeldLeaf) (made : Result (Unit {0}) E) → IsSound old → new.hub.txns.run ≡ old.hub.txns.run → new.hub.fault ≡ old.hub.fault → new.hub.tables ≡ old.hub.tables → OnOk made (IsFilled old new leaf page) → OnErr made (new ≡ old) → HubGoesOn old.hub new.hub
goes-filled old new leaf page (Ok done) sound run fault tables came kept = goes-framed old new.hub leaf came.frame (generation_at old.pieces came.frame) sound run fault tables came.dir
goes-filled old new leaf page (Err why) sound run fault tables came kept = goes-with old new.hub sound run fault tables (ap (λ (e : Engine). e.hub.dir) kept)

-- a table more, with its first leaf
module _ (e : Engine) (known : Known) (dir : Directory) (t : Table) (id frame : ℕ) (sound : IsSound e) (are : AreTables e.hub.tables) (was : IsDirectory e.hub.dir)
    (number : t.number ≡ e.hub.tables.next) (more : known ≡ with_new e.hub.tables t) (first : HasFirstLeaf e.hub.dir dir t.number id frame 0) where
  known-is : known.tables ≡ e.hub.tables.tables ++ t ∷ []
  known-is = ap (λ (k : Known). k.tables) more

  come : IsCome e.hub.dir.leaves dir.leaves (new_leaf t.number id frame 0)
  come = comes e.hub.dir dir t.number id frame 0 was (λ l there same. none-yet e are sound l there (same ∙ number)) first

  leaves-stay : (i : ℕ) (v : Table) → slice_get e.hub.tables.tables i ≡ Some v → leaves_of v.number e.hub.dir.leaves ≡ leaves_of v.number dir.leaves
  leaves-stay i v at = ap (leaves_of v.number) come.old ∙ (sym (of-other v.number come.before come.behind (new_leaf t.number id frame 0) apart) ∙ ap (leaves_of v.number) (sym come.new)) where
    apart : t.number ≢ v.number
    apart same = let below = number-below 1 e.hub.tables.tables e.hub.tables.next i v are.numbers at in omega (arith, below, number, same)

  pub goes-more : HubGoesOn e.hub (record e.hub { tables = known; dir = dir })
  goes-more = record {
    run = refl;
    fault = refl;
    tables = λ i v at. ap (λ (ts : List Table). slice_get ts i) known-is ∙ append-keeps e.hub.tables.tables t v i at;
    dir = record {
      ids = (let next = ap (λ (d : Directory). d.next) first.placed in let from = first.added.fresh.ascend.0 in let below = first.added.fresh.ascend.1 in omega (arith, next, from, below));
      kept = λ i v at. subst (LeavesGoOn (leaves_of v.number e.hub.dir.leaves)) (leaves-stay i v at) (leaves-same (leaves_of v.number e.hub.dir.leaves));
      made = λ l there none. elim (come-cases e.hub.dir dir.leaves (new_leaf t.number id frame 0) was come l there) [
        | inl old ↦ absurd (owned-not e.hub.tables.tables e.hub.dir.leaves l sound.owned old none)
        | inr same ↦ subst (λ (x : Leaf). (e.hub.dir.next ≤ x.id) × (x.entry.link ≡ nowhere) × (x.frame ≢ None)) same (first.added.fresh.ascend.0, refl, λ none. absurd (cc))
      ];
    };
  }

-- ---- one after the other

pub goes-then : (a b c : Hub) → HubGoesOn a b → HubGoesOn b c → HubGoesOn a c
goes-then a b c g h = record {
  run = h.run ∙ g.run;
  fault = h.fault ∙ g.fault;
  tables = λ i t at. h.tables i t (g.tables i t at);
  dir = record {
    ids = (let one = g.dir.ids in let two = h.dir.ids in omega (arith, one, two));
    kept = λ i t at. leaves-then (leaves_of t.number a.dir.leaves) (leaves_of t.number b.dir.leaves) (leaves_of t.number c.dir.leaves) (g.dir.kept i t at) (h.dir.kept i t (g.tables i t at));
    made = λ l there none. elim (known-or b.tables.tables l.table) [
      | inl found ↦ between l there none found.0 found.1 found.2.0 found.2.1
      | inr later ↦ let m = h.dir.made l there later in let one = g.dir.ids in let two = m.0 in (omega (arith, one, two), m.1, m.2)
    ];
  };
} where
  -- a leaf of a table that came in between was there then
  between : (l : Leaf) → Contains c.dir.leaves l → IsOfNone a.tables.tables l.table → (i : ℕ) (t : Table) → slice_get b.tables.tables i ≡ Some t → l.table ≡ t.number → (a.dir.next ≤ l.id) × (l.entry.link ≡ nowhere) × (l.frame ≢ None)
  between l there none i t at its = (let id = was.2.id in let from = made.0 in omega (arith, id, from), ap (λ (x : Entry). x.link) was.2.entry ∙ made.1, λ away. made.2 (was.2.stays away)) where
    was : (x : Leaf) × Contains (leaves_of t.number b.dir.leaves) x × LeafGoesOn x l
    was = leaf-before (leaves_of t.number b.dir.leaves) (leaves_of t.number c.dir.leaves) l (h.dir.kept i t at) (there-of t.number c.dir.leaves l there its)

    made : (a.dir.next ≤ was.0.id) × (was.0.entry.link ≡ nowhere) × (was.0.frame ≢ None)
    made = g.dir.made was.0 (of-there t.number b.dir.leaves was.0 was.1) (λ j v known same. none j v known (was.2.table ∙ same))
