-- Leaves as if each were in no frame: what goes on from them may have left its frame.
use Rattle.std.proofs.Common.{◌≡◌, ◌≢◌, ◌≤◌, ℕ, List, [], ◌∷◌, map, Some, None, refl, sym, ap, subst, ◌∙◌, inl, inr}
use Rattle.std.specs.Prelude.{◌==◌, Bool, true, false, if◌then◌else◌, slice_get}
use Rattle.std.specs.List.{Contains}
use Rattle.std.proofs.lemmas.Bool.{cases_Bool, eqb-true, false≢true}
use Rattle.kv_model.specs.History.{Table}
use Rattle.kv_model.specs.Holds.{Member}
use Rattle.stored.specs.Links.{nowhere}
use Rattle.tree_dir.specs.declared.leaf.Leaf.{Leaf}
use Rattle.tree_dir.specs.Leaves.{IsDirectory, changed, in_frame, leaf_named, leaves_of}
use Rattle.reconcile.proofs.Sifting.{filter_map}
use Rattle.tree_dir.proofs.Parting.{ids-name}
use Rattle.call_steps.specs.declared.hub.Hub.{Hub}
use Rattle.engine.specs.Directories.{HubGoesOn, LeafGoesOn, LeavesGoOn}
use Rattle.ckpt_step.specs.Parts.{has_rows}
use Rattle.ckpt_step.proofs.Members.{some_same}
use Rattle.ckpt_step.proofs.TableLeaves.{contains_of, member_of}
use Rattle.engine_store.specs.GoneOut.{all_out}
use Rattle.engine_store.proofs.LeavesGo.{leaves_then}

-- ---- they go on to what they are

pub outs_go : (leaves : List Leaf) → LeavesGoOn (map (in_frame None) leaves) leaves
outs_go [] = tt
outs_go (l ∷ leaves) = (record { id = refl; table = refl; entry = refl; stays = λ none. refl }, outs_go leaves)

pub of_outs : (n : ℕ) (leaves : List Leaf) → leaves_of n (map (in_frame None) leaves) ≡ map (in_frame None) (leaves_of n leaves)
of_outs n leaves = filter_map (in_frame None) (λ l. l.table == n) (λ l. l.table == n) leaves (λ l. refl)

pub hub_out : (h next : Hub) → HubGoesOn h next → HubGoesOn (all_out h) next
hub_out h next goes = record {
  run = goes.run;
  fault = goes.fault;
  tables = goes.tables;
  dir = record {
    ids = goes.dir.ids;
    kept = λ i t at. subst (λ (ls : List Leaf). LeavesGoOn ls (leaves_of t.number next.dir.leaves)) (sym (of_outs t.number h.dir.leaves))
        (leaves_then (map (in_frame None) (leaves_of t.number h.dir.leaves)) (leaves_of t.number h.dir.leaves) (leaves_of t.number next.dir.leaves) (outs_go (leaves_of t.number h.dir.leaves)) (goes.dir.kept i t at));
    made = goes.dir.made;
  };
}

-- ---- a leaf goes out

of_changed : (n id : ℕ) (leaves : List Leaf) → leaves_of n (changed id (in_frame None) leaves) ≡ changed id (in_frame None) (leaves_of n leaves)
of_changed n id leaves = filter_map (λ l. if l.id == id then in_frame None l else l) (λ l. l.table == n) (λ l. l.table == n) leaves (λ l. by l (l.id == id)) where
  by : (l : Leaf) (is : Bool) → ((if is then in_frame None l else l).table == n) ≡ (l.table == n)
  by l true = refl
  by l false = refl

goes_out : (id : ℕ) (a b : Leaf) → LeafGoesOn (in_frame None a) b → LeafGoesOn (in_frame None a) (if b.id == id then in_frame None b else b)
goes_out id a b goes = by (b.id == id) where
  by : (is : Bool) → LeafGoesOn (in_frame None a) (if is then in_frame None b else b)
  by true = record { id = goes.id; table = goes.table; entry = goes.entry; stays = λ none. refl }
  by false = goes

outs_still : (id : ℕ) (leaves next : List Leaf) → LeavesGoOn (map (in_frame None) leaves) next → LeavesGoOn (map (in_frame None) leaves) (changed id (in_frame None) next)
outs_still id [] [] goes = tt
outs_still id [] (n ∷ next) goes = absurd goes
outs_still id (l ∷ leaves) [] goes = absurd goes
outs_still id (l ∷ leaves) (n ∷ next) goes = (goes_out id l n goes.0, outs_still id leaves next goes.1)

-- a leaf of those that are changed was one
was_of : (id : ℕ) (leaves : List Leaf) (n : Leaf) → Member n (changed id (in_frame None) leaves) → (l : Leaf) × Member l leaves × (n ≡ (if l.id == id then in_frame None l else l))
was_of id [] n there = absurd there
was_of id (l ∷ leaves) n (inl same) = (l, inl refl, same)
was_of id (l ∷ leaves) n (inr there) = let later = was_of id leaves n there in (later.0, inr later.1, later.2)

abbrev gone : Hub → ℕ → Hub
gone h id = record h { dir = record h.dir { leaves = changed id (in_frame None) h.dir.leaves } }

-- no leaf of a table made since goes out: its link leads to no rows
module _ (h next : Hub) (id : ℕ) (l : Leaf) (is : IsDirectory next.dir) (named : leaf_named id next.dir.leaves ≡ Some l) (rows : has_rows l.entry.link ≡ true) (goes : HubGoesOn (all_out h) next) where
  abbrev IsOfNone : ℕ → Type 0
  IsOfNone table = (i : ℕ) (t : Table) → slice_get h.tables.tables i ≡ Some t → table ≢ t.number

  made_of : (n x : Leaf) → Contains next.dir.leaves x → n ≡ (if x.id == id then in_frame None x else x) → IsOfNone n.table → (h.dir.next ≤ n.id) × (n.entry.link ≡ nowhere) × (n.frame ≢ None)
  made_of n x there same none = elim (cases_Bool (x.id == id)) [
    | inr isnt ↦
        let own : n ≡ x = rw isnt at same in
        subst (λ (y : Leaf). (h.dir.next ≤ y.id) × (y.entry.link ≡ nowhere) × (y.frame ≢ None)) (sym own) (goes.dir.made x there (λ i t at its. none i t at (ap (λ (y : Leaf). y.table) own ∙ its)))
    | inl here ↦
        let own : n ≡ in_frame None x = rw here at same in
        let one : x ≡ l = some_same (sym (ids-name next.dir is x there) ∙ (ap (λ (k : ℕ). leaf_named k next.dir.leaves) (eqb-true x.id id here) ∙ named)) in
        let made = goes.dir.made x there (λ i t at its. none i t at (ap (λ (y : Leaf). y.table) own ∙ its)) in
        let bare : has_rows l.entry.link ≡ false = ap (λ (y : Leaf). has_rows y.entry.link) (sym one) ∙ ap has_rows made.1 in
        absurd (false≢true (sym bare ∙ rows))
  ]

  pub out_on : HubGoesOn (all_out h) (gone next id)
  out_on = record {
    run = goes.run;
    fault = goes.fault;
    tables = goes.tables;
    dir = record {
      ids = goes.dir.ids;
      kept = λ i t at.
          let before = subst (λ (ls : List Leaf). LeavesGoOn ls (leaves_of t.number next.dir.leaves)) (of_outs t.number h.dir.leaves) (goes.dir.kept i t at) in
          subst (λ (ls : List Leaf). LeavesGoOn ls (leaves_of t.number (changed id (in_frame None) next.dir.leaves))) (sym (of_outs t.number h.dir.leaves))
          (subst (λ (ls : List Leaf). LeavesGoOn (map (in_frame None) (leaves_of t.number h.dir.leaves)) ls) (sym (of_changed t.number id next.dir.leaves)) (outs_still id (leaves_of t.number h.dir.leaves) (leaves_of t.number next.dir.leaves) before));
      made = λ n there none.
          let x = was_of id next.dir.leaves n (member_of (changed id (in_frame None) next.dir.leaves) n there) in
          made_of n x.0 (contains_of next.dir.leaves x.0 x.1) x.2 none;
    };
  }
