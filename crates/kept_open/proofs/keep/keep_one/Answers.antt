use Rattle.std.proofs.Common.{◌∙◌, ◌++◌, ◌∷◌, [], ℕ, List, Option, ap, subst, sym}
use Rattle.std.specs.Prelude.{option_map}
use Rattle.std.proofs.lemmas.List.{append-nil}
use Rattle.std.proofs.lemmas.Result.{on_ok_weaker}
use Rattle.stored.specs.HistoryTree.{HistoryRecord}
use Rattle.reconcile.specs.declared.image.Moved.{Moved}
use Rattle.tree_dir.specs.declared.leaf.Leaf.{Leaf}
use Rattle.tree_dir.specs.Leaves.{leaf_under}
use Rattle.evict_step.specs.Backs.{AllFit}
use Rattle.evict_step.specs.Kept.{alone_in, list_of}
use Rattle.kept_open.proofs.ByLeaf.{moved_fits, none_in, one_in}
use Rattle.kept_open.proofs.keep.keep_one.Goals as goal

-- the leaf of a key
abbrev id_under : List Leaf → ℕ → List ℕ → Option ℕ
id_under leaves table key = option_map (λ (l : Leaf). l.id) (leaf_under table key leaves)

pub push-requires : goal.push-requires
push-requires c = record { fit = subst (λ (m : Moved). AllFit (m ∷ [])) (sym c.moved_of.ensures) (moved_fits c.args.of c.requires) }

pub returns-in-Some : goal.returns-in-Some
returns-in-Some c =
    let leaves = c.args.leaves.now.leaves in
    let found = c.in-Some.ensures ∙ (ap (λ (k : List ℕ). id_under leaves c.of.inside.table k) c.as_bytes.ensures ∙ ap (λ (r : HistoryRecord). id_under leaves r.table r.key) c.of.view_is) in
    on_ok_weaker c.push.result
    (λ more id. more id ∙ ap (λ (l : List Moved). list_of c.args.kept.now id ++ l) (ap (λ (m : Moved). alone_in c.in-Some.leaf m id) c.moved_of.ensures ∙ sym (one_in leaves c.args.of c.in-Some.leaf id found)))
    c.push.ensures.kept

pub returns-in-None : goal.returns-in-None
returns-in-None c = λ id.
    let leaves = c.args.leaves.now.leaves in
    let found = c.in-None.ensures ∙ (ap (λ (k : List ℕ). id_under leaves c.of.inside.table k) c.as_bytes.ensures ∙ ap (λ (r : HistoryRecord). id_under leaves r.table r.key) c.of.view_is) in
    sym (ap (λ (l : List Moved). list_of c.args.kept.now id ++ l) (none_in leaves c.args.of id found) ∙ append-nil (list_of c.args.kept.now id))
