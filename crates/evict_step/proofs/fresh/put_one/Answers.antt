use Rattle.std.proofs.Common.{◌≡◌, ◌∙◌, ◌++◌, ◌+◌, ℕ, List, [], ◌∷◌, length, ap, sym, arith}
use Rattle.std.specs.Prelude.{option_map}
use Rattle.std.proofs.lemmas.List.{append-nil, length_push}
use Rattle.reconcile.specs.declared.image.Moved.{Moved}
use Rattle.tree_dir.specs.declared.leaf.Leaf.{Leaf}
use Rattle.tree_dir.specs.Leaves.{leaf_under}
use Rattle.evict_step.specs.declared.fresh.Fresh.{Fresh}
use Rattle.evict_step.specs.Kept.{fresh_of}
use Rattle.evict_step.proofs.FreshLists.{fresh-append, none_lies, one_lies}
use Rattle.evict_step.proofs.fresh.put_one.Goals as goal

pub returns-in-Some-clause-put : goal.returns-in-Some-clause-put
returns-in-Some-clause-put c = λ id.
    let room = c.args.room.now.items in
    let leaves = c.args.leaves.now.leaves in
    let key = ap (λ (k : List ℕ). option_map (λ (l : Leaf). l.id) (leaf_under c.args.table k leaves)) c.as_bytes.ensures in
    let f : Fresh = record { leaf = c.in-Some.leaf; one = c.args.one } in
    ap (λ (l : List Fresh). fresh_of l id) c.push_reserved.ensures.items
    ∙ (fresh-append room (f ∷ []) id ∙ ap (λ (l : List Moved). fresh_of room id ++ l) (one_lies leaves c.args.table c.in-Some.leaf c.args.one id (c.in-Some.ensures ∙ key)))

pub returns-in-Some-clause-few : goal.returns-in-Some-clause-few
returns-in-Some-clause-few c =
    let f : Fresh = record { leaf = c.in-Some.leaf; one = c.args.one } in
    let long : length c.push_reserved.new.self.items ≡ length c.args.room.now.items + 1 = ap (λ (l : List Fresh). length l) c.push_reserved.ensures.items ∙ length_push c.args.room.now.items f in
    omega (arith, long)

pub returns-in_default-clause-put : goal.returns-in_default-clause-put
returns-in_default-clause-put c = λ id.
    let room = c.args.room.now.items in
    let leaves = c.args.leaves.now.leaves in
    let key = ap (λ (k : List ℕ). option_map (λ (l : Leaf). l.id) (leaf_under c.args.table k leaves)) c.as_bytes.ensures in
    sym (ap (λ (l : List Moved). fresh_of room id ++ l) (none_lies leaves c.args.table c.args.one id (c.in_default.ensures ∙ key)) ∙ append-nil (fresh_of room id))
