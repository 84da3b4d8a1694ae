-- Lists of what is kept, with versions that have no place in a map yet.
use Rattle.std.specs.Prelude.{◌≡◌, ℕ, ◌<◌, ◌==◌, ◌++◌, ◌+◌, true, false, Bool, not, List, [], ◌∷◌, filter, get_or, length, take, Option, Some, None, option_map, OnErr, OnOk, Result, Ok, Err, Vec, if◌then◌else◌, refl}
use Rattle.std.specs.declared.alloc.Global.{Global}
use Rattle.failure.specs.declared.NoMemory.{NoMemory}
use Rattle.std.proofs.Common.{inl, inr, sym, ◌∙◌, ap, subst, arith}
use Rattle.std.proofs.lemmas.Bool.{cases_Bool, cases_eq, eq-eqb, eqb-true, ne_eqb}
use Rattle.std.proofs.lemmas.List.{append_assoc, append-nil, take_more}
use Rattle.std.proofs.lemmas.List.Elements.{filter-append}
use Rattle.std.proofs.lemmas.Option.{same_Some}
use Rattle.std.specs.List.{AllByRecursion}
use Rattle.kv_model.specs.Machine.{of_some}
use Rattle.reconcile.specs.declared.image.Moved.{Moved}
use Rattle.evict_step.specs.Backs.{AllFit}
use Rattle.row_page.specs.Rows.{RowFits, key_most}
use Rattle.reconcile.specs.Cells.{cell_version}
use Rattle.tree_dir.specs.declared.leaf.Leaf.{Leaf}
use Rattle.tree_dir.specs.Leaves.{leaf_under}
use Rattle.evict_step.specs.declared.fresh.Fresh.{Fresh}
use Rattle.evict_step.specs.Kept.{AllListsFit, KeepsAt, KeepsMore, Lists, alone_in, fresh_of, lies_in, list_of, lists_in, lying_in, with_fresh}
use Rattle.evict_step.proofs.KeptLists.{ByLeaf, found_at, list_gone, list_put}

-- what a call left, whether it failed or not
pub by_result : {A B P : Type 0} (r : Result (Unit {0}) NoMemory) → OnOk r A → OnErr r B → (A → P) → (B → P) → P
by_result (Ok done) ok err from_ok from_err = from_ok ok
by_result (Err error) ok err from_ok from_err = from_err err

-- ---- versions

pub fresh-append : (a b : List Fresh) (id : ℕ) → fresh_of (a ++ b) id ≡ fresh_of a id ++ fresh_of b id
fresh-append [] b id = refl
fresh-append (f ∷ a) b id = elim (cases_Bool (f.leaf == id)) [
  | inl is ↦ rw is (ap (λ (l : List Moved). f.one ∷ l) (fresh-append a b id))
  | inr isnt ↦ rw isnt (fresh-append a b id)
]

-- one of a leaf that goes
abbrev pub but : ℕ → List Fresh → List Fresh
but leaf fresh = filter (λ (f : Fresh). not (f.leaf == leaf)) fresh

but_own : (fresh : List Fresh) (leaf : ℕ) → fresh_of (but leaf fresh) leaf ≡ []
but_own [] leaf = refl
but_own (f ∷ fresh) leaf = elim (cases_Bool (f.leaf == leaf)) [
  | inl is ↦ rw is (but_own fresh leaf)
  | inr isnt ↦ (let here : fresh_of (f ∷ but leaf fresh) leaf ≡ [] = rw isnt (but_own fresh leaf) in rw isnt here)
]

but_other : (fresh : List Fresh) (leaf id : ℕ) → (id ≡ leaf → ⊥) → fresh_of (but leaf fresh) id ≡ fresh_of fresh id
but_other [] leaf id other = refl
but_other (f ∷ fresh) leaf id other = elim (cases_eq f.leaf leaf) [
  | inl same ↦
      let gone : (f.leaf == leaf) ≡ true = eq-eqb f.leaf leaf same in
      let away : (f.leaf == id) ≡ false = ne_eqb f.leaf id (λ is. other (sym is ∙ same)) in
      rw (gone, away) (but_other fresh leaf id other)
  | inr differ ↦
      let stays : (f.leaf == leaf) ≡ false = ne_eqb f.leaf leaf differ in
      let here : fresh_of (f ∷ but leaf fresh) id ≡ fresh_of (f ∷ fresh) id = ap (λ (l : List Moved). if f.leaf == id then f.one ∷ l else l) (but_other fresh leaf id other) in
      rw stays here
]

pub fresh_but : (fresh : List Fresh) (leaf id : ℕ) → fresh_of (but leaf fresh) id ≡ (if id == leaf then [] else fresh_of fresh id)
fresh_but fresh leaf id = elim (cases_eq id leaf) [
  | inl same ↦ (let at : (id == leaf) ≡ true = eq-eqb id leaf same in rw at (ap (fresh_of (but leaf fresh)) same ∙ but_own fresh leaf))
  | inr other ↦ (let at : (id == leaf) ≡ false = ne_eqb id leaf other in rw at (but_other fresh leaf id other))
]

-- ---- one after the other

fresh_more : (fresh : List Fresh) (i : ℕ) (f : Fresh) (leaf : ℕ) → i < length fresh → f ≡ get_or fresh i f → fresh_of (take (i + 1) fresh) leaf ≡ fresh_of (take i fresh) leaf ++ fresh_of (f ∷ []) leaf
fresh_more fresh i f leaf lt is =
    ap (λ (l : List Fresh). fresh_of l leaf) (take_more fresh i f lt)
    ∙ (fresh-append (take i fresh) (get_or fresh i f ∷ []) leaf ∙ ap (λ (x : Fresh). fresh_of (take i fresh) leaf ++ fresh_of (x ∷ []) leaf) (sym is))

-- the next one is of the leaf
pub copied_one : (fresh : List Fresh) (i : ℕ) (f : Fresh) (leaf : ℕ) (before now next : List Moved) → i < length fresh → f ≡ get_or fresh i f → (f.leaf == leaf) ≡ true → now ≡ before ++ fresh_of (take i fresh) leaf → next ≡ now ++ f.one ∷ [] → next ≡ before ++ fresh_of (take (i + 1) fresh) leaf
copied_one fresh i f leaf before now next lt at is so_far more =
    let own : fresh_of (f ∷ []) leaf ≡ f.one ∷ [] = ap (λ (b : Bool). if b then f.one ∷ [] else []) is in
    more
    ∙ (ap (λ (l : List Moved). l ++ f.one ∷ []) so_far
    ∙ (append_assoc before (fresh_of (take i fresh) leaf) (f.one ∷ []) ∙ ap (λ (l : List Moved). before ++ l) (sym (fresh_more fresh i f leaf lt at ∙ ap (λ (l : List Moved). fresh_of (take i fresh) leaf ++ l) own))))

-- or of another
pub copied_none : (fresh : List Fresh) (i : ℕ) (f : Fresh) (leaf : ℕ) (before now : List Moved) → i < length fresh → f ≡ get_or fresh i f → (f.leaf == leaf) ≡ false → now ≡ before ++ fresh_of (take i fresh) leaf → now ≡ before ++ fresh_of (take (i + 1) fresh) leaf
copied_none fresh i f leaf before now lt at isnt so_far =
    let none : fresh_of (f ∷ []) leaf ≡ [] = ap (λ (b : Bool). if b then f.one ∷ [] else []) isnt in
    so_far ∙ ap (λ (l : List Moved). before ++ l) (sym (fresh_more fresh i f leaf lt at ∙ (ap (λ (l : List Moved). fresh_of (take i fresh) leaf ++ l) none ∙ append-nil (fresh_of (take i fresh) leaf))))

-- ---- lists

pub list_fresh : (fresh : List Fresh) (lists : Lists) (id : ℕ) → list_of (with_fresh fresh lists) id ≡ list_of lists id ++ fresh_of fresh id
list_fresh [] lists id = sym (append-nil (list_of lists id))
list_fresh (f ∷ fresh) lists id =
    list_fresh fresh ((f.leaf, list_of lists f.leaf ++ f.one ∷ []) ∷ lists) id
    ∙ elim (cases_Bool (f.leaf == id)) [
      | inl is ↦ rw is (append_assoc (list_of lists f.leaf) (f.one ∷ []) (fresh_of fresh id) ∙ ap (λ (n : ℕ). list_of lists n ++ f.one ∷ fresh_of fresh id) (eqb-true f.leaf id is))
      | inr isnt ↦ rw isnt refl
    ]

pub count_fresh : (fresh : List Fresh) (lists : Lists) → length (with_fresh fresh lists) ≡ length fresh + length lists
count_fresh [] lists = omega arith
count_fresh (f ∷ fresh) lists = let more = count_fresh fresh ((f.leaf, list_of lists f.leaf ++ f.one ∷ []) ∷ lists) in omega (arith, more)

-- a leaf has this from now on
pub put_kept : (fresh : List Fresh) (es next : ByLeaf) (leaf : ℕ) (moved : List Moved) → KeepsAt (lists_in es) (lists_in next) leaf moved → KeepsAt (with_fresh fresh (lists_in es)) (with_fresh (but leaf fresh) (lists_in next)) leaf moved
put_kept fresh es next leaf moved puts id =
    list_fresh (but leaf fresh) (lists_in next) id
    ∙ (ap (λ (l : List Moved). l ++ fresh_of (but leaf fresh) id) (puts id)
    ∙ (ap (λ (l : List Moved). (if id == leaf then moved else list_of (lists_in es) id) ++ l) (fresh_but fresh leaf id) ∙ elim (cases_Bool (id == leaf)) [
      | inl is ↦ rw is (append-nil moved)
      | inr isnt ↦ rw isnt (sym (list_fresh fresh (lists_in es) id))
    ]))

pub put_with : (fresh after : List Fresh) (es next : ByLeaf) (leaf : ℕ) (moved : List Moved) → after ≡ but leaf fresh → KeepsAt (lists_in es) (lists_in next) leaf moved → KeepsAt (with_fresh fresh (lists_in es)) (with_fresh after (lists_in next)) leaf moved
put_with fresh after es next leaf moved is puts id = ap (λ (l : List Fresh). list_of (with_fresh l (lists_in next)) id) is ∙ put_kept fresh es next leaf moved puts id

-- each leaf has more
pub more_kept : (before after : List Fresh) (lists : Lists) (more : ℕ → List Moved) → ((id : ℕ) → fresh_of after id ≡ fresh_of before id ++ more id) → KeepsMore (with_fresh before lists) (with_fresh after lists) more
more_kept before after lists more adds id =
    list_fresh after lists id
    ∙ (ap (λ (l : List Moved). list_of lists id ++ l) (adds id)
    ∙ (sym (append_assoc (list_of lists id) (fresh_of before id) (more id)) ∙ ap (λ (l : List Moved). l ++ more id) (sym (list_fresh before lists id))))

-- one more of a leaf
one_alone : (leaf : ℕ) (one : Moved) (id : ℕ) → fresh_of (record { leaf = leaf; one = one } ∷ []) id ≡ alone_in leaf one id
one_alone leaf one id = elim (cases_eq id leaf) [
  | inl same ↦
      let here : (leaf == id) ≡ true = eq-eqb leaf id (sym same) in
      let there : (id == leaf) ≡ true = eq-eqb id leaf same in rw (here, there) refl
  | inr other ↦
      let here : (leaf == id) ≡ false = ne_eqb leaf id (λ e. other (sym e)) in
      let there : (id == leaf) ≡ false = ne_eqb id leaf other in rw (here, there) refl
]

pub one_behind : (before after : List Fresh) (lists : Lists) (leaf : ℕ) (one : Moved) → after ≡ before ++ record { leaf = leaf; one = one } ∷ [] → KeepsMore (with_fresh before lists) (with_fresh after lists) (alone_in leaf one)
one_behind before after lists leaf one is =
    let f : Fresh = record { leaf = leaf; one = one } in
    more_kept before after lists (alone_in leaf one)
    (λ id. ap (λ (l : List Fresh). fresh_of l id) is ∙ (fresh-append before (f ∷ []) id ∙ ap (λ (l : List Moved). fresh_of before id ++ l) (one_alone leaf one id)))

-- where none is without a place
pub one_listed : (fresh : List Fresh) (lists next : Lists) (leaf : ℕ) (one : Moved) → fresh ≡ [] → KeepsMore lists next (alone_in leaf one) → KeepsMore (with_fresh fresh lists) (with_fresh fresh next) (alone_in leaf one)
one_listed fresh lists next leaf one none keeps = subst (λ (f : List Fresh). KeepsMore (with_fresh f lists) (with_fresh f next) (alone_in leaf one)) (sym none) keeps

-- one list of all that a leaf has
pub same_kept : (lists next : Lists) (leaf : ℕ) (moved : List Moved) → moved ≡ list_of lists leaf → KeepsAt lists next leaf moved → (id : ℕ) → list_of next id ≡ list_of lists id
same_kept lists next leaf moved is keeps id =
    keeps id ∙ elim (cases_eq id leaf) [
      | inl same ↦ (let at : (id == leaf) ≡ true = eq-eqb id leaf same in rw at (is ∙ ap (list_of lists) (sym same)))
      | inr other ↦ (let at : (id == leaf) ≡ false = ne_eqb id leaf other in rw at refl)
    ]

-- ---- those that lie in a leaf

lies_some : (found : Option Leaf) (leaf id : ℕ) → Some leaf ≡ option_map (λ (l : Leaf). l.id) found → of_some false (λ (l : Leaf). l.id == id) found ≡ (leaf == id)
lies_some None leaf id is = absurd cc
lies_some (Some l) leaf id is = ap (λ (n : ℕ). n == id) (sym (same_Some leaf l.id is))

lies_none : (found : Option Leaf) (id : ℕ) → None ≡ option_map (λ (l : Leaf). l.id) found → of_some false (λ (l : Leaf). l.id == id) found ≡ false
lies_none None id is = refl
lies_none (Some l) id is = absurd cc

pub one_lies : (leaves : List Leaf) (table leaf : ℕ) (one : Moved) (id : ℕ) → Some leaf ≡ option_map (λ (l : Leaf). l.id) (leaf_under table one.key leaves) → fresh_of (record { leaf = leaf; one = one } ∷ []) id ≡ lying_in leaves table (one ∷ []) id
one_lies leaves table leaf one id is =
    let at : lies_in leaves table id one.key ≡ (leaf == id) = lies_some (leaf_under table one.key leaves) leaf id is in
    elim (cases_Bool (leaf == id)) [
      | inl own ↦ (let here : lies_in leaves table id one.key ≡ true = at ∙ own in rw (own, here) refl)
      | inr away ↦ (let here : lies_in leaves table id one.key ≡ false = at ∙ away in rw (away, here) refl)
    ]

pub none_lies : (leaves : List Leaf) (table : ℕ) (one : Moved) (id : ℕ) → None ≡ option_map (λ (l : Leaf). l.id) (leaf_under table one.key leaves) → lying_in leaves table (one ∷ []) id ≡ []
none_lies leaves table one id is = let here : lies_in leaves table id one.key ≡ false = lies_none (leaf_under table one.key leaves) id is in rw here refl

pub lying-append : (leaves : List Leaf) (table : ℕ) (a b : List Moved) (id : ℕ) → lying_in leaves table (a ++ b) id ≡ lying_in leaves table a id ++ lying_in leaves table b id
lying-append leaves table a b id = filter-append (λ (m : Moved). lies_in leaves table id m.key) a b

-- ---- each version fits still

all_join : {A : Type 0} (P : A → Type 0) (xs ys : List A) → AllByRecursion P xs → AllByRecursion P ys → AllByRecursion P (xs ++ ys)
all_join P [] ys all more = more
all_join P (x ∷ xs) ys all more = (all.0, all_join P xs ys all.1 more)

all_filtered : {A : Type 0} (P : A → Type 0) (test : A → Bool) (xs : List A) → AllByRecursion P xs → AllByRecursion P (filter test xs)
all_filtered P test [] all = tt
all_filtered P test (x ∷ xs) all = elim (cases_Bool (test x)) [
  | inl is ↦ rw is (all.0, all_filtered P test xs all.1)
  | inr isnt ↦ rw isnt (all_filtered P test xs all.1)
]

pub fit_more : (before lists : Lists) (leaves : List Leaf) (table : ℕ) (moved : List Moved) → AllListsFit before → AllFit moved → KeepsMore before lists (lying_in leaves table moved) → AllListsFit lists
fit_more before lists leaves table moved fit own keeps id =
    let Fits : Moved → Type 0 = λ m. RowFits [] key_most (m.key, cell_version m.version) in
    subst AllFit (sym (keeps id)) (all_join Fits (list_of before id) (lying_in leaves table moved id) (fit id) (all_filtered Fits (λ (m : Moved). lies_in leaves table id m.key) moved own))

pub fit_one : (before lists : Lists) (leaf : ℕ) (one : Moved) → AllListsFit before → AllFit (one ∷ []) → KeepsMore before lists (alone_in leaf one) → AllListsFit lists
fit_one before lists leaf one fit own keeps id =
    let Fits : Moved → Type 0 = λ m. RowFits [] key_most (m.key, cell_version m.version) in
    subst AllFit (sym (keeps id)) (all_join Fits (list_of before id) (alone_in leaf one id) (fit id) (elim (cases_Bool (id == leaf)) [ inl is ↦ rw is own | inr isnt ↦ rw isnt tt ]))
