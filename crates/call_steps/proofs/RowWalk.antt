-- A search for a row, from the nearest key to the next.
use Rattle.std.proofs.Common.{◌≡◌, ◌<◌, ◌∙◌, ℕ, true, false, List, [], ◌∷◌, Option, Some, None, refl, sym, ap, subst, inl, inr}
use Rattle.std.proofs.lemmas.Bool.{both_ways, cases_Bool}
use Rattle.item.specs.declared.Change.{Change}
use Rattle.stamp.specs.declared.Version.{Version}
use Rattle.stamp.specs.declared.View.{View}
use Rattle.kv_model.specs.Rows.{Way, is_past, comes_after}
use Rattle.reconcile.specs.Shows.{shown_at}
use Rattle.update_chain.specs.declared.update.Update.{Update}
use Rattle.update_chain.specs.Updates.{Gives, IsOlder}
use Rattle.leaf_chains.specs.Slots.{chain_at}
use Rattle.leaf_frame.specs.declared.near.HeldRow.{HeldRow}
use Rattle.leaf_frame.specs.Leaf.{HeldLeaf}
use Rattle.leaf_frame.specs.Looks.{read_at, read_held, reply_in}
use Rattle.leaf_frame.specs.Next.{IsNextHeld, IsPassed, NoneHeld, held_of}
use Rattle.leaf_frame.specs.Walks.{Walked, onward, walk_on}
use Rattle.leaf_frame.proofs.Keys.{further, sides}
use Rattle.leaf_frame.proofs.Walking.{ahead, fewer_behind}
use Rattle.call_steps.proofs.HeldKeys.{held_known}
use Rattle.call_steps.specs.declared.rows.RowFound.{RowFound}
use Rattle.call_steps.specs.declared.rows.RowFound.TheVariants as row
use Rattle.call_steps.specs.HeldRows.{IsQuiet, IsRowOf}
use Rattle.call_steps.specs.Looks.{GoesBehind, IsSilent, SilentBefore, NoRow, RowFoundBy}

-- where the search has come: the keys past where it began and not past here are silent
pub record Stands (view : View) (way : Way) (from : Option (List ℕ)) (leaf : HeldLeaf) (here : Option (List ℕ)) : Type 0 where
  pub onward : (k : List ℕ) → is_past way here k ≡ true → is_past way from k ≡ true
  pub silent : (k : List ℕ) → is_past way from k ≡ true → is_past way here k ≡ false → IsSilent view k leaf

-- a key of which nothing is held reads as older
nothing_older : (view : View) (chain : List Update) (shown : Option (Version Change)) → held_of chain shown ≡ [] → read_held view chain shown ≡ IsOlder
nothing_older view [] None none = refl
nothing_older view [] (Some v) none = absurd cc
nothing_older view (u ∷ older) shown none = absurd cc

passed_silent : (view : View) (k : List ℕ) (leaf : HeldLeaf) → IsPassed view k leaf → IsSilent view k leaf
passed_silent view k leaf (inl none) = inr (nothing_older view (chain_at k leaf.chains) (shown_at k leaf.page) none)
passed_silent view k leaf (inr removed) = inl removed

-- what lies before the next key is silent
before_next : (view : View) (way : Way) (from here : Option (List ℕ)) (leaf : HeldLeaf) (held : HeldRow) → Stands view way from leaf here → IsNextHeld way here view leaf held → SilentBefore view way from held.key.now leaf
before_next view way from here leaf held stands next = λ k past before. elim (cases_Bool (is_past way here k)) [
  | inl on ↦ passed_silent view k leaf (next.before k on before)
  | inr isnt ↦ stands.silent k past isnt
]

pub goes_on : (view : View) (way : Way) (from here : Option (List ℕ)) (leaf : HeldLeaf) (held : HeldRow) → Stands view way from leaf here → IsNextHeld way here view leaf held → IsQuiet (reply_in held.read) → Stands view way from leaf (Some held.key.now)
goes_on view way from here leaf held stands next quiet = record {
  onward = λ k past. stands.onward k (further way here held.key.now k next.past past);
  silent = λ k past isnt. elim (sides way k held.key.now) [
    | inl before ↦ before_next view way from here leaf held stands next k past before
    | inr (inl same) ↦ subst (λ (x : List ℕ). IsSilent view x leaf) (sym same) (subst IsQuiet next.reads quiet)
    | inr (inr after) ↦ absurd (both_ways (comes_after way held.key.now k) isnt after)
  ];
}

pub finds : (view : View) (way : Way) (from here : Option (List ℕ)) (leaf : HeldLeaf) (held : HeldRow) (found : RowFound) → Stands view way from leaf here → IsNextHeld way here view leaf held → IsRowOf held found → RowFoundBy view way from leaf found
finds view way from here leaf held (row.Row k v) stands next is = record {
  past = subst (λ (x : List ℕ). is_past way from x ≡ true) (sym is.0) (stands.onward held.key.now next.past);
  reads = subst (λ (x : List ℕ). read_at view x leaf ≡ Gives v.now) (sym is.0) (sym next.reads ∙ is.1);
  before = subst (λ (x : List ℕ). SilentBefore view way from x leaf) (sym is.0) (before_next view way from here leaf held stands next);
}
finds view way from here leaf held (row.Conflict id) stands next is = (
  held.key.now,
  record {
    past = stands.onward held.key.now next.past;
    reads = sym next.reads ∙ is;
    before = before_next view way from here leaf held stands next;
  },
)
finds view way from here leaf held row.End stands next is = absurd is

pub ends : (view : View) (way : Way) (from here : Option (List ℕ)) (leaf : HeldLeaf) → Stands view way from leaf here → NoneHeld way here view leaf → NoRow view way from leaf
ends view way from here leaf stands none = λ k past. elim (cases_Bool (is_past way here k)) [
  | inl on ↦ passed_silent view k leaf (none k on)
  | inr isnt ↦ stands.silent k past isnt
]

-- ---- by a walk

pub record Walks (view : View) (w here : Walked) : Type 0 where
  pub way : here.way ≡ w.way
  pub leaf : here.leaf ≡ w.leaf
  pub stands : Stands view w.way w.from w.leaf here.from

next_there : (view : View) (w here : Walked) (held : HeldRow) → Walks view w here → IsNextHeld here.way here.from view here.leaf held → IsNextHeld w.way here.from view w.leaf held
next_there view w here held walks next = subst (λ (y : Way). IsNextHeld y here.from view w.leaf held) walks.way (subst (λ (l : HeldLeaf). IsNextHeld here.way here.from view l held) walks.leaf next)

pub walk_goes_on : (view : View) (w here new : Walked) (held : HeldRow) → Walks view w here → IsNextHeld here.way here.from view here.leaf held → new.from ≡ Some held.key.now → new.way ≡ here.way → new.leaf ≡ here.leaf → IsQuiet (reply_in held.read)
    → Walks view w new
walk_goes_on view w here new held walks next from way leaf quiet = record {
  way = way ∙ walks.way;
  leaf = leaf ∙ walks.leaf;
  stands = subst (λ (o : Option (List ℕ)). Stands view w.way w.from w.leaf o) (sym from) (goes_on view w.way w.from here.from w.leaf held walks.stands (next_there view w here held walks next) quiet);
}

is_onward : (here new : Walked) (key : List ℕ) → new.from ≡ Some key → new.way ≡ here.way → new.leaf ≡ here.leaf → new ≡ onward key here
is_onward here new key from way leaf = ap (λ (o : Option (List ℕ)). walk_on new.way o new.leaf) from ∙ (ap (λ (y : Way). walk_on y (Some key) new.leaf) way ∙ ap (λ (l : HeldLeaf). walk_on here.way (Some key) l) leaf)

pub fewer_ahead : (view : View) (here new : Walked) (held : HeldRow) → IsNextHeld here.way here.from view here.leaf held → new.from ≡ Some held.key.now → new.way ≡ here.way → new.leaf ≡ here.leaf → ahead new < ahead here
fewer_ahead view here new held next from way leaf =
    let is : new ≡ onward held.key.now here = is_onward here new held.key.now from way leaf in
    subst (λ (y : Walked). ahead y < ahead here) (sym is) (fewer_behind here held.key.now next.past (held_known held.key.now here.leaf next.held))

pub walk_finds : (view : View) (w here : Walked) (held : HeldRow) (found : RowFound) → Walks view w here → IsNextHeld here.way here.from view here.leaf held → IsRowOf held found → RowFoundBy view w.way w.from w.leaf found
walk_finds view w here held found walks next is = finds view w.way w.from here.from w.leaf held found walks.stands (next_there view w here held walks next) is

-- where it is left
pub walk_stays : (view : View) (w here new : Walked) (held : HeldRow) (found : RowFound) → Walks view w here → IsNextHeld here.way here.from view here.leaf held → new.from ≡ Some held.key.now → new.way ≡ here.way → new.leaf ≡ here.leaf → IsRowOf held found
    → GoesBehind view found w new
unfolding finds
walk_stays view w here new held (row.Row k v) walks next from way leaf is = is_onward w new k.now (from ∙ ap Some (sym is.0)) (way ∙ walks.way) (leaf ∙ walks.leaf)
walk_stays view w here new held (row.Conflict id) walks next from way leaf is = (
  held.key.now,
  (finds view w.way w.from here.from w.leaf held (row.Conflict id) walks.stands (next_there view w here held walks next) is).1,
  is_onward w new held.key.now from (way ∙ walks.way) (leaf ∙ walks.leaf),
)
walk_stays view w here new held row.End walks next from way leaf is = absurd is

none_there : (view : View) (w here : Walked) → Walks view w here → NoneHeld here.way here.from view here.leaf → NoneHeld w.way here.from view w.leaf
none_there view w here walks none = subst (λ (y : Way). NoneHeld y here.from view w.leaf) walks.way (subst (λ (l : HeldLeaf). NoneHeld here.way here.from view l) walks.leaf none)

pub walk_ends : (view : View) (w here : Walked) → Walks view w here → NoneHeld here.way here.from view here.leaf → NoRow view w.way w.from w.leaf
walk_ends view w here walks none = ends view w.way w.from here.from w.leaf walks.stands (none_there view w here walks none)

pub walk_is_through : (view : View) (w here new : Walked) → Walks view w here → NoneHeld new.way new.from view new.leaf → new.way ≡ here.way → new.leaf ≡ here.leaf → GoesBehind view row.End w new
walk_is_through view w here new walks none way leaf =
    let to_way = way ∙ walks.way in
    let to_leaf = leaf ∙ walks.leaf in
    let left : NoneHeld w.way new.from view w.leaf = subst (λ (y : Way). NoneHeld y new.from view w.leaf) to_way (subst (λ (l : HeldLeaf). NoneHeld new.way new.from view l) to_leaf none) in
    (to_way, to_leaf, λ k past. passed_silent view k w.leaf (left k past))
