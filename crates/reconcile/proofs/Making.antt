-- What is made, list by list.
use Rattle.std.proofs.Common.{◌≡◌, ◌+◌, ◌∙◌, ℕ, zero, suc, Bool, true, false, List, [], ◌∷◌, ◌++◌, map, drop, Option, Some, None, refl, ap, sym, subst, inl, inr, arith}
use Rattle.std.specs.Prelude.{filter, slice_get}
use Rattle.std.specs.Option.{option_to_list}
use Rattle.std.specs.List.{AllByRecursion, flat_map}
use Rattle.std.specs.Ordering.{nat_cmp, match_ordering}
use Rattle.std.specs.Cmp.Lexicographic.{slice_cmp}
use Rattle.std.specs.declared.cmp.Ordering.{Ordering}
use Rattle.std.specs.declared.cmp.Ordering.TheVariants.{Less, Equal, Greater}
use Rattle.std.proofs.lemmas.Bool.{cases_Bool}
use Rattle.std.proofs.lemmas.List.{append-nil, append_assoc, map-append}
use Rattle.std.proofs.lemmas.List.Concat.{flat_map-append}
use Rattle.kv_model.specs.History.{down_to}
use Rattle.row_page.specs.Rows.{Row, RowFits, key_most}
use Rattle.leaf_rows.specs.Rows.{AreFit}
use Rattle.leaf_rows.proofs.Places.{front_fit}
use Rattle.update_chain.specs.declared.update.Update.{Update}
use Rattle.leaf_chains.specs.declared.slot.KeyChain.{KeyChain}
use Rattle.leaf_chains.specs.Nearest.{IsWayUp}
use Rattle.reconcile.specs.Capture.{ChainFits, ChainsFit}
use Rattle.reconcile.specs.Gathered.{slots_at}
use Rattle.reconcile.proofs.Gathering.{chain_member, climbs, way_chain}
use Rattle.reconcile.specs.declared.image.Moved.{Moved}
use Rattle.reconcile.specs.declared.live.Rule.{Rule}
use Rattle.reconcile.specs.declared.made.Making.{Making}
use Rattle.reconcile.specs.Held.{lives, passes}
use Rattle.reconcile.specs.Making.{HasMade, HaveRows, MadeTo}
use Rattle.reconcile.specs.Merged.{all_gone, all_kept, chain_rows, gone, kept, merged, moved_row}
use Rattle.reconcile.proofs.Holding.{drop_at, drop_past}
use Rattle.reconcile.proofs.Merging.{Each, merged_each, merged_tidy, rises}
use Rattle.reconcile.proofs.Reconciling.{kept_fit}
use Rattle.reconcile.proofs.Sifting.{find_filter, head_of}

-- ---- one list more

flat_next : (f : List Row → List Row) (lists : List (List Row)) (l : List Row) → flat_map f (lists ++ l ∷ []) ≡ flat_map f lists ++ f l
flat_next f lists l = flat_map-append f lists (l ∷ []) ∙ ap (λ (k : List Row). flat_map f lists ++ k) (append-nil (f l))

pub to_next : (rule : Rule) (m n : Making) (l : List Row) (rest all : List (List Row)) → ((rows : List Row) → HaveRows m.images rows → AreFit rows → HaveRows n.images (rows ++ kept rule.live l))
    → n.moved.items ≡ m.moved.items ++ map moved_row (gone rule.live rule.pin rule.floor l) → AreFit (all_kept rule.live all) → MadeTo rule m (l ∷ rest) all → MadeTo rule n rest all
to_next rule m n l rest all put moves fit to = record {
  lists = to.lists ++ l ∷ [];
  made = record {
    rows = subst (HaveRows n.images) (sym (flat_next (kept rule.live) to.lists l)) (put (all_kept rule.live to.lists) to.made.rows front);
    moves =
        moves
        ∙ (ap (λ (k : List Moved). k ++ map moved_row (gone rule.live rule.pin rule.floor l)) to.made.moves
        ∙ (sym (map-append moved_row (all_gone rule.live rule.pin rule.floor to.lists) (gone rule.live rule.pin rule.floor l))
        ∙ ap (λ (k : List Row). map moved_row k) (sym (flat_next (gone rule.live rule.pin rule.floor) to.lists l))));
  };
  whole = append_assoc to.lists (l ∷ []) rest ∙ to.whole;
} where
  front : AreFit (all_kept rule.live to.lists)
  front = front_fit (all_kept rule.live to.lists) (all_kept rule.live (l ∷ rest))
      (subst AreFit (ap (λ (k : List (List Row)). all_kept rule.live k) (sym to.whole) ∙ flat_map-append (kept rule.live) to.lists (l ∷ rest)) fit)

-- what is made of a list, by what is live of it
kept_is : (rule : Rule) (l alive : List Row) → filter (λ (r : Row). lives rule.live r.1.window) l ≡ alive → kept rule.live l ≡ option_to_list (head_of alive)
kept_is rule l alive is = ap (λ (o : Option Row). option_to_list o) (find_filter (λ (r : Row). lives rule.live r.1.window) l ∙ ap (λ (k : List Row). head_of k) is)

gone_is : (rule : Rule) (l alive : List Row) → filter (λ (r : Row). lives rule.live r.1.window) l ≡ alive → gone rule.live rule.pin rule.floor l ≡ drop 1 (down_to (λ (r : Row). passes rule.pin rule.floor r.1.window) alive)
gone_is rule l alive is = ap (λ (k : List Row). drop 1 (down_to (λ (r : Row). passes rule.pin rule.floor r.1.window) k)) is

-- nothing is live
pub none_lives : (rule : Rule) (m : Making) (l : List Row) (rest all : List (List Row)) → filter (λ (r : Row). lives rule.live r.1.window) l ≡ [] → AreFit (all_kept rule.live all) → MadeTo rule m (l ∷ rest) all → MadeTo rule m rest all
none_lives rule m l rest all is fit to = to_next rule m m l rest all
    (λ rows has are. subst (HaveRows m.images) (sym (ap (λ (k : List Row). rows ++ k) (kept_is rule l [] is) ∙ append-nil rows)) has)
    (sym (ap (λ (k : List Row). m.moved.items ++ map moved_row k) (gone_is rule l [] is) ∙ append-nil m.moved.items)) fit to

-- the newest that is live is past
pub past_lives : (rule : Rule) (m n : Making) (l : List Row) (r : Row) (alive : List Row) (rest all : List (List Row)) → filter (λ (q : Row). lives rule.live q.1.window) l ≡ r ∷ alive → passes rule.pin rule.floor r.1.window ≡ true
    → ((rows : List Row) → HaveRows m.images rows → AreFit rows → HaveRows n.images (rows ++ r ∷ [])) → n.moved.items ≡ m.moved.items → AreFit (all_kept rule.live all) → MadeTo rule m (l ∷ rest) all → MadeTo rule n rest all
past_lives rule m n l r alive rest all is past put same fit to = to_next rule m n l rest all
    (λ rows has are. subst (HaveRows n.images) (ap (λ (k : List Row). rows ++ k) (sym (kept_is rule l (r ∷ alive) is))) (put rows has are))
    (same ∙ sym (ap (λ (k : List Row). m.moved.items ++ map moved_row k) (gone_is rule l (r ∷ alive) is ∙ nothing) ∙ append-nil m.moved.items)) fit to where
      nothing : drop 1 (down_to (λ (q : Row). passes rule.pin rule.floor q.1.window) (r ∷ alive)) ≡ []
      nothing = rw past refl

-- it is not, and what is live behind it moves
pub more_lives : (rule : Rule) (m n : Making) (l : List Row) (r : Row) (alive : List Row) (rest all : List (List Row)) → filter (λ (q : Row). lives rule.live q.1.window) l ≡ r ∷ alive → passes rule.pin rule.floor r.1.window ≡ false
    → ((rows : List Row) → HaveRows m.images rows → AreFit rows → HaveRows n.images (rows ++ r ∷ []))
    → n.moved.items ≡ m.moved.items ++ map moved_row (down_to (λ (q : Row). passes rule.pin rule.floor q.1.window) alive) → AreFit (all_kept rule.live all) → MadeTo rule m (l ∷ rest) all → MadeTo rule n rest all
more_lives rule m n l r alive rest all is late put moves fit to = to_next rule m n l rest all
    (λ rows has are. subst (HaveRows n.images) (ap (λ (k : List Row). rows ++ k) (sym (kept_is rule l (r ∷ alive) is))) (put rows has are))
    (moves ∙ ap (λ (k : List Row). m.moved.items ++ map moved_row k) (sym (gone_is rule l (r ∷ alive) is ∙ behind))) fit to where
      behind : drop 1 (down_to (λ (q : Row). passes rule.pin rule.floor q.1.window) (r ∷ alive)) ≡ down_to (λ (q : Row). passes rule.pin rule.floor q.1.window) alive
      behind = rw late refl

-- ---- what is live fits

pub first_fits : (p : Row → Bool) (rows : List Row) (r : Row) (alive : List Row) → filter p rows ≡ r ∷ alive → AllByRecursion (λ (q : Row). RowFits [] key_most q) rows → RowFits [] key_most r
first_fits p [] r alive is fit = absurd cc
first_fits p (x ∷ rows) r alive is fit = elim (cases_Bool (p x)) [
  | inl t ↦ let found : x ∷ filter p rows ≡ r ∷ alive = rw t at is in let same : x ≡ r = cc in subst (λ (q : Row). RowFits [] key_most q) same fit.0
  | inr f ↦ first_fits p rows r alive (rw f at is) fit.1
]

-- ---- one step along the page

module _ (c : KeyChain) (chains : List KeyChain) (page : List Row) (i : ℕ) where
  one_more : drop (suc i) page ≡ drop (i + 1) page
  one_more = let same : suc i ≡ i + 1 = omega arith in ap (λ (n : ℕ). drop n page) same

  ordered : (r : Row) (o : Ordering) → slice_get page i ≡ Some r → slice_cmp nat_cmp r.0 c.key ≡ o
      → merged (c ∷ chains) (drop i page)
      ≡ match_ordering o ((r ∷ []) ∷ merged (c ∷ chains) (drop (i + 1) page)) ((chain_rows c.key c.chain ++ r ∷ []) ∷ merged chains (drop (i + 1) page)) (chain_rows c.key c.chain ∷ merged chains (drop i page))
  ordered r o is order =
      let whole = drop_at page i r is ∙ ap (λ (k : List Row). r ∷ k) one_more in
      ap (λ (k : List Row). merged (c ∷ chains) k) whole
      ∙ (ap (λ (x : Ordering). match_ordering x ((r ∷ []) ∷ merged (c ∷ chains) (drop (i + 1) page)) ((chain_rows c.key c.chain ++ r ∷ []) ∷ merged chains (drop (i + 1) page)) (chain_rows c.key c.chain ∷ merged chains (r ∷ drop (i + 1) page))) order
      ∙ ap (λ (k : List Row). match_ordering o ((r ∷ []) ∷ merged (c ∷ chains) (drop (i + 1) page)) ((chain_rows c.key c.chain ++ r ∷ []) ∷ merged chains (drop (i + 1) page)) (chain_rows c.key c.chain ∷ merged chains k)) (sym whole))

  -- a row below the key
  pub step_less : (r : Row) → slice_get page i ≡ Some r → slice_cmp nat_cmp r.0 c.key ≡ Less → merged (c ∷ chains) (drop i page) ≡ (r ∷ []) ∷ merged (c ∷ chains) (drop (i + 1) page)
  step_less r is order = ordered r Less is order

  pub step_equal : (r : Row) → slice_get page i ≡ Some r → slice_cmp nat_cmp r.0 c.key ≡ Equal → merged (c ∷ chains) (drop i page) ≡ (chain_rows c.key c.chain ++ r ∷ []) ∷ merged chains (drop (i + 1) page)
  step_equal r is order = ordered r Equal is order

  pub step_greater : (r : Row) → slice_get page i ≡ Some r → slice_cmp nat_cmp r.0 c.key ≡ Greater → merged (c ∷ chains) (drop i page) ≡ chain_rows c.key c.chain ∷ merged chains (drop i page)
  step_greater r is order = ordered r Greater is order

  pub step_end : slice_get page i ≡ None → merged (c ∷ chains) (drop i page) ≡ chain_rows c.key c.chain ∷ merged chains (drop i page)
  step_end is = ap (λ (k : List Row). merged (c ∷ chains) k) (drop_past page i is) ∙ ap (λ (k : List Row). chain_rows c.key c.chain ∷ merged chains k) (sym (drop_past page i is))

-- the rows behind all keys
pub step_rest : (page : List Row) (i : ℕ) (r : Row) → slice_get page i ≡ Some r → merged [] (drop i page) ≡ (r ∷ []) ∷ merged [] (drop (i + 1) page)
step_rest page i r is = let same : suc i ≡ i + 1 = omega arith in ap (λ (k : List Row). merged [] k) (drop_at page i r is ∙ ap (λ (n : ℕ). r ∷ drop n page) same)

pub step_none : (page : List Row) (i : ℕ) → slice_get page i ≡ None → merged [] (drop i page) ≡ []
step_none page i is = ap (λ (k : List Row). merged [] k) (drop_past page i is)

-- the first slot of a way
pub slots_first : (slots : List KeyChain) (way rest : List ℕ) (i : ℕ) (c : KeyChain) → way ≡ i ∷ rest → slice_get slots i ≡ Some c → slots_at slots way ≡ c ∷ slots_at slots rest
slots_first slots way rest i c whole is = ap (λ (l : List ℕ). slots_at slots l) whole ∙ ap (λ (o : Option KeyChain). option_to_list o ++ slots_at slots rest) is

pub row_fits : (page : List Row) (i : ℕ) (r : Row) → slice_get page i ≡ Some r → AllByRecursion (λ (q : Row). RowFits [] key_most q) page → RowFits [] key_most r
row_fits [] i r is fit = absurd cc
row_fits (x ∷ page) zero r is fit = let same : x ≡ r = cc in subst (λ (q : Row). RowFits [] key_most q) same fit.0
row_fits (x ∷ page) (suc i) r is fit = row_fits page i r is fit.1

pub chain_fits : (key : List ℕ) (chain : List Update) → ChainFits key chain → AllByRecursion (λ (q : Row). RowFits [] key_most q) (chain_rows key chain)
chain_fits key [] fit = tt
chain_fits key (u ∷ chain) fit = (fit.0, chain_fits key chain fit.1)

pub both_fit : (rows : List Row) (r : Row) → AllByRecursion (λ (q : Row). RowFits [] key_most q) rows → RowFits [] key_most r → AllByRecursion (λ (q : Row). RowFits [] key_most q) (rows ++ r ∷ [])
both_fit [] r fit one = (one, tt)
both_fit (x ∷ rows) r fit one = (fit.0, both_fit rows r fit.1 one)

-- ---- all

all_each : (P : Row → Type 0) (rows : List Row) → AllByRecursion P rows → Each P rows
all_each P [] all q there = absurd there
all_each P (r ∷ rows) all q (inl same) = subst P (sym same) all.0
all_each P (r ∷ rows) all q (inr later) = all_each P rows all.1 q later

pub all_fit : (rule : Rule) (slots : List KeyChain) (way : List ℕ) (page : List Row) → IsWayUp None slots way → ChainsFit slots → AreFit page → AreFit (all_kept rule.live (merged (slots_at slots way) page))
all_fit rule slots way page w fit are =
    let chains = slots_at slots way in
    let up = climbs slots way w.ascends in
    kept_fit rule.live (merged chains page) (merged_tidy chains page up (rises None page are.ascend))
    (merged_each (λ q. RowFits [] key_most q) chains page
    (λ c there. all_each (λ q. RowFits [] key_most q) (chain_rows c.key c.chain) (chain_fits c.key c.chain (subst (ChainFits c.key) (sym (way_chain slots way c.key w) ∙ chain_member chains c up there) (fit c.key))))
    (all_each (λ q. RowFits [] key_most q) page are.fit))

-- no list is left
pub made_all : (rule : Rule) (m : Making) (all : List (List Row)) → MadeTo rule m [] all → HasMade rule m all
made_all rule m all to = subst (HasMade rule m) (sym (append-nil to.lists) ∙ to.whole) to.made
