-- The lists of a page and of chains, key by key.
use Rattle.std.proofs.Common.{◌≡◌, ◌⊎◌, ◌∙◌, ℕ, Bool, true, false, List, [], ◌∷◌, ◌++◌, map, Option, Some, None, refl, ap, sym, subst, inl, inr}
use Rattle.std.specs.Prelude.{filter, bytes_eq}
use Rattle.std.specs.Option.{option_to_list}
use Rattle.std.specs.List.{AllByRecursion, flat_map}
use Rattle.std.specs.Ordering.{nat_cmp, is_lt, match_ordering, ordering_reverse}
use Rattle.std.specs.Cmp.Lexicographic.{slice_cmp}
use Rattle.std.specs.declared.cmp.Ordering.{Ordering}
use Rattle.std.specs.declared.cmp.Ordering.TheVariants.{Less, Equal, Greater}
use Rattle.std.proofs.lemmas.Bool.{cases_Bool}
use Rattle.std.proofs.lemmas.Cmp.{nat_list_cmp_total}
use Rattle.std.proofs.lemmas.List.{append-nil}
use Rattle.std.proofs.lemmas.Map.Lookups.{exact_bytes}
use Rattle.item.specs.declared.Change.{Change}
use Rattle.stamp.specs.declared.Version.{Version}
use Rattle.kv_model.specs.Holds.{Member, Descends}
use Rattle.row_page.specs.Changes.{version_in}
use Rattle.row_page.specs.Rows.{Ascends, Row, is_below}
use Rattle.row_page.proofs.Ascending.{above_differs, all_above, below_trans}
use Rattle.reconcile.specs.Shows.{shown_at}
use Rattle.update_chain.specs.declared.update.Update.{Update}
use Rattle.leaf_chains.specs.declared.slot.KeyChain.{KeyChain}
use Rattle.leaf_chains.specs.Slots.{chain_at}
use Rattle.leaf_chains.proofs.Changes.{same_key}
use Rattle.reconcile.specs.Cells.{cell_version}
use Rattle.reconcile.proofs.Gathering.{Climbs}
use Rattle.reconcile.proofs.Picking.{version_back}
use Rattle.reconcile.specs.Held.{held_at, versions}
use Rattle.reconcile.specs.Merged.{among, chain_rows, merged}
use Rattle.reconcile.proofs.Sifting.{head_of}

-- ---- the rows of lists

abbrev pub rows_in : List (List Row) → List Row
rows_in [] = []
rows_in (g ∷ gs) = g ++ rows_in gs

member_both : (q : Row) (xs ys : List Row) → Member q (xs ++ ys) → Member q xs ⊎ Member q ys
member_both q [] ys there = inr there
member_both q (x ∷ xs) ys (inl same) = inl (inl same)
member_both q (x ∷ xs) ys (inr later) = elim (member_both q xs ys later) [ inl a ↦ inl (inr a) | inr b ↦ inr b ]

abbrev pub Each : (Row → Type 0) → List Row → Type 0
Each P rows = (q : Row) → Member q rows → P q

pub each_both : (P : Row → Type 0) (xs ys : List Row) → Each P xs → Each P ys → Each P (xs ++ ys)
each_both P xs ys one two q there = elim (member_both q xs ys there) [ inl a ↦ one q a | inr b ↦ two q b ]

each_one : (P : Row → Type 0) (r : Row) → P r → Each P (r ∷ [])
each_one P r is q (inl same) = subst P (sym same) is
each_one P r is q (inr none) = absurd none

pub each_chain : (P : Row → Type 0) (key : List ℕ) (chain : List Update) → ((u : Update) → Member u chain → P (key, cell_version u.version)) → Each P (chain_rows key chain)
each_chain P key [] all q there = absurd there
each_chain P key (u ∷ chain) all q (inl same) = subst P (sym same) (all u (inl refl))
each_chain P key (u ∷ chain) all q (inr later) = each_chain P key chain (λ w at. all w (inr at)) q later

-- ---- what holds of each row of chains and page holds of each that is merged

singles_each : (P : Row → Type 0) (page : List Row) → Each P page → Each P (rows_in (map (λ r. r ∷ []) page))
singles_each P [] all q there = absurd there
singles_each P (r ∷ page) all q (inl same) = all q (inl same)
singles_each P (r ∷ page) all q (inr later) = singles_each P page (λ x at. all x (inr at)) q later

among_each : (P : Row → Type 0) (c : KeyChain) (further : List Row → List (List Row)) → Each P (chain_rows c.key c.chain) → ((page : List Row) → Each P page → Each P (rows_in (further page)))
    → (page : List Row) → Each P page → Each P (rows_in (among c further page))
among_each P c further here goes [] all = each_both P (chain_rows c.key c.chain) (rows_in (further [])) here (goes [] all)
among_each P c further here goes (r ∷ page) all = by (slice_cmp nat_cmp r.0 c.key) (among_each P c further here goes page (λ x at. all x (inr at))) where
  by : (o : Ordering) → Each P (rows_in (among c further page)) → Each P (rows_in (match_ordering o ((r ∷ []) ∷ among c further page) ((chain_rows c.key c.chain ++ r ∷ []) ∷ further page) (chain_rows c.key c.chain ∷ further (r ∷ page))))
  by Less rest = each_both P (r ∷ []) (rows_in (among c further page)) (each_one P r (all r (inl refl))) rest
  by Equal rest =
      each_both P (chain_rows c.key c.chain ++ r ∷ []) (rows_in (further page)) (each_both P (chain_rows c.key c.chain) (r ∷ []) here (each_one P r (all r (inl refl)))) (goes page (λ x at. all x (inr at)))
  by Greater rest = each_both P (chain_rows c.key c.chain) (rows_in (further (r ∷ page))) here (goes (r ∷ page) all)

pub merged_each : (P : Row → Type 0) (chains : List KeyChain) (page : List Row) → ((c : KeyChain) → Member c chains → Each P (chain_rows c.key c.chain)) → Each P page → Each P (rows_in (merged chains page))
merged_each P [] page each all = singles_each P page all
merged_each P (c ∷ chains) page each all = among_each P c (merged chains) (each c (inl refl)) (λ rest is. merged_each P chains rest (λ d at. each d (inr at)) is) page all

-- ---- keys that ascend from list to list

-- the first row's key is above the second's
abbrev pub RowAbove : Row → Row → Type 0
RowAbove q r = is_below r.0 q.0 ≡ true

abbrev pub Rises : List Row → Type 0
Rises rows = Descends RowAbove rows

above_each : (k : List ℕ) (rows : List Row) → AllByRecursion (λ (r : Row). is_below k r.0 ≡ true) rows → Each (λ q. is_below k q.0 ≡ true) rows
above_each k [] all q there = absurd there
above_each k (r ∷ rows) all q (inl same) = subst (λ (x : Row). is_below k x.0 ≡ true) (sym same) all.0
above_each k (r ∷ rows) all q (inr later) = above_each k rows all.1 q later

pub rises : (before : Option (List ℕ)) (rows : List Row) → Ascends before rows → Rises rows
rises before [] up = tt
rises before (r ∷ rows) up = (above_each r.0 rows (all_above r.0 rows up.1), rises (Some r.0) rows up.1)

-- the rows of each list have one key, and those of the lists behind it have greater ones
pub record IsNext (Others : Type 0) (g rest : List Row) : Type 0 where
  pub key : List ℕ
  pub one : Each (λ q. q.0 ≡ key) g
  pub over : Each (λ q. is_below key q.0 ≡ true) rest
  pub others : Others

abbrev pub Tidy : List (List Row) → Type 0
Tidy [] = Unit {0}
Tidy (g ∷ gs) = IsNext (Tidy gs) g (rows_in gs)

pub below_order : (x y : List ℕ) → slice_cmp nat_cmp x y ≡ Less → is_below x y ≡ true
below_order x y e = ap is_lt e

pub above_order : (x y : List ℕ) → slice_cmp nat_cmp x y ≡ Greater → is_below y x ≡ true
above_order x y e = ap is_lt (nat_list_cmp_total.antisymm y x ∙ ap ordering_reverse e)

-- all rows of chains above a key are above it
chains_over : (k : List ℕ) (chains : List KeyChain) → ((c : KeyChain) → Member c chains → is_below k c.key ≡ true) → (c : KeyChain) → Member c chains → Each (λ q. is_below k q.0 ≡ true) (chain_rows c.key c.chain)
chains_over k chains all c there = each_chain (λ q. is_below k q.0 ≡ true) c.key c.chain (λ u at. all c there)

singles_tidy : (page : List Row) → Rises page → Tidy (map (λ r. r ∷ []) page)
singles_tidy [] up = tt
singles_tidy (r ∷ page) up = record {
  key = r.0;
  one = each_one (λ q. q.0 ≡ r.0) r refl;
  over = singles_each (λ q. is_below r.0 q.0 ≡ true) page up.0;
  others = singles_tidy page up.1;
}

among_tidy : (c : KeyChain) (chains : List KeyChain) → Climbs (c ∷ chains) → ((page : List Row) → Rises page → Tidy (merged chains page)) → (page : List Row) → Rises page → Tidy (among c (merged chains) page)
among_tidy c chains climbs goes [] up = record {
  key = c.key;
  one = each_chain (λ q. q.0 ≡ c.key) c.key c.chain (λ u at. refl);
  over = merged_each (λ q. is_below c.key q.0 ≡ true) chains [] (chains_over c.key chains climbs.0) (λ q none. absurd none);
  others = goes [] up;
}
among_tidy c chains climbs goes (r ∷ page) up = by (slice_cmp nat_cmp r.0 c.key) refl (among_tidy c chains climbs goes page up.1) where
  -- the row is below each chain's key
  below_all : is_below r.0 c.key ≡ true → (d : KeyChain) → Member d (c ∷ chains) → is_below r.0 d.key ≡ true
  below_all less d (inl same) = subst (λ (x : KeyChain). is_below r.0 x.key ≡ true) (sym same) less
  below_all less d (inr later) = below_trans r.0 c.key d.key less (climbs.0 d later)

  page_over : is_below c.key r.0 ≡ true → Each (λ q. is_below c.key q.0 ≡ true) (r ∷ page)
  page_over more q (inl same) = subst (λ (x : Row). is_below c.key x.0 ≡ true) (sym same) more
  page_over more q (inr later) = below_trans c.key r.0 q.0 more (up.0 q later)

  by : (o : Ordering) → slice_cmp nat_cmp r.0 c.key ≡ o → Tidy (among c (merged chains) page)
      → Tidy (match_ordering o ((r ∷ []) ∷ among c (merged chains) page) ((chain_rows c.key c.chain ++ r ∷ []) ∷ merged chains page) (chain_rows c.key c.chain ∷ merged chains (r ∷ page)))
  by Less e rest = record {
    key = r.0;
    one = each_one (λ q. q.0 ≡ r.0) r refl;
    over = merged_each (λ q. is_below r.0 q.0 ≡ true) (c ∷ chains) page (chains_over r.0 (c ∷ chains) (below_all (below_order r.0 c.key e))) up.0;
    others = rest;
  }
  by Equal e rest = record {
    key = c.key;
    one = each_both (λ q. q.0 ≡ c.key) (chain_rows c.key c.chain) (r ∷ []) (each_chain (λ q. q.0 ≡ c.key) c.key c.chain (λ u at. refl)) (each_one (λ q. q.0 ≡ c.key) r (exact_bytes r.0 c.key e));
    over = merged_each (λ q. is_below c.key q.0 ≡ true) chains page (chains_over c.key chains climbs.0) (subst (λ (k : List ℕ). Each (λ q. is_below k q.0 ≡ true) page) (exact_bytes r.0 c.key e) up.0);
    others = goes page up.1;
  }
  by Greater e rest = record {
    key = c.key;
    one = each_chain (λ q. q.0 ≡ c.key) c.key c.chain (λ u at. refl);
    over = merged_each (λ q. is_below c.key q.0 ≡ true) chains (r ∷ page) (chains_over c.key chains climbs.0) (page_over (above_order r.0 c.key e));
    others = goes (r ∷ page) up;
  }

pub merged_tidy : (chains : List KeyChain) (page : List Row) → Climbs chains → Rises page → Tidy (merged chains page)
merged_tidy [] page climbs up = singles_tidy page up
merged_tidy (c ∷ chains) page climbs up = among_tidy c chains climbs (λ rest rise. merged_tidy chains rest climbs.1 rise) page up

-- ---- of one key

abbrev pub at : List ℕ → Row → Bool
at key r = bytes_eq r.0 key

pub filter_all : (p : Row → Bool) (l : List Row) → Each (λ q. p q ≡ true) l → filter p l ≡ l
filter_all p [] all = refl
filter_all p (r ∷ l) all = let is = all r (inl refl) in rw is (ap (λ (k : List Row). r ∷ k) (filter_all p l (λ q there. all q (inr there))))

pub filter_none : (p : Row → Bool) (l : List Row) → Each (λ q. p q ≡ false) l → filter p l ≡ []
filter_none p [] all = refl
filter_none p (r ∷ l) all = let is = all r (inl refl) in rw is (filter_none p l (λ q there. all q (inr there)))

filter_both : (p : Row → Bool) (xs ys : List Row) → filter p (xs ++ ys) ≡ filter p xs ++ filter p ys
filter_both p [] ys = refl
filter_both p (x ∷ xs) ys = elim (cases_Bool (p x)) [ inl t ↦ rw t (ap (λ (l : List Row). x ∷ l) (filter_both p xs ys)) | inr f ↦ rw f (filter_both p xs ys) ]

key_of_each : (key k : List ℕ) (l : List Row) → bytes_eq k key ≡ true → Each (λ q. q.0 ≡ k) l → Each (λ q. at key q ≡ true) l
key_of_each key k l same one q there = subst (λ (x : List ℕ). bytes_eq x key ≡ true) (sym (one q there)) same

key_of_none : (key k : List ℕ) (l : List Row) → bytes_eq k key ≡ false → Each (λ q. q.0 ≡ k) l → Each (λ q. at key q ≡ false) l
key_of_none key k l other one q there = subst (λ (x : List ℕ). bytes_eq x key ≡ false) (sym (one q there)) other

over_none : (key k : List ℕ) (l : List Row) → bytes_eq k key ≡ true → Each (λ q. is_below k q.0 ≡ true) l → Each (λ q. at key q ≡ false) l
over_none key k l same over q there = above_differs q.0 key (subst (λ (x : List ℕ). is_below x q.0 ≡ true) (same_key k key same) (over q there))

-- what is made of the lists is, of a key, made of the key's rows
pub of_one_key : (f : List Row → List Row) → f [] ≡ [] → ((l : List Row) (q : Row) → Member q (f l) → Member q l) → (gs : List (List Row)) → Tidy gs → (key : List ℕ) → filter (at key) (flat_map f gs) ≡ f (filter (at key) (rows_in gs))
of_one_key f none within [] tidy key = sym none
of_one_key f none within (g ∷ gs) tidy key =
    filter_both (at key) (f g) (flat_map f gs)
    ∙ (ap (λ (l : List Row). filter (at key) (f g) ++ l) (of_one_key f none within gs tidy.others key)
    ∙ elim (cases_Bool (bytes_eq tidy.key key)) [
      | inl same ↦
          let rest = filter_none (at key) (rows_in gs) (over_none key tidy.key (rows_in gs) same tidy.over) in
          let mine = filter_all (at key) g (key_of_each key tidy.key g same tidy.one) in
          let made = filter_all (at key) (f g) (key_of_each key tidy.key (f g) same (λ q there. tidy.one q (within g q there))) in
          let whole = filter_both (at key) g (rows_in gs) ∙ (ap (λ (l : List Row). filter (at key) g ++ l) rest ∙ (append-nil (filter (at key) g) ∙ mine)) in
          ap (λ (l : List Row). filter (at key) (f g) ++ f l) rest ∙ (ap (λ (l : List Row). filter (at key) (f g) ++ l) none ∙ (append-nil (filter (at key) (f g)) ∙ (made ∙ sym (ap f whole))))
      | inr other ↦
          let mine = filter_none (at key) g (key_of_none key tidy.key g other tidy.one) in
          let made = filter_none (at key) (f g) (key_of_none key tidy.key (f g) other (λ q there. tidy.one q (within g q there))) in
          let whole = filter_both (at key) g (rows_in gs) ∙ ap (λ (l : List Row). l ++ filter (at key) (rows_in gs)) mine in
          ap (λ (l : List Row). l ++ f (filter (at key) (rows_in gs))) made ∙ sym (ap f whole)
    ])

-- ---- the versions of a key

abbrev pub row_version : Row → Version Change
row_version r = version_in r.1

abbrev pub keyed : List ℕ → List Row → List (Version Change)
keyed key rows = map row_version (filter (at key) rows)

map_both : (xs ys : List Row) → map row_version (xs ++ ys) ≡ map row_version xs ++ map row_version ys
map_both [] ys = refl
map_both (x ∷ xs) ys = ap (λ (l : List (Version Change)). row_version x ∷ l) (map_both xs ys)

keyed_both : (key : List ℕ) (xs ys : List Row) → keyed key (xs ++ ys) ≡ keyed key xs ++ keyed key ys
keyed_both key xs ys = ap (λ (l : List Row). map row_version l) (filter_both (at key) xs ys) ∙ map_both (filter (at key) xs) (filter (at key) ys)

keyed_none : (key : List ℕ) (l : List Row) → Each (λ q. at key q ≡ false) l → keyed key l ≡ []
keyed_none key l none = ap (λ (k : List Row). map row_version k) (filter_none (at key) l none)

chain_versions : (key : List ℕ) (chain : List Update) → map row_version (chain_rows key chain) ≡ versions chain
chain_versions key [] = refl
chain_versions key (u ∷ chain) = ap (λ (v : Version Change). v ∷ map row_version (chain_rows key chain)) (version_back u.version) ∙ ap (λ (l : List (Version Change)). u.version ∷ l) (chain_versions key chain)

keyed_chain : (key k : List ℕ) (chain : List Update) → bytes_eq k key ≡ true → keyed key (chain_rows k chain) ≡ versions chain
keyed_chain key k chain same =
    ap (λ (l : List Row). map row_version l) (filter_all (at key) (chain_rows k chain) (each_chain (λ q. at key q ≡ true) k chain (λ u there. same))) ∙ chain_versions k chain

keyed_other : (key k : List ℕ) (chain : List Update) → bytes_eq k key ≡ false → keyed key (chain_rows k chain) ≡ []
keyed_other key k chain other = keyed_none key (chain_rows k chain) (each_chain (λ q. at key q ≡ false) k chain (λ u there. other))

-- rows show the first of a key
pub shown_keyed : (key : List ℕ) (rows : List Row) → shown_at key rows ≡ head_of (keyed key rows)
shown_keyed key [] = refl
shown_keyed key (r ∷ rows) = elim (cases_Bool (bytes_eq r.0 key)) [ inl same ↦ rw same refl | inr other ↦ rw other (shown_keyed key rows) ]

shown_none : (key : List ℕ) (rows : List Row) → Each (λ q. at key q ≡ false) rows → shown_at key rows ≡ None
shown_none key rows none = shown_keyed key rows ∙ ap (λ (l : List (Version Change)). head_of l) (keyed_none key rows none)

-- rows that rise have a key once
page_keyed : (key : List ℕ) (page : List Row) → Rises page → keyed key page ≡ option_to_list (shown_at key page)
page_keyed key [] up = refl
page_keyed key (r ∷ page) up = elim (cases_Bool (bytes_eq r.0 key)) [
  | inl same ↦ rw same (ap (λ (l : List (Version Change)). row_version r ∷ l) (keyed_none key page (over_none key r.0 page same up.0)))
  | inr other ↦ rw other (page_keyed key page up.1)
]

singles_rows : (page : List Row) → rows_in (map (λ r. r ∷ []) page) ≡ page
singles_rows [] = refl
singles_rows (r ∷ page) = ap (λ (l : List Row). r ∷ l) (singles_rows page)

chain_none : (key k : List ℕ) (chains : List KeyChain) → bytes_eq k key ≡ true → ((c : KeyChain) → Member c chains → is_below k c.key ≡ true) → chain_at key chains ≡ []
chain_none key k [] same over = refl
chain_none key k (c ∷ chains) same over =
    let other : bytes_eq c.key key ≡ false = above_differs c.key key (subst (λ (x : List ℕ). is_below x c.key ≡ true) (same_key k key same) (over c (inl refl))) in
    rw other (chain_none key k chains same (λ d there. over d (inr there)))

abbrev Holds : List ℕ → List KeyChain → List Row → List (List Row) → Type 0
Holds key chains page gs = keyed key (rows_in gs) ≡ held_at key page chains

-- a chain's key above which the rest of the page lies
chain_first : (key : List ℕ) (c : KeyChain) (chains : List KeyChain) (page : List Row) → Climbs (c ∷ chains) → Each (λ q. is_below c.key q.0 ≡ true) page → Holds key chains page (merged chains page)
    → Holds key (c ∷ chains) page (chain_rows c.key c.chain ∷ merged chains page)
chain_first key c chains page climbs over rest =
    keyed_both key (chain_rows c.key c.chain) (rows_in (merged chains page))
    ∙ (ap (λ (l : List (Version Change)). keyed key (chain_rows c.key c.chain) ++ l) rest
    ∙ elim (cases_Bool (bytes_eq c.key key)) [
      | inl same ↦
          let none = shown_none key page (over_none key c.key page same over) in
          let empty = chain_none key c.key chains same climbs.0 in
          rw same (ap (λ (l : List (Version Change)). l ++ (versions (chain_at key chains) ++ option_to_list (shown_at key page))) (keyed_chain key c.key c.chain same)
          ∙ ap (λ (l : List Update). versions c.chain ++ (versions l ++ option_to_list (shown_at key page))) empty)
      | inr other ↦ rw other (ap (λ (l : List (Version Change)). l ++ (versions (chain_at key chains) ++ option_to_list (shown_at key page))) (keyed_other key c.key c.chain other))
    ])

-- a row of the page below the chains' keys
row_first : (key : List ℕ) (r : Row) (chains : List KeyChain) (page : List Row) (gs : List (List Row)) → ((c : KeyChain) → Member c chains → is_below r.0 c.key ≡ true) → Each (λ q. is_below r.0 q.0 ≡ true) page
    → Holds key chains page gs → Holds key chains (r ∷ page) ((r ∷ []) ∷ gs)
row_first key r chains page gs below over rest = elim (cases_Bool (bytes_eq r.0 key)) [
  | inl same ↦
      let none = shown_none key page (over_none key r.0 page same over) in
      let empty = chain_none key r.0 chains same below in
      let under : keyed key (rows_in gs) ≡ [] =
      rest ∙ (ap (λ (l : List Update). versions l ++ option_to_list (shown_at key page)) empty ∙ ap (λ (o : Option (Version Change)). option_to_list o) none) in
      rw same (ap (λ (l : List (Version Change)). row_version r ∷ l) under ∙ sym (ap (λ (l : List Update). versions l ++ row_version r ∷ []) empty))
  | inr other ↦ rw other rest
]

-- a row of the page at a chain's key
both_first : (key : List ℕ) (r : Row) (c : KeyChain) (chains : List KeyChain) (page : List Row) → r.0 ≡ c.key → Climbs (c ∷ chains) → Each (λ q. is_below c.key q.0 ≡ true) page → Holds key chains page (merged chains page)
    → Holds key (c ∷ chains) (r ∷ page) ((chain_rows c.key c.chain ++ r ∷ []) ∷ merged chains page)
both_first key r c chains page is climbs over rest =
    keyed_both key (chain_rows c.key c.chain ++ r ∷ []) (rows_in (merged chains page))
    ∙ (ap (λ (l : List (Version Change)). l ++ keyed key (rows_in (merged chains page))) (keyed_both key (chain_rows c.key c.chain) (r ∷ []))
    ∙ elim (cases_Bool (bytes_eq c.key key)) [
      | inl same ↦
          let too : bytes_eq r.0 key ≡ true = ap (λ (k : List ℕ). bytes_eq k key) is ∙ same in
          let none = shown_none key page (over_none key c.key page same over) in
          let empty = chain_none key c.key chains same climbs.0 in
          let under : keyed key (rows_in (merged chains page)) ≡ [] =
          rest ∙ (ap (λ (l : List Update). versions l ++ option_to_list (shown_at key page)) empty ∙ ap (λ (o : Option (Version Change)). option_to_list o) none) in
          ap (λ (l : List (Version Change)). (keyed key (chain_rows c.key c.chain) ++ keyed key (r ∷ [])) ++ l) under
          ∙ (append-nil (keyed key (chain_rows c.key c.chain) ++ keyed key (r ∷ []))
          ∙ (ap (λ (l : List (Version Change)). l ++ keyed key (r ∷ [])) (keyed_chain key c.key c.chain same) ∙ rw (same, too) refl))
      | inr other ↦
          let too : bytes_eq r.0 key ≡ false = ap (λ (k : List ℕ). bytes_eq k key) is ∙ other in
          ap (λ (l : List (Version Change)). (l ++ keyed key (r ∷ [])) ++ keyed key (rows_in (merged chains page))) (keyed_other key c.key c.chain other)
          ∙ rw (other, too) rest
    ])

among_keyed : (key : List ℕ) (c : KeyChain) (chains : List KeyChain) → Climbs (c ∷ chains) → ((page : List Row) → Rises page → Holds key chains page (merged chains page)) → (page : List Row) → Rises page → Holds key (c ∷ chains) page (among c (merged chains) page)
among_keyed key c chains climbs goes [] up = chain_first key c chains [] climbs (λ q none. absurd none) (goes [] up)
among_keyed key c chains climbs goes (r ∷ page) up = by (slice_cmp nat_cmp r.0 c.key) refl (among_keyed key c chains climbs goes page up.1) where
  below_all : is_below r.0 c.key ≡ true → (d : KeyChain) → Member d (c ∷ chains) → is_below r.0 d.key ≡ true
  below_all less d (inl same) = subst (λ (x : KeyChain). is_below r.0 x.key ≡ true) (sym same) less
  below_all less d (inr later) = below_trans r.0 c.key d.key less (climbs.0 d later)

  page_over : is_below c.key r.0 ≡ true → Each (λ q. is_below c.key q.0 ≡ true) (r ∷ page)
  page_over more q (inl same) = subst (λ (x : Row). is_below c.key x.0 ≡ true) (sym same) more
  page_over more q (inr later) = below_trans c.key r.0 q.0 more (up.0 q later)

  by : (o : Ordering) → slice_cmp nat_cmp r.0 c.key ≡ o → Holds key (c ∷ chains) page (among c (merged chains) page)
      → Holds key (c ∷ chains) (r ∷ page) (match_ordering o ((r ∷ []) ∷ among c (merged chains) page) ((chain_rows c.key c.chain ++ r ∷ []) ∷ merged chains page) (chain_rows c.key c.chain ∷ merged chains (r ∷ page)))
  by Less e rest = row_first key r (c ∷ chains) page (among c (merged chains) page) (below_all (below_order r.0 c.key e)) up.0 rest
  by Equal e rest =
      both_first key r c chains page (exact_bytes r.0 c.key e) climbs (subst (λ (k : List ℕ). Each (λ q. is_below k q.0 ≡ true) page) (exact_bytes r.0 c.key e) up.0) (goes page up.1)
  by Greater e rest = chain_first key c chains (r ∷ page) climbs (page_over (above_order r.0 c.key e)) (goes (r ∷ page) up)

-- the merged rows have of each key what is held
pub merged_held : (key : List ℕ) (chains : List KeyChain) (page : List Row) → Climbs chains → Rises page → keyed key (rows_in (merged chains page)) ≡ held_at key page chains
merged_held key [] page climbs up = ap (λ (l : List Row). keyed key l) (singles_rows page) ∙ page_keyed key page up
merged_held key (c ∷ chains) page climbs up = among_keyed key c chains climbs (λ rest rise. merged_held key chains rest climbs.1 rise) page up
