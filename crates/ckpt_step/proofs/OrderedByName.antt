-- What is told of each table, and of any two, in the order of their names.
use Rattle.std.specs.Prelude.{◌≡◌, ℕ, ◌+◌, ◌≤◌, suc, List, [], ◌∷◌, ◌++◌, length, map, refl, fold}
use Rattle.std.specs.List.{AllByRecursion, flat_map}
use Rattle.std.proofs.Common.{inl, inr, ◌∙◌, ap, arith}
use Rattle.std.proofs.lemmas.Bool.{cases_Bool, eq-eqb, ne_eqb}
use Rattle.kv_model.specs.History.{Table}
use Rattle.catalog.specs.Known.{NumbersAscend, by_name, is_below, put_by_name}
use Rattle.stored.specs.Blocks.{Block, Apart, AreApart}
use Rattle.ckpt_step.specs.Records.{of_number}

-- ---- lists

pub all_map : {A : Type 0} (P Q : A → Type 0) (xs : List A) → AllByRecursion P xs → ((x : A) → P x → Q x) → AllByRecursion Q xs
all_map P Q [] all more = tt
all_map P Q (x ∷ xs) all more = (more x all.0, all_map P Q xs all.1 more)

pub all_both : {A : Type 0} (P Q R : A → Type 0) (xs : List A) → AllByRecursion P xs → AllByRecursion Q xs → ((x : A) → P x → Q x → R x) → AllByRecursion R xs
all_both P Q R [] all also more = tt
all_both P Q R (x ∷ xs) all also more = (more x all.0 also.0, all_both P Q R xs all.1 also.1 more)

pub all_front : {A : Type 0} (P : A → Type 0) (xs ys : List A) → AllByRecursion P (xs ++ ys) → AllByRecursion P xs
all_front P [] ys all = tt
all_front P (x ∷ xs) ys all = (all.0, all_front P xs ys all.1)

pub all_back : {A : Type 0} (P : A → Type 0) (xs ys : List A) → AllByRecursion P (xs ++ ys) → AllByRecursion P ys
all_back P [] ys all = all
all_back P (x ∷ xs) ys all = all_back P xs ys all.1

pub all_join : {A : Type 0} (P : A → Type 0) (xs ys : List A) → AllByRecursion P xs → AllByRecursion P ys → AllByRecursion P (xs ++ ys)
all_join P [] ys all more = more
all_join P (x ∷ xs) ys all more = (all.0, all_join P xs ys all.1 more)

pub map_alike : {A B : Type 0} (f g : A → B) (xs : List A) → AllByRecursion (λ (x : A). f x ≡ g x) xs → map f xs ≡ map g xs
map_alike f g [] all = refl
map_alike f g (x ∷ xs) all = rw (all.0, map_alike f g xs all.1) refl

-- ---- each table

module _ (P : Table → Type 0) where
  pub all_put : (tables : List Table) (t : Table) → AllByRecursion P tables → P t → AllByRecursion P (put_by_name tables t)
  all_put [] t all is = (is, tt)
  all_put (u ∷ tables) t all is = elim (cases_Bool (is_below u.name t.name)) [
    | inl is_less ↦ rw is_less (all.0, all_put tables t all.1 is)
    | inr not_less ↦ rw not_less (is, all)
  ]

  all_fold : (before tables : List Table) → AllByRecursion P before → AllByRecursion P tables → AllByRecursion P (fold put_by_name before tables)
  all_fold before [] all more = all
  all_fold before (t ∷ tables) all more = all_fold (put_by_name before t) tables (all_put before t all more.0) more.1

  pub all_by_name : (tables : List Table) → AllByRecursion P tables → AllByRecursion P (by_name tables)
  all_by_name tables all = all_fold [] tables tt all

length_put : (tables : List Table) (t : Table) → length (put_by_name tables t) ≡ suc (length tables)
length_put [] t = refl
length_put (u ∷ tables) t = elim (cases_Bool (is_below u.name t.name)) [
  | inl is_less ↦ rw is_less (ap suc (length_put tables t))
  | inr not_less ↦ rw not_less refl
]

length_fold : (before tables : List Table) → length (fold put_by_name before tables) ≡ length before + length tables
length_fold before [] = omega arith
length_fold before (t ∷ tables) = omega (arith, length_fold (put_by_name before t) tables, length_put before t)

pub length_by_name : (tables : List Table) → length (by_name tables) ≡ length tables
length_by_name tables = omega (arith, length_fold [] tables)

-- ---- any two tables

abbrev pub Pairs : (Table → Table → Type 0) → List Table → Type 0
Pairs R [] = Unit {0}
Pairs R (t ∷ tables) = AllByRecursion (R t) tables × Pairs R tables

module _ (R : Table → Table → Type 0) (flip : (t u : Table) → R t u → R u t) where
  pairs_put : (tables : List Table) (t : Table) → Pairs R tables → AllByRecursion (R t) tables → Pairs R (put_by_name tables t)
  pairs_put [] t pairs all = (tt, tt)
  pairs_put (u ∷ tables) t pairs all = elim (cases_Bool (is_below u.name t.name)) [
    | inl is_less ↦ rw is_less (all_put (R u) tables t pairs.0 (flip t u all.0), pairs_put tables t pairs.1 all.1)
    | inr not_less ↦ rw not_less (all, pairs)
  ]

  across_put : (before : List Table) (t : Table) (tables : List Table) → AllByRecursion (λ (u : Table). AllByRecursion (R u) before) tables → AllByRecursion (R t) tables → AllByRecursion (λ (u : Table). AllByRecursion (R u) (put_by_name before t)) tables
  across_put before t [] across all = tt
  across_put before t (u ∷ tables) across all = (all_put (R u) before t across.0 (flip t u all.0), across_put before t tables across.1 all.1)

  pairs_fold : (before tables : List Table) → Pairs R before → Pairs R tables → AllByRecursion (λ (u : Table). AllByRecursion (R u) before) tables → Pairs R (fold put_by_name before tables)
  pairs_fold before [] pairs more across = pairs
  pairs_fold before (t ∷ tables) pairs more across = pairs_fold (put_by_name before t) tables (pairs_put before t pairs across.0) more.1 (across_put before t tables across.1 more.0)

  none_before : (tables : List Table) → AllByRecursion (λ (u : Table). AllByRecursion (R u) []) tables
  none_before [] = tt
  none_before (t ∷ tables) = (tt, none_before tables)

  pub pairs_by_name : (tables : List Table) → Pairs R tables → Pairs R (by_name tables)
  pairs_by_name tables pairs = pairs_fold [] tables tt pairs (none_before tables)

-- ---- blocks of tables that do not meet

abbrev pub Away : List Block → List Block → Type 0
Away xs ys = AllByRecursion (λ (b : Block). AllByRecursion (λ (c : Block). AreApart b.place c.place) ys) xs

turn : (b c : Block) → AreApart b.place c.place → AreApart c.place b.place
turn b c (inl is) = inr is
turn b c (inr is) = inl is

pub away_flip : (xs ys : List Block) → Away xs ys → Away ys xs
away_flip xs [] away = tt
away_flip xs (y ∷ ys) away = (
  all_map (λ (b : Block). AllByRecursion (λ (c : Block). AreApart b.place c.place) (y ∷ ys)) (λ (b : Block). AreApart y.place b.place) xs away (λ b row. turn b y row.0),
  away_flip xs ys (all_map (λ (b : Block). AllByRecursion (λ (c : Block). AreApart b.place c.place) (y ∷ ys)) (λ (b : Block). AllByRecursion (λ (c : Block). AreApart b.place c.place) ys) xs away (λ b row. row.1)),
)

pub apart_join : (xs ys : List Block) → Apart xs → Apart ys → Away xs ys → Apart (xs ++ ys)
apart_join [] ys apart more away = more
apart_join (x ∷ xs) ys apart more away = (all_join (λ (c : Block). AreApart x.place c.place) xs ys apart.0 away.0, apart_join xs ys apart.1 more away.1)

apart_away : (xs ys : List Block) → Apart (xs ++ ys) → Away xs ys
apart_away [] ys apart = tt
apart_away (x ∷ xs) ys apart = (all_back (λ (c : Block). AreApart x.place c.place) xs ys apart.0, apart_away xs ys apart.1)

apart_back : (xs ys : List Block) → Apart (xs ++ ys) → Apart ys
apart_back [] ys apart = apart
apart_back (x ∷ xs) ys apart = apart_back xs ys apart.1

apart_front : (xs ys : List Block) → Apart (xs ++ ys) → Apart xs
apart_front [] ys apart = tt
apart_front (x ∷ xs) ys apart = (all_front (λ (c : Block). AreApart x.place c.place) xs ys apart.0, apart_front xs ys apart.1)

module _ (B : Table → List Block) where
  abbrev pub Meetless : Table → Table → Type 0
  Meetless t u = Away (B t) (B u)

  away_each : (xs : List Block) (tables : List Table) → Away xs (flat_map B tables) → AllByRecursion (λ (u : Table). Away xs (B u)) tables
  away_each xs [] away = tt
  away_each xs (u ∷ tables) away = (
    all_map (λ (b : Block). AllByRecursion (λ (c : Block). AreApart b.place c.place) (B u ++ flat_map B tables)) (λ (b : Block). AllByRecursion (λ (c : Block). AreApart b.place c.place) (B u)) xs away
        (λ b row. all_front (λ (c : Block). AreApart b.place c.place) (B u) (flat_map B tables) row),
    away_each xs tables (all_map (λ (b : Block). AllByRecursion (λ (c : Block). AreApart b.place c.place) (B u ++ flat_map B tables)) (λ (b : Block). AllByRecursion (λ (c : Block). AreApart b.place c.place) (flat_map B tables)) xs away
        (λ b row. all_back (λ (c : Block). AreApart b.place c.place) (B u) (flat_map B tables) row)),
  )

  away_all : (xs : List Block) (tables : List Table) → AllByRecursion (λ (u : Table). Away xs (B u)) tables → Away xs (flat_map B tables)
  away_all xs [] all = nothing_there xs
    where
      nothing_there : (xs : List Block) → Away xs []
      nothing_there [] = tt
      nothing_there (x ∷ xs) = (tt, nothing_there xs)
  away_all xs (u ∷ tables) all =
      all_both (λ (b : Block). AllByRecursion (λ (c : Block). AreApart b.place c.place) (B u)) (λ (b : Block). AllByRecursion (λ (c : Block). AreApart b.place c.place) (flat_map B tables)) (λ (b : Block). AllByRecursion (λ (c : Block). AreApart b.place c.place) (B u ++ flat_map B tables)) xs all.0 (away_all xs tables all.1)
      (λ b one two. all_join (λ (c : Block). AreApart b.place c.place) (B u) (flat_map B tables) one two)

  to_pairs : (tables : List Table) → Apart (flat_map B tables) → Pairs Meetless tables
  to_pairs [] apart = tt
  to_pairs (t ∷ tables) apart = (away_each (B t) tables (apart_away (B t) (flat_map B tables) apart), to_pairs tables (apart_back (B t) (flat_map B tables) apart))

  to_each : (tables : List Table) → Apart (flat_map B tables) → AllByRecursion (λ (t : Table). Apart (B t)) tables
  to_each [] apart = tt
  to_each (t ∷ tables) apart = (apart_front (B t) (flat_map B tables) apart, to_each tables (apart_back (B t) (flat_map B tables) apart))

  from_pairs : (tables : List Table) → AllByRecursion (λ (t : Table). Apart (B t)) tables → Pairs Meetless tables → Apart (flat_map B tables)
  from_pairs [] each pairs = tt
  from_pairs (t ∷ tables) each pairs = apart_join (B t) (flat_map B tables) each.0 (from_pairs tables each.1 pairs.1) (away_all (B t) tables pairs.0)

  -- the blocks of tables that do not meet do not meet in another order
  pub apart_by_name : (tables : List Table) → Apart (flat_map B tables) → Apart (flat_map B (by_name tables))
  apart_by_name tables apart =
      from_pairs (by_name tables) (all_by_name (λ (t : Table). Apart (B t)) tables (to_each tables apart))
      (pairs_by_name Meetless (λ t u away. away_flip (B t) (B u) away) tables (to_pairs tables apart))

  module _ (P : Block → Type 0) where
    pub flat_each : (tables : List Table) → AllByRecursion P (flat_map B tables) → AllByRecursion (λ (t : Table). AllByRecursion P (B t)) tables
    flat_each [] all = tt
    flat_each (t ∷ tables) all = (all_front P (B t) (flat_map B tables) all, flat_each tables (all_back P (B t) (flat_map B tables) all))

    pub flat_all : (tables : List Table) → AllByRecursion (λ (t : Table). AllByRecursion P (B t)) tables → AllByRecursion P (flat_map B tables)
    flat_all [] all = tt
    flat_all (t ∷ tables) all = all_join P (B t) (flat_map B tables) all.0 (flat_all tables all.1)

    pub flat_by_name : (tables : List Table) → AllByRecursion P (flat_map B tables) → AllByRecursion P (flat_map B (by_name tables))
    flat_by_name tables all = flat_all (by_name tables) (all_by_name (λ (t : Table). AllByRecursion P (B t)) tables (flat_each tables all))

-- ---- from a place to a number

pub ascend_above : (low : ℕ) (tables : List Table) (next : ℕ) → NumbersAscend low tables next → AllByRecursion (λ (u : Table). low ≤ u.number) tables
ascend_above low [] next ascend = tt
ascend_above low (t ∷ tables) next ascend = (ascend.0, all_map (λ (u : Table). t.number + 1 ≤ u.number) (λ (u : Table). low ≤ u.number) tables (ascend_above (t.number + 1) tables next ascend.1) (λ u le. omega (arith, le, ascend.0)))

module _ {A : Type 0} (none : A) where
  behind : (t : Table) (x : A) (known : List Table) (xs : List A) (u : Table) → t.number + 1 ≤ u.number → of_number none (t ∷ known) (x ∷ xs) u.number ≡ of_number none known xs u.number
  behind t x known xs u le = rw (ne_eqb t.number u.number (λ same. omega (arith, same, le))) refl

  first : (t : Table) (x : A) (known : List Table) (xs : List A) → of_number none (t ∷ known) (x ∷ xs) t.number ≡ x
  first t x known xs = rw (eq-eqb t.number t.number refl) refl

  -- what the tables have by number is what they have by place
  pub by_number : (known : List Table) (xs : List A) (low next : ℕ) → NumbersAscend low known next → length xs ≡ length known → map (λ (t : Table). of_number none known xs t.number) known ≡ xs
  by_number [] [] low next ascend same = refl
  by_number [] (x ∷ xs) low next ascend same = absurd (omega (arith, same))
  by_number (t ∷ known) [] low next ascend same = absurd (omega (arith, same))
  by_number (t ∷ known) (x ∷ xs) low next ascend same =
      let rest : map (λ (u : Table). of_number none (t ∷ known) (x ∷ xs) u.number) known ≡ map (λ (u : Table). of_number none known xs u.number) known =
      map_alike (λ (u : Table). of_number none (t ∷ known) (x ∷ xs) u.number) (λ (u : Table). of_number none known xs u.number) known
      (all_map (λ (u : Table). t.number + 1 ≤ u.number) (λ (u : Table). of_number none (t ∷ known) (x ∷ xs) u.number ≡ of_number none known xs u.number) known (ascend_above (t.number + 1) known next ascend.1) (λ u le. behind t x known xs u le)) in
      ap (λ (y : A). y ∷ map (λ (u : Table). of_number none (t ∷ known) (x ∷ xs) u.number) known) (first t x known xs)
      ∙ ap (λ (l : List A). x ∷ l) (rest ∙ by_number known xs (t.number + 1) next ascend.1 (omega (arith, same)))
