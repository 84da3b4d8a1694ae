-- Tables that follow those of a catalog, the last one first.
use Rattle.std.proofs.Common.{◌≡◌, ℕ, ◌+◌, ◌<◌, ◌≤◌, ◌^◌, true, List, [], ◌∷◌, ◌++◌, reverse, None, refl, sym, ap, subst, ◌∙◌, inl, inr, arith}
use Rattle.std.specs.List.{AllByRecursion}
use Rattle.std.proofs.lemmas.List.{append_assoc, length_push, reverse-append, reverse-reverse}
use Rattle.kv_model.specs.Holds.{Member, Descends}
use Rattle.kv_model.specs.History.{Table, named}
use Rattle.kv_model.specs.Decisions.{is_name}
use Rattle.catalog.specs.Known.{Known, AreDistinct, with_new}
use Rattle.catalog.specs.Push.{IsUnder, MayFollow, MayAllFollow}
use Rattle.catalog.proofs.Distinct.{none_push, head_differs, later_none, distinct_push}
use Rattle.catalog.proofs.Turning.{turn_one}

pub none_turned : (name : List ℕ) (tables : List Table) → named name tables ≡ None → named name (reverse tables) ≡ None
none_turned name [] none = refl
none_turned name (t ∷ later) none = ap (named name) (turn_one t later) ∙ none_push name (reverse later) t (none_turned name later (later_none name t later none)) (head_differs name t later none)

pub distinct_turned : (tables : List Table) → AreDistinct tables → AreDistinct (reverse tables)
distinct_turned [] distinct = tt
distinct_turned (t ∷ later) distinct = subst AreDistinct (sym (turn_one t later)) (distinct_push (reverse later) t (distinct_turned later distinct.1) (none_turned t.name later distinct.0))

distinct_back : (front back : List Table) → AreDistinct (front ++ back) → AreDistinct back
distinct_back [] back distinct = distinct
distinct_back (t ∷ front) back distinct = distinct_back front back distinct.1

pub all_front : (P : Table → Type 0) (front : List Table) (t : Table) → AllByRecursion P (front ++ t ∷ []) → AllByRecursion P front × P t
all_front P [] t all = (tt, all.0)
all_front P (u ∷ front) t all = let rest = all_front P front t all.1 in ((all.0, rest.0), rest.1)

member_last : (front : List Table) (t : Table) → Member t (front ++ t ∷ [])
member_last [] t = inl refl
member_last (u ∷ front) t = inr (member_last front t)

member_front : (front : List Table) (t x : Table) → Member x front → Member x (front ++ t ∷ [])
member_front [] t x member = absurd member
member_front (u ∷ front) t x (inl same) = inl same
member_front (u ∷ front) t x (inr later) = inr (member_front front t x later)

front_above : (front : List Table) (t : Table) → Descends IsUnder (front ++ t ∷ []) → AllByRecursion (λ (u : Table). t.number + 1 ≤ u.number) front
front_above [] t descend = tt
front_above (u ∷ front) t descend = (let under : t.number < u.number = descend.0 t (member_last front t) in omega (arith, under), front_above front t descend.1)

front_descends : (front : List Table) (t : Table) → Descends IsUnder (front ++ t ∷ []) → Descends IsUnder front
front_descends [] t descend = tt
front_descends (u ∷ front) t descend = ((λ y member. descend.0 y (member_front front t y member)), front_descends front t descend.1)

-- the last table goes over to the others
pub moved : (front : List Table) (t : Table) (tables : List Table) → (front ++ t ∷ []) ++ reverse tables ≡ front ++ reverse (tables ++ t ∷ [])
moved front t tables = append_assoc front (t ∷ []) (reverse tables) ∙ ap (λ (l : List Table). front ++ l) (sym (reverse-append tables (t ∷ [])))

pub last_follows : (known : Known) (front : List Table) (t : Table) (next : ℕ) → MayAllFollow known (front ++ t ∷ []) next → next < 2 ^ 32 → MayFollow known t
last_follows known front t next may fits =
    let back : AreDistinct (t ∷ reverse known.tables) = distinct_back front (t ∷ reverse known.tables) (subst AreDistinct (append_assoc front (t ∷ []) (reverse known.tables)) may.distinct) in
    record {
      new = subst (λ (l : List Table). named t.name l ≡ None) (reverse-reverse known.tables) (none_turned t.name (reverse known.tables) back.0);
      few = omega (arith, may.few, length_push front t);
      name = (all_front (λ (u : Table). is_name u.name ≡ true) front t may.names).1;
      above = (all_front (λ (u : Table). known.next ≤ u.number) front t may.above).1;
      last = let below : t.number < next = (all_front (λ (u : Table). u.number < next) front t may.below).1 in omega (arith, below, fits);
    }

pub others_follow : (known : Known) (front : List Table) (t : Table) (next : ℕ) → MayAllFollow known (front ++ t ∷ []) next → MayAllFollow (with_new known t) front next
others_follow known front t next may = record {
  distinct = subst AreDistinct (moved front t known.tables) may.distinct;
  few = omega (arith, may.few, length_push front t, length_push known.tables t);
  names = (all_front (λ (u : Table). is_name u.name ≡ true) front t may.names).0;
  above = front_above front t may.descend;
  below = (all_front (λ (u : Table). u.number < next) front t may.below).0;
  descend = front_descends front t may.descend;
  upto = let below : t.number < next = (all_front (λ (u : Table). u.number < next) front t may.below).1 in omega (arith, below);
}
