-- Blocks that are held for a leaf, one for each entry, and then for the leaves in its place.
use Rattle.std.specs.Prelude.{◌≡◌, ◌⊎◌, ℕ, ◌+◌, ◌-◌, ◌<◌, ◌≤◌, false, List, [], ◌∷◌, ◌++◌, drop, length, take, Option, Some, option_map, refl}
use Rattle.std.specs.List.{AllByRecursion}
use Rattle.std.proofs.Common.{inl, inr, sym, ◌∙◌, ap, subst, arith, get_or}
use Rattle.std.proofs.lemmas.List.{take-append-drop, take_more}
use Rattle.std.proofs.lemmas.List.Sums.{fold-append}
use Rattle.device_layout.specs.declared.addr.Addr.{Addr}
use Rattle.kv_model.specs.Holds.{Member}
use Rattle.stored.specs.TableTree.{Entry}
use Rattle.tree_dir.specs.declared.leaf.Leaf.{Leaf}
use Rattle.tree_dir.specs.Leaves.{Directory, leaf_under, leaves_with}
use Rattle.tree_dir.specs.Slots.{new_leaf}
use Rattle.tree_write.specs.Captures.{AreDistinct}
use Rattle.tree_write.specs.Drafts.{addrs_to}
use Rattle.ckpt_step.specs.Holding.{AreNewAt, gone_at, held_all, held_for, lone_to, named_all, named_at, named_if, put_lone}
use Rattle.ckpt_step.specs.Lives.{addrs_in, has_at}
use Rattle.ckpt_step.specs.declared.lives.Lone.{Lone}
use Rattle.ckpt_step.proofs.LonesMore.{NoneAt, gone_put, named_addrs, named_from, named_keeps, named_there, none_of, of_none, put_distinct, put_from, put_keeps, put_there}
use Rattle.ckpt_step.proofs.Members.{all_made, all_of, map_member, member_map}

-- where an entry leads
abbrev pub offset_of : Entry → ℕ
offset_of e = e.link.addr.offset

-- none of the entries leads there
abbrev pub NoneLeads : List Entry → ℕ → Type 0
NoneLeads es offset = (e : Entry) → Member e es → offset_of e ≡ offset → ⊥

pub first_apart : (e : Entry) (es : List Entry) → AreDistinct (addrs_to (e ∷ es)) → NoneLeads es (offset_of e)
first_apart e es distinct x there same = all_of (λ (a : Addr). a.offset ≡ e.link.addr.offset → ⊥) (addrs_to es) x.link.addr distinct.0 (map_member {A = Entry} {B = Addr} (λ y. y.link.addr) x es there) same

-- ---- held

module _ (leaf : ℕ) where
  new_step : (lives : List Lone) (e : Entry) (es : List Entry) → AreNewAt lives (e ∷ es) → AreNewAt (put_lone (lone_to leaf e) lives) es
  new_step lives e es new = record {
    none = all_made (λ (x : Entry). has_at (put_lone (lone_to leaf e) lives) x.link.addr.offset ≡ false) es (λ x there. of_none (put_lone (lone_to leaf e) lives) (offset_of x) (far x there));
    distinct = new.distinct.1;
  }
    where
      far : (x : Entry) → Member x es → NoneAt (put_lone (lone_to leaf e) lives) (offset_of x)
      far x there y mine at = elim (put_from (lone_to leaf e) lives y new.none.0 mine) [
        | inl same ↦ first_apart e es new.distinct x there (sym at ∙ ap (λ (w : Lone). w.addr.offset) same)
        | inr old ↦ none_of lives (offset_of x) (all_of (λ (z : Entry). has_at lives z.link.addr.offset ≡ false) es x new.none.1 there) y old at
      ]

  -- what is held then
  pub record AreHeld (lives next : List Lone) (es : List Entry) : Type 0 where
    pub distinct : AreDistinct (addrs_in next)
    pub from : (y : Lone) → Member y next → Member y lives ⊎ ((e : Entry) × Member e es × (y ≡ lone_to leaf e))
    pub keeps : (y : Lone) → Member y lives → Member y next
    pub has : (e : Entry) → Member e es → Member (lone_to leaf e) next

  pub are_held : (lives : List Lone) (es : List Entry) → AreDistinct (addrs_in lives) → AreNewAt lives es → AreHeld lives (held_all leaf lives es) es
  are_held lives [] distinct new = record { distinct = distinct; from = λ y there. inl there; keeps = λ y there. there; has = λ e there. absurd there }
  are_held lives (e ∷ es) distinct new =
      let x = lone_to leaf e in
      let rest = are_held (put_lone x lives) es (put_distinct x lives new.none.0 distinct) (new_step lives e es new) in
      record {
        distinct = rest.distinct;
        from = λ y there. elim (rest.from y there) [
          | inr later ↦ inr (later.0, inr later.1, later.2)
          | inl mine ↦ elim (put_from x lives y new.none.0 mine) [ inl same ↦ inr (e, inl refl, same) | inr old ↦ inl old ]
        ];
        keeps = λ y there. rest.keeps y (put_keeps x lives y new.none.0 there);
        has = λ f there. elim there [
          | inl same ↦ subst (λ (z : Entry). Member (lone_to leaf z) (held_all leaf (put_lone x lives) es)) (sym same) (rest.keeps x (put_there x lives new.none.0))
          | inr later ↦ rest.has f later
        ];
      }

  -- ---- and not any more

  last_none : (lives : List Lone) (es : List Entry) (e : Entry) → AreNewAt lives (es ++ e ∷ []) → has_at (held_all leaf lives es) (offset_of e) ≡ false
  last_none lives [] e new = new.none.0
  last_none lives (x ∷ es) e new = last_none (put_lone (lone_to leaf x) lives) es e (new_step lives x (es ++ e ∷ []) new)

  -- one more, and one less
  pub held_more : (lives : List Lone) (es : List Entry) (e : Entry) → held_all leaf lives (es ++ e ∷ []) ≡ put_lone (lone_to leaf e) (held_all leaf lives es)
  held_more lives es e = fold-append (held_for leaf) lives es (e ∷ [])

  pub held_less : (lives : List Lone) (es : List Entry) (e : Entry) → AreNewAt lives (es ++ e ∷ []) → gone_at (held_all leaf lives (es ++ e ∷ [])) (offset_of e) ≡ held_all leaf lives es
  held_less lives es e new = ap (λ (l : List Lone). gone_at l (offset_of e)) (held_more lives es e) ∙ gone_put (lone_to leaf e) (held_all leaf lives es) (last_none lives es e new)

-- the first of entries lead to new places too
front_all : {A : Type 0} (P : A → Type 0) (xs ys : List A) → AllByRecursion P (xs ++ ys) → AllByRecursion P xs
front_all P [] ys all = tt
front_all P (x ∷ xs) ys all = (all.0, front_all P xs ys all.1)

front_distinct : (xs ys : List Entry) → AreDistinct (addrs_to (xs ++ ys)) → AreDistinct (addrs_to xs)
front_distinct [] ys distinct = tt
front_distinct (x ∷ xs) ys distinct = (all_made (λ (a : Addr). a.offset ≡ x.link.addr.offset → ⊥) (addrs_to xs) far, front_distinct xs ys distinct.1)
  where
    whole : (zs : List Entry) (e : Entry) → Member e zs → Member e (zs ++ ys)
    whole [] e there = absurd there
    whole (z ∷ zs) e (inl same) = inl same
    whole (z ∷ zs) e (inr later) = inr (whole zs e later)

    far : (a : Addr) → Member a (addrs_to xs) → a.offset ≡ x.link.addr.offset → ⊥
    far a there at =
        let one = member_map {A = Entry} {B = Addr} (λ y. y.link.addr) a xs there in
        first_apart x (xs ++ ys) distinct one.0 (whole xs one.0 one.1) (ap (λ (b : Addr). b.offset) (sym one.2) ∙ at)

pub new_front : (lives : List Lone) (xs ys : List Entry) → AreNewAt lives (xs ++ ys) → AreNewAt lives xs
new_front lives xs ys new = record { none = front_all (λ (e : Entry). has_at lives e.link.addr.offset ≡ false) xs ys new.none; distinct = front_distinct xs ys new.distinct }

-- ---- named

-- each is that of the leaf of its entry
abbrev pub named_ids : List Lone → List ℕ → List Entry → List Lone
named_ids lives [] es = lives
named_ids lives (id ∷ ids) [] = lives
named_ids lives (id ∷ ids) (e ∷ es) = named_ids (named_at lives e.link.addr.offset id) ids es

-- the one that a leaf of the directory stands for
abbrev pub lone_as : Leaf → Lone
lone_as n = record { leaf = n.id; addr = n.entry.link.addr }

-- these are held for the leaves of a list beside those of before, which lie elsewhere
pub record AreNamed (lives next : List Lone) (es : List Entry) (news : List Leaf) : Type 0 where
  pub distinct : AreDistinct (addrs_in next)
  pub from : (y : Lone) → Member y next → (Member y lives × NoneLeads es y.addr.offset) ⊎ ((n : Leaf) × Member n news × (y ≡ lone_as n))
  pub keeps : (y : Lone) → Member y lives → NoneLeads es y.addr.offset → Member y next
  pub has : (n : Leaf) → Member n news → Member (lone_as n) next

-- one for each new leaf beside those of before
pub record AreMore (lives next : List Lone) (news : List Leaf) : Type 0 where
  pub distinct : AreDistinct (addrs_in next)
  pub from : (y : Lone) → Member y next → Member y lives ⊎ ((n : Leaf) × Member n news × (y ≡ lone_as n))
  pub keeps : (y : Lone) → Member y lives → Member y next
  pub has : (n : Leaf) → Member n news → Member (lone_as n) next

module _ (leaf table : ℕ) where
  lone_same : (x y : Lone) → x.leaf ≡ y.leaf → x.addr ≡ y.addr → x ≡ y
  lone_same x y one two = ap (λ (n : ℕ). let v : Lone = record { leaf = n; addr = x.addr } in v) one ∙ ap (λ (a : Addr). let v : Lone = record { leaf = y.leaf; addr = a } in v) two

  addr_one : (lives : List Lone) (a : Addr) (x : Lone) → AreDistinct (addrs_in lives) → Member a (addrs_in lives) → Member x lives → a.offset ≡ x.addr.offset → a ≡ x.addr
  addr_one [] a x distinct there mine same = absurd there
  addr_one (z ∷ lives) a x distinct (inl one) (inl two) same = one ∙ ap (λ (w : Lone). w.addr) (sym two)
  addr_one (z ∷ lives) a x distinct (inl one) (inr two) same =
      absurd (all_of (λ (b : Addr). b.offset ≡ z.addr.offset → ⊥) (addrs_in lives) x.addr distinct.0 (map_member {A = Lone} {B = Addr} (λ w. w.addr) x lives two) (sym same ∙ ap (λ (b : Addr). b.offset) one))
  addr_one (z ∷ lives) a x distinct (inr one) (inl two) same =
      absurd (all_of (λ (b : Addr). b.offset ≡ z.addr.offset → ⊥) (addrs_in lives) a distinct.0 one (same ∙ ap (λ (w : Lone). w.addr.offset) two))
  addr_one (z ∷ lives) a x distinct (inr one) (inr two) same = addr_one lives a x distinct.1 one two same

  far_all : (y : Lone) (e : Entry) (es : List Entry) → (y.addr.offset ≡ e.link.addr.offset → ⊥) → NoneLeads es y.addr.offset → NoneLeads (e ∷ es) y.addr.offset
  far_all y e es far rest f (inl same) at = far (sym at ∙ ap (λ (z : Entry). z.link.addr.offset) same)
  far_all y e es far rest f (inr later) at = rest f later at

  pub are_named : (lives : List Lone) (ids : List ℕ) (es : List Entry) → length ids ≡ length es → AreDistinct (addrs_in lives) → AreDistinct (addrs_to es) → ((e : Entry) → Member e es → Member (lone_to leaf e) lives) → AreNamed lives (named_ids lives ids es) es (leaves_with table ids es)
  are_named lives [] [] many distinct apart held = record { distinct = distinct; from = λ y there. inl (there, (λ e mine at. mine)); keeps = λ y there far. there; has = λ n there. absurd there }
  are_named lives [] (e ∷ es) many distinct apart held = absurd (omega (arith, many))
  are_named lives (id ∷ ids) [] many distinct apart held = absurd (omega (arith, many))
  are_named lives (id ∷ ids) (e ∷ es) many distinct apart held =
      let next = named_at lives e.link.addr.offset id in
      let now : AreDistinct (addrs_in next) = subst AreDistinct (sym (named_addrs e.link.addr.offset id lives)) distinct in
      let rest = are_named next ids es (omega (arith, many)) now apart.1 (λ f there. named_keeps e.link.addr.offset id lives (lone_to leaf f) (held f (inr there)) (first_apart e es apart f there)) in
      let first : Member (record { leaf = id; addr = e.link.addr }) next = named_there e.link.addr.offset id lives (lone_to leaf e) distinct (held e (inl refl)) refl in
      record {
        distinct = rest.distinct;
        from = λ y there. elim (rest.from y there) [
          | inr later ↦ inr (later.0, inr later.1, later.2)
          | inl mine ↦ elim (named_from e.link.addr.offset id lives y distinct mine.0) [
            | inl old ↦ inl (old.0, far_all y e es old.1 mine.1)
            | inr new ↦ inr (new_leaf table id e, inl refl, lone_same y (lone_as (new_leaf table id e)) new.0 (addr_one lives y.addr (lone_to leaf e) distinct new.2 (held e (inl refl)) new.1))
          ]
        ];
        keeps = λ y there far. rest.keeps y (named_keeps e.link.addr.offset id lives y there (λ at. far e (inl refl) (sym at))) (λ f own at. far f (inr own) at);
        has = λ n there. elim there [
          | inl same ↦ subst (λ (m : Leaf). Member (lone_as m) (named_ids next ids es)) (sym same) (rest.keeps (record { leaf = id; addr = e.link.addr }) first (λ f own at. first_apart e es apart f own at))
          | inr later ↦ rest.has n later
        ];
      }

  -- ---- both

  pub are_more : (lives : List Lone) (ids : List ℕ) (es : List Entry) → length ids ≡ length es → AreDistinct (addrs_in lives) → AreNewAt lives es → AreMore lives (named_ids (held_all leaf lives es) ids es) (leaves_with table ids es)
  are_more lives ids es many distinct new =
      let held = are_held leaf lives es distinct new in
      let named = are_named (held_all leaf lives es) ids es many held.distinct new.distinct held.has in
      record {
        distinct = named.distinct;
        from = λ y there. elim (named.from y there) [
          | inr one ↦ inr one
          | inl old ↦ elim (held.from y old.0) [ inl was ↦ inl was | inr one ↦ absurd (old.1 one.0 one.1 (ap (λ (w : Lone). w.addr.offset) (sym one.2))) ]
        ];
        keeps = λ y there. named.keeps y (held.keeps y there) (λ e mine at. none_of lives (offset_of e) (all_of (λ (z : Entry). has_at lives z.link.addr.offset ≡ false) es e new.none mine) y there (sym at));
        has = named.has;
      }

-- ---- by the leaves in which their keys lie

pub named_is : (d : Directory) (table : ℕ) (lives : List Lone) (ids : List ℕ) (es : List Entry) → length ids ≡ length es → ((n : Leaf) → Member n (leaves_with table ids es) → leaf_under table n.entry.key d.leaves ≡ Some n) → named_all d table lives es ≡ named_ids lives ids es
named_is d table lives [] [] many under = refl
named_is d table lives [] (e ∷ es) many under = absurd (omega (arith, many))
named_is d table lives (id ∷ ids) [] many under = absurd (omega (arith, many))
named_is d table lives (id ∷ ids) (e ∷ es) many under =
    let here = under (new_leaf table id e) (inl refl) in
    ap (λ (l : List Lone). named_all d table l es) (ap (λ (o : Option Leaf). named_if lives e.link.addr.offset (option_map (λ (l : Leaf). l.id) o)) here)
    ∙ named_is d table (named_at lives e.link.addr.offset id) ids es (omega (arith, many)) (λ n there. under n (inr there))

-- ---- by place

-- the last of the first ones is let go of
pub drop_step : (leaf : ℕ) (before lives : List Lone) (es : List Entry) (left : ℕ) (e : Entry) (offset : ℕ) → 0 < left → left ≤ length es → e ≡ get_or es (left - 1) e → offset ≡ offset_of e → AreNewAt before es → lives ≡ held_all leaf before (take left es) → gone_at lives offset ≡ held_all leaf before (take (left - 1) es)
drop_step leaf before lives es left e offset some within is at new held =
    let i : ℕ = left - 1 in
    let back : i + 1 ≡ left = omega (arith, some) in
    let lt : i < length es = omega (arith, some, within) in
    let step : take left es ≡ take i es ++ e ∷ [] = ap (λ (k : ℕ). take k es) (sym back) ∙ (take_more es i e lt ∙ ap (λ (x : Entry). take i es ++ x ∷ []) (sym is)) in
    let first : AreNewAt before (take i es ++ e ∷ []) = new_front before (take i es ++ e ∷ []) (drop left es) (subst (λ (l : List Entry). AreNewAt before l) (sym (take-append-drop left es) ∙ ap (λ (l : List Entry). l ++ drop left es) step) new) in
    ap (λ (l : List Lone). gone_at l offset) (held ∙ ap (λ (l : List Entry). held_all leaf before l) step)
    ∙ (ap (λ (k : ℕ). gone_at (held_all leaf before (take i es ++ e ∷ [])) k) at ∙ held_less leaf before (take i es) e first)

-- the first ones lead to new places
pub new_first : (lives : List Lone) (es : List Entry) (i : ℕ) → AreNewAt lives es → AreNewAt lives (take i es)
new_first lives es i new = new_front lives (take i es) (drop i es) (subst (λ (l : List Entry). AreNewAt lives l) (sym (take-append-drop i es)) new)
