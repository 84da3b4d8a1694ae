-- The leaves that were written since of tables that a checkpoint does not have.
use Rattle.std.specs.Prelude.{◌≡◌, ◌⊎◌, ℕ, ◌+◌, ◌<◌, ◌≤◌, ◌==◌, nat_lt, true, false, List, [], ◌∷◌, length, take, slice_get, Some, refl}
use Rattle.std.specs.List.{AllByRecursion, Contains}
use Rattle.std.proofs.Common.{inl, inr, sym, ◌∙◌, ap, subst, arith}
use Rattle.std.proofs.lemmas.Bool.{cases_Bool, cases_eq, cases_lt, eq-eqb, false≢true, le-ltb, lt-ltb, ne_eqb}
use Rattle.std.proofs.lemmas.Option.{slice_get_within}
use Rattle.catalog.specs.Known.{NumbersAscend}
use Rattle.device_layout.specs.declared.addr.Addr.{Addr}
use Rattle.engine_world.proofs.Homes.{same-id}
use Rattle.kv_model.specs.History.{Table}
use Rattle.kv_model.specs.Holds.{Member}
use Rattle.tree_dir.specs.declared.leaf.Leaf.{Leaf}
use Rattle.tree_dir.specs.Leaves.{Directory, IsDirectory, leaves_of}
use Rattle.tree_write.specs.Captures.{AreDistinct}
use Rattle.ckpt_step.specs.Grounds.{AreLedTo}
use Rattle.ckpt_step.specs.Holding.{lone_as, put_lone, with_all_live, with_live}
use Rattle.ckpt_step.specs.Lives.{AreOfOthers, IsOfOther, addrs_in, is_live}
use Rattle.ckpt_step.specs.declared.lives.Lone.{Lone}
use Rattle.ckpt_step.proofs.ByPlace.{place_one}
use Rattle.ckpt_step.proofs.FirstOnes.{take_get}
use Rattle.ckpt_step.proofs.FirstTables.{taken_get}
use Rattle.ckpt_step.proofs.Lones.{one_lone}
use Rattle.ckpt_step.proofs.Members.{all_made, all_of, get_member, member_at, member_map, some_same}
use Rattle.ckpt_step.proofs.OutLives.{live_by}
use Rattle.ckpt_step.proofs.TableLeaves.{contains_of, in_table, member_of, table_in}

-- ---- in the order of their offsets

abbrev pub AreSorted : List Lone → Type 0
AreSorted [] = Unit {0}
AreSorted (x ∷ lives) = AllByRecursion (λ (y : Lone). x.addr.offset < y.addr.offset) lives × AreSorted lives

pub sorted_distinct : (lives : List Lone) → AreSorted lives → AreDistinct (addrs_in lives)
sorted_distinct [] sorted = tt
sorted_distinct (x ∷ lives) sorted = (
  all_made (λ (a : Addr). a.offset ≡ x.addr.offset → ⊥) (addrs_in lives) (λ a there same.
      let one = member_map {A = Lone} {B = Addr} (λ y. y.addr) a lives there in
      let above = all_of (λ (y : Lone). x.addr.offset < y.addr.offset) lives one.0 sorted.0 one.1 in
      omega (arith, above, same, ap (λ (b : Addr). b.offset) one.2)),
  sorted_distinct lives sorted.1,
)

-- ---- one more, whatever there is

-- in the place of one, before the first, or behind it
which_put : (x y : Lone) (lives : List Lone) → ((x.addr.offset ≡ y.addr.offset) × (put_lone x (y ∷ lives) ≡ x ∷ lives)) ⊎ (((x.addr.offset < y.addr.offset) × (put_lone x (y ∷ lives) ≡ x ∷ y ∷ lives)) ⊎ ((y.addr.offset < x.addr.offset) × (put_lone x (y ∷ lives) ≡ y ∷ put_lone x lives)))
which_put x y lives = elim (cases_eq x.addr.offset y.addr.offset) [
  | inl same ↦
      let is : (x.addr.offset == y.addr.offset) ≡ true = eq-eqb x.addr.offset y.addr.offset same in
      inl (same, rw is refl)
  | inr differ ↦
      let isnt : (x.addr.offset == y.addr.offset) ≡ false = ne_eqb x.addr.offset y.addr.offset differ in
      elim (cases_lt x.addr.offset y.addr.offset) [
        | inl less ↦
            let low : nat_lt x.addr.offset y.addr.offset ≡ true = lt-ltb x.addr.offset y.addr.offset less in
            inr (inl (less, rw (isnt, low) refl))
        | inr most ↦
            let more : y.addr.offset < x.addr.offset = omega (arith, most, differ) in
            let high : nat_lt x.addr.offset y.addr.offset ≡ false = le-ltb x.addr.offset y.addr.offset (omega (arith, more)) in
            inr (inr (more, rw (isnt, high) refl))
      ]
]

module _ (x : Lone) where
  put_in : (lives : List Lone) (y : Lone) → Member y (put_lone x lives) → (y ≡ x) ⊎ Member y lives
  put_in [] y (inl same) = inl same
  put_in [] y (inr there) = absurd there
  put_in (z ∷ lives) y there = elim (which_put x z lives) [
    | inl at ↦ elim (subst (λ (l : List Lone). Member y l) at.1 there) [ inl same ↦ inl same | inr later ↦ inr (inr later) ]
    | inr other ↦ elim other [
      | inl less ↦ subst (λ (l : List Lone). Member y l) less.1 there
      | inr more ↦ elim (subst (λ (l : List Lone). Member y l) more.1 there) [
        | inl same ↦ inr (inl same)
        | inr later ↦ elim (put_in lives y later) [ inl mine ↦ inl mine | inr old ↦ inr (inr old) ]
      ]
    ]
  ]

  put_has : (lives : List Lone) → Member x (put_lone x lives)
  put_has [] = inl refl
  put_has (z ∷ lives) = elim (which_put x z lives) [
    | inl at ↦ subst (λ (l : List Lone). Member x l) (sym at.1) (inl refl)
    | inr other ↦ elim other [
      | inl less ↦ subst (λ (l : List Lone). Member x l) (sym less.1) (inl refl)
      | inr more ↦ subst (λ (l : List Lone). Member x l) (sym more.1) (inr (put_has lives))
    ]
  ]

  put_stays : (lives : List Lone) (y : Lone) → Member y lives → (y.addr.offset ≡ x.addr.offset → y ≡ x) → Member y (put_lone x lives)
  put_stays [] y there one = absurd there
  put_stays (z ∷ lives) y there one = elim (which_put x z lives) [
    | inl at ↦ subst (λ (l : List Lone). Member y l) (sym at.1) (elim there [ inl same ↦ inl (one (ap (λ (w : Lone). w.addr.offset) same ∙ sym at.0)) | inr later ↦ inr later ])
    | inr other ↦ elim other [
      | inl less ↦ subst (λ (l : List Lone). Member y l) (sym less.1) (inr there)
      | inr more ↦ subst (λ (l : List Lone). Member y l) (sym more.1) (elim there [ inl same ↦ inl same | inr later ↦ inr (put_stays lives y later one) ])
    ]
  ]

  put_sorted : (lives : List Lone) → AreSorted lives → AreSorted (put_lone x lives)
  put_sorted [] sorted = (tt, tt)
  put_sorted (z ∷ lives) sorted = elim (which_put x z lives) [
    | inl at ↦ subst AreSorted (sym at.1) (
      all_made (λ (y : Lone). x.addr.offset < y.addr.offset) lives (λ y there. omega (arith, at.0, all_of (λ (w : Lone). z.addr.offset < w.addr.offset) lives y sorted.0 there)),
      sorted.1,
    )
    | inr other ↦ elim other [
      | inl less ↦ subst AreSorted (sym less.1) (
        all_made (λ (y : Lone). x.addr.offset < y.addr.offset) (z ∷ lives) (λ y there. elim there [
          | inl same ↦ omega (arith, less.0, ap (λ (w : Lone). w.addr.offset) same)
          | inr later ↦ omega (arith, less.0, all_of (λ (w : Lone). z.addr.offset < w.addr.offset) lives y sorted.0 later)
        ]),
        sorted,
      )
      | inr more ↦ subst AreSorted (sym more.1) (
        all_made (λ (y : Lone). z.addr.offset < y.addr.offset) (put_lone x lives) (λ y there. elim (put_in lives y there) [
          | inl same ↦ omega (arith, more.0, ap (λ (w : Lone). w.addr.offset) same)
          | inr old ↦ all_of (λ (w : Lone). z.addr.offset < w.addr.offset) lives y sorted.0 old
        ]),
        put_sorted lives sorted.1,
      )
    ]
  ]

-- ---- those of some leaves

module _ (lives : List Lone) (distinct : AreDistinct (addrs_in lives)) where
  -- beside those that were there
  pub record AreAdded (others next : List Lone) (ls : List Leaf) : Type 0 where
    pub sorted : AreSorted next
    pub from : (x : Lone) → Member x next → Member x others ⊎ ((l : Leaf) × Member l ls × (is_live lives l ≡ true) × (x ≡ lone_as l))
    pub keeps : (x : Lone) → Member x others → Member x next
    pub has : (l : Leaf) → Member l ls → is_live lives l ≡ true → Member (lone_as l) next

  pub are_added : (others : List Lone) (ls : List Leaf) → AreSorted others → ((x : Lone) → Member x others → Member x lives) → ((l : Leaf) → Member l ls → is_live lives l ≡ true → Member (lone_as l) lives) → AreAdded others (with_all_live lives others ls) ls
  are_added others [] sorted among own = record { sorted = sorted; from = λ x there. inl there; keeps = λ x there. there; has = λ l there live. absurd there }
  are_added others (l ∷ ls) sorted among own = elim (cases_Bool (is_live lives l)) [
    | inr dead ↦
        let same : with_live lives others l ≡ others = rw dead refl in
        let rest = are_added others ls sorted among (λ m there. own m (inr there)) in
        subst (λ (o : List Lone). AreAdded others (with_all_live lives o ls) (l ∷ ls)) (sym same) (record {
          sorted = rest.sorted;
          from = λ x there. elim (rest.from x there) [ inl old ↦ inl old | inr new ↦ inr (new.0, inr new.1, new.2, new.3) ];
          keeps = rest.keeps;
          has = λ m there live. elim there [
            | inl is ↦ absurd (false≢true (sym dead ∙ subst (λ (y : Leaf). is_live lives y ≡ true) is live))
            | inr later ↦ rest.has m later live
          ];
        })
    | inl live ↦
        let x = lone_as l in
        let mine : Member x lives = own l (inl refl) live in
        let same : with_live lives others l ≡ put_lone x others = rw live refl in
        let rest = are_added (put_lone x others) ls (put_sorted x others sorted) (λ y there. elim (put_in x others y there) [ inl is ↦ subst (λ (w : Lone). Member w lives) (sym is) mine | inr old ↦ among y old ]) (λ m there. own m (inr there)) in
        subst (λ (o : List Lone). AreAdded others (with_all_live lives o ls) (l ∷ ls)) (sym same) (record {
          sorted = rest.sorted;
          from = λ y there. elim (rest.from y there) [
            | inl mid ↦ elim (put_in x others y mid) [ inl is ↦ inr (l, inl refl, live, is) | inr old ↦ inl old ]
            | inr new ↦ inr (new.0, inr new.1, new.2, new.3)
          ];
          keeps = λ y there. rest.keeps y (put_stays x others y there (λ at. one_lone lives y x distinct (among y there) mine at));
          has = λ m there also. elim there [
            | inl is ↦ subst (λ (k : Leaf). Member (lone_as k) (with_all_live lives (put_lone x others) ls)) (sym is) (rest.keeps x (put_has x others))
            | inr later ↦ rest.has m later also
          ];
        })
  ]

-- ---- by the places of their tables

-- it is that of a leaf of a table at one of these places
pub record IsOther (known : List Table) (leaves : List Leaf) (lives : List Lone) (from to : ℕ) (x : Lone) : Type 0 where
  pub place : ℕ
  pub low : from ≤ place
  pub high : place < to
  pub table : Table
  pub at : slice_get known place ≡ Some table
  pub leaf : Leaf
  pub there : Member leaf (leaves_of table.number leaves)
  pub live : is_live lives leaf ≡ true
  pub is : x ≡ lone_as leaf

pub record AreOthersTo (known : List Table) (leaves : List Leaf) (lives others : List Lone) (from to : ℕ) : Type 0 where
  pub each : (x : Lone) → Member x others → IsOther known leaves lives from to x
  pub has : (j : ℕ) (t : Table) (l : Leaf) → from ≤ j → j < to → slice_get known j ≡ Some t → Member l (leaves_of t.number leaves) → is_live lives l ≡ true → Member (lone_as l) others
  pub sorted : AreSorted others

pub none_yet : (known : List Table) (leaves : List Leaf) (lives : List Lone) (from : ℕ) → AreOthersTo known leaves lives [] from from
none_yet known leaves lives from = record { each = λ x there. absurd there; has = λ j t l low high at there live. absurd (omega (arith, low, high)); sorted = tt }

module _ (known : List Table) (leaves : List Leaf) (lives : List Lone) (distinct : AreDistinct (addrs_in lives)) (own : (l : Leaf) → Contains leaves l → is_live lives l ≡ true → Member (lone_as l) lives) (others : List Lone) (from to : ℕ) (so_far : AreOthersTo known leaves lives others from to) where
  -- each is one of those that were written since
  among : (x : Lone) → Member x others → Member x lives
  among x there =
      let one = so_far.each x there in
      subst (λ (w : Lone). Member w lives) (sym one.is) (own one.leaf (contains_of leaves one.leaf (in_table one.table.number leaves one.leaf one.there).0) one.live)

  -- with those of the next table
  pub one_more : (next : List Lone) (t : Table) → from ≤ to → slice_get known to ≡ Some t → next ≡ with_all_live lives others (leaves_of t.number leaves) → AreOthersTo known leaves lives next from (to + 1)
  one_more next t low at is =
      let ls = leaves_of t.number leaves in
      let added = are_added lives distinct others ls so_far.sorted among (λ l there live. own l (contains_of leaves l (in_table t.number leaves l there).0) live) in
      subst (λ (o : List Lone). AreOthersTo known leaves lives o from (to + 1)) (sym is) (record {
        each = λ x there. elim (added.from x there) [
          | inl old ↦ (let one = so_far.each x old in record { place = one.place; low = one.low; high = omega (arith, one.high); table = one.table; at = one.at; leaf = one.leaf; there = one.there; live = one.live; is = one.is })
          | inr new ↦ record { place = to; low = low; high = omega arith; table = t; at = at; leaf = new.0; there = new.1; live = new.2; is = new.3 }
        ];
        has = λ j u l least most stands there live. elim (cases_eq j to) [
          | inl same ↦
              let table : u ≡ t = some_same (sym stands ∙ (ap (λ (k : ℕ). slice_get known k) same ∙ at)) in
              added.has l (subst (λ (y : Table). Member l (leaves_of y.number leaves)) table there) live
          | inr other ↦ added.keeps (lone_as l) (so_far.has j u l least (omega (arith, most, other)) stands there live)
        ];
        sorted = added.sorted;
      })

-- all of them are those of the tables behind the first ones
pub all_others : (d : Directory) (known : List Table) (next : ℕ) (lives others : List Lone) (from to : ℕ) → IsDirectory d → NumbersAscend 1 known next → ((l : Leaf) → Contains d.leaves l → is_live lives l ≡ true → Member (lone_as l) lives) → AreLedTo known lives d.leaves → length known ≤ to → AreOthersTo known d.leaves lives others from to → AreOfOthers (take from known) d.leaves lives others
all_others d known next lives others from to is ascend own led all so_far = record {
  each = λ x there.
      let one = so_far.each x there in
      let l = one.leaf in
      let its = in_table one.table.number d.leaves l one.there in
      let contains = contains_of d.leaves l its.0 in
      let other : IsOfOther (take from known) l = λ u mine same.
      let j = member_at u (take from known) mine in
      let two = take_get from known j.0 u j.1 in
      let met = place_one 1 known next one.place j.0 one.table u ascend one.at two.0 (sym its.1 ∙ same) in
      omega (arith, met, one.low, two.1) in (
        subst (λ (w : Lone). Member w lives) (sym one.is) (own l contains one.live),
        (l, contains, ap (λ (w : Lone). w.leaf) (sym one.is), ap (λ (w : Lone). w.addr) (sym one.is), other),
      );
  all = λ l there other live.
      let x = lone_as l in
      let one = led x (own l there live) in
      let same : one.leaf ≡ l = same-id d one.leaf l is one.there there one.id in
      let its : l.table ≡ one.table.number = ap (λ (y : Leaf). y.table) (sym same) ∙ one.own in
      elim (cases_lt one.place from) [
        | inl low ↦ absurd (other one.table (get_member (take from known) one.place one.table (taken_get from known one.place one.table one.at low)) its)
        | inr high ↦
            let has = so_far.has one.place one.table l high (omega (arith, all, slice_get_within known one.place one.table one.at)) one.at (table_in one.table.number d.leaves l (member_of d.leaves l there) its) live in
            live_by others x l (sorted_distinct others so_far.sorted) has refl refl
      ];
  distinct = λ was. sorted_distinct others so_far.sorted;
}
