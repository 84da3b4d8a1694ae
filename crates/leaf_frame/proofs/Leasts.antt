-- The least id of the updates that are not seen, chain by chain.
use Rattle.std.proofs.Common.{◌≡◌, ◌≢◌, ◌∙◌, ◌⊎◌, ℕ, zero, suc, ◌+◌, ◌<◌, ◌≤◌, true, List, [], ◌∷◌, length, drop, Option, Some, None, refl, sym, ap, subst, inl, inr, arith}
use Rattle.std.specs.Prelude.{MatchOption, bytes_eq, min, slice_get}
use Rattle.std.proofs.lemmas.Bool.{both_ways, cases_Bool, cases_lt}
use Rattle.std.proofs.lemmas.Option.{same_Some}
use Rattle.kv_model.specs.Holds.{Member}
use Rattle.snapshot.specs.Sight.{Sight, is_seen}
use Rattle.update_chain.specs.declared.update.Update.{Update}
use Rattle.leaf_chains.specs.declared.slot.KeyChain.{KeyChain}
use Rattle.leaf_chains.specs.Slots.{chain_at}
use Rattle.leaf_chains.specs.Nearest.{IsWayUp}
use Rattle.reconcile.specs.Gathered.{slots_at}
use Rattle.reconcile.proofs.Gathering.{chain_member, climbs, way_chain}
use Rattle.leaf_frame.specs.Updates.{AllSeen, HasUpdate, IsLeastUnseen, IsUnseen, least_in, least_of, lesser, unseen_id}

-- ---- one after the other

pub lesser_one : (a b c : Option ℕ) → lesser a (lesser b c) ≡ lesser (lesser a b) c
lesser_one None b c = refl
lesser_one (Some x) None c = refl
lesser_one (Some x) (Some y) None = refl
lesser_one (Some x) (Some y) (Some z) = ap (λ (n : ℕ). Some n) (let same : min x (min y z) ≡ min (min x y) z = omega arith in same)

pub lesser_none : (a : Option ℕ) → lesser a None ≡ a
lesser_none None = refl
lesser_none (Some x) = refl

drop_update : (chain : List Update) (i : ℕ) (u : Update) → slice_get chain i ≡ Some u → drop i chain ≡ u ∷ drop (i + 1) chain
drop_update [] i u is = absurd cc
drop_update (x ∷ chain) zero u is = ap (λ (y : Update). y ∷ chain) (same_Some x u is)
drop_update (x ∷ chain) (suc i) u is =
    let one : suc (i + 1) ≡ suc i + 1 = omega arith in
    drop_update chain i u is ∙ ap (λ (n : ℕ). u ∷ drop n (x ∷ chain)) one

drop_end : (chain : List Update) (i : ℕ) → length chain ≤ i → drop i chain ≡ []
drop_end [] zero le = refl
drop_end [] (suc i) le = refl
drop_end (x ∷ chain) zero le = absurd (omega (arith, le))
drop_end (x ∷ chain) (suc i) le = drop_end chain i (omega (arith, le))

pub never_past : (chain : List Update) (i : ℕ) → slice_get chain i ≡ None → i < length chain → ⊥
never_past [] i none lt = omega (arith, lt)
never_past (x ∷ chain) zero none lt = absurd cc
never_past (x ∷ chain) (suc i) none lt = never_past chain i none (omega (arith, lt))

pub next_update : (s : Sight) (chain : List Update) (i : ℕ) (u : Update) (least all : Option ℕ) → slice_get chain i ≡ Some u → lesser least (least_in s (drop i chain)) ≡ all → lesser (lesser least (unseen_id s u)) (least_in s (drop (i + 1) chain)) ≡ all
next_update s chain i u least all is so =
    sym (lesser_one least (unseen_id s u) (least_in s (drop (i + 1) chain))) ∙ (ap (λ (l : List Update). lesser least (least_in s l)) (sym (drop_update chain i u is)) ∙ so)

pub last_update : (s : Sight) (chain : List Update) (i : ℕ) (least all : Option ℕ) → length chain ≤ i → lesser least (least_in s (drop i chain)) ≡ all → least ≡ all
last_update s chain i least all end so = sym (lesser_none least) ∙ (ap (λ (l : List Update). lesser least (least_in s l)) (sym (drop_end chain i end)) ∙ so)

-- ---- what a least id says of updates

record LeastBy (P : Update → Type 0) (s : Sight) (id : ℕ) : Type 0 where
  update : Update
  there : P update
  unseen : IsUnseen s update
  is : update.version.window.name.id ≡ id
  least : (u : Update) → P u → IsUnseen s u → id ≤ u.version.window.name.id

abbrev Tells : (Update → Type 0) → Sight → Option ℕ → Type 0
Tells P s o = MatchOption o ((u : Update) → P u → is_seen s u.version.window.name ≡ true) (LeastBy P s)

both : (P Q R : Update → Type 0) (s : Sight) → ((u : Update) → R u → P u ⊎ Q u) → ((u : Update) → P u → R u) → ((u : Update) → Q u → R u) → (a b : Option ℕ) → Tells P s a → Tells Q s b → Tells R s (lesser a b)
both P Q R s split one two None None p q = λ u there. elim (split u there) [ inl x ↦ p u x | inr y ↦ q u y ]
both P Q R s split one two None (Some b) p q = record {
  update = q.update;
  there = two q.update q.there;
  unseen = q.unseen;
  is = q.is;
  least = λ u there un. elim (split u there) [ inl x ↦ absurd (both_ways (is_seen s u.version.window.name) un (p u x)) | inr y ↦ q.least u y un ];
}
both P Q R s split one two (Some a) None p q = record {
  update = p.update;
  there = one p.update p.there;
  unseen = p.unseen;
  is = p.is;
  least = λ u there un. elim (split u there) [ inl x ↦ p.least u x un | inr y ↦ absurd (both_ways (is_seen s u.version.window.name) un (q u y)) ];
}
both P Q R s split one two (Some a) (Some b) p q = elim (cases_lt b a) [
  | inl less ↦ record {
    update = q.update;
    there = two q.update q.there;
    unseen = q.unseen;
    is = (let is = q.is in omega (arith, is, less));
    least = λ u there un. elim (split u there) [ inl x ↦ (let le = p.least u x un in omega (arith, le)) | inr y ↦ (let le = q.least u y un in omega (arith, le)) ];
  }
  | inr more ↦ record {
    update = p.update;
    there = one p.update p.there;
    unseen = p.unseen;
    is = (let is = p.is in omega (arith, is, more));
    least = λ u there un. elim (split u there) [ inl x ↦ (let le = p.least u x un in omega (arith, le)) | inr y ↦ (let le = q.least u y un in omega (arith, le)) ];
  }
]

alone : (s : Sight) (u : Update) → Tells (λ v. v ≡ u) s (unseen_id s u)
alone s u = elim (cases_Bool (is_seen s u.version.window.name)) [
  | inl seen ↦ rw seen (λ v is. ap (λ (w : Update). is_seen s w.version.window.name) is ∙ seen)
  | inr unseen ↦ rw unseen (record { update = u; there = refl; unseen = unseen; is = refl; least = λ v is un. (let same = ap (λ (w : Update). w.version.window.name.id) is in omega (arith, same)) })
]

of_chain : (s : Sight) (chain : List Update) → Tells (λ v. Member v chain) s (least_in s chain)
of_chain s [] = λ u there. absurd there
of_chain s (u ∷ older) = both (λ v. v ≡ u) (λ v. Member v older) (λ v. Member v (u ∷ older)) s (λ v there. there) (λ v is. inl is) (λ v there. inr there) (unseen_id s u) (least_in s older) (alone s u) (of_chain s older)

-- an update of one of these chains
abbrev InChains : Update → List KeyChain → Type 0
InChains u [] = ⊥
InChains u (c ∷ chains) = Member u c.chain ⊎ InChains u chains

of_chains : (s : Sight) (chains : List KeyChain) → Tells (λ v. InChains v chains) s (least_of s chains)
of_chains s [] = λ u there. absurd there
of_chains s (c ∷ chains) =
    both (λ v. Member v c.chain) (λ v. InChains v chains) (λ v. InChains v (c ∷ chains)) s (λ v there. there) (λ v there. inl there) (λ v there. inr there) (least_in s c.chain) (least_of s chains) (of_chain s c.chain) (of_chains s chains)

-- ---- along the whole way

which : (u : Update) (chains : List KeyChain) → InChains u chains → (c : KeyChain) × Member c chains × Member u c.chain
which u [] there = absurd there
which u (c ∷ chains) (inl here) = (c, inl refl, here)
which u (c ∷ chains) (inr later) = let w = which u chains later in (w.0, inr w.1, w.2)

keyed : (u : Update) (key : List ℕ) (chains : List KeyChain) → Member u (chain_at key chains) → InChains u chains
keyed u key [] there = absurd there
keyed u key (c ∷ chains) there = elim (cases_Bool (bytes_eq c.key key)) [ inl t ↦ inl (rw t at there) | inr f ↦ inr (keyed u key chains (rw f at there)) ]

into : (slots : List KeyChain) (way : List ℕ) → IsWayUp None slots way → (u : Update) → HasUpdate u slots → InChains u (slots_at slots way)
into slots way w u has = keyed u has.0 (slots_at slots way) (subst (λ (c : List Update). Member u c) (sym (way_chain slots way has.0 w)) has.1)

out : (slots : List KeyChain) (way : List ℕ) → IsWayUp None slots way → (u : Update) → InChains u (slots_at slots way) → HasUpdate u slots
out slots way w u there =
    let c = which u (slots_at slots way) there in
    (c.0.key, subst (λ (l : List Update). Member u l) (sym (chain_member (slots_at slots way) c.0 (climbs slots way w.ascends) c.1) ∙ way_chain slots way c.0.key w) c.2)

pub is_least : (s : Sight) (slots : List KeyChain) (way : List ℕ) (o : Option ℕ) → IsWayUp None slots way → o ≡ least_of s (slots_at slots way) → MatchOption o (AllSeen s slots) (IsLeastUnseen s slots)
is_least s slots way o w is = by o (subst (λ (p : Option ℕ). Tells (λ v. InChains v (slots_at slots way)) s p) (sym is) (of_chains s (slots_at slots way))) where
  by : (o : Option ℕ) → Tells (λ v. InChains v (slots_at slots way)) s o → MatchOption o (AllSeen s slots) (IsLeastUnseen s slots)
  by None all = λ u has. all u (into slots way w u has)
  by (Some id) least = record { update = least.update; there = out slots way w least.update least.there; unseen = least.unseen; is = least.is; least = λ u has un. least.least u (into slots way w u has) un }

-- ---- whether there is an update

pub some_chain : (chain : List Update) (key : List ℕ) (slots : List KeyChain) → chain_at key slots ≡ chain → (length chain ≡ 0 → ⊥) → chain_at key slots ≢ []
some_chain chain key slots is some none = some (ap (λ (l : List Update). length l) (sym is ∙ none))
