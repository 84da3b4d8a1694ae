-- Checkpoints that calls installed, and one more behind them.
use Rattle.std.proofs.Common.{◌≡◌, ◌⊎◌, ◌≤◌, ℕ, List, [], ◌∷◌, ◌++◌, Option, Some, None, refl, sym, subst, inl, inr, arith}
use Rattle.std.specs.List.{AllByRecursion}
use Rattle.wt_code.specs.declared.refusals.Refusal.{Refusal}
use Rattle.wt_code.specs.declared.refusals.Refusal.TheVariants.{DiskFault}
use Rattle.kv_model.specs.Holds.{Member}
use Rattle.kv_model.specs.Machine.{Completed}
use Rattle.stored.specs.Opens.{Opens}
use Rattle.engine_store.specs.Devices.{Installed, may_open_to, opening_with}
use Rattle.engine_store.specs.Images.{Among, OpensToAny, OpensToOne, Pending, Stays}

-- ---- members

member_last : (ks : List Completed) (k : Completed) → Member k (ks ++ k ∷ [])
member_last [] k = inl refl
member_last (x ∷ ks) k = inr (member_last ks k)

member_front : (ks : List Completed) (k x : Completed) → Member x ks → Member x (ks ++ k ∷ [])
member_front [] k x there = absurd there
member_front (y ∷ ks) k x (inl same) = inl same
member_front (y ∷ ks) k x (inr there) = inr (member_front ks k x there)

member_either : (ks : List Completed) (k x : Completed) → Member x (ks ++ k ∷ []) → Member x ks ⊎ (x ≡ k)
member_either [] k x (inl same) = inr same
member_either [] k x (inr there) = absurd there
member_either (y ∷ ks) k x (inl same) = inl (inl same)
member_either (y ∷ ks) k x (inr there) = elim (member_either ks k x there) [ inl front ↦ inl (inr front) | inr last ↦ inr last ]

among_front : (made : List Installed) (i : Installed) (k : Completed) → Among made k → Among (made ++ i ∷ []) k
among_front [] i k there = absurd there
among_front (j ∷ made) i k (inl same) = inl same
among_front (j ∷ made) i k (inr there) = inr (among_front made i k there)

among_last : (made : List Installed) (i : Installed) → Among (made ++ i ∷ []) i.checkpoint
among_last [] i = inl refl
among_last (j ∷ made) i = inr (among_last made i)

-- ---- to which checkpoints a device may open

pub opens_more : (these : List Completed) (made : List Installed) (i : Installed) → may_open_to these (made ++ i ∷ []) ≡ opening_with (may_open_to these made) i.checkpoint i.refused
opens_more these [] i = refl
opens_more these (j ∷ made) i = opens_more (opening_with these j.checkpoint j.refused) made i

opened_by : (these : List Completed) (k x : Completed) (refused : Option Refusal) → Member x (opening_with these k refused) → Member x these ⊎ (x ≡ k)
opened_by these k x None (inl same) = inr same
opened_by these k x None (inr there) = absurd there
opened_by these k x (Some r) there = member_either these k x there

opened_among : (these : List Completed) (made : List Installed) (k : Completed) → Member k (may_open_to these made) → Member k these ⊎ Among made k
opened_among these [] k there = inl there
opened_among these (i ∷ made) k there = elim (opened_among (opening_with these i.checkpoint i.refused) made k there) [
  | inl front ↦ elim (opened_by these i.checkpoint k i.refused front) [ inl old ↦ inl old | inr same ↦ inr (inl (sym same)) ]
  | inr later ↦ inr (inr later)
]

-- the last one that was installed
pub last_opens : (these : List Completed) (made : List Installed) (i : Installed) → Member i.checkpoint (may_open_to these (made ++ i ∷ []))
last_opens these made i = subst (λ (l : List Completed). Member i.checkpoint l) (sym (opens_more these made i)) (by_refused i.refused)
  where
    by_refused : (refused : Option Refusal) → Member i.checkpoint (opening_with (may_open_to these made) i.checkpoint refused)
    by_refused None = inl refl
    by_refused (Some r) = member_last (may_open_to these made) i.checkpoint

-- and those before it, where a fault at its gate stopped it
pub others_open : (these : List Completed) (made : List Installed) (i : Installed) (r : Refusal) (k : Completed) → i.refused ≡ Some r → Member k (may_open_to these made) → Member k (may_open_to these (made ++ i ∷ []))
others_open these made i r k stopped there =
    subst (λ (l : List Completed). Member k l) (sym (opens_more these made i))
    (subst (λ (o : Option Refusal). Member k (opening_with (may_open_to these made) i.checkpoint o)) (sym stopped)
    (member_front (may_open_to these made) i.checkpoint k there))

-- ---- what an image opens to

pub any_more : (these : List Completed) (made : List Installed) (i : Installed) (r : Refusal) (c : List ℕ) → i.refused ≡ Some r → OpensToAny (may_open_to these made) c → OpensToAny (may_open_to these (made ++ i ∷ [])) c
any_more these made i r c stopped (k, there, opens) = (k, others_open these made i r k stopped there, opens)

pub any_last : (these : List Completed) (made : List Installed) (i : Installed) (c : List ℕ) → Opens c i.checkpoint → OpensToAny (may_open_to these (made ++ i ∷ [])) c
any_last these made i c opens = (i.checkpoint, last_opens these made i, opens)

pub any_one : (first : Completed) (made : List Installed) (c : List ℕ) → OpensToAny (may_open_to (first ∷ []) made) c → OpensToOne first made c
any_one first made c (k, there, opens) = elim (opened_among (first ∷ []) made k there) [
  | inl (inl same) ↦ inl (subst (λ (x : Completed). Opens c x) same opens)
  | inl (inr none) ↦ absurd none
  | inr later ↦ inr (k, later, opens)
]

pub one_more : (first : Completed) (made : List Installed) (i : Installed) (c : List ℕ) → OpensToOne first made c → OpensToOne first (made ++ i ∷ []) c
one_more first made i c (inl opens) = inl opens
one_more first made i c (inr (k, there, opens)) = inr (k, among_front made i k there, opens)

pub one_last : (first : Completed) (made : List Installed) (i : Installed) (c : List ℕ) → Opens c i.checkpoint → OpensToOne first (made ++ i ∷ []) c
one_last first made i c opens = inr (i.checkpoint, among_last made i, opens)

-- since one that was done it opens to that one, or to a later one
since_done : (these : List Completed) (i : Installed) (made : List Installed) (c : List ℕ) → i.refused ≡ None → OpensToAny (may_open_to these (i ∷ made)) c → OpensToOne i.checkpoint made c
since_done these i made c done any =
    any_one i.checkpoint made c (subst (λ (o : Option Refusal). OpensToAny (may_open_to (opening_with these i.checkpoint o) made) c) done any)

-- ---- pending ones

pub pending_last : (made : List Installed) (i : Installed) → i.refused ≡ Some DiskFault → Pending (made ++ i ∷ []) i.checkpoint
pending_last [] i stopped = inl (stopped, refl, tt)
pending_last (j ∷ made) i stopped = inr (pending_last made i stopped)

-- ---- moments

pub past_later : (made : List Installed) (before after : ℕ) → before ≤ after → AllByRecursion (λ (i : Installed). i.at ≤ before) made → AllByRecursion (λ (i : Installed). i.at ≤ after) made
past_later [] before after le past = tt
past_later (i ∷ made) before after le past = (omega (arith, le, past.0), past_later made before after le past.1)

pub past_more : (made : List Installed) (i : Installed) (before after : ℕ) → before ≤ after → i.at ≤ after → AllByRecursion (λ (j : Installed). j.at ≤ before) made → AllByRecursion (λ (j : Installed). j.at ≤ after) (made ++ i ∷ [])
past_more [] i before after le own past = (own, tt)
past_more (j ∷ made) i before after le own past = (omega (arith, le, past.0), past_more made i before after le own past.1)

-- ---- what a call leaves, of which each crash since a moment before it is one from before or has P

module _ (past since : ℕ → List ℕ → Type 0) (before : ℕ) (P : List ℕ → Type 0) (goes : (t : ℕ) (c : List ℕ) → t ≤ before → since t c → past t c ⊎ P c) where
  -- nothing was installed
  pub stays_on : (these : List Completed) (made : List Installed) → ((c : List ℕ) → P c → OpensToAny (may_open_to these made) c) → AllByRecursion (λ (i : Installed). i.at ≤ before) made → Stays past made → Stays since made
  stays_on these [] each le stays = tt
  stays_on these (i ∷ made) each le stays = (
    λ done c left. elim (goes i.at c le.0 left) [
      | inl old ↦ stays.0 done c old
      | inr p ↦ since_done these i made c done (each c p)
    ],
    stays_on (opening_with these i.checkpoint i.refused) made each le.1 stays.1,
  )

  -- this one was, or was being installed
  pub stays_more : (these : List Completed) (made : List Installed) (own : Installed) → ((c : List ℕ) → P c → OpensToAny (may_open_to these made) c ⊎ Opens c own.checkpoint) → (own.refused ≡ None → (c : List ℕ) → since own.at c → Opens c own.checkpoint)
      → AllByRecursion (λ (i : Installed). i.at ≤ before) made → Stays past made → Stays since (made ++ own ∷ [])
  stays_more these [] own each now le stays = ((λ done c left. inl (now done c left)), tt)
  stays_more these (i ∷ made) own each now le stays = (
    λ done c left. elim (goes i.at c le.0 left) [
      | inl old ↦ one_more i.checkpoint made own c (stays.0 done c old)
      | inr p ↦ elim (each c p) [
        | inl any ↦ one_more i.checkpoint made own c (since_done these i made c done any)
        | inr new ↦ one_last i.checkpoint made own c new
      ]
    ],
    stays_more (opening_with these i.checkpoint i.refused) made own each now le.1 stays.1,
  )
