-- A transaction that is taken out, changed, and put back.
use Rattle.std.proofs.Common.{◌≡◌, ◌∙◌, ap, sym, ℕ, List}
use Rattle.std.specs.Prelude.{Option, Some, None, option_map, slice_index_or, slice_set}
use Rattle.std.proofs.lemmas.List.{set-set, set-get_or}
use Rattle.kv_model.specs.Machine.{Machine, Transaction, Phase, Running, Failed, Prepared, Resolving, Leaving, PrepareAt, CommitAt, StartLeaving, transaction_of, of_some, prepared, decided, left, after}
use Rattle.kv_plain.specs.After.{left_taken}

pub put-back : (before without after : List (Option Transaction)) (s : ℕ) (o p : Option Transaction) (change : Transaction → Transaction)
    → after ≡ slice_set without s p → without ≡ slice_set before s None → p ≡ option_map change o → o ≡ slice_index_or before s None
    → after ≡ slice_set before s (option_map change (slice_index_or before s None))
put-back before without after s o p change put taken changed was =
    put ∙ (ap (λ l. slice_set l s p) taken ∙ (set-set before s None p ∙ ap (slice_set before s) (changed ∙ ap (option_map change) was)))

abbrev taken : Machine → ℕ → Machine
taken m s = record m { sessions = slice_set m.sessions s None }

twice : (m : Machine) (s : ℕ) (o : Option Transaction) → slice_set (slice_set m.sessions s None) s o ≡ slice_set m.sessions s o
twice m s o = set-set m.sessions s None o

-- where nobody sat, taking changes nothing
nothing-taken : (m : Machine) (s : ℕ) → transaction_of m s ≡ None → taken m s ≡ m
nothing-taken m s none = ap (λ l. record m { sessions = l }) (ap (slice_set m.sessions s) (sym none) ∙ set-get_or m.sessions s None)

prepared-over : (m : Machine) (s stamp : ℕ) (t : Transaction) → prepared (taken m s) s stamp t ≡ prepared m s stamp t
prepared-over m s stamp t = ap (λ l. record (prepared m s stamp t) { sessions = l }) (twice m s _)

decided-over : (p : Phase) (m : Machine) (s c d : ℕ) (t : Transaction) → decided p (taken m s) s c d t ≡ decided p m s c d t
decided-over Running m s c d t = ap (λ l. record (decided Running m s c d t) { sessions = l }) (twice m s None)
decided-over Failed m s c d t = ap (λ l. record (decided Failed m s c d t) { sessions = l }) (twice m s None)
decided-over (Prepared p) m s c d t = ap (λ l. record (decided (Prepared p) m s c d t) { sessions = l }) (twice m s _)
decided-over Resolving m s c d t = ap (λ l. record (decided Resolving m s c d t) { sessions = l }) (twice m s None)
decided-over Leaving m s c d t = ap (λ l. record (decided Leaving m s c d t) { sessions = l }) (twice m s None)

left-over : (p : Phase) (m : Machine) (s : ℕ) (t : Transaction) → transaction_of m s ≡ Some t → left_taken p (taken m s) s t ≡ left p m s t
left-over Running m s t there = ap (λ l. record (left Running m s t) { sessions = l }) (twice m s _)
left-over Failed m s t there = ap (λ l. record (left Failed m s t) { sessions = l }) (twice m s _)
left-over (Prepared p) m s t there = ap (λ l. record (left (Prepared p) m s t) { sessions = l }) (twice m s _)
left-over Resolving m s t there = ap (λ l. record m { sessions = l }) (twice m s (Some t) ∙ (ap (slice_set m.sessions s) (sym there) ∙ set-get_or m.sessions s None))
left-over Leaving m s t there = ap (λ l. record (left Leaving m s t) { sessions = l }) (twice m s _)

-- an event of the session's transaction, if there is one
event-none : (m n : Machine) (s : ℕ) (f : Transaction → Machine) → n ≡ taken m s → None ≡ transaction_of m s → n ≡ of_some m f (transaction_of m s)
event-none m n s f is none = is ∙ (nothing-taken m s (sym none) ∙ ap (of_some m f) none)

pub prepare-none : (m n : Machine) (s stamp : ℕ) → n ≡ taken m s → None ≡ transaction_of m s → n ≡ after m (PrepareAt s stamp)
prepare-none m n s stamp is none = event-none m n s (prepared m s stamp) is none

pub commit-none : (m n : Machine) (s c d : ℕ) → n ≡ taken m s → None ≡ transaction_of m s → n ≡ after m (CommitAt s c d)
commit-none m n s c d is none = event-none m n s (λ (t : Transaction). decided t.phase m s c d t) is none

pub leave-none : (m n : Machine) (s : ℕ) → n ≡ taken m s → None ≡ transaction_of m s → n ≡ after m (StartLeaving s)
leave-none m n s is none = event-none m n s (λ (t : Transaction). left t.phase m s t) is none

pub prepare-some : (m n r : Machine) (s stamp : ℕ) (t : Transaction) → n ≡ taken m s → Some t ≡ transaction_of m s → r ≡ prepared n s stamp t → r ≡ after m (PrepareAt s stamp)
prepare-some m n r s stamp t is some made = made ∙ (ap (λ x. prepared x s stamp t) is ∙ (prepared-over m s stamp t ∙ ap (of_some m (prepared m s stamp)) some))

pub commit-some : (m n r : Machine) (s c d : ℕ) (t : Transaction) → n ≡ taken m s → Some t ≡ transaction_of m s → r ≡ decided t.phase n s c d t → r ≡ after m (CommitAt s c d)
commit-some m n r s c d t is some made = made ∙ (ap (λ x. decided t.phase x s c d t) is ∙ (decided-over t.phase m s c d t ∙ ap (of_some m (λ (t : Transaction). decided t.phase m s c d t)) some))

pub leave-some : (m n r : Machine) (s : ℕ) (t : Transaction) → n ≡ taken m s → Some t ≡ transaction_of m s → r ≡ left_taken t.phase n s t → r ≡ after m (StartLeaving s)
leave-some m n r s t is some made = made ∙ (ap (λ x. left_taken t.phase x s t) is ∙ (left-over t.phase m s t (sym some) ∙ ap (of_some m (λ (t : Transaction). left t.phase m s t)) some))
