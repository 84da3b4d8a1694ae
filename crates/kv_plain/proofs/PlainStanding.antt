-- Going through the entries one by one gives the versions that stand.
use Rattle.std.proofs.Common.{◌≡◌, ℕ, refl, ap, sym, ◌∙◌, List, [], ◌∷◌, ◌++◌, inl, inr, map}
use Rattle.std.specs.Prelude.{filter, Option, Some, Result, Ok, Err, IfOk}
use Rattle.std.proofs.lemmas.Bool.{cases_Bool}
use Rattle.std.proofs.lemmas.List.Elements.{filter-append}
use Rattle.item.specs.declared.Change.{Change}
use Rattle.stamp.specs.declared.Version.{Version}
use Rattle.kv_model.specs.History.{Entry, Create, Commit, Prepare, Resolve, Undo, Rts, Placed, standing, placed_of, is_by, is_stable}
use Rattle.kv_plain.specs.Plain.{is_within, lower, standing_by, standing_of, bound_under}
use Rattle.kv_plain.proofs.PlainLooks.{within-lower}

filter-rts : (bound : Option ℕ) (stamp : ℕ) (l : List Placed) → filter (λ (p : Placed). is_within bound p.version) (filter (λ (p : Placed). is_by stamp p.version) l) ≡ filter (λ (p : Placed). is_within (Some (lower bound stamp)) p.version) l
filter-rts bound stamp [] = refl
filter-rts bound stamp (p ∷ l) = elim (cases_Bool (is_by stamp p.version)) [
  | inl is ↦ elim (cases_Bool (is_within bound p.version)) [
    | inl also ↦ rw (is, within-lower bound stamp p.version, is, also) (ap (λ t. p ∷ t) (filter-rts bound stamp l))
    | inr not ↦ rw (is, within-lower bound stamp p.version, is, not) (filter-rts bound stamp l)
  ]
  | inr isnt ↦ rw (isnt, within-lower bound stamp p.version, isnt) (filter-rts bound stamp l)
]

pub standing-entry : (entry : Entry) (older : List Entry) (bound : Option ℕ) → standing_by (entry ∷ older) bound ≡ standing_of entry bound ++ standing_by older (bound_under entry bound)
standing-entry (Create t) older bound = refl
standing-entry (Commit name writes) older bound = filter-append (λ (p : Placed). is_within bound p.version) (map (placed_of name) writes) (standing older)
standing-entry (Prepare name stamp) older bound = refl
standing-entry (Resolve name writes) older bound = filter-append (λ (p : Placed). is_within bound p.version) (map (placed_of name) writes) (standing older)
standing-entry (Undo name) older bound = refl
standing-entry (Rts s) older bound = filter-rts bound s (standing older)

append-after : (l m n : List Placed) → (l ++ m) ++ n ≡ l ++ (m ++ n)
append-after [] m n = refl
append-after (x ∷ l) m n = ap (λ t. x ∷ t) (append-after l m n)

-- what was put on before, then the entry's, then the older ones
pub stood : (before middle after : List Placed) (history : List Entry) (entry : Entry) (older : List Entry) (bound below : Option ℕ) → history ≡ entry ∷ older → below ≡ bound_under entry bound
    → middle ≡ before ++ standing_of entry bound → after ≡ middle ++ standing_by older below → after ≡ before ++ standing_by history bound
stood before middle after history entry older bound below is bounds one two =
    two ∙ (ap (λ b. middle ++ standing_by older b) bounds
    ∙ (ap (λ l. l ++ standing_by older (bound_under entry bound)) one
    ∙ (append-after before (standing_of entry bound) (standing_by older (bound_under entry bound))
    ∙ (ap (λ l. before ++ l) (sym (standing-entry entry older bound))
    ∙ ap (λ h. before ++ standing_by h bound) (sym is)))))

pub ok_more : {T E : Type 0} (P Q : Type 0) (r : Result T E) → IfOk r (λ _. P) → (P → Q) → IfOk r (λ _. Q)
ok_more P Q (Ok x) h more = more h
ok_more P Q (Err e) h more = tt

-- the bound that a stable stamp gives
pub standing-stable : (stable : ℕ) (bound : Option ℕ) (l : List Placed) → ((v : Version Change) → is_within bound v ≡ is_stable stable v)
    → filter (λ (p : Placed). is_within bound p.version) l ≡ filter (λ (p : Placed). is_stable stable p.version) l
standing-stable stable bound [] same = refl
standing-stable stable bound (p ∷ l) same = elim (cases_Bool (is_stable stable p.version)) [
  | inl is ↦ rw (same p.version, is) (ap (λ t. p ∷ t) (standing-stable stable bound l same))
  | inr isnt ↦ rw (same p.version, isnt) (standing-stable stable bound l same)
]

pub ok_each : {T E : Type 0} (P Q : T → Type 0) (r : Result T E) → IfOk r P → ((x : T) → P x → Q x) → IfOk r Q
ok_each P Q (Ok x) h more = more x h
ok_each P Q (Err e) h more = tt

-- all are durable where no stable stamp is set
pub all-stable : (l : List Placed) → filter (λ (p : Placed). is_stable 0 p.version) l ≡ l
all-stable [] = refl
all-stable (p ∷ l) = ap (λ t. p ∷ t) (all-stable l)
