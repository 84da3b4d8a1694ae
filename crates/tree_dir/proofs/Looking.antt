-- Looking for leaves in a list: by id, by a key, beside another.
use Rattle.std.proofs.Common.{◌≡◌, ℕ, zero, suc, ◌<◌, true, false, List, [], ◌∷◌, length, get_or, Some, None, refl, arith}
use Rattle.std.proofs.lemmas.Bool.{eq-eqb, ne_eqb}
use Rattle.tree_dir.specs.declared.leaf.Leaf.{Leaf}
use Rattle.tree_dir.specs.Leaves.{begins_by, leaf_ahead, leaf_behind, leaf_last, leaf_named, leaf_under, of_table}

-- ---- by id

pub named-at : (id : ℕ) (leaves : List Leaf) (r : ℕ) (d : Leaf) → r < length leaves → ((k : ℕ) → k < r → (get_or leaves k d).id ≡ id → ⊥) → (get_or leaves r d).id ≡ id → leaf_named id leaves ≡ Some (get_or leaves r d)
named-at id [] r d lt none e = absurd (omega arith)
named-at id (x ∷ leaves) zero d lt none e = rw (eq-eqb x.id id e) refl
named-at id (x ∷ leaves) (suc r) d lt none e = rw (ne_eqb x.id id (none 0 (omega arith))) (named-at id leaves r d (omega arith) (λ k l. none (suc k) (omega arith)) e)

pub named-none : (id : ℕ) (leaves : List Leaf) (d : Leaf) → ((k : ℕ) → k < length leaves → (get_or leaves k d).id ≡ id → ⊥) → leaf_named id leaves ≡ None
named-none id [] d none = refl
named-none id (x ∷ leaves) d none = rw (ne_eqb x.id id (none 0 (omega arith))) (named-none id leaves d (λ k l. none (suc k) (omega arith)))

-- ---- by a key

pub under-none : (table : ℕ) (key : List ℕ) (leaves : List Leaf) (d : Leaf) → ((k : ℕ) → k < length leaves → begins_by table key (get_or leaves k d) ≡ false) → leaf_under table key leaves ≡ None
under-none table key [] d none = refl
under-none table key (x ∷ leaves) d none = rw (under-none table key leaves d (λ k l. none (suc k) (omega arith)), none 0 (omega arith)) refl

pub under-at : (table : ℕ) (key : List ℕ) (leaves : List Leaf) (r : ℕ) (d : Leaf) → r < length leaves → begins_by table key (get_or leaves r d) ≡ true → ((k : ℕ) → r < k → k < length leaves → begins_by table key (get_or leaves k d) ≡ false) → leaf_under table key leaves ≡ Some (get_or leaves r d)
under-at table key [] r d lt here none = absurd (omega arith)
under-at table key (x ∷ leaves) zero d lt here none = rw (under-none table key leaves d (λ k l. none (suc k) (omega arith) (omega arith)), here) refl
under-at table key (x ∷ leaves) (suc r) d lt here none = rw (under-at table key leaves r d (omega arith) here (λ k l m. none (suc k) (omega arith) (omega arith))) refl

-- ---- the last one

pub last-none : (table : ℕ) (leaves : List Leaf) (d : Leaf) → ((k : ℕ) → k < length leaves → (get_or leaves k d).table ≡ table → ⊥) → leaf_last table leaves ≡ None
last-none table [] d none = refl
last-none table (x ∷ leaves) d none = rw (last-none table leaves d (λ k l. none (suc k) (omega arith)), ne_eqb x.table table (none 0 (omega arith))) refl

pub last-at : (table : ℕ) (leaves : List Leaf) (r : ℕ) (d : Leaf) → r < length leaves → (get_or leaves r d).table ≡ table → ((k : ℕ) → r < k → k < length leaves → (get_or leaves k d).table ≡ table → ⊥) → leaf_last table leaves ≡ Some (get_or leaves r d)
last-at table [] r d lt here none = absurd (omega arith)
last-at table (x ∷ leaves) zero d lt here none = rw (last-none table leaves d (λ k l. none (suc k) (omega arith) (omega arith)), eq-eqb x.table table here) refl
last-at table (x ∷ leaves) (suc r) d lt here none = rw (last-at table leaves r d (omega arith) here (λ k l m. none (suc k) (omega arith) (omega arith))) refl

-- ---- beside another

pub behind-at : (id : ℕ) (leaves : List Leaf) (r : ℕ) (d : Leaf) → suc r < length leaves → ((k : ℕ) → k < r → (get_or leaves k d).id ≡ id → ⊥) → (get_or leaves r d).id ≡ id → leaf_behind id leaves ≡ of_table (get_or leaves r d).table (get_or leaves (suc r) d)
behind-at id [] r d lt none e = absurd (omega arith)
behind-at id (x ∷ []) r d lt none e = absurd (omega arith)
behind-at id (x ∷ y ∷ leaves) zero d lt none e = rw (eq-eqb x.id id e) refl
behind-at id (x ∷ y ∷ leaves) (suc r) d lt none e = rw (ne_eqb x.id id (none 0 (omega arith))) (behind-at id (y ∷ leaves) r d (omega arith) (λ k l. none (suc k) (omega arith)) e)

pub behind-none : (id : ℕ) (leaves : List Leaf) (d : Leaf) → ((k : ℕ) → suc k < length leaves → (get_or leaves k d).id ≡ id → ⊥) → leaf_behind id leaves ≡ None
behind-none id [] d none = refl
behind-none id (x ∷ []) d none = refl
behind-none id (x ∷ y ∷ leaves) d none = rw (ne_eqb x.id id (none 0 (omega arith))) (behind-none id (y ∷ leaves) d (λ k l. none (suc k) (omega arith)))

pub ahead-at : (id : ℕ) (leaves : List Leaf) (r : ℕ) (d : Leaf) → suc r < length leaves → ((k : ℕ) → k < r → (get_or leaves (suc k) d).id ≡ id → ⊥) → (get_or leaves (suc r) d).id ≡ id → leaf_ahead id leaves ≡ of_table (get_or leaves (suc r) d).table (get_or leaves r d)
ahead-at id [] r d lt none e = absurd (omega arith)
ahead-at id (x ∷ []) r d lt none e = absurd (omega arith)
ahead-at id (x ∷ y ∷ leaves) zero d lt none e = rw (eq-eqb y.id id e) refl
ahead-at id (x ∷ y ∷ leaves) (suc r) d lt none e = rw (ne_eqb y.id id (none 0 (omega arith))) (ahead-at id (y ∷ leaves) r d (omega arith) (λ k l. none (suc k) (omega arith)) e)

pub ahead-none : (id : ℕ) (leaves : List Leaf) (d : Leaf) → ((k : ℕ) → suc k < length leaves → (get_or leaves (suc k) d).id ≡ id → ⊥) → leaf_ahead id leaves ≡ None
ahead-none id [] d none = refl
ahead-none id (x ∷ []) d none = refl
ahead-none id (x ∷ y ∷ leaves) d none = rw (ne_eqb y.id id (none 0 (omega arith))) (ahead-none id (y ∷ leaves) d (λ k l. none (suc k) (omega arith)))
