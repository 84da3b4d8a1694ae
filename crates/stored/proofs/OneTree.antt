-- A device has one tree below a root.
use Rattle.std.proofs.Common.{◌≡◌, ℕ, suc, Bool, true, false, cond, List, [], ◌∷◌, ◌++◌, length, refl, sym, ap, subst, ◌∙◌, arith}
use Rattle.le_codec.specs.Images.{padded}
use Rattle.device_layout.specs.declared.addr.Addr.{Addr}
use Rattle.stored.specs.Blocks.{Block, IsAt, Holds}
use Rattle.stored.specs.Links.{is_nowhere}
use Rattle.stored.specs.Tree.{Layer, Kind, Tree, join, page_blocks, inner_blocks, bottom, leaf_blocks, Lead, AllLead, AllBear, tree_blocks, IsTree}

-- the parts of what a device holds
pub holds_front : (bytes : List ℕ) (xs ys : List Block) → Holds bytes (xs ++ ys) → Holds bytes xs
holds_front bytes [] ys h = tt
holds_front bytes (x ∷ xs) ys h = (h.0, holds_front bytes xs ys h.1)

pub holds_back : (bytes : List ℕ) (xs ys : List Block) → Holds bytes (xs ++ ys) → Holds bytes ys
holds_back bytes [] ys h = h
holds_back bytes (x ∷ xs) ys h = holds_back bytes xs ys h.1

-- a page's spelling is one page's, where both meet their entry's rules
pub record IsExact {E R : Type 0} (k : Kind E R) : Type 0 where
  pub inner : (level size : ℕ) (e : E) (p q : List E) → k.Leads level e p → k.Leads level e q → padded (k.inner level p) size ≡ padded (k.inner level q) size → p ≡ q
  pub leaf : (size : ℕ) (e : E) (p q : List R) → k.Bears e p → k.Bears e q → padded (k.leaf p) size ≡ padded (k.leaf q) size → p ≡ q
  pub nowhere : (e : E) (p q : List R) → is_nowhere (k.place e) ≡ true → k.Bears e p → k.Bears e q → p ≡ q

pub same_padded : (bytes : List ℕ) (place : Addr) (x y : List ℕ) → IsAt bytes (record { place = place; image = x }) → IsAt bytes (record { place = place; image = y }) → padded x place.size ≡ padded y place.size
same_padded bytes place x y p q = sym p.is ∙ q.is

one_layer : {E R : Type 0} (k : Kind E R) (exact : IsExact k) (bytes : List ℕ) (level : ℕ) (own : List E) (pages others : Layer E) → Lead k level own pages → Lead k level own others
    → Holds bytes (page_blocks k level own pages) → Holds bytes (page_blocks k level own others) → pages ≡ others
one_layer k exact bytes level [] [] [] lp lo hp ho = refl
one_layer k exact bytes level [] [] (q ∷ others) lp lo hp ho = absurd lo
one_layer k exact bytes level [] (p ∷ pages) others lp lo hp ho = absurd lp
one_layer k exact bytes level (e ∷ own) [] others lp lo hp ho = absurd lp
one_layer k exact bytes level (e ∷ own) (p ∷ pages) [] lp lo hp ho = absurd lo
one_layer {E = E} k exact bytes level (e ∷ own) (p ∷ pages) (q ∷ others) lp lo hp ho =
    let first : p ≡ q = exact.inner level (k.place e).size e p q lp.0 lo.0 (same_padded bytes (k.place e) (k.inner level p) (k.inner level q) hp.0 ho.0) in
    let rest : pages ≡ others = one_layer k exact bytes level own pages others lp.1 lo.1 hp.1 ho.1 in
    ap (λ (x : List E). x ∷ pages) first ∙ ap (λ (x : Layer E). q ∷ x) rest

pub one_inside : {E R : Type 0} (k : Kind E R) (exact : IsExact k) (bytes : List ℕ) (own : List E) (layers others : List (Layer E)) → length layers ≡ length others → AllLead k own layers → AllLead k own others
    → Holds bytes (inner_blocks k own layers) → Holds bytes (inner_blocks k own others) → layers ≡ others
one_inside k exact bytes own [] [] len lp lo hp ho = refl
one_inside k exact bytes own [] (q ∷ others) len lp lo hp ho = absurd (omega (arith, len))
one_inside k exact bytes own (p ∷ layers) [] len lp lo hp ho = absurd (omega (arith, len))
one_inside {E = E} k exact bytes own (p ∷ layers) (q ∷ others) len lp lo hp ho =
    let even : length layers ≡ length others = omega (arith, len) in
    let hq : Holds bytes (page_blocks k (suc (length layers)) own q ++ inner_blocks k (join q) others) = subst (λ (n : ℕ). Holds bytes (page_blocks k (suc n) own q ++ inner_blocks k (join q) others)) (sym even) ho in
    let first : p ≡ q = one_layer k exact bytes (suc (length layers)) own p q lp.0 (subst (λ (n : ℕ). Lead k (suc n) own q) (sym even) lo.0) (holds_front bytes (page_blocks k (suc (length layers)) own p) (inner_blocks k (join p) layers) hp) (holds_front bytes (page_blocks k (suc (length layers)) own q) (inner_blocks k (join q) others) hq) in
    let back : Holds bytes (inner_blocks k (join q) others) = holds_back bytes (page_blocks k (suc (length layers)) own q) (inner_blocks k (join q) others) hq in
    let rest : layers ≡ others = one_inside k exact bytes (join p) layers others even lp.1 (subst (λ (x : Layer E). AllLead k (join x) others) (sym first) lo.1) (holds_back bytes (page_blocks k (suc (length layers)) own p) (inner_blocks k (join p) layers) hp) (subst (λ (x : Layer E). Holds bytes (inner_blocks k (join x) others)) (sym first) back) in
    ap (λ (x : Layer E). x ∷ layers) first ∙ ap (λ (x : List (Layer E)). q ∷ x) rest

leaf_front : {E R : Type 0} (k : Kind E R) (bytes : List ℕ) (e : E) (own : List E) (rows : List R) (leaves : List (List R)) → is_nowhere (k.place e) ≡ false → Holds bytes (leaf_blocks k (e ∷ own) (rows ∷ leaves)) → IsAt bytes (record { place = k.place e; image = k.leaf rows })
leaf_front k bytes e own rows leaves is h = (rw is at h).0

leaf_back : {E R : Type 0} (k : Kind E R) (bytes : List ℕ) (e : E) (own : List E) (rows : List R) (leaves : List (List R)) → Holds bytes (leaf_blocks k (e ∷ own) (rows ∷ leaves)) → Holds bytes (leaf_blocks k own leaves)
leaf_back k bytes e own rows leaves h = holds_back bytes (cond (is_nowhere (k.place e)) [] (record { place = k.place e; image = k.leaf rows } ∷ [])) (leaf_blocks k own leaves) h

one_leaf : {E R : Type 0} (k : Kind E R) (exact : IsExact k) (bytes : List ℕ) (e : E) (own : List E) (p q : List R) (leaves others : List (List R)) (b : Bool) → is_nowhere (k.place e) ≡ b → k.Bears e p → k.Bears e q
    → Holds bytes (leaf_blocks k (e ∷ own) (p ∷ leaves)) → Holds bytes (leaf_blocks k (e ∷ own) (q ∷ others)) → p ≡ q
one_leaf k exact bytes e own p q leaves others true is bp bq hp hq = exact.nowhere e p q is bp bq
one_leaf k exact bytes e own p q leaves others false is bp bq hp hq =
    exact.leaf (k.place e).size e p q bp bq (same_padded bytes (k.place e) (k.leaf p) (k.leaf q) (leaf_front k bytes e own p leaves is hp) (leaf_front k bytes e own q others is hq))

pub one_bottom : {E R : Type 0} (k : Kind E R) (exact : IsExact k) (bytes : List ℕ) (own : List E) (leaves others : List (List R)) → AllBear k own leaves → AllBear k own others
    → Holds bytes (leaf_blocks k own leaves) → Holds bytes (leaf_blocks k own others) → leaves ≡ others
one_bottom k exact bytes [] [] [] lp lo hp ho = refl
one_bottom k exact bytes [] [] (q ∷ others) lp lo hp ho = absurd lo
one_bottom k exact bytes [] (p ∷ leaves) others lp lo hp ho = absurd lp
one_bottom k exact bytes (e ∷ own) [] others lp lo hp ho = absurd lp
one_bottom k exact bytes (e ∷ own) (p ∷ leaves) [] lp lo hp ho = absurd lo
one_bottom {R = R} k exact bytes (e ∷ own) (p ∷ leaves) (q ∷ others) lp lo hp ho =
    let first : p ≡ q = one_leaf k exact bytes e own p q leaves others (is_nowhere (k.place e)) refl lp.0 lo.0 hp ho in
    let rest : leaves ≡ others = one_bottom k exact bytes own leaves others lp.1 lo.1 (leaf_back k bytes e own p leaves hp) (leaf_back k bytes e own q others ho) in
    ap (λ (x : List R). x ∷ leaves) first ∙ ap (λ (x : List (List R)). q ∷ x) rest

pub one_tree : {E R : Type 0} (k : Kind E R) (exact : IsExact k) (bytes : List ℕ) (level : ℕ) (root : E) (t u : Tree E R) → IsTree k level root t → IsTree k level root u → Holds bytes (tree_blocks k root t) → Holds bytes (tree_blocks k root u) → t ≡ u
one_tree {E = E} {R = R} k exact bytes level root t u it iu ht hu =
    let inside : t.layers ≡ u.layers = one_inside k exact bytes (root ∷ []) t.layers u.layers (it.levels ∙ sym iu.levels) it.lead iu.lead (holds_front bytes (inner_blocks k (root ∷ []) t.layers) (leaf_blocks k (bottom (root ∷ []) t.layers) t.leaves) ht) (holds_front bytes (inner_blocks k (root ∷ []) u.layers) (leaf_blocks k (bottom (root ∷ []) u.layers) u.leaves) hu) in
    let backs : Holds bytes (leaf_blocks k (bottom (root ∷ []) t.layers) u.leaves) = subst (λ (x : List (Layer E)). Holds bytes (leaf_blocks k (bottom (root ∷ []) x) u.leaves)) (sym inside) (holds_back bytes (inner_blocks k (root ∷ []) u.layers) (leaf_blocks k (bottom (root ∷ []) u.layers) u.leaves) hu) in
    let bears : AllBear k (bottom (root ∷ []) t.layers) u.leaves = subst (λ (x : List (Layer E)). AllBear k (bottom (root ∷ []) x) u.leaves) (sym inside) iu.bear in
    let ends : t.leaves ≡ u.leaves = one_bottom k exact bytes (bottom (root ∷ []) t.layers) t.leaves u.leaves it.bear bears (holds_back bytes (inner_blocks k (root ∷ []) t.layers) (leaf_blocks k (bottom (root ∷ []) t.layers) t.leaves) ht) backs in
    ap (λ (x : List (Layer E)). record { layers = x; leaves = t.leaves }) inside ∙ ap (λ (x : List (List R)). record { layers = u.layers; leaves = x }) ends
