-- Entries that stand in the order of their keys, with one behind them, and are durable at a stamp: each of them shows it.
use Rattle.std.specs.Prelude.{◌≡◌, ℕ, zero, suc, true, false, ◌+◌, ◌<◌, ◌≤◌, List, [], ◌∷◌, ◌++◌, length, take, drop, Option, option_map, refl}
use Rattle.std.specs.Borrow.{Bor}
use Rattle.std.proofs.Common.{sym, ◌∙◌, ap, subst, arith, get_or, append_assoc}
use Rattle.std.proofs.lemmas.Bool.{false≢true}
use Rattle.std.proofs.lemmas.List.{take-append-drop, take_all, take_more}
use Rattle.kv_model.specs.Machine.{of_some}
use Rattle.row_page.specs.Rows.{is_below}
use Rattle.stored.specs.TableTree.{Climbs, Entry}
use Rattle.ckpt_step.specs.Giving.{AreDurableAt}
use Rattle.ckpt_step.proofs.EntryKeys.{AboveLast, climbs_more, last_of, lent_from, lent_test}

-- one that stands among them is above those before it
above_before : (xs : List Entry) (e : Entry) (ys : List Entry) → Climbs (xs ++ e ∷ ys) → AboveLast e (last_of xs)
above_before [] e ys climbs = refl
above_before (x ∷ []) e ys climbs = climbs.0
above_before (x ∷ y ∷ xs) e ys climbs = above_before (y ∷ xs) e ys climbs.1

taken : (es : List Entry) (i : ℕ) (e : Entry) → i < length es → e ≡ get_or es i e → take (i + 1) es ≡ take i es ++ e ∷ []
taken es i e lt is = take_more es i e lt ∙ ap (λ (x : Entry). take i es ++ x ∷ []) (sym is)

pub above_at : (es behind : List Entry) (i : ℕ) (e : Entry) → i < length es → e ≡ get_or es i e → Climbs (es ++ behind) → AboveLast e (last_of (take i es))
above_at es behind i e lt is climbs =
    let whole : es ++ behind ≡ take i es ++ (e ∷ (drop (i + 1) es ++ behind)) =
    ap (λ (l : List Entry). l ++ behind) (sym (take-append-drop (i + 1) es) ∙ ap (λ (l : List Entry). l ++ drop (i + 1) es) (taken es i e lt is))
    ∙ (append_assoc (take i es ++ e ∷ []) (drop (i + 1) es) behind ∙ append_assoc (take i es) (e ∷ []) (drop (i + 1) es ++ behind)) in
    above_before (take i es) e (drop (i + 1) es ++ behind) (subst Climbs whole climbs)

-- so is the one behind them
above_all : (es : List Entry) (next : Entry) → Climbs (es ++ next ∷ []) → AboveLast next (last_of es)
above_all es next climbs = above_before es next [] climbs

-- one more of them
pub climbs_step : (es : List Entry) (i : ℕ) (e : Entry) → i < length es → e ≡ get_or es i e → Climbs (take i es) → AboveLast e (last_of (take i es)) → Climbs (take (i + 1) es)
climbs_step es i e lt is climbs above = subst Climbs (sym (taken es i e lt is)) (climbs_more (take i es) e climbs above)

-- ---- with what is lent

-- n: at least as many as there are
module _ (es : List Entry) (n : ℕ) (all : length es ≤ n) (last : Option (Bor Entry)) (is : option_map (λ (x : Bor Entry). x.now) last ≡ last_of (take n es)) (next : Entry) where
  whole : option_map (λ (x : Bor Entry). x.now) last ≡ last_of es
  whole = is ∙ ap last_of (take_all n es all)

  pub they_ascend : Climbs (take n es) → of_some true (λ (x : Bor Entry). is_below x.now.key next.key) last ≡ true → Climbs (es ++ next ∷ [])
  they_ascend climbs above = climbs_more es next (subst Climbs (take_all n es all) climbs) (subst (λ (o : Option Entry). AboveLast next o) whole (lent_test last next above))

  pub they_do_not : of_some true (λ (x : Bor Entry). is_below x.now.key next.key) last ≡ false → Climbs (es ++ next ∷ []) → ⊥
  they_do_not below climbs = false≢true (sym below ∙ lent_from last next (subst (λ (o : Option Entry). AboveLast next o) (sym whole) (above_all es next climbs)))

-- ---- durable

pub durable_at : (oldest : ℕ) (es : List Entry) (i : ℕ) (e : Entry) → i < length es → e ≡ get_or es i e → AreDurableAt oldest es → e.link.durable ≤ oldest
durable_at oldest [] i e lt is all = absurd (omega (arith, lt))
durable_at oldest (x ∷ es) zero e lt is all = subst (λ (y : Entry). y.link.durable ≤ oldest) (sym is) all.0
durable_at oldest (x ∷ es) (suc i) e lt is all = durable_at oldest es i e (omega (arith, lt)) is all.1

durable_both : (oldest : ℕ) (xs : List Entry) (e : Entry) → AreDurableAt oldest xs → e.link.durable ≤ oldest → AreDurableAt oldest (xs ++ e ∷ [])
durable_both oldest [] e all own = (own, tt)
durable_both oldest (x ∷ xs) e all own = (all.0, durable_both oldest xs e all.1 own)

pub durable_step : (oldest : ℕ) (es : List Entry) (i : ℕ) (e : Entry) → i < length es → e ≡ get_or es i e → AreDurableAt oldest (take i es) → e.link.durable ≤ oldest → AreDurableAt oldest (take (i + 1) es)
durable_step oldest es i e lt is all own = subst (AreDurableAt oldest) (sym (taken es i e lt is)) (durable_both oldest (take i es) e all own)
