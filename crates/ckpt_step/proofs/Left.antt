-- The trees of before that do not stay where they are.
use Rattle.std.specs.Prelude.{◌≡◌, ◌⊎◌, ◌<◌, ◌+◌, ℕ, zero, suc, List, [], ◌∷◌, ◌++◌, length, take, Option, Some, None, refl, slice_get}
use Rattle.std.proofs.Common.{◌∙◌, ap, sym, subst, inl, inr, arith, get_or}
use Rattle.std.proofs.lemmas.List.{append-nil, append_assoc}
use Rattle.std.proofs.lemmas.List.Sums.{fold-append}
use Rattle.block_mgr.specs.declared.cell.Cell.{Cell}
use Rattle.device_layout.specs.declared.addr.Addr.{Addr}
use Rattle.kv_model.specs.Holds.{Member}
use Rattle.stored.specs.Stored.{Stored}
use Rattle.tree_open.specs.declared.place.TreePlace.{TreePlace}
use Rattle.ckpt_step.specs.Frees.{without, without_all}
use Rattle.ckpt_step.specs.Halves.{AreOldBlocks}
use Rattle.ckpt_step.specs.declared.lives.Lone.{Lone}
use Rattle.ckpt_step.specs.Trees.{addrs_of, kept_by, left_by, placed_by}
use Rattle.ckpt_step.proofs.SettledCells.{AreLeft}
use Rattle.ckpt_step.proofs.Members.{in_back, in_either, in_front}

-- ---- by place

-- what is let go of the tree at a place
abbrev pub one_left : Option (Option TreePlace) → TreePlace → List TreePlace
one_left (Some None) w = []
one_left (Some (Some p)) w = w ∷ []
one_left None w = w ∷ []

pub left_step : (was : List TreePlace) (told : List (Option TreePlace)) (i : ℕ) (d : TreePlace) → i < length was → left_by (take (i + 1) was) told ≡ left_by (take i was) told ++ one_left (slice_get told i) (get_or was i d)
left_step [] told i d lt = absurd (omega (arith, lt))
left_step (w ∷ was) [] zero d lt = refl
left_step (w ∷ was) (None ∷ told) zero d lt = refl
left_step (w ∷ was) (Some p ∷ told) zero d lt = refl
left_step (w ∷ was) told (suc i) d lt = subst (λ (k : ℕ). left_by (take k (w ∷ was)) told ≡ left_by (take (suc i) (w ∷ was)) told ++ one_left (slice_get told (suc i)) (get_or was i d)) (again i) (later told (λ l. left_step was l i d (omega (arith, lt))))
  where
    again : (k : ℕ) → suc (k + 1) ≡ suc k + 1
    again k = omega arith

    later : (told : List (Option TreePlace)) → ((l : List (Option TreePlace)) → left_by (take (i + 1) was) l ≡ left_by (take i was) l ++ one_left (slice_get l i) (get_or was i d))
        → left_by (take (suc (i + 1)) (w ∷ was)) told ≡ left_by (take (suc i) (w ∷ was)) told ++ one_left (slice_get told (suc i)) (get_or was i d)
    later [] rest = ap (λ (l : List TreePlace). w ∷ l) (rest [])
    later (None ∷ told) rest = rest told
    later (Some p ∷ told) rest = ap (λ (l : List TreePlace). w ∷ l) (rest told)

one_gone : (o : Option (Option TreePlace)) (w : TreePlace) → (o ≡ Some None → ⊥) → one_left o w ≡ w ∷ []
one_gone None w gone = refl
one_gone (Some None) w gone = absurd (gone refl)
one_gone (Some (Some p)) w gone = refl

-- ---- addresses

pub addrs_both : (xs ys : List TreePlace) → addrs_of (xs ++ ys) ≡ addrs_of xs ++ addrs_of ys
addrs_both [] ys = refl
addrs_both (x ∷ xs) ys = ap (λ (l : List Addr). x.addrs.items ++ l) (addrs_both xs ys) ∙ sym (append_assoc x.addrs.items (addrs_of xs) (addrs_of ys))

pub without_both : (u : ℕ) (c : Cell) (xs ys : List Addr) → without_all u c (xs ++ ys) ≡ without_all u (without_all u c xs) ys
without_both u c xs ys = fold-append {A = Addr} {B = Cell} (without u) c xs ys

-- the live tree lets go of the blocks of the tree at a place, or that stays
pub gone_more : (u : ℕ) (start c : Cell) (was : List TreePlace) (told : List (Option TreePlace)) (i : ℕ) (w : TreePlace) (addrs : List Addr) → i < length was → w ≡ get_or was i w → (slice_get told i ≡ Some None → ⊥) → addrs ≡ w.addrs.items
    → c ≡ without_all u start (addrs_of (left_by (take i was) told)) → without_all u c addrs ≡ without_all u start (addrs_of (left_by (take (i + 1) was) told))
gone_more u start c was told i w addrs lt at gone is so_far =
    ap (λ (d : Cell). without_all u d addrs) so_far
    ∙ (sym (without_both u start (addrs_of (left_by (take i was) told)) addrs)
    ∙ ap (λ (l : List Addr). without_all u start l) (sym more))
  where
    step : left_by (take (i + 1) was) told ≡ left_by (take i was) told ++ w ∷ []
    step = left_step was told i w lt ∙ ap (λ (l : List TreePlace). left_by (take i was) told ++ l) (ap (λ (x : TreePlace). one_left (slice_get told i) x) (sym at) ∙ one_gone (slice_get told i) w gone)

    more : addrs_of (left_by (take (i + 1) was) told) ≡ addrs_of (left_by (take i was) told) ++ addrs
    more = ap addrs_of step ∙ (addrs_both (left_by (take i was) told) (w ∷ []) ∙ ap (λ (l : List Addr). addrs_of (left_by (take i was) told) ++ l) (append-nil w.addrs.items ∙ sym is))

pub stay_more : (u : ℕ) (start c : Cell) (was : List TreePlace) (told : List (Option TreePlace)) (i : ℕ) (w : TreePlace) → i < length was → slice_get told i ≡ Some None → c ≡ without_all u start (addrs_of (left_by (take i was) told)) → c ≡ without_all u start (addrs_of (left_by (take (i + 1) was) told))
stay_more u start c was told i w lt stays so_far = so_far ∙ ap (λ (l : List TreePlace). without_all u start (addrs_of l)) (sym step)
  where
    step : left_by (take (i + 1) was) told ≡ left_by (take i was) told
    step = left_step was told i w lt ∙ (ap (λ (o : Option (Option TreePlace)). left_by (take i was) told ++ one_left o (get_or was i w)) stays ∙ append-nil (left_by (take i was) told))

-- each address of before is of a tree that stays or of one that does not
either_way : (was : List TreePlace) (told : List (Option TreePlace)) (a : Addr) → Member a (addrs_of was) → Member a (addrs_of (kept_by was told)) ⊎ Member a (addrs_of (left_by was told))
either_way [] told a there = absurd there
either_way (w ∷ was) [] a there = elim (in_either w.addrs.items (addrs_of was) a there) [
  | inl here ↦ inr (in_front w.addrs.items (addrs_of (left_by was [])) a here)
  | inr later ↦ elim (either_way was [] a later) [ inl kept ↦ inr (in_back w.addrs.items (addrs_of (left_by was [])) a (none_kept was a kept)) | inr left ↦ inr (in_back w.addrs.items (addrs_of (left_by was [])) a left) ]
]
  where
    none_kept : (was : List TreePlace) (a : Addr) → Member a (addrs_of (kept_by was [])) → Member a (addrs_of (left_by was []))
    none_kept [] a there = there
    none_kept (x ∷ was) a there = absurd there
either_way (w ∷ was) (None ∷ told) a there = elim (in_either w.addrs.items (addrs_of was) a there) [
  | inl here ↦ inl (in_front w.addrs.items (addrs_of (kept_by was told)) a here)
  | inr later ↦ elim (either_way was told a later) [ inl kept ↦ inl (in_back w.addrs.items (addrs_of (kept_by was told)) a kept) | inr left ↦ inr left ]
]
either_way (w ∷ was) (Some p ∷ told) a there = elim (in_either w.addrs.items (addrs_of was) a there) [
  | inl here ↦ inr (in_front w.addrs.items (addrs_of (left_by was told)) a here)
  | inr later ↦ elim (either_way was told a later) [ inl kept ↦ inl kept | inr left ↦ inr (in_back w.addrs.items (addrs_of (left_by was told)) a left) ]
]

pub left_in : (was : List TreePlace) (told : List (Option TreePlace)) (a : Addr) → Member a (addrs_of (left_by was told)) → Member a (addrs_of was)
left_in [] told a there = there
left_in (w ∷ was) [] a there = elim (in_either w.addrs.items (addrs_of (left_by was [])) a there) [ inl here ↦ in_front w.addrs.items (addrs_of was) a here | inr later ↦ in_back w.addrs.items (addrs_of was) a (left_in was [] a later) ]
left_in (w ∷ was) (None ∷ told) a there = in_back w.addrs.items (addrs_of was) a (left_in was told a there)
left_in (w ∷ was) (Some p ∷ told) a there = elim (in_either w.addrs.items (addrs_of (left_by was told)) a there) [ inl here ↦ in_front w.addrs.items (addrs_of was) a here | inr later ↦ in_back w.addrs.items (addrs_of was) a (left_in was told a later) ]

-- those that stay are among the new ones
pub kept_in : (was : List TreePlace) (told : List (Option TreePlace)) (a : Addr) → Member a (addrs_of (kept_by was told)) → Member a (addrs_of (placed_by was told))
kept_in [] told a there = absurd there
kept_in (w ∷ was) [] a there = absurd there
kept_in (w ∷ was) (None ∷ told) a there = elim (in_either w.addrs.items (addrs_of (kept_by was told)) a there) [ inl here ↦ in_front w.addrs.items (addrs_of (placed_by was told)) a here | inr later ↦ in_back w.addrs.items (addrs_of (placed_by was told)) a (kept_in was told a later) ]
kept_in (w ∷ was) (Some p ∷ told) a there = in_back p.addrs.items (addrs_of (placed_by was told)) a (kept_in was told a there)

-- where those that stay are captured, the others are all that is left of before, with these more
pub are_left : (old : Option Stored) (lives : List Lone) (captured : List Addr) (was : List TreePlace) (told : List (Option TreePlace)) (more : List Addr) → AreOldBlocks old lives (addrs_of was ++ more) → ((x : Addr) → Member x (addrs_of (kept_by was told)) → Member x captured)
    → AreLeft old lives captured (addrs_of (left_by was told) ++ more)
are_left old lives captured was told more are kept = record {
  each = λ a there. elim (in_either (addrs_of (left_by was told)) more a there) [
    | inl left ↦ are.each a (in_front (addrs_of was) more a (left_in was told a left))
    | inr since ↦ are.each a (in_back (addrs_of was) more a since)
  ];
  all = λ u live nobody.
      let one = are.all u live in
      elim (in_either (addrs_of was) more one.0 one.1) [
        | inr since ↦ (one.0, in_back (addrs_of (left_by was told)) more one.0 since, one.2)
        | inl before ↦ elim (either_way was told one.0 before) [
          | inl stays ↦ absurd (nobody one.0 (kept one.0 stays) one.2)
          | inr left ↦ (one.0, in_front (addrs_of (left_by was told)) more one.0 left, one.2)
        ]
      ];
}
