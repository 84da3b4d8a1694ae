-- What a checkpoint sees of the names before a floor, and the rows that serve it.
use Rattle.std.specs.Prelude.{◌≡◌, ℕ, true, List, [], ◌∷◌, Option, None, Some, refl}
use Rattle.std.proofs.Common.{inl, inr, sym, ◌∙◌, ap, subst}
use Rattle.std.proofs.lemmas.Bool.{cases_Bool, false≢true}
use Rattle.item.specs.declared.Change.{Change}
use Rattle.kv_model.specs.Captures.{UpTo}
use Rattle.kv_model.specs.History.{line}
use Rattle.kv_model.specs.Holds.{Descends, Member}
use Rattle.kv_model.specs.Machine.{Checkpoint, Machine}
use Rattle.kv_model.specs.Ordered.{Older}
use Rattle.kv_model.specs.Valid.{Valid}
use Rattle.kv_model.proofs.Finishing.{older-order}
use Rattle.kv_model.proofs.Ordering.{line-descends}
use Rattle.stamp.specs.declared.Name.{Name}
use Rattle.stamp.specs.declared.Version.{Version}
use Rattle.ckpt_step.specs.Floors.{Respects, is_before, newest_before}
use Rattle.ckpt_step.specs.Moments.{CapturesBefore, Moment, Serves}
use Rattle.ckpt_step.specs.declared.lives.Lone.{Lone}
use Rattle.ckpt_step.proofs.Members.{none_some, some_same}

-- ---- the floor of a checkpoint

-- the floor of the checkpoint that comes: that of the snapshot, or where leaves stay that were written since, the one of before
pub record IsNextFloor (m : Machine) (c : Checkpoint) (floor next : Name) (others : List Lone) : Type 0 where
  pub respects : Respects m next
  pub captures : CapturesBefore m c next
  pub same : (x : Lone) → Member x others → next ≡ floor

pub next_floor : (m : Machine) (c : Checkpoint) (floor now next : Name) (others : List Lone) → (others ≡ [] → next ≡ now) → ((others ≡ [] → ⊥) → next ≡ floor) → Respects m floor → CapturesBefore m c floor → Respects m now → CapturesBefore m c now → IsNextFloor m c floor next others
next_floor m c floor now next [] none some kept captured respects captures =
    let is : now ≡ next = sym (none refl) in
    record { respects = subst (λ (x : Name). Respects m x) is respects; captures = subst (λ (x : Name). CapturesBefore m c x) is captures; same = λ x there. absurd there }
next_floor m c floor now next (y ∷ others) none some kept captured respects captures =
    let is : next ≡ floor = some (λ same. cc) in
    record { respects = subst (λ (x : Name). Respects m x) (sym is) kept; captures = subst (λ (x : Name). CapturesBefore m c x) (sym is) captured; same = λ x there. is }

-- ---- the newest before a floor

module _ (floor : Name) where
  found : (vs : List (Version Change)) (u : Version Change) → newest_before floor vs ≡ Some u → Member u vs × (is_before floor u.window.name ≡ true)
  found [] u is = absurd (none_some is)
  found (v ∷ vs) u is = elim (cases_Bool (is_before floor v.window.name)) [
    | inl low ↦ (let same : v ≡ u = some_same (rw low at is) in (inl (sym same), subst (λ (x : Version Change). is_before floor x.window.name ≡ true) same low))
    | inr high ↦ (let later = found vs u (rw high at is) in (inr later.0, later.1))
  ]

  no_found : (vs : List (Version Change)) (v : Version Change) → newest_before floor vs ≡ None → Member v vs → is_before floor v.window.name ≡ true → ⊥
  no_found [] v is there low = there
  no_found (w ∷ vs) v is there low = elim (cases_Bool (is_before floor w.window.name)) [
    | inl here ↦ (let some : Some w ≡ None = rw here at is in none_some (sym some))
    | inr high ↦ elim there [
      | inl same ↦ false≢true (sym high ∙ ap (λ (x : Version Change). is_before floor x.window.name) (sym same) ∙ low)
      | inr later ↦ no_found vs v (rw high at is) later low
    ]
  ]

  newest : (vs : List (Version Change)) (u v : Version Change) → Descends Older vs → newest_before floor vs ≡ Some u → Member v vs → is_before floor v.window.name ≡ true → UpTo Older v u
  newest [] u v down is there low = absurd there
  newest (w ∷ vs) u v down is there low = elim (cases_Bool (is_before floor w.window.name)) [
    | inl here ↦
        let same : w ≡ u = some_same (rw here at is) in
        elim there [
          | inl first ↦ inl (first ∙ same)
          | inr later ↦ inr (subst (λ (x : Version Change). Older v x) same (down.0 v later))
        ]
    | inr high ↦ elim there [
      | inl first ↦ absurd (false≢true (sym high ∙ ap (λ (x : Version Change). is_before floor x.window.name) (sym first) ∙ low))
      | inr later ↦ newest vs u v down.1 (rw high at is) later low
    ]
  ]

-- each of two versions is up to the other
up_both_ways : (v w : Version Change) → UpTo Older v w → UpTo Older w v → v ≡ w
up_both_ways v w (inl same) back = same
up_both_ways v w (inr above) (inl same) = sym same
up_both_ways v w (inr above) (inr below) = absurd (older-order.asym v w above below)

-- a row that serves, and is before the floor, is the newest before it
pub served_before : (n : Moment) (floor : Name) (table : ℕ) (key : List ℕ) (row : Option (Version Change)) → Valid n.world.machine → CapturesBefore n.world.machine n.checkpoint floor → Serves n table key row → ((v : Version Change) → row ≡ Some v → is_before floor v.window.name ≡ true) → newest_before floor (line n.world.machine.history table key) ≡ row
served_before n floor table key row valid captures serves low = by row refl (newest_before floor vs) refl
  where
    vs : List (Version Change)
    vs = line n.world.machine.history table key

    top : (u : Version Change) → newest_before floor vs ≡ Some u → (y : Version Change) × (row ≡ Some y) × UpTo Older u y
    top u is = let one = found floor vs u is in serves.top u one.0 (captures table key u one.0 one.1)

    by : (r : Option (Version Change)) → row ≡ r → (o : Option (Version Change)) → newest_before floor vs ≡ o → newest_before floor vs ≡ row
    by None bare None is = is ∙ sym bare
    by None bare (Some u) is = absurd (none_some (sym bare ∙ (top u is).1))
    by (Some v) some None is = absurd (no_found floor vs v is (serves.there v some) (low v some))
    by (Some v) some (Some u) is =
        let y = top u is in
        let same : y.0 ≡ v = some_same (sym y.1 ∙ some) in
        let up : UpTo Older u v = subst (λ (x : Version Change). UpTo Older u x) same y.2 in
        let down = newest floor vs u v (line-descends n.world.machine.history valid.orderly table key) is (serves.there v some) (low v some) in
        is ∙ (ap (λ (x : Version Change). Some x) (up_both_ways u v up down) ∙ sym some)
