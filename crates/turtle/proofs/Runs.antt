-- The calls of an install, one after another.
use Rattle.std.specs.Prelude.{◌≡◌, ◌⊎◌, ◌↔◌, ℕ, ◌+◌, ◌≤◌, ◌<◌, ◌^◌, Bool, false, IsTrue, List, [], ◌∷◌, length, drop, Option, Some, None, refl, Result, Ok, Err, OnOk, IfErr}
use Rattle.std.proofs.Common.{inl, inr, sym, ◌∙◌, ap, subst, arith}
use Rattle.disk_model.specs.declared.disk.Disk.{Ghosts}
use Rattle.disk_model.specs.Disk.{put, Torn, Only}
use Rattle.disk_model.specs.Laws.{torn_put}
use Rattle.disk_model.specs.Ranges.{range}
use Rattle.disk_model.specs.Crash.{LeavesOnly, Each, Looked}
use Rattle.disk_model.proofs.Crash.{looked_only, joined, widened, drop_torn, range_torn_apart}
use Rattle.device_layout.specs.declared.slot.Slot.{Slot}
use Rattle.turtle.specs.Slots.{slot_image, IsSlot, HasSlot, IsOpen, Chooses, IsPlace, IsTarget, IsNext, Before, Behind, LeftOld, LeftEither, AtGate, HasBody, Installed, StandsInPlace, MaybeWrite}
use Rattle.disk_model.specs.Steps.{OneWrite}
use Rattle.turtle.proofs.Slots.{OldAt, ShutAt, StagedAt, part_as, shut_as, old_at, old_as, old_chooses, shut_old, close_torn, close_put, body_torn, body_put, gate_torn, gate_put, new_chooses, chooses_as}

-- the next slot's fields fit, where its sequence is small
pub next_is_slot : (chosen : Option Slot) (slot : Slot) → IsNext chosen slot → slot.sequence < 2 ^ 62 → slot.offset < 2 ^ 64 → slot.size < 2 ^ 32 → slot.sum < 2 ^ 32 → IsSlot slot
next_is_slot None slot next small offset size sum = record { sequence = (omega arith, small); offset = offset; size = size; sum = sum }
next_is_slot (Some old) slot next small offset size sum = record { sequence = (omega arith, small); offset = offset; size = size; sum = sum }

pub ok_both : {T E : Type 0} {A B C : Type 0} (r : Result T E) → OnOk r A → OnOk r B → (A → B → C) → OnOk r C
ok_both (Ok x) a b f = f a b
ok_both (Err e) a b f = tt

pub ok_then : {T E : Type 0} {A B : Type 0} (r : Result T E) → OnOk r A → (A → B) → OnOk r B
ok_then (Ok x) a f = f a
ok_then (Err e) a f = tt

pub err_more : {T E : Type 0} (r : Result T E) (P Q : E → Type 0) → IfErr r P → ((e : E) → P e → Q e) → IfErr r Q
err_more (Ok x) P Q is more = tt
err_more (Err e) P Q is more = more e is

behind_torn : (images : List ℕ → Type 0) (at n : ℕ) (d c : List ℕ) → at + n ≤ 8192 → Behind images d → Torn at n d c → Behind images c
behind_torn images at n d c le (e, is, long, same) torn = (e, is, omega (arith, torn.no_shorter), drop_torn at n d c 8192 torn le ∙ same)

module _ {D : Type 0} (g : Ghosts D)
    (only_now : (d : D) (c : List ℕ) → g.left_since d (g.moment d) c → g.may_leave d c) (first second : D) (chosen : Option Slot) (slot : Slot) (before : Before (g.seen first) (g.may_leave first) chosen slot) (slot_is : IsSlot slot)
    (looked : Looked g first second) where
  left_first : (c : List ℕ) → g.may_leave first c → LeftOld (g.may_leave first) chosen c
  left_first c is = ((c, is, (before.each c is).0, refl), chooses_as (g.seen first) c chosen (before.each c is).1 before.chooses)

  pub run_one : LeavesOnly g first second (LeftOld (g.may_leave first) chosen)
  run_one = looked_only g first second (LeftOld (g.may_leave first) chosen) looked (λ c left. left_first c (only_now first c left))

  module _ (third : D) (t : ℕ) (place : IsPlace t) (is_open : Bool) (tells : IsTrue is_open ↔ IsOpen (g.seen first) t) (target : IsTarget (g.seen first) chosen t) (seen_is : g.may_leave first (g.seen first)) where
    small : t ≤ 4096
    small = elim place [ inl is ↦ omega arith | inr is ↦ omega arith ]

    -- an image from before
    here : (c : List ℕ) → g.may_leave second c → OldAt chosen t c × Behind (g.may_leave first) c
    here c left =
        let is = looked.images c left in
        (old_as chosen t (g.seen first) c place (before.each c is).0 (before.each c is).1 (old_at chosen t (g.seen first) place (before.each (g.seen first) seen_is).0 before.chooses target), (c, is, (before.each c is).0, refl))

    as_old : (c : List ℕ) → OldAt chosen t c × Behind (g.may_leave first) c → LeftOld (g.may_leave first) chosen c
    as_old c is = (is.1, old_chooses chosen t c place is.0)

    gate_as : (c : List ℕ) → g.may_leave second c → range c t 1 ≡ range (g.seen first) t 1
    gate_as c left = part_as c (g.seen first) t 1 (before.each c (looked.images c left)).1 (omega (arith, small))

    closing : (c : List ℕ) → MaybeWrite is_open t 1 (g.may_leave second) c → OldAt chosen t c × Behind (g.may_leave first) c
    closing c step = elim step [
      | inl same ↦ here c same
      | inr (is, (d, left, torn)) ↦ (close_torn chosen slot t place d c (gate_as d left ∙ tells.0 is) (here d left).0 torn, behind_torn (g.may_leave first) t 1 d c (omega (arith, small)) (here d left).1 torn)
    ]

    pub run_two : LeavesOnly g second third (MaybeWrite is_open t 1 (g.may_leave second)) → LeavesOnly g first third (LeftOld (g.may_leave first) chosen)
    run_two leaves = joined g first second third _ _ run_one leaves (λ c step. as_old c (closing c step))

    module _ (fourth : D) (body : List ℕ) (body_is : body ≡ slot_image slot) (body_long : length body ≡ 35) (leaves_two : LeavesOnly g second third (MaybeWrite is_open t 1 (g.may_leave second)))
        (written_two : (is_open ≡ false) × (g.seen third ≡ g.seen second) ⊎ (IsTrue is_open × (g.seen third ≡ put (g.seen second) t (0 ∷ [])) × Only (g.seen third) (g.may_leave third)))
        (same_two : is_open ≡ false → (c : List ℕ) → g.may_leave third c → g.may_leave second c) (third_is : g.may_leave third (g.seen third)) where
      behind_seen : drop 8192 (g.seen third) ≡ drop 8192 (g.seen first)
      behind_seen = elim written_two [
        | inl (shut, same) ↦ ap (λ (l : List ℕ). drop 8192 l) (same ∙ looked.content)
        | inr (is, put_is, only) ↦
            ap (λ (l : List ℕ). drop 8192 l) put_is ∙ drop_torn t 1 (g.seen second) (put (g.seen second) t (0 ∷ [])) 8192 (torn_put t (0 ∷ []) (g.seen second)) (omega (arith, small)) ∙ ap (λ (l : List ℕ). drop 8192 l) looked.content
      ]

      first_old : OldAt chosen t (g.seen first)
      first_old = old_at chosen t (g.seen first) place (before.each (g.seen first) seen_is).0 before.chooses target

      shut_here : (c : List ℕ) → g.may_leave third c → ShutAt chosen t c × Behind (g.may_leave first) c
      shut_here c left = elim written_two [
        | inl (shut, same) ↦
            let old = here c (same_two shut c left) in (
              record {
                long = old.0.long;
                other = old.0.other;
                shut = shut_as (g.seen first) c t (gate_as c (same_two shut c left)) (λ is_open_now. not_both shut (tells.1 is_open_now));
              },
              old.1,
            )
        | inr (is, put_is, only) ↦
            let there : c ≡ put (g.seen second) t (0 ∷ []) = only c left ∙ put_is in
            let as_first : g.seen second ≡ g.seen first = looked.content in (
              subst (λ (l : List ℕ). ShutAt chosen t l) (sym (there ∙ ap (λ (l : List ℕ). put l t (0 ∷ [])) as_first)) (close_put chosen slot t place (g.seen first) first_old),
              (g.seen first, seen_is, subst (λ (l : List ℕ). 8192 ≤ length l) (sym (only c left)) long_third, ap (λ (l : List ℕ). drop 8192 l) (only c left) ∙ behind_seen),
            )
      ]
        where
          not_both : is_open ≡ false → IsTrue is_open → ⊥
          not_both nope is_so = cc

          long_third : 8192 ≤ length (g.seen third)
          long_third = elim written_two [
            | inl (shut, same) ↦ subst (λ (l : List ℕ). 8192 ≤ length l) (sym (same ∙ looked.content)) (before.each (g.seen first) seen_is).0
            | inr (is, put_is, only) ↦ subst (λ (l : List ℕ). 8192 ≤ length l) (sym (put_is ∙ ap (λ (l : List ℕ). put l t (0 ∷ [])) looked.content)) (close_put chosen slot t place (g.seen first) first_old).long
          ]

      writing : (c : List ℕ) → OneWrite (t + 1) (length body) (g.may_leave third) c → LeftOld (g.may_leave first) chosen c
      writing c (d, left, torn) =
          let torn_body : Torn (t + 1) 35 d c = subst (λ n. Torn (t + 1) n d c) body_long torn in
          as_old c (shut_old chosen slot t place c (body_torn chosen slot t place d c (shut_here d left).0 torn_body), behind_torn (g.may_leave first) (t + 1) 35 d c (omega (arith, small)) (shut_here d left).1 torn_body)

      pub run_three : LeavesOnly g third fourth (OneWrite (t + 1) (length body) (g.may_leave third)) → LeavesOnly g first fourth (LeftOld (g.may_leave first) chosen)
      run_three leaves = joined g first third fourth _ _ (run_two leaves_two) leaves writing

      module _ (last : D) (leaves_three : LeavesOnly g third fourth (OneWrite (t + 1) (length body) (g.may_leave third))) (written_three : g.seen fourth ≡ put (g.seen third) (t + 1) body) (durable_three : Only (g.seen fourth) (g.may_leave fourth)) where
        staged : StagedAt chosen slot t (g.seen fourth)
        staged = subst (λ (l : List ℕ). StagedAt chosen slot t l) (sym written_three) (body_put chosen slot t place body (g.seen third) body_is body_long (shut_here (g.seen third) third_is).0)

        behind_fourth : drop 8192 (g.seen fourth) ≡ drop 8192 (g.seen first)
        behind_fourth =
            ap (λ (l : List ℕ). drop 8192 l) written_three
            ∙ drop_torn (t + 1) (length body) (g.seen third) (put (g.seen third) (t + 1) body) 8192 (torn_put (t + 1) body (g.seen third)) (omega (arith, small, body_long))
            ∙ behind_seen

        opening : (c : List ℕ) → OneWrite t 1 (g.may_leave fourth) c → LeftEither (g.may_leave first) chosen slot c
        opening c (d, left, torn) =
            let torn_seen : Torn t 1 (g.seen fourth) c = subst (λ (l : List ℕ). Torn t 1 l c) (durable_three d left) torn in (
              behind_torn (g.may_leave first) t 1 (g.seen fourth) c (omega (arith, small)) (g.seen first, seen_is, staged.long, behind_fourth) torn_seen,
              elim (gate_torn chosen slot t place (g.seen fourth) c slot_is staged torn_seen) [
                | inl old ↦ inl (old_chooses chosen t c place old)
                | inr new ↦ inr (new_chooses chosen slot t place c before.next new)
              ],
            )

        pub run_four : LeavesOnly g fourth last (OneWrite t 1 (g.may_leave fourth)) → LeavesOnly g first last (LeftEither (g.may_leave first) chosen slot)
        run_four leaves =
            joined g first fourth last _ _ (widened g first fourth _ _ (run_three leaves_three) (λ c old. (old.0, inl old.1))) leaves opening

        -- where the gate may not have been opened, the body is on the disk
        body_left : (c : List ℕ) → OneWrite t 1 (g.may_leave fourth) c → HasBody c slot
        body_left c (d, left, torn) =
            let torn_seen : Torn t 1 (g.seen fourth) c = subst (λ (l : List ℕ). Torn t 1 l c) (durable_three d left) torn in
            (t, place, range_torn_apart t 1 (g.seen fourth) c (t + 1) 35 torn_seen (λ less. omega arith) (omega (arith, staged.long, small)) ∙ staged.fields)

        pub at_gate : Each (g.may_leave last) (OneWrite t 1 (g.may_leave fourth)) → Each (g.may_leave last) (AtGate (g.may_leave first) chosen slot)
        at_gate images c left =
            let step = images c left in
            (opening c step, body_left c step)

        pub in_place : g.seen last ≡ put (g.seen fourth) t (165 ∷ []) → StandsInPlace (g.seen first) chosen slot (g.seen last)
        in_place written = (t, place, target, subst (λ (l : List ℕ). HasSlot l t slot) (sym written) (gate_put chosen slot t place (g.seen fourth) slot_is staged).has)

        pub is_installed : g.seen last ≡ put (g.seen fourth) t (165 ∷ []) → Only (g.seen last) (g.may_leave last) → Installed (g.seen first) slot (g.seen last) (g.may_leave last)
        is_installed written only =
            let new = gate_put chosen slot t place (g.seen fourth) slot_is staged in
            record {
              only = only;
              chooses = subst (λ (l : List ℕ). Chooses l (Some slot)) (sym written) (new_chooses chosen slot t place (put (g.seen fourth) t (165 ∷ [])) before.next new);
              behind = ap (λ (l : List ℕ). drop 8192 l) written ∙ drop_torn t 1 (g.seen fourth) (put (g.seen fourth) t (165 ∷ [])) 8192 (torn_put t (165 ∷ []) (g.seen fourth)) (omega (arith, small)) ∙ behind_fourth;
              long = subst (λ (l : List ℕ). 8192 ≤ length l) (sym written) new.long;
            }
