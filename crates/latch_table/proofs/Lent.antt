-- A seat whose piece was changed while it held it.
use Rattle.std.proofs.Common.{◌≡◌, ◌≢◌, ℕ, zero, suc, ◌<◌, List, [], ◌∷◌, length, set, sym, refl, ap, ◌∙◌, subst, ⊎_elim, arith, length-set}
use mathlib.Core.Option.{some}
use lib.ListN.{get_elem?}
use Rattle.atomic_table.specs.Seated.{TableId}
use Rattle.atomic_table.specs.declared.shared.Seat.{Seat as Raw}
use Rattle.pool_law.proofs.Seats.{at_set}
use Rattle.pool_law.specs.declared.part.Part.{Part}
use Rattle.pool_law.specs.declared.part.Part.TheVariants.{Hub, Frame, Gone}
use Rattle.pool_law.specs.Whole.{Noted, Fits}
use Rattle.latch_table.specs.declared.latched.Latched.{Latched}
use Rattle.latch_table.specs.declared.latching.Latching.TheVariants.{Held}
use Rattle.latch_table.specs.declared.seat.Seat.{Seat}
use Rattle.latch_table.specs.declared.view.View.{View}
use Rattle.latch_table.specs.Seats.{Sits}
use Rattle.latch_table.specs.Tables.{IsSeatOf, Latches, knows, note_of, pieces_in, pieces_with, taken}

pub here : {A : Type 0} (l : List A) (i : ℕ) (a : A) → i < length l → get_elem? (set l i a) i ≡ some a
here [] i a h = absurd (omega arith)
here (x ∷ xs) zero a h = refl
here (x ∷ xs) (suc i) a h = here xs i a (omega arith)

module _ {H F N : Type 0} (z : TableId) (raw : Raw (Part H F) (View H F N)) where
  -- with another piece in a place where there was one, which fits there
  pub sits_with : (parts : List (Part H F)) (j : ℕ) (old w : Part H F) → Sits z raw parts → get_elem? parts j ≡ some old → Fits j w → Sits z raw (set parts j w)
  sits_with parts j old w s at fit = record {
    table = s.table;
    mine = s.mine;
    away = s.away;
    room = length-set parts j w ∙ s.room;
    wide = s.wide;
    once = s.once;
    fit = λ a k p q h e. ⊎_elim
        (λ (t : (k ≡ j) × (w ≡ q)). ((s.fit a k p old h (ap (λ (i : ℕ). get_elem? parts i) t.0 ∙ at)).0, subst (λ (y : Part H F). Fits k y) t.1 (subst (λ (i : ℕ). Fits i w) (sym t.0) fit)))
        (λ (t : (k ≢ j) × (get_elem? parts k ≡ some q)). s.fit a k p q h t.1)
        (at_set parts j k w q e);
  }

frame_of : {H F : Type 0} (f : ℕ) (p : Part H F) → Fits (suc f) p → (x : F) × (p ≡ Frame x)
frame_of f (Frame x) fit = (x, refl)
frame_of f (Hub h) fit = elim fit [ ]
frame_of f Gone fit = elim fit [ ]

hub_of : {H F : Type 0} (p : Part H F) → Fits 0 p → (h : H) × (p ≡ Hub h)
hub_of (Hub h) fit = (h, refl)
hub_of (Frame x) fit = elim fit [ ]
hub_of Gone fit = elim fit [ ]

module _ {L H F N : Type 0} (t : Latched L H F N) (told : Noted N → ℕ → Part H F → N → Type 0) (s u : Seat L H F N) where
  -- what a seat has that latched a frame
  pub has_frame : (f : ℕ) → IsSeatOf t s → suc f < pieces_in t → Latches told (suc f) s u Held
      → (x : F) × (taken u ≡ (suc f, Frame x) ∷ taken s) × (get_elem? (pieces_with u) (suc f) ≡ some (Frame x)) × told (knows s) (suc f) (Frame x) (note_of u)
  has_frame f i l (p, a, b, fit, n) =
      let r = frame_of f p fit in
      let room = i.room in (
        r.0,
        a ∙ ap (λ (y : Part H F). (suc f, y) ∷ taken s) r.1,
        ap (λ (ps : List (Part H F)). get_elem? ps (suc f)) b ∙ (here (pieces_with s) (suc f) p (omega arith) ∙ ap (λ (y : Part H F). some y) r.1),
        subst (λ (y : Part H F). told (knows s) (suc f) y (note_of u)) r.1 n,
      )

  -- what a seat has that latched the hub
  pub has_hub : IsSeatOf t s → 0 < pieces_in t → Latches told 0 s u Held
      → (x : H) × (taken u ≡ (0, Hub x) ∷ taken s) × (get_elem? (pieces_with u) 0 ≡ some (Hub x)) × told (knows s) 0 (Hub x) (note_of u)
  has_hub i l (p, a, b, fit, n) =
      let r = hub_of p fit in
      let room = i.room in (
        r.0,
        a ∙ ap (λ (y : Part H F). (0, y) ∷ taken s) r.1,
        ap (λ (ps : List (Part H F)). get_elem? ps 0) b ∙ (here (pieces_with s) 0 p (omega arith) ∙ ap (λ (y : Part H F). some y) r.1),
        subst (λ (y : Part H F). told (knows s) 0 y (note_of u)) r.1 n,
      )

-- what is left once the only piece was put back
pub none_left : {P : Type 0} (k : ℕ) (x y : P) (held rest : List (ℕ × P)) → held ≡ (k, x) ∷ [] → held ≡ (k, y) ∷ rest → rest ≡ []
none_left k x y held rest a b = ap tail_of (sym b ∙ a) where
  tail_of : {A : Type 0} → List A → List A
  tail_of [] = []
  tail_of (x ∷ xs) = xs
