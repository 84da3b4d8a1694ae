-- Frames whose leaves may not go, counted.
use Rattle.std.proofs.Common.{◌≡◌, ◌∙◌, ◌≤◌, ◌<◌, ◌+◌, ◌-◌, ◌^◌, ℕ, zero, suc, Option, None, Some, length, refl, sym, ap, subst, inl, inr, arith}
use Rattle.std.specs.Prelude.{option_map, true, false, IfSome}
use Rattle.std.proofs.lemmas.Bool.{cases_eq}
use Rattle.std.proofs.lemmas.Bool.Decides.{leb_tells}
use Rattle.std.specs.Option.{is_some}
use Rattle.call_steps.specs.declared.frame.Frame.{Frame}
use Rattle.engine_world.specs.Leaves.{frame_in}
use Rattle.engine_world.specs.Stands.{Engine, Stands}
use Rattle.engine_world.specs.Worlds.{Records, World}
use Rattle.engine.specs.declared.evicting.Stays.{Stays}
use Rattle.engine.specs.declared.evicting.Stays.TheVariants.{Away, Call, Pinned, Written, LastGeneration, Coming, Walked}
use Rattle.engine.specs.Evictions.{KeepsLeaf, MayBeEvicted}
use Rattle.engine.proofs.Evictions.{keeps-not, may-at}
use Rattle.engine_store.specs.declared.frames.Frames.{Frames}
use Rattle.engine_store.specs.declared.frames.Frames.TheVariants.{Soft, Firm}
use Rattle.engine_store.specs.Full.{CountsKept, IsFull, IsFullOf, IsKeptIn, MayBeFull}

-- ---- one frame

-- a leaf that may be evicted is not kept
keeps_not : (e : Engine) (id : ℕ) (why : Stays) → KeepsLeaf e id why → MayBeEvicted e id → ⊥
keeps_not e id Away keeps may = let clash : None ≡ Some may.frame = sym (keeps may.framed (may-at e id may)) ∙ may.filled in absurd cc
keeps_not e id (Call session) (framed, placed, keeps) may = keeps-not e id framed (Call session) placed keeps may
keeps_not e id (Pinned word) (framed, placed, keeps) may = keeps-not e id framed (Pinned word) placed keeps may
keeps_not e id (Written session) (framed, placed, keeps) may = keeps-not e id framed (Written session) placed keeps may
keeps_not e id LastGeneration (framed, placed, keeps) may = keeps-not e id framed LastGeneration placed keeps may
keeps_not e id (Coming session) (framed, placed, keeps) may = keeps-not e id framed (Coming session) placed keeps may
keeps_not e id (Walked session) (framed, placed, keeps) may = keeps-not e id framed (Walked session) placed keeps may

-- the frame whose leaf has this id
framed_by : (o : Option Frame) (id : ℕ) → Some id ≡ option_map (λ (f : Frame). f.id) o → (held : Frame) × (o ≡ Some held) × (id ≡ held.id)
framed_by None id is = absurd cc
framed_by (Some held) id is = let same : id ≡ held.id = cc in (held, refl, same)

module _ (e : Engine) (frame : ℕ) where
  -- it has no leaf
  pub kept_bare : None ≡ option_map (λ (f : Frame). f.id) (frame_in e.pieces frame) → IsKeptIn e frame → ⊥
  kept_bare is (held, filled, why, keeps) = let clash : None ≡ Some held.id = is ∙ ap (option_map (λ (f : Frame). f.id)) filled in absurd cc

  -- its leaf stays for this reason
  pub kept_by : (id : ℕ) (why : Stays) → Some id ≡ option_map (λ (f : Frame). f.id) (frame_in e.pieces frame) → KeepsLeaf e id why → IsKeptIn e frame
  kept_by id why is keeps = let f = framed_by (frame_in e.pieces frame) id is in (f.0, f.1, why, subst (λ (n : ℕ). KeepsLeaf e n why) f.2 keeps)

  -- its leaf may be evicted
  pub kept_not : (id : ℕ) → Some id ≡ option_map (λ (f : Frame). f.id) (frame_in e.pieces frame) → MayBeEvicted e id → IsKeptIn e frame → ⊥
  kept_not id is may (held, filled, why, keeps) =
      let same : Some id ≡ Some held.id = is ∙ ap (option_map (λ (f : Frame). f.id)) filled in
      let there : id ≡ held.id = cc in
      keeps_not e held.id why keeps (subst (λ (n : ℕ). MayBeEvicted e n) there may)

  -- by what is told of its leaf
  pub kept_told : (id : ℕ) (told : Option Stays) → is_some told ≡ true → Some id ≡ option_map (λ (f : Frame). f.id) (frame_in e.pieces frame) → IfSome told (λ why. KeepsLeaf e id why) → IsKeptIn e frame
  kept_told id None some is keeps = absurd cc
  kept_told id (Some why) some is keeps = kept_by id why is keeps

  pub kept_untold : (id : ℕ) (told : Option Stays) → is_some told ≡ false → Some id ≡ option_map (λ (f : Frame). f.id) (frame_in e.pieces frame) → (told ≡ None → MayBeEvicted e id) → IsKeptIn e frame → ⊥
  kept_untold id None some is may = kept_not id is (may refl)
  kept_untold id (Some why) some is may = absurd cc

-- ---- the first frames

module _ (e : Engine) where
  counted_once : (frames count other : ℕ) → CountsKept e frames count → CountsKept e frames other → count ≡ other
  counted_once zero count other is also = is ∙ sym also
  counted_once (suc frames) count other (inl (fewer, is, kept, rest)) (inl (less, also, more, others)) = is ∙ (ap suc (counted_once frames fewer less rest others) ∙ sym also)
  counted_once (suc frames) count other (inl (fewer, is, kept, rest)) (inr (none, others)) = absurd (none kept)
  counted_once (suc frames) count other (inr (none, rest)) (inl (less, also, more, others)) = absurd (none more)
  counted_once (suc frames) count other (inr (none, rest)) (inr (nor, others)) = counted_once frames count other rest others

  -- of fewer frames no more
  counted_first : (all frames count : ℕ) → frames ≤ all → CountsKept e all count → (fewer : ℕ) × CountsKept e frames fewer × (fewer ≤ count)
  counted_first zero frames count le kept = let none : zero ≡ frames = omega (arith, le) in (count, subst (λ (n : ℕ). CountsKept e n count) none kept, omega arith)
  counted_first (suc all) frames count le (inl (less, is, last, rest)) = elim (cases_eq frames (suc all)) [
    | inl same ↦ let whole : CountsKept e (suc all) count = inl (less, is, last, rest) in (count, subst (λ (n : ℕ). CountsKept e n count) (sym same) whole, omega arith)
    | inr other ↦ let x = counted_first all frames less (omega (arith, le, other)) rest in (x.0, x.1, omega (arith, is, x.2))
  ]
  counted_first (suc all) frames count le (inr (none, rest)) = elim (cases_eq frames (suc all)) [
    | inl same ↦ let whole : CountsKept e (suc all) count = inr (none, rest) in (count, subst (λ (n : ℕ). CountsKept e n count) (sym same) whole, omega arith)
    | inr other ↦ counted_first all frames count (omega (arith, le, other)) rest
  ]

  -- of so many more at most so many more
  counted_last : (all frames count whole : ℕ) → frames ≤ all → CountsKept e frames count → CountsKept e all whole → whole + frames ≤ count + all
  counted_last zero frames count whole le kept is = omega (arith, le, is)
  counted_last (suc all) frames count whole le kept (inl (less, one, last, rest)) = elim (cases_eq frames (suc all)) [
    | inl same ↦ let is : CountsKept e (suc all) whole = inl (less, one, last, rest) in let alike = counted_once frames count whole kept (subst (λ (n : ℕ). CountsKept e n whole) (sym same) is) in omega (arith, same, alike)
    | inr other ↦ let x = counted_last all frames count less (omega (arith, le, other)) kept rest in omega (arith, one, x)
  ]
  counted_last (suc all) frames count whole le kept (inr (none, rest)) = elim (cases_eq frames (suc all)) [
    | inl same ↦ let is : CountsKept e (suc all) whole = inr (none, rest) in let alike = counted_once frames count whole kept (subst (λ (n : ℕ). CountsKept e n whole) (sym same) is) in omega (arith, same, alike)
    | inr other ↦ let x = counted_last all frames count whole (omega (arith, le, other)) kept rest in omega (arith, x)
  ]

  pub counted_in : (frame count : ℕ) → IsKeptIn e frame → CountsKept e frame count → CountsKept e (frame + 1) (count + 1)
  counted_in frame count kept rest = let next : suc frame ≡ frame + 1 = omega arith in let more : count + 1 ≡ suc count = omega arith in subst (λ (n : ℕ). CountsKept e n (count + 1)) next (inl (count, more, kept, rest))

  pub counted_out : (frame count : ℕ) → (IsKeptIn e frame → ⊥) → CountsKept e frame count → CountsKept e (frame + 1) count
  counted_out frame count none rest = let next : suc frame ≡ frame + 1 = omega arith in subst (λ (n : ℕ). CountsKept e n count) next (inr (none, rest))

  -- they are too few, with all that are left
  pub not_full : (most frames count left : ℕ) → ((n : ℕ) → n ≤ length e.pieces → n ≤ 2 ^ 32 → n ≤ left + frames) → CountsKept e frames count → count + left < most → IsFull most e → ⊥
  not_full most frames count left all kept few full = elim (leb_tells full.frames frames) [
    | inl (is, within) ↦ let x = counted_first frames full.frames count within kept in let same = counted_once full.frames x.0 full.count x.1 full.kept in omega (arith, few, full.many, x.2, same)
    | inr (isnt, beyond) ↦ let x = counted_last full.frames frames count full.count (omega (arith, beyond)) kept full.kept in let within = all full.frames full.there full.numbered in omega (arith, few, full.many, x, within)
  ]

-- ---- of a store

pub full_of : (f : Frames) (most : ℕ) (e : Engine) → f ≡ Firm most → IsFull most e → IsFullOf f e
full_of f most e firm full = subst (λ (x : Frames). IsFullOf x e) (sym firm) full

pub never_full : (f : Frames) (most : ℕ) (e : Engine) → f ≡ Soft most → IsFullOf f e → ⊥
never_full f most e soft full = subst (λ (x : Frames). IsFullOf x e) soft full

pub not_full_of : (f : Frames) (most : ℕ) (e : Engine) → f ≡ Firm most → (IsFull most e → ⊥) → IsFullOf f e → ⊥
not_full_of f most e firm none full = none (subst (λ (x : Frames). IsFullOf x e) firm full)

-- in a world for which its engine stands, with some history
pub full_at : (f : Frames) (e : Engine) (w : World) (records : Records) → Stands e (record w { records = records }) → IsFullOf f e → MayBeFull f w
full_at (Soft most) e w records stands full = full
full_at (Firm most) e w records stands full = record { engine = e; records = records; stands = stands; full = full }
