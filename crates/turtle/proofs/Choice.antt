-- What slots spell, and which is chosen.
use Rattle.std.specs.Prelude.{◌≡◌, ◌⊎◌, ℕ, ◌+◌, ◌<◌, ◌≤◌, List, [], ◌∷◌, ◌++◌, length, take, drop, Option, Some, None, refl}
use Rattle.std.proofs.Common.{inl, inr, sym, ◌∙◌, ap, subst, arith}
use Rattle.std.specs.Int.{from_le_bytes, w32, w64}
use Rattle.std.proofs.lemmas.Nat.{from_le_bytes-to_le_bytes_8, from_le_bytes-to_le_bytes_4}
use Rattle.std.proofs.lemmas.List.{drop-drop, take_all}
use Rattle.std.proofs.Math.Seq.{take-add}
use Rattle.disk_model.specs.Ranges.{range, range_take}
use Rattle.device_layout.specs.declared.slot.Slot.{Slot}
use Rattle.turtle.specs.Slots.{slot_image, fields_of, IsSlot, IsSequence, IsShut, HasSlot, StandsAt, IsOutOfForm, HaveOneSequence, IsCorruptAt, IsBelow, IsNewer, Chooses}

abbrev with_fields : (sequence offset size sum : ℕ) → Slot
with_fields sequence offset size sum = record { sequence = sequence; offset = offset; size = size; sum = sum }

same_slot : (a b : Slot) → a.sequence ≡ b.sequence → a.offset ≡ b.offset → a.size ≡ b.size → a.sum ≡ b.sum → a ≡ b
same_slot a b p q r t =
    ap (λ n. with_fields n a.offset a.size a.sum) p ∙ ap (λ n. with_fields b.sequence n a.size a.sum) q ∙ ap (λ n. with_fields b.sequence b.offset n a.sum) r ∙ ap (λ n. with_fields b.sequence b.offset b.size n) t

-- the fields of a spelling are the slot's
pub fields_spelled : (s : Slot) → IsSlot s → fields_of (slot_image s) ≡ s
fields_spelled s is =
    let one : from_le_bytes w64 (range (slot_image s) 11 8) ≡ s.sequence = from_le_bytes-to_le_bytes_8 s.sequence (omega (arith, is.sequence.1)) in
    let two : from_le_bytes w64 (range (slot_image s) 19 8) ≡ s.offset = from_le_bytes-to_le_bytes_8 s.offset is.offset in
    let three : from_le_bytes w32 (range (slot_image s) 27 4) ≡ s.size = from_le_bytes-to_le_bytes_4 s.size is.size in
    let four : from_le_bytes w32 (range (slot_image s) 31 4) ≡ s.sum = from_le_bytes-to_le_bytes_4 s.sum is.sum in
    same_slot (fields_of (slot_image s)) s one two three four

pub has_same : (bytes : List ℕ) (at : ℕ) (s t : Slot) → HasSlot bytes at s → HasSlot bytes at t → s ≡ t
has_same bytes at s t one two =
    sym (fields_spelled s one.is) ∙ ap fields_of (sym one.fields ∙ two.fields) ∙ fields_spelled t two.is

stands_same : (bytes : List ℕ) (at : ℕ) (a b : Option Slot) → StandsAt bytes at a → StandsAt bytes at b → a ≡ b
stands_same bytes at None None one two = refl
stands_same bytes at None (Some s) one two = absurd (one two.gate)
stands_same bytes at (Some s) None one two = absurd (two one.gate)
stands_same bytes at (Some s) (Some t) one two = ap Some (has_same bytes at s t one two)

-- a part of a text that stands in a device
pub part_of : (bytes text : List ℕ) (at i n : ℕ) → range bytes at 36 ≡ text → i + n ≤ 36 → range bytes (at + i) n ≡ range text i n
part_of bytes text at i n same le =
    sym (range_take (drop at bytes) 36 i n le ∙ ap (λ (l : List ℕ). take n l) (drop-drop i at bytes) ∙ ap (λ k. range bytes k n) (omega arith)) ∙ ap (λ (l : List ℕ). range l i n) same

gate_of : (bytes text : List ℕ) (at : ℕ) → range bytes at 36 ≡ text → range bytes at 1 ≡ range text 0 1
gate_of bytes text at same = subst (λ k. range bytes k 1 ≡ range text 0 1) (omega arith) (part_of bytes text at 0 1 same (omega arith))

has_in : (bytes text : List ℕ) (at : ℕ) (s : Slot) → range bytes at 36 ≡ text → HasSlot text 0 s → HasSlot bytes at s
has_in bytes text at s same has = record { gate = gate_of bytes text at same ∙ has.gate; fields = part_of bytes text at 1 35 same (omega arith) ∙ has.fields; is = has.is }

has_out : (bytes text : List ℕ) (at : ℕ) (s : Slot) → range bytes at 36 ≡ text → HasSlot bytes at s → HasSlot text 0 s
has_out bytes text at s same has = record { gate = sym (gate_of bytes text at same) ∙ has.gate; fields = sym (part_of bytes text at 1 35 same (omega arith)) ∙ has.fields; is = has.is }

pub stands_in : (bytes text : List ℕ) (at : ℕ) (slot : Option Slot) → range bytes at 36 ≡ text → StandsAt text 0 slot → StandsAt bytes at slot
stands_in bytes text at None same shut = λ gate. shut (sym (gate_of bytes text at same) ∙ gate)
stands_in bytes text at (Some s) same has = has_in bytes text at s same has

pub out_of_form_in : (bytes text : List ℕ) (at : ℕ) → range bytes at 36 ≡ text → IsOutOfForm text 0 → IsOutOfForm bytes at
out_of_form_in bytes text at same bad = (gate_of bytes text at same ∙ bad.0, λ s has. bad.1 s (has_out bytes text at s same has))

-- what the text of an open slot says
pub spelled_slot : (text : List ℕ) (s : Slot) → length text ≡ 36 → range text 0 1 ≡ 165 ∷ [] → drop 1 text ≡ slot_image s → IsSlot s → HasSlot text 0 s
spelled_slot text s long gate spelled is = record { gate = gate; fields = ap (λ (l : List ℕ). take 35 l) spelled; is = is }

pub not_spelled : (text : List ℕ) (s : Slot) → length (drop 1 text) ≡ 35 → range text 0 1 ≡ 165 ∷ [] → s ≡ fields_of (drop 1 text) → ((drop 1 text ≡ slot_image s) × IsSequence s.sequence → ⊥) → IsOutOfForm text 0
not_spelled text s long gate fields not = (gate, λ t has. no t has)
  where
    no : (t : Slot) → HasSlot text 0 t → ⊥
    no t has =
        let body : drop 1 text ≡ slot_image t = sym (take_all 35 (drop 1 text) (omega arith)) ∙ has.fields in
        let same : s ≡ t = fields ∙ ap fields_of body ∙ fields_spelled t has.is in
        not (body ∙ ap slot_image (sym same), subst (λ (x : Slot). IsSequence x.sequence) (sym same) has.is.sequence)

-- the newer of what stands is chosen
pub newer_chosen : (bytes : List ℕ) (first second chosen : Option Slot) → StandsAt bytes 0 first → StandsAt bytes 4096 second → IsNewer first second chosen → Chooses bytes chosen
newer_chosen bytes first second None one two newer = (subst (λ (x : Option Slot). StandsAt bytes 0 x) newer.0 one, subst (λ (x : Option Slot). StandsAt bytes 4096 x) newer.1 two)
newer_chosen bytes first second (Some s) one two newer = elim newer [
  | inl (is, below) ↦ inl (subst (λ (x : Option Slot). StandsAt bytes 0 x) is one, other 4096 second two below)
  | inr (is, below) ↦ inr (subst (λ (x : Option Slot). StandsAt bytes 4096 x) is two, other 0 first one below)
]
  where
    other : (at : ℕ) (o : Option Slot) → StandsAt bytes at o → IsBelow o s → IsShut bytes at ⊎ ((x : Slot) × HasSlot bytes at x × (x.sequence < s.sequence))
    other at None shut below = inl shut
    other at (Some x) has below = inr (x, has, below)

-- what stands beside the chosen slot
beside : (bytes : List ℕ) (at : ℕ) (s : Slot) → (IsShut bytes at ⊎ ((x : Slot) × HasSlot bytes at x × (x.sequence < s.sequence))) → (o : Option Slot) × StandsAt bytes at o × IsBelow o s
beside bytes at s is = elim is [
  | inl shut ↦ (None, shut, tt)
  | inr (x, has, less) ↦ (Some x, has, less)
]

pub chosen_stands : (bytes : List ℕ) (chosen : Option Slot) → Chooses bytes chosen → (first : Option Slot) × (second : Option Slot) × StandsAt bytes 0 first × StandsAt bytes 4096 second × IsNewer first second chosen
chosen_stands bytes None is = (None, None, is.0, is.1, (refl, refl))
chosen_stands bytes (Some s) is = elim is [
  | inl here ↦ (let o = beside bytes 4096 s here.1 in (Some s, o.0, here.0, o.1, inl (refl, o.2)))
  | inr there ↦ (let o = beside bytes 0 s there.1 in (o.0, Some s, o.1, there.0, inr (refl, o.2)))
]

newer_one : (first second a b : Option Slot) → IsNewer first second a → IsNewer first second b → a ≡ b
newer_one first second None None one two = refl
newer_one first second None (Some t) one two = elim two [ inl (is, below) ↦ absurd (none_some t (sym one.0 ∙ is)) | inr (is, below) ↦ absurd (none_some t (sym one.1 ∙ is)) ]
  where
    none_some : (x : Slot) → let none : Option Slot = None in none ≡ Some x → ⊥
    none_some x is = cc
newer_one first second (Some s) None one two = elim one [ inl (is, below) ↦ absurd (none_some s (sym two.0 ∙ is)) | inr (is, below) ↦ absurd (none_some s (sym two.1 ∙ is)) ]
  where
    none_some : (x : Slot) → let none : Option Slot = None in none ≡ Some x → ⊥
    none_some x is = cc
newer_one first second (Some s) (Some t) one two = elim one [
  | inl (is, below) ↦ elim two [
    | inl (same, under) ↦ sym is ∙ same
    | inr (other, under) ↦ absurd (omega (arith, subst (λ (x : Option Slot). IsBelow x s) other below, subst (λ (x : Option Slot). IsBelow x t) is under))
  ]
  | inr (is, below) ↦ elim two [
    | inl (other, under) ↦ absurd (omega (arith, subst (λ (x : Option Slot). IsBelow x s) other below, subst (λ (x : Option Slot). IsBelow x t) is under))
    | inr (same, under) ↦ sym is ∙ same
  ]
]

-- what is chosen is told by the bytes of the slots
module _ (old new : List ℕ) where
  same_gate : (at : ℕ) → range new at 36 ≡ range old at 36 → range new at 1 ≡ range old at 1
  same_gate at same = gate_of new (range old at 36) at same ∙ sym (gate_of old (range old at 36) at refl)

  shut_still : (at : ℕ) → range new at 36 ≡ range old at 36 → IsShut old at → IsShut new at
  shut_still at same shut gate = shut (sym (same_gate at same) ∙ gate)

  has_still : (at : ℕ) (s : Slot) → range new at 36 ≡ range old at 36 → HasSlot old at s → HasSlot new at s
  has_still at s same has = record {
    gate = same_gate at same ∙ has.gate;
    fields = part_of new (range old at 36) at 1 35 same (omega arith) ∙ sym (part_of old (range old at 36) at 1 35 refl (omega arith)) ∙ has.fields;
    is = has.is;
  }

  less_still : (at : ℕ) (s : Slot) → range new at 36 ≡ range old at 36 → (IsShut old at ⊎ ((x : Slot) × HasSlot old at x × (x.sequence < s.sequence))) → IsShut new at ⊎ ((x : Slot) × HasSlot new at x × (x.sequence < s.sequence))
  less_still at s same (inl shut) = inl (shut_still at same shut)
  less_still at s same (inr (x, has, less)) = inr (x, has_still at x same has, less)

  pub chooses_still : (chosen : Option Slot) → range new 0 36 ≡ range old 0 36 → range new 4096 36 ≡ range old 4096 36 → Chooses old chosen → Chooses new chosen
  chooses_still None first second is = (shut_still 0 first is.0, shut_still 4096 second is.1)
  chooses_still (Some s) first second (inl here) = inl (has_still 0 s first here.0, less_still 4096 s second here.1)
  chooses_still (Some s) first second (inr there) = inr (has_still 4096 s second there.0, less_still 0 s first there.1)

pub chooses_one : (bytes : List ℕ) (a b : Option Slot) → Chooses bytes a → Chooses bytes b → a ≡ b
chooses_one bytes a b one two =
    let x = chosen_stands bytes a one in
    let y = chosen_stands bytes b two in
    let firsts : y.0 ≡ x.0 = stands_same bytes 0 y.0 x.0 y.2 x.2 in
    let seconds : y.1 ≡ x.1 = stands_same bytes 4096 y.1 x.1 y.3 x.3 in
    newer_one x.0 x.1 a b x.4 (subst (λ (o : Option Slot). IsNewer x.0 o b) seconds (subst (λ (o : Option Slot). IsNewer o y.1 b) firsts y.4))

not_out_of_form : (bytes : List ℕ) (at : ℕ) (o : Option Slot) → StandsAt bytes at o → IsOutOfForm bytes at → ⊥
not_out_of_form bytes at None shut bad = shut bad.0
not_out_of_form bytes at (Some s) has bad = bad.1 s has

newer_apart : (first second chosen : Option Slot) → IsNewer first second chosen → HaveOneSequence first second → ⊥
newer_apart None second chosen newer same = same
newer_apart (Some a) None chosen newer same = same
newer_apart (Some a) (Some b) None newer same = cc
newer_apart (Some a) (Some b) (Some s) newer same = elim newer [
  | inl (is, below) ↦ (let e : a.sequence ≡ s.sequence = ap (λ (o : Option Slot). number o) is in omega (arith, same, e, below))
  | inr (is, below) ↦ (let e : b.sequence ≡ s.sequence = ap (λ (o : Option Slot). number o) is in omega (arith, same, e, below))
]
  where
    number : Option Slot → ℕ
    number None = 0
    number (Some x) = x.sequence

pub chosen_in_form : (bytes : List ℕ) (chosen : Option Slot) (at : ℕ) → 8192 ≤ length bytes → Chooses bytes chosen → IsCorruptAt bytes at → ⊥
chosen_in_form bytes chosen at long is bad =
    let x = chosen_stands bytes chosen is in elim bad [
      | inl (zero, short) ↦ omega (arith, long, short)
      | inr rest ↦ elim rest [
        | inl (zero, enough, first) ↦ not_out_of_form bytes 0 x.0 x.2 first
        | inr (far, enough, (first, stands, fault)) ↦ elim fault [
          | inl out ↦ not_out_of_form bytes 4096 x.1 x.3 out
          | inr (second, has, same) ↦
              newer_apart x.0 x.1 chosen x.4 (subst (λ (o : Option Slot). HaveOneSequence o x.1) (stands_same bytes 0 first x.0 stands x.2) (subst (λ (o : Option Slot). HaveOneSequence first o) (stands_same bytes 4096 second x.1 has x.3) same))
        ]
      ]
    ]

pub first_corrupt : (bytes : List ℕ) → 8192 ≤ length bytes → IsOutOfForm bytes 0 → IsCorruptAt bytes 0
first_corrupt bytes long bad = inr (inl (refl, long, bad))

pub second_corrupt : (bytes : List ℕ) (first : Option Slot) → 8192 ≤ length bytes → StandsAt bytes 0 first → IsOutOfForm bytes 4096 → IsCorruptAt bytes 4096
second_corrupt bytes first long stands bad = inr (inr (refl, long, (first, stands, inl bad)))

pub one_sequence_corrupt : (bytes : List ℕ) (first second : Option Slot) → 8192 ≤ length bytes → StandsAt bytes 0 first → StandsAt bytes 4096 second → HaveOneSequence first second → IsCorruptAt bytes 4096
one_sequence_corrupt bytes first second long stands other same = inr (inr (refl, long, (first, stands, inr (second, other, same))))

-- an open slot is these 36 bytes
pub text_is : (bytes : List ℕ) (at : ℕ) (s : Slot) → HasSlot bytes at s → range bytes at 36 ≡ 165 ∷ slot_image s
text_is bytes at s has =
    let back : range bytes (at + 1) 35 ≡ take 35 (drop 1 (drop at bytes)) = ap (λ (l : List ℕ). take 35 l) (sym (drop-drop 1 at bytes ∙ ap (λ k. drop k bytes) (omega arith))) in
    take-add 1 35 (drop at bytes) ∙ ap (λ (l : List ℕ). l ++ take 35 (drop 1 (drop at bytes))) has.gate ∙ ap (λ (l : List ℕ). 165 ∷ l) (sym back ∙ has.fields)

pub slot_is_text : (bytes : List ℕ) (at : ℕ) (s : Slot) → range bytes at 36 ≡ 165 ∷ slot_image s → IsSlot s → HasSlot bytes at s
slot_is_text bytes at s same is = record { gate = gate_of bytes (165 ∷ slot_image s) at same; fields = part_of bytes (165 ∷ slot_image s) at 1 35 same (omega arith); is = is }
