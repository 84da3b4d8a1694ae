-- What the writes of an install leave of the slots.
use Rattle.std.specs.Prelude.{◌≡◌, ◌⊎◌, ℕ, ◌+◌, ◌-◌, ◌<◌, ◌≤◌, List, [], ◌∷◌, length, take, drop, Option, Some, None, refl}
use Rattle.std.proofs.Common.{inl, inr, sym, ◌∙◌, ap, subst, arith}
use Rattle.std.specs.Int.{to_le_bytes, from_le_bytes}
use mir.Syntax.{w64}
use Rattle.std.proofs.lemmas.Nat.{from_le_bytes-to_le_bytes_8}
use Rattle.std.proofs.lemmas.List.{drop-drop}
use Rattle.std.specs.Str.{bytes_eq}
use Rattle.std.proofs.lemmas.Slice.Eq.{bytes_eq-Decides}
use Rattle.std.proofs.lemmas.Bool.{false≢true, cases_Bool}
use Rattle.disk_model.specs.Disk.{put, Torn}
use Rattle.disk_model.specs.Ranges.{range, range_take, range_put_same}
use Rattle.disk_model.specs.Laws.{torn_put}
use Rattle.disk_model.specs.Crash.{Apart}
use Rattle.disk_model.proofs.Crash.{range_torn_apart}
use Rattle.device_layout.specs.declared.slot.Slot.{Slot}
use Rattle.turtle.specs.Slots.{slot_image, sequence_at, IsSlot, IsOpen, IsShut, HasSlot, ChosenAt, Chooses, IsPlace, IsTarget, IsNext}

-- a part of the slots is told by the slots
pub part_as : (a b : List ℕ) (i n : ℕ) → take 8192 a ≡ take 8192 b → i + n ≤ 8192 → range a i n ≡ range b i n
part_as a b i n same le = sym (range_take a 8192 i n le) ∙ ap (λ (l : List ℕ). range l i n) same ∙ range_take b 8192 i n le

pub shut_as : (old new : List ℕ) (at : ℕ) → range new at 1 ≡ range old at 1 → IsShut old at → IsShut new at
shut_as old new at same shut open_now = shut (sym same ∙ open_now)

pub has_as : (old new : List ℕ) (at : ℕ) (s : Slot) → range new at 1 ≡ range old at 1 → range new (at + 1) 35 ≡ range old (at + 1) 35 → HasSlot old at s → HasSlot new at s
has_as old new at s gate fields has = record { gate = gate ∙ has.gate; fields = fields ∙ has.fields; is = has.is }

-- what stands at the place that is not written
abbrev pub OtherSide : Option Slot → ℕ → List ℕ → Type 0
OtherSide None t b = IsShut b (4096 - t)
OtherSide (Some s) t b = HasSlot b (4096 - t) s

abbrev pub ThisSide : Option Slot → ℕ → List ℕ → Type 0
ThisSide None t b = IsShut b t
ThisSide (Some s) t b = IsShut b t ⊎ ((o : Slot) × HasSlot b t o × (o.sequence < s.sequence))

pub record OldAt (chosen : Option Slot) (t : ℕ) (b : List ℕ) : Type 0 where
  pub long : 8192 ≤ length b
  pub other : OtherSide chosen t b
  pub this : ThisSide chosen t b

pub record ShutAt (chosen : Option Slot) (t : ℕ) (b : List ℕ) : Type 0 where
  pub long : 8192 ≤ length b
  pub other : OtherSide chosen t b
  pub shut : IsShut b t

pub record StagedAt (chosen : Option Slot) (slot : Slot) (t : ℕ) (b : List ℕ) : Type 0 where
  pub long : 8192 ≤ length b
  pub other : OtherSide chosen t b
  pub shut : IsShut b t
  pub fields : range b (t + 1) 35 ≡ slot_image slot

pub record NewAt (chosen : Option Slot) (slot : Slot) (t : ℕ) (b : List ℕ) : Type 0 where
  pub long : 8192 ≤ length b
  pub other : OtherSide chosen t b
  pub has : HasSlot b t slot

pub other_as : (chosen : Option Slot) (t : ℕ) (old new : List ℕ) → range new (4096 - t) 1 ≡ range old (4096 - t) 1 → range new (4096 - t + 1) 35 ≡ range old (4096 - t + 1) 35 → OtherSide chosen t old → OtherSide chosen t new
other_as None t old new gate fields is = shut_as old new (4096 - t) gate is
other_as (Some s) t old new gate fields is = has_as old new (4096 - t) s gate fields is

this_as : (chosen : Option Slot) (t : ℕ) (old new : List ℕ) → range new t 1 ≡ range old t 1 → range new (t + 1) 35 ≡ range old (t + 1) 35 → ThisSide chosen t old → ThisSide chosen t new
this_as None t old new gate fields is = shut_as old new t gate is
this_as (Some s) t old new gate fields is = elim is [
  | inl shut ↦ inl (shut_as old new t gate shut)
  | inr (o, has, less) ↦ inr (o, has_as old new t o gate fields has, less)
]

place_small : (t : ℕ) → IsPlace t → t ≤ 4096
place_small t place = elim place [ inl is ↦ omega arith | inr is ↦ omega arith ]

-- the other slot lies apart
apart_from : (t at n i m : ℕ) → IsPlace t → t ≤ at → at + n ≤ t + 36 → 4096 - t ≤ i → i + m ≤ 4096 - t + 36 → Apart at n i m
apart_from t at n i m place low high low_i high_i = elim place [ inl is ↦ (λ less. omega arith) | inr is ↦ (λ less. omega arith) ]

-- the slots are told by their bytes
pub old_as : (chosen : Option Slot) (t : ℕ) (old new : List ℕ) → IsPlace t → 8192 ≤ length new → take 8192 new ≡ take 8192 old → OldAt chosen t old → OldAt chosen t new
old_as chosen t old new place long same is =
    let small = place_small t place in record {
      long = long;
      other = other_as chosen t old new (part_as new old (4096 - t) 1 same (omega arith)) (part_as new old (4096 - t + 1) 35 same (omega arith)) is.other;
      this = this_as chosen t old new (part_as new old t 1 same (omega arith)) (part_as new old (t + 1) 35 same (omega arith)) is.this;
    }

pub old_chooses : (chosen : Option Slot) (t : ℕ) (b : List ℕ) → IsPlace t → OldAt chosen t b → Chooses b chosen
old_chooses None t b place is = elim place [
  | inl zero ↦ (subst (λ k. IsShut b k) zero is.this, subst (λ k. IsShut b (4096 - k)) zero is.other)
  | inr far ↦ (subst (λ k. IsShut b (4096 - k)) far is.other, subst (λ k. IsShut b k) far is.this)
]
old_chooses (Some s) t b place is = elim place [
  | inl zero ↦ inr (subst (λ k. HasSlot b (4096 - k) s) zero is.other, subst (λ k. ThisSide (Some s) k b) zero is.this)
  | inr far ↦ inl (subst (λ k. HasSlot b (4096 - k) s) far is.other, subst (λ k. ThisSide (Some s) k b) far is.this)
]

-- from what is chosen to what stands at the place of the next
pub old_at : (chosen : Option Slot) (t : ℕ) (b : List ℕ) → IsPlace t → 8192 ≤ length b → Chooses b chosen → IsTarget b chosen t → OldAt chosen t b
old_at None t b place long (first, second) target =
    let zero : t ≡ 0 = target (first, second) in
    record { long = long; other = subst (λ k. IsShut b (4096 - k)) (sym zero) second; this = subst (λ k. IsShut b k) (sym zero) first }
old_at (Some s) t b place long chooses target =
    let there = target chooses in
    let back : 4096 - (4096 - t) ≡ t = elim place [ inl is ↦ omega arith | inr is ↦ omega arith ] in
    record { long = long; other = there.0; this = subst (λ k. ThisSide (Some s) k b) back there.1 }

module _ (chosen : Option Slot) (slot : Slot) (t : ℕ) (place : IsPlace t) where
  other_torn : (at n : ℕ) (d c : List ℕ) → t ≤ at → at + n ≤ t + 36 → 8192 ≤ length d → Torn at n d c → OtherSide chosen t d → OtherSide chosen t c
  other_torn at n d c low high long torn is =
      let small = place_small t place in
      other_as chosen t d c
      (range_torn_apart at n d c (4096 - t) 1 torn (apart_from t at n (4096 - t) 1 place low high (omega arith) (omega arith)) (omega arith))
      (range_torn_apart at n d c (4096 - t + 1) 35 torn (apart_from t at n (4096 - t + 1) 35 place low high (omega arith) (omega arith)) (omega arith)) is

  pub shut_old : (b : List ℕ) → ShutAt chosen t b → OldAt chosen t b
  shut_old b is = record { long = is.long; other = is.other; this = this chosen is.shut }
    where
      this : (which : Option Slot) → IsShut b t → ThisSide which t b
      this None shut = shut
      this (Some s) shut = inl shut

  pub close_torn : (d c : List ℕ) → IsOpen d t → OldAt chosen t d → Torn t 1 d c → OldAt chosen t c
  close_torn d c open_d is torn = record {
    long = omega (arith, is.long, torn.no_shorter);
    other = other_torn t 1 d c (omega arith) (omega arith) is.long torn is.other;
    this = this chosen is.this (elim (cases_Bool (bytes_eq (range c t 1) (165 ∷ []))) [
      | inl same ↦ inl ((bytes_eq-Decides (range c t 1) (165 ∷ [])).0 same)
      | inr not ↦ inr (λ is_open. false≢true (sym not ∙ (bytes_eq-Decides (range c t 1) (165 ∷ [])).1 is_open))
    ]);
  }
    where
      small : t ≤ 4096
      small = place_small t place

      this : (which : Option Slot) → ThisSide which t d → IsOpen c t ⊎ IsShut c t → ThisSide which t c
      this None shut now = absurd (shut open_d)
      this (Some s) was now = elim was [
        | inl shut ↦ absurd (shut open_d)
        | inr (o, has, lesser) ↦ elim now [
          | inl gate ↦ inr (o, record { gate = gate; fields = range_torn_apart t 1 d c (t + 1) 35 torn (λ less. omega arith) (omega (arith, is.long, small)) ∙ has.fields; is = has.is }, lesser)
          | inr shut ↦ inl shut
        ]
      ]

  pub close_put : (b : List ℕ) → OldAt chosen t b → ShutAt chosen t (put b t (0 ∷ []))
  close_put b is =
      let small = place_small t place in
      let torn : Torn t 1 b (put b t (0 ∷ [])) = torn_put t (0 ∷ []) b in
      record {
        long = omega (arith, is.long, torn.no_shorter);
        other = other_torn t 1 b (put b t (0 ∷ [])) (omega arith) (omega arith) is.long torn is.other;
        shut = λ is_open. absurd_byte (sym (range_put_same b (0 ∷ []) t (omega (arith, is.long))) ∙ is_open);
      }
    where
      absurd_byte : let zero : List ℕ = 0 ∷ [] in zero ≡ 165 ∷ [] → ⊥
      absurd_byte same = cc

  pub body_torn : (d c : List ℕ) → ShutAt chosen t d → Torn (t + 1) 35 d c → ShutAt chosen t c
  body_torn d c is torn =
      let small = place_small t place in
      record {
        long = omega (arith, is.long, torn.no_shorter);
        other = other_torn (t + 1) 35 d c (omega arith) (omega arith) is.long torn is.other;
        shut = shut_as d c t (range_torn_apart (t + 1) 35 d c t 1 torn (λ less. omega arith) (omega (arith, is.long))) is.shut;
      }

  pub body_put : (body b : List ℕ) → body ≡ slot_image slot → length body ≡ 35 → ShutAt chosen t b → StagedAt chosen slot t (put b (t + 1) body)
  body_put body b which size is =
      let small = place_small t place in
      let torn : Torn (t + 1) 35 b (put b (t + 1) body) = subst (λ n. Torn (t + 1) n b (put b (t + 1) body)) size (torn_put (t + 1) body b) in
      let shut = body_torn b (put b (t + 1) body) is torn in
      record {
        long = shut.long;
        other = shut.other;
        shut = shut.shut;
        fields = subst (λ n. range (put b (t + 1) body) (t + 1) n ≡ body) size (range_put_same b body (t + 1) (omega (arith, is.long))) ∙ which;
      }

  pub gate_torn : (d c : List ℕ) → IsSlot slot → StagedAt chosen slot t d → Torn t 1 d c → OldAt chosen t c ⊎ NewAt chosen slot t c
  gate_torn d c slot_is is torn =
      let small = place_small t place in
      let long : 8192 ≤ length c = omega (arith, is.long, torn.no_shorter) in
      let other : OtherSide chosen t c = other_torn t 1 d c (omega arith) (omega arith) is.long torn is.other in
      elim (cases_Bool (bytes_eq (range c t 1) (165 ∷ []))) [
        | inl same ↦ inr (record {
          long = long;
          other = other;
          has = record {
            gate = (bytes_eq-Decides (range c t 1) (165 ∷ [])).0 same;
            fields = range_torn_apart t 1 d c (t + 1) 35 torn (λ less. omega arith) (omega (arith, is.long)) ∙ is.fields;
            is = slot_is;
          };
        })
        | inr not ↦ inl (shut_old c (record { long = long; other = other; shut = λ is_open. false≢true (sym not ∙ (bytes_eq-Decides (range c t 1) (165 ∷ [])).1 is_open) }))
      ]

  pub gate_put : (b : List ℕ) → IsSlot slot → StagedAt chosen slot t b → NewAt chosen slot t (put b t (165 ∷ []))
  gate_put b slot_is is =
      let small = place_small t place in
      let torn : Torn t 1 b (put b t (165 ∷ [])) = torn_put t (165 ∷ []) b in
      record {
        long = omega (arith, is.long, torn.no_shorter);
        other = other_torn t 1 b (put b t (165 ∷ [])) (omega arith) (omega arith) is.long torn is.other;
        has = record {
          gate = range_put_same b (165 ∷ []) t (omega (arith, is.long));
          fields = range_torn_apart t 1 b (put b t (165 ∷ [])) (t + 1) 35 torn (λ less. omega arith) (omega (arith, is.long)) ∙ is.fields;
          is = slot_is;
        };
      }

  abbrev OtherLess : List ℕ → ℕ → Type 0
  OtherLess b k = IsShut b (4096 - k) ⊎ ((s : Slot) × HasSlot b (4096 - k) s × (s.sequence < slot.sequence))

  less : (which : Option Slot) (b : List ℕ) → IsNext which slot → OtherSide which t b → OtherLess b t
  less None b one shut = inl shut
  less (Some s) b more has = inr (s, has, omega arith)

  pub new_chooses : (b : List ℕ) → IsNext chosen slot → NewAt chosen slot t b → Chooses b (Some slot)
  new_chooses b next is = elim place [
    | inl zero ↦ inl (subst (λ k. HasSlot b k slot) zero is.has, subst (λ k. OtherLess b k) zero (less chosen b next is.other))
    | inr far ↦ inr (subst (λ k. HasSlot b k slot) far is.has, subst (λ k. OtherLess b k) far (less chosen b next is.other))
  ]

-- the number in a slot
pub sequence_is : (b : List ℕ) (at : ℕ) (s : Slot) → HasSlot b at s → sequence_at b at ≡ s.sequence
sequence_is b at s has =
    let deep : range b (at + 12) 8 ≡ range (range b (at + 1) 35) 11 8 = sym (range_take (drop (at + 1) b) 35 11 8 (omega arith) ∙ ap (λ (l : List ℕ). take 8 l) (drop-drop 11 (at + 1) b) ∙ ap (λ k. range b k 8) (omega arith)) in
    let field : range (slot_image s) 11 8 ≡ to_le_bytes w64 s.sequence = refl in
    ap (λ (l : List ℕ). from_le_bytes w64 l) (deep ∙ ap (λ (l : List ℕ). range l 11 8) has.fields ∙ field) ∙ from_le_bytes-to_le_bytes_8 s.sequence (omega (arith, has.is.sequence.1))

-- with both gates open the lesser of the two numbers tells the place
pub target_second : (b : List ℕ) (chosen : Option Slot) → IsOpen b 0 → IsShut b 4096 → IsTarget b chosen 4096
target_second b None first shut = λ both. absurd (both.0 first)
target_second b (Some s) first shut = λ chosen. elim chosen [ inl here ↦ here | inr there ↦ absurd (shut there.0.gate) ]

pub target_both : (b : List ℕ) (chosen : Option Slot) (t : ℕ) → IsOpen b 0 → IsOpen b 4096
    → ((t ≡ 4096) × (sequence_at b 4096 < sequence_at b 0)) ⊎ ((t ≡ 0) × (sequence_at b 0 ≤ sequence_at b 4096)) → IsTarget b chosen t
target_both b None t first second which = λ shut. absurd (shut.0 first)
target_both b (Some s) t first second which = λ chosen. elim which [
  | inl (is, lesser) ↦ elim chosen [
    | inl here ↦ subst (λ k. ChosenAt b (4096 - k) s) (sym is) here
    | inr there ↦ elim there.1 [
      | inl shut ↦ absurd (shut first)
      | inr (o, has, less) ↦ absurd (omega (arith, sequence_is b 0 o has, sequence_is b 4096 s there.0, less, lesser))
    ]
  ]
  | inr (is, least) ↦ elim chosen [
    | inl here ↦ elim here.1 [
      | inl shut ↦ absurd (shut second)
      | inr (o, has, less) ↦ absurd (omega (arith, sequence_is b 4096 o has, sequence_is b 0 s here.0, less, least))
    ]
    | inr there ↦ subst (λ k. ChosenAt b (4096 - k) s) (sym is) there
  ]
]

chosen_as : (old new : List ℕ) (at : ℕ) (s : Slot) → at ≤ 4096 → take 8192 new ≡ take 8192 old → ChosenAt old at s → ChosenAt new at s
chosen_as old new at s small same is = (
  has_as old new at s (part_as new old at 1 same (omega arith)) (part_as new old (at + 1) 35 same (omega arith)) is.0,
  elim is.1 [
    | inl shut ↦ inl (shut_as old new (4096 - at) (part_as new old (4096 - at) 1 same (omega arith)) shut)
    | inr (o, has, less) ↦ inr (o, has_as old new (4096 - at) o (part_as new old (4096 - at) 1 same (omega arith)) (part_as new old (4096 - at + 1) 35 same (omega arith)) has, less)
  ],
)

-- what is chosen is told by the slots
pub chooses_as : (old new : List ℕ) (chosen : Option Slot) → take 8192 new ≡ take 8192 old → Chooses old chosen → Chooses new chosen
chooses_as old new None same is = (shut_as old new 0 (part_as new old 0 1 same (omega arith)) is.0, shut_as old new 4096 (part_as new old 4096 1 same (omega arith)) is.1)
chooses_as old new (Some s) same is = elim is [
  | inl here ↦ inl (chosen_as old new 0 s (omega arith) same here)
  | inr there ↦ inr (chosen_as old new 4096 s (omega arith) same there)
]
