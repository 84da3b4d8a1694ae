-- An image that is read from its block was filled up to it, and what was filled up is read.
use Rattle.std.proofs.Common.{◌≡◌, ℕ, zero, suc, ◌+◌, ◌-◌, ◌^◌, ◌<◌, ◌≤◌, Bool, true, false, cond, List, [], ◌∷◌, ◌++◌, length, take, drop, replicate, Option, Some, None, refl, sym, ap, subst, ◌∙◌, append_assoc, arith}
use Rattle.std.specs.Prelude.{◌&&◌, ◌==◌, nat_le, IfSome, IfNone, option_map}
use Rattle.std.specs.List.{list_all}
use Rattle.std.proofs.lemmas.Bool.{eqb-true, leb-true, le-leb, eq-eqb}
use Rattle.std.proofs.lemmas.Option.{cond_some}
use Rattle.std.proofs.lemmas.List.{length-append, length-replicate, take_at, drop_at}
use Rattle.le_codec.specs.Fields.{◌>>=◌, slice_at, IsBytes}
use Rattle.le_codec.specs.Images.{header, framed, block_size, block_of, HoldsImage, Head, head_text, HeadFits, head_at, is_zero, head_fits, Framed, image_at}
use Rattle.le_codec.proofs.Laws.{bind_some, slice_field, IsBytes-drop, IsBytes-take}
use Rattle.le_codec.proofs.Heads.{head_field, length-head, length-header, length-framed, head_with}

and_is : (b c : Bool) → (b && c) ≡ true → (b ≡ true) × (c ≡ true)
and_is true c e = (refl, e)
and_is false c e = absurd cc

zeros_are : (zs : List ℕ) → list_all is_zero zs ≡ true → zs ≡ replicate (length zs) 0
zeros_are [] h = refl
zeros_are (z ∷ zs) h =
    let p = and_is (is_zero z) (list_all is_zero zs) h in
    ap (λ (n : ℕ). n ∷ zs) (eqb-true _ _ p.0) ∙ ap (λ (l : List ℕ). 0 ∷ l) (zeros_are zs p.1)

all_zeros : (n : ℕ) → list_all is_zero (replicate n 0) ≡ true
all_zeros zero = refl
all_zeros (suc n) = all_zeros n

-- what a header that fits says
pub record Fits (kind format size : ℕ) (h : Head) : Type 0 where
  pub is : h ≡ head_with kind format h.count h.used h.level
  pub low : 16 ≤ h.used
  pub size_is : block_size h.used ≡ size

head_true : (kind format size : ℕ) (h : Head) → head_fits kind format size h ≡ true → Fits kind format size h
head_true kind format size h e =
    let a = and_is ((h.kind == kind) && (h.format == format) && nat_le 16 h.used) (block_size h.used == size) e in
    let b = and_is ((h.kind == kind) && (h.format == format)) (nat_le 16 h.used) a.0 in
    let c = and_is (h.kind == kind) (h.format == format) b.0 in
    record {
      is = ap (λ (k : ℕ). record { kind = k; format = h.format; count = h.count; used = h.used; level = h.level }) (eqb-true _ _ c.0) ∙ ap (λ (k : ℕ). record { kind = kind; format = k; count = h.count; used = h.used; level = h.level }) (eqb-true _ _ c.1);
      low = leb-true _ _ b.1;
      size_is = eqb-true _ _ a.1;
    }

same_number : (n : ℕ) → (n == n) ≡ true
same_number n = eq-eqb n n refl

head_is : (kind format count used level : ℕ) → 16 ≤ used → head_fits kind format (block_size used) (head_with kind format count used level) ≡ true
head_is kind format count used level low =
    let x : nat_le 16 used ≡ true = le-leb _ _ low in
    rw (same_number kind, same_number format, x, same_number (block_size used)) refl

upto_size : (used : ℕ) → used ≤ block_size used
upto_size used = omega arith

-- a block is a header that fits, a text, and zeros
filled : (kind format size : ℕ) (block rest text zeros : List ℕ) (h : Head) → size ≡ length block → Fits kind format size h → block ≡ head_text h ++ rest → rest ≡ text ++ zeros → length text ≡ h.used - 16 → zeros ≡ replicate (length zeros) 0 → block ≡ block_of (framed kind format h.count h.level text)
filled kind format size block rest text zeros h len fits front back long nothing =
    let used : h.used ≡ 16 + length text = omega (arith, long, fits.low) in
    let image : List ℕ = framed kind format h.count h.level text in
    let image_len : length image ≡ h.used = length-framed kind format h.count h.level text ∙ sym used in
    let block_len : length block ≡ 16 + (length text + length zeros) = ap length front ∙ length-append (head_text h) rest ∙ ap (λ (n : ℕ). n + length rest) (length-head h) ∙ ap (λ (n : ℕ). 16 + n) (ap length back ∙ length-append text zeros) in
    let whole : block_size (length image) ≡ length block = ap block_size image_len ∙ fits.size_is ∙ len in
    let zeros_len : length zeros ≡ block_size (length image) - length image = omega (arith, whole, block_len, image_len, used) in
    let head : head_text h ≡ header kind format h.count (16 + length text) h.level = ap head_text fits.is ∙ ap (λ (n : ℕ). header kind format h.count n h.level) used in
    front ∙ ap (λ (r : List ℕ). head_text h ++ r) back ∙ sym (append_assoc (head_text h) text zeros) ∙ ap (λ (p : List ℕ). (p ++ text) ++ zeros) head ∙ ap (λ (z : List ℕ). image ++ z) (nothing ∙ ap (λ (n : ℕ). replicate n 0) zeros_len)

pub image_takes : (kind format : ℕ) (block : List ℕ) (x : Framed) → IsBytes block → image_at kind format block ≡ Some x → HoldsImage kind format block x.0 x.1.0 x.1.1
unfolding image_at
image_takes kind format block x fits e =
    let a = bind_some (head_at block) (λ head. cond (head_fits kind format (length block) head.0) (Some head.0) None >>= λ f. slice_at (f.used - 16) head.1 >>= λ text. cond (list_all is_zero text.1) (Some (f.count, (f.level, text.0))) None) x e in
    let b = bind_some (cond (head_fits kind format (length block) a.0.0) (Some a.0.0) None) (λ f. slice_at (f.used - 16) a.0.1 >>= λ text. cond (list_all is_zero text.1) (Some (f.count, (f.level, text.0))) None) x a.2 in
    let g = cond_some (head_fits kind format (length block) a.0.0) a.0.0 b.0 b.1 in
    let c = bind_some (slice_at (b.0.used - 16) a.0.1) (λ text. cond (list_all is_zero text.1) (Some (b.0.count, (b.0.level, text.0))) None) x b.2 in
    let d = cond_some (list_all is_zero c.0.1) (b.0.count, (b.0.level, c.0.0)) x c.2 in
    let t = head_field.takes block a.0.0 a.0.1 fits a.1 in
    let s = (slice_field (b.0.used - 16)).takes a.0.1 c.0.0 c.0.1 t.0.rest_fits c.1 in
    let head : Fits kind format (length block) b.0 = subst (λ (h : Head). Fits kind format (length block) h) g.1 (head_true kind format (length block) a.0.0 g.0) in
    let wide : HeadFits b.0 = subst (λ (h : Head). HeadFits h) g.1 t.1 in
    let front : block ≡ head_text b.0 ++ a.0.1 = t.0.parts ∙ ap (λ (h : Head). head_text h ++ a.0.1) g.1 in
    let made : HoldsImage kind format block b.0.count b.0.level c.0.0 = record {
      spelled = filled kind format (length block) block a.0.1 c.0.0 c.0.1 b.0 refl head front s.0.parts s.1 (zeros_are c.0.1 d.0);
      count_fits = wide.count;
      level_fits = wide.level;
      text_fits = omega (arith, s.1, head.low, wide.used);
    } in
    subst (λ (y : Framed). HoldsImage kind format block y.0 y.1.0 y.1.1) d.1 made

pub image_again : (kind format count level : ℕ) (text : List ℕ) → kind < 2 ^ 8 → format < 2 ^ 8 → count < 2 ^ 16 → level < 2 ^ 64 → 16 + length text < 2 ^ 32 → image_at kind format (block_of (framed kind format count level text)) ≡ Some (count, (level, text))
unfolding image_at
image_again kind format count level text hk hf hc hl small =
    let used : ℕ = 16 + length text in
    let image : List ℕ = framed kind format count level text in
    let zeros : List ℕ = replicate (block_size (length image) - length image) 0 in
    let h : Head = head_with kind format count used level in
    let image_len : length image ≡ used = length-framed kind format count level text in
    let head : head_at (image ++ zeros) ≡ Some (h, text ++ zeros) = ap head_at (append_assoc (head_text h) text zeros) ∙ head_field.again h (text ++ zeros) (record { kind = hk; format = hf; count = hc; used = small; level = hl }) in
    let zeros_len : length zeros ≡ block_size (length image) - length image = length-replicate (block_size (length image) - length image) 0 in
    let len : length (image ++ zeros) ≡ block_size used = length-append image zeros ∙ omega (arith, zeros_len, upto_size (length image)) ∙ ap block_size image_len in
    let fits : head_fits kind format (length (image ++ zeros)) h ≡ true = ap (λ (n : ℕ). head_fits kind format n h) len ∙ head_is kind format count used level (omega arith) in
    let slice : slice_at (used - 16) (text ++ zeros) ≡ Some (text, zeros) = (slice_field (used - 16)).again text zeros (omega arith) in
    let nothing : list_all is_zero zeros ≡ true = all_zeros (block_size (length image) - length image) in
    rw (head, fits, slice, nothing) refl

nothing_some : {A : Type 0} {x : A} → None ≡ Some x → ⊥
nothing_some e = absurd cc

none_found : (kind format : ℕ) (block : List ℕ) → kind < 2 ^ 8 → format < 2 ^ 8 → None ≡ image_at kind format block → (count level : ℕ) (text : List ℕ) → HoldsImage kind format block count level text → ⊥
none_found kind format block hk hf is count level text h = nothing_some (is ∙ ap (image_at kind format) h.spelled ∙ image_again kind format count level text hk hf h.count_fits h.level_fits h.text_fits)

-- an answer that is what reading gives
pub found_in : {X : Type 0} (view : X → Framed) (r : Option X) (kind format : ℕ) (block : List ℕ) → IsBytes block → option_map view r ≡ image_at kind format block → IfSome r (λ x. HoldsImage kind format block (view x).0 (view x).1.0 (view x).1.1)
found_in view None kind format block fits is = tt
found_in view (Some x) kind format block fits is = image_takes kind format block (view x) fits (sym is)

pub none_in : {X : Type 0} (view : X → Framed) (r : Option X) (kind format : ℕ) (block : List ℕ) → kind < 2 ^ 8 → format < 2 ^ 8 → option_map view r ≡ image_at kind format block → IfNone r ((count level : ℕ) (text : List ℕ) → HoldsImage kind format block count level text → ⊥)
none_in view None kind format block hk hf is = none_found kind format block hk hf is
none_in view (Some x) kind format block hk hf is = tt

-- the text's bytes are the block's
pub text_bytes : (kind format count level : ℕ) (text block : List ℕ) → IsBytes block → block ≡ block_of (framed kind format count level text) → IsBytes text
text_bytes kind format count level text block fits is =
    let first : List ℕ = header kind format count (16 + length text) level in
    let zeros : List ℕ = replicate (block_size (length (framed kind format count level text)) - length (framed kind format count level text)) 0 in
    let body : drop 16 block ≡ text ++ zeros = ap (λ (l : List ℕ). drop 16 l) (is ∙ append_assoc first text zeros) ∙ drop_at first (text ++ zeros) 16 (length-header kind format count (16 + length text) level) in
    let front : take (length text) (drop 16 block) ≡ text = ap (λ (l : List ℕ). take (length text) l) body ∙ take_at text zeros (length text) refl in
    subst (λ (l : List ℕ). IsBytes l) front (IsBytes-take (length text) (drop 16 block) (IsBytes-drop 16 block fits))
