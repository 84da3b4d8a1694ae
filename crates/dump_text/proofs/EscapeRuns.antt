-- Escape texts, a run of plain bytes at a time, and whether their items end with a zero.
use Rattle.std.proofs.Common.{◌≡◌, ◌∙◌, ◌++◌, ◌+◌, ◌-◌, ◌<◌, ◌≤◌, ◌%◌, ◌⊎◌, ℕ, zero, suc, List, [], ◌∷◌, Option, Some, None, length, take, drop, inl, inr, refl, sym, ap, subst, arith, Bool, true, false}
use Rattle.std.specs.Prelude.{◌==◌, ◌||◌, ◌*◌, Result, Ok, Err, option_map, option_and_then, slice_index}
use Rattle.std.proofs.lemmas.Bool.{eqb-true, cases_Bool, false≢true}
use Rattle.std.proofs.lemmas.List.{take_all}
use Rattle.item.specs.declared.formats.Format.{Format}
use Rattle.item.specs.declared.formats.Format.TheVariants.{S, U}
use Rattle.item.specs.Escapes.{unescaped, escaped, escape_byte}
use Rattle.item.proofs.ReadBack.{nothing-read, append-after, escaped-past}
use Rattle.hex.specs.Hex.{decode_pairs, digit_or_error, hex_digit_value, ◌>>=◌}
use Rattle.hex.specs.declared.error.FromHexError.{FromHexError}
use Rattle.memchr.specs.Find.{is_byte2}
use Rattle.dump_text.specs.Items.{decoded, item_on, pair_of, pairs_of, HasFormat, WritesItem}
use Rattle.dump_text.specs.Zeros.{IsStop, zero_behind}
use Rattle.dump_text.specs.declared.form.Form.{Form}
use Rattle.dump_text.specs.declared.form.Form.TheVariants.{Hex}

-- ---- plain bytes

neither : (p q : Bool) → ((p || q) ≡ true → ⊥) → (p ≡ false) × (q ≡ false)
neither true q f = absurd (f refl)
neither false true f = absurd (f refl)
neither false false f = (refl, refl)

pub joined_maps : (front more : List ℕ) (o : Option (List ℕ)) → option_map (λ bytes. front ++ bytes) (option_map (λ bytes. more ++ bytes) o) ≡ option_map (λ bytes. (front ++ more) ++ bytes) o
joined_maps front more None = refl
joined_maps front more (Some bytes) = ap Some (sym (append-after front more bytes))

pub plain_run : (text : List ℕ) (n : ℕ) → ((k : ℕ) → k < n → is_byte2 92 10 (slice_index text k) ≡ true → ⊥) → unescaped text ≡ option_map (λ bytes. take n text ++ bytes) (unescaped (drop n text))
plain_run text zero none = nothing-read text
plain_run [] (suc n) none = refl
plain_run (b ∷ rest) (suc n) none =
    let other = neither (b == 92) (b == 10) (none 0 (omega arith)) in
    rw (other.1, other.0) (ap (option_map (λ bytes. b ∷ bytes)) (plain_run rest n (λ k less is. none (suc k) (omega (arith, less)) is)) ∙ joined_maps (b ∷ []) (take n rest) (unescaped (drop n rest)))

pub stop_there : (b : ℕ) → is_byte2 92 10 b ≡ true → IsStop b
stop_there b is = elim (cases_Bool (b == 92)) [
  | inl slash ↦ inl (eqb-true b 92 slash)
  | inr other ↦ inr (eqb-true b 10 (rw other at is))
]

-- ---- zeros

pub zero_at_end : (before : Bool) (front : List ℕ) (b : ℕ) (more : List ℕ) → zero_behind before (front ++ b ∷ more) ≡ zero_behind (b == 0) more
zero_at_end before [] b more = refl
zero_at_end before (c ∷ front) b more = zero_at_end (c == 0) front b more

pub zero_joined : (before : Bool) (front more : List ℕ) → zero_behind before (front ++ more) ≡ zero_behind (zero_behind before front) more
zero_joined before [] more = refl
zero_joined before (b ∷ front) more = zero_joined (b == 0) front more

pub zero_past : (before : Bool) (front : List ℕ) (o : Option (List ℕ)) → option_map (zero_behind before) (option_map (λ bytes. front ++ bytes) o) ≡ option_map (zero_behind (zero_behind before front)) o
zero_past before front None = refl
zero_past before front (Some bytes) = ap Some (zero_joined before front bytes)

pub zero_past_byte : (before : Bool) (b : ℕ) (o : Option (List ℕ)) → option_map (zero_behind before) (option_map (λ bytes. b ∷ bytes) o) ≡ option_map (zero_behind (b == 0)) o
zero_past_byte before b None = refl
zero_past_byte before b (Some bytes) = refl

ends_with : (before : Bool) (item : List ℕ) → before ≡ false → zero_behind before item ≡ true → (front : List ℕ) × (item ≡ front ++ 0 ∷ [])
ends_with before [] before_is is = absurd (false≢true (sym before_is ∙ is))
ends_with before (b ∷ []) before_is is = ([], ap (λ (x : ℕ). x ∷ []) (eqb-true b 0 is))
ends_with before (b ∷ (c ∷ rest)) before_is is = let more = ends_with false (c ∷ rest) refl is in (b ∷ more.0, ap (λ (l : List ℕ). b ∷ l) more.1)

-- ---- hexadecimal digits

decoded_byte : (b : ℕ) (r : Result (List ℕ) FromHexError) → decoded (r >>= (λ bytes. Ok (b ∷ bytes))) ≡ option_map (λ bytes. b ∷ bytes) (decoded r)
decoded_byte b (Ok bytes) = refl
decoded_byte b (Err e) = refl

decoded_pair : (i high low : ℕ) (h l : Option ℕ) (r : Result (List ℕ) FromHexError) (o : Option (List ℕ)) → decoded r ≡ o
    → decoded (((digit_or_error high i h) >>= (λ x. (digit_or_error low (i + 1) l) >>= (λ y. Ok (x * 16 + y)))) >>= (λ byte. r >>= (λ bytes. Ok (byte ∷ bytes))))
    ≡ option_and_then (λ b. option_map (λ bytes. b ∷ bytes) o) (option_and_then (λ x. option_map (λ y. x * 16 + y) l) h)
decoded_pair i high low None l r o is = refl
decoded_pair i high low (Some x) None r o is = refl
decoded_pair i high low (Some x) (Some y) r o is = decoded_byte (x * 16 + y) r ∙ ap (option_map (λ bytes. (x * 16 + y) ∷ bytes)) is

decoded_pairs : (i : ℕ) (text : List ℕ) → decoded (decode_pairs i text) ≡ pairs_of text
unfolding decode_pairs
decoded_pairs i [] = refl
decoded_pairs i (digit ∷ []) = refl
decoded_pairs i (high ∷ (low ∷ rest)) = decoded_pair i high low (hex_digit_value high) (hex_digit_value low) (decode_pairs (i + 2) rest) (pairs_of rest) (decoded_pairs (i + 2) rest)

none_behind : (o : Option ℕ) → option_and_then (λ b. option_map (λ (bytes : List ℕ). b ∷ bytes) None) o ≡ None
none_behind None = refl
none_behind (Some b) = refl

odd_pairs : (text : List ℕ) → length text % 2 ≡ 1 → pairs_of text ≡ None
odd_pairs [] odd = absurd (omega (arith, odd))
odd_pairs (digit ∷ []) odd = refl
odd_pairs (high ∷ (low ∷ rest)) odd = rw (odd_pairs rest (omega (arith, odd))) (none_behind (pair_of high low))

pub hex_pairs : (text : List ℕ) → item_on Hex text ≡ pairs_of text
hex_pairs text = elim (cases_Bool (length text % 2 == 1)) [
  | inl odd ↦ rw odd (sym (odd_pairs text (eqb-true (length text % 2) 1 odd)))
  | inr even ↦ rw even (decoded_pairs 0 text)
]

pub zero_past_pair : (before : Bool) (high low b : ℕ) (rest : List ℕ) → Some b ≡ pair_of high low → option_map (zero_behind before) (pairs_of (high ∷ low ∷ rest)) ≡ option_map (zero_behind (b == 0)) (pairs_of rest)
zero_past_pair before high low b rest is = rw (← is) (zero_past_byte before b (pairs_of rest))

-- ---- the item of a line

pub some_zero : (form : Form) (format : Format) (line : List ℕ) (answer : Option Bool) (is : Bool) → answer ≡ option_map (zero_behind false) (item_on form line) → answer ≡ Some is → (is ≡ true) ⊎ (format ≡ U) → WritesItem form format line
some_zero form format line answer is told so fits = by_item (item_on form line) refl (sym told ∙ so)
  where
    by_item : (o : Option (List ℕ)) → item_on form line ≡ o → option_map (zero_behind false) o ≡ Some is → WritesItem form format line
    by_item None e other = absurd (cc (other))
    by_item (Some item) e some = (item, (e, has format fits))
      where
        zero_is : zero_behind false item ≡ is
        zero_is = cc

        has : (f : Format) → (is ≡ true) ⊎ (f ≡ U) → HasFormat f item
        has U any = tt
        has S (inl yes_is) = ends_with false item refl (zero_is ∙ yes_is)
        has S (inr other) = absurd (cc)

pub no_item : (form : Form) (format : Format) (line : List ℕ) (answer : Option Bool) → answer ≡ option_map (zero_behind false) (item_on form line) → answer ≡ None → WritesItem form format line → ⊥
no_item form format line answer told none writes =
    let some : answer ≡ Some (zero_behind false writes.0) = told ∙ ap (option_map (zero_behind false)) writes.1.0 in
    let e = sym none ∙ some in cc (e)

pub zero_is : (form : Form) (format : Format) (line : List ℕ) (answer : Option Bool) (is : Bool) → answer ≡ option_map (zero_behind false) (item_on form line) → answer ≡ Some is → format ≡ S → WritesItem form format line → is ≡ true
zero_is form format line answer is told so text writes =
    let has : HasFormat S writes.0 = subst (λ (f : Format). HasFormat f writes.0) text writes.1.1 in
    let some : answer ≡ Some (zero_behind false writes.0) = told ∙ ap (option_map (zero_behind false)) writes.1.0 in
    let same : is ≡ zero_behind false writes.0 = cc in
    same ∙ (ap (zero_behind false) has.1 ∙ zero_at_end false has.0 0 [])

-- ---- steps of the loops

-- a run and the byte of an escape were copied
pub copied : (text out mid new rest plain behind others : List ℕ) (n b : ℕ) → unescaped text ≡ option_map (λ bytes. out ++ bytes) (unescaped rest)
    → unescaped rest ≡ option_map (λ bytes. take n rest ++ bytes) (unescaped (drop n rest)) → plain ≡ take n rest → behind ≡ drop n rest → mid ≡ out ++ plain
    → unescaped behind ≡ option_map (λ bytes. b ∷ bytes) (unescaped others) → new ≡ mid ++ b ∷ [] → unescaped text ≡ option_map (λ bytes. new ++ bytes) (unescaped others)
copied text out mid new rest plain behind others n b before run front back more escape last =
    before
    ∙ ap (option_map (λ bytes. out ++ bytes)) run
    ∙ joined_maps out (take n rest) (unescaped (drop n rest))
    ∙ ap (λ (l : List ℕ). option_map (λ bytes. (out ++ take n rest) ++ bytes) (unescaped l)) (sym back)
    ∙ ap (option_map (λ bytes. (out ++ take n rest) ++ bytes)) escape
    ∙ joined_maps (out ++ take n rest) (b ∷ []) (unescaped others)
    ∙ ap (λ (l : List ℕ). option_map (λ bytes. (l ++ b ∷ []) ++ bytes) (unescaped others)) (sym (more ∙ ap (λ (l : List ℕ). out ++ l) front))
    ∙ ap (λ (l : List ℕ). option_map (λ bytes. l ++ bytes) (unescaped others)) (sym last)

-- a run was looked at
pub run_looked : (first : Bool) (text : List ℕ) (was now_is : Bool) (rest plain behind : List ℕ) (n : ℕ) → option_map (zero_behind first) (unescaped text) ≡ option_map (zero_behind was) (unescaped rest)
    → unescaped rest ≡ option_map (λ bytes. take n rest ++ bytes) (unescaped (drop n rest)) → plain ≡ take n rest → behind ≡ drop n rest → now_is ≡ zero_behind was plain
    → option_map (zero_behind first) (unescaped text) ≡ option_map (zero_behind now_is) (unescaped behind)
run_looked first text was now_is rest plain behind n before run front back is =
    before
    ∙ ap (option_map (zero_behind was)) run
    ∙ zero_past was (take n rest) (unescaped (drop n rest))
    ∙ ap (λ (l : List ℕ). option_map (zero_behind (zero_behind was l)) (unescaped (drop n rest))) (sym front)
    ∙ (λ i. option_map (zero_behind (sym is i)) (unescaped (sym back i)))

-- a run and an escape were written
pub written_on : (old out mid new done item rest front others behind : List ℕ) (n b : ℕ) → out ≡ old ++ done → done ++ escaped rest ≡ escaped item → escaped (take n rest) ≡ take n rest
    → front ≡ take n rest → others ≡ drop n rest → mid ≡ out ++ front → others ≡ b ∷ behind → new ≡ mid ++ escape_byte b
    → (more : List ℕ) × (new ≡ old ++ more) × (more ++ escaped behind ≡ escaped item)
written_on old out mid new done item rest front others behind n b so text plain front_is others_is mid_is cut new_is = (
  (done ++ take n rest) ++ escape_byte b,
  new_is
      ∙ ap (λ (l : List ℕ). l ++ escape_byte b) (mid_is ∙ (λ i. so i ++ front_is i) ∙ append-after old done (take n rest))
      ∙ append-after old (done ++ take n rest) (escape_byte b),
  append-after (done ++ take n rest) (escape_byte b) (escaped behind)
      ∙ ap (λ (l : List ℕ). (done ++ take n rest) ++ escaped l) (sym cut ∙ others_is)
      ∙ sym (escaped-past done rest n plain)
      ∙ text,
)

-- a pair of digits was looked at
pub pair_looked : (o : Option Bool) (was : Bool) (rest : List ℕ) (m b : ℕ) → o ≡ option_map (zero_behind was) (pairs_of rest) → 2 ≤ length rest → m ≡ length rest - 2 → pair_of (slice_index rest 0) (slice_index rest 1) ≡ Some b
    → o ≡ option_map (zero_behind (b == 0)) (pairs_of (take m (drop 2 rest)))
pair_looked o was [] m b before some left is = absurd (omega (arith, some))
pair_looked o was (digit ∷ []) m b before some left is = absurd (omega (arith, some))
pair_looked o was (high ∷ (low ∷ rest)) m b before some left is =
    before ∙ zero_past_pair was high low b rest (sym is) ∙ ap (λ (l : List ℕ). option_map (zero_behind (b == 0)) (pairs_of l)) (sym (take_all m rest (omega (arith, left))))
