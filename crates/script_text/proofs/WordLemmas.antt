-- Words cut off a text, one byte after the other.
use Rattle.std.proofs.Common.{◌≡◌, ◌∙◌, ◌++◌, ◌+◌, ◌<◌, ◌≢◌, ℕ, suc, List, [], ◌∷◌, length, take, drop, refl, sym, ap, inl, inr, slice_index_or, drop-cons, append_assoc, arith}
use Rattle.std.specs.Prelude.{Option, Some, None, ◌==◌, Bool, true, false}
use Rattle.std.proofs.lemmas.Bool.{cases_Bool, ne_eqb, eq-eqb, eqb-true, false≢true}
use Rattle.std.proofs.lemmas.Option.{none-some, same_Some}
use Rattle.std.proofs.lemmas.List.{take_more}
use Rattle.script_text.specs.Words.{words_of, words_behind, behind_space, onto, after_of, one_of, no_words}

-- bytes in front of the first word
abbrev pub on_front : List ℕ → List (List ℕ) → List (List ℕ)
on_front front [] = front ∷ []
on_front front (word ∷ words) = (front ++ word) ∷ words

on_front-onto : (front : List ℕ) (b : ℕ) (words : List (List ℕ)) → on_front front (onto b words) ≡ on_front (front ++ b ∷ []) words
on_front-onto front b [] = refl
on_front-onto front b (word ∷ words) = ap (λ (w : List ℕ). w ∷ words) (sym (append_assoc front (b ∷ []) word))

nothing-behind : (l : List ℕ) → l ++ [] ≡ l
nothing-behind [] = refl
nothing-behind (x ∷ l) = ap (λ t. x ∷ t) (nothing-behind l)

drop-next : (text : List ℕ) (i : ℕ) → i < length text → drop i text ≡ slice_index_or text i 0 ∷ drop (i + 1) text
drop-next text i inside = drop-cons text i 0 inside ∙ ap (λ n. slice_index_or text i 0 ∷ drop n text) (one-more i) where
  one-more : (n : ℕ) → suc n ≡ n + 1
  one-more n = omega arith

is_some_words : List (List ℕ) → Bool
is_some_words [] = false
is_some_words (word ∷ words) = true

some_words : (text : List ℕ) → is_some_words (words_of text) ≡ true
unfolding is_some_words
some_words [] = refl
some_words (b ∷ rest) = elim (cases_Bool (b == 32)) [ inl is ↦ rw is refl | inr other ↦ rw other (onto-some (words_of rest)) ] where
  onto-some : (words : List (List ℕ)) → is_some_words (onto b words) ≡ true
  onto-some [] = refl
  onto-some (word ∷ words) = refl

on_front-nothing : (words : List (List ℕ)) → is_some_words words ≡ true → words ≡ on_front [] words
unfolding is_some_words
on_front-nothing [] e = absurd (false≢true e)
on_front-nothing (word ∷ words) e = refl

-- one byte more of the first word
pub word-more : (text : List ℕ) (i : ℕ) → i < length text → slice_index_or text i 0 ≢ 32
    → words_of text ≡ on_front (take i text) (words_of (drop i text)) → words_of text ≡ on_front (take (i + 1) text) (words_of (drop (i + 1) text))
word-more text i inside other before =
    let b : ℕ = slice_index_or text i 0 in
    let next : words_of (drop i text) ≡ onto b (words_of (drop (i + 1) text)) = ap words_of (drop-next text i inside) ∙ rw (ne_eqb b 32 other) refl in
    before ∙ (ap (on_front (take i text)) next ∙ (on_front-onto (take i text) b (words_of (drop (i + 1) text)) ∙ ap (λ (l : List ℕ). on_front l (words_of (drop (i + 1) text))) (sym (take_more text i 0 inside))))

-- a space ends the first word
pub word-ends : (text : List ℕ) (i : ℕ) → i < length text → slice_index_or text i 0 ≡ 32
    → words_of text ≡ on_front (take i text) (words_of (drop i text)) → words_of text ≡ take i text ∷ words_behind (behind_space (drop i text))
word-ends text i inside is before =
    let rest : List ℕ = drop (i + 1) text in
    let here : drop i text ≡ 32 ∷ rest = drop-next text i inside ∙ ap (λ b. b ∷ rest) is in
    before ∙ (ap (λ (l : List ℕ). on_front (take i text) (words_of l)) here ∙ (ap (λ (l : List ℕ). l ∷ words_of rest) (nothing-behind (take i text)) ∙ ap (λ (l : List ℕ). take i text ∷ words_behind (behind_space l)) (sym here)))

-- the text ends the first word
pub text-ends : (text : List ℕ) (rest : List ℕ) (i : ℕ) → rest ≡ [] → drop i text ≡ rest
    → words_of text ≡ on_front (take i text) (words_of (drop i text)) → words_of text ≡ take i text ∷ words_behind (behind_space (drop i text))
text-ends text rest i none is before =
    let here : drop i text ≡ [] = is ∙ none in
    before ∙ (ap (λ (l : List ℕ). on_front (take i text) (words_of l)) here ∙ (ap (λ (l : List ℕ). l ∷ []) (nothing-behind (take i text)) ∙ ap (λ (l : List ℕ). take i text ∷ words_behind (behind_space l)) (sym here)))

pub no-byte-yet : (text : List ℕ) → words_of text ≡ on_front [] (words_of text)
no-byte-yet text = on_front-nothing (words_of text) (some_words text)

-- ---- a name in front

pub after-append : (name rest : List ℕ) → after_of name (name ++ rest) ≡ Some rest
after-append [] rest = refl
after-append (n ∷ name) rest = rw (eq-eqb n n refl) (after-append name rest)

pub after-is : (name word rest : List ℕ) → after_of name word ≡ Some rest → word ≡ name ++ rest
after-is [] word rest e = same_Some word rest e
after-is (n ∷ name) [] rest e = absurd (none-some rest e)
after-is (n ∷ name) (b ∷ word) rest e = elim (cases_Bool (b == n)) [
  | inl same ↦ (λ i. eqb-true b n same i ∷ after-is name word rest (rw same at e) i)
  | inr other ↦ absurd (none-some rest (rw other at e))
]

pub after-none : (name word : List ℕ) → ((rest : List ℕ) → word ≢ name ++ rest) → after_of name word ≡ None
after-none name word never = go (after_of name word) refl where
  go : (o : Option (List ℕ)) → after_of name word ≡ o → o ≡ None
  go None e = refl
  go (Some rest) e = absurd (never rest (after-is name word rest e))

-- two words or more
pub more-than-one : (word text : List ℕ) → one_of (word ∷ words_of text) ≡ None
unfolding is_some_words
more-than-one word text = go (words_of text) (some_words text) where
  go : (words : List (List ℕ)) → is_some_words words ≡ true → one_of (word ∷ words) ≡ None
  go [] e = absurd (false≢true e)
  go (next ∷ words) e = refl

-- a text has a word
pub a-word-in : (text : List ℕ) → no_words (words_of text) ≡ false
unfolding is_some_words
a-word-in text = go (words_of text) (some_words text) where
  go : (words : List (List ℕ)) → is_some_words words ≡ true → no_words words ≡ false
  go [] e = absurd (false≢true e)
  go (word ∷ words) e = refl
