-- The words of a text, joined again.
use Rattle.std.proofs.Common.{◌≡◌, ◌∙◌, ◌↔◌, ℕ, List, [], ◌∷◌, refl, sym, ap, subst, inl, inr}
use Rattle.std.specs.Prelude.{true, false, not, ◌==◌}
use Rattle.std.proofs.lemmas.Bool.{cases_Bool, eqb-true, and_parts, not-true, true≢false}
use Rattle.script_text.specs.Words.{words_of, onto, no_words, is_unbroken, are_unbroken, joined, AreWordsOf}
use Rattle.script_text.proofs.WordLemmas.{a-word-in}

joined-space : (words : List (List ℕ)) → no_words words ≡ false → joined ([] ∷ words) ≡ 32 ∷ joined words
joined-space [] none = absurd (true≢false none)
joined-space (word ∷ words) some = refl

joined-onto : (b : ℕ) (words : List (List ℕ)) → joined (onto b words) ≡ b ∷ joined words
joined-onto b [] = refl
joined-onto b (word ∷ []) = refl
joined-onto b (word ∷ (next ∷ words)) = refl

rejoined : (text : List ℕ) → joined (words_of text) ≡ text
rejoined [] = refl
rejoined (b ∷ rest) = elim (cases_Bool (b == 32)) [
  | inl space ↦ let is : 32 ≡ b = sym (eqb-true b 32 space) in rw space (joined-space (words_of rest) (a-word-in rest) ∙ (λ i. is i ∷ rejoined rest i))
  | inr other ↦ rw other (joined-onto b (words_of rest) ∙ ap (λ (l : List ℕ). b ∷ l) (rejoined rest))
]

unbroken-onto : (b : ℕ) (words : List (List ℕ)) → (b == 32) ≡ false → are_unbroken words ≡ true → are_unbroken (onto b words) ≡ true
unbroken-onto b [] other all = rw other refl
unbroken-onto b (word ∷ words) other all = rw other all

unbroken : (text : List ℕ) → are_unbroken (words_of text) ≡ true
unbroken [] = refl
unbroken (b ∷ rest) = elim (cases_Bool (b == 32)) [ inl space ↦ rw space (unbroken rest) | inr other ↦ rw other (unbroken-onto b (words_of rest) other (unbroken rest)) ]

joined-byte : (b : ℕ) (word : List ℕ) (words : List (List ℕ)) → joined ((b ∷ word) ∷ words) ≡ b ∷ joined (word ∷ words)
joined-byte b word [] = refl
joined-byte b word (next ∷ words) = refl

-- a word in front of others whose words are known
in-front : (words : List (List ℕ)) → words_of (joined ([] ∷ words)) ≡ [] ∷ words → (word : List ℕ) → is_unbroken word ≡ true → words_of (joined (word ∷ words)) ≡ word ∷ words
in-front words empty [] all = empty
in-front words empty (b ∷ word) all =
    let parts = and_parts (not (b == 32)) (is_unbroken word) all in
    ap words_of (joined-byte b word words) ∙ rw (not-true (b == 32) parts.0) (ap (onto b) (in-front words empty word parts.1))

again : (words : List (List ℕ)) → are_unbroken words ≡ true → no_words words ≡ false → words_of (joined words) ≡ words
again [] all none = absurd (true≢false none)
again (word ∷ []) all some = in-front [] refl word (and_parts (is_unbroken word) true all).0
again (word ∷ (next ∷ words)) all some =
    let parts = and_parts (is_unbroken word) (are_unbroken (next ∷ words)) all in
    in-front (next ∷ words) (ap (λ (l : List (List ℕ)). [] ∷ l) (again (next ∷ words) parts.1 refl)) word parts.0

pub the-words : (text : List ℕ) (words : List (List ℕ)) → (words_of text ≡ words) ↔ AreWordsOf words text
the-words text words = (forth, λ are. ap words_of are.whole ∙ again words are.unbroken are.some) where
  forth : words_of text ≡ words → AreWordsOf words text
  forth e = subst (λ (l : List (List ℕ)). AreWordsOf l text) e (record { some = a-word-in text; unbroken = unbroken text; whole = sym (rejoined text) })
