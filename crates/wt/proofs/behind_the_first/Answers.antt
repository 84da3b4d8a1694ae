use Rattle.std.proofs.Common.{◌≡◌, drop, ◌++◌, ◌∷◌, ◌∙◌, List, [], Bool, true, false, Option, Some, None, String, Global, ap, sym, subst, refl, length, arith}
use Rattle.std.specs.Prelude.{option_to_list, if◌then◌else◌}
use Rattle.std.specs.Result.{is_ok}
use Rattle.std.proofs.lemmas.List.{append_assoc}
use Rattle.std.specs.Vec.Iter.{into_iter_items, into_iter_steps}
use Rattle.wt.proofs.behind_the_first.Goals as goal

none_left : (A : Type 0) (items : List A) → length items ≡ 0 → items ≡ []
none_left A [] e = refl
none_left A (x ∷ items) e = absurd (omega (arith, e))

nil_behind : (A : Type 0) (items : List A) → items ++ [] ≡ items
nil_behind A [] = refl
nil_behind A (x ∷ items) = ap (λ (l : List A). x ∷ l) (nil_behind A items)

all_put : (A : Type 0) (put left all : List A) → left ≡ [] → put ++ left ≡ all → put ≡ all
all_put A put left all none e = sym (nil_behind A put) ∙ (sym (ap (λ (l : List A). put ++ l) none) ∙ e)

one_more : (A : Type 0) (put : List A) (x : A) (left all : List A) → put ++ (x ∷ left) ≡ all → (put ++ x ∷ []) ++ left ≡ all
one_more A put x left all e = append_assoc put (x ∷ []) left ∙ e

behind : (A : Type 0) (first : Option A) (all left : List A) → all ≡ option_to_list first ++ left → (first ≡ None → all ≡ []) → left ≡ drop 1 all
behind A None all left e none = (sym e ∙ none refl) ∙ sym (ap (λ (l : List A). drop 1 l) (none refl))
behind A (Some x) all left e none = sym (ap (λ (l : List A). drop 1 l) e)

pushed : (A : Type 0) (ok : Bool) (put same now : List A) → now ≡ (if ok then put else same) → ok ≡ true → now ≡ put
pushed A true put same now e is = e
pushed A false put same now e is = absurd cc

pub loop-word-init : goal.loop-word-init
loop-word-init c =
    let args = c.args.args in
    let left = c.next-first.new.self in
    let none : c.next-first.result ≡ None → into_iter_items args ≡ [] = λ is. none_left (String Global) (into_iter_items args) (sym args.rest.ok.0 ∙ (subst (λ (o : Option (String Global)). into_iter_steps args o left) is c.next-first.ensures.cases).0) in
    ap (λ (l : List (String Global)). l ++ into_iter_items c.into_iter-word-iterator.result) c.new-words.ensures.items ∙ (ap into_iter_items c.into_iter-word-iterator.ensures.into_iter_gives ∙ behind (String Global) c.next-first.result (into_iter_items args) (into_iter_items left) c.next-first.ensures.items none)

pub loop-word-preserved : goal.loop-word-preserved
loop-word-preserved c =
    let before : c.loop-word.words.items ++ (c.in-Some.word ∷ into_iter_items c.next.new.self) ≡ drop 1 (into_iter_items c.args.args) = sym (ap (λ (l : List (String Global)). c.loop-word.words.items ++ l) c.in-Some.ensures.steps.0) ∙ c.loop-word.invariant in
    ap (λ (l : List (String Global)). l ++ into_iter_items c.next.new.self) (pushed (String Global) (is_ok c.push.result) (c.loop-word.words.items ++ c.in-Some.word ∷ []) c.loop-word.words.items c.push.new.self.items c.push.ensures.items c.if-is_err.ensures.negation) ∙ one_more (String Global) c.loop-word.words.items c.in-Some.word (into_iter_items c.next.new.self) (drop 1 (into_iter_items c.args.args)) before

pub returns-clause-words : goal.returns-clause-words
returns-clause-words c = all_put (String Global) c.loop-word.words.items (into_iter_items c.loop-word.word-iterator) (drop 1 (into_iter_items c.args.args)) (none_left (String Global) (into_iter_items c.loop-word.word-iterator) (sym c.loop-word.word-iterator.rest.ok.0 ∙ c.in-None.ensures.steps.0)) c.loop-word.invariant
