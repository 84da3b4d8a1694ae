use Rattle.std.proofs.Common.{◌∙◌, ◌∷◌, List, ℕ, ap, sym, subst}
use Rattle.std.proofs.lemmas.List.{map_push, nil_from_length}
use Rattle.config_text.specs.Grammar.{Pair}
use Rattle.config_text.specs.Items.{pair_of, pairs_of}
use Rattle.config_text.specs.Reading.{item_at}
use Rattle.config_text.proofs.ReadItems.{HasRead, comma-read, item-read, none-read, all-read, refused}
use Rattle.config_text.proofs.parse.items_in.Goals as goal

pub loop-b-preserved-then-b-eq44 : goal.loop-b-preserved-then-b-eq44
loop-b-preserved-then-b-eq44 c =
    let seen : List Pair = pairs_of c.loop-b.items.items in
    let text : List ℕ = c.args.text.now in
    comma-read seen c.in-Some.behind.now text
    (subst (λ (l : List ℕ). HasRead seen l text) (c.in-Some.ensures.cases.0 ∙ ap (λ (x : ℕ). x ∷ c.in-Some.behind.now) c.if-b-eq44.true) c.loop-b.invariant)

pub returns-in-None : goal.returns-in-None
returns-in-None c =
    let seen : List Pair = pairs_of c.loop-b.items.items in
    let text : List ℕ = c.args.text.now in
    let here = c.in-Some.ensures.cases.0 in
    let none = rw c.in-None.is at c.in_ok-item_at.ensures.item in
    refused text
    (none-read seen c.in-Some.b.now c.in-Some.behind.now text c.if-b-eq44.false (ap item_at (sym here) ∙ sym none) (subst (λ (l : List ℕ). HasRead seen l text) here c.loop-b.invariant))

pub loop-b-preserved : goal.loop-b-preserved
loop-b-preserved c =
    let text : List ℕ = c.args.text.now in
    let read = rw c.in-Some-2.is at c.in_ok-item_at.ensures.item in
    let pushed = ap pairs_of c.in_ok-push-in-Some-2.ensures.items ∙ map_push pair_of c.loop-b.items.items c.in-Some-2.item in
    subst (λ (l : List Pair). HasRead l c.in-Some-2.others.now text) (sym pushed)
    (item-read (pairs_of c.loop-b.items.items) (pair_of c.in-Some-2.item) c.loop-b.rest.now c.in-Some-2.others.now text (sym read) c.loop-b.invariant)

pub returns : goal.returns
returns c =
    let seen : List Pair = pairs_of c.loop-b.items.items in
    let text : List ℕ = c.args.text.now in
    all-read seen text (subst (λ (l : List ℕ). HasRead seen l text) (nil_from_length c.loop-b.rest.now c.in_default.ensures.cases) c.loop-b.invariant)
