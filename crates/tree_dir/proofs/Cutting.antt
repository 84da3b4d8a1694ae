-- Entries cut into pages.
use Rattle.std.proofs.Common.{◌≡◌, ℕ, zero, suc, ◌+◌, ◌*◌, ◌<◌, ◌≤◌, true, eqb, List, [], ◌∷◌, ◌++◌, length, length-append, get_or, take, drop, Some, refl, sym, ap, subst, ◌∙◌, append_assoc, arith}
use Rattle.std.specs.Prelude.{slice_get}
use Rattle.std.specs.List.{AllByRecursion, flat_map}
use Rattle.std.proofs.lemmas.Option.{same_Some}
use Rattle.std.proofs.lemmas.List.{length-take-le, take_more}
use Rattle.std.proofs.lemmas.Bool.{eqb-true}
use Rattle.std.proofs.lemmas.Grind.{flat_map-append}
use Rattle.stored.specs.TableTree.{AreEntries, Climbs, Entry, EntryFits, entry_text}
use Rattle.stored.proofs.Exact.{length-entry}
use Rattle.tree_dir.specs.declared.draft.PageDraft.{PageDraft}
use Rattle.tree_dir.specs.Levels.{AreCut, IsFull, LevelsShrink, SpellsPage, page_length}

-- ---- a part of entries

climbs-tail : (e : Entry) (es : List Entry) → Climbs (e ∷ es) → Climbs es
climbs-tail e [] c = tt
climbs-tail e (f ∷ es) c = c.1

pub climbs-take : (n : ℕ) (es : List Entry) → Climbs es → Climbs (take n es)
climbs-take zero [] c = tt
climbs-take (suc n) [] c = tt
climbs-take zero (e ∷ es) c = tt
climbs-take (suc zero) (e ∷ []) c = tt
climbs-take (suc (suc n)) (e ∷ []) c = tt
climbs-take (suc zero) (e ∷ f ∷ es) c = tt
climbs-take (suc (suc n)) (e ∷ f ∷ es) c = (c.0, climbs-take (suc n) (f ∷ es) c.1)

pub climbs-drop : (n : ℕ) (es : List Entry) → Climbs es → Climbs (drop n es)
climbs-drop zero [] c = tt
climbs-drop (suc n) [] c = tt
climbs-drop zero (e ∷ es) c = c
climbs-drop (suc n) (e ∷ es) c = climbs-drop n es (climbs-tail e es c)

pub fit-take : (n : ℕ) (es : List Entry) → AllByRecursion EntryFits es → AllByRecursion EntryFits (take n es)
fit-take zero [] a = tt
fit-take (suc n) [] a = tt
fit-take zero (e ∷ es) a = tt
fit-take (suc n) (e ∷ es) a = (a.0, fit-take n es a.1)

pub fit-drop : (n : ℕ) (es : List Entry) → AllByRecursion EntryFits es → AllByRecursion EntryFits (drop n es)
fit-drop zero [] a = tt
fit-drop (suc n) [] a = tt
fit-drop zero (e ∷ es) a = a
fit-drop (suc n) (e ∷ es) a = fit-drop n es a.1

pub are-entries : (level n : ℕ) (es : List Entry) → AllByRecursion EntryFits es → Climbs es → 1 ≤ level → level ≤ 60 → 1 ≤ n → n ≤ length es → page_length (take n es) ≤ 4096 → AreEntries level (take n es)
are-entries level n es fit climbs low high some most room =
    let long = length-take-le n es most in
    record { some = omega (arith, some, long); fit = fit-take n es fit; climbs = climbs-take n es climbs; low = low; high = high; size = room }

-- ---- the next page

next-entry : (es : List Entry) (n : ℕ) (e : Entry) → slice_get (drop n es) 0 ≡ Some e → (n < length es) × (get_or es n e ≡ e)
next-entry [] zero e h = absurd cc
next-entry [] (suc n) e h = absurd cc
next-entry (x ∷ es) zero e h = (omega arith, same_Some x e h)
next-entry (x ∷ es) (suc n) e h = let r = next-entry es n e h in (omega (arith, r.0), r.1)

pub is-full : (es : List Entry) (n : ℕ) → (n < length es → 4096 < page_length (take (n + 1) es)) → IsFull (take n es) (drop n es)
is-full es n full e h =
    let at = next-entry es n e h in
    subst (λ (xs : List Entry). 4096 < page_length xs) (take_more es n e at.0 ∙ ap (λ (x : Entry). take n es ++ x ∷ []) at.1) (full at.0)

pub cut-more : (level : ℕ) (pages : List PageDraft) (page : PageDraft) (rest front others entries : List Entry) → ((later : List PageDraft) → AreCut level later rest → AreCut level (pages ++ later) entries) → SpellsPage level page front → IsFull front others → rest ≡ front ++ others → (later : List PageDraft) → AreCut level later others → AreCut level ((pages ++ page ∷ []) ++ later) entries
cut-more level pages page rest front others entries cut spells full whole later goes =
    subst (λ (ps : List PageDraft). AreCut level ps entries) (sym (append_assoc pages (page ∷ []) later))
    (cut (page ∷ later) (record { front = front; others = others; spells = spells; full = full; go_on = goes; whole = whole }))

pages-nil : (pages : List PageDraft) → pages ++ [] ≡ pages
pages-nil [] = refl
pages-nil (p ∷ pages) = ap (λ (ps : List PageDraft). p ∷ ps) (pages-nil pages)

pub cut-all : (level : ℕ) (pages : List PageDraft) (rest entries : List Entry) → ((later : List PageDraft) → AreCut level later rest → AreCut level (pages ++ later) entries) → rest ≡ [] → AreCut level pages entries
cut-all level pages rest entries cut end = subst (λ (ps : List PageDraft). AreCut level ps entries) (pages-nil pages) (cut [] end)

-- ---- a level above is shorter

text-most : (es : List Entry) → AllByRecursion EntryFits es → length (flat_map entry_text es) ≤ 1066 * length es
text-most [] a = omega arith
text-most (e ∷ es) a =
    let more = text-most es a.1 in
    let both = length-append (entry_text e) (flat_map entry_text es) in
    let one = length-entry e in
    let key = a.0.key in
    omega (arith, more, both, one, key)

fit-end : (es : List Entry) (e : Entry) → AllByRecursion EntryFits es → EntryFits e → AllByRecursion EntryFits (es ++ e ∷ [])
fit-end [] e a f = (f, tt)
fit-end (x ∷ es) e a f = (a.0, fit-end es e a.1 f)

-- a page with others behind it has three entries at least
three : (front : List Entry) (e : Entry) → AllByRecursion EntryFits front → EntryFits e → 4096 < page_length (front ++ e ∷ []) → 3 ≤ length front
three front e a f full =
    let most = text-most (front ++ e ∷ []) (fit-end front e a f) in
    let long = length-append front (e ∷ []) in
    omega (arith, most, long, full)

first-of : (level : ℕ) (page : PageDraft) (pages : List PageDraft) (es : List Entry) → AreCut level (page ∷ pages) es → (e : Entry) × (slice_get es 0 ≡ Some e) × EntryFits e
first-of level page pages es b = go b.front b.spells.admitted b.whole where
  go : (front : List Entry) → AreEntries level front → es ≡ front ++ b.others → (e : Entry) × (slice_get es 0 ≡ Some e) × EntryFits e
  go [] a w = absurd (let s = a.some in omega (arith, s))
  go (e ∷ front) a w = (e, ap (λ (xs : List Entry). slice_get xs 0) w, a.fit.0)

pub shrink : LevelsShrink
shrink level [] es c = omega arith
shrink level (page ∷ []) es b =
    let some = b.spells.admitted.some in
    let long = ap length b.whole ∙ length-append b.front b.others in
    omega (arith, some, long)
shrink level (page ∷ next ∷ pages) es b =
    let e = first-of level next pages b.others b.go_on in
    let more = three b.front e.0 b.spells.admitted.fit e.2 (b.full e.0 e.1) in
    let rest = shrink level (next ∷ pages) b.others b.go_on in
    let long = ap length b.whole ∙ length-append b.front b.others in
    omega (arith, more, rest, long)

-- ---- a page with one entry more

pub page-more : (es : List Entry) (i : ℕ) (e : Entry) → i < length es → e ≡ get_or es i e → page_length (take (i + 1) es) ≡ page_length (take i es) + (42 + length e.key)
page-more es i e lt is =
    let next = ap (λ (xs : List Entry). length (flat_map entry_text xs)) (take_more es i e lt ∙ ap (λ (x : Entry). take i es ++ x ∷ []) (sym is)) in
    let parts = ap length (flat_map-append entry_text (take i es) (e ∷ [])) in
    let both = length-append (flat_map entry_text (take i es)) (flat_map entry_text (e ∷ [])) in
    let own = length-append (entry_text e) [] in
    let one = length-entry e in
    omega (arith, next, parts, both, own, one)

pub none-left : (es : List Entry) → true ≡ eqb (length es) 0 → es ≡ []
none-left [] e = refl
none-left (x ∷ es) e = let clash = eqb-true (suc (length es)) 0 (sym e) in absurd (omega (arith, clash))
