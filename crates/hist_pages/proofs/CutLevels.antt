-- Entries cut into pages.
use Rattle.std.proofs.Common.{◌≡◌, ℕ, zero, suc, ◌+◌, ◌*◌, ◌<◌, ◌≤◌, true, eqb, List, [], ◌∷◌, ◌++◌, length, length-append, get_or, take, drop, Some, refl, sym, ap, subst, ◌∙◌, append_assoc, arith}
use Rattle.std.specs.Prelude.{slice_get}
use Rattle.std.specs.List.{AllByRecursion, flat_map}
use Rattle.std.proofs.lemmas.Option.{same_Some}
use Rattle.std.proofs.lemmas.List.{length-take-le, take_more}
use Rattle.std.proofs.lemmas.Bool.{eqb-true}
use Rattle.std.proofs.lemmas.Grind.{flat_map-append}
use Rattle.stored.specs.HistoryTree.{AreHistoryEntries, HistoryClimbs, HistoryEntry, HistoryEntryFits, history_entry_text}
use Rattle.stored.proofs.Exact.{length-history-entry}
use Rattle.hist_pages.specs.declared.page.HistoryPage.{HistoryPage}
use Rattle.hist_pages.specs.Levels.{AreCut, IsFull, LevelsShrink, SpellsPage, page_length}

-- ---- a part of entries

climbs-tail : (e : HistoryEntry) (es : List HistoryEntry) → HistoryClimbs (e ∷ es) → HistoryClimbs es
climbs-tail e [] c = tt
climbs-tail e (f ∷ es) c = c.1

pub climbs-take : (n : ℕ) (es : List HistoryEntry) → HistoryClimbs es → HistoryClimbs (take n es)
climbs-take zero [] c = tt
climbs-take (suc n) [] c = tt
climbs-take zero (e ∷ es) c = tt
climbs-take (suc zero) (e ∷ []) c = tt
climbs-take (suc (suc n)) (e ∷ []) c = tt
climbs-take (suc zero) (e ∷ f ∷ es) c = tt
climbs-take (suc (suc n)) (e ∷ f ∷ es) c = (c.0, climbs-take (suc n) (f ∷ es) c.1)

pub climbs-drop : (n : ℕ) (es : List HistoryEntry) → HistoryClimbs es → HistoryClimbs (drop n es)
climbs-drop zero [] c = tt
climbs-drop (suc n) [] c = tt
climbs-drop zero (e ∷ es) c = c
climbs-drop (suc n) (e ∷ es) c = climbs-drop n es (climbs-tail e es c)

pub fit-take : (n : ℕ) (es : List HistoryEntry) → AllByRecursion HistoryEntryFits es → AllByRecursion HistoryEntryFits (take n es)
fit-take zero [] a = tt
fit-take (suc n) [] a = tt
fit-take zero (e ∷ es) a = tt
fit-take (suc n) (e ∷ es) a = (a.0, fit-take n es a.1)

pub fit-drop : (n : ℕ) (es : List HistoryEntry) → AllByRecursion HistoryEntryFits es → AllByRecursion HistoryEntryFits (drop n es)
fit-drop zero [] a = tt
fit-drop (suc n) [] a = tt
fit-drop zero (e ∷ es) a = a
fit-drop (suc n) (e ∷ es) a = fit-drop n es a.1

pub are-entries : (level n : ℕ) (es : List HistoryEntry) → AllByRecursion HistoryEntryFits es → HistoryClimbs es → 1 ≤ level → level ≤ 60 → 1 ≤ n → n ≤ length es → page_length (take n es) ≤ 4096 → AreHistoryEntries level (take n es)
are-entries level n es fit climbs low high some most room =
    let long = length-take-le n es most in
    record { some = omega (arith, some, long); fit = fit-take n es fit; climbs = climbs-take n es climbs; low = low; high = high; size = room }

-- ---- the next page

next-entry : (es : List HistoryEntry) (n : ℕ) (e : HistoryEntry) → slice_get (drop n es) 0 ≡ Some e → (n < length es) × (get_or es n e ≡ e)
next-entry [] zero e h = absurd cc
next-entry [] (suc n) e h = absurd cc
next-entry (x ∷ es) zero e h = (omega arith, same_Some x e h)
next-entry (x ∷ es) (suc n) e h = let r = next-entry es n e h in (omega (arith, r.0), r.1)

pub is-full : (es : List HistoryEntry) (n : ℕ) → (n < length es → 4096 < page_length (take (n + 1) es)) → IsFull (take n es) (drop n es)
is-full es n full e h =
    let at = next-entry es n e h in
    subst (λ (xs : List HistoryEntry). 4096 < page_length xs) (take_more es n e at.0 ∙ ap (λ (x : HistoryEntry). take n es ++ x ∷ []) at.1) (full at.0)

pub cut-more : (level : ℕ) (pages : List HistoryPage) (page : HistoryPage) (rest front others entries : List HistoryEntry) → ((later : List HistoryPage) → AreCut level later rest → AreCut level (pages ++ later) entries) → SpellsPage level page front → IsFull front others → rest ≡ front ++ others → (later : List HistoryPage) → AreCut level later others → AreCut level ((pages ++ page ∷ []) ++ later) entries
cut-more level pages page rest front others entries cut spells full whole later goes =
    subst (λ (ps : List HistoryPage). AreCut level ps entries) (sym (append_assoc pages (page ∷ []) later))
    (cut (page ∷ later) (record { front = front; others = others; spells = spells; full = full; go_on = goes; whole = whole }))

pages-nil : (pages : List HistoryPage) → pages ++ [] ≡ pages
pages-nil [] = refl
pages-nil (p ∷ pages) = ap (λ (ps : List HistoryPage). p ∷ ps) (pages-nil pages)

pub cut-all : (level : ℕ) (pages : List HistoryPage) (rest entries : List HistoryEntry) → ((later : List HistoryPage) → AreCut level later rest → AreCut level (pages ++ later) entries) → rest ≡ [] → AreCut level pages entries
cut-all level pages rest entries cut end = subst (λ (ps : List HistoryPage). AreCut level ps entries) (pages-nil pages) (cut [] end)

-- ---- a level above is shorter

text-most : (es : List HistoryEntry) → AllByRecursion HistoryEntryFits es → length (flat_map history_entry_text es) ≤ 1094 * length es
text-most [] a = omega arith
text-most (e ∷ es) a =
    let more = text-most es a.1 in
    let both = length-append (history_entry_text e) (flat_map history_entry_text es) in
    let one = length-history-entry e in
    let key = a.0.key in
    omega (arith, more, both, one, key)

fit-end : (es : List HistoryEntry) (e : HistoryEntry) → AllByRecursion HistoryEntryFits es → HistoryEntryFits e → AllByRecursion HistoryEntryFits (es ++ e ∷ [])
fit-end [] e a f = (f, tt)
fit-end (x ∷ es) e a f = (a.0, fit-end es e a.1 f)

-- a page with others behind it has three entries at least
three : (front : List HistoryEntry) (e : HistoryEntry) → AllByRecursion HistoryEntryFits front → HistoryEntryFits e → 4096 < page_length (front ++ e ∷ []) → 3 ≤ length front
three front e a f full =
    let most = text-most (front ++ e ∷ []) (fit-end front e a f) in
    let long = length-append front (e ∷ []) in
    omega (arith, most, long, full)

first-of : (level : ℕ) (page : HistoryPage) (pages : List HistoryPage) (es : List HistoryEntry) → AreCut level (page ∷ pages) es → (e : HistoryEntry) × (slice_get es 0 ≡ Some e) × HistoryEntryFits e
first-of level page pages es b = go b.front b.spells.admitted b.whole where
  go : (front : List HistoryEntry) → AreHistoryEntries level front → es ≡ front ++ b.others → (e : HistoryEntry) × (slice_get es 0 ≡ Some e) × HistoryEntryFits e
  go [] a w = absurd (let s = a.some in omega (arith, s))
  go (e ∷ front) a w = (e, ap (λ (xs : List HistoryEntry). slice_get xs 0) w, a.fit.0)

pub shrink : LevelsShrink
shrink level [] es c = omega arith
shrink level (page ∷ []) es b =
    let some = b.spells.admitted.some in
    let long = ap length b.whole ∙ length-append b.front b.others in
    omega (arith, some, long)
shrink level (page ∷ next ∷ pages) es b =
    let e = first-of level next pages b.others b.go_on in
    let more = three b.front e.0 b.spells.admitted.fit e.2 (b.full e.0 e.1) in
    let rest = shrink level (next ∷ pages) b.others b.go_on in
    let long = ap length b.whole ∙ length-append b.front b.others in
    omega (arith, more, rest, long)

-- ---- a page with one entry more

pub page-more : (es : List HistoryEntry) (i : ℕ) (e : HistoryEntry) → i < length es → e ≡ get_or es i e → page_length (take (i + 1) es) ≡ page_length (take i es) + (70 + length e.least.key)
page-more es i e lt is =
    let next = ap (λ (xs : List HistoryEntry). length (flat_map history_entry_text xs)) (take_more es i e lt ∙ ap (λ (x : HistoryEntry). take i es ++ x ∷ []) (sym is)) in
    let parts = ap length (flat_map-append history_entry_text (take i es) (e ∷ [])) in
    let both = length-append (flat_map history_entry_text (take i es)) (flat_map history_entry_text (e ∷ [])) in
    let own = length-append (history_entry_text e) [] in
    let one = length-history-entry e in
    omega (arith, next, parts, both, own, one)

pub none-left : (es : List HistoryEntry) → true ≡ eqb (length es) 0 → es ≡ []
none-left [] e = refl
none-left (x ∷ es) e = let clash = eqb-true (suc (length es)) 0 (sym e) in absurd (omega (arith, clash))
