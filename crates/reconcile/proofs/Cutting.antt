-- Rows that are cut into images.
use Rattle.std.proofs.Common.{◌≡◌, ◌≢◌, ◌<◌, ◌≤◌, ◌∙◌, ◌++◌, ℕ, Bool, false, List, [], ◌∷◌, length, Option, Some, None, refl, ap, sym, subst, inl, inr, arith}
use Rattle.std.specs.Prelude.{max, slice_get, nat_lt, ◌==◌, if◌then◌else◌}
use Rattle.std.specs.List.{AllByRecursion}
use Rattle.std.proofs.lemmas.Bool.{cases_Bool, ltb-true}
use Rattle.std.proofs.lemmas.List.{append-nil, append_assoc, map-append}
use Rattle.std.proofs.lemmas.Option.{same_Some}
use Rattle.stamp.specs.declared.Name.{Name}
use Rattle.row_page.specs.Greatest.{durables_of, greatest_in, most_in, names_of, no_name}
use Rattle.stamp.specs.Order.{later, is_before}
use Rattle.row_page.specs.Rows.{Ascends, Row, RowFits, key_most}
use Rattle.row_page.specs.Writing.{Written, Wrote, size_with}
use Rattle.row_page.proofs.Ascending.{after_none}
use Rattle.row_page.proofs.Greater.{greatest_push, most_push}
use Rattle.row_page.proofs.Leaves.{length-cell}
use Rattle.leaf_rows.specs.Rows.{AreFit, image_length}
use Rattle.reconcile.proofs.Filling.{size_more}
use Rattle.reconcile.specs.declared.image.Image.{Image}
use Rattle.reconcile.specs.declared.images.Images.{Images}
use Rattle.reconcile.specs.declared.open_image.OpenImage.{OpenImage}
use Rattle.reconcile.specs.Images.{AreImages, IsFull, IsLow, SpellsRows}
use Rattle.reconcile.specs.Making.{Behind, HasBegun, HasRows, HaveRows, IsClosed, OpenHas}

-- ---- one row more in an image

-- any row has room in an image of its own
pub first_room : (w : Written) (r : Row) → Wrote w [] → w.limit ≡ 32768 → RowFits [] key_most r → size_with w r ≤ w.limit
first_room w r h limit fits = omega (arith, limit, ap length h.text, length-cell r, fits.key, fits.value)

none_below : (x : Name) → is_before x no_name ≡ false
none_below x = elim (cases_Bool (nat_lt x.run 0)) [
  | inl t ↦ absurd (let less = ltb-true x.run 0 t in omega (arith, less))
  | inr f ↦ elim (cases_Bool (nat_lt x.id 0)) [
    | inl t ↦ absurd (let less = ltb-true x.id 0 t in omega (arith, less))
    | inr g ↦ elim (cases_Bool (x.run == 0)) [ inl e ↦ rw (f, e, g) refl | inr e ↦ rw (f, e) refl ]
  ]
]

pub first_image : (w w' : Written) (low : List ℕ) (name : Name) (durable : ℕ) (r : Row) → Wrote w [] → w.limit ≡ 32768 → RowFits [] key_most r → Wrote w' (r ∷ []) → w'.limit ≡ w.limit
    → low ≡ r.0 → name ≡ r.1.window.name → durable ≡ r.1.window.durable → HasRows (record { low = low; writer = w'; greatest = name; durable = durable }) (r ∷ [])
first_image w w' low name durable r h limit fits wrote same key is stamp = record {
  wrote = wrote;
  limit = same ∙ limit;
  small = omega (arith, first_room w r h limit fits, limit, size_more w [] r h);
  low = record { row = r; first = refl; is = key };
  greatest = is ∙ sym (ap (λ (b : Bool). if b then no_name else r.1.window.name) (none_below r.1.window.name));
  durable = omega (arith, stamp);
}

low_more : (key : List ℕ) (rows : List Row) (r : Row) → IsLow key rows → IsLow key (rows ++ r ∷ [])
low_more key [] r l = absurd (none l.row l.first) where
  none : (q : Row) → None ≡ Some q → ⊥
  none q e = cc
low_more key (q ∷ rows) r l = record { row = l.row; first = l.first; is = l.is }

pub more_rows : (o : OpenImage) (w : Written) (name : Name) (durable : ℕ) (r : Row) → size_with o.writer r ≤ o.writer.limit → w.limit ≡ o.writer.limit → ((rows : List Row) → Wrote o.writer rows → Wrote w (rows ++ r ∷ []))
    → name ≡ later o.greatest r.1.window.name → durable ≡ max o.durable r.1.window.durable → (rows : List Row) → HasRows o rows → HasRows (record { low = o.low; writer = w; greatest = name; durable = durable }) (rows ++ r ∷ [])
more_rows o w name durable r room limit wrote is stamp rows h = record {
  wrote = wrote rows h.wrote;
  limit = limit ∙ h.limit;
  small = omega (arith, room, h.limit, size_more o.writer rows r h.wrote);
  low = low_more o.low rows r h.low;
  greatest =
      is
      ∙ (ap (λ (n : Name). later n r.1.window.name) h.greatest
      ∙ (sym (greatest_push (names_of rows) r.1.window.name) ∙ ap greatest_in (sym (map-append {A = Row} (λ x. x.1.window.name) rows (r ∷ [])))));
  durable =
      stamp
      ∙ (ap (λ (n : ℕ). max n r.1.window.durable) h.durable
      ∙ (sym (most_push (durables_of rows) r.1.window.durable) ∙ ap most_in (sym (map-append {A = Row} (λ x. x.1.window.durable) rows (r ∷ [])))));
}

-- ---- images one behind the other

-- there is a first row
abbrev pub HasFirst : List Row → Type 0
HasFirst rows = (q : Row) × (slice_get rows 0 ≡ Some q)

low_first : (key : List ℕ) (rows : List Row) → IsLow key rows → HasFirst rows
low_first key rows l = (l.row, l.first)

first_both : (xs ys : List Row) → HasFirst xs → HasFirst (xs ++ ys)
first_both [] ys (q, e) = absurd (none q e) where
  none : (q : Row) → None ≡ Some q → ⊥
  none q e = cc
first_both (x ∷ xs) ys h = h

behind_first : (images : List Image) (last rows : List Row) → Behind images last rows → HasFirst last → HasFirst rows
behind_first [] last rows is h = subst HasFirst (sym is) h
behind_first (image ∷ images) last rows b h = subst HasFirst (sym b.whole) (first_both b.front b.others (low_first image.low b.front b.spells.low))

full_more : (rows others : List Row) (r : Row) → HasFirst others → IsFull rows others → IsFull rows (others ++ r ∷ [])
full_more rows [] r (q, e) full = absurd (none q e) where
  none : (q : Row) → None ≡ Some q → ⊥
  none q e = cc
full_more rows (x ∷ others) r h full = full

-- one row more behind the others
pub behind_more : (images : List Image) (last rows : List Row) (r : Row) → Behind images last rows → HasFirst last → Behind images (last ++ r ∷ []) (rows ++ r ∷ [])
behind_more [] last rows r is h = ap (λ (l : List Row). l ++ r ∷ []) is
behind_more (image ∷ images) last rows r b h = record {
  front = b.front;
  others = b.others ++ r ∷ [];
  spells = b.spells;
  full = full_more b.front b.others r (behind_first images last b.others b.go_on h) b.full;
  go_on = behind_more images last b.others r b.go_on h;
  whole = ap (λ (l : List Row). l ++ r ∷ []) b.whole ∙ append_assoc b.front b.others (r ∷ []);
}

-- a row that had no room begins an image
pub behind_cut : (images : List Image) (image : Image) (last rows : List Row) (r : Row) → Behind images last rows → SpellsRows image last → 32768 < image_length (last ++ r ∷ []) → Behind (images ++ image ∷ []) (r ∷ []) (rows ++ r ∷ [])
behind_cut [] image last rows r is spells over = record {
  front = last;
  others = r ∷ [];
  spells = spells;
  full = λ q e. subst (λ (x : Row). 32768 < image_length (last ++ x ∷ [])) (same_Some r q e) over;
  go_on = refl;
  whole = ap (λ (l : List Row). l ++ r ∷ []) is;
}
behind_cut (first ∷ images) image last rows r b spells over = record {
  front = b.front;
  others = b.others ++ r ∷ [];
  spells = b.spells;
  full = full_more b.front b.others r (behind_first images last b.others b.go_on (low_first image.low last spells.low)) b.full;
  go_on = behind_cut images image last b.others r b.go_on spells over;
  whole = ap (λ (l : List Row). l ++ r ∷ []) b.whole ∙ append_assoc b.front b.others (r ∷ []);
}

-- the last image
pub behind_all : (images : List Image) (image : Image) (last rows : List Row) → Behind images last rows → SpellsRows image last → AreImages (images ++ image ∷ []) rows
behind_all [] image last rows is spells = record {
  front = last;
  others = [];
  spells = spells;
  full = λ q e. absurd (none q e);
  go_on = refl;
  whole = is ∙ sym (append-nil last);
} where
  none : (q : Row) → None ≡ Some q → ⊥
  none q e = cc
behind_all (first ∷ images) image last rows b spells = record { front = b.front; others = b.others; spells = b.spells; full = b.full; go_on = behind_all images image last b.others b.go_on spells; whole = b.whole }

-- ---- the last rows fit

fit_others : (rows others : List Row) → AllByRecursion (λ (r : Row). RowFits [] key_most r) (rows ++ others) → AllByRecursion (λ (r : Row). RowFits [] key_most r) others
fit_others [] others fit = fit
fit_others (r ∷ rows) others fit = fit_others rows others fit.1

ascend_others : (before : Option (List ℕ)) (rows others : List Row) → Ascends before (rows ++ others) → Ascends None others
ascend_others before [] others up = after_none others before up
ascend_others before (r ∷ rows) others up = ascend_others (Some r.0) rows others up.1

pub others_fit : (rows others : List Row) → AreFit (rows ++ others) → AreFit others
others_fit rows others are = record { fit = fit_others rows others are.fit; ascend = ascend_others None rows others are.ascend }

pub last_fits : (images : List Image) (last rows : List Row) → Behind images last rows → AreFit rows → AreFit last
last_fits [] last rows is are = subst AreFit is are
last_fits (image ∷ images) last rows b are = last_fits images last b.others b.go_on (others_fit b.front b.others (subst AreFit b.whole are))

-- ---- the image that is open

pub close_some : (o : Option OpenImage) (i : OpenImage) (image : Image) (done now : List Image) → o ≡ Some i → ((rows : List Row) → HasRows i rows → AreFit rows → SpellsRows image rows) → now ≡ done ++ image ∷ []
    → (rows : List Row) → OpenHas o rows → AreFit rows → IsClosed done o rows now
close_some None i image done now is spells whole rows has are = absurd cc
close_some (Some o) i image done now is spells whole rows has are = (image, spells rows (subst (λ (x : OpenImage). HasRows x rows) (same_Some o i is) has) are, whole)

open_first : (o : Option OpenImage) (rows : List Row) → OpenHas o rows → (o ≡ None → ⊥) → HasFirst rows
open_first None rows has some = absurd (some refl)
open_first (Some o) rows has some = low_first o.low rows has.low

not_empty : (rows : List Row) → HasFirst rows → rows ≢ []
not_empty [] (q, e) is = cc
not_empty (r ∷ rows) h is = cc

begun_with : (o : Option OpenImage) (done : List Image) (rows : List Row) (r : Row) → OpenHas o (rows ++ r ∷ []) → HasBegun o done
begun_with None done [] r has = absurd cc
begun_with None done (q ∷ rows) r has = absurd cc
begun_with (Some o) done rows r has = tt

-- a row has room
pub pushed_open : (images : Images) (now : Option OpenImage) (r : Row) → (images.opened ≡ None → ⊥) → ((rows : List Row) → OpenHas images.opened rows → OpenHas now (rows ++ r ∷ []))
    → (rows : List Row) → HaveRows images rows → AreFit rows → HaveRows (record { done = images.done; opened = now }) (rows ++ r ∷ [])
pushed_open images now r some put rows h are = record {
  last = h.last ++ r ∷ [];
  opened = put h.last h.opened;
  begun = begun_with now images.done.items h.last r (put h.last h.opened);
  behind = behind_more images.done.items h.last rows r h.behind (open_first images.opened h.last h.opened some);
}

-- none is done where none is open
done_none : (o : Option OpenImage) (done : List Image) (last : List Row) → OpenHas o last → HasBegun o done → last ≡ [] → done ≡ []
done_none None done last has begun is = begun
done_none (Some o) done last has begun is = absurd (not_empty last (low_first o.low last has.low) is)

-- it has none, and begins an image
pub pushed_new : (images now : Images) (was : Option OpenImage) (r : Row) → ((rows : List Row) → OpenHas images.opened rows → OpenHas was rows × (rows ≢ [] → 32768 < image_length (rows ++ r ∷ [])))
    → ((rows : List Row) → OpenHas was rows → AreFit rows → IsClosed images.done.items was rows now.done.items) → OpenHas now.opened (r ∷ []) → HasBegun now.opened now.done.items
    → (rows : List Row) → HaveRows images rows → AreFit rows → HaveRows now (rows ++ r ∷ [])
pushed_new images now was r over closed new begun rows h are = record {
  last = r ∷ [];
  opened = new;
  begun = begun;
  behind = by was (over h.last h.opened).0 (closed h.last (over h.last h.opened).0 (last_fits images.done.items h.last rows h.behind are));
} where
  by : (o : Option OpenImage) → OpenHas o h.last → IsClosed images.done.items o h.last now.done.items → Behind now.done.items (r ∷ []) (rows ++ r ∷ [])
  by None has same =
      let none = done_none images.opened images.done.items h.last h.opened h.begun has in
      let all : rows ≡ h.last = subst (λ (l : List Image). Behind l h.last rows) none h.behind in
      subst (λ (l : List Image). Behind l (r ∷ []) (rows ++ r ∷ [])) (sym (same ∙ none)) (ap (λ (l : List Row). l ++ r ∷ []) (all ∙ has))
  by (Some o) has (image, spells, whole) =
      subst (λ (l : List Image). Behind l (r ∷ []) (rows ++ r ∷ [])) (sym whole)
      (behind_cut images.done.items image h.last rows r h.behind spells ((over h.last h.opened).1 (not_empty h.last (low_first o.low h.last has.low))))

-- all rows are in
pub finished : (images : Images) (done : List Image) → ((rows : List Row) → OpenHas images.opened rows → AreFit rows → IsClosed images.done.items images.opened rows done) → (rows : List Row) → HaveRows images rows → AreFit rows → AreImages done rows
finished images done closed rows h are = by images.opened h.opened h.begun (closed h.last h.opened (last_fits images.done.items h.last rows h.behind are)) where
  by : (o : Option OpenImage) → OpenHas o h.last → HasBegun o images.done.items → IsClosed images.done.items o h.last done → AreImages done rows
  by None has none same =
      let all : rows ≡ h.last = subst (λ (l : List Image). Behind l h.last rows) none h.behind in
      subst (λ (l : List Image). AreImages l rows) (sym (same ∙ none)) (all ∙ has)
  by (Some o) has begun (image, spells, whole) = subst (λ (l : List Image). AreImages l rows) (sym whole) (behind_all images.done.items image h.last rows h.behind spells)
