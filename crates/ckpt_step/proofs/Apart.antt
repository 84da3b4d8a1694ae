-- Links that lead apart: some of them, and those over which leaves are written.
use Rattle.std.specs.Prelude.{◌≡◌, ◌⊎◌, Bool, true, List, [], ◌∷◌, ◌++◌, filter, refl}
use Rattle.std.specs.List.{AllByRecursion}
use Rattle.std.proofs.Common.{inl, inr, sym, ◌∙◌, ap, subst}
use Rattle.std.proofs.lemmas.Bool.{cases_Bool, cases_eq}
use Rattle.std.proofs.lemmas.List.{map-append}
use Rattle.device_layout.specs.declared.link.Link.{Link}
use Rattle.kv_model.specs.Holds.{Member}
use Rattle.row_page.specs.Rows.{Row}
use Rattle.stored.specs.TableTree.{Entry}
use Rattle.tree_dir.specs.declared.leaf.Leaf.{Leaf}
use Rattle.tree_write.specs.Drafts.{aligned}
use Rattle.tree_write.specs.Steps.{links_in}
use Rattle.tree_write.specs.Writes.{LeadApart}
use Rattle.tree_write.proofs.Aligning.{aligned_apart}
use Rattle.ckpt_step.specs.Parts.{links_over, part_of, parts_of}
use Rattle.ckpt_step.specs.Rooms.{Written}
use Rattle.ckpt_step.proofs.Members.{all_made, all_of, in_back, in_either, in_front}

-- ---- some of them

pub all_filtered : {A : Type 0} (P : A → Type 0) (test : A → Bool) (xs : List A) → AllByRecursion P xs → AllByRecursion P (filter test xs)
all_filtered P test [] all = tt
all_filtered P test (x ∷ xs) all = elim (cases_Bool (test x)) [
  | inl is ↦ rw is (all.0, all_filtered P test xs all.1)
  | inr isnt ↦ rw isnt (all_filtered P test xs all.1)
]

pub filtered_member : {A : Type 0} (test : A → Bool) (xs : List A) (x : A) → Member x (filter test xs) → Member x xs × (test x ≡ true)
filtered_member test [] x there = absurd there
filtered_member {A} test (y ∷ xs) x there = elim (cases_Bool (test y)) [
  | inl is ↦ let own : Member x (y ∷ filter test xs) = rw is at there in elim own [
    | inl same ↦ (inl same, ap test same ∙ is)
    | inr later ↦ let rest = filtered_member test xs x later in (inr rest.0, rest.1)
  ]
  | inr isnt ↦ let own : Member x (filter test xs) = rw isnt at there in let rest = filtered_member test xs x own in (inr rest.0, rest.1)
]

pub filter_apart : (test : Link → Bool) (links : List Link) → LeadApart links → LeadApart (filter test links)
filter_apart test [] apart = tt
filter_apart test (link ∷ links) apart = elim (cases_Bool (test link)) [
  | inl is ↦ rw is (elim apart.0 [ inl zero ↦ inl zero | inr far ↦ inr (all_filtered (λ (x : Link). x.addr.offset ≡ link.addr.offset → ⊥) test links far) ], filter_apart test links apart.1)
  | inr isnt ↦ rw isnt (filter_apart test links apart.1)
]

-- ---- two lists of them

-- the one leads nowhere, or the other does not lead where it does
abbrev pub Differ : Link → Link → Type 0
Differ link other = (link.addr.offset ≡ 0) ⊎ (other.addr.offset ≡ link.addr.offset → ⊥)

pub lead_front : (xs ys : List Link) → LeadApart (xs ++ ys) → LeadApart xs
lead_front [] ys apart = tt
lead_front (x ∷ xs) ys apart = (elim apart.0 [ inl zero ↦ inl zero | inr far ↦ inr (front xs far) ], lead_front xs ys apart.1)
  where
    front : (xs : List Link) → AllByRecursion (λ (y : Link). y.addr.offset ≡ x.addr.offset → ⊥) (xs ++ ys) → AllByRecursion (λ (y : Link). y.addr.offset ≡ x.addr.offset → ⊥) xs
    front [] all = tt
    front (y ∷ xs) all = (all.0, front xs all.1)

pub lead_back : (xs ys : List Link) → LeadApart (xs ++ ys) → LeadApart ys
lead_back [] ys apart = apart
lead_back (x ∷ xs) ys apart = lead_back xs ys apart.1

pub lead_across : (xs ys : List Link) (x y : Link) → LeadApart (xs ++ ys) → Member x xs → Member y ys → Differ x y
lead_across [] ys x y apart there also = absurd there
lead_across (z ∷ xs) ys x y apart (inr later) also = lead_across xs ys x y apart.1 later also
lead_across (z ∷ xs) ys x y apart (inl same) also = elim apart.0 [
  | inl zero ↦ inl (ap (λ (l : Link). l.addr.offset) same ∙ zero)
  | inr far ↦ inr (λ meet. all_of (λ (l : Link). l.addr.offset ≡ z.addr.offset → ⊥) (xs ++ ys) y far (behind xs) (meet ∙ ap (λ (l : Link). l.addr.offset) same))
]
  where
    behind : (xs : List Link) → Member y (xs ++ ys)
    behind [] = also
    behind (w ∷ xs) = inr (behind xs)

pub lead_both : (xs ys : List Link) → LeadApart xs → LeadApart ys → ((x y : Link) → Member x xs → Member y ys → Differ x y) → LeadApart (xs ++ ys)
lead_both [] ys one two differ = two
lead_both (x ∷ xs) ys one two differ = (
  elim (cases_eq x.addr.offset 0) [
    | inl zero ↦ inl zero
    | inr some ↦ inr (far xs (elim one.0 [ inl zero ↦ absurd (some zero) | inr apart ↦ apart ]) (λ y there. elim (differ x y (inl refl) there) [ inl zero ↦ absurd (some zero) | inr other ↦ other ]))
  ],
  lead_both xs ys one.1 two (λ z y there also. differ z y (inr there) also),
)
  where
    far : (xs : List Link) → AllByRecursion (λ (y : Link). y.addr.offset ≡ x.addr.offset → ⊥) xs → ((y : Link) → Member y ys → y.addr.offset ≡ x.addr.offset → ⊥) → AllByRecursion (λ (y : Link). y.addr.offset ≡ x.addr.offset → ⊥) (xs ++ ys)
    far [] apart each = all_made (λ (y : Link). y.addr.offset ≡ x.addr.offset → ⊥) ys each
    far (z ∷ xs) apart each = (apart.0, far xs apart.1 each)

-- ---- those over which leaves are written

-- one of them leads nowhere, or is one of before
pub aligned_from : (was : List Link) (leaves : List (List Row)) (link : Link) → Member link (aligned was leaves) → (link.addr.offset ≡ 0) ⊎ Member link was
aligned_from was [] link there = absurd there
aligned_from [] (rows ∷ leaves) link (inl same) = inl (ap (λ (l : Link). l.addr.offset) same)
aligned_from (w ∷ was) (rows ∷ leaves) link (inl same) = inr (inl same)
aligned_from [] (rows ∷ leaves) link (inr later) = elim (aligned_from [] leaves link later) [ inl zero ↦ inl zero | inr none ↦ absurd none ]
aligned_from (w ∷ was) (rows ∷ leaves) link (inr later) = elim (aligned_from was leaves link later) [ inl zero ↦ inl zero | inr there ↦ inr (inr there) ]

pub links_both : (xs ys : List Entry) → links_in (xs ++ ys) ≡ links_in xs ++ links_in ys
links_both xs ys = map-append {A = Entry} {B = Link} (λ e. e.link) xs ys

pub over_from : (written : Written) (leaves : List Leaf) (parts : List (List (List Row))) (link : Link) → Member link (links_over written leaves parts) → (link.addr.offset ≡ 0) ⊎ Member link (links_in (parts_of written leaves))
over_from written [] parts link there = absurd there
over_from written (l ∷ leaves) [] link there = absurd there
over_from written (l ∷ leaves) (images ∷ parts) link there = elim (in_either (aligned (links_in (part_of written l)) images) (links_over written leaves parts) link there) [
  | inl own ↦ elim (aligned_from (links_in (part_of written l)) images link own) [
    | inl zero ↦ inl zero
    | inr was ↦ inr (subst (λ (xs : List Link). Member link xs) (sym split) (in_front (links_in (part_of written l)) (links_in (parts_of written leaves)) link was))
  ]
  | inr later ↦ elim (over_from written leaves parts link later) [
    | inl zero ↦ inl zero
    | inr was ↦ inr (subst (λ (xs : List Link). Member link xs) (sym split) (in_back (links_in (part_of written l)) (links_in (parts_of written leaves)) link was))
  ]
]
  where
    split : links_in (parts_of written (l ∷ leaves)) ≡ links_in (part_of written l) ++ links_in (parts_of written leaves)
    split = links_both (part_of written l) (parts_of written leaves)

-- where the links of the parts lead apart, so do these
pub over_apart : (written : Written) (leaves : List Leaf) (parts : List (List (List Row))) → LeadApart (links_in (parts_of written leaves)) → LeadApart (links_over written leaves parts)
over_apart written [] parts apart = tt
over_apart written (l ∷ leaves) [] apart = tt
over_apart written (l ∷ leaves) (images ∷ parts) apart =
    lead_both (aligned (links_in (part_of written l)) images) (links_over written leaves parts)
    (aligned_apart (links_in (part_of written l)) images (lead_front (links_in (part_of written l)) (links_in (parts_of written leaves)) split))
    (over_apart written leaves parts (lead_back (links_in (part_of written l)) (links_in (parts_of written leaves)) split))
    differ
  where
    split : LeadApart (links_in (part_of written l) ++ links_in (parts_of written leaves))
    split = subst LeadApart (links_both (part_of written l) (parts_of written leaves)) apart

    differ : (x y : Link) → Member x (aligned (links_in (part_of written l)) images) → Member y (links_over written leaves parts) → Differ x y
    differ x y there also = elim (aligned_from (links_in (part_of written l)) images x there) [
      | inl zero ↦ inl zero
      | inr own ↦ elim (over_from written leaves parts y also) [
        | inr other ↦ lead_across (links_in (part_of written l)) (links_in (parts_of written leaves)) x y split own other
        | inl none ↦ elim (cases_eq x.addr.offset 0) [ inl zero ↦ inl zero | inr some ↦ inr (λ meet. some (sym meet ∙ none)) ]
      ]
    ]
