-- The rows of a leaf, by what leads to it: of entries at distinct addresses each has its own.
use Rattle.std.specs.Prelude.{◌≡◌, ℕ, ◌==◌, false, true, List, [], ◌∷◌, ◌++◌, length, map, refl}
use Rattle.std.specs.List.{AllByRecursion}
use Rattle.std.proofs.Common.{inl, inr, sym, ◌∙◌, ap, subst, arith, append_assoc}
use Rattle.std.proofs.lemmas.Bool.{eq-eqb, ne_eqb}
use Rattle.std.proofs.lemmas.List.{length-append}
use Rattle.device_layout.specs.declared.addr.Addr.{Addr}
use Rattle.kv_model.specs.Holds.{Member}
use Rattle.row_page.specs.Rows.{Row}
use Rattle.stored.specs.TableTree.{Entry}
use Rattle.stored.specs.Tree.{join}
use Rattle.tree_dir.specs.declared.leaf.Leaf.{Leaf}
use Rattle.tree_write.specs.Captures.{AreDistinct}
use Rattle.tree_write.specs.Drafts.{addrs_to, leaf_links, or_empty}
use Rattle.tree_write.specs.Steps.{links_in}
use Rattle.ckpt_step.specs.Moments.{Moment}
use Rattle.ckpt_step.specs.Drafting.{AreLeavesDrafted, IsLeafDrafted}
use Rattle.ckpt_step.specs.Parts.{part_of, parts_of, rows_behind}
use Rattle.ckpt_step.specs.Rooms.{Written}
use Rattle.ckpt_step.proofs.Members.{in_back, in_front}

-- ---- one entry

-- the addresses before one are others
others : (pre : List Entry) (e : Entry) (post : List Entry) → AreDistinct (addrs_to (pre ++ e ∷ post)) → (p : Entry) → Member p pre → p.link.addr.offset ≡ e.link.addr.offset → ⊥
others [] e post distinct p there same = there
others (x ∷ pre) e post distinct p (inl is) same = far (pre ++ e ∷ post) distinct.0 (behind pre) (sym same ∙ ap (λ (y : Entry). y.link.addr.offset) is)
  where
    far : (es : List Entry) → AllByRecursion (λ (a : Addr). a.offset ≡ x.link.addr.offset → ⊥) (addrs_to es) → Member e es → e.link.addr.offset ≡ x.link.addr.offset → ⊥
    far [] all there met = there
    far (y ∷ es) all (inl one) met = all.0 (sym (ap (λ (z : Entry). z.link.addr.offset) one) ∙ met)
    far (y ∷ es) all (inr there) met = far es all.1 there met

    behind : (xs : List Entry) → Member e (xs ++ e ∷ post)
    behind [] = inl refl
    behind (y ∷ xs) = inr (behind xs)
others (x ∷ pre) e post distinct p (inr there) same = others pre e post distinct.1 p there same

one_behind : (pre : List Entry) (e : Entry) (post : List Entry) (before : List (List Row)) (rows : List Row) (after : List (List Row)) → length pre ≡ length before → ((p : Entry) → Member p pre → p.link.addr.offset ≡ e.link.addr.offset → ⊥)
    → rows_behind (links_in (pre ++ e ∷ post)) (before ++ rows ∷ after) e.link ≡ rows
one_behind [] e post [] rows after long other = let is : (e.link.addr.offset == e.link.addr.offset) ≡ true = eq-eqb e.link.addr.offset e.link.addr.offset refl in rw is refl
one_behind [] e post (x ∷ before) rows after long other = absurd (omega (arith, long))
one_behind (p ∷ pre) e post [] rows after long other = absurd (omega (arith, long))
one_behind (p ∷ pre) e post (x ∷ before) rows after long other =
    let isnt : (p.link.addr.offset == e.link.addr.offset) ≡ false = ne_eqb p.link.addr.offset e.link.addr.offset (other p (inl refl)) in
    rw isnt (one_behind pre e post before rows after (omega (arith, long)) (λ q there. other q (inr there)))

-- ---- entries between others

-- all: before some, then these, then the rest
pub some_behind : (all : List Entry) (leaves : List (List Row)) (pre mine post : List Entry) (before own after : List (List Row)) → AreDistinct (addrs_to all) → all ≡ pre ++ (mine ++ post) → leaves ≡ before ++ (own ++ after) → length pre ≡ length before → length mine ≡ length own
    → map {A = Entry} (λ e. rows_behind (links_in all) leaves e.link) mine ≡ own
some_behind all leaves pre [] post before [] after distinct all_are leaves_are long many = refl
some_behind all leaves pre [] post before (rows ∷ own) after distinct all_are leaves_are long many = absurd (omega (arith, many))
some_behind all leaves pre (e ∷ mine) post before [] after distinct all_are leaves_are long many = absurd (omega (arith, many))
some_behind all leaves pre (e ∷ mine) post before (rows ∷ own) after distinct all_are leaves_are long many =
    let here : rows_behind (links_in all) leaves e.link ≡ rows =
    ap (λ (m : List Entry). rows_behind (links_in m) leaves e.link) all_are ∙ (ap (λ (m : List (List Row)). rows_behind (links_in (pre ++ e ∷ (mine ++ post))) m e.link) leaves_are
    ∙ one_behind pre e (mine ++ post) before rows (own ++ after) long (others pre e (mine ++ post) (subst (λ (m : List Entry). AreDistinct (addrs_to m)) all_are distinct))) in
    ap (λ (x : List Row). x ∷ map {A = Entry} (λ y. rows_behind (links_in all) leaves y.link) mine) here
    ∙ ap (λ (m : List (List Row)). rows ∷ m) (some_behind all leaves (pre ++ e ∷ []) mine post (before ++ rows ∷ []) own after distinct (all_are ∙ sym (append_assoc pre (e ∷ []) (mine ++ post))) (leaves_are ∙ sym (append_assoc before (rows ∷ []) (own ++ after)))
    (omega (arith, length-append pre (e ∷ []), length-append before (rows ∷ []), long)) (omega (arith, many)))

-- ---- the leaves of a directory that are drafted

-- a leaf among them, with its images, between those before and behind
pub record IsDraftedAt (seen : List ℕ) (leaves : List Leaf) (had : Written) (n : Moment) (table : ℕ) (written : Written) (front : List Leaf) (parts : List (List (List Row))) (l : Leaf) : Type 0 where
  pub images : List (List Row)
  pub is : IsLeafDrafted seen leaves had n table written l images
  pub pre : List Entry
  pub post : List Entry
  pub before : List (List Row)
  pub after : List (List Row)
  pub entries_are : parts_of written front ≡ pre ++ (part_of written l ++ post)
  pub leaves_are : join parts ≡ before ++ (images ++ after)
  pub long : length pre ≡ length before

pub drafted_at : (seen : List ℕ) (leaves : List Leaf) (had : Written) (n : Moment) (table : ℕ) (written : Written) (front : List Leaf) (parts : List (List (List Row))) (l : Leaf) → AreLeavesDrafted seen leaves had n table written front parts → Member l front
    → IsDraftedAt seen leaves had n table written front parts l
drafted_at seen leaves had n table written [] parts l each there = absurd there
drafted_at seen leaves had n table written (f ∷ front) [] l each there = absurd each
drafted_at seen leaves had n table written (f ∷ front) (images ∷ parts) l each (inl same) = record {
  images = images;
  is = subst (λ (x : Leaf). IsLeafDrafted seen leaves had n table written x images) (sym same) each.0;
  pre = [];
  post = parts_of written front;
  before = [];
  after = join parts;
  entries_are = ap (λ (x : Leaf). part_of written x ++ parts_of written front) (sym same);
  leaves_are = refl;
  long = refl;
}
drafted_at seen leaves had n table written (f ∷ front) (images ∷ parts) l each (inr there) =
    let one = drafted_at seen leaves had n table written front parts l each.1 there in
    record {
      images = one.images;
      is = one.is;
      pre = part_of written f ++ one.pre;
      post = one.post;
      before = images ++ one.before;
      after = one.after;
      entries_are = ap (λ (m : List Entry). part_of written f ++ m) one.entries_are ∙ sym (append_assoc (part_of written f) one.pre (part_of written l ++ one.post));
      leaves_are = ap (λ (m : List (List Row)). images ++ m) one.leaves_are ∙ sym (append_assoc images one.before (one.images ++ one.after));
      long = omega (arith, length-append (part_of written f) one.pre, length-append images one.before, each.0.many, one.long);
    }

-- by its links it has its images
pub drafted_leaves : (seen : List ℕ) (leaves : List Leaf) (had : Written) (n : Moment) (table : ℕ) (written : Written) (front : List Leaf) (parts : List (List (List Row))) (l : Leaf) → AreDistinct (addrs_to (parts_of written front)) → (at : IsDraftedAt seen leaves had n table written front parts l)
    → map {A = Entry} (λ e. rows_behind (links_in (parts_of written front)) (join parts) e.link) (part_of written l) ≡ at.images
drafted_leaves seen leaves had n table written front parts l distinct at =
    some_behind (parts_of written front) (join parts) at.pre (part_of written l) at.post at.before at.images at.after distinct at.entries_are at.leaves_are at.long at.is.many

-- ---- in the tree of them

mapped_same : (f h : Entry → List Row) (es : List Entry) → ((e : Entry) → Member e es → f e ≡ h e) → map f es ≡ map h es
mapped_same f h [] same = refl
mapped_same f h (e ∷ es) same = ap (λ (x : List Row). x ∷ map f es) (same e (inl refl)) ∙ ap (λ (m : List (List Row)). h e ∷ m) (mapped_same f h es (λ x there. same x (inr there)))

-- a tree without leaves has one that is empty, but no entry leads there
tree_behind : (es : List Entry) (leaves : List (List Row)) (e : Entry) → length es ≡ length leaves → Member e es → rows_behind (leaf_links es) (or_empty leaves) e.link ≡ rows_behind (links_in es) leaves e.link
tree_behind [] leaves e long there = absurd there
tree_behind (x ∷ es) [] e long there = absurd (omega (arith, long))
tree_behind (x ∷ es) (rows ∷ leaves) e long there = refl

pub tree_leaves : (es : List Entry) (leaves : List (List Row)) (part : List Entry) → length es ≡ length leaves → ((e : Entry) → Member e part → Member e es) → map {A = Entry} (λ e. rows_behind (leaf_links es) (or_empty leaves) e.link) part ≡ map {A = Entry} (λ e. rows_behind (links_in es) leaves e.link) part
tree_leaves es leaves part long within = mapped_same (λ e. rows_behind (leaf_links es) (or_empty leaves) e.link) (λ e. rows_behind (links_in es) leaves e.link) part (λ e there. tree_behind es leaves e long (within e there))

pub drafted_within : (seen : List ℕ) (leaves : List Leaf) (had : Written) (n : Moment) (table : ℕ) (written : Written) (front : List Leaf) (parts : List (List (List Row))) (l : Leaf) → (at : IsDraftedAt seen leaves had n table written front parts l) → (e : Entry) → Member e (part_of written l) → Member e (parts_of written front)
drafted_within seen leaves had n table written front parts l at e there =
    subst (λ (m : List Entry). Member e m) (sym at.entries_are) (in_back at.pre (part_of written l ++ at.post) e (in_front (part_of written l) at.post e there))
