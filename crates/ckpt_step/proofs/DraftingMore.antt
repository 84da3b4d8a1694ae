-- The draft of a table's tree, and a leaf more.
use Rattle.std.specs.Prelude.{◌≡◌, ◌≢◌, ℕ, ◌≤◌, List, [], ◌∷◌, ◌++◌, length, Option, refl}
use Rattle.std.specs.List.{AllByRecursion, Contains}
use Rattle.std.proofs.Common.{sym, ◌∙◌, ap, subst, append_assoc}
use Rattle.std.proofs.lemmas.List.{append-nil}
use Rattle.std.proofs.lemmas.List.Elements.{Contains-append_left, Contains-append_right}
use Rattle.disk_model.specs.declared.disk.Disk.{Ghosts}
use Rattle.extent_list.specs.Space.{end_of}
use Rattle.block_mgr.specs.Blocks.{Books}
use Rattle.device_layout.specs.declared.addr.Addr.{Addr}
use Rattle.device_layout.specs.declared.link.Link.{Link}
use Rattle.row_page.specs.Rows.{Row}
use Rattle.leaf_rows.specs.Rows.{AreFit}
use Rattle.wt_code.specs.declared.store_error.StoreError.{StoreError}
use Rattle.wt_code.specs.declared.store_error.StoreError.TheVariants.{NoSpace}
use Rattle.stored.specs.Stored.{Stored}
use Rattle.stored.specs.TableTree.{Entry}
use Rattle.stored.specs.Tree.{join}
use Rattle.tree_dir.specs.declared.leaf.Leaf.{Leaf}
use Rattle.tree_dir.specs.Leaves.{leaves_of}
use Rattle.tree_dir.proofs.Members.{head-in}
use Rattle.tree_write.specs.Cuts.{AreFullLeaves}
use Rattle.tree_write.specs.Drafts.{Drafted, aligned}
use Rattle.tree_write.specs.Sizes.{WritesLeaves}
use Rattle.tree_write.specs.Steps.{LeavesStopped, links_in}
use Rattle.tree_write.specs.Writes.{KeepSame, MayWriteOver}
use Rattle.tree_write.proofs.Drafting.{draft_begun, draft_failed}
use Rattle.tree_write.proofs.Parts.{RowsBelow, join_more, none_stand, part_stands}
use Rattle.ckpt_step.specs.Drafting.{AreLeavesDrafted, Drafting, DraftStopped, IsLeafDrafted}
use Rattle.ckpt_step.specs.Moments.{AreServedIn, Moment}
use Rattle.ckpt_step.specs.Parts.{AreOfLeaves, IsPart, LieIn, links_over, part_of, parts_of, with_parts}
use Rattle.ckpt_step.specs.Rooms.{Written}
use Rattle.ckpt_step.specs.Sizes.{AreServedOf}
use Rattle.ckpt_step.specs.declared.parts.LeafPart.{LeafPart}
use Rattle.ckpt_step.proofs.LowKeys.{first_below, over_more, parted_length, parted_more}
use Rattle.ckpt_step.proofs.Members.{all_made}
use Rattle.ckpt_step.proofs.TableLeaves.{contains_of}
use Rattle.ckpt_step.proofs.WithParts.{NoneOf, lies_alike, part_alike, parts_alike, parts_more, with_alike, with_both, with_none}

-- ---- lists

pub all_more : {A : Type 0} (P : A → Type 0) (xs ys : List A) → AllByRecursion P xs → AllByRecursion P ys → AllByRecursion P (xs ++ ys)
all_more P [] ys all more = more
all_more P (x ∷ xs) ys all more = (all.0, all_more P xs ys all.1 more)

pub all_into : {A : Type 0} (P Q : A → Type 0) (xs : List A) → ((x : A) → P x → Q x) → AllByRecursion P xs → AllByRecursion Q xs
all_into P Q [] into all = tt
all_into P Q (x ∷ xs) into all = (into x all.0, all_into P Q xs into all.1)

-- ---- by leaf

module _ (seen : List ℕ) (leaves : List Leaf) (had : Written) (n : Moment) (table : ℕ) where
  -- a leaf of which the same is known is captured as well
  pub drafted_alike : (written next : Written) (l : Leaf) (images : List (List Row)) → next l.id ≡ written l.id → IsLeafDrafted seen leaves had n table written l images → IsLeafDrafted seen leaves had n table next l images
  drafted_alike written next l images same drafted =
      let part : part_of written l ≡ part_of next l = part_alike written next l (sym same) in
      record {
        is = subst (λ (es : List Entry). IsPart leaves table l es images) part drafted.is;
        many = subst (λ (es : List Entry). length es ≡ length images) part drafted.many;
        serve = drafted.serve;
        shelved = λ lies. drafted.shelved (lies_alike written next l (sym same) lies);
        same = subst (λ (es : List Entry). KeepSame seen (links_in (part_of had l)) (links_in es) images) part drafted.same;
      }

  -- the parts of the leaves so far are the same, and a leaf more has its own
  leaves_more : (written next : Written) (front : List Leaf) (parts : List (List (List Row))) (l : Leaf) (images : List (List Row)) → AllByRecursion (λ (x : Leaf). next x.id ≡ written x.id) front → AreLeavesDrafted seen leaves had n table written front parts
      → IsLeafDrafted seen leaves had n table next l images → AreLeavesDrafted seen leaves had n table next (front ++ l ∷ []) (parts ++ images ∷ [])
  leaves_more written next [] [] l images same each is = (is, tt)
  leaves_more written next [] (x ∷ parts) l images same each is = absurd each
  leaves_more written next (f ∷ front) [] l images same each is = absurd each
  leaves_more written next (f ∷ front) (x ∷ parts) l images same each is =
      (drafted_alike written next f x same.0 each.0, leaves_more written next front parts l images same.1 each.1 is)

  pub serve_of : (written : Written) (front : List Leaf) (parts : List (List (List Row))) → AreLeavesDrafted seen leaves had n table written front parts → AreServedOf n leaves table front parts
  serve_of written [] [] each = tt
  serve_of written [] (x ∷ parts) each = absurd each
  serve_of written (f ∷ front) [] each = absurd each
  serve_of written (f ∷ front) (x ∷ parts) each = (each.0.serve, serve_of written front parts each.1)

pub fit_of : (seen : List ℕ) (leaves : List Leaf) (had : Written) (n : Moment) (table : ℕ) (written : Written) (front : List Leaf) (parts : List (List (List Row))) → AreLeavesDrafted seen leaves had n table written front parts → AllByRecursion (λ (images : List (List Row)). AreFit (join images)) parts
fit_of seen leaves had n table written [] [] each = tt
fit_of seen leaves had n table written [] (x ∷ parts) each = absurd each
fit_of seen leaves had n table written (f ∷ front) [] each = absurd each
fit_of seen leaves had n table written (f ∷ front) (x ∷ parts) each = (each.0.is.rows_fit, fit_of seen leaves had n table written front parts each.1)

serve_more : (n : Moment) (leaves : List Leaf) (table : ℕ) (front : List Leaf) (parts : List (List (List Row))) (l : Leaf) (images : List (List Row)) → AreServedOf n leaves table front parts → AreServedIn n leaves table l (join images)
    → AreServedOf n leaves table (front ++ l ∷ []) (parts ++ images ∷ [])
serve_more n leaves table [] [] l images serve is = (is, tt)
serve_more n leaves table [] (x ∷ parts) l images serve is = absurd serve
serve_more n leaves table (f ∷ front) [] l images serve is = absurd serve
serve_more n leaves table (f ∷ front) (x ∷ parts) l images serve is = (serve.0, serve_more n leaves table front parts l images serve.1 is)

-- what was written of the first leaves is none of the next one's, where their ids differ
none_of_next : (front : List Leaf) (more : List LeafPart) (id : ℕ) → ((x : Leaf) → Contains front x → x.id ≢ id) → AreOfLeaves front more → NoneOf id more
none_of_next front [] id differ of = tt
none_of_next front (p ∷ more) id differ of = ((λ same. differ of.0.0 of.0.1 (of.0.2 ∙ same)), none_of_next front more id differ of.1)

-- ---- a draft without leaves

module _ {D : Type 0} (g : Ghosts D) (old : Option Stored) (first : Books) (leaves : List Leaf) (had : Written) (n : Moment) (table : ℕ) (books : Books) (more : List LeafPart) (captured : List Addr) (before : D) (only : (c : List ℕ) → g.left_since before (g.moment before) c → g.may_leave before c) where
  pub drafting_none : (was : List Link) → MayWriteOver (g.seen before) (g.may_leave before) first books old was → end_of books.space ≤ length (g.seen before) → Drafting g old first leaves had n table books books more more captured captured before before [] []
  drafting_none was over ready = record {
    parts = [];
    own_more = [];
    addrs = [];
    more_are = sym (append-nil more);
    of_front = tt;
    captured_are = sym (append-nil captured);
    parted = tt;
    drafted = draft_begun g old first books before only (record { may = over.may; live = over.live; leaves = tt }) ready;
    stand = none_stand;
    entries_are = refl;
    each = tt;
  }

-- ---- a leaf more

-- images that may stand in want of room: their rows serve as those of a leaf
pub record AreImagesOf (leaves : List Leaf) (n : Moment) (table : ℕ) (l : Leaf) (images : List (List Row)) : Type 0 where
  pub lie : LieIn leaves table l (join images)
  pub serve : AreServedIn n leaves table l (join images)
  pub full : AreFullLeaves images
  pub some : AllByRecursion (λ (rows : List Row). 1 ≤ length rows) images

module _ {D : Type 0} (g : Ghosts D) (old : Option Stored) (first : Books) (leaves : List Leaf) (had : Written) (n : Moment) (table : ℕ) (books mid books' : Books) (more between_more more' : List LeafPart) (captured between_captured captured' : List Addr) (before between after : D)
    (front : List Leaf) (es : List Entry) (drafting : Drafting g old first leaves had n table books mid more between_more captured between_captured before between front es) (l : Leaf) where
  -- its images are captured
  pub drafting_more : (images : List (List Row)) (own : List Entry) (own_more : List LeafPart) (addrs : List Addr)
      → ((x : Leaf) → Contains front x → x.id ≢ l.id) → AllByRecursion (λ (p : LeafPart). p.leaf ≡ l.id) own_more → part_of (with_parts had own_more) l ≡ own
      → RowsBelow l.entry.key (join (join drafting.parts))
      → more' ≡ between_more ++ own_more → captured' ≡ between_captured ++ addrs
      → IsLeafDrafted (g.seen before) leaves had n table (with_parts had own_more) l images
      → Drafted g old first books books' before after (links_over had front drafting.parts ++ aligned (links_in (part_of had l)) images) (join drafting.parts ++ images) (drafting.addrs ++ addrs) (es ++ own)
      → Drafting g old first leaves had n table books books' more more' captured captured' before after (front ++ l ∷ []) (es ++ own)
  drafting_more images own own_more addrs differ of part below more_are captured_are is drafted = record {
    parts = drafting.parts ++ images ∷ [];
    own_more = drafting.own_more ++ own_more;
    addrs = drafting.addrs ++ addrs;
    more_are = more_are ∙ (ap (λ (m : List LeafPart). m ++ own_more) drafting.more_are ∙ append_assoc more drafting.own_more own_more);
    of_front = all_more (λ (p : LeafPart). (x : Leaf) × Contains (front ++ l ∷ []) x × (x.id ≡ p.leaf)) drafting.own_more own_more
        (all_into (λ (p : LeafPart). (x : Leaf) × Contains front x × (x.id ≡ p.leaf)) (λ (p : LeafPart). (x : Leaf) × Contains (front ++ l ∷ []) x × (x.id ≡ p.leaf)) drafting.own_more (λ p one. (one.0, Contains-append_left front (l ∷ []) one.0 one.1, one.2)) drafting.of_front)
        (all_into (λ (p : LeafPart). p.leaf ≡ l.id) (λ (p : LeafPart). (x : Leaf) × Contains (front ++ l ∷ []) x × (x.id ≡ p.leaf)) own_more (λ p same. (l, Contains-append_right front (l ∷ []) l (head-in l []), sym same)) of);
    captured_are = captured_are ∙ (ap (λ (m : List Addr). m ++ addrs) drafting.captured_are ∙ append_assoc captured drafting.addrs addrs);
    parted = parted_more leaves table front drafting.parts l images drafting.parted is.is.lie;
    drafted = subst (λ (m : List (List Row)). Drafted g old first books books' before after (links_over had (front ++ l ∷ []) (drafting.parts ++ images ∷ [])) m (drafting.addrs ++ addrs) (es ++ own)) (sym (join_more drafting.parts images))
        (subst (λ (m : List Link). Drafted g old first books books' before after m (join drafting.parts ++ images) (drafting.addrs ++ addrs) (es ++ own)) (sym (over_more had front drafting.parts l images (parted_length leaves table front drafting.parts drafting.parted))) drafted);
    stand = part_stands es own drafting.parts images drafting.drafted.written.bear drafting.stand own_part.stay own_part.full own_part.some (first_below own l.entry.key (join (join drafting.parts)) own_part.begins below);
    entries_are = ap (λ (m : List Entry). m ++ own) (drafting.entries_are ∙ sym (parts_alike (with_parts had (drafting.own_more ++ own_more)) (with_parts had drafting.own_more) front same)) ∙ (ap (λ (m : List Entry). parts_of (with_parts had (drafting.own_more ++ own_more)) front ++ m) (sym part_is) ∙ sym (parts_more (with_parts had (drafting.own_more ++ own_more)) front l));
    each = leaves_more (g.seen before) leaves had n table (with_parts had drafting.own_more) (with_parts had (drafting.own_more ++ own_more)) front drafting.parts l images same drafting.each (drafted_alike (g.seen before) leaves had n table (with_parts had own_more) (with_parts had (drafting.own_more ++ own_more)) l images last is);
  }
    where
      own_part : IsPart leaves table l own images
      own_part = subst (λ (m : List Entry). IsPart leaves table l m images) part is.is

      apart : (x : Leaf) → Contains front x → NoneOf x.id own_more
      apart x there = all_into (λ (p : LeafPart). p.leaf ≡ l.id) (λ (p : LeafPart). p.leaf ≡ x.id → ⊥) own_more (λ p its same. differ x there (sym same ∙ its)) of

      same : AllByRecursion (λ (x : Leaf). (with_parts had (drafting.own_more ++ own_more)) x.id ≡ (with_parts had drafting.own_more) x.id) front
      same = all_made (λ (x : Leaf). (with_parts had (drafting.own_more ++ own_more)) x.id ≡ (with_parts had drafting.own_more) x.id) front (λ x there. with_both had drafting.own_more own_more x.id ∙ with_none (with_parts had drafting.own_more) own_more x.id (apart x (contains_of front x there)))

      last : (with_parts had (drafting.own_more ++ own_more)) l.id ≡ with_parts had own_more l.id
      last = with_both had drafting.own_more own_more l.id ∙ with_alike (with_parts had drafting.own_more) had own_more l.id (with_none had drafting.own_more l.id (none_of_next front drafting.own_more l.id differ drafting.of_front))

      part_is : part_of (with_parts had (drafting.own_more ++ own_more)) l ≡ own
      part_is = part_alike (with_parts had (drafting.own_more ++ own_more)) (with_parts had own_more) l last ∙ part

  -- an error that is not want of room, before anything of it is captured
  pub drafting_failed : (e : StoreError) → (e ≡ NoSpace → ⊥) → captured' ≡ between_captured → DraftStopped g old first leaves had n table books mid more more' captured captured' before between e
  drafting_failed e other captured_are =
      let stop = draft_failed g old first books mid before between (links_over had front drafting.parts) (join drafting.parts) drafting.addrs es drafting.drafted e other in
      record {
        blocks = stop.blocks;
        sizes = stop.sizes;
        captured_are = captured_are ∙ (drafting.captured_are ∙ ap (λ (m : List Addr). captured ++ m) stop.listed);
        captures = stop.captures;
        left = stop.left;
        lacks = λ is. absurd (other is);
      }

  -- some of its images are captured, and then there is an error
  pub drafting_stopped : (images : List (List Row)) (rest : List Leaf) (addrs : List Addr) (e : StoreError) → leaves_of table leaves ≡ front ++ l ∷ rest → captured' ≡ between_captured ++ addrs → (e ≡ NoSpace → AreImagesOf leaves n table l images)
      → LeavesStopped g old first books books' before after (links_over had front drafting.parts ++ aligned (links_in (part_of had l)) images) (join drafting.parts ++ images) (drafting.addrs ++ addrs) e
      → DraftStopped g old first leaves had n table books books' more more' captured captured' before after e
  drafting_stopped images rest addrs e all captured_are fits stop = record {
    blocks = stop.blocks;
    sizes = stop.sizes;
    captured_are = captured_are ∙ (ap (λ (m : List Addr). m ++ addrs) drafting.captured_are ∙ (append_assoc captured drafting.addrs addrs ∙ ap (λ (m : List Addr). captured ++ m) stop.listed));
    captures = stop.captures;
    left = stop.left;
    lacks = λ is.
        let why = stop.lacks is in
        let fit = fits is in (
          front ++ l ∷ [],
          record {
            rest = rest;
            first = all ∙ sym (append_assoc front (l ∷ []) rest);
            parts = drafting.parts ++ images ∷ [];
            parted = parted_more leaves table front drafting.parts l images drafting.parted fit.lie;
            serve = serve_more n leaves table front drafting.parts l images (serve_of (g.seen before) leaves had n table (with_parts had drafting.own_more) front drafting.parts drafting.each) fit.serve;
            full = all_more AreFullLeaves drafting.parts (images ∷ []) drafting.stand.full (fit.full, tt);
            some = subst (λ (m : List (List Row)). AllByRecursion (λ (rows : List Row). 1 ≤ length rows) m) (sym (join_more drafting.parts images)) (all_more (λ (rows : List Row). 1 ≤ length rows) (join drafting.parts) images drafting.stand.some fit.some);
            sizes = why.0;
            writes = subst (λ (m : List (List Row)). WritesLeaves (g.seen before) (links_over had (front ++ l ∷ []) (drafting.parts ++ images ∷ [])) m why.0) (sym (join_more drafting.parts images))
                (subst (λ (m : List Link). WritesLeaves (g.seen before) m (join drafting.parts ++ images) why.0) (sym (over_more had front drafting.parts l images (parted_length leaves table front drafting.parts drafting.parted))) why.1);
            lacks = why.2;
          },
        );
  }
