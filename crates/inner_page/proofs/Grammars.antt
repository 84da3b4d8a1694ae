-- Pages whose things are each read in the light of the one before: what is read from a block is the block's, and what a block has is read.
use Rattle.std.proofs.Common.{◌≡◌, ℕ, ◌^◌, ◌<◌, ◌≤◌, List, [], ◌∷◌, length, Option, Some, None, refl, sym, ap, ◌∙◌, arith}
use Rattle.std.specs.Prelude.{Result, Ok, Err, IfOk, IfNone}
use Rattle.std.specs.List.{flat_map}
use Rattle.std.proofs.lemmas.List.{append-nil, length-append}
use Rattle.le_codec.specs.Fields.{IsField, IsBytes}
use Rattle.le_codec.specs.Combine.{chain_at, Chained}
use Rattle.le_codec.specs.Images.{first_format, framed, block_of, block_size, HoldsImage}
use Rattle.le_codec.proofs.Laws.{some_is}
use Rattle.le_codec.proofs.Heads.{same_framed}
use Rattle.le_codec.proofs.Chains.{chain_field}
use Rattle.le_codec.proofs.Opened.{text_bytes}

-- how the things of a page are spelled, and which pages there are
pub record Grammar (E S : Type 0) : Type 1 where
  pub kind : ℕ
  -- the levels, and the most bytes of a text
  pub lowest : ℕ
  pub highest : ℕ
  pub most : ℕ
  pub spell : E → List ℕ
  pub read : S → List ℕ → Option (E × List ℕ)
  pub Suits : S → E → Type 0
  pub next : E → S
  pub start : S
  pub field : (s : S) → IsField spell (read s) (Suits s)
  pub some : (e : E) → 1 ≤ length (spell e)
  pub kind_fits : kind < 2 ^ 8
  pub highest_fits : highest < 2 ^ 64
  pub most_fits : most < 2 ^ 16

abbrev pub page_image : {E S : Type 0} → Grammar E S → ℕ → List E → List ℕ
page_image g level es = framed g.kind first_format (length es) level (flat_map g.spell es)

-- the page is one of the grammar
pub record IsIn {E S : Type 0} (g : Grammar E S) (level : ℕ) (es : List E) : Type 0 where
  pub some : 1 ≤ length es
  pub chained : Chained g.Suits g.next g.start es
  pub low : g.lowest ≤ level
  pub high : level ≤ g.highest
  pub size : length (flat_map g.spell es) ≤ g.most

-- ---- the text

pub count_upto : {E S : Type 0} (g : Grammar E S) (es : List E) → length es ≤ length (flat_map g.spell es)
count_upto g [] = omega arith
count_upto g (e ∷ es) = omega (arith, g.some e, count_upto g es, length-append (g.spell e) (flat_map g.spell es))

-- what is spelled is read
retold : {E S : Type 0} (g : Grammar E S) (es : List E) → Chained g.Suits g.next g.start es → chain_at g.read g.next (length es) g.start (flat_map g.spell es) ≡ Some (es, [])
retold g es chained = ap (chain_at g.read g.next (length es) g.start) (sym (append-nil (flat_map g.spell es))) ∙ (chain_field g.next g.field (length es) g.start).again es [] (refl, chained)

-- what a text spells is what is read from it
pub read_as : {E S : Type 0} (g : Grammar E S) (count : ℕ) (text : List ℕ) (found es : List E) → chain_at g.read g.next count g.start text ≡ Some (found, []) → count ≡ length es → text ≡ flat_map g.spell es → Chained g.Suits g.next g.start es → found ≡ es
read_as {E = E} g count text found es is count_is text_is chained =
    let same = sym is ∙ ap (λ (n : ℕ). chain_at g.read g.next n g.start text) count_is ∙ ap (chain_at g.read g.next (length es) g.start) text_is ∙ retold g es chained in
    ap (λ (x : List E × List ℕ). x.0) (some_is (found, []) (es, []) same)

-- what a text says
pub record Says {E S : Type 0} (g : Grammar E S) (count : ℕ) (text : List ℕ) (es : List E) : Type 0 where
  pub count_is : count ≡ length es
  pub text_is : text ≡ flat_map g.spell es
  pub chained : Chained g.Suits g.next g.start es

pub told : {E S : Type 0} (g : Grammar E S) (count : ℕ) (text : List ℕ) (es : List E) → IsBytes text → chain_at g.read g.next count g.start text ≡ Some (es, []) → Says g count text es
told g count text es bytes is =
    let t = (chain_field g.next g.field count g.start).takes text es [] bytes is in
    record { count_is = sym t.1.0; text_is = t.0.parts ∙ append-nil (flat_map g.spell es); chained = t.1.1 }

-- ---- the block

held : {E S : Type 0} (g : Grammar E S) (block : List ℕ) (level : ℕ) (es : List E) → IsIn g level es → block ≡ block_of (page_image g level es) → HoldsImage g.kind first_format block (length es) level (flat_map g.spell es)
held g block level es ok is = record {
  spelled = is;
  count_fits = omega (arith, count_upto g es, ok.size, g.most_fits);
  level_fits = omega (arith, ok.high, g.highest_fits);
  text_fits = omega (arith, ok.size, g.most_fits);
}

-- no image, no page
pub no_image : {E S : Type 0} (g : Grammar E S) (block : List ℕ) → ((count level : ℕ) (text : List ℕ) → HoldsImage g.kind first_format block count level text → ⊥) → (level : ℕ) (es : List E) → IsIn g level es → block ≡ block_of (page_image g level es) → ⊥
no_image g block none level es ok is = none (length es) level (flat_map g.spell es) (held g block level es ok is)

-- the image that was found is the page's
pub found_is : {E S : Type 0} (g : Grammar E S) (block : List ℕ) (count level : ℕ) (text : List ℕ) → HoldsImage g.kind first_format block count level text → (other : ℕ) (es : List E) → IsIn g other es → block ≡ block_of (page_image g other es)
    → (count ≡ length es) × (level ≡ other) × (text ≡ flat_map g.spell es)
found_is g block count level text h other es ok is =
    let k = held g block other es ok is in
    same_framed g.kind first_format level other count (length es) text (flat_map g.spell es) (block_size (length (framed g.kind first_format count level text))) (block_size (length (page_image g other es))) g.kind_fits (omega arith) h.level_fits k.level_fits h.count_fits k.count_fits h.text_fits k.text_fits (sym h.spelled ∙ is)

-- the image says no page
pub no_page : {E S : Type 0} (g : Grammar E S) (block : List ℕ) (count level : ℕ) (text : List ℕ) → HoldsImage g.kind first_format block count level text → ((es : List E) → chain_at g.read g.next count g.start text ≡ Some (es, []) → ⊥)
    → (other : ℕ) (es : List E) → IsIn g other es → block ≡ block_of (page_image g other es) → ⊥
no_page g block count level text h none other es ok is =
    let f = found_is g block count level text h other es ok is in
    none es (ap (λ (n : ℕ). chain_at g.read g.next n g.start text) f.0 ∙ ap (chain_at g.read g.next (length es) g.start) f.2 ∙ retold g es ok.chained)

-- what the image says, and the block's spelling
pub page_read : {E S : Type 0} (g : Grammar E S) (block : List ℕ) (count level : ℕ) (text : List ℕ) (es : List E) → IsBytes block → HoldsImage g.kind first_format block count level text → chain_at g.read g.next count g.start text ≡ Some (es, [])
    → Says g count text es × (block ≡ block_of (page_image g level es))
page_read g block count level text es bytes h is =
    let s = told g count text es (text_bytes g.kind first_format count level text block bytes h.spelled) is in
    (s, h.spelled ∙ ap (λ (n : ℕ). block_of (framed g.kind first_format n level text)) s.count_is ∙ ap (λ (t : List ℕ). block_of (framed g.kind first_format (length es) level t)) s.text_is)

-- a block is that of one page
pub one_block : {E S : Type 0} (g : Grammar E S) (block : List ℕ) (level other : ℕ) (p q : List E) → IsIn g level p → IsIn g other q → block ≡ block_of (page_image g level p) → block ≡ block_of (page_image g other q) → (level ≡ other) × (p ≡ q)
one_block {E = E} g block level other p q hp hq is also =
    let f = found_is g block (length p) level (flat_map g.spell p) (held g block level p hp is) other q hq also in
    let same = sym (retold g p hp.chained) ∙ ap (λ (n : ℕ). chain_at g.read g.next n g.start (flat_map g.spell p)) f.0 ∙ ap (chain_at g.read g.next (length q) g.start) f.2 ∙ retold g q hq.chained in
    (f.1, ap (λ (x : List E × List ℕ). x.0) (some_is (p, []) (q, []) same))

-- an answer of which less is asked
pub if_none : {X E : Type 0} (P Q : Type 0) (r : Result (Option X) E) → (P → Q) → IfOk r (λ o. IfNone o P) → IfOk r (λ o. IfNone o Q)
if_none P Q (Ok None) more given = more given
if_none P Q (Ok (Some x)) more given = tt
if_none P Q (Err e) more given = tt
