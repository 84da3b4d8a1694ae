-- A record that is read from its block is the block's, and one that a block has is read.
use Rattle.std.proofs.Common.{◌≡◌, ℕ, ◌<◌, ◌≤◌, List, [], ◌++◌, length, Option, Some, None, sym, ap, subst, ◌∙◌, arith}
use Rattle.std.specs.Prelude.{Result, Ok, Err, IfOk, IfNone}
use Rattle.std.proofs.lemmas.List.{append-nil}
use Rattle.le_codec.specs.Fields.{Gives, IsBytes}
use Rattle.le_codec.specs.Images.{first_format, framed, block_of, block_size, HoldsImage}
use Rattle.le_codec.proofs.Laws.{some_is}
use Rattle.le_codec.proofs.Heads.{same_framed}
use Rattle.stored.specs.Records.{Record, IsRecord, record_body, record_image}
use Rattle.stored.specs.Reading.{record_at}
use Rattle.stored.proofs.Fields.{RecordSpelled, record_field}
use Rattle.stored.proofs.Exact.{record_spelled, record_most, record_exact}
use Rattle.checkpoint_record.specs.Rules.{Keeps, Says}
use Rattle.checkpoint_record.proofs.Kept.{keeps_true}

nothing_some : {A : Type 0} {x : A} → None ≡ Some x → ⊥
nothing_some e = absurd cc

-- ---- what was read

pub was_none : (count : ℕ) (text start left : List ℕ) (o : Option Record) → start ≡ text → o ≡ None → Gives (λ (r : Record). r) o left (record_at count start) → record_at count text ≡ None
was_none count text start left o from_text is given = ap (record_at count) (sym from_text) ∙ subst (λ (x : Option Record). Gives (λ (r : Record). r) x left (record_at count start)) is given

pub was_some : (count : ℕ) (text start left : List ℕ) (o : Option Record) (r : Record) → start ≡ text → o ≡ Some r → Gives (λ (r : Record). r) o left (record_at count start) → record_at count text ≡ Some (r, left)
was_some count text start left o r from_text is given = ap (record_at count) (sym from_text) ∙ subst (λ (x : Option Record). Gives (λ (r : Record). r) x left (record_at count start)) is given

-- ---- the text

-- what an image says is read from it
pub said : (count : ℕ) (text : List ℕ) (r : Record) → Says count text r → record_at count text ≡ Some (r, [])
said count text r s =
    ap (record_at count) (s.text_is ∙ sym (append-nil (record_body r))) ∙ (record_field count).again r [] (subst (λ (n : ℕ). RecordSpelled n r) (sym s.count_is) (record_spelled r s.admitted))

-- nothing is read: the image says nothing
pub none_said : (count : ℕ) (text : List ℕ) → record_at count text ≡ None → (r : Record) → Says count text r → ⊥
none_said count text none r s = nothing_some (sym none ∙ said count text r s)

-- what is read is what the image says, and all of it
pub said_is : (count : ℕ) (text : List ℕ) (q : Record) (rest : List ℕ) → record_at count text ≡ Some (q, rest) → (r : Record) → Says count text r → (q ≡ r) × (rest ≡ [])
said_is count text q rest read r s =
    let both = some_is (q, rest) (r, []) (sym read ∙ said count text r s) in
    (ap (λ (p : Record × List ℕ). p.0) both, ap (λ (p : Record × List ℕ). p.1) both)

-- what is read is said, where nothing is left and the rules are kept
pub read_said : (count : ℕ) (text : List ℕ) (r : Record) (rest : List ℕ) → IsBytes text → count ≤ 1024 → record_at count text ≡ Some (r, rest) → rest ≡ [] → Keeps r → Says count text r
read_said count text r rest bytes few read none keeps =
    let t = (record_field count).takes text r rest bytes read in
    let whole : text ≡ record_body r = t.0.parts ∙ ap (λ (l : List ℕ). record_body r ++ l) none ∙ append-nil (record_body r) in
    record { admitted = keeps_true count r few t.1 (subst (λ (l : List ℕ). IsBytes l) whole bytes) keeps; count_is = sym t.1.many; text_is = whole }

-- ---- the block

-- the image of a record's block
held : (block : List ℕ) (r : Record) → IsRecord r → block ≡ block_of (record_image r) → HoldsImage 5 first_format block (length r.tables) 0 (record_body r)
held block r ok is = record { spelled = is; count_fits = omega (arith, ok.count); level_fits = omega arith; text_fits = omega (arith, record_most r ok) }

-- no image, no record
pub no_image : (block : List ℕ) → ((count level : ℕ) (text : List ℕ) → HoldsImage 5 first_format block count level text → ⊥) → (r : Record) → IsRecord r → block ≡ block_of (record_image r) → ⊥
no_image block none r ok is = none (length r.tables) 0 (record_body r) (held block r ok is)

-- the image that was found is the record's
found_is : (block : List ℕ) (count level : ℕ) (text : List ℕ) → HoldsImage 5 first_format block count level text → (r : Record) → IsRecord r → block ≡ block_of (record_image r) → (count ≡ length r.tables) × (level ≡ 0) × (text ≡ record_body r)
found_is block count level text h r ok is =
    let k = held block r ok is in
    same_framed 5 first_format level 0 count (length r.tables) text (record_body r) (block_size (length (framed 5 first_format count level text))) (block_size (length (record_image r))) (omega arith) (omega arith) h.level_fits k.level_fits h.count_fits k.count_fits h.text_fits k.text_fits (sym h.spelled ∙ is)

pub no_level : (block : List ℕ) (count level : ℕ) (text : List ℕ) → HoldsImage 5 first_format block count level text → (level ≡ 0 → ⊥) → (r : Record) → IsRecord r → block ≡ block_of (record_image r) → ⊥
no_level block count level text h other r ok is = other (found_is block count level text h r ok is).1

pub too_many : (block : List ℕ) (count level : ℕ) (text : List ℕ) → HoldsImage 5 first_format block count level text → 1024 < count → (r : Record) → IsRecord r → block ≡ block_of (record_image r) → ⊥
too_many block count level text h many r ok is = omega (arith, (found_is block count level text h r ok is).0, ok.count, many)

-- the image says no record
pub no_record : (block : List ℕ) (count level : ℕ) (text : List ℕ) → HoldsImage 5 first_format block count level text → ((r : Record) → Says count text r → ⊥) → (r : Record) → IsRecord r → block ≡ block_of (record_image r) → ⊥
no_record block count level text h none r ok is = let f = found_is block count level text h r ok is in none r (record { admitted = ok; count_is = f.0; text_is = f.2 })

-- an answer of which less is asked
pub if_none : {X E : Type 0} (P Q : Type 0) (r : Result (Option X) E) → (P → Q) → IfOk r (λ o. IfNone o P) → IfOk r (λ o. IfNone o Q)
if_none P Q (Ok None) more given = more given
if_none P Q (Ok (Some x)) more given = tt
if_none P Q (Err e) more given = tt

-- a block is that of one record
pub one_block : (block : List ℕ) (r q : Record) → IsRecord r → IsRecord q → block ≡ block_of (record_image r) → block ≡ block_of (record_image q) → r ≡ q
one_block block r q hr hq is also = record_exact (block_size (length (record_image r))) (block_size (length (record_image q))) r q hr hq (sym is ∙ also)
