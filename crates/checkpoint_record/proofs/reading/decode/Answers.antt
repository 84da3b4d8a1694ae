use Rattle.std.proofs.Common.{◌≡◌, arith}
use Rattle.le_codec.specs.Images.{block_of}
use Rattle.stored.specs.Records.{Record, IsRecord, record_image}
use Rattle.checkpoint_record.specs.Rules.{Says}
use Rattle.checkpoint_record.proofs.Blocks.{no_image, no_level, too_many, no_record, if_none}
use Rattle.checkpoint_record.proofs.reading.decode.Goals as goal

pub returns-in_default-clause-none : goal.returns-in_default-clause-none
returns-in_default-clause-none c = no_image c.args.block.now c.in_default.ensures.none

pub returns-then-level-ne0-clause-none : goal.returns-then-level-ne0-clause-none
returns-then-level-ne0-clause-none c =
    let i = c.in-Some.image in
    no_level c.args.block.now i.count i.level i.text.now c.in-Some.ensures.found c.if-level-ne0.true

pub returns-then-count-gt-TABLES_MAX-clause-none :
    goal.returns-then-count-gt-TABLES_MAX-clause-none
returns-then-count-gt-TABLES_MAX-clause-none c =
    let i = c.in-Some.image in
    too_many c.args.block.now i.count i.level i.text.now c.in-Some.ensures.found (omega (arith, c.if-count-gt-TABLES_MAX.true))

pub returns-clause-none : goal.returns-clause-none
returns-clause-none c =
    let i = c.in-Some.image in
    if_none ((r : Record) → Says i.count i.text.now r → ⊥) ((r : Record) → IsRecord r → c.args.block.now ≡ block_of (record_image r) → ⊥) c.record_in.result (no_record c.args.block.now i.count i.level i.text.now c.in-Some.ensures.found) c.record_in.ensures.none
