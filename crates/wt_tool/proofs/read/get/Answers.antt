use Rattle.std.proofs.Common.{◌≡◌, ◌∙◌, None, Some, Option, IsTrue, inl, ap, refl, sym, arith}
use Rattle.item.specs.declared.formats.Formats.{Formats}
use Rattle.item_forms.specs.Forms.{stored_as}
use Rattle.failure.specs.Counts.{Rose}
use Rattle.device_read.specs.Leaves.{HasNoLeafOf}
use Rattle.device_read.specs.Readers.{tables_in}
use Rattle.device_read.proofs.Spoilt.{reader_whole}
use Rattle.wt_tool.specs.declared.tables.TableAt.{TableAt}
use Rattle.wt_tool.proofs.Dumping.{leaf_missing_so}
use Rattle.wt_tool.proofs.Finding.{gives_long, gives_no_table, gives_none, gives_refused, gives_value}
use Rattle.wt_tool.proofs.read.get.Goals as goal

none_of : (o : Option TableAt) → ((t : TableAt) → o ≡ Some t → ⊥) → o ≡ None
none_of None none = refl
none_of (Some t) none = absurd (none t refl)

pub returns-then-key-gt-KEY_MAX-clause-gives : goal.returns-then-key-gt-KEY_MAX-clause-gives
returns-then-key-gt-KEY_MAX-clause-gives g c h whole content reads spoilt =
    let D = g.D.Disk in
    let bytes = D.seen c.args.disk.now in
    let known = tables_in c.args.reader.now in
    let has = c.readers_have_tables.ensures whole content c.args.reader.now (reader_whole whole bytes c.args.reader.now spoilt (c.requires.on h)) reads in
    let stored = c.as_bytes-key.ensures ∙ c.in-Ok.ensures ∙ ap (λ (f : Formats). stored_as f.key c.args.key.now) c.formats_of.ensures in
    inl (gives_long content known c.args.name.now c.args.key.now c.as_bytes-key.result.now c.args.table has c.requires.table c.requires.name stored (D.faults c.args.disk.now) (D.faults c.args.disk.now) c.if-key-gt-KEY_MAX.true)

pub returns-in_default-table-clause-gives : goal.returns-in_default-table-clause-gives
returns-in_default-table-clause-gives g c h whole content reads spoilt =
    let D = g.D.Disk in
    let bytes = D.seen c.args.disk.now in
    let known = tables_in c.args.reader.now in
    let has = c.readers_have_tables.ensures whole content c.args.reader.now (reader_whole whole bytes c.args.reader.now spoilt (c.requires.on h)) reads in
    let stored = c.as_bytes-key.ensures ∙ c.in-Ok.ensures ∙ ap (λ (f : Formats). stored_as f.key c.args.key.now) c.formats_of.ensures in
    inl (gives_no_table content known c.args.name.now c.args.key.now c.as_bytes-key.result.now c.args.table has c.requires.table c.requires.name stored (D.faults c.args.disk.now) (D.faults c.args.disk.now) (omega (arith, c.if-key-gt-KEY_MAX.false)) (none_of c.args.table c.in_default-table.not-Some))

pub returns-in-Ok-Some-clause-gives : goal.returns-in-Ok-Some-clause-gives
returns-in-Ok-Some-clause-gives g c h whole content reads spoilt =
    let D = g.D.Disk in
    let bytes = D.seen c.args.disk.now in
    let known = tables_in c.args.reader.now in
    let has = c.readers_have_tables.ensures whole content c.args.reader.now (reader_whole whole bytes c.args.reader.now spoilt (c.requires.on h)) reads in
    let stored = c.as_bytes-key.ensures ∙ c.in-Ok.ensures ∙ ap (λ (f : Formats). stored_as f.key c.args.key.now) c.formats_of.ensures in
    inl (gives_value content known c.args.name.now c.args.key.now c.as_bytes-key.result.now c.args.table has c.requires.table c.requires.name stored (D.faults c.args.disk.now) (D.faults c.get.new.disk) (omega (arith, c.if-key-gt-KEY_MAX.false)) c.in-Some.table c.in-Some.is c.in-Ok-Some.value
    (λ u there. sym c.in-Ok-Some.field-0-is ∙ c.readers_have_values.ensures whole bytes content c.args.reader.now c.in-Some.table.place u c.as_bytes-key.result.now _ spoilt (c.requires.on h) reads there (c.in-Ok-Some.ensures.there h)))

pub returns-in-Ok-None-clause-gives : goal.returns-in-Ok-None-clause-gives
returns-in-Ok-None-clause-gives g c h whole content reads spoilt =
    let D = g.D.Disk in
    let bytes = D.seen c.args.disk.now in
    let known = tables_in c.args.reader.now in
    let has = c.readers_have_tables.ensures whole content c.args.reader.now (reader_whole whole bytes c.args.reader.now spoilt (c.requires.on h)) reads in
    let stored = c.as_bytes-key.ensures ∙ c.in-Ok.ensures ∙ ap (λ (f : Formats). stored_as f.key c.args.key.now) c.formats_of.ensures in
    inl (gives_none content known c.args.name.now c.args.key.now c.as_bytes-key.result.now c.args.table has c.requires.table c.requires.name stored (D.faults c.args.disk.now) (D.faults c.get.new.disk) (omega (arith, c.if-key-gt-KEY_MAX.false)) c.in-Some.table c.in-Some.is
    (λ u there. sym c.in-Ok-None.field-0-is ∙ c.readers_have_values.ensures whole bytes content c.args.reader.now c.in-Some.table.place u c.as_bytes-key.result.now _ spoilt (c.requires.on h) reads there (c.in-Ok-None.ensures.there h)))

pub returns-clause-gives : goal.returns-clause-gives
returns-clause-gives g c h whole content reads spoilt =
    let D = g.D.Disk in
    let bytes = D.seen c.args.disk.now in
    let known = tables_in c.args.reader.now in
    let has = c.readers_have_tables.ensures whole content c.args.reader.now (reader_whole whole bytes c.args.reader.now spoilt (c.requires.on h)) reads in
    let stored = c.as_bytes-key.ensures ∙ c.in-Ok.ensures ∙ ap (λ (f : Formats). stored_as f.key c.args.key.now) c.formats_of.ensures in
    gives_refused content known c.args.name.now c.args.key.now c.as_bytes-key.result.now c.args.table has c.requires.table c.requires.name stored (D.faults c.args.disk.now) (D.faults c.get.new.disk) (omega (arith, c.if-key-gt-KEY_MAX.false)) c.in-Some.table c.in-Some.is
    bytes c.args.reader.now (IsTrue (D.honest c.args.disk.now)) c.in-Err.refusal refl (c.requires.on h) h c.in-Err.ensures.err

pub returns-clause-sound : goal.returns-clause-sound
returns-clause-sound g c =
    let D = g.D.Disk in
    let bytes = D.seen c.args.disk.now in
    let h = c.args.reader.now in
    (leaf_missing_so (Rose (D.faults c.args.disk.now) (D.faults c.get.new.disk)) (IsTrue (D.honest c.args.disk.now)) bytes (HasNoLeafOf bytes h c.in-Some.table.place c.as_bytes-key.result.now) c.in-Err.refusal
    (λ honest at want found missing. c.missing_leaves_are_at_fault.ensures bytes h c.in-Some.table.place missing.0 at want found (c.requires.on honest) missing.2) c.in-Err.ensures.err).0
