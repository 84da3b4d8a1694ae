use Rattle.std.proofs.Common.{inl, inr, sym, ◌≡◌, ◌∙◌, ap, subst, List, ℕ, length}
use Rattle.disk_model.proofs.Crash.{looked_then}
use Rattle.block_mgr.specs.Open.{AreStored}
use Rattle.device_leaf.proofs.Opens.{rose_sooner}
use Rattle.stored.specs.Records.{TableRoot}
use Rattle.tree_open.specs.declared.place.Upper.{Upper}
use Rattle.recover_open.specs.Bare.{HaveUppers}
use Rattle.recover_open.specs.Damage.{IsAmong, uppers_found}
use Rattle.recover_open.specs.Recoveries.{Counts}
use Rattle.recover_open.specs.Surveys.{RefusesBlocks}
use Rattle.recover_open.proofs.Steps.{trees_refused, blocks_refused, surveyed_is, above_in_form}
use Rattle.stored.specs.Records.{Record}
use Rattle.recover_open.proofs.Sole.{of_books, same_names}
use Rattle.recover_open.proofs.surveying.survey_at.Goals as goal

pub returns-in-Err-read_uppers-clause-err : goal.returns-in-Err-read_uppers-clause-err
returns-in-Err-read_uppers-clause-err g c =
    let D = g.D.Disk in
    let looked = c.record_at.ensures.looked in
    trees_refused _ _ _ _ (D.seen c.args.disk.now) (D.seen c.record_at.new.disk) c.tables_of-tables.result.now _ c.in-Err-read_uppers.ensures.err
    (rose_sooner _ _ _ looked.count) (λ h. looked.same ∙ h.0) looked.content
    (λ h t among at want found spoils. inr (inr (inl (record {
      slot = c.args.slot;
      names = c.in-Ok.found;
      there = c.in-Ok.ensures.ok h.0 h.1;
      bare = c.in-Ok.ensures.sound.bare;
      table = t;
      among = subst (λ (l : List TableRoot). IsAmong l t) c.tables_of-tables.ensures among;
      tree = spoils;
    }))))

pub returns-in-Err-read_uppers-clause-looked : goal.returns-in-Err-read_uppers-clause-looked
returns-in-Err-read_uppers-clause-looked g c = looked_then g.D.Disk _ _ _ c.record_at.ensures.looked c.read_uppers.ensures.looked

pub returns-in-Err-length-clause-looked : goal.returns-in-Err-length-clause-looked
returns-in-Err-length-clause-looked g c =
    let D = g.D.Disk in
    looked_then D _ _ _ (looked_then D _ _ _ c.record_at.ensures.looked c.read_uppers.ensures.looked) c.length.ensures.looked

pub returns-in-Err-books-clause-err : goal.returns-in-Err-books-clause-err
returns-in-Err-books-clause-err g c =
    let D = g.D.Disk in
    let us : List Upper = c.in-Ok-read_uppers.uppers.items in
    blocks_refused _ _ (D.seen c.args.disk.now) c.args.slot c.in-Ok.found us c.in-Ok-length.len _
    (subst (λ (l : List Upper). RefusesBlocks (uppers_found c.args.slot l) c.in-Ok-length.len c.in-Err-books.refusal) c.deref.ensures.value c.in-Err-books.ensures.err)
    (λ h. c.in-Ok-length.ensures.len (c.read_uppers.ensures.looked.same ∙ c.record_at.ensures.looked.same ∙ h.0) ∙ ap length (c.read_uppers.ensures.looked.content ∙ c.record_at.ensures.looked.content))
    (λ h. c.in-Ok.ensures.ok h.0 h.1) c.in-Ok.ensures.sound.bare
    (λ h. subst (λ (l : List TableRoot). HaveUppers (D.seen c.args.disk.now) l us) c.tables_of-tables.ensures
    (subst (λ (l : List ℕ). HaveUppers l c.tables_of-tables.result.now us) c.record_at.ensures.looked.content (c.in-Ok-read_uppers.ensures.ok (c.record_at.ensures.looked.same ∙ h.0))))

pub returns-in-Err-books-clause-looked : goal.returns-in-Err-books-clause-looked
returns-in-Err-books-clause-looked g c =
    let D = g.D.Disk in
    looked_then D _ _ _ (looked_then D _ _ _ c.record_at.ensures.looked c.read_uppers.ensures.looked) c.length.ensures.looked

pub returns-clause-ok : goal.returns-clause-ok
returns-clause-ok g c h chosen =
    let D = g.D.Disk in
    let bytes : List ℕ = D.seen c.args.disk.now in
    let us : List Upper = c.in-Ok-read_uppers.uppers.items in
    let long : c.in-Ok-length.len ≡ length bytes = c.in-Ok-length.ensures.len (c.read_uppers.ensures.looked.same ∙ c.record_at.ensures.looked.same ∙ h) ∙ ap length (c.read_uppers.ensures.looked.content ∙ c.record_at.ensures.looked.content) in
    let have = subst (λ (l : List ℕ). HaveUppers l c.tables_of-tables.result.now us) c.record_at.ensures.looked.content (c.in-Ok-read_uppers.ensures.ok (c.record_at.ensures.looked.same ∙ h)) in
    let stored = subst (λ (n : ℕ). AreStored (uppers_found c.args.slot c.deref.result.now) n) long c.in-Ok-books.ensures.stored in
    surveyed_is bytes c.args.slot c.in-Ok.found us c.in-Ok-books.blocks c.put_together.result (c.in-Ok.ensures.ok h chosen) c.in-Ok.ensures.sound
    (subst (λ (l : List TableRoot). HaveUppers bytes l us) c.tables_of-tables.ensures have) (subst (λ (l : List Upper). AreStored (uppers_found c.args.slot l) (length bytes)) c.deref.ensures.value stored) c.in-Ok-books.ensures.fresh
    (subst (λ (l : List Upper). Counts (uppers_found c.args.slot l) c.in-Ok-books.blocks) c.deref.ensures.value (record { has = c.in-Ok-books.ensures.books; idle = c.in-Ok-books.ensures.idle })) c.put_together.ensures

pub returns-clause-looked : goal.returns-clause-looked
returns-clause-looked g c =
    let D = g.D.Disk in
    looked_then D _ _ _ (looked_then D _ _ _ c.record_at.ensures.looked c.read_uppers.ensures.looked) c.length.ensures.looked

pub returns-clause-form : goal.returns-clause-form
returns-clause-form g c =
    above_in_form c.args.slot c.in-Ok.found c.in-Ok-read_uppers.uppers.items c.in-Ok-books.blocks c.put_together.result c.in-Ok.ensures.sound c.in-Ok-read_uppers.ensures.climb
    (c.in-Ok-read_uppers.ensures.count ∙ ap length c.tables_of-tables.ensures) c.put_together.ensures

pub returns-in-Err-clause-sole : goal.returns-in-Err-clause-sole
returns-in-Err-clause-sole g c h (r, uppers, names, bare, have, stored) = c.in-Err.ensures.sole h (r, names, bare)

pub returns-in-Err-read_uppers-clause-sole : goal.returns-in-Err-read_uppers-clause-sole
returns-in-Err-read_uppers-clause-sole g c h (r, uppers, names, bare, have, stored) =
    let looked = c.record_at.ensures.looked in
    let bytes = g.D.Disk.seen c.args.disk.now in
    let same : r ≡ c.in-Ok.found = same_names bytes c.args.slot r c.in-Ok.found names (c.in-Ok.ensures.ok h names.chosen) in
    let here : HaveUppers bytes c.tables_of-tables.result.now uppers = subst (λ (l : List TableRoot). HaveUppers bytes l uppers) (ap (λ (x : Record). x.tables) same ∙ sym c.tables_of-tables.ensures) have in
    c.in-Err-read_uppers.ensures.sole (looked.same ∙ h) (uppers, subst (λ (l : List ℕ). HaveUppers l c.tables_of-tables.result.now uppers) (sym looked.content) here)

pub returns-in-Err-length-clause-sole : goal.returns-in-Err-length-clause-sole
returns-in-Err-length-clause-sole g c h has = inl c.in-Err-length.ensures.err.0

pub returns-in-Err-books-clause-sole : goal.returns-in-Err-books-clause-sole
returns-in-Err-books-clause-sole g c h (r, uppers, names, bare, have, stored) =
    let D = g.D.Disk in
    let bytes = D.seen c.args.disk.now in
    let us : List Upper = c.in-Ok-read_uppers.uppers.items in
    let same : r ≡ c.in-Ok.found = same_names bytes c.args.slot r c.in-Ok.found names (c.in-Ok.ensures.ok h names.chosen) in
    let own : HaveUppers bytes c.in-Ok.found.tables us = subst (λ (l : List TableRoot). HaveUppers bytes l us) c.tables_of-tables.ensures
    (subst (λ (l : List ℕ). HaveUppers l c.tables_of-tables.result.now us) c.record_at.ensures.looked.content (c.in-Ok-read_uppers.ensures.ok (c.record_at.ensures.looked.same ∙ h))) in
    of_books bytes c.args.slot c.in-Ok.found.tables uppers us c.in-Ok-length.len c.in-Err-books.refusal (subst (λ (x : Record). HaveUppers bytes x.tables uppers) same have) own stored
    (c.in-Ok-length.ensures.len (c.read_uppers.ensures.looked.same ∙ c.record_at.ensures.looked.same ∙ h) ∙ ap length (c.read_uppers.ensures.looked.content ∙ c.record_at.ensures.looked.content))
    (subst (λ (l : List Upper). RefusesBlocks (uppers_found c.args.slot l) c.in-Ok-length.len c.in-Err-books.refusal) c.deref.ensures.value c.in-Err-books.ensures.err)
