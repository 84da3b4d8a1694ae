use Rattle.std.proofs.Common.{◌≡◌, inl, inr, sym, ◌∙◌, ap, subst, List, ℕ, length}
use Rattle.disk_model.proofs.Crash.{looked_then}
use Rattle.block_mgr.specs.declared.found.Found.{Found}
use Rattle.block_mgr.specs.Open.{AreStored}
use Rattle.device_layout.specs.declared.addr.Addr.{Addr}
use Rattle.device_leaf.proofs.Opens.{rose_sooner}
use Rattle.stored.specs.Records.{Record, Root, TableRoot}
use Rattle.tree_open.specs.declared.place.Upper.{Upper}
use Rattle.hist_open.specs.Trees.{IsRead}
use Rattle.recover_open.specs.Bare.{HaveUppers}
use Rattle.recover_open.specs.Recoveries.{Counts}
use Rattle.recover_open.specs.Surveys.{RefusesBlocks}
use Rattle.recover_open.specs.Wholes.{whole_found}
use Rattle.recover_open.proofs.Sole.{same_names}
use Rattle.recover_open.proofs.WholeSteps.{record_damage, table_damage, history_damage, meeting_damage, whole_is, whole_in_form, of_history, of_whole_books}
use Rattle.recover_open.proofs.wholes.whole_at.Goals as goal

pub returns-in-Err-clause-err : goal.returns-in-Err-clause-err
returns-in-Err-clause-err g c = record_damage _ _ (g.D.Disk.seen c.args.disk.now) c.in-Err.refusal c.in-Err.ensures.err

pub returns-in-Err-clause-sole : goal.returns-in-Err-clause-sole
returns-in-Err-clause-sole g c h (r, uppers, history, names, have, read, stored) = c.in-Err.ensures.sole h (r, names)

pub returns-in-Err-read_uppers-clause-err : goal.returns-in-Err-read_uppers-clause-err
returns-in-Err-read_uppers-clause-err g c =
    let D = g.D.Disk in
    let looked = c.any_record_at.ensures.looked in
    table_damage _ _ _ _ (D.seen c.args.disk.now) (D.seen c.any_record_at.new.disk) c.args.slot c.in-Ok.found c.tables_of-tables.result.now c.in-Err-read_uppers.refusal c.in-Err-read_uppers.ensures.err
    (rose_sooner _ _ _ looked.count) (λ h. looked.same ∙ h.0) looked.content (λ h. c.in-Ok.ensures.ok h.0 h.1) c.tables_of-tables.ensures

pub returns-in-Err-read_uppers-clause-sole : goal.returns-in-Err-read_uppers-clause-sole
returns-in-Err-read_uppers-clause-sole g c h (r, uppers, history, names, have, read, stored) =
    let looked = c.any_record_at.ensures.looked in
    let bytes = g.D.Disk.seen c.args.disk.now in
    let same : r ≡ c.in-Ok.found = same_names bytes c.args.slot r c.in-Ok.found names (c.in-Ok.ensures.ok h names.chosen) in
    let here : HaveUppers bytes c.tables_of-tables.result.now uppers = subst (λ (l : List TableRoot). HaveUppers bytes l uppers) (ap (λ (x : Record). x.tables) same ∙ sym c.tables_of-tables.ensures) have in
    c.in-Err-read_uppers.ensures.sole (looked.same ∙ h) (uppers, subst (λ (l : List ℕ). HaveUppers l c.tables_of-tables.result.now uppers) (sym looked.content) here)

pub returns-in-Err-read_uppers-clause-looked : goal.returns-in-Err-read_uppers-clause-looked
returns-in-Err-read_uppers-clause-looked g c = looked_then g.D.Disk _ _ _ c.any_record_at.ensures.looked c.read_uppers.ensures.looked

pub returns-in-Err-read_history-clause-err : goal.returns-in-Err-read_history-clause-err
returns-in-Err-read_history-clause-err g c =
    let D = g.D.Disk in
    let looked = looked_then D _ _ _ c.any_record_at.ensures.looked c.read_uppers.ensures.looked in
    history_damage _ _ _ _ (D.seen c.args.disk.now) (D.seen c.read_uppers.new.disk) c.args.slot c.in-Ok.found c.history_of.result c.in-Err-read_history.refusal c.in-Err-read_history.ensures.err
    (rose_sooner _ _ _ looked.count) (λ h. looked.same ∙ h.0) looked.content (λ h. c.in-Ok.ensures.ok h.0 h.1) c.history_of.ensures

pub returns-in-Err-read_history-clause-sole : goal.returns-in-Err-read_history-clause-sole
returns-in-Err-read_history-clause-sole g c h (r, uppers, history, names, have, read, stored) =
    let D = g.D.Disk in
    let looked = looked_then D _ _ _ c.any_record_at.ensures.looked c.read_uppers.ensures.looked in
    let bytes = D.seen c.args.disk.now in
    let same : r ≡ c.in-Ok.found = same_names bytes c.args.slot r c.in-Ok.found names (c.in-Ok.ensures.ok h names.chosen) in
    of_history _ _ bytes (D.seen c.read_uppers.new.disk) c.history_of.result history c.in-Err-read_history.refusal
    (subst (λ (x : Root). IsRead bytes x history) (ap (λ (x : Record). x.history) same ∙ sym c.history_of.ensures) read) looked.content (looked.same ∙ h) c.in-Err-read_history.ensures.err

pub returns-in-Err-read_history-clause-looked : goal.returns-in-Err-read_history-clause-looked
returns-in-Err-read_history-clause-looked g c =
    let D = g.D.Disk in
    looked_then D _ _ _ (looked_then D _ _ _ c.any_record_at.ensures.looked c.read_uppers.ensures.looked) c.read_history.ensures.looked

pub returns-in-Err-length-clause-sole : goal.returns-in-Err-length-clause-sole
returns-in-Err-length-clause-sole g c h has = inl c.in-Err-length.ensures.err.0

pub returns-in-Err-length-clause-looked : goal.returns-in-Err-length-clause-looked
returns-in-Err-length-clause-looked g c =
    let D = g.D.Disk in
    looked_then D _ _ _ (looked_then D _ _ _ (looked_then D _ _ _ c.any_record_at.ensures.looked c.read_uppers.ensures.looked) c.read_history.ensures.looked) c.length.ensures.looked

pub returns-in-Err-whole_books-clause-looked : goal.returns-in-Err-whole_books-clause-looked
returns-in-Err-whole_books-clause-looked g c =
    let D = g.D.Disk in
    looked_then D _ _ _ (looked_then D _ _ _ (looked_then D _ _ _ c.any_record_at.ensures.looked c.read_uppers.ensures.looked) c.read_history.ensures.looked) c.length.ensures.looked

pub returns-in-Err-whole_books-clause-err : goal.returns-in-Err-whole_books-clause-err
returns-in-Err-whole_books-clause-err g c =
    let D = g.D.Disk in
    let first = c.any_record_at.ensures.looked in
    let second = looked_then D _ _ _ first c.read_uppers.ensures.looked in
    let third = looked_then D _ _ _ second c.read_history.ensures.looked in
    let bytes : List ℕ = D.seen c.args.disk.now in
    let us : List Upper = c.in-Ok-read_uppers.uppers.items in
    meeting_damage _ _ bytes c.args.slot c.in-Ok.found us c.in-Ok-read_history.history c.in-Ok-length.len c.in-Err-whole_books.refusal
    (subst (λ (l : List Upper). RefusesBlocks (whole_found c.args.slot l c.in-Ok-read_history.history.addrs.items) c.in-Ok-length.len c.in-Err-whole_books.refusal) c.deref.ensures.value
    (subst (λ (a : List Addr). RefusesBlocks (whole_found c.args.slot c.deref.result.now a) c.in-Ok-length.len c.in-Err-whole_books.refusal) c.deref-2.ensures.value c.in-Err-whole_books.ensures.err))
    (λ h. c.in-Ok-length.ensures.len (third.same ∙ h.0) ∙ ap length third.content)
    (λ h. c.in-Ok.ensures.ok h.0 h.1)
    (λ h. subst (λ (l : List TableRoot). HaveUppers bytes l us) c.tables_of-tables.ensures (subst (λ (l : List ℕ). HaveUppers l c.tables_of-tables.result.now us) first.content (c.in-Ok-read_uppers.ensures.ok (first.same ∙ h.0))))
    (λ h. subst (λ (x : Root). IsRead bytes x c.in-Ok-read_history.history) c.history_of.ensures (subst (λ (l : List ℕ). IsRead l c.history_of.result c.in-Ok-read_history.history) second.content (c.in-Ok-read_history.ensures.ok (second.same ∙ h.0))))

pub returns-in-Err-whole_books-clause-sole : goal.returns-in-Err-whole_books-clause-sole
returns-in-Err-whole_books-clause-sole g c h (r, uppers, history, names, have, read, stored) =
    let D = g.D.Disk in
    let first = c.any_record_at.ensures.looked in
    let second = looked_then D _ _ _ first c.read_uppers.ensures.looked in
    let third = looked_then D _ _ _ second c.read_history.ensures.looked in
    let bytes : List ℕ = D.seen c.args.disk.now in
    let us : List Upper = c.in-Ok-read_uppers.uppers.items in
    let same : r ≡ c.in-Ok.found = same_names bytes c.args.slot r c.in-Ok.found names (c.in-Ok.ensures.ok h names.chosen) in
    of_whole_books bytes c.args.slot c.in-Ok.found uppers us history c.in-Ok-read_history.history c.in-Ok-length.len c.in-Err-whole_books.refusal
    (subst (λ (x : Record). HaveUppers bytes x.tables uppers) same have)
    (subst (λ (l : List TableRoot). HaveUppers bytes l us) c.tables_of-tables.ensures (subst (λ (l : List ℕ). HaveUppers l c.tables_of-tables.result.now us) first.content (c.in-Ok-read_uppers.ensures.ok (first.same ∙ h))))
    (subst (λ (x : Record). IsRead bytes x.history history) same read)
    (subst (λ (x : Root). IsRead bytes x c.in-Ok-read_history.history) c.history_of.ensures (subst (λ (l : List ℕ). IsRead l c.history_of.result c.in-Ok-read_history.history) second.content (c.in-Ok-read_history.ensures.ok (second.same ∙ h))))
    stored
    (c.in-Ok-length.ensures.len (third.same ∙ h) ∙ ap length third.content)
    (subst (λ (l : List Upper). RefusesBlocks (whole_found c.args.slot l c.in-Ok-read_history.history.addrs.items) c.in-Ok-length.len c.in-Err-whole_books.refusal) c.deref.ensures.value
    (subst (λ (a : List Addr). RefusesBlocks (whole_found c.args.slot c.deref.result.now a) c.in-Ok-length.len c.in-Err-whole_books.refusal) c.deref-2.ensures.value c.in-Err-whole_books.ensures.err))

pub returns-clause-ok : goal.returns-clause-ok
returns-clause-ok g c h chosen =
    let D = g.D.Disk in
    let first = c.any_record_at.ensures.looked in
    let second = looked_then D _ _ _ first c.read_uppers.ensures.looked in
    let third = looked_then D _ _ _ second c.read_history.ensures.looked in
    let bytes : List ℕ = D.seen c.args.disk.now in
    let us : List Upper = c.in-Ok-read_uppers.uppers.items in
    let history = c.in-Ok-read_history.history in
    let long : c.in-Ok-length.len ≡ length bytes = c.in-Ok-length.ensures.len (third.same ∙ h) ∙ ap length third.content in
    let all : whole_found c.args.slot c.deref.result.now c.deref-2.result.now ≡ whole_found c.args.slot us history.addrs.items =
    ap (λ (l : List Upper). whole_found c.args.slot l c.deref-2.result.now) c.deref.ensures.value ∙ ap (λ (a : List Addr). whole_found c.args.slot us a) c.deref-2.ensures.value in
    whole_is bytes c.args.slot c.in-Ok.found us history c.in-Ok-whole_books.blocks c.joined.result (c.in-Ok.ensures.ok h chosen)
    (subst (λ (l : List TableRoot). HaveUppers bytes l us) c.tables_of-tables.ensures (subst (λ (l : List ℕ). HaveUppers l c.tables_of-tables.result.now us) first.content (c.in-Ok-read_uppers.ensures.ok (first.same ∙ h))))
    (subst (λ (x : Root). IsRead bytes x history) c.history_of.ensures (subst (λ (l : List ℕ). IsRead l c.history_of.result history) second.content (c.in-Ok-read_history.ensures.ok (second.same ∙ h))))
    (subst (λ (n : ℕ). AreStored (whole_found c.args.slot us history.addrs.items) n) long (subst (λ (l : List Found). AreStored l c.in-Ok-length.len) all c.in-Ok-whole_books.ensures.stored))
    c.in-Ok-whole_books.ensures.fresh
    (subst (λ (l : List Found). Counts l c.in-Ok-whole_books.blocks) all (record { has = c.in-Ok-whole_books.ensures.books; idle = c.in-Ok-whole_books.ensures.idle })) c.joined.ensures

pub returns-clause-looked : goal.returns-clause-looked
returns-clause-looked g c =
    let D = g.D.Disk in
    looked_then D _ _ _ (looked_then D _ _ _ (looked_then D _ _ _ c.any_record_at.ensures.looked c.read_uppers.ensures.looked) c.read_history.ensures.looked) c.length.ensures.looked

pub returns-clause-form : goal.returns-clause-form
returns-clause-form g c =
    whole_in_form c.args.slot c.in-Ok.found c.in-Ok-read_uppers.uppers.items c.in-Ok-read_history.history c.in-Ok-whole_books.blocks c.joined.result c.in-Ok.ensures.own c.in-Ok-read_uppers.ensures.climb
    (c.in-Ok-read_uppers.ensures.count ∙ ap length c.tables_of-tables.ensures) c.joined.ensures
