use Rattle.std.proofs.Common.{Vec, Global, Option, refl, inl, inr, ◌≡◌, sym, ◌∙◌, subst, Bool, IsTrue, List, ℕ, Result, Err}
use Rattle.std.specs.Prelude.{IfErr}
use Rattle.std.specs.Option.{option_map}
use Rattle.std.specs.Borrow.{Bor}
use Rattle.disk_model.proofs.Crash.{looked_only}
use Rattle.kv_model.specs.Content.{start}
use Rattle.wt_io.specs.StreamLemmas.{took_none}
use Rattle.wt_line.specs.declared.command.Command.{Command}
use Rattle.wt_line.specs.declared.command.Command.TheVariants.{Create, Write, Read, List as Listing, Verify, Script, Dump, Load}
use Rattle.wt_line.specs.Line.{meaning, pair_texts, write}
use Rattle.device_leaf.proofs.Opens.{err_map}
use Rattle.script_run.specs.Scripts.{Outside, outside}
use Rattle.wt_tool.specs.Points.{Point, point_of}
use Rattle.wt_tool.specs.Creates.{RunsCreate}
use Rattle.wt_tool.specs.Writes.{RunsWrite}
use Rattle.wt_tool.specs.Commands.{IsOnEngine, Runs}
use Rattle.wt_tool.specs.Top.{Errors, IsSoFor, Streams, Telling, Went, errors_of, streams_of}
use Rattle.wt_tool.proofs.Running.{refused_open, not_opened, may_open, opens_of, gave_none, telling, loaded_so, opening_so, scripted_so, spoilt_further, status_some, untold_at, stopped, left_by_calls, load_status, load_went, script_went}
use Rattle.wt_tool.proofs.top.run_opened.Goals as goal

if_err : {T E : Type 0} (P : E → Type 0) (r : Result T E) (e : E) → r ≡ Err e → IfErr r P → P e
if_err {T} {E} P r e is why = subst (λ (x : Result T E). IfErr x P) is why

-- ---- a refused opening

pub returns-in-Err-clause-run : goal.returns-in-Err-clause-run
returns-in-Err-clause-run g c h content each =
    let D = g.D.Disk in
    let looked = c.reach.ensures.looked in
    let o : Outside = outside g.S.Source g.K.Sink c.args.input.now c.args.input.now c.args.out.now c.args.out.now in
    let w : Streams = streams_of g.S.Source g.K.Sink g.E.Sink c.args.input.now c.args.input.now c.args.out.now c.args.out.now c.args.err.now c.report.new.err in
    let reads = each.0 _ (g.met.D.Disk.reads_an_image _ h) in
    let first = looked_only D _ _ _ looked (λ d left. each.0 d (g.met.D.Disk.only_now _ d left)) in
    stopped D c.args.disk.now c.reach.new.disk content each.1 o (meaning c.args.command.now) w (gave_none _) c.in-Err.refusal c.report.result
    (not_opened o (meaning c.args.command.now) (point_of D (start content) c.args.disk.now) _ c.requires (c.in-Err.refusal, point_of D (start content) c.reach.new.disk, opens_of D (start content) c.args.disk.now c.reach.new.disk looked, refused_open D c.args.disk.now c.reach.new.disk _ content c.in-Err.refusal h reads c.in-Err.ensures.err, refl))
    (λ d left. each.0 d (looked.images d left)) first.each (took_none _) c.report.ensures.told

pub returns-in-Err-clause-told : goal.returns-in-Err-clause-told
returns-in-Err-clause-told g c = telling _ _ (Err c.in-Err.refusal) c.report.result c.report.ensures.told (opening_so (meaning c.args.command.now) _ _ _ (g.D.Disk.seen c.reach.new.disk) c.in-Err.refusal c.requires c.in-Err.ensures.err)

pub returns-in-Err-clause-opened : goal.returns-in-Err-clause-opened
returns-in-Err-clause-opened g c h none = absurd (status_some c.in-Err.refusal c.report.result c.report.ensures.status none)

pub returns-in-Err-clause-home : goal.returns-in-Err-clause-home
returns-in-Err-clause-home g c = elim c.reach.ensures.untold [
  | inl told ↦ inl told
  | inr (same, why) ↦ inr (same, c.reach.ensures.looked.content, untold_at c.in-Err.refusal c.report.result c.report.ensures.status (if_err _ c.reach.result c.in-Err.refusal c.in-Err.is why))
]

-- ---- the commands

pub returns-in-Create-clause-run : goal.returns-in-Create-clause-run
returns-in-Create-clause-run g c h content each =
    let D = g.D.Disk in
    let looked = c.reach.ensures.looked in
    let o : Outside = outside g.S.Source g.K.Sink c.args.input.now c.args.input.now c.args.out.now c.args.out.now in
    let w : Streams = streams_of g.S.Source g.K.Sink g.E.Sink c.args.input.now c.args.input.now c.args.out.now c.args.out.now c.args.err.now c.told.new.err in
    let reads = each.0 _ (g.met.D.Disk.reads_an_image _ h) in
    let first = looked_only D _ _ _ looked (λ d left. each.0 d (g.met.D.Disk.only_now _ d left)) in
    let p : Point = point_of D (start content) c.args.disk.now in
    let config = option_map {T = Bor (List ℕ)} {U = List ℕ} (λ x. x.now) c.in-Create.config in
    left_by_calls D c.args.disk.now c.create-result.new.disk content each.1 o (meaning c.args.command.now) w (gave_none _) c.reach.new.disk (RunsCreate config c.in-Create.uri.now) c.create-result.result c.told.result
    (opens_of D (start content) c.args.disk.now c.reach.new.disk looked) (may_open D c.args.disk.now c.reach.new.disk c.in-Ok.store looked (c.in-Ok.ensures.ok h) content reads each.1) first
    (λ ran run. subst (λ (a : Command). Runs o (meaning a) p ran) (sym c.in-Create.is) run)
    (c.create-result.ensures.run (looked.same ∙ h) content ((λ d left. each.0 d (looked.images d left)), each.1))
    (took_none _) c.told.ensures.told

pub returns-in-Create-clause-told : goal.returns-in-Create-clause-told
returns-in-Create-clause-told g c =
    telling _ _ c.create-result.result c.told.result c.told.ensures.told (err_map c.create-result.result c.create-result.ensures.sound (λ r told. spoilt_further g.D.Disk c.args.disk.now c.reach.new.disk c.create-result.new.disk c.reach.ensures.looked (meaning c.args.command.now) r c.requires told))

pub returns-in-Write-clause-run : goal.returns-in-Write-clause-run
returns-in-Write-clause-run g c h content each =
    let D = g.D.Disk in
    let looked = c.reach.ensures.looked in
    let o : Outside = outside g.S.Source g.K.Sink c.args.input.now c.args.input.now c.args.out.now c.args.out.now in
    let w : Streams = streams_of g.S.Source g.K.Sink g.E.Sink c.args.input.now c.args.input.now c.args.out.now c.args.out.now c.args.err.now c.told-in-Write.new.err in
    let reads = each.0 _ (g.met.D.Disk.reads_an_image _ h) in
    let first = looked_only D _ _ _ looked (λ d left. each.0 d (g.met.D.Disk.only_now _ d left)) in
    let p : Point = point_of D (start content) c.args.disk.now in
    left_by_calls D c.args.disk.now c.write-result.new.disk content each.1 o (meaning c.args.command.now) w (gave_none _) c.reach.new.disk (RunsWrite c.in-Write.overwrite c.in-Write.uri.now (pair_texts c.deref.result.now)) c.write-result.result c.told-in-Write.result
    (opens_of D (start content) c.args.disk.now c.reach.new.disk looked) (may_open D c.args.disk.now c.reach.new.disk c.in-Ok.store looked (c.in-Ok.ensures.ok h) content reads each.1) first
    (λ ran run. subst (λ (a : Command). Runs o (meaning a) p ran) (sym c.in-Write.is)
    (subst (λ (l : List (Bor (List ℕ) × Bor (List ℕ))). Runs o (write c.in-Write.overwrite c.in-Write.uri.now (pair_texts l)) p ran) c.deref.ensures.value run))
    (c.write-result.ensures.run (looked.same ∙ h) content ((λ d left. each.0 d (looked.images d left)), each.1))
    (took_none _) c.told-in-Write.ensures.told

pub returns-in-Write-clause-told : goal.returns-in-Write-clause-told
returns-in-Write-clause-told g c =
    telling _ _ c.write-result.result c.told-in-Write.result c.told-in-Write.ensures.told
    (err_map c.write-result.result c.write-result.ensures.sound (λ r told. spoilt_further g.D.Disk c.args.disk.now c.reach.new.disk c.write-result.new.disk c.reach.ensures.looked (meaning c.args.command.now) r c.requires told))

pub returns-in-Create-clause-opened : goal.returns-in-Create-clause-opened
returns-in-Create-clause-opened g c h none = c.in-Ok.ensures.readable h

pub returns-in-Write-clause-opened : goal.returns-in-Write-clause-opened
returns-in-Write-clause-opened g c h none = c.in-Ok.ensures.readable h

pub returns-in-Script-clause-run : goal.returns-in-Script-clause-run
returns-in-Script-clause-run g c h content each =
    let D = g.D.Disk in
    let looked = c.reach.ensures.looked in
    let o : Outside = outside g.S.Source g.K.Sink c.args.input.now c.script.new.input c.args.out.now c.script.new.out in
    let w : Streams = streams_of g.S.Source g.K.Sink g.E.Sink c.args.input.now c.script.new.input c.args.out.now c.script.new.out c.args.err.now c.script.new.err in
    let reads = each.0 _ (g.met.D.Disk.reads_an_image _ h) in
    let first = looked_only D _ _ _ looked (λ d left. each.0 d (g.met.D.Disk.only_now _ d left)) in
    subst (λ (a : Command). Went D o (meaning a) content w c.args.disk.now c.script.new.disk c.script.result) (sym c.in-Script.is)
    (script_went D c.args.disk.now c.reach.new.disk c.script.new.disk content each.1 o w c.script.result
    (opens_of D (start content) c.args.disk.now c.reach.new.disk looked) (may_open D c.args.disk.now c.reach.new.disk c.in-Ok.store looked (c.in-Ok.ensures.ok h) content reads each.1) first
    (c.script.ensures.run (looked.same ∙ h) content ((λ d left. each.0 d (looked.images d left)), each.1)))

pub returns-in-Script-clause-told : goal.returns-in-Script-clause-told
returns-in-Script-clause-told g c =
    let D = g.D.Disk in
    let e : Errors = errors_of g.E.Sink c.args.err.now c.script.new.err in
    subst (λ (a : Command). Telling (IsSoFor (meaning a) (IsTrue (D.honest c.args.disk.now)) (D.seen c.args.disk.now) (D.seen c.script.new.disk)) e c.script.result) (sym c.in-Script.is)
    (scripted_so D c.args.disk.now c.reach.new.disk c.script.new.disk c.reach.ensures.looked e c.script.result c.script.ensures.told)

pub returns-in-Script-clause-silent : goal.returns-in-Script-clause-silent
returns-in-Script-clause-silent g c h = inr (c.in-Ok.ensures.readable h)

pub returns-in-Script-clause-opened : goal.returns-in-Script-clause-opened
returns-in-Script-clause-opened g c h none = c.in-Ok.ensures.readable h

pub returns-in-Load-clause-run : goal.returns-in-Load-clause-run
returns-in-Load-clause-run g c h content each =
    let D = g.D.Disk in
    let looked = c.reach.ensures.looked in
    let o : Outside = outside g.S.Source g.K.Sink c.args.input.now c.load.new.input c.args.out.now c.args.out.now in
    let w : Streams = streams_of g.S.Source g.K.Sink g.E.Sink c.args.input.now c.load.new.input c.args.out.now c.args.out.now c.args.err.now c.load.new.err in
    let reads = each.0 _ (g.met.D.Disk.reads_an_image _ h) in
    let first = looked_only D _ _ _ looked (λ d left. each.0 d (g.met.D.Disk.only_now _ d left)) in
    let name = option_map {T = Bor (List ℕ)} {U = List ℕ} (λ x. x.now) c.in-Load.name in
    subst (λ (a : Command). Went D o (meaning a) content w c.args.disk.now c.load.new.disk c.load.result) (sym c.in-Load.is)
    (load_went D c.args.disk.now c.reach.new.disk c.load.new.disk content each.1 o w c.load.result c.in-Load.no_overwrite name
    (opens_of D (start content) c.args.disk.now c.reach.new.disk looked) (may_open D c.args.disk.now c.reach.new.disk c.in-Ok.store looked (c.in-Ok.ensures.ok h) content reads each.1) first (took_none _)
    (c.load.ensures.run (looked.same ∙ h) content ((λ d left. each.0 d (looked.images d left)), each.1)))

pub returns-in-Load-clause-told : goal.returns-in-Load-clause-told
returns-in-Load-clause-told g c =
    loaded_so g.D.Disk c.args.disk.now c.reach.new.disk c.load.new.disk c.reach.ensures.looked (meaning c.args.command.now) (errors_of g.E.Sink c.args.err.now c.load.new.err) c.load.result c.requires c.load.ensures.told

pub returns-in-Load-clause-opened : goal.returns-in-Load-clause-opened
returns-in-Load-clause-opened g c h none = c.in-Ok.ensures.readable h

pub returns-in-Load-clause-statuses : goal.returns-in-Load-clause-statuses
returns-in-Load-clause-statuses g c = (load_status c.load.result c.load.ensures.statuses).0

pub returns-in-Load-clause-output_fault : goal.returns-in-Load-clause-output_fault
returns-in-Load-clause-output_fault g c is = absurd ((load_status c.load.result c.load.ensures.statuses).1 is)

-- ---- nothing is printed

pub returns-in-Create-clause-silent : goal.returns-in-Create-clause-silent
returns-in-Create-clause-silent g c h = inl (took_none _)

pub returns-in-Write-clause-silent : goal.returns-in-Write-clause-silent
returns-in-Write-clause-silent g c h = inl (took_none _)

pub returns-in-Load-clause-silent : goal.returns-in-Load-clause-silent
returns-in-Load-clause-silent g c h = inl (took_none _)

-- the others have no engine
nowhere : (command : Command) → IsOnEngine (meaning command) → ((config : Option (Bor (List ℕ))) (uri : Bor (List ℕ)) → command ≡ Create config uri → ⊥) → ((overwrite : Bool) (uri : Bor (List ℕ)) (pairs : Vec (Bor (List ℕ) × Bor (List ℕ)) Global) → command ≡ Write overwrite uri pairs → ⊥)
    → (command ≡ Script → ⊥) → ((no_overwrite : Bool) (name : Option (Bor (List ℕ))) → command ≡ Load no_overwrite name → ⊥) → ⊥
nowhere (Create config uri) on no_create no_write no_script no_load = no_create config uri refl
nowhere (Write overwrite uri pairs) on no_create no_write no_script no_load = no_write overwrite uri pairs refl
nowhere (Read uri keys) on no_create no_write no_script no_load = on
nowhere Listing on no_create no_write no_script no_load = on
nowhere (Verify uri) on no_create no_write no_script no_load = on
nowhere Script on no_create no_write no_script no_load = no_script refl
nowhere (Dump hex reverse uri) on no_create no_write no_script no_load = on
nowhere (Load no_overwrite name) on no_create no_write no_script no_load = no_load no_overwrite name refl

pub unreachable-requires : goal.unreachable-requires
unreachable-requires g c = nowhere c.args.command.now c.requires c.in_default.not-Create c.in_default.not-Write c.in_default.not-Script c.in_default.not-Load
