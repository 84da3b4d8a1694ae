use Rattle.std.specs.Option.{option_map}
use Rattle.std.proofs.Common.{◌≡◌, ◌∙◌, Some, None, Ok, Err, List, ℕ, Bor, subst, Option}
use Rattle.device_leaf.proofs.Opens.{err_map}
use Rattle.item.specs.declared.Formats.{Formats}
use Rattle.wt_code.specs.declared.refusals.Refusal.TheVariants.{Invalid as Refusal_Invalid}
use Rattle.wt_code.specs.declared.refusals.Invalid.TheVariants.{BadName}
use Rattle.kv_model.specs.Content.{start}
use Rattle.wt_tool.specs.Words.{AsksFor, name_in}
use Rattle.wt_tool.specs.Points.{Point, Ran, point_of, Closes}
use Rattle.wt_tool.specs.Openings.{Configured}
use Rattle.wt_tool.specs.Creates.{MakesTable, RunsCreate}
use Rattle.wt_tool.proofs.Leading.{made_led}
use Rattle.wt_tool.proofs.Leaving.{first_of, first_holds, left_as, left_behind, left_refused, left_unwritten, untouched}
use Rattle.wt_tool.proofs.Naming.{named_goes, named_none, configured_goes, configured_refused, unconfigured_no_fault, unconfigured_sound}
use Rattle.wt_tool.proofs.Went.{damage_none, refused_fault, refused_spoilt}
use Rattle.wt_tool.proofs.create.create.Goals as goal

abbrev words : Option (Bor (List ℕ)) → Option (List ℕ)
words config = option_map {T = Bor (List ℕ)} {U = List ℕ} (λ x. x.now) config

abbrev Made : Option (List ℕ) → List ℕ → Point → Ran → Type 0
Made config name p ran = Configured config (λ formats. MakesTable name formats Closes) p ran

-- the run of the calls is that of the command
whole : (config : Option (List ℕ)) (uri name : List ℕ) (formats : Formats) → name_in uri ≡ Some name → AsksFor config formats → (p : Point) (ran : Ran) → MakesTable name formats Closes p ran → RunsCreate config uri p ran
whole config uri name formats named asked p ran run = named_goes uri (Made config) name named p ran (configured_goes config (λ f. MakesTable name f Closes) formats asked p ran run)

pub close-requires : goal.close-requires
close-requires g c = record { ready = (c.in-Ok-make.ensures.went c.args.disk.now).ready c.requires.ready }

pub returns-in_default-clause-run : goal.returns-in_default-clause-run
returns-in_default-clause-run g c h content each =
    untouched g.D.Disk content (RunsCreate (words c.args.config) c.args.uri.now) c.args.disk.now (Err (Refusal_Invalid BadName)) (λ d left. g.met.D.Disk.only_now _ d left) each
    (named_none c.args.uri.now (Made (words c.args.config)) (subst (λ (l : List ℕ). name_in l ≡ None) c.as_bytes.ensures.value c.in_default.ensures.name) (point_of g.D.Disk (start content) c.args.disk.now))

pub returns-in-Err-clause-run : goal.returns-in-Err-clause-run
returns-in-Err-clause-run g c h content each =
    let p = point_of g.D.Disk (start content) c.args.disk.now in
    untouched g.D.Disk content (RunsCreate (words c.args.config) c.args.uri.now) c.args.disk.now (Err c.in-Err.refusal) (λ d left. g.met.D.Disk.only_now _ d left) each
    (named_goes c.args.uri.now (Made (words c.args.config)) c.in-Some.name.now (subst (λ (l : List ℕ). name_in l ≡ Some c.in-Some.name.now) c.as_bytes.ensures.value c.in-Some.ensures.name) p _
    (configured_refused (words c.args.config) (λ f. MakesTable c.in-Some.name.now f Closes) c.in-Err.refusal c.in-Err.ensures.refused p))

pub returns-in-Err-clause-sound : goal.returns-in-Err-clause-sound
returns-in-Err-clause-sound g c = damage_none _ _ c.in-Err.refusal (unconfigured_sound (words c.args.config) c.in-Err.refusal c.in-Err.ensures.refused)

pub returns-in-Err-clause-fault : goal.returns-in-Err-clause-fault
returns-in-Err-clause-fault g c is = absurd (unconfigured_no_fault (words c.args.config) c.in-Err.refusal c.in-Err.ensures.refused is)

pub returns-in-Ok-make-clause-run : goal.returns-in-Ok-make-clause-run
returns-in-Ok-make-clause-run g c h content each =
    let D = g.D.Disk in
    let disk = c.args.disk.now in
    let reads = each.0 _ (g.met.D.Disk.reads_an_image _ h) in
    let on = (c.requires.on h).reads content reads each.1 in
    let w = first_of D disk c.args.store on content each reads in
    let holds = first_holds D disk c.args.store on content each reads (c.requires.on h).soft (λ d left. g.met.D.Disk.only_now _ d left) in
    let Run : Point → Ran → Type 0 = MakesTable c.in-Some.name.now c.in-Ok.formats Closes in
    left_as D disk (start content).completed Run (RunsCreate (words c.args.config) c.args.uri.now) (point_of D (start content) disk) c.close.new.disk c.close.result
    (whole (words c.args.config) c.args.uri.now c.in-Some.name.now c.in-Ok.formats (subst (λ (l : List ℕ). name_in l ≡ Some c.in-Some.name.now) c.as_bytes.ensures.value c.in-Some.ensures.name) c.in-Ok.ensures.formats (point_of D (start content) disk))
    (left_behind D disk (start content).completed Run w c.make.new.store disk disk Closes c.close.new.disk c.close.result
    (made_led D disk (start content).completed c.in-Some.name.now c.in-Ok.formats Closes w c.make.new.store disk disk (Ok tt) (c.in-Ok-make.ensures.led disk h disk (start content).completed w holds))
    (λ v held. left_unwritten D disk (start content).completed c.make.new.store.ground.lives (point_of D v.machine disk) c.close.new.disk c.close.result ((c.in-Ok-make.ensures.went disk).lives ∙ on.none) (c.close.ensures.run h disk (start content).completed v held)))

pub returns-in-Ok-make-clause-sound : goal.returns-in-Ok-make-clause-sound
returns-in-Ok-make-clause-sound g c = err_map c.close.result c.close.ensures.sound (damage_none _ _)

pub returns-in-Err-make-clause-run : goal.returns-in-Err-make-clause-run
returns-in-Err-make-clause-run g c h content each =
    let D = g.D.Disk in
    let disk = c.args.disk.now in
    let reads = each.0 _ (g.met.D.Disk.reads_an_image _ h) in
    let on = (c.requires.on h).reads content reads each.1 in
    let w = first_of D disk c.args.store on content each reads in
    let holds = first_holds D disk c.args.store on content each reads (c.requires.on h).soft (λ d left. g.met.D.Disk.only_now _ d left) in
    let Run : Point → Ran → Type 0 = MakesTable c.in-Some.name.now c.in-Ok.formats Closes in
    left_as D disk (start content).completed Run (RunsCreate (words c.args.config) c.args.uri.now) (point_of D (start content) disk) disk (Err c.in-Err-make.refusal)
    (whole (words c.args.config) c.args.uri.now c.in-Some.name.now c.in-Ok.formats (subst (λ (l : List ℕ). name_in l ≡ Some c.in-Some.name.now) c.as_bytes.ensures.value c.in-Some.ensures.name) c.in-Ok.ensures.formats (point_of D (start content) disk))
    (left_refused D disk (start content).completed Run w c.make.new.store disk disk Closes c.in-Err-make.refusal
    (made_led D disk (start content).completed c.in-Some.name.now c.in-Ok.formats Closes w c.make.new.store disk disk (Err c.in-Err-make.refusal) (c.in-Err-make.ensures.led disk h disk (start content).completed w holds)))

pub returns-in-Err-make-clause-sound : goal.returns-in-Err-make-clause-sound
returns-in-Err-make-clause-sound g c = refused_spoilt g.D.Disk c.args.store c.make.new.store c.args.disk.now c.args.disk.now c.requires.none c.in-Err-make.refusal (c.in-Err-make.ensures.went c.args.disk.now) (λ h. (c.requires.on h).outset) (λ h. (c.requires.on h).spoils)

pub returns-in-Err-make-clause-fault : goal.returns-in-Err-make-clause-fault
returns-in-Err-make-clause-fault g c = refused_fault g.D.Disk c.args.store c.make.new.store c.args.disk.now c.args.disk.now c.requires.none c.in-Err-make.refusal (c.in-Err-make.ensures.went c.args.disk.now)
