use Rattle.std.proofs.Common.{◌≡◌, ◌∙◌, Some, None, Ok, Err, List, ℕ, Bool, subst}
use Rattle.disk_model.proofs.Crash.{looked_same, same_disk_then}
use Rattle.device_leaf.proofs.Opens.{err_map, rose_sooner}
use Rattle.wt_code.specs.declared.refusals.Refusal.TheVariants.{Invalid as Refusal_Invalid}
use Rattle.wt_code.specs.declared.refusals.Invalid.TheVariants.{BadName}
use Rattle.kv_model.specs.Content.{start}
use Rattle.wt_line.specs.Line.{pair_texts}
use Rattle.wt_tool.specs.Words.{name_in}
use Rattle.wt_tool.specs.Points.{Closes, Point, Ran, WithSession, point_of}
use Rattle.wt_tool.specs.Writes.{PutsPairs, RunsWrite, WritesPairs, demand_of}
use Rattle.wt_tool.proofs.Naming.{named_goes, named_none}
use Rattle.wt_tool.proofs.Putting.{Words, writes_none, writes_some}
use Rattle.wt_tool.proofs.Leaving.{first_of, first_holds, left_as, left_behind, left_refused, left_unwritten, untouched}
use Rattle.wt_tool.proofs.Went.{damage_none, refused_fault, refused_spoilt, still_honest}
use Rattle.wt_tool.proofs.write.write.Goals as goal

abbrev Written : Bool → Words → List ℕ → Point → Ran → Type 0
Written overwrite pairs name p ran = WritesPairs name (demand_of overwrite) (pair_texts pairs) p ran

abbrev Put : Bool → Words → List ℕ → Point → Ran → Type 0
Put overwrite pairs name p ran = WithSession (PutsPairs name (demand_of overwrite) (pair_texts pairs)) p ran

pub close-requires : goal.close-requires
close-requires g c = record { ready = c.in-Ok.ensures.went.ready c.requires.ready }

pub returns-in_default-clause-run : goal.returns-in_default-clause-run
returns-in_default-clause-run g c h content each =
    untouched g.D.Disk content (RunsWrite c.args.overwrite c.args.uri.now (pair_texts c.args.pairs.now)) c.args.disk.now (Err (Refusal_Invalid BadName)) (λ d left. g.met.D.Disk.only_now _ d left) each
    (named_none c.args.uri.now (Written c.args.overwrite c.args.pairs.now) (subst (λ (l : List ℕ). name_in l ≡ None) c.as_bytes.ensures.value c.in_default.ensures.name) (point_of g.D.Disk (start content) c.args.disk.now))

pub returns-then-is_empty-clause-run : goal.returns-then-is_empty-clause-run
returns-then-is_empty-clause-run g c h content each =
    let p = point_of g.D.Disk (start content) c.args.disk.now in
    untouched g.D.Disk content (RunsWrite c.args.overwrite c.args.uri.now (pair_texts c.args.pairs.now)) c.args.disk.now (Ok tt) (λ d left. g.met.D.Disk.only_now _ d left) each
    (named_goes c.args.uri.now (Written c.args.overwrite c.args.pairs.now) c.in-Some.name.now (subst (λ (l : List ℕ). name_in l ≡ Some c.in-Some.name.now) c.as_bytes.ensures.value c.in-Some.ensures.name) p _ (writes_none c.in-Some.name.now (demand_of c.args.overwrite) c.args.pairs.now c.is_empty.result c.if-is_empty.true c.is_empty.ensures p))

pub returns-in-Ok-clause-run : goal.returns-in-Ok-clause-run
returns-in-Ok-clause-run g c h content each =
    let D = g.D.Disk in
    let disk = c.args.disk.now in
    let reads = each.0 _ (g.met.D.Disk.reads_an_image _ h) in
    let on = (c.requires.on h).reads content reads each.1 in
    let w = first_of D disk c.args.store on content each reads in
    let holds = first_holds D disk c.args.store on content each reads (c.requires.on h).soft (λ d left. g.met.D.Disk.only_now _ d left) in
    left_as D disk (start content).completed (Put c.args.overwrite c.args.pairs.now c.in-Some.name.now) (RunsWrite c.args.overwrite c.args.uri.now (pair_texts c.args.pairs.now)) (point_of D (start content) disk) c.close.new.disk c.close.result
    (λ ran run. named_goes c.args.uri.now (Written c.args.overwrite c.args.pairs.now) c.in-Some.name.now (subst (λ (l : List ℕ). name_in l ≡ Some c.in-Some.name.now) c.as_bytes.ensures.value c.in-Some.ensures.name) (point_of D (start content) disk) ran (writes_some c.in-Some.name.now (demand_of c.args.overwrite) c.args.pairs.now c.is_empty.result c.if-is_empty.false c.is_empty.ensures (point_of D (start content) disk) ran run))
    (left_behind D disk (start content).completed (Put c.args.overwrite c.args.pairs.now c.in-Some.name.now) w c.put_all.new.store disk c.put_all.new.disk Closes c.close.new.disk c.close.result (c.in-Ok.ensures.led h disk (start content).completed w holds)
    (λ v held. left_unwritten D disk (start content).completed c.put_all.new.store.ground.lives (point_of D v.machine c.put_all.new.disk) c.close.new.disk c.close.result (c.in-Ok.ensures.went.lives ∙ on.none)
    (c.close.ensures.run (still_honest D disk c.put_all.new.disk c.in-Ok.ensures.went.looked h) disk (start content).completed v held)))

pub returns-in-Ok-clause-sound : goal.returns-in-Ok-clause-sound
returns-in-Ok-clause-sound g c = err_map c.close.result c.close.ensures.sound (damage_none _ _)

pub returns-in-Ok-clause-fault : goal.returns-in-Ok-clause-fault
returns-in-Ok-clause-fault g c = err_map c.close.result c.close.ensures.fault (λ r why is. rose_sooner _ _ _ c.in-Ok.ensures.went.looked.count (why is))

pub returns-in-Ok-clause-disk : goal.returns-in-Ok-clause-disk
returns-in-Ok-clause-disk g c = same_disk_then g.D.Disk c.args.disk.now c.put_all.new.disk c.close.new.disk (looked_same g.D.Disk c.args.disk.now c.put_all.new.disk c.in-Ok.ensures.went.looked c.in-Ok.ensures.went.home) c.close.ensures.disk

pub returns-in-Err-clause-run : goal.returns-in-Err-clause-run
returns-in-Err-clause-run g c h content each =
    let D = g.D.Disk in
    let disk = c.args.disk.now in
    let reads = each.0 _ (g.met.D.Disk.reads_an_image _ h) in
    let on = (c.requires.on h).reads content reads each.1 in
    let w = first_of D disk c.args.store on content each reads in
    let holds = first_holds D disk c.args.store on content each reads (c.requires.on h).soft (λ d left. g.met.D.Disk.only_now _ d left) in
    left_as D disk (start content).completed (Put c.args.overwrite c.args.pairs.now c.in-Some.name.now) (RunsWrite c.args.overwrite c.args.uri.now (pair_texts c.args.pairs.now)) (point_of D (start content) disk) c.put_all.new.disk (Err c.in-Err.refusal)
    (λ ran run. named_goes c.args.uri.now (Written c.args.overwrite c.args.pairs.now) c.in-Some.name.now (subst (λ (l : List ℕ). name_in l ≡ Some c.in-Some.name.now) c.as_bytes.ensures.value c.in-Some.ensures.name) (point_of D (start content) disk) ran (writes_some c.in-Some.name.now (demand_of c.args.overwrite) c.args.pairs.now c.is_empty.result c.if-is_empty.false c.is_empty.ensures (point_of D (start content) disk) ran run))
    (left_refused D disk (start content).completed (Put c.args.overwrite c.args.pairs.now c.in-Some.name.now) w c.put_all.new.store disk c.put_all.new.disk Closes c.in-Err.refusal (c.in-Err.ensures.led h disk (start content).completed w holds))

pub returns-in-Err-clause-sound : goal.returns-in-Err-clause-sound
returns-in-Err-clause-sound g c = refused_spoilt g.D.Disk c.args.store c.put_all.new.store c.args.disk.now c.put_all.new.disk c.requires.none c.in-Err.refusal c.in-Err.ensures.went (λ h. (c.requires.on h).outset) (λ h. (c.requires.on h).spoils)

pub returns-in-Err-clause-fault : goal.returns-in-Err-clause-fault
returns-in-Err-clause-fault g c = refused_fault g.D.Disk c.args.store c.put_all.new.store c.args.disk.now c.put_all.new.disk c.requires.none c.in-Err.refusal c.in-Err.ensures.went

pub returns-in-Err-clause-disk : goal.returns-in-Err-clause-disk
returns-in-Err-clause-disk g c = looked_same g.D.Disk c.args.disk.now c.put_all.new.disk c.in-Err.ensures.went.looked c.in-Err.ensures.went.home
