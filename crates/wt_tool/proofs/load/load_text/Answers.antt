use Rattle.std.specs.Option.{option_map}
use Rattle.std.proofs.Common.{Err, List, ℕ, Bool, Bor, Option, subst}
use Rattle.disk_model.proofs.Crash.{same_disk_then}
use Rattle.device_leaf.proofs.Opens.{err_map, rose_sooner}
use Rattle.kv_model.specs.Content.{start}
use Rattle.dump_text.specs.declared.whole.Dumped.{Dumped}
use Rattle.dump_text.specs.Cuts.{lines_in}
use Rattle.dump_text.specs.Texts.{IsDumped, IsRefused}
use Rattle.wt_tool.specs.Points.{Point, Ran, point_of}
use Rattle.wt_tool.specs.Loads.{ClosesLoad, LoadsRows, LoadsText}
use Rattle.wt_tool.specs.Writes.{demand_of}
use Rattle.wt_tool.proofs.Leaving.{first_of, first_holds, left_as, left_behind, left_loaded, left_refused, untouched}
use Rattle.wt_tool.proofs.LoadEnds.{dumped_text, refused_no_fault, refused_sound, refused_text}
use Rattle.wt_tool.proofs.Went.{damage_none, same_honest}
use Rattle.wt_tool.proofs.load.load_text.Goals as goal

abbrev Renamed : Option (Bor (List ℕ)) → Option (List ℕ)
Renamed renamed = option_map {T = Bor (List ℕ)} {U = List ℕ} (λ x. x.now) renamed

abbrev Loads : Bool → List ℕ → Dumped → Point → Ran → Type 0
Loads overwrite name d p ran = LoadsRows name d.table.formats (demand_of overwrite) d.rows p ran

pub close-requires : goal.close-requires
close-requires g c = record { ready = c.in-Ok-put_all.ensures.went.ready c.requires.ready }

pub returns-in-Err-clause-run : goal.returns-in-Err-clause-run
returns-in-Err-clause-run g c h content each =
    untouched g.D.Disk content (LoadsText c.args.overwrite (Renamed c.args.renamed) c.args.ended c.args.text.items) c.args.disk.now (Err c.in-Err.refusal) (λ d left. g.met.D.Disk.only_now _ d left) each
    (refused_text c.args.overwrite (Renamed c.args.renamed) c.args.ended c.args.text.items (point_of g.D.Disk (start content) c.args.disk.now) c.in-Err.refusal (subst (λ (l : List ℕ). IsRefused c.args.ended l c.in-Err.refusal) c.deref.ensures.value c.in-Err.ensures.refused))

pub returns-in-Err-clause-sound : goal.returns-in-Err-clause-sound
returns-in-Err-clause-sound g c = refused_sound _ _ c.args.ended c.args.text.items c.in-Err.refusal (subst (λ (l : List ℕ). IsRefused c.args.ended l c.in-Err.refusal) c.deref.ensures.value c.in-Err.ensures.refused)

pub returns-in-Err-clause-fault : goal.returns-in-Err-clause-fault
returns-in-Err-clause-fault g c is = absurd (refused_no_fault c.args.ended c.args.text.items c.in-Err.refusal (subst (λ (l : List ℕ). IsRefused c.args.ended l c.in-Err.refusal) c.deref.ensures.value c.in-Err.ensures.refused) is)

pub returns-in-Ok-put_all-clause-run : goal.returns-in-Ok-put_all-clause-run
returns-in-Ok-put_all-clause-run g c h content each =
    let D = g.D.Disk in
    let disk = c.args.disk.now in
    let reads = each.0 _ (g.met.D.Disk.reads_an_image _ h) in
    let on = (c.requires.on h).reads content reads each.1 in
    let w = first_of D disk c.args.store on content each reads in
    let holds = first_holds D disk c.args.store on content each reads (c.requires.on h).soft (λ d left. g.met.D.Disk.only_now _ d left) in
    let Run : Point → Ran → Type 0 = Loads c.args.overwrite c.loaded_name-name.result.now c.in-Ok.dumped in
    left_as D disk (start content).completed Run (LoadsText c.args.overwrite (Renamed c.args.renamed) c.args.ended c.args.text.items) (point_of D (start content) disk) c.close.new.disk c.close.result
    (λ ran run. dumped_text c.args.overwrite (Renamed c.args.renamed) c.args.ended c.args.text.items c.in-Ok.dumped c.loaded_name-name.result.now (point_of D (start content) disk) ran c.in-Ok.ensures.ended (subst (λ (l : List ℕ). IsDumped (lines_in l) c.in-Ok.dumped) c.deref.ensures.value c.in-Ok.ensures.dump) c.loaded_name-name.ensures run)
    (left_behind D disk (start content).completed Run w c.put_all.new.store disk c.put_all.new.disk ClosesLoad c.close.new.disk c.close.result (c.in-Ok-put_all.ensures.led h disk (start content).completed w holds)
    (λ v held. left_loaded D disk (start content).completed c.put_all.new.store.ground.lives (point_of D v.machine c.put_all.new.disk) c.close.new.disk c.close.result
    (c.close.ensures.run (same_honest D disk c.put_all.new.disk c.in-Ok-put_all.ensures.went.disk h) disk (start content).completed v held)))

pub returns-in-Ok-put_all-clause-sound : goal.returns-in-Ok-put_all-clause-sound
returns-in-Ok-put_all-clause-sound g c = err_map c.close.result c.close.ensures.sound (damage_none _ _)

pub returns-in-Ok-put_all-clause-fault : goal.returns-in-Ok-put_all-clause-fault
returns-in-Ok-put_all-clause-fault g c = err_map c.close.result c.close.ensures.fault (λ r why is. rose_sooner _ _ _ c.in-Ok-put_all.ensures.went.disk.later (why is))

pub returns-in-Ok-put_all-clause-disk : goal.returns-in-Ok-put_all-clause-disk
returns-in-Ok-put_all-clause-disk g c = same_disk_then g.D.Disk c.args.disk.now c.put_all.new.disk c.close.new.disk c.in-Ok-put_all.ensures.went.disk c.close.ensures.disk

pub returns-in-Err-put_all-clause-run : goal.returns-in-Err-put_all-clause-run
returns-in-Err-put_all-clause-run g c h content each =
    let D = g.D.Disk in
    let disk = c.args.disk.now in
    let reads = each.0 _ (g.met.D.Disk.reads_an_image _ h) in
    let on = (c.requires.on h).reads content reads each.1 in
    let w = first_of D disk c.args.store on content each reads in
    let holds = first_holds D disk c.args.store on content each reads (c.requires.on h).soft (λ d left. g.met.D.Disk.only_now _ d left) in
    let Run : Point → Ran → Type 0 = Loads c.args.overwrite c.loaded_name-name.result.now c.in-Ok.dumped in
    left_as D disk (start content).completed Run (LoadsText c.args.overwrite (Renamed c.args.renamed) c.args.ended c.args.text.items) (point_of D (start content) disk) c.put_all.new.disk (Err c.in-Err-put_all.refusal)
    (λ ran run. dumped_text c.args.overwrite (Renamed c.args.renamed) c.args.ended c.args.text.items c.in-Ok.dumped c.loaded_name-name.result.now (point_of D (start content) disk) ran c.in-Ok.ensures.ended (subst (λ (l : List ℕ). IsDumped (lines_in l) c.in-Ok.dumped) c.deref.ensures.value c.in-Ok.ensures.dump) c.loaded_name-name.ensures run)
    (left_refused D disk (start content).completed Run w c.put_all.new.store disk c.put_all.new.disk ClosesLoad c.in-Err-put_all.refusal (c.in-Err-put_all.ensures.led h disk (start content).completed w holds))

pub returns-in-Err-put_all-clause-sound : goal.returns-in-Err-put_all-clause-sound
returns-in-Err-put_all-clause-sound g c = c.in-Err-put_all.ensures.went.sound (λ h. (c.requires.on h).outset) (λ h. (c.requires.on h).spoils)

pub returns-in-Err-put_all-clause-fault : goal.returns-in-Err-put_all-clause-fault
returns-in-Err-put_all-clause-fault g c = c.in-Err-put_all.ensures.went.fault

pub returns-in-Err-put_all-clause-disk : goal.returns-in-Err-put_all-clause-disk
returns-in-Err-put_all-clause-disk g c = c.in-Err-put_all.ensures.went.disk
