use Rattle.std.proofs.Common.{Vec, Global, Bool, IsTrue, ◌≡◌, ◌⊎◌, inl, inr, Option, None, Bor, List, ℕ, [], refl, sym, subst}
use Rattle.disk_model.proofs.Crash.{looked_only}
use Rattle.kv_model.specs.Content.{start}
use Rattle.wt_io.specs.StreamLemmas.{took_none}
use Rattle.wt_line.specs.declared.command.Command.{Command}
use Rattle.wt_line.specs.declared.command.Command.TheVariants.{Create, Write, Read, List as Listing, Verify, Script, Dump, Load}
use Rattle.wt_line.specs.Line.{meaning}
use Rattle.device_leaf.proofs.Opens.{err_map}
use Rattle.script_run.specs.Scripts.{Outside, outside}
use Rattle.wt_tool.specs.Commands.{IsByReader, IsOnEngine, Runs}
use Rattle.wt_tool.specs.Parts.{silent_run}
use Rattle.wt_tool.specs.Points.{Point, Ran, point_of}
use Rattle.wt_tool.specs.Top.{IsOpenableFor, IsSoFor, Streams, streams_of}
use Rattle.wt_tool.proofs.Running.{gave_none, looked_went, not_both, openable_for, telling}
use Rattle.wt_tool.proofs.Verifying.{done_only, verify_at, verify_said, verify_so}
use Rattle.wt_tool.proofs.top.run.Goals as goal

-- ---- `verify`

pub returns-in-Verify-clause-run : goal.returns-in-Verify-clause-run
returns-in-Verify-clause-run g c h content each =
    let D = g.D.Disk in
    let looked = c.verify-result.ensures.looked in
    let o : Outside = outside g.S.Source g.K.Sink c.args.input.now c.args.input.now c.args.out.now c.args.out.now in
    let w : Streams = streams_of g.S.Source g.K.Sink g.E.Sink c.args.input.now c.args.input.now c.args.out.now c.args.out.now c.args.err.now c.told.new.err in
    let reads = each.0 _ (g.met.D.Disk.reads_an_image _ h) in
    let first = looked_only D _ _ _ looked (λ d left. each.0 d (g.met.D.Disk.only_now _ d left)) in
    let p : Point = point_of D (start content) c.args.disk.now in
    let ran : Ran = silent_run c.verify-result.result [] (point_of D (start content) c.verify-result.new.disk) in
    looked_went D c.args.disk.now c.verify-result.new.disk content each.1 o (meaning c.args.command.now) w (gave_none _) c.verify-result.result c.told.result
    (subst (λ (a : Command). Runs o (meaning a) p ran) (sym c.in-Verify.is) (c.verify-result.ensures.run h content reads))
    (λ d left. each.0 d (looked.images d left)) first.each (took_none _) c.told.ensures.told

pub returns-in-Verify-clause-told : goal.returns-in-Verify-clause-told
returns-in-Verify-clause-told g c =
    let D = g.D.Disk in
    telling _ _ c.verify-result.result c.told.result c.told.ensures.told (err_map c.verify-result.result c.verify-result.ensures.err (λ r why.
    subst (λ (a : Command). IsSoFor (meaning a) (IsTrue (D.honest c.args.disk.now)) (D.seen c.args.disk.now) (D.seen c.verify-result.new.disk) r) (sym c.in-Verify.is) (verify_so None _ _ (D.seen c.args.disk.now) (D.seen c.verify-result.new.disk) r why)))

pub returns-in-Verify-clause-damaged : goal.returns-in-Verify-clause-damaged
returns-in-Verify-clause-damaged g c h whole content reads spoilt by = absurd (subst (λ (a : Command). IsByReader (meaning a)) c.in-Verify.is by)

pub returns-in-Verify-clause-opened : goal.returns-in-Verify-clause-opened
returns-in-Verify-clause-opened g c h none = subst (λ (a : Command). IsOpenableFor (meaning a) (g.D.Disk.seen c.args.disk.now)) (sym c.in-Verify.is) (done_only _ c.verify-result.result c.told.result (c.verify-result.ensures.ok h) c.told.ensures.status none)

pub returns-in-Verify-clause-home : goal.returns-in-Verify-clause-home
returns-in-Verify-clause-home g c = verify_at g.D.Disk c.args.home.now c.args.disk.now c.verify-result.new.disk c.verify-result.result c.told.result c.verify-result.ensures.told c.verify-result.ensures.untold c.verify-result.ensures.looked.content c.told.ensures.status

pub returns-in-Verify-clause-statuses : goal.returns-in-Verify-clause-statuses
returns-in-Verify-clause-statuses g c = (verify_said _ _ (g.D.Disk.seen c.args.disk.now) c.verify-result.result c.told.result c.verify-result.ensures.err c.told.ensures.status).is

pub returns-in-Verify-clause-disk_fault : goal.returns-in-Verify-clause-disk_fault
returns-in-Verify-clause-disk_fault g c = (verify_said _ _ (g.D.Disk.seen c.args.disk.now) c.verify-result.result c.told.result c.verify-result.ensures.err c.told.ensures.status).failed

-- ---- those that answer from the device itself

by_reader : (command : Command) → ((uri : Bor (List ℕ)) × (keys : Vec (Bor (List ℕ)) Global) × (command ≡ Read uri keys)) ⊎ ((command ≡ Listing) ⊎ ((hex : Bool) × (reverse : Bool) × (uri : Bor (List ℕ)) × (command ≡ Dump hex reverse uri))) → IsByReader (meaning command)
by_reader command (inl (uri, keys, is)) = subst (λ (a : Command). IsByReader (meaning a)) (sym is) tt
by_reader command (inr (inl is)) = subst (λ (a : Command). IsByReader (meaning a)) (sym is) tt
by_reader command (inr (inr (hex, reverse, uri, is))) = subst (λ (a : Command). IsByReader (meaning a)) (sym is) tt

pub run_reader-requires : goal.run_reader-requires
run_reader-requires g c = by_reader c.args.command.now c.in-Read.is

-- ---- the others, on an engine

on_engine : (command : Command) → ((uri : Option (Bor (List ℕ))) → command ≡ Verify uri → ⊥) → ((uri : Bor (List ℕ)) (keys : Vec (Bor (List ℕ)) Global) → command ≡ Read uri keys → ⊥) → (command ≡ Listing → ⊥) → ((hex reverse : Bool) (uri : Bor (List ℕ)) → command ≡ Dump hex reverse uri → ⊥) → IsOnEngine (meaning command)
on_engine (Create config uri) no_verify no_read no_list no_dump = tt
on_engine (Write overwrite uri pairs) no_verify no_read no_list no_dump = tt
on_engine (Read uri keys) no_verify no_read no_list no_dump = absurd (no_read uri keys refl)
on_engine Listing no_verify no_read no_list no_dump = absurd (no_list refl)
on_engine (Verify uri) no_verify no_read no_list no_dump = absurd (no_verify uri refl)
on_engine Script no_verify no_read no_list no_dump = tt
on_engine (Dump hex reverse uri) no_verify no_read no_list no_dump = absurd (no_dump hex reverse uri refl)
on_engine (Load no_overwrite name) no_verify no_read no_list no_dump = tt

pub run_opened-requires : goal.run_opened-requires
run_opened-requires g c = on_engine c.args.command.now c.in_default.not-Verify c.in_default.not-Read c.in_default.not-List c.in_default.not-Dump

pub returns-in_default-clause-damaged : goal.returns-in_default-clause-damaged
returns-in_default-clause-damaged g c h whole content reads spoilt by =
    absurd (not_both (meaning c.args.command.now) (on_engine c.args.command.now c.in_default.not-Verify c.in_default.not-Read c.in_default.not-List c.in_default.not-Dump) by)

pub returns-in_default-clause-opened : goal.returns-in_default-clause-opened
returns-in_default-clause-opened g c h none =
    openable_for (meaning c.args.command.now) (g.D.Disk.seen c.args.disk.now) (on_engine c.args.command.now c.in_default.not-Verify c.in_default.not-Read c.in_default.not-List c.in_default.not-Dump) (c.run_opened.ensures.opened h none)

pub returns-in_default-clause-silent : goal.returns-in_default-clause-silent
returns-in_default-clause-silent g c h = elim (c.run_opened.ensures.silent h) [
  | inl quiet ↦ inl quiet
  | inr opens ↦ inr (openable_for (meaning c.args.command.now) (g.D.Disk.seen c.args.disk.now) (on_engine c.args.command.now c.in_default.not-Verify c.in_default.not-Read c.in_default.not-List c.in_default.not-Dump) opens)
]
