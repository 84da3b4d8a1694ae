use Rattle.std.proofs.Common.{inl, inr, sym, ◌∙◌, ap, arith, length, IsTrue, ◌≤◌, ◌+◌, [], ◌∷◌}
use Rattle.std.proofs.lemmas.Result.{err_from_is_err_and}
use Rattle.disk_model.specs.Ranges.{length_put}
use Rattle.disk_model.proofs.Crash.{widened}
use Rattle.turtle.proofs.Runs.{run_one, run_two, run_three, run_four, at_gate, is_installed, ok_both, ok_then, err_more, next_is_slot, in_place}
use Rattle.turtle.proofs.Errors.{read_is, read_not_down, read_of_disk, down_not_read, down_of_disk, stopped_before, stopped_at_gate}
use Rattle.turtle.proofs.installing.install.Goals as goal

pub returns-in_err-target-clause-any_moment : goal.returns-in_err-target-clause-any_moment
returns-in_err-target-clause-any_moment g c h chosen before =
    let D = g.D.Disk in
    widened D _ _ _ _ (run_one D g.met.D.Disk.only_now _ _ chosen c.args.slot before (next_is_slot chosen c.args.slot before.next before.small c.body_of-body.ensures.fits.0 c.body_of-body.ensures.fits.1 c.body_of-body.ensures.fits.2) c.free_place.ensures.looked) (λ d old. (old.0, inl old.1))

pub returns-in_err-shut-clause-any_moment : goal.returns-in_err-shut-clause-any_moment
returns-in_err-shut-clause-any_moment g c h chosen before =
    let D = g.D.Disk in
    let ok = c.in_ok-target.ensures.ok h chosen in
    widened D _ _ _ _ (run_two D g.met.D.Disk.only_now _ _ chosen c.args.slot before (next_is_slot chosen c.args.slot before.next before.small c.body_of-body.ensures.fits.0 c.body_of-body.ensures.fits.1 c.body_of-body.ensures.fits.2) c.free_place.ensures.looked _ c.in_ok-target.target.at c.in_ok-target.ensures.place c.in_ok-target.target.is_open ok.0 ok.1 (g.met.D.Disk.reads_an_image c.args.disk.now h) c.shut.ensures.leaves) (λ d old. (old.0, inl old.1))

pub returns-in_err-write_synced-clause-any_moment : goal.returns-in_err-write_synced-clause-any_moment
returns-in_err-write_synced-clause-any_moment g c h chosen before =
    let D = g.D.Disk in
    let ok = c.in_ok-target.ensures.ok h chosen in
    let h1 : IsTrue (D.honest c.free_place.new.disk) = c.free_place.ensures.looked.same ∙ h in
    let h2 : IsTrue (D.honest c.shut.new.disk) = c.shut.ensures.disk.same ∙ h1 in
    widened D _ _ _ _ (run_three D g.met.D.Disk.only_now _ _ chosen c.args.slot before (next_is_slot chosen c.args.slot before.next before.small c.body_of-body.ensures.fits.0 c.body_of-body.ensures.fits.1 c.body_of-body.ensures.fits.2) c.free_place.ensures.looked _ c.in_ok-target.target.at c.in_ok-target.ensures.place c.in_ok-target.target.is_open ok.0 ok.1 (g.met.D.Disk.reads_an_image c.args.disk.now h) _ c.body_of-body.result c.body_of-body.ensures.spelled (ap length c.body_of-body.ensures.spelled) c.shut.ensures.leaves (c.in_ok-shut.ensures.written h1) c.shut.ensures.same_images (g.met.D.Disk.reads_an_image _ h2) c.write_synced.ensures.leaves) (λ d old. (old.0, inl old.1))

pub returns-clause-any_moment : goal.returns-clause-any_moment
returns-clause-any_moment g c h chosen before =
    let D = g.D.Disk in
    let ok = c.in_ok-target.ensures.ok h chosen in
    let h1 : IsTrue (D.honest c.free_place.new.disk) = c.free_place.ensures.looked.same ∙ h in
    let h2 : IsTrue (D.honest c.shut.new.disk) = c.shut.ensures.disk.same ∙ h1 in
    let h3 : IsTrue (D.honest c.write_synced.new.disk) = c.write_synced.ensures.disk.same ∙ h2 in
    run_four D g.met.D.Disk.only_now _ _ chosen c.args.slot before (next_is_slot chosen c.args.slot before.next before.small c.body_of-body.ensures.fits.0 c.body_of-body.ensures.fits.1 c.body_of-body.ensures.fits.2) c.free_place.ensures.looked _ c.in_ok-target.target.at c.in_ok-target.ensures.place c.in_ok-target.target.is_open ok.0 ok.1 (g.met.D.Disk.reads_an_image c.args.disk.now h) _ c.body_of-body.result c.body_of-body.ensures.spelled (ap length c.body_of-body.ensures.spelled) c.shut.ensures.leaves (c.in_ok-shut.ensures.written h1) c.shut.ensures.same_images (g.met.D.Disk.reads_an_image _ h2) _ c.write_synced.ensures.leaves (c.in_ok-write_synced.ensures.written h2) c.in_ok-write_synced.ensures.durable c.write_synced-2.ensures.leaves

pub returns-clause-ok : goal.returns-clause-ok
returns-clause-ok g c h chosen before =
    let D = g.D.Disk in
    let ok = c.in_ok-target.ensures.ok h chosen in
    let h1 : IsTrue (D.honest c.free_place.new.disk) = c.free_place.ensures.looked.same ∙ h in
    let h2 : IsTrue (D.honest c.shut.new.disk) = c.shut.ensures.disk.same ∙ h1 in
    let h3 : IsTrue (D.honest c.write_synced.new.disk) = c.write_synced.ensures.disk.same ∙ h2 in
    ok_both _ (c.write_synced-2.ensures.written h3) c.write_synced-2.ensures.durable (is_installed D g.met.D.Disk.only_now _ _ chosen c.args.slot before (next_is_slot chosen c.args.slot before.next before.small c.body_of-body.ensures.fits.0 c.body_of-body.ensures.fits.1 c.body_of-body.ensures.fits.2) c.free_place.ensures.looked _ c.in_ok-target.target.at c.in_ok-target.ensures.place c.in_ok-target.target.is_open ok.0 ok.1 (g.met.D.Disk.reads_an_image c.args.disk.now h) _ c.body_of-body.result c.body_of-body.ensures.spelled (ap length c.body_of-body.ensures.spelled) c.shut.ensures.leaves (c.in_ok-shut.ensures.written h1) c.shut.ensures.same_images (g.met.D.Disk.reads_an_image _ h2) _ c.write_synced.ensures.leaves (c.in_ok-write_synced.ensures.written h2) c.in_ok-write_synced.ensures.durable)

pub write_synced-requires-2 : goal.write_synced-requires-2
write_synced-requires-2 g c h =
    let D = g.D.Disk in
    let h2 : IsTrue (D.honest c.shut.new.disk) = sym c.write_synced.ensures.disk.same ∙ h in
    let h1 : IsTrue (D.honest c.free_place.new.disk) = sym c.shut.ensures.disk.same ∙ h2 in
    let h0 : IsTrue (D.honest c.args.disk.now) = sym c.free_place.ensures.looked.same ∙ h1 in
    let small : c.in_ok-target.target.at ≤ 4096 = elim c.in_ok-target.ensures.place [ inl is ↦ omega arith | inr is ↦ omega arith ] in
    let long : 8192 ≤ length (D.seen c.free_place.new.disk) = omega (arith, ap length c.free_place.ensures.looked.content, c.requires h0) in
    let two : 8192 ≤ length (D.seen c.shut.new.disk) = elim (c.in_ok-shut.ensures.written h1) [
      | inl same ↦ omega (arith, ap length same.1, long)
      | inr done ↦ omega (arith, ap length done.1, long, length_put (D.seen c.free_place.new.disk) (0 ∷ []) c.in_ok-target.target.at (omega (arith, small, long)))
    ] in
    omega (arith, ap length (c.in_ok-write_synced.ensures.written h2), length_put (D.seen c.shut.new.disk) c.body_of-body.result (c.in_ok-target.target.at + 1) (omega (arith, small, two)))

pub returns-in_err-target-clause-read : goal.returns-in_err-target-clause-read
returns-in_err-target-clause-read g c =
    let p = err_from_is_err_and c.from_residual.result c.from_residual.ensures.1 in
    rw (p.1, p.2) (read_is _ _ c.free_place.ensures.looked)

pub returns-in_err-target-clause-down : goal.returns-in_err-target-clause-down
returns-in_err-target-clause-down g c h chosen before =
    let p = err_from_is_err_and c.from_residual.result c.from_residual.ensures.1 in
    rw (p.1, p.2) (read_not_down _ _ c.in_err-target.ensures.err)

pub returns-in_err-target-clause-no_other : goal.returns-in_err-target-clause-no_other
returns-in_err-target-clause-no_other g c =
    let p = err_from_is_err_and c.from_residual.result c.from_residual.ensures.1 in
    rw (p.1, p.2) (read_of_disk _ c.in_err-target.ensures.err)

pub returns-in_err-shut-clause-read : goal.returns-in_err-shut-clause-read
returns-in_err-shut-clause-read g c =
    let p = err_from_is_err_and c.from_residual-in_err-shut.result c.from_residual-in_err-shut.ensures.1 in
    rw (p.1, p.2) (down_not_read _ c.in_err-shut.ensures.err.0 _ c.in_err-shut.ensures.err.1)

pub returns-in_err-shut-clause-down : goal.returns-in_err-shut-clause-down
returns-in_err-shut-clause-down g c h chosen before =
    let D = g.D.Disk in
    let ok = c.in_ok-target.ensures.ok h chosen in
    let p = err_from_is_err_and c.from_residual-in_err-shut.result c.from_residual-in_err-shut.ensures.1 in
    rw (p.1, p.2) (stopped_before D chosen c.args.slot _ _ c.in_ok-target.target.at c.in_ok-target.ensures.place ok.1 _ c.in_err-shut.ensures.err.0 c.in_err-shut.ensures.err.1 (inl c.in_err-shut.ensures.err.2) (run_two D g.met.D.Disk.only_now _ _ chosen c.args.slot before (next_is_slot chosen c.args.slot before.next before.small c.body_of-body.ensures.fits.0 c.body_of-body.ensures.fits.1 c.body_of-body.ensures.fits.2) c.free_place.ensures.looked _ c.in_ok-target.target.at c.in_ok-target.ensures.place c.in_ok-target.target.is_open ok.0 ok.1 (g.met.D.Disk.reads_an_image c.args.disk.now h) c.shut.ensures.leaves))

pub returns-in_err-shut-clause-no_other : goal.returns-in_err-shut-clause-no_other
returns-in_err-shut-clause-no_other g c =
    let p = err_from_is_err_and c.from_residual-in_err-shut.result c.from_residual-in_err-shut.ensures.1 in
    rw (p.1, p.2) (down_of_disk _ c.in_err-shut.ensures.err.0 c.in_err-shut.ensures.err.1)

pub returns-in_err-write_synced-clause-read : goal.returns-in_err-write_synced-clause-read
returns-in_err-write_synced-clause-read g c =
    let p = err_from_is_err_and c.from_residual-in_err-write_synced.result c.from_residual-in_err-write_synced.ensures.1 in
    rw (p.1, p.2) (down_not_read _ c.in_err-write_synced.ensures.err.0 _ c.in_err-write_synced.ensures.err.1)

pub returns-in_err-write_synced-clause-down : goal.returns-in_err-write_synced-clause-down
returns-in_err-write_synced-clause-down g c h chosen before =
    let D = g.D.Disk in
    let ok = c.in_ok-target.ensures.ok h chosen in
    let h1 : IsTrue (D.honest c.free_place.new.disk) = c.free_place.ensures.looked.same ∙ h in
    let h2 : IsTrue (D.honest c.shut.new.disk) = c.shut.ensures.disk.same ∙ h1 in
    let p = err_from_is_err_and c.from_residual-in_err-write_synced.result c.from_residual-in_err-write_synced.ensures.1 in
    rw (p.1, p.2) (stopped_before D chosen c.args.slot _ _ c.in_ok-target.target.at c.in_ok-target.ensures.place ok.1 _ c.in_err-write_synced.ensures.err.0 c.in_err-write_synced.ensures.err.1 (inr c.in_err-write_synced.ensures.err.2) (run_three D g.met.D.Disk.only_now _ _ chosen c.args.slot before (next_is_slot chosen c.args.slot before.next before.small c.body_of-body.ensures.fits.0 c.body_of-body.ensures.fits.1 c.body_of-body.ensures.fits.2) c.free_place.ensures.looked _ c.in_ok-target.target.at c.in_ok-target.ensures.place c.in_ok-target.target.is_open ok.0 ok.1 (g.met.D.Disk.reads_an_image c.args.disk.now h) _ c.body_of-body.result c.body_of-body.ensures.spelled (ap length c.body_of-body.ensures.spelled) c.shut.ensures.leaves (c.in_ok-shut.ensures.written h1) c.shut.ensures.same_images (g.met.D.Disk.reads_an_image _ h2) c.write_synced.ensures.leaves))

pub returns-in_err-write_synced-clause-no_other : goal.returns-in_err-write_synced-clause-no_other
returns-in_err-write_synced-clause-no_other g c =
    let p = err_from_is_err_and c.from_residual-in_err-write_synced.result c.from_residual-in_err-write_synced.ensures.1 in
    rw (p.1, p.2) (down_of_disk _ c.in_err-write_synced.ensures.err.0 c.in_err-write_synced.ensures.err.1)

pub returns-clause-read : goal.returns-clause-read
returns-clause-read g c = err_more c.write_synced-2.result _ _ c.write_synced-2.ensures.err (λ e is. down_not_read e is.0 _ is.1)

pub returns-clause-down : goal.returns-clause-down
returns-clause-down g c h chosen before =
    let D = g.D.Disk in
    let ok = c.in_ok-target.ensures.ok h chosen in
    let h1 : IsTrue (D.honest c.free_place.new.disk) = c.free_place.ensures.looked.same ∙ h in
    let h2 : IsTrue (D.honest c.shut.new.disk) = c.shut.ensures.disk.same ∙ h1 in
    let there = at_gate D g.met.D.Disk.only_now _ _ chosen c.args.slot before (next_is_slot chosen c.args.slot before.next before.small c.body_of-body.ensures.fits.0 c.body_of-body.ensures.fits.1 c.body_of-body.ensures.fits.2) c.free_place.ensures.looked _ c.in_ok-target.target.at c.in_ok-target.ensures.place c.in_ok-target.target.is_open ok.0 ok.1 (g.met.D.Disk.reads_an_image c.args.disk.now h) _ c.body_of-body.result c.body_of-body.ensures.spelled (ap length c.body_of-body.ensures.spelled) c.shut.ensures.leaves (c.in_ok-shut.ensures.written h1) c.shut.ensures.same_images (g.met.D.Disk.reads_an_image _ h2) _ c.write_synced.ensures.leaves (c.in_ok-write_synced.ensures.written h2) c.in_ok-write_synced.ensures.durable c.write_synced-2.ensures.images in
    err_more c.write_synced-2.result _ _ c.write_synced-2.ensures.err (λ e is. stopped_at_gate D chosen c.args.slot _ _ c.in_ok-target.target.at c.in_ok-target.ensures.place ok.1 e is.0 is.1 is.2 there)

pub returns-clause-no_other : goal.returns-clause-no_other
returns-clause-no_other g c = err_more c.write_synced-2.result _ _ c.write_synced-2.ensures.err (λ e is. down_of_disk e is.0 is.1)

pub returns-clause-place : goal.returns-clause-place
returns-clause-place g c h chosen before =
    let D = g.D.Disk in
    let ok = c.in_ok-target.ensures.ok h chosen in
    let h1 : IsTrue (D.honest c.free_place.new.disk) = c.free_place.ensures.looked.same ∙ h in
    let h2 : IsTrue (D.honest c.shut.new.disk) = c.shut.ensures.disk.same ∙ h1 in
    let h3 : IsTrue (D.honest c.write_synced.new.disk) = c.write_synced.ensures.disk.same ∙ h2 in
    ok_then _ (c.write_synced-2.ensures.written h3) (in_place D g.met.D.Disk.only_now _ _ chosen c.args.slot before (next_is_slot chosen c.args.slot before.next before.small c.body_of-body.ensures.fits.0 c.body_of-body.ensures.fits.1 c.body_of-body.ensures.fits.2) c.free_place.ensures.looked _ c.in_ok-target.target.at c.in_ok-target.ensures.place c.in_ok-target.target.is_open ok.0 ok.1 (g.met.D.Disk.reads_an_image c.args.disk.now h) _ c.body_of-body.result c.body_of-body.ensures.spelled (ap length c.body_of-body.ensures.spelled) c.shut.ensures.leaves (c.in_ok-shut.ensures.written h1) c.shut.ensures.same_images (g.met.D.Disk.reads_an_image _ h2) _ c.write_synced.ensures.leaves (c.in_ok-write_synced.ensures.written h2) c.in_ok-write_synced.ensures.durable)
