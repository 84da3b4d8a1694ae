use Rattle.std.proofs.Common.{◌≡◌, ◌∙◌, ◌<◌, ℕ, List, [], Some, Result, Err, length, IsTrue, inl, inr, ap, sym, subst, refl, arith}
use Rattle.std.specs.Prelude.{slice_get, get_or}
use Rattle.std.proofs.lemmas.Option.{slice_get-get_or}
use Rattle.failure.specs.Counts.{Rose}
use Rattle.disk_model.proofs.Crash.{looked_then}
use Rattle.kv_model.specs.Rows.{Way}
use Rattle.row_page.specs.Rows.{Row}
use Rattle.wt_code.specs.declared.refusals.Refusal.TheVariants.{Corrupt}
use Rattle.script_run.specs.declared.script.End.{End}
use Rattle.script_run.specs.declared.script.End.TheVariants.{Stopped}
use Rattle.device_read.specs.Leaves.{HasNoLeaf}
use Rattle.device_read.specs.Readers.{IsReaderOf}
use Rattle.device_read.specs.Rows.{put_rows}
use Rattle.wt_tool.specs.Dumps.{way_of}
use Rattle.wt_tool.specs.Pages.{EndsBy, along, place_on, rows_text}
use Rattle.wt_tool.proofs.Dumping.{cut_ends, cut_wider, ends_sound, ends_wider, first_left, last_left, leaf_done, leaf_ended, left_ends, looked_self, next_cut, next_left, sound_further, sound_wider, spoilt_now}
use Rattle.wt_tool.proofs.Gets.{rose_before}
use Rattle.wt_tool.proofs.Ways.{along_at, along_length}
use Rattle.wt_tool.proofs.dump.print_leaves.Goals as goal

-- the next page
next_page : (way : Way) (pages : List (List Row)) (count passed at : ℕ) → length pages ≡ count → passed < count → at ≡ place_on way count passed → slice_get pages at ≡ Some (get_or pages at []) → slice_get (along way pages) passed ≡ Some (get_or pages at [])
next_page way pages count passed at same within is there =
    along_at way pages passed (get_or pages at []) (omega (arith, within, same)) (subst (λ (n : ℕ). slice_get pages (place_on way n passed) ≡ Some (get_or pages at [])) (sym same) (subst (λ (n : ℕ). slice_get pages n ≡ Some (get_or pages at [])) is there))

same_end : (e f : End) → (let x : Result (Unit {0}) End = Err e in let y : Result (Unit {0}) End = Err f in x ≡ y) → e ≡ f
same_end e f is = cc

pub loop-passed-init : goal.loop-passed-init
loop-passed-init g c = record {
  later = omega arith;
  looked = looked_self g.D.Disk c.args.disk.now;
  home = refl;
  left = λ h whole spoilt pages has count. first_left (λ page. put_rows (along (way_of c.args.manner.reverse) page)) c.args.manner.form (along (way_of c.args.manner.reverse) pages) c.args.head.items (g.K.Sink.written c.args.out.now);
}

pub print_leaf-requires-clause-on : goal.print_leaf-requires-clause-on
print_leaf-requires-clause-on g c h =
    let D = g.D.Disk in
    let looked = c.loop-passed.invariant.looked in
    subst (λ (l : List ℕ). IsReaderOf l c.args.reader.now) (sym looked.content) (c.requires.on (sym looked.same ∙ h))

pub loop-passed-preserved : goal.loop-passed-preserved
loop-passed-preserved g c =
    let K = g.K.Sink in
    let D = g.D.Disk in
    let i = c.loop-passed.invariant in
    let way = way_of c.args.manner.reverse in
    record {
      later = omega (arith, i.later, c.print_leaf.ensures.later);
      looked = looked_then D c.args.disk.now c.loop-passed.disk c.print_leaf.new.disk i.looked c.print_leaf.ensures.looked;
      home = c.print_leaf.ensures.home ∙ i.home;
      left = λ h whole spoilt pages has count.
          let at = c.place_on-i.result in
          let there : slice_get pages at ≡ Some (get_or pages at []) = slice_get-get_or pages at [] (omega (arith, c.place_on-i.ensures.within, c.leaves-count.ensures, count)) in
          next_left (λ page. put_rows (along way page)) c.args.manner.form (along way pages) c.args.head.items (K.written c.args.out.now) (K.written c.loop-passed.out) (K.written c.print_leaf.new.out) c.loop-passed.text.items c.loop-passed.passed (get_or pages at [])
          (next_page way pages c.leaves-count.result c.loop-passed.passed at (count ∙ sym c.leaves-count.ensures) c.loop-passed-test.true c.place_on-i.ensures.is there)
          (i.left h whole spoilt pages has count) c.print_leaf.new.text.items
          (leaf_done (Rose (K.fault_count c.loop-passed.out) (K.fault_count c.print_leaf.new.out)) (Rose (D.faults c.loop-passed.disk) (D.faults c.print_leaf.new.disk)) (D.seen c.loop-passed.disk) c.args.reader.now c.args.place at (K.written c.loop-passed.out) (K.written c.print_leaf.new.out) c.loop-passed.text.items c.print_leaf.new.text.items (rows_text c.args.manner.form (put_rows (along way (get_or pages at []))))
          (c.in-Ok.ensures.run (i.looked.same ∙ h) whole (spoilt_now D whole c.args.disk.now c.loop-passed.disk i.looked spoilt) pages has (get_or pages at []) there));
    }

pub returns-in-Err-clause-run : goal.returns-in-Err-clause-run
returns-in-Err-clause-run g c h whole spoilt pages has count =
    let K = g.K.Sink in
    let D = g.D.Disk in
    let i = c.loop-passed.invariant in
    let way = way_of c.args.manner.reverse in
    let at = c.place_on-i.result in
    let there : slice_get pages at ≡ Some (get_or pages at []) = slice_get-get_or pages at [] (omega (arith, c.place_on-i.ensures.within, c.leaves-count.ensures, count)) in
    let failed = Rose (K.fault_count c.args.out.now) (K.fault_count c.print_leaf.new.out) in
    let fault = Rose (D.faults c.args.disk.now) (D.faults c.print_leaf.new.disk) in
    let same : length pages ≡ c.leaves-count.result = count ∙ sym c.leaves-count.ensures in
    elim (c.in-Err.ensures.run (i.looked.same ∙ h) whole (spoilt_now D whole c.args.disk.now c.loop-passed.disk i.looked spoilt) pages has (get_or pages at []) there) [
      | inl cut ↦ inl (cut_ends failed fault (K.written c.args.out.now) (K.written c.print_leaf.new.out) _ c.in-Err.end
          (next_cut (λ page. put_rows (along way page)) c.args.manner.form (along way pages) c.args.head.items (K.written c.args.out.now) (K.written c.loop-passed.out) (K.written c.print_leaf.new.out) c.loop-passed.text.items c.loop-passed.passed (get_or pages at [])
          (next_page way pages c.leaves-count.result c.loop-passed.passed at same c.loop-passed-test.true c.place_on-i.ensures.is there)
          (i.left h whole spoilt pages has count) failed fault c.in-Err.end
          (cut_wider (Rose (K.fault_count c.loop-passed.out) (K.fault_count c.print_leaf.new.out)) failed (Rose (D.faults c.loop-passed.disk) (D.faults c.print_leaf.new.disk)) fault _ _ _ c.in-Err.end
          (λ rose. rose_before (K.fault_count c.args.out.now) (K.fault_count c.loop-passed.out) (K.fault_count c.print_leaf.new.out) i.later rose)
          (λ rose. rose_before (D.faults c.args.disk.now) (D.faults c.loop-passed.disk) (D.faults c.print_leaf.new.disk) i.looked.count rose) cut)))
      | inr (place, want, found, is, leaf, took) ↦ inr (leaf_ended (D.seen c.args.disk.now) c.args.reader.now c.args.place at c.args.manner.form way c.args.head.items pages c.loop-passed.passed (K.written c.args.out.now) (K.written c.loop-passed.out) (K.written c.print_leaf.new.out) c.loop-passed.text.items place want found c.in-Err.end
          (omega (arith, same, c.loop-passed-test.true)) (c.place_on-i.ensures.is ∙ ap (λ (n : ℕ). place_on way n c.loop-passed.passed) (sym same)) (i.left h whole spoilt pages has count)
          (subst (λ (l : List ℕ). HasNoLeaf l c.args.reader.now c.args.place at place want found) i.looked.content leaf) took (same_end c.in-Err.end (Stopped (Corrupt place want found)) is))
    ]

pub returns-in-Err-clause-sound : goal.returns-in-Err-clause-sound
returns-in-Err-clause-sound g c =
    let K = g.K.Sink in
    let D = g.D.Disk in
    let i = c.loop-passed.invariant in
    sound_further D (Rose (K.fault_count c.loop-passed.out) (K.fault_count c.print_leaf.new.out)) (Rose (K.fault_count c.args.out.now) (K.fault_count c.print_leaf.new.out)) c.args.disk.now c.loop-passed.disk c.print_leaf.new.disk c.in-Err.end i.looked
    (λ rose. rose_before (K.fault_count c.args.out.now) (K.fault_count c.loop-passed.out) (K.fault_count c.print_leaf.new.out) i.later rose) c.in-Err.ensures.sound

pub returns-in-Err-clause-looked : goal.returns-in-Err-clause-looked
returns-in-Err-clause-looked g c = looked_then g.D.Disk c.args.disk.now c.loop-passed.disk c.print_leaf.new.disk c.loop-passed.invariant.looked c.print_leaf.ensures.looked

pub returns-in-Err-clause-home : goal.returns-in-Err-clause-home
returns-in-Err-clause-home g c = c.print_leaf.ensures.home ∙ c.loop-passed.invariant.home

pub returns-clause-run : goal.returns-clause-run
returns-clause-run g c h whole spoilt pages has count =
    let K = g.K.Sink in
    let D = g.D.Disk in
    let i = c.loop-passed.invariant in
    let way = way_of c.args.manner.reverse in
    let failed = Rose (K.fault_count c.args.out.now) (K.fault_count c.print_rest.new.out) in
    let fault = Rose (D.faults c.args.disk.now) (D.faults c.loop-passed.disk) in
    inl (left_ends failed fault (K.written c.args.out.now) (K.written c.loop-passed.out) (K.written c.print_rest.new.out) c.loop-passed.text.items _ c.print_rest.result
    (last_left (λ page. put_rows (along way page)) c.args.manner.form (along way pages) c.args.head.items (K.written c.args.out.now) (K.written c.loop-passed.out) c.loop-passed.text.items c.loop-passed.passed
    (omega (arith, c.loop-passed-test.false, along_length way pages, c.leaves-count.ensures, count)) (i.left h whole spoilt pages has count))
    (ends_wider (Rose (K.fault_count c.loop-passed.out) (K.fault_count c.print_rest.new.out)) failed ⊥ fault _ _ _ c.print_rest.result
    (λ rose. rose_before (K.fault_count c.args.out.now) (K.fault_count c.loop-passed.out) (K.fault_count c.print_rest.new.out) i.later rose) (λ no. absurd no)
    (subst (λ (l : List ℕ). EndsBy (Rose (K.fault_count c.loop-passed.out) (K.fault_count c.print_rest.new.out)) ⊥ (K.written c.loop-passed.out) (K.written c.print_rest.new.out) l c.print_rest.result) c.deref.ensures.value c.print_rest.ensures.printed)))

pub returns-clause-sound : goal.returns-clause-sound
returns-clause-sound g c =
    let K = g.K.Sink in
    let D = g.D.Disk in
    sound_wider (Rose (K.fault_count c.loop-passed.out) (K.fault_count c.print_rest.new.out)) (Rose (K.fault_count c.args.out.now) (K.fault_count c.print_rest.new.out)) ⊥ (Rose (D.faults c.args.disk.now) (D.faults c.loop-passed.disk)) _ _ c.print_rest.result
    (λ rose. rose_before (K.fault_count c.args.out.now) (K.fault_count c.loop-passed.out) (K.fault_count c.print_rest.new.out) c.loop-passed.invariant.later rose) (λ no. absurd no)
    (ends_sound (Rose (K.fault_count c.loop-passed.out) (K.fault_count c.print_rest.new.out)) ⊥ (IsTrue (D.honest c.args.disk.now)) (D.seen c.args.disk.now) (K.written c.loop-passed.out) (K.written c.print_rest.new.out) c.deref.result.now c.print_rest.result c.print_rest.ensures.printed)

pub returns-clause-looked : goal.returns-clause-looked
returns-clause-looked g c = c.loop-passed.invariant.looked

pub returns-clause-home : goal.returns-clause-home
returns-clause-home g c = c.loop-passed.invariant.home
