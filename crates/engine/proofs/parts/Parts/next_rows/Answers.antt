use Rattle.std.proofs.Common.{◌≡◌, refl, ap, sym, List, [], get_or, inl, inr, subst}
use Rattle.std.specs.Prelude.{Some, slice_get}
use Rattle.std.proofs.Common.{ℕ}
use Rattle.std.proofs.lemmas.Option.{slice_get-get_or}
use Rattle.wt_code.specs.declared.refusals.Refusal.TheVariants as refusal
use Rattle.wt_calls.specs.Calls.{way_in}
use Rattle.call_steps.specs.State.{State, opened}
use Rattle.engine_world.specs.Laws.{with_session}
use Rattle.engine_world.specs.Stands.{Engine, Stands}
use Rattle.engine.specs.RowReads.{GivesNoRow, stands_at}
use Rattle.engine.specs.Sound.{Keeps}
use Rattle.engine.proofs.CursorsKept.{cursor-keeps}
use Rattle.engine.proofs.ReadingRows.{first-rests}
use Rattle.engine.proofs.RowReads.{rows-end, rows-read, rows-refused}
use Rattle.engine.proofs.parts.Parts.next_rows.Goals as goal

pub returns-in-Err-clause-refused : goal.returns-in-Err-clause-refused
returns-in-Err-clause-refused c = λ w name st of. rows-refused c.chains_go_on.ensures c.held_reads_stand.ensures c.args.self.now w c.args.session here st at name c.args.cursor c.args.table c.args.way of c.args.most c.read_rows.new.rows
    c.in-Err.refusal (c.in-Err.ensures.read here at) where
      here : State
      here = get_or c.args.self.now.sessions c.args.session opened

      at : slice_get c.args.self.now.sessions c.args.session ≡ Some here
      at = slice_get-get_or c.args.self.now.sessions c.args.session opened c.requires.open

pub returns-in-Err-stand_at-clause-refused : goal.returns-in-Err-stand_at-clause-refused
returns-in-Err-stand_at-clause-refused c = λ w name st of. rows-refused c.chains_go_on.ensures c.held_reads_stand.ensures c.args.self.now w c.args.session here st at name c.args.cursor c.args.table c.args.way of c.args.most c.read_rows.new.rows
    refusal.NoMemory (inr ((c.in_default.ensures.read here at).0, inr (inl refl))) where
      here : State
      here = get_or c.args.self.now.sessions c.args.session opened

      at : slice_get c.args.self.now.sessions c.args.session ≡ Some here
      at = slice_get-get_or c.args.self.now.sessions c.args.session opened c.requires.open

pub returns-clause-rows : goal.returns-clause-rows
returns-clause-rows c = λ w name st of.
    let read = rows-read c.chains_go_on.ensures c.held_reads_stand.ensures c.args.self.now w c.args.session here st at name c.args.cursor c.args.table c.args.way of c.args.most c.read_rows.new.rows (c.in_default.ensures.read here at) c.in-Some.ensures.0 row c.in-Some.ensures.1 in
    (read.0, read.1, subst (λ (x : Engine). Stands x read.0) (sym moved) read.2) where
      here : State
      here = get_or c.args.self.now.sessions c.args.session opened

      at : slice_get c.args.self.now.sessions c.args.session ≡ Some here
      at = slice_get-get_or c.args.self.now.sessions c.args.session opened c.requires.open

      row : List ℕ × List ℕ
      row = (c.in-Some.last.key.now, c.in-Some.last.value.now)

      moved : c.stand_at.new.self ≡ with_session c.args.self.now c.args.session (stands_at c.args.cursor c.args.table c.in-Some.last.key.now here)
      moved = c.in_default-stand_at.ensures.stands here at

pub returns-clause-all : goal.returns-clause-all
returns-clause-all c = λ w st less. subst (λ (x : Engine). GivesNoRow x c.args.session c.args.cursor c.args.table (way_in c.args.way)) (sym moved)
    (rows-end c.chains_go_on.ensures c.held_reads_stand.ensures c.args.self.now w c.args.session here st at c.args.cursor c.args.table c.args.way c.args.most c.read_rows.new.rows (c.in_default.ensures.read here at) c.in-Some.ensures.0 row c.in-Some.ensures.1 less) where
      here : State
      here = get_or c.args.self.now.sessions c.args.session opened

      at : slice_get c.args.self.now.sessions c.args.session ≡ Some here
      at = slice_get-get_or c.args.self.now.sessions c.args.session opened c.requires.open

      row : List ℕ × List ℕ
      row = (c.in-Some.last.key.now, c.in-Some.last.value.now)

      moved : c.stand_at.new.self ≡ with_session c.args.self.now c.args.session (stands_at c.args.cursor c.args.table c.in-Some.last.key.now here)
      moved = c.in_default-stand_at.ensures.stands here at

pub returns-clause-hub : goal.returns-clause-hub
returns-clause-hub c = ap (λ (x : Engine). x.hub) (c.in_default-stand_at.ensures.stands here at) where
  here : State
  here = get_or c.args.self.now.sessions c.args.session opened

  at : slice_get c.args.self.now.sessions c.args.session ≡ Some here
  at = slice_get-get_or c.args.self.now.sessions c.args.session opened c.requires.open

pub returns-clause-keeps : goal.returns-clause-keeps
returns-clause-keeps c = subst (λ (x : Engine). Keeps c.args.self.now x) (sym (c.in_default-stand_at.ensures.stands here at))
    (cursor-keeps c.args.self.now c.args.session here c.args.cursor c.args.table c.in-Some.last.key.now at (first-rests c.args.self.now.hub here [] (c.in_default.ensures.read here at).0)) where
      here : State
      here = get_or c.args.self.now.sessions c.args.session opened

      at : slice_get c.args.self.now.sessions c.args.session ≡ Some here
      at = slice_get-get_or c.args.self.now.sessions c.args.session opened c.requires.open
