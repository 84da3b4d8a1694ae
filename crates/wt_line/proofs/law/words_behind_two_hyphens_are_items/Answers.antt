use Rattle.wt_line.proofs.PlainWords.{create_behind, dump_behind, read_dashed, verify_behind, write_dashed}
use Rattle.wt_line.proofs.law.words_behind_two_hyphens_are_items.Goals as goal

pub returns-clause-create : goal.returns-clause-create
returns-clause-create c = create_behind

pub returns-clause-verify : goal.returns-clause-verify
returns-clause-verify c = verify_behind

pub returns-clause-write : goal.returns-clause-write
returns-clause-write c = write_dashed

pub returns-clause-read : goal.returns-clause-read
returns-clause-read c = read_dashed

pub returns-clause-dump : goal.returns-clause-dump
returns-clause-dump c = dump_behind
