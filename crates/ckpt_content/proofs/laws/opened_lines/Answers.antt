use Rattle.ckpt_content.proofs.OpenedKeys.{opened_lines, opened_lists}
use Rattle.ckpt_content.proofs.OpenedStands.{kept_are_below, opened_keys_stand}
use Rattle.ckpt_content.proofs.laws.opened_lines.Goals as goal

pub returns-clause-lines : goal.returns-clause-lines
returns-clause-lines c = opened_lines

pub returns-clause-lists : goal.returns-clause-lists
returns-clause-lists c = opened_lists

pub returns-clause-below : goal.returns-clause-below
returns-clause-below c = kept_are_below

pub returns-clause-stand : goal.returns-clause-stand
returns-clause-stand c = opened_keys_stand
