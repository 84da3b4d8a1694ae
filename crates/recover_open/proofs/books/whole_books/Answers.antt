use Rattle.std.proofs.Common.{◌∙◌, subst, List}
use Rattle.block_mgr.specs.declared.found.Found.{Found}
use Rattle.block_mgr.specs.Open.{AreStored}
use Rattle.device_leaf.specs.Openings.{HasBooks}
use Rattle.device_leaf.proofs.Opens.{ok_map, err_map}
use Rattle.recover_open.specs.Surveys.{RefusesBlocks}
use Rattle.recover_open.proofs.books.whole_books.Goals as goal

pub returns-in-Ok-clause-books : goal.returns-in-Ok-clause-books
returns-in-Ok-clause-books c = ok_map c.books_of.result c.books_of.ensures.books (λ s has. subst (λ (l : List Found). HasBooks l s) (c.deref.ensures.value ∙ c.in-Ok.ensures) has)

pub returns-in-Ok-clause-stored : goal.returns-in-Ok-clause-stored
returns-in-Ok-clause-stored c = ok_map c.books_of.result c.books_of.ensures.stored (λ s are. subst (λ (l : List Found). AreStored l c.args.len) (c.deref.ensures.value ∙ c.in-Ok.ensures) are)

pub returns-in-Ok-clause-err : goal.returns-in-Ok-clause-err
returns-in-Ok-clause-err c = err_map c.books_of.result c.books_of.ensures.err (λ e why. subst (λ (l : List Found). RefusesBlocks l c.args.len e) (c.deref.ensures.value ∙ c.in-Ok.ensures) why)
