use Rattle.update_chain.specs.Updates.{covers_at}
use Rattle.update_chain.proofs.ChainLemmas.{lost-below}
use Rattle.update_chain.proofs.trims_lose_covered.Goals as goal

pub returns : goal.returns
returns c = λ pin floor chain. lost-below (covers_at pin floor) chain
