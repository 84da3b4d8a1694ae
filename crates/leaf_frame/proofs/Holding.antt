-- What a leaf holds of each key.
use Rattle.std.proofs.Common.{◌≡◌, List, [], refl, ap}
use Rattle.std.proofs.lemmas.List.{append-nil}
use Rattle.reconcile.specs.Shows.{shown_at}
use Rattle.update_chain.specs.declared.update.Update.{Update}
use Rattle.update_chain.specs.Updates.{Reply, Gives, IsRemoved, Conflicts, IsOlder, read_of}
use Rattle.leaf_chains.specs.Slots.{chain_at}
use Rattle.leaf_chains.proofs.Changes.{changed_chain, held, kept_chain}
use Rattle.leaf_chains.proofs.Installs.{installs_change, installs_keep}
use Rattle.reconcile.specs.Held.{versions}
use Rattle.leaf_frame.specs.Leaf.{durable_under}
use Rattle.leaf_frame.specs.Looks.{or_below}
use Rattle.leaf_frame.specs.Laws.{ChangesChangeHeld, ChangesKeepHeld, EmptyPagesReadByChains, InstallsChangeHeld, InstallsKeepHeld}
use Rattle.leaf_frame.specs.Next.{held_of}

pub installs_change_held : InstallsChangeHeld
installs_change_held key u page slots = ap (λ (c : List Update). held_of c (shown_at key page)) (installs_change key u slots)

pub installs_keep_held : InstallsKeepHeld
installs_keep_held key other u page slots n = ap (λ (c : List Update). held_of c (shown_at other page)) (installs_keep key other u slots n)

pub changes_change_held : ChangesChangeHeld
changes_change_held key change page slots i e = ap (λ (c : List Update). held_of c (shown_at key page)) (changed_chain key change slots i e)

pub changes_keep_held : ChangesKeepHeld
changes_keep_held key other change page slots i e n = ap (λ (c : List Update). held_of c (shown_at other page)) (kept_chain key other change slots i e n)

-- ---- without rows

over_none : (reply : Reply) → or_below reply IsOlder ≡ reply
over_none (Gives value) = refl
over_none IsRemoved = refl
over_none (Conflicts id) = refl
over_none IsOlder = refl

pub empty_pages : EmptyPagesReadByChains
empty_pages view key slots = record {
  read = over_none (read_of view (chain_at key slots));
  judged = refl;
  held = append-nil (versions (chain_at key slots));
  durable = λ i e. ap (durable_under []) (held key slots i e);
}
