-- What the answer of a read says.
use Rattle.update_chain.specs.declared.look.Read.{Read}
use Rattle.update_chain.specs.declared.look.Read.TheVariants.{Found, Removed, Conflict, Older}
use Rattle.update_chain.specs.Updates.{Reply, Gives, IsRemoved, Conflicts, IsOlder}

abbrev pub reply_in : Read → Reply
reply_in (Found value) = Gives value.now
reply_in Removed = IsRemoved
reply_in (Conflict id) = Conflicts id
reply_in Older = IsOlder
