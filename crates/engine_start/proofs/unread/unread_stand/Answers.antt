use Rattle.engine_start.proofs.unread.unread_stand.Goals as goal

pub returns : goal.returns
returns c = λ m led content shelf records tables e apart parted unread is regular starts.
    c.engines_start.ensures content shelf records e regular (c.unread_begin.ensures m led content shelf records tables e apart parted unread is starts)
