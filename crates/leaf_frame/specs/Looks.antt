-- How a view looks at what a leaf holds of a key.
use Rattle.std.specs.Prelude.{ℕ, Bool, not, ◌&&◌, ◌==◌, List, Option, Some, None, if◌then◌else◌}
use Rattle.item.specs.declared.Change.{Change}
use Rattle.stamp.specs.declared.Name.{Name}
use Rattle.stamp.specs.declared.Version.{Version}
use Rattle.stamp.specs.declared.View.{View}
use Rattle.kv_model.specs.History.{reads_at}
use Rattle.snapshot.specs.Sight.{is_seen, sight_of}
use Rattle.row_page.specs.declared.cell.Cell.{Cell}
use Rattle.row_page.specs.Changes.{version_in}
use Rattle.row_page.specs.Views.{row_seen}
use Rattle.reconcile.specs.Shows.{shown_at}
use Rattle.update_chain.specs.declared.look.Judgement.{Judgement}
use Rattle.update_chain.specs.declared.update.Update.{Update}
use Rattle.update_chain.specs.Updates.{Reply, Gives, IsRemoved, Conflicts, IsOlder, read_of, reply_of}
use Rattle.update_chain.specs.Writing.{judgement_to, newest_of}
use Rattle.leaf_chains.specs.Slots.{chain_at}
use Rattle.leaf_frame.specs.declared.look.FrameRead.{FrameRead}
use Rattle.leaf_frame.specs.declared.look.FrameRead.TheVariants.{Found, Removed, Conflict, Older}
use Rattle.leaf_frame.specs.Leaf.{HeldLeaf}

-- what the answer of a read says
abbrev pub reply_in : FrameRead → Reply
reply_in (Found value) = Gives value.now
reply_in Removed = IsRemoved
reply_in (Conflict id) = Conflicts id
reply_in Older = IsOlder

-- the version of a lent row
abbrev pub version_seen : Cell → Version Change
version_seen c = version_in (row_seen c).1

-- the snapshot sees the version, and the read stamp admits it
abbrev pub is_admitted : View → Version Change → Bool
is_admitted view v = is_seen (sight_of view) v.window.name && reads_at view.read v.window.commit

-- the name is that of the transaction that lends the view
abbrev pub is_own_name : View → Name → Bool
is_own_name view name = not (view.own == 0) && (name.run == view.run && (name.id == view.own))

-- what the row of a key answers, where there is one
abbrev pub reply_by_row : View → Option (Version Change) → Reply
reply_by_row view None = IsOlder
reply_by_row view (Some v) = if is_admitted view v then reply_of v.change else IsOlder

-- what lies above answers, or else what lies below
abbrev pub or_below : Reply → Reply → Reply
or_below (Gives value) below = Gives value
or_below IsRemoved below = IsRemoved
or_below (Conflicts id) below = Conflicts id
or_below IsOlder below = below

-- what a read answers by a chain and the row below it
abbrev pub read_held : View → List Update → Option (Version Change) → Reply
read_held view chain row = or_below (read_of view chain) (reply_by_row view row)

-- of a key of a leaf
abbrev pub read_at : View → List ℕ → HeldLeaf → Reply
read_at view key leaf = read_held view (chain_at key leaf.chains) (shown_at key leaf.page)

-- whether a write of the key is allowed, by the newest update, or else by the row
abbrev pub judgement_at : View → List ℕ → HeldLeaf → Judgement
judgement_at view key leaf = judgement_to view (newest_of (chain_at key leaf.chains) (shown_at key leaf.page))
