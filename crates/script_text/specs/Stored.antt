-- The items of a call, as a table stores them.
use Rattle.std.specs.Prelude.{ℕ, List, Option, Some, None}
use Rattle.item.specs.declared.formats.Formats.{Formats}
use Rattle.wt_calls.specs.declared.session_call.SessionCall.{SessionCall}
use Rattle.wt_calls.specs.declared.session_call.SessionCall.TheVariants.{Begin, Get, Put, Remove, Seek, Step, Reset, Prepare, Commit, Rollback}
use Rattle.wt_calls.specs.declared.system_call.SystemCall.{SystemCall}
use Rattle.wt_calls.specs.declared.system_call.SystemCall.TheVariants.{Create, SetStamps, RollbackToStable, StartCheckpoint, StepCheckpoint, FinishCheckpoint, Evict, Close}
use Rattle.wt_calls.specs.declared.call.Call.{Call}
use Rattle.wt_calls.specs.declared.call.Call.TheVariants.{Session, System}
use Rattle.item_forms.specs.Forms.{stored_as}

abbrev pub table_of_session : SessionCall → Option (List ℕ)
table_of_session (Get table key) = Some table
table_of_session (Put table key value demand) = Some table
table_of_session (Remove table key) = Some table
table_of_session (Seek cursor table key) = Some table
table_of_session (Step cursor table way) = Some table
table_of_session (Begin read) = None
table_of_session (Reset cursor) = None
table_of_session (Prepare stamp) = None
table_of_session (Commit commit durable) = None
table_of_session Rollback = None

abbrev pub table_of_system : SystemCall → Option (List ℕ)
table_of_system (Evict table key) = Some table
table_of_system (Create table formats) = None
table_of_system (SetStamps oldest stable) = None
table_of_system RollbackToStable = None
table_of_system StartCheckpoint = None
table_of_system StepCheckpoint = None
table_of_system FinishCheckpoint = None
table_of_system Close = None

-- the table whose formats the call's items have
abbrev pub table_of_items : Call → Option (List ℕ)
table_of_items (Session n call) = table_of_session call
table_of_items (System n call) = table_of_system call

abbrev pub stored_session : Formats → SessionCall → SessionCall
stored_session formats (Get table key) = Get table (stored_as formats.key key)
stored_session formats (Put table key value demand) = Put table (stored_as formats.key key) (stored_as formats.value value) demand
stored_session formats (Remove table key) = Remove table (stored_as formats.key key)
stored_session formats (Seek cursor table key) = Seek cursor table (stored_as formats.key key)
stored_session formats (Step cursor table way) = Step cursor table way
stored_session formats (Begin read) = Begin read
stored_session formats (Reset cursor) = Reset cursor
stored_session formats (Prepare stamp) = Prepare stamp
stored_session formats (Commit commit durable) = Commit commit durable
stored_session formats Rollback = Rollback

abbrev pub stored_system : Formats → SystemCall → SystemCall
stored_system formats (Evict table key) = Evict table (stored_as formats.key key)
stored_system formats (Create table its) = Create table its
stored_system formats (SetStamps oldest stable) = SetStamps oldest stable
stored_system formats RollbackToStable = RollbackToStable
stored_system formats StartCheckpoint = StartCheckpoint
stored_system formats StepCheckpoint = StepCheckpoint
stored_system formats FinishCheckpoint = FinishCheckpoint
stored_system formats Close = Close

-- the call with its items as a table of the formats stores them
abbrev pub stored_call : Formats → Call → Call
stored_call formats (Session n call) = Session n (stored_session formats call)
stored_call formats (System n call) = System n (stored_system formats call)
