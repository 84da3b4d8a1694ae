-- Which call of the model each call is.
use Rattle.kv_model.specs.Decisions as asked
use Rattle.kv_model.specs.Rows as rows
use Rattle.kv_model.specs.Calls as model
use Rattle.wt_calls.specs.declared.demand.Demand.{Demand}
use Rattle.wt_calls.specs.declared.demand.Demand.TheVariants as demand
use Rattle.wt_calls.specs.declared.way.Way.{Way}
use Rattle.wt_calls.specs.declared.way.Way.TheVariants as way
use Rattle.wt_calls.specs.declared.session_call.SessionCall.{SessionCall}
use Rattle.wt_calls.specs.declared.session_call.SessionCall.TheVariants as session
use Rattle.wt_calls.specs.declared.system_call.SystemCall.{SystemCall}
use Rattle.wt_calls.specs.declared.system_call.SystemCall.TheVariants as system
use Rattle.wt_calls.specs.declared.call.Call.{Call}
use Rattle.wt_calls.specs.declared.call.Call.TheVariants as call

abbrev pub demand_in : Demand → asked.Demand
demand_in demand.Anything = asked.Anything
demand_in demand.Vacant = asked.Vacant
demand_in demand.Occupied = asked.Occupied

abbrev pub way_in : Way → rows.Way
way_in way.Up = rows.Up
way_in way.Down = rows.Down

abbrev pub session_call_in : SessionCall → model.Call
session_call_in (session.Begin read) = model.Begin read
session_call_in (session.Get table key) = model.GetKey table key
session_call_in (session.Put table key value demand) = model.PutKey table key value (demand_in demand)
session_call_in (session.Remove table key) = model.RemoveKey table key
session_call_in (session.Seek cursor table key) = model.SeekKey cursor table key
session_call_in (session.Step cursor table way) = model.NextRow cursor table (way_in way)
session_call_in (session.Reset cursor) = model.Reset cursor
session_call_in (session.Prepare stamp) = model.Prepare stamp
session_call_in (session.Commit commit durable) = model.Commit commit durable
session_call_in session.Rollback = model.Rollback

abbrev pub system_call_in : SystemCall → model.Call
system_call_in (system.Create table formats) = model.Create table formats
system_call_in (system.SetStamps oldest stable) = model.Set oldest stable
system_call_in system.RollbackToStable = model.Rts
system_call_in system.StartCheckpoint = model.CkptStart
system_call_in system.StepCheckpoint = model.CkptStep
system_call_in system.FinishCheckpoint = model.CkptFinish
system_call_in (system.Evict table key) = model.Evict table key
system_call_in system.Close = model.Close

abbrev pub actor_in : Call → model.Actor
actor_in (call.Session number made) = model.Session number
actor_in (call.System number made) = model.System number

abbrev pub call_in : Call → model.Call
call_in (call.Session number made) = session_call_in made
call_in (call.System number made) = system_call_in made
