mod DumpRuns
mod EscapeRuns
mod FinishedDumps
mod Joined
mod PlainLanes
mod Taking
mod TextLines
mod WrittenDumps
