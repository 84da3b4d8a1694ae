pub mod Quiet
pub mod WholeCalls
pub mod StepCalls
pub mod Ordinary
pub mod Members
pub mod Mapped
pub mod Told
mod Places
pub mod ByPlace
pub mod ByName
mod FirstTables
pub mod CapturesBefore
mod WholeCells
pub mod ServingCells
pub mod RecordsFit
pub mod Frees
pub mod Cells
pub mod Lones
mod SettledCells
mod Left
pub mod Pairs
pub mod OldTrees
pub mod Moving
pub mod Within
pub mod OneTree
pub mod Made
mod HistoryOrder
mod Bodies
pub mod Putting
pub mod Standing
pub mod Past
pub mod LookedAt
pub mod Starting
pub mod Concluding
mod WholeTaken
mod Startings
pub mod OrderedByName
mod PlacedTrees
mod HalfCells
mod Goings
mod GoingLinks
mod GoingRuns
mod GoingOnce
mod GoingFails
mod GoingHalves
mod GoingByLeaves
mod GoingMore
mod GoingEnds
pub mod Then
pub mod Floors
mod CleanTrees
mod Below
mod Following
pub mod WithParts
pub mod TableLeaves
pub mod LowKeys
pub mod PartRows
pub mod Links
pub mod Apart
pub mod Behind
pub mod KnownRooms
pub mod KeptLists
pub mod KeptGround
pub mod MovedApart
mod LonesIn
pub mod NewParts
pub mod EntryKeys
pub mod LeafSteps
mod LettingGo
mod LoadedLeaves
pub mod RowNewest
mod LeafCells
mod TakenLeaves
mod DraftingMore
mod LeafWrites
mod OldParts
mod LeafImages
mod LeavesNow
mod StillTrees
mod LeafTaken
mod RowsByLink
mod CapturedOrder
mod OnlyBooks
mod OwnBlocks
mod FinishedTrees
mod TableParts
mod StillTables
mod WrittenTables
mod LeafNoted
pub mod GoingLeaves
pub mod Staying
mod LivesGoOn
mod LeadingLeaves
mod PartNames
mod PartRooms
mod KeptPlaces
mod Ascending
pub mod NextLeaf
mod GivingFollows
mod GivingGround
mod GivingLeaves
mod GivingParts
mod GivingShelf
pub mod GivingWay
mod MadeParts
pub mod NewestTrees
mod PartStamps
mod EntryImages
mod UnderMade
mod InPlace
mod LonesMore
mod LonesPut
mod HeldLives
mod LowUnder
mod OutCuts
mod OutLives
mod OutShelf
mod OutParts
mod OutFollows
mod OutBlocks
mod DeadLones
mod OldBlocks
mod OutWay
mod OutSteps
mod OutEnds
mod LedNewest
mod OutConcluding
mod LedOut
mod LedLives
mod LedWay
mod LedSteps
mod LedEnds
mod EmptyLeaves
mod LedEmpty
mod PlacedTables
mod FirstOnes
mod Turned
mod OtherLives
mod OthersStay
mod SeenBefore
mod MomentsNow
mod GatheredHistory
mod RunningTables
mod OthersFollow
