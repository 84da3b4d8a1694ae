mod Fitting
mod Sorting
mod ByLeaf
mod KeptRecords
mod OpenedRows
mod ReadRecords
