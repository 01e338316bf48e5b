-- Values worked out by hand, beside those of document 01: each definition agrees with them, at its edges above all.
-- Assumes nothing.
mod Sums
mod Answers
mod Tests
mod MaskFaults
mod Frames
mod Walks
mod Finishes
mod Layouts
mod Allocations
mod Obeyed
mod Loops
mod Lines
mod Calls
mod Replies
mod Examples
mod Signed
mod Carried
