pub mod AheadLaws
pub mod Answered
pub mod GapLaws
pub mod InsertLaws
pub mod LayLaws
pub mod LayOutLaws
pub mod Unique
pub mod WalkLaws
