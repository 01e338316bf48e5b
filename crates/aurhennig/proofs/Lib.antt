pub mod CallLaws
pub mod LineFaults
pub mod NeverSix
pub mod OneAnswer
pub mod ReplyLaws
pub mod Told
