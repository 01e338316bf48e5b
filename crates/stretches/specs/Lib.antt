pub mod Cell
pub mod Small
