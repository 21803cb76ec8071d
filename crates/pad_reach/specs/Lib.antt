pub mod Chain
pub mod Forms
pub mod Reaches
pub mod Refusal
