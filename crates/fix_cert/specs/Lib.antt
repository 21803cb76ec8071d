pub mod Verdict
pub mod Forms
