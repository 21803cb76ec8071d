pub mod Cause
pub mod Files
pub mod Folder
pub mod Sink
pub mod State
pub mod Host
pub mod Memory
pub mod Forms
