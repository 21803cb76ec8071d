pub mod Command
pub mod Request
pub mod Asked
pub mod Forms
