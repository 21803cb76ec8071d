pub mod Values
pub mod Rectangles
pub mod Runs
pub mod Clear
pub mod Ends
pub mod Forms
