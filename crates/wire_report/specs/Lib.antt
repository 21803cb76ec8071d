pub mod Wire
pub mod Rectangles
pub mod Report
pub mod Forms
