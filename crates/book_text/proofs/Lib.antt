pub mod Prefixes
pub mod Words
pub mod Places
pub mod TextLines
pub mod NextWord
pub mod NextLine
mod LineEnds
pub mod Digits
pub mod Powers
pub mod NumberWords
pub mod Reading
pub mod MicroValue
pub mod Exponents
pub mod Kept
pub mod Canonical
pub mod Spaced
pub mod Found
pub mod CanonicalWords
