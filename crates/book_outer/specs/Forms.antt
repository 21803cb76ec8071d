-- What the code is proved by and no public contract cites.
pub mod Store
