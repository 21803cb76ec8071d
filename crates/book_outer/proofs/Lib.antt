mod Entries
mod Pieces
mod Stored
