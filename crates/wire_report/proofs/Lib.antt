mod Terminals
mod Extents
mod Spots
mod Decimals
mod Reporting
mod Adding
mod Smallest
