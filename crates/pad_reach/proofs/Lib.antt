mod Chains
mod Entries
mod LayingOut
mod Searching
