mod Taking
mod Passing
mod Taken
mod Answering
mod One
mod Stems
mod Reading
