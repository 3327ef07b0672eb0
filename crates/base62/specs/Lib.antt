-- Callers need not read Tables, Parts, or what Fixed says of writing. Only private contracts use
-- these, and the model of Alphabet uses Tables.
pub mod Alphabet
pub mod Tables
pub mod Places
pub mod Value
pub mod Canonical
pub mod Fixed
pub mod Decoding
pub mod Parts
pub mod Encoding
pub mod Steps
pub mod Fault
pub mod Padding
pub mod Case
pub mod Laws
pub mod Order
pub mod Uuid
pub mod UuidString
pub mod Range
pub mod Key
