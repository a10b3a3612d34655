-- The laws of reading. For users of the crate:
--     RoundTrips    a printed number reads back: hex-back, decimal-back
-- The others serve the proofs of functions: Places (where fields lie), Fixed (fields of a fixed length), Readings (the fields of a line read one
-- after the other), Begins and Keywords (a line by its keyword, four bytes compared at once), Same (bytes compared), DecimalAt (digits read one by
-- one), Packed, HexWord and Gathered (eight digits read at once), Told (what a reading says).
pub mod Begins
pub mod DecimalAt
pub mod Fixed
pub mod Gathered
pub mod HexWord
pub mod Keywords
pub mod Packed
pub mod Places
pub mod Readings
pub mod RoundTrips
pub mod Same
pub mod Told
