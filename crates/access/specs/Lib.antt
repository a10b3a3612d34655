-- What every block shares.
--     Answer     meaning: the table of numbers given back, with its column "left"
--     Checks     meaning: the order of the checks
--     Request    meaning: what a register access gives
--     Kind       meaning: compartments, the kinds of asking, the bits of a rights word
--     Bus        meaning: the asking as a bus hears it
--     Fold       some and every number below a count
--     Offset     an offset between two others
pub mod Answer
pub mod Bus
pub mod Checks
pub mod Fold
pub mod Kind
pub mod Offset
pub mod Request
