-- The bits of a word.
--     Bit         meaning: bits, fields and masks of a number
--     Six         meaning: a bit of several words
--     Examples    the same, computed
pub mod Bit
pub mod Examples
pub mod Six
