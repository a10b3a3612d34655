-- Answers and maps as text. Meaning, which renders document 01, "The map", from "Each event prints .." on:
--     Bytes       text as bytes
--     Print       the lines: `ans`, `guard`, `span`, `diff`, `end`, `bad`, and the digits of their numbers
--     Writing     what a buffer holds with a line written into it, and the next place; without room, nothing changes
--     Examples    the whole output of the document's sample
-- What only code and proofs go by:
--     Parts       a part of a line written where there is room for it
pub mod Bytes
pub mod Examples
pub mod Parts
pub mod Print
pub mod Writing
