-- A whole input, in blocks. Meaning, which renders document 01, "The map", from "The program starts from reset" on:
--     Transcript  the whole output of a whole input
--     Kept        what is kept between calls
--     Blocks      what a call does with a block
--     Calls       calls one after the other: what they took, and what was put out
-- What only code and proofs go by:
--     Feeds       where a line ends
--     Stands      a call that stands at a place
pub mod Blocks
pub mod Calls
pub mod Feeds
pub mod Kept
pub mod Stands
pub mod Transcript
