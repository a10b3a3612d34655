-- A line of text as a command. Meaning, which renders document 01, "The map", from "The program starts from reset and reads lines" on:
--     Fields      a line's fields, parted by tabs, and the most bytes of a line
--     Numbers     what a field says: 8 hex digits, a decimal number, or a letter
--     Command     the lines: `reset`, `reg`, `per`, `mem`, `dma`, `map`; any other is bad
--     Examples    the document's sample read, and lines that are bad
-- What only code and proofs go by:
--     Places      where a line's fields start and end
--     Blocks      what a register line says behind its block
pub mod Blocks
pub mod Command
pub mod Examples
pub mod Fields
pub mod Numbers
pub mod Places
