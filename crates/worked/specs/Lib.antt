-- The worked examples of document 01.
--     Example     meaning: what an example is, and when it comes out right
--     Examples    meaning: the examples themselves, in the document's order
--     Readings    meaning: the document's wrong readings, each shut out by events
pub mod Example
pub mod Examples
pub mod Readings
