-- What differs between two maps of one guard: document 02, Q-1.
-- Meaning:
--     Bits      the number of rights bits that differ
--     Rows      rows of five numbers, and rows as numbers in memory
--     Diff      what a result is, and the result of two rights functions
--     Lent      which lent numbers are a map, and the rights in them
--     Fill      the result in lent numbers, and the refusals
--     Demand    a result over the rules by which `step` answers
-- What only code and proofs go by:
--     Put       what one more span changes in memory, and the next row of a map
pub mod Bits
pub mod Demand
pub mod Diff
pub mod Fill
pub mod Lent
pub mod Put
pub mod Rows
