-- The map of a guard.
--     Map       the rows of a guard's map
--     Fill      the map in lent numbers
--     Part      the used part of lent numbers
--     Demand    demand 3: what holds of a whole map
--     Sheets    the mission's sentence on two like sheets
--     Bounds    boundaries of a guard's rights: for proofs and worked examples
pub mod Bounds
pub mod Demand
pub mod Fill
pub mod Map
pub mod Part
pub mod Sheets
