-- The laws of a guard's map. For users of the crate:
--     Demand     demand 3: demand-3
--     Sheets     the mission's sentence on two like sheets: sheets
--     NamedMap   named bits decide the maps: named-map
--     Found      what a lookup in a map finds: finds, finds-own, finds-none
--     Used       the same of what `fill` leaves and of the part that is handed back
--     Steady     the map as computed from boundaries: rows-swept; its most rows: rows-most
-- The others serve these, and the code: Guards (the guards' numbers, shapes and places), Turns (a turn of the sweep), Made (the calls of
-- `fill`), Grants (the answers of `step`).
pub mod Guards
pub mod Steady
pub mod Turns
pub mod Made
pub mod Grants
pub mod Demand
pub mod Sheets
pub mod NamedMap
pub mod Found
pub mod Used
