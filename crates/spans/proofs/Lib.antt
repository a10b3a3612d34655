-- The laws of maps. For users of the crate:
--     Maps         the map of f is a map: map-is-map, map-in-memory; and there is no other: is-the-map
--     Canonical    two maps are equal exactly where their rights functions agree
--     Found        what a lookup finds in a map: lookup-finds, lookup-past; and where: at_place, whole_row
--     Memory       rows as numbers, and rows over the front of numbers: filled-front, filled-rest, filled-length
--     Steady       functions that change only at boundaries: Steady, steady-pairs
--     Sweep        the map worked out from boundaries: swept-is-map; how many rows it has at most: rows-most; a turn that goes further: Turn
--     Fill         a sweep into memory, as a loop's invariant: Swept, swept-begin, swept-turn, swept-end
--     Example      a map found by computing
-- The others serve these: Order (cases), Joined (one more span), Unique (a map said of rows), Added (one more span in memory), Bounds (the next boundary, and how many lie above an offset).
pub mod Order
pub mod Joined
pub mod Unique
pub mod Memory
pub mod Maps
pub mod Canonical
pub mod Found
pub mod Added
pub mod Steady
pub mod Bounds
pub mod Sweep
pub mod Fill
pub mod Example
