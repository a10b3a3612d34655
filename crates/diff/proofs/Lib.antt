-- The laws of what differs between two maps. For users of the crate:
--     Results      what differs has the record of a result: diff-is-diff, diff-in-memory; nothing else has it: is-the-diff, one-result; each offset in one row: one-row
--     MapTiles     which lent numbers are a map, by the record of spans: tiles-are
--     Used         the same of what `fill` leaves and of the part that is handed back
--     StateDiff    the maps of two states, over the answers of `step`: fill-of-states; they are taken: made-taken
--     Ones         the bits that differ, as the code counts them: ones-differ
-- The others serve these, and the code: Tests (what tests say), Joined (one more span), Unique (a result said of rows), Memory (rows as numbers),
-- Added (one more span in memory), Tiled (the tests of a map), Reached and Walked (the walk over two maps), Made (the calls of `fill`).
pub mod Tests
pub mod Ones
pub mod Joined
pub mod Unique
pub mod Memory
pub mod Results
pub mod Added
pub mod Tiled
pub mod Reached
pub mod Walked
pub mod Made
pub mod MapTiles
pub mod Used
pub mod StateDiff
