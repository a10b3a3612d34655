-- Maps over any rights function, which gives a rights word for each offset, below any window.
--     Rows      rows, and rows as numbers in memory
--     Map       what a map is, and the map of a rights function
--     Lookup    the row that a lookup finds, and where it begins; Passed is what code goes by
--     Put       what one more span changes in memory
--     Sweep     a map worked out from boundaries: for proofs and worked examples
pub mod Rows
pub mod Map
pub mod Lookup
pub mod Passed
pub mod Put
pub mod Sweep
