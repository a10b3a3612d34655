-- The whole device.
--     State      meaning: the state, and reset
--     Step       meaning: what an event answers and leaves; demand 2
--     Run        meaning: events one after the other
--     Locks      meaning: the locks there are, and the settings
--     Refusals   meaning: what a refusal with 1 leaves
--     Reasons    meaning: why an access is refused
--     Masters    meaning: a master's access as a memory access
--     Applied    meaning: an event on lent memory
--     Encoded    meaning: the memory access that a call asks for
--     Layout     meaning: the state's memory, part by part
--     Named      meaning: which bits of the state's memory are named
pub mod Applied
pub mod Encoded
pub mod Layout
pub mod Locks
pub mod Masters
pub mod Named
pub mod Reasons
pub mod Refusals
pub mod Run
pub mod State
pub mod Step
