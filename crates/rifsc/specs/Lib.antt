-- The controller RIFSC: document 01, "RIFSC".
--     Registers      meaning: which register an offset is, and the table of registers
--     Contents       meaning: what is stored, and reset
--     Port           meaning: a register access; accessed and read_answer are what code goes by, and device/proofs/BlockSteps has the laws that they are stepped
--     Peripherals    meaning: the peripheral filter
--     Masters        meaning: what a master carries
pub mod Contents
pub mod Masters
pub mod Peripherals
pub mod Port
pub mod Registers
