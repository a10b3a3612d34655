-- The illegal access controller IAC: document 01, "IAC".
--     Registers    meaning: which register an offset is, and the table of registers
--     Contents     meaning: what is stored, and reset
--     Port         meaning: a register access; accessed and read_answer are what code goes by, and device/proofs/BlockSteps has the laws that they are stepped
--     Flags        meaning: raising a flag, and what the interrupt line should be
--     Held         meaning: the line and the count of flags set and enabled, as they are kept (Q-4)
--     Kept         meaning: the words in which the theorems speak of the two (Q-4)
--     OneWord      what the code of the line and the count goes by; proofs/HeldAt has the laws that it is Held
pub mod Contents
pub mod Flags
pub mod Held
pub mod Kept
pub mod OneWord
pub mod Port
pub mod Registers
