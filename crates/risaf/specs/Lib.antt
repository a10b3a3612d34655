-- One memory guard: document 01, "Guards".
--     Guards       meaning: the table of guards
--     Contents     meaning: what is stored, where each word lies, and reset
--     Registers    meaning: which register an offset is
--     Rows         meaning: the table of registers; Placed is what code goes by
--     Port         meaning: a register access; read_answer is what code goes by, and read_is in proofs/PortLaws the law that it is answer_of
--     Memory       meaning: a memory access
pub mod Contents
pub mod Guards
pub mod Memory
pub mod Port
pub mod Registers
pub mod Rows
