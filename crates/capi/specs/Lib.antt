-- Calls from C.
--     Events     meaning: the events that a call asks for, their answers and states
--     Numbers    meaning: what a number of a call stands for
pub mod Events
pub mod Numbers
