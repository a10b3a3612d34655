-- What a line of a script does and prints: document 01, "The map".
--     Response    meaning: the text and the state that a line leaves, and where there is room for it
--     Sheet       meaning: the sheet of a map
pub mod Response
pub mod Sheet
