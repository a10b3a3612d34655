-- What the regions of a guard grant.
--     Verdict   meaning: the numbers of rules and reasons
--     Words     meaning: where the words and bits of a region are
--     Rules     meaning: which rule governs an offset, and which of its tests fails first; document 01, "Which rule governs", and Q-5
--     Grants    meaning: what the rules grant, as document 01 says it; proofs/Granted has the law that this is "no test fails"
--     Rights    meaning: the rights word of an offset
--     Lent      meaning: the same over words that may be too few
--     Masks     what the code gathers of the regions
--     Admits    the tests, as the code makes them of that; proofs/AdmitsTests has the law that they are Rules
--     Ahead     what the code of a map goes by; proofs/Stay has the law that the rights stay up to there
--     Active    what the code of a map goes by; proofs/Inactive has the law that no other base region covers
pub mod Verdict
pub mod Words
pub mod Rules
pub mod Grants
pub mod Rights
pub mod Lent
pub mod Masks
pub mod Admits
pub mod Ahead
pub mod Active
