-- Batches: document 01, "A batch is a lent list of memory access records".
--     Batch    meaning: what a batch answers and leaves
pub mod Batch
