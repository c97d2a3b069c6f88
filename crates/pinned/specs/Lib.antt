-- bytes that say a number; an accepted answer
pub mod Parts
pub mod Answered
-- "File bytes", and a batch: parsed exactly if the bytes are those of what was parsed
pub mod Batch
pub mod Label
pub mod Trailer
pub mod Object
-- "Calls"
pub mod TableCalls
pub mod Read
pub mod Claims
pub mod Counts
pub mod Reopening
pub mod Write
pub mod Shards
pub mod Maintenance
-- demand 3: a delete told from an id never written
pub mod Deletes
-- request P6: the synced mark
pub mod Sync
-- request P7: plan, rewrite, and the nightly job
pub mod TwoCalls
