pub mod Histories
pub mod ChunkParts
pub mod Heads
pub mod PlaceParts
pub mod RequestHeads
