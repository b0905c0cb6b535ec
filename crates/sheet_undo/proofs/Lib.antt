mod FindLemmas
mod FollowLemmas
mod InverseLemmas
mod PlaceLemmas
mod ShareLemmas
pub mod UndoLemmas
