pub mod AddLaws
pub mod StandLaws
pub mod PartLaws
pub mod RestLaws
pub mod WalkLaws
pub mod EndLaws
