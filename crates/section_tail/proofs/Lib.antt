pub mod TailLaws
pub mod CallLaws
pub mod ItemLaws
pub mod UpsertLaws
pub mod AddLaws
