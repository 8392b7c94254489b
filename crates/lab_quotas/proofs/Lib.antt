pub mod LabLaws
pub mod GatherLaws
pub mod MarkLaws
pub mod JointLaws
