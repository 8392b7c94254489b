pub mod Printed
pub mod Paired
pub mod BoundsLaws
pub mod Examples
pub mod Applied
