pub mod HitLaws
pub mod Lines
pub mod TotalsLaws
pub mod Examples
