pub mod CallLaws
pub mod QuotaLaws
pub mod Demand
