pub mod SlotLaws
pub mod KindLaws
pub mod DefaultLaws
pub mod RuleLaws
pub mod LoadLaws
