pub mod StateLaws
pub mod ItemLaws
pub mod OtherLaws
