pub mod CombineLaws
