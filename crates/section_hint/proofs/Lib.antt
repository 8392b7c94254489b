pub mod HintLaws
