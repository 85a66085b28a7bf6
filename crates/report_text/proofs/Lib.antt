pub mod LineLaws
pub mod WordLaws
pub mod TokenLaws
pub mod Runs
pub mod Lines
pub mod AnswerWords
pub mod CleanLines
pub mod OneReading
