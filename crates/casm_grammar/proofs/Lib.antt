pub mod WorkedLines
pub mod Runs
pub mod RunLaws
pub mod Links
pub mod LineLaws
