pub mod Encoding
pub mod Outcomes
pub mod Runs
pub mod WorkedRun
pub mod RefusedSteps
pub mod RefusedRuns
