mod HandedOn
mod HintLists
mod StepsLeft
mod Inversions
mod Leaving
mod Placing
pub mod Completing
