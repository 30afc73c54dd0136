pub mod NumberWords
pub mod FormLists
pub mod CallLaws
