pub mod ZeroLaws
pub mod JoinLaws
pub mod EntryLaws
