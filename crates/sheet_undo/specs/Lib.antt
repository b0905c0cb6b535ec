pub mod Found
pub mod Undoing
pub mod UndoLaws
