-- What a run leaves, and its text.
pub mod NotesView
pub mod RunView
pub mod Words
pub mod NoteText
pub mod EventText
pub mod RunText
pub mod NotedText
pub mod Kept
