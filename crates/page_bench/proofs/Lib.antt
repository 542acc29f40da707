pub mod AllTaken
