pub mod Words
pub mod Pages
pub mod Headers
pub mod Images
pub mod Answers
pub mod Views
