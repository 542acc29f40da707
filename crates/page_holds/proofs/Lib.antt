pub mod Courses
pub mod Kept
pub mod Left
mod RowCourses
mod RowEnds
mod RowRuns
pub mod RowsKept
