mod Numbered
mod Marks
mod Marking
mod Theirs
pub mod Reversed
mod Checked
mod Agreeing
pub mod Wholes
mod Faulted
mod Gathered
pub mod Rising
mod Finished
