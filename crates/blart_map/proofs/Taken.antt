-- What walks that take pairs leave, and closures that choose.
pub mod Filtered
pub mod OnceExtracted
pub mod OnceTaken
pub mod Progress
