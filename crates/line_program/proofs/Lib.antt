pub mod Sending
pub mod Parsing
pub mod Views
pub mod Replying
pub mod Digits
pub mod Listing
pub mod Serving
pub mod Stepping
pub mod Ending
mod Splitting
mod RoundTrips
